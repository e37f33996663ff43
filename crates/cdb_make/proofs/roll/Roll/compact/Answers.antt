use Rattle.std.proofs.lemmas.Grind.{common_steps}
use Rattle.std.proofs.Common.{arith}
use Rattle.cdb_make.proofs.Words.{AreChained, AreNone, AreOf, IsFirstMarked, IsPicked, all_marks, get_or, marks_in, AreRising, AreSpans, Bool, List, Mark, Picked, ap, arith, common_steps, false, found_of, get_or_default, gone_of, head_size, is_gone, left, length, length-map, length-take-le, number, places_in, searched, searched_by, slice_index, subst, sym, take, take_at, true, ℕ, ◌+◌, ◌<◌, ◌∙◌, ◌≡◌, ◌≤◌}
use Rattle.cdb_make.proofs.Looking.{same_then}
use Rattle.cdb_make.proofs.Marking.{all_long, marks_full}
use Rattle.cdb_make.proofs.Spans.{rising_of, spans_of}
use Rattle.cdb_make.proofs.Linking.{chained_same}
use Rattle.cdb_make.proofs.Picking.{picks_none, left_front, stays_at, none_gone, none_found, left_number, end_left}
use Rattle.cdb_make.proofs.roll.Roll.compact.Goals.{After-compact_entries-kept, After-compact_marks}
use Rattle.cdb_make.proofs.roll.Roll.compact.Goals as goal

-- what goes is as it was
went : (g : _) (c : After-compact_marks g) → gone_of c.mark_all.new.self.marks.items ≡ gone_of (marks_in c.args.self.now)
went g c = ap gone_of c.mark_all.ensures.marks ∙ c.put_back.ensures.gone

-- as many are left as have a mark or none
few : (g : _) (c : After-compact_marks g) → (c.compact_entries-kept.result.count ≡ length c.truncate.new.self.items) × (c.first_gone-first.result ≤ length c.truncate.new.self.items)
few g c =
    let m = c.mark_all.new.self in
    let kept = c.compact_entries-kept in
    let long : length kept.new.hashes ≡ length m.hashes.items = omega (arith, kept.ensures.long, ap length c.deref_mut.ensures.value) in
    let is : kept.result.count ≡ length c.truncate.new.self.items = omega (arith, long, c.truncate.ensures.len, c.truncate.new.self.ok.0, m.hashes.ok.0, kept.ensures.within, m.paired) in
    (is, omega (arith, is, kept.ensures.past))

rest_long : (g : _) (c : After-compact_marks g) → length (all_marks (length c.truncate.new.self.items) c.compact_marks.new.marks.items) ≡ length c.truncate.new.self.items
rest_long g c = all_long (length c.truncate.new.self.items) c.compact_marks.new.marks.items (omega (arith, c.compact_marks.ensures.few, (few g c).1))

none_goes : (g : _) (c : After-compact_marks g) → AreNone (gone_of (all_marks (length c.truncate.new.self.items) c.compact_marks.new.marks.items))
none_goes g c = none_gone (all_marks (length c.truncate.new.self.items) c.compact_marks.new.marks.items) (length c.truncate.new.self.items) (rest_long g c) (λ k lt. c.compact_marks.ensures.stay (length c.truncate.new.self.items) k (few g c).1 lt)

none_is_found : (g : _) (c : After-compact_marks g) → AreNone (found_of (all_marks (length c.truncate.new.self.items) c.compact_marks.new.marks.items))
none_is_found g c = none_found (all_marks (length c.truncate.new.self.items) c.compact_marks.new.marks.items) (length c.truncate.new.self.items) (rest_long g c) (λ k lt. c.compact_marks.ensures.stay (length c.truncate.new.self.items) k (few g c).1 lt)

pub compact_entries-kept-requires-clause-spans : goal.compact_entries-kept-requires-clause-spans
compact_entries-kept-requires-clause-spans g c =
    let m = c.mark_all.new.self in
    subst (λ (v : ℕ). AreSpans v (places_in m.places) m.end) (sym c.head_size-start.ensures) (spans_of (head_size g.L.Width.WORD) m.end (places_in m.places) m.spans)

pub compact_marks-requires : goal.compact_marks-requires
compact_marks-requires g c = λ k lt.
    let m = c.mark_all.new.self in
    let full = marks_full m c.mark_all.ensures.marked in
    stays_at m.marks.items c.first_gone-first.result k (subst (λ (v : List Mark). IsFirstMarked (gone_of v) c.first_gone-first.result) full c.first_gone-first.ensures)
    (subst (λ (v : List Mark). AreNone (found_of v)) (sym c.mark_all.ensures.marks) c.put_back.ensures.found) lt

pub returns-clause-of : goal.returns-clause-of
returns-clause-of g c = λ sizes of.
    let w : ℕ = g.L.Width.WORD in
    let m = c.mark_all.new.self in
    let same = same_then c.args.self.now c.put_back.new.self m c.put_back.ensures.same c.mark_all.ensures.same in
    let kept = c.compact_entries-kept in
    let moved : AreOf (head_size w) (places_in m.places) m.end sizes = record { are = same.places ∙ of.are; ends = same.end ∙ of.ends } in
    let at : AreOf c.head_size-start.result (places_in m.places) m.end sizes = subst (λ (v : ℕ). AreOf v (places_in m.places) m.end sizes) (sym c.head_size-start.ensures) moved in
    let marks : left (gone_of c.deref-5.result.now) sizes ≡ left (gone_of (marks_in c.args.self.now)) sizes =
    ap (λ (v : List Mark). left (gone_of v) sizes) c.deref-5.ensures.value ∙ ap (λ (v : List Bool). left v sizes) (went g (goal.at.returns-clause-of g c).After-compact_marks) in
    subst (λ (v : List ℕ). AreOf (head_size w) (places_in c.truncate-2.new.self) kept.result.end v) marks
    (subst (λ (v : List ℕ). AreOf (head_size w) v kept.result.end (left (gone_of c.deref-5.result.now) sizes)) (sym c.truncate-2.ensures.places)
    (subst (λ (v : ℕ). AreOf v (take kept.result.count (places_in kept.new.places)) kept.result.end (left (gone_of c.deref-5.result.now) sizes)) c.head_size-start.ensures (kept.ensures.of sizes at)))

pub returns-clause-gone : goal.returns-clause-gone
returns-clause-gone g c = none_goes g (goal.at.returns-clause-gone g c).After-compact_marks

pub returns-clause-found : goal.returns-clause-found
returns-clause-found g c = none_is_found g (goal.at.returns-clause-found g c).After-compact_marks

pub invariant_of-self-clause-picked : goal.invariant_of-self-clause-picked
invariant_of-self-clause-picked g c = picks_none _ _ _ (gone_of (all_marks (length c.truncate.new.self.items) c.compact_marks.new.marks.items)) _ (none_goes g (goal.at.invariant_of-self-clause-picked g c).After-compact_marks) c.none-self.ensures.first c.none-self.ensures.count c.none-self.ensures.size

pub invariant_of-self-clause-spans : goal.invariant_of-self-clause-spans
invariant_of-self-clause-spans g c =
    let m = c.mark_all.new.self in
    let kept = c.compact_entries-kept in
    let spans = spans_of (head_size g.L.Width.WORD) m.end (places_in m.places) m.spans in
    let of : AreOf c.head_size-start.result (places_in m.places) m.end spans.sizes = subst (λ (v : ℕ). AreOf v (places_in m.places) m.end spans.sizes) (sym c.head_size-start.ensures) spans.of in
    subst (λ (v : List ℕ). AreRising (head_size g.L.Width.WORD) v kept.result.end) (sym c.truncate-2.ensures.places)
    (subst (λ (v : ℕ). AreRising v (take kept.result.count (places_in kept.new.places)) kept.result.end) c.head_size-start.ensures (rising_of (kept.ensures.of spans.sizes of)))

pub returns-clause-searched : goal.returns-clause-searched
returns-clause-searched g c =
    let m = c.mark_all.new.self in
    let kept = c.compact_entries-kept in
    let ms : List Bool = gone_of m.marks.items in
    let long : length kept.new.hashes ≡ m.hashes.len = omega (arith, kept.ensures.long, ap length c.deref_mut.ensures.value, m.hashes.ok.0) in
    let hashes : c.truncate.new.self.items ≡ left ms m.hashes.items =
    c.truncate.ensures.items ∙ ap (take kept.result.count) (take_at kept.new.hashes _ m.hashes.len long) ∙ kept.ensures.hashes
    ∙ ap (λ (v : List Mark). left (gone_of v) c.deref_mut.result.now) c.deref-5.ensures.value ∙ ap (left ms) c.deref_mut.ensures.value in
    let tags : searched_by m.tagged c.compact_tags.new.tags.items (left ms m.hashes.items) ≡ left ms (searched m) =
    subst (λ (v : List Mark). searched_by m.tagged c.compact_tags.new.tags.items (left (gone_of v) m.hashes.items) ≡ left (gone_of v) (searched m)) c.deref-4.ensures.value (c.compact_tags.ensures.left m.hashes.items) in
    ap (searched_by m.tagged c.compact_tags.new.tags.items) hashes ∙ tags ∙ ap (λ (v : List Bool). left v (searched m)) (went g (goal.at.returns-clause-searched g c).After-compact_marks) ∙ ap (left (gone_of (marks_in c.args.self.now))) (c.mark_all.ensures.same.searched ∙ c.put_back.ensures.same.searched)

pub invariant_of-self-clause-numbered : goal.invariant_of-self-clause-numbered
invariant_of-self-clause-numbered g c =
    let m = c.mark_all.new.self in
    let kept = c.compact_entries-kept in
    let ms : List Bool = gone_of m.marks.items in
    let long : length kept.new.hashes ≡ m.hashes.len = omega (arith, kept.ensures.long, ap length c.deref_mut.ensures.value, m.hashes.ok.0) in
    let hashes : c.truncate.new.self.items ≡ left ms m.hashes.items =
    c.truncate.ensures.items ∙ ap (take kept.result.count) (take_at kept.new.hashes _ m.hashes.len long) ∙ kept.ensures.hashes
    ∙ ap (λ (v : List Mark). left (gone_of v) c.deref_mut.result.now) c.deref-5.ensures.value ∙ ap (left ms) c.deref_mut.ensures.value in
    let tags : searched_by m.tagged c.compact_tags.new.tags.items (left ms m.hashes.items) ≡ left ms (searched m) =
    subst (λ (v : List Mark). searched_by m.tagged c.compact_tags.new.tags.items (left (gone_of v) m.hashes.items) ≡ left (gone_of v) (searched m)) c.deref-4.ensures.value (c.compact_tags.ensures.left m.hashes.items) in
    let many : length ms ≡ length m.hashes.items = length-map m.marks.items is_gone ∙ c.mark_all.ensures.marked in
    let all = ap (searched_by m.tagged c.compact_tags.new.tags.items) hashes ∙ tags in
    omega (arith, ap length all, left_number ms (searched m) (many ∙ sym m.numbered), left_number ms m.hashes.items many, m.numbered, ap length hashes)

pub invariant_of-self-clause-chained : goal.invariant_of-self-clause-chained
invariant_of-self-clause-chained g c =
    let m = c.mark_all.new.self in
    let s = c.cut.new.self in
    let kept = c.compact_entries-kept in
    let ms : List Bool = gone_of m.marks.items in
    let long : length kept.new.hashes ≡ m.hashes.len = omega (arith, kept.ensures.long, ap length c.deref_mut.ensures.value, m.hashes.ok.0) in
    let hashes : c.truncate.new.self.items ≡ left ms m.hashes.items =
    c.truncate.ensures.items ∙ ap (take kept.result.count) (take_at kept.new.hashes _ m.hashes.len long) ∙ kept.ensures.hashes
    ∙ ap (λ (v : List Mark). left (gone_of v) c.deref_mut.result.now) c.deref-5.ensures.value ∙ ap (left ms) c.deref_mut.ensures.value in
    let tags : searched_by m.tagged c.compact_tags.new.tags.items (left ms m.hashes.items) ≡ left ms (searched m) =
    subst (λ (v : List Mark). searched_by m.tagged c.compact_tags.new.tags.items (left (gone_of v) m.hashes.items) ≡ left (gone_of v) (searched m)) c.deref-4.ensures.value (c.compact_tags.ensures.left m.hashes.items) in
    let news : List ℕ = searched_by m.tagged c.compact_tags.new.tags.items c.truncate.new.self.items in
    let all : news ≡ left ms (searched m) = ap (searched_by m.tagged c.compact_tags.new.tags.items) hashes ∙ tags in
    let first : ℕ = c.first_gone-first.result in
    let many : length ms ≡ length m.hashes.items = length-map m.marks.items is_gone ∙ c.mark_all.ensures.marked in
    let same : length ms ≡ length (searched m) = many ∙ sym m.numbered in
    let numbers : c.searched-searched.result.now ≡ searched m = c.searched-searched.ensures ∙ ap (λ (v : List ℕ). searched_by m.tagged v c.deref-2.result.now) c.deref.ensures.value ∙ ap (searched_by m.tagged m.tags.items) c.deref-2.ensures.value in
    let chained : AreChained s.heads.items s.before.items (searched m) ms =
    subst (λ (v : List Mark). AreChained s.heads.items s.before.items (searched m) (gone_of v)) c.deref-3.ensures.value (subst (λ (v : List ℕ). AreChained s.heads.items s.before.items v (gone_of c.deref-3.result.now)) numbers c.cut.ensures.chained) in
    let q = (goal.at.invariant_of-self-clause-chained g c).After-compact_marks in
    let rest : List Mark = all_marks (length c.truncate.new.self.items) c.compact_marks.new.marks.items in
    let before : (k : ℕ) → k < first → get_or ms k true ≡ false = (subst (λ (v : List Mark). IsFirstMarked (gone_of v) first) (marks_full m c.mark_all.ensures.marked) c.first_gone-first.ensures).before in
    chained_same s.heads.items s.before.items (searched m) news ms (gone_of rest)
    (omega (arith, ap length all, left_number ms (searched m) same, left_number ms m.hashes.items many, m.numbered, ap length hashes, c.truncate.ensures.len, c.truncate.new.self.ok.0, kept.ensures.past, kept.ensures.within, c.cut.ensures.left, m.paired, m.hashes.ok.0, long))
    (λ k lt. ap (λ (v : List ℕ). slice_index v k) all ∙ left_front ms (searched m) first k 0 before (omega (arith, lt, c.cut.ensures.left)) same)
    (λ k lt.
    let low : k < first = omega (arith, lt, c.cut.ensures.left) in
    get_or_default (gone_of rest) k true false (omega (arith, low, (few g q).1, length-map rest is_gone, rest_long g q)) ∙ none_goes g q k ∙ sym (before k low))
    chained

pub invariant_of-self-clause-sought : goal.invariant_of-self-clause-sought
invariant_of-self-clause-sought g c = picks_none _ _ _ (found_of (all_marks (length c.truncate.new.self.items) c.compact_marks.new.marks.items)) _ (none_is_found g (goal.at.invariant_of-self-clause-sought g c).After-compact_marks) c.none-self-2.ensures.first c.none-self-2.ensures.count c.none-self-2.ensures.size

pub returns-clause-end : goal.returns-clause-end
returns-clause-end g c =
    let m = c.mark_all.new.self in
    let ms : List Bool = gone_of m.marks.items in
    let kept = c.compact_entries-kept in
    let spans = spans_of (head_size g.L.Width.WORD) m.end (places_in m.places) m.spans in
    let of : AreOf c.head_size-start.result (places_in m.places) m.end spans.sizes = subst (λ (v : ℕ). AreOf v (places_in m.places) m.end spans.sizes) (sym c.head_size-start.ensures) spans.of in
    let after : AreOf (head_size g.L.Width.WORD) (take kept.result.count (places_in kept.new.places)) kept.result.end (left ms spans.sizes) =
    subst (λ (v : List Mark). AreOf (head_size g.L.Width.WORD) (take kept.result.count (places_in kept.new.places)) kept.result.end (left (gone_of v) spans.sizes)) c.deref-5.ensures.value
    (subst (λ (v : ℕ). AreOf v (take kept.result.count (places_in kept.new.places)) kept.result.end (left (gone_of c.deref-5.result.now) spans.sizes)) c.head_size-start.ensures (kept.ensures.of spans.sizes of)) in
    let full = marks_full m c.mark_all.ensures.marked in
    let all = end_left spans.sizes ms m.gone (omega (arith, length-map m.marks.items is_gone, c.mark_all.ensures.marked, m.paired)) (subst (λ (v : List Mark). IsPicked (head_size g.L.Width.WORD) (places_in m.places) m.end (gone_of v) m.gone) full m.picked) spans.of after in
    omega (arith, all, c.mark_all.ensures.same.end, c.put_back.ensures.same.end, ap (λ (p : Picked). p.size) c.mark_all.ensures.gone, ap (λ (p : Picked). p.size) c.put_back.ensures.picked)

-- how many are left
kept_count : (ms : List Mark) (hs news : List ℕ) (count gone : ℕ) → length ms ≡ length hs → count ≤ length news → take count news ≡ left (gone_of ms) hs → gone ≡ number (gone_of ms) → count + gone ≡ length hs
kept_count ms hs news count gone long within is many =
    omega (arith, ap length is, length-take-le count news within, left_number (gone_of ms) hs (length-map ms is_gone ∙ long), many)

counted : (g : _) (c : After-compact_entries-kept g) → c.compact_entries-kept.result.count + c.mark_all.new.self.gone.count ≡ length c.mark_all.new.self.hashes.items
counted g c =
    let m = c.mark_all.new.self in
    let kept = c.compact_entries-kept in
    let n : ℕ = kept.result.count in
    let is : take n kept.new.hashes ≡ left (gone_of m.marks.items) m.hashes.items =
    kept.ensures.hashes ∙ ap (λ (v : List Mark). left (gone_of v) c.deref_mut.result.now) c.deref-5.ensures.value ∙ ap (left (gone_of m.marks.items)) c.deref_mut.ensures.value in
    kept_count m.marks.items m.hashes.items kept.new.hashes n m.gone.count c.mark_all.ensures.marked (omega (arith, kept.ensures.long, ap length c.deref_mut.ensures.value, kept.ensures.within, m.paired)) is (m.picked.count ∙ ap (λ (v : List Mark). number (gone_of v)) (marks_full m c.mark_all.ensures.marked))

pub returns-clause-count : goal.returns-clause-count
returns-clause-count g c =
    let m = c.mark_all.new.self in
    let kept = c.compact_entries-kept in
    let n : ℕ = kept.result.count in
    let long : length kept.new.hashes ≡ length m.hashes.items = omega (arith, kept.ensures.long, ap length c.deref_mut.ensures.value) in
    let all = counted g (goal.at.returns-clause-count g c).After-compact_entries-kept in
    omega (arith, all, long, c.truncate.ensures.len, c.truncate.new.self.ok.0, m.hashes.ok.0, kept.ensures.within, m.paired, ap length c.mark_all.ensures.same.hashes, ap length c.put_back.ensures.same.hashes, ap (λ (p : Picked). p.count) c.mark_all.ensures.gone, ap (λ (p : Picked). p.count) c.put_back.ensures.picked)

pub returns-clause-room : goal.returns-clause-room
returns-clause-room g c = λ some.
    let m = c.mark_all.new.self in
    let kept = c.compact_entries-kept in
    let n : ℕ = kept.result.count in
    let long : length kept.new.hashes ≡ length m.hashes.items = omega (arith, kept.ensures.long, ap length c.deref_mut.ensures.value) in
    let all = counted g (goal.at.returns-clause-room g c).After-compact_entries-kept in
    let fewer : n < length m.hashes.items = omega (arith, all, some, ap (λ (p : Picked). p.count) c.mark_all.ensures.gone, ap (λ (p : Picked). p.count) c.put_back.ensures.picked) in
    let places : length (places_in c.truncate-2.new.self) ≡ n = ap length c.truncate-2.ensures.places ∙ length-take-le n (places_in kept.new.places) (omega (arith, kept.ensures.places, kept.ensures.within)) in
    record {
      tags = λ tagged.
          let ms : List Bool = gone_of m.marks.items in
          let tags : searched_by m.tagged c.compact_tags.new.tags.items (left ms m.hashes.items) ≡ left ms (searched m) =
          subst (λ (v : List Mark). searched_by m.tagged c.compact_tags.new.tags.items (left (gone_of v) m.hashes.items) ≡ left (gone_of v) (searched m)) c.deref-4.ensures.value (c.compact_tags.ensures.left m.hashes.items) in
          let now : length c.compact_tags.new.tags.items ≡ length (left ms (searched m)) = ap length (ap (λ (v : Bool). searched_by v c.compact_tags.new.tags.items (left ms m.hashes.items)) (sym tagged) ∙ tags) in
          let was : length m.tags.items ≡ length (searched m) = ap (λ (v : Bool). length (searched_by v m.tags.items m.hashes.items)) (sym tagged) in
          omega (arith, now, was, left_number ms (searched m) (length-map m.marks.items is_gone ∙ c.mark_all.ensures.marked ∙ sym m.numbered), m.picked.count ∙ ap (λ (v : List Mark). number (gone_of v)) (marks_full m c.mark_all.ensures.marked), some, ap (λ (p : Picked). p.count) c.mark_all.ensures.gone, ap (λ (p : Picked). p.count) c.put_back.ensures.picked, m.tag_room, c.compact_tags.ensures.room);
      hashes = omega (arith, fewer, long, c.truncate.ensures.len, c.truncate.new.self.ok.0, m.hashes.ok.0, c.truncate.ensures.capacity, m.hash_room);
      places = omega (arith, fewer, places, c.truncate-2.ensures.room, kept.ensures.room, m.place_room, m.paired);
      marks = omega (arith, fewer, long, c.truncate.ensures.len, c.truncate.new.self.ok.0, m.hashes.ok.0, c.compact_marks.ensures.room, m.room);
    }

pub returns-clause-tagged : goal.returns-clause-tagged
returns-clause-tagged g c = grind (arith, common_steps)

pub compact_entries-kept-requires-clause-paired : goal.compact_entries-kept-requires-clause-paired
compact_entries-kept-requires-clause-paired g c = grind (arith, common_steps)

pub invariant_of-self-clause-paired : goal.invariant_of-self-clause-paired
invariant_of-self-clause-paired g c = grind (arith, common_steps)

pub invariant_of-self-clause-place_room : goal.invariant_of-self-clause-place_room
invariant_of-self-clause-place_room g c = grind (arith, common_steps)

pub returns-clause-hashes : goal.returns-clause-hashes
returns-clause-hashes g c = grind (arith, common_steps)

pub invariant_of-self-clause-most_places : goal.invariant_of-self-clause-most_places
invariant_of-self-clause-most_places g c = omega (arith, c.truncate-2.ensures.room, c.compact_entries-kept.ensures.room, c.mark_all.new.self.most_places)

pub compact_entries-kept-requires-clause-long : goal.compact_entries-kept-requires-clause-long
compact_entries-kept-requires-clause-long g c = grind (arith, common_steps)

pub invariant_of-self-clause-most_hashes : goal.invariant_of-self-clause-most_hashes
invariant_of-self-clause-most_hashes g c = grind (arith, common_steps)

pub invariant_of-self-clause-most_marks : goal.invariant_of-self-clause-most_marks
invariant_of-self-clause-most_marks g c = grind (arith, common_steps)
