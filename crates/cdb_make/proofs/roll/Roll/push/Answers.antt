use Rattle.cdb_make.proofs.Words.{all_marks, found_of, marks_in, Bool, IsPicked, List, Mark, Picked, [], ap, arith, common_steps, cond, false, get_or, get_or_append_left, get_or_push, gone_of, head_size, is_found, is_gone, length, length-map, length_push, map, map-append, refl, places_in, searched, searched_by, slice_index, subst, sym, true, ℕ, ◌++◌, ◌+◌, ◌∙◌, ◌∷◌, ◌≡◌}
use Rattle.cdb_make.specs.declared.mark.Mark.TheVariants.{Stays}
use Rattle.cdb_make.proofs.Linking.{chained_same}
use Rattle.cdb_make.proofs.Marking.{all_more, marks_long}
use Rattle.cdb_make.proofs.Picking.{picks_push}
use Rattle.cdb_make.proofs.Spans.{long_as, pushed_of, rising_of, spans_of}
use Rattle.cdb_make.proofs.roll.Roll.push.Goals.{After-push}
use Rattle.cdb_make.proofs.roll.Roll.push.Goals as goal

pub returns-clause-of : goal.returns-clause-of
returns-clause-of g c = λ sizes of. pushed_of c.args.size c.push.ensures.places of

pub invariant_of-self-clause-spans : goal.invariant_of-self-clause-spans
invariant_of-self-clause-spans g c =
    let m = c.args.self.now in
    rising_of (pushed_of c.args.size c.push.ensures.places (spans_of (head_size g.L.Width.WORD) m.end (places_in m.places) m.spans).of)

-- the marks of all, of which the last stays
more : (g : _) (c : After-push g) → all_marks (length c.push_reserved.new.self.items) c.args.self.now.marks.items ≡ marks_in c.args.self.now ++ Stays ∷ []
more g c =
    let m = c.args.self.now in
    ap (λ (n : ℕ). all_marks n m.marks.items) (ap length c.push_reserved.ensures.items ∙ length_push m.hashes.items c.args.hash) ∙ all_more (length m.hashes.items) m.marks.items m.marked

-- the records that are picked are the same, with one more that is not
picks : (g : _) (c : After-push g) (test : Mark → Bool) (p : Picked) → test Stays ≡ false → IsPicked (head_size g.L.Width.WORD) (places_in c.args.self.now.places) c.args.self.now.end (map test (marks_in c.args.self.now)) p
    → IsPicked (head_size g.L.Width.WORD) (places_in c.push.new.self) (c.args.self.now.end + c.args.size) (map test (all_marks (length c.push_reserved.new.self.items) c.args.self.now.marks.items)) p
picks g c test p stays picked =
    let m = c.args.self.now in
    let ms : List Bool = map test (marks_in m) in
    let spans = spans_of (head_size g.L.Width.WORD) m.end (places_in m.places) m.spans in
    let items : map test (all_marks (length c.push_reserved.new.self.items) c.args.self.now.marks.items) ≡ ms ++ false ∷ [] = ap (map test) (more g c) ∙ map-append test (marks_in m) (Stays ∷ []) ∙ ap (λ (v : Bool). ms ++ v ∷ []) stays in
    subst (λ (v : List Bool). IsPicked (head_size g.L.Width.WORD) (places_in c.push.new.self) (m.end + c.args.size) v p) (sym items)
    (picks_push ms p c.args.size (omega (arith, length-map (marks_in m) test, marks_long m, m.paired, long_as spans.of)) spans.of (pushed_of c.args.size c.push.ensures.places spans.of) picked)

pub invariant_of-self-clause-picked : goal.invariant_of-self-clause-picked
invariant_of-self-clause-picked g c = picks g (goal.at.invariant_of-self-clause-picked g c).After-push is_gone c.args.self.now.gone refl c.args.self.now.picked

pub invariant_of-self-clause-sought : goal.invariant_of-self-clause-sought
invariant_of-self-clause-sought g c = picks g (goal.at.invariant_of-self-clause-sought g c).After-push is_found c.args.self.now.found refl c.args.self.now.sought

pub invariant_of-self-clause-chained : goal.invariant_of-self-clause-chained
invariant_of-self-clause-chained g c =
    let m = c.args.self.now in
    let n : ℕ = length m.hashes.items in
    let at : c.len-number.result ≡ n = c.len-number.ensures in
    let ms : List Bool = gone_of (marks_in m) in
    let items : gone_of (all_marks (length c.push_reserved.new.self.items) m.marks.items) ≡ ms ++ false ∷ [] = ap gone_of (more g (goal.at.invariant_of-self-clause-chained g c).After-push) ∙ map-append is_gone (marks_in m) (Stays ∷ []) in
    let news : List ℕ = searched_by m.tagged c.push_tag.new.tags.items c.push_reserved.new.self.items in
    let v : ℕ = cond m.tagged c.args.tag c.args.hash in
    let more : news ≡ searched m ++ v ∷ [] = ap (searched_by m.tagged c.push_tag.new.tags.items) c.push_reserved.ensures.items ∙ subst (λ (t : Bool). searched_by t c.push_tag.new.tags.items (m.hashes.items ++ c.args.hash ∷ []) ≡ searched_by t m.tags.items m.hashes.items ++ cond t c.args.tag c.args.hash ∷ []) c.requires.tagged (c.push_tag.ensures.more m.hashes.items c.args.hash) in
    let long : length news ≡ n + 1 = ap length more ∙ length_push (searched m) v ∙ ap (λ (k : ℕ). k + 1) m.numbered in
    let marks : n ≡ length ms = sym (length-map (marks_in m) is_gone ∙ marks_long m) in
    c.push-2.ensures.chained news (gone_of (all_marks (length c.push_reserved.new.self.items) m.marks.items))
    (chained_same m.chains.heads.items m.chains.before.items (searched m) news ms (gone_of (all_marks (length c.push_reserved.new.self.items) m.marks.items))
    (omega (arith, m.chained.within, long, m.numbered))
    (λ k lt. ap (λ (v : List ℕ). slice_index v k) more ∙ get_or_append_left (searched m) (_ ∷ []) 0 k (omega (arith, m.chained.within)))
    (λ k lt. ap (λ (v : List Bool). get_or v k true) items ∙ get_or_append_left ms (false ∷ []) true k (omega (arith, m.chained.within, m.numbered, marks)))
    m.chained)
    (omega (arith, at, long))
    (λ tagged. ap (λ (v : List ℕ). slice_index v c.len-number.result) more ∙ get_or_push (searched m) v 0 c.len-number.result (m.numbered ∙ sym at) ∙ ap (λ (w : Bool). cond w c.args.tag c.args.hash) (sym c.requires.tagged ∙ tagged))
    (ap (λ (v : List Bool). get_or v c.len-number.result true) items ∙ get_or_push ms false true c.len-number.result (sym (at ∙ marks)))

pub returns-clause-searched : goal.returns-clause-searched
returns-clause-searched g c = ap (searched_by c.args.self.now.tagged c.push_tag.new.tags.items) c.push_reserved.ensures.items ∙ subst (λ (t : Bool). searched_by t c.push_tag.new.tags.items (c.args.self.now.hashes.items ++ c.args.hash ∷ []) ≡ searched_by t c.args.self.now.tags.items c.args.self.now.hashes.items ++ cond t c.args.tag c.args.hash ∷ []) c.requires.tagged (c.push_tag.ensures.more c.args.self.now.hashes.items c.args.hash)

pub invariant_of-self-clause-numbered : goal.invariant_of-self-clause-numbered
invariant_of-self-clause-numbered g c =
    let m = c.args.self.now in
    let more = ap (searched_by m.tagged c.push_tag.new.tags.items) c.push_reserved.ensures.items ∙ subst (λ (t : Bool). searched_by t c.push_tag.new.tags.items (m.hashes.items ++ c.args.hash ∷ []) ≡ searched_by t m.tags.items m.hashes.items ++ cond t c.args.tag c.args.hash ∷ []) c.requires.tagged (c.push_tag.ensures.more m.hashes.items c.args.hash) in
    omega (arith, ap length more, length_push (searched m) (cond m.tagged c.args.tag c.args.hash), m.numbered, ap length c.push_reserved.ensures.items, length_push m.hashes.items c.args.hash)

pub invariant_of-self-clause-paired : goal.invariant_of-self-clause-paired
invariant_of-self-clause-paired g c = grind (arith, common_steps)

pub returns-clause-found : goal.returns-clause-found
returns-clause-found g c = ap found_of (more g (goal.at.returns-clause-found g c).After-push) ∙ map-append is_found (marks_in c.args.self.now) (Stays ∷ [])

pub invariant_of-self-clause-place_room : goal.invariant_of-self-clause-place_room
invariant_of-self-clause-place_room g c = grind (arith, common_steps)

pub returns-clause-gone : goal.returns-clause-gone
returns-clause-gone g c = ap gone_of (more g (goal.at.returns-clause-gone g c).After-push) ∙ map-append is_gone (marks_in c.args.self.now) (Stays ∷ [])
