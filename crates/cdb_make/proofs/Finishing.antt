-- A finished file: its records without those that go, and what is left if finishing failed.
use Rattle.cdb_make.proofs.Words.{Mark, marks_in, AreNone, Bool, Ghosts, HeadIsLast, IsErrAnd, IsFinished, KeepsPart, KeyValue, List, MakeFault, Maker, Roll, SameImages, SameRecords, Sees, WordPair, ap, arith, behind, cond, false, file_bytes, flat_map, found_of, gone_of, head_bytes, head_size, inl, inr, is_gone, joined, left, length, length-map, map, part, places_in, record_bytes, record_size, records_end, refl, roll_tables, subst, sym, table_bytes, true, ℕ, ◌*◌, ◌++◌, ◌+◌, ◌-◌, ◌<◌, ◌∙◌, ◌≡◌, ◌≤◌, ◌⊎◌, AfterTornWrite, kept_torn}
use Rattle.std.specs.Prelude.{sum, Result, Ok, Err, IfErr, OnOk, OnErr}
use Rattle.std.proofs.lemmas.List.Sums.{sum-map}
use Rattle.cdb_form.specs.declared.width.Width.{Ghosts as Widths}
use Rattle.cdb_store.specs.declared.make_fault.MakeFault.TheVariants.{Broken, Lookup, TooBig, NoMemory, Writing}
use Rattle.cdb_make.specs.Views.Maker.{gone_in, count_in, made_size, Holds, Goes, Passes, HasNotFailed, Compacts, CompactsAll, FailsCompactingAll, FailsFinishing, FinishWrites, IsFile, SameCounts, StaysWhole, told_count, told_size, HasStoreFailed, Rests, Stays, Steps, TellsCounts, WritesNothing, Follows}
use Rattle.cdb_make.proofs.Bytes.Written.{flat_map-map}
use Rattle.cdb_make.proofs.FinishedFile.{file_of_parts}
use Rattle.cdb_make.proofs.Looking.{sees_long, sees_same}
use Rattle.cdb_make.proofs.Picking.{left_all_stay, end_sum, picked_most, picked_none, number_none}
use Rattle.cdb_make.proofs.Rolls.{end_joined}
use Rattle.cdb_make.proofs.Admitting.{behind_nothing}
use Rattle.cdb_make.proofs.Spans.{spans_of, place_low, place_high}
use Rattle.cdb_make.proofs.Survive.{number_zero}
use Rattle.cdb_make.proofs.Tables.{roll_tables_are}
use Rattle.cdb_make.proofs.Marking.{marks_long}

-- ---- no record goes

pub none_in : {S L : Type 0} {s : Ghosts S} {l : Widths L} (m : Maker S L s l) → m.roll.gone.count ≡ 0 → AreNone (gone_in m)
none_in m e = number_zero (gone_in m) (sym m.roll.picked.count ∙ e)

-- and none has bytes
pub none_size : {L : Type 0} {l : Widths L} (m : Roll L l) → m.gone.count ≡ 0 → m.gone.size ≡ 0
none_size {l = l} m e =
    let spans = spans_of (head_size l.WORD) m.end (places_in m.places) m.spans in
    m.picked.size spans.sizes spans.of ∙ ap sum (picked_none (gone_of (marks_in m)) spans.sizes (number_zero (gone_of (marks_in m)) (sym m.picked.count ∙ e)))

pub found_size : {L : Type 0} {l : Widths L} (m : Roll L l) → m.found.count ≡ 0 → m.found.size ≡ 0
found_size {l = l} m e =
    let spans = spans_of (head_size l.WORD) m.end (places_in m.places) m.spans in
    m.sought.size spans.sizes spans.of ∙ ap sum (picked_none (found_of (marks_in m)) spans.sizes (number_zero (found_of (marks_in m)) (sym m.sought.count ∙ e)))

pub made_none : {S L : Type 0} {s : Ghosts S} {l : Widths L} (m : Maker S L s l) → m.roll.gone.count ≡ 0 → made_size m ≡ m.roll.end + 4 * l.WORD * length m.roll.hashes.items
made_none {l = l} m e =
    let n : count_in m ≡ length m.roll.hashes.items = omega arith in
    let z : m.roll.gone.size ≡ 0 = none_size m.roll e in
    let t : made_size m ≡ m.roll.end - m.roll.gone.size + 4 * l.WORD * length m.roll.hashes.items = ap (λ (k : ℕ). m.roll.end - m.roll.gone.size + 4 * l.WORD * k) n in
    omega (arith, t, z)

-- the records are stored after the head
pub end_behind : {L : Type 0} {l : Widths L} (m : Roll L l) → head_size l.WORD ≤ m.end
end_behind {l = l} m =
    let spans = spans_of (head_size l.WORD) m.end (places_in m.places) m.spans in
    omega (arith, place_low 0 spans.of, place_high 0 spans.of)

-- and so they do without those that go
pub left_behind : {L : Type 0} {l : Widths L} (m : Roll L l) → head_size l.WORD + m.gone.size ≤ m.end
left_behind {l = l} m =
    let spans = spans_of (head_size l.WORD) m.end (places_in m.places) m.spans in
    omega (arith, m.picked.size spans.sizes spans.of, spans.of.ends, end_sum (head_size l.WORD) spans.sizes, picked_most (gone_of (marks_in m)) spans.sizes)

-- all stay then
pub all_in : {S L : Type 0} {s : Ghosts S} {l : Widths L} (m : Maker S L s l) (all : List KeyValue) (b : List ℕ) → m.roll.gone.count ≡ 0 → Sees m.roll all b → left (gone_in m) all ≡ all
all_in m all b e sees = left_all_stay (gone_in m) all (omega (arith, length-map (marks_in m.roll) is_gone, (marks_long m.roll), sees_long m.roll all b sees)) (none_in m e)

compacted_holds : {S L : Type 0} {s : Ghosts S} {l : Widths L} (i j : Maker S L s l) {P : List KeyValue → List KeyValue → Type 0} (rs : List KeyValue) → j.broken ≡ false → j.roll.gone.count ≡ 0 → Goes i j (λ all rest. (rest ≡ left (gone_in i) all) × P all rest) → Holds i rs → Holds j rs
compacted_holds i j rs whole none goes h = record {
  whole = whole;
  each = λ b is.
      let g = goes.each b is in
      let held = h.each g.0 g.1 in
      let q = g.2 held.all held.sees in
      record { all = q.0; sees = q.1; left = held.left ∙ sym q.2.0 ∙ sym (all_in j q.0 b none q.1) };
}

-- those of an eager maker do not go
pub gone_lazy : {S L : Type 0} {s : Ghosts S} {l : Widths L} (m : Maker S L s l) → m.broken ≡ false → 0 < m.roll.gone.count → m.lazy ≡ true
gone_lazy m whole some =
    let f : (v : Bool) → m.lazy ≡ v → m.lazy ≡ true = λ v. elim v as (λ v. m.lazy ≡ v → m.lazy ≡ true) [
      | true ↦ λ e. e
      | false ↦ λ e. absurd (omega (arith, some, m.roll.picked.count, number_none (gone_in m) (m.eager e whole)))
    ] in
    f m.lazy refl

-- a pass was made
pub compacts_all_by : {S L : Type 0} {s : Ghosts S} {l : Widths L} (i j : Maker S L s l) → i.broken ≡ false → 0 < i.roll.gone.count → Compacts i j → j.roll.gone.count ≡ 0 → j.roll.end + i.roll.gone.size ≡ i.roll.end → CompactsAll i j
compacts_all_by i j was some h none end = record {
  stays = record { was = was; whole = h.whole; holds = λ rs held. compacted_holds i j rs h.whole none h.goes held };
  none = none;
  end = omega arith;
  goes = h.goes;
  lone = λ lone. absurd (lone (gone_lazy i was some, some));
}

-- the records that are stored are the same
pub compacts_all_then : {S L : Type 0} {s : Ghosts S} {l : Widths L} (i j k : Maker S L s l) → CompactsAll i j → k.store ≡ j.store → k.broken ≡ j.broken → SameRecords j.roll k.roll → marks_in k.roll ≡ marks_in j.roll → k.roll.gone ≡ j.roll.gone → CompactsAll i k
compacts_all_then {s = s} i j k h store broken same marks gone =
    let goes = h.goes in
    record {
      stays = record {
        was = h.stays.was;
        whole = broken ∙ h.stays.whole;
        holds = λ rs held. record {
          whole = broken ∙ h.stays.whole;
          each = λ b is.
              let in_j = (h.stays.holds rs held).each b (subst (λ v. s.image v b) store is) in
              record { all = in_j.all; sees = sees_same j.roll k.roll in_j.all b same in_j.sees; left = in_j.left ∙ ap (λ (v : List Mark). left (gone_of v) in_j.all) (sym marks) };
        };
      };
      none = ap (λ v. v.count) gone ∙ h.none;
      end = same.end ∙ h.end;
      goes = record {
        each = λ b is.
            let g = goes.each b (subst (λ v. s.image v b) store is) in
            (g.0, g.1, λ all sees. let q = g.2 all sees in (q.0, sees_same j.roll k.roll q.0 b same q.1, (q.2.0, ap s.written store ∙ q.2.1)));
      };
      lone = λ lone. ap s.written store ∙ h.lone lone;
    }

-- or none
pub compacts_all_none : {S L : Type 0} {s : Ghosts S} {l : Widths L} (i : Maker S L s l) → i.broken ≡ false → i.roll.gone.count ≡ 0 → CompactsAll i i
compacts_all_none {l = l} i was none = record {
  stays = record { was = was; whole = was; holds = λ rs held. held };
  none = none;
  end = omega (arith, none_size i.roll none);
  goes = record {
    each = λ b is. (
      b,
      is,
      λ all sees. (
        all,
        sees,
        (
          sym (all_in i all b none sees),
          let z : sum (behind (gone_in i) (map (record_size l.WORD) all)) ≡ 0 = ap sum (behind_nothing (gone_in i) (map (record_size l.WORD) all) (none_in i none)) in omega (arith, z),
        ),
      ),
    );
  };
  lone = λ lone. refl;
}

-- or failed
pub compacting_torn : {S L T : Type 0} {s : Ghosts S} {l : Widths L} (i j : Maker S L s l) (r : Result T MakeFault) → i.broken ≡ false → 0 < i.roll.gone.count → IfErr r (λ f. f ≡ Writing) → OnErr r (j.broken ≡ true) → OnErr r (HasStoreFailed i j) → IfErr r (FailsCompactingAll i j)
compacting_torn i j (Ok x) was some fault torn failed = tt
compacting_torn i j (Err f) was some fault torn failed = subst (FailsCompactingAll i j) (sym fault) ((gone_lazy i was some, some), was, torn, failed)

-- ---- what it counts

pub told_whole : {S L : Type 0} {s : Ghosts S} {l : Widths L} (m : Maker S L s l) → m.broken ≡ false → (told_count m ≡ count_in m) × (told_size m ≡ made_size m)
told_whole m whole = (ap (λ (v : Bool). cond v m.counted.count (count_in m)) whole, ap (λ (v : Bool). cond v m.counted.size (made_size m)) whole)

-- of the records without those that go
pub left_counts : {S L : Type 0} {s : Ghosts S} {l : Widths L} (i j : Maker S L s l) → j.roll.gone.count ≡ 0 → j.roll.gone.size ≡ 0 → j.roll.end + i.roll.gone.size ≡ i.roll.end → length j.roll.hashes.items + i.roll.gone.count ≡ length i.roll.hashes.items → (count_in j ≡ count_in i) × (made_size j ≡ made_size i)
left_counts {l = l} i j none size end count =
    let e : count_in j ≡ count_in i = omega arith in
    let f : j.roll.end - j.roll.gone.size ≡ i.roll.end - i.roll.gone.size = omega arith in
    (e, ap (λ (n : ℕ). (j.roll.end - j.roll.gone.size) + 4 * l.WORD * n) e ∙ ap (λ (n : ℕ). n + 4 * l.WORD * count_in i) f)

pub same_left : {S L : Type 0} {s : Ghosts S} {l : Widths L} (i j : Maker S L s l) → SameRecords i.roll j.roll → j.roll.gone ≡ i.roll.gone → (count_in j ≡ count_in i) × (made_size j ≡ made_size i)
same_left {l = l} i j same gone =
    let e : count_in j ≡ count_in i = ap (λ (v : List ℕ). length v - j.roll.gone.count) same.hashes ∙ ap (λ q. length i.roll.hashes.items - q.count) gone in
    let f : j.roll.end - j.roll.gone.size ≡ i.roll.end - i.roll.gone.size = ap (λ (v : ℕ). v - j.roll.gone.size) same.end ∙ ap (λ q. i.roll.end - q.size) gone in
    (e, ap (λ (n : ℕ). (j.roll.end - j.roll.gone.size) + 4 * l.WORD * n) e ∙ ap (λ (n : ℕ). n + 4 * l.WORD * count_in i) f)

pub whole_counts : {S L : Type 0} {s : Ghosts S} {l : Widths L} (i j : Maker S L s l) → i.broken ≡ false → j.broken ≡ false → (count_in j ≡ count_in i) × (made_size j ≡ made_size i) → j.limit ≡ i.limit → SameCounts i j
whole_counts i j was whole same limit = record {
  count = (told_whole j whole).0 ∙ same.0 ∙ sym (told_whole i was).0;
  size = (told_whole j whole).1 ∙ same.1 ∙ sym (told_whole i was).1;
  limit = limit;
}

pub counts_then : {S L : Type 0} {s : Ghosts S} {l : Widths L} (i j k : Maker S L s l) → SameCounts i j → SameCounts j k → SameCounts i k
counts_then i j k f h = record { count = h.count ∙ f.count; size = h.size ∙ f.size; limit = h.limit ∙ f.limit }

-- a call that failed leaves what it counts and what it came of
pub fails_so : {S L T E : Type 0} {s : Ghosts S} {l : Widths L} (i j : Maker S L s l) (r : Result T E) (P : E → Type 0) → IsErrAnd r P → SameCounts i j → Follows i j → Steps i j r
fails_so i j (Ok x) P is counts follows = absurd is
fails_so i j (Err e) P is counts follows = record { fine = tt; counts = counts; follows = follows }

-- an exchange that failed may leave the maker broken
pub lost_counts : {S L : Type 0} {s : Ghosts S} {l : Widths L} (i j : Maker S L s l) (lost : Bool) → i.broken ≡ false → (lost ≡ false → j.broken ≡ false) → (lost ≡ false → i.roll.found.count ≡ 0) → TellsCounts i j
    → (cond lost j.counted.count (count_in j) ≡ told_count i) × (cond lost j.counted.size (made_size j) ≡ told_size i)
lost_counts i j true was whole none told = (told.count, told.size)
lost_counts i j false was whole none told = (told.left (whole refl) (none refl) ∙ sym (told_whole i was).0, told.left_size (whole refl) (none refl) ∙ sym (told_whole i was).1)

-- after a pass
pub compacted_counts : {S L T E : Type 0} {s : Ghosts S} {l : Widths L} (i j : Maker S L s l) (r : Result T E) → i.broken ≡ false → OnOk r (Compacts i j) → OnOk r (j.roll.gone.count ≡ 0) → OnOk r (j.roll.gone.size ≡ 0) → OnOk r (j.roll.end + i.roll.gone.size ≡ i.roll.end)
    → OnOk r (length j.roll.hashes.items + i.roll.gone.count ≡ length i.roll.hashes.items) → j.limit ≡ i.limit → OnErr r (SameCounts i j) → SameCounts i j
compacted_counts i j (Ok x) was compacts none size end count limit torn = whole_counts i j was compacts.whole (left_counts i j none size end count) limit
compacted_counts i j (Err e) was compacts none size end count limit torn = torn

-- the records that stay are held
pub stays_whole : {S L : Type 0} {s : Ghosts S} {l : Widths L} (i j : Maker S L s l) → i.broken ≡ false → Stays i j → StaysWhole i j
stays_whole i j was stays = record {
  was = was;
  whole = stays.broken ∙ was;
  holds = λ rs h. record {
    whole = stays.broken ∙ was;
    each = λ b is.
        let g = stays.goes.each b is in
        let held = h.each g.0 g.1 in
        let q = g.2 held.all held.sees in
        record {
          all = q.0;
          sees = q.1;
          left = held.left ∙ ap (λ v. left (gone_of v) held.all) (sym stays.marks) ∙ ap (left (gone_in j)) (sym q.2);
        };
  };
}

-- if a look was made
pub rests_nothing : {S L : Type 0} {s : Ghosts S} {l : Widths L} (i j : Maker S L s l) → Rests i j → WritesNothing i j
rests_nothing i j rests = record {
  stays = record {
    was = rests.was;
    whole = rests.whole;
    holds = λ rs h. record {
      whole = rests.whole;
      each = λ b is. (let held = h.each b (rests.reads.images b is) in record { all = held.all; sees = sees_same i.roll j.roll held.all b rests.same held.sees; left = held.left ∙ ap (λ (v : List Bool). left v held.all) (sym rests.gone) });
    };
  };
  written = rests.reads.written;
}

pub rests_counts : {S L : Type 0} {s : Ghosts S} {l : Widths L} (i j : Maker S L s l) → Rests i j → SameCounts i j
rests_counts i j rests = whole_counts i j rests.was rests.whole (same_left i j rests.same rests.picked) rests.limit

-- after a pass, if no record could be added
pub exchange_counts : {S L : Type 0} {s : Ghosts S} {l : Widths L} (i j k : Maker S L s l) → j.counted.count ≡ told_count i → j.counted.size ≡ told_size i → k.counted ≡ j.counted → j.roll.gone.count ≡ 0 → j.roll.gone.size ≡ 0 → j.roll.end + (i.roll.gone.size + i.roll.found.size) ≡ i.roll.end
    → length j.roll.hashes.items + (i.roll.gone.count + i.roll.found.count) ≡ length i.roll.hashes.items → k.limit ≡ i.limit → Stays j k → TellsCounts i k
exchange_counts i j k count size same none zero end many limit stays =
    let left : i.roll.found.count ≡ 0 → (count_in k ≡ count_in i) × (made_size k ≡ made_size i) = λ none_found.
    let a = same_left j k stays.same stays.gone in
    let b = left_counts i j none zero (omega (arith, end, found_size i.roll none_found)) (omega (arith, many, none_found)) in
    (a.0 ∙ b.0, a.1 ∙ b.1) in
    record {
      count = ap (λ c. c.count) same ∙ count;
      size = ap (λ c. c.size) same ∙ size;
      left = λ whole none_found. (left none_found).0;
      left_size = λ whole none_found. (left none_found).1;
      limit = limit;
    }

-- the counts of makers that are whole
pub left_same : {S L : Type 0} {s : Ghosts S} {l : Widths L} (i j : Maker S L s l) → i.broken ≡ false → j.broken ≡ false → SameCounts i j → (count_in j ≡ count_in i) × (made_size j ≡ made_size i)
left_same i j was whole same = (sym (told_whole j whole).0 ∙ same.count ∙ (told_whole i was).0, sym (told_whole j whole).1 ∙ same.size ∙ (told_whole i was).1)

-- ---- the file

-- where the records end, and how many bytes they have
ends_at : {L : Type 0} {l : Widths L} (m : Roll L l) (all : List KeyValue) (b : List ℕ) → Sees m all b → m.end ≡ records_end l.WORD all
ends_at {l = l} m all b h = h.of.ends ∙ end_sum (head_size l.WORD) (map (record_size l.WORD) all) ∙ ap (λ (n : ℕ). head_size l.WORD + n) (sum-map (record_size l.WORD) all)

-- a finished image is the file of the records that the roll notes
pub finished_file : {L : Type 0} {l : Widths L} (m : Roll L l) (all : List KeyValue) (a b : List ℕ) → Sees m all a → b ≡ (head_bytes l.WORD m.end (roll_tables m) ++ part (head_size l.WORD) (m.end - head_size l.WORD) a) ++ flat_map (table_bytes l.WORD) (roll_tables m) → b ≡ file_bytes l.WORD all
finished_file {l = l} m all a b sees e =
    let w : ℕ = l.WORD in
    let ps : List (List ℕ) = map (record_bytes w) all in
    let n : m.end - head_size w ≡ length (joined ps) = omega (arith, end_joined m all a sees) in
    let bytes : part (head_size w) (m.end - head_size w) a ≡ flat_map (record_bytes w) all = ap (λ (k : ℕ). part (head_size w) k a) n ∙ sees.stand ∙ flat_map-map (λ p. p) (record_bytes w) all in
    e ∙ file_of_parts w m.end (part (head_size w) (m.end - head_size w) a) (roll_tables m) all (ends_at m all a sees) bytes (roll_tables_are m all a sees)

pub is_file : {S L : Type 0} {s : Ghosts S} {l : Widths L} (i j : Maker S L s l) (rs : List KeyValue) {new : List ℕ → Type 0} → CompactsAll i j → Holds i rs → IsFinished l.WORD j.roll.end (roll_tables j.roll) (s.image j.store) new → IsFile l.WORD rs new
is_file {l = l} i j rs c h finished = record {
  each = λ b is.
      let f = finished.each b is in
      let held = (c.stays.holds rs h).each f.0 f.1 in
      let same : rs ≡ held.all = held.left ∙ all_in j held.all f.0 c.none held.sees in
      finished_file j.roll held.all f.0 b held.sees f.2 ∙ ap (file_bytes l.WORD) (sym same);
}

pub finish_writes : {S L : Type 0} {s : Ghosts S} {l : Widths L} (i j : Maker S L s l) (store : S) → CompactsAll i j → SameCounts i j → IsFinished l.WORD j.roll.end (roll_tables j.roll) (s.image j.store) (s.image store)
    → s.written store + j.roll.end ≡ s.written j.store + (head_size l.WORD + (j.roll.end + 4 * l.WORD * length j.roll.hashes.items)) → FinishWrites i store
finish_writes i j store c counts finished written =
    let size : made_size j ≡ made_size i = (left_same i j c.stays.was c.stays.whole counts).1 in
    record {
      each = λ b is.
          let f = finished.each b is in
          let g = c.goes.each f.0 f.1 in
          (g.0, g.1, λ all sees. (let q = g.2 all sees in omega (arith, written, q.2.1, c.end, size, made_none j c.none)));
      lone = λ lone. omega (arith, written, c.lone lone, c.end, size, made_none j c.none);
    }

-- ---- if finishing failed

pub head_from : {w end : ℕ} {ls : List (List WordPair)} {i j k : List ℕ → Type 0} → KeepsPart 0 (head_size w) i j → HeadIsLast w end ls j k → HeadIsLast w end ls i k
head_from keeps h = record { each = λ b is. elim (h.each b is) [ inl a ↦ inl (let g = keeps.each a.0 a.1 in (g.0, g.1, a.2 ∙ g.2)) | inr t ↦ inr t ] }

sees_part : {L : Type 0} {l : Widths L} (m : Roll L l) (all : List KeyValue) (a b : List ℕ) → part (head_size l.WORD) (m.end - head_size l.WORD) b ≡ part (head_size l.WORD) (m.end - head_size l.WORD) a → Sees m all a → Sees m all b
sees_part {l = l} m all a b same h =
    let w : ℕ = l.WORD in
    let n : m.end - head_size w ≡ length (joined (map (record_bytes w) all)) = omega (arith, end_joined m all a h) in
    record {
      are = h.are;
      stand = ap (λ (k : ℕ). part (head_size w) k b) (sym n) ∙ same ∙ ap (λ (k : ℕ). part (head_size w) k a) n ∙ h.stand;
      hashes = h.hashes;
      searched = h.searched;
      of = h.of;
    }

stays_kept : {S L : Type 0} {s : Ghosts S} {l : Widths L} (j k : Maker S L s l) → j.broken ≡ false → k.broken ≡ false → k.roll ≡ j.roll → KeepsPart (head_size l.WORD) (j.roll.end - head_size l.WORD) (s.image j.store) (s.image k.store) → StaysWhole j k
stays_kept j k was whole roll keeps = record {
  was = was;
  whole = whole;
  holds = λ rs h. record {
    whole = whole;
    each = λ b is.
        let g = keeps.each b is in
        let held = h.each g.0 g.1 in
        record {
          all = held.all;
          sees = subst (λ m. Sees m held.all b) (sym roll) (sees_part j.roll held.all g.0 b g.2 held.sees);
          left = held.left ∙ ap (λ m. left (gone_of (marks_in m)) held.all) (sym roll);
        };
  };
}

pub whole_then : {S L : Type 0} {s : Ghosts S} {l : Widths L} (i j k : Maker S L s l) → StaysWhole i j → StaysWhole j k → StaysWhole i k
whole_then i j k f h = record { was = f.was; whole = h.whole; holds = λ rs held. h.holds rs (f.holds rs held) }

compacted_unchanged : {S L : Type 0} {s : Ghosts S} {l : Widths L} (i j k : Maker S L s l) → CompactsAll i j → k.broken ≡ false → k.roll ≡ j.roll → SameImages (s.image j.store) (s.image k.store) → s.written k.store ≡ s.written j.store → CompactsAll i k
compacted_unchanged {s = s} {l = l} i j k c whole roll images written =
    let goes : Goes i k (λ all rest. (rest ≡ left (gone_in i) all) × Passes i k (gone_in i) 0 all) = record {
      each = λ b is.
          let g = c.goes.each b (images.no_other b is) in
          (g.0, g.1, λ all sees. (let q = g.2 all sees in (q.0, subst (λ m. Sees m q.0 b) (sym roll) q.1, (q.2.0, written ∙ q.2.1))));
    } in
    let none : k.roll.gone.count ≡ 0 = ap (λ m. m.gone.count) roll ∙ c.none in
    record {
      stays = record { was = c.stays.was; whole = whole; holds = λ rs held. compacted_holds i k rs whole none goes held };
      none = none;
      end = ap (λ m. m.end) roll ∙ c.end;
      goes = goes;
      lone = λ lone. written ∙ c.lone lone;
    }

pub finishing_fails : {S L : Type 0} {s : Ghosts S} {l : Widths L} (i j k : Maker S L s l) (fault : MakeFault) → CompactsAll i j → HasNotFailed i j → k.broken ≡ false → k.roll ≡ j.roll → KeepsPart (head_size l.WORD) (j.roll.end - head_size l.WORD) (s.image j.store) (s.image k.store)
    → (fault ≡ NoMemory → SameImages (s.image j.store) (s.image k.store) × (s.written k.store ≡ s.written j.store) × (s.failures k.store ≡ s.failures j.store)) → (fault ≡ Writing → s.failures j.store < s.failures k.store) → (fault ≡ NoMemory) ⊎ (fault ≡ Writing) → FailsFinishing i k fault
finishing_fails i j k fault c fine whole roll keeps memory failed which =
    elim which [
      | inl e ↦
          let m = memory e in
          subst (λ (f : MakeFault). FailsFinishing i k f) (sym e) (compacted_unchanged i j k c whole roll m.0 m.1, m.2 ∙ fine)
      | inr e ↦ subst (λ (f : MakeFault). FailsFinishing i k f) (sym e) (inl (whole_then i j k c.stays (stays_kept j k c.stays.whole whole roll keeps), omega (arith, failed e, fine)))
    ]

pub compacting_fails : {S L : Type 0} {s : Ghosts S} {l : Widths L} (i j : Maker S L s l) (fault : MakeFault) → FailsCompactingAll i j fault → FailsFinishing i j fault
compacting_fails i j Broken h = h
compacting_fails i j Lookup h = h
compacting_fails i j TooBig h = h
compacting_fails i j NoMemory h = absurd h
compacting_fails i j Writing h = inr h

-- what is written after the records leaves them
pub stays_written : {S L : Type 0} {s : Ghosts S} {l : Widths L} (j k : Maker S L s l) {n : ℕ} → j.broken ≡ false → k.broken ≡ false → k.roll ≡ j.roll → AfterTornWrite j.roll.end n (s.image j.store) (s.image k.store) → StaysWhole j k
stays_written {l = l} j k was whole roll torn = stays_kept j k was whole roll (kept_torn (head_size l.WORD) (j.roll.end - head_size l.WORD) (inl (omega (arith, end_behind j.roll))) torn)

-- what holds of a fault that a result is
pub on_fault_is : {T E : Type 0} {P Q : E → Type 0} (r : Result T E) → ((e : E) → r ≡ Err e → P e → Q e) → IfErr r P → IfErr r Q
on_fault_is (Ok x) f h = tt
on_fault_is (Err e) f h = f e refl h
