-- Records that a roll notes, as a look at their places sees them.
use Rattle.std.proofs.Common.{◌≡◌, ℕ, zero, suc, ◌+◌, ◌<◌, ◌≤◌, ◌^◌, Bool, true, false, cond, List, [], ◌∷◌, ◌++◌, length, map, drop, take, get_or, refl, sym, ap, subst, ◌∙◌, arith, Ok, Option, Some, None, is_some}
use Rattle.cdb_make.proofs.Words.{marks_in, Has, cases_lt, inl, inr, is_gone, IsFreshRecord, KeyValue, PairFits, Roll, SameRecords, Sees, bytes_eq, bytes_eq-Decides, fresh, get_or-map, get_or_default, gone_of, has_key, head_size, key_hash, length-map, length-record_bytes, part, places_in, record_bytes, record_size, searched, slice_index, sought_by, sought_in, take-append-drop}
use Rattle.cdb_form.specs.declared.width.Width.{Ghosts as Widths}
use Rattle.cdb_form.proofs.Files.Prefixes.{lengths_of, Begins, Reads, prefix_reads}
use Rattle.cdb_form.proofs.Files.Standing.{Begins-record_bytes}
use Rattle.cdb_make.specs.Chains.{key_at, size_at, has_key_at, LooksAtImages}
use Rattle.cdb_make.proofs.Spans.{piece_at, place_is, place_high, place_size}
use Rattle.cdb_make.proofs.Marking.{marks_long}

-- what a record that is stored somewhere says
pub record ReadsAs (w at : ℕ) (b : List ℕ) (r : KeyValue) : Type 0 where
  pub key : key_at w at b ≡ r.key
  pub size : size_at w at b ≡ record_size w r

reads_as : (w top at : ℕ) (b : List ℕ) (r : KeyValue) → top + 1 ≡ 256 ^ w → PairFits top (lengths_of r) → part at (record_size w r) b ≡ record_bytes w r → ReadsAs w at b r
unfolding key_at size_at
reads_as w top at b r words fits e =
    let n : ℕ = record_size w r in
    let rest : List ℕ = drop n (drop at b) in
    let split : record_bytes w r ++ rest ≡ drop at b = ap (λ v. v ++ rest) (sym e) ∙ take-append-drop n (drop at b) in
    let begins : Begins w (drop at b) r rest = subst (λ v. Begins w v r rest) split (Begins-record_bytes w top r rest words fits) in
    let reads : Reads w (drop at b) r rest = prefix_reads w (drop at b) r rest begins in
    record { key = ap (λ (q : KeyValue). q.key) reads.is; size = reads.size }

pub sizes_of : (w : ℕ) (rs : List KeyValue) → map length (map (record_bytes w) rs) ≡ map (record_size w) rs
sizes_of w [] = refl
sizes_of w (r ∷ rs) = ap (λ (n : ℕ). n ∷ map length (map (record_bytes w) rs)) (length-record_bytes w r) ∙ ap (λ (v : List ℕ). record_size w r ∷ v) (sizes_of w rs)

-- as many as the roll notes
pub sees_long : {L : Type 0} {l : Widths L} (m : Roll L l) (all : List KeyValue) (b : List ℕ) → Sees m all b → length m.hashes.items ≡ length all
sees_long m all b h = ap length h.hashes ∙ length-map all (λ r. key_hash r.key)

-- one of them
pub sees_at : {L : Type 0} {l : Widths L} (m : Roll L l) (all : List KeyValue) (b : List ℕ) (k : ℕ) (r : KeyValue) → l.TOP + 1 ≡ 256 ^ l.WORD → l.GREATEST ≤ l.TOP → k < length all → get_or all k r ≡ r → Sees m all b
    → ReadsAs l.WORD (get_or (places_in m.places) k m.end) b r × (get_or (places_in m.places) (k + 1) m.end ≡ get_or (places_in m.places) k m.end + record_size l.WORD r)
sees_at {l = l} m all b k r words top lt is h =
    let w : ℕ = l.WORD in
    let ps : List (List ℕ) = map (record_bytes w) all in
    let bytes : get_or ps k [] ≡ record_bytes w r = get_or-map (record_bytes w) all k r [] lt ∙ ap (record_bytes w) is in
    let size : get_or (map (record_size w) all) k 0 ≡ record_size w r = get_or-map (record_size w) all k r 0 lt ∙ ap (record_size w) is in
    let place = place_is k h.of in
    let next = place_size k h.of (omega (arith, length-map all (record_size w))) in
    let at : part (get_or (places_in m.places) k m.end) (record_size w r) b ≡ record_bytes w r =
    ap (λ (v : ℕ). part v (record_size w r) b) (place ∙ ap (λ (v : List ℕ). Rattle.cdb_make.specs.Spans.end_from (head_size w) (take k v)) (sym (sizes_of w all)))
    ∙ ap (λ (v : ℕ). part (Rattle.cdb_make.specs.Spans.end_from (head_size w) (take k (map length ps))) v b) (sym (length-record_bytes w r) ∙ ap length (sym bytes))
    ∙ piece_at (head_size w) k ps b (omega (arith, length-map all (record_bytes w))) h.stand ∙ bytes in
    let high : get_or (places_in m.places) (k + 1) m.end ≤ m.end = place_high (k + 1) h.of in
    let few : record_size w r ≤ l.TOP = omega (arith, high, next, size, m.fits, top) in
    let fits : PairFits l.TOP (lengths_of r) = record { first = omega (arith, few); second = omega (arith, few) } in
    (reads_as w l.TOP (get_or (places_in m.places) k m.end) b r words fits at, next ∙ ap (λ (n : ℕ). get_or (places_in m.places) k m.end + n) size)

-- true if it has a key and does not go
pub fresh_at : (key : List ℕ) (ms : List Bool) (rs : List KeyValue) (k : ℕ) (r : KeyValue) → length ms ≡ length rs → k < length rs → get_or (fresh key ms rs) k false ≡ cond (get_or ms k true) false (has_key key (get_or rs k r))
fresh_at key [] [] k r e lt = absurd (omega arith)
fresh_at key [] (q ∷ rs) k r e lt = absurd (omega arith)
fresh_at key (m ∷ ms) [] k r e lt = absurd (omega arith)
fresh_at key (m ∷ ms) (q ∷ rs) zero r e lt = refl
fresh_at key (m ∷ ms) (q ∷ rs) (suc k) r e lt = fresh_at key ms rs k r (omega arith) (omega arith)

-- ---- with the number of the key

both_of : (m has : Bool) → cond m false has ≡ true → (m ≡ false) × (has ≡ true)
both_of true has e = absurd (let t : false ≡ true = e in cc)
both_of false has e = (refl, e)

pub fresh_has : {L : Type 0} {l : Widths L} (m : Roll L l) (all : List KeyValue) (b key : List ℕ) (number k : ℕ) → number ≡ sought_in m key → k < length all → length (gone_of (marks_in m)) ≡ length all → Sees m all b → IsFreshRecord key (gone_of (marks_in m)) all k
    → Has number (searched m) (gone_of (marks_in m)) k
fresh_has {l = l} m all b key number k is_sought lt long h is =
    let gone : List Bool = gone_of (marks_in m) in
    let d : KeyValue = record { key = []; value = [] } in
    let both = both_of (get_or gone k true) (has_key key (get_or all k d)) (sym (fresh_at key gone all k d long lt) ∙ is) in
    let same : (get_or all k d).key ≡ key = (bytes_eq-Decides (get_or all k d).key key).0 both.1 in
    record {
      same = ap (λ (v : List ℕ). slice_index v k) h.searched ∙ get_or-map (λ r. sought_in m r.key) all k d 0 lt ∙ ap (sought_in m) same ∙ sym is_sought;
      stays = both.0;
    }

-- no record has the key if none has the number up to some place, and none has the key from there on
pub none_fresh : {L : Type 0} {l : Widths L} (m : Roll L l) (all : List KeyValue) (b key : List ℕ) (number from before end : ℕ) → number ≡ sought_in m key → before ≤ end → end ≤ length m.hashes.items → Sees m all b
    → ((k : ℕ) → from ≤ k → k < before → Has number (searched m) (gone_of (marks_in m)) k → ⊥) → ((k : ℕ) → before ≤ k → k < end → IsFreshRecord key (gone_of (marks_in m)) all k → ⊥)
    → (k : ℕ) → from ≤ k → k < end → IsFreshRecord key (gone_of (marks_in m)) all k → ⊥
none_fresh m all b key number from before end is_sought low high h no_number none k above below is =
    let long = sees_long m all b h in
    elim (cases_lt k before) [
      | inl lt ↦ no_number k above lt (fresh_has m all b key number k is_sought (omega (arith, long)) (omega (arith, long, length-map (marks_in m) is_gone, (marks_long m))) h is)
      | inr past ↦ none k past below is
    ]

-- a look at its place
pub looked_none : {L : Type 0} {l : Widths L} (m : Roll L l) (all : List KeyValue) (b key : List ℕ) (k place : ℕ) → l.TOP + 1 ≡ 256 ^ l.WORD → l.GREATEST ≤ l.TOP → k < length all → length (gone_of (marks_in m)) ≡ length all → place ≡ get_or (places_in m.places) k m.end → Sees m all b
    → has_key_at l.WORD key b place ≡ false → IsFreshRecord key (gone_of (marks_in m)) all k → ⊥
looked_none {l = l} m all b key k place words top lt long at h none is =
    let gone : List Bool = gone_of (marks_in m) in
    let d : KeyValue = record { key = []; value = [] } in
    let r : KeyValue = get_or all k d in
    let both = both_of (get_or gone k true) (has_key key r) (sym (fresh_at key gone all k d long lt) ∙ is) in
    let reads = (sees_at m all b k r words top lt (get_or_default all k r d lt) h).0 in
    let no : has_key key r ≡ false = ap (λ (v : List ℕ). bytes_eq v key) (sym reads.key) ∙ ap (has_key_at l.WORD key b) (sym at) ∙ none in
    (let t : true ≡ false = sym both.1 ∙ no in cc)

pub looked_some : {L : Type 0} {l : Widths L} (m : Roll L l) (all : List KeyValue) (b key : List ℕ) (k place : ℕ) → l.TOP + 1 ≡ 256 ^ l.WORD → l.GREATEST ≤ l.TOP → k < length all → length (gone_of (marks_in m)) ≡ length all → place ≡ get_or (places_in m.places) k m.end → Sees m all b
    → has_key_at l.WORD key b place ≡ true → get_or (gone_of (marks_in m)) k true ≡ false → IsFreshRecord key (gone_of (marks_in m)) all k
looked_some {l = l} m all b key k place words top lt long at h some stays =
    let gone : List Bool = gone_of (marks_in m) in
    let d : KeyValue = record { key = []; value = [] } in
    let r : KeyValue = get_or all k d in
    let reads = (sees_at m all b k r words top lt (get_or_default all k r d lt) h).0 in
    let yes : has_key key r ≡ true = ap (λ (v : List ℕ). bytes_eq v key) (sym reads.key) ∙ ap (has_key_at l.WORD key b) (sym at) ∙ some in
    fresh_at key gone all k d long lt ∙ ap (λ (v : Bool). cond v false (has_key key r)) stays ∙ yes

pub looked_foreign : {L : Type 0} {l : Widths L} (m : Roll L l) (all : List KeyValue) (b : List ℕ) (k place next : ℕ) → l.TOP + 1 ≡ 256 ^ l.WORD → l.GREATEST ≤ l.TOP → k < length all → place ≡ get_or (places_in m.places) k m.end → next ≡ get_or (places_in m.places) (k + 1) m.end → Sees m all b
    → next < place + size_at l.WORD place b → ⊥
looked_foreign {l = l} m all b k place next words top lt at behind h past =
    let d : KeyValue = record { key = []; value = [] } in
    let r : KeyValue = get_or all k d in
    let q = sees_at m all b k r words top lt (get_or_default all k r d lt) h in
    let size : size_at l.WORD place b ≡ record_size l.WORD r = ap (λ (v : ℕ). size_at l.WORD v b) at ∙ q.0.size in
    omega (arith, at, behind, q.1, size)

-- what a look that answered says of the key
pub has_it : {w p end : ℕ} {key : List ℕ} {images : List ℕ → Type 0} (o : Option ℕ) → is_some o ≡ true → LooksAtImages w p end key (Ok o) images → (b : List ℕ) → images b → has_key_at w key b p ≡ true
has_it (Some n) e l b is = (l.each b is).1
has_it None e l b is = absurd (let k : false ≡ true = e in cc)

pub has_it_not : {w p end : ℕ} {key : List ℕ} {images : List ℕ → Type 0} (o : Option ℕ) → is_some o ≡ false → LooksAtImages w p end key (Ok o) images → (b : List ℕ) → images b → has_key_at w key b p ≡ false
has_it_not (Some n) e l b is = absurd (let k : true ≡ false = e in cc)
has_it_not None e l b is = (l.each b is).1

-- the same records have the same numbers
same_numbers : {L : Type 0} {l : Widths L} (old new : Roll L l) (all : List KeyValue) → (0 < length all → new.tagged ≡ old.tagged) → map (λ r. sought_in old r.key) all ≡ map (λ r. sought_in new r.key) all
same_numbers old new [] same = refl
same_numbers old new (r ∷ rs) same = ap (λ (v : Bool). map (λ q. sought_by v q.key) (r ∷ rs)) (sym (same (omega arith)))

pub sees_same : {L : Type 0} {l : Widths L} (old new : Roll L l) (all : List KeyValue) (b : List ℕ) → SameRecords old new → Sees old all b → Sees new all b
sees_same old new all b same h = record {
  are = h.are;
  stand = h.stand;
  hashes = same.hashes ∙ h.hashes;
  searched = same.searched ∙ h.searched ∙ same_numbers old new all (λ some. same.tagged (omega (arith, some, sees_long old all b h)));
  of = record { are = same.places ∙ h.of.are; ends = same.end ∙ h.of.ends };
}

pub same_self : {L : Type 0} {l : Widths L} (m : Roll L l) → SameRecords m m
same_self m = record { hashes = refl; searched = refl; tagged = λ some. refl; places = refl; end = refl }

pub same_back : {L : Type 0} {l : Widths L} (old new : Roll L l) → SameRecords old new → SameRecords new old
same_back old new same = record {
  hashes = sym same.hashes;
  searched = sym same.searched;
  tagged = λ some. sym (same.tagged (omega (arith, some, ap length same.hashes)));
  places = sym same.places;
  end = sym same.end;
}

pub same_then : {L : Type 0} {l : Widths L} (i j k : Roll L l) → SameRecords i j → SameRecords j k → SameRecords i k
same_then i j k f h = record {
  hashes = h.hashes ∙ f.hashes;
  searched = h.searched ∙ f.searched;
  tagged = λ some. h.tagged (omega (arith, some, ap length f.hashes)) ∙ f.tagged some;
  places = h.places ∙ f.places;
  end = h.end ∙ f.end;
}

pub length-fresh : (key : List ℕ) (ms : List Bool) (rs : List KeyValue) → length ms ≡ length rs → length (fresh key ms rs) ≡ length rs
length-fresh key [] [] e = refl
length-fresh key [] (r ∷ rs) e = absurd (omega arith)
length-fresh key (m ∷ ms) [] e = absurd (omega arith)
length-fresh key (m ∷ ms) (r ∷ rs) e = ap suc (length-fresh key ms rs (omega arith))
