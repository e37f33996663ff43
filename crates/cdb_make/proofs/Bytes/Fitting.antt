-- The first whole records of some bytes.
use Rattle.cdb_make.proofs.Words.{AreBytes, AreFirst, ImagesHold, IsRecord, KeyValue, List, [], ap, append-nil, append_assoc, arith, drop, drop-drop, drop-take, flat_map, flat_map-append, inl, inr, length, length-drop, length-record_bytes, length-take, pair_at, part, prefix_record, prefix_size, record_bytes, record_size, records_at, refl, suc, sym, take, take-append-drop, take-take, take_at, whole_records, whole_size, ℕ, ◌*◌, ◌++◌, ◌+◌, ◌-◌, ◌<◌, ◌∙◌, ◌∷◌, ◌≡◌, ◌≤◌}
use Rattle.std.specs.List.{AllByRecursion}
use Rattle.std.specs.Prelude.{All, ◌^◌, sum_by}
use Rattle.std.proofs.Math.Seq.{drop-length, take-add, take-length}
use Rattle.std.proofs.lemmas.List.Elements.{recursion_from_All}
use Rattle.std.proofs.lemmas.List.Sums.{sum_by_push, sum_by-take-le}
use Rattle.std.proofs.lemmas.Bool.{cases_lt, cond-true, le-leb}
use Rattle.cdb_store.proofs.Parts.{part_part}
use Rattle.cdb_form.proofs.Bytes.ByteLemmas.{AreBytes-take}
use Rattle.cdb_form.specs.Laws.Text.{LengthsFit}
use Rattle.cdb_form.specs.Views.Pairs.{PairFits}
use Rattle.cdb_form.proofs.Files.Prefixes.{fits_prefix, lengths_of, whole_records-none, whole_records-room}
use Rattle.cdb_form.proofs.Files.Sizes.{length-records}
use Rattle.cdb_form.proofs.Files.Standing.{AreBytes-drop, all_records-flat_map, prefix_stands}

-- a whole record, and then those of the rest
pub records_at-cons : (w : ℕ) (xs : List ℕ) → 0 < w → prefix_size w xs ≤ length xs → records_at w xs ≡ prefix_record w xs ∷ records_at w (drop (prefix_size w xs) xs)
unfolding whole_records
records_at-cons w xs some fits =
    let l = length-drop (prefix_size w xs) xs in
    whole_records-room w (length xs) (suc (length xs)) xs some (omega arith) (omega arith)
    ∙ cond-true (fits_prefix w xs) _ _ (le-leb (prefix_size w xs) (length xs) fits)
    ∙ ap (λ rs. prefix_record w xs ∷ rs) (whole_records-room w (length xs) (length (drop (prefix_size w xs) xs)) (drop (prefix_size w xs) xs) some (omega arith) (omega arith))

-- or none
pub records_at-none : (w : ℕ) (xs : List ℕ) → length xs < prefix_size w xs → records_at w xs ≡ []
records_at-none w xs short = whole_records-none w (length xs) xs short

-- the record has the size that its header gives, and its own bytes
pub prefix_sized : (w : ℕ) (xs : List ℕ) → prefix_size w xs ≤ length xs → record_size w (prefix_record w xs) ≡ prefix_size w xs
prefix_sized w xs fits =
    let a = length-take (pair_at w xs).first (drop (2 * w) xs) in
    let b = length-drop (2 * w) xs in
    let c = length-take (pair_at w xs).second (drop (2 * w + (pair_at w xs).first) xs) in
    let d = length-drop (2 * w + (pair_at w xs).first) xs in
    omega arith

pub prefix_bytes : (w : ℕ) (xs : List ℕ) → AreBytes xs → prefix_size w xs ≤ length xs → take (prefix_size w xs) xs ≡ record_bytes w (prefix_record w xs)
prefix_bytes w xs bytes fits =
    ap (take (prefix_size w xs)) (prefix_stands w xs bytes fits)
    ∙ take_at (record_bytes w (prefix_record w xs)) (drop (prefix_size w xs) xs) (prefix_size w xs) (length-record_bytes w (prefix_record w xs) ∙ prefix_sized w xs fits)

pub prefix_is_record : (w : ℕ) (xs : List ℕ) → AreBytes xs → IsRecord (prefix_record w xs)
prefix_is_record w xs bytes =
    let p = pair_at w xs in
    record {
      key = AreBytes-take p.first (drop (2 * w) xs) (AreBytes-drop (2 * w) xs bytes);
      value = AreBytes-take p.second (drop (2 * w + p.first) xs) (AreBytes-drop (2 * w + p.first) xs bytes);
    }

-- a list cut before an item and after it
abbrev SplitsAt : {A : Type 0} → ℕ → List A → A → Type 0
SplitsAt k xs x = (k < length xs) × (take (k + 1) xs ≡ take k xs ++ x ∷ []) × (drop k xs ≡ x ∷ drop (k + 1) xs)

cut_at : {A : Type 0} (k : ℕ) (xs ys : List A) (x : A) → drop k xs ≡ x ∷ ys → SplitsAt k xs x
cut_at k xs ys x e =
    let l = length-drop k xs in
    let m : length (drop k xs) ≡ suc (length ys) = ap length e in
    let behind : drop (k + 1) xs ≡ ys = sym (drop-drop 1 k xs) ∙ ap (drop 1) e in (
      omega arith,
      take-add k 1 xs ∙ ap (λ t. take k xs ++ take 1 t) e,
      e ∙ ap (λ t. x ∷ t) (sym behind),
    )

-- no record is first
pub first_none : (w : ℕ) (bytes : List ℕ) → AreFirst w bytes 0 0
first_none w bytes = record { few = omega arith; within = omega arith; sum = refl; are = refl; rest = refl }

-- whole records that are all bytes are all that there are
pub all_first : (w : ℕ) (bytes : List ℕ) (count : ℕ) → AreFirst w bytes count (length bytes) → take count (records_at w bytes) ≡ records_at w bytes
unfolding whole_records
all_first w bytes count first =
    let all : List KeyValue = records_at w bytes in
    let none : drop count all ≡ [] = sym first.rest ∙ ap (records_at w) (drop-length bytes) in
    sym (append-nil (take count all)) ∙ ap (λ rs. take count all ++ rs) (sym none) ∙ take-append-drop count all

-- the next record
pub next_splits : (w : ℕ) (bytes : List ℕ) (count place : ℕ) → 0 < w → AreFirst w bytes count place → prefix_size w (drop place bytes) ≤ length (drop place bytes)
    → SplitsAt count (records_at w bytes) (prefix_record w (drop place bytes))
next_splits w bytes count place some first fits =
    cut_at count (records_at w bytes) (records_at w (drop (prefix_size w (drop place bytes)) (drop place bytes))) (prefix_record w (drop place bytes)) (sym first.rest ∙ records_at-cons w (drop place bytes) some fits)

pub first_more : (w : ℕ) (bytes : List ℕ) (count place size : ℕ) → 0 < w → AreBytes bytes → AreFirst w bytes count place → size ≡ prefix_size w (drop place bytes)
    → size ≤ length (drop place bytes) → AreFirst w bytes (count + 1) (place + size)
first_more w bytes count place size some are first is fits =
    let xs : List ℕ = drop place bytes in
    let all : List KeyValue = records_at w bytes in
    let r : KeyValue = prefix_record w xs in
    let own : prefix_size w xs ≤ length xs = omega arith in
    let cut = next_splits w bytes count place some first own in
    let long = length-drop place bytes in
    let sized : record_size w (prefix_record w (drop place bytes)) ≡ prefix_size w (drop place bytes) = prefix_sized w xs own in
    let push : sum_by (record_size w) (take (count + 1) all) ≡ sum_by (record_size w) (take count all) + record_size w r = ap (sum_by (record_size w)) cut.1 ∙ sum_by_push (record_size w) (take count all) r in
    let next : take size xs ≡ record_bytes w r = ap (λ (n : ℕ). take n xs) is ∙ prefix_bytes w xs (AreBytes-drop place bytes are) own in
    let whole : flat_map (record_bytes w) (take (count + 1) all) ≡ flat_map (record_bytes w) (take count all) ++ record_bytes w r =
    ap (flat_map (record_bytes w)) cut.1 ∙ flat_map-append (record_bytes w) (take count all) (r ∷ []) ∙ ap (λ v. flat_map (record_bytes w) (take count all) ++ v) (append-nil (record_bytes w r)) in
    let behind : drop size xs ≡ drop (place + size) bytes = drop-drop size place bytes in
    let cons : records_at w xs ≡ r ∷ records_at w (drop (prefix_size w xs) xs) = records_at-cons w xs some own in
    let tail : records_at w (drop (prefix_size w xs) xs) ≡ drop (count + 1) all = ap (drop 1) (sym cons) ∙ ap (drop 1) first.rest ∙ drop-drop 1 count all in
    record {
      few = omega (arith, cut.0);
      within = omega (arith, first.within);
      sum = omega (arith, first.sum);
      are = take-add place size bytes ∙ ap (λ v. take place bytes ++ v) next ∙ ap (λ v. v ++ record_bytes w r) first.are ∙ sym whole;
      rest = ap (records_at w) (sym behind) ∙ ap (λ (n : ℕ). records_at w (drop n xs)) is ∙ tail;
    }

-- a whole record follows if there are more records
pub next_fits : (w : ℕ) (bytes : List ℕ) (count place : ℕ) → AreFirst w bytes count place → count < length (records_at w bytes) → prefix_size w (drop place bytes) ≤ length (drop place bytes)
next_fits w bytes count place first more = elim (cases_lt (length (drop place bytes)) (prefix_size w (drop place bytes))) [
  | inl short ↦
      let none : drop count (records_at w bytes) ≡ [] = sym first.rest ∙ records_at-none w (drop place bytes) short in
      absurd (omega (arith, ap length none, length-drop count (records_at w bytes)))
  | inr fits ↦ fits
]

-- and no whole record follows if there are no more
pub no_next : (w : ℕ) (bytes : List ℕ) (count place : ℕ) → AreFirst w bytes count place → length (drop place bytes) < prefix_size w (drop place bytes) → count ≡ length (records_at w bytes)
no_next w bytes count place first short =
    let none : drop count (records_at w bytes) ≡ [] = sym first.rest ∙ records_at-none w (drop place bytes) short in
    let few : count ≤ length (records_at w bytes) = first.few in
    omega (arith, ap length none, length-drop count (records_at w bytes))

-- fewer records have no more
pub sum_take : {A : Type 0} (f : A → ℕ) (xs : List A) (i j : ℕ) → i ≤ j → sum_by f (take i xs) ≤ sum_by f (take j xs)
sum_take f xs i j le =
    let fewer = sum_by-take-le f (take j xs) i in
    let same : sum_by f (take i (take j xs)) ≡ sum_by f (take i xs) = ap (sum_by f) (take-take i j xs le) in
    omega arith

-- the sums with the next record
pub next_sums : (w : ℕ) (bytes : List ℕ) (count place : ℕ) → 0 < w → AreFirst w bytes count place → prefix_size w (drop place bytes) ≤ length (drop place bytes)
    → sum_by (whole_size w) (take (count + 1) (records_at w bytes)) ≡ sum_by (whole_size w) (take count (records_at w bytes)) + (prefix_size w (drop place bytes) + 4 * w)
next_sums w bytes count place some first fits =
    let all : List KeyValue = records_at w bytes in
    let r : KeyValue = prefix_record w (drop place bytes) in
    let cut = next_splits w bytes count place some first fits in
    let sized : record_size w (prefix_record w (drop place bytes)) ≡ prefix_size w (drop place bytes) = prefix_sized w (drop place bytes) fits in
    ap (sum_by (whole_size w)) cut.1 ∙ sum_by_push (whole_size w) (take count all) r ∙ ap (λ (n : ℕ). sum_by (whole_size w) (take count all) + (n + 4 * w)) sized

-- it lies within the bytes of more records
pub next_within : (w : ℕ) (bytes : List ℕ) (count place most size : ℕ) → 0 < w → AreBytes bytes → AreFirst w bytes count place → AreFirst w bytes most size → count < most
    → place + prefix_size w (drop place bytes) ≤ size
next_within w bytes count place most size some are first last lt =
    let more : count < length (records_at w bytes) = omega (arith, last.few) in
    let fits : prefix_size w (drop place bytes) ≤ length (drop place bytes) = next_fits w bytes count place first more in
    let next = first_more w bytes count place (prefix_size w (drop place bytes)) some are first refl fits in
    let le = sum_take (record_size w) (records_at w bytes) (count + 1) most (omega arith) in
    omega (arith, next.sum, last.sum)

-- and so its bytes are in a store that has theirs
pub next_stored : {images : List ℕ → Type 0} (w end : ℕ) (bytes : List ℕ) (count place most size : ℕ) → 0 < w → AreBytes bytes → AreFirst w bytes count place → AreFirst w bytes most size → count < most
    → ImagesHold end (take size bytes) images → ImagesHold (end + place) (record_bytes w (prefix_record w (drop place bytes))) images
next_stored w end bytes count place most size some are first last lt stored =
    let xs : List ℕ = drop place bytes in
    let n : ℕ = prefix_size w (drop place bytes) in
    let more : count < length (records_at w bytes) = omega (arith, last.few) in
    let fits : prefix_size w (drop place bytes) ≤ length (drop place bytes) = next_fits w bytes count place first more in
    let within : place + prefix_size w (drop place bytes) ≤ size = next_within w bytes count place most size some are first last lt in
    let long : length (record_bytes w (prefix_record w (drop place bytes))) ≡ prefix_size w (drop place bytes) = length-record_bytes w (prefix_record w xs) ∙ prefix_sized w xs fits in
    let whole : length (take size bytes) ≡ size = (let l = length-take size bytes in let k : size ≤ length bytes = last.within in omega arith) in
    let cut : part place n (take size bytes) ≡ take n xs =
    sym (drop-take place n (take size bytes)) ∙ ap (drop place) (take-take (place + n) size bytes within) ∙ drop-take place n bytes in
    record {
      each = λ b is.
          ap (λ (k : ℕ). part (end + place) k b) long
          ∙ sym (part_part end (length (take size bytes)) place n b (omega arith))
          ∙ ap (part place n) (stored.each b is)
          ∙ cut
          ∙ prefix_bytes w xs (AreBytes-drop place bytes are) fits;
    }

-- the records up to a count, from the next one on
pub next_of : {A : Type 0} (xs : List A) (k n : ℕ) (x : A) → k < n → SplitsAt k xs x → take n xs ≡ take k xs ++ x ∷ take (n - (k + 1)) (drop (k + 1) xs)
next_of xs k n x lt cut =
    let m : ℕ = n - (k + 1) in
    let e : n ≡ k + 1 + m = omega arith in
    ap (λ (j : ℕ). take j xs) e ∙ take-add (k + 1) m xs ∙ ap (λ t. t ++ take m (drop (k + 1) xs)) cut.1 ∙ append_assoc (take k xs) (x ∷ []) (take m (drop (k + 1) xs))

-- ---- the bytes of some records

pairs_fit : (top : ℕ) (rs : List KeyValue) → AllByRecursion (LengthsFit top) rs → AllByRecursion (λ r. PairFits top (lengths_of r)) rs
pairs_fit top [] fits = tt
pairs_fit top (r ∷ rs) fits = (record { first = fits.0.key; second = fits.0.value }, pairs_fit top rs fits.1)

-- they are read as these records
pub records_read : (w top : ℕ) (bytes : List ℕ) (rs : List KeyValue) → 0 < w → top + 1 ≡ 256 ^ w → All (LengthsFit top) rs → bytes ≡ flat_map (record_bytes w) rs → records_at w bytes ≡ rs
unfolding whole_records
records_read w top bytes rs some top_is fits are =
    ap (records_at w) (are ∙ sym (append-nil (flat_map (record_bytes w) rs)))
    ∙ all_records-flat_map w top rs [] some top_is (pairs_fit top rs (recursion_from_All (LengthsFit top) rs fits))
    ∙ append-nil rs

-- and all of them are whole
pub all_whole : (w top : ℕ) (bytes : List ℕ) (rs : List KeyValue) → 0 < w → top + 1 ≡ 256 ^ w → All (LengthsFit top) rs → bytes ≡ flat_map (record_bytes w) rs → AreFirst w bytes (length rs) (length bytes)
unfolding whole_records
all_whole w top bytes rs some top_is fits are =
    let read : records_at w bytes ≡ rs = records_read w top bytes rs some top_is fits are in
    let first : take (length rs) (records_at w bytes) ≡ rs = ap (take (length rs)) read ∙ take-length rs in
    record {
      few = omega (arith, ap length read);
      within = omega arith;
      sum = ap length are ∙ length-records w rs ∙ ap (sum_by (record_size w)) (sym first);
      are = take-length bytes ∙ are ∙ ap (flat_map (record_bytes w)) (sym first);
      rest = ap (records_at w) (drop-length bytes) ∙ sym (drop-length rs) ∙ ap (drop (length rs)) (sym read);
    }
