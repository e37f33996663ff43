-- Records that are written at the start of some bytes are the records that are read there.
use Rattle.cdb_form.proofs.Words.{AllByRecursion, AreBytes, KeyValue, List, PairFits, WordPair, [], ap, append-nil, append_assoc, arith, cond_both, drop, drop-drop, flat_map, leb-true, length, length-drop, length-take, pair_at, pair_bytes, prefix_record, prefix_size, record_bytes, record_size, refl, suc, sum_by, sum_by-cons, sym, take, take-append-drop, whole_records, zero, ℕ, ◌%◌, ◌*◌, ◌++◌, ◌+◌, ◌/◌, ◌<◌, ◌^◌, ◌∙◌, ◌∷◌, ◌≡◌, ◌≤◌}
use Rattle.std.specs.Int.{byte_at, bytes_low_first}
use Rattle.std.proofs.Math.Nat.{div-div-eq-div-mul, div-one, pow-succ'}
use Rattle.byteorder.specs.Endian.{little_from}
use Rattle.byteorder.specs.Numbers.{little_from-cons}
use Rattle.cdb_form.proofs.Bytes.HeadLemmas.{length-pair_bytes}
use Rattle.cdb_form.proofs.Bytes.ReadBack.{pair_at-pair_bytes, same_words}
use Rattle.cdb_form.proofs.Files.Prefixes.{lengths_of, Begins, all_records, all_records-more, fits_prefix}

-- the bytes of a record, and then others
pub Begins-record_bytes : (w top : ℕ) (r : KeyValue) (rest : List ℕ) → top + 1 ≡ 256 ^ w → PairFits top (lengths_of r) → Begins w (record_bytes w r ++ rest) r rest
unfolding record_bytes
Begins-record_bytes w top r rest top_is fit = record {
  header = pair_bytes w (lengths_of r);
  long = length-pair_bytes w (lengths_of r);
  lengths = ap (pair_at w) (sym (append-nil (pair_bytes w (lengths_of r)))) ∙ pair_at-pair_bytes w top (lengths_of r) [] top_is fit;
  split = append_assoc (pair_bytes w (lengths_of r) ++ r.key) r.value rest ∙ append_assoc (pair_bytes w (lengths_of r)) r.key (r.value ++ rest);
}

-- the bytes of some records, and then others
pub all_records-flat_map : (w top : ℕ) (rs : List KeyValue) (rest : List ℕ) → 0 < w → top + 1 ≡ 256 ^ w → AllByRecursion (λ r. PairFits top (lengths_of r)) rs
    → all_records w (flat_map (record_bytes w) rs ++ rest) ≡ rs ++ all_records w rest
all_records-flat_map w top [] rest some top_is fits = refl
all_records-flat_map w top (r ∷ rs) rest some top_is fits =
    ap (all_records w) (append_assoc (record_bytes w r) (flat_map (record_bytes w) rs) rest)
    ∙ all_records-more w (record_bytes w r ++ (flat_map (record_bytes w) rs ++ rest)) r (flat_map (record_bytes w) rs ++ rest) some (Begins-record_bytes w top r (flat_map (record_bytes w) rs ++ rest) top_is fits.0)
    ∙ ap (λ t. r ∷ t) (all_records-flat_map w top rs rest some top_is fits.1)

-- lengths fit if the records do
pub lengths_fit : (w top : ℕ) (rs : List KeyValue) → sum_by (record_size w) rs ≤ top → AllByRecursion (λ r. PairFits top (lengths_of r)) rs
lengths_fit w top [] room = tt
lengths_fit w top (r ∷ rs) room =
    let both = sum_by-cons (record_size w) r rs in
    (record { first = omega arith; second = omega arith }, lengths_fit w top rs (omega arith))

byte_at-pow : (k x : ℕ) → byte_at k x ≡ x / 256 ^ k % 256
byte_at-pow zero x = ap (λ (y : ℕ). y % 256) (sym (div-one x))
byte_at-pow (suc k) x = refl

byte_at-more : (i a y : ℕ) → a < 256 → byte_at (suc i) (a + 256 * y) ≡ byte_at i y
byte_at-more i a y h =
    let low : (a + 256 * y) / 256 ≡ y = omega arith in
    byte_at-pow (suc i) (a + 256 * y)
    ∙ ap (λ p. (a + 256 * y) / p % 256) (pow-succ' 256 i)
    ∙ ap (λ q. q % 256) (sym (div-div-eq-div-mul (a + 256 * y) 256 (256 ^ i)))
    ∙ ap (λ q. q / 256 ^ i % 256) low
    ∙ sym (byte_at-pow i y)

bytes_low_first-more : (k i a y : ℕ) → a < 256 → bytes_low_first (suc i) k (a + 256 * y) ≡ bytes_low_first i k y
bytes_low_first-more zero i a y h = refl
bytes_low_first-more (suc k) i a y h =
    ap (λ b. b ∷ bytes_low_first (suc (suc i)) k (a + 256 * y)) (byte_at-more i a y h) ∙ ap (λ t. byte_at i y ∷ t) (bytes_low_first-more k (suc i) a y h)

-- the bytes of the number that some bytes read as
pub little_bytes-little_from : (k : ℕ) (xs : List ℕ) → AreBytes xs → k ≤ length xs → bytes_low_first 0 k (little_from 0 k xs) ≡ take k xs
little_bytes-little_from zero xs bytes l = refl
little_bytes-little_from (suc k) [] bytes l = absurd (omega arith)
little_bytes-little_from (suc k) (a ∷ xs) bytes l =
    let byte : a < 256 = bytes 0 in
    let low : (a + 256 * little_from 0 k xs) % 256 ≡ a = omega arith in
    ap (λ r. bytes_low_first 0 (suc k) (a + 256 * r)) (little_from-cons 0 k a xs)
    ∙ ap (λ b. b ∷ bytes_low_first 1 k (a + 256 * little_from 0 k xs)) low
    ∙ ap (λ t. a ∷ t) (bytes_low_first-more k 0 a (little_from 0 k xs) byte ∙ little_bytes-little_from k xs (λ i. bytes (suc i)) (omega arith))

pub AreBytes-drop : (n : ℕ) (xs : List ℕ) → AreBytes xs → AreBytes (drop n xs)
AreBytes-drop zero xs all = all
AreBytes-drop (suc n) [] all = all
AreBytes-drop (suc n) (x ∷ xs) all = AreBytes-drop n xs (λ i. all (suc i))

pair_bytes-pair_at : (w : ℕ) (xs : List ℕ) → AreBytes xs → 2 * w ≤ length xs → pair_bytes w (pair_at w xs) ++ drop (2 * w) xs ≡ xs
pair_bytes-pair_at w xs bytes l =
    let one = little_bytes-little_from w xs bytes (omega arith) in
    let two = little_bytes-little_from w (drop w xs) (AreBytes-drop w xs bytes) (omega (arith, length-drop w xs)) in
    let twice : w + w ≡ 2 * w = omega arith in
    ap (λ t. (t ++ bytes_low_first 0 w (little_from 0 w (drop w xs))) ++ drop (2 * w) xs) one
    ∙ ap (λ t. (take w xs ++ t) ++ drop (2 * w) xs) two
    ∙ append_assoc (take w xs) (take w (drop w xs)) (drop (2 * w) xs)
    ∙ ap (λ t. take w xs ++ (take w (drop w xs) ++ t)) (sym (drop-drop w w xs ∙ ap (λ n. drop n xs) twice))
    ∙ ap (λ t. take w xs ++ t) (take-append-drop w (drop w xs))
    ∙ take-append-drop w xs

-- a record that is whole at the start is written there
pub prefix_stands : (w : ℕ) (xs : List ℕ) → AreBytes xs → prefix_size w xs ≤ length xs → xs ≡ record_bytes w (prefix_record w xs) ++ drop (prefix_size w xs) xs
unfolding record_bytes
prefix_stands w xs bytes h =
    let k = (pair_at w xs).first in
    let v = (pair_at w xs).second in
    let r = prefix_record w xs in
    let a = length-take (pair_at w xs).first (drop (2 * w) xs) in
    let b = length-drop (2 * w) xs in
    let c = length-take (pair_at w xs).second (drop (2 * w + (pair_at w xs).first) xs) in
    let d = length-drop (2 * w + (pair_at w xs).first) xs in
    let lens : lengths_of (prefix_record w xs) ≡ pair_at w xs = same_words (lengths_of (prefix_record w xs)) (pair_at w xs) (omega arith) (omega arith) in
    let key : take (pair_at w xs).first (drop (2 * w) xs) ++ drop (2 * w + (pair_at w xs).first) xs ≡ drop (2 * w) xs =
    ap (λ t. take (pair_at w xs).first (drop (2 * w) xs) ++ t) (sym (drop-drop (pair_at w xs).first (2 * w) xs)) ∙ take-append-drop (pair_at w xs).first (drop (2 * w) xs) in
    let value : take (pair_at w xs).second (drop (2 * w + (pair_at w xs).first) xs) ++ drop (prefix_size w xs) xs ≡ drop (2 * w + (pair_at w xs).first) xs =
    ap (λ t. take (pair_at w xs).second (drop (2 * w + (pair_at w xs).first) xs) ++ t) (sym (drop-drop (pair_at w xs).second (2 * w + (pair_at w xs).first) xs)) ∙ take-append-drop (pair_at w xs).second (drop (2 * w + (pair_at w xs).first) xs) in
    sym (
    append_assoc (pair_bytes w (lengths_of (prefix_record w xs)) ++ (prefix_record w xs).key) (prefix_record w xs).value (drop (prefix_size w xs) xs)
    ∙ ap (λ t. (pair_bytes w (lengths_of (prefix_record w xs)) ++ (prefix_record w xs).key) ++ t) value
    ∙ append_assoc (pair_bytes w (lengths_of (prefix_record w xs))) (prefix_record w xs).key (drop (2 * w + (pair_at w xs).first) xs)
    ∙ ap (λ t. pair_bytes w (lengths_of (prefix_record w xs)) ++ t) key
    ∙ ap (λ (p : WordPair). pair_bytes w p ++ drop (2 * w) xs) lens
    ∙ pair_bytes-pair_at w xs bytes (omega arith))

-- and so do all that are read
pub whole_records-stand : (w most : ℕ) (xs : List ℕ) → AreBytes xs → (rest : List ℕ) × (xs ≡ flat_map (record_bytes w) (whole_records w most xs) ++ rest)
unfolding whole_records
whole_records-stand w zero xs bytes = (xs, refl)
whole_records-stand w (suc most) xs bytes =
    cond_both (fits_prefix w xs) (prefix_record w xs ∷ whole_records w most (drop (prefix_size w xs) xs)) [] (λ rs. (rest : List ℕ) × (xs ≡ flat_map (record_bytes w) rs ++ rest))
    (λ t.
    (let size = leb-true (prefix_size w xs) (length xs) t in
    let ih = whole_records-stand w most (drop (prefix_size w xs) xs) (AreBytes-drop (prefix_size w xs) xs bytes) in (
      ih.0,
      prefix_stands w xs bytes size
          ∙ ap (λ u. record_bytes w (prefix_record w xs) ++ u) ih.1
          ∙ sym (append_assoc (record_bytes w (prefix_record w xs)) (flat_map (record_bytes w) (whole_records w most (drop (prefix_size w xs) xs))) ih.0),
    )))
    (λ f. (xs, refl))
