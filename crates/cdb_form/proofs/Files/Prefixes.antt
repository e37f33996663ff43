-- A record at the start of some bytes, and all whole records there.
use Rattle.std.proofs.Common.{◌≡◌, ℕ, zero, suc, ◌+◌, ◌*◌, ◌<◌, ◌≤◌, Bool, List, [], ◌∷◌, ◌++◌, length, take, drop, refl, sym, ap, ◌∙◌, arith, inl, inr, append_assoc, length-append, length-drop}
use Rattle.std.specs.Prelude.{nat_le}
use Rattle.cdb_form.proofs.Words.{KeyValue, WordPair, drop-drop, drop_at, pair_at, prefix_record, prefix_size, record_size, take-add, take_at, whole_records}
use Rattle.std.proofs.lemmas.Bool.{cases_Bool, cond-true, cond-false, le-leb, lt-leb, leb-true}
use Rattle.cdb_form.proofs.Bytes.WordLemmas.{pair_at-take}

-- the lengths of a record
abbrev pub lengths_of : KeyValue → WordPair
lengths_of r = record { first = length r.key; second = length r.value }

-- a record is at the start of some bytes, and then the rest
pub record Begins (w : ℕ) (bytes : List ℕ) (r : KeyValue) (rest : List ℕ) : Type 0 where
  pub header : List ℕ
  pub long : length header ≡ 2 * w
  pub lengths : pair_at w header ≡ lengths_of r
  pub split : bytes ≡ header ++ (r.key ++ (r.value ++ rest))

-- only the first 2 * w bytes are looked at
pub pair_at-front : (w : ℕ) (xs ys : List ℕ) → length xs ≡ 2 * w → pair_at w (xs ++ ys) ≡ pair_at w xs
pair_at-front w xs ys long =
    let twice : length xs ≡ w + w = omega arith in
    sym (pair_at-take w (xs ++ ys)) ∙ ap (pair_at w) (take_at xs ys (w + w) twice)

pub take_past : (xs ys : List ℕ) (n m : ℕ) → length xs ≡ n → take (n + m) (xs ++ ys) ≡ xs ++ take m ys
take_past xs ys n m long = take-add n m (xs ++ ys) ∙ ap (λ t. t ++ take m (drop n (xs ++ ys))) (take_at xs ys n long) ∙ ap (λ t. xs ++ take m t) (drop_at xs ys n long)

-- how the record reads
pub record Reads (w : ℕ) (bytes : List ℕ) (r : KeyValue) (rest : List ℕ) : Type 0 where
  pub size : prefix_size w bytes ≡ record_size w r
  pub is : prefix_record w bytes ≡ r
  pub rest_is : drop (record_size w r) bytes ≡ rest
  pub long : record_size w r + length rest ≡ length bytes

pub same_record : (a b : KeyValue) → a.key ≡ b.key → a.value ≡ b.value → a ≡ b
same_record a b k v = ap (λ x. let p : KeyValue = record { key = x; value = a.value } in p) k ∙ ap (λ x. let p : KeyValue = record { key = b.key; value = x } in p) v

pub prefix_reads : (w : ℕ) (bytes : List ℕ) (r : KeyValue) (rest : List ℕ) → Begins w bytes r rest → Reads w bytes r rest
prefix_reads w bytes r rest b =
    let tail : List ℕ = r.key ++ (r.value ++ rest) in
    let lens : pair_at w bytes ≡ lengths_of r = ap (pair_at w) b.split ∙ pair_at-front w b.header (r.key ++ (r.value ++ rest)) b.long ∙ b.lengths in
    let one : drop (2 * w) bytes ≡ r.key ++ (r.value ++ rest) = ap (drop (2 * w)) b.split ∙ drop_at b.header (r.key ++ (r.value ++ rest)) (2 * w) b.long in
    let two : drop (2 * w + length r.key) bytes ≡ r.value ++ rest = sym (drop-drop (length r.key) (2 * w) bytes) ∙ ap (drop (length r.key)) one ∙ drop_at r.key (r.value ++ rest) (length r.key) refl in
    let three : drop (2 * w + length r.key + length r.value) bytes ≡ rest = sym (drop-drop (length r.value) (2 * w + length r.key) bytes) ∙ ap (drop (length r.value)) two ∙ drop_at r.value rest (length r.value) refl in
    let long : record_size w r + length rest ≡ length bytes =
    omega (arith, ap length b.split, b.long, length-append b.header (r.key ++ (r.value ++ rest)), length-append r.key (r.value ++ rest), length-append r.value rest) in
    record {
      size = ap (λ (p : WordPair). 2 * w + p.first + p.second) lens;
      is = same_record (prefix_record w bytes) r
          (ap (λ (p : WordPair). take p.first (drop (2 * w) bytes)) lens ∙ ap (take (length r.key)) one ∙ take_at r.key (r.value ++ rest) (length r.key) refl)
          (ap (λ (p : WordPair). take p.second (drop (2 * w + p.first) bytes)) lens ∙ ap (take (length r.value)) two ∙ take_at r.value rest (length r.value) refl);
      rest_is = three;
      long = long;
    }

-- and if the bytes are cut after it
pub Begins-take : (w m : ℕ) (bytes : List ℕ) (r : KeyValue) (rest : List ℕ) → Begins w bytes r rest → Begins w (take (record_size w r + m) bytes) r (take m rest)
Begins-take w m bytes r rest b =
    let join : bytes ≡ (b.header ++ (r.key ++ r.value)) ++ rest =
    b.split ∙ ap (λ t. b.header ++ t) (sym (append_assoc r.key r.value rest)) ∙ sym (append_assoc b.header (r.key ++ r.value) rest) in
    let long : length (b.header ++ (r.key ++ r.value)) ≡ record_size w r = omega (arith, b.long, length-append b.header (r.key ++ r.value), length-append r.key r.value) in
    record {
      header = b.header;
      long = b.long;
      lengths = b.lengths;
      split = ap (take (record_size w r + m)) join ∙ take_past (b.header ++ (r.key ++ r.value)) rest (record_size w r) m long
          ∙ append_assoc b.header (r.key ++ r.value) (take m rest) ∙ ap (λ t. b.header ++ t) (append_assoc r.key r.value (take m rest));
    }

abbrev pub fits_prefix : ℕ → List ℕ → Bool
fits_prefix w bytes = nat_le (prefix_size w bytes) (length bytes)

-- if no whole record is at the start, there is no record
pub whole_records-none : (w most : ℕ) (bytes : List ℕ) → length bytes < prefix_size w bytes → whole_records w most bytes ≡ []
unfolding whole_records
whole_records-none w zero bytes short = refl
whole_records-none w (suc most) bytes short = cond-false (fits_prefix w bytes) _ _ (lt-leb (prefix_size w bytes) (length bytes) short)

-- all records are found with any room for them
pub whole_records-room : (w m n : ℕ) (bytes : List ℕ) → 0 < w → length bytes ≤ m → length bytes ≤ n → whole_records w m bytes ≡ whole_records w n bytes
unfolding whole_records
whole_records-room w zero n bytes some hm hn = sym (whole_records-none w n bytes (omega arith))
whole_records-room w (suc m) zero bytes some hm hn = whole_records-none w (suc m) bytes (omega arith)
whole_records-room w (suc m) (suc n) bytes some hm hn = elim (cases_Bool (fits_prefix w bytes)) [
  | inl t ↦
      (let size = leb-true (prefix_size w bytes) (length bytes) t in
      let rest = length-drop (prefix_size w bytes) bytes in
      cond-true (fits_prefix w bytes) _ _ t
      ∙ ap (λ rs. prefix_record w bytes ∷ rs) (whole_records-room w m n (drop (prefix_size w bytes) bytes) some (omega arith) (omega arith))
      ∙ sym (cond-true (fits_prefix w bytes) _ _ t))
  | inr f ↦ cond-false (fits_prefix w bytes) _ _ f ∙ sym (cond-false (fits_prefix w bytes) _ _ f)
]

-- all whole records at the start of some bytes
abbrev pub all_records : ℕ → List ℕ → List KeyValue
all_records w bytes = whole_records w (length bytes) bytes

whole_records-one : (w most : ℕ) (bytes : List ℕ) → prefix_size w bytes ≤ length bytes → whole_records w (suc most) bytes ≡ prefix_record w bytes ∷ whole_records w most (drop (prefix_size w bytes) bytes)
unfolding whole_records
whole_records-one w most bytes h = cond-true (fits_prefix w bytes) _ _ (le-leb (prefix_size w bytes) (length bytes) h)

-- one record, and then those of the rest
pub all_records-more : (w : ℕ) (bytes : List ℕ) (r : KeyValue) (rest : List ℕ) → 0 < w → Begins w bytes r rest → all_records w bytes ≡ r ∷ all_records w rest
all_records-more w bytes r rest some b =
    let reads = prefix_reads w bytes r rest b in
    let size = reads.size in
    let long = reads.long in
    let behind : drop (prefix_size w bytes) bytes ≡ rest = ap (λ n. drop n bytes) size ∙ reads.rest_is in
    whole_records-room w (length bytes) (suc (length bytes)) bytes some (omega arith) (omega arith)
    ∙ whole_records-one w (length bytes) bytes (omega arith)
    ∙ ap (λ q. q ∷ whole_records w (length bytes) (drop (prefix_size w bytes) bytes)) reads.is
    ∙ ap (λ t. r ∷ whole_records w (length bytes) t) behind
    ∙ ap (λ rs. r ∷ rs) (whole_records-room w (length bytes) (length rest) rest some (omega arith) (omega arith))
