-- The walk of a file, one record after the other.
use Rattle.cdb_form.proofs.Words.{Damage, KeyValue, List, None, Option, Some, Walked, WordPair, [], ap, arith, cond-false, cond-true, damaged, drop, eq-eqb, first_table_at, head_at, head_size, if◌then◌else◌, inl, inr, le-ltb, length, length-take, lt-ltb, nat_lt, ne_eqb, no_walk, pair_at, prefix_size, record_end, record_size, refl, sum_by, sum_by-cons, sym, take, walk_from, walk_of, whole_records, with_first, ℕ, ◌*◌, ◌++◌, ◌+◌, ◌-◌, ◌<◌, ◌==◌, ◌∙◌, ◌∷◌, ◌≡◌, ◌≤◌, ◌⊎◌}
use Rattle.cdb_form.specs.declared.damage.Damage.TheVariants.{Short, Table, Record}
use Rattle.cdb_form.proofs.Files.Prefixes.{Begins, Begins-take, all_records, all_records-more, whole_records-none, pair_at-front, take_past}

-- the damage of a walk that stops at a place
abbrev pub stopped : ℕ → ℕ → Option Damage
stopped stop end = if stop == end then None else Some (Record stop)

-- the walk of some records
abbrev pub walk_with : ℕ → ℕ → ℕ → List KeyValue → Walked
walk_with w place end rs = record { records = rs; damage = stopped (place + sum_by (record_size w) rs) end }

walk_with-more : (w place end : ℕ) (r : KeyValue) (rs : List KeyValue) → walk_with w place end (r ∷ rs) ≡ with_first r (walk_with w (place + record_size w r) end rs)
walk_with-more w place end r rs =
    let both = sum_by-cons (record_size w) r rs in
    let e : place + sum_by (record_size w) (r ∷ rs) ≡ place + record_size w r + sum_by (record_size w) rs = omega arith in
    ap (λ stop. let v : Walked = record { records = r ∷ rs; damage = stopped stop end } in v) e

pub walk_from-is : (w place end : ℕ) (bytes : List ℕ) → walk_from w place end bytes ≡ walk_with w place end (all_records w (take (end - place) bytes))
unfolding walk_from
walk_from-is w place end bytes = refl

-- a whole record before the record end, and then the walk after it
pub walk_from-more : (w place end : ℕ) (bytes : List ℕ) (r : KeyValue) (rest : List ℕ) → 0 < w → Begins w bytes r rest → place + record_size w r ≤ end
    → walk_from w place end bytes ≡ with_first r (walk_from w (place + record_size w r) end rest)
walk_from-more w place end bytes r rest some b room =
    let n : end - place ≡ record_size w r + (end - (place + record_size w r)) = omega arith in
    walk_from-is w place end bytes
    ∙ ap (λ k. walk_with w place end (all_records w (take k bytes))) n
    ∙ ap (walk_with w place end) (all_records-more w (take (record_size w r + (end - (place + record_size w r))) bytes) r (take (end - (place + record_size w r)) rest) some (Begins-take w (end - (place + record_size w r)) bytes r rest b))
    ∙ walk_with-more w place end r (all_records w (take (end - (place + record_size w r)) rest))
    ∙ ap (with_first r) (sym (walk_from-is w (place + record_size w r) end rest))

-- no record is left at the record end
pub walk_from-end : (w place end : ℕ) (bytes : List ℕ) → place ≡ end → walk_from w place end bytes ≡ no_walk
unfolding whole_records
walk_from-end w place end bytes at =
    let none : end - place ≡ 0 = omega arith in
    let e : place + 0 ≡ end = omega arith in
    walk_from-is w place end bytes
    ∙ ap (λ k. walk_with w place end (all_records w (take k bytes))) none
    ∙ ap (λ d. let v : Walked = record { records = []; damage = d } in v) (cond-true (place + 0 == end) _ _ (eq-eqb (place + 0) end e))

-- before it, if no whole record follows, the walk stops
pub walk_from-stop : (w place end : ℕ) (bytes : List ℕ) → place < end → length (take (end - place) bytes) < prefix_size w (take (end - place) bytes) → walk_from w place end bytes ≡ damaged (Record place)
walk_from-stop w place end bytes before short =
    let e : place + 0 ≡ place = omega arith in
    let other : place ≡ end → ⊥ = λ s. absurd (omega arith) in
    walk_from-is w place end bytes
    ∙ ap (walk_with w place end) (whole_records-none w (length (take (end - place) bytes)) (take (end - place) bytes) short)
    ∙ ap (λ stop. let v : Walked = record { records = []; damage = stopped stop end } in v) e
    ∙ ap (λ d. let v : Walked = record { records = []; damage = d } in v) (cond-false (place == end) _ _ (ne_eqb place end other))

-- there is no room for a header, or the file has none
pub walk_from-no_header : (w place end : ℕ) (bytes : List ℕ) → place < end → (end - place < 2 * w) ⊎ (length bytes < 2 * w) → walk_from w place end bytes ≡ damaged (Record place)
walk_from-no_header w place end bytes before few =
    walk_from-stop w place end bytes before (let l = length-take (end - place) bytes in elim few [ inl a ↦ omega arith | inr b ↦ omega arith ])

-- there is no room for what the header says, or the file has not got it
pub walk_from-no_body : (w place end : ℕ) (bytes header more : List ℕ) → place < end → bytes ≡ header ++ more → length header ≡ 2 * w → 2 * w ≤ end - place
    → (end - place < prefix_size w header) ⊎ (length bytes < prefix_size w header) → walk_from w place end bytes ≡ damaged (Record place)
walk_from-no_body w place end bytes header more before split long room few =
    let n : end - place ≡ 2 * w + (end - place - 2 * w) = omega arith in
    let area : take (end - place) bytes ≡ header ++ take (end - place - 2 * w) more = ap (λ k. take k bytes) n ∙ ap (take (2 * w + (end - place - 2 * w))) split ∙ take_past header more (2 * w) (end - place - 2 * w) long in
    let words : pair_at w (take (end - place) bytes) ≡ pair_at w header = ap (pair_at w) area ∙ pair_at-front w header (take (end - place - 2 * w) more) long in
    let size : prefix_size w (take (end - place) bytes) ≡ prefix_size w header = ap (λ (p : WordPair). 2 * w + p.first + p.second) words in
    let l = length-take (end - place) bytes in
    walk_from-stop w place end bytes before (elim few [ inl a ↦ omega arith | inr b ↦ omega arith ])

-- the three ways of a walk
pub walk_of-short : (w : ℕ) (bytes : List ℕ) → length bytes < head_size w → walk_of w bytes ≡ damaged Short
unfolding walk_of
walk_of-short w bytes h = cond-true (nat_lt (length bytes) (head_size w)) _ _ (lt-ltb (length bytes) (head_size w) h)

pub walk_of-table : (w : ℕ) (bytes : List ℕ) → head_size w ≤ length bytes → record_end w bytes < head_size w → walk_of w bytes ≡ damaged (Table (first_table_at (record_end w bytes) (head_at w bytes)))
unfolding walk_of
walk_of-table w bytes h t =
    cond-false (nat_lt (length bytes) (head_size w)) _ _ (le-ltb (length bytes) (head_size w) h)
    ∙ cond-true (nat_lt (record_end w bytes) (head_size w)) _ _ (lt-ltb (record_end w bytes) (head_size w) t)

pub walk_of-records : (w : ℕ) (bytes : List ℕ) → head_size w ≤ length bytes → head_size w ≤ record_end w bytes → walk_of w bytes ≡ walk_from w (head_size w) (record_end w bytes) (drop (head_size w) bytes)
unfolding walk_of
walk_of-records w bytes h t =
    cond-false (nat_lt (length bytes) (head_size w)) _ _ (le-ltb (length bytes) (head_size w) h)
    ∙ cond-false (nat_lt (record_end w bytes) (head_size w)) _ _ (le-ltb (record_end w bytes) (head_size w) t)
