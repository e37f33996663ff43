-- How many entries the tables have.
use Rattle.cdb_make.proofs.Words.{List, WordPair, [], ap, arith, empty_slot, get_or, length, length-replicate, map, mul-le-mul_left, refl, replicate, sum, sum_by, sum_by-cons, sum_by_more, sum_by_more_le, sym, take, ℕ, ◌*◌, ◌+◌, ◌<◌, ◌∙◌, ◌∷◌, ◌≡◌, ◌≤◌}

-- slots of one table more
pub counts_more : (k : ℕ) (ns : List ℕ) (i : ℕ) → i < length ns → k * sum (take (i + 1) ns) ≡ k * sum (take i ns) + k * get_or ns i 0
counts_more k ns i lt =
    let e : sum (take (i + 1) ns) ≡ sum (take i ns) + get_or ns i 0 = sum_by_more (λ (n : ℕ). n) ns i 0 lt in
    ap (λ (n : ℕ). k * n) e ∙ omega arith

-- are no more than those of all
pub counts_within : (k : ℕ) (ns : List ℕ) (i : ℕ) → i < length ns → k * sum (take i ns) + k * get_or ns i 0 ≤ k * sum ns
counts_within k ns i lt =
    let e : sum (take i ns) + get_or ns i 0 ≤ sum ns = sum_by_more_le (λ (n : ℕ). n) ns i 0 lt in
    omega (arith, mul-le-mul_left k e)

pub sum_lengths : (ls : List (List WordPair)) → sum (map length ls) ≡ sum_by length ls
sum_lengths [] = refl
sum_lengths (l ∷ ls) = omega (arith, sum_lengths ls, sum_by-cons (λ (n : ℕ). n) (length l) (map length ls), sum_by-cons length l ls)

-- some lists of these lengths
pub lists_of : List ℕ → List (List WordPair)
lists_of ns = map (λ n. replicate n empty_slot) ns

pub lengths_of : (ns : List ℕ) → ns ≡ map length (lists_of ns)
unfolding lists_of
lengths_of [] = refl
lengths_of (n ∷ ns) = ap (λ (m : ℕ). m ∷ ns) (sym (length-replicate n empty_slot)) ∙ ap (λ (v : List ℕ). length (replicate n empty_slot) ∷ v) (lengths_of ns)
