-- Words that were written are read back.
use Rattle.cdb_form.proofs.Words.{AllByRecursion, List, PairFits, WordPair, [], ap, append-nil, append_assoc, arith, drop, drop-drop, drop_at, empty_slot, fill_by_all, flat_map, get_or, head_at, length, map, nth_pair, pair_at, pair_bytes, range_with_len, recursion_from_All, suc, sym, zero, ℕ, ◌*◌, ◌++◌, ◌+◌, ◌<◌, ◌^◌, ◌∙◌, ◌∷◌, ◌≡◌}
use Rattle.std.specs.Prelude.{All}
use Rattle.byteorder.specs.Endian.{little_bytes, little_number}
use Rattle.byteorder.specs.Numbers.{length-bytes_low_first, little_number-reads_back}
use Rattle.cdb_form.proofs.Bytes.HeadLemmas.{length-pair_bytes}

pub same_words : (a b : WordPair) → a.first ≡ b.first → a.second ≡ b.second → a ≡ b
same_words a b f s = ap (λ x. let p : WordPair = record { first = x; second = a.second } in p) f ∙ ap (λ x. let p : WordPair = record { first = b.first; second = x } in p) s

pub pair_at-pair_bytes : (w top : ℕ) (p : WordPair) (rest : List ℕ) → top + 1 ≡ 256 ^ w → PairFits top p → pair_at w (pair_bytes w p ++ rest) ≡ p
pair_at-pair_bytes w top p rest top_is fit =
    let whole = append_assoc (little_bytes w p.first) (little_bytes w p.second) rest in
    let first : p.first < 256 ^ w = omega (arith, fit.first) in
    let second : p.second < 256 ^ w = omega (arith, fit.second) in
    let one : little_number w (pair_bytes w p ++ rest) ≡ p.first = ap (little_number w) whole ∙ little_number-reads_back w p.first (little_bytes w p.second ++ rest) first in
    let two : little_number w (drop w (pair_bytes w p ++ rest)) ≡ p.second =
    ap (λ t. little_number w (drop w t)) whole
    ∙ ap (little_number w) (drop_at (little_bytes w p.first) (little_bytes w p.second ++ rest) w (length-bytes_low_first 0 w p.first))
    ∙ little_number-reads_back w p.second rest second in
    same_words (pair_at w (pair_bytes w p ++ rest)) p one two

pub drop-pair_bytes : (w n : ℕ) (p : WordPair) (rest : List ℕ) → drop (2 * w + n) (pair_bytes w p ++ rest) ≡ drop n rest
drop-pair_bytes w n p rest = sym (drop-drop n (2 * w) (pair_bytes w p ++ rest)) ∙ ap (drop n) (drop_at (pair_bytes w p) rest (2 * w) (length-pair_bytes w p))

-- the i-th of some words
pub nth_pair-flat_map : (w top i : ℕ) (ps : List WordPair) (d : WordPair) (rest : List ℕ) → top + 1 ≡ 256 ^ w → i < length ps → AllByRecursion (PairFits top) ps → nth_pair w (flat_map (pair_bytes w) ps ++ rest) i ≡ get_or ps i d
nth_pair-flat_map w top i [] d rest top_is l fits = absurd (omega arith)
nth_pair-flat_map w top zero (p ∷ ps) d rest top_is l fits =
    let none : 2 * w * 0 ≡ 0 = omega arith in
    ap (λ n. pair_at w (drop n (flat_map (pair_bytes w) (p ∷ ps) ++ rest))) none
    ∙ ap (pair_at w) (append_assoc (pair_bytes w p) (flat_map (pair_bytes w) ps) rest)
    ∙ pair_at-pair_bytes w top p (flat_map (pair_bytes w) ps ++ rest) top_is fits.0
nth_pair-flat_map w top (suc i) (p ∷ ps) d rest top_is l fits =
    let more : 2 * w * suc i ≡ 2 * w + 2 * w * i = omega arith in
    ap (λ n. pair_at w (drop n (flat_map (pair_bytes w) (p ∷ ps) ++ rest))) more
    ∙ ap (λ t. pair_at w (drop (2 * w + 2 * w * i) t)) (append_assoc (pair_bytes w p) (flat_map (pair_bytes w) ps) rest)
    ∙ ap (pair_at w) (drop-pair_bytes w (2 * w * i) p (flat_map (pair_bytes w) ps ++ rest))
    ∙ nth_pair-flat_map w top i ps d rest top_is (omega arith) fits.1

-- all of them
pub map-nth_pair : (w top n : ℕ) (ps : List WordPair) (rest : List ℕ) → top + 1 ≡ 256 ^ w → length ps ≡ n → AllByRecursion (PairFits top) ps → map (nth_pair w (flat_map (pair_bytes w) ps ++ rest)) (range_with_len 0 n) ≡ ps
map-nth_pair w top n ps rest top_is long fits = sym (fill_by_all (nth_pair w (flat_map (pair_bytes w) ps ++ rest)) ps n empty_slot long (λ k l. sym (nth_pair-flat_map w top k ps empty_slot rest top_is (omega arith) fits)))

-- a head
pub head_at-flat_map : (w top : ℕ) (ps : List WordPair) (bytes : List ℕ) → top + 1 ≡ 256 ^ w → length ps ≡ 256 → All (PairFits top) ps → bytes ≡ flat_map (pair_bytes w) ps → head_at w bytes ≡ ps
unfolding head_at
head_at-flat_map w top ps bytes top_is long fits e =
    ap (λ b. map (nth_pair w b) (range_with_len 0 256)) (e ∙ sym (append-nil (flat_map (pair_bytes w) ps)))
    ∙ map-nth_pair w top 256 ps [] top_is long (recursion_from_All (PairFits top) ps fits)
