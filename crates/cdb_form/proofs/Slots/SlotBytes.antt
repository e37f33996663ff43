-- The slots that the bytes of a table hold.
use Rattle.cdb_form.proofs.Words.{AreBytes, List, WordPair, [], ap, arith, bytes_low_first, cases_eq, cases_lt, drop, empty_slot, flat_map, flat_map-append, get_or, inl, inr, length, map, nth_pair, pair_at, pair_bytes, pair_size, range_with_len, refl, replicate, slice_set, slots_in, subst, suc, sym, take, take-add, zero, ℕ, ◌*◌, ◌++◌, ◌+◌, ◌-◌, ◌/◌, ◌<◌, ◌∙◌, ◌∷◌, ◌≡◌, ◌≤◌, ◌⊎◌}
use Rattle.std.proofs.Math.Nat.{mul-div-le, mul-le-mul_left, mul-div_cancel_left}
use Rattle.std.proofs.lemmas.Grind.{get_or-set_at}
use Rattle.std.proofs.lemmas.List.{length-replicate, length-set, length-take-le, take-append-le, take-take, take_all, drop-take, drop-drop, drop_at, get_or-set_other, get_or-replicate, take-replicate, drop-replicate, append-nil, length-drop}
use Rattle.std.proofs.lemmas.List.FromFn.{fill_by_all, get_or-map-range_with_len, length-map-range_with_len, map-range_with_len_more}
use Rattle.cdb_form.proofs.Files.Standing.{AreBytes-drop, little_bytes-little_from}
use Rattle.cdb_form.proofs.Bytes.WordLemmas.{pair_at-take, pair_at_part}
use Rattle.cdb_form.proofs.Bytes.HeadLemmas.{rest_of, length-pair_bytes}
use borrow.Rule.Slice.PartMut.{mid_of, put_mid, post_of, mid_len, same_len_mid, take_put, drop_put}

-- the number of slots that some bytes hold
pub length-slots_in : (w : ℕ) (bytes : List ℕ) → length (slots_in w bytes) ≡ length bytes / pair_size w
unfolding slots_in
length-slots_in w bytes = length-map-range_with_len (nth_pair w bytes) 0 (length bytes / pair_size w)

-- n slots have as many bytes
pairs_in : (w n m : ℕ) → (w ≡ 4) ⊎ (w ≡ 8) → m ≡ pair_size w * n → m / pair_size w ≡ n
pairs_in w n m (inl e) em = ap (λ (l : ℕ). l / pair_size w) em ∙ mul-div_cancel_left n {n = pair_size w} (omega arith)
pairs_in w n m (inr e) em = ap (λ (l : ℕ). l / pair_size w) em ∙ mul-div_cancel_left n {n = pair_size w} (omega arith)

pub count_slots : (w n : ℕ) (bytes : List ℕ) → (w ≡ 4) ⊎ (w ≡ 8) → length bytes ≡ pair_size w * n → length (slots_in w bytes) ≡ n
count_slots w n bytes ww long = length-slots_in w bytes ∙ pairs_in w n (length bytes) ww long

-- a slot lies within the bytes
pub slot_within : (w size at : ℕ) (bytes : List ℕ) → size ≡ pair_size w → at < length (slots_in w bytes) → size * at + size ≤ length bytes
slot_within w size at bytes es low =
    let count = length-slots_in w bytes in
    let low : at + 1 ≤ length bytes / pair_size w = omega (arith, low, count) in
    let up : pair_size w * (at + 1) ≤ pair_size w * (length bytes / pair_size w) = mul-le-mul_left (pair_size w) low in
    let all = mul-div-le (length bytes) (pair_size w) in
    let same : size * at ≡ pair_size w * at = ap (λ (s : ℕ). s * at) es in
    omega (arith, up, all, same)

-- each of them is a pair of words
pub get_or-slots_in : (w at : ℕ) (bytes : List ℕ) → at < length (slots_in w bytes) → get_or (slots_in w bytes) at empty_slot ≡ nth_pair w bytes at
unfolding slots_in
get_or-slots_in w at bytes low =
    let count = length-slots_in w bytes in
    get_or-map-range_with_len (nth_pair w bytes) 0 (length bytes / pair_size w) at at empty_slot (omega (arith, low, count)) (omega arith)

-- the second word of a slot, read from its bytes
pub place_word : (w size at r : ℕ) (bytes slot : List ℕ) → size ≡ pair_size w → r ≡ w → at < length (slots_in w bytes) → slot ≡ mid_of (size * at) ((size * at + size) - size * at) bytes
    → (pair_at w (mid_of r (length slot - r) slot)).first ≡ (get_or (slots_in w bytes) at empty_slot).second
place_word w size at r bytes slot es er low is =
    let within = slot_within w size at bytes es low in
    let long : length slot ≡ size = ap length is ∙ mid_len (size * at) (size * at + size) bytes within ∙ omega arith in
    let rest : mid_of r (length slot - r) slot ≡ drop w slot = rest_of r (length slot) slot refl ∙ ap (λ (n : ℕ). drop n slot) er in
    let whole : pair_at w slot ≡ nth_pair w bytes at = ap (pair_at w) is ∙ pair_at_part w at (size * at) ((size * at + size) - size * at) bytes (ap (λ (s : ℕ). s * at) es) (omega (arith, es)) in
    ap (λ xs. (pair_at w xs).first) rest ∙ ap (λ (p : WordPair). p.second) (whole ∙ sym (get_or-slots_in w at bytes low))

-- two words that are stored in the same bytes
same_pair : (w i : ℕ) (xs ys : List ℕ) → take (w + w) (drop i xs) ≡ take (w + w) (drop i ys) → pair_at w (drop i xs) ≡ pair_at w (drop i ys)
same_pair w i xs ys e = sym (pair_at-take w (drop i xs)) ∙ ap (pair_at w) e ∙ pair_at-take w (drop i ys)

-- the bytes before a part
take_before : (i m a : ℕ) (xs ys : List ℕ) → i + m ≤ a → take a xs ≡ take a ys → take m (drop i xs) ≡ take m (drop i ys)
take_before i m a xs ys low e =
    sym (drop-take i m xs) ∙ ap (drop i) (sym (take-take (i + m) a xs low) ∙ ap (take (i + m)) e ∙ take-take (i + m) a ys low) ∙ drop-take i m ys

-- the bytes after a part
drop_behind : (i e : ℕ) (xs ys : List ℕ) → e ≤ i → drop e xs ≡ drop e ys → drop i xs ≡ drop i ys
drop_behind i e xs ys high same =
    let sum : e + (i - e) ≡ i = omega arith in
    ap (λ (j : ℕ). drop j xs) (sym sum) ∙ sym (drop-drop (i - e) e xs) ∙ ap (drop (i - e)) same ∙ drop-drop (i - e) e ys ∙ ap (λ (j : ℕ). drop j ys) sum

-- two words put in the place of a pair are the pair there
put_here : (w at a e : ℕ) (bytes ys : List ℕ) → a ≡ pair_size w * at → e ≡ a + pair_size w → e ≤ length bytes → length ys ≡ pair_size w → nth_pair w (put_mid a (e - a) bytes ys) at ≡ pair_at w ys
put_here w at a e bytes ys ea ee within long =
    let rest : List ℕ = post_of a (e - a) bytes in
    let here : drop (pair_size w * at) (put_mid a (e - a) bytes ys) ≡ ys ++ rest =
    ap (λ (j : ℕ). drop j (put_mid a (e - a) bytes ys)) (sym ea) ∙ drop_at (take a bytes) (ys ++ rest) a (length-take-le a bytes (omega arith)) in
    let few : take (w + w) (ys ++ rest) ≡ take (w + w) ys = take-append-le (w + w) ys rest (omega arith) in
    ap (pair_at w) here ∙ sym (pair_at-take w (ys ++ rest)) ∙ ap (pair_at w) few ∙ pair_at-take w ys

-- and no other pair changes
put_elsewhere : (w at a e k : ℕ) (bytes ys : List ℕ) → a ≡ pair_size w * at → e ≡ a + pair_size w → e ≤ length bytes → length ys ≡ pair_size w → (k ≡ at → ⊥) → nth_pair w (put_mid a (e - a) bytes ys) k ≡ nth_pair w bytes k
put_elsewhere w at a e k bytes ys ea ee within long other =
    let new : List ℕ = put_mid a (e - a) bytes ys in
    elim (cases_lt k at) [
      | inl low ↦
          let up : pair_size w * (k + 1) ≤ pair_size w * at = mul-le-mul_left (pair_size w) (omega (arith, low)) in
          same_pair w (pair_size w * k) new bytes (take_before (pair_size w * k) (w + w) a new bytes (omega (arith, up, ea)) (take_put a (e - a) bytes ys (omega (arith, within, ee))))
      | inr high ↦
          let up : pair_size w * (at + 1) ≤ pair_size w * k = mul-le-mul_left (pair_size w) (omega (arith, high, other)) in
          ap (pair_at w) (drop_behind (pair_size w * k) e new bytes (omega (arith, up, ea, ee)) (drop_put a e bytes ys (omega (arith, ee)) within (omega (arith, ee, long))))
    ]

-- a slot is written in its bytes
pub slots_in-put : (w size at : ℕ) (bytes ys : List ℕ) (p : WordPair) → size ≡ pair_size w → at < length (slots_in w bytes) → ys ≡ pair_bytes w p → pair_at w ys ≡ p → slots_in w (put_mid (size * at) ((size * at + size) - size * at) bytes ys) ≡ slice_set (slots_in w bytes) at p
unfolding slots_in
slots_in-put w size at bytes ys p es low written back =
    let a : ℕ = size * at in
    let new : List ℕ = put_mid a ((a + size) - a) bytes ys in
    let n : ℕ = length bytes / pair_size w in
    let ea : a ≡ pair_size w * at = ap (λ (s : ℕ). s * at) es in
    let within : a + size ≤ length bytes = slot_within w size at bytes es low in
    let long : length ys ≡ pair_size w = ap length written ∙ length-pair_bytes w p in
    let same : length new ≡ length bytes = same_len_mid a ((a + size) - a) bytes ys (long ∙ sym (mid_len a (a + size) bytes within ∙ omega (arith, es))) in
    let count : length (slots_in w bytes) ≡ n = length-slots_in w bytes in
    let all : map (nth_pair w new) (range_with_len 0 n) ≡ slice_set (slots_in w bytes) at (pair_at w ys) =
    sym (fill_by_all (nth_pair w new) (slice_set (slots_in w bytes) at (pair_at w ys)) n empty_slot (simp length-set count)
    (λ k few. elim (cases_eq k at) [
      | inl here ↦ get_or-set_at (slots_in w bytes) at k (pair_at w ys) empty_slot here low ∙ sym (put_here w at a (a + size) bytes ys ea (omega (arith, es)) within long) ∙ ap (nth_pair w new) (sym here)
      | inr other ↦
          get_or-set_other (slots_in w bytes) at k (pair_at w ys) empty_slot other ∙ get_or-slots_in w k bytes (omega (arith, few, count)) ∙ sym (put_elsewhere w at a (a + size) k bytes ys ea (omega (arith, es)) within long other)
    ])) in
    ap (λ (l : ℕ). map (nth_pair w new) (range_with_len 0 (l / pair_size w))) same ∙ all ∙ ap (slice_set (slots_in w bytes) at) back

-- the words of zeros
zero_pair : (w : ℕ) → (w ≡ 4) ⊎ (w ≡ 8) → pair_at w (replicate (w + w) 0) ≡ empty_slot
zero_pair w (inl e) = subst (λ (n : ℕ). pair_at n (replicate (n + n) 0) ≡ empty_slot) (sym e) refl
zero_pair w (inr e) = subst (λ (n : ℕ). pair_at n (replicate (n + n) 0) ≡ empty_slot) (sym e) refl

-- a part of zeros
zeros : (i k m : ℕ) → i + k ≤ m → take k (drop i (replicate {A = ℕ} m 0)) ≡ replicate k 0
zeros i k m within = ap (take k) (drop-replicate {X = ℕ} i m 0) ∙ take-replicate {X = ℕ} k (m - i) 0 (omega arith)

-- zeros are empty slots
pub slots_in-zeros : (w n m : ℕ) → (w ≡ 4) ⊎ (w ≡ 8) → m ≡ pair_size w * n → slots_in w (replicate m 0) ≡ replicate n empty_slot
unfolding slots_in
slots_in-zeros w n m ww em =
    let bytes : List ℕ = replicate m 0 in
    let count : length bytes / pair_size w ≡ n = pairs_in w n (length bytes) ww (length-replicate m 0 ∙ em) in
    ap (λ (l : ℕ). map (nth_pair w bytes) (range_with_len 0 l)) count
    ∙ sym (fill_by_all (nth_pair w bytes) (replicate n empty_slot) n empty_slot (length-replicate n empty_slot)
    (λ k few.
    let up : pair_size w * (k + 1) ≤ pair_size w * n = mul-le-mul_left (pair_size w) (omega (arith, few)) in
    get_or-replicate n k empty_slot empty_slot few
    ∙ sym (sym (pair_at-take w (drop (pair_size w * k) bytes)) ∙ ap (pair_at w) (zeros (pair_size w * k) (w + w) m (omega (arith, up, em))) ∙ zero_pair w ww)))

-- two words read from bytes are those bytes again
pair_again : (w : ℕ) (xs : List ℕ) → pair_size w ≤ length xs → AreBytes xs → pair_bytes w (pair_at w xs) ≡ take (w + w) xs
pair_again w xs long are =
    let first = little_bytes-little_from w xs are (omega arith) in
    let second = little_bytes-little_from w (drop w xs) (AreBytes-drop w xs are) (simp length-drop (omega arith)) in
    ap (λ (t : List ℕ). t ++ bytes_low_first 0 w (pair_at w xs).second) first ∙ ap (λ (t : List ℕ). take w xs ++ t) second ∙ sym (take-add w w xs)

-- some bytes are those of the pairs in them
pairs_again : (w n : ℕ) (bytes : List ℕ) → pair_size w * n ≤ length bytes → AreBytes bytes → flat_map (pair_bytes w) (map (nth_pair w bytes) (range_with_len 0 n)) ≡ take (pair_size w * n) bytes
pairs_again w zero bytes long are = let none : 0 ≡ pair_size w * 0 = omega arith in ap (λ (k : ℕ). take k bytes) none
pairs_again w (suc n) bytes long are =
    let a : ℕ = pair_size w * n in
    let before : a ≤ length bytes = omega (arith, long) in
    let ih = pairs_again w n bytes before are in
    let sum : pair_size w * suc n ≡ a + (w + w) = omega arith in
    let last = pair_again w (drop a bytes) (simp length-drop (omega (arith, long))) (AreBytes-drop a bytes are) in
    let one : suc n ≡ n + 1 = omega arith in
    ap (λ (k : ℕ). flat_map (pair_bytes w) (map (nth_pair w bytes) (range_with_len 0 k))) one
    ∙ ap (flat_map (pair_bytes w)) (map-range_with_len_more (nth_pair w bytes) 0 n n (omega arith))
    ∙ flat_map-append (pair_bytes w) (map (nth_pair w bytes) (range_with_len 0 n)) (nth_pair w bytes n ∷ [])
    ∙ ap (λ (t : List ℕ). flat_map (pair_bytes w) (map (nth_pair w bytes) (range_with_len 0 n)) ++ t) (append-nil (pair_bytes w (nth_pair w bytes n)) ∙ last)
    ∙ ap (λ (t : List ℕ). t ++ take (w + w) (drop a bytes)) ih
    ∙ sym (ap (λ (k : ℕ). take k bytes) sum ∙ take-add a (w + w) bytes)

-- bytes of n slots are those of the slots that they hold
pub bytes_of-slots_in : (w n : ℕ) (bytes : List ℕ) → (w ≡ 4) ⊎ (w ≡ 8) → length bytes ≡ pair_size w * n → AreBytes bytes → bytes ≡ flat_map (pair_bytes w) (slots_in w bytes)
unfolding slots_in
bytes_of-slots_in w n bytes ww long are =
    let count : length bytes / pair_size w ≡ n = pairs_in w n (length bytes) ww long in
    sym (ap (λ (k : ℕ). flat_map (pair_bytes w) (map (nth_pair w bytes) (range_with_len 0 k))) count
    ∙ pairs_again w n bytes (omega (arith, long)) are ∙ take_all (pair_size w * n) bytes (omega (arith, long)))
