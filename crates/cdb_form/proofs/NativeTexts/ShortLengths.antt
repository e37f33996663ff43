-- The lengths of a record, found in one mask of 16 bytes.
use Rattle.cdb_form.proofs.Words.{AllDigits, List, [], ap, arith, digit_value, digits_value, drop, false, get_or, get_or-drop, get_or-map, inl, inr, leb, length, length-drop, length-map, length-take-le, map, mask_l, refl, subst, suc, sym, take, take-take, take_more, true, zero, ℕ, ◌%◌, ◌*◌, ◌++◌, ◌+◌, ◌-◌, ◌/◌, ◌<◌, ◌^◌, ◌∙◌, ◌∷◌, ◌≡◌, ◌≤◌}
use Rattle.std.proofs.Common.{Bool, cond, w64}
use Rattle.std.specs.Int.{bit_at}
use Rattle.std.specs.Int.Bits.{and_self, bit_and}
use Rattle.std.specs.Int.Count.{count_trailing_zeros}
use Rattle.std.proofs.lemmas.List.{get_or-take}
use Rattle.std.proofs.lemmas.Nat.{and_block, and_le_l, trailing_le}
use Rattle.std.proofs.lemmas.Nat.Bits.{bit_at-suc, bit_at-trailing_zeros, bit_at-zero, bit_at_lowest}
use Rattle.std.proofs.lemmas.Bool.{false≢true}
use Rattle.std.proofs.lemmas.Bool.Decides.{leb_tells}
use Rattle.std.proofs.lemmas.Simd.{bit_mask_l, mask_l-lt}
use Rattle.std.proofs.lemmas.Str.{digit_value_digit}
use lib.Count.{trailing_of_zero}
use Rattle.cdb_form.proofs.NativeTexts.PrefixLemmas.{BeginsWithNumeral}

-- true if a byte is no digit
abbrev pub is_end : ℕ → Bool
is_end c = leb 10 ((c + 208) % 256)

-- a number without its lowest bit
abbrev without_first : ℕ → ℕ
without_first n = bit_and n (n - 1)

abbrev pub without_next : ℕ → ℕ
without_next n = bit_and n ((n + 18446744073709551615) % 18446744073709551616)

abbrev pub zeros : ℕ → ℕ
zeros n = count_trailing_zeros 64 n

below_ten : (n : ℕ) → leb 10 n ≡ false → n < 10
below_ten n is = elim (leb_tells 10 n) [ inl above ↦ absurd (false≢true (sym is ∙ above.0)) | inr below ↦ below.1 ]

within_digits : (c : ℕ) → c < 256 → is_end c ≡ false → digit_value c < 10
within_digits c small is =
    let low : (c + 208) % 256 < 10 = below_ten ((c + 208) % 256) is in
    let range : (48 ≤ c) × (c ≤ 57) = (omega (arith, low, small), omega (arith, low, small)) in
    omega (arith, digit_value_digit c range, range.1)

no_bit : (b : Bool) (n : ℕ) → cond b 1 0 ≡ n → n ≡ 0 → b ≡ false
no_bit false n bit none = refl
no_bit true n bit none = absurd (omega (arith, bit, none))

-- a bit for each byte
bit_of : (bytes : List ℕ) (k : ℕ) → 16 ≤ length bytes → k < 16 → bit_at (mask_l (map is_end (take 16 bytes))) k ≡ cond (is_end (get_or bytes k 0)) 1 0
bit_of bytes k long few =
    let lanes = take 16 bytes in
    let size : k < length lanes = omega (arith, few, length-take-le 16 bytes long) in
    let lane : get_or (map is_end lanes) k false ≡ is_end (get_or bytes k 0) = get_or-map is_end lanes k 0 false size ∙ ap is_end (get_or-take 16 bytes k 0 few) in
    bit_mask_l (map is_end lanes) k ∙ ap (λ b. cond b 1 0) lane

-- a digit is where no bit is
digit_by_bit : (bytes : List ℕ) (k : ℕ) → 16 ≤ length bytes → k < 16 → get_or bytes k 0 < 256 → bit_at (mask_l (map is_end (take 16 bytes))) k ≡ 0 → digit_value (get_or bytes k 0) < 10
digit_by_bit bytes k long few small none =
    within_digits (get_or bytes k 0) small (no_bit (is_end (get_or bytes k 0)) (bit_at (mask_l (map is_end (take 16 bytes))) k) (sym (bit_of bytes k long few)) none)

-- ---- the lowest bit

bit_step : (n m j : ℕ) → n / 2 ≡ m → bit_at n (suc j) ≡ bit_at m j
bit_step n m j half = bit_at-suc n j ∙ ap (λ (x : ℕ). bit_at x j) half

-- an odd number loses its first bit alone
odd_bits : (n j : ℕ) → n % 2 ≡ 1 → bit_at (without_first n) (suc j) ≡ bit_at n (suc j)
odd_bits n j odd =
    let m = n / 2 in
    let is : n ≡ m * 2 + 1 = omega (arith, odd) in
    let less : n - 1 ≡ m * 2 + 0 = omega (arith, odd) in
    let both : without_first n ≡ m * 2 + 0 = ap (λ (x : ℕ). bit_and x (n - 1)) is ∙ ap (λ (x : ℕ). bit_and (m * 2 + 1) x) less ∙ and_block 1 m m 1 0 (omega arith) (omega arith) ∙ ap (λ (x : ℕ). x * 2 + 0) (and_self m) in
    bit_step (without_first n) m j (omega (arith, both)) ∙ sym (bit_step n m j refl)

-- an even number is twice another, and so are they without the lowest bits
even_half : (n m : ℕ) → n ≡ m * 2 → 0 < m → without_first n / 2 ≡ without_first m
even_half n m is some =
    let twice : n ≡ m * 2 + 0 = omega (arith, is) in
    let less : n - 1 ≡ (m - 1) * 2 + 1 = omega (arith, is, some) in
    let both : without_first n ≡ without_first m * 2 + bit_and 0 1 = ap (λ (x : ℕ). bit_and x (n - 1)) twice ∙ ap (λ (x : ℕ). bit_and (m * 2 + 0) x) less ∙ and_block 1 m (m - 1) 0 1 (omega arith) (omega arith) in
    omega (arith, both, and_le_l 0 1)

positive : (m place : ℕ) → bit_at m place ≡ 1 → 0 < m
positive zero place is = absurd (omega (arith, is, bit_at-zero place))
positive (suc m) place is = omega arith

-- the bits above the lowest one stay
pub higher_bits : (place n j : ℕ) → bit_at n place ≡ 1 → ((i : ℕ) → i < place → bit_at n i ≡ 0) → place < j → bit_at (without_first n) j ≡ bit_at n j
higher_bits place n zero is none above = absurd (omega (arith, above))
higher_bits zero n (suc j) is none above = odd_bits n j (sym (bit_at_lowest n) ∙ is)
higher_bits (suc place) n (suc j) is none above =
    let m = n / 2 in
    let even : n % 2 ≡ 0 = sym (bit_at_lowest n) ∙ none 0 (omega arith) in
    let twice : n ≡ m * 2 = omega (arith, even) in
    let at : bit_at m place ≡ 1 = sym (bit_step n m place refl) ∙ is in
    let below : (i : ℕ) → i < place → bit_at m i ≡ 0 = λ i l. sym (bit_step n m i refl) ∙ none (suc i) (omega (arith, l)) in
    let some : 0 < m = positive m place at in
    bit_step (without_first n) (without_first m) j (even_half n m twice some) ∙ higher_bits place m j at below (omega (arith, above)) ∙ sym (bit_step n m j refl)

-- ---- the two places

-- a number whose lowest bit is below the 64th is not 0
pub some_below : (n : ℕ) → zeros n < 64 → 0 < n
some_below zero few = absurd (omega (arith, few, trailing_of_zero 64))
some_below (suc n) few = omega arith

-- where the lengths of a record end
pub record ShortPlaces (bytes : List ℕ) (comma colon : ℕ) : Type 0 where
  pub key_some : 2 ≤ comma
  pub key_few : comma ≤ 5
  pub value_some : comma + 2 ≤ colon
  pub value_few : colon ≤ comma + 5
  pub key_each : (k : ℕ) → 1 ≤ k → k < comma → digit_value (get_or bytes k 0) < 10
  pub value_each : (k : ℕ) → comma + 1 ≤ k → k < colon → digit_value (get_or bytes k 0) < 10

next_less : (n : ℕ) → 0 < n → n < 2 ^ 64 → without_next n ≡ without_first n
next_less n some small =
    let less : (n + 18446744073709551615) % 18446744073709551616 ≡ n - 1 = omega (arith, some, small) in
    ap (λ (x : ℕ). bit_and n x) less

pub short_places : (bytes : List ℕ) (ends behind rest comma colon : ℕ) → 16 ≤ length bytes → ((k : ℕ) → get_or bytes k 0 < 256) → ends ≡ mask_l (map is_end (take 16 bytes)) → get_or bytes 0 0 ≡ 43 → behind ≡ without_next ends → comma ≡ zeros behind
    → rest ≡ without_next behind → colon ≡ zeros rest → 2 ≤ comma → comma ≤ 5 → comma + 2 ≤ colon → colon ≤ comma + 5 → ShortPlaces bytes comma colon
short_places bytes ends behind rest comma colon long bytes_are is plus without comma_is rest_is colon_is a b c d =
    let mask = mask_l (map is_end (take 16 bytes)) in
    let size : length (map is_end (take 16 bytes)) ≡ 16 = omega (arith, length-map (take 16 bytes) is_end, length-take-le 16 bytes long) in
    let few : ends < 65536 = omega (arith, is, subst (λ (n : ℕ). mask < 2 ^ n) size (mask_l-lt (map is_end (take 16 bytes)))) in
    let first : bit_at ends 0 ≡ 1 = ap (λ (x : ℕ). bit_at x 0) is ∙ bit_of bytes 0 long (omega arith) ∙ ap (λ (c : ℕ). cond (is_end c) 1 0) plus in
    let behind_is : behind ≡ without_first ends = without ∙ next_less ends (positive ends 0 first) (omega (arith, few)) in
    let high : (j : ℕ) → 0 < j → bit_at behind j ≡ bit_at ends j = λ j l. ap (λ (x : ℕ). bit_at x j) behind_is ∙ higher_bits 0 ends j first (λ i below. absurd (omega (arith, below))) l in
    let small : behind < 2 ^ 64 = omega (arith, few, behind_is, and_le_l ends (ends - 1)) in
    let some : 0 < behind = some_below behind (omega (arith, b, comma_is)) in
    let one = bit_at-trailing_zeros w64 behind some small in
    let next : rest ≡ without_first behind = rest_is ∙ next_less behind some small in
    let rest_small : rest < 2 ^ 64 = omega (arith, small, next, and_le_l behind (behind - 1)) in
    let rest_some : 0 < rest = some_below rest (omega (arith, b, d, colon_is)) in
    let two = bit_at-trailing_zeros w64 rest rest_some rest_small in
    let at : bit_at behind comma ≡ 1 = ap (λ (k : ℕ). bit_at behind k) comma_is ∙ one.1 in
    let before : (k : ℕ) → k < comma → bit_at behind k ≡ 0 = λ k l. one.2 k (omega (arith, l, comma_is)) in
    let empty : (k : ℕ) → k < 16 → bit_at ends k ≡ 0 → digit_value (get_or bytes k 0) < 10 = λ k l none. digit_by_bit bytes k long l (bytes_are k) (ap (λ (x : ℕ). bit_at x k) (sym is) ∙ none) in
    record {
      key_some = a;
      key_few = b;
      value_some = c;
      value_few = d;
      key_each = λ k from to. empty k (omega (arith, to, b)) (sym (high k (omega (arith, from))) ∙ before k to);
      value_each = λ k from to. empty k (omega (arith, to, b, d)) (sym (high k (omega (arith, from))) ∙ sym (higher_bits comma behind k at before (omega (arith, from))) ∙ ap (λ (x : ℕ). bit_at x k) (sym next) ∙ two.2 k (omega (arith, to, colon_is)));
    }

-- ---- the numerals

pub all_digits : (n : ℕ) (xs : List ℕ) → n ≤ length xs → ((k : ℕ) → k < n → digit_value (get_or xs k 0) < 10) → AllDigits 10 (take n xs)
all_digits zero xs long each = tt
all_digits (suc n) [] long each = absurd (omega (arith, long))
all_digits (suc n) (x ∷ xs) long each = (each 0 (omega arith), all_digits n xs (omega (arith, long)) (λ k l. each (suc k) (omega (arith, l))))

-- n digits from a place on, within the m bytes there
pub digits_within : (bytes : List ℕ) (at n m : ℕ) → at + m ≤ length bytes → n ≤ m → ((k : ℕ) → at ≤ k → k < at + n → digit_value (get_or bytes k 0) < 10) → AllDigits 10 (take n (take m (drop at bytes)))
digits_within bytes at n m long few each =
    let part = take m (drop at bytes) in
    let size : length part ≡ m = length-take-le m (drop at bytes) (omega (arith, long, length-drop at bytes)) in
    let there : (k : ℕ) → k < n → get_or part k 0 ≡ get_or bytes (at + k) 0 = λ k l. get_or-take m (drop at bytes) k 0 (omega (arith, l, few)) ∙ get_or-drop at bytes k 0 in
    all_digits n part (omega (arith, few, size)) (λ k l. subst (λ (c : ℕ). digit_value c < 10) (sym (there k l)) (each (at + k) (omega arith) (omega (arith, l))))

-- they are a numeral, with the byte after them
pub numeral_within : (bytes : List ℕ) (at from n m stop value end : ℕ) → at + n < length bytes → 0 < n → n ≤ m → AllDigits 10 (take n (take m (drop at bytes))) → digits_value 10 (take n (take m (drop at bytes))) ≡ value
    → get_or bytes (at + n) 0 ≡ stop → end ≡ n + 1 → from ≡ at → BeginsWithNumeral stop (drop from bytes) value end
numeral_within bytes at from n m stop value end long some few each is stops end_is from_is =
    let part = drop at bytes in
    let whole : take n (take m part) ≡ take n part = take-take n m part few in
    let size = length-drop at bytes in
    let last : take (n + 1) part ≡ take n part ++ stop ∷ [] = take_more part n 0 (omega (arith, long, size)) ∙ ap (λ (c : ℕ). take n part ++ c ∷ []) (get_or-drop at bytes n 0 ∙ stops) in
    subst (λ (k : ℕ). BeginsWithNumeral stop (drop k bytes) value end) (sym from_is) (record {
      digits = take n part;
      is = record {
        some = omega (arith, some, long, size, length-take-le n part (omega (arith, long, size)));
        each = subst (AllDigits 10) whole each;
        value = ap (digits_value 10) (sym whole) ∙ is;
      };
      front = ap (λ (k : ℕ). take k part) end_is ∙ last;
      within = omega (arith, end_is, long, size);
    })

-- what a mask and two tests say of the places
pub places : (bytes : List ℕ) (ends : ℕ) → 16 ≤ length bytes → ((k : ℕ) → get_or bytes k 0 < 256) → ends ≡ mask_l (map is_end (take 16 bytes)) → get_or bytes 0 0 ≡ 43 → (zeros (without_next ends) + 4294967294) % 4294967296 ≤ 3
    → (zeros (without_next (without_next ends)) + (4294967296 - (zeros (without_next ends) + 2))) % 4294967296 ≤ 3 → ShortPlaces bytes (zeros (without_next ends)) (zeros (without_next (without_next ends)))
places bytes ends long bytes_are is plus near far =
    let behind = without_next ends in
    let comma = zeros behind in
    let colon = zeros (without_next behind) in
    let most = trailing_le 64 behind in
    let more = trailing_le 64 (without_next behind) in
    short_places bytes ends behind (without_next behind) comma colon long bytes_are is plus refl refl refl refl (omega (arith, near, most)) (omega (arith, near, most)) (omega (arith, near, far, most, more)) (omega (arith, near, far, most, more))
