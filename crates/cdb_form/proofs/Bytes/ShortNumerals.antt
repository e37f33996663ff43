-- Numerals of one to four digits, read from one word.
use Rattle.byteorder.specs.Endian.{little_number}
use Rattle.cdb_form.proofs.Words.{AllDigits, List, ap, arith, digit_value, digits_value, length, nat_tests, suc, sym, take, zero, ℕ, ◌%◌, ◌*◌, ◌+◌, ◌-◌, ◌/◌, ◌<◌, ◌^◌, ◌∙◌, ◌∷◌, ◌≡◌, ◌≤◌}
use Rattle.std.specs.Int.Bits.{bit_and}
use Rattle.std.proofs.lemmas.Nat.{and_block, and_le_r, and_mask}

-- four bytes as a word, the lowest first
abbrev word_of : (a b c d : ℕ) → ℕ
word_of a b c d = ((d * 256 + c) * 256 + b) * 256 + a

-- the values of digits, pairs of them, and all four
abbrev pub ends_in : (word shift : ℕ) → ℕ
ends_in word shift = bit_and (word * 2 ^ shift % 4294967296) 252645135

abbrev pub tens_in : ℕ → ℕ
tens_in ends = bit_and ((ends * 10 % 4294967296 + ends / 256) % 4294967296) 16711935

abbrev pub number_in : ℕ → ℕ
number_in tens = bit_and ((tens * 100 % 4294967296 + tens / 65536) % 4294967296) 65535

-- a mask applies to each byte
masked : (a b c d m n o p : ℕ) → a < 256 → b < 256 → c < 256 → m < 256 → n < 256 → o < 256 → bit_and (word_of a b c d) (word_of m n o p) ≡ word_of (bit_and a m) (bit_and b n) (bit_and c o) (bit_and d p)
masked a b c d m n o p la lb lc lm ln lo =
    and_block 8 ((d * 256 + c) * 256 + b) ((p * 256 + o) * 256 + n) a m la lm
    ∙ ap (λ (x : ℕ). x * 256 + bit_and a m) (and_block 8 (d * 256 + c) (p * 256 + o) b n lb ln)
    ∙ ap (λ (x : ℕ). (x * 256 + bit_and b n) * 256 + bit_and a m) (and_block 8 d p c o lc lo)

and_none : (a : ℕ) → bit_and a 0 ≡ 0
and_none a = omega (arith, and_le_r a 0)

low_byte : (a : ℕ) → a < 256 → bit_and a 255 ≡ a
low_byte a l = let e : bit_and a 255 ≡ a % 256 = and_mask a 8 in omega (arith, e, l)

tens_sum : (a b c d : ℕ) → a < 10 → b < 10 → c < 10 → d < 10
    → (word_of a b c d * 10 % 4294967296 + word_of a b c d / 256) % 4294967296 ≡ word_of (a * 10 + b) (b * 10 + c) (c * 10 + d) (d * 10)
tens_sum a b c d la lb lc ld = omega (arith, la, lb, lc, ld)

tens_are : (a b c d : ℕ) → a < 10 → b < 10 → c < 10 → d < 10 → tens_in (word_of a b c d) ≡ word_of (a * 10 + b) 0 (c * 10 + d) 0
tens_are a b c d la lb lc ld =
    ap (λ (x : ℕ). bit_and x 16711935) (tens_sum a b c d la lb lc ld)
    ∙ masked (a * 10 + b) (b * 10 + c) (c * 10 + d) (d * 10) 255 0 255 0 (omega (arith, la, lb)) (omega (arith, lb, lc)) (omega (arith, lc, ld)) (omega arith) (omega arith) (omega arith)
    ∙ ap (λ (x : ℕ). word_of x (bit_and (b * 10 + c) 0) (bit_and (c * 10 + d) 255) (bit_and (d * 10) 0)) (low_byte (a * 10 + b) (omega (arith, la, lb)))
    ∙ ap (λ (x : ℕ). word_of (a * 10 + b) x (bit_and (c * 10 + d) 255) (bit_and (d * 10) 0)) (and_none (b * 10 + c))
    ∙ ap (λ (x : ℕ). word_of (a * 10 + b) 0 x (bit_and (d * 10) 0)) (low_byte (c * 10 + d) (omega (arith, lc, ld)))
    ∙ ap (λ (x : ℕ). word_of (a * 10 + b) 0 (c * 10 + d) x) (and_none (d * 10))

number_is : (a c : ℕ) → a < 100 → c < 100 → number_in (word_of a 0 c 0) ≡ a * 100 + c
number_is a c la lc =
    let t = word_of a 0 c 0 in
    let sum : (t * 100 % 4294967296 + t / 65536) % 4294967296 ≡ c * 6553600 + (a * 100 + c) = omega (arith, la, lc) in
    let low : bit_and (c * 6553600 + (a * 100 + c)) 65535 ≡ (c * 6553600 + (a * 100 + c)) % 65536 = and_mask (c * 6553600 + (a * 100 + c)) 16 in
    ap (λ (x : ℕ). bit_and x 65535) sum ∙ low ∙ (let e : (c * 6553600 + (a * 100 + c)) % 65536 ≡ a * 100 + c = omega (arith, la, lc) in e)

-- the number of four digits by their values
number_by : (a b c d : ℕ) → a < 10 → b < 10 → c < 10 → d < 10 → number_in (tens_in (word_of a b c d)) ≡ ((a * 10 + b) * 10 + c) * 10 + d
number_by a b c d la lb lc ld =
    ap number_in (tens_are a b c d la lb lc ld) ∙ number_is (a * 10 + b) (c * 10 + d) (omega (arith, la, lb)) (omega (arith, lc, ld)) ∙ (let e : (a * 10 + b) * 100 + (c * 10 + d) ≡ ((a * 10 + b) * 10 + c) * 10 + d = omega arith in e)

-- a digit or no byte
record IsEnd (c value : ℕ) : Type 0 where
  low : c < 256
  is : bit_and c 15 ≡ value
  small : value < 10

end_none : IsEnd 0 0
end_none = record { low = omega arith; is = omega (arith, and_mask 0 4); small = omega arith }

digit_low : (c : ℕ) → digit_value c < 10 → (c < 256) × (c % 16 ≡ digit_value c)
digit_low c h = grind (arith, nat_tests)

end_digit : (c : ℕ) → digit_value c < 10 → IsEnd c (digit_value c)
end_digit c h =
    let low = digit_low c h in
    let e : bit_and c 15 ≡ c % 16 = and_mask c 4 in
    record { low = low.0; is = e ∙ low.1; small = h }

number_ends : (word a b c d p q r s : ℕ) → word ≡ word_of a b c d → IsEnd a p → IsEnd b q → IsEnd c r → IsEnd d s → number_in (tens_in (bit_and word 252645135)) ≡ ((p * 10 + q) * 10 + r) * 10 + s
number_ends word a b c d p q r s is ea eb ec ed =
    ap (λ (x : ℕ). number_in (tens_in (bit_and x 252645135))) is
    ∙ ap (λ (x : ℕ). number_in (tens_in x)) (masked a b c d 15 15 15 15 ea.low eb.low ec.low (omega arith) (omega arith) (omega arith)
    ∙ ap (λ (x : ℕ). word_of x (bit_and b 15) (bit_and c 15) (bit_and d 15)) ea.is ∙ ap (λ (x : ℕ). word_of p x (bit_and c 15) (bit_and d 15)) eb.is
    ∙ ap (λ (x : ℕ). word_of p q x (bit_and d 15)) ec.is ∙ ap (λ (x : ℕ). word_of p q r x) ed.is)
    ∙ number_by p q r s ea.small eb.small ec.small ed.small

shift_3 : (a w : ℕ) → a < 256 → ((a + 256 * w) * 2 ^ 24) % 4294967296 ≡ word_of 0 0 0 a
shift_3 a w la = omega (arith, la)

shift_2 : (a b w : ℕ) → a < 256 → b < 256 → ((a + 256 * (b + 256 * w)) * 2 ^ 16) % 4294967296 ≡ word_of 0 0 a b
shift_2 a b w la lb = omega (arith, la, lb)

shift_1 : (a b c w : ℕ) → a < 256 → b < 256 → c < 256 → ((a + 256 * (b + 256 * (c + 256 * w))) * 2 ^ 8) % 4294967296 ≡ word_of 0 a b c
shift_1 a b c w la lb lc = omega (arith, la, lb, lc)

shift_0 : (a b c d : ℕ) → a < 256 → b < 256 → c < 256 → d < 256 → ((a + 256 * (b + 256 * (c + 256 * (d + 256 * 0)))) * 2 ^ 0) % 4294967296 ≡ word_of a b c d
shift_0 a b c d la lb lc ld = omega (arith, la, lb, lc, ld)

-- what is computed of a word is the number of its first n digits, and is below 10000
pub short_number_is : (n : ℕ) (bytes : List ℕ) → 1 ≤ n → n ≤ 4 → 4 ≤ length bytes → AllDigits 10 (take n bytes)
    → (digits_value 10 (take n bytes) ≡ number_in (tens_in (ends_in (little_number 4 bytes) (32 - 8 * n)))) × (digits_value 10 (take n bytes) < 10000)
short_number_is (suc zero) (a ∷ b ∷ c ∷ d ∷ rest) some few long each =
    let ea = end_digit a each.0 in
    let is = number_ends _ 0 0 0 a 0 0 0 (digit_value a) (shift_3 a (b + 256 * (c + 256 * (d + 256 * 0))) ea.low) end_none end_none end_none ea in
    (sym is, omega (arith, ea.small))
short_number_is (suc (suc zero)) (a ∷ b ∷ c ∷ d ∷ rest) some few long each =
    let ea = end_digit a each.0 in
    let eb = end_digit b each.1.0 in
    let is = number_ends _ 0 0 a b 0 0 (digit_value a) (digit_value b) (shift_2 a b (c + 256 * (d + 256 * 0)) ea.low eb.low) end_none end_none ea eb in
    (sym is, omega (arith, ea.small, eb.small))
short_number_is (suc (suc (suc zero))) (a ∷ b ∷ c ∷ d ∷ rest) some few long each =
    let ea = end_digit a each.0 in
    let eb = end_digit b each.1.0 in
    let ec = end_digit c each.1.1.0 in
    let is = number_ends _ 0 a b c 0 (digit_value a) (digit_value b) (digit_value c) (shift_1 a b c (d + 256 * 0) ea.low eb.low ec.low) end_none ea eb ec in
    (sym is, omega (arith, ea.small, eb.small, ec.small))
short_number_is (suc (suc (suc (suc zero)))) (a ∷ b ∷ c ∷ d ∷ rest) some few long each =
    let ea = end_digit a each.0 in
    let eb = end_digit b each.1.0 in
    let ec = end_digit c each.1.1.0 in
    let ed = end_digit d each.1.1.1.0 in
    let is = number_ends _ a b c d (digit_value a) (digit_value b) (digit_value c) (digit_value d) (shift_0 a b c d ea.low eb.low ec.low ed.low) ea eb ec ed in
    let first : 0 * 10 + digit_value a ≡ digit_value a = omega arith in
    (ap (λ (x : ℕ). ((x * 10 + digit_value b) * 10 + digit_value c) * 10 + digit_value d) first ∙ sym is, omega (arith, ea.small, eb.small, ec.small, ed.small))
short_number_is n bytes some few long each = absurd (omega (arith, some, few, long))
