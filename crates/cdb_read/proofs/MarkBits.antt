-- Setting one bit of one word.
use Rattle.std.proofs.Common.{◌≡◌, ◌≢◌, ◌*◌, ◌/◌, ◌%◌, ◌^◌, ◌<◌, ℕ, true, false, List, length, get_or, sym, ap, ◌∙◌, arith, inl, inr}
use Rattle.std.specs.Prelude.{◌==◌, bit_and, bit_or, replicate, set}
use Rattle.std.specs.Int.{bit_at, w64}
use Rattle.std.proofs.lemmas.Bool.{cases_eq, eq-eqb}
use Rattle.std.proofs.lemmas.List.{get_or-replicate, get_or-set_same, get_or-set_other, get_or_read}
use Rattle.std.proofs.lemmas.Nat.Bits.{bit_at-zero, bit_at_set_same, bit_at_set_other, shr_and_one}
use Rattle.cdb_read.specs.Differing.{Grows, KeepsOthers, mark_at}

-- a bit of words of 64 bits, and the words with it set
abbrev pub bit_of : List ℕ → ℕ → ℕ
bit_of words at = bit_at (get_or words (at / 64) 0) (at % 64)

abbrev pub with_bit : List ℕ → ℕ → List ℕ
with_bit words at = set words (at / 64) (bit_or (get_or words (at / 64) 0) (1 * 2 ^ (at % 64) % 2 ^ 64))

pub bit_set : (words : List ℕ) (at : ℕ) → at / 64 < length words → bit_of (with_bit words at) at ≡ 1
bit_set words at within =
    ap (λ n. bit_at n (at % 64)) (get_or-set_same words (at / 64) _ 0 within) ∙ bit_at_set_same w64 (get_or words (at / 64) 0) (at % 64) (omega arith)

pub bit_kept : (words : List ℕ) (at other : ℕ) → at / 64 < length words → other ≢ at → bit_of (with_bit words at) other ≡ bit_of words other
bit_kept words at other within differs = elim (cases_eq (other / 64) (at / 64)) [
  | inl same ↦
      ap (λ i. bit_at (get_or (with_bit words at) i 0) (other % 64)) same
      ∙ ap (λ n. bit_at n (other % 64)) (get_or-set_same words (at / 64) _ 0 within)
      ∙ bit_at_set_other w64 (get_or words (at / 64) 0) (at % 64) (omega arith) (other % 64) (λ e. differs (omega (arith, same, e)))
      ∙ sym (ap (λ i. bit_at (get_or words i 0) (other % 64)) same)
  | inr other_word ↦ ap (λ n. bit_at n (other % 64)) (get_or-set_other words (at / 64) (other / 64) _ 0 other_word)
]

-- ---- marks

pub mark_set : (words : List ℕ) (hash : ℕ) → length words ≡ 65536 → mark_at (with_bit words (hash % 4194304)) hash ≡ true
unfolding mark_at
mark_set words hash long = eq-eqb (bit_of (with_bit words (hash % 4194304)) (hash % 4194304)) 1 (bit_set words (hash % 4194304) (omega (arith, long)))

pub mark_kept : (words : List ℕ) (hash : ℕ) → length words ≡ 65536 → KeepsOthers hash words (with_bit words (hash % 4194304))
unfolding mark_at
mark_kept words hash long other differs = ap (λ n. n == 1) (bit_kept words (hash % 4194304) (other % 4194304) (omega (arith, long)) differs)

same_mark : (words : List ℕ) (one other : ℕ) → one % 4194304 ≡ other % 4194304 → mark_at words one ≡ mark_at words other
unfolding mark_at
same_mark words one other same = ap (λ at. bit_of words at == 1) same

pub mark_grown : (words : List ℕ) (hash : ℕ) → length words ≡ 65536 → Grows words (with_bit words (hash % 4194304))
mark_grown words hash long other was = elim (cases_eq (other % 4194304) (hash % 4194304)) [
  | inl same ↦ same_mark (with_bit words (hash % 4194304)) other hash same ∙ mark_set words hash long
  | inr differs ↦ mark_kept words hash long other differs ∙ was
]

pub none_set : (words : List ℕ) (hash : ℕ) → words ≡ replicate 65536 0 → mark_at words hash ≡ false
unfolding mark_at
none_set words hash is =
    let at = hash % 4194304 in
    ap (λ n. bit_at n (at % 64) == 1) (ap (λ ws. get_or ws (at / 64) 0) is ∙ get_or-replicate 65536 (at / 64) 0 0 (omega arith))
    ∙ ap (λ n. n == 1) (bit_at-zero (at % 64))

pub mark_read : (words : List ℕ) (hash word : ℕ) → length words ≡ 65536 → word ≡ get_or words (hash % 4194304 / 64) word → (bit_and (word / 2 ^ (hash % 4194304 % 64)) 1 == 1) ≡ mark_at words hash
unfolding mark_at
mark_read words hash word long is =
    ap (λ n. n == 1) (shr_and_one word (hash % 4194304 % 64) ∙ ap (λ n. bit_at n (hash % 4194304 % 64)) (get_or_read words (hash % 4194304 / 64) word (omega (arith, long)) is 0))

-- what is written over a word
pub with_word : (words : List ℕ) (hash word : ℕ) → length words ≡ 65536 → word ≡ get_or words (hash % 4194304 / 64) word → set words (hash % 4194304 / 64) (bit_or word (1 * 2 ^ (hash % 4194304 % 64) % 18446744073709551616)) ≡ with_bit words (hash % 4194304)
with_word words hash word long is = ap (λ n. set words (hash % 4194304 / 64) (bit_or n (1 * 2 ^ (hash % 4194304 % 64) % 18446744073709551616))) (get_or_read words (hash % 4194304 / 64) word (omega (arith, long)) is 0)
