-- Bytes that are shown in a line, piece by piece.
use Rattle.std.proofs.Common.{◌≡◌, ◌∙◌, ◌+◌, ◌-◌, ◌++◌, ◌∷◌, ◌&&◌, ◌≤◌, ◌<◌, [], ap, sym, ℕ, zero, suc, List, Bool, true, false, refl, length, take, drop, get_or, arith, append_assoc, not, if◌then◌else◌, inl, inr}
use Rattle.std.proofs.lemmas.Bool.{cases_lt, false_from_ne_true}
use Rattle.std.proofs.lemmas.List.{length-append, length-take, get_or-take, get_or_append_left, get_or-append_right, take_all, take-append-le}
use Rattle.std.proofs.lemmas.Str.{IsUtf8-from_is_utf8, inside_one, length-encode, len_utf8_ascii}
use Rattle.std.specs.Str.{continuation_len, is_utf8}
use Rattle.cdb_command.specs.Refused.{escaped, first_piece, has_hidden, is_printable, printable_len, shown, shown_after, shown_first}
use lib.Utf8.{encode, encodes}

-- ---- a character

-- its first byte says how many follow
lead : (d : ℕ) → continuation_len (get_or (encode d) 0 0) + 1 ≡ length (encode d)
unfolding encode
lead d = grind arith

-- a text of no more bytes than the first of them says
record IsOne (b : ℕ) (bytes : List ℕ) : Type 0 where
  character : ℕ
  rest : List ℕ
  is : b ∷ bytes ≡ encode character ++ rest
  long : length (encode character) ≡ continuation_len b + 1
  all : length bytes ≡ continuation_len b

one_of : (b : ℕ) (bytes cs : List ℕ) → encodes cs ≡ b ∷ bytes → length bytes ≤ continuation_len b → IsOne b bytes
one_of b bytes [] is few = absurd (omega (arith, ap length is))
one_of b bytes (d ∷ ds) is few =
    let long = lead d in
    let begins : get_or (encode d) 0 0 ≡ b = sym (get_or_append_left (encode d) (encodes ds) 0 0 (omega arith)) ∙ ap (λ t. get_or t 0 0) is in
    let says : length (encode d) ≡ continuation_len b + 1 = sym long ∙ ap (λ x. continuation_len x + 1) begins in
    let len = sym (length-append (encode d) (encodes ds)) ∙ ap length is in
    record { character = d; rest = encodes ds; is = sym is; long = says; all = omega arith }

one : (b : ℕ) (bytes : List ℕ) → is_utf8 (b ∷ bytes) ≡ true → length bytes ≤ continuation_len b → IsOne b bytes
one b bytes text few = let spelt = IsUtf8-from_is_utf8 _ text in one_of b bytes spelt.0 spelt.1.1 few

-- one that is cut is no text
cut : (b : ℕ) (bytes : List ℕ) → length bytes < continuation_len b → is_utf8 (b ∷ bytes) ≡ false
cut b bytes short = false_from_ne_true _ (λ text. let it = one b bytes text (omega arith) in omega (arith, it.all))

-- and neither is one with a byte of ASCII in it
mixed : (b : ℕ) (bytes : List ℕ) (i : ℕ) → length bytes ≤ continuation_len b → i < length bytes → get_or bytes i 0 < 128
    → is_utf8 (b ∷ bytes) ≡ false
mixed b bytes i few inside ascii = false_from_ne_true _ (λ text.
    let it = one b bytes text few in
    let same : it.character ≡ get_or bytes i 0 = inside_one it.character it.rest (b ∷ bytes) (suc i) it.is (omega (arith, it.long, it.all)) ascii in
    omega (arith, it.long, it.all, length-encode it.character, len_utf8_ascii it.character (omega arith)))

-- ---- bytes before a byte of ASCII

none : (bytes : List ℕ) → is_utf8 (first_piece bytes) ≡ false → printable_len bytes ≡ 0
none bytes is = ap (λ u. if u && not (has_hidden (first_piece bytes)) then length (first_piece bytes) else 0) is

-- what they begin with is as without it
seam : (b : ℕ) (bytes more : List ℕ) (c : ℕ) → c < 128 → printable_len (b ∷ (bytes ++ c ∷ more)) ≡ printable_len (b ∷ bytes)
seam b bytes more c ascii = elim (cases_lt (length bytes) (continuation_len b)) [
  | inl cuts ↦
      let n = continuation_len b in
      let all = bytes ++ c ∷ more in
      let len = length-append bytes (c ∷ more) in
      let taken = length-take n all in
      let first : length bytes - length bytes ≡ 0 = omega arith in
      let there : get_or (take n all) (length bytes) 0 ≡ c = get_or-take n all (length bytes) 0 cuts
      ∙ get_or-append_right bytes (c ∷ more) (length bytes) (length bytes) 0 refl (omega arith) ∙ ap (λ i. get_or (c ∷ more) i 0) first in
      none (b ∷ all) (mixed b (take n all) (length bytes) (omega arith) (omega arith) (omega arith))
      ∙ sym (none (b ∷ bytes) (ap (λ t. is_utf8 (b ∷ t)) (take_all n bytes (omega arith)) ∙ cut b bytes cuts))
  | inr whole ↦ ap (λ t. if is_printable (b ∷ t) then length (b ∷ t) else 0) (take-append-le (continuation_len b) bytes (c ∷ more) whole)
]

pub printable_len_le : (bytes : List ℕ) → printable_len bytes ≤ length bytes
printable_len_le bytes = bounded (is_printable (first_piece bytes)) bytes
  where
    bounded : (printable : Bool) (bytes : List ℕ) → (if printable then length (first_piece bytes) else 0) ≤ length bytes
    bounded false bytes = omega arith
    bounded true [] = omega arith
    bounded true (b ∷ bytes) = omega (arith, length-take (continuation_len b) bytes)

-- what follows is shown as it is with more after it
goes_on : (n b most : ℕ) (f g : ℕ → List ℕ) (more : List ℕ) → n ≤ suc most → ((k : ℕ) → k ≤ most → f k ≡ g k ++ more)
    → shown_first n b f ≡ shown_first n b g ++ more
goes_on zero b most f g more few next = ap (λ t. escaped b ++ t) (next 0 (omega arith)) ∙ sym (append_assoc (escaped b) (g 0) more)
goes_on (suc n) b most f g more few next = ap (λ t. b ∷ t) (next n (omega arith))

before : (n : ℕ) (bytes more : List ℕ) (c : ℕ) → c < 128 → n ≤ length bytes
    → shown_after n (bytes ++ c ∷ more) ≡ shown_after n bytes ++ shown (c ∷ more)
before zero [] more c ascii few = refl
before (suc n) [] more c ascii few = absurd (omega arith)
before (suc n) (b ∷ bytes) more c ascii few = ap (λ t. b ∷ t) (before n bytes more c ascii (omega arith))
before zero (b ∷ bytes) more c ascii few =
    ap (λ n. shown_first n b (λ k. shown_after k (bytes ++ c ∷ more))) (seam b bytes more c ascii)
    ∙ goes_on (printable_len (b ∷ bytes)) b (length bytes) (λ k. shown_after k (bytes ++ c ∷ more)) (λ k. shown_after k bytes) (shown (c ∷ more))
    (printable_len_le (b ∷ bytes)) (λ k few. before k bytes more c ascii few)

-- bytes before one of ASCII are shown as they are alone
pub shown-append : (bytes more : List ℕ) (c : ℕ) → c < 128 → shown (bytes ++ c ∷ more) ≡ shown bytes ++ shown (c ∷ more)
shown-append bytes more c ascii = before 0 bytes more c ascii (omega arith)

-- ---- a piece, and what follows it

past : (n : ℕ) (bytes : List ℕ) → n ≤ length bytes → shown_after n bytes ≡ take n bytes ++ shown (drop n bytes)
past zero bytes few = refl
past (suc n) [] few = absurd (omega arith)
past (suc n) (b ∷ bytes) few = ap (λ t. b ∷ t) (past n bytes (omega arith))

-- a character that is shown as it is
pub shown_character : (n : ℕ) (bytes : List ℕ) → printable_len bytes ≡ n → 0 < n → shown bytes ≡ take n bytes ++ shown (drop n bytes)
shown_character zero bytes is some = absurd (omega arith)
shown_character (suc n) [] is some = absurd (omega (arith, printable_len_le []))
shown_character (suc n) (b ∷ bytes) is some =
    ap (λ m. shown_first m b (λ k. shown_after k bytes)) is ∙ ap (λ t. b ∷ t) (past n bytes (omega (arith, printable_len_le (b ∷ bytes))))

-- and a byte that begins none
pub shown_byte : (bytes : List ℕ) → printable_len bytes ≡ 0 → 0 < length bytes → shown bytes ≡ escaped (get_or bytes 0 0) ++ shown (drop 1 bytes)
shown_byte [] is some = absurd (omega arith)
shown_byte (b ∷ bytes) is some = ap (λ m. shown_first m b (λ k. shown_after k bytes)) is
