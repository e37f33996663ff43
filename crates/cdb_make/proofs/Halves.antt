-- Places by their lower and upper halves.
use Rattle.cdb_make.proofs.Words.{List, [], ap, arith, cond, get_or, length, min, of_halves, refl, set, suc, sym, take, zero, ℕ, ◌*◌, ◌++◌, ◌+◌, ◌<◌, ◌^◌, ◌∙◌, ◌∷◌, ◌≡◌}
use Rattle.std.specs.Prelude.{◌==◌}

pub length-halves : (ls hs : List ℕ) → length (of_halves ls hs) ≡ length ls
length-halves [] hs = refl
length-halves (l ∷ ls) [] = ap suc (length-halves ls [])
length-halves (l ∷ ls) (h ∷ hs) = ap suc (length-halves ls hs)

pub halves-none : (ls : List ℕ) → of_halves ls [] ≡ ls
halves-none [] = refl
halves-none (l ∷ ls) = ap (λ t. l ∷ t) (halves-none ls)

pub get_or-halves : (ls hs : List ℕ) (n d a b : ℕ) → length hs ≡ length ls → n < length ls → get_or (of_halves ls hs) n d ≡ get_or ls n a + get_or hs n b * 2 ^ 32
get_or-halves [] hs n d a b e lt = absurd (omega arith)
get_or-halves (l ∷ ls) [] n d a b e lt = absurd (omega arith)
get_or-halves (l ∷ ls) (h ∷ hs) zero d a b e lt = refl
get_or-halves (l ∷ ls) (h ∷ hs) (suc n) d a b e lt = get_or-halves ls hs n d a b (omega arith) (omega arith)

pub halves-push : (ls hs : List ℕ) (l h : ℕ) → length hs ≡ length ls → of_halves (ls ++ l ∷ []) (hs ++ h ∷ []) ≡ of_halves ls hs ++ (l + h * 2 ^ 32) ∷ []
halves-push [] [] l h e = refl
halves-push [] (k ∷ hs) l h e = absurd (omega arith)
halves-push (m ∷ ls) [] l h e = absurd (omega arith)
halves-push (m ∷ ls) (k ∷ hs) l h e = ap (λ t. (m + k * 2 ^ 32) ∷ t) (halves-push ls hs l h (omega arith))

pub halves-set : (ls hs : List ℕ) (n l h : ℕ) → length hs ≡ length ls → of_halves (set ls n l) (set hs n h) ≡ set (of_halves ls hs) n (l + h * 2 ^ 32)
halves-set [] [] n l h e = refl
halves-set [] (k ∷ hs) n l h e = absurd (omega arith)
halves-set (m ∷ ls) [] n l h e = absurd (omega arith)
halves-set (m ∷ ls) (k ∷ hs) zero l h e = refl
halves-set (m ∷ ls) (k ∷ hs) (suc n) l h e = ap (λ t. (m + k * 2 ^ 32) ∷ t) (halves-set ls hs n l h (omega arith))

pub halves-take : (ls hs : List ℕ) (n : ℕ) → of_halves (take n ls) (take n hs) ≡ take n (of_halves ls hs)
halves-take ls hs zero = refl
halves-take [] hs (suc n) = refl
halves-take (l ∷ ls) [] (suc n) = ap (λ t. l ∷ t) (halves-none (take n ls) ∙ sym (ap (take n) (halves-none ls)))
halves-take (l ∷ ls) (h ∷ hs) (suc n) = ap (λ t. (l + h * 2 ^ 32) ∷ t) (halves-take ls hs n)

-- the room if places have both halves, and if they have the lower one alone
pub room_wide : (w a b : ℕ) → w ≡ 8 → cond (w == 8) (min a b) a ≡ min a b
room_wide w a b e = ap (λ (n : ℕ). cond (n == 8) (min a b) a) e

pub room_narrow : (w a b : ℕ) → w ≡ 4 → cond (w == 8) (min a b) a ≡ a
room_narrow w a b e = ap (λ (n : ℕ). cond (n == 8) (min a b) a) e

-- one place more
pub pushed_wide : (ls hs ls₁ hs₁ : List ℕ) (p l h : ℕ) → length hs ≡ length ls → ls₁ ≡ ls ++ l ∷ [] → hs₁ ≡ hs ++ h ∷ [] → l + h * 2 ^ 32 ≡ p → of_halves ls₁ hs₁ ≡ of_halves ls hs ++ p ∷ []
pushed_wide ls hs ls₁ hs₁ p l h e el eh is =
    ap (λ (v : List ℕ). of_halves v hs₁) el ∙ ap (of_halves (ls ++ l ∷ [])) eh ∙ halves-push ls hs l h e ∙ ap (λ (n : ℕ). of_halves ls hs ++ n ∷ []) is

pub pushed_narrow : (ls hs ls₁ : List ℕ) (p : ℕ) → hs ≡ [] → ls₁ ≡ ls ++ p ∷ [] → of_halves ls₁ hs ≡ of_halves ls hs ++ p ∷ []
pushed_narrow ls hs ls₁ p e el =
    ap (of_halves ls₁) e ∙ halves-none ls₁ ∙ el ∙ ap (λ (v : List ℕ). v ++ p ∷ []) (sym (ap (of_halves ls) e ∙ halves-none ls))

-- another place in the place of one
pub set_wide : (ls hs : List ℕ) (n p l h : ℕ) → length hs ≡ length ls → l + h * 2 ^ 32 ≡ p → of_halves (set ls n l) (set hs n h) ≡ set (of_halves ls hs) n p
set_wide ls hs n p l h e is = halves-set ls hs n l h e ∙ ap (set (of_halves ls hs) n) is

pub set_narrow : (ls hs : List ℕ) (n p : ℕ) → hs ≡ [] → of_halves (set ls n p) hs ≡ set (of_halves ls hs) n p
set_narrow ls hs n p e =
    ap (of_halves (set ls n p)) e ∙ halves-none (set ls n p) ∙ ap (λ (v : List ℕ). set v n p) (sym (ap (of_halves ls) e ∙ halves-none ls))
