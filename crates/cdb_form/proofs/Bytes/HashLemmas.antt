-- The hash of bytes that are taken eight at once.
use Rattle.cdb_form.proofs.Words.{List, ap, arith, drop, fold, fold-append, suc, sym, take, take-add, take-append-drop, zero, ℕ, ◌*◌, ◌+◌, ◌∙◌, ◌≡◌}
use Rattle.std.specs.Simd.{first_chunks}

-- the chunks of a list, one after the other, are its front
pub fold_chunks : (f : ℕ → ℕ → ℕ) (n k h : ℕ) (xs : List ℕ) → fold (fold f) h (first_chunks n k xs) ≡ fold f h (take (k * n) xs)
fold_chunks f n zero h xs =
    let none : 0 ≡ zero * n = omega arith in
    ap (λ (m : ℕ). fold f h (take m xs)) none
fold_chunks f n (suc k) h xs =
    let count : n + k * n ≡ suc k * n = omega arith in
    fold_chunks f n k (fold f h (take n xs)) (drop n xs)
    ∙ sym (fold-append f h (take n xs) (take (k * n) (drop n xs)))
    ∙ ap (fold f h) (sym (take-add n (k * n) xs))
    ∙ ap (λ (m : ℕ). fold f h (take m xs)) count

-- and then the rest
pub fold_all : (f : ℕ → ℕ → ℕ) (n k h : ℕ) (xs : List ℕ) → fold f (fold (fold f) h (first_chunks n k xs)) (drop (k * n) xs) ≡ fold f h xs
fold_all f n k h xs =
    ap (λ (g : ℕ). fold f g (drop (k * n) xs)) (fold_chunks f n k h xs)
    ∙ sym (fold-append f h (take (k * n) xs) (drop (k * n) xs))
    ∙ ap (fold f h) (take-append-drop (k * n) xs)
