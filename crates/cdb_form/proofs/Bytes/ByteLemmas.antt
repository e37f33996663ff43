-- Lists of bytes.
use Rattle.cdb_form.proofs.Words.{AreBytes, List, [], drop, lit<, replicate, subst, suc, sym, take, take-append-drop, zero, ℕ, ◌++◌, ◌<◌, ◌∷◌, ◌≡◌}

pub AreBytes-nil : AreBytes []
AreBytes-nil k = lit< tt

pub AreBytes-cons : (x : ℕ) (xs : List ℕ) → x < 256 → AreBytes xs → AreBytes (x ∷ xs)
AreBytes-cons x xs h hs zero = h
AreBytes-cons x xs h hs (suc k) = hs k

pub AreBytes-append : (xs ys : List ℕ) → AreBytes xs → AreBytes ys → AreBytes (xs ++ ys)
AreBytes-append [] ys a b = b
AreBytes-append (x ∷ xs) ys a b = AreBytes-cons x (xs ++ ys) (a 0) (AreBytes-append xs ys (λ k. a (suc k)) b)

pub AreBytes-push : (old new : List ℕ) (x : ℕ) → new ≡ old ++ x ∷ [] → AreBytes old → x < 256 → AreBytes new
AreBytes-push old new x e a h = subst AreBytes (sym e) (AreBytes-append old (x ∷ []) a (AreBytes-cons x [] h AreBytes-nil))

pub AreBytes-front : (xs ys : List ℕ) → AreBytes (xs ++ ys) → AreBytes xs
AreBytes-front [] ys a = AreBytes-nil
AreBytes-front (x ∷ xs) ys a = AreBytes-cons x xs (a 0) (AreBytes-front xs ys (λ k. a (suc k)))

pub AreBytes-take : (n : ℕ) (xs : List ℕ) → AreBytes xs → AreBytes (take n xs)
AreBytes-take n xs a = AreBytes-front (take n xs) (drop n xs) (subst AreBytes (sym (take-append-drop n xs)) a)

pub AreBytes-replicate : (n x : ℕ) → x < 256 → AreBytes (replicate n x)
AreBytes-replicate zero x h = AreBytes-nil
AreBytes-replicate (suc n) x h = AreBytes-cons x (replicate n x) h (AreBytes-replicate n x h)
