-- What a writer holds, piece after piece.
use Rattle.std.proofs.Common.{◌≡◌, ℕ, ◌+◌, ◌<◌, List, [], ◌++◌, length, flat_map, get_or, take, drop, sym, ap, subst, ◌∙◌, Option, Some, None, Result, Ok, Err, append_assoc}
use Rattle.std.proofs.lemmas.List.{append-nil, take-append-drop, drop_more}
use Rattle.cdb_form.proofs.Words.{flat_map-append, take-add}
use Rattle.std.specs.Io.KnownBytes.{Appends, Keeps}
use Rattle.cdb_form.specs.Views.KnownBytes.{AppendsPrefix, Writes}

pub appends_none : (o : Option (List ℕ)) → Appends o o []
appends_none None = tt
appends_none (Some xs) = sym (append-nil xs)

pub appends_then : (old mid new : Option (List ℕ)) (xs ys : List ℕ) → Appends old mid xs → Appends mid new ys → Appends old new (xs ++ ys)
appends_then None mid new xs ys a b = tt
appends_then (Some o) None new xs ys a b = absurd a
appends_then (Some o) (Some m) None xs ys a b = absurd b
appends_then (Some o) (Some m) (Some n) xs ys a b = b ∙ ap (λ t. t ++ ys) a ∙ append_assoc o xs ys

pub appends_kept : (old mid new : Option (List ℕ)) (xs : List ℕ) → Appends old mid xs → Keeps mid new → Appends old new xs
appends_kept None mid new xs a b = tt
appends_kept (Some o) None new xs a b = absurd a
appends_kept (Some o) (Some m) None xs a b = absurd b
appends_kept (Some o) (Some m) (Some n) xs a b = b ∙ a

-- a prefix of the last piece, after the pieces before it
pub prefix_then : (old mid new : Option (List ℕ)) (xs ys zs all : List ℕ) → Appends old mid xs → AppendsPrefix mid new ys → all ≡ xs ++ (ys ++ zs) → AppendsPrefix old new all
prefix_then old mid new xs ys zs all a b e =
    record {
      front = xs ++ b.front;
      more = b.more ++ zs;
      split = e ∙ ap (λ t. xs ++ (t ++ zs)) b.split ∙ ap (λ t. xs ++ t) (append_assoc b.front b.more zs) ∙ sym (append_assoc xs b.front (b.more ++ zs));
      appended = appends_then old mid new xs b.front a b.appended;
    }

-- a prefix of the first part
pub prefix_in : (old new : Option (List ℕ)) (ys zs all : List ℕ) → AppendsPrefix old new ys → all ≡ ys ++ zs → AppendsPrefix old new all
prefix_in old new ys zs all a e = record { front = a.front; more = a.more ++ zs; split = e ∙ ap (λ t. t ++ zs) a.split ∙ append_assoc a.front a.more zs; appended = a.appended }

-- a prefix of the last part
pub prefix_last : (old mid new : Option (List ℕ)) (xs ys all : List ℕ) → Appends old mid xs → AppendsPrefix mid new ys → all ≡ xs ++ ys → AppendsPrefix old new all
prefix_last old mid new xs ys all a b e = prefix_then old mid new xs ys [] all a b (e ∙ ap (λ t. xs ++ t) (sym (append-nil ys)))

-- what was taken so far is a prefix
pub prefix_taken : (old mid new : Option (List ℕ)) (k : ℕ) (xs : List ℕ) → Appends old mid (take k xs) → Keeps mid new → AppendsPrefix old new xs
prefix_taken old mid new k xs a b = record { front = take k xs; more = drop k xs; split = sym (take-append-drop k xs); appended = appends_kept old mid new (take k xs) a b }

-- a fault left a prefix
pub writes_prefix : {A E : Type 0} (r : Result A E) (e : E) (old new : Option (List ℕ)) (bytes : List ℕ) → r ≡ Err e → AppendsPrefix old new bytes → Writes r old new bytes
writes_prefix r e old new bytes is front = rw is (record { ok = tt; err = front })

-- the same bytes, said otherwise
pub same_prefix : (old new : Option (List ℕ)) (xs ys : List ℕ) → xs ≡ ys → AppendsPrefix old new xs → AppendsPrefix old new ys
same_prefix old new xs ys e a = subst (AppendsPrefix old new) e a

pub same_appends : (old new : Option (List ℕ)) (xs ys : List ℕ) → xs ≡ ys → Appends old new xs → Appends old new ys
same_appends old new xs ys e a = subst (Appends old new) e a

pub same_writes : {A E : Type 0} (r : Result A E) (old new : Option (List ℕ)) (xs ys : List ℕ) → xs ≡ ys → Writes r old new xs → Writes r old new ys
same_writes r old new xs ys e w = subst (Writes r old new) e w

-- the last part, after the parts before it
pub writes_last : {A E : Type 0} (r : Result A E) (old mid new : Option (List ℕ)) (xs ys all : List ℕ) → Appends old mid xs → Writes r mid new ys → all ≡ xs ++ ys → Writes r old new all
writes_last (Ok x) old mid new xs ys all a w e = record { ok = subst (Appends old new) (sym e) (appends_then old mid new xs ys a w.ok); err = tt }
writes_last (Err x) old mid new xs ys all a w e = record { ok = tt; err = prefix_then old mid new xs ys [] all a w.err (e ∙ ap (λ t. xs ++ t) (sym (append-nil ys))) }

-- n bytes more of the rest
pub written_more : (old mid new : Option (List ℕ)) (k n : ℕ) (xs ys : List ℕ) → Appends old mid (take k xs) → Appends mid new (take n ys) → ys ≡ drop k xs → Appends old new (take (k + n) xs)
written_more old mid new k n xs ys a b e =
    rw (take-add k n xs) (appends_then old mid new (take k xs) (take n (drop k xs)) a (rw e at b))

-- a joined list, before a piece, that piece, and after it
pub flat_map_at : {X A : Type 0} (f : X → List A) (xs : List X) (i : ℕ) (d : X) → i < length xs → flat_map f xs ≡ flat_map f (take i xs) ++ (f (get_or xs i d) ++ flat_map f (drop (i + 1) xs))
flat_map_at f xs i d h = ap (flat_map f) (sym (take-append-drop i xs)) ∙ flat_map-append f (take i xs) (drop i xs) ∙ ap (λ t. flat_map f (take i xs) ++ flat_map f t) (drop_more xs i d h)
