-- Bytes through a buffer to a writer.
use Rattle.std.proofs.Common.{◌≡◌, refl, Bool, true, false, ◌||◌, is_err, ℕ, ◌+◌, ◌<◌, ◌≤◌, List, [], ◌∷◌, ◌++◌, length, take, drop, sym, subst, ap, ◌∙◌, arith, Option, Some, None, Result, Ok, Err, IfOk}
use Rattle.std.proofs.lemmas.List.{append-nil, length-take, drop-append-le, drop-drop, take-append-drop, take-take}
use Rattle.std.proofs.Math.Seq.{drop-nil}
use Rattle.std.proofs.KnownBytes.{Keeps-refl, Keeps-trans, append_known-grown, append_known-moved, append_known-passed}
use mathlib.Core.Logic.{∥∥₁_map}
use Rattle.std.specs.Prelude.{IsOk, OnErr, OnOk, is_ok, if◌then◌else◌}
use Rattle.std.specs.Io.KnownBytes.{append_known, Appends, Keeps}

-- n bytes of the buffer went to the writer
pub handed_on : (xs rest : List ℕ) (start n : ℕ) (old w v : Option (List ℕ)) → rest ≡ drop start xs → Keeps old (append_known w (drop start xs)) → Appends w v (take n rest) → Keeps old (append_known v (drop (start + n) xs))
handed_on xs rest start n old w v e k a =
    Keeps-trans old _ _ k (append_known-moved w v (take n rest) (drop (start + n) xs) (drop start xs) a
    (sym (take-append-drop n (drop start xs)) ∙ ap (λ t. take n t ++ drop n (drop start xs)) (sym e) ∙ ap (λ t. take n rest ++ t) (drop-drop n start xs)))

-- bytes for which there was room came into the buffer
pub taken_in : {T E : Type 0} (r : Result T E) (xs ys zs other : List ℕ) (start : ℕ) (w : Option (List ℕ)) → start ≤ length xs → IsOk r → ys ≡ (if is_ok r then xs ++ zs else other) → Appends (append_known w (drop start xs)) (append_known w (drop start ys)) zs
taken_in (Ok v) xs ys zs other start w h ok e = append_known-grown _ w (drop start xs) (drop start ys) zs (Keeps-refl _) (ap (drop start) e ∙ drop-append-le start xs zs h)
taken_in (Err f) xs ys zs other start w h ok e = absurd (let no : false ≡ true = ok in cc)

-- all that the buffer held went on, and then some more bytes
passed_on : (xs zs : List ℕ) (start : ℕ) (old mid new : Option (List ℕ)) → length xs ≡ 0 → Keeps old (append_known mid (drop start xs)) → Appends mid new zs → Appends old (append_known new (drop start xs)) zs
passed_on [] zs start old mid new e k a = subst (Appends old (append_known new (drop start []))) (append-nil zs) (append_known-passed old mid new _ _ zs [] k (drop-nil start) a (sym (append-nil _)))
passed_on (x ∷ xs) zs start old mid new e k a = absurd (omega (arith, e))

pub some_passed_on : {E : Type 0} (r : Result ℕ E) (xs bytes : List ℕ) (most start : ℕ) (old mid new : Option (List ℕ)) → length xs ≡ 0 → Keeps old (append_known mid (drop start xs)) → IfOk r (λ n. (0 < n) × (n ≤ length (take most bytes)))
    → IfOk r (λ n. Appends mid new (take n (take most bytes))) → IfOk r (λ n. Appends old (append_known new (drop start xs)) (take n bytes))
some_passed_on (Ok n) xs bytes most start old mid new e k few a = passed_on xs (take n bytes) start old mid new e k (subst (Appends mid new) (take-take n most bytes (omega (arith, few.1, length-take most bytes))) a)
some_passed_on (Err f) xs bytes most start old mid new e k few a = tt

-- all that the buffer held went on, and the writer was flushed
no_more : (known : Option (List ℕ)) → append_known known [] ≡ known
no_more None = refl
no_more (Some xs) = ap Some (append-nil xs)

pub none_held : {A E : Type 0} (r : Result A E) (xs : List ℕ) (start : ℕ) (old mid new : Option (List ℕ)) → length xs ≡ 0 → Keeps old (append_known mid (drop start xs)) → Keeps mid new → OnOk r (Keeps old new)
none_held (Ok v) [] start old mid new e k more = Keeps-trans old mid new (subst (Keeps old) (ap (append_known mid) (drop-nil start) ∙ no_more mid) k) more
none_held (Ok v) (x ∷ xs) start old mid new e k more = absurd (omega (arith, e))
none_held (Err f) xs start old mid new e k more = tt

-- ---- the mark

-- an output that was marked for its writer, and whose writer may have failed now, is marked for it
pub marked_so : {A B T E : Type 0} (failed err : Bool) (r : Result T E) → err ≡ is_err r → (failed ≡ true → ∥ A ∥₁) → (A → B) → OnErr r B → (failed || err) ≡ true → ∥ B ∥₁
marked_so true err r e was stays fails is = ∥∥₁_map (was refl) stays
marked_so false true (Ok v) e was stays fails is = absurd (let no : true ≡ false = e in cc)
marked_so false true (Err f) e was stays fails is = ∣ fails ∣₁
marked_so false false r e was stays fails is = absurd (let no : false ≡ true = is in cc)
