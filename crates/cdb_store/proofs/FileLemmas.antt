-- What calls on a file do to its images.
use Rattle.cdb_store.proofs.Words.{AfterCut, AfterPut, AfterRead, AfterTornPut, AfterTornWrite, AfterWrite, AreAtLeast, Calls, FileImage, IsLost, List, SameImages, Torn, Untouched, [], ap, arith, cases_lt, drop, inl, inr, length, length-overwrite, max, overwrite, part, refl, subst, sym, take, take-append-add, ℕ, ◌++◌, ◌+◌, ◌-◌, ◌∙◌, ◌∷◌, ◌≡◌, ◌≤◌}
use Rattle.std.proofs.lemmas.List.{take-take, drop_all, drop-take, length-take-le, length-take}
use Rattle.cdb_store.specs.declared.trace.Call.TheVariants.{Gave, Length, Cut, NotCut, Refused}
use Rattle.cdb_store.proofs.Parts.{part_from_take}

pub file_same : (len : ℕ) {c d : Calls} → Untouched c d → SameImages (FileImage len c) (FileImage len d)
file_same len u = record {
  no_other = λ b is. (is.0, u.same.no_other is.0 is.1, is.2, is.3);
  none_lost = λ b is. (is.0, u.same.none_lost is.0 is.1, is.2, is.3);
}

pub long_same : (len : ℕ) {c d : Calls} → Untouched c d → AreAtLeast len c → AreAtLeast len d
long_same len u long = record { each = λ b is. long.each b (u.same.no_other b is) }

pub gave_long : (len pos : ℕ) (bytes : List ℕ) {c d e : Calls} → Untouched c d → e ≡ (Gave pos, bytes) ∷ d → AreAtLeast len c → AreAtLeast len e
gave_long len pos bytes u e long = rw e (record { each = λ b is. long.each b (u.same.no_other b is.0) })

-- the store refused a call without calling the file
pub refused : {c d : Calls} → d ≡ (Refused, []) ∷ c → Untouched c d
refused {c = c} e = rw e (record { same = record { no_other = λ b is. is; none_lost = λ b is. is }; syncs = refl; written = refl; later = omega arith; known = refl })

part_prefix : (pos n len : ℕ) (a : List ℕ) → pos + n ≤ len → part pos n (take len a) ≡ part pos n a
part_prefix pos n len a inside = part_from_take pos n (pos + n) a (take len a) refl (take-take (pos + n) len a inside)

-- bytes that came were given back
pub file_gave : (pos len : ℕ) (bytes : List ℕ) {c d e : Calls} → pos + length bytes ≤ len → Untouched c d → e ≡ (Gave pos, bytes) ∷ d
    → AfterRead pos bytes (FileImage len c) (FileImage len e)
file_gave pos len bytes inside u e = rw e (record {
  no_other = λ b is. (is.0, u.same.no_other is.0 is.1.0, is.2, is.3);
  read = λ b is. ap (part pos (length bytes)) is.3 ∙ part_prefix pos (length bytes) len is.0 inside ∙ is.1.1;
  none_lost = λ b is h. (is.0, (u.same.none_lost is.0 is.1, sym (part_prefix pos (length bytes) len is.0 inside) ∙ ap (part pos (length bytes)) (sym is.3) ∙ h), is.2, is.3);
})

-- the start of a list that was overwritten
prefix_overwrite : (pos len : ℕ) (a ys : List ℕ) → pos ≤ len → len ≤ length a → take (max len (pos + length ys)) (overwrite a pos ys) ≡ overwrite (take len a) pos ys
prefix_overwrite pos len a ys before inside =
    let k : ℕ = length ys in
    let most : ℕ = max len (pos + k) in
    let m : ℕ = most - (pos + k) in
    let rest : List ℕ = drop (pos + k) a in
    let l : length (take pos a) ≡ pos = length-take-le pos a (omega arith) in
    let f : length (take len a) ≡ len = length-take-le len a inside in
    let e : most ≡ length (take pos a) + (k + m) = omega arith in
    let after : drop (pos + k) (take len a) ≡ take m rest = elim (cases_lt len (pos + k)) [
      | inl h ↦ let z : m ≡ 0 = omega arith in drop_all (pos + k) (take len a) (omega arith) ∙ sym (ap (λ n. take n rest) z)
      | inr h ↦ let z : len ≡ pos + k + m = omega arith in ap (λ n. drop (pos + k) (take n a)) z ∙ drop-take (pos + k) m a
    ] in
    ap (λ n. take n (overwrite a pos ys)) e
    ∙ take-append-add (take pos a) (ys ++ rest) (k + m)
    ∙ ap (λ r. take pos a ++ r) (take-append-add ys rest m)
    ∙ ap (λ r. take pos a ++ (ys ++ r)) (sym after)
    ∙ ap (λ r. r ++ (ys ++ drop (pos + k) (take len a))) (sym (take-take pos len a before))

pub file_put : (pos len : ℕ) (bytes : List ℕ) {c d : Calls} → pos ≤ len → AreAtLeast len c → AfterPut pos bytes c d
    → AfterWrite pos bytes (FileImage len c) (FileImage (max len (pos + length bytes)) d)
file_put pos len bytes inside long w = record {
  no_other = λ b is. let h = w.no_other is.0 is.1 in
      let l : len ≤ length h.0 = long.each h.0 h.1 in
      (take len h.0, (h.0, h.1, l, refl), is.3 ∙ ap (take (max len (pos + length bytes))) h.3 ∙ prefix_overwrite pos len h.0 bytes inside l);
  none_lost = λ x is.
      let l : len ≤ length is.0 = is.2 in
      let n : length (overwrite is.0 pos bytes) ≡ max (length is.0) (pos + length bytes) = length-overwrite pos is.0 bytes (omega arith) in
      (overwrite is.0 pos bytes, w.none_lost is.0 is.1 (omega arith), omega arith, ap (λ v. overwrite v pos bytes) is.3 ∙ sym (prefix_overwrite pos len is.0 bytes inside l));
}

pub put_long : (pos len : ℕ) (bytes : List ℕ) {c d : Calls} → pos ≤ len → AreAtLeast len c → AfterPut pos bytes c d → AreAtLeast (max len (pos + length bytes)) d
put_long pos len bytes inside long w = record {
  each = λ b is. let h = w.no_other b is in
      let l : len ≤ length h.0 = long.each h.0 h.1 in
      let n : length b ≡ max (length h.0) (pos + length bytes) = ap length h.3 ∙ length-overwrite pos h.0 bytes h.2 in
      omega arith;
}

torn_prefix : (pos n len left : ℕ) (a y : List ℕ) → pos ≤ len → len ≤ left → left ≤ max len (pos + n) → Torn pos n a y → Torn pos n (take len a) (take left y)
torn_prefix pos n len left a y inside longer not_past t = record {
  before = take-take pos left y (omega arith) ∙ t.before ∙ sym (take-take pos len a inside);
  after = elim (cases_lt len (pos + n)) [
    | inl h ↦ short left y (omega arith) ∙ sym (short len a (omega arith))
    | inr h ↦
        let m : ℕ = len - (pos + n) in
        let e : len ≡ pos + n + m = omega arith in
        let f : left ≡ pos + n + m = omega arith in
        ap (λ k. drop (pos + n) (take k y)) f ∙ drop-take (pos + n) m y ∙ ap (take m) t.after ∙ sym (drop-take (pos + n) m a) ∙ ap (λ k. drop (pos + n) (take k a)) (sym e)
  ];
} where
  short : (k : ℕ) (x : List ℕ) → k ≤ pos + n → drop (pos + n) (take k x) ≡ []
  short k x le = drop_all (pos + n) (take k x) (omega (arith, length-take k x))

pub file_torn : (pos n len left : ℕ) {c d : Calls} → pos ≤ len → len ≤ left → left ≤ max len (pos + n) → AreAtLeast len c → AfterTornPut pos n c d
    → AfterTornWrite pos n (FileImage len c) (FileImage left d)
file_torn pos n len left inside longer not_past long w = record {
  no_other = λ b is. let h = w.no_other is.0 is.1 in
      let l : len ≤ length h.0 = long.each h.0 h.1 in
      (take len h.0, (h.0, h.1, l, refl), subst (λ (z : List ℕ). Torn pos n (take len h.0) z) (sym is.3) (torn_prefix pos n len left h.0 is.0 inside longer not_past h.3));
  none_lost = λ x is.
      let l : len ≤ length is.0 = is.2 in
      let h = w.none_lost is.0 is.1 (omega arith) in
      let far : max (length is.0) (pos + n) ≤ length h.0 = h.2 in
      (take left h.0, (h.0, h.1, omega arith, refl), subst (λ (z : List ℕ). Torn pos n z (take left h.0)) (sym is.3) (torn_prefix pos n len left is.0 h.0 inside longer not_past h.3));
}

-- the length that is reported is one that the images can have
pub file_told : (n : ℕ) (c : Calls) → SameImages (FileImage n c) (FileImage n ((Length n, []) ∷ c))
file_told n c = record {
  no_other = λ b is. (is.0, is.1.0, is.2, is.3);
  none_lost = λ b is. (is.0, (is.1, is.2), is.2, is.3);
}

pub file_cut : (n len : ℕ) (c : Calls) → n ≤ len → AreAtLeast len c → AfterCut n (FileImage len c) (FileImage n ((Cut n, []) ∷ c))
file_cut n len c inside long = record {
  no_other = λ b is. let a : List ℕ = is.1.0 in
      let l : len ≤ length a = long.each a is.1.1 in
      (take len a, (a, is.1.1, l, refl), is.3 ∙ ap (take n) is.1.2 ∙ take-take n n a (omega arith) ∙ sym (take-take n len a inside));
  none_lost = λ x is. let l : len ≤ length is.0 = is.2 in
      (take n is.0, (is.0, is.1, refl), omega (arith, length-take-le n is.0 (omega arith)), ap (take n) is.3 ∙ take-take n len is.0 inside ∙ sym (take-take n n is.0 (omega arith)));
}

pub file_not_cut : (n left len : ℕ) (c : Calls) → n ≤ left → left ≤ len → AreAtLeast len c → AfterCut left (FileImage len c) (FileImage left ((NotCut n, []) ∷ c))
file_not_cut n left len c least most long = record {
  no_other = λ b is. let a : List ℕ = is.1.0 in let m : ℕ = is.1.1 in
      let l : len ≤ length a = long.each a is.1.2 in
      let e : is.0 ≡ take m a = is.1.4 in
      let k : length is.0 ≤ m = omega (arith, ap length e, length-take m a) in
      let h : left ≤ length is.0 = is.2 in
      (take len a, (a, is.1.2, l, refl), is.3 ∙ ap (take left) e ∙ take-take left m a (omega arith) ∙ sym (take-take left len a most));
  none_lost = λ x is. let l : len ≤ length is.0 = is.2 in
      (take left is.0, (is.0, left, is.1, least, refl), omega (arith, length-take-le left is.0 (omega arith)), ap (take left) is.3 ∙ take-take left len is.0 most ∙ sym (take-take left left is.0 (omega arith)));
}

-- a length that can't be is not believed
pub file_lost : (len : ℕ) {least most : ℕ} {c d : Calls} → IsLost least most c d → SameImages (FileImage len c) (FileImage len d)
file_lost len i = rw (i.calls) (record { no_other = λ b is. is; none_lost = λ b is. is })
