-- What a write or a cut that failed leaves of a file's images, once the file's length was requested.
use Rattle.cdb_store.proofs.Words.{AfterCut, AfterTornPut, AfterTornWrite, AreAtLeast, Calls, FileImage, IsLost, [], arith, file_size, max, ℕ, ◌+◌, ◌∷◌, ◌≡◌, ◌≤◌}
use Rattle.cdb_store.specs.declared.trace.Call.TheVariants.{Length, NotCut, Refused}
use Rattle.cdb_store.proofs.Moves.{same_refl, torn_same, cut_nothing, torn_between, cut_between}
use Rattle.cdb_store.proofs.FileLemmas.{file_same, refused, file_torn, file_not_cut, file_told, file_lost}

pub torn_told : (pos n len left : ℕ) {c d e : Calls} → pos ≤ len → len ≤ left → left ≤ max len (pos + n) → AreAtLeast len c → AfterTornPut pos n c d
    → e ≡ (Length left, []) ∷ d → AfterTornWrite pos n (FileImage len c) (FileImage left e)
torn_told pos n len left {c = c} {d = d} inside longer not_past long w e =
    rw e (torn_between (same_refl (FileImage len c)) (file_torn pos n len left inside longer not_past long w) (file_told left d))

pub torn_lost : (pos n len : ℕ) {least most : ℕ} {c d e : Calls} → pos ≤ len → AreAtLeast len c → AfterTornPut pos n c d → IsLost least most d e
    → AfterTornWrite pos n (FileImage len c) (FileImage len e)
torn_lost pos n len {c = c} inside long w i =
    torn_between (same_refl (FileImage len c)) (file_torn pos n len len inside (omega arith) (omega arith) long w) (file_lost len i)

pub cut_told : (n left len : ℕ) {c d e : Calls} → n ≤ left → left ≤ len → AreAtLeast len c → d ≡ (NotCut n, []) ∷ c → e ≡ (Length left, []) ∷ d
    → AfterCut left (FileImage len c) (FileImage left e)
cut_told n left len {c = c} {d = d} least most long f e =
    rw (e, f) (cut_between (same_refl (FileImage len c)) (file_not_cut n left len c least most long) (file_told left ((NotCut n, []) ∷ c)))

pub cut_lost : (n len : ℕ) {least most : ℕ} {c d e : Calls} → n ≤ len → AreAtLeast len c → d ≡ (NotCut n, []) ∷ c → IsLost least most d e
    → AfterCut len (FileImage len c) (FileImage len e)
cut_lost n len {least = least} {most = most} {c = c} {d = d} {e = e} inside long f i =
    let j : IsLost least most ((NotCut n, []) ∷ c) e = rw f at i in
    cut_between (same_refl (FileImage len c)) (file_not_cut n len len c inside (omega arith) long) (file_lost len j)

-- a call that is refused leaves the images
pub torn_refused : (pos n : ℕ) {len left : ℕ} {c d : Calls} → left ≡ len → d ≡ (Refused, []) ∷ c → AfterTornWrite pos n (FileImage len c) (FileImage left d)
torn_refused pos n {len = len} same e = rw same (torn_same pos n (file_same len (refused e)))

pub cut_refused : {len left : ℕ} {c d : Calls} → left ≡ len → d ≡ (Refused, []) ∷ c → AfterCut left (FileImage len c) (FileImage left d)
cut_refused {len = len} {d = d} same e = rw same (cut_nothing (record { each = file_size len d }) (file_same len (refused e)))
