-- Bytes that are read piece by piece and compared.
use Rattle.std.proofs.Common.{◌≡◌, ◌≢◌, ℕ, ◌+◌, ◌-◌, ◌≤◌, Bool, true, false, not, List, length, take, drop, refl, sym, ap, ◌∙◌, arith}
use Rattle.cdb_read.proofs.Words.{ImagesHold, TellsSame, bytes_eq, bytes_eq-Decides, part}
pub use Rattle.cdb_store.proofs.Compared.{AgreesSoFar, part_inner, agrees_piece}

-- the piece of the key that is compared
key_piece : (n done : ℕ) (key : List ℕ) → take ((done + n) - done) (drop done key) ≡ take n (drop done key)
key_piece n done key = let e : (done + n) - done ≡ n = omega arith in ap (λ k. take k (drop done key)) e

pub differs : (n done : ℕ) (p key : List ℕ) → true ≡ not (bytes_eq p (take ((done + n) - done) (drop done key))) → p ≢ take n (drop done key)
differs n done p key h same =
    let e : bytes_eq p (take ((done + n) - done) (drop done key)) ≡ true =
    (bytes_eq-Decides p (take ((done + n) - done) (drop done key))).1 (same ∙ sym (key_piece n done key)) in
    let f : true ≡ false = h ∙ ap not e in cc

pub agrees : (n done : ℕ) (p key : List ℕ) → false ≡ not (bytes_eq p (take ((done + n) - done) (drop done key))) → p ≡ take n (drop done key)
agrees n done p key h =
    let same : (v : Bool) → false ≡ not v → v ≡ true = λ v. elim v as (λ v. false ≡ not v → v ≡ true) [ true ↦ λ k. refl | false ↦ λ k. cc ] in
    (bytes_eq-Decides p (take ((done + n) - done) (drop done key))).0 (same (bytes_eq p (take ((done + n) - done) (drop done key))) h) ∙ key_piece n done key

pub tells_other : {at : ℕ} (done n : ℕ) (key : List ℕ) {p : List ℕ} {images : List ℕ → Type 0} → done + n ≤ length key → length p ≡ n → ImagesHold (at + done) p images → p ≢ take n (drop done key) → TellsSame false at key images
tells_other {at = at} done n key {p = p} inside l held other = record {
  each = λ b is. (λ e. cc, λ e. absurd (other (sym (held.each b is) ∙ ap (λ k. part (at + done) k b) l ∙ part_inner at done n key b inside e)));
}
