-- Bytes that are read piece by piece and compared.
use Rattle.cdb_make.proofs.Words.{AfterRead, Bool, Ghosts, List, NoNewImage, OnlyReads, TellsSameInImages, ap, arith, bytes_eq, bytes_eq-Decides, drop, false, length, not, part, refl, sym, take, take_at, true, ℕ, ◌++◌, ◌+◌, ◌-◌, ◌∙◌, ◌≡◌, ◌≢◌, ◌≤◌}
pub use Rattle.cdb_store.proofs.Compared.{AgreesSoFar, agrees_piece}
use Rattle.cdb_store.proofs.Compared.{part_inner}

-- the two pieces that are compared
compared : (n done : ℕ) (p piece key : List ℕ) → length p ≡ n → (take n (p ++ drop n piece) ≡ p) × (take ((done + n) - done) (drop done key) ≡ take n (drop done key))
compared n done p piece key l = (take_at p (drop n piece) n l, (let e : (done + n) - done ≡ n = omega arith in ap (λ k. take k (drop done key)) e))

pub differs : (n done : ℕ) (p piece key : List ℕ) → length p ≡ n → true ≡ not (bytes_eq (take n (p ++ drop n piece)) (take ((done + n) - done) (drop done key))) → p ≢ take n (drop done key)
differs n done p piece key l h same =
    let c = compared n done p piece key l in
    let e : bytes_eq (take n (p ++ drop n piece)) (take ((done + n) - done) (drop done key)) ≡ true =
    (bytes_eq-Decides (take n (p ++ drop n piece)) (take ((done + n) - done) (drop done key))).1 (c.0 ∙ same ∙ sym c.1) in
    let f : true ≡ false = h ∙ ap not e in cc

pub agrees : (n done : ℕ) (p piece key : List ℕ) → length p ≡ n → false ≡ not (bytes_eq (take n (p ++ drop n piece)) (take ((done + n) - done) (drop done key))) → p ≡ take n (drop done key)
agrees n done p piece key l h =
    let c = compared n done p piece key l in
    let same : (v : Bool) → false ≡ not v → v ≡ true = λ v. elim v as (λ v. false ≡ not v → v ≡ true) [ true ↦ λ k. refl | false ↦ λ k. cc ] in
    sym c.0 ∙ (bytes_eq-Decides (take n (p ++ drop n piece)) (take ((done + n) - done) (drop done key))).0 (same (bytes_eq (take n (p ++ drop n piece)) (take ((done + n) - done) (drop done key))) h) ∙ c.1

-- reading brings no image
pub reads_fewer : {S : Type 0} {s : Ghosts S} {old new : S} → OnlyReads s old new → NoNewImage (s.image old) (s.image new)
reads_fewer r = record { no_other = r.images }

pub tells_other : {at : ℕ} (done n : ℕ) (key : List ℕ) {p : List ℕ} {old new : List ℕ → Type 0} → done + n ≤ length key → length p ≡ n → AfterRead (at + done) p old new → p ≢ take n (drop done key) → TellsSameInImages false at key new
tells_other {at = at} done n key {p = p} inside l r other = record {
  each = λ b is. (λ e. cc, λ e. absurd (other (sym (r.read b is) ∙ ap (λ k. part (at + done) k b) l ∙ part_inner at done n key b inside e)));
}
