-- Bytes that are in each image, as they are compared piece by piece.
use Rattle.cdb_store.proofs.Words.{ImagesHold, List, ap, arith, drop, drop-drop, drop-take, length, length-take-le, part, sym, take, take-add, take-take, ℕ, ◌++◌, ◌+◌, ◌-◌, ◌∙◌, ◌≡◌, ◌≤◌}
use Rattle.cdb_store.proofs.Parts.{part_add}

-- each image has these bytes from `at` on
pub record AgreesSoFar (at : ℕ) (bytes : List ℕ) (images : List ℕ → Type 0) : Type 0 where
  pub each : (b : List ℕ) → images b → part at (length bytes) b ≡ bytes

-- a piece of the bytes there
pub part_inner : (at done n : ℕ) (key b : List ℕ) → done + n ≤ length key → part at (length key) b ≡ key → part (at + done) n b ≡ take n (drop done key)
part_inner at done n key b inside e =
    let m : ℕ = length key - done in
    let sum : done + m ≡ length key = omega arith in
    ap (take n) (sym (drop-drop done at b))
    ∙ sym (take-take n m (drop done (drop at b)) (omega arith))
    ∙ ap (take n) (sym (drop-take done m (drop at b)) ∙ ap (λ k. drop done (take k (drop at b))) sum ∙ ap (drop done) e)

agrees_more : (at done n : ℕ) (key p b : List ℕ) → done + n ≤ length key → length p ≡ n → part at (length (take done key)) b ≡ take done key → part (at + done) (length p) b ≡ p → p ≡ take n (drop done key)
    → part at (length (take (done + n) key)) b ≡ take (done + n) key
agrees_more at done n key p b inside l e f same =
    let l1 : length (take done key) ≡ done = length-take-le done key (omega arith) in
    let l2 : length (take (done + n) key) ≡ done + n = length-take-le (done + n) key inside in
    ap (λ k. part at k b) l2
    ∙ part_add at done n b
    ∙ ap (λ v. v ++ part (at + done) n b) (ap (λ k. part at k b) (sym l1) ∙ e)
    ∙ ap (λ v. take done key ++ v) (ap (λ k. part (at + done) k b) (sym l) ∙ f ∙ same)
    ∙ sym (take-add done n key)

pub agrees_piece : {at : ℕ} (done n : ℕ) (key : List ℕ) {p : List ℕ} {old new : List ℕ → Type 0} → done + n ≤ length key → length p ≡ n → AgreesSoFar at (take done key) old → ((b : List ℕ) → new b → old b) → ImagesHold (at + done) p new → p ≡ take n (drop done key)
    → AgreesSoFar at (take (done + n) key) new
agrees_piece {at = at} done n key {p = p} inside l a few held same = record {
  each = λ b is. agrees_more at done n key p b inside l (a.each b (few b is)) (held.each b is) same;
}
