-- The head of a store that is not finished.
use Rattle.cdb_make.proofs.Words.{AfterWrite, AreSized, List, ap, arith, head_size, held_first, length, part, replicate, sym, take, ℕ, ◌∙◌, ◌≡◌, ◌≤◌}
use Rattle.std.proofs.lemmas.List.{take-replicate, length-replicate}
use Rattle.cdb_make.specs.Unfinished.{unfinished_head, IsUnfinished}

-- the first bytes of a store that was emptied
pub head_begun : (w len most size : ℕ) {bytes : List ℕ} {i j : List ℕ → Type 0} → len ≡ head_size w → len ≤ most → bytes ≡ take len (replicate most 255) → AreSized size i → AfterWrite 0 bytes i j → IsUnfinished w j
unfolding unfinished_head
head_begun w len most size {bytes = bytes} is fits own sized write = record {
  each = λ b at.
      let ones : bytes ≡ replicate len 255 = own ∙ take-replicate len most 255 fits in
      let long : length bytes ≡ head_size w = ap length ones ∙ length-replicate len 255 ∙ is in
      let held : part 0 (length bytes) b ≡ bytes = (held_first {pos = 0} {size = size} (omega arith) sized write).each b at in
      ap (λ (n : ℕ). part 0 n b) (sym long) ∙ held ∙ ones ∙ ap (λ (n : ℕ). replicate n 255) is;
}
