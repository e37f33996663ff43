-- The head of a store's images, once it was read.
use Rattle.cdb_read.proofs.Words.{AfterRead, List, WordPair, ap, drop, head_at, head_size, length, sym, take, take-append-drop, ℕ, ◌++◌, ◌∙◌, ◌≡◌}
use Rattle.cdb_form.proofs.RecordReading.RecordAreas.{head_at-append}

pub head_known : (w : ℕ) (bytes : List ℕ) (pointers : List WordPair) (old new : List ℕ → Type 0) (b : List ℕ) → length bytes ≡ head_size w → AfterRead 0 bytes old new → head_at w bytes ≡ pointers → new b → head_at w b ≡ pointers
head_known w bytes pointers old new b long read is image =
    let front : take (length bytes) b ≡ bytes = read.read b image in
    let split : b ≡ bytes ++ drop (length bytes) b = sym (take-append-drop (length bytes) b) ∙ ap (λ t. t ++ drop (length bytes) b) front in
    ap (head_at w) split ∙ head_at-append w bytes (drop (length bytes) b) long ∙ is
