-- How long images are.
use Rattle.std.specs.Prelude.{◌≡◌, ℕ, ◌+◌, ◌≤◌, max, List, ◌++◌, length, take, drop}
use Rattle.std.proofs.Common.{ap, ◌∙◌, arith, length-append, length-drop}
use Rattle.std.proofs.lemmas.List.{length-take, length-take-le}
use Rattle.cdb_store.specs.Images.{overwrite, Over}
use Rattle.cdb_store.specs.Calls.{Calls, FileImage}

pub same_length : (a b : List ℕ) → a ≡ b → length a ≡ length b
same_length a b e = ap length e

pub length-overwrite : (pos : ℕ) (a ys : List ℕ) → pos ≤ length a
    → length (overwrite a pos ys) ≡ max (length a) (pos + length ys)
length-overwrite pos a ys inside =
    let rest = drop (pos + length ys) a in
    omega (
      arith,
      length-append (take pos a) (ys ++ rest),
      length-append ys rest,
      length-take pos a,
      length-drop (pos + length ys) a,
    )

pub over_size : (pos : ℕ) (bytes : List ℕ) (n : ℕ) (images : List ℕ → Type 0)
    → ((b : List ℕ) → images b → length b ≡ n) → pos ≤ n
    → (b : List ℕ) → Over pos bytes images b → length b ≡ max n (pos + length bytes)
over_size pos bytes n images sized inside b is =
    let l : length is.0 ≡ n = sized is.0 is.1 in
    ap length is.2 ∙ length-overwrite pos is.0 bytes (omega arith)
    ∙ ap (λ k. max k (pos + length bytes)) l

pub over_taken : (pos k : ℕ) (bytes : List ℕ) (n : ℕ) (images : List ℕ → Type 0)
    → ((b : List ℕ) → images b → length b ≡ n) → pos ≤ n → k ≤ length bytes
    → (b : List ℕ) → Over pos (take k bytes) images b → length b ≡ max n (pos + k)
over_taken pos k bytes n images sized inside fits b is =
    over_size pos (take k bytes) n images sized inside b is
    ∙ ap (λ m. max n (pos + m)) (length-take-le k bytes fits)

pub file_size : (len : ℕ) (calls : Calls) (b : List ℕ) → FileImage len calls b
    → length b ≡ len
file_size len calls b is = ap length is.3 ∙ length-take-le len is.0 is.2
