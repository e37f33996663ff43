-- Bytes that are read piece by piece.
use Rattle.std.proofs.Common.{◌≡◌, ℕ, ◌+◌, List, ◌++◌, length, sym, ap, ◌∙◌, subst, Option}
use Rattle.std.specs.Io.KnownBytes.{Appends}
use Rattle.cdb_read.proofs.Words.{AfterRead, part, part_add}
use Rattle.cdb_form.specs.Views.KnownBytes.{AppendsPrefix}
use Rattle.cdb_form.proofs.Bytes.WritingLemmas.{appends_then, prefix_then}
pub use Rattle.cdb_store.proofs.Reading.{reads_more}

-- in each image, a writer holds what it held and then n bytes from a place on
pub record HasCopied (place n : ℕ) (old new : Option (List ℕ)) (images : List ℕ → Type 0) : Type 0 where
  pub each : (b : List ℕ) → images b → Appends old new (part place n b)

-- in each image a list is the n bytes from a place on
pub record HasTaken (place n : ℕ) (taken : List ℕ) (images : List ℕ → Type 0) : Type 0 where
  pub each : (b : List ℕ) → images b → taken ≡ part place n b

-- the piece that was read
piece_is : {at : ℕ} {bytes : List ℕ} {old new : List ℕ → Type 0} (place done n : ℕ) (b : List ℕ) → at ≡ place + done → length bytes ≡ n → AfterRead at bytes old new → new b → bytes ≡ part (place + done) n b
piece_is {bytes = bytes} place done n b here long read is = sym (read.read b is) ∙ ap (λ k. part k (length bytes) b) here ∙ ap (λ k. part (place + done) k b) long

pub copied_more : {at place done n : ℕ} {bytes : List ℕ} {first mid last : Option (List ℕ)} {old new : List ℕ → Type 0} → at ≡ place + done → length bytes ≡ n
    → HasCopied place done first mid old → AfterRead at bytes old new → Appends mid last bytes → HasCopied place (done + n) first last new
copied_more {place = place} {done = done} {n = n} {bytes = bytes} {first = first} {mid = mid} {last = last} here long copied read wrote = record {
  each = λ b is. subst (Appends first last) (ap (λ t. part place done b ++ t) (piece_is place done n b here long read is) ∙ sym (part_add place done n b))
      (appends_then first mid last (part place done b) bytes (copied.each b (read.no_other b is)) wrote);
}

pub taken_more : {at place done n : ℕ} {bytes taken : List ℕ} {old new : List ℕ → Type 0} → at ≡ place + done → length bytes ≡ n
    → HasTaken place done taken old → AfterRead at bytes old new → HasTaken place (done + n) (taken ++ bytes) new
taken_more {place = place} {done = done} {n = n} {bytes = bytes} here long taken read = record {
  each = λ b is. ap (λ t. t ++ bytes) (taken.each b (read.no_other b is)) ∙ ap (λ t. part place done b ++ t) (piece_is place done n b here long read is) ∙ sym (part_add place done n b);
}

-- what was copied so far is a prefix of it all
whole_is : (place done n rest len : ℕ) (b : List ℕ) → len ≡ done + (n + rest) → part place len b ≡ part place done b ++ (part (place + done) n b ++ part (place + done + n) rest b)
whole_is place done n rest len b e = ap (λ k. part place k b) e ∙ part_add place done (n + rest) b ∙ ap (λ t. part place done b ++ t) (part_add (place + done) n rest b)

pub copied_prefix : {place done len : ℕ} {first mid : Option (List ℕ)} {old new : List ℕ → Type 0} (rest : ℕ) → len ≡ done + rest → HasCopied place done first mid old → ((b : List ℕ) → new b → old b) → (b : List ℕ) → new b → AppendsPrefix first mid (part place len b)
copied_prefix {place = place} {done = done} rest e copied fewer b is = record {
  front = part place done b;
  more = part (place + done) rest b;
  split = ap (λ k. part place k b) e ∙ part_add place done rest b;
  appended = copied.each b (fewer b is);
}

pub copied_piece : {at place done n len : ℕ} {bytes : List ℕ} {first mid last : Option (List ℕ)} {old new : List ℕ → Type 0} (rest : ℕ) → len ≡ done + (n + rest) → at ≡ place + done → length bytes ≡ n
    → HasCopied place done first mid old → AfterRead at bytes old new → AppendsPrefix mid last bytes → (b : List ℕ) → new b → AppendsPrefix first last (part place len b)
copied_piece {place = place} {done = done} {n = n} {len = len} {bytes = bytes} {first = first} {mid = mid} {last = last} rest e here long copied read front b is =
    prefix_then first mid last (part place done b) bytes (part (place + done + n) rest b) (part place len b) (copied.each b (read.no_other b is)) front
    (whole_is place done n rest len b e ∙ ap (λ t. part place done b ++ (t ++ part (place + done + n) rest b)) (sym (piece_is place done n b here long read is)))
