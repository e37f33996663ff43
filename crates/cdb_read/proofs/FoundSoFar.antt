-- The values of a key that a finder gave so far.
use Rattle.std.proofs.Common.{◌≡◌, ◌∙◌, ℕ, List, [], ◌∷◌, ◌++◌, refl, sym, ap, subst, arith, append_assoc, Option}
use Rattle.cdb_read.proofs.Words.{Damage, Ghosts, OnlyReads, Span, found_ahead}
use Rattle.cdb_store.proofs.Reading.{reads_more}
use Rattle.cdb_form.specs.declared.width.Width.{Ghosts as Widths}
use Rattle.cdb_read.specs.Lookup.{Found, with_spans}
use Rattle.cdb_read.specs.Views.Finder.{left_in, GivesSpan}
use Rattle.cdb_read.specs.declared.lookup.finder.Finder.{Finder}

pub reads_none : {S : Type 0} (s : Ghosts S) (store : S) → OnlyReads s store store
reads_none s store = record { images = λ b is. is; size = refl; written = refl; room = omega arith; failures = omega arith; unwritten = omega arith }

abbrev pub ending : List Span → Option Damage → Found
ending spans damage = record { spans = spans; damage = damage }

-- the store was only read, and in each image these spans are the first of all that is found there
pub record FoundSoFar {S L : Type 0} {s : Ghosts S} {l : Widths L} (w : ℕ) (all : List ℕ → Found) (old : S) (t : Finder S L s l) (spans : List Span) : Type 0 where
  pub reads : OnlyReads s old t.reader.now.store
  pub first : (b : List ℕ) → s.image t.reader.now.store b → all b ≡ with_spans spans (left_in w b t)

pub found_none : {S L : Type 0} {s : Ghosts S} {l : Widths L} (w : ℕ) (all : List ℕ → Found) (old : S) (t : Finder S L s l) → t.reader.now.store ≡ old → ((b : List ℕ) → s.image old b → left_in w b t ≡ all b) → FoundSoFar w all old t []
found_none {s = s} w all old t same finds = record {
  reads = subst (OnlyReads s old) (sym same) (reads_none s old);
  first = λ b is. sym (finds b (subst (λ x. s.image x b) same is));
}

-- one more was given
pub found_more : {S L : Type 0} {s : Ghosts S} {l : Widths L} (w : ℕ) (all : List ℕ → Found) (old : S) (t u : Finder S L s l) (spans : List Span) (span : Span) → FoundSoFar w all old t spans → OnlyReads s t.reader.now.store u.reader.now.store → GivesSpan w t u span
    → FoundSoFar w all old u (spans ++ span ∷ [])
found_more w all old t u spans span h reads gives = record {
  reads = reads_more h.reads reads;
  first = λ b is.
      h.first b (reads.images b is) ∙ ap (with_spans spans) (gives.first b is)
      ∙ ap (λ xs. ending xs (left_in w b u).damage) (sym (append_assoc spans (span ∷ []) (left_in w b u).spans));
}

-- a value was read
pub found_still : {S L : Type 0} {s : Ghosts S} {l : Widths L} (w : ℕ) (all : List ℕ → Found) (old : S) (t u : Finder S L s l) (spans : List Span) → FoundSoFar w all old t spans → OnlyReads s t.reader.now.store u.reader.now.store → u.key.now ≡ t.key.now
    → u.searching ≡ t.searching → FoundSoFar w all old u spans
found_still w all old t u spans h reads same stays = record {
  reads = reads_more h.reads reads;
  first = λ b is.
      h.first b (reads.images b is)
      ∙ ap (with_spans spans) (sym (ap (λ k. found_ahead w b k u.searching) same ∙ ap (found_ahead w b t.key.now) stays));
}
