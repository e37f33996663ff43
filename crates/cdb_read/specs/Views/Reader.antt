-- What a reader leaves of its store.
use Rattle.std.specs.Prelude.{ℕ}
use Rattle.cdb_store.specs.declared.store.Store.{Ghosts}
use Rattle.cdb_form.specs.declared.width.Width.{Ghosts as Widths}
use Rattle.cdb_store.specs.Reads.{OnlyReads}
use Rattle.cdb_read.specs.Views.Window.{Covers}
use Rattle.cdb_read.specs.declared.reader.Reader.{Reader}

-- a database was opened in a store, which was read
abbrev pub Opens : {S L : Type 0} {s : Ghosts S} {l : Widths L} → S → Reader S L s l → Type 0
Opens {s = s} store r = OnlyReads s store r.store

-- so many bytes from a place on were read already, and are still known
abbrev pub IsAtHand : {S L : Type 0} {s : Ghosts S} {l : Widths L} → Reader S L s l → (place n : ℕ) → Type 0
IsAtHand r place n = Covers r.window place n
