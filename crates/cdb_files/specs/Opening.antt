-- Why a database was not opened, and what was opened.
use Rattle.std.specs.Prelude.{◌≡◌, ℕ, [], ◌∷◌, Result, Ok, Err}
use Rattle.cdb_store.specs.FileStore.{calls_of, len_of}
use Rattle.cdb_store.specs.declared.file.FileStore.{FileStore}
use Rattle.cdb_store.specs.declared.raw.RawFile.{Ghosts as Raw}
use Rattle.cdb_store.specs.declared.store.Store.{Ghosts}
use Rattle.cdb_store.specs.declared.store.StoreFault.{StoreFault}
use Rattle.cdb_store.specs.declared.store.StoreFault.TheVariants as store_fault
use Rattle.cdb_store.specs.declared.trace.Call.TheVariants.{Length}
use Rattle.cdb_form.specs.declared.width.Width.{Ghosts as Widths}
use Rattle.cdb_read.specs.Views.Reader.{Opens}
use Rattle.cdb_read.specs.Views.Reads.{OpeningFails}
use Rattle.cdb_read.specs.declared.reader.Reader.{Reader}
use Rattle.cdb_files.specs.declared.fault.FileFault.{FileFault}
use Rattle.cdb_files.specs.declared.fault.FileFault.TheVariants.{NoMemory, Open, Read}

-- no store was opened, for want of memory or for another reason; or the reader of the one that was
-- opened failed so, and left it in some state
abbrev pub OpensNone : {S : Type 0} → ℕ → Ghosts S → Result S StoreFault → FileFault → Type 0
OpensNone w s (Err store_fault.NoMemory) fault = fault ≡ NoMemory
OpensNone w s (Err store_fault.Device) fault = fault ≡ Open
OpensNone {S = S} w s (Ok store) (Read fault) = (left : S) × OpeningFails w s store left fault
OpensNone w s (Ok store) fault = ⊥

-- a reader of the store that was opened
abbrev pub OpensOne : {S L : Type 0} {s : Ghosts S} {l : Widths L} → Result S StoreFault
    → Reader S L s l → Type 0
OpensOne (Err fault) reader = ⊥
OpensOne (Ok store) reader = Opens store reader

-- a reader of a file of which the length was read and no more
pub record OpensFile {F L : Type 0} {file : Raw F} {s : Ghosts (FileStore F file)} {l : Widths L}
    (reader : Reader (FileStore F file) L s l) : Type 0 where
  pub store : FileStore F file
  pub told : calls_of store ≡ (Length (len_of store), []) ∷ []
  pub opens : Opens store reader
