use Rattle.std.proofs.Common.{◌≡◌, [], ◌∷◌}
use Rattle.std.specs.Prelude.{IfOk, Result, Ok, Err}
use Rattle.cdb_store.specs.FileStore.{calls_of, len_of}
use Rattle.cdb_store.specs.declared.file.FileStore.{FileStore}
use Rattle.cdb_store.specs.declared.raw.RawFile.{Ghosts as Raw}
use Rattle.cdb_store.specs.declared.store.Store.{Ghosts}
use Rattle.cdb_store.specs.declared.store.StoreFault.{StoreFault}
use Rattle.cdb_store.specs.declared.trace.Call.TheVariants.{Length}
use Rattle.cdb_form.specs.declared.width.Width.{Ghosts as Widths}
use Rattle.cdb_read.specs.declared.reader.Reader.{Reader}
use Rattle.cdb_files.specs.Opening.{OpensFile, OpensOne}
use Rattle.cdb_files.specs.declared.fault.FileFault.{FileFault}
use Rattle.cdb_files.proofs.opening.open_file.Goals as goal

-- the reader is that of the file that was opened
opens_file : {F L : Type 0} {file : Raw F} {s : Ghosts (FileStore F file)} {l : Widths L} (opened : Result (FileStore F file) StoreFault) (result : Result (Reader (FileStore F file) L s l) FileFault)
    → IfOk opened (λ f. calls_of f ≡ (Length (len_of f), []) ∷ []) → IfOk result (OpensOne opened) → IfOk result OpensFile
opens_file (Ok store) (Ok reader) told opens = record { store = store; told = told; opens = opens }
opens_file (Ok store) (Err fault) told opens = tt
opens_file (Err none) (Ok reader) told opens = absurd opens
opens_file (Err none) (Err fault) told opens = tt

pub returns-clause-opens : goal.returns-clause-opens
returns-clause-opens g c = opens_file c.open.result c.read_opened.result c.open.ensures.told c.read_opened.ensures.opens
