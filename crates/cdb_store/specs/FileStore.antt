-- What a clause reads of a store in a file.
use Rattle.std.specs.Prelude.{ℕ, List}
use Rattle.cdb_store.specs.declared.raw.RawFile.{Ghosts}
use Rattle.cdb_store.specs.declared.file.FileStore.{FileStore}
use Rattle.cdb_store.specs.Calls.{Calls, FileImage, failure_count, written_count}
use Rattle.cdb_store.specs.declared.real.RealFile.{RealFile}
use Rattle.cdb_store.specs.declared.trace.Trace.{Trace}

-- its file, and the length that it last had
abbrev pub file_of : {F : Type 0} {file : Ghosts F} → FileStore F file → F
file_of f = f.file

abbrev pub len_of : {F : Type 0} {file : Ghosts F} → FileStore F file → ℕ
len_of f = f.len

-- the calls on its file
abbrev pub calls_of : {F : Type 0} {file : Ghosts F} → FileStore F file → Calls
calls_of {file = file} f = file.calls f.file

-- its images
abbrev pub images_of : {F : Type 0} {file : Ghosts F} → FileStore F file → List ℕ → Type 0
images_of f = FileImage f.len (calls_of f)

-- how often it has failed
abbrev pub failures_of : {F : Type 0} {file : Ghosts F} → FileStore F file → ℕ
failures_of f = failure_count (calls_of f)

-- the number of bytes that were written to it
abbrev pub written_of : {F : Type 0} {file : Ghosts F} → FileStore F file → ℕ
written_of f = written_count (calls_of f)

-- ---- What a clause reads of a file of the system.

-- what the calls on it are noted in, and these
abbrev pub trace_of : RealFile → Trace
trace_of f = f.trace

abbrev pub events_of : RealFile → Calls
events_of f = f.trace.events
