-- What an output holds.
use Rattle.std.specs.Prelude.{ℕ, ◌≡◌, ◌⊎◌, true, List, [], drop, Option, Some, Result, Ok, Err, ⊤}
use Rattle.std.specs.Io.KnownBytes.{append_known}
use Rattle.cdb_show.specs.Views.Noted.{HasFailed, noted_by}
use Rattle.cdb_show.specs.declared.fault.Fault.{Fault}
use Rattle.cdb_show.specs.declared.fault.Fault.TheVariants.{Output as FailedOutput}
use Rattle.cdb_show.specs.declared.output.Output.{Output}

-- the bytes in the buffer that the writer hasn't taken yet
abbrev pub held_by : {W : Type 0} → Output W → List ℕ
held_by o = drop o.start o.buffer.items

-- what the writer took
abbrev pub writer_bytes : {W : Type 0} → Output W → Option (List ℕ)
writer_bytes o = Some (noted_by o.writer)

-- and then those in the buffer
abbrev pub output_bytes : {W : Type 0} → Output W → Option (List ℕ)
output_bytes o = append_known (writer_bytes o) (held_by o)

-- what the writer says that it holds, if it does, and then those in the buffer
abbrev pub passed_bytes : {W : Type 0} → (W → Option (List ℕ)) → Output W → Option (List ℕ)
passed_bytes contents o = append_known (contents o.writer.writer) (held_by o)

-- a write or a flush of the writer failed
abbrev pub WriterFailed : {W : Type 0} → Output W → Type 0
WriterFailed o = HasFailed o.writer.trace.events

-- which is marked, and the mark is what the program looks at
abbrev pub OutputFailed : {W : Type 0} → Output W → Type 0
OutputFailed o = o.failed ≡ true

-- the writer has all that was taken, or it failed
abbrev pub HasHandedOn : {W : Type 0} → Output W → Type 0
HasHandedOn o = (held_by o ≡ []) ⊎ OutputFailed o

-- `Output` says that an output has failed
abbrev pub OutputSays : {A : Type 0} → (failed : Type 0) → Result A Fault → Type 0
OutputSays failed (Ok value) = ⊤
OutputSays failed (Err FailedOutput) = failed
OutputSays failed (Err fault) = ⊤
