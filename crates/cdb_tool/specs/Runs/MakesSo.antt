-- When a run that makes a database comes to what the function of its bytes says.
use Rattle.std.specs.Prelude.{ℕ, ◌≡◌, ◌⊎◌, ⊤, OnOk, List, Option, Result, Err, is_some}
use Rattle.cdb_tool.specs.declared.runs.options.RunOptions.{RunOptions}
use Rattle.cdb_form.specs.declared.text.fault.TextFault.TheVariants as text
use Rattle.cdb_make.specs.Views.Maker.{IsFile}
use Rattle.cdb_store.specs.declared.make_fault.MakeFault.TheVariants as make
use Rattle.cdb_read.specs.declared.fault.ReadFault.TheVariants as read
use Rattle.cdb_show.specs.Message.{TellsEach, TellsPart}
use Rattle.cdb_show.specs.Feed.{IsGiven, given_from}
use Rattle.cdb_show.specs.Runs.Inputs.{input_form}
use Rattle.cdb_tool.specs.Runs.Made.{Made, made_of}
use Rattle.cdb_tool.specs.Runs.InputsRead.{IsReading, parsing}
use Rattle.cdb_tool.specs.Runs.Make.{MakeRuns, Reading, terms_of}
use Rattle.cdb_show.specs.declared.fault.Fault.{Fault}
use Rattle.cdb_show.specs.declared.fault.Fault.TheVariants.{Text, Make, Read, Output, NoMemory}

-- it came to what was said, and its duplicates were reported
pub record MakesSo (w : ℕ) (o : RunOptions) (m : Made) (images : List ℕ → Type 0) (old new : Option (List ℕ)) (result : Result Unit Fault) : Type 0 where
  pub is : result ≡ m.result
  pub lines : TellsEach o.names m.told old new
  pub file : OnOk result (IsFile w m.records images)

-- an allocation failed; the lines, a store, or the reader of an input
abbrev pub IsMakeRefusal : Fault → Type 0
IsMakeRefusal (Text n text.Input) = ⊤
IsMakeRefusal (Text n text.Endless) = ⊤
IsMakeRefusal (Make make.Lookup) = ⊤
IsMakeRefusal (Make make.Writing) = ⊤
IsMakeRefusal (Read read.Device) = ⊤
IsMakeRefusal Output = ⊤
IsMakeRefusal NoMemory = ⊤
IsMakeRefusal fault = ⊥

-- or that was refused, and the lines are a prefix
pub record MakeRefused (o : RunOptions) (m : Made) (old new : Option (List ℕ)) (result : Result Unit Fault) : Type 0 where
  pub fault : Fault
  pub is : result ≡ Err fault
  pub refusal : IsMakeRefusal fault
  pub lines : TellsPart o.names m.told old new

abbrev pub ComesOf : ℕ → RunOptions → Made → (images : List ℕ → Type 0) → (old new : Option (List ℕ)) → Result Unit Fault → Type 0
ComesOf w o m images old new result = MakesSo w o m images old new result ⊎ MakeRefused o m old new result

-- what a run leaves that read so much of inputs with these bytes, and whose store has this image, is what the function
-- says, or a refusal
abbrev pub RunsComeOf : (w g : ℕ) → RunOptions → Type 0
RunsComeOf w g o = (base : Option (List ℕ)) (inputs : List (Option (List ℕ))) (shared : List ℕ)
    (r : Reading) (image : List ℕ) (old new : Option (List ℕ)) (result : Result Unit Fault)
    → IsReading (input_form o.make.style (is_some base)) ⊤ r result
    → IsGiven 1 r.items r.stop
    (given_from (parsing (input_form o.make.style (is_some base)) g result).parse 1 inputs shared)
    → MakeRuns (terms_of w g o) base r (λ b. b ≡ image) old new result
    → ComesOf w o (made_of w g o.make base inputs shared) (λ b. b ≡ image) old new result
