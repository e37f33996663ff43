-- The inputs of a create, as they were opened and as their readers are returned, and what it runs on.
use Rattle.std.specs.Prelude.{◌≡◌, ◌++◌, Some, None, ⊤}
use Rattle.std.specs.List.{AllByRecursion}
use Rattle.cdb_form.specs.Views.Feed.{Feed}
use Rattle.cdb_show.specs.Views.Noted.{AreInPlace}
use Rattle.cdb_show.specs.declared.inputs.Inputs.{Inputs}
use Rattle.cdb_tool.specs.Runs.InputsRead.{InputFeeds, feeds_of}
use Rattle.cdb_system.specs.Opening.{OpenCalls}
use Rattle.cdb_system.specs.declared.left.Left.{Left}
use Rattle.cdb_system.specs.declared.open_trace.OpenCall.{OpenCall}
use Rattle.cdb_system.specs.declared.open_trace.OpenCall.TheVariants.{AtPlaces, InTurn, Watched}
use Rattle.cdb_store.specs.declared.raw.RawFile.{Ghosts as Raw}
use Rattle.cdb_store.specs.declared.store.Store.{Ghosts}
use Rattle.cdb_system.specs.State.{Files, files_of}
use Rattle.cdb_system.specs.declared.system.System.{Ghosts as Systems}

-- the inputs of a create: what is known of their readers, which were opened so and are returned so
pub record InputsTaken (J I : Type 0) : Type 1 where
  pub feeds : InputFeeds J I
  pub opened : Inputs J I
  pub handed : Inputs J I

abbrev pub inputs_taken : {J I : Type 0} → (own : J → Feed) → (shared : I → Feed) → (opened handed : Inputs J I)
    → InputsTaken J I
inputs_taken own shared opened handed =
    record { feeds = feeds_of own shared; opened = opened; handed = handed }

-- a call opens no file that is read
abbrev pub OpensNone : OpenCall → Type 0
OpensNone AtPlaces = ⊥
OpensNone Watched = ⊥
OpensNone InTurn = ⊥
OpensNone call = ⊤

-- so were the calls since
pub record OpensNoMore (old new : OpenCalls) : Type 0 where
  pub since : OpenCalls
  pub are : new ≡ since ++ old
  pub each : AllByRecursion (λ c. OpensNone c.0) since

-- the readers of the inputs are returned, each in its place, and no other stream is
pub record HandsInputs {F I J M : Type 0} (inputs handed : Inputs I J) (left : Left F M I J) : Type 0 where
  pub readers : left.inputs ≡ Some handed.readers
  pub shared : left.input ≡ Some handed.shared
  pub stream : left.stream ≡ None
  pub placed : AreInPlace inputs.readers.items handed.readers.items

-- ---- What the program runs on.

-- the files of a system, and those that are made under a name by raw calls
pub record Machine (F I J M N R Y : Type 0) : Type 1 where
  pub files : Files F I J M N R Y
  pub raw : Raw R

abbrev pub machine_of : {F I J M N R Y : Type 0} → Ghosts F → Ghosts M → (I → Feed)
    → Systems Y F I M J N R → Raw R → Machine F I J M N R Y
machine_of stores made feed system raw =
    record { files = files_of stores made feed system; raw = raw }
