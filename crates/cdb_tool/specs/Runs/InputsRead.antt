-- What a run that makes a database read of its inputs, and what a parser makes of that.
use Rattle.std.specs.Prelude.{Err, IfErr, List, Ok, Option, Result, is_some, length, ℕ, ⊤, ◌+◌, ◌≡◌}
use Rattle.cdb_form.specs.Text.Parse.{Change}
use Rattle.cdb_form.specs.declared.text.fault.TextFault.{TextFault}
use Rattle.cdb_show.specs.Feed.{AreRead, HasFault, NoMore, Parsing, SomeFailed, Stop}
use Rattle.cdb_show.specs.Runs.Inputs.{InputForm, input_form}
use Rattle.cdb_show.specs.declared.fault.Fault.{Fault}
use Rattle.cdb_show.specs.declared.fault.Fault.TheVariants.{Text}
use Rattle.cdb_store.specs.declared.store.Store.{Ghosts}
use Rattle.cdb_form.specs.Views.Feed.{Consumes, Feed}
use Rattle.cdb_make.specs.Views.Maker.{WhereHonest}
use Rattle.cdb_show.specs.Runs.Parsing.{IsFaultOf, fault_in, stop_of, stopped_parsing}
use Rattle.cdb_show.specs.Views.Noted.{ArePassed, shared_feed}
use Rattle.cdb_show.specs.declared.inputs.Inputs.{Inputs}
use Rattle.cdb_show.specs.declared.inputs.SharedWindow.{SharedWindow}
use Rattle.cdb_show.specs.declared.inputs.SharedWindow.TheVariants.{Unread}
use Rattle.cdb_tool.specs.Runs.Make.{MakeRuns, OfBase, Reading, Terms}

-- what a parser of an input makes of its bytes, in a run with this answer
abbrev pub parsing : InputForm → (greatest : ℕ) → (answer : Result Unit Fault) → Parsing Change TextFault
parsing form greatest answer = stopped_parsing form greatest (fault_in answer)

-- ---- What a run read of its inputs, and what came of that.

-- ---- the readers

-- what is known of the readers of inputs: of an input's own, and of the one that they share
pub record InputFeeds (J I : Type 0) : Type 1 where
  pub own : J → Feed
  pub shared : I → Feed

abbrev pub feeds_of : {J I : Type 0} → (own : J → Feed) → (shared : I → Feed) → InputFeeds J I
feeds_of own shared = record { own = own; shared = shared }

-- why no more was read in a run with this fault, after these items of an input
abbrev pub stop_by : Fault → List Change → Stop Change TextFault
stop_by fault last = stop_of (fault_in (Err fault)) last

-- The inputs of a run were read in turn, the first ones whole, with these items, and the readers of those that were not
-- reached are as they were. What the window over the shared reader held was lost when the reader was returned.
pub record WereRead {J I : Type 0} (feeds : InputFeeds J I) (p : Parsing Change TextFault)
    (read : List (List Change)) (stop : Stop Change TextFault) (before after : Inputs J I)
    : Type 0 where
  pub window : SharedWindow I
  pub are : AreRead feeds.own (shared_feed feeds.shared) p read stop
      before.readers.items after.readers.items (Unread before.shared) window
  pub passed : ArePassed read stop before.readers.items after.readers.items
  pub lost : List ℕ
  pub let_go : Consumes (shared_feed feeds.shared window) (feeds.shared after.shared) lost

-- ---- the run

-- why a run with this answer read no more: there were no more inputs; the next one has the fault that the run reports;
-- or another fault stopped it, in an input, before the first or after the last
abbrev pub IsStopOf : Result Unit Fault → Stop Change TextFault → Type 0
IsStopOf (Ok done) stop = stop ≡ NoMore
IsStopOf (Err (Text number fault)) stop =
    (last : List Change) × (stop ≡ stop_by (Text number fault) last)
IsStopOf (Err fault) (HasFault last other) = ⊥
IsStopOf (Err fault) stop = ⊤

-- a run with this answer read so much of inputs of this form: a fault of an input is one of the input in which it
-- stopped, and if a reader is the fault, one has failed
pub record IsReading (form : InputForm) (Failed : Type 0) (r : Reading) (result : Result Unit Fault)
    : Type 0 where
  pub stopped : IsStopOf result r.stop
  pub of_input : IfErr result (IsFaultOf form (length r.items + 1) Failed)

-- what a run reads and what it reports, before it or as it left them: its base, its inputs, and the lines
pub record RunState (B J I : Type 0) : Type 0 where
  pub base : Option B
  pub inputs : Inputs J I
  pub lines : Option (List ℕ)

abbrev pub run_state : {B J I : Type 0} → Option B → Inputs J I → (lines : Option (List ℕ))
    → RunState B J I
run_state base inputs lines = record { base = base; inputs = inputs; lines = lines }

-- the form of the inputs of a run that begins so
abbrev pub read_form : {B J I : Type 0} → Terms → RunState B J I → InputForm
read_form terms before = input_form terms.options.make.style (is_some before.base)

-- What a run leaves that read its inputs, by its base as it was and as it was returned.
pub record RunsRead {B J I : Type 0} (terms : Terms) (feeds : InputFeeds J I) (s : Ghosts B)
    (before after : RunState B J I) (images : List ℕ → Type 0) (result : Result Unit Fault)
    : Type 0 where
  pub read : Reading
  pub were : WereRead feeds (parsing (read_form terms before) terms.greatest result) read.items
      read.stop before.inputs after.inputs
  pub is : IsReading (read_form terms before)
      (SomeFailed feeds.own feeds.shared after.inputs.readers.items after.inputs.shared) read result
  pub runs : WhereHonest images (OfBase s after.base (λ b.
      MakeRuns terms b read images before.lines after.lines result))
