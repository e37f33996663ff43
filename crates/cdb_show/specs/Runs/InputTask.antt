-- What a run does with its inputs, one after the other, up to the one that stops it.
use Rattle.std.specs.Prelude.{◌≡◌, ℕ, ◌+◌, ◌⊎◌, List, [], ◌∷◌, length, Option, None, Err}
use Rattle.cdb_form.specs.Text.Parse.{Change}
use Rattle.cdb_form.specs.declared.text.fault.TextFault.{TextFault}
use Rattle.cdb_form.specs.Views.Feed.{Feed}
use Rattle.cdb_show.specs.Feed.{AreRead, NoMore, Parsing, Stop}
use Rattle.cdb_show.specs.Runs.Inputs.{InputForm, IsInputOf}
use Rattle.cdb_show.specs.Runs.Parsing.{IsFaultOf, StopsIn, fault_in, stop_of, stopped_parsing}
use Rattle.cdb_show.specs.Views.Noted.{ArePassed}
use Rattle.cdb_show.specs.declared.fault.Fault.{Fault}
use Rattle.cdb_show.specs.declared.fault.Fault.TheVariants.{NoMemory}
use Rattle.cdb_show.specs.declared.input_reader.InputReader.{InputReader}

-- how far a run has come: what it wrote, if that is known, and its state
pub record Progress (T : Type 0) : Type 0 where
  pub output : Option (List ℕ)
  pub state : T

abbrev pub progress : {T : Type 0} → (output : Option (List ℕ)) → (state : T) → Progress T
progress output state = record { output = output; state = state }

-- The form of the inputs of a run, and the greatest length in a native text; what it does with all items of an input of
-- a number; and what it did of one, if it stopped with a fault after these items of it.
pub record Work (T : Type 0) : Type 1 where
  pub form : InputForm
  pub greatest : ℕ
  pub does : (number : ℕ) → List Change → (old new : Progress T) → Type 0
  pub stops : (number : ℕ) → List Change → (old new : Progress T) → Fault → Type 0

-- ---- one input

-- what a parser makes of it, in a run that stopped so
abbrev pub parsing_of : {T : Type 0} → Work T → Option TextFault → Parsing Change TextFault
parsing_of work fault = stopped_parsing work.form work.greatest fault

-- all its items were done, and read as this says of its text
pub record DoesOne {T : Type 0} (work : Work T) (number : ℕ) (Reads : (List ℕ → List ℕ → Type 0) → Type 0)
    (old new : Progress T) : Type 0 where
  pub items : List Change
  pub reads : Reads (IsInputOf work.form work.greatest items)
  pub does : work.does number items old new

-- there was no memory for its window, so nothing was done of it
pub record IsUnbegun {T : Type 0} (items : List Change) (old new : Progress T) (fault : Fault) : Type 0 where
  pub none : items ≡ []
  pub same : new ≡ old
  pub memory : fault ≡ NoMemory

abbrev pub StopsOrNot : {T : Type 0} → Work T → (number : ℕ) → List Change → (old new : Progress T) → Fault → Type 0
StopsOrNot work number items old new fault =
    work.stops number items old new fault ⊎ IsUnbegun items old new fault

-- the run stopped in it, or before it was begun
pub record StopsOne {T : Type 0} (work : Work T) (number : ℕ) (Reads : (List ℕ → List ℕ → Type 0) → Type 0)
    (Failed : Type 0) (old new : Progress T) (fault : Fault) : Type 0 where
  pub items : List Change
  pub reads : Reads (λ text rest. StopsIn (parsing_of work (fault_in (Err fault))) (stop_of (fault_in (Err fault)) items) text)
  pub is_fault : IsFaultOf work.form number Failed fault
  pub stops : StopsOrNot work number items old new fault

-- ---- one after the other

-- all items of these were done, the first of which has this number
abbrev pub DoesEach : {T : Type 0} → Work T → (number : ℕ) → List (List Change) → (old new : Progress T) → Type 0
DoesEach work number [] old new = new ≡ old
DoesEach {T = T} work number (items ∷ read) old new =
    (mid : Progress T) × work.does number items old mid × DoesEach work (number + 1) read mid new

-- all inputs were, and read as this says
pub record DoesAll {T : Type 0} (work : Work T)
    (Reads : Parsing Change TextFault → List (List Change) → Stop Change TextFault → Type 0)
    (old new : Progress T) : Type 0 where
  pub read : List (List Change)
  pub reads : Reads (parsing_of work None) read NoMore
  pub does : DoesEach work 1 read old new

-- the run stopped in one, after those before it
pub record StopsAmid {T : Type 0} (work : Work T)
    (Reads : Parsing Change TextFault → List (List Change) → Stop Change TextFault → Type 0)
    (Failed : Type 0) (old new : Progress T) (fault : Fault) : Type 0 where
  pub read : List (List Change)
  pub last : List Change
  pub reads : Reads (parsing_of work (fault_in (Err fault))) read (stop_of (fault_in (Err fault)) last)
  pub is_fault : IsFaultOf work.form (length read + 1) Failed fault
  pub mid : Progress T
  pub does : DoesEach work 1 read old mid
  pub stops : StopsOrNot work (length read + 1) last mid new fault

-- the readers of inputs were read up to a stop, and those that were not reached are as they were
pub record AreTaken {R S : Type 0} (own : R → Feed) (shared : S → Feed) (before after : List (InputReader R)) (old new : S)
    (p : Parsing Change TextFault) (read : List (List Change)) (stop : Stop Change TextFault) : Type 0 where
  pub are : AreRead own shared p read stop before after old new
  pub passed : ArePassed read stop before after
