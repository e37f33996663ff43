-- What a create reads: its base, and its inputs in their order. The newest call comes first.
use Rattle.std.specs.Prelude.{ℕ, ◌≡◌, ◌⊎◌, List, [], ◌∷◌, ◌++◌, Option, Some, None, codes}
use Rattle.cdb_show.specs.declared.input_reader.InputReader.{InputReader}
use Rattle.cdb_show.specs.declared.input_reader.InputReader.TheVariants.{Own, Shared}
use Rattle.cdb_show.specs.declared.fault.Fault.{Fault}
use Rattle.cdb_show.specs.declared.fault.Fault.TheVariants.{NoMemory}
use Rattle.cdb_system.specs.Opening.{OpenCalls, Misses}
use Rattle.cdb_system.specs.declared.open_trace.OpenCall.TheVariants.{InTurn, Watched}
use Rattle.cdb_system.specs.declared.system.System.{Ghosts as Systems}

-- the name of standard input
abbrev pub IsStandard : List ℕ → Type 0
IsStandard name = name ≡ codes "-"

-- the inputs that are read: without a name, standard input is the one input
abbrev pub inputs_read : List (List ℕ) → List (List ℕ)
inputs_read [] = codes "-" ∷ []
inputs_read (name ∷ names) = name ∷ names

-- the base was opened, if there is one, and is watched
abbrev pub OpensBase : {F I J M N R Y : Type 0} → Systems Y F I M J N R → Option (List ℕ) → Option F
    → (old new : OpenCalls) → Type 0
OpensBase y None None old new = new ≡ old
OpensBase y (Some name) (Some file) old new =
    (new ≡ (Watched, name) ∷ old) × y.gives name file
OpensBase y name file old new = ⊥

-- or it was not
abbrev pub MissesBase : Option (List ℕ) → (old new : OpenCalls) → Fault → Type 0
MissesBase None old new fault = ⊥
MissesBase (Some name) old new fault = Misses name old new fault

-- an input is standard input, for which nothing is opened, or the file that came for its name
abbrev pub OpensInput : {F I J M N R Y : Type 0} → Systems Y F I M J N R → List ℕ → InputReader I
    → (old new : OpenCalls) → Type 0
OpensInput y name Shared old new = IsStandard name × (new ≡ old)
OpensInput y name (Own file) old new =
    (IsStandard name → ⊥) × (new ≡ (InTurn, name) ∷ old) × y.reads name file

-- each of these is
abbrev pub OpensEach : {F I J M N R Y : Type 0} → Systems Y F I M J N R → List (List ℕ) → List (InputReader I)
    → (old new : OpenCalls) → Type 0
OpensEach y [] [] old new = new ≡ old
OpensEach y (name ∷ names) (reader ∷ readers) old new =
    (mid : OpenCalls) × OpensInput y name reader old mid × OpensEach y names readers mid new
OpensEach y names readers old new = ⊥

-- without a name, standard input is the one input
abbrev pub OpensInputs : {F I J M N R Y : Type 0} → Systems Y F I M J N R → List (List ℕ) → List (InputReader I)
    → (old new : OpenCalls) → Type 0
OpensInputs y [] readers old new = (readers ≡ Shared ∷ []) × (new ≡ old)
OpensInputs y (name ∷ names) readers old new = OpensEach y (name ∷ names) readers old new

-- the file of an input was not opened
abbrev pub MissesInput : List ℕ → (old new : OpenCalls) → Fault → Type 0
MissesInput name old new fault = (IsStandard name → ⊥) × Misses name old new fault

-- the first of them were opened, and then one was not, or an allocation failed
pub record StopsOpening {F I J M N R Y : Type 0} (y : Systems Y F I M J N R) (names : List (List ℕ))
    (old new : OpenCalls) (fault : Fault) : Type 0 where
  pub opened : List (List ℕ)
  pub left : List (List ℕ)
  pub are : names ≡ opened ++ left
  pub readers : List (InputReader I)
  pub mid : OpenCalls
  pub opens : OpensEach y opened readers old mid
  pub last : ((new ≡ mid) × (fault ≡ NoMemory))
      ⊎ ((name : List ℕ) × (more : List (List ℕ)) × (left ≡ name ∷ more)
      × MissesInput name mid new fault)
