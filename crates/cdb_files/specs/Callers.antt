-- What the callers promise.
use Rattle.std.specs.Prelude.{ℕ, List, codes, ◌≡◌, ◌≢◌, ◌<◌, ◌≤◌, ⊤, Bool, true, false, [], ◌∷◌, ◌++◌, fold, Option, Some, None}
use Rattle.cdb_form.specs.Format.{KeyValue, head_size}
use Rattle.cdb_form.specs.Text.Native.{Spells}
use Rattle.cdb_form.specs.Views.Feed.{Feed, Consumes}
use Rattle.cdb_store.specs.declared.store.Store.{Ghosts}
use Rattle.cdb_form.specs.declared.mode.Mode.TheVariants.{Add, Warn, Insert, Replace}
use Rattle.cdb_form.specs.declared.width.Width.{Ghosts as Widths}
use Rattle.cdb_form.specs.Views.Pairs.{key_value}
use Rattle.cdb_make.specs.Survivors.{Call, Answered, survivors, answered_step, fits, is_there, put_answer}
use Rattle.cdb_make.specs.Survivors.Call.{Putting, Removing}
use Rattle.cdb_make.specs.Views.Maker.{ComesFrom, Holds, WhereHonest, IsFile}
use Rattle.cdb_store.specs.declared.make_fault.MakeFault.{MakeFault}
use Rattle.cdb_store.specs.declared.make_fault.MakeFault.TheVariants.{Broken, Lookup, TooBig, NoMemory, Writing}
use Rattle.cdb_make.specs.declared.maker.Maker.{Maker}
use Rattle.cdb_make.specs.declared.answer.Put.TheVariants.{Present}
use Rattle.cdb_files.specs.declared.examples.edits.Edit.{Edit}
use Rattle.cdb_files.specs.declared.examples.edits.Edit.TheVariants.{Put, Remove}
use Rattle.cdb_files.specs.declared.examples.steps.Step.{Step}
use Rattle.cdb_files.specs.declared.examples.steps.Step.TheVariants as kind
use Rattle.std.specs.List.{concat}
use Rattle.std.specs.Io.KnownBytes.{Appends}
use Rattle.cdb_form.specs.Views.KnownBytes.{AppendsPrefix}
use Rattle.cdb_read.specs.Lookup.{values_of}
use Rattle.cdb_read.specs.declared.fault.ReadFault.{ReadFault}
use Rattle.cdb_read.specs.declared.fault.ReadFault.TheVariants.{Device, Output}
use Rattle.cdb_files.specs.declared.examples.ask.AskFault.{AskFault}
use Rattle.cdb_files.specs.declared.examples.ask.AskFault.TheVariants.{Make, Read}
use Rattle.cdb_files.specs.declared.examples.steps.Stepped.{Stepped}
use Rattle.cdb_files.specs.declared.examples.steps.Stepped.TheVariants.{Finished, GoesOn}
use Rattle.cdb_files.specs.declared.examples.steps.Unbuilt.{Unbuilt}
use Rattle.std.proofs.Common.{refl}
use Rattle.std.proofs.Math.Nat.{le_refl}
use Rattle.cdb_make.proofs.Meeting.{replaces_it}

-- ---- What was at the start of a text, for all bytes that agree with what was taken of it.

-- a spelling of the record
abbrev pub BeginsWithFirst : (old new : Feed) → KeyValue → Type 0
BeginsWithFirst old new r = (first : List ℕ) × Spells 4294967295 first r × Consumes old new first

-- the newline that ends a text
abbrev pub HasNone : (old new : Feed) → Type 0
HasNone old new = Consumes old new (codes "\n")

-- ---- What a maker answers to steps in turn, of which some are refused, and which records are left.

-- ---- one step

-- true if a maker is broken, and how often its store has failed
pub record Stage : Type 0 where
  pub broken : Bool
  pub failures : ℕ

abbrev pub whole : ℕ → Stage
whole failures = record { broken = false; failures = failures }

-- the call of a maker that makes a change
abbrev pub call_of : Edit → Call
call_of (Put mode r) = Putting mode (key_value r)
call_of (Remove key) = Removing key.items

-- true if the file keeps the limit after a call
abbrev pub is_within : ℕ → ℕ → List KeyValue → Call → Bool
is_within w limit rs (Putting mode r) = fits w limit mode r rs
is_within w limit rs (Removing key) = true

-- a call looks for its key, adds its record, changes the store
abbrev pub StepLooks : Call → Type 0
StepLooks (Putting mode r) = mode ≢ Add
StepLooks (Removing key) = ⊤

abbrev pub StepAdds : List KeyValue → Call → Type 0
StepAdds rs (Putting mode r) = put_answer mode r rs ≢ Present
StepAdds rs (Removing key) = ⊥

abbrev pub StepWrites : List KeyValue → Call → Type 0
StepWrites rs (Putting mode r) = put_answer mode r rs ≢ Present
StepWrites rs (Removing key) = is_there key rs ≡ true

-- and whether it takes records out
abbrev pub takes_out : List KeyValue → Call → Bool
takes_out rs (Putting Add r) = false
takes_out rs (Putting Warn r) = false
takes_out rs (Putting Insert r) = false
takes_out rs (Putting Replace r) = is_there r.key rs
takes_out rs (Removing key) = is_there key rs

-- what a whole maker answers to a call, whose store had failed so often: each fault has its cause
abbrev pub StepAnswers : ℕ → ℕ → List KeyValue → Call → Option MakeFault → ℕ → Stage → Type 0
StepAnswers w limit rs call None n new =
    (is_within w limit rs call ≡ true) × (n ≤ new.failures) × (new.broken ≡ false)
StepAnswers w limit rs call (Some TooBig) n new = (is_within w limit rs call ≡ false) × (new ≡ whole n)
StepAnswers w limit rs call (Some NoMemory) n new =
    StepAdds rs call × (is_within w limit rs call ≡ true) × (new ≡ whole n)
StepAnswers w limit rs call (Some Lookup) n new =
    StepLooks call × (n < new.failures) × (new.broken ≡ false)
StepAnswers w limit rs call (Some Writing) n new = StepWrites rs call
    × (is_within w limit rs call ≡ true) × (n < new.failures) × (new.broken ≡ takes_out rs call)
StepAnswers w limit rs call (Some Broken) n new = ⊥

-- and to a finish that it refuses
abbrev pub StepRefuses : Option MakeFault → ℕ → Stage → Type 0
StepRefuses (Some NoMemory) n new = (n ≤ new.failures) × (new.broken ≡ false)
StepRefuses (Some Writing) n new = (n < new.failures) × (new.broken ≡ false)
StepRefuses fault n new = ⊥

abbrev pub AnswersStep : ℕ → ℕ → List KeyValue → Step → Option MakeFault → ℕ → Stage → Type 0
AnswersStep w limit rs (kind.Edit change) fault n new =
    StepAnswers w limit rs (call_of change) fault n new
AnswersStep w limit rs kind.Finish fault n new = StepRefuses fault n new

-- what a fault, or none, leads from and to: a broken maker answers that it is broken, and stays
pub record StepMeets (answers : ℕ → Stage → Type 0) (fault : Option MakeFault) (old new : Stage)
    : Type 0 where
  pub of_broken : old.broken ≡ true → (fault ≡ Some Broken) × (new ≡ old)
  pub of_whole : old.broken ≡ false → answers old.failures new

abbrev pub MeetsStep : ℕ → ℕ → List KeyValue → Step → Option MakeFault → (old new : Stage) → Type 0
MeetsStep w limit rs step fault old new = StepMeets (AnswersStep w limit rs step fault) fault old new

-- ---- steps in turn

-- true if a call met no fault but the limit
abbrev pub is_done : Option MakeFault → Bool
is_done None = true
is_done (Some TooBig) = true
is_done (Some fault) = false

-- a call with its answer
abbrev pub answer_of : Call → Option MakeFault → Answered
answer_of call fault = record { call = call; done = is_done fault }

-- the call of a step; a finish that is refused is none
abbrev pub answers_of : Step → Option MakeFault → List Answered
answers_of (kind.Edit change) fault = answer_of (call_of change) fault ∷ []
answers_of kind.Finish fault = []

-- the calls of the steps that were made
abbrev pub answered : List Step → List (Option MakeFault) → List Answered
answered [] faults = []
answered (step ∷ steps) [] = []
answered (step ∷ steps) (fault ∷ faults) = answers_of step fault ++ answered steps faults

-- the records that they leave, from none on
abbrev pub left_by : ℕ → ℕ → List Step → List (Option MakeFault) → List KeyValue
left_by w limit steps faults = survivors w limit (answered steps faults)

-- the records after a step
abbrev pub after : ℕ → ℕ → List KeyValue → Step → Option MakeFault → List KeyValue
after w limit rs step fault = fold (answered_step w limit) rs (answers_of step fault)

-- each step met one answer, and led to the next; but a finish that was taken has none, and ends them
abbrev pub StepsRun : ℕ → ℕ → List KeyValue → List Step → List (Option MakeFault) → (old new : Stage)
    → Type 0
StepsRun w limit rs [] [] old new = new ≡ old
StepsRun w limit rs [] (fault ∷ faults) old new = ⊥
StepsRun w limit rs (step ∷ steps) [] old new = (step ≡ kind.Finish) × (new ≡ old)
StepsRun w limit rs (step ∷ steps) (fault ∷ faults) old new =
    (mid : Stage) × MeetsStep w limit rs step fault old mid
    × StepsRun w limit (after w limit rs step fault) steps faults mid new

-- ---- a maker amid them

abbrev pub stage_of : {S L : Type 0} {s : Ghosts S} {l : Widths L} → Maker S L s l → Stage
stage_of {s = s} m = record { broken = m.broken; failures = s.failures m.store }

-- a maker holds these records, unless it is broken
abbrev pub HoldsWhole : {S L : Type 0} {s : Ghosts S} {l : Widths L} → Maker S L s l
    → List KeyValue → Type 0
HoldsWhole m rs = m.broken ≡ false → Holds m rs

-- a maker was to do something, and did it or met a fault
pub record Tries {S L : Type 0} {s : Ghosts S} {l : Widths L} (old new : Maker S L s l)
    (answers : ℕ → Stage → Type 0) (fault : Option MakeFault) (left : List KeyValue)
    : Type 0 where
  pub meets : WhereHonest (s.image new.store) (StepMeets answers fault (stage_of old) (stage_of new))
  pub holds : HoldsWhole new left
  pub limit : new.limit ≡ old.limit
  pub lazy : new.lazy ≡ old.lazy
  pub comes : ComesFrom (s.image old.store) (s.image new.store)
  pub failures : s.failures old.store ≤ s.failures new.store

-- a call, or a step, of a maker that held these records
abbrev pub TriesCall : {S L : Type 0} {s : Ghosts S} {l : Widths L} → (old new : Maker S L s l)
    → List KeyValue → Call → Option MakeFault → Type 0
TriesCall {l = l} old new rs call fault =
    Tries old new (StepAnswers l.WORD old.limit rs call fault) fault
    (answered_step l.WORD old.limit rs (answer_of call fault))

abbrev pub TriesStep : {S L : Type 0} {s : Ghosts S} {l : Widths L} → (old new : Maker S L s l)
    → List KeyValue → Step → Option MakeFault → Type 0
TriesStep {l = l} old new rs step fault =
    Tries old new (AnswersStep l.WORD old.limit rs step fault) fault
    (after l.WORD old.limit rs step fault)

-- ---- What is left of a database that is built by steps, and in which a key is looked up.

-- the steps were made from a new maker on, whose store had failed so often before
pub record Made (w limit : ℕ) (steps : List Step) (faults : List (Option MakeFault)) (before : ℕ)
    (now : Stage) : Type 0 where
  pub begun : ℕ
  pub begins : before ≤ begun
  pub runs : StepsRun w limit [] steps faults (whole begun) now

-- and then the maker, which was whole, was finished
pub record Builds (w limit : ℕ) (steps : List Step) (faults : List (Option MakeFault))
    (before after : ℕ) : Type 0 where
  pub failures : ℕ
  pub made : Made w limit steps faults before (whole failures)
  pub ends : failures ≤ after

-- the values that a key has among some records were written
abbrev pub Finds : List ℕ → List KeyValue → (old new : Option (List ℕ)) → Type 0
Finds key rs old new = Appends old new (concat (values_of key rs))

-- why there is no database: memory was refused, the store failed, or a step broke the maker
abbrev pub NotBuilt : ℕ → ℕ → List Step → List (Option MakeFault) → (before after : ℕ) → MakeFault
    → Type 0
NotBuilt w limit steps faults before after NoMemory = ⊤
NotBuilt w limit steps faults before after Writing = before < after
NotBuilt w limit steps faults before after Broken =
    (now : Stage) × (now.broken ≡ true) × Made w limit steps faults before now
NotBuilt w limit steps faults before after fault = ⊥

-- why its values were not read: the store failed in that, or the writer did
abbrev pub ReadingFails : (before after : ℕ) → ReadFault → Type 0
ReadingFails before after Device = before < after
ReadingFails before after Output = ⊤
ReadingFails before after fault = ⊥

-- there is one, of whose values a prefix was written
pub record BuildingNotRead (w limit : ℕ) (steps : List Step) (faults : List (Option MakeFault))
    (key : List ℕ) (before after : ℕ) (old new : Option (List ℕ)) (fault : ReadFault)
    : Type 0 where
  pub built : ℕ
  pub builds : Builds w limit steps faults before built
  pub fails : ReadingFails built after fault
  pub front : AppendsPrefix old new (concat (values_of key (left_by w limit steps faults)))

-- what the fault of a database says that was not built
abbrev pub BuildingFault : {S : Type 0} → Ghosts S → (w limit : ℕ) → S → List Step → Unbuilt S
    → MakeFault → Type 0
BuildingFault s w limit store steps u fault = WhereHonest (s.image u.store)
    (NotBuilt w limit steps u.faults.items (s.failures store) (s.failures u.store) fault)

-- what is left if there is no database
abbrev pub IsUnbuilt : {S : Type 0} → Ghosts S → (w limit : ℕ) → S → List Step → Unbuilt S → Type 0
IsUnbuilt s w limit store steps u = (fault : MakeFault) × (u.fault ≡ Make fault)
    × BuildingFault s w limit store steps u fault

-- what it says of one that was not built, or in which the key was not looked up
abbrev pub AskingFault : {S : Type 0} → Ghosts S → (w limit : ℕ) → S → List Step → List ℕ
    → (old new : Option (List ℕ)) → Unbuilt S → AskFault → Type 0
AskingFault s w limit store steps key old new u (Make fault) =
    (new ≡ old) × BuildingFault s w limit store steps u fault
AskingFault s w limit store steps key old new u (Read fault) = WhereHonest (s.image u.store)
    (BuildingNotRead w limit steps u.faults.items key (s.failures store) (s.failures u.store) old new fault)

-- what is left if there is no database, or its values were not written
abbrev pub BuildingFails : {S : Type 0} → Ghosts S → (w limit : ℕ) → S → List Step → List ℕ
    → (old new : Option (List ℕ)) → Unbuilt S → Type 0
BuildingFails s w limit store steps key old new u =
    AskingFault s w limit store steps key old new u u.fault

-- ---- one step

-- a maker finished the file of these records, which was the step
pub record Finishes {S L : Type 0} {s : Ghosts S} {l : Widths L} (old : Maker S L s l)
    (rs : List KeyValue) (step : Step) (store : S) : Type 0 where
  pub finish : step ≡ kind.Finish
  pub whole : old.broken ≡ false
  pub file : IsFile l.WORD rs (s.image store)
  pub size : head_size l.WORD ≤ s.size store
  pub comes : ComesFrom (s.image old.store) (s.image store)
  pub failures : s.failures old.store ≤ s.failures store

-- what a step leaves of a maker that holds these records, unless it is broken
abbrev pub LeavesOf : {S L : Type 0} {s : Ghosts S} {l : Widths L} → Maker S L s l → List KeyValue
    → Step → Stepped S L s l → Type 0
LeavesOf old rs step (GoesOn new fault) = TriesStep old new rs step fault
LeavesOf old rs step (Finished store) = Finishes old rs step store

-- ---- Calls worked out by hand, under a limit of 2099 bytes, within which one record of 26 bytes is, and
-- two are not.

-- a record of one byte each
abbrev short : ℕ → ℕ → KeyValue
short key value = record { key = key ∷ []; value = value ∷ [] }

-- one is added, another is too big, the first is replaced, which may be refused memory
added : StepAnswers 4 2099 [] (Putting Add (short 97 49)) None 0 (whole 0)
added = (refl, le_refl 0, refl)

too_big : StepAnswers 4 2099 (short 97 49 ∷ []) (Putting Add (short 98 49)) (Some TooBig) 0 (whole 0)
too_big = (refl, refl)

refused : StepAnswers 4 2099 (short 97 50 ∷ []) (Putting Replace (short 97 51)) (Some NoMemory) 0
    (whole 0)
refused = (replaces_it 1, refl, refl)

-- a store that fails amid a replacement breaks the maker
torn : StepAnswers 4 2099 (short 97 50 ∷ []) (Putting Replace (short 97 51)) (Some Writing) 0
    (record { broken = true; failures = 1 })
torn = (replaces_it 1, refl, le_refl 1, refl)

-- what they leave
replaced : survivors 4 2099
    (answer_of (Putting Add (short 97 49)) None
    ∷ (answer_of (Putting Add (short 98 49)) (Some TooBig)
    ∷ (answer_of (Putting Replace (short 97 50)) None
    ∷ (answer_of (Putting Replace (short 97 51)) (Some NoMemory) ∷ []))))
    ≡ short 97 50 ∷ []
replaced = refl

-- a removal makes room
removed : survivors 4 2099
    (answer_of (Putting Add (short 97 49)) None ∷ (answer_of (Removing (97 ∷ [])) None
    ∷ (answer_of (Putting Insert (short 98 49)) None ∷ [])))
    ≡ short 98 49 ∷ []
removed = refl
