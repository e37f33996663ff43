-- What the run that makes a database leaves, of its base and its inputs.
use Rattle.std.specs.Prelude.{ℕ, ◌≡◌, ◌<◌, ◌≤◌, ⊤, Bool, false, List, ◌++◌, Some, true, ◌&&◌, ◌||◌, if◌then◌else◌, [], ◌∷◌, fold, Option, None, unwrap_or, Result, Ok, Err, ◌≢◌, ◌+◌, ◌⊎◌, length, OnOk, IfErr, ◌*◌, ◌^◌, take}
use Rattle.cdb_store.specs.declared.store.Store.{Ghosts}
use Rattle.cdb_form.specs.declared.damage.Damage.{Damage}
use Rattle.cdb_form.specs.declared.width.Width.{Ghosts as Widths}
use Rattle.cdb_form.specs.Format.{file_size, KeyValue, Walked, no_walk, record_of, with_first, with_records, walk_of, file_bytes}
use Rattle.cdb_make.specs.Views.Maker.{Holds, Follows, Puts, WhereHonest, IsFile, limit_of, told_count, IsUsable}
use Rattle.cdb_store.specs.declared.make_fault.MakeFault.TheVariants.{TooBig, Writing, Lookup}
use Rattle.cdb_make.specs.declared.maker.Maker.{Maker}
use Rattle.cdb_read.specs.Lookup.{bytes_of}
use Rattle.cdb_read.specs.Views.Reads.{damage_fault}
use Rattle.cdb_read.specs.Views.Walking.{record_in}
use Rattle.cdb_read.specs.declared.span.Pair.{Pair}
use Rattle.cdb_read.specs.declared.span.Span.{Span}
use Rattle.cdb_read.specs.declared.fault.ReadFault.TheVariants as read
use Rattle.cdb_show.specs.declared.fault.Fault.{Fault}
use Rattle.cdb_show.specs.declared.fault.Fault.TheVariants.{Make, Read, NoMemory, Duplicate, Output, Text}
use Rattle.cdb_form.specs.Text.Parse.{Change, Putting, Removing}
use Rattle.cdb_make.specs.Survivors.{put_step, put_result, without}
use Rattle.cdb_store.specs.declared.make_fault.MakeFault.{MakeFault}
use Rattle.cdb_form.specs.declared.mode.Mode.{Mode}
use Rattle.cdb_form.specs.declared.mode.Mode.TheVariants.{Add, Insert}
use Rattle.cdb_make.specs.declared.answer.Put.{Put}
use Rattle.cdb_make.specs.declared.answer.Put.TheVariants.{Added, AddedAgain, Present, Replaced}
use Rattle.cdb_show.specs.Message.{TellsEach, TellsPart, Told}
use Rattle.cdb_command.specs.declared.options.MakeOptions.{MakeOptions}
use Rattle.cdb_tool.specs.declared.runs.options.RunOptions.{RunOptions}
use Rattle.cdb_show.specs.Runs.Incoming.{Incoming, from_inputs, came}
use Rattle.std.specs.Io.KnownBytes.{Appends, Keeps}
use Rattle.cdb_store.specs.Reads.{OnlyReads}
use Rattle.cdb_form.specs.Views.TextFault.{IsOfText, IsReadFault, LastRead}
use Rattle.cdb_form.specs.declared.text.fault.TextFault.{TextFault}
use Rattle.cdb_form.specs.declared.text.fault.TextFault.TheVariants as text_fault
use Rattle.cdb_show.specs.Feed.{CutShort, HasFault, NotBegun, Stop}
use Rattle.cdb_show.specs.Runs.Inputs.{HasFaultBehind, input_form}
use Rattle.cdb_show.specs.Runs.InputTask.{Progress, Work}
use Rattle.cdb_show.specs.Runs.Parsing.{IsOfRun}
use Rattle.cdb_show.specs.Views.Output.{OutputSays}
use Rattle.cdb_form.specs.Text.Native.{Spells, Spelled, Reads}
use Rattle.cdb_form.specs.Views.Feed.{Feed, FromTo}
use Rattle.cdb_form.specs.Views.KnownBytes.{AppendsPrefix}
use Rattle.cdb_form.specs.Views.Taking.{Took}
use Rattle.cdb_form.specs.Views.TextReader.{IsGoing, taken_of, asks_left}
use Rattle.cdb_form.specs.declared.text.native_reader.TextReader.{TextReader}
use Rattle.cdb_form.specs.declared.text.fault.TextFault.TheVariants.{Ended, Endless}

-- ---- What is added of the records of a base, a window of them at once.

-- the first records of what a walk had left were added; or nothing was left
pub record AddsNext {S L : Type 0} {s : Ghosts S} {l : Widths L} (w : ℕ) (images : List ℕ → Type 0)
    (left rest : List ℕ → Walked) (old new : Maker S L s l) (more : Bool) : Type 0 where
  pub records : List KeyValue
  pub given : (b : List ℕ) → images b → left b ≡ with_records records (rest b)
  pub holds : (rs : List KeyValue) → Holds old rs → Holds new (rs ++ records)
  pub ended : more ≡ false → (b : List ℕ) → images b → rest b ≡ no_walk

-- why the records of a walk are not all added: they pass the limit, which comes first; or the walk has
-- a damage; or the store or the memory failed
abbrev pub NotAdded : (w limit : ℕ) → Walked → Fault → Type 0
NotAdded w limit walk (Make TooBig) = limit < file_size w walk.records
NotAdded w limit walk (Make Writing) = ⊤
NotAdded w limit walk (Read read.Device) = ⊤
NotAdded w limit walk (Read fault) = (damage : Damage) × (fault ≡ damage_fault damage)
    × (walk.damage ≡ Some damage) × (file_size w walk.records ≤ limit)
NotAdded w limit walk NoMemory = ⊤
NotAdded w limit walk fault = ⊥

-- a record of each image was added
pub record AddsRecord {S L : Type 0} {s : Ghosts S} {l : Widths L} (images : List ℕ → Type 0)
    (pair : Pair) (old new : Maker S L s l) : Type 0 where
  pub one : KeyValue
  pub is : (b : List ℕ) → images b → one ≡ record_in b pair
  pub holds : (rs : List KeyValue) → Holds old rs → Holds new (rs ++ one ∷ [])

-- or this stopped it, and the others of the walk with it
abbrev pub RecordNotAdded : {S L : Type 0} {s : Ghosts S} {l : Widths L} → (images : List ℕ → Type 0)
    → Pair → (old new : Maker S L s l) → Fault → Type 0
RecordNotAdded {s = s} {l = l} images pair old new fault =
    (rest : Walked) (rs : List KeyValue) → Holds old rs → (b : List ℕ) → images b
    → WhereHonest (s.image new.store) (NotAdded l.WORD (limit_of old)
    (with_records rs (with_first (record_in b pair) rest)) fault)

-- a record was put with a key and the value that each image has at a span
pub record PutsValue {S L : Type 0} {s : Ghosts S} {l : Widths L} (images : List ℕ → Type 0)
    (old new : Maker S L s l) (key : List ℕ) (span : Span) : Type 0 where
  pub value : List ℕ
  pub is : (b : List ℕ) → images b → value ≡ bytes_of b span
  pub puts : Puts old new Add (record_of key value) Added

-- ---- How a run that makes a database goes: it begins with the records of its base, if it has one; then
-- what its inputs say is done, one item after the other, up to the one that ends it.

-- what a run is to do: its options, and the records of its base, if it has one
pub record Task : Type 0 where
  pub options : RunOptions
  pub base : Option (List KeyValue)

abbrev pub task_of : RunOptions → Option (List KeyValue) → Task
task_of options base = record { options = options; base = base }

-- the options of a run that explains no duplicate
abbrev pub plain : MakeOptions → RunOptions
plain o = record { make = o; names = None }

-- how each record is put
abbrev pub mode_of : MakeOptions → Mode
mode_of o = if o.stop then Insert else o.mode

-- true if a put met records of its key
abbrev pub meets_key : Put → Bool
meets_key Added = false
meets_key AddedAgain = true
meets_key Present = true
meets_key (Replaced n) = true

-- a put of a key, by the numbers of its input and of its item there
abbrev pub put_at : (input number : ℕ) → (key : List ℕ) → Told
put_at input number key = record { input = input; number = number; key = key }

-- what is reported of a put
abbrev pub told : MakeOptions → ℕ → ℕ → (key : List ℕ) → Result Put MakeFault → List Told
told o input number key (Ok put) =
    if (o.warn || o.stop) && meets_key put
    then put_at input number key ∷ [] else []
told o input number key (Err fault) = []

-- why it ends the run, or not
abbrev pub ends : MakeOptions → Result Put MakeFault → Option Fault
ends o (Ok Present) = if o.stop then Some Duplicate else None
ends o (Ok put) = None
ends o (Err fault) = Some (Make fault)

-- the records that are held, the duplicates that were reported, and why the run has ended, or not
pub record Course : Type 0 where
  pub records : List KeyValue
  pub told : List Told
  pub ended : Option Fault

-- before the inputs the records of the base are held, which were added one after the other
abbrev pub at_start : Task → Course
at_start t = record { records = unwrap_or t.base []; told = []; ended = None }

abbrev pub is_going : Option Fault → Bool
is_going None = true
is_going (Some fault) = false

-- a record of an input is put
abbrev pub with_put : ℕ → MakeOptions → Course → ℕ → ℕ → KeyValue → Course
with_put w o s input number r =
    let answer = put_result w o.limit (mode_of o) r s.records in
    record {
      records = put_step w o.limit (mode_of o) r s.records;
      told = s.told ++ told o input number r.key answer;
      ended = ends o answer;
    }

-- an item is done: a removal takes out every record of its key, and nothing is said of it
abbrev pub with_change : ℕ → MakeOptions → Course → ℕ → ℕ → Change → Course
with_change w o s input number (Putting r) = with_put w o s input number r
with_change w o s input number (Removing key) =
    record { records = without key s.records; told = s.told; ended = s.ended }

-- one item more comes, which is done unless the run has ended
abbrev pub with_next : ℕ → MakeOptions → Course → Incoming → Course
with_next w o s c = if is_going s.ended then with_change w o s c.input c.number c.it else s

-- the course over these items
abbrev pub course_of : ℕ → Task → List Incoming → Course
course_of w t cs = fold (with_next w t.options.make) (at_start t) cs

-- what is reported of a put if the run stops there: its line was appended, or a prefix of it if the writer failed
abbrev pub TellFails : RunOptions → Told → Put → (old new : Option (List ℕ)) → Fault → Type 0
TellFails o one put old new Duplicate =
    TellsEach o.names (told o.make one.input one.number one.key (Ok put)) old new
    × (ends o.make (Ok put) ≡ Some Duplicate)
TellFails o one put old new Output =
    TellsPart o.names (told o.make one.input one.number one.key (Ok put)) old new
TellFails o one put old new fault = ⊥

-- the run has not ended, and its lines were appended
pub record Goes (w : ℕ) (t : Task) (cs : List Incoming) (old new : Option (List ℕ)) : Type 0
  where
    pub going : (course_of w t cs).ended ≡ None
    pub lines : TellsEach t.options.names (course_of w t cs).told old new

-- the last of these items ended it, and its lines were appended
pub record EndsSo (w : ℕ) (t : Task) (cs : List Incoming) (fault : Fault)
    (old new : Option (List ℕ)) : Type 0 where
  pub before : List Incoming
  pub last : Incoming
  pub are : cs ≡ before ++ last ∷ []
  pub going : (course_of w t before).ended ≡ None
  pub ended : (course_of w t cs).ended ≡ Some fault
  pub lines : TellsEach t.options.names (course_of w t cs).told old new

-- how a run stopped after these items: by the last one; before it by a fault of the store or of
-- memory; or by one of the writer of its lines
abbrev pub StopsSo : ℕ → Task → List Incoming → Option (List ℕ) → Option (List ℕ) → Fault
    → Type 0
StopsSo w t cs old new (Make TooBig) = EndsSo w t cs (Make TooBig) old new
StopsSo w t cs old new Duplicate = EndsSo w t cs Duplicate old new
StopsSo w t cs old new (Make Lookup) = Goes w t cs old new
StopsSo w t cs old new (Make Writing) = Goes w t cs old new
StopsSo w t cs old new NoMemory = Goes w t cs old new
StopsSo w t cs old new Output = TellsPart t.options.names (course_of w t cs).told old new
StopsSo w t cs old new fault = ⊥

-- how a run stopped that had come to these items: after them, if it met a fault of an input
abbrev pub StopsAt : ℕ → Task → List Incoming → Option (List ℕ) → Option (List ℕ) → Fault → Type 0
StopsAt w t cs old new (Text number fault) = Goes w t cs old new
StopsAt w t cs old new fault = StopsSo w t cs old new fault

-- ---- What a run leaves that makes a database of the records of a base, if it has one, and of what its
-- inputs say.

-- ---- the base

-- the base can be amended: its walk has no damage, and its file with the gaps closed keeps the limit
pub record IsBase (w limit : ℕ) (b : List ℕ) : Type 0 where
  pub whole : (walk_of w b).damage ≡ None
  pub fits : file_size w (walk_of w b).records ≤ limit

-- why it can't be
abbrev pub BaseFails : ℕ → ℕ → List ℕ → Fault → Type 0
BaseFails w limit b fault = NotAdded w limit (walk_of w b) fault

-- the records of a base
abbrev pub records_of : ℕ → Option (List ℕ) → Option (List KeyValue)
records_of w None = None
records_of w (Some b) = Some (walk_of w b).records

-- a base is none, or can be amended; and why it can't be
abbrev pub IsSomeBase : ℕ → ℕ → Option (List ℕ) → Type 0
IsSomeBase w limit None = ⊤
IsSomeBase w limit (Some b) = IsBase w limit b

abbrev pub SomeBaseFails : ℕ → ℕ → Option (List ℕ) → Fault → Type 0
SomeBaseFails w limit None fault = ⊥
SomeBaseFails w limit (Some b) fault = BaseFails w limit b fault

-- this holds of each image of a base, if there is one, and without a base if there is none
abbrev pub OfBase : {B : Type 0} → Ghosts B → Option B → (Option (List ℕ) → Type 0) → Type 0
OfBase s None P = P None
OfBase s (Some base) P = (b : List ℕ) → s.image base b → P (Some b)

-- a base is returned, and was read and nothing else
abbrev pub HandsBack : {B : Type 0} → Ghosts B → Option B → Option B → Type 0
HandsBack s None None = ⊤
HandsBack s (Some old) (Some new) = OnlyReads s old new
HandsBack s old new = ⊥

-- its store has failed
abbrev pub BaseHasFailed : {B : Type 0} → Ghosts B → Option B → Option B → Type 0
BaseHasFailed s (Some old) (Some new) = s.failures old < s.failures new
BaseHasFailed s old new = ⊥

-- ---- the inputs

-- what a run read of its inputs: the items of those that it read whole, and why it read no more
pub record Reading : Type 0 where
  pub items : List (List Change)
  pub stop : Stop Change TextFault

abbrev pub reading : List (List Change) → Stop Change TextFault → Reading
reading items stop = record { items = items; stop = stop }

-- it began no input
abbrev pub none_read : Reading
none_read = reading [] NotBegun

-- the items that came: those of the inputs that were read whole, and of the one in which the run stopped
abbrev pub came_of : List (List Change) → Stop Change TextFault → List Incoming
came_of items (HasFault last fault) = came items last
came_of items (CutShort last) = came items last
came_of items stop = from_inputs 1 items

-- ---- the run

-- the terms of a run: words of so many bytes, a file of at most the greatest length, and the options
pub record Terms : Type 0 where
  pub word : ℕ
  pub greatest : ℕ
  pub options : RunOptions

abbrev pub terms_of : (word greatest : ℕ) → RunOptions → Terms
terms_of word greatest options =
    record { word = word; greatest = greatest; options = options }

-- what it is to do after this base
abbrev pub task_after : Terms → (base : Option (List ℕ)) → Task
task_after terms base = task_of terms.options (records_of terms.word base)

-- it made the database of its base and of these items: each image is the file of the records that it came to
pub record Makes (terms : Terms) (base : Option (List ℕ)) (cs : List Incoming)
    (images : List ℕ → Type 0) (old new : Option (List ℕ)) : Type 0 where
  pub based : IsSomeBase terms.word terms.options.make.limit base
  pub goes : Goes terms.word (task_after terms base) cs old new
  pub file : IsFile terms.word (course_of terms.word (task_after terms base) cs).records images

-- its base failed, no input was begun, and no line was written; or it came to the inputs
pub record BaseStops (w limit : ℕ) (base : Option (List ℕ)) (r : Reading)
    (old new : Option (List ℕ)) (fault : Fault) : Type 0 where
  pub fails : SomeBaseFails w limit base fault
  pub unread : r ≡ none_read
  pub lines : Appends old new []

pub record InputsStop (terms : Terms) (base : Option (List ℕ)) (cs : List Incoming)
    (old new : Option (List ℕ)) (fault : Fault) : Type 0 where
  pub based : IsSomeBase terms.word terms.options.make.limit base
  pub stops : StopsAt terms.word (task_after terms base) cs old new fault

abbrev pub RunFails : Terms → Option (List ℕ) → Reading → Option (List ℕ) → Option (List ℕ)
    → Fault → Type 0
RunFails terms base r old new fault =
    BaseStops terms.word terms.options.make.limit base r old new fault
    ⊎ InputsStop terms base (came_of r.items r.stop) old new fault

-- what a run leaves that read so much, if its store has an image
pub record MakeRuns (terms : Terms) (base : Option (List ℕ)) (r : Reading)
    (images : List ℕ → Type 0) (old new : Option (List ℕ)) (result : Result Unit Fault)
    : Type 0 where
  pub ok : OnOk result (Makes terms base (came_of r.items r.stop) images old new)
  pub err : IfErr result (RunFails terms base r old new)

-- the fault is one of the store
abbrev pub IsOfStore : Fault → Type 0
IsOfStore (Make Lookup) = ⊤
IsOfStore (Make Writing) = ⊤
IsOfStore fault = ⊥

-- ---- amid a run

-- a maker holds the records that a run came to so far
pub record InCourse {S L : Type 0} {s : Ghosts S} {l : Widths L} (t : Task)
    (cs : List Incoming) (old new : Option (List ℕ)) (m : Maker S L s l) : Type 0 where
  pub holds : Holds m (course_of l.WORD t cs).records
  pub limit : limit_of m ≡ t.options.make.limit
  pub goes : WhereHonest (s.image m.store) (Goes l.WORD t cs old new)

-- a run has come so far with these items, by its maker and the lines that were reported
abbrev pub HasCome : {S L : Type 0} {s : Ghosts S} {l : Widths L} → Task → List Incoming
    → (start : Option (List ℕ)) → Progress (Maker S L s l) → Type 0
HasCome t cs start now = InCourse t cs start now.output now.state

-- the items of an input of this number were done, after those of the inputs that were read
abbrev pub PutsItems : {S L : Type 0} {s : Ghosts S} {l : Widths L} → RunOptions → (number : ℕ)
    → List Change → (old new : Progress (Maker S L s l)) → Type 0
PutsItems o number last old new =
    (t : Task) (read : List (List Change)) (start : Option (List ℕ)) → t.options ≡ o
    → number ≡ length read + 1 → HasCome t (from_inputs 1 read) start old
    → HasCome t (from_inputs 1 (read ++ last ∷ [])) start new

-- a maker has what a run came to: it counts its records and, unless it is broken, holds them; and the
-- lines are those of the same items
pub record MakeStandsAt {S L : Type 0} {s : Ghosts S} {l : Widths L} (t : Task) (cs : List Incoming)
    (old new : Option (List ℕ)) (m : Maker S L s l) : Type 0 where
  pub holds : IsUsable m → Holds m (course_of l.WORD t cs).records
  pub count : WhereHonest (s.image m.store)
      (told_count m ≡ length (course_of l.WORD t cs).records)
  pub goes : WhereHonest (s.image m.store) (Goes l.WORD t cs old new)

-- the fault is one of the store or of memory, which no item brings
abbrev pub IsHalt : Fault → Type 0
IsHalt (Make Lookup) = ⊤
IsHalt (Make Writing) = ⊤
IsHalt NoMemory = ⊤
IsHalt fault = ⊥

-- one item more would not end the run
abbrev pub TakesNext : ℕ → Task → List Incoming → Incoming → Type 0
TakesNext w t cs c = (course_of w t (cs ++ c ∷ [])).ended ≡ None

-- how a run stopped at an item, before it came or with it
abbrev pub PutStops : ℕ → Task → List Incoming → Incoming → Option (List ℕ)
    → Option (List ℕ) → Fault → Type 0
PutStops w t cs c old new fault =
    StopsSo w t cs old new fault ⊎ StopsSo w t (cs ++ c ∷ []) old new fault

-- what an item leaves of a run that came to it: the run goes on with it done, or stopped at it. If
-- memory was refused, the item would not have ended it
pub record ItemDone {S L : Type 0} {s : Ghosts S} {l : Widths L} (t : Task) (cs : List Incoming)
    (c : Incoming) (start now : Option (List ℕ)) (m : Maker S L s l) (result : Result Unit Fault)
    : Type 0 where
  pub ok : OnOk result (InCourse t (cs ++ c ∷ []) start now m)
  pub fails : IfErr result (λ f. WhereHonest (s.image m.store) (PutStops l.WORD t cs c start now f))
  pub stands : IfErr result (λ f. IsHalt f → MakeStandsAt t cs start now m)
  pub takes : IfErr result (λ f. f ≡ NoMemory → WhereHonest (s.image m.store) (TakesNext l.WORD t cs c))

-- an item of these numbers leaves so each run that has these options and came to it
abbrev pub DoesItem : {S L : Type 0} {s : Ghosts S} {l : Widths L} → RunOptions → (input number : ℕ)
    → Change → (old new : Progress (Maker S L s l)) → Result Unit Fault → Type 0
DoesItem o input number it old new result =
    (t : Task) (cs : List Incoming) (start : Option (List ℕ)) → t.options ≡ o
    → HasCome t cs start old
    → ItemDone t cs (record { input = input; number = number; it = it }) start new.output new.state result

-- a fault of a run that is none of an input
abbrev pub IsOfMaking : Fault → Type 0
IsOfMaking (Text number fault) = ⊥
IsOfMaking fault = IsOfRun fault

-- it stopped so, and a maker has what it came to, if the fault is one of the store or of memory
pub record StoppedAt {S L : Type 0} {s : Ghosts S} {l : Widths L} (t : Task) (cs : List Incoming)
    (old new : Option (List ℕ)) (m : Maker S L s l) (fault : Fault) : Type 0 where
  pub stops : WhereHonest (s.image m.store) (StopsAt l.WORD t cs old new fault)
  pub stands : IsHalt fault → MakeStandsAt t cs old new m

-- it stopped after these items of an input of this number, which follow those of the inputs that were read
abbrev pub PutsStop : {S L : Type 0} {s : Ghosts S} {l : Widths L} → RunOptions → (number : ℕ)
    → List Change → (old new : Progress (Maker S L s l)) → Fault → Type 0
PutsStop o number last old new fault =
    (t : Task) (read : List (List Change)) (start : Option (List ℕ)) → t.options ≡ o
    → number ≡ length read + 1 → HasCome t (from_inputs 1 read) start old
    → StoppedAt t (came read last) start new.output new.state fault

-- the items of the first inputs were done; and then the run stopped, after these items of the next one
abbrev pub PutsInputs : {S L : Type 0} {s : Ghosts S} {l : Widths L} → RunOptions
    → (read : List (List Change)) → (old new : Progress (Maker S L s l)) → Type 0
PutsInputs o read old new =
    (t : Task) (start : Option (List ℕ)) → t.options ≡ o → HasCome t [] start old
    → HasCome t (from_inputs 1 read) start new

abbrev pub PutsInputsStop : {S L : Type 0} {s : Ghosts S} {l : Widths L} → RunOptions
    → (read : List (List Change)) → (last : List Change) → (old new : Progress (Maker S L s l)) → Fault
    → Type 0
PutsInputsStop o read last old new fault =
    (t : Task) (start : Option (List ℕ)) → t.options ≡ o → HasCome t [] start old
    → StoppedAt t (came read last) start new.output new.state fault

-- ---- the base, amid a run

-- the fault is one of the base's store
abbrev pub IsOfBase : Fault → Type 0
IsOfBase (Read read.Device) = ⊤
IsOfBase fault = ⊥

-- a step of a run goes on from a maker. A fault of the store says that it failed; NoMemory and Ok, that it
-- did not; a fault of the base's store, what is unread; and Output, what is unsaid
pub record StepsOn {S L A : Type 0} {s : Ghosts S} {l : Widths L} (old new : Maker S L s l)
    (unread unsaid : Type 0) (result : Result A Fault) : Type 0 where
  pub follows : Follows old new
  pub failed : IfErr result (λ f. IsOfStore f → s.failures old.store < s.failures new.store)
  pub memory : IfErr result (λ f. f ≡ NoMemory → s.failures new.store ≡ s.failures old.store)
  pub fine : OnOk result (s.failures new.store ≡ s.failures old.store)
  pub base : IfErr result (λ f. IsOfBase f → unread)
  pub output : OutputSays unsaid result

-- the items of an input of this number were done, each by a step
pub record DoesItems {S L : Type 0} {s : Ghosts S} {l : Widths L} (o : RunOptions) (number : ℕ)
    (items : List Change) (old new : Progress (Maker S L s l)) : Type 0 where
  pub puts : PutsItems o number items old new
  pub step : StepsOn {A = Unit} old.state new.state ⊥ ⊥ (Ok tt)

-- and the run stopped after these, or with the last one
pub record StopsItems {S L : Type 0} {s : Ghosts S} {l : Widths L} (o : RunOptions) (number : ℕ)
    (items : List Change) (old new : Progress (Maker S L s l)) (fault : Fault) : Type 0 where
  pub stops : PutsStop o number items old new fault
  pub step : StepsOn {A = Unit} old.state new.state ⊥ ⊤ (Err fault)

-- what is done with the inputs. With amends, native ones may remove keys
abbrev pub put_work : {S L : Type 0} {s : Ghosts S} {l : Widths L} → RunOptions → (amends : Bool)
    → Work (Maker S L s l)
put_work {l = l} o amends = record {
  form = input_form o.make.style amends;
  greatest = l.GREATEST;
  does = DoesItems o;
  stops = StopsItems o;
}

-- a maker holds the records of each image of a base, whose walk has no damage
pub record AddsBase {S L : Type 0} {s : Ghosts S} {l : Widths L} (w : ℕ) (images : List ℕ → Type 0)
    (m : Maker S L s l) : Type 0 where
  pub records : List KeyValue
  pub holds : Holds m records
  pub each : (b : List ℕ) → images b → walk_of w b ≡ record { records = records; damage = None }

-- it holds the records of a base, or no record if there is no base
abbrev pub HoldsBase : {S L B : Type 0} {s : Ghosts S} {l : Widths L} → ℕ → Ghosts B → Option B
    → Maker S L s l → Type 0
HoldsBase w s None m = Holds m []
HoldsBase w s (Some base) m = AddsBase w (s.image base) m

-- the base stopped the run
abbrev pub BaseStopped : {B : Type 0} → ℕ → ℕ → Ghosts B → Option B → (List ℕ → Type 0) → Fault
    → Type 0
BaseStopped w limit s None images fault = ⊥
BaseStopped w limit s (Some base) images fault =
    (b : List ℕ) → s.image base b → WhereHonest images (BaseFails w limit b fault)

-- ---- What the making of a file of a text leaves. A text is the bytes of its reader, if they are known, and
-- the rest is what its reader has left.

-- nothing was read of it, and its reader may get 2^48 requests
pub record IsNewText {R L : Type 0} (text : TextReader R L) : Type 0 where
  pub going : IsGoing text
  pub taken : taken_of text ≡ 0
  pub asks : asks_left text ≡ 2 ^ 48

-- these are the records of the text, whose file fits, and what follows the text is unread
pub record ReadsFitting (w greatest : ℕ) (text rest : Feed) (records : List KeyValue)
    : Type 0 where
  pub reads : FromTo text rest (Reads greatest records)
  pub fits : file_size w records ≤ greatest

-- the text has this fault, and the file of all whole records before it fits
pub record FailsText (w greatest : ℕ) (text : List ℕ) (fault : TextFault) : Type 0 where
  pub records : List KeyValue
  pub fits : file_size w records ≤ greatest
  pub behind : HasFaultBehind Spells greatest text records fault

-- How far the text was read: up to the byte at its fault's place. If the reader failed, what it gave
-- ends early as a text: after its whole records, whose file fits, it has neither a record nor the
-- closing newline. It has no end only if it took 2^48 requests, of 1001 a byte at the most.
pub record ReadsTo (w greatest : ℕ) (text rest : Feed) (fault : TextFault) : Type 0 where
  pub taken : ℕ
  pub took : Took text rest 0 taken
  pub last : LastRead taken fault
  pub part : FromTo text rest
      (λ t r. IsReadFault fault → FailsText w greatest (take taken t) (Ended taken))
  pub asked : fault ≡ Endless → 2 ^ 48 ≤ 1001 * (taken + 1)

-- records were read up to the first with which their file doesn't fit
pub record PassesGreatest (w greatest : ℕ) (text rest : List ℕ) : Type 0 where
  pub before : List KeyValue
  pub last : KeyValue
  pub spelled : Spelled greatest (before ++ last ∷ []) text rest
  pub fits : file_size w before ≤ greatest
  pub larger : greatest < file_size w (before ++ last ∷ [])

-- a text was read up to this fault
pub record FailsRead (w greatest : ℕ) (text rest : Feed) (input : ℕ) (fault : TextFault)
    : Type 0 where
  pub first : input ≡ 1
  pub memory : fault ≢ text_fault.NoMemory
  pub read : ReadsTo w greatest text rest fault
  pub fails : FromTo text rest (λ t r. IsOfText fault → FailsText w greatest t fault)

-- why no file is made of a text
abbrev pub TextNotRead : ℕ → ℕ → Feed → Feed → Fault → Type 0
TextNotRead w greatest text rest (Text input fault) = FailsRead w greatest text rest input fault
TextNotRead w greatest text rest (Make TooBig) = FromTo text rest (PassesGreatest w greatest)
TextNotRead w greatest text rest NoMemory = ⊤
TextNotRead w greatest text rest fault = ⊥

-- the file of the text was appended
pub record MakesFile (w greatest : ℕ) (text rest : Feed) (old new : Option (List ℕ)) : Type 0 where
  pub records : List KeyValue
  pub read : ReadsFitting w greatest text rest records
  pub appended : Appends old new (file_bytes w records)

-- a prefix of the file of the text was appended
pub record MakesPrefix (w greatest : ℕ) (text rest : Feed) (old new : Option (List ℕ)) : Type 0 where
  pub records : List KeyValue
  pub read : ReadsFitting w greatest text rest records
  pub appended : AppendsPrefix old new (file_bytes w records)

-- what a fault leaves: a prefix of the file if the writer failed, else nothing was written
abbrev pub MakeFails : ℕ → ℕ → (text rest : Feed) → (old new : Option (List ℕ)) → Fault → Type 0
MakeFails w greatest text rest old new Output = MakesPrefix w greatest text rest old new
MakeFails w greatest text rest old new fault =
    TextNotRead w greatest text rest fault × Keeps old new

-- what a run leaves
pub record MakesBytes (w greatest : ℕ) (text rest : Feed) (old new : Option (List ℕ)) (result : Result Unit Fault)
    : Type 0 where
  pub ok : OnOk result (MakesFile w greatest text rest old new)
  pub err : IfErr result (MakeFails w greatest text rest old new)
