-- What a command that only reads does: the calls on files, in their order, and what it writes on its output.
use Rattle.std.specs.Prelude.{ℕ, ◌≡◌, ◌⊎◌, ◌<◌, ◌≤◌, ⊤, List, ◌∷◌, length, Option, Result, Err, OnOk, IfErr}
use Rattle.std.specs.Io.KnownBytes.{Keeps, Appends}
use Rattle.cdb_show.specs.Feed.{AreUnread, IsUnread}
use Rattle.cdb_form.specs.Views.Feed.{Feed, FromTo}
use Rattle.cdb_form.specs.Views.KnownBytes.{AppendsPrefix}
use Rattle.cdb_form.specs.declared.walk.fault.WalkFault.TheVariants as walk
use Rattle.cdb_store.specs.Contents.{contents}
use Rattle.cdb_store.specs.Reads.{OnlyReads}
use Rattle.cdb_store.specs.declared.memory.MemStore.{MemStore}
use Rattle.cdb_store.specs.declared.store.Store.{Ghosts}
use Rattle.cdb_show.specs.Runs.Stats.{FindsSound, CheckingFails, TellsStats}
use Rattle.cdb_show.specs.Runs.Difference.{TellsDifference, difference_state, difference_task}
use Rattle.cdb_show.specs.Runs.WalkText.{Form, WritesWalk}
use Rattle.cdb_show.specs.Runs.Lookups.{LooksUp, lookup_state, lookup_task}
use Rattle.cdb_show.specs.Runs.Query.{Queries}
use Rattle.cdb_show.specs.declared.fault.Fault.{Fault}
use Rattle.cdb_show.specs.declared.fault.Fault.TheVariants.{Long, Open, NoMemory as NoRoom, Output, Walk}
use Rattle.cdb_names.specs.declared.answer.Answer.TheVariants as looks
use Rattle.cdb_system.specs.State.{Files, Standard, State, calls_in, WantedDifference, WantedLookups, WantedQuery, WantedStore, WantedText, by_name}
use Rattle.cdb_show.specs.declared.inputs.Inputs.{Inputs}
use Rattle.cdb_system.specs.Inputs.{OpensInputs, StopsOpening}
use Rattle.cdb_system.specs.Opening.{Misses, OpenCalls, both_left, input_left, looked_left, none_left, read_left, stream_left}
use Rattle.cdb_show.specs.Views.Window.{window_feed}
use Rattle.cdb_system.specs.declared.left.Left.{Left}
use Rattle.cdb_system.specs.declared.open_trace.OpenCall.TheVariants.{AtPlaces, InTurn, Stream}

-- the file of the name was not opened, and nothing was written
pub record Refuses (name : List ℕ) (old new : OpenCalls) (start end : Option (List ℕ))
    (result : Result Unit Fault) : Type 0 where
  pub fault : Fault
  pub is : result ≡ Err fault
  pub misses : Misses name old new fault
  pub kept : Keeps start end

-- an allocation failed, and nothing was written
abbrev pub LacksMemory : (start end : Option (List ℕ)) → Result Unit Fault → Type 0
LacksMemory start end result = (result ≡ Err NoRoom) × Keeps start end

-- ---- query

-- the values of a key of the file that came, which is left so
pub record QueriesFile {F I J M N R Y : Type 0} (files : Files F I J M N R Y) (q : WantedQuery)
    (old new : State Y) (left : Left F M I J) (result : Result Unit Fault) : Type 0 where
  pub file : F
  pub came : files.system.gives q.name file
  pub last : F
  pub is_last : left ≡ read_left last
  pub queries : Queries q.word files.stores q.query file last old.output new.output result

-- that file alone is opened
abbrev pub PerformsQuery : {F I J M N R Y : Type 0} → Files F I J M N R Y → WantedQuery → (old new : State Y)
    → Left F M I J → Result Unit Fault → Type 0
PerformsQuery files q old new left result =
    ((left ≡ none_left)
    × Refuses q.name (calls_in files old) (calls_in files new) old.output new.output result)
    ⊎ ((calls_in files new ≡ (AtPlaces, q.name) ∷ calls_in files old)
    × QueriesFile files q old new left result)

-- ---- dump and list

-- The text of a stream that is read in one pass. Of the bytes that came, a window held some, which were let go.
pub record WritesText (w : ℕ) (form : Form) (before after : Feed) (start end : Option (List ℕ))
    (result : Result Unit Fault) : Type 0 where
  pub held : List ℕ
  pub walk : WritesWalk w form before (window_feed after held) start end result

-- it is written, unless memory for the window is refused
abbrev pub ReadsText : ℕ → Form → (before after : Feed) → (start end : Option (List ℕ))
    → Result Unit Fault → Type 0
ReadsText w form before after start end result =
    LacksMemory start end result ⊎ WritesText w form before after start end result

-- of the file that came, of which nothing had been taken, and whose reader is returned
pub record WritesFile {F I J M N R Y : Type 0} (files : Files F I J M N R Y) (t : WantedText) (name : List ℕ)
    (left : Left F M I J) (start end : Option (List ℕ)) (result : Result Unit Fault) : Type 0 where
  pub file : I
  pub came : files.system.reads name file
  pub unread : IsUnread (files.feed file)
  pub last : I
  pub is_last : left ≡ stream_left last
  pub reads : ReadsText t.word t.form (files.feed file) (files.feed last) start end result

-- of standard input, whose reader is
pub record WritesInput {F I J M : Type 0} (t : WantedText) (input : Standard J) (left : Left F M I J)
    (start end : Option (List ℕ)) (result : Result Unit Fault) : Type 0 where
  pub last : J
  pub is_last : left ≡ input_left last
  pub reads : ReadsText t.word t.form (input.feed input.reader) (input.feed last) start end result

-- that file alone is opened, or none, if standard input is read
abbrev pub PerformsText : {F I J M N R Y : Type 0} → Files F I J M N R Y → WantedText → (input : Standard J)
    → (old new : State Y) → Left F M I J → Result Unit Fault → Type 0
PerformsText files t input old new left result = by_name t.name
    (λ name. ((left ≡ none_left)
    × Refuses name (calls_in files old) (calls_in files new) old.output new.output result)
    ⊎ ((calls_in files new ≡ (InTurn, name) ∷ calls_in files old)
    × WritesFile files t name left old.output new.output result))
    ((new.opened ≡ old.opened) × WritesInput t input left old.output new.output result)

-- ---- statistics and check

-- its statistics are written
abbrev pub TellsStore : {S : Type 0} → ℕ → (start end : Option (List ℕ)) → Result Unit Fault
    → Ghosts S → (store left : S) → Type 0
TellsStore w start end result s store left = TellsStats w s store left start end result

-- it is checked, and nothing is written
pub record ChecksStore {S : Type 0} (w : ℕ) (start end : Option (List ℕ))
    (result : Result Unit Fault) (s : Ghosts S) (store left : S) : Type 0 where
  pub kept : Keeps start end
  pub reads : OnlyReads s store left
  pub sound : OnOk result (FindsSound w s left)
  pub fails : IfErr result (CheckingFails w s store left)

-- why a stream is not taken into memory
abbrev pub IsNotLoaded : (most : ℕ) → (before after : Feed) → Fault → Type 0
IsNotLoaded most before after Long = FromTo before after (λ stream rest. most < length stream)
IsNotLoaded most before after (Walk walk.Input) = after.failed
IsNotLoaded most before after NoRoom = ⊤
IsNotLoaded most before after fault = ⊥

-- it is not, and nothing is written
pub record IsNotTaken (most : ℕ) (before after : Feed) (start end : Option (List ℕ))
    (result : Result Unit Fault) : Type 0 where
  pub fault : Fault
  pub is : result ≡ Err fault
  pub why : IsNotLoaded most before after fault
  pub kept : Keeps start end

-- a store has all bytes that were left
pub record IsWhole (most : ℕ) (before after : Feed) (store : MemStore) : Type 0 where
  pub whole : FromTo before after (λ stream rest. contents store ≡ stream)
  pub few : length (contents store) ≤ most

-- it is taken, and this is done with it
pub record IsTakenInMemory (most : ℕ) (before after : Feed) (done : MemStore → MemStore → Type 0)
    : Type 0 where
  pub store : MemStore
  pub is : IsWhole most before after store
  pub last : MemStore
  pub does : done store last

abbrev pub Takes : ℕ → (before after : Feed) → (start end : Option (List ℕ)) → Result Unit Fault
    → (MemStore → MemStore → Type 0) → Type 0
Takes most before after start end result done =
    IsNotTaken most before after start end result ⊎ IsTakenInMemory most before after done

-- the file that came is read at places, and is left so
pub record OfFile {F I J M N R Y : Type 0} (files : Files F I J M N R Y) (name : List ℕ) (left : Left F M I J)
    (done : F → F → Type 0) : Type 0 where
  pub file : F
  pub came : files.system.gives name file
  pub last : F
  pub is_last : left ≡ read_left last
  pub does : done file last

-- nothing had been taken of it: it is taken into memory, and its reader is returned
pub record OfStream {F I J M N R Y : Type 0} (files : Files F I J M N R Y) (s : WantedStore F)
    (name : List ℕ) (left : Left F M I J) (start end : Option (List ℕ)) (result : Result Unit Fault)
    : Type 0 where
  pub file : I
  pub came : files.system.reads name file
  pub unread : IsUnread (files.feed file)
  pub last : I
  pub is_last : left ≡ stream_left last
  pub takes : Takes s.most (files.feed file) (files.feed last) start end result s.taken

-- so is standard input
pub record OfInput {F I J M : Type 0} (most : ℕ) (input : Standard J) (left : Left F M I J)
    (start end : Option (List ℕ)) (result : Result Unit Fault)
    (done : MemStore → MemStore → Type 0) : Type 0 where
  pub last : J
  pub is_last : left ≡ input_left last
  pub takes : Takes most (input.feed input.reader) (input.feed last) start end result done

-- that file alone is opened, once it was seen whether it is a stream; or none, if the system did not
-- say, or if standard input is read
abbrev pub PerformsOn : {F I J M N R Y : Type 0} → Files F I J M N R Y → WantedStore F → (input : Standard J)
    → (old new : State Y) → Left F M I J → Result Unit Fault → Type 0
PerformsOn files s input old new left result = by_name s.name
    (λ name. ((left ≡ none_left) × Refuses name ((Stream looks.No, name) ∷ calls_in files old)
    (calls_in files new) old.output new.output result)
    ⊎ ((calls_in files new ≡ (AtPlaces, name) ∷ (Stream looks.No, name) ∷ calls_in files old)
    × OfFile files name left s.file)
    ⊎ ((left ≡ none_left) × Refuses name ((Stream looks.Yes, name) ∷ calls_in files old)
    (calls_in files new) old.output new.output result)
    ⊎ ((calls_in files new ≡ (InTurn, name) ∷ (Stream looks.Yes, name) ∷ calls_in files old)
    × OfStream files s name left old.output new.output result)
    ⊎ ((calls_in files new ≡ (Stream looks.Unknown, name) ∷ calls_in files old)
    × (left ≡ none_left) × (result ≡ Err Open) × Keeps old.output new.output))
    ((new.opened ≡ old.opened)
    × OfInput s.most input left old.output new.output result s.taken)

-- ---- difference

-- what changed between the files that came for two names, which are left so
pub record ComparesFiles {F I J M N R Y : Type 0} (files : Files F I J M N R Y) (d : WantedDifference)
    (before after : State Y) (left : Left F M I J) (result : Result Unit Fault) : Type 0 where
  pub old : F
  pub old_came : files.system.gives d.first old
  pub new : F
  pub new_came : files.system.gives d.second new
  pub old_last : F
  pub new_last : F
  pub are_last : left ≡ both_left old_last new_last
  pub tells : TellsDifference (difference_task d.word files.stores files.stores)
      (difference_state old new before.output) (difference_state old_last new_last after.output) result

-- the second was not opened, and nothing was written; the first is left as it came
pub record RefusesSecond {F I J M N R Y : Type 0} (files : Files F I J M N R Y) (d : WantedDifference)
    (old new : State Y) (left : Left F M I J) (result : Result Unit Fault) : Type 0 where
  pub file : F
  pub came : files.system.gives d.first file
  pub is_left : left ≡ read_left file
  pub refuses : Refuses d.second ((AtPlaces, d.first) ∷ calls_in files old)
      (calls_in files new) old.output new.output result

-- both are opened, to be read at places, and no other file is
abbrev pub PerformsDifference : {F I J M N R Y : Type 0} → Files F I J M N R Y → WantedDifference
    → (old new : State Y) → Left F M I J → Result Unit Fault → Type 0
PerformsDifference files d old new left result =
    ((left ≡ none_left)
    × Refuses d.first (calls_in files old) (calls_in files new) old.output new.output result)
    ⊎ RefusesSecond files d old new left result
    ⊎ ((calls_in files new ≡ (AtPlaces, d.second) ∷ (AtPlaces, d.first) ∷ calls_in files old)
    × ComparesFiles files d old new left result)

-- ---- many keys

-- the records of the keys of the inputs that were opened after the file that came. Nothing had been taken of any input,
-- and their readers are returned with the file
pub record LooksUpFile {F I J M N R Y : Type 0} (files : Files F I J M N R Y) (l : WantedLookups)
    (input : Standard J) (old new : State Y) (left : Left F M I J) (result : Result Unit Fault)
    : Type 0 where
  pub file : F
  pub came : files.system.gives l.name file
  pub inputs : Inputs I J
  pub opens : OpensInputs files.system l.inputs inputs.readers.items
      ((AtPlaces, l.name) ∷ calls_in files old) (calls_in files new)
  pub unread : AreUnread files.feed inputs.readers.items
  pub shared : inputs.shared ≡ input.reader
  pub last : F
  pub handed : Inputs I J
  pub are_last : left ≡ looked_left last handed
  pub looks : LooksUp (lookup_task l.word l.greatest files.stores l.options) files.feed input.feed
      (lookup_state inputs file old.output) (lookup_state handed last new.output) result

-- an input was not opened, and nothing was written; the file is left as it came
pub record RefusesInputs {F I J M N R Y : Type 0} (files : Files F I J M N R Y) (name : List ℕ)
    (inputs : List (List ℕ)) (old new : State Y) (left : Left F M I J) (result : Result Unit Fault)
    : Type 0 where
  pub file : F
  pub came : files.system.gives name file
  pub is_left : left ≡ read_left file
  pub fault : Fault
  pub is : result ≡ Err fault
  pub stops : StopsOpening files.system inputs ((AtPlaces, name) ∷ calls_in files old)
      (calls_in files new) fault
  pub kept : Keeps old.output new.output

-- the file is opened, to be read at places, and then the inputs
abbrev pub PerformsLookups : {F I J M N R Y : Type 0} → Files F I J M N R Y → WantedLookups
    → (input : Standard J) → (old new : State Y) → Left F M I J → Result Unit Fault → Type 0
PerformsLookups files l input old new left result =
    ((left ≡ none_left)
    × Refuses l.name (calls_in files old) (calls_in files new) old.output new.output result)
    ⊎ RefusesInputs files l.name l.inputs old new left result
    ⊎ LooksUpFile files l input old new left result

-- ---- help and version

-- this text is written
pub record Tells (text : List ℕ) (start end : Option (List ℕ)) (result : Result Unit Fault) : Type 0
  where
    pub ok : OnOk result (Appends start end text)
    pub err : IfErr result (λ fault. (fault ≡ Output) × AppendsPrefix start end text)
