-- What the files of a system have, that the calls on them were answered so, and what may be refused then.
use Rattle.std.specs.Prelude.{ℕ, ◌≡◌, List, [], ◌∷◌, ◌++◌, Option, None, Some, IfSome, ⊤, option_map, unwrap_or}
use Rattle.cdb_command.specs.Asked.{Asked}
use Rattle.cdb_command.specs.Asked as asked
use Rattle.cdb_names.specs.declared.answer.Answer.TheVariants.{No}
use Rattle.cdb_names.specs.declared.name_fault.NameFault.TheVariants as why
use Rattle.cdb_show.specs.Feed.{IsUnread}
use Rattle.cdb_form.specs.Format.{walk_of, AreBytes}
use Rattle.cdb_form.specs.declared.text.fault.TextFault.TheVariants as text
use Rattle.cdb_form.specs.declared.walk.fault.WalkFault.TheVariants as walk
use Rattle.cdb_read.specs.Difference.{FindsInOrder}
use Rattle.cdb_store.specs.declared.store.Store.{Ghosts}
use Rattle.cdb_show.specs.Runs.Difference.{heads_fault}
use Rattle.cdb_show.specs.declared.fault.Fault.{Fault}
use Rattle.cdb_show.specs.declared.fault.Fault.TheVariants.{Text, Walk, NoMemory}
use Rattle.cdb_system.specs.Opening.{OpenCalls}
use Rattle.cdb_system.specs.State.{Files, Standard, AgreeInTurn, Agrees, names_in_turn, own_readers}
use Rattle.cdb_system.specs.Oracle.{Disk, word_size}
use Rattle.cdb_system.specs.declared.left.Left.{Left}
use Rattle.cdb_system.specs.declared.open_trace.OpenCall.{OpenCall}
use Rattle.cdb_system.specs.declared.open_trace.OpenCall.TheVariants.{AtPlaces, InTurn, Stream, Emptied, Locked, Own, ToEmpty, Unopened, Watched}

-- ---- the calls, and the files that were opened

-- the bytes of a file agree with all that the first of some stores gave, and no call on that failed
abbrev pub Shows : {F : Type 0} → Ghosts F → (file : Option (List ℕ)) → List F → Type 0
Shows s (Some bytes) (store ∷ stores) = s.image store bytes × (s.failures store ≡ 0)
Shows s (Some bytes) [] = ⊥
Shows s None stores = ⊥

-- a name has a file
abbrev pub IsThere : (file : Option (List ℕ)) → Type 0
IsThere None = ⊥
IsThere (Some bytes) = ⊤

-- a call on a name was answered as the files are: none is a pipe or a device, what was opened is there, at
-- places with bytes that agree with what a store gave, and what could not be opened is not there. Memory may
-- fail, and other processes may lock what is made in place, or take its name from it
abbrev pub IsAnswered : {F : Type 0} → Ghosts F → Disk → List F → OpenCall → List ℕ → Type 0
IsAnswered s disk stores AtPlaces name = Shows s (disk name) stores
IsAnswered s disk stores Watched name = Shows s (disk name) stores
IsAnswered s disk stores InTurn name = IsThere (disk name)
IsAnswered s disk stores (Stream answer) name = answer ≡ No
IsAnswered s disk stores ToEmpty name = ⊤
IsAnswered s disk stores (Locked lock) name = ⊤
IsAnswered s disk stores (Own answer) name = ⊤
IsAnswered s disk stores Emptied name = ⊤
IsAnswered s disk stores (Unopened why.Failed found) name = disk name ≡ None
IsAnswered s disk stores (Unopened why.NoMemory found) name = ⊤

-- the stores without the one of a call
abbrev pub stores_before : {F : Type 0} → OpenCall → List F → List F
stores_before AtPlaces (store ∷ stores) = stores
stores_before Watched (store ∷ stores) = stores
stores_before call stores = stores

-- so was each call, of which those at places opened these stores; the newest comes first
abbrev pub AreAnswered : {F : Type 0} → Ghosts F → Disk → OpenCalls → List F → Type 0
AreAnswered s disk [] stores = ⊤
AreAnswered s disk (call ∷ calls) stores = IsAnswered s disk stores call.0 call.1
    × AreAnswered s disk calls (stores_before call.0 stores)

-- the stores that a command read and returns, as they are then
abbrev pub if_some : {F : Type 0} → Option F → List F
if_some None = []
if_some (Some store) = store ∷ []

abbrev pub stores_in : {F M I J : Type 0} → Left F M I J → List F
stores_in left = if_some left.other ++ if_some left.read

-- the readers of the files that it read from their start on, the oldest first
abbrev pub streams_in : {F M I J : Type 0} → Left F M I J → List I
streams_in left = if_some left.stream
    ++ own_readers (unwrap_or (option_map (λ readers. readers.items) left.inputs) [])

-- ---- what is taken as given

-- the files and standard input have bytes
pub record IsOfBytes (disk : Disk) (input : List ℕ) : Type 0 where
  pub files : (name : List ℕ) → IfSome (disk name) AreBytes
  pub standard : AreBytes input

-- they do, if the texts of inputs are read
abbrev pub GivesInputs : Disk → (input : List ℕ) → Asked → Type 0
GivesInputs disk input (asked.Lookups name inputs number style wide) = IsOfBytes disk input
GivesInputs disk input command = ⊤

-- a file has no damage, and its look-ups give what its walk gives, as in each file that cdb made
abbrev pub IsInOrder : ℕ → List ℕ → Type 0
IsInOrder w bytes = ((walk_of w bytes).damage ≡ None) × FindsInOrder w bytes

-- so are two files, unless their heads say why they are not compared
abbrev pub AreComparable : ℕ → (old new : Option (List ℕ)) → Type 0
AreComparable w old new = IfSome old (λ b. IfSome new (λ c.
    heads_fault w b c ≡ None → IsInOrder w b × IsInOrder w c))

-- and both files of a difference
abbrev pub AreInOrder : Disk → Asked → Type 0
AreInOrder disk (asked.Difference old new wide) =
    AreComparable (word_size wide) (disk old) (disk new)
AreInOrder disk command = ⊤

-- all that a command called and read was as the files and standard input are, of which nothing had been taken
pub record Honest {F I J M N R Y : Type 0} (files : Files F I J M N R Y) (disk : Disk) (input : List ℕ)
    (command : Asked) (standard : Standard J) (old new : Y) (left : Left F M I J) : Type 0 where
  pub calls : OpenCalls
  pub are : files.system.calls new ≡ calls ++ files.system.calls old
  pub answered : AreAnswered files.stores disk calls (stores_in left)
  pub in_turn : AgreeInTurn files.feed disk (names_in_turn calls) (streams_in left)
  pub unread : IsUnread (standard.feed standard.reader)
  pub agrees : IfSome left.input (λ reader. Agrees (Some input) (standard.feed reader))
  pub bytes : GivesInputs disk input command
  pub in_order : AreInOrder disk command

-- what it reads from its start: nothing, a database, or the texts of some inputs
pub data Reading : Type 0 where
  Nothing : Reading
  Database : Reading
  Texts : Reading

abbrev pub reads_in_turn : Asked → Reading
reads_in_turn (asked.Lookups name inputs number style wide) = Texts
reads_in_turn (asked.Dump name style wide) = Database
reads_in_turn (asked.Listing name style wide) = Database
reads_in_turn (asked.Stats None wide) = Database
reads_in_turn (asked.Check None wide) = Database
reads_in_turn command = Nothing

-- an allocation failed; or a reader failed, if one is read
abbrev pub IsRefusal : (reads : Reading) → Fault → Type 0
IsRefusal reads NoMemory = ⊤
IsRefusal reads (Walk walk.Input) = reads ≡ Database
IsRefusal reads (Text n text.Input) = reads ≡ Texts
IsRefusal reads (Text n text.Endless) = reads ≡ Texts
IsRefusal reads fault = ⊥
