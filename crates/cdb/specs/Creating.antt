-- What a create makes of what it reads, and under which names. The newest call comes first.
use Rattle.std.specs.Prelude.{ℕ, Bool, true, false, if◌then◌else◌, map, ◌≡◌, ◌≢◌, ◌<◌, ◌+◌, ◌⊎◌, IsOk, List, [], ◌∷◌, ◌++◌, Option, Some, None, Result, Ok, Err, OnOk, OnErr, IfErr}
use Rattle.std.specs.Io.KnownBytes.{Keeps, Appends}
use Rattle.cdb_tool.specs.declared.runs.options.RunOptions.{RunOptions}
use Rattle.cdb_names.specs.Folder.{AreGuarded, NameCalls}
use Rattle.cdb_names.specs.Replacing.{AreOfReplacing, AtEachMoment, EndsIn, NameEvent, IsRenamed, LeavesNew, FailsToBuild, IsNoName, IsOfBuilder, LeavesOldOrNew, BuilderTells, renames}
use Rattle.cdb_names.specs.declared.answer.Answer.{Answer}
use Rattle.cdb_names.specs.declared.answer.Answer.TheVariants as looks
use Rattle.cdb_names.specs.declared.name_trace.NameCall.TheVariants as name_call
use Rattle.cdb_names.specs.declared.replace.ReplaceFault.{ReplaceFault}
use Rattle.cdb_names.specs.declared.replace.ReplaceFault.TheVariants as replace
use Rattle.cdb_form.specs.Views.KnownBytes.{AppendsPrefix}
use Rattle.cdb_show.specs.Feed.{AreUnread}
use Rattle.cdb_show.specs.declared.input_reader.InputReader.{InputReader}
use Rattle.cdb_store.specs.Contents.{contents}
use Rattle.cdb_store.specs.FileStore.{failures_of}
use Rattle.cdb_store.specs.Images.{SameImages}
use Rattle.cdb_store.specs.Reads.{OnlyReads}
use Rattle.cdb_store.specs.contracts.memory.MemStoreStore.TheImpl.{ghosts as in_memory}
use Rattle.cdb_store.specs.declared.memory.MemStore.{MemStore}
use Rattle.cdb_store.specs.declared.raw.RawFile.{Ghosts as Raw}
use Rattle.cdb_store.specs.declared.store.Store.{Ghosts}
use Rattle.cdb_tool.specs.Runs.InputsRead.{RunsRead, run_state}
use Rattle.cdb_tool.specs.Runs.Make.{HandsBack, BaseHasFailed, IsOfBase, IsOfStore, terms_of}
use Rattle.cdb_show.specs.Views.Output.{OutputSays}
use Rattle.cdb_show.specs.declared.inputs.Inputs.{Inputs}
use Rattle.cdb_show.specs.declared.fault.Fault.{Fault}
use Rattle.cdb_show.specs.declared.fault.Fault.TheVariants.{Open, NoMemory, Output, Rename, Make, Read}
use Rattle.cdb_read.specs.declared.fault.ReadFault.TheVariants.{Device}
use Rattle.cdb_store.specs.declared.make_fault.MakeFault.TheVariants.{Writing}
use Rattle.cdb_system.specs.State.{Files, Standard, State, IsInPlace, temporary_of}
use Rattle.cdb_system.specs.Answered.{if_some}
use Rattle.cdb_system.specs.Oracle.{is_standard}
use Rattle.cdb_system.specs.Inputs.{IsStandard, MissesBase, OpensBase, OpensInputs, StopsOpening, inputs_read}
use Rattle.cdb_system.specs.Opening.{Empties, MissesEmptying, OpenCalls, base_left, named_as}
use Rattle.cdb_system.specs.declared.left.Left.{Left}
use Rattle.cdb_system.specs.declared.open_trace.OpenCall.TheVariants.{Own}
use Rattle.cdb.specs.Handing.{HandsInputs, InputsTaken, OpensNoMore, Machine, inputs_taken}
use Rattle.cdb.specs.Created.{head_fault}

-- ---- the database

-- what is wanted: in words of so many bytes, in a file of at most the greatest length, by these options, the database
-- of this name, of this base and these inputs, through this temporary file
pub record Wanted : Type 0 where
  pub word : ℕ
  pub greatest : ℕ
  pub options : RunOptions
  pub name : List ℕ
  pub base : Option (List ℕ)
  pub inputs : List (List ℕ)
  pub temporary : Option (List ℕ)

-- what it is made of: words of so many bytes, the greatest length of a file, the options, the base as
-- it was opened, and the inputs
pub record Making (F I J : Type 0) : Type 1 where
  pub word : ℕ
  pub greatest : ℕ
  pub options : RunOptions
  pub base : Option F
  pub inputs : InputsTaken I J

-- a run of it read the inputs so, and its base and inputs are returned: these are the images that it leaves, the lines
-- that were said, and the answer
abbrev pub ReadsMaking : {F I J : Type 0} → Ghosts F → Making F I J → (back : Option F)
    → (images : List ℕ → Type 0) → (told said : Option (List ℕ)) → Result Unit Fault → Type 0
ReadsMaking f m back images told said made = RunsRead (terms_of m.word m.greatest m.options)
    m.inputs.feeds f (run_state m.base m.inputs.opened told) (run_state back m.inputs.handed said)
    images made

-- these bytes are the database of them, of which the base is left so
pub record IsDatabase {F I J : Type 0} (f : Ghosts F) (m : Making F I J) (back : Option F) (b : List ℕ)
    : Type 0 where
  pub hands : HandsBack f m.base back
  pub told : Option (List ℕ)
  pub said : Option (List ℕ)
  pub is : ReadsMaking f m back (λ c. c ≡ b) told said (Ok tt)

-- a store has it
abbrev pub HasDatabase : {F I J : Type 0} → Ghosts F → Making F I J → Option F
    → (List ℕ → Type 0) → Type 0
HasDatabase f m back images = (b : List ℕ) → images b → IsDatabase f m back b

-- a fault of the store that is built in comes only if that store failed since it had failed so often,
-- and want of memory only if it did not
abbrev pub IsCaused : Fault → (before after : ℕ) → Type 0
IsCaused fault before after =
    (IsOfStore fault → before < after) × (fault ≡ NoMemory → after ≡ before)

abbrev pub HasCauseInStore : {S : Type 0} → Ghosts S → (store left : S) → Result Unit Fault → Type 0
HasCauseInStore s store left made =
    IfErr made (λ fault. IsCaused fault (s.failures store) (s.failures left))

-- a run made it, or failed to: the base as it is then, the images that are left, the lines that were
-- said, and the answer. A fault of the base's store comes only if that store failed
pub record IsMakeRun {F I J : Type 0} (f : Ghosts F) (m : Making F I J) (back : Option F)
    (images : List ℕ → Type 0) (told said : Option (List ℕ)) (made : Result Unit Fault) : Type 0
  where
    pub hands : HandsBack f m.base back
    pub base_failed : IfErr made (λ fault. IsOfBase fault → BaseHasFailed f m.base back)
    pub runs : ReadsMaking f m back images told said made

-- one did in a store, which has this then
pub record MakesIn {S F I J : Type 0} (s : Ghosts S) (f : Ghosts F) (m : Making F I J)
    (store left : S) (back : Option F) (told said : Option (List ℕ)) (made : Result Unit Fault) : Type 0 where
  pub run : IsMakeRun f m back (s.image left) told said made
  pub failed : HasCauseInStore s store left made
  pub settled : OnOk made (s.settled left)

-- one did through a buffer; or memory for that was refused, and no line was said
abbrev pub IsBufferedRun : {F I J : Type 0} → Ghosts F → Making F I J → (back : Option F)
    → (images : List ℕ → Type 0) → (told said : Option (List ℕ)) → Result Unit Fault → Type 0
IsBufferedRun f m back images told said made =
    IsMakeRun f m back images told said made
    ⊎ ((back ≡ m.base) × (made ≡ Err NoMemory) × Keeps told said)

-- ---- on standard output

-- bytes are written, or a prefix of them
pub record WritesAll (start end : Option (List ℕ)) (bytes : List ℕ) (result : Result Unit Fault)
    : Type 0 where
  pub ok : OnOk result (Appends start end bytes)
  pub err : IfErr result (λ fault. (fault ≡ Output) × AppendsPrefix start end bytes)

-- it is made in memory and written; or it is not made, and nothing is written
pub record MakesOnOutput {F I J : Type 0} (f : Ghosts F) (m : Making F I J) (back : Option F)
    (start end told said : Option (List ℕ)) (result : Result Unit Fault) : Type 0 where
  pub empty : MemStore
  pub store : MemStore
  pub made : Result Unit Fault
  pub makes : MakesIn in_memory f m empty store back told said made
  pub written : OnOk made (WritesAll start end (contents store) result)
  pub failed : IfErr made (λ fault. (result ≡ Err fault) × Keeps start end)

-- ---- the files that are read are not the one of a name

-- whether the base, or a named input, is the file of a name, as the system answers
abbrev pub file_is : (name file : List ℕ) → Answer → NameEvent
file_is name file said = (name_call.Same said, name, file, [])

-- whether an input is: standard input has no name
abbrev pub input_is : (name file : List ℕ) → Answer → NameEvent
input_is name file said =
    if is_standard file then (name_call.Input said, name, [], []) else file_is name file said

-- whether each file that is read is, the base first
abbrev pub files_read : (name : List ℕ) → (base : Option (List ℕ)) → (inputs : List (List ℕ))
    → List (Answer → NameEvent)
files_read name base inputs =
    map (file_is name) (if_some base) ++ map (input_is name) (inputs_read inputs)

-- these were looked up in turn, up to the first that may be it: it is, or the system did not say
abbrev pub LooksFor : List (Answer → NameEvent) → (found : Bool) → (was now : NameCalls) → Type 0
LooksFor [] found was now = (found ≡ false) × (now ≡ was)
LooksFor (asks ∷ more) found was now =
    LooksFor more found (asks looks.No ∷ was) now
    ⊎ ((said : Answer) × (said ≢ looks.No) × (found ≡ true) × (now ≡ asks said ∷ was))

-- one may be
abbrev pub FindsOne : (name : List ℕ) → (base : Option (List ℕ)) → (inputs : List (List ℕ))
    → (was now : NameCalls) → Type 0
FindsOne name base inputs was now = LooksFor (files_read name base inputs) true was now

-- each is another one
abbrev pub AsksAll : (name : List ℕ) → (base : Option (List ℕ)) → (inputs : List (List ℕ))
    → (was now : NameCalls) → Type 0
AsksAll name base inputs was now = LooksFor (files_read name base inputs) false was now

-- ---- in place

-- a store was flushed after a run that succeeded; a flush that fails is a fault of writing. After a
-- fault it is left as it is
pub record Syncs {M : Type 0} (s : Ghosts M) (built left : M) (made result : Result Unit Fault)
    : Type 0 where
  pub kept : OnErr made (left ≡ built)
  pub same : SameImages (s.image built) (s.image left)
  pub answered : (result ≡ made)
      ⊎ (IsOk made × (result ≡ Err (Make Writing)) × (s.failures built < s.failures left))
  pub settled : OnOk result (s.settled left)

-- after a success the system answered last whether the name has the file, and the result is what that comes
-- to; a fault stays, and nothing is looked up
abbrev pub SeesName : (name : List ℕ) → (was now : OpenCalls) → (synced result : Result Unit Fault)
    → Type 0
SeesName name was now (Ok done) result =
    (answer : Answer) × (now ≡ (Own answer, name) ∷ was) × (result ≡ named_as answer)
SeesName name was now (Err fault) result = (now ≡ was) × (result ≡ Err fault)

-- no file of a store is returned but the base, which is this
pub record HandsBase {F I J M : Type 0} (base : Option F) (left : Left F M I J) : Type 0 where
  pub read : left.read ≡ base
  pub other : left.other ≡ None
  pub made : left.made ≡ None

-- a run was made in the store that came, which was emptied by these calls. It has the database once the run
-- and its sync succeed, and the create succeeds if the name has the file then. It is left so
pub record MakesEmptied {F I J M N R Y : Type 0} (files : Files F I J M N R Y) (m : Making F I J) (name : List ℕ)
    (emptied : OpenCalls) (old new : State OpenCalls) (left : Left F M I J) (result : Result Unit Fault)
    : Type 0 where
  pub store : M
  pub came : files.system.makes name store
  pub built : M
  pub made : Result Unit Fault
  pub last : M
  pub is_last : left.made ≡ Some last
  pub alone : left.other ≡ None
  pub run : IsBufferedRun files.stores m left.read (files.made.image built) old.errors new.errors
      made
  pub cause : HasCauseInStore files.made store built made
  pub synced : Result Unit Fault
  pub syncs : Syncs files.made built last made synced
  pub has : OnOk synced (HasDatabase files.stores m left.read (files.made.image last))
  pub named : SeesName name emptied new.opened synced result

-- a file that is read may be the one of the name; or none is, as was looked up for each, and then the file of the name
-- is not emptied, or it is, once its lock is held. The base is returned, as it was if nothing was built
abbrev pub MakesInPlace : {F I J M N R Y : Type 0} → Files F I J M N R Y → Making F I J → Wanted
    → (old new : State OpenCalls) → Left F M I J → Result Unit Fault → Type 0
MakesInPlace files m wanted old new left result =
    (FindsOne wanted.name wanted.base wanted.inputs old.named new.named × (new.opened ≡ old.opened)
    × HandsBase m.base left × (result ≡ Err Open) × Keeps old.errors new.errors)
    ⊎ (AsksAll wanted.name wanted.base wanted.inputs old.named new.named
    × (((fault : Fault) × MissesEmptying wanted.name old.opened new.opened fault
    × HandsBase m.base left × (result ≡ Err fault) × Keeps old.errors new.errors)
    ⊎ ((emptied : OpenCalls) × Empties wanted.name old.opened emptied
    × MakesEmptied files m wanted.name emptied old new left result)))

-- ---- in a temporary file

-- what a fault of a replacement is to the program
abbrev pub fault_of : ReplaceFault Fault → Fault
fault_of replace.Open = Open
fault_of replace.NoMemory = NoMemory
fault_of replace.Write = Make Writing
fault_of replace.Rename = Rename
fault_of (replace.Build fault) = fault

-- and its answer
abbrev pub answer_of : Result Unit (ReplaceFault Fault) → Result Unit Fault
answer_of (Ok done) = Ok done
answer_of (Err fault) = Err (fault_of fault)

-- a file with the database replaces the one of the name, at once or not at all, by guarded calls of which
-- one is a rename, and none after a fault; nothing is done for a text that no file can have as its name.
-- The lines are those of the run that was made in it
pub record Replaces {F I J R : Type 0} (f : Ghosts F) (r : Raw R) (m : Making F I J)
    (temporary name : List ℕ) (old new : State OpenCalls) (back : Option F)
    (result : Result Unit Fault) : Type 0 where
  pub answer : Result Unit (ReplaceFault Fault)
  pub answered : result ≡ answer_of answer
  pub calls : AreOfReplacing temporary name (IsDatabase f m back) old.named new.named
  pub moments : AtEachMoment (LeavesOldOrNew temporary name (IsDatabase f m back) old.named)
      old.named new.named
  pub ok : OnOk answer
      (IsRenamed temporary name new.named × LeavesNew name (IsDatabase f m back) new.named)
  pub err : IfErr answer (EndsIn temporary name old.named new.named)
  pub no_name : (IsNoName name → ⊥) ⊎ ((answer ≡ Err replace.Open) × (new.named ≡ old.named))
  pub guarded : AreGuarded name old.named new.named
  pub renamed : OnOk answer (renames new.named ≡ renames old.named + 1)
  pub unrenamed : OnErr answer (renames new.named ≡ renames old.named)
  pub build : IfErr answer (IsOfBuilder (FailsToBuild {file = r}
      (λ store left fault. IsCaused fault (failures_of store) (failures_of left)) temporary
      old.named new.named))
  pub lines : BuilderTells r (λ base. base ≡ m.base)
      (λ base before after images made. IsBufferedRun f m base images before after made)
      temporary name old.named new.named back old.errors new.errors answer

-- a file that is read may have the temporary name; or none has, as was looked up for each
abbrev pub MakesApart : {F I J R : Type 0} → Ghosts F → Raw R → Making F I J → (temporary : List ℕ)
    → Wanted → (old new : State OpenCalls) → (back : Option F) → Result Unit Fault → Type 0
MakesApart f r m temporary wanted old new back result =
    (FindsOne temporary wanted.base wanted.inputs old.named new.named × (back ≡ m.base)
    × (result ≡ Err Open) × Keeps old.errors new.errors)
    ⊎ ((mid : NameCalls) × AsksAll temporary wanted.base wanted.inputs old.named mid
    × Replaces f r m temporary wanted.name (record old { named = mid }) new back result)

-- it is made in place; or in a temporary file, unless the allocation of its name failed
abbrev pub MakesNamed : {F I J M N R Y : Type 0} → Machine F I J M N R Y → Making F I J → Wanted
    → (old new : State OpenCalls) → Left F M I J → Result Unit Fault → Type 0
MakesNamed machine m wanted old new left result =
    (IsInPlace wanted.name wanted.temporary × MakesInPlace machine.files m wanted old new left result)
    ⊎ ((IsInPlace wanted.name wanted.temporary → ⊥) × (new.opened ≡ old.opened)
    × HandsBase left.read left
    × (((new.named ≡ old.named) × (left.read ≡ m.base) × (result ≡ Err NoMemory)
    × Keeps old.errors new.errors)
    ⊎ MakesApart machine.files.stores machine.raw m (temporary_of wanted.name wanted.temporary) wanted old new
    left.read result))

-- ---- a create

-- the head of a base was read, and nothing else. It does not refuse the base, it does, or the store failed
pub record SeesHead {F : Type 0} (w : ℕ) (f : Ghosts F) (old new : F) (result : Result Unit Fault)
    : Type 0 where
  pub reads : OnlyReads f old new
  pub ok : OnOk result ((b : List ℕ) → f.image new b → head_fault w b ≡ None)
  pub err : IfErr result (λ fault.
      ((b : List ℕ) → f.image new b → head_fault w b ≡ Some fault)
      ⊎ ((fault ≡ Read Device) × (f.failures old < f.failures new)))

-- so was that of a base, if there is one
abbrev pub SeesBase : {F : Type 0} → (w : ℕ) → Ghosts F → (old new : Option F) → Result Unit Fault
    → Type 0
SeesBase w f None None result = result ≡ Ok tt
SeesBase w f (Some old) (Some new) result = SeesHead w f old new result
SeesBase w f old new result = ⊥

-- a base was opened, if there is one, and its head was read. It is left so
pub record LooksAtBase {F I J M N R Y : Type 0} (w : ℕ) (files : Files F I J M N R Y) (base : Option (List ℕ))
    (old new : OpenCalls) (left : Option F) (result : Result Unit Fault) : Type 0 where
  pub came : Option F
  pub opens : OpensBase files.system base came old new
  pub sees : SeesBase w files.stores came left result

-- what is read was opened: the base, whose head does not refuse it, then the inputs, of which nothing had
-- been taken
pub record OpensAll {F I J M N R Y : Type 0} (w : ℕ) (files : Files F I J M N R Y) (base : Option (List ℕ))
    (inputs : List (List ℕ)) (old new : OpenCalls) (file : Option F) (readers : List (InputReader I))
    : Type 0 where
  pub mid : OpenCalls
  pub base_is : LooksAtBase w files base old mid file (Ok tt)
  pub inputs_are : OpensInputs files.system inputs readers mid new
  pub unread : AreUnread files.feed readers

-- a fault does not say that an output has failed
abbrev pub IsOfNoOutput : Fault → Type 0
IsOfNoOutput fault = OutputSays {A = Unit} ⊥ (Err fault)

-- or the base was not, or is refused, or an input after it was not opened. A base that was opened is returned
pub record NotOpened {F I J M N R Y : Type 0} (w : ℕ) (files : Files F I J M N R Y) (base : Option (List ℕ))
    (inputs : List (List ℕ)) (old new : OpenCalls) (back : Option F) (fault : Fault) : Type 0 where
  pub calls : (MissesBase base old new fault × (back ≡ None))
      ⊎ LooksAtBase w files base old new back (Err fault)
      ⊎ ((mid : OpenCalls) × LooksAtBase w files base old mid back (Ok tt)
      × StopsOpening files.system inputs mid new fault)

-- the database is made on standard output; or under its name, and then standard output stays as it is
abbrev pub MakesAt : {F I J M N R Y : Type 0} → Machine F I J M N R Y → Making F I J → Wanted
    → (old new : State OpenCalls) → Left F M I J → Result Unit Fault → Type 0
MakesAt machine m wanted old new left result =
    (IsStandard wanted.name × (new.opened ≡ old.opened) × (new.named ≡ old.named)
    × HandsBase left.read left
    × MakesOnOutput machine.files.stores m left.read old.output new.output old.errors new.errors result)
    ⊎ ((IsStandard wanted.name → ⊥) × Keeps old.output new.output
    × MakesNamed machine m wanted old new left result)

-- Inputs were opened and returned, and no other file was opened to be read. This is what was done of them.
pub record HandsAll {F I J M N R Y : Type 0} (files : Files F I J M N R Y) (standard : Standard J)
    (inputs : Inputs I J) (mid new : OpenCalls) (left : Left F M I J) (Does : InputsTaken I J → Type 0)
    : Type 0 where
  pub shared : inputs.shared ≡ standard.reader
  pub handed : Inputs I J
  pub hands : HandsInputs inputs handed left
  pub opens : OpensNoMore mid new
  pub does : Does (inputs_taken files.feed standard.feed inputs handed)

-- all that is read is opened, and then the database is made of it; or nothing is made. A base that was opened is
-- returned, as it came if nothing was built; so is a file that was made in place, and so are the readers of the inputs
abbrev pub Creates : {F I J M N R Y : Type 0} → Machine F I J M N R Y → Wanted
    → (standard : Standard J) → (old new : State OpenCalls) → Left F M I J → Result Unit Fault → Type 0
Creates {F = F} {I = I} {J = J} machine wanted standard old new left result =
    ((fault : Fault) × (result ≡ Err fault)
    × NotOpened wanted.word machine.files wanted.base wanted.inputs old.opened new.opened left.read fault
    × (new.named ≡ old.named) × (left ≡ base_left left.read) × Keeps old.output new.output
    × Keeps old.errors new.errors)
    ⊎ ((file : Option F) × (inputs : Inputs I J) × (mid : OpenCalls)
    × OpensAll wanted.word machine.files wanted.base wanted.inputs old.opened mid file inputs.readers.items
    × HandsAll machine.files standard inputs mid new.opened left (λ items. MakesAt machine
    (record {
      word = wanted.word;
      greatest = wanted.greatest;
      options = wanted.options;
      base = file;
      inputs = items;
    }) wanted (record old { opened = mid }) new left result))
