-- What the oracle says of a create comes true if the calls were answered as the disk is. The newest call
-- comes first.
use Rattle.std.specs.Prelude.{ℕ, ◌≡◌, ◌≢◌, ◌⊎◌, ⊤, bytes_eq, Bool, true, false, List, [], ◌∷◌, ◌++◌, if◌then◌else◌, Option, None, Some, IfSome, Result, Ok}
use Rattle.cdb_show.specs.Feed.{IsUnread}
use Rattle.std.specs.List.{AllByRecursion}
use Rattle.std.specs.Io.KnownBytes.{Appends}
use Rattle.cdb_command.specs.Asked.{Asked, Create}
use Rattle.cdb_command.specs.declared.options.MakeOptions.{MakeOptions}
use Rattle.cdb_command.specs.Refused.{Refused}
use Rattle.cdb_names.specs.Folder.{Has, IsCleared, MayHave, NameCalls}
use Rattle.cdb_names.specs.Replacing.{AtEachMoment, IsNew, NameEvent}
use Rattle.cdb_names.specs.declared.answer.Answer.TheVariants.{No, Yes}
use Rattle.cdb_names.specs.declared.name_trace.NameCall.TheVariants.{Input, NotRemoved, NotRenamed, Same}
use Rattle.cdb_form.specs.Views.KnownBytes.{AppendsPrefix}
use Rattle.cdb_store.specs.Calls.{Agrees as AgreesFile, Calls, lost}
use Rattle.cdb_store.specs.declared.store.Store.{Ghosts}
use Rattle.cdb_show.specs.Message.{fault_line}
use Rattle.cdb_tool.specs.Runs.MakesSo.{IsMakeRefusal}
use Rattle.cdb_show.specs.declared.fault.Fault.{Fault}
use Rattle.cdb_show.specs.declared.fault.Fault.TheVariants.{Open, Output, Rename}
use Rattle.cdb.specs.Created.{Created, create_of, created_ending, is_in_place}
use Rattle.cdb_system.specs.State.{temporary_of, Files, Given, Standard, State, with_calls, AgreeInTurn, Agrees, names_in_turn}
use Rattle.cdb_system.specs.Answered.{AreAnswered, IsOfBytes, stores_in, streams_in}
use Rattle.cdb_system.specs.Oracle.{Disk, greatest_size, is_standard, word_size}
use Rattle.cdb_system.specs.Opening.{OpenCalls}
use Rattle.cdb_system.specs.declared.left.Left.{Left}
use Rattle.cdb_system.specs.declared.open_trace.OpenCall.TheVariants.{Own}

-- ---- the calls

-- no other name leads to a file: two names were said to be of one exactly if they are one, and standard
-- input to be the file of no name
abbrev pub IsNoAlias : NameEvent → Type 0
IsNoAlias (Same said, one, two, file) = (said ≡ No → one ≢ two) × (said ≢ No → one ≡ two)
IsNoAlias (Input said, one, two, file) = said ≡ No
IsNoAlias (call, one, two, file) = ⊤

-- the place of a name, to which no other leads
abbrev pub place_of : (name : List ℕ) → List ℕ → Bool
place_of name other = bytes_eq other name

-- each call was answered as the disk is, and what was read is as its files and standard input are, of which
-- nothing had been taken; no call on names came before, and the name has something
pub record HonestCreate {F I J M N R Y : Type 0} (files : Files F I J M N R Y) (disk : Disk) (input name : List ℕ)
    (standard : Standard J) (old new : State OpenCalls) (left : Left F M I J) : Type 0 where
  pub calls : OpenCalls
  pub are : new.opened ≡ calls ++ old.opened
  pub answered : AreAnswered files.stores disk calls (stores_in left)
  pub in_turn : AgreeInTurn files.feed disk (names_in_turn calls) (streams_in left)
  pub unread : IsUnread (standard.feed standard.reader)
  pub agrees : IfSome left.input (λ reader. Agrees (Some input) (standard.feed reader))
  pub bytes : IsOfBytes disk input
  pub first : old.named ≡ []
  pub alone : AllByRecursion IsNoAlias new.named
  pub held : Option (List ℕ)
  pub has : Has (place_of name) (disk name) new.named held

-- a file from which the temporary name was taken had some bytes
abbrev pub HadBytes : (temporary : List ℕ) → NameCalls → Type 0
HadBytes temporary calls = (file : Calls) (before : NameCalls) → IsCleared temporary file before calls
    → (lost file ≡ false) × ((a : List ℕ) × AgreesFile file a)

-- the store that was made in place, if one was, has some
abbrev pub HasBytes : {M : Type 0} → Ghosts M → Option M → Type 0
HasBytes m None = ⊤
HasBytes m (Some store) = (b : List ℕ) × m.image store b

-- each removal of a name was done
abbrev pub IsNoFailedRemoval : NameEvent → Type 0
IsNoFailedRemoval (NotRemoved, name, other, file) = ⊥
IsNoFailedRemoval (call, name, other, file) = ⊤

-- no rename failed, of which it is not known whether it was done
abbrev pub IsNoFailedRename : NameEvent → Type 0
IsNoFailedRename (NotRenamed len fault, from, to, file) = ⊥
IsNoFailedRename (call, name, other, file) = ⊤

-- ---- the disk

-- the system answered last that a name has the file that was made in place
abbrev pub IsNamed : (name : List ℕ) → OpenCalls → Type 0
IsNamed name opened = (before : OpenCalls) × (opened ≡ (Own Yes, name) ∷ before)

-- what a name has then: what the calls on names left, and the name of the database, if that was made in
-- place, what the store has, or what another process left there if the name was not seen to have its file
abbrev pub NameHolds : {M : Type 0} → Ghosts M → Disk → (name : List ℕ) → Option M → OpenCalls
    → NameCalls → (other : List ℕ) → (held : Option (List ℕ)) → Type 0
NameHolds m disk name None opened now other held = Has (place_of other) (disk other) now held
NameHolds m disk name (Some store) opened now other held =
    ((bytes_eq other name ≡ true) × (IsNamed name opened → IsNew (m.image store) held))
    ⊎ ((bytes_eq other name ≡ false) × Has (place_of other) (disk other) now held)

-- each name has what was said, but for one of which nothing was
abbrev pub HoldsAll : {M : Type 0} → Ghosts M → Disk → (name : List ℕ) → Option M → OpenCalls
    → NameCalls → Created → Type 0
HoldsAll m disk name made opened now c = (other : List ℕ) (held : Option (List ℕ))
    → c.unsure ≢ Some other → NameHolds m disk name made opened now other held
    → held ≡ c.disk other

-- the name whose file may have any bytes amid a create: the temporary one, or the one that is made in
-- place
abbrev pub passing : (name : List ℕ) → (temporary : Option (List ℕ)) → Option (List ℕ)
passing name temporary =
    if is_standard name then None
    else if is_in_place name temporary then Some name else Some (temporary_of name temporary)

-- a crash now leaves what each other name had, or what was said
abbrev pub LeavesAll : Disk → (passing : Option (List ℕ)) → (after : Disk) → NameCalls → Type 0
LeavesAll disk passing after now = (other : List ℕ) (held : Option (List ℕ))
    → passing ≢ Some other → MayHave (place_of other) (disk other) now held
    → (held ≡ disk other) ⊎ (held ≡ after other)

-- each other name has what it had
abbrev pub KeepsAll : Disk → (passing : Option (List ℕ)) → NameCalls → Type 0
KeepsAll disk passing now = (other : List ℕ) (held : Option (List ℕ)) → passing ≢ Some other
    → Has (place_of other) (disk other) now held → held ≡ disk other

-- ---- what comes of it

-- a refusal of what is read or built, or of a call on a name
abbrev pub IsCreateRefusal : Fault → Type 0
IsCreateRefusal Open = ⊤
IsCreateRefusal Rename = ⊤
IsCreateRefusal Output = ⊥
IsCreateRefusal fault = IsMakeRefusal fault

-- of these lines a part was said, and then the last one
abbrev pub SaysPart : (lines last : List ℕ) → (told said : Option (List ℕ)) → Type 0
SaysPart lines last told said =
    (part : List ℕ) × (more : List ℕ) × (lines ≡ part ++ more) × Appends told said (part ++ last)

-- it was reported, and what was written is a prefix; and so is what was said, unless faults are explained
pub record IsGivenUp {S : Type 0} (c : Created) (explained : Bool) (old new : State S) (status : ℕ)
    : Type 0 where
  pub fault : Fault
  pub refusal : IsCreateRefusal fault
  pub is_status : status ≡ 111
  pub output : AppendsPrefix old.output new.output c.output
  pub lines : explained ≡ false → SaysPart c.lines (fault_line fault) old.errors new.errors

-- what is expected of a create: of a disk, of the database of this name, through this temporary file
pub record Expected : Type 0 where
  pub disk : Disk
  pub name : List ℕ
  pub temporary : Option (List ℕ)
  pub created : Created

abbrev pub expected_of : Disk → (name : List ℕ) → (temporary : Option (List ℕ)) → Created
    → Expected
expected_of disk name temporary created =
    record { disk = disk; name = name; temporary = temporary; created = created }

-- it came to what was said, and so did the disk, and the lines unless faults are explained
pub record IsCreated {M : Type 0} (m : Ghosts M) (x : Expected) (explained : Bool)
    (made : Option M) (old new : State OpenCalls) (status : ℕ) : Type 0 where
  pub is_status : status ≡ (created_ending x.created).outcome.status
  pub output : Appends old.output new.output (created_ending x.created).outcome.output
  pub lines : explained ≡ false
      → Appends old.errors new.errors (created_ending x.created).outcome.lines
  pub disk_is : AllByRecursion IsNoFailedRemoval new.named
      → HoldsAll m x.disk x.name made new.opened new.named x.created

-- what was foretold, from the words to the exit status: it came true, or a refusal was reported; at
-- status 0 the disk is as was said, at another as it was; and at each moment a crash leaves what was there
-- or what was said
pub record CreateHolds {M : Type 0} (m : Ghosts M) (x : Expected) (explained : Bool)
    (made : Option M) (old new : State OpenCalls) (status : ℕ) : Type 0 where
  pub comes : HadBytes (temporary_of x.name x.temporary) new.named → HasBytes m made
      → IsCreated m x explained made old new status
      ⊎ IsGivenUp x.created explained old new status
  pub done : status ≡ 0 → HoldsAll m x.disk x.name made new.opened new.named x.created
  pub failed : status ≢ 0 → AllByRecursion IsNoFailedRename new.named
      → KeepsAll x.disk (passing x.name x.temporary) new.named
  pub moments : AtEachMoment
      (LeavesAll x.disk (passing x.name x.temporary) x.created.disk) old.named new.named

-- a run of these words, which request a create
abbrev pub IsCreateForetold : {F I J M N R Y : Type 0} → Files F I J M N R Y → Given (Result Asked Refused) J
    → (old new : State Y) → Left F M I J → (taken : Type 0) → (status : ℕ) → Type 0
IsCreateForetold files given old new left taken status =
    (disk : Disk) (input name : List ℕ) (base : Option (List ℕ)) (inputs : List (List ℕ))
    (temporary : Option (List ℕ)) (o : MakeOptions) (wide : Bool)
    → given.asked ≡ Ok (Create name base inputs temporary o wide) → taken
    → HonestCreate files disk input name given.input (with_calls files old) (with_calls files new) left
    → CreateHolds files.made (expected_of disk name temporary
    (create_of (word_size wide) (greatest_size wide) disk input name base inputs temporary o))
    given.explained left.made (with_calls files old) (with_calls files new) status
