-- What a fault of a command comes of: a reader or a store that failed, or a call that refused a name.
use Rattle.std.specs.Prelude.{ℕ, ◌≡◌, ◌<◌, ◌⊎◌, List, [], ◌∷◌, ◌++◌, ⊤}
use Rattle.cdb_command.specs.Asked.{Asked}
use Rattle.cdb_command.specs.Asked as asked
use Rattle.cdb_show.specs.Feed.{SomeFailed}
use Rattle.cdb_form.specs.Views.Feed.{Feed, IsSome}
use Rattle.cdb_form.specs.declared.text.fault.TextFault.TheVariants as text
use Rattle.cdb_form.specs.declared.walk.fault.WalkFault.TheVariants as walk
use Rattle.cdb_names.specs.Folder.{NameCalls}
use Rattle.cdb_names.specs.Refusals.{refused_name}
use Rattle.cdb_names.specs.Replacing.{ClearsFile, GoesOn, IsNoName, NameEvent}
use Rattle.cdb_names.specs.declared.answer.Answer.TheVariants.{No, Unknown}
use Rattle.cdb_names.specs.declared.answer.Lock.TheVariants.{Held}
use Rattle.cdb_read.specs.declared.fault.ReadFault.TheVariants as read
use Rattle.cdb_show.specs.declared.fault.Fault.{Fault}
use Rattle.cdb_show.specs.declared.fault.Fault.TheVariants.{Make, New, Old, Open, Read, Rename, Text, Walk}
use Rattle.cdb_store.specs.FileStore.{calls_of, failures_of}
use Rattle.cdb_store.specs.declared.file.FileStore.{FileStore}
use Rattle.cdb_store.specs.declared.make_fault.MakeFault.TheVariants as make
use Rattle.cdb_store.specs.declared.raw.RawFile.{Ghosts as Raw}
use Rattle.cdb_store.specs.declared.store.Store.{Ghosts}
use Rattle.cdb_system.specs.Answered.{if_some, stores_in, streams_in}
use Rattle.cdb_system.specs.Opening.{OpenCalls}
use Rattle.cdb_system.specs.State.{temporary_of}
use Rattle.cdb_system.specs.declared.left.Left.{Left}
use Rattle.cdb_system.specs.declared.open_trace.OpenCall.{OpenCall}
use Rattle.cdb_system.specs.declared.open_trace.OpenCall.TheVariants.{Locked, Own, Stream, Unopened}
use Rattle.cdb.specs.Handing.{Machine}
use Rattle.cdb.specs.declared.contents.Sources.{Sources}

-- ---- what has failed

-- a reader of some
abbrev pub AnyFailed : {R : Type 0} → (R → Feed) → List R → Type 0
AnyFailed feed [] = ⊥
AnyFailed feed (reader ∷ readers) = (feed reader).failed ⊎ AnyFailed feed readers

-- a store of some
abbrev pub AnyStoreFailed : {S : Type 0} → Ghosts S → List S → Type 0
AnyStoreFailed s [] = ⊥
AnyStoreFailed s (store ∷ stores) = (0 < s.failures store) ⊎ AnyStoreFailed s stores

-- the file in which a database was built, from which its name was to be taken then
pub record HasFailedFile {R : Type 0} (r : Raw R) (old new : NameCalls) : Type 0 where
  pub name : List ℕ
  pub store : FileStore R r
  pub failed : 0 < failures_of store
  pub cleared : ClearsFile name (calls_of store) old new

-- a call on a file refused its name, or the system did not say what was to be known of it
abbrev pub RefusesFile : OpenCall → Type 0
RefusesFile (Unopened why found) = ⊤
RefusesFile (Locked Held) = ⊤
RefusesFile (Stream Unknown) = ⊤
RefusesFile (Own No) = ⊤
RefusesFile (Own Unknown) = ⊤
RefusesFile call = ⊥

-- the newest call since did
pub record HasRefusedFile (old new : OpenCalls) : Type 0 where
  pub call : OpenCall
  pub name : List ℕ
  pub since : OpenCalls
  pub are : new ≡ (call, name) ∷ (since ++ old)
  pub refuses : RefusesFile call

-- a call on names refused one
abbrev pub RefusesName : NameEvent → Type 0
RefusesName (call, name, other, file) = IsSome (refused_name call name other)

-- a call on names since refused one
pub record HasRefusedName (old new : NameCalls) : Type 0 where
  pub stop : NameEvent
  pub before : NameCalls
  pub since : GoesOn old before
  pub later : NameCalls
  pub are : new ≡ later ++ stop ∷ before
  pub refuses : RefusesName stop

-- no file can have the name of the database that is to be made, or it is the temporary name too
abbrev pub CanHaveNoFile : Asked → Type 0
CanHaveNoFile (asked.Create name base inputs temporary options wide) =
    IsNoName name ⊎ (temporary_of name temporary ≡ name)
CanHaveNoFile command = ⊥

-- this holds of a create
abbrev pub IfCreate : Asked → Type 0 → Type 0
IfCreate (asked.Create name base inputs temporary options wide) P = P
IfCreate command P = ⊤

-- ---- the reasons

-- what may be why a command has a fault: a reader failed, or a store that is read, or one that is made, or a
-- name was refused
pub record Reasons : Type 1 where
  pub reader : Type 0
  pub store : Type 0
  pub made : Type 0
  pub name : Type 0

-- a fault of these is there for its reason; want of memory, and requests that have no end, show none
abbrev pub HasReason : Reasons → Fault → Type 0
HasReason why (Text n text.Input) = why.reader
HasReason why (Walk walk.Input) = why.reader
HasReason why (Read read.Device) = why.store
HasReason why (Old read.Device) = why.store
HasReason why (New read.Device) = why.store
HasReason why (Make make.Writing) = why.made
HasReason why (Make make.Lookup) = why.made
HasReason why Open = why.name
HasReason why Rename = why.name
HasReason why fault = ⊤

-- of what is read at places and opened, by the stores that are returned
abbrev pub store_reasons : {S : Type 0} → Ghosts S → List S → (name : Type 0) → Reasons
store_reasons s stores name =
    record { reader = ⊥; store = AnyStoreFailed s stores; made = ⊥; name = name }

-- of a run over what a create read, as it is returned
abbrev pub run_reasons : {F J I : Type 0} → Ghosts F → (own : J → Feed) → (shared : I → Feed)
    → Sources F J I → (made name : Type 0) → Reasons
run_reasons s own shared sources made name = record {
  reader = SomeFailed own shared sources.inputs.readers.items sources.inputs.shared;
  store = AnyStoreFailed s (if_some sources.base);
  made = made;
  name = name;
}

-- the calls that a command made on files and on names
pub record CallsMade : Type 0 where
  pub opened : OpenCalls
  pub named : NameCalls

abbrev pub calls_made : OpenCalls → NameCalls → CallsMade
calls_made opened named = record { opened = opened; named = named }

-- of a command, by what it returns and by its calls
abbrev pub left_reasons : {F I J M N R Y : Type 0} → Machine F I J M N R Y → (standard : J → Feed)
    → (old new : CallsMade) → Left F M I J → (nameless : Type 0) → Reasons
left_reasons machine standard old new left nameless = record {
  reader = AnyFailed machine.files.feed (streams_in left) ⊎ AnyFailed standard (if_some left.input);
  store = AnyStoreFailed machine.files.stores (stores_in left);
  made = AnyStoreFailed machine.files.made (if_some left.made)
      ⊎ HasFailedFile machine.raw old.named new.named;
  name = HasRefusedFile old.opened new.opened ⊎ HasRefusedName old.named new.named ⊎ nameless;
}
