-- What a replacement of a file does to its name.
use Rattle.std.specs.Prelude.{◌≡◌, ◌≢◌, ℕ, ◌+◌, ◌<◌, ◌⊎◌, Bool, true, false, List, [], ◌∷◌, ◌++◌, Option, None, Some, Result, Ok, Err, OnOk, OnErr, codes}
use Rattle.std.specs.List.{AllByRecursion}
use Rattle.cdb_store.specs.Calls.{Calls, IsSynced, FileImage}
use Rattle.cdb_store.specs.FileStore.{calls_of, failures_of, images_of}
use Rattle.cdb_store.specs.Images.{SameImages}
use Rattle.cdb_store.specs.declared.file.FileStore.{FileStore}
use Rattle.cdb_store.specs.declared.raw.RawFile.{Ghosts as Raw}
use Rattle.cdb_store.specs.declared.trace.Call.TheVariants as file_call
use Rattle.cdb_names.specs.declared.name_trace.NameCall.{NameCall}
use Rattle.cdb_names.specs.declared.name_fault.NameFault.{NameFault}
use Rattle.cdb_names.specs.declared.name_fault.NameFault.TheVariants as name_fault
use Rattle.cdb_names.specs.declared.answer.Answer.TheVariants as answer
use Rattle.cdb_names.specs.declared.answer.Found.TheVariants as found
use Rattle.cdb_names.specs.declared.answer.Lock.{Lock}
use Rattle.cdb_names.specs.declared.answer.Lock.TheVariants as locking
use Rattle.cdb_names.specs.declared.name_trace.NameCall.TheVariants.{Special, Same, Looked, Opened, NotOpened, Made, NotMade, Locked, Own, Bits, Seen, Removed, NotRemoved, Renamed, NotRenamed, Synced, NotSynced}
use Rattle.cdb_names.specs.declared.replace.ReplaceFault.{ReplaceFault}
use Rattle.cdb_names.specs.declared.replace.ReplaceFault.TheVariants.{Open, NoMemory, Rename, Write, Build}
use Rattle.cdb_names.specs.declared.shown.Shown.{Shown}
use Rattle.cdb_names.specs.declared.wanted.Wanted.{Wanted}
use Rattle.cdb_names.specs.Folder.{NameCalls, IsCleared, MayHave, AreNamesApart, IsGuarded, IsPlain, asked_for}
use Rattle.cdb_names.specs.Wanted.{Suits, private_bits}
use Rattle.cdb_names.specs.declared.unsynced.Unsynced.{Unsynced}

-- one call, with its name, its other name, and the calls on its file
abbrev pub NameEvent : Type 0
NameEvent = NameCall × List ℕ × List ℕ × Calls

-- the file of the temporary name is to get the name: it was synced after its last change, and is
-- whole
pub record IsReady (temporary name : List ℕ) (whole : List ℕ → Type 0) (len : ℕ)
    (from to : List ℕ) (file : Calls) : Type 0 where
  pub from_is : from ≡ temporary
  pub to_is : to ≡ name
  pub synced : IsSynced file
  pub is_whole : (b : List ℕ) → FileImage len file b → whole b

-- a call that a replacement may make: but for the rename it touches the temporary name alone
abbrev pub IsOfReplacing : (temporary name : List ℕ) (whole : List ℕ → Type 0)
    → NameCall × List ℕ × List ℕ × Calls → Type 0
IsOfReplacing temporary name whole (Made asked, made, other, file) = made ≡ temporary
IsOfReplacing temporary name whole (Removed, gone, other, file) = gone ≡ temporary
IsOfReplacing temporary name whole (NotRemoved, gone, other, file) = gone ≡ temporary
IsOfReplacing temporary name whole (Renamed len, from, to, file) =
    IsReady temporary name whole len from to file
IsOfReplacing temporary name whole (NotRenamed len fault, from, to, file) =
    IsReady temporary name whole len from to file
IsOfReplacing temporary name whole (call, one, other, file) = Unit {0}

-- each call since was one that a replacement may make
pub record AreOfReplacing (temporary name : List ℕ) (whole : List ℕ → Type 0)
    (old new : NameCalls) : Type 0 where
  pub since : NameCalls
  pub calls : new ≡ since ++ old
  pub each : AllByRecursion (IsOfReplacing temporary name whole) since

-- and each was guarded
abbrev pub EachIsStep : (temporary name : List ℕ) (whole : List ℕ → Type 0)
    → (since old : NameCalls) → Type 0
EachIsStep temporary name whole [] old = Unit {0}
EachIsStep temporary name whole (call ∷ since) old = IsOfReplacing temporary name whole call
    × IsGuarded name call (since ++ old) × EachIsStep temporary name whole since old

-- each call since was one that a replacement may make, and guarded
pub record AreSteps (temporary name : List ℕ) (whole : List ℕ → Type 0)
    (old new : NameCalls) : Type 0 where
  pub since : NameCalls
  pub calls : new ≡ since ++ old
  pub each : EachIsStep temporary name whole since old

-- how often a file was renamed
abbrev pub renames : NameCalls → ℕ
renames [] = 0
renames ((Renamed len, from, to, file) ∷ calls) = renames calls + 1
renames ((_, one, other, file) ∷ calls) = renames calls

-- the last two calls are the rename, and the sync of the folder, which may have failed
pub record IsRenamed (temporary name : List ℕ) (calls : NameCalls) : Type 0 where
  pub sync : NameCall
  pub is_sync : (sync ≡ Synced) ⊎ (sync ≡ NotSynced)
  pub len : ℕ
  pub file : Calls
  pub before : NameCalls
  pub are : calls ≡ (sync, name, [], []) ∷ (Renamed len, temporary, name, file) ∷ before

-- the last calls are the rename of the file of this length, on which these calls were made, and the
-- sync of the folder
pub record RenamesFile (temporary name : List ℕ) (len : ℕ) (file : Calls) (calls : NameCalls)
    : Type 0 where
  pub sync : NameCall
  pub before : NameCalls
  pub are : calls ≡ (sync, name, [], []) ∷ (Renamed len, temporary, name, file) ∷ before

-- it is empty or ends in a slash
abbrev pub IsNoName : List ℕ → Type 0
IsNoName name = (name ≡ []) ⊎ ((front : List ℕ) × (name ≡ front ++ 47 ∷ []))

-- the calls go on from the old ones, which were made first
abbrev pub GoesOn : (old calls : NameCalls) → Type 0
GoesOn old calls = (since : NameCalls) × (calls ≡ since ++ old)

-- since the old calls the rename failed so, and then the temporary name was to be taken from the file
abbrev pub FailsRename : (temporary name : List ℕ) (old calls : NameCalls) → NameFault → Type 0
FailsRename temporary name old calls fault =
    (len : ℕ) × (file : Calls) × (before : NameCalls) × GoesOn old before
    × IsCleared temporary file ((NotRenamed len fault, temporary, name, file) ∷ before) calls

-- the last call was to take a name from its file, after these
abbrev pub HasCleared : (name : List ℕ) (before calls : NameCalls) → Type 0
HasCleared name before calls = (file : Calls) × IsCleared name file before calls

-- the last call, since the old ones, was to take a name from the file on which these calls were made
abbrev pub ClearsFile : (name : List ℕ) (file : Calls) (old calls : NameCalls) → Type 0
ClearsFile name file old calls =
    (before : NameCalls) × GoesOn old before × IsCleared name file before calls

-- or to take it from any file, or was a look that found that nothing has it
abbrev pub IsFree : (name : List ℕ) (old calls : NameCalls) → Type 0
IsFree name old calls = (before : NameCalls) × GoesOn old before
    × ((calls ≡ (Looked found.Nothing, name, [], []) ∷ before) ⊎ HasCleared name before calls)

-- a call that makes no file under a name
abbrev pub MakesNone : (name : List ℕ) → NameEvent → Type 0
MakesNone name (Made asked, one, other, file) = one ≢ name
MakesNone name (call, one, other, file) = Unit {0}

-- the calls go on from the old ones, and since these no file was made under a name
abbrev pub IsUnmade : (name : List ℕ) (old calls : NameCalls) → Type 0
IsUnmade name old calls =
    (since : NameCalls) × (calls ≡ since ++ old) × AllByRecursion (MakesNone name) since

-- and the last of them was a look that found a file
abbrev pub IsFound : (name : List ℕ) (old calls : NameCalls) → Type 0
IsFound name old calls = (before : NameCalls) × IsUnmade name old before
    × (calls ≡ (Looked found.File, name, [], []) ∷ before)

-- the last call, since the old ones, opened the file of a name before one was made there, or made one
-- once the name was free
abbrev pub IsAtHand : (name : List ℕ) (old calls : NameCalls) → Type 0
IsAtHand name old calls = (before : NameCalls)
    × ((IsUnmade name old before × (calls ≡ (Opened, name, [], []) ∷ before))
    ⊎ (IsFree name old before × ((asked : ℕ) × (calls ≡ (Made asked, name, [], []) ∷ before))))

-- an answer at which nothing was made: the system did not say what a name has, or with which
-- permission bits; or the two names are of one file, which was just found; or the temporary name has
-- no regular file, or one that cannot be opened. Or no file could be made there, once the name was
-- free; or another process holds the file that was just opened or made
abbrev pub IsStop : (temporary name : List ℕ) (old : NameCalls) → NameEvent → (before : NameCalls)
    → Type 0
IsStop temporary name old (Special answer.Unknown, one, other, file) before =
    (one ≡ name) × IsUnmade temporary old before
IsStop temporary name old (Bits None, one, other, file) before =
    (one ≡ name) × IsUnmade temporary old before
IsStop temporary name old (Same answer.Yes, one, two, file) before =
    (one ≡ temporary) × (two ≡ name) × IsFound temporary old before
IsStop temporary name old (Same answer.Unknown, one, two, file) before =
    (one ≡ temporary) × (two ≡ name) × IsFound temporary old before
IsStop temporary name old (Looked found.Other, one, other, file) before =
    (one ≡ temporary) × IsUnmade temporary old before
IsStop temporary name old (Looked found.Unknown, one, other, file) before =
    (one ≡ temporary) × IsUnmade temporary old before
IsStop temporary name old (NotOpened name_fault.Failed, one, other, file) before =
    (one ≡ temporary) × IsUnmade temporary old before
IsStop temporary name old (Locked locking.Held, one, other, file) before =
    (one ≡ temporary) × IsAtHand temporary old before
IsStop temporary name old (NotMade name_fault.Failed, one, other, file) before =
    (one ≡ temporary) × IsFree temporary old before
IsStop temporary name old (call, one, other, file) before = ⊥

-- an answer at which the file that was made is removed again: the system did not say which permission
-- bits it has, or the temporary name was not seen to have it, or not seen to be of another file than
-- the name
abbrev pub IsUndone : (temporary name : List ℕ) → NameEvent → Type 0
IsUndone temporary name (Seen None, one, other, file) = one ≡ temporary
IsUndone temporary name (Own answer.No, one, other, file) = one ≡ temporary
IsUndone temporary name (Own answer.Unknown, one, other, file) = one ≡ temporary
IsUndone temporary name (Same answer.Yes, one, two, file) = (one ≡ temporary) × (two ≡ name)
IsUndone temporary name (Same answer.Unknown, one, two, file) = (one ≡ temporary) × (two ≡ name)
IsUndone temporary name (call, one, other, file) = ⊥

-- since the old calls no file was made, or it was removed again, empty as it was
abbrev pub StopsMaking : (temporary name : List ℕ) (old calls : NameCalls) → Type 0
StopsMaking temporary name old calls = (stop : NameEvent) × (before : NameCalls) × GoesOn old before
    × ((IsStop temporary name old stop before × (calls ≡ stop ∷ before))
    ⊎ (IsUndone temporary name stop
    × IsCleared temporary ((file_call.Made, []) ∷ []) (stop ∷ before) calls))

-- the system had no memory for the temporary file, since the old calls
abbrev pub LacksMemoryForLock : (temporary : List ℕ) (old calls : NameCalls) → Type 0
LacksMemoryForLock temporary old calls = (before : NameCalls)
    × (((calls ≡ (NotOpened name_fault.NoMemory, temporary, [], []) ∷ before)
    × IsUnmade temporary old before)
    ⊎ ((calls ≡ (NotMade name_fault.NoMemory, temporary, [], []) ∷ before)
    × IsFree temporary old before))

-- which calls since the old ones end in this fault once the names were seen
abbrev pub ReplacingStopsAt : {E : Type 0} → (temporary name : List ℕ) (old new : NameCalls)
    → ReplaceFault E → Type 0
ReplacingStopsAt temporary name old new Open = StopsMaking temporary name old new
ReplacingStopsAt temporary name old new NoMemory = LacksMemoryForLock temporary old new
ReplacingStopsAt temporary name old new fault = ⊥

-- which calls since the old ones end in this fault before anything is built
abbrev pub StopsUnbuilt : {E : Type 0} → (temporary name : List ℕ) (old new : NameCalls)
    → ReplaceFault E → Type 0
StopsUnbuilt temporary name old new Open =
    ((new ≡ old) × (IsNoName name ⊎ (temporary ≡ name))) ⊎ StopsMaking temporary name old new
StopsUnbuilt temporary name old new NoMemory = LacksMemoryForLock temporary old new
StopsUnbuilt temporary name old new Rename = new ≡ (Special answer.Yes, name, [], []) ∷ old
StopsUnbuilt temporary name old new Write = ⊥
StopsUnbuilt temporary name old new (Build fault) = ⊥

-- the system was requested, since the old calls, to give the file permission bits with which it may get
-- the name, and it has others
abbrev pub IsNotGiven : (temporary name : List ℕ) (bits : ℕ) (old calls : NameCalls) → Type 0
IsNotGiven temporary name bits old calls = (held : Option Shown) × (wanted : Wanted) × (file : Calls)
    × (before : NameCalls) × GoesOn old before × (Suits wanted bits → ⊥)
    × (calls ≡ asked_for temporary name held wanted file before)

-- the system did not say which permission bits the file is to have, or which it has, or did not give them
abbrev pub LacksBits : (temporary name : List ℕ) (old : NameCalls) → NameEvent
    → (before : NameCalls) → Type 0
LacksBits temporary name old (Bits None, one, other, file) before = one ≡ name
LacksBits temporary name old (Seen None, one, other, file) before = one ≡ temporary
LacksBits temporary name old (Seen (Some shown), one, other, file) before =
    (one ≡ temporary) × IsNotGiven temporary name shown.bits old before
LacksBits temporary name old (call, one, other, file) before = ⊥

-- since the old calls the file that was built did not get its permission bits, or was not synced
abbrev pub FailsToSeal : {E : Type 0} → (temporary name : List ℕ) (old calls : NameCalls)
    → ReplaceFault E → Type 0
FailsToSeal temporary name old calls Open =
    (stop : NameEvent) × (before : NameCalls) × GoesOn old before
    × LacksBits temporary name old stop before × (calls ≡ stop ∷ before)
FailsToSeal temporary name old calls Write = Unit {0}
FailsToSeal temporary name old calls fault = ⊥

-- which calls since the old ones end in this fault once the builder came to its end: the last one was
-- to take the temporary name from the file
abbrev pub EndsBuilt : {E : Type 0} → (temporary name : List ℕ) (old new : NameCalls)
    → ReplaceFault E → Type 0
EndsBuilt temporary name old new NoMemory =
    FailsRename temporary name old new name_fault.NoMemory
EndsBuilt temporary name old new Rename = FailsRename temporary name old new name_fault.Failed
EndsBuilt temporary name old new Open =
    (stop : NameEvent) × (before : NameCalls) × GoesOn old before
    × LacksBits temporary name old stop before × HasCleared temporary (stop ∷ before) new
EndsBuilt temporary name old new Write =
    (before : NameCalls) × GoesOn old before × HasCleared temporary before new
EndsBuilt temporary name old new (Build fault) =
    (before : NameCalls) × GoesOn old before × HasCleared temporary before new

-- which calls since the old ones end in this fault
abbrev pub EndsIn : {E : Type 0} → (temporary name : List ℕ) (old new : NameCalls)
    → ReplaceFault E → Type 0
EndsIn temporary name old new fault =
    StopsUnbuilt temporary name old new fault ⊎ EndsBuilt temporary name old new fault

-- no other process held the lock of the file of a name
pub record TakesLock (name : List ℕ) (old new : NameCalls) : Type 0 where
  pub lock : Lock
  pub free : lock ≢ locking.Held
  pub are : new ≡ (Locked lock, name, [], []) ∷ old

-- the last answer, since the old calls, was one at which a file that was made is removed again
abbrev pub IsUndoing : (temporary name : List ℕ) (old calls : NameCalls) → Type 0
IsUndoing temporary name old calls =
    (stop : NameEvent) × (before : NameCalls) × GoesOn old before × IsUndone temporary name stop
    × (calls ≡ stop ∷ before)

-- a file was made for this user alone, its lock taken, its name seen to have it, and both names to be
-- of two files; and it was looked at
pub record IsMadeApart (temporary name : List ℕ) (old new : NameCalls) : Type 0 where
  pub locked : NameCalls
  pub takes : TakesLock temporary ((Made private_bits, temporary, [], []) ∷ old) locked
  pub seen : Option Shown
  pub file : Calls
  pub are : new ≡ (Seen seen, temporary, [], file) ∷ (Same answer.No, temporary, name, [])
      ∷ (Own answer.Yes, temporary, [], []) ∷ locked

-- and the name leads to a regular file or to nothing
pub record IsReadyToBuild (temporary name : List ℕ) (calls : NameCalls) : Type 0 where
  pub before : NameCalls
  pub plain : IsPlain name before
  pub made : IsMadeApart temporary name before calls

-- what a fault of an open is to the caller
abbrev pub of_open : {E : Type 0} → NameFault → ReplaceFault E
of_open name_fault.Failed = Open
of_open name_fault.NoMemory = NoMemory

-- what a fault of a name is to the caller
abbrev pub of_name : {E : Type 0} → NameFault → ReplaceFault E
of_name name_fault.Failed = Rename
of_name name_fault.NoMemory = NoMemory

-- at each moment from the old calls on
abbrev pub AtEach : (NameCalls → Type 0) → (since old : NameCalls) → Type 0
AtEach P [] old = P old
AtEach P (call ∷ since) old = P (call ∷ (since ++ old)) × AtEach P since old

-- at each moment since
pub record AtEachMoment (P : NameCalls → Type 0) (old new : NameCalls) : Type 0 where
  pub since : NameCalls
  pub calls : new ≡ since ++ old
  pub each : AtEach P since old

-- it is a file, and whole
abbrev pub IsNew : (List ℕ → Type 0) → Option (List ℕ) → Type 0
IsNew whole None = ⊥
IsNew whole (Some b) = whole b

-- no more than one of both names leads to a place, if they were seen to be of two files
abbrev pub IsTrueOf : (place : List ℕ → Bool) (temporary name : List ℕ) → NameCalls → Type 0
IsTrueOf place temporary name calls = AreNamesApart temporary name calls → place temporary ≡ false

-- a crash now leaves in the place of the name what one before would have left, or a whole new file;
-- or the temporary name leads there too, and the two were not seen to be of two files
abbrev pub LeavesOldOrNew : (temporary name : List ℕ) (whole : List ℕ → Type 0)
    (old now : NameCalls) → Type 0
LeavesOldOrNew temporary name whole old now = (place : List ℕ → Bool) → place name ≡ true
    → IsTrueOf place temporary name now → (first held : Option (List ℕ))
    → MayHave place first now held → MayHave place first old held ⊎ IsNew whole held
    ⊎ ((place temporary ≡ true) × (AreNamesApart temporary name now → ⊥))

-- a crash now leaves a whole new file in the place of the name, if the folder's sync has answered
abbrev pub LeavesNew : (name : List ℕ) (whole : List ℕ → Type 0) (now : NameCalls) → Type 0
LeavesNew name whole now = (place : List ℕ → Bool) → place name ≡ true
    → (before : NameCalls) → now ≡ (Synced, name, [], []) ∷ before
    → (first held : Option (List ℕ)) → MayHave place first now held → IsNew whole held

-- a builder failed so in a file that was just made, and left the one from which the temporary name
-- was to be taken then
pub record FailsToBuild {F : Type 0} {file : Raw F} {E : Type 0}
    (fails : FileStore F file → FileStore F file → E → Type 0) (temporary : List ℕ)
    (old new : NameCalls) (fault : E) : Type 0 where
  pub empty : FileStore F file
  pub left : FileStore F file
  pub made : calls_of empty ≡ (file_call.Made, []) ∷ []
  pub why : fails empty left fault
  pub cleared : ClearsFile temporary (calls_of left) old new

-- the fault of a replacement is that of its builder
abbrev pub IsOfBuilder : {E : Type 0} → (E → Type 0) → ReplaceFault E → Type 0
IsOfBuilder P (Build fault) = P fault
IsOfBuilder P fault = Unit {0}

-- what a replacement answers whose builder answered so: a fault is reported, and a rename may fail
abbrev pub BuilderAnswers : {E : Type 0} → Result Unit E → Result Unit (ReplaceFault E) → Type 0
BuilderAnswers (Ok done) (Ok all) = Unit {0}
BuilderAnswers (Ok done) (Err fault) = IsOfBuilder (λ _. ⊥) fault
BuilderAnswers (Err fault) result = result ≡ Err (Build fault)

-- a builder built a file, or failed to, and left this in what it writes to beside; the file's bytes
-- stayed as it was sealed; and if all went well, that very file was renamed, else the temporary name
-- was to be taken from it
pub record TellsOfFile {F B T E : Type 0} (file : Raw F)
    (tells : B → T → T → (List ℕ → Type 0) → Result Unit E → Type 0) (temporary name : List ℕ)
    (old new : NameCalls) (back : B) (told said : T)
    (result : Result Unit (ReplaceFault E)) : Type 0 where
  pub left : FileStore F file
  pub built : Result Unit E
  pub tells_so : tells back told said (images_of left) built
  pub answers : BuilderAnswers built result
  pub sealed : FileStore F file
  pub same : SameImages (images_of left) (images_of sealed)
  pub unsynced : result ≡ Err Write → failures_of left < failures_of sealed
  pub renamed : OnOk result (RenamesFile temporary name sealed.len (calls_of sealed) new)
  pub cleared : OnErr result (ClearsFile temporary (calls_of sealed) old new)

-- nothing was built: the builder gave up, and what it writes to beside is as it was; no file is whole,
-- so no call was a rename, and a crash at any moment leaves what one before would have left
pub record TellsOfNone {B T E : Type 0} (gives_up : B → Type 0) (temporary name : List ℕ)
    (old new : NameCalls) (back : B) (told said : T) (result : Result Unit (ReplaceFault E)) : Type 0
  where
    pub gave_up : gives_up back
    pub same : said ≡ told
    pub fault : ReplaceFault E
    pub is : result ≡ Err fault
    pub stops : StopsUnbuilt temporary name old new fault
    pub calls : AreOfReplacing temporary name (λ _. ⊥) old new
    pub moments : AtEachMoment (LeavesOldOrNew temporary name (λ _. ⊥) old) old new

-- nothing was built, or something was
abbrev pub BuilderTells : {F B T E : Type 0} → Raw F → (B → Type 0)
    → (B → T → T → (List ℕ → Type 0) → Result Unit E → Type 0) → (temporary name : List ℕ)
    → (old new : NameCalls) → (back : B) → (told said : T)
    → Result Unit (ReplaceFault E) → Type 0
BuilderTells file gives_up tells temporary name old new back told said result =
    TellsOfNone gives_up temporary name old new back told said result
    ⊎ TellsOfFile file tells temporary name old new back told said result

-- ---- What a clause reads of a store whose flush is left to its owner.

abbrev pub inner_of : {S : Type 0} → Unsynced S → S
inner_of u = u.inner

-- ---- What a name says of its folder.

-- the folder of a name whose path has this parent: a name alone is in the folder of the process
abbrev pub folder_from : Option (List ℕ) → List ℕ
folder_from None = codes "."
folder_from (Some []) = codes "."
folder_from (Some (c ∷ bytes)) = c ∷ bytes
