-- What the calls on names answered, and what that says of a name. The newest call comes first.
use Rattle.std.specs.Prelude.{◌≡◌, ◌≢◌, ℕ, ◌⊎◌, List, [], ◌∷◌, ◌++◌, Option, None, Some}
use Rattle.std.specs.Prelude.{Bool, true, false}
use Rattle.cdb_store.specs.Calls.{Calls, IsSynced, FileImage}
use Rattle.cdb_store.specs.declared.trace.Call.TheVariants.{Made as FileMade, Synced as FileSynced}
use Rattle.cdb_names.specs.declared.answer.Answer.TheVariants.{Yes, No}
use Rattle.cdb_names.specs.declared.answer.Lock.TheVariants.{Held}
use Rattle.cdb_names.specs.declared.name_trace.NameCall.{NameCall}
use Rattle.cdb_names.specs.declared.name_trace.NameCall.TheVariants.{Special, Same, Opened, Made}
use Rattle.cdb_names.specs.declared.name_trace.NameCall.TheVariants.{Locked, Own, Bits, Seen, Set}
use Rattle.cdb_names.specs.declared.name_trace.NameCall.TheVariants.{Removed, NotRemoved}
use Rattle.cdb_names.specs.declared.name_trace.NameCall.TheVariants.{Renamed, NotRenamed, Synced}
use Rattle.cdb_names.specs.declared.wanted.Wanted.{Wanted}
use Rattle.cdb_names.specs.declared.shown.Shown.{Shown}
use Rattle.cdb_names.specs.Wanted.{IsUnwritable, IsWanted, Suits, plain_bits, wanted_bits}

-- the calls, each with its name, its other name, and the calls on its file
abbrev pub NameCalls : Type 0
NameCalls = List (NameCall × List ℕ × List ℕ × Calls)

-- a name was taken from its file, or was to be
abbrev pub IsRemoval : NameCall → Type 0
IsRemoval call = (call ≡ Removed) ⊎ (call ≡ NotRemoved)

-- the last call was to take a name from the file on which these calls were made
abbrev pub IsCleared : (name : List ℕ) (file : Calls) (before calls : NameCalls) → Type 0
IsCleared name file before calls =
    (gone : NameCall) × IsRemoval gone × (calls ≡ (gone, name, [], file) ∷ before)

-- what a crash leaves of a file of this length: its bytes, if it was synced after its last change,
-- and else any
abbrev pub LeavesFile : (len : ℕ) → Calls → Option (List ℕ) → Type 0
LeavesFile len file None = ⊥
LeavesFile len file (Some b) = IsSynced file → FileImage len file b

-- a file is there, of any bytes
abbrev pub IsFileThere : Option (List ℕ) → Type 0
IsFileThere None = ⊥
IsFileThere (Some b) = Unit {0}

-- what a place has if no crash comes, but for bytes that are not sure: nothing, or a file with these
-- bytes. A place is given by which names lead to it
abbrev pub Has : (place : List ℕ → Bool) (first : Option (List ℕ)) → NameCalls
    → Option (List ℕ) → Type 0
Has place first [] held = held ≡ first
Has place first ((Made asked, made, other, file) ∷ calls) held =
    ((place made ≡ true) × IsFileThere held) ⊎ ((place made ≡ false) × Has place first calls held)
Has place first ((Removed, gone, other, file) ∷ calls) held =
    ((place gone ≡ true) × (held ≡ None)) ⊎ ((place gone ≡ false) × Has place first calls held)
Has place first ((NotRemoved, gone, other, file) ∷ calls) held =
    ((place gone ≡ true) × (held ≡ None)) ⊎ Has place first calls held
Has place first ((Renamed len, from, to, file) ∷ calls) held =
    ((place to ≡ true) × LeavesFile len file held)
    ⊎ ((place to ≡ false) × (((place from ≡ true) × (held ≡ None))
    ⊎ ((place from ≡ false) × Has place first calls held)))
Has place first ((NotRenamed len fault, from, to, file) ∷ calls) held =
    ((place to ≡ true) × LeavesFile len file held) ⊎ ((place from ≡ true) × (held ≡ None))
    ⊎ Has place first calls held
Has place first ((_, one, other, file) ∷ calls) held = Has place first calls held

-- what a crash after the calls may leave in a place: of each change that was not synced with its
-- folder, the old or the new
abbrev pub MayHave : (place : List ℕ → Bool) (first : Option (List ℕ)) → NameCalls
    → Option (List ℕ) → Type 0
MayHave place first [] held = held ≡ first
MayHave place first ((Made asked, made, other, file) ∷ calls) held =
    ((place made ≡ true) × IsFileThere held) ⊎ MayHave place first calls held
MayHave place first ((Removed, gone, other, file) ∷ calls) held =
    ((place gone ≡ true) × (held ≡ None)) ⊎ MayHave place first calls held
MayHave place first ((NotRemoved, gone, other, file) ∷ calls) held =
    ((place gone ≡ true) × (held ≡ None)) ⊎ MayHave place first calls held
MayHave place first ((Renamed len, from, to, file) ∷ calls) held =
    ((place to ≡ true) × LeavesFile len file held) ⊎ ((place from ≡ true) × (held ≡ None))
    ⊎ MayHave place first calls held
MayHave place first ((NotRenamed len fault, from, to, file) ∷ calls) held =
    ((place to ≡ true) × LeavesFile len file held) ⊎ ((place from ≡ true) × (held ≡ None))
    ⊎ MayHave place first calls held
MayHave place first ((Synced, synced, other, file) ∷ calls) held =
    MayHave place first calls held × (place synced ≡ true → Has place first calls held)
MayHave place first ((_, one, other, file) ∷ calls) held = MayHave place first calls held

-- this process holds the lock of the file of a name that it opened or made last, unless the file
-- system knows no locks
abbrev pub HasLock : (name : List ℕ) → NameCalls → Type 0
HasLock name [] = ⊥
HasLock name ((Locked Held, one, other, file) ∷ calls) = (one ≢ name) × HasLock name calls
HasLock name ((Locked lock, one, other, file) ∷ calls) = (one ≡ name) ⊎ HasLock name calls
HasLock name ((Opened, one, other, file) ∷ calls) = (one ≢ name) × HasLock name calls
HasLock name ((Made asked, one, other, file) ∷ calls) = (one ≢ name) × HasLock name calls
HasLock name ((Removed, one, other, file) ∷ calls) = (one ≢ name) × HasLock name calls
HasLock name ((NotRemoved, one, other, file) ∷ calls) = (one ≢ name) × HasLock name calls
HasLock name ((_, one, other, file) ∷ calls) = HasLock name calls

-- this process made the file of a name that it opened or made last, as a plain new one, to look at it: no
-- create builds in such a file, so it may be removed without its lock
abbrev pub HasPlain : (name : List ℕ) → NameCalls → Type 0
HasPlain name [] = ⊥
HasPlain name ((Made asked, one, other, file) ∷ calls) =
    ((one ≡ name) × (asked ≡ plain_bits)) ⊎ ((one ≢ name) × HasPlain name calls)
HasPlain name ((Opened, one, other, file) ∷ calls) = (one ≢ name) × HasPlain name calls
HasPlain name ((Removed, one, other, file) ∷ calls) = (one ≢ name) × HasPlain name calls
HasPlain name ((NotRemoved, one, other, file) ∷ calls) = (one ≢ name) × HasPlain name calls
HasPlain name ((_, one, other, file) ∷ calls) = HasPlain name calls

-- it may take a name from its file: it holds the lock, or made the file to look at it
abbrev pub MayTake : (name : List ℕ) → NameCalls → Type 0
MayTake name calls = HasLock name calls ⊎ HasPlain name calls

-- a name was seen to have that file
abbrev pub IsOwn : (name : List ℕ) → NameCalls → Type 0
IsOwn name [] = ⊥
IsOwn name ((Own Yes, one, other, file) ∷ calls) = (one ≡ name) ⊎ IsOwn name calls
IsOwn name ((Own answer, one, other, file) ∷ calls) = (one ≢ name) × IsOwn name calls
IsOwn name ((Opened, one, other, file) ∷ calls) = (one ≢ name) × IsOwn name calls
IsOwn name ((Made asked, one, other, file) ∷ calls) = (one ≢ name) × IsOwn name calls
IsOwn name ((Removed, one, other, file) ∷ calls) = (one ≢ name) × IsOwn name calls
IsOwn name ((NotRemoved, one, other, file) ∷ calls) = (one ≢ name) × IsOwn name calls
IsOwn name ((_, one, other, file) ∷ calls) = IsOwn name calls

-- two names were seen to be of two files, and no file was made under the first since
abbrev pub AreNamesApart : (name other : List ℕ) → NameCalls → Type 0
AreNamesApart name other [] = ⊥
AreNamesApart name other ((Same No, one, two, file) ∷ calls) =
    ((one ≡ name) × (two ≡ other)) ⊎ AreNamesApart name other calls
AreNamesApart name other ((Same answer, one, two, file) ∷ calls) =
    (one ≢ name) × AreNamesApart name other calls
AreNamesApart name other ((Made asked, one, two, file) ∷ calls) = (one ≢ name) × AreNamesApart name other calls
AreNamesApart name other ((_, one, two, file) ∷ calls) = AreNamesApart name other calls

-- a name was seen to lead to a regular file or to nothing
abbrev pub IsPlain : (name : List ℕ) → NameCalls → Type 0
IsPlain name [] = ⊥
IsPlain name ((Special No, one, other, file) ∷ calls) = (one ≡ name) ⊎ IsPlain name calls
IsPlain name ((Special answer, one, other, file) ∷ calls) = (one ≢ name) × IsPlain name calls
IsPlain name ((_, one, other, file) ∷ calls) = IsPlain name calls

-- the last calls: an answer what the regular file of a name shows, and a request that the system give the file
-- of the other name, on which these calls were made, the permission bits that are wanted then
abbrev pub asked_for : (from to : List ℕ) (held : Option Shown) (wanted : Wanted) (file : Calls)
    → NameCalls → NameCalls
asked_for from to held wanted file calls =
    (Set (wanted_bits wanted), from, [], file) ∷ (Bits (Some held), to, [], []) ∷ calls

-- the last calls made a plain file under a name, and saw these permission bits of it
abbrev pub SeesPlain : (from : List ℕ) (bits : ℕ) → NameCalls → Type 0
SeesPlain from bits calls = (shown : Shown) × (shown.bits ≡ bits) × (before : NameCalls)
    × (calls ≡ (Seen (Some shown), from, [], (FileMade, []) ∷ [])
    ∷ (Made plain_bits, from, [], []) ∷ before)

-- the last call answered that the regular file of a name shows this, or that none has it
abbrev pub SeesBits : (name : List ℕ) (held : Option Shown) → NameCalls → Type 0
SeesBits name held calls = (before : NameCalls) × (calls ≡ (Bits (Some held), name, [], []) ∷ before)

-- the last call saw whose a file is that was just made under a name
abbrev pub SeesUser : (from : List ℕ) (user : ℕ) → NameCalls → Type 0
SeesUser from user calls = (shown : Shown) × (shown.user ≡ user) × (before : NameCalls)
    × (calls ≡ (Seen (Some shown), from, [], (FileMade, []) ∷ []) ∷ before)

-- these permission bits were seen: those of a file that was made as a plain one under a name, or
-- those of a regular file of the other, of this user
pub record WereSeen (from to : List ℕ) (shown : Shown) (calls : NameCalls) : Type 0 where
  pub since : NameCalls
  pub at : NameCalls
  pub are : calls ≡ since ++ at
  pub how : SeesPlain from shown.bits at ⊎ SeesBits to (Some shown) at

-- the file of a name, on which these calls were made, was given the permission bits with which it may get the
-- other name, was seen to have such, and was synced then; if its owner may not write it with them, its bytes
-- were synced before too. They are those of a file of this user that has the other name, or else these
pub record HasBits (from to : List ℕ) (shown : Shown) (file : Calls) (old new : NameCalls) : Type 0 where
  pub held : Option Shown
  pub wanted : Wanted
  pub is_wanted : IsWanted held shown.user shown.bits wanted
  pub given : Calls
  pub sure : IsUnwritable (wanted_bits wanted) → IsSynced given
  pub last : Shown
  pub suits : Suits wanted last.bits
  pub synced : file ≡ (FileSynced, []) ∷ given
  pub are : new ≡ (Seen (Some last), from, [], given) ∷ asked_for from to held wanted given old

-- the file of a name, on which these calls were made, may get the other one in place of what has it
pub record MayReplace (from to : List ℕ) (file : Calls) (before : NameCalls) : Type 0 where
  pub lock : HasLock from before
  pub own : IsOwn from before
  pub apart : AreNamesApart from to before
  pub earlier : NameCalls
  pub shown : Shown
  pub user : SeesUser from shown.user earlier
  pub seen : WereSeen from to shown earlier
  pub bits : HasBits from to shown file earlier before
  pub plain : IsPlain to before

-- the file of a name that was opened or made last was made
abbrev pub HasMade : (name : List ℕ) → NameCalls → Type 0
HasMade name [] = ⊥
HasMade name ((Made asked, one, other, file) ∷ calls) = (one ≡ name) ⊎ HasMade name calls
HasMade name ((Opened, one, other, file) ∷ calls) = (one ≢ name) × HasMade name calls
HasMade name ((_, one, other, file) ∷ calls) = HasMade name calls

-- this process made the file of a name, and holds its lock
pub record MayUndo (gone : List ℕ) (before : NameCalls) : Type 0 where
  pub lock : HasLock gone before
  pub made : HasMade gone before

-- a name may be taken from its file: this process holds the lock, or made the file to look at it; and
-- made the file, or saw that it is not the file of the name that is replaced
pub record MayRemove (gone name : List ℕ) (before : NameCalls) : Type 0 where
  pub lock : MayTake gone before
  pub other : HasMade gone before ⊎ AreNamesApart gone name before

-- a replacement of the file of a name takes a name from a file, or tries to, only if it may; and gives
-- the file another name only if it may get it
abbrev pub IsGuarded : (name : List ℕ) → NameCall × List ℕ × List ℕ × Calls → (before : NameCalls)
    → Type 0
IsGuarded name (Removed, gone, other, file) before = MayRemove gone name before
IsGuarded name (NotRemoved, gone, other, file) before = MayRemove gone name before
IsGuarded name (Renamed len, from, to, file) before = MayReplace from to file before
IsGuarded name (NotRenamed len fault, from, to, file) before = MayReplace from to file before
IsGuarded name (call, one, other, file) before = Unit {0}

-- each call since
abbrev pub EachIsGuarded : (name : List ℕ) → (since old : NameCalls) → Type 0
EachIsGuarded name [] old = Unit {0}
EachIsGuarded name (call ∷ since) old =
    IsGuarded name call (since ++ old) × EachIsGuarded name since old

-- each call since was so
pub record AreGuarded (name : List ℕ) (old new : NameCalls) : Type 0 where
  pub since : NameCalls
  pub calls : new ≡ since ++ old
  pub each : EachIsGuarded name since old
