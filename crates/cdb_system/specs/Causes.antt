-- What `-v` adds: the cause of a fault, its line, and what the system's errors are called.
use Rattle.std.specs.Prelude.{ℕ, ℤ, pos, negsuc, ◌==◌, if◌then◌else◌, List, [], ◌∷◌, ◌++◌, Option, None, Some, codes, decimal, length, nat_lt, unwrap_or, ◌≡◌, ◌⊎◌, ◌&&◌, not, bytes_eq, option_map, Bool, true, false, Result, Ok, Err, ⊤}
use Rattle.std.specs.Fmt.{signed_decimal}
use Rattle.cdb_command.specs.Refused.{parts_line}
use Rattle.cdb_system.specs.declared.causes.Reason.{Reason}
use Rattle.cdb_system.specs.declared.causes.Told.{Told}
use Rattle.cdb_system.specs.declared.causes.Told.TheVariants as told
use Rattle.cdb_command.specs.Asked.{Asked}
use Rattle.cdb_command.specs.Asked as asked
use Rattle.cdb_form.specs.declared.text.fault.TextFault.{TextFault}
use Rattle.cdb_form.specs.declared.text.fault.TextFault.TheVariants as text
use Rattle.cdb_form.specs.declared.walk.fault.WalkFault.{WalkFault}
use Rattle.cdb_form.specs.declared.walk.fault.WalkFault.TheVariants as walk
use Rattle.cdb_read.specs.declared.fault.ReadFault.{ReadFault}
use Rattle.cdb_read.specs.declared.fault.ReadFault.TheVariants as read
use Rattle.cdb_store.specs.declared.make_fault.MakeFault.TheVariants as make
use Rattle.cdb_show.specs.Message.{input_at}
use Rattle.cdb_names.specs.declared.refusal.Cause.{Cause}
use Rattle.cdb_names.specs.declared.refusal.Cause.TheVariants as cause
use Rattle.cdb_names.specs.Folder.{NameCalls}
use Rattle.cdb_names.specs.Refusals.{refused_for, IsUnrefused as IsNoNameRefused}
use Rattle.cdb_names.specs.Replacing.{IsNoName}
use Rattle.cdb_show.specs.declared.fault.Fault.{Fault}
use Rattle.cdb_show.specs.declared.fault.Fault.TheVariants.{Text, Make, Read, Walk, Output, Open, Rename, NoMemory, Old, New, NoOldTables, NoNewTables, NoBaseTables}
use Rattle.cdb_system.specs.State.{IsInPlace, temporary_of}
use Rattle.cdb_system.specs.Opening.{IsUnrefused, OpenCalls, refused_open}

-- ---- What the system's errors are called, as in the C locale.

-- the words of a number in a table
abbrev pub words_in : List (ℕ × List ℕ) → (number : ℕ) → Option (List ℕ)
words_in [] number = None
words_in ((n, words) ∷ table) number = if number == n then Some words else words_in table number

abbrev pub words_at : List (ℕ × List ℕ) → (number : ℤ) → Option (List ℕ)
words_at table (pos number) = words_in table number
words_at table (negsuc number) = None

-- the numbers up to 29, and from 30 on
abbrev pub low_errors : List (ℕ × List ℕ)
low_errors =
    (1, codes "Operation not permitted")
    ∷ (2, codes "No such file or directory")
    ∷ (4, codes "Interrupted system call")
    ∷ (5, codes "Input/output error")
    ∷ (6, codes "No such device or address")
    ∷ (7, codes "Argument list too long")
    ∷ (9, codes "Bad file descriptor")
    ∷ (11, codes "Resource temporarily unavailable")
    ∷ (12, codes "Cannot allocate memory")
    ∷ (13, codes "Permission denied")
    ∷ (16, codes "Device or resource busy")
    ∷ (17, codes "File exists")
    ∷ (18, codes "Invalid cross-device link")
    ∷ (19, codes "No such device")
    ∷ (20, codes "Not a directory")
    ∷ (21, codes "Is a directory")
    ∷ (22, codes "Invalid argument")
    ∷ (23, codes "Too many open files in system")
    ∷ (24, codes "Too many open files")
    ∷ (26, codes "Text file busy")
    ∷ (27, codes "File too large")
    ∷ (28, codes "No space left on device")
    ∷ (29, codes "Illegal seek")
    ∷ []

abbrev pub high_errors : List (ℕ × List ℕ)
high_errors =
    (30, codes "Read-only file system")
    ∷ (31, codes "Too many links")
    ∷ (32, codes "Broken pipe")
    ∷ (35, codes "Resource deadlock avoided")
    ∷ (36, codes "File name too long")
    ∷ (37, codes "No locks available")
    ∷ (38, codes "Function not implemented")
    ∷ (39, codes "Directory not empty")
    ∷ (40, codes "Too many levels of symbolic links")
    ∷ (75, codes "Value too large for defined data type")
    ∷ (95, codes "Operation not supported")
    ∷ (110, codes "Connection timed out")
    ∷ (116, codes "Stale file handle")
    ∷ (122, codes "Disk quota exceeded")
    ∷ []

abbrev pub system_words : (number : ℤ) → Option (List ℕ)
system_words number = words_at (low_errors ++ high_errors) number

-- ---- What is said of a file, and the line that says it.

-- what follows the name of a file
abbrev pub name_ending : Reason → List ℕ
name_ending reason = if reason.is_temporary then codes ".tmp" else []

abbrev pub reason_name : Reason → List ℕ
reason_name reason = if reason.is_temporary then (reason.name.now ++ codes ".tmp") else reason.name.now

-- an error of the system is said by its words, or its number
abbrev pub error_words : (number : ℤ) → List ℕ
error_words number =
    unwrap_or (system_words number) (codes "error " ++ signed_decimal number)

abbrev pub line_words : (number : ℕ) → List ℕ
line_words number = codes "line " ++ decimal number

-- what is said of a file, if anything
abbrev pub said_of : Told → Option (List ℕ)
said_of told.Name = None
said_of (told.Words words) = Some words.now
said_of (told.Error number) = Some (error_words number)
said_of (told.Line number) = Some (line_words number)

-- a colon comes before it, unless the name is empty
abbrev pub between : (name : List ℕ) → (said : Option (List ℕ)) → List ℕ
between name None = []
between name (Some words) = if nat_lt 0 (length name) then codes ": " else []

abbrev pub cause_line : (name : List ℕ) → (said : Option (List ℕ)) → List ℕ
cause_line name said = parts_line (([], name) ∷ (between name said, []) ∷ (unwrap_or said [], []) ∷ [])

-- of a reason, if one is given
abbrev pub more_of : Option Reason → List ℕ
more_of None = []
more_of (Some reason) = cause_line (reason_name reason) (said_of reason.told)

-- ---- Which file a fault is of, what is said of it, and the line that says it.

-- ---- what is said of a name that was refused

-- the other name is that of the base
abbrev pub is_base : Option (List ℕ) → (other : List ℕ) → Bool
is_base None other = false
is_base (Some base) other = bytes_eq base other

-- its file is that of another name too: of the database, of the base, or of an input
abbrev pub same_words : Asked → (name other : List ℕ) → Option (List ℕ)
same_words (asked.Create database base inputs temporary options wide) name other = Some
    (if bytes_eq database other && not (bytes_eq database name) then codes "is the database"
    else (if is_base base other then codes "is the base" else codes "is an input"))
same_words command name other = None

-- what is said for a cause
abbrev pub cause_words : Asked → Cause → (name other : List ℕ) → Option (List ℕ)
cause_words command (cause.System number) name other = Some (error_words number)
cause_words command cause.Failed name other = None
cause_words command cause.Held name other = Some (codes "another create is at work on it")
cause_words command cause.Locked name other = Some (codes "locked by another process")
cause_words command cause.Link name other = Some (codes "is a link")
cause_words command cause.Special name other = Some (codes "is no regular file")
cause_words command cause.NoPlaces name other = Some (codes "a pipe or a device has no places")
cause_words command cause.Same name other = same_words command name other
cause_words command cause.Input name other = Some (codes "is an input")
cause_words command cause.Replaced name other = Some (codes "its temporary file was replaced")
cause_words command cause.Removed name other = Some (codes "its temporary file was removed")
cause_words command cause.Lost name other = Some (codes "its file was replaced or removed")
cause_words command cause.Bits name other = Some (codes "does not get its permissions")
cause_words command cause.Closed name other = Some (codes "a standard stream is closed")
cause_words command cause.Output name other = Some (codes "is the output")

-- what is said of a name that was refused: of an empty one that it is empty
abbrev pub refusal_words : Asked → Cause → (name other : List ℕ) → Option (List ℕ)
refusal_words command why name other =
    if nat_lt 0 (length name) then cause_words command why name other else Some (codes "the name is empty")

-- the calls on files, and those on names; and of each that memory for a copy of the name which was refused
-- last was refused
pub record Called : Type 1 where
  pub opened : OpenCalls
  pub unkept_file : Type 0
  pub named : NameCalls
  pub unkept_name : Type 0

abbrev pub called_of : OpenCalls → (unkept_file : Type 0) → NameCalls → (unkept_name : Type 0) → Called
called_of opened unkept_file named unkept_name =
    record { opened = opened; unkept_file = unkept_file; named = named; unkept_name = unkept_name }

-- no call on a file refused a name, or it is not known, for want of memory; nor did one on a name
abbrev pub OpensNoRefusal : Called → Type 0
OpensNoRefusal called = IsUnrefused called.opened ⊎ called.unkept_file

abbrev pub NamesNoRefusal : Called → Type 0
NamesNoRefusal called = OpensNoRefusal called × (IsNoNameRefused called.named ⊎ called.unkept_name)

-- a name was refused last, for a cause: of the files that are opened, or else of those that are replaced
abbrev pub IsRefusedFor : Called → Cause → (name other : List ℕ) → Type 0
IsRefusedFor called why name other =
    (refused_open why called.opened ≡ Some (name, other, why))
    ⊎ (OpensNoRefusal called × (refused_for why called.named ≡ Some (name, other)))

abbrev pub IsRefusedOpening : Asked → Called → (name : List ℕ) → (said : Option (List ℕ)) → Type 0
IsRefusedOpening command called name said = (why : Cause) × (other : List ℕ)
    × IsRefusedFor called why name other × (said ≡ refusal_words command why name other)

-- the name of a database that no file can have: it is empty or ends in a slash
abbrev pub no_name_words : (name : List ℕ) → List ℕ
no_name_words [] = codes "the name is empty"
no_name_words (c ∷ name) = codes "the name ends in a slash"

-- a create gives such a name
abbrev pub GivesNoName : Asked → Type 0
GivesNoName (asked.Create database base inputs temporary options wide) = IsNoName database
GivesNoName command = ⊥

abbrev pub IsNoNameOf : Asked → (name : List ℕ) → (said : Option (List ℕ)) → Type 0
IsNoNameOf (asked.Create database base inputs temporary options wide) name said =
    (name ≡ database) × IsNoName name × (said ≡ Some (no_name_words name))
IsNoNameOf command name said = ⊥

-- ---- what is said of a file that failed

-- the words of a number, if the system gave one
abbrev pub IsOfSystem : (said : Option (List ℕ)) → Type 0
IsOfSystem said = (number : Option ℤ) × (said ≡ option_map error_words number)

-- of a file that was read: why a read failed, or that the file changed meanwhile
abbrev pub IsOfFile : (said : Option (List ℕ)) → Type 0
IsOfFile said = IsOfSystem said ⊎ (said ≡ Some (codes "changed while it was read"))

-- of an input: why a read failed, or that standard output writes into it
abbrev pub IsOfInput : (said : Option (List ℕ)) → Type 0
IsOfInput said = IsOfSystem said ⊎ (said ≡ Some (codes "is the output"))

-- a line
abbrev pub IsOfLine : (said : Option (List ℕ)) → Type 0
IsOfLine said = (line : ℕ) × (said ≡ Some (line_words line))

-- of an input: the line of the fault's place, or why it was not read
abbrev pub IsOfTextOf : TextFault → (said : Option (List ℕ)) → Type 0
IsOfTextOf (text.Syntax at) said = IsOfLine said
IsOfTextOf (text.Ended at) said = IsOfLine said
IsOfTextOf (text.Large at) said = IsOfLine said
IsOfTextOf text.Input said = IsOfInput said
IsOfTextOf fault said = said ≡ None

-- of a database: why it was not read, and of damage nothing
abbrev pub IsOfRead : ReadFault → (said : Option (List ℕ)) → Type 0
IsOfRead read.Device said = IsOfFile said
IsOfRead fault said = said ≡ None

abbrev pub IsOfWalk : WalkFault → (said : Option (List ℕ)) → Type 0
IsOfWalk walk.Input said = IsOfSystem said
IsOfWalk fault said = said ≡ None

-- ---- which file a fault is of

abbrev pub or_standard : Option (List ℕ) → List ℕ
or_standard None = codes "standard input"
or_standard (Some name) = name

-- what a command reads: the old one of two databases, and the base of a create
abbrev pub base_or : (name : List ℕ) → Option (List ℕ) → List ℕ
base_or name None = name
base_or name (Some base) = base

abbrev pub read_name : Asked → List ℕ
read_name (asked.Query name key number lines wide) = name
read_name (asked.Lookups name inputs number style wide) = name
read_name (asked.Dump name style wide) = or_standard name
read_name (asked.Listing name style wide) = or_standard name
read_name (asked.Stats name wide) = or_standard name
read_name (asked.Check name wide) = or_standard name
read_name (asked.Difference old new wide) = old
read_name (asked.Create name base inputs temporary options wide) = base_or name base
read_name asked.Help = []
read_name asked.Version = []

-- the new one of two
abbrev pub new_name : Asked → List ℕ
new_name (asked.Difference old new wide) = new
new_name command = []

-- where a create makes its database: in place, or in a temporary file
abbrev pub IsMadeName : Asked → (name : List ℕ) → Type 0
IsMadeName (asked.Create database base inputs temporary options wide) name =
    (IsInPlace database temporary × (name ≡ database))
    ⊎ ((IsInPlace database temporary → ⊥) × (name ≡ temporary_of database temporary))
IsMadeName command name = ⊥

abbrev pub input_name : Asked → (number : ℕ) → List ℕ
input_name (asked.Create database base inputs temporary options wide) number =
    input_at inputs number
input_name (asked.Lookups database inputs number style wide) n = input_at inputs n
input_name command number = []

-- a fault that is of a database which is read
abbrev pub IsOfDatabase : Asked → Fault → (name : List ℕ) → (said : Option (List ℕ)) → Type 0
IsOfDatabase command (Read fault) name said = (name ≡ read_name command) × IsOfRead fault said
IsOfDatabase command (Old fault) name said = (name ≡ read_name command) × IsOfRead fault said
IsOfDatabase command (New fault) name said = (name ≡ new_name command) × IsOfRead fault said
IsOfDatabase command (Walk fault) name said = (name ≡ read_name command) × IsOfWalk fault said
IsOfDatabase command NoOldTables name said = (name ≡ read_name command) × (said ≡ None)
IsOfDatabase command NoNewTables name said = (name ≡ new_name command) × (said ≡ None)
IsOfDatabase command NoBaseTables name said = (name ≡ read_name command) × (said ≡ None)
IsOfDatabase command fault name said = ⊥

-- standard output, if that failed, or else standard error
abbrev pub IsFailedStream : (unwritten : Type 0) → (name : List ℕ) → Type 0
IsFailedStream unwritten name = (unwritten × (name ≡ codes "standard output"))
    ⊎ ((unwritten → ⊥) × (name ≡ codes "standard error"))

-- the file of a fault, and what is said of it
abbrev pub IsCause : Asked → Fault → (unwritten : Type 0) → Called → (name : List ℕ)
    → (said : Option (List ℕ)) → Type 0
IsCause command Open unwritten called name said =
    IsRefusedOpening command called name said ⊎ IsNoNameOf command name said
IsCause command Rename unwritten called name said =
    IsRefusedOpening command called name said
IsCause command NoMemory unwritten called name said =
    IsRefusedOpening command called name said
IsCause command (Text input fault) unwritten called name said =
    (name ≡ input_name command input) × IsOfTextOf fault said
IsCause command (Make fault) unwritten called name said = IsMadeName command name × IsOfSystem said
IsCause command Output unwritten called name said = IsFailedStream unwritten name × IsOfSystem said
IsCause command fault unwritten called name said = IsOfDatabase command fault name said

-- ---- a fault of which no file is named

-- the command makes a database
abbrev pub IsCreate : Asked → Type 0
IsCreate (asked.Create database base inputs temporary options wide) = ⊤
IsCreate command = ⊥

-- the fault of a database is not of its file
abbrev pub NamesNothing : ReadFault → Type 0
NamesNothing read.NoMemory = ⊤
NamesNothing read.Output = ⊤
NamesNothing fault = ⊥

-- no database that is read is named
abbrev pub HasNoDatabase : Fault → Type 0
HasNoDatabase (Read fault) = NamesNothing fault
HasNoDatabase (Old fault) = NamesNothing fault
HasNoDatabase (New fault) = NamesNothing fault
HasNoDatabase (Walk fault) = ⊥
HasNoDatabase NoOldTables = ⊥
HasNoDatabase NoBaseTables = ⊥
HasNoDatabase NoNewTables = ⊥
HasNoDatabase fault = ⊤

-- nor any other file: the fault is one of the records or of memory, or that of a name of which no call is known
-- to have refused it
abbrev pub MayHaveNoCause : Asked → Fault → Called → Type 0
MayHaveNoCause command Open called = NamesNoRefusal called × (GivesNoName command → ⊥)
MayHaveNoCause command Rename called = NamesNoRefusal called
MayHaveNoCause command NoMemory called = NamesNoRefusal called
MayHaveNoCause command (Text input fault) called = ⊥
MayHaveNoCause command Output called = ⊥
MayHaveNoCause command (Make make.Writing) called = IsCreate command → ⊥
MayHaveNoCause command (Make make.Lookup) called = IsCreate command → ⊥
MayHaveNoCause command fault called = HasNoDatabase fault

-- ---- the line that says it

-- after the line of a fault that is to be explained comes the line of its cause; or nothing, if no file is
-- named of it. After that of another comes nothing
abbrev pub SaysCause : Asked → Fault → (unwritten : Type 0) → Called → (more : List ℕ) → Type 0
SaysCause command fault unwritten called more = (name : List ℕ) × (said : Option (List ℕ))
    × IsCause command fault unwritten called name said × (more ≡ cause_line name said)

abbrev pub Explains : (explained : Bool) → Asked → Result Unit Fault → (unwritten : Type 0) → Called
    → (more : List ℕ) → Type 0
Explains false command result unwritten called more = more ≡ []
Explains true command (Ok done) unwritten called more = more ≡ []
Explains true command (Err fault) unwritten called more =
    (MayHaveNoCause command fault called × (more ≡ []))
    ⊎ SaysCause command fault unwritten called more
