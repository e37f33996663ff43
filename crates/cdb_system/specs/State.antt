-- What a command is given: the files of a system, their places and streams.
use Rattle.cdb_form.specs.Views.Feed.{Feed}
use Rattle.cdb_store.specs.declared.store.Store.{Ghosts}
use Rattle.cdb_system.specs.declared.system.System.{Ghosts as Systems}
use Rattle.std.specs.Prelude.{ℕ, Bool, List, Option, ◌≡◌, ◌⊎◌, ◌++◌, Some, None, codes, ⊤, [], ◌∷◌, map, option_map, string_bytes}
use Rattle.cdb_names.specs.Folder.{NameCalls}
use Rattle.cdb_system.specs.Opening.{OpenCalls}
use Rattle.cdb_show.specs.declared.input_reader.InputReader.{InputReader}
use Rattle.cdb_show.specs.declared.input_reader.InputReader.TheVariants.{Own, Shared}
use Rattle.cdb_system.specs.declared.open_trace.OpenCall.{OpenCall}
use Rattle.cdb_system.specs.declared.open_trace.OpenCall.TheVariants.{InTurn}
use Rattle.cdb_store.specs.declared.memory.MemStore.{MemStore}
use Rattle.cdb_show.specs.Runs.WalkText.{Form, form_of}
use Rattle.cdb_show.specs.Runs.Query.{Query}
use Rattle.cdb_show.specs.declared.runs.lookup_options.LookupOptions.{LookupOptions}
use Rattle.cdb_system.specs.declared.looking.KeyLookups.{KeyLookups}
use Rattle.cdb_system.specs.declared.reading.FileText.{FileText}

-- ---- The files of a system.

-- what is read at places, what is made, what is known of what is read from its start on, and the system
-- that gives them
pub record Files (F I J M N R Y : Type 0) : Type 1 where
  pub stores : Ghosts F
  pub made : Ghosts M
  pub feed : I → Feed
  pub system : Systems Y F I M J N R

abbrev pub files_of : {F I J M N R Y : Type 0} → Ghosts F → Ghosts M → (I → Feed)
    → Systems Y F I M J N R → Files F I J M N R Y
files_of stores made feed system =
    record { stores = stores; made = made; feed = feed; system = system }

-- ---- What a command is given, and what it has requested of the system and written so far.

-- standard input as it is given: its reader, and what is known of such readers
pub record Standard (J : Type 0) : Type 1 where
  pub feed : J → Feed
  pub reader : J

abbrev pub standard_of : {J : Type 0} → (J → Feed) → J → Standard J
standard_of feed reader = record { feed = feed; reader = reader }

-- what is requested, whether its faults are explained, and standard input
pub record Given (A J : Type 0) : Type 1 where
  pub asked : A
  pub explained : Bool
  pub input : Standard J

abbrev pub given_of : {A J : Type 0} → A → (explained : Bool) → (input : Standard J) → Given A J
given_of asked explained input = record { asked = asked; explained = explained; input = input }

-- what was opened, as the system itself or as the calls on its files; the calls on names; and what
-- standard output and standard error took
--
-- A relation is of two: before and after. The contract of a function that has no names, say, holds
-- whatever calls on names there were, and leaves them.
pub record State (S : Type 0) : Type 0 where
  pub opened : S
  pub named : NameCalls
  pub output : Option (List ℕ)
  pub errors : Option (List ℕ)

abbrev pub state_of : {S : Type 0} → S → NameCalls → (output errors : Option (List ℕ)) → State S
state_of opened named output errors =
    record { opened = opened; named = named; output = output; errors = errors }

-- the calls on files
abbrev pub calls_in : {F I J M N R Y : Type 0} → Files F I J M N R Y → State Y → OpenCalls
calls_in files state = files.system.calls state.opened

-- with these for the system
abbrev pub with_calls : {F I J M N R Y : Type 0} → Files F I J M N R Y → State Y → State OpenCalls
with_calls files state = record {
  opened = calls_in files state;
  named = state.named;
  output = state.output;
  errors = state.errors;
}

-- that standard output failed, or standard error; or that memory for a copy of the name was refused which a
-- call on names refused last
pub record Failed : Type 1 where
  pub output : Type 0
  pub errors : Type 0
  pub copy : Type 0

abbrev pub failed_of : (output errors copy : Type 0) → Failed
failed_of output errors copy = record { output = output; errors = errors; copy = copy }

-- ---- Where a create makes its database: in place, or in a temporary file.

-- the database is made in place: its temporary file is none, or itself
abbrev pub IsInPlace : (name : List ℕ) → (temporary : Option (List ℕ)) → Type 0
IsInPlace name None = ⊥
IsInPlace name (Some temporary) = (temporary ≡ codes "-") ⊎ (temporary ≡ name)

-- the name of the temporary file
abbrev pub temporary_of : (name : List ℕ) → (temporary : Option (List ℕ)) → List ℕ
temporary_of name None = name ++ codes ".tmp"
temporary_of name (Some temporary) = temporary

-- ---- What is known of the files that were opened to be read from their start on, by the readers that came back.

-- the bytes of a file agree with what is known of a reader of it; a name without a file has none
abbrev pub Agrees : Option (List ℕ) → Feed → Type 0
Agrees None feed = ⊥
Agrees (Some bytes) feed = (rest : List ℕ) × feed.may bytes rest

-- the names that were opened so, the oldest first
abbrev pub name_in_turn : OpenCall → List ℕ → List (List ℕ)
name_in_turn InTurn name = name ∷ []
name_in_turn call name = []

abbrev pub names_in_turn : OpenCalls → List (List ℕ)
names_in_turn [] = []
names_in_turn (call ∷ calls) = names_in_turn calls ++ name_in_turn call.0 call.1

-- the readers of inputs that have one of their own
abbrev pub own_readers : {R : Type 0} → List (InputReader R) → List R
own_readers [] = []
own_readers (Own reader ∷ readers) = reader ∷ own_readers readers
own_readers (Shared ∷ readers) = own_readers readers

-- the files of these names agree with these readers, the first with the first. Of a name whose reader did not
-- come back nothing is said
abbrev pub AgreeInTurn : {R : Type 0} → (feed : R → Feed) → (file : List ℕ → Option (List ℕ))
    → (names : List (List ℕ)) → List R → Type 0
AgreeInTurn feed file (name ∷ names) (reader ∷ readers) =
    Agrees (file name) (feed reader) × AgreeInTurn feed file names readers
AgreeInTurn feed file names readers = ⊤

-- ---- What a command that only reads is to do, as a clause reads it.

-- what is done with the file of a name, or with standard input if there is none
abbrev pub by_name : (name : Option (List ℕ)) → (file : List ℕ → Type 0) → (input : Type 0) → Type 0
by_name (Some name) file input = file name
by_name None file input = input

-- the values of a key of the file of this name, in words of so many bytes
pub record WantedQuery : Type 0 where
  pub word : ℕ
  pub name : List ℕ
  pub query : Query

-- the text of a file, formed so
pub record WantedText : Type 0 where
  pub word : ℕ
  pub name : Option (List ℕ)
  pub form : Form

abbrev pub wanted_text : (word : ℕ) → FileText → WantedText
wanted_text word wanted = record {
  word = word;
  name = option_map string_bytes wanted.name.now;
  form = form_of wanted.content wanted.style;
}

-- this is done with a file that is read at places, and this with a stream that was taken into memory,
-- which has at most so many bytes
pub record WantedStore (F : Type 0) : Type 1 where
  pub most : ℕ
  pub name : Option (List ℕ)
  pub file : F → F → Type 0
  pub taken : MemStore → MemStore → Type 0

-- what changed from the file of the first name to that of the second
pub record WantedDifference : Type 0 where
  pub word : ℕ
  pub first : List ℕ
  pub second : List ℕ

-- the records of the keys of these inputs, with lengths in texts of at most so many bytes
pub record WantedLookups : Type 0 where
  pub word : ℕ
  pub greatest : ℕ
  pub name : List ℕ
  pub inputs : List (List ℕ)
  pub options : LookupOptions

abbrev pub wanted_lookups : (word greatest : ℕ) → KeyLookups → WantedLookups
wanted_lookups word greatest wanted = record {
  word = word;
  greatest = greatest;
  name = wanted.name.now;
  inputs = map string_bytes wanted.inputs.now;
  options = wanted.options;
}
