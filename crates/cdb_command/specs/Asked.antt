-- What a command line requests, its texts as bytes, and how an answer reports it.
use Rattle.std.specs.Prelude.{◌≡◌, ◌≤◌, ◌⊎◌, ℕ, Bool, false, if◌then◌else◌, List, map, Option, IfSome}
use Rattle.std.specs.Prelude.{option_map, Result, Ok, Err, string_bytes}
use Rattle.cdb_command.specs.Line.{Text}
use Rattle.cdb_command.specs.declared.command.Command.{Command}
use Rattle.cdb_command.specs.declared.command.Command.TheVariants as command
use Rattle.cdb_command.specs.declared.options.MakeOptions.{MakeOptions}
use Rattle.cdb_command.specs.declared.style.Style.{Style}
use Rattle.cdb_command.specs.declared.usage.Usage.{Usage}
use Rattle.cdb_command.specs.declared.usage.Usage.TheVariants as usage
use Rattle.cdb_command.specs.declared.word_fault.WordFault.{WordFault}
use Rattle.cdb_command.specs.declared.word_fault.WordFault.TheVariants.{NoMemory}
use Rattle.cdb_command.specs.Refused.{Refused, refused_in, usage_of}

-- a `Command`
pub data Asked : Type 0 where
  Query : (name key : Text) (number : Option ℕ) (lines wide : Bool) → Asked
  Lookups : (name : Text) (inputs : List Text) (number : Option ℕ) (style : Style) (wide : Bool)
      → Asked
  Dump : (name : Option Text) (style : Style) (wide : Bool) → Asked
  Listing : (name : Option Text) (style : Style) (wide : Bool) → Asked
  Stats : (name : Option Text) (wide : Bool) → Asked
  Check : (name : Option Text) (wide : Bool) → Asked
  Difference : (old new : Text) (wide : Bool) → Asked
  Create : (name : Text) (base : Option Text) (inputs : List Text) (temporary : Option Text)
      (options : MakeOptions) (wide : Bool) → Asked
  Help : Asked
  Version : Asked

abbrev pub asked_in : Command → Asked
asked_in (command.Query name key number lines wide) =
    Query (string_bytes name) (string_bytes key) number lines wide
asked_in (command.Lookups name inputs number style wide) =
    Lookups (string_bytes name) (map string_bytes inputs.items) number style wide
asked_in (command.Dump name style wide) = Dump (option_map string_bytes name) style wide
asked_in (command.List name style wide) = Listing (option_map string_bytes name) style wide
asked_in (command.Stats name wide) = Stats (option_map string_bytes name) wide
asked_in (command.Check name wide) = Check (option_map string_bytes name) wide
asked_in (command.Difference old new wide) = Difference (string_bytes old) (string_bytes new) wide
asked_in (command.Create name base inputs temporary options wide) =
    Create (string_bytes name) (option_map string_bytes base) (map string_bytes inputs.items)
    (option_map string_bytes temporary) options wide
asked_in command.Help = Help
asked_in command.Version = Version

-- the values of a key are counted from 1, and a database may be as long as its width allows
abbrev pub IsInRange : Asked → Type 0
IsInRange (Query name key number lines wide) = IfSome number (λ n. 1 ≤ n)
IsInRange (Lookups name inputs number style wide) = IfSome number (λ n. 1 ≤ n)
IsInRange (Dump name style wide) = Unit
IsInRange (Listing name style wide) = Unit
IsInRange (Stats name wide) = Unit
IsInRange (Check name wide) = Unit
IsInRange (Difference old new wide) = Unit
IsInRange (Create name base inputs temporary options wide) =
    options.limit ≡ (if wide then 9223372036854775807 else 4294967295)
IsInRange Help = Unit
IsInRange Version = Unit

-- true if its words have 8 bytes
abbrev pub has_wide_words : Asked → Bool
has_wide_words (Query name key number lines wide) = wide
has_wide_words (Lookups name inputs number style wide) = wide
has_wide_words (Dump name style wide) = wide
has_wide_words (Listing name style wide) = wide
has_wide_words (Stats name wide) = wide
has_wide_words (Check name wide) = wide
has_wide_words (Difference old new wide) = wide
has_wide_words (Create name base inputs temporary options wide) = wide
has_wide_words Help = false
has_wide_words Version = false

-- the same of files that have `least` bytes at least and `greatest` at most
abbrev pub FitsIn : (least greatest : ℕ) → Asked → Type 0
FitsIn least greatest (Query name key number lines wide) = IfSome number (λ n. 1 ≤ n)
FitsIn least greatest (Lookups name inputs number style wide) = IfSome number (λ n. 1 ≤ n)
FitsIn least greatest (Dump name style wide) = Unit
FitsIn least greatest (Listing name style wide) = Unit
FitsIn least greatest (Stats name wide) = Unit
FitsIn least greatest (Check name wide) = Unit
FitsIn least greatest (Difference old new wide) = Unit
FitsIn least greatest (Create name base inputs temporary options wide) =
    (least ≤ options.limit) × (options.limit ≤ greatest)
FitsIn least greatest Help = Unit
FitsIn least greatest Version = Unit

-- the answer is the one that is wanted, or reports that memory was refused
abbrev pub Gives : {T A : Type 0} → (T → A) → Result T WordFault → Result A Refused → Type 0
Gives view (Ok x) wanted = wanted ≡ Ok (view x)
Gives view (Err fault) wanted = (fault ≡ NoMemory) ⊎ (wanted ≡ Err (refused_in fault))

-- the same, by why the line has no meaning, whatever the word
abbrev pub GivesUsage : {T A : Type 0} → (T → A) → Result T Usage → Result A Refused → Type 0
GivesUsage view (Ok x) wanted = wanted ≡ Ok (view x)
GivesUsage view (Err why) wanted =
    (why ≡ usage.NoMemory) ⊎ ((refused : Refused) × (wanted ≡ Err refused) × (why ≡ usage_of refused))

-- what follows if there is no fault
infixl 10 ◌>>=◌
abbrev pub ◌>>=◌ : {A B : Type 0} → Result A Refused → (A → Result B Refused) → Result B Refused
(Ok x) >>= next = next x
(Err fault) >>= next = Err fault

-- what an answer has, as the rules say it
abbrev pub map_told : {A B : Type 0} → (A → B) → Result A WordFault → Result B Refused
map_told f (Ok x) = Ok (f x)
map_told f (Err fault) = Err (refused_in fault)
