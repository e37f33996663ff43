-- Command lines that mean nothing: which letters they have, what explains them, and how their words are shown.
use Prim.Native.Char.{code}
use Rattle.std.specs.Prelude.{ℕ, ◌==◌, Bool, not, ◌&&◌, ◌||◌, false, if◌then◌else◌, List, [], ◌∷◌, drop, codes, bytes_eq, zero, suc, ◌+◌, ◌/◌, ◌%◌, nat_lt, ◌++◌, length, take, chars, encode_utf8, flat_map, Result, Ok, Err}
use Rattle.std.specs.List.{list_any}
use Rattle.cdb_command.specs.Line.{Text}
use Rattle.std.specs.Char.{is_control}
use Rattle.std.specs.Int.{is_in_range}
use Rattle.std.specs.Str.{continuation_len, is_utf8}
use Rattle.cdb_command.specs.declared.usage.Usage.{Usage}
use Rattle.cdb_command.specs.declared.usage.Usage.TheVariants as usage
use Rattle.cdb_command.specs.declared.word_fault.Lacking.{Lacking}
use Rattle.cdb_command.specs.declared.word_fault.Lacking.TheVariants as lacking
use Rattle.cdb_command.specs.declared.word_fault.WordFault.{WordFault}
use Rattle.cdb_command.specs.declared.word_fault.WordFault.TheVariants as fault

-- ---- Which letters a command line has, as its words say: also one that `clap` does not take.

-- what follows one of these in a word is its value, or makes it no letters
abbrev pub ends_letters : ℕ → Bool
ends_letters c = (c == code "n") || ((c == code "t") || ((c == code "b") || (c == code "-")))

-- one of the letters that are sought is among these
abbrev pub have : (sought letters : Text) → Bool
have sought [] = false
have sought (c ∷ letters) =
    list_any (λ letter. letter == c) sought || (not (ends_letters c) && have sought letters)

-- letters follow a hyphen
abbrev pub has : (sought word : Text) → Bool
has sought [] = false
has sought (c ∷ letters) = (c == code "-") && have sought letters

-- the words after `--` are names
abbrev pub some_has : (sought : Text) → List Text → Bool
some_has sought [] = false
some_has sought (word ∷ words) =
    if bytes_eq word (codes "--") then false else (has sought word || some_has sought words)

-- true if it wants its faults explained. The first of the words is the program's name
abbrev pub explains_in : List Text → Bool
explains_in words = some_has (codes "v") (drop 1 words)

-- true if it requests a command
abbrev pub asks_in : List Text → Bool
asks_in words = some_has (codes "qdlsckDhV") (drop 1 words)

-- ---- How the bytes of a name, a word or a key are shown in a line: a character of UTF-8 as it is, unless it is
-- hidden; and each other byte by its number.

-- a character that could end the line, command a terminal, turn the order of what is read, or be taken for
-- the number of a byte: a control, a separator of lines or paragraphs, what marks, embeds, overrides or isolates
-- a direction, a tag character, and the backslash
abbrev pub is_hidden : (character : ℕ) → Bool
is_hidden c =
    is_control c || (is_in_range 0x2028 0x202E c || (is_in_range 0x2066 0x2069 c
    || (is_in_range 0x200E 0x200F c || (c == 0x061C || (is_in_range 0xE0000 0xE007F c || (c == code "\\"))))))

abbrev pub has_hidden : (text : List ℕ) → Bool
has_hidden text = list_any is_hidden (chars text)

-- as many of some bytes as the first of them says that its character has
abbrev pub first_piece : List ℕ → List ℕ
first_piece [] = []
first_piece (b ∷ bytes) = b ∷ take (continuation_len b) bytes

abbrev pub is_printable : List ℕ → Bool
is_printable bytes = is_utf8 bytes && not (has_hidden bytes)

-- the number of bytes that the character has that some bytes begin with, if it is shown as it is, or else 0
abbrev pub printable_len : List ℕ → ℕ
printable_len bytes = if is_printable (first_piece bytes) then length (first_piece bytes) else 0

abbrev pub digit : ℕ → ℕ
digit n = if nat_lt n 10 then n + 48 else (n + 87)

-- a byte by its number
abbrev pub escaped : ℕ → List ℕ
escaped b = codes "\\x" ++ digit (b / 16) ∷ digit (b % 16) ∷ []

-- a byte that begins a character of so many bytes, and what follows it
abbrev pub shown_first : (count : ℕ) → (byte : ℕ) → (following : ℕ → List ℕ) → List ℕ
shown_first zero b following = escaped b ++ following 0
shown_first (suc n) b following = b ∷ following n

-- so many bytes are left of a character that is shown as it is
abbrev pub shown_after : (left : ℕ) → List ℕ → List ℕ
shown_after n [] = []
shown_after zero (b ∷ bytes) = shown_first (printable_len (b ∷ bytes)) b (λ n. shown_after n bytes)
shown_after (suc n) (b ∷ bytes) = b ∷ shown_after n bytes

abbrev pub shown : List ℕ → List ℕ
shown bytes = shown_after 0 bytes

-- ---- Why a command line has no meaning, its texts as bytes, and the line that says so.

-- a `WordFault`
pub data Refused : Type 0 where
  Unknown : (letter : ℕ) → Refused
  Long : (word : Text) → Refused
  NoValue : (letter : ℕ) → Refused
  Twice : (letter : ℕ) → Refused
  Words : Refused
  Help : Refused
  NoCommand : Refused
  TwoCommands : (first second : ℕ) → Refused
  Option : (option command : ℕ) → Refused
  BaseInPlace : Refused
  BaseBuiltIn : (base : Text) → Refused
  Number : (value : Text) → Refused
  Lacks : Lacking → Refused
  Surplus : (name : Text) → Refused
  Both : Refused
  NoMemory : Refused

abbrev pub refused_in : WordFault → Refused
refused_in (fault.Unknown letter) = Unknown letter
refused_in (fault.Long word) = Long word.now
refused_in (fault.NoValue letter) = NoValue letter
refused_in (fault.Twice letter) = Twice letter
refused_in fault.Words = Words
refused_in fault.Help = Help
refused_in fault.NoCommand = NoCommand
refused_in (fault.TwoCommands first second) = TwoCommands first second
refused_in (fault.Option option command) = Option option command
refused_in fault.BaseInPlace = BaseInPlace
refused_in (fault.BaseBuiltIn base) = BaseBuiltIn base.now
refused_in (fault.Number value) = Number value.now
refused_in (fault.Lacks lacking) = Lacks lacking
refused_in (fault.Surplus name) = Surplus name.now
refused_in fault.Both = Both
refused_in fault.NoMemory = NoMemory

-- an answer, whose fault is reported so
abbrev pub told : {A : Type 0} → Result A WordFault → Result A Refused
told (Ok x) = Ok x
told (Err fault) = Err (refused_in fault)

-- why, whatever the word
abbrev pub usage_of : Refused → Usage
usage_of (Unknown letter) = usage.Words
usage_of (Long word) = usage.Words
usage_of (NoValue letter) = usage.Words
usage_of (Twice letter) = usage.Words
usage_of Words = usage.Words
usage_of Help = usage.Words
usage_of NoCommand = usage.NoCommand
usage_of (TwoCommands first second) = usage.TwoCommands
usage_of (Option option command) = usage.Option option
usage_of BaseInPlace = usage.Option (code "b")
usage_of (BaseBuiltIn base) = usage.Option (code "b")
usage_of (Number value) = usage.Number
usage_of (Lacks lacking) = usage.Names
usage_of (Surplus name) = usage.Names
usage_of Both = usage.Both
usage_of NoMemory = usage.NoMemory

-- ---- what is said of it

abbrev pub said_lacking : Lacking → List ℕ
said_lacking lacking.Database = codes "no database"
said_lacking lacking.Key = codes "no key"
said_lacking lacking.Old = codes "no old database"
said_lacking lacking.New = codes "no new database"

-- which word or letters, and why: in parts, each a text and then the bytes that are shown after it
abbrev pub refused_parts : Refused → List (List ℕ × List ℕ)
refused_parts (Unknown letter) =
    (codes "-", encode_utf8 letter) ∷ (codes ": unknown letter", []) ∷ []
refused_parts (Long word) = ([], word) ∷ (codes ": unknown option", []) ∷ []
refused_parts (NoValue letter) = (codes "-", encode_utf8 letter) ∷ (codes ": no value", []) ∷ []
refused_parts (Twice letter) = (codes "-", encode_utf8 letter) ∷ (codes ": given twice", []) ∷ []
refused_parts Words = (codes "a word has no meaning", []) ∷ []
refused_parts Help = (codes "no command", []) ∷ []
refused_parts NoCommand = (codes "no command", []) ∷ []
refused_parts (TwoCommands first second) =
    (codes "two commands: -", encode_utf8 first) ∷ (codes " and -", encode_utf8 second) ∷ []
refused_parts (Option option command) =
    (codes "-", encode_utf8 option) ∷ (codes ": not with -", encode_utf8 command) ∷ []
refused_parts BaseInPlace = (codes "-b: not with -t -", []) ∷ []
refused_parts (BaseBuiltIn base) = (codes "-b ", base) ∷ (codes ": is the temporary file", []) ∷ []
refused_parts (Number value) = (codes "-n ", value) ∷ (codes ": not from 1 to 4294967295", []) ∷ []
refused_parts (Lacks lacking) = (said_lacking lacking, []) ∷ []
refused_parts (Surplus name) = ([], name) ∷ (codes ": one name too many", []) ∷ []
refused_parts Both = (codes "-r: not with -u", []) ∷ []
refused_parts NoMemory = []

-- a line of such parts
abbrev pub parts_line : List (List ℕ × List ℕ) → List ℕ
parts_line parts = codes "cdb: " ++ (flat_map (λ p. p.0 ++ shown p.1) parts ++ codes "\n")

-- the line that says so: none of memory
abbrev pub refused_line : Refused → List ℕ
refused_line NoMemory = []
refused_line refused = parts_line (refused_parts refused)
