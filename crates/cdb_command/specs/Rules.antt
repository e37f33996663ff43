-- The rules of a command line: what it requests, or the first of its faults.
use Prim.Native.Char.{code}
use Rattle.std.specs.Prelude.{ℕ, ◌^◌, ◌==◌, Bool, not, ◌&&◌, ◌||◌, true, false, nat_lt}
use Rattle.std.specs.Prelude.{if◌then◌else◌, List, [], ◌∷◌, ◌++◌, find, codes, bytes_eq, Option}
use Rattle.std.specs.Prelude.{Some, None, is_some, option_map, unwrap_or, Result, Ok, Err}
use Rattle.std.specs.List.{list_any}
use Rattle.std.specs.Str.{all_ascii_digits}
use Rattle.std.specs.Str.Parse.{digits_value}
use Rattle.cdb_form.specs.declared.mode.Mode.{Mode}
use Rattle.cdb_form.specs.declared.mode.Mode.TheVariants.{Add, Warn, Insert, Replace}
use Rattle.cdb_command.specs.Line.{Text, Given}
use Rattle.cdb_command.specs.Asked.{Asked, Query, Lookups, Dump, Listing, Stats, Check, Difference}
use Rattle.cdb_command.specs.Asked.{Create, Help, Version, ◌>>=◌}
use Rattle.cdb_command.specs.declared.rules.letter.Letter.{Letter}
use Rattle.cdb_command.specs.declared.rules.letter.Letter.TheVariants as letter
use Rattle.cdb_command.specs.declared.letters.Flags.{Flags}
use Rattle.cdb_command.specs.declared.options.MakeOptions.{MakeOptions}
use Rattle.cdb_command.specs.declared.style.Style.{Style}
use Rattle.cdb_command.specs.declared.style.Style.TheVariants.{Native, Map}
use Rattle.cdb_command.specs.declared.word_fault.Lacking.{Lacking}
use Rattle.cdb_command.specs.declared.word_fault.Lacking.TheVariants as lacking
use Rattle.cdb_command.specs.Refused.{Refused}
use Rattle.cdb_command.specs.Refused as refused

-- ---- one command

-- it, if it is there
abbrev pub when : {A : Type 0} → Bool → A → List A
when true x = x ∷ []
when false x = []

-- those that are there
abbrev pub those_there : {A : Type 0} → List (Bool × A) → List A
those_there [] = []
those_there (x ∷ xs) = when x.0 x.1 ++ those_there xs

-- the commands, and whether their letters are on a line
abbrev pub commands_in : Flags → List (Bool × Letter)
commands_in f = (f.query, letter.Query) ∷ (f.dump, letter.Dump) ∷ (f.list, letter.List)
    ∷ (f.stats, letter.Stats) ∷ (f.create, letter.Create) ∷ (f.check, letter.Check)
    ∷ (f.difference, letter.Difference) ∷ []

abbrev pub letters_in : Flags → List Letter
letters_in f = those_there (commands_in f)

-- the letter of a command
abbrev pub letter_code : Letter → ℕ
letter_code letter.Query = code "q"
letter_code letter.Dump = code "d"
letter_code letter.List = code "l"
letter_code letter.Stats = code "s"
letter_code letter.Create = code "c"
letter_code letter.Check = code "k"
letter_code letter.Difference = code "D"

abbrev pub only_letter : List Letter → Result Letter Refused
only_letter [] = Err refused.NoCommand
only_letter (x ∷ []) = Ok x
only_letter (x ∷ y ∷ more) = Err (refused.TwoCommands (letter_code x) (letter_code y))

-- ---- and options that it takes

-- the name `-` is a standard stream
abbrev pub is_hyphen : Text → Bool
is_hyphen name = bytes_eq name (codes "-")

-- true if a create writes the database to standard output: then no file is built
abbrev pub writes_out : List Text → Bool
writes_out [] = false
writes_out (name ∷ inputs) = is_hyphen name

-- true if the file in which a create builds has this name; it is the database's name and `.tmp` if no name is given
abbrev pub is_built_in : Option Text → List Text → Text → Bool
is_built_in (Some temporary) names file = bytes_eq temporary file
is_built_in None [] file = false
is_built_in None (name ∷ inputs) file = bytes_eq (name ++ codes ".tmp") file

-- true if a create takes this base: not if it builds in place by `-t -`, and not if it would build in the base
abbrev pub takes_base : Given → Text → Bool
takes_base g base = not (unwrap_or (option_map is_hyphen g.temporary) false)
    && (writes_out g.names || not (is_built_in g.temporary g.names base))

abbrev pub taken_by : Letter → Given → Text
taken_by letter.Query g = codes "mni"
taken_by letter.Dump g = codes "m"
taken_by letter.List g = codes "m"
taken_by letter.Stats g = []
taken_by letter.Check g = []
taken_by letter.Difference g = []
taken_by letter.Create g =
    codes "mtweru" ++ when (unwrap_or (option_map (takes_base g) g.base) true) (code "b")

-- the options, in the order in which they are looked at, and whether each is on a line
abbrev pub options_on : Given → List (Bool × ℕ)
options_on g = (g.flags.map, code "m") ∷ (is_some g.number, code "n") ∷ (g.flags.inputs, code "i")
    ∷ (is_some g.temporary, code "t") ∷ (g.flags.warn, code "w") ∷ (g.flags.stop, code "e")
    ∷ (g.flags.replace, code "r") ∷ (g.flags.insert, code "u") ∷ (is_some g.base, code "b") ∷ []

abbrev pub options_in : Given → Text
options_in g = those_there (options_on g)

abbrev pub first_stray : Text → Text → Option ℕ
first_stray taken options = find (λ option. not (list_any (λ o. o == option) taken)) options

-- why a create does not take a base
abbrev pub base_refused : Given → Refused
base_refused g = if unwrap_or (option_map is_hyphen g.temporary) false then refused.BaseInPlace
    else refused.BaseBuiltIn (unwrap_or g.base [])

-- why a command does not take an option
abbrev pub option_refused : Letter → ℕ → Given → Refused
option_refused letter.Create option g =
    if option == code "b" then base_refused g else refused.Option option (code "c")
option_refused letter option g = refused.Option option (letter_code letter)

abbrev pub no_stray : Letter → Given → Option ℕ → Result Unit Refused
no_stray letter g (Some option) = Err (option_refused letter option g)
no_stray letter g None = Ok tt

-- ---- the number of a value

abbrev pub value_number : Text → ℕ → Result ℕ Refused
value_number text n =
    if nat_lt 0 n && nat_lt n (2 ^ 32) then Ok n else Err (refused.Number text)

-- decimal digits alone
abbrev pub decimal_in : Text → Result ℕ Refused
decimal_in text =
    if all_ascii_digits text then value_number text (digits_value 10 text)
    else Err (refused.Number text)

abbrev pub number_in : Option Text → Result (Option ℕ) Refused
number_in None = Ok None
number_in (Some text) = decimal_in text >>= λ n. Ok (Some n)

-- ---- names

-- the name `-` is standard input
abbrev pub file_named : Text → Option Text
file_named name = if is_hyphen name then None else Some name

-- and so is no name
abbrev pub one_name : List Text → Result (Option Text) Refused
one_name [] = Ok None
one_name (name ∷ []) = Ok (file_named name)
one_name (name ∷ other ∷ more) = Err (refused.Surplus other)

-- of two names, what each is
abbrev pub two_names : (one other : Lacking) → List Text → Result (Text × Text) Refused
two_names one other [] = Err (refused.Lacks one)
two_names one other (first ∷ []) = Err (refused.Lacks other)
two_names one other (first ∷ second ∷ []) = Ok (first, second)
two_names one other (first ∷ second ∷ third ∷ more) = Err (refused.Surplus third)

abbrev pub first_name : List Text → Result (Text × List Text) Refused
first_name [] = Err (refused.Lacks lacking.Database)
first_name (name ∷ inputs) = Ok (name, inputs)

-- ---- how a database is made

abbrev pub not_both : Flags → Result Unit Refused
not_both f = if f.replace && f.insert then Err refused.Both else Ok tt

abbrev pub style_in : Flags → Style
style_in f = if f.map then Map else Native

abbrev pub mode_in : Flags → Mode
mode_in f = if f.replace then Replace
    else (if f.insert then Insert else (if f.warn || f.stop then Warn else Add))

abbrev pub options_of : Flags → MakeOptions
options_of f = record {
  mode = mode_in f;
  warn = f.warn || f.stop;
  stop = f.stop;
  style = style_in f;
  limit = if f.wide then 9223372036854775807 else 4294967295;
}

-- ---- the plan

-- of one key
abbrev pub key_query_in : Given → Option ℕ → Result Asked Refused
key_query_in g number =
    two_names lacking.Database lacking.Key g.names >>= λ p.
    Ok (Query p.0 p.1 number g.flags.map g.flags.wide)

-- of the keys that inputs give
abbrev pub lookups_in : Given → Option ℕ → Result Asked Refused
lookups_in g number = first_name g.names >>= λ p.
    Ok (Lookups p.0 p.1 number (style_in g.flags) g.flags.wide)

abbrev pub query_in : Given → Option ℕ → Result Asked Refused
query_in g number = if g.flags.inputs then lookups_in g number else key_query_in g number

abbrev pub difference_in : Given → Result Asked Refused
difference_in g = two_names lacking.Old lacking.New g.names >>= λ p.
    Ok (Difference p.0 p.1 g.flags.wide)

abbrev pub create_in : Given → Result Asked Refused
create_in g = do
  p ← first_name g.names
  _ ← not_both g.flags
  Ok (Create p.0 g.base p.1 g.temporary (options_of g.flags) g.flags.wide)

abbrev pub command_in : Letter → Given → Option ℕ → Result Asked Refused
command_in letter.Query g number = query_in g number
command_in letter.Dump g number =
    one_name g.names >>= λ name. Ok (Dump name (style_in g.flags) g.flags.wide)
command_in letter.List g number =
    one_name g.names >>= λ name. Ok (Listing name (style_in g.flags) g.flags.wide)
command_in letter.Stats g number = one_name g.names >>= λ name. Ok (Stats name g.flags.wide)
command_in letter.Check g number = one_name g.names >>= λ name. Ok (Check name g.flags.wide)
command_in letter.Difference g number = difference_in g
command_in letter.Create g number = create_in g

-- without `-h` and `-V` each step names the next fault
abbrev pub plan_of_letters : Given → Result Asked Refused
plan_of_letters g = do
  letter ← only_letter (letters_in g.flags)
  _ ← no_stray letter g (first_stray (taken_by letter g) (options_in g))
  number ← number_in g.number
  command_in letter g number

abbrev pub line_plan : Given → Result Asked Refused
line_plan g =
    if g.flags.help then Ok Help else if g.flags.version then Ok Version else plan_of_letters g
