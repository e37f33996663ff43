-- The words of a command line, as `clap` takes them apart, and what they request.
use Rattle.std.specs.Prelude.{ℕ, true, List, [], ◌∷◌, ◌++◌, Some, codes, map, fold, unwrap_or}
use Rattle.std.specs.Prelude.{Result, Err}
use Rattle.clap.specs.Walk.{Row, Rule, first_of, all_of}
use Rattle.clap.specs.Simple.{App, new_app, new_rule, on_top, with_rule, matches_of}
use Rattle.clap.specs.Faults.{fault_of}
use Rattle.clap.specs.Kinds.{Kinds}
use Rattle.clap.specs.Lexer.{usize_max}
use Rattle.clap.specs.declared.builder.action.ArgAction.TheVariants.{Count, Set}
use Rattle.cdb_command.specs.Letters.{flag_letters, value_letters, flags_of}
use Rattle.cdb_command.specs.Line.{Text, Given}
use Rattle.cdb_command.specs.Asked.{Asked}
use Rattle.cdb_command.specs.Rules.{line_plan}
use Rattle.cdb_command.specs.BadWord.{bad_word}
use Rattle.cdb_command.specs.Refused.{Refused}

-- ---- what `clap` is given

-- a letter without a value, which may come often
abbrev pub flag_rule : Text → ℕ → Rule
flag_rule id letter = record (new_rule id) { short = Some letter; action = Some Count }

-- a letter with a value
abbrev pub option_rule : Text → ℕ → Rule
option_rule id letter = record (new_rule id) { short = Some letter; action = Some Set }

-- any number of names
abbrev pub names_rule : Rule
names_rule = record (new_rule (codes "names")) {
  range = Some (record { start_inclusive = 0; end_inclusive = usize_max });
}

-- each letter is its own name
abbrev pub flag_rules : List Rule
flag_rules = map (λ letter. flag_rule (letter ∷ []) letter) flag_letters

abbrev pub value_rules : List Rule
value_rules = map (λ letter. option_rule (letter ∷ []) letter) value_letters ++ names_rule ∷ []

abbrev pub with_rules : App → List Rule → App
with_rules = fold with_rule

-- without the help and the version of `clap`'s own
abbrev pub bare_app : App
bare_app =
    on_top (λ s. record s { disable_help_flag = true; disable_version_flag = true })
    (new_app (codes "cdb"))

abbrev pub cdb_app : App
cdb_app = with_rules (with_rules bare_app flag_rules) value_rules

-- ---- what it makes of the words, the first of which is the program's name

-- the letters, values and names, if it takes the words
unfoldable pub cdb_rows : List Text → List Row
cdb_rows words = matches_of cdb_app words

-- why it does not take them
unfoldable pub cdb_faults : List Text → Kinds
cdb_faults words = fault_of cdb_app words

abbrev pub given_of : List Row → Given
given_of rows = record {
  flags = flags_of rows;
  number = first_of (codes "n") rows;
  temporary = first_of (codes "t") rows;
  base = first_of (codes "b") rows;
  names = unwrap_or (all_of (codes "names") rows) [];
}

-- ---- and what they request

abbrev pub unless_refused : Kinds → Refused → Result Asked Refused → Result Asked Refused
unless_refused [] refused plan = plan
unless_refused (kind ∷ kinds) refused plan = Err refused

abbrev pub plan_of : List Text → Result Asked Refused
plan_of words =
    unless_refused (cdb_faults words) (bad_word words) (line_plan (given_of (cdb_rows words)))
