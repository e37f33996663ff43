-- Command lines worked out by hand, equal to what the definitions compute.
use Prim.Native.Char.{code}
use Rattle.std.specs.Prelude.{◌≡◌, true, false, List, [], ◌∷◌, ◌++◌, Some, None, Result, Ok, Err, codes, refl}
use Rattle.std.specs.Str.{chars, is_utf8}
use lib.Utf8.{encode}
use Rattle.clap.specs.Faults.{walk_fault, flags_fault, defaults_fault}
use Rattle.clap.specs.Walk.{bundle_met, walked}
use Rattle.cdb_form.specs.declared.mode.Mode.TheVariants.{Add}
use Rattle.cdb_command.specs.Line.{Text}
use Rattle.cdb_command.specs.Asked.{Asked, Query, Lookups, Dump, Difference, Create, Help, Version}
use Rattle.cdb_command.specs.Refused.{explains_in, Refused, Unknown, Long, NoValue, Twice, Help, NoCommand, TwoCommands, Option, BaseBuiltIn, Lacks, Surplus, Both, refused_line, shown}
use Rattle.cdb_command.specs.Words.{plan_of, cdb_rows, cdb_faults}
use Rattle.cdb_command.specs.declared.style.Style.TheVariants.{Native, Map}
use Rattle.cdb_command.specs.declared.word_fault.Lacking.TheVariants.{Database, Key, New}

-- what the words after the program's name request
abbrev pub asks : List Text → Result Asked Refused
asks words = plan_of (codes "cdb" ∷ words)

pub no_letter : asks [] ≡ Err NoCommand
unfolding cdb_rows cdb_faults walk_fault flags_fault defaults_fault bundle_met walked chars encode
no_letter = refl

pub unknown_letter : asks (codes "-Z" ∷ []) ≡ Err (Unknown (code "Z"))
unfolding cdb_rows cdb_faults walk_fault flags_fault defaults_fault bundle_met walked chars encode
unknown_letter = refl

pub two_letters : asks (codes "-q" ∷ codes "-d" ∷ codes "x" ∷ []) ≡ Err (TwoCommands (code "q") (code "d"))
unfolding cdb_rows cdb_faults walk_fault flags_fault defaults_fault bundle_met walked chars encode
two_letters = refl

pub map_of_statistics : asks (codes "-s" ∷ codes "-m" ∷ []) ≡ Err (Option (code "m") (code "s"))
unfolding cdb_rows cdb_faults walk_fault flags_fault defaults_fault bundle_met walked chars encode
map_of_statistics = refl

pub query_without_key : asks (codes "-q" ∷ codes "x" ∷ []) ≡ Err (Lacks Key)
unfolding cdb_rows cdb_faults walk_fault flags_fault defaults_fault bundle_met walked chars encode
query_without_key = refl

pub replaced_and_inserted : asks (codes "-c" ∷ codes "-r" ∷ codes "-u" ∷ codes "x" ∷ []) ≡ Err Both
unfolding cdb_rows cdb_faults walk_fault flags_fault defaults_fault bundle_met walked chars encode
replaced_and_inserted = refl

pub width_alone : asks (codes "-W" ∷ []) ≡ Err NoCommand
unfolding cdb_rows cdb_faults walk_fault flags_fault defaults_fault bundle_met walked chars encode
width_alone = refl

pub help_with_letters : asks (codes "-h" ∷ codes "-q" ∷ codes "-d" ∷ []) ≡ Ok Help
unfolding cdb_rows cdb_faults walk_fault flags_fault defaults_fault bundle_met walked chars encode
help_with_letters = refl

pub key_behind_hyphens : asks (codes "-q" ∷ codes "x" ∷ codes "--" ∷ codes "-k" ∷ [])
    ≡ Ok (Query (codes "x") (codes "-k") None false false)
unfolding cdb_rows cdb_faults walk_fault flags_fault defaults_fault bundle_met walked chars encode
key_behind_hyphens = refl

pub numbered : asks (codes "-qWn" ∷ codes "007" ∷ codes "x" ∷ codes "k" ∷ [])
    ≡ Ok (Query (codes "x") (codes "k") (Some 7) false true)
unfolding cdb_rows cdb_faults walk_fault flags_fault defaults_fault bundle_met walked chars encode
numbered = refl

pub hyphen_for_a_name : asks (codes "-d" ∷ codes "-" ∷ []) ≡ Ok (Dump None Native false)
unfolding cdb_rows cdb_faults walk_fault flags_fault defaults_fault bundle_met walked chars encode
hyphen_for_a_name = refl

pub created : asks (codes "-cm" ∷ codes "x" ∷ []) ≡ Ok (Create (codes "x") None [] None (record {
  mode = Add;
  warn = false;
  stop = false;
  style = Map;
  limit = 4294967295;
}) false)
unfolding cdb_rows cdb_faults walk_fault flags_fault defaults_fault bundle_met walked chars encode
created = refl

pub base_of_the_same_name : asks (codes "-c" ∷ codes "-b" ∷ codes "x" ∷ codes "x" ∷ [])
    ≡ Ok (Create (codes "x") (Some (codes "x")) [] None (record {
      mode = Add;
      warn = false;
      stop = false;
      style = Native;
      limit = 4294967295;
    }) false)
unfolding cdb_rows cdb_faults walk_fault flags_fault defaults_fault bundle_met walked chars encode
base_of_the_same_name = refl

pub base_that_is_built_in : asks (codes "-c" ∷ codes "-b" ∷ codes "x.tmp" ∷ codes "x" ∷ [])
    ≡ Err (BaseBuiltIn (codes "x.tmp"))
unfolding cdb_rows cdb_faults walk_fault flags_fault defaults_fault bundle_met walked chars encode
base_that_is_built_in = refl

pub difference : asks (codes "-WD" ∷ codes "x" ∷ codes "y" ∷ []) ≡ Ok (Difference (codes "x") (codes "y") true)
unfolding cdb_rows cdb_faults walk_fault flags_fault defaults_fault bundle_met walked chars encode
difference = refl

pub difference_of_one : asks (codes "-D" ∷ codes "x" ∷ []) ≡ Err (Lacks New)
unfolding cdb_rows cdb_faults walk_fault flags_fault defaults_fault bundle_met walked chars encode
difference_of_one = refl

pub difference_as_a_map : asks (codes "-Dm" ∷ codes "x" ∷ codes "y" ∷ []) ≡ Err (Option (code "m") (code "D"))
unfolding cdb_rows cdb_faults walk_fault flags_fault defaults_fault bundle_met walked chars encode
difference_as_a_map = refl

pub difference_and_create : asks (codes "-Dc" ∷ codes "x" ∷ codes "y" ∷ []) ≡ Err (TwoCommands (code "c") (code "D"))
unfolding cdb_rows cdb_faults walk_fault flags_fault defaults_fault bundle_met walked chars encode
difference_and_create = refl

pub version_with_letters : asks (codes "-V" ∷ codes "-q" ∷ []) ≡ Ok Version
unfolding cdb_rows cdb_faults walk_fault flags_fault defaults_fault bundle_met walked chars encode
version_with_letters = refl

pub help_before_version : asks (codes "-Vh" ∷ []) ≡ Ok Help
unfolding cdb_rows cdb_faults walk_fault flags_fault defaults_fault bundle_met walked chars encode
help_before_version = refl

pub looked_up : asks (codes "-qim" ∷ codes "-v" ∷ codes "x" ∷ codes "-" ∷ codes "y" ∷ []) ≡ Ok (Lookups (codes "x") (codes "-" ∷ codes "y" ∷ []) None Map false)
unfolding cdb_rows cdb_faults walk_fault flags_fault defaults_fault bundle_met walked chars encode
looked_up = refl

pub looked_up_from_standard_input : asks (codes "-iWqn" ∷ codes "2" ∷ codes "x" ∷ []) ≡ Ok (Lookups (codes "x") [] (Some 2) Native true)
unfolding cdb_rows cdb_faults walk_fault flags_fault defaults_fault bundle_met walked chars encode
looked_up_from_standard_input = refl

pub looked_up_without_database : asks (codes "-qi" ∷ []) ≡ Err (Lacks Database)
unfolding cdb_rows cdb_faults walk_fault flags_fault defaults_fault bundle_met walked chars encode
looked_up_without_database = refl

pub inputs_of_statistics : asks (codes "-si" ∷ codes "x" ∷ []) ≡ Err (Option (code "i") (code "s"))
unfolding cdb_rows cdb_faults walk_fault flags_fault defaults_fault bundle_met walked chars encode
inputs_of_statistics = refl

pub letter_without_value : asks (codes "-q" ∷ codes "-vn" ∷ []) ≡ Err (NoValue (code "n"))
unfolding cdb_rows cdb_faults walk_fault flags_fault defaults_fault bundle_met walked chars encode
letter_without_value = refl

pub value_before_a_letter : asks (codes "-qn" ∷ codes "-m" ∷ codes "x" ∷ []) ≡ Err (NoValue (code "n"))
unfolding cdb_rows cdb_faults walk_fault flags_fault defaults_fault bundle_met walked chars encode
value_before_a_letter = refl

pub letter_with_value_twice : asks (codes "-qn1" ∷ codes "-n" ∷ codes "2" ∷ codes "x" ∷ []) ≡ Err (Twice (code "n"))
unfolding cdb_rows cdb_faults walk_fault flags_fault defaults_fault bundle_met walked chars encode
letter_with_value_twice = refl

pub long_word : asks (codes "-c" ∷ codes "--map" ∷ codes "x" ∷ []) ≡ Err (Long (codes "--map"))
unfolding cdb_rows cdb_faults walk_fault flags_fault defaults_fault bundle_met walked chars encode
long_word = refl

pub word_for_help : asks (codes "-v" ∷ codes "--help" ∷ []) ≡ Err Help
unfolding cdb_rows cdb_faults walk_fault flags_fault defaults_fault bundle_met walked chars encode
word_for_help = refl

pub word_for_help_before_a_command : asks (codes "--help" ∷ codes "-mq" ∷ []) ≡ Err (Long (codes "--help"))
unfolding cdb_rows cdb_faults walk_fault flags_fault defaults_fault bundle_met walked chars encode
word_for_help_before_a_command = refl

pub long_word_alone : asks (codes "--map" ∷ []) ≡ Err (Long (codes "--map"))
unfolding cdb_rows cdb_faults walk_fault flags_fault defaults_fault bundle_met walked chars encode
long_word_alone = refl

pub first_of_two_bad_words : asks (codes "-qY" ∷ codes "--map" ∷ []) ≡ Err (Unknown (code "Y"))
unfolding cdb_rows cdb_faults walk_fault flags_fault defaults_fault bundle_met walked chars encode
first_of_two_bad_words = refl

pub one_name_too_many : asks (codes "-q" ∷ codes "x" ∷ codes "k" ∷ codes "z" ∷ []) ≡ Err (Surplus (codes "z"))
unfolding cdb_rows cdb_faults walk_fault flags_fault defaults_fault bundle_met walked chars encode
one_name_too_many = refl

-- what is said of them
pub said_of_two : refused_line (TwoCommands (code "q") (code "d"))
    ≡ codes "cdb: two commands: -q and -d\n"
unfolding encode chars is_utf8
said_of_two = refl

pub said_of_a_letter : refused_line (Unknown 0xE9)
    ≡ codes "cdb: -" ++ (0xC3 ∷ 0xA9 ∷ codes ": unknown letter\n")
unfolding encode chars is_utf8
said_of_a_letter = refl

-- how bytes are shown: characters of two, three and four
abbrev pub characters : Text
characters = 0xC3 ∷ 0xA9 ∷ 0xE2 ∷ 0x82 ∷ 0xAC ∷ 0xF0 ∷ 0x9F ∷ 0x98 ∷ 0x80 ∷ []

pub characters_are_shown : shown characters ≡ characters
unfolding encode chars is_utf8
characters_are_shown = refl

pub controls_are_not : shown (0x1B ∷ 0x7F ∷ 0xC2 ∷ 0x85 ∷ []) ≡ codes "\\x1b\\x7f\\xc2\\x85"
unfolding encode chars is_utf8
controls_are_not = refl

pub direction_is_not : shown (codes "a" ++ (0xE2 ∷ 0x80 ∷ 0xAE ∷ codes "b")) ≡ codes "a\\xe2\\x80\\xaeb"
unfolding encode chars is_utf8
direction_is_not = refl

pub backslash_is_not : shown (codes "\\") ≡ codes "\\x5c"
unfolding encode chars is_utf8
backslash_is_not = refl

pub longer_form_is_not : shown (0xC0 ∷ 0xAF ∷ []) ≡ codes "\\xc0\\xaf"
unfolding encode chars is_utf8
longer_form_is_not = refl

pub surrogate_is_not : shown (0xED ∷ 0xA0 ∷ 0x80 ∷ []) ≡ codes "\\xed\\xa0\\x80"
unfolding encode chars is_utf8
surrogate_is_not = refl

pub number_above_all_is_not : shown (0xF4 ∷ 0x90 ∷ 0x80 ∷ 0x80 ∷ []) ≡ codes "\\xf4\\x90\\x80\\x80"
unfolding encode chars is_utf8
number_above_all_is_not = refl

pub character_that_is_cut : shown (codes "a" ++ (0xE2 ∷ 0x82 ∷ [])) ≡ codes "a\\xe2\\x82"
unfolding encode chars is_utf8
character_that_is_cut = refl

pub byte_that_continues_nothing : shown (0xC3 ∷ 0xA9 ∷ 0xA9 ∷ []) ≡ 0xC3 ∷ 0xA9 ∷ codes "\\xa9"
unfolding encode chars is_utf8
byte_that_continues_nothing = refl

-- whether faults are explained
pub explained_among_letters : explains_in (codes "cdb" ∷ codes "-c" ∷ codes "x" ∷ codes "-wv" ∷ []) ≡ true
explained_among_letters = refl

pub explained_beside_a_bad_letter : explains_in (codes "cdb" ∷ codes "-Zv" ∷ []) ≡ true
explained_beside_a_bad_letter = refl

pub value_is_no_letter : explains_in (codes "cdb" ∷ codes "-ctv" ∷ codes "x" ∷ []) ≡ false
value_is_no_letter = refl

pub name_is_no_letter : explains_in (codes "cdb" ∷ codes "-q" ∷ codes "x" ∷ codes "--" ∷ codes "-v" ∷ []) ≡ false
name_is_no_letter = refl
