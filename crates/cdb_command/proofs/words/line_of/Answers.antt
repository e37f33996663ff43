use Rattle.std.proofs.Common.{◌≡◌, ◌∙◌, ap, codes, [], List, Option, unwrap_or}
use Rattle.clap.specs.Walk.{Row, rows_of, first_of, all_of}
use Rattle.clap.specs.Matches.{found_of}
use Rattle.clap.proofs.WalkLemmas.{first_value-rows, raw_values-rows}
use Rattle.cdb_command.specs.Line.{Text}
use Rattle.cdb_command.specs.Letters.{flags_of}
use Rattle.cdb_command.specs.Words.{given_of}
use Rattle.cdb_command.specs.declared.letters.Flags.{Flags}
use Rattle.cdb_command.proofs.words.line_of.Goals as goal

same_given : (rows : List Row) (flags : Flags) (number temporary base : Option Text)
    (names : List Text)
    → flags ≡ flags_of rows
    → number ≡ first_of (codes "n") rows → temporary ≡ first_of (codes "t") rows
    → base ≡ first_of (codes "b") rows
    → names ≡ unwrap_or (all_of (codes "names") rows) []
    → record {
      flags = flags;
      number = number;
      temporary = temporary;
      base = base;
      names = names;
    }
    ≡ given_of rows
same_given rows flags number temporary base names f n t b m = cc

pub returns : goal.returns
returns c =
    let found = found_of c.args.matches.now in
    let names =
    ap (λ (o : Option (List Text)). unwrap_or o [])
    (c.get_strs.ensures ∙ raw_values-rows found (codes "names")) in
    same_given (rows_of found) _ _ _ _ _ c.flags_of.ensures
    (c.get_str.ensures ∙ first_value-rows found (codes "n"))
    (c.get_str-2.ensures ∙ first_value-rows found (codes "t"))
    (c.get_str-3.ensures ∙ first_value-rows found (codes "b"))
    names
