-- What a database is made of, as a clause reads it.
use Rattle.std.specs.Prelude.{ℕ, Option, Some, map, option_map, string_bytes, ◌≡◌, false, List, OnOk}
use Rattle.cdb_form.specs.declared.width.Width.{Ghosts as Widths}
use Rattle.cdb_form.specs.Views.Feed.{Feed}
use Rattle.cdb_show.specs.declared.inputs.Inputs.{Inputs}
use Rattle.cdb_system.specs.Opening.{none_left}
use Rattle.cdb_system.specs.declared.left.Left.{Left}
use Rattle.cdb.specs.Creating.{Making, Wanted}
use Rattle.cdb.specs.Handing.{inputs_taken}
use Rattle.cdb.specs.declared.contents.Contents.{Contents}
use Rattle.cdb.specs.declared.contents.Sources.{Sources}
use Rattle.cdb.specs.declared.creating.Creation.{Creation}
use Rattle.cdb.specs.Created.{Created, base_of}
use Rattle.cdb_system.specs.Oracle.{Disk, inputs_of, is_standard}

-- of what was opened, whose inputs are returned so
abbrev pub making_of : {L F J I : Type 0} {l : Widths L} → (word greatest : ℕ) → (own : J → Feed)
    → (shared : I → Feed) → Contents L F J I l → (handed : Inputs J I) → Making F J I
making_of word greatest own shared contents handed = record {
  word = word;
  greatest = greatest;
  options = contents.run.options;
  base = contents.sources.base;
  inputs = inputs_taken own shared contents.sources.inputs handed;
}

abbrev pub wanted_of : (word greatest : ℕ) → Creation → Wanted
wanted_of word greatest creation = record {
  word = word;
  greatest = greatest;
  options = creation.run.options;
  name = creation.name.now;
  base = option_map string_bytes creation.base.now;
  inputs = map string_bytes creation.inputs.now;
  temporary = option_map string_bytes creation.temporary.now;
}

-- what was read is returned, and the file that was made in place, if one was
abbrev pub sources_left : {F M S I : Type 0} → Sources F S I → (made : Option M) → Left F M S I
sources_left sources made = record none_left {
  read = sources.base;
  made = made;
  inputs = Some sources.inputs.readers;
  input = Some sources.inputs.shared;
}

-- ---- When two creates come to the same.

-- two disks have the same base and the same inputs
pub record ReadAlike (w : ℕ) (one two : Disk) (base : Option (List ℕ)) (inputs : List (List ℕ)) : Type 0 where
  pub bases : base_of w one base ≡ base_of w two base
  pub files : inputs_of one inputs ≡ inputs_of two inputs

-- the answers, the outputs and the lines are the same; and if a database was made, so is the file of its name,
-- unless standard output has it
pub record AreAlike (name : List ℕ) (one two : Created) : Type 0 where
  pub result : one.result ≡ two.result
  pub output : one.output ≡ two.output
  pub lines : one.lines ≡ two.lines
  pub file : is_standard name ≡ false → OnOk one.result (one.disk name ≡ two.disk name)
