-- Laws of the runs, as propositions.
use Rattle.std.specs.Prelude.{ℕ, ◌≡◌, List, [], ◌∷◌, None, Some}
use Rattle.cdb_form.specs.Laws.Text.{TextReadsBack}
use Rattle.cdb_form.specs.Format.{KeyValue, file_bytes, walk_of}
use Rattle.cdb_form.specs.Text.Native.{text_of}
use Rattle.cdb_read.specs.Difference.{difference}
use Rattle.cdb_read.specs.Laws.{brought_up}
use Rattle.cdb_tool.specs.Runs.Make.{course_of, plain, task_of}
use Rattle.cdb_show.specs.Runs.Incoming.{from_inputs}
use Rattle.cdb_show.specs.Runs.WalkText.{dump_form, walk_text}
use Rattle.cdb_command.specs.declared.options.MakeOptions.{MakeOptions}
use Rattle.cdb_command.specs.declared.style.Style.TheVariants.{Native}

-- the dump of the file of some records is their text, and that is read as these records and as no
-- others
pub record Restores (w greatest : ℕ) (records : List KeyValue) : Type 0 where
  pub dump : walk_text (dump_form Native) (walk_of w (file_bytes w records)) ≡ text_of records
  pub text : TextReadsBack greatest records []

-- a run whose base has the records rs, and whose one input says the difference of rs and ss, does all
-- of it
pub record MakerHoldsAll (w : ℕ) (options : MakeOptions) (rs ss : List KeyValue) : Type 0 where
  pub records : (course_of w (task_of (plain options) (Some rs))
      (from_inputs 1 (difference rs ss ∷ []))).records ≡ brought_up rs ss
  pub going : (course_of w (task_of (plain options) (Some rs))
      (from_inputs 1 (difference rs ss ∷ []))).ended ≡ None
