-- What a dump and a list leave, and what reading a whole file does.
use Rattle.std.specs.Prelude.{ℕ, ◌≡◌, List, [], codes, ◌++◌, Option, None, Some, Result, OnOk, IfErr, flat_map}
use Rattle.cdb_form.specs.Format.{KeyValue, record_of, Walked, walk_of}
use Rattle.cdb_form.specs.Text.Native.{spelling_of}
use Rattle.cdb_form.specs.Text.Map.{map_line}
use Rattle.cdb_form.specs.Text.Parse.{list_line, key_line}
use Rattle.cdb_command.specs.declared.style.Style.{Style}
use Rattle.cdb_command.specs.declared.style.Style.TheVariants.{Native, Map}
use Rattle.cdb_show.specs.declared.runs.content.Content.{Content}
use Rattle.cdb_show.specs.declared.runs.content.Content.TheVariants.{Records, Keys}
use Rattle.std.specs.Io.KnownBytes.{Appends}
use Rattle.cdb_form.specs.Views.Feed.{Feed, Consumes, FromTo}
use Rattle.cdb_form.specs.Views.KnownBytes.{AppendsPrefix}
use Rattle.cdb_form.specs.Views.RecordReader.{behind_records}
use Rattle.cdb_form.specs.Views.WalkFault.{damage_of}
use Rattle.cdb_form.specs.declared.damage.Damage.{Damage}
use Rattle.cdb_form.specs.declared.walk.fault.WalkFault.TheVariants as walk
use Rattle.cdb_show.specs.declared.fault.Fault.{Fault}
use Rattle.cdb_show.specs.declared.fault.Fault.TheVariants.{Walk, Output, NoMemory, Long}
use Rattle.cdb_form.specs.Views.Taking.{GivesMore, LosesAtMost}

-- ---- How the text of a file is formed, by its style: of its records, or of their keys alone.

-- what a text has of each record, and what ends it
pub record Form : Type 0 where
  pub item : KeyValue → List ℕ
  pub end : List ℕ

abbrev pub item_of : Content → Style → KeyValue → List ℕ
item_of Records Native r = spelling_of r
item_of Records Map r = map_line r
item_of Keys Native r = list_line r.key
item_of Keys Map r = key_line r.key

abbrev pub end_of : Style → List ℕ
end_of Native = codes "\n"
end_of Map = []

abbrev pub form_of : Content → Style → Form
form_of content style = record { item = item_of content style; end = end_of style }

-- a dump has the records, a list their keys
abbrev pub dump_form : Style → Form
dump_form style = form_of Records style

abbrev pub list_form : Style → Form
list_form style = form_of Keys style

-- what a text has of this record is in this key and this value
abbrev pub IsHeld : Content → (key value : List ℕ) → KeyValue → Type 0
IsHeld Records key value r = r ≡ record_of key value
IsHeld Keys key value r = r.key ≡ key

-- ---- What the text of a file leaves, whatever gives the bytes of the file. What was written is named
-- first, and then what it is of each file that agrees with what was taken: `f` is what may have been
-- left before the run, and `r` what may be left after it.

-- what ends a text, which a damage leaves out
abbrev pub closing : Form → Option Damage → List ℕ
closing form None = form.end
closing form (Some damage) = []

-- the text of a walk: its records, and then the end
abbrev pub walk_text : Form → Walked → List ℕ
walk_text form w = flat_map form.item w.records ++ closing form w.damage

-- what follows the records of a file is among what is left
abbrev pub KeepsBehind : ℕ → List ℕ → List ℕ → Type 0
KeepsBehind w f r = (more : List ℕ) × (r ≡ more ++ behind_records w f)

-- bytes of a file were taken, and these are all whole records in them
pub record ReadsRecords (w : ℕ) (rs : List KeyValue) (old new : Feed) : Type 0 where
  pub bytes : List ℕ
  pub read : Consumes old new bytes
  pub records : (walk_of w bytes).records ≡ rs

-- the text of the file's walk was appended, which has no damage; what follows its records is all that is left
pub record WritesAll (w : ℕ) (form : Form) (file rest : Feed) (old new : Option (List ℕ)) : Type 0
  where
    pub walked : Walked
    pub ends : walked.damage ≡ None
    pub appended : Appends old new (walk_text form walked)
    pub is : FromTo file rest (λ f r. (walk_of w f ≡ walked) × (r ≡ behind_records w f))

-- the text of the file's walk was appended, which has this damage
pub record WritesToDamage (w : ℕ) (form : Form) (file rest : Feed) (damage : Option Damage)
    (old new : Option (List ℕ)) : Type 0 where
  pub walked : Walked
  pub ends : walked.damage ≡ damage
  pub appended : Appends old new (walk_text form walked)
  pub is : FromTo file rest (λ f r. (walk_of w f ≡ walked) × KeepsBehind w f r)

-- a prefix of the text of a walk was appended, and it is one of the text of the file's walk
pub record WritesTextPrefix (w : ℕ) (form : Form) (file rest : Feed) (old new : Option (List ℕ))
    : Type 0 where
  pub walked : Walked
  pub appended : AppendsPrefix old new (walk_text form walked)
  pub is : FromTo file rest (λ f r.
      AppendsPrefix old new (walk_text form (walk_of w f)) × KeepsBehind w f r)

-- the texts of some records were appended, the first of the file's walk: they are all whole records
-- in what was taken of the file
pub record WritesFirst (w : ℕ) (form : Form) (file rest : Feed) (old new : Option (List ℕ)) : Type 0
  where
    pub first : List KeyValue
    pub read : ReadsRecords w first file rest
    pub appended : Appends old new (flat_map form.item first)
    pub is : FromTo file rest (λ f r.
        ((more : List KeyValue) × ((walk_of w f).records ≡ first ++ more)) × KeepsBehind w f r)

-- what a fault leaves: at a damage of the file the text of its walk; if the reader failed or memory ran
-- out, all records that were read; if the writer failed, a prefix of the text of the walk
abbrev pub WritingFails : ℕ → Form → (file rest : Feed) → (old new : Option (List ℕ)) → Fault
    → Type 0
WritingFails w form file rest old new (Walk walk.Input) =
    WritesFirst w form file rest old new × rest.failed
WritingFails w form file rest old new (Walk walk.NoMemory) = ⊥
WritingFails w form file rest old new (Walk fault) =
    WritesToDamage w form file rest (damage_of fault) old new
WritingFails w form file rest old new NoMemory = WritesFirst w form file rest old new
WritingFails w form file rest old new Output = WritesTextPrefix w form file rest old new
WritingFails w form file rest old new fault = ⊥

-- what a run leaves
pub record WritesWalk (w : ℕ) (form : Form) (file rest : Feed) (old new : Option (List ℕ))
    (result : Result Unit Fault) : Type 0 where
  pub ok : OnOk result (WritesAll w form file rest old new)
  pub err : IfErr result (WritingFails w form file rest old new)

-- ---- What stops a load of a file, whatever gives the bytes of the file.

-- what a fault leaves: of a longer file one byte above the most was taken; if the reader failed or
-- memory ran out, no more than the most
abbrev pub LoadStops : ℕ → (old new : Feed) → Fault → Type 0
LoadStops most old new Long = (bytes : List ℕ) × GivesMore most old new bytes
LoadStops most old new (Walk walk.Input) = LosesAtMost old new most × new.failed
LoadStops most old new NoMemory = LosesAtMost old new most
LoadStops most old new fault = ⊥
