-- What is said on standard error.
use Rattle.std.specs.Prelude.{ℕ, ◌⊎◌, Bool, true, false, List, ◌++◌, Option, Result, Ok, Err, codes}
use Rattle.std.specs.Io.KnownBytes.{Keeps, Appends}
use Rattle.cdb_command.specs.Usage.{usage_message}
use Rattle.cdb_command.specs.Refused.{Refused, refused_line, usage_of}
use Rattle.cdb_command.specs.declared.usage.Usage.{Usage}
use Rattle.cdb_command.specs.declared.usage.Usage.TheVariants.{NoMemory}
use Rattle.cdb_form.specs.Views.KnownBytes.{AppendsPrefix}
use Rattle.cdb_show.specs.Message.{fault_line}
use Rattle.cdb_show.specs.declared.fault.Fault.{Fault}

-- the line of words that request nothing
abbrev pub usage_line : Usage → List ℕ
usage_line usage = codes "cdb: " ++ (usage_message usage ++ codes "\n")

-- and of words of which each is to be explained: the line that says which has no meaning follows it
abbrev pub refused_lines : (explained : Bool) → Refused → List ℕ
refused_lines true refused = usage_line (usage_of refused) ++ refused_line refused
refused_lines false refused = usage_line (usage_of refused)

-- a line is said; or standard error failed, and has a prefix of it
abbrev pub SaysLine : (line : List ℕ) → (told said : Option (List ℕ)) → (unsaid : Type 0) → Type 0
SaysLine line told said unsaid = Appends told said line ⊎ (AppendsPrefix told said line × unsaid)

-- the line of a fault is said, and more after it; and nothing of a success
abbrev pub Says : Result Unit Fault → (more : List ℕ) → (told said : Option (List ℕ))
    → (unsaid : Type 0) → Type 0
Says (Ok done) more told said unsaid = Keeps told said
Says (Err fault) more told said unsaid = SaysLine (fault_line fault ++ more) told said unsaid

-- the exit status, if the words request nothing
abbrev pub usage_status : Usage → ℕ
usage_status NoMemory = 111
usage_status usage = 2
