-- What the file of some records is, and what one that was not made left.
use Rattle.std.specs.Prelude.{◌≡◌, ◌<◌, ◌⊎◌, ⊤, ℕ, List}
use Rattle.cdb_store.specs.FileStore.{failures_of, images_of}
use Rattle.cdb_store.specs.Images.{HasNoImage}
use Rattle.cdb_store.specs.declared.raw.RawFile.{Ghosts as Raw}
use Rattle.cdb_form.specs.Format.{file_bytes, file_size}
use Rattle.cdb_form.specs.Views.Pairs.{key_values}
use Rattle.cdb_form.specs.declared.record.Record.{Record}
use Rattle.cdb_make.specs.Views.Maker.{WhereHonest}
use Rattle.cdb_store.specs.declared.make_fault.MakeFault.{MakeFault}
use Rattle.cdb_store.specs.declared.make_fault.MakeFault.TheVariants.{Broken, Lookup, NoMemory, TooBig, Writing}
use Rattle.cdb_files.specs.declared.fault.FileFault.{FileFault}
use Rattle.cdb_files.specs.declared.fault.FileFault.TheVariants as file
use Rattle.cdb_names.specs.declared.replace.ReplaceFault.{ReplaceFault}
use Rattle.cdb_files.specs.FileFault.{of_replace}
use Rattle.cdb_names.specs.Folder.{NameCalls}
use Rattle.cdb_names.specs.Replacing.{EndsIn, FailsToBuild}

-- these bytes are the file of the records, in words of w bytes
abbrev pub IsFileOf : (w : ℕ) → List Record → List ℕ → Type 0
IsFileOf w records b = b ≡ file_bytes w (key_values records)

-- why the file of the records was not built in a store, which had failed so often before and then:
-- memory was refused and it had not failed, or it failed, or the file would be longer than the greatest, or the
-- store gave back other bytes than were written
abbrev pub FailsBuilding : (w greatest : ℕ) → List Record → (before after : ℕ) → (List ℕ → Type 0)
    → MakeFault → Type 0
FailsBuilding w greatest records before after images NoMemory = after ≡ before
FailsBuilding w greatest records before after images Writing = before < after
FailsBuilding w greatest records before after images TooBig =
    WhereHonest images (greatest < file_size w (key_values records))
FailsBuilding w greatest records before after images Broken = HasNoImage images
FailsBuilding w greatest records before after images Lookup = ⊥

-- why it was not built in a file that was just made
abbrev pub FailsToMake : {F : Type 0} → Raw F → (w greatest : ℕ) → List Record
    → (temporary : List ℕ) → (old new : NameCalls) → MakeFault → Type 0
FailsToMake file w greatest records = FailsToBuild {file = file} (λ old new.
    FailsBuilding w greatest records (failures_of old) (failures_of new) (images_of new))

-- which calls end in this fault
abbrev pub FailsMaking : (temporary name : List ℕ) (old new : NameCalls) → FileFault → Type 0
FailsMaking temporary name old new fault = (cause : ReplaceFault MakeFault)
    × (fault ≡ of_replace cause) × EndsIn temporary name old new cause

-- the fault of a file that was not made is that of its building
abbrev pub IsOfBuilding : (MakeFault → Type 0) → FileFault → Type 0
IsOfBuilding P (file.Make fault) = P fault
IsOfBuilding P fault = ⊤

-- memory was refused before any call on names; or a call ended so
abbrev pub FailsBeside : (temporary name : List ℕ) (old new : NameCalls) → FileFault → Type 0
FailsBeside temporary name old new fault =
    ((fault ≡ file.NoMemory) × (new ≡ old)) ⊎ FailsMaking temporary name old new fault
