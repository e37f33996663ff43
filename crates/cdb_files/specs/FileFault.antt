-- What a fault of a file is called.
use Rattle.std.specs.Prelude.{ℕ, List, codes}
use Rattle.cdb_store.specs.declared.make_fault.MakeFault.{MakeFault}
use Rattle.cdb_store.specs.MakeFault.{make_message}
use Rattle.cdb_read.specs.Views.Reads.{read_display}
use Rattle.cdb_files.specs.declared.fault.FileFault.{FileFault}
use Rattle.cdb_files.specs.declared.fault.FileFault.TheVariants.{Open, NoMemory, Write, Rename, Make, Read}
use Rattle.cdb_names.specs.declared.replace.ReplaceFault.{ReplaceFault}
use Rattle.cdb_names.specs.declared.replace.ReplaceFault.TheVariants as replacing

-- its words
abbrev pub file_display : FileFault → List ℕ
file_display Open = codes "file cannot be opened"
file_display NoMemory = codes "no memory"
file_display Write = codes "database cannot be read or written"
file_display Rename = codes "database cannot be renamed"
file_display (Make fault) = make_message fault
file_display (Read fault) = read_display fault

-- what a fault of the replacement is
abbrev pub of_replace : ReplaceFault MakeFault → FileFault
of_replace replacing.Open = Open
of_replace replacing.NoMemory = NoMemory
of_replace replacing.Write = Write
of_replace replacing.Rename = Rename
of_replace (replacing.Build fault) = Make fault
