-- What a slot owns.
use base.Fml.{Fml, ftrue}
use base.Stored.{Coded}
use denote.RawPtr.{Ptr}
use Rattle.std.specs.Prelude.{Bool, true, false, Option, Some, None}
use Rattle.std_alloc.specs.Box.Ownership.{box_owns}
use Rattle.std.specs.Coded.{coded_option}
use Rattle.std.specs.Global.{Global}
use Rattle.std_heap.specs.contracts.GlobalAllocator.TheImpl.{ghosts}
use Rattle.std.specs.declared.fs.File.{File}
use Rattle.std.specs.contracts.fs.File.{the_row as file_row}
use Rattle.cdb_c.specs.declared.maker.database.Database.{Database}
use Rattle.cdb_c.specs.contracts.maker.database.Database.{the_row}

-- what a box of the database owns; without a database nothing
abbrev pub address_owns : Global → Ptr → Option Database → Fml
address_owns alloc p None = ftrue
address_owns alloc p (Some d) = box_owns (ghosts.dealloc_token alloc) the_row p d

-- true if there is a database
abbrev pub is_kept : Option Database → Bool
is_kept None = false
is_kept (Some d) = true

abbrev pub kept_coded : Coded (Option Database)
kept_coded = coded_option the_row.coded

-- what a box of a file owns
abbrev pub file_owns : Global → Ptr → File → Fml
file_owns alloc p f = box_owns (ghosts.dealloc_token alloc) file_row p f

abbrev pub file_coded : Coded File
file_coded = file_row.coded
