-- A box of a database, and one of a file.
use mir.Syntax.{impl, tnil, dnil}
use mathlib.Core.List.{[]}
use Rattle.std.proofs.Common.{◌≡◌, refl, sym, true, true≢false}
use Rattle.std.specs.Prelude.{Option, Some, None}
use Rattle.cdb_c.specs.declared.maker.database.Database.{Database as Base}
use Rattle.cdb_c.specs.Addresses.{is_kept}
use Rattle.core.proofs.alloc.Calls.{Al}
use Rattle.std_alloc.proofs.BoxSteps.Form.{Bx}
use Rattle.std_heap.specs.contracts.Global as Heap
use Rattle.std_heap.specs.contracts.GlobalAllocator.TheImpl.{ghosts, dict}
use Rattle.std_heap.proofs.Global.TheLaws as heap
use Rattle.cdb_c.specs.contracts.maker.database.Database as Database
use Rattle.cdb_c.proofs.maker.database.Database.TheLaws as database
use Rattle.std.specs.contracts.fs.File as File
use Rattle.std.proofs.fs.File.TheLaws as file

abbrev al : Al
al = record { row = Heap.the_row; laws = heap.the_row_laws; g = ghosts; d = dict; drops = impl [] tnil dnil }

abbrev pub E : Bx
E = record { row = Database.the_row; laws = database.the_row_laws; al = al }

abbrev pub F : Bx
F = record { row = File.the_row; laws = file.the_row_laws; al = al }

-- there is a database
pub record HasDatabase (kept : Option Base) : Type 0 where
  pub database : Base
  pub is : kept ≡ Some database

pub database_in : (kept : Option Base) → is_kept kept ≡ true → HasDatabase kept
database_in None e = absurd (true≢false (sym e))
database_in (Some d) e = record { database = d; is = refl }
