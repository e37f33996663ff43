-- What a look of a maker finds.
use Rattle.std.specs.Prelude.{ℕ, Bool, List, Result, Ok, Err, IfOk}
use Rattle.cdb_form.specs.Format.{KeyValue}
use Rattle.cdb_store.specs.BufferedStore.{images_of}
use Rattle.cdb_make.specs.Views.Maker.{Holds, IsThere, store_of}
use Rattle.cdb_store.specs.declared.make_fault.MakeFault.{MakeFault}
use Rattle.cdb_c.specs.declared.maker.database.Making.{Making}
use Rattle.cdb_c.specs.Calls.{FindsKey}

pub finds_key : (r : Result Bool MakeFault) (key : List ℕ) (m n : Making)
    → ((rs : List KeyValue) → Holds m.maker rs
    → IfOk r (λ there. IsThere there key rs (images_of (store_of n.maker))))
    → IfOk r (λ there. FindsKey there key m n)
finds_key (Ok there) key m n each = record { each = each }
finds_key (Err fault) key m n each = tt
