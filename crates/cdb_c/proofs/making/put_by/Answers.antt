use Rattle.std.proofs.Common.{IfErr, subst}
use Rattle.cdb_form.specs.declared.mode.Mode.{Mode}
use Rattle.cdb_make.specs.Views.Maker.{FailsPutting}
use Rattle.cdb_c.specs.Calls.{kept_in, BetweenCalls}
use Rattle.cdb_c.proofs.making.put_by.Goals as goal

-- src/making.rt:30:1
pub returns-clause-fails : goal.returns-clause-fails
returns-clause-fails c =
    subst (λ (mode : Mode). IfErr c.put.result (λ f. BetweenCalls (kept_in c.args.handle.now) (kept_in c.put.new.handle)
    (λ m n. FailsPutting m.maker n.maker mode (record { key = c.args.key.now; value = c.args.value.now }) f)))
    c.mode_of.ensures c.put.ensures.fails
