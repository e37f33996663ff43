use Rattle.cdb_form.proofs.Words.{length, ◌-◌}
use Rattle.cdb_form.specs.Views.Prefix.{BeginsWithRecord}
use Rattle.cdb_form.proofs.Filling.{Filling}
use Rattle.cdb_form.proofs.text.fill.fill.Given as goal

-- what is filled so far
abbrev pub invariant-loop-taken : goal.invariant-loop-taken
invariant-loop-taken g l = Filling (BeginsWithRecord g.L.Width.GREATEST) g.L.Width.WORD g.L.Width.TOP l.text l.fn.into l.into l.held l.taken l.end l.count

abbrev pub decreases-loop-taken : goal.decreases-loop-taken
decreases-loop-taken g l = length l.text - l.taken
