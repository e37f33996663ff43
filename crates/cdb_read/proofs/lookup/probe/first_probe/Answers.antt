use Rattle.cdb_read.proofs.Words.{ap, both_ways, pointer_pair, refl, table_number, ◌∙◌}
use Rattle.cdb_read.proofs.Probing.Beginnings.{begins_nowhere, begins_outside, begins_at}
use Rattle.cdb_read.proofs.lookup.probe.first_probe.Goals as goal

pub returns-then-table-eq0-clause-finds : goal.returns-then-table-eq0-clause-finds
returns-then-table-eq0-clause-finds g c = λ b key long is. begins_nowhere g.L.Width.WORD b key (pointer_pair c.args.table) c.if-table-eq0.true

pub returns-then-not-lies_inside-clause-finds : goal.returns-then-not-lies_inside-clause-finds
returns-then-not-lies_inside-clause-finds g c = λ b key long is.
    begins_outside g.L.Width.WORD c.args.size b key (pointer_pair c.args.table) c.table_number.result long c.if-table-eq0.false
    (λ lies. both_ways c.lies_inside.result c.if-not-lies_inside.true (c.lies_inside.ensures.1 lies)) (c.table_number.ensures.number ∙ ap table_number is)

pub returns-clause-finds : goal.returns-clause-finds
returns-clause-finds g c = λ b key long is.
    begins_at g.L.Width.WORD c.args.size c.args.hash b key _ long is c.if-table-eq0.false (c.lies_inside.ensures.0 c.if-not-lies_inside.false) c.home_slot.ensures.slot refl
