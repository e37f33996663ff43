use Rattle.std.proofs.Common.{arith, sym}
use Rattle.cdb_form.specs.Views.Pairs.{head_pairs}
use Rattle.cdb_read.proofs.Walked.Walks.{walks_nowhere, walks_from}
use Rattle.cdb_read.proofs.MemoryBytes.{head_here}
use Rattle.cdb_read.proofs.memory.walk.first_record.Goals as goal

pub returns-then-end-place-clause-damaged : goal.returns-then-end-place-clause-damaged
returns-then-end-place-clause-damaged g c =
    let w = g.L.Width.WORD in
    sym (walks_nowhere w c.record_end-end.result _ c.args.file.now (head_pairs c.read_head-head.result) c.requires (head_here w c.args.file.now c.head_size-place.ensures c.requires c.read_head-head.ensures.read) c.record_end-end.ensures c.first_table_at.ensures (omega (arith, c.head_size-place.ensures, c.if-end-place.true)))

pub returns-clause-begins : goal.returns-clause-begins
returns-clause-begins g c =
    let w = g.L.Width.WORD in
    record {
      walks = walks_from w _ c.record_end-end.result c.args.file.now (head_pairs c.read_head-head.result) c.requires (head_here w c.args.file.now c.head_size-place.ensures c.requires c.read_head-head.ensures.read) c.record_end-end.ensures c.head_size-place.ensures (omega (arith, c.if-end-place.false));
      ordered = omega (arith, c.if-end-place.false);
    }
