use Rattle.cdb_read.proofs.Words.{ImagesHold, arith, common_steps, ◌+◌}
use Rattle.cdb_read.proofs.Bytes.Compare.{differs, agrees, agrees_piece, tells_other}
use Rattle.cdb_read.proofs.Bytes.PieceReads.{reads_more}
use Rattle.cdb_read.proofs.Bytes.Windows.{holds_shown}
use Rattle.cdb_read.proofs.lookup.key_at.bytes_are_at.Goals as goal

pub returns-then-ne-clause-same : goal.returns-then-ne-clause-same
returns-then-ne-clause-same g c =
    let e = c.in_ok-cover.ensures in
    let held : ImagesHold (c.args.place + c.loop-done.done) c.shown.result.now (g.S.Store.image c.cover.new.store) = holds_shown e.shows e.covers c.shown.ensures.is c.shown.ensures.long in
    tells_other c.loop-done.done c.min-n.result c.args.bytes.now (omega arith) c.shown.ensures.long held
    (differs c.min-n.result c.loop-done.done c.shown.result.now c.args.bytes.now c.if-ne.ensures)

pub loop-done-preserved : goal.loop-done-preserved
loop-done-preserved g c =
    let e = c.in_ok-cover.ensures in
    let held : ImagesHold (c.args.place + c.loop-done.done) c.shown.result.now (g.S.Store.image c.cover.new.store) = holds_shown e.shows e.covers c.shown.ensures.is c.shown.ensures.long in
    record {
      inside = omega arith;
      shows = e.shows;
      agrees = agrees_piece c.loop-done.done c.min-n.result c.args.bytes.now (omega arith) c.shown.ensures.long c.loop-done.invariant.agrees c.cover.ensures.reads.images held (agrees c.min-n.result c.loop-done.done c.shown.result.now c.args.bytes.now c.if-ne.ensures);
      reads = reads_more c.loop-done.invariant.reads c.cover.ensures.reads;
    }

pub returns-then-ne-clause-reads : goal.returns-then-ne-clause-reads
returns-then-ne-clause-reads g c = grind (arith, common_steps)
