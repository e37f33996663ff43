use Rattle.cdb_make.proofs.Words.{OnlyReads, arith, common_steps, length, length-append, length-drop, reads_more, rules, ◌∙◌, ◌≡◌}
use Rattle.cdb_make.proofs.Bytes.Compare.{differs, agrees, agrees_piece, tells_other}
use Rattle.cdb_make.proofs.key_at.is_read_at.Goals as goal

pub returns-then-ne-clause-same : goal.returns-then-ne-clause-same
returns-then-ne-clause-same g c =
    let l : length c.read_at.new.into ≡ c.min-n.result = search rules in
    tells_other c.loop-done.done c.min-n.result c.args.key.now (omega arith) l c.in_ok-read_at.ensures.ok
    (differs c.min-n.result c.loop-done.done c.read_at.new.into c.loop-done.piece c.args.key.now l c.if-ne.ensures)

pub loop-done-preserved : goal.loop-done-preserved
loop-done-preserved g c =
    let l : length c.read_at.new.into ≡ c.min-n.result = search rules in
    let read : OnlyReads g.S.Store c.loop-done.store c.read_at.new.self = record {
      images = c.in_ok-read_at.ensures.ok.no_other;
      size = c.read_at.ensures.size;
      written = c.read_at.ensures.written;
      room = c.read_at.ensures.room;
      failures = c.read_at.ensures.cause.later;
      unwritten = c.read_at.ensures.unwritten;
    } in
    record {
      inside = omega arith;
      piece = simp (length-append, length-drop) (omega (arith, l, c.loop-done.invariant.piece));
      agrees = agrees_piece c.loop-done.done c.min-n.result c.args.key.now (omega arith) l c.loop-done.invariant.agrees c.in_ok-read_at.ensures.ok.no_other (record { each = c.in_ok-read_at.ensures.ok.read }) (agrees c.min-n.result c.loop-done.done c.read_at.new.into c.loop-done.piece c.args.key.now l c.if-ne.ensures);
      reads = reads_more c.loop-done.invariant.reads read;
      fine = c.in_ok-read_at.ensures.ok_failures ∙ c.loop-done.invariant.fine;
    }

pub returns-then-ne-clause-reads : goal.returns-then-ne-clause-reads
returns-then-ne-clause-reads g c = grind (arith, common_steps)
