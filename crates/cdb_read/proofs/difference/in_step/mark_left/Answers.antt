use Rattle.cdb_read.proofs.DifferenceWords.{reads_more, record_in}
use Rattle.cdb_read.proofs.Steps.{passed_more}
use Rattle.cdb_read.proofs.difference.in_step.mark_left.Goals as goal

pub loop-pair-preserved : goal.loop-pair-preserved
loop-pair-preserved g c =
    let inv = c.loop-pair.invariant in
    let one = rw c.in-Some.is at c.in_ok-pair.ensures.gives in
    let set = c.mark.ensures in
    record {
      reads = reads_more (reads_more inv.reads c.next_record.ensures.reads) set.reads;
      grows = λ hash was. set.grows hash (inv.grows hash was);
      passed = λ b is.
          let mine = set.reads.images b is in
          passed_more c.loop-pair.marks.words.items c.mark.new.marks.words.items _ _ _ (record_in b c.in-Some.pair) set.grows (c.in_ok-mark.ensures.sets b is) (one.first b mine) (inv.passed b (c.next_record.ensures.reads.images b mine));
    }
