use Rattle.cdb_read.proofs.Words.{Counts, ap, arith, distances_of, map, pointer_pair, subst, sym}
use Rattle.cdb_read.proofs.Bytes.PieceReads.{reads_more}
use Rattle.cdb_read.proofs.Counting.SlotCounts.{tables_more_at, tables_before, all_tables}
use Rattle.cdb_read.proofs.Checks.TableChecks.{stands_at}
use Rattle.cdb_read.proofs.tables.count_tables.Goals as goal

pub count_table-requires-clause-inside : goal.count_table-requires-clause-inside
count_table-requires-clause-inside g c =
    stands_at g.L.Width.WORD _ _ c.loop-n.n c.args.tables.now _ c.loop-n.invariant.reads.size c.loop-n-test.true c.requires.inside

pub loop-n-preserved : goal.loop-n-preserved
loop-n-preserved g c =
    let w = g.L.Width.WORD in
    let ps = c.args.tables.now in
    let inv = c.loop-n.invariant in
    record {
      shows = c.count_table.ensures.shows;
      reads = reads_more inv.reads c.count_table.ensures.reads;
      counts = λ b is.
          subst (Counts c.count_table.new.distances) (sym (tables_more_at w b ps c.loop-n.n _ c.loop-n-test.true))
          (c.in_ok-count_table.ensures.counts b is (tables_before w b (map pointer_pair ps) c.loop-n.n) (inv.counts b (c.count_table.ensures.reads.images b is)));
    }

pub returns-clause-counts : goal.returns-clause-counts
returns-clause-counts g c = λ b is.
    let w = g.L.Width.WORD in
    subst (Counts c.loop-n.distances) (ap (distances_of w b) (all_tables c.args.tables.now c.loop-n.n (omega (arith, c.loop-n-test.false)))) (c.loop-n.invariant.counts b is)
