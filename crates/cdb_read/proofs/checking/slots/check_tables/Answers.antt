use Rattle.std.proofs.Common.{refl, get_or, length-set, ◌∙◌, arith}
use Rattle.cdb_read.proofs.Words.{ReadTells, TableHas, TablesHave, err_from_is_err_and, pointer_pair}
use Rattle.cdb_read.proofs.Checks.AllTables.{are_clear_none, are_clear_more, are_clear_all, fault_in}
use Rattle.cdb_read.proofs.Bytes.PieceReads.{reads_more}
use Rattle.cdb_read.proofs.Checks.TableChecks.{stands_at}
use Rattle.cdb_read.proofs.Checks.Tells.{read_tells}
use Rattle.cdb_read.proofs.Walked.WalkedLengths.{reads_nothing}
use Rattle.cdb_read.proofs.checking.slots.check_tables.Goals as goal

pub loop-n-init : goal.loop-n-init
loop-n-init g c = record {
  shows = c.requires.shows;
  reads = reads_nothing {s = g.S.Store} _ _ refl;
  many = c.requires.lists;
  clear = λ b is. are_clear_none g.L.Width.WORD b c.args.lists.now;
}

pub check_table-requires-clause-inside : goal.check_table-requires-clause-inside
check_table-requires-clause-inside g c =
    stands_at g.L.Width.WORD _ _ c.loop-n.n c.args.tables.now _ c.loop-n.invariant.reads.size (omega (arith, c.loop-n-test.true)) c.requires.inside

pub returns-in_err-check_table-clause-fails : goal.returns-in_err-check_table-clause-fails
returns-in_err-check_table-clause-fails g c =
    let q = err_from_is_err_and c.from_residual.result c.from_residual.ensures.1 in
    let w = g.L.Width.WORD in
    let inv = c.loop-n.invariant in
    let fails : ReadTells g.S.Store (TablesHave w c.args.lists.now) c.args.store.now c.check_table.new.store c.in_err-check_table.field-0.0 =
    read_tells g.S.Store (TableHas w c.loop-n.n (pointer_pair (get_or c.args.tables.now c.loop-n.n (record { place = 0; slots = 0 }))) (get_or c.loop-n.lists c.loop-n.n c.index-lists-n.result)) (TablesHave w c.args.lists.now) c.args.store.now c.loop-n.store c.check_table.new.store c.in_err-check_table.field-0.0 inv.reads
    (λ b d is has.
    let was = c.check_table.ensures.reads.images b is in
    fault_in w b c.args.tables.now c.loop-n.n (record { place = 0; slots = 0 }) c.args.lists.now c.loop-n.lists c.index-lists-n.result d (c.requires.known b (inv.reads.images b was)) (omega (arith, c.loop-n-test.true, c.requires.many)) (inv.clear b was) has)
    c.in_err-check_table.ensures.fails in
    rw (q.1, q.2) fails

pub loop-n-preserved : goal.loop-n-preserved
loop-n-preserved g c =
    let w = g.L.Width.WORD in
    let inv = c.loop-n.invariant in
    record {
      shows = c.check_table.ensures.shows;
      many = length-set c.loop-n.lists c.loop-n.n c.check_table.new.entries ∙ inv.many;
      reads = reads_more inv.reads c.check_table.ensures.reads;
      clear = λ b is.
          let was = c.check_table.ensures.reads.images b is in
          are_clear_more w b c.args.tables.now c.loop-n.n _ c.args.lists.now c.loop-n.lists c.index-lists-n.result c.check_table.new.entries (c.requires.known b (inv.reads.images b was)) (omega (arith, c.loop-n-test.true, c.requires.many)) (inv.clear b was)
          (c.in_ok-check_table.ensures.clear b is);
    }

pub returns-clause-clear : goal.returns-clause-clear
returns-clause-clear g c = λ b is.
    are_clear_all g.L.Width.WORD b c.args.lists.now c.loop-n.lists c.loop-n.n (omega (arith, c.loop-n-test.false, c.requires.many)) (c.loop-n.invariant.clear b is)
