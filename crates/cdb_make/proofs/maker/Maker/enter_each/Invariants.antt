use Rattle.cdb_make.proofs.Words.{AreFirst, Enters, records_at, take, ◌≡◌}
use Rattle.cdb_make.proofs.maker.Maker.enter_each.Given as goal

-- the records that have an entry so far
abbrev pub invariant-loop : goal.invariant-loop
invariant-loop g l = record {
  first : AreFirst g.L.Width.WORD l.bytes l.counter l.place;
  entered : Enters l.fn.self l.self (take l.counter (records_at g.L.Width.WORD l.bytes));
  store : l.self.store ≡ l.fn.self.store;
  lazy : l.self.lazy ≡ l.fn.self.lazy;
  tagged : l.self.roll.tagged ≡ l.fn.self.roll.tagged;
}
