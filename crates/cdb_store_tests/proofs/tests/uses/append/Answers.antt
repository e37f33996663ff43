use Rattle.std.proofs.Common.{arith, inl, length}
use Rattle.cdb_store.specs.Images.{AreSized}
use Rattle.cdb_store.proofs.Moves.{held_first, held_kept, kept_torn}
use Rattle.cdb_store_tests.proofs.tests.uses.append.Goals as goal

pub returns-in_err-write_at-clause-kept : goal.returns-in_err-write_at-clause-kept
returns-in_err-write_at-clause-kept g c = λ pos held inside. held_kept (kept_torn pos (length held) (inl (omega arith)) c.write_at.ensures.torn)

pub returns-clause-kept : goal.returns-clause-kept
returns-clause-kept g c = λ pos held inside. held_kept (kept_torn pos (length held) (inl (omega arith)) c.write_at.ensures.torn)

pub returns-clause-appended : goal.returns-clause-appended
returns-clause-appended g c =
    let sized : AreSized (g.S.Store.size c.args.store.now) (g.S.Store.image c.args.store.now) = record { each = g.met.S.Store.image_size c.args.store.now } in
    held_first (omega arith) sized c.in_ok-write_at.ensures.ok
