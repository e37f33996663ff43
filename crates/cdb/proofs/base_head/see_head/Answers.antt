use Rattle.cdb.proofs.BaseHeads.{unseen, unseen_reason, unseen_says}
use Rattle.cdb.proofs.base_head.see_head.Goals as goal

pub returns-in-Err-clause-sees : goal.returns-in-Err-clause-sees
returns-in-Err-clause-sees g c = rw c.from.ensures (unseen g.L.Width.WORD g.F.Store c.args.base c.in-Err.unread.store c.in-Err.unread.fault (g.met.F.Store.image_size c.in-Err.unread.store) c.in-Err.ensures.fails)

pub returns-in-Err-clause-output : goal.returns-in-Err-clause-output
returns-in-Err-clause-output g c = rw c.from.ensures (unseen_says g.L.Width.WORD g.F.Store c.args.base c.in-Err.unread.store c.in-Err.unread.fault c.in-Err.ensures.fails)

pub returns-in-Err-clause-reason : goal.returns-in-Err-clause-reason
returns-in-Err-clause-reason g c = rw c.from.ensures (unseen_reason g.L.Width.WORD g.F.Store c.args.base c.in-Err.unread.store c.in-Err.unread.fault c.in-Err.ensures.fails)
