use Rattle.std.proofs.lemmas.Grind.{common_steps}
use Rattle.std.proofs.Common.{arith}
use Rattle.cdb_make.proofs.Words.{length, whole_records}
use Rattle.cdb_make.proofs.Appends.{appends_after, fails_after, if_ok_weaker}
use Rattle.cdb_make.proofs.Rolls.{follows_then, if_err_weaker}
use Rattle.cdb_make.proofs.maker.Maker.append.Goals as goal

pub returns-clause-ok : goal.returns-clause-ok
returns-clause-ok g c =
    let k = c.in_ok-compact_all.ensures in
    if_ok_weaker c.append_beside-2.result
    (λ n appends. appends_after c.args.self.now c.compact_all.new.self c.append_beside-2.new.self (whole_records g.L.Width.WORD (length c.args.bytes.now) c.args.bytes.now) n (c.crowds.ensures.crowded c.if-not-crowds.false).1 k.compacts_all k.counts k.fine c.append_beside-2.ensures.follows.comes appends)
    c.append_beside-2.ensures.ok

pub returns-clause-fails : goal.returns-clause-fails
returns-clause-fails g c =
    let k = c.in_ok-compact_all.ensures in
    if_err_weaker c.append_beside-2.result
    (λ fault fails. fails_after c.args.self.now c.compact_all.new.self c.append_beside-2.new.self (whole_records g.L.Width.WORD (length c.args.bytes.now) c.args.bytes.now) fault k.compacts_all k.counts k.fine fails)
    c.append_beside-2.ensures.fails

pub returns-clause-follows : goal.returns-clause-follows
returns-clause-follows g c = follows_then c.args.self.now c.compact_all.new.self c.append_beside-2.new.self c.compact_all.ensures.follows c.append_beside-2.ensures.follows

pub returns-clause-tagged : goal.returns-clause-tagged
returns-clause-tagged g c = grind (arith, common_steps)

pub returns-in_err-compact_all-clause-tagged : goal.returns-in_err-compact_all-clause-tagged
returns-in_err-compact_all-clause-tagged g c = grind (arith, common_steps)
