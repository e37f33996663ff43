use Rattle.cdb_make.proofs.Words.{AreSized, refl}
use Rattle.cdb_make.proofs.Appends.{stored_written}
use Rattle.cdb_make.proofs.Finishing.{end_behind, stays_written}
use Rattle.cdb_make.proofs.Rolls.{follows_write}
use Rattle.cdb_make.proofs.maker.Maker.write_behind.Goals as goal

pub returns-in_err-write_at-clause-stays : goal.returns-in_err-write_at-clause-stays
returns-in_err-write_at-clause-stays g c = stays_written c.args.self.now _ c.requires.whole c.requires.whole refl c.write_at.ensures.torn

pub returns-clause-stays : goal.returns-clause-stays
returns-clause-stays g c = stays_written c.args.self.now _ c.requires.whole c.requires.whole refl c.write_at.ensures.torn

pub returns-in_err-write_at-clause-follows : goal.returns-in_err-write_at-clause-follows
returns-in_err-write_at-clause-follows g c =
    let e = c.write_at.ensures in
    follows_write c.args.self.now _ refl refl (end_behind c.args.self.now.roll) e.torn e.room e.cause.later e.unwritten.later

pub returns-clause-follows : goal.returns-clause-follows
returns-clause-follows g c =
    let e = c.write_at.ensures in
    follows_write c.args.self.now _ refl refl (end_behind c.args.self.now.roll) e.torn e.room e.cause.later e.unwritten.later

pub returns-clause-stored : goal.returns-clause-stored
returns-clause-stored g c =
    let m = c.args.self.now in
    let sized : AreSized (g.S.Store.size m.store) (g.S.Store.image m.store) = record { each = g.met.S.Store.image_size m.store } in
    stored_written (g.S.Store.size m.store) sized m.inside c.in_ok-write_at.ensures.ok
