use Rattle.cdb_make.proofs.Words.{[], record_bytes, refl, subst, sym, ℕ, ◌∙◌, ◌∷◌}
use Rattle.cdb_store.specs.Images.{ImagesHold as Stored}
use Rattle.cdb_make.proofs.Bytes.Written.{on_any_err}
use Rattle.cdb_make.proofs.Appends.{enters_after, stays_noted}
use Rattle.cdb_make.proofs.maker.Maker.enter.Goals as goal

pub returns-in_err-reserve-clause-stays : goal.returns-in_err-reserve-clause-stays
returns-in_err-reserve-clause-stays g c =
    on_any_err c.from_residual.result (stays_noted c.args.self.now _ c.requires.whole c.requires.whole c.reserve.ensures.same c.reserve.ensures.marks refl)

pub returns-clause-enters : goal.returns-clause-enters
returns-clause-enters g c = λ r is_record hashed numbered sized stored.
    let m = c.args.self.now in
    let k = c.reserve.ensures in
    enters_after m _ c.note.new.self (r ∷ []) (stays_noted m _ c.requires.whole c.requires.whole k.same k.marks refl) k.same k.gone refl
    (c.note.ensures.enters r is_record hashed (λ e. numbered (sym k.tagged ∙ e)) sized
    (subst (λ (n : ℕ). Stored n (record_bytes g.L.Width.WORD r) (g.S.Store.image m.store)) (sym k.same.end) stored))
