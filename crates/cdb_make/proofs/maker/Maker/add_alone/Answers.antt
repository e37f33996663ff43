use Rattle.cdb_make.proofs.Words.{ap, arith, on_ok_weaker, refl, ℕ, ◌*◌, ◌+◌, ◌≡◌}
use Rattle.cdb_make.proofs.Finishing.{found_size, none_size}
use Rattle.cdb_make.proofs.Admitting.{admits_alone, stays_self}
use Rattle.cdb_make.proofs.maker.Maker.add_alone.Goals as goal

pub returns-clause-admits : goal.returns-clause-admits
returns-clause-admits g c =
    on_ok_weaker c.add.result (admits_alone c.args.self.now c.add.new.self c.args.candidate.hash _ c.requires.none c.requires.whole) c.add.ensures.adds

pub add-requires-clause-fits : goal.add-requires-clause-fits
add-requires-clause-fits g c = omega (arith, c.has_room.ensures.room c.if-not-has_room.false, c.full_size.ensures.is)

pub returns-then-not-has_room-clause-fails : goal.returns-then-not-has_room-clause-fails
returns-then-not-has_room-clause-fails g c =
    let m = c.args.self.now.roll in
    let none = c.requires.none in
    let slots : 4 * g.L.Width.WORD * (m.gone.count + m.found.count) ≡ 4 * g.L.Width.WORD * 0 = ap (λ (n : ℕ). 4 * g.L.Width.WORD * n) none in
    (record { stays = stays_self c.args.self.now; written = refl; fine = refl }, omega (arith, c.has_room.ensures.none c.if-not-has_room.true, c.full_size.ensures.is, slots, none_size m (omega (arith, none)), found_size m (omega (arith, none))))
