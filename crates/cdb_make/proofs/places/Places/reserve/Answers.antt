use Rattle.cdb_make.proofs.Words.{ap, arith, length, on_err_weaker, on_ok_weaker, vec_capacity}
use Rattle.cdb_store.proofs.Answered.{held_on_err}
use Rattle.cdb_make.proofs.Halves.{length-halves, room_wide, room_narrow}
use Rattle.cdb_make.proofs.places.Places.reserve.Goals as goal

pub returns-in_err-reserve_one-clause-full : goal.returns-in_err-reserve_one-clause-full
returns-in_err-reserve_one-clause-full g c =
    let s = c.args.self.now in
    let w = c.is_wide.ensures.wide c.if-is_wide.true in
    held_on_err c.from_residual.result _ (omega (arith, length-halves s.lows.items s.highs.items, s.highs.ok.0, s.wide w, room_wide g.L.Width.WORD (vec_capacity s.lows) (vec_capacity s.highs) w, c.in_err-reserve_one.ensures.full))

pub returns-in_ok-reserve_one-clause-ok : goal.returns-in_ok-reserve_one-clause-ok
returns-in_ok-reserve_one-clause-ok g c =
    let s = c.args.self.now in
    let w = c.is_wide.ensures.wide c.if-is_wide.true in
    let ls = c.reserve_one-then-is_wide.new.items in
    let hs = c.reserve_one.new.items in
    on_ok_weaker c.reserve_one-then-is_wide.result
    (λ ok. omega (arith, length-halves ls.items hs.items, room_wide g.L.Width.WORD (vec_capacity ls) (vec_capacity hs) w, s.lows.ok.0, s.highs.ok.0, s.wide w, ap length c.reserve_one.ensures.items, ap length c.reserve_one-then-is_wide.ensures.items, c.in_ok-reserve_one.ensures.ok, ok))
    c.reserve_one-then-is_wide.ensures.ok

pub returns-in_ok-reserve_one-clause-full : goal.returns-in_ok-reserve_one-clause-full
returns-in_ok-reserve_one-clause-full g c =
    let s = c.args.self.now in
    let w = c.is_wide.ensures.wide c.if-is_wide.true in
    on_err_weaker c.reserve_one-then-is_wide.result
    (λ full. omega (arith, length-halves s.lows.items s.highs.items, room_wide g.L.Width.WORD (vec_capacity s.lows) (vec_capacity s.highs) w, s.lows.ok.0, full))
    c.reserve_one-then-is_wide.ensures.full

pub returns-else-is_wide-clause-ok : goal.returns-else-is_wide-clause-ok
returns-else-is_wide-clause-ok g c =
    let s = c.args.self.now in
    let w = c.is_wide.ensures.narrow c.if-is_wide.false in
    let ls = c.reserve_one-else-is_wide.new.items in
    on_ok_weaker c.reserve_one-else-is_wide.result
    (λ ok. omega (arith, length-halves ls.items s.highs.items, room_narrow g.L.Width.WORD (vec_capacity ls) (vec_capacity s.highs) w, s.lows.ok.0, ap length c.reserve_one-else-is_wide.ensures.items, ok))
    c.reserve_one-else-is_wide.ensures.ok

pub returns-else-is_wide-clause-full : goal.returns-else-is_wide-clause-full
returns-else-is_wide-clause-full g c =
    let s = c.args.self.now in
    let w = c.is_wide.ensures.narrow c.if-is_wide.false in
    on_err_weaker c.reserve_one-else-is_wide.result
    (λ full. omega (arith, length-halves s.lows.items s.highs.items, room_narrow g.L.Width.WORD (vec_capacity s.lows) (vec_capacity s.highs) w, s.lows.ok.0, full))
    c.reserve_one-else-is_wide.ensures.full
