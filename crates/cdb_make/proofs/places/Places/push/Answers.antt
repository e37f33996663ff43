use Rattle.cdb_make.proofs.Words.{arith, vec_capacity}
use Rattle.cdb_make.proofs.Halves.{length-halves, room_wide, room_narrow, pushed_wide, pushed_narrow}
use Rattle.cdb_make.proofs.places.Places.push.Goals as goal

pub push_reserved-requires : goal.push_reserved-requires
push_reserved-requires g c =
    let s = c.args.self.now in
    let w = c.is_wide.ensures.wide c.if-is_wide.true in
    omega (arith, length-halves s.lows.items s.highs.items, s.lows.ok.0, s.highs.ok.0, s.wide w, room_wide g.L.Width.WORD (vec_capacity s.lows) (vec_capacity s.highs) w, c.requires.room)

pub push_reserved-requires-then-is_wide : goal.push_reserved-requires-then-is_wide
push_reserved-requires-then-is_wide g c =
    let s = c.args.self.now in
    let w = c.is_wide.ensures.wide c.if-is_wide.true in
    omega (arith, length-halves s.lows.items s.highs.items, s.lows.ok.0, s.highs.ok.0, s.wide w, room_wide g.L.Width.WORD (vec_capacity s.lows) (vec_capacity s.highs) w, c.requires.room)

pub push_reserved-requires-else-is_wide : goal.push_reserved-requires-else-is_wide
push_reserved-requires-else-is_wide g c =
    let s = c.args.self.now in
    let w = c.is_wide.ensures.narrow c.if-is_wide.false in
    omega (arith, length-halves s.lows.items s.highs.items, s.lows.ok.0, room_narrow g.L.Width.WORD (vec_capacity s.lows) (vec_capacity s.highs) w, c.requires.room)

pub returns-then-is_wide-clause-places : goal.returns-then-is_wide-clause-places
returns-then-is_wide-clause-places g c =
    let s = c.args.self.now in
    let w = c.is_wide.ensures.wide c.if-is_wide.true in
    pushed_wide s.lows.items s.highs.items _ _ c.args.place _ _ (s.wide w) c.push_reserved-then-is_wide.ensures.items c.push_reserved.ensures.items (omega arith)

pub returns-else-is_wide-clause-places : goal.returns-else-is_wide-clause-places
returns-else-is_wide-clause-places g c =
    let s = c.args.self.now in
    pushed_narrow s.lows.items s.highs.items _ c.args.place (s.narrow (c.is_wide.ensures.narrow c.if-is_wide.false)) c.push_reserved-else-is_wide.ensures.items
