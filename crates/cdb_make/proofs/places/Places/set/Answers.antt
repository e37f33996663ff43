use Rattle.std.proofs.Common.{arith}
use Rattle.cdb_make.proofs.Halves.{length-halves, set_wide, set_narrow}
use Rattle.cdb_make.proofs.places.Places.set.Goals as goal

pub index_mut-requires : goal.index_mut-requires
index_mut-requires g c =
    let s = c.args.self.now in
    omega (arith, length-halves s.lows.items s.highs.items, s.lows.ok.0, s.highs.ok.0, s.wide (c.is_wide.ensures.wide c.if-is_wide.true), c.requires.within)

pub index_mut-requires-then-is_wide : goal.index_mut-requires-then-is_wide
index_mut-requires-then-is_wide g c =
    let s = c.args.self.now in
    omega (arith, length-halves s.lows.items s.highs.items, s.lows.ok.0, c.requires.within)

pub index_mut-requires-else-is_wide : goal.index_mut-requires-else-is_wide
index_mut-requires-else-is_wide g c =
    let s = c.args.self.now in
    omega (arith, length-halves s.lows.items s.highs.items, s.lows.ok.0, c.requires.within)

pub returns-then-is_wide-clause-places : goal.returns-then-is_wide-clause-places
returns-then-is_wide-clause-places g c =
    let s = c.args.self.now in
    set_wide s.lows.items s.highs.items c.args.n c.args.place _ _ (s.wide (c.is_wide.ensures.wide c.if-is_wide.true)) (omega arith)

pub returns-else-is_wide-clause-places : goal.returns-else-is_wide-clause-places
returns-else-is_wide-clause-places g c =
    let s = c.args.self.now in
    set_narrow s.lows.items s.highs.items c.args.n c.args.place (s.narrow (c.is_wide.ensures.narrow c.if-is_wide.false))
