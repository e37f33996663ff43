use Rattle.cdb_make.proofs.Words.{KeyValue, List, ap, arith, length, length-take-le, mul-le-mul_left, records_at, size_split, take, ℕ, ◌*◌, ◌-◌, ◌/◌, ◌≡◌, ◌≤◌}
use Rattle.std.proofs.Math.Nat.{div-mul-le_self}
use Rattle.std.proofs.lemmas.Bool.{leb-true}
use Rattle.cdb_make.proofs.maker.Maker.holds_beside.Goals as goal

pub returns-then-count-room : goal.returns-then-count-room
returns-then-count-room g c = λ fits.
    let w : ℕ = g.L.Width.WORD in
    let n : ℕ = c.args.count in
    let all : List KeyValue = records_at w c.args.bytes.now in
    let rs : List KeyValue = take n all in
    let room : ℕ = c.args.self.now.limit - c.full_size.result in
    let slots : ℕ = 2 * c.pair_size.result in
    let split = size_split w rs in
    let many : 4 * w * length rs ≡ 4 * w * n = ap (λ (k : ℕ). 4 * w * k) (length-take-le n all c.requires.whole.few) in
    let few : n ≤ room / slots = omega (arith, c.if-count-room.true) in
    let le : slots * n ≤ slots * (room / slots) = mul-le-mul_left slots few in
    let div = div-mul-le_self room slots in
    let pair : slots * n ≡ 2 * (2 * w) * n = ap (λ (k : ℕ). 2 * k * n) c.pair_size.ensures in
    let long : length c.args.bytes.now ≤ room - slots * n = leb-true (length c.args.bytes.now) (room - slots * n) fits in
    omega (arith, long, le, div, pair, many, split, c.requires.whole.sum, c.full_size.ensures.is)
