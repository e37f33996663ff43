use Rattle.cdb_make.proofs.Words.{List, ap, arith, get_or, length, of_halves, subst, sym, ℕ, ◌*◌, ◌+◌, ◌<◌, ◌^◌, ◌∙◌, ◌≡◌}
use Rattle.cdb_make.proofs.Halves.{length-halves, halves-none, get_or-halves}
use Rattle.cdb_make.proofs.places.Places.at.Goals as goal

pub index-requires : goal.index-requires
index-requires g c =
    let s = c.args.self.now in
    omega (arith, length-halves s.lows.items s.highs.items, s.lows.ok.0, c.requires)

pub index-requires-then-is_wide : goal.index-requires-then-is_wide
index-requires-then-is_wide g c =
    let s = c.args.self.now in
    let sides : length s.highs.items ≡ length s.lows.items = s.wide (c.is_wide.ensures.wide c.if-is_wide.true) in
    omega (arith, length-halves s.lows.items s.highs.items, s.lows.ok.0, s.highs.ok.0, sides, c.requires)

pub returns-then-is_wide-clause-at : goal.returns-then-is_wide-clause-at
returns-then-is_wide-clause-at g c =
    let s = c.args.self.now in
    let ls : List ℕ = s.lows.items in
    let hs : List ℕ = s.highs.items in
    let n : ℕ = c.args.n in
    let sides : length hs ≡ length ls = s.wide (c.is_wide.ensures.wide c.if-is_wide.true) in
    let lt : n < length ls = omega (arith, length-halves ls hs, c.requires) in
    let low : c.from-low.result ≡ get_or ls n c.index.result.now = c.from-low.ensures ∙ c.index.ensures in
    let high : c.from.result ≡ get_or hs n c.index-then-is_wide.result.now = c.from.ensures ∙ c.index-then-is_wide.ensures in
    ap (λ (k : ℕ). k + c.from.result * 2 ^ 32) low
    ∙ ap (λ (k : ℕ). get_or ls n c.index.result.now + k * 2 ^ 32) high
    ∙ sym (get_or-halves ls hs n _ c.index.result.now c.index-then-is_wide.result.now sides lt)

pub returns-else-is_wide-clause-at : goal.returns-else-is_wide-clause-at
returns-else-is_wide-clause-at g c =
    let s = c.args.self.now in
    let n : ℕ = c.args.n in
    let none = s.narrow (c.is_wide.ensures.narrow c.if-is_wide.false) in
    let low : ℕ = c.from-low.result in
    let whole : get_or (of_halves s.lows.items s.highs.items) n low ≡ get_or s.lows.items n low =
    ap (λ (v : List ℕ). get_or (of_halves s.lows.items v) n low) none ∙ ap (λ (v : List ℕ). get_or v n low) (halves-none s.lows.items) in
    let here : c.index.result.now ≡ get_or s.lows.items n c.index.result.now = c.index.ensures in
    let same : low ≡ c.index.result.now = c.from-low.ensures in
    subst (λ (k : ℕ). k ≡ get_or s.lows.items n k) (sym same) here ∙ sym whole
