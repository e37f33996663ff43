use Rattle.cdb_make.proofs.Words.{List, ap, arith, count_trailing_zeros, drop, is_among, length, map, mask_l, refl, roll_entries, tables_of, take, ℕ, ◌%◌, ◌+◌, ◌-◌, ◌∙◌, ◌≡◌}
use Rattle.std.proofs.lemmas.List.{length-drop, take_all}
use Rattle.cdb_make.proofs.Gathering.{behind_first, to_end, to_first}
use Rattle.cdb_make.proofs.finish.gather.gather_sixteen.Goals as goal

pub loop-left-init : goal.loop-left-init
loop-left-init g c =
    let n : ℕ = c.args.n in
    let hs : List ℕ = c.args.roll.now.hashes.items in
    let tables : ℕ → List ℕ → ℕ = λ more v. mask_l (map (is_among (c.args.first % 256) more) (take 16 v)) in
    let all : take (length c.deref.result.now - n) (drop n c.deref.result.now) ≡ drop n c.deref.result.now = take_all _ (drop n c.deref.result.now) (omega (arith, length-drop n c.deref.result.now)) in
    let sixteen : 16 ≡ n + 16 - n = omega arith in
    record {
      from = omega arith;
      up = omega arith;
      left = c.of_tables-left.ensures
          ∙ ap (tables c.saturating_sub-more.result) all
          ∙ ap (λ (v : List ℕ). tables c.saturating_sub-more.result (drop n v)) c.deref.ensures.value
          ∙ ap (λ (more : ℕ). tables more (drop n hs)) c.saturating_sub-more.ensures
          ∙ ap (λ (k : ℕ). mask_l (map (is_among (c.args.first % 256) (length c.args.gathered.now - 1)) (take k (drop n hs)))) sixteen;
      all = c.requires.before;
      rooms = refl;
      long = refl;
    }

pub gather_one-requires-clause-inside : goal.gather_one-requires-clause-inside
gather_one-requires-clause-inside g c =
    let inv = c.loop-left.invariant in
    let next = to_first c.args.roll.now c.args.first (length c.args.gathered.now) c.loop-left.at (c.args.n + 16) c.loop-left.left c.requires.within inv.up (omega (arith, inv.from)) c.requires.inside inv.left c.loop-left-test.true in
    omega (arith, next.0, c.requires.inside)

pub gather_one-requires-clause-before : goal.gather_one-requires-clause-before
gather_one-requires-clause-before g c =
    let inv = c.loop-left.invariant in
    let m = c.args.roll.now in
    let next = to_first m c.args.first (length c.args.gathered.now) c.loop-left.at (c.args.n + 16) c.loop-left.left c.requires.within inv.up (omega (arith, inv.from)) c.requires.inside inv.left c.loop-left-test.true in
    inv.all ∙ next.1 ∙ ap (tables_of (take (c.loop-left.at + count_trailing_zeros 64 c.loop-left.left) (roll_entries m)) c.args.first) (omega (arith, inv.long))

pub loop-left-smaller : goal.loop-left-smaller
loop-left-smaller g c =
    let inv = c.loop-left.invariant in
    let next = to_first c.args.roll.now c.args.first (length c.args.gathered.now) c.loop-left.at (c.args.n + 16) c.loop-left.left c.requires.within inv.up (omega (arith, inv.from)) c.requires.inside inv.left c.loop-left-test.true in
    omega (arith, next.0)

pub loop-left-preserved : goal.loop-left-preserved
loop-left-preserved g c =
    let inv = c.loop-left.invariant in
    let m = c.args.roll.now in
    let at : ℕ = c.loop-left.at in
    let r : ℕ = count_trailing_zeros 64 c.loop-left.left in
    let count : ℕ = length c.args.gathered.now in
    let next = to_first m c.args.first count at (c.args.n + 16) c.loop-left.left c.requires.within inv.up (omega (arith, inv.from)) c.requires.inside inv.left c.loop-left-test.true in
    let one = c.gather_one.ensures in
    let long : length c.gather_one.new.gathered ≡ count = one.long ∙ inv.long in
    record {
      from = omega (arith, inv.from);
      up = omega (arith, next.0);
      left = behind_first m c.args.first count at (c.args.n + 16) c.loop-left.left r next.0 inv.left;
      all = one.all ∙ ap (tables_of (take (at + r + 1) (roll_entries m)) c.args.first) long ∙ ap (λ (k : ℕ). tables_of (take k (roll_entries m)) c.args.first count) (omega arith);
      rooms = one.rooms ∙ inv.rooms;
      long = long;
    }

pub returns-clause-all : goal.returns-clause-all
returns-clause-all g c =
    let inv = c.loop-left.invariant in
    let m = c.args.roll.now in
    inv.all
    ∙ to_end m c.args.first (length c.args.gathered.now) c.loop-left.at (c.args.n + 16) c.loop-left.left c.requires.within inv.up c.requires.inside inv.left c.loop-left-test.false
    ∙ ap (tables_of (take (c.args.n + 16) (roll_entries m)) c.args.first) (omega (arith, inv.long))
