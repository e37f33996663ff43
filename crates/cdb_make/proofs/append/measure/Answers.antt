use Rattle.cdb_make.proofs.Words.{List, None, Some, arith, drop, length, prefix_size, subst, ℕ, ◌<◌, ◌≡◌, ◌≤◌}
use Rattle.std.proofs.lemmas.List.{take_rest}
use Rattle.cdb_form.specs.Views.Prefix.{PrefixTells}
use Rattle.cdb_make.proofs.Bytes.Fitting.{first_more, next_splits, next_sums, no_next}
use Rattle.cdb_make.proofs.append.measure.Goals as goal
use Rattle.cdb_make.proofs.append.measure.Goals.{then-left-slots-via-then-left-slots, then-left-slots-via-else-left-slots+then-left-slots-2}

pub returns-then-left-slots-clause-more : goal.returns-then-left-slots-clause-more
returns-then-left-slots-clause-more g c = λ e.
    let w : ℕ = g.L.Width.WORD in
    let bytes : List ℕ = c.args.bytes.now in
    let i = c.loop-next.invariant in
    let told : PrefixTells w (drop c.loop-next.place bytes) (Some c.in-Some.next) = subst (λ t. PrefixTells w t (Some c.in-Some.next)) (take_rest bytes c.loop-next.place) c.in-Some.ensures in
    let some : 0 < g.L.Width.WORD = omega (arith, g.met.L.Width.four_or_eight) in
    (next_splits w bytes c.loop-next.count c.loop-next.place some i.first (omega (arith, told.0, told.1))).0

pub returns-then-left-slots-clause-passes : goal.returns-then-left-slots-clause-passes
returns-then-left-slots-clause-passes g c = λ e.
    let w : ℕ = g.L.Width.WORD in
    let bytes : List ℕ = c.args.bytes.now in
    let i = c.loop-next.invariant in
    let told : PrefixTells w (drop c.loop-next.place bytes) (Some c.in-Some.next) = subst (λ t. PrefixTells w t (Some c.in-Some.next)) (take_rest bytes c.loop-next.place) c.in-Some.ensures in
    let is : c.in-Some.next ≡ prefix_size w (drop c.loop-next.place bytes) = told.0 in
    let some : 0 < g.L.Width.WORD = omega (arith, g.met.L.Width.four_or_eight) in
    let sums = next_sums w bytes c.loop-next.count c.loop-next.place some i.first (omega (arith, told.0, told.1)) in
    elim c.then-left-slots.branch [
      | then-left-slots-via-then-left-slots v ↦ omega (arith, i.room, c.pair_size.ensures)
      | then-left-slots-via-else-left-slots+then-left-slots-2 v ↦ omega (arith, i.room, c.pair_size.ensures)
    ]

pub loop-next-preserved : goal.loop-next-preserved
loop-next-preserved g c =
    let w : ℕ = g.L.Width.WORD in
    let bytes : List ℕ = c.args.bytes.now in
    let place : ℕ = c.loop-next.place in
    let next : ℕ = c.in-Some.next in
    let i = c.loop-next.invariant in
    let told : PrefixTells w (drop place bytes) (Some next) = subst (λ t. PrefixTells w t (Some next)) (take_rest bytes place) c.in-Some.ensures in
    let is : next ≡ prefix_size w (drop place bytes) = told.0 in
    let fits : next ≤ length (drop place bytes) = told.1 in
    let some : 0 < g.L.Width.WORD = omega (arith, g.met.L.Width.four_or_eight) in
    let sums = next_sums w bytes c.loop-next.count place some i.first (omega (arith, told.0, told.1)) in
    record {
      first = first_more w bytes c.loop-next.count place next some (λ k. omega (arith, c.type_inv.bytes k)) i.first is fits;
      room = omega (arith, i.room, c.pair_size.ensures);
      below = omega (arith, i.below);
    }

pub returns-clause-all : goal.returns-clause-all
returns-clause-all g c = λ e.
    let w : ℕ = g.L.Width.WORD in
    let bytes : List ℕ = c.args.bytes.now in
    let i = c.loop-next.invariant in
    let told : PrefixTells w (drop c.loop-next.place bytes) None = subst (λ t. PrefixTells w t None) (take_rest bytes c.loop-next.place) c.in_default.ensures in
    no_next w bytes c.loop-next.count c.loop-next.place i.first told
