use Rattle.cdb_make.proofs.Words.{AreChained, IsPicked, List, Mark, all_marks, ap, arith, found_of, gone_of, head_size, length, marks_in, places_in, searched, subst, sym, ℕ, ◌∙◌, ◌≡◌}
use Rattle.cdb_make.proofs.Marking.{all_again, all_long}
use Rattle.cdb_make.proofs.roll.Roll.mark_all.Goals.{After-mark_each}
use Rattle.cdb_make.proofs.roll.Roll.mark_all.Goals as goal

now : (g : _) (c : After-mark_each g) → c.mark_each.new.marks.items ≡ marks_in c.args.self.now
now g c =
    let m = c.args.self.now in
    let count : c.len.result ≡ length m.hashes.items = omega (arith, c.len.ensures, m.hashes.ok.0) in
    c.mark_each.ensures.all ∙ ap (λ (n : ℕ). all_marks n m.marks.items) count

-- all that there were, and no more
still : (g : _) (c : After-mark_each g) → marks_in c.args.self.now ≡ all_marks (length c.args.self.now.hashes.items) c.mark_each.new.marks.items
still g c =
    let m = c.args.self.now in
    let n : ℕ = length m.hashes.items in
    sym (ap (all_marks n) (now g c) ∙ all_again n m.marks.items m.marked)

pub invariant_of-self-clause-marked : goal.invariant_of-self-clause-marked
invariant_of-self-clause-marked g c =
    let m = c.args.self.now in
    omega (arith, ap length (now g c), all_long (length m.hashes.items) m.marks.items m.marked)

pub invariant_of-self-clause-chained : goal.invariant_of-self-clause-chained
invariant_of-self-clause-chained g c =
    let m = c.args.self.now in
    subst (λ (v : List Mark). AreChained m.chains.heads.items m.chains.before.items (searched m) (gone_of v)) (still g c) m.chained

pub invariant_of-self-clause-picked : goal.invariant_of-self-clause-picked
invariant_of-self-clause-picked g c =
    let m = c.args.self.now in
    subst (λ (v : List Mark). IsPicked (head_size g.L.Width.WORD) (places_in m.places) m.end (gone_of v) m.gone) (still g c) m.picked

pub invariant_of-self-clause-sought : goal.invariant_of-self-clause-sought
invariant_of-self-clause-sought g c =
    let m = c.args.self.now in
    subst (λ (v : List Mark). IsPicked (head_size g.L.Width.WORD) (places_in m.places) m.end (found_of v) m.found) (still g c) m.sought

pub returns-clause-marks : goal.returns-clause-marks
returns-clause-marks g c = now g (goal.at.returns-clause-marks g c).After-mark_each

pub returns-clause-marked : goal.returns-clause-marked
returns-clause-marked g c =
    let m = c.args.self.now in
    ap length (now g (goal.at.returns-clause-marked g c).After-mark_each) ∙ all_long (length m.hashes.items) m.marks.items m.marked

pub returns-clause-all : goal.returns-clause-all
returns-clause-all g c = sym (still g (goal.at.returns-clause-all g c).After-mark_each)
