use Rattle.std.proofs.Common.{Bool, List, arith, cond, false, length, length-append, subst, sym, take, true, ℕ, ◌++◌, ◌≡◌}
use Rattle.std.proofs.lemmas.List.{length-take-le, take-append-le}
use Rattle.cdb_form.specs.Format.{AreBytes}
use Rattle.cdb_form_tests.proofs.tests.pieces.next_in_pieces.Goals as goal

either_are : (b : Bool) (new xs ys : List ℕ) → new ≡ cond b xs ys → AreBytes xs → AreBytes ys → AreBytes new
either_are true new xs ys e longer same = subst AreBytes (sym e) longer
either_are false new xs ys e longer same = subst AreBytes (sym e) same

pub invariant_of-into-in-loop-left : goal.invariant_of-into-in-loop-left
invariant_of-into-in-loop-left g c =
    let inv = c.loop-left.invariant in
    let e = c.in_ok-n.ensures in
    let more = e.reads c.args.text.now _ _ _ inv.amid inv.left in
    record {
      key_bytes = c.loop-left.into.key_bytes;
      value_bytes = either_are _ _ _ _ (rw (take-append-le c.in_ok-n.n c.read_value.new.into _ e.bound.2) at c.extend_from_slice.ensures.items) more.are inv.amid.are;
    }

pub loop-left-preserved : goal.loop-left-preserved
loop-left-preserved g c =
    let inv = c.loop-left.invariant in
    let e = c.in_ok-n.ensures in
    let more = e.reads c.args.text.now _ _ _ inv.amid inv.left in
    let piece = take c.in_ok-n.n c.read_value.new.into in
    let items : c.extend_from_slice.new.self.items ≡ c.loop-left.into.value.items ++ piece = rw (take-append-le c.in_ok-n.n c.read_value.new.into _ e.bound.2) at c.in_ok-extend_from_slice.ensures.items in
    let long : length piece ≡ c.in_ok-n.n = length-take-le c.in_ok-n.n c.read_value.new.into e.bound.2 in
    rw items record { amid = more; left = omega (arith, long, inv.left, length-append c.loop-left.into.value.items piece) }

pub end_value-requires : goal.end_value-requires
end_value-requires g c =
    let inv = c.loop-left.invariant in
    record { whole = (c.args.text.now, _, _, _, inv.amid, omega (arith, inv.left, inv.amid.within, c.loop-left-test.false)) }

pub returns : goal.returns
returns g c =
    let inv = c.loop-left.invariant in
    c.in_ok-end_value.ensures.gives c.args.text.now _ _ _ inv.amid (omega (arith, inv.left, inv.amid.within, c.loop-left-test.false))
