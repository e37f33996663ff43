use Rattle.cdb_store.proofs.Words.{arith, failure_count, length, length-take-le, take, take_all, ℕ, ◌-◌, ◌<◌, ◌∙◌, ◌≡◌, ◌≤◌}
use Rattle.cdb_store.proofs.RawCalls.{came_none, came_more, read_untouched, read_fine, vain_untouched, vain_failed, untouched_refl, untouched_trans}
use Rattle.cdb_store.proofs.Puts.{take_piece_put}
use Rattle.cdb_store.proofs.Answered.{held_on_err}
use Rattle.cdb_store.proofs.transfer.read_all.Goals as goal

pub loop-done-init : goal.loop-done-init
loop-done-init g c = record { inside = omega arith; came = came_none c.args.pos (g.F.RawFile.calls c.args.file.now); untouched = untouched_refl _; fine = omega arith }

pub read_some-requires-clause-known : goal.read_some-requires-clause-known
read_some-requires-clause-known g c = c.loop-done.invariant.untouched.known ∙ c.requires.known

pub returns-in_err-done-clause-untouched : goal.returns-in_err-done-clause-untouched
returns-in_err-done-clause-untouched g c = untouched_trans c.loop-done.invariant.untouched (vain_untouched c.in_err-done.ensures.err)

pub returns-in_err-done-clause-cause : goal.returns-in_err-done-clause-cause
returns-in_err-done-clause-cause g c =
    let less = vain_failed c.in_err-done.ensures.err in
    let rises : failure_count (g.F.RawFile.calls c.args.file.now) < failure_count (g.F.RawFile.calls c.read_some.new.file) = omega (arith, less, c.loop-done.invariant.untouched.later) in
    held_on_err _ _ rises

pub loop-done-preserved : goal.loop-done-preserved
loop-done-preserved g c =
    let d : ℕ = c.loop-done.done in
    let n : ℕ = c.in_ok-done.field-0 in
    let fits : n ≤ length c.read_some.new.into = c.in_ok-done.ensures.count.1 in
    let l : length (take d c.loop-done.into) ≡ d = length-take-le _ _ (omega arith) in
    record {
      inside = omega (arith, fits);
      came = rw (take_piece_put d (length c.loop-done.into - d) n c.loop-done.into c.read_some.new.into (omega arith) fits)
          (came_more c.args.pos (take d c.loop-done.into) (omega arith) c.loop-done.invariant.came c.in_ok-done.ensures.ok);
      untouched = untouched_trans c.loop-done.invariant.untouched (read_untouched c.in_ok-done.ensures.ok);
      fine = read_fine c.in_ok-done.ensures.ok ∙ c.loop-done.invariant.fine;
    }

pub returns-clause-ok : goal.returns-clause-ok
returns-clause-ok g c = rw (← take_all c.loop-done.done c.loop-done.into (omega arith)) c.loop-done.invariant.came

pub returns-clause-untouched : goal.returns-clause-untouched
returns-clause-untouched g c = c.loop-done.invariant.untouched

pub returns-clause-ok_failures : goal.returns-clause-ok_failures
returns-clause-ok_failures g c = c.loop-done.invariant.fine
