use Rattle.cdb_store.proofs.Words.{List, arith, failure_count, length, length-take, length-take-le, take, take_all, ℕ, ◌-◌, ◌<◌, ◌∙◌, ◌≡◌, ◌≤◌}
use borrow.Rule.Slice.PartMut.{mid_of}
use Rattle.cdb_store.proofs.Puts.{put_none, put_asked, put_more, torn_vain, torn_behind_put, written_asked, written_vain, take_piece_of}
use Rattle.cdb_store.proofs.Answered.{held_on_err}
use Rattle.cdb_store.proofs.transfer.write_all.Goals as goal

pub loop-done-init : goal.loop-done-init
loop-done-init g c = record { inside = omega arith; put = put_none _ _ c.requires.inside; written = omega arith; fine = omega arith; known = c.requires.known; syncs = omega arith }

pub write_some-requires-clause-known : goal.write_some-requires-clause-known
write_some-requires-clause-known g c = c.loop-done.invariant.known

pub returns-in_err-done-clause-err : goal.returns-in_err-done-clause-err
returns-in_err-done-clause-err g c =
    let l : length (take c.loop-done.done c.args.bytes.now) ≡ c.loop-done.done = length-take-le _ _ c.loop-done.invariant.inside in
    let t = torn_vain c.in_err-done.ensures.err in
    held_on_err _ _ (torn_behind_put (omega arith) (omega arith) c.loop-done.invariant.put t)

pub returns-in_err-done-clause-cause : goal.returns-in_err-done-clause-cause
returns-in_err-done-clause-cause g c =
    let w = written_vain c.in_err-done.ensures.err in
    let rises : failure_count (g.F.RawFile.calls c.args.file.now) < failure_count (g.F.RawFile.calls c.write_some.new.file) = omega (arith, w.1, c.loop-done.invariant.fine) in
    held_on_err _ _ rises

pub returns-in_err-done-clause-more_written : goal.returns-in_err-done-clause-more_written
returns-in_err-done-clause-more_written g c = let w = written_vain c.in_err-done.ensures.err in omega (arith, w.0, c.loop-done.invariant.written)

pub returns-in_err-done-clause-at_most_written : goal.returns-in_err-done-clause-at_most_written
returns-in_err-done-clause-at_most_written g c = let w = written_vain c.in_err-done.ensures.err in omega (arith, w.0, c.loop-done.invariant.written, c.loop-done.invariant.inside)

pub returns-in_err-done-clause-later : goal.returns-in_err-done-clause-later
returns-in_err-done-clause-later g c = let w = written_vain c.in_err-done.ensures.err in omega (arith, w.1, c.loop-done.invariant.fine)

pub returns-in_err-done-clause-still_known : goal.returns-in_err-done-clause-still_known
returns-in_err-done-clause-still_known g c = let w = written_vain c.in_err-done.ensures.err in w.2 ∙ c.loop-done.invariant.known

pub loop-done-preserved : goal.loop-done-preserved
loop-done-preserved g c =
    let d : ℕ = c.loop-done.done in
    let n : ℕ = c.in_ok-done.field-0 in
    let rest : List ℕ = mid_of d (length c.args.bytes.now - d) c.args.bytes.now in
    let fits : n ≤ length rest = c.in_ok-done.ensures.count.1 in
    let few : n ≤ length c.args.bytes.now - d = omega (arith, fits, length-take {A = ℕ}) in
    let l : length (take d c.args.bytes.now) ≡ d = length-take-le _ _ c.loop-done.invariant.inside in
    let p : length (take n rest) ≡ n = length-take-le _ _ fits in
    let w = written_asked c.in_ok-done.ensures.ok in
    record {
      inside = omega arith;
      put = rw (take_piece_of d (length c.args.bytes.now - d) n c.args.bytes.now few) (put_more (omega arith) c.loop-done.invariant.put (put_asked c.in_ok-done.ensures.ok));
      written = omega (arith, w.0, p, c.loop-done.invariant.written);
      fine = w.1 ∙ c.loop-done.invariant.fine;
      known = w.2 ∙ c.loop-done.invariant.known;
      syncs = w.3 ∙ c.loop-done.invariant.syncs;
    }

pub returns-clause-ok : goal.returns-clause-ok
returns-clause-ok g c = rw (← take_all c.loop-done.done c.args.bytes.now (omega arith)) c.loop-done.invariant.put

pub returns-clause-ok_written : goal.returns-clause-ok_written
returns-clause-ok_written g c = omega (arith, c.loop-done.invariant.written, c.loop-done.invariant.inside)

pub returns-clause-more_written : goal.returns-clause-more_written
returns-clause-more_written g c = omega (arith, c.loop-done.invariant.written)

pub returns-clause-at_most_written : goal.returns-clause-at_most_written
returns-clause-at_most_written g c = omega (arith, c.loop-done.invariant.written, c.loop-done.invariant.inside)

pub returns-clause-later : goal.returns-clause-later
returns-clause-later g c = omega (arith, c.loop-done.invariant.fine)

pub returns-clause-still_known : goal.returns-clause-still_known
returns-clause-still_known g c = c.loop-done.invariant.known

pub returns-in_err-done-clause-syncs : goal.returns-in_err-done-clause-syncs
returns-in_err-done-clause-syncs g c = let w = written_vain c.in_err-done.ensures.err in w.3 ∙ c.loop-done.invariant.syncs

pub returns-clause-syncs : goal.returns-clause-syncs
returns-clause-syncs g c = c.loop-done.invariant.syncs

pub returns-clause-ok_failures : goal.returns-clause-ok_failures
returns-clause-ok_failures g c = c.loop-done.invariant.fine
