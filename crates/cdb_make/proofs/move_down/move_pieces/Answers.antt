use Rattle.cdb_make.proofs.Words.{AreSized, arith, common_steps, length, refl, rules, ◌≡◌}
use Rattle.cdb_store.proofs.Moves.{copied_none, copied_more, within_none, within_more}
use Rattle.cdb_make.proofs.move_down.move_pieces.Goals as goal

pub loop-done-init : goal.loop-done-init
loop-done-init g c = record {
  inside = omega arith;
  copied = copied_none _ _ _;
  torn = within_none _ _ _;
  size = refl;
  written = omega arith;
  failures = refl;
  unwritten = omega arith;
  room = omega arith;
}

pub returns-in_err-write_at-clause-torn : goal.returns-in_err-write_at-clause-torn
returns-in_err-write_at-clause-torn g c =
    let l : length c.read_at.new.into ≡ c.min-n.result = search rules in
    within_more (omega arith) (omega arith) c.loop-done.invariant.torn c.in_ok-read_at.ensures.ok c.write_at.ensures.torn

pub loop-done-preserved : goal.loop-done-preserved
loop-done-preserved g c =
    let sized : AreSized (g.S.Store.size c.args.store.now) (g.S.Store.image c.args.store.now) = record { each = g.met.S.Store.image_size c.args.store.now } in
    let l : length c.read_at.new.into ≡ c.min-n.result = search rules in
    record {
      inside = omega arith;
      copied = copied_more {size = g.S.Store.size c.args.store.now} c.requires.lower (omega arith) (omega arith) sized c.loop-done.invariant.copied c.in_ok-read_at.ensures.ok c.in_ok-write_at.ensures.ok;
      torn = within_more (omega arith) (omega arith) c.loop-done.invariant.torn c.in_ok-read_at.ensures.ok c.write_at.ensures.torn;
      size = omega (arith, c.in_ok-write_at.ensures.longer, c.in_ok-write_at.ensures.not_past);
      written = omega (arith, c.in_ok-write_at.ensures.ok_written);
      failures = omega (arith, c.in_ok-write_at.ensures.ok_failures, c.in_ok-read_at.ensures.ok_failures);
      unwritten = omega (arith, c.loop-done.invariant.unwritten, c.read_at.ensures.unwritten, c.write_at.ensures.unwritten.later);
      room = omega arith;
    }

pub returns-in_err-write_at-clause-memory : goal.returns-in_err-write_at-clause-memory
returns-in_err-write_at-clause-memory g c = grind (arith, common_steps)

pub returns-in_err-write_at-clause-size : goal.returns-in_err-write_at-clause-size
returns-in_err-write_at-clause-size g c = search rules

pub returns-in_err-write_at-clause-at_most_written : goal.returns-in_err-write_at-clause-at_most_written
returns-in_err-write_at-clause-at_most_written g c = search rules
