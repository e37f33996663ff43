use Rattle.cdb_form.proofs.Words.{ap, arith, drop, length, length-take-le, take, take_at, ◌∙◌, ◌≡◌}
use Rattle.std.proofs.lemmas.Simd.{length-put_chunk}
use Rattle.cdb_form.proofs.Bytes.CopyLemmas.{put_front, stored_more, take_fewer}
use Rattle.cdb_form.proofs.copying.copy_short.Goals as goal

pub loop-done-init : goal.loop-done-init
loop-done-init c =
    let from = c.args.from.now in
    let into = c.args.into.now in
    let one : length (take 16 from) ≡ 16 = length-take-le 16 from (omega arith) in
    record {
      from = omega arith;
      into = omega (arith, length-put_chunk 0 into (take 16 from));
      copied = ap (take 16) (put_front 16 into (take 16 from) one (omega arith)) ∙ take_at (take 16 from) (drop 16 into) 16 one;
    }

pub loop-done-preserved : goal.loop-done-preserved
loop-done-preserved c =
    let done = c.loop-done.done in
    let from = c.args.from.now in
    let into = c.loop-done.into in
    let so = c.loop-done.invariant in
    let start = length-put_chunk 0 c.args.into.now (take 16 from) in
    let more = stored_more done 16 from into so.copied (omega arith) (omega (arith, c.loop-done.auto.into, start, c.requires.into)) in
    record {
      from = omega arith;
      into = more.0;
      copied = more.1;
    }

pub returns : goal.returns
returns c = take_fewer c.args.len c.loop-done.done c.loop-done.into c.args.from.now (omega arith) c.loop-done.invariant.copied
