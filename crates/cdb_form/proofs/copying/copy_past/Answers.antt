use Rattle.cdb_form.proofs.Words.{ap, arith, drop, length, length-drop, length-take-le, refl, take, take_at, ◌-◌, ◌∙◌, ◌≡◌}
use Rattle.cdb_form.proofs.Bytes.CopyLemmas.{copied_more, length-put_mid, take_fewer}
use Rattle.cdb_form.proofs.Bytes.HeadLemmas.{rest_of}
use Rattle.cdb_form.proofs.copying.copy_past.Goals as goal

pub loop-done-init : goal.loop-done-init
loop-done-init c = record {
  from = omega arith;
  into = omega (arith, c.copy_64.auto.into, c.requires.into);
  copied = ap (take 64) c.copy_64.ensures ∙ take_at (take 64 c.args.from.now) (drop 64 c.args.into.now) 64 (length-take-le 64 c.args.from.now (omega arith));
}

pub loop-done-preserved : goal.loop-done-preserved
loop-done-preserved c =
    let done = c.loop-done.done in
    let from = c.args.from.now in
    let into = c.loop-done.into in
    let so = c.loop-done.invariant in
    let ys = c.copy_64-in-loop-done.new.into in
    let room : length into ≡ length c.args.into.now = c.loop-done.auto.into ∙ c.copy_64.auto.into in
    let rest = rest_of done (length from) from refl in
    let front : take 64 (take (length from - done) (drop done from)) ≡ take 64 (drop done from) = ap (take 64) rest in
    let long : length (take 64 (take (length from - done) (drop done from))) ≡ 64 = ap length front ∙ length-take-le 64 (drop done from) (omega (arith, length-drop done from)) in
    let piece : take 64 ys ≡ take 64 (drop done from) = ap (take 64) c.copy_64-in-loop-done.ensures ∙ take_at _ _ 64 long ∙ front in
    let size : length ys ≡ length into - done = c.copy_64-in-loop-done.auto.into ∙ length-take-le (length into - done) (drop done into) (omega (arith, length-drop done into)) in
    record {
      from = omega arith;
      into = omega (arith, room, length-put_mid done (length into - done) into ys (omega arith) size);
      copied = copied_more done (length into - done) 64 from into ys so.copied so.into piece (omega (arith, size, room));
    }

pub returns : goal.returns
returns c = take_fewer c.args.len c.loop-done.done c.loop-done.into c.args.from.now (omega arith) c.loop-done.invariant.copied
