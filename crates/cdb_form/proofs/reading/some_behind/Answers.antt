use Rattle.cdb_form.proofs.Words.{ap, arith, common_steps, drop, length, length-drop, rules, take, ◌++◌, ◌+◌, ◌-◌, ◌∙◌, ◌≡◌, ◌≤◌}
use Rattle.std.proofs.lemmas.List.{length-take, length-take-le}
use Rattle.cdb_form.proofs.Bytes.ByteLemmas.{AreBytes-take}
use Rattle.cdb_form.proofs.Sources.AskingLemmas.{same_prefix, came_behind}
use Rattle.cdb_form.proofs.reading.some_behind.Goals as goal

pub returns-in-Ok-clause-read : goal.returns-in-Ok-clause-read
returns-in-Ok-clause-read g c =
    let held = c.args.held in
    let old = c.args.into.now.items in
    let longer = c.lengthen.new.into.items in
    let xs = c.deref_mut.result.now in
    let ys = c.some_bytes.new.into in
    let n = c.in-Ok.n in
    let e = c.in-Ok.ensures in
    let front : take held xs ≡ take held old = ap (take held) c.deref_mut.ensures.value ∙ same_prefix held old longer c.requires.within c.lengthen.ensures.front in
    let fits : held ≤ length xs = omega (arith, c.requires.within, c.lengthen.ensures.longer, ap length c.deref_mut.ensures.value) in
    let within : held + n ≤ c.lengthen.new.into.len =
    omega (arith, fits, e.bound, c.some_bytes.auto.into, length-take (held + c.args.most - held) (drop held xs), length-drop held xs, c.deref_mut.ensures.len) in (
      take n ys,
      e.bytes,
      came_behind held n c.lengthen.new.into.len (take held xs) ys _ _ (length-take-le held xs fits) e.bound within ∙ ap (λ t. t ++ take n ys) front,
      AreBytes-take n ys e.are,
      length-take-le n ys e.bound,
    )

pub returns-in-Ok-eq0-clause-why : goal.returns-in-Ok-eq0-clause-why
returns-in-Ok-eq0-clause-why g c = grind (arith, common_steps)

pub returns-in-Err-clause-holds : goal.returns-in-Err-clause-holds
returns-in-Err-clause-holds g c = grind (arith, common_steps)

pub returns-in-Ok-eq0-clause-holds : goal.returns-in-Ok-eq0-clause-holds
returns-in-Ok-eq0-clause-holds g c = grind (arith, common_steps)

pub returns-in-Ok-clause-within : goal.returns-in-Ok-clause-within
returns-in-Ok-clause-within g c = grind (arith, common_steps)

pub some_bytes-requires : goal.some_bytes-requires
some_bytes-requires g c = omega arith

pub returns-then-is_err-clause-why : goal.returns-then-is_err-clause-why
returns-then-is_err-clause-why g c = search rules
