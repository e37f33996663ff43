use Rattle.cdb_form.proofs.Words.{ap, arith, common_steps, digit_value, rules, ◌*◌, ◌+◌, ◌∙◌, ◌≡◌}
use Rattle.cdb_form.proofs.Sources.SourceLemmas.{digit_more, digits_leave, told_of_text}
use Rattle.cdb_form.proofs.text.source.Source.number.Goals as goal

pub loop-byte-preserved : goal.loop-byte-preserved
loop-byte-preserved g c =
    let code : digit_value c.from.result ≡ digit_value c.in-Some.byte = ap digit_value c.from.ensures in
    let digit = c.in-Some-to_digit.ensures.value in
    let longer = c.in-Some-with_digit.ensures in
    let counted = rw c.in-Some.is at c.in_ok-byte.ensures.counted in
    record {
      start = search rules;
      asks = search rules;
      spent = omega (arith, c.loop-byte.invariant.spent, c.in_ok-byte.ensures.spends, counted);
      so_far = digit_more _ _ _ _ _ _ _ c.in-Some.byte _ _ c.loop-byte.invariant.so_far (rw c.in-Some.is at c.in_ok-byte.ensures.bytes)
          (rw (← code) digit.0) (longer.1 ∙ ap (λ d. c.loop-byte.value * 10 + d) (digit.1 ∙ code)) (omega (arith, longer.0, longer.1)) counted;
    }

pub returns-in-None-with_digit-clause-leaves : goal.returns-in-None-with_digit-clause-leaves
returns-in-None-with_digit-clause-leaves g c =
    let counted = rw c.in-Some.is at c.in_ok-byte.ensures.counted in
    digits_leave _ _ c.loop-byte.self _ _ _ _ _ _ c.loop-byte.invariant.so_far c.loop-byte.invariant.start c.loop-byte.invariant.spent
    (rw c.in-Some.is at c.in_ok-byte.ensures.bytes) counted c.in_ok-byte.ensures.spends counted (told_of_text _ _ _ tt)

pub returns-else-byte-stop-clause-leaves : goal.returns-else-byte-stop-clause-leaves
returns-else-byte-stop-clause-leaves g c =
    let counted = rw c.in-Some.is at c.in_ok-byte.ensures.counted in
    digits_leave _ _ c.loop-byte.self _ _ _ _ _ _ c.loop-byte.invariant.so_far c.loop-byte.invariant.start c.loop-byte.invariant.spent
    (rw c.in-Some.is at c.in_ok-byte.ensures.bytes) counted c.in_ok-byte.ensures.spends counted (told_of_text _ _ _ tt)

pub returns-in_default-clause-leaves : goal.returns-in_default-clause-leaves
returns-in_default-clause-leaves g c = grind (arith, common_steps)

pub returns-in_err-byte-clause-fails : goal.returns-in_err-byte-clause-fails
returns-in_err-byte-clause-fails g c = grind (arith, common_steps)

pub returns-then-start-at-clause-read : goal.returns-then-start-at-clause-read
returns-then-start-at-clause-read g c = grind (arith, common_steps)

pub returns-then-start-at-clause-leaves : goal.returns-then-start-at-clause-leaves
returns-then-start-at-clause-leaves g c = omega arith

pub returns-else-byte-stop-clause-read : goal.returns-else-byte-stop-clause-read
returns-else-byte-stop-clause-read g c = omega arith
