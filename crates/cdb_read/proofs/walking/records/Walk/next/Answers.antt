use Rattle.cdb_read.proofs.Words.{ap, drop, refl, walk_ahead, ◌∙◌}
use Rattle.cdb_form.proofs.Files.WalkSteps.{walk_from-end}
use Rattle.cdb_read.proofs.walking.records.Walk.next.Goals as goal

pub returns-then-rest-clause-gives : goal.returns-then-rest-clause-gives
returns-then-rest-clause-gives g c =
    let w = g.L.Width.WORD in
    record {
      none = λ b image. ap (walk_ahead w b) c.in-At.is ∙ walk_from-end w c.in-At.rest.place c.in-At.rest.end (drop c.in-At.rest.place b) c.if-rest.true;
      ended = refl;
    }
