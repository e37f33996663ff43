use Rattle.cdb.proofs.Words.{Err, Keeps-refl, Ok, WritesAll, arith, refl, subst}
use Rattle.std.proofs.Common.{◌<◌}
use Rattle.cdb.specs.Reasons.{run_reasons}
use Rattle.cdb.proofs.Reasons.{each_weaker, output_reason}
use Rattle.cdb.proofs.creating.make_on_output.Goals as goal

pub returns-clause-makes : goal.returns-clause-makes
returns-clause-makes g c =
    let run = rw c.in-Err.is at c.make_in-store.ensures.runs in
    record { empty = c.new.result; store = c.make_in-store.result.0; made = Err c.in-Err.fault; makes = record { run = run; failed = rw c.in-Err.is at c.make_in-store.ensures.failed; settled = tt }; written = tt; failed = (refl, Keeps-refl _) }

pub returns-in-Ok-clause-makes : goal.returns-in-Ok-clause-makes
returns-in-Ok-clause-makes g c =
    let run = rw c.in-Ok.is at c.make_in-store.ensures.runs in
    let written = subst (λ v. WritesAll (g.O.Sink.contents c.args.streams.now.output) (g.O.Sink.contents c.write_bytes.new.output) v c.write_bytes.result) c.bytes.ensures.bytes c.write_bytes.ensures.writes in
    record { empty = c.new.result; store = c.make_in-store.result.0; made = Ok c.in-Ok.field-0; makes = record { run = run; failed = rw c.in-Ok.is at c.make_in-store.ensures.failed; settled = rw c.in-Ok.is at c.make_in-store.ensures.settled }; written = written; failed = tt }

pub returns-clause-reason : goal.returns-clause-reason
returns-clause-reason g c =
    let why = λ (made : Type 0). run_reasons g.Y.File.Store g.Y.Stream.Feeds.feed g.Y.Input.Feeds.feed c.make_in-store.result.1 made ⊥ in
    each_weaker (why (0 < 0)) (why ⊥) (Err c.in-Err.fault) (λ r. r) (λ s. s) (λ m. omega (arith, m)) (λ n. n) (rw c.in-Err.is at c.make_in-store.ensures.reason)

pub returns-in-Ok-clause-reason : goal.returns-in-Ok-clause-reason
returns-in-Ok-clause-reason g c = output_reason _ (run_reasons g.Y.File.Store g.Y.Stream.Feeds.feed g.Y.Input.Feeds.feed c.make_in-store.result.1 ⊥ ⊥) c.write_bytes.result c.write_bytes.ensures.writes.err
