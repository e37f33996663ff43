use Rattle.cdb_store.proofs.Words.{[], ap, arith, ended, inl, inr, lost, rules, ◌∙◌, ◌∷◌}
use Rattle.cdb_store.specs.declared.trace.Call.TheVariants.{Failed, Refused}
use Rattle.cdb_store.proofs.RawCalls.{interrupted_none, interrupted_more, interrupted_all, lost_interrupted, asked_after}
use Rattle.cdb_store.proofs.transfer.read_some.Goals as goal

pub loop-turn-init : goal.loop-turn-init
loop-turn-init g c = interrupted_none _

pub read_some-requires-clause-known : goal.read_some-requires-clause-known
read_some-requires-clause-known g c = ap lost c.loop-turn.invariant ∙ lost_interrupted _ _ ∙ c.requires.known

pub returns-in-Ok-clause-ok : goal.returns-in-Ok-clause-ok
returns-in-Ok-clause-ok g c = asked_after c.loop-turn._turn (omega arith) c.loop-turn.invariant c.in-Ok.ensures.ok

pub returns-in-Err-Failed-clause-err : goal.returns-in-Err-Failed-clause-err
returns-in-Err-Failed-clause-err g c = inl (asked_after c.loop-turn._turn (omega arith) c.loop-turn.invariant
    (c.in-Err-Failed.ensures.err ∙ ap (λ f. (ended Failed f, []) ∷ g.F.RawFile.calls c.loop-turn.file) c.in-Err-Failed.field-0-is))

pub loop-turn-preserved : goal.loop-turn-preserved
loop-turn-preserved g c = interrupted_more _ _ _ _ c.loop-turn.invariant (c.in-Err-Interrupted.ensures.err ∙ ap (λ f. (ended Failed f, []) ∷ g.F.RawFile.calls c.loop-turn.file) c.in-Err-Interrupted.field-0-is)

pub refuse-requires : goal.refuse-requires
refuse-requires g c = inr (record { before = g.F.RawFile.calls c.args.file.now; interrupts = interrupted_all c.loop-turn._turn _ (omega arith) c.loop-turn.invariant })

pub returns-clause-err : goal.returns-clause-err
returns-clause-err g c = inr (c.refuse.ensures ∙ ap (λ calls. (Refused, []) ∷ calls) (interrupted_all c.loop-turn._turn _ (omega arith) c.loop-turn.invariant))

pub returns-in-Err-Failed-clause-count : goal.returns-in-Err-Failed-clause-count
returns-in-Err-Failed-clause-count g c = search rules
