use Rattle.cdb_store.proofs.Words.{[], ap, arith, ended, inl, inr, length, lost, ◌∙◌, ◌∷◌}
use Rattle.cdb_store.specs.declared.trace.Call.TheVariants.{NotWritten}
use Rattle.cdb_store.proofs.RawCalls.{interrupted_none, interrupted_more, interrupted_all, lost_interrupted, asked_after}
use Rattle.cdb_store.proofs.transfer.write_some.Goals as goal

pub loop-turn-init : goal.loop-turn-init
loop-turn-init g c = interrupted_none _

pub write_some-requires-clause-known : goal.write_some-requires-clause-known
write_some-requires-clause-known g c = ap lost c.loop-turn.invariant ∙ lost_interrupted _ _ ∙ c.requires.known

pub returns-in-Ok-clause-ok : goal.returns-in-Ok-clause-ok
returns-in-Ok-clause-ok g c = asked_after c.loop-turn._turn (omega arith) c.loop-turn.invariant c.in-Ok.ensures.ok

pub returns-in-Err-Failed-clause-err : goal.returns-in-Err-Failed-clause-err
returns-in-Err-Failed-clause-err g c = inl (asked_after c.loop-turn._turn (omega arith) c.loop-turn.invariant
    (c.in-Err-Failed.ensures.err ∙ ap (λ f. (ended (NotWritten c.args.pos (length c.args.bytes.now)) f, []) ∷ g.F.RawFile.calls c.loop-turn.file) c.in-Err-Failed.field-0-is))

pub loop-turn-preserved : goal.loop-turn-preserved
loop-turn-preserved g c = interrupted_more _ _ _ _ c.loop-turn.invariant (c.in-Err-Interrupted.ensures.err ∙ ap (λ f. (ended (NotWritten c.args.pos (length c.args.bytes.now)) f, []) ∷ g.F.RawFile.calls c.loop-turn.file) c.in-Err-Interrupted.field-0-is)

pub give_up-requires : goal.give_up-requires
give_up-requires g c = record { before = g.F.RawFile.calls c.args.file.now; interrupts = interrupted_all c.loop-turn._turn _ (omega arith) c.loop-turn.invariant }

pub returns-clause-err : goal.returns-clause-err
returns-clause-err g c = inr (c.give_up.ensures ∙ ap (λ calls. (NotWritten c.args.pos (length c.args.bytes.now), []) ∷ calls) (interrupted_all c.loop-turn._turn _ (omega arith) c.loop-turn.invariant))
