use Rattle.std.proofs.Common.{sym, ◌∙◌}
use Rattle.cdb_form.specs.Views.Pairs.{slot_pair}
use Rattle.cdb_read.proofs.MemoryBytes.{slot_here}
use Rattle.cdb_read.proofs.Probing.Searches.{step_empty, step_other, step_broken, step_passed, step_value}
use Rattle.cdb_read.proofs.memory.meeting.make_probe.Goals as goal

pub returns-then-slot-eq0-clause-steps : goal.returns-then-slot-eq0-clause-steps
returns-then-slot-eq0-clause-steps g c = λ is.
    step_empty c.args.key.now c.args.probe (slot_pair c.slot_at-slot.result) c.requires.inside c.requires.left (slot_here c.args.file.now c.slot_at-slot.ensures) c.if-slot-eq0.true

pub returns-then-slot-hash-clause-steps : goal.returns-then-slot-hash-clause-steps
returns-then-slot-hash-clause-steps g c = λ is.
    step_other c.args.key.now c.args.probe (slot_pair c.slot_at-slot.result) c.requires.inside c.requires.left (slot_here c.args.file.now c.slot_at-slot.ensures) c.if-slot-eq0.false (λ e. c.if-slot-hash.true (e ∙ sym is))

pub returns-in-Broken-clause-steps : goal.returns-in-Broken-clause-steps
returns-in-Broken-clause-steps g c = λ is.
    step_broken c.args.key.now c.args.probe (slot_pair c.slot_at-slot.result) c.requires.inside c.requires.left (slot_here c.args.file.now c.slot_at-slot.ensures) c.if-slot-eq0.false (c.if-slot-hash.false ∙ is) c.in-Broken.ensures.looks

pub returns-in-Other-clause-steps : goal.returns-in-Other-clause-steps
returns-in-Other-clause-steps g c = λ is.
    step_passed c.args.key.now c.args.probe (slot_pair c.slot_at-slot.result) c.requires.inside c.requires.left (slot_here c.args.file.now c.slot_at-slot.ensures) c.if-slot-eq0.false (c.if-slot-hash.false ∙ is) c.in-Other.ensures.looks

pub returns-in-Value-clause-steps : goal.returns-in-Value-clause-steps
returns-in-Value-clause-steps g c = λ is.
    step_value c.args.key.now c.args.probe (slot_pair c.slot_at-slot.result) c.in-Value.span c.requires.inside c.requires.left (slot_here c.args.file.now c.slot_at-slot.ensures) c.if-slot-eq0.false (c.if-slot-hash.false ∙ is) c.in-Value.ensures.looks
