use Rattle.cdb_read.proofs.Words.{LooksAt, arith, common_steps, slot_pair, subst, sym, ◌∙◌}
use Rattle.cdb_read.proofs.Probing.Searches.{IsProbeSlot, fewer_slots, step_empty, step_other, step_broken, step_passed, step_value}
use Rattle.cdb_read.proofs.lookup.search.make_probe.Goals as goal

pub returns-then-slot-eq0-clause-steps : goal.returns-then-slot-eq0-clause-steps
returns-then-slot-eq0-clause-steps g c =
    step_empty c.args.key.now c.args.probe (slot_pair c.in_ok-slot.slot) c.requires.inside c.requires.left (record { each = c.in_ok-slot.ensures.read }) c.if-slot-eq0.true

pub returns-then-slot-hash-clause-steps : goal.returns-then-slot-hash-clause-steps
returns-then-slot-hash-clause-steps g c =
    step_other c.args.key.now c.args.probe (slot_pair c.in_ok-slot.slot) c.requires.inside c.requires.left (record { each = c.in_ok-slot.ensures.read }) c.if-slot-eq0.false (λ e. c.if-slot-hash.true (e ∙ sym c.requires.hash))

pub returns-in-Broken-clause-steps : goal.returns-in-Broken-clause-steps
returns-in-Broken-clause-steps g c =
    let is_slot : IsProbeSlot g.L.Width.WORD c.args.probe (slot_pair c.in_ok-slot.slot) (g.S.Store.image c.read_probe.new.store) = record { each = c.in_ok-slot.ensures.read } in
    step_broken c.args.key.now c.args.probe (slot_pair c.in_ok-slot.slot) c.requires.inside c.requires.left (fewer_slots c.look_at.ensures.reads.images is_slot) c.if-slot-eq0.false (c.if-slot-hash.false ∙ c.requires.hash)
    (subst (λ k. LooksAt g.L.Width.WORD c.args.key.now c.in_ok-slot.slot.place k (g.S.Store.image c.look_at.new.store)) c.in-Broken.is c.in_ok-look_at.ensures.looks)

pub returns-in-Other-clause-steps : goal.returns-in-Other-clause-steps
returns-in-Other-clause-steps g c =
    let is_slot : IsProbeSlot g.L.Width.WORD c.args.probe (slot_pair c.in_ok-slot.slot) (g.S.Store.image c.read_probe.new.store) = record { each = c.in_ok-slot.ensures.read } in
    step_passed c.args.key.now c.args.probe (slot_pair c.in_ok-slot.slot) c.requires.inside c.requires.left (fewer_slots c.look_at.ensures.reads.images is_slot) c.if-slot-eq0.false (c.if-slot-hash.false ∙ c.requires.hash)
    (subst (λ k. LooksAt g.L.Width.WORD c.args.key.now c.in_ok-slot.slot.place k (g.S.Store.image c.look_at.new.store)) c.in-Other.is c.in_ok-look_at.ensures.looks)

pub returns-in-Value-clause-steps : goal.returns-in-Value-clause-steps
returns-in-Value-clause-steps g c =
    let is_slot : IsProbeSlot g.L.Width.WORD c.args.probe (slot_pair c.in_ok-slot.slot) (g.S.Store.image c.read_probe.new.store) = record { each = c.in_ok-slot.ensures.read } in
    step_value c.args.key.now c.args.probe (slot_pair c.in_ok-slot.slot) c.in-Value.span c.requires.inside c.requires.left (fewer_slots c.look_at.ensures.reads.images is_slot) c.if-slot-eq0.false (c.if-slot-hash.false ∙ c.requires.hash)
    (subst (λ k. LooksAt g.L.Width.WORD c.args.key.now c.in_ok-slot.slot.place k (g.S.Store.image c.look_at.new.store)) c.in-Value.is c.in_ok-look_at.ensures.looks)

pub returns-in-Value-clause-reads : goal.returns-in-Value-clause-reads
returns-in-Value-clause-reads g c = grind (arith, common_steps)
