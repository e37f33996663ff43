use Rattle.cdb_make.proofs.Words.{arith, common_steps, inl, inr, refl, rules, ℕ, ◌≤◌}
use Rattle.cdb_store.proofs.Moves.{same_refl, write_between}
use Rattle.cdb_make.proofs.BegunHeads.{head_begun}
use Rattle.cdb_make.proofs.lifetime.emptied.Goals as goal

pub returns-clause-size : goal.returns-clause-size
returns-clause-size g c = search rules

pub returns-in_err-write_at-clause-fails : goal.returns-in_err-write_at-clause-fails
returns-in_err-write_at-clause-fails g c = search rules

pub returns-in_err-flush-clause-fails : goal.returns-in_err-flush-clause-fails
returns-in_err-flush-clause-fails g c = search rules

pub slice_bounds-write_at-end : goal.slice_bounds-write_at-end
slice_bounds-write_at-end g c = grind (arith, common_steps)

pub returns-clause-written : goal.returns-clause-written
returns-clause-written g c = grind (arith, common_steps)

pub returns-clause-head : goal.returns-clause-head
returns-clause-head g c =
    let len : ℕ = c.head_size-len.result in
    let fits : len ≤ 4096 = elim g.met.L.Width.four_or_eight [ inl a ↦ omega (arith, c.head_size-len.ensures) | inr b ↦ omega (arith, c.head_size-len.ensures) ] in
    head_begun g.L.Width.WORD len 4096 (g.S.Store.size c.cut.new.self) c.head_size-len.ensures fits refl (record { each = g.met.S.Store.image_size c.cut.new.self })
    (write_between (same_refl (g.S.Store.image c.cut.new.self)) c.in_ok-write_at.ensures.ok c.flush.ensures.images)

pub returns-clause-fine : goal.returns-clause-fine
returns-clause-fine g c = grind (arith, common_steps)
