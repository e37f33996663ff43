use Rattle.cdb_store.proofs.Words.{AfterTornWrite, AfterWrite, AreSized, List, arith, common_steps, length, length-append, on_ok_weaker, ℕ, ◌++◌, ◌+◌}
use Rattle.cdb_store.proofs.Moves.{same_refl, torn_behind, torn_between, torn_wider, write_between, write_more}
use Rattle.cdb_store.proofs.store.Store.write_parts.Goals as goal

pub returns-in_err-write_at-clause-torn : goal.returns-in_err-write_at-clause-torn
returns-in_err-write_at-clause-torn g c =
    let first : List ℕ = c.args.first.now in
    let rest : List ℕ = c.args.second.now ++ c.args.third.now in
    torn_wider c.args.pos _ _ _ _ (omega (arith, length-append first rest))
    (torn_between c.reserve.ensures.images c.write_at-2.ensures.torn (same_refl (g.Self.Store.image c.write_at-2.new.self)))

pub returns-in_err-write_at-2-clause-torn : goal.returns-in_err-write_at-2-clause-torn
returns-in_err-write_at-2-clause-torn g c =
    let first : List ℕ = c.args.first.now in
    let second : List ℕ = c.args.second.now in
    let third : List ℕ = c.args.third.now in
    let before = c.reserve.new.self in
    let last = c.write_at-3.new.self in
    let sized : AreSized (g.Self.Store.size before) (g.Self.Store.image before) = record { each = g.met.Self.Store.image_size before } in
    let both : AfterTornWrite c.args.pos (length first + length second) (g.Self.Store.image before) (g.Self.Store.image last) =
    torn_behind (omega arith) (omega arith) (omega arith) sized c.in_ok-write_at.ensures.ok c.write_at-3.ensures.torn in
    torn_wider c.args.pos _ _ _ _ (omega (arith, length-append first (second ++ third), length-append second third))
    (torn_between c.reserve.ensures.images both (same_refl (g.Self.Store.image last)))

pub returns-clause-ok : goal.returns-clause-ok
returns-clause-ok g c =
    let first : List ℕ = c.args.first.now in
    let second : List ℕ = c.args.second.now in
    let third : List ℕ = c.args.third.now in
    let next = c.write_at-2.new.self in
    let last = c.write_at-4.new.self in
    let sized : (s : _) → AreSized (g.Self.Store.size s) (g.Self.Store.image s) = λ s. record { each = g.met.Self.Store.image_size s } in
    on_ok_weaker c.write_at-4.result (λ w.
    let rest : AfterWrite (c.args.pos + length first) (second ++ third) (g.Self.Store.image next) (g.Self.Store.image last) =
    write_more (omega arith) (omega (arith, c.in_ok-write_at.ensures.ok_size)) (sized next) c.in_ok-write_at-2.ensures.ok w in
    write_between c.reserve.ensures.images
    (write_more (omega arith) (omega arith) (sized c.reserve.new.self) c.in_ok-write_at.ensures.ok rest)
    (same_refl (g.Self.Store.image last)))
    c.write_at-4.ensures.ok

pub returns-clause-torn : goal.returns-clause-torn
returns-clause-torn g c =
    let first : List ℕ = c.args.first.now in
    let second : List ℕ = c.args.second.now in
    let third : List ℕ = c.args.third.now in
    let last = c.write_at-4.new.self in
    let sized : (s : _) → AreSized (g.Self.Store.size s) (g.Self.Store.image s) = λ s. record { each = g.met.Self.Store.image_size s } in
    let rest : AfterTornWrite (c.args.pos + length first) (length second + length third) (g.Self.Store.image c.write_at-2.new.self) (g.Self.Store.image last) =
    torn_behind (omega arith) (omega arith) (omega (arith, c.in_ok-write_at.ensures.ok_size)) (sized c.write_at-2.new.self) c.in_ok-write_at-2.ensures.ok c.write_at-4.ensures.torn in
    torn_between c.reserve.ensures.images
    (torn_behind (omega arith) (omega (arith, length-append first (second ++ third), length-append second third)) (omega arith) (sized c.reserve.new.self) c.in_ok-write_at.ensures.ok rest)
    (same_refl (g.Self.Store.image last))

pub returns-clause-memory_room : goal.returns-clause-memory_room
returns-clause-memory_room g c = grind (arith, common_steps)

pub slice_bounds-write_at-end : goal.slice_bounds-write_at-end
slice_bounds-write_at-end g c = grind (arith, common_steps)

pub overflow_add-third_pos : goal.overflow_add-third_pos
overflow_add-third_pos g c = grind (arith, common_steps)

pub returns-in_err-write_at-clause-at_most_written : goal.returns-in_err-write_at-clause-at_most_written
returns-in_err-write_at-clause-at_most_written g c = grind (arith, common_steps)

pub returns-clause-cause : goal.returns-clause-cause
returns-clause-cause g c = grind (arith, common_steps)

pub returns-clause-ok_size : goal.returns-clause-ok_size
returns-clause-ok_size g c = grind (arith, common_steps)

pub returns-clause-memory_written : goal.returns-clause-memory_written
returns-clause-memory_written g c = grind (arith, common_steps)

pub returns-clause-unwritten : goal.returns-clause-unwritten
returns-clause-unwritten g c = grind (arith, common_steps)

pub returns-then-n-le-JOINED-clause-ok : goal.returns-then-n-le-JOINED-clause-ok
returns-then-n-le-JOINED-clause-ok g c = grind (arith, common_steps)

pub returns-in_err-write_at-2-clause-not_past : goal.returns-in_err-write_at-2-clause-not_past
returns-in_err-write_at-2-clause-not_past g c = grind (arith, common_steps)

pub write_at-requires-3-clause-end : goal.write_at-requires-3-clause-end
write_at-requires-3-clause-end g c = grind (arith, common_steps)

pub returns-clause-ok_written : goal.returns-clause-ok_written
returns-clause-ok_written g c = grind (arith, common_steps)

pub returns-in_err-reserve-clause-past_room : goal.returns-in_err-reserve-clause-past_room
returns-in_err-reserve-clause-past_room g c = grind (arith, common_steps)

pub write_at-requires-4-clause-end : goal.write_at-requires-4-clause-end
write_at-requires-4-clause-end g c = grind (arith, common_steps)

pub overflow_add-third_pos-2 : goal.overflow_add-third_pos-2
overflow_add-third_pos-2 g c = grind (arith, common_steps)

pub returns-clause-memory_failures : goal.returns-clause-memory_failures
returns-clause-memory_failures g c = grind (arith, common_steps)

pub returns-then-n-le-JOINED-clause-torn : goal.returns-then-n-le-JOINED-clause-torn
returns-then-n-le-JOINED-clause-torn g c = grind (arith, common_steps)

pub returns-clause-past_room : goal.returns-clause-past_room
returns-clause-past_room g c = grind (arith, common_steps)

pub returns-then-n-le-JOINED-clause-past_room : goal.returns-then-n-le-JOINED-clause-past_room
returns-then-n-le-JOINED-clause-past_room g c = grind (arith, common_steps)

pub returns-clause-not_past : goal.returns-clause-not_past
returns-clause-not_past g c = grind (arith, common_steps)

pub returns-in_err-write_at-2-clause-at_most_written : goal.returns-in_err-write_at-2-clause-at_most_written
returns-in_err-write_at-2-clause-at_most_written g c = grind (arith, common_steps)

pub returns-in_err-write_at-clause-not_past : goal.returns-in_err-write_at-clause-not_past
returns-in_err-write_at-clause-not_past g c = grind (arith, common_steps)

pub returns-clause-memory_size : goal.returns-clause-memory_size
returns-clause-memory_size g c = grind (arith, common_steps)

pub write_at-requires-clause-end : goal.write_at-requires-clause-end
write_at-requires-clause-end g c = grind (arith, common_steps)

pub write_at-requires-4-clause-start : goal.write_at-requires-4-clause-start
write_at-requires-4-clause-start g c = grind (arith, common_steps)

pub returns-clause-at_most_written : goal.returns-clause-at_most_written
returns-clause-at_most_written g c = grind (arith, common_steps)
