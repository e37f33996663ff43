use Rattle.cdb_store.proofs.Words.{AreSized, List, arith, bytes_of, common_steps, drop, length, length-append, take, ℕ, ◌++◌, ◌+◌, ◌-◌, ◌≡◌}
use borrow.Rule.Slice.PartMut.{post_of}
use Rattle.cdb_store.proofs.OverLemmas.{over_emptied, over_put, over_same, sized_taken}
use Rattle.cdb_store.proofs.Moves.{same_trans, same_sym, write_between, torn_between, torn_same, torn_from_write}
use Rattle.cdb_store.proofs.buffered.BufferedStoreStore.write_parts.Goals as goal

pub returns-in_err-reserve-clause-torn : goal.returns-in_err-reserve-clause-torn
returns-in_err-reserve-clause-torn g c = torn_same _ _ (over_same c.args.self.now.pos (bytes_of c.args.self.now) c.reserve.ensures.images)

pub returns-in_err-settle-clause-torn : goal.returns-in_err-settle-clause-torn
returns-in_err-settle-clause-torn g c = torn_same _ _ (same_trans (over_same c.args.self.now.pos (bytes_of c.args.self.now) c.reserve.ensures.images) c.settle.ensures.images)

pub returns-in_err-prepare-clause-torn : goal.returns-in_err-prepare-clause-torn
returns-in_err-prepare-clause-torn g c = torn_same _ _ (same_trans (over_same c.args.self.now.pos (bytes_of c.args.self.now) c.reserve.ensures.images) c.prepare.ensures.images)

pub returns-in_err-write_parts-clause-torn : goal.returns-in_err-write_parts-clause-torn
returns-in_err-write_parts-clause-torn g c =
    let none = over_emptied c.settle.new.self.pos (bytes_of c.settle.new.self) _ c.in_ok-settle.ensures.empty in
    let emptied = same_trans (over_same c.args.self.now.pos (bytes_of c.args.self.now) c.reserve.ensures.images) (same_trans c.settle.ensures.images none) in
    torn_between emptied c.write_parts.ensures.torn (same_sym (over_emptied _ _ _ c.in_ok-settle.ensures.empty))

pub returns-then-n-self-clause-ok : goal.returns-then-n-self-clause-ok
returns-then-n-self-clause-ok g c =
    let none = over_emptied c.settle.new.self.pos (bytes_of c.settle.new.self) _ c.in_ok-settle.ensures.empty in
    let emptied = same_trans (over_same c.args.self.now.pos (bytes_of c.args.self.now) c.reserve.ensures.images) (same_trans c.settle.ensures.images none) in
    write_between emptied c.in_ok-write_parts.ensures.ok (same_sym (over_emptied _ _ _ c.in_ok-settle.ensures.empty))

pub returns-then-n-self-clause-torn : goal.returns-then-n-self-clause-torn
returns-then-n-self-clause-torn g c =
    let none = over_emptied c.settle.new.self.pos (bytes_of c.settle.new.self) _ c.in_ok-settle.ensures.empty in
    let emptied = same_trans (over_same c.args.self.now.pos (bytes_of c.args.self.now) c.reserve.ensures.images) (same_trans c.settle.ensures.images none) in
    torn_between emptied c.write_parts.ensures.torn (same_sym (over_emptied _ _ _ c.in_ok-settle.ensures.empty))

pub returns-clause-ok : goal.returns-clause-ok
returns-clause-ok g c =
    let s = c.args.self.now in
    let w = c.prepare.new.self in
    let e = c.in_ok-prepare.ensures in
    let first : List ℕ = c.args.first.now in
    let second : List ℕ = c.args.second.now in
    let third : List ℕ = c.args.third.now in
    let count : length first + length second + length third ≡ length (first ++ (second ++ third)) = omega (arith, length-append first (second ++ third), length-append second third) in
    let sized : AreSized (g.S.Store.size w.inner) (g.S.Store.image w.inner) = record { each = g.met.S.Store.image_size w.inner } in
    let begun = same_trans (over_same s.pos (bytes_of s) c.reserve.ensures.images) c.prepare.ensures.images in
    let now : List ℕ = c.deref_mut.result.now in
    let rest : List ℕ = post_of w.held (w.held + (length first + length second + length third) - w.held) now in
    let whole : List ℕ = take w.held now ++ (c.join.new.into ++ rest) in
    over_put w.buffer.len rest (drop (length whole) w.buffer.items) begun
    c.deref_mut.ensures.value c.join.ensures count w.kept (omega (arith, e.wide, w.buffer.ok.0)) (omega (arith, e.continues)) w.placed sized

pub returns-clause-torn : goal.returns-clause-torn
returns-clause-torn g c =
    let s = c.args.self.now in
    let sized : AreSized (g.S.Store.size s.inner) (g.S.Store.image s.inner) = record { each = g.met.S.Store.image_size s.inner } in
    torn_from_write c.requires.start (sized_taken s.pos s.held s.buffer.items s.placed s.kept sized) (returns-clause-ok g c)

pub returns-clause-ok_size : goal.returns-clause-ok_size
returns-clause-ok_size g c = grind (arith, common_steps)

pub returns-clause-cause : goal.returns-clause-cause
returns-clause-cause g c = grind (arith, common_steps)

pub overflow_add-pos : goal.overflow_add-pos
overflow_add-pos g c = grind (arith, common_steps)

pub returns-then-n-self-clause-memory_size : goal.returns-then-n-self-clause-memory_size
returns-then-n-self-clause-memory_size g c = grind (arith, common_steps)

pub returns-clause-past_room : goal.returns-clause-past_room
returns-clause-past_room g c = grind (arith, common_steps)

pub returns-then-n-self-clause-ok_failures : goal.returns-then-n-self-clause-ok_failures
returns-then-n-self-clause-ok_failures g c = grind (arith, common_steps)

pub returns-then-n-self-clause-cause : goal.returns-then-n-self-clause-cause
returns-then-n-self-clause-cause g c = grind (arith, common_steps)

pub returns-then-n-self-clause-memory_room : goal.returns-then-n-self-clause-memory_room
returns-then-n-self-clause-memory_room g c = grind (arith, common_steps)

pub returns-clause-unwritten : goal.returns-clause-unwritten
returns-clause-unwritten g c = grind (arith, common_steps)

pub returns-clause-memory_room : goal.returns-clause-memory_room
returns-clause-memory_room g c = grind (arith, common_steps)

pub returns-clause-memory_written : goal.returns-clause-memory_written
returns-clause-memory_written g c = grind (arith, common_steps)

pub invariant_of-self-then-n-self : goal.invariant_of-self-then-n-self
invariant_of-self-then-n-self g c = grind (arith, common_steps)

pub returns-in_err-reserve-clause-past_room : goal.returns-in_err-reserve-clause-past_room
returns-in_err-reserve-clause-past_room g c = grind (arith, common_steps)

pub returns-then-n-self-clause-ok_size : goal.returns-then-n-self-clause-ok_size
returns-then-n-self-clause-ok_size g c = grind (arith, common_steps)

pub returns-then-n-self-clause-more_written : goal.returns-then-n-self-clause-more_written
returns-then-n-self-clause-more_written g c = grind (arith, common_steps)

pub returns-then-n-self-clause-at_most_written : goal.returns-then-n-self-clause-at_most_written
returns-then-n-self-clause-at_most_written g c = grind (arith, common_steps)

pub returns-clause-not_past : goal.returns-clause-not_past
returns-clause-not_past g c = grind (arith, common_steps)

pub returns-then-n-self-clause-past_room : goal.returns-then-n-self-clause-past_room
returns-then-n-self-clause-past_room g c = grind (arith, common_steps)

pub returns-clause-memory : goal.returns-clause-memory
returns-clause-memory g c = grind (arith, common_steps)

pub returns-then-n-self-clause-memory_failures : goal.returns-then-n-self-clause-memory_failures
returns-then-n-self-clause-memory_failures g c = grind (arith, common_steps)

pub returns-then-n-self-clause-ok_written : goal.returns-then-n-self-clause-ok_written
returns-then-n-self-clause-ok_written g c = grind (arith, common_steps)

pub overflow_add-n-2 : goal.overflow_add-n-2
overflow_add-n-2 g c = grind (arith, common_steps)

pub returns-then-n-self-clause-unwritten : goal.returns-then-n-self-clause-unwritten
returns-then-n-self-clause-unwritten g c = grind (arith, common_steps)

pub returns-in_err-write_parts-clause-memory_room : goal.returns-in_err-write_parts-clause-memory_room
returns-in_err-write_parts-clause-memory_room g c = grind (arith, common_steps)

pub returns-in_err-write_parts-clause-memory : goal.returns-in_err-write_parts-clause-memory
returns-in_err-write_parts-clause-memory g c = grind (arith, common_steps)

pub returns-then-n-self-clause-memory_written : goal.returns-then-n-self-clause-memory_written
returns-then-n-self-clause-memory_written g c = grind (arith, common_steps)

pub returns-clause-memory_size : goal.returns-clause-memory_size
returns-clause-memory_size g c = grind (arith, common_steps)

pub returns-then-n-self-clause-memory : goal.returns-then-n-self-clause-memory
returns-then-n-self-clause-memory g c = grind (arith, common_steps)

pub invariant_of-self-2 : goal.invariant_of-self-2
invariant_of-self-2 g c = grind (arith, common_steps)
