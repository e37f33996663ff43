use Rattle.cdb_store.proofs.Words.{AreSized, List, arith, bytes_of, common_steps, drop, length, refl, rules, take, ℕ, ◌++◌, ◌+◌, ◌-◌}
use borrow.Rule.Slice.PartMut.{post_of}
use Rattle.cdb_store.proofs.OverLemmas.{over_emptied, over_put, over_same, sized_taken}
use Rattle.cdb_store.proofs.Moves.{same_trans, same_sym, write_between, torn_between, torn_same, torn_from_write}
use Rattle.cdb_store.proofs.buffered.BufferedStoreStore.write_at.Goals as goal

pub returns-in_err-reserve-clause-torn : goal.returns-in_err-reserve-clause-torn
returns-in_err-reserve-clause-torn g c = torn_same _ _ (over_same c.args.self.now.pos (bytes_of c.args.self.now) c.reserve.ensures.images)

pub returns-in_err-reserve-clause-memory : goal.returns-in_err-reserve-clause-memory
returns-in_err-reserve-clause-memory g c = λ _. over_same c.args.self.now.pos (bytes_of c.args.self.now) c.reserve.ensures.images

pub returns-in_err-settle-clause-torn : goal.returns-in_err-settle-clause-torn
returns-in_err-settle-clause-torn g c = torn_same _ _ (same_trans (over_same c.args.self.now.pos (bytes_of c.args.self.now) c.reserve.ensures.images) c.settle.ensures.images)

pub returns-in_err-write_at-clause-torn : goal.returns-in_err-write_at-clause-torn
returns-in_err-write_at-clause-torn g c =
    let emptied = same_trans (over_same c.args.self.now.pos (bytes_of c.args.self.now) c.reserve.ensures.images)
    (same_trans c.settle.ensures.images (over_emptied c.settle.new.self.pos (bytes_of c.settle.new.self) _ c.in_ok-settle.ensures.empty)) in
    torn_between emptied c.write_at.ensures.torn (same_sym (over_emptied c.settle.new.self.pos (bytes_of c.settle.new.self) _ c.in_ok-settle.ensures.empty))

pub returns-then-bytes-self-clause-ok : goal.returns-then-bytes-self-clause-ok
returns-then-bytes-self-clause-ok g c =
    let emptied = same_trans (over_same c.args.self.now.pos (bytes_of c.args.self.now) c.reserve.ensures.images)
    (same_trans c.settle.ensures.images (over_emptied c.settle.new.self.pos (bytes_of c.settle.new.self) _ c.in_ok-settle.ensures.empty)) in
    write_between emptied c.in_ok-write_at.ensures.ok (same_sym (over_emptied c.settle.new.self.pos (bytes_of c.settle.new.self) _ c.in_ok-settle.ensures.empty))

pub returns-then-bytes-self-clause-torn : goal.returns-then-bytes-self-clause-torn
returns-then-bytes-self-clause-torn g c =
    let emptied = same_trans (over_same c.args.self.now.pos (bytes_of c.args.self.now) c.reserve.ensures.images)
    (same_trans c.settle.ensures.images (over_emptied c.settle.new.self.pos (bytes_of c.settle.new.self) _ c.in_ok-settle.ensures.empty)) in
    torn_between emptied c.write_at.ensures.torn (same_sym (over_emptied c.settle.new.self.pos (bytes_of c.settle.new.self) _ c.in_ok-settle.ensures.empty))

pub returns-in_err-prepare-clause-torn : goal.returns-in_err-prepare-clause-torn
returns-in_err-prepare-clause-torn g c = torn_same _ _ (same_trans (over_same c.args.self.now.pos (bytes_of c.args.self.now) c.reserve.ensures.images) c.prepare.ensures.images)

pub returns-clause-ok : goal.returns-clause-ok
returns-clause-ok g c =
    let s = c.args.self.now in
    let w = c.prepare.new.self in
    let e = c.in_ok-prepare.ensures in
    let sized : AreSized (g.S.Store.size w.inner) (g.S.Store.image w.inner) = record { each = g.met.S.Store.image_size w.inner } in
    let begun = same_trans (over_same s.pos (bytes_of s) c.reserve.ensures.images) c.prepare.ensures.images in
    let now : List ℕ = c.deref_mut.result.now in
    let rest : List ℕ = post_of w.held (w.held + length c.args.bytes.now - w.held) now in
    let whole : List ℕ = take w.held now ++ (c.copy_from_slice.new.self ++ rest) in
    over_put w.buffer.len rest (drop (length whole) w.buffer.items) begun
    c.deref_mut.ensures.value c.copy_from_slice.ensures.after refl w.kept (omega (arith, e.wide, w.buffer.ok.0)) (omega (arith, e.continues)) w.placed sized

pub returns-clause-torn : goal.returns-clause-torn
returns-clause-torn g c =
    let s = c.args.self.now in
    let sized : AreSized (g.S.Store.size s.inner) (g.S.Store.image s.inner) = record { each = g.met.S.Store.image_size s.inner } in
    torn_from_write c.requires.start (sized_taken s.pos s.held s.buffer.items s.placed s.kept sized) (returns-clause-ok g c)

pub returns-clause-ok_written : goal.returns-clause-ok_written
returns-clause-ok_written g c = search rules

pub returns-clause-at_most_written : goal.returns-clause-at_most_written
returns-clause-at_most_written g c = search rules

pub returns-clause-ok_size : goal.returns-clause-ok_size
returns-clause-ok_size g c = grind (arith, common_steps)

pub returns-then-bytes-self-clause-memory_size : goal.returns-then-bytes-self-clause-memory_size
returns-then-bytes-self-clause-memory_size g c = search rules

pub returns-then-bytes-self-clause-at_most_written : goal.returns-then-bytes-self-clause-at_most_written
returns-then-bytes-self-clause-at_most_written g c = search rules

pub returns-then-bytes-self-clause-memory_room : goal.returns-then-bytes-self-clause-memory_room
returns-then-bytes-self-clause-memory_room g c = search rules

pub returns-clause-cause : goal.returns-clause-cause
returns-clause-cause g c = grind (arith, common_steps)

pub returns-then-bytes-self-clause-memory_written : goal.returns-then-bytes-self-clause-memory_written
returns-then-bytes-self-clause-memory_written g c = search rules

pub returns-then-bytes-self-clause-more_written : goal.returns-then-bytes-self-clause-more_written
returns-then-bytes-self-clause-more_written g c = grind (arith, common_steps)

pub returns-then-bytes-self-clause-ok_written : goal.returns-then-bytes-self-clause-ok_written
returns-then-bytes-self-clause-ok_written g c = grind (arith, common_steps)

pub returns-clause-memory_room : goal.returns-clause-memory_room
returns-clause-memory_room g c = grind (arith, common_steps)

pub returns-then-bytes-self-clause-cause : goal.returns-then-bytes-self-clause-cause
returns-then-bytes-self-clause-cause g c = grind (arith, common_steps)

pub returns-clause-memory_size : goal.returns-clause-memory_size
returns-clause-memory_size g c = grind (arith, common_steps)

pub returns-then-bytes-self-clause-ok_failures : goal.returns-then-bytes-self-clause-ok_failures
returns-then-bytes-self-clause-ok_failures g c = grind (arith, common_steps)

pub returns-then-bytes-self-clause-unwritten : goal.returns-then-bytes-self-clause-unwritten
returns-then-bytes-self-clause-unwritten g c = grind (arith, common_steps)

pub invariant_of-self-2 : goal.invariant_of-self-2
invariant_of-self-2 g c = grind (arith, common_steps)

pub returns-clause-more_written : goal.returns-clause-more_written
returns-clause-more_written g c = grind (arith, common_steps)

pub returns-clause-memory_written : goal.returns-clause-memory_written
returns-clause-memory_written g c = grind (arith, common_steps)

pub returns-clause-past_room : goal.returns-clause-past_room
returns-clause-past_room g c = grind (arith, common_steps)

pub returns-then-bytes-self-clause-ok_size : goal.returns-then-bytes-self-clause-ok_size
returns-then-bytes-self-clause-ok_size g c = grind (arith, common_steps)

pub returns-clause-unwritten : goal.returns-clause-unwritten
returns-clause-unwritten g c = grind (arith, common_steps)

pub returns-then-bytes-self-clause-past_room : goal.returns-then-bytes-self-clause-past_room
returns-then-bytes-self-clause-past_room g c = grind (arith, common_steps)

pub returns-clause-memory : goal.returns-clause-memory
returns-clause-memory g c = grind (arith, common_steps)
