use Rattle.std.proofs.lemmas.Grind.{common_steps}
use Rattle.std.proofs.Common.{arith}
use Rattle.cdb_make.proofs.Words.{AfterTornWrite, AfterWrite, AreSized, List, all_gathered, ap, arith, common_steps, flat_map, gathered_in, length, length-append, length-drop, length-take-le, pair_size, refl, subst, sum_by, sym, table_bytes, take, take_all, torn_behind, torn_from_write, torn_wider, write_more, ℕ, ◌*◌, ◌++◌, ◌+◌, ◌∙◌, ◌≡◌}
use Rattle.cdb_make.proofs.Slots.HeadPointers.{sums_more}
use Rattle.cdb_make.proofs.Slots.TableBytes.{HasRoom, table_room, tables_next, length-tables}
use Rattle.cdb_make.proofs.finish.tables.write_group.Goals.{After-len-count}
use Rattle.cdb_make.proofs.finish.tables.write_group.Goals as goal

-- the next table has room
room : (g : _) (c : After-len-count g) → HasRoom g.L.Width.WORD c.args.start c.loop-list.place (4 * g.L.Width.WORD * sum_by length (all_gathered c.args.lists.now)) (length c.args.runs.now) (length c.args.bytes.now) c.pair_size-size.result c.len-count.result
room g c = table_room gathered_in g.L.Width.WORD c.args.start c.loop-list.place (length c.args.runs.now) (length c.args.bytes.now) c.pair_size-size.result c.len-count.result c.args.lists.now c.loop-list.list-index c.list-item.result
    g.met.L.Width.four_or_eight (omega arith) c.list-item.is c.pair_size-size.ensures c.len-count.ensures c.requires.bytes c.requires.runs c.loop-list.invariant.place

-- so many bytes it is given
cut_to : (g : _) (c : After-len-count g) → length (take (c.pair_size-size.result * (2 * c.len-count.result)) c.loop-list.bytes) ≡ c.pair_size-size.result * (2 * c.len-count.result)
cut_to g c = length-take-le (c.pair_size-size.result * (2 * c.len-count.result)) c.loop-list.bytes (omega (arith, (room g c).bytes, c.loop-list.invariant.bytes))

pub overflow_mul-count : goal.overflow_mul-count
overflow_mul-count g c =
    let r = room g (goal.at.overflow_mul-count g c).After-len-count in
    omega (arith, r.few, c.requires.limit, g.met.L.Width.greatest_fits.1)

pub overflow_mul-bytes : goal.overflow_mul-bytes
overflow_mul-bytes g c =
    let r = room g (goal.at.overflow_mul-bytes g c).After-len-count in
    omega (arith, r.within, c.requires.limit, g.met.L.Width.greatest_fits.1)

pub slice_bounds-bytes-end : goal.slice_bounds-bytes-end
slice_bounds-bytes-end g c =
    let r = room g (goal.at.slice_bounds-bytes-end g c).After-len-count in
    omega (arith, r.bytes, c.loop-list.invariant.bytes)

pub slice_bounds-bytes-end-in-loop-list : goal.slice_bounds-bytes-end-in-loop-list
slice_bounds-bytes-end-in-loop-list g c =
    let r = room g (goal.at.slice_bounds-bytes-end-in-loop-list g c).After-len-count in
    sym (length-take-le (c.pair_size-size.result * (2 * c.len-count.result)) c.loop-list.bytes (omega (arith, r.bytes, c.loop-list.invariant.bytes)))

pub write_table-requires-clause-limit : goal.write_table-requires-clause-limit
write_table-requires-clause-limit g c =
    let r = room g (goal.at.write_table-requires-clause-limit g c).After-len-count in
    let cut = cut_to g (goal.at.write_table-requires-clause-limit g c).After-len-count in
    omega (arith, cut, r.within, c.requires.limit)

pub write_table-requires-clause-room : goal.write_table-requires-clause-room
write_table-requires-clause-room g c =
    let r = room g (goal.at.write_table-requires-clause-room g c).After-len-count in
    let cut = cut_to g (goal.at.write_table-requires-clause-room g c).After-len-count in
    omega (arith, cut, r.within, c.requires.room, c.loop-list.invariant.room)

pub returns-in_err-write_table-clause-torn : goal.returns-in_err-write_table-clause-torn
returns-in_err-write_table-clause-torn g c =
    let r = room g (goal.at.returns-in_err-write_table-clause-torn g c).After-len-count in
    let cut = cut_to g (goal.at.returns-in_err-write_table-clause-torn g c).After-len-count in
    let w : ℕ = g.L.Width.WORD in
    let ls = c.args.lists.now in
    let i : ℕ = c.loop-list.list-index in
    let before : List ℕ = flat_map (table_bytes w) (all_gathered (take i ls)) in
    let len : length before ≡ 4 * w * sum_by length (all_gathered (take i ls)) = length-tables w (all_gathered (take i ls)) in
    let here : c.loop-list.place ≡ c.args.start + length before = omega (arith, len, c.loop-list.invariant.place) in
    let sized : AreSized (g.S.Store.size c.args.store.now) (g.S.Store.image c.args.store.now) = record { each = g.met.S.Store.image_size c.args.store.now } in
    let both : AfterTornWrite c.args.start (length before + length (take (c.pair_size-size.result * (2 * c.len-count.result)) c.loop-list.bytes)) (g.S.Store.image c.args.store.now) (g.S.Store.image c.write_table.new.store) =
    torn_behind here refl c.requires.inside sized c.loop-list.invariant.tables c.write_table.ensures.torn in
    torn_wider c.args.start _ _ _ _ (omega (arith, cut, here, r.within)) both

pub overflow_add-place : goal.overflow_add-place
overflow_add-place g c =
    let r = room g (goal.at.overflow_add-place g c).After-len-count in
    let cut = cut_to g (goal.at.overflow_add-place g c).After-len-count in
    omega (arith, cut, c.write_table.auto.bytes, r.within, c.requires.limit, g.met.L.Width.greatest_fits.1)

pub loop-list-preserved : goal.loop-list-preserved
loop-list-preserved g c =
    let r = room g (goal.at.loop-list-preserved g c).After-len-count in
    let cut = cut_to g (goal.at.loop-list-preserved g c).After-len-count in
    let w : ℕ = g.L.Width.WORD in
    let ls = c.args.lists.now in
    let i : ℕ = c.loop-list.list-index in
    let before : List ℕ = flat_map (table_bytes w) (all_gathered (take i ls)) in
    let len : length before ≡ 4 * w * sum_by length (all_gathered (take i ls)) = length-tables w (all_gathered (take i ls)) in
    let here : c.loop-list.place ≡ c.args.start + length before = omega (arith, len, c.loop-list.invariant.place) in
    let sized : AreSized (g.S.Store.size c.args.store.now) (g.S.Store.image c.args.store.now) = record { each = g.met.S.Store.image_size c.args.store.now } in
    let x = c.list-item.result in
    let more = sums_more gathered_in (4 * w) ls i x (omega arith) c.list-item.is in
    let new : length c.write_table.new.bytes ≡ c.pair_size-size.result * (2 * c.len-count.result) = omega (arith, cut, c.write_table.auto.bytes) in
    let count : 4 * w * c.len-count.result ≡ 4 * w * length (gathered_in x) = ap (λ (n : ℕ). 4 * w * n) c.len-count.ensures in
    let wrote : AfterWrite c.args.start (before ++ table_bytes w (gathered_in x)) (g.S.Store.image c.args.store.now) (g.S.Store.image c.write_table.new.store) =
    write_more here c.requires.inside sized c.loop-list.invariant.tables c.in_ok-write_table.ensures.ok in
    record {
      place = omega (arith, more, new, count, r.table, c.loop-list.invariant.place);
      runs = omega (arith, c.write_table.auto.runs, c.loop-list.invariant.runs);
      bytes = simp (length-append, length-drop) (omega (arith, new, r.bytes, c.loop-list.invariant.bytes));
      tables = subst (λ (v : List ℕ). AfterWrite c.args.start v (g.S.Store.image c.args.store.now) (g.S.Store.image c.write_table.new.store)) (tables_next gathered_in w ls i x (omega arith) c.list-item.is) wrote;
      size = omega (arith, cut, new, c.loop-list.invariant.size, c.in_ok-write_table.ensures.ok_size);
      written = omega (arith, cut, new, c.loop-list.invariant.written, c.in_ok-write_table.ensures.written);
      room = omega (arith, c.loop-list.invariant.room, c.write_table.ensures.room);
      unwritten = omega (arith, c.loop-list.invariant.unwritten, c.write_table.ensures.unwritten);
      failures = omega (arith, c.loop-list.invariant.failures, c.write_table.ensures.cause.later);
    }

pub returns-clause-torn : goal.returns-clause-torn
returns-clause-torn g c =
    let w : ℕ = g.L.Width.WORD in
    let ls = c.args.lists.now in
    let i : ℕ = c.loop-list.list-index in
    let whole : take i ls ≡ ls = take_all i ls (omega arith) in
    let len : length (flat_map (table_bytes w) (all_gathered (take i ls))) ≡ 4 * w * sum_by length (all_gathered ls) = length-tables w (all_gathered (take i ls)) ∙ ap (λ v. 4 * w * sum_by length (all_gathered v)) whole in
    let sized : AreSized (g.S.Store.size c.args.store.now) (g.S.Store.image c.args.store.now) = record { each = g.met.S.Store.image_size c.args.store.now } in
    subst (λ (n : ℕ). AfterTornWrite c.args.start n (g.S.Store.image c.args.store.now) (g.S.Store.image c.loop-list.store)) len (torn_from_write c.requires.inside sized c.loop-list.invariant.tables)

pub returns-clause-ok_size : goal.returns-clause-ok_size
returns-clause-ok_size g c = grind (arith, common_steps)

pub loop-list-init : goal.loop-list-init
loop-list-init g c = grind (arith, common_steps)

pub write_table-requires-clause-bytes : goal.write_table-requires-clause-bytes
write_table-requires-clause-bytes g c =
    let r = room g (goal.at.write_table-requires-clause-bytes g c).After-len-count in
    length-take-le (c.pair_size-size.result * (2 * c.len-count.result)) c.loop-list.bytes (omega (arith, r.bytes, c.loop-list.invariant.bytes))
    ∙ ap (λ (n : ℕ). n * (2 * c.len-count.result)) c.pair_size-size.ensures ∙ ap (λ (n : ℕ). pair_size g.L.Width.WORD * (2 * n)) c.len-count.ensures

pub write_table-requires-clause-runs : goal.write_table-requires-clause-runs
write_table-requires-clause-runs g c =
    let r = room g (goal.at.write_table-requires-clause-runs g c).After-len-count in
    omega (arith, r.slots, c.len-count.ensures, c.loop-list.invariant.runs)

pub returns-clause-written : goal.returns-clause-written
returns-clause-written g c = grind (arith, common_steps)

pub returns-clause-ok : goal.returns-clause-ok
returns-clause-ok g c = grind (arith, common_steps)

pub returns-clause-end : goal.returns-clause-end
returns-clause-end g c = grind (arith, common_steps)
