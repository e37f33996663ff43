use Rattle.std.proofs.lemmas.Grind.{common_steps}
use Rattle.std.proofs.Common.{arith}
use Rattle.cdb_make.proofs.Words.{AfterTornWrite, AfterWrite, AreSized, List, WordPair, [], all_gathered, ap, arith, flat_map, flat_map-append, length, refl, roll_entries, roll_tables, subst, sum_by, sym, table_bytes, tables_of, torn_behind, torn_from_write, torn_wider, write_more, ℕ, ◌*◌, ◌++◌, ◌+◌, ◌∙◌, ◌≡◌, ◌≤◌}
use Rattle.cdb_make.proofs.Slots.TableBytes.{length-tables, all_written}
use Rattle.cdb_make.proofs.Tables.{group_room, group_runs, group_next, group_sum, no_tables}
use Rattle.cdb_make.proofs.finish.tables.write_tables.Goals as goal

pub loop-group-init : goal.loop-group-init
loop-group-init g c =
    let none : tables_of (roll_entries c.args.roll.now) 0 (32 * 0) ≡ [] = no_tables (roll_entries c.args.roll.now) in
    let sum : 4 * g.L.Width.WORD * sum_by length (tables_of (roll_entries c.args.roll.now) 0 (32 * 0)) ≡ 0 = ap (λ v. 4 * g.L.Width.WORD * sum_by length v) none ∙ omega arith in
    record {
      place = omega (arith, sum);
      lists = c.requires.lists;
      rooms = refl;
      runs = refl;
      bytes = refl;
      tables = all_written g.L.Width.WORD c.args.end _ (g.S.Store.image c.args.store.now) none;
      size = omega (arith, c.requires.inside);
      written = refl;
      room = omega arith;
      failures = omega arith;
      unwritten = omega arith;
    }

pub gather-requires-clause-room : goal.gather-requires-clause-room
gather-requires-clause-room g c = group_room (roll_entries c.args.roll.now) _ _ c.loop-group.group (length c.loop-group.lists) c.loop-group.invariant.lists (omega arith) refl
    (λ i k lt below. omega (arith, c.requires.gathers.each i k lt below, ap (λ (v : List ℕ). Rattle.std.proofs.Common.get_or v k 0) c.loop-group.invariant.rooms))

pub write_group-requires-clause-runs : goal.write_group-requires-clause-runs
write_group-requires-clause-runs g c =
    subst (λ (n : ℕ). Rattle.std.specs.Prelude.All (λ (list : List WordPair). 2 * length list ≤ n) (all_gathered c.gather.new.gathered)) (sym c.loop-group.invariant.runs)
    (group_runs (roll_entries c.args.roll.now) (all_gathered c.gather.new.gathered) c.loop-group.group (length c.loop-group.lists) (length c.args.runs.now) c.gather.ensures.all c.loop-group.invariant.lists (omega arith) c.requires.runs)

pub write_group-requires-clause-limit : goal.write_group-requires-clause-limit
write_group-requires-clause-limit g c =
    let s = group_sum (4 * g.L.Width.WORD) (roll_entries c.args.roll.now) (all_gathered c.gather.new.gathered) c.loop-group.group (length c.loop-group.lists) c.gather.ensures.all c.loop-group.invariant.lists (omega arith) in
    omega (arith, s.0, c.loop-group.invariant.place, c.requires.limit)

pub write_group-requires-clause-room : goal.write_group-requires-clause-room
write_group-requires-clause-room g c =
    let s = group_sum (4 * g.L.Width.WORD) (roll_entries c.args.roll.now) (all_gathered c.gather.new.gathered) c.loop-group.group (length c.loop-group.lists) c.gather.ensures.all c.loop-group.invariant.lists (omega arith) in
    omega (arith, s.0, c.loop-group.invariant.place, c.loop-group.invariant.room, c.requires.room)

pub returns-in_err-place-clause-torn : goal.returns-in_err-place-clause-torn
returns-in_err-place-clause-torn g c =
    let w : ℕ = g.L.Width.WORD in
    let es : List WordPair = roll_entries c.args.roll.now in
    let ls : List (List WordPair) = all_gathered c.gather.new.gathered in
    let s = group_sum (4 * w) es ls c.loop-group.group (length c.loop-group.lists) c.gather.ensures.all c.loop-group.invariant.lists (omega arith) in
    let before : List ℕ = flat_map (table_bytes w) (tables_of es 0 (32 * c.loop-group.group)) in
    let len : length before ≡ 4 * w * sum_by length (tables_of es 0 (32 * c.loop-group.group)) = length-tables w (tables_of es 0 (32 * c.loop-group.group)) in
    let here : c.loop-group.place ≡ c.args.end + length before = omega (arith, len, c.loop-group.invariant.place) in
    let sized : AreSized (g.S.Store.size c.args.store.now) (g.S.Store.image c.args.store.now) = record { each = g.met.S.Store.image_size c.args.store.now } in
    let both : AfterTornWrite c.args.end (length before + 4 * w * sum_by length ls) (g.S.Store.image c.args.store.now) (g.S.Store.image c.write_group.new.store) =
    torn_behind here refl c.requires.inside sized c.loop-group.invariant.tables c.write_group.ensures.torn in
    torn_wider c.args.end _ _ _ _ (omega (arith, len, s.0)) both

pub loop-group-preserved : goal.loop-group-preserved
loop-group-preserved g c =
    let w : ℕ = g.L.Width.WORD in
    let es : List WordPair = roll_entries c.args.roll.now in
    let group : ℕ = c.loop-group.group in
    let ls : List (List WordPair) = all_gathered c.gather.new.gathered in
    let done : List (List WordPair) = tables_of es 0 (32 * group) in
    let inv = c.loop-group.invariant in
    let s = group_sum (4 * w) es ls group (length c.loop-group.lists) c.gather.ensures.all inv.lists (omega arith) in
    let before : List ℕ = flat_map (table_bytes w) done in
    let len : length before ≡ 4 * w * sum_by length done = length-tables w done in
    let here : c.loop-group.place ≡ c.args.end + length before = omega (arith, len, inv.place) in
    let sized : AreSized (g.S.Store.size c.args.store.now) (g.S.Store.image c.args.store.now) = record { each = g.met.S.Store.image_size c.args.store.now } in
    let k = c.in_ok-place.ensures in
    let wrote : AfterWrite c.args.end (before ++ flat_map (table_bytes w) ls) (g.S.Store.image c.args.store.now) (g.S.Store.image c.write_group.new.store) =
    write_more here c.requires.inside sized inv.tables k.ok in
    let next : before ++ flat_map (table_bytes w) ls ≡ flat_map (table_bytes w) (tables_of es 0 (32 * (group + 1))) =
    sym (flat_map-append (table_bytes w) done ls) ∙ ap (flat_map (table_bytes w)) (group_next es ls group (length c.loop-group.lists) c.gather.ensures.all inv.lists) in
    record {
      place = omega (arith, s.1, k.end, inv.place);
      lists = c.gather.ensures.long ∙ inv.lists;
      rooms = c.gather.ensures.rooms ∙ inv.rooms;
      runs = c.write_group.auto.runs ∙ inv.runs;
      bytes = c.write_group.auto.bytes ∙ inv.bytes;
      tables = subst (λ (v : List ℕ). AfterWrite c.args.end v (g.S.Store.image c.args.store.now) (g.S.Store.image c.write_group.new.store)) next wrote;
      size = omega (arith, inv.size, k.ok_size, k.end);
      written = omega (arith, inv.written, k.written, k.end);
      room = omega (arith, inv.room, c.write_group.ensures.room);
      failures = omega (arith, inv.failures, c.write_group.ensures.failures);
      unwritten = omega (arith, inv.unwritten, c.write_group.ensures.unwritten);
    }

pub returns-clause-torn : goal.returns-clause-torn
returns-clause-torn g c =
    let w : ℕ = g.L.Width.WORD in
    let es : List WordPair = roll_entries c.args.roll.now in
    let all : 32 * c.loop-group.group ≡ 256 = omega arith in
    let sized : AreSized (g.S.Store.size c.args.store.now) (g.S.Store.image c.args.store.now) = record { each = g.met.S.Store.image_size c.args.store.now } in
    let len : length (flat_map (table_bytes w) (tables_of es 0 (32 * c.loop-group.group))) ≡ 4 * w * sum_by length (roll_tables c.args.roll.now) =
    length-tables w (tables_of es 0 (32 * c.loop-group.group)) ∙ ap (λ (n : ℕ). 4 * w * sum_by length (tables_of es 0 n)) all in
    subst (λ (n : ℕ). AfterTornWrite c.args.end n (g.S.Store.image c.args.store.now) (g.S.Store.image c.loop-group.store)) len (torn_from_write c.requires.inside sized c.loop-group.invariant.tables)

pub write_group-requires-clause-bytes : goal.write_group-requires-clause-bytes
write_group-requires-clause-bytes g c = grind (arith, common_steps)
