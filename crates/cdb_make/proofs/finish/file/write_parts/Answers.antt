use Rattle.cdb_make.proofs.Words.{AreSized, ImagesHold, List, ap, arith, flat_map, head_size, held_kept, inr, kept_same, kept_torn, length, length-map, roll_entries, roll_tables, rules, sum, sum_by, table_bytes, ℕ, ◌*◌, ◌-◌, ◌∙◌, ◌≡◌}
use Rattle.cdb_make.proofs.FinishedFile.{finished, kept_then, head_kept, tables_held}
use Rattle.cdb_make.proofs.Slots.Counts.{sum_lengths}
use Rattle.cdb_make.proofs.Tables.{length-tables_of}
use Rattle.cdb_make.proofs.Bytes.Written.{on_any_ok}
use Rattle.cdb_make.proofs.finish.file.write_parts.Goals as goal

pub write_pointers-requires-clause-long : goal.write_pointers-requires-clause-long
write_pointers-requires-clause-long g c =
    let ts = roll_tables c.args.roll.now in
    ap length c.requires.counts ∙ length-map ts length ∙ length-tables_of (roll_entries c.args.roll.now) 0 256

pub write_pointers-requires-clause-limit : goal.write_pointers-requires-clause-limit
write_pointers-requires-clause-limit g c =
    let ts = roll_tables c.args.roll.now in
    let same : sum c.args.counts.now ≡ sum_by length ts = ap sum c.requires.counts ∙ sum_lengths ts in
    let total : 4 * g.L.Width.WORD * sum c.args.counts.now ≡ 4 * g.L.Width.WORD * sum_by length ts = ap (λ (n : ℕ). 4 * g.L.Width.WORD * n) same in
    omega (arith, total, c.requires.last, c.requires.limit)

pub returns-in_err-write_pointers-clause-kept : goal.returns-in_err-write_pointers-clause-kept
returns-in_err-write_pointers-clause-kept g c =
    let first : ℕ = head_size g.L.Width.WORD in
    kept_then c.settle_tables.ensures.kept (kept_torn first (c.args.roll.now.end - first) (inr (omega arith)) c.write_pointers.ensures.torn)

pub returns-clause-kept : goal.returns-clause-kept
returns-clause-kept g c =
    let first : ℕ = head_size g.L.Width.WORD in
    kept_then (kept_then c.settle_tables.ensures.kept (kept_torn first (c.args.roll.now.end - first) (inr (omega arith)) c.write_pointers.ensures.torn))
    (kept_same first (c.args.roll.now.end - first) c.flush.ensures.images)

pub returns-clause-file : goal.returns-clause-file
returns-clause-file g c =
    let ts = roll_tables c.args.roll.now in
    let sized : AreSized (g.S.Store.size c.args.store.now) (g.S.Store.image c.args.store.now) = record { each = g.met.S.Store.image_size c.args.store.now } in
    on_any_ok c.flush.result
    (finished (length-tables_of (roll_entries c.args.roll.now) 0 256) c.requires.start c.requires.inside sized c.in_ok-settle_tables.ensures.ends (c.in_ok-write_pointers.ensures.ok ts c.requires.counts) c.flush.ensures.images)

pub returns-in_err-settle_tables-clause-head_last : goal.returns-in_err-settle_tables-clause-head_last
returns-in_err-settle_tables-clause-head_last g c = head_kept c.settle_tables.ensures.head

pub returns-in_err-write_pointers-clause-head_last : goal.returns-in_err-write_pointers-clause-head_last
returns-in_err-write_pointers-clause-head_last g c =
    let bytes : List ℕ = flat_map (table_bytes g.L.Width.WORD) (roll_tables c.args.roll.now) in
    tables_held (held_kept (kept_torn c.args.roll.now.end (length bytes) (inr (omega arith)) c.write_pointers.ensures.torn) c.in_ok-settle_tables.ensures.held)

pub returns-clause-head_last : goal.returns-clause-head_last
returns-clause-head_last g c =
    let bytes : List ℕ = flat_map (table_bytes g.L.Width.WORD) (roll_tables c.args.roll.now) in
    let head : ImagesHold c.args.roll.now.end bytes (g.S.Store.image c.write_pointers.new.store) = held_kept (kept_torn c.args.roll.now.end (length bytes) (inr (omega arith)) c.write_pointers.ensures.torn) c.in_ok-settle_tables.ensures.held in
    tables_held (held_kept (kept_same c.args.roll.now.end (length bytes) c.flush.ensures.images) head)

pub returns-clause-written : goal.returns-clause-written
returns-clause-written g c = search rules

pub returns-clause-cause : goal.returns-clause-cause
returns-clause-cause g c = search rules

pub returns-clause-memory : goal.returns-clause-memory
returns-clause-memory g c = search rules
