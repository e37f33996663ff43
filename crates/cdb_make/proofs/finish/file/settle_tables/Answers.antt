use Rattle.std.proofs.lemmas.Grind.{common_steps}
use Rattle.std.proofs.Common.{arith}
use Rattle.cdb_make.proofs.Words.{AreSized, ImagesHold, List, arith, flat_map, head_size, inl, length, roll_tables, table_bytes, ℕ, ◌-◌}
use Rattle.cdb_store.proofs.Moves.{kept_torn, kept_cut, kept_same, held_first, held_kept}
use Rattle.cdb_make.proofs.Slots.TableBytes.{length-tables}
use Rattle.cdb_make.proofs.FinishedFile.{settled_end, kept_then}
use Rattle.cdb_make.proofs.Bytes.Written.{on_any_ok}
use Rattle.cdb_make.proofs.finish.file.settle_tables.Goals as goal

pub returns-in_err-write_tables-clause-kept : goal.returns-in_err-write_tables-clause-kept
returns-in_err-write_tables-clause-kept g c =
    let first : ℕ = head_size g.L.Width.WORD in
    kept_torn first (c.args.roll.now.end - first) (inl (omega arith)) c.write_tables.ensures.torn

pub returns-in_err-write_tables-clause-head : goal.returns-in_err-write_tables-clause-head
returns-in_err-write_tables-clause-head g c = kept_torn 0 (head_size g.L.Width.WORD) (inl (omega arith)) c.write_tables.ensures.torn

pub returns-in_err-cut-clause-kept : goal.returns-in_err-cut-clause-kept
returns-in_err-cut-clause-kept g c =
    let first : ℕ = head_size g.L.Width.WORD in
    let bytes = length-tables g.L.Width.WORD (roll_tables c.args.roll.now) in
    kept_then (kept_torn first (c.args.roll.now.end - first) (inl (omega arith)) c.write_tables.ensures.torn)
    (kept_cut first (c.args.roll.now.end - first) (omega (arith, bytes, c.requires.last, c.cut.ensures.no_shorter)) c.cut.ensures.images)

pub returns-in_err-cut-clause-head : goal.returns-in_err-cut-clause-head
returns-in_err-cut-clause-head g c =
    let bytes = length-tables g.L.Width.WORD (roll_tables c.args.roll.now) in
    kept_then (kept_torn 0 (head_size g.L.Width.WORD) (inl (omega arith)) c.write_tables.ensures.torn)
    (kept_cut 0 (head_size g.L.Width.WORD) (omega (arith, bytes, c.requires.last, c.requires.start, c.cut.ensures.no_shorter)) c.cut.ensures.images)

pub returns-clause-kept : goal.returns-clause-kept
returns-clause-kept g c =
    let first : ℕ = head_size g.L.Width.WORD in
    let bytes = length-tables g.L.Width.WORD (roll_tables c.args.roll.now) in
    kept_then (kept_then (kept_torn first (c.args.roll.now.end - first) (inl (omega arith)) c.write_tables.ensures.torn)
    (kept_cut first (c.args.roll.now.end - first) (omega (arith, bytes, c.requires.last, c.cut.ensures.no_shorter)) c.cut.ensures.images))
    (kept_same first (c.args.roll.now.end - first) c.flush.ensures.images)

pub returns-clause-head : goal.returns-clause-head
returns-clause-head g c =
    let bytes = length-tables g.L.Width.WORD (roll_tables c.args.roll.now) in
    kept_then (kept_then (kept_torn 0 (head_size g.L.Width.WORD) (inl (omega arith)) c.write_tables.ensures.torn)
    (kept_cut 0 (head_size g.L.Width.WORD) (omega (arith, bytes, c.requires.last, c.requires.start, c.cut.ensures.no_shorter)) c.cut.ensures.images))
    (kept_same 0 (head_size g.L.Width.WORD) c.flush.ensures.images)

pub returns-clause-ends : goal.returns-clause-ends
returns-clause-ends g c =
    let bytes = length-tables g.L.Width.WORD (roll_tables c.args.roll.now) in
    let sized : AreSized (g.S.Store.size c.args.store.now) (g.S.Store.image c.args.store.now) = record { each = g.met.S.Store.image_size c.args.store.now } in
    let cut = c.cut.ensures.images in
    let size = c.in_ok-cut.ensures.ok in
    on_any_ok c.flush.result
    (settled_end c.requires.inside (omega (arith, bytes, c.requires.last, size)) sized c.in_ok-write_tables.ensures.ok cut c.flush.ensures.images)

pub returns-clause-held : goal.returns-clause-held
returns-clause-held g c =
    let ts : List ℕ = flat_map (table_bytes g.L.Width.WORD) (roll_tables c.args.roll.now) in
    let bytes = length-tables g.L.Width.WORD (roll_tables c.args.roll.now) in
    let sized : AreSized (g.S.Store.size c.args.store.now) (g.S.Store.image c.args.store.now) = record { each = g.met.S.Store.image_size c.args.store.now } in
    let held : ImagesHold c.args.roll.now.end ts (g.S.Store.image c.write_tables.new.store) = held_first c.requires.inside sized c.in_ok-write_tables.ensures.ok in
    let cut : ImagesHold c.args.roll.now.end ts (g.S.Store.image c.cut.new.self) = held_kept (kept_cut c.args.roll.now.end (length ts) (omega (arith, bytes, c.requires.last, c.cut.ensures.no_shorter)) c.cut.ensures.images) held in
    on_any_ok c.flush.result (held_kept (kept_same c.args.roll.now.end (length ts) c.flush.ensures.images) cut)

pub returns-clause-memory : goal.returns-clause-memory
returns-clause-memory g c = grind (arith, common_steps)
