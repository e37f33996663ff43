use Rattle.cdb_read.proofs.Words.{HasEntries, List, TableRecords, TablesAreClear, TablesHave, WalkHas, ap, arith, common_steps, err_from_is_err_and, length, subst, sym, take, ℕ, ◌++◌, ◌∙◌, ◌≡◌}
use Rattle.std.proofs.Math.Seq.{take-append_seam}
use Rattle.cdb_read.specs.Views.Check.{CheckFails, IsFirstDamage}
use Rattle.cdb_read.proofs.Checks.CheckLaws.{IsWhole, has_tables, first_is_table, first_in_walk, first_in_slots, first_is_lost, sound_is}
use Rattle.cdb_read.proofs.Checks.Tells.{read_tells, check_tells, check_tells_more}
use Rattle.cdb_read.proofs.Walked.WalkedLengths.{some_word}
use Rattle.cdb_read.proofs.checking.sound.check.Goals as goal

-- a vector whose items were all changed in place
written : (len : ℕ) (new rest : List TableRecords) → len ≡ length new → take len (new ++ rest) ≡ new
written len new rest e = ap (λ (n : ℕ). take n (new ++ rest)) e ∙ take-append_seam new rest

pub returns-in-Some-clause-fails : goal.returns-in-Some-clause-fails
returns-in-Some-clause-fails g c = λ b is.
    let w = g.L.Width.WORD in
    let r = c.args.reader.now in
    let size = g.met.S.Store.image_size r.store b is in
    let whole : IsWhole w b r.head.pointers = record { head = omega (arith, r.long, size); many = omega arith; known = r.known b is } in
    first_is_table w c.in-Some.n b r.head.pointers whole (sym c.in-Some.is ∙ c.first_outside-outside.ensures.first b (size ∙ sym c.len.ensures))

pub returns-in_err-lists-clause-fails : goal.returns-in_err-lists-clause-fails
returns-in_err-lists-clause-fails g c =
    let q = err_from_is_err_and c.from_residual.result c.from_residual.ensures.1 in
    let w = g.L.Width.WORD in
    let r = c.args.reader.now in
    let fails : CheckFails w g.S.Store r.store c.walk_entries.new.reader.store c.in_err-lists.field-0.0 =
    check_tells_more g.S.Store (WalkHas w) (IsFirstDamage w) r.store c.walk_entries.new.reader.store c.in_err-lists.field-0.0
    (λ b d is has.
    let was = c.walk_entries.ensures.reads.images b is in
    let tables = has_tables r.head.pointers r.long (omega arith) (r.known b was) (g.met.S.Store.image_size r.store b was) c.len.ensures c.in_default.ensures.inside in
    first_in_walk w b r.head.pointers d tables has)
    c.in_err-lists.ensures.fails in
    rw (q.1, q.2) fails

pub returns-in_err-check_slots-clause-fails : goal.returns-in_err-check_slots-clause-fails
returns-in_err-check_slots-clause-fails g c =
    let q = err_from_is_err_and c.from_residual-in_err-check_slots.result c.from_residual-in_err-check_slots.ensures.1 in
    let w = g.L.Width.WORD in
    let r = c.args.reader.now in
    let mid = c.walk_entries.new.reader.store in
    let new = c.check_slots.new.self.store in
    let fails : CheckFails w g.S.Store r.store c.check_slots.new.self.store c.in_err-check_slots.field-0.0 =
    check_tells g.S.Store (IsFirstDamage w) r.store c.check_slots.new.self.store c.in_err-check_slots.field-0.0
    (read_tells g.S.Store (TablesHave w c.deref_mut.result.now) (IsFirstDamage w) r.store c.walk_entries.new.reader.store c.check_slots.new.self.store c.in_err-check_slots.field-0.0 c.walk_entries.ensures.reads
    (λ b d is has.
    let walked = c.check_slots.ensures.reads.images b is in
    let was = c.walk_entries.ensures.reads.images b walked in
    let tables = has_tables r.head.pointers r.long (omega arith) (r.known b was) (g.met.S.Store.image_size r.store b was) c.len.ensures c.in_default.ensures.inside in
    first_in_slots w b r.head.pointers c.deref_mut.result.now d tables
    (subst (HasEntries w b) (sym c.deref_mut.ensures.value) (c.in_ok-lists.ensures.entries b walked)) has)
    c.in_err-check_slots.ensures.fails) in
    rw (q.1, q.2) fails

pub returns-in-Some-first_unmarked-clause-fails : goal.returns-in-Some-first_unmarked-clause-fails
returns-in-Some-first_unmarked-clause-fails g c = λ b is.
    let r = c.args.reader.now in
    let walked = c.check_slots.ensures.reads.images b is in
    let was = c.walk_entries.ensures.reads.images b walked in
    let tables = has_tables r.head.pointers r.long (omega arith) (r.known b was) (g.met.S.Store.image_size r.store b was) c.len.ensures c.in_default.ensures.inside in
    let same : c.deref.result.now ≡ c.check_slots.new.lists = c.deref.ensures.value ∙ written c.in_ok-lists.lists.len c.check_slots.new.lists _ (omega (arith, c.check_slots.auto.lists, c.deref_mut.ensures.len, c.in_ok-lists.lists.ok.0)) in
    first_is_lost g.L.Width.WORD c.in-Some-first_unmarked.place b r.head.pointers c.deref_mut.result.now c.deref.result.now c.first_unmarked.result c.in-Some-first_unmarked.is tables
    (subst (HasEntries g.L.Width.WORD b) (sym c.deref_mut.ensures.value) (c.in_ok-lists.ensures.entries b walked)) (subst (TablesAreClear g.L.Width.WORD b c.deref_mut.result.now) (sym same) (c.in_ok-check_slots.ensures.clear b is)) c.first_unmarked.ensures

pub returns-clause-sound : goal.returns-clause-sound
returns-clause-sound g c = λ b is.
    let r = c.args.reader.now in
    let walked = c.check_slots.ensures.reads.images b is in
    let was = c.walk_entries.ensures.reads.images b walked in
    let tables = has_tables r.head.pointers r.long (omega arith) (r.known b was) (g.met.S.Store.image_size r.store b was) c.len.ensures c.in_default.ensures.inside in
    let same : c.deref.result.now ≡ c.check_slots.new.lists = c.deref.ensures.value ∙ written c.in_ok-lists.lists.len c.check_slots.new.lists _ (omega (arith, c.check_slots.auto.lists, c.deref_mut.ensures.len, c.in_ok-lists.lists.ok.0)) in
    sound_is g.L.Width.WORD b r.head.pointers c.deref_mut.result.now c.deref.result.now c.first_unmarked.result c.in-None.is (some_word g.L.Width.WORD g.met.L.Width.four_or_eight) tables
    (subst (HasEntries g.L.Width.WORD b) (sym c.deref_mut.ensures.value) (c.in_ok-lists.ensures.entries b walked)) (subst (TablesAreClear g.L.Width.WORD b c.deref_mut.result.now) (sym same) (c.in_ok-check_slots.ensures.clear b is)) c.first_unmarked.ensures

pub returns-in-Some-first_unmarked-clause-reads : goal.returns-in-Some-first_unmarked-clause-reads
returns-in-Some-first_unmarked-clause-reads g c = grind (arith, common_steps)
