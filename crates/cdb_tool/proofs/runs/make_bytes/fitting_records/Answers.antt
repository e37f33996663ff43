use Rattle.cdb_tool.proofs.Words.{FailsPutting, Holds, KeyValue, List, [], arith, err_from_is_err_and, holds_fits, refl, subst, ℕ, ◌++◌, ◌∷◌}
use Rattle.cdb_form.specs.declared.mode.Mode.TheVariants.{Add}
use Rattle.cdb_form.specs.Views.Pairs.{key_value}
use Rattle.cdb_tool.proofs.WholeRuns.{holds_so_far_none, holds_so_far_more, reads_fitting, text_not_read, refused}
use Rattle.cdb_tool.proofs.runs.make_bytes.fitting_records.Goals as goal

pub loop-fault-init : goal.loop-fault-init
loop-fault-init g c = record { going = c.requires.going; so_far = holds_so_far_none _ _ g.F.Feeds.feed _ _ c.in_ok-maker.ensures.holds (omega (arith, g.met.L.Width.greatest_fits.2)) c.in_ok-maker.ensures.limit c.requires }

pub returns-in-Err-clause-err : goal.returns-in-Err-clause-err
returns-in-Err-clause-err g c =
    let inv = c.loop-fault.invariant in
    rw c.of_text.ensures (text_not_read g.L.Width.WORD g.L.Width.GREATEST g.F.Feeds.feed _ c.loop-fault.text c.read_into.new.self _ c.in-Err.fault (g.met.F.Feeds.one_rest c.loop-fault.text.items.source.reader) inv.so_far (c.in-Err.ensures.fails.meets inv.going))

pub returns-in-Ok-false-clause-ok : goal.returns-in-Ok-false-clause-ok
returns-in-Ok-false-clause-ok g c =
    let inv = c.loop-fault.invariant in
    let held = inv.so_far in
    let end = rw c.in-Ok-false.field-0-test at c.in-Ok-false.ensures.gives in
    (held.records, held.holds, reads_fitting _ _ g.F.Feeds.feed _ c.loop-fault.text c.read_into.new.self _ held (end.newline inv.going))

pub loop-fault-preserved : goal.loop-fault-preserved
loop-fault-preserved g c =
    let held = c.loop-fault.invariant.so_far in
    let r : KeyValue = key_value c.read_into.new.into in
    let one = rw c.in-Ok-true.field-0-test at c.in-Ok-true.ensures.gives in
    let m = c.put.new.self in
    let puts = c.in_ok-put.ensures.puts in
    let holds : Holds m (held.records ++ r ∷ []) =
    subst (λ (v : List ℕ). Holds m (held.records ++ record { key = v; value = r.value } ∷ [])) c.deref.ensures.value
    (subst (λ (v : List ℕ). Holds m (held.records ++ record { key = c.deref.result.now; value = v } ∷ [])) c.deref-in-loop-fault.ensures.value (puts.holds held.records held.holds)) in
    let fits = (holds_fits m (held.records ++ r ∷ []) g.met.L.Width.four_or_eight holds).each m.store.bytes.items refl in
    record {
      going = one.going;
      so_far = holds_so_far_more _ _ g.F.Feeds.feed _ c.loop-fault.text c.read_into.new.self _ m r held one holds (omega (arith, fits, m.limited)) c.put.ensures.follows.limit;
    }

pub loop-fault-smaller : goal.loop-fault-smaller
loop-fault-smaller g c =
    let one = rw c.in-Ok-true.field-0-test at c.in-Ok-true.ensures.gives in
    one.fewer

pub returns-in_err-put-clause-err : goal.returns-in_err-put-clause-err
returns-in_err-put-clause-err g c =
    let held = c.loop-fault.invariant.so_far in
    let r : KeyValue = key_value c.read_into.new.into in
    let one = rw c.in-Ok-true.field-0-test at c.in-Ok-true.ensures.gives in
    let p = err_from_is_err_and c.from_residual-in_err-put.result c.from_residual-in_err-put.ensures.1 in
    let m = c.put.new.self in
    let f = c.in_err-put.field-0.0 in
    let fails : FailsPutting c.loop-fault.maker m Add r f =
    subst (λ (v : List ℕ). FailsPutting c.loop-fault.maker m Add (record { key = v; value = r.value }) f) c.deref.ensures.value
    (subst (λ (v : List ℕ). FailsPutting c.loop-fault.maker m Add (record { key = c.deref.result.now; value = v }) f) c.deref-in-loop-fault.ensures.value c.in_err-put.ensures.fails) in
    rw (p.1, p.2) (refused _ g.F.Feeds.feed _ c.loop-fault.text c.read_into.new.self _ m r f m.store.bytes.items held one refl (λ rose. omega arith) fails)
