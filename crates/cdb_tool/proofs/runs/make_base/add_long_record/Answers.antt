use Rattle.cdb_tool.proofs.Words.{Err, FailsPutting, KeyValue, Ok, Puts, ap, arith, common_steps, err_from_is_err_and, follows_same, limit_of, make_fault, reads_more, record_in, refl, subst, with_first, ◌∙◌, ◌≡◌}
use Rattle.cdb_form.specs.Format.{with_records}
use Rattle.cdb_form.specs.declared.mode.Mode.TheVariants.{Add}
use Rattle.std.proofs.lemmas.Result.{on_ok_weaker}
use Rattle.cdb_tool.proofs.BaseRecords.{long_added, long_stopped, make_no_base, make_says, record_added, record_stopped, value_stopped}
use Rattle.cdb_tool.proofs.Courses.{as_told, refused_store}
use Rattle.cdb_tool.proofs.LongValues.{long_step}
use Rattle.cdb_tool.proofs.MakerSteps.{step_on}
use Rattle.cdb_tool.specs.Runs.Make.{StepsOn}
use Rattle.cdb_tool.proofs.runs.make_base.add_long_record.Goals as goal

pub returns-in_err-long-clause-fails : goal.returns-in_err-long-clause-fails
returns-in_err-long-clause-fails g c =
    let p = err_from_is_err_and c.from_residual-in_err-long.result c.from_residual-in_err-long.ensures.1 in
    rw (p.1, p.2) (λ rest rs holds b i. record { each = λ a j. long_stopped {s = g.S.Store} {l = g.L.Width} c.args.maker.now c.begin_long.new.self c.in_err-long.field-0.0 c.in_err-long.ensures.fails g.L.Width.WORD (limit_of c.args.maker.now) (with_records rs (with_first (record_in b c.args.pair) rest)) })

pub returns-in_err-long-clause-step : goal.returns-in_err-long-clause-step
returns-in_err-long-clause-step g c =
    let p = err_from_is_err_and c.from_residual-in_err-long.result c.from_residual-in_err-long.ensures.1 in
    rw (p.1, p.2) (long_step {s = g.S.Store} {l = g.L.Width} c.args.maker.now c.begin_long.new.self c.in_err-long.field-0.0 c.in_err-long.ensures.fails c.begin_long.ensures.follows)

pub copy_value-requires-clause-begun : goal.copy_value-requires-clause-begun
copy_value-requires-clause-begun g c =
    let b = rw c.in-Some.is at c.in_ok-long.ensures.begins in
    (c.args.maker.now, c.deref.result.now, b)

pub returns-in-Some-clause-reads : goal.returns-in-Some-clause-reads
returns-in-Some-clause-reads g c = reads_more c.value_into.ensures.reads c.copy_value.ensures.reads

pub returns-in-Some-clause-ok : goal.returns-in-Some-clause-ok
returns-in-Some-clause-ok g c =
    let b = rw c.in-Some.is at c.in_ok-long.ensures.begins in
    on_ok_weaker c.copy_value.result (long_added {s = g.S.Store} {l = g.L.Width} (g.B.Store.image c.copy_value.new.records.reader.now.store) c.args.maker.now c.copy_value.new.maker c.args.pair c.deref.result.now (λ b i. c.deref.ensures.value ∙ c.in_ok-value_into.ensures.is b (c.copy_value.ensures.reads.images b i))) (c.copy_value.ensures.puts c.args.maker.now c.deref.result.now b)

pub returns-in-Some-clause-fails : goal.returns-in-Some-clause-fails
returns-in-Some-clause-fails g c = value_stopped {s = g.S.Store} {l = g.L.Width} (g.B.Store.image c.copy_value.new.records.reader.now.store) c.args.maker.now c.copy_value.new.maker c.args.pair c.copy_value.result c.copy_value.ensures.fails

pub returns-in-Some-clause-step : goal.returns-in-Some-clause-step
returns-in-Some-clause-step g c =
    let b = rw c.in-Some.is at c.in_ok-long.ensures.begins in
    step_on c.copy_value.result (follows_same {s = g.S.Store} {l = g.L.Width} c.args.maker.now) refl (λ more. omega (arith, more, c.value_into.ensures.reads.failures)) (λ is. is) (c.copy_value.ensures.step c.args.maker.now c.deref.result.now b)

pub returns-in_err-put-clause-reads : goal.returns-in_err-put-clause-reads
returns-in_err-put-clause-reads g c = reads_more c.value_into.ensures.reads c.value_into-2.ensures.reads

pub returns-in_err-put-clause-fails : goal.returns-in_err-put-clause-fails
returns-in_err-put-clause-fails g c =
    let p = err_from_is_err_and c.from_residual-in_err-put.result c.from_residual-in_err-put.ensures.1 in
    let same : c.begin_long.new.self ≡ c.args.maker.now = c.in_ok-long.ensures.none (ap Ok c.in_default.is) in
    let f = c.in_err-put.field-0.0 in
    let r : KeyValue = record { key = c.value_into.new.into.items; value = c.value_into-2.new.into.items } in
    let fails = as_told (λ m r. FailsPutting {s = g.S.Store} {l = g.L.Width} c.begin_long.new.self c.put.new.self m r f) _ _ _ _ r refl c.deref-2.ensures.value c.deref-3.ensures.value c.in_err-put.ensures.fails in
    rw (p.1, p.2) (record_stopped {s = g.S.Store} {l = g.L.Width} (g.B.Store.image c.value_into-2.new.self.reader.now.store) c.args.maker.now c.put.new.self c.args.pair _ _ f (λ b i. c.in_ok-value_into.ensures.is b (c.value_into-2.ensures.reads.images b i)) (λ b i. c.in_ok-value_into-2.ensures.is b i) (subst (λ v. FailsPutting {s = g.S.Store} {l = g.L.Width} v c.put.new.self Add r f) same fails))

pub returns-in_err-put-clause-step : goal.returns-in_err-put-clause-step
returns-in_err-put-clause-step g c =
    let p = err_from_is_err_and c.from_residual-in_err-put.result c.from_residual-in_err-put.ensures.1 in
    let f = c.in_err-put.field-0.0 in
    let r : KeyValue = record { key = c.value_into.new.into.items; value = c.value_into-2.new.into.items } in
    let fails = as_told (λ m r. FailsPutting {s = g.S.Store} {l = g.L.Width} c.begin_long.new.self c.put.new.self m r f) _ _ _ _ r refl c.deref-2.ensures.value c.deref-3.ensures.value c.in_err-put.ensures.fails in
    let step : StepsOn {A = Unit} {s = g.S.Store} {l = g.L.Width} c.begin_long.new.self c.put.new.self ⊥ ⊥ (Err (make_fault f)) = record {
      follows = c.put.ensures.follows;
      failed = refused_store {s = g.S.Store} {l = g.L.Width} c.begin_long.new.self c.put.new.self _ _ f fails;
      memory = grind (arith, common_steps);
      fine = tt;
      base = λ is. absurd (make_no_base f is);
      output = make_says Unit ⊥ f;
    } in
    rw (p.1, p.2) (step_on (Err _) c.begin_long.ensures.follows c.in_ok-long.ensures.fine (λ is. absurd is) (λ is. is) step)

pub returns-clause-reads : goal.returns-clause-reads
returns-clause-reads g c = reads_more c.value_into.ensures.reads c.value_into-2.ensures.reads

pub returns-clause-ok : goal.returns-clause-ok
returns-clause-ok g c =
    let same : c.begin_long.new.self ≡ c.args.maker.now = c.in_ok-long.ensures.none (ap Ok c.in_default.is) in
    let r : KeyValue = record { key = c.value_into.new.into.items; value = c.value_into-2.new.into.items } in
    let puts = as_told (λ m r. Puts {s = g.S.Store} {l = g.L.Width} c.begin_long.new.self c.put.new.self m r c.in_ok-put.field-0) _ _ _ _ r refl c.deref-2.ensures.value c.deref-3.ensures.value c.in_ok-put.ensures.puts in
    record_added {s = g.S.Store} {l = g.L.Width} (g.B.Store.image c.value_into-2.new.self.reader.now.store) c.args.maker.now c.put.new.self c.args.pair _ _ _ (λ b i. c.in_ok-value_into.ensures.is b (c.value_into-2.ensures.reads.images b i)) (λ b i. c.in_ok-value_into-2.ensures.is b i) (subst (λ v. Puts {s = g.S.Store} {l = g.L.Width} v c.put.new.self Add r c.in_ok-put.field-0) same puts)
