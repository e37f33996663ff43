use Rattle.cdb_form.proofs.Words.{IfErr-weaker, IfOk-weaker, Lacks, ReadsPair, ReadsValue, [], arith, is_newline, line_end, refl, ◌∷◌, ◌≡◌, ◌≢◌}
use Rattle.cdb_form.specs.Views.Source.{LeavesAmid}
use Rattle.cdb_form.specs.declared.text.kind.Kind.TheVariants.{InWord}
use Rattle.cdb_form.proofs.MapTexts.MapReads.{leaves_past, other_than, pair_is, pair_none, pair_value, run_to_end, run_to_newline}
use Rattle.cdb_form.proofs.text.source.Source.pair.Goals as goal

pub returns-in_default-clause-reads : goal.returns-in_default-clause-reads
returns-in_default-clause-reads g c =
    let run = rw c.in_default.is at c.in_ok-stop.ensures.run in
    let reads = run_to_end InWord _ _ _ run.0 run.2 in
    pair_is _ _ _ _ _ _ _ _ _ (pair_none _ _ _ run.0 [] c.args.first c.requires run.2.each reads) run.1 c.clear.ensures.items

pub returns-then-stop-eq10-clause-reads : goal.returns-then-stop-eq10-clause-reads
returns-then-stop-eq10-clause-reads g c =
    let run = rw c.in-Some.is at c.in_ok-stop.ensures.run in
    let newline : c.in-Some.stop ≡ 10 = omega arith in
    let reads = run_to_newline InWord _ _ _ run.0 _ run.2 newline in
    pair_is _ _ _ _ _ _ _ _ _ (pair_none _ _ _ run.0 (10 ∷ []) c.args.first c.requires run.2.each reads) run.1 c.clear.ensures.items

pub returns-clause-reads : goal.returns-clause-reads
returns-clause-reads g c =
    let run = rw c.in-Some.is at c.in_ok-stop.ensures.run in
    let other : c.in-Some.stop ≢ 10 = omega arith in
    IfOk-weaker c.value.result (λ newline. ReadsValue g.R.Feeds.feed c.keep.new.self c.value.new.self c.value.new.into.items (line_end newline)) (λ newline. ReadsPair g.R.Feeds.feed c.args.self.now c.value.new.self c.args.first (record { key = c.keep.new.into.items; value = c.value.new.into.items }) (line_end newline))
    (λ newline v. pair_is _ _ _ _ _ _ _ _ _ (pair_value _ _ _ _ run.0 _ (line_end newline) c.args.first _ c.requires run.2 other v) run.1 refl) c.value.ensures.reads

pub returns-clause-leaves : goal.returns-clause-leaves
returns-clause-leaves g c =
    let run = rw c.in-Some.is at c.in_ok-stop.ensures.run in
    let other : c.in-Some.stop ≢ 10 = omega arith in
    IfErr-weaker c.value.result (LeavesAmid (Lacks is_newline) g.R.Feeds.feed c.keep.new.self c.value.new.self) (LeavesAmid (Lacks is_newline) g.R.Feeds.feed c.args.self.now c.value.new.self)
    (λ f. leaves_past _ _ _ _ _ run.0 _ f run.2 (other_than _ 10 other)) c.value.ensures.leaves
