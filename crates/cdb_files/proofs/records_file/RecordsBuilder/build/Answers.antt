use Rattle.std.proofs.Common.{subst, ap, take, ◌∙◌, ◌≡◌, OnOk, Ok, Err, Result}
use Rattle.std.proofs.lemmas.Result.{IfErr-weaker}
use Rattle.cdb_store.specs.BufferedStore.{bytes_of}
use Rattle.cdb_store.proofs.OverLemmas.{over_emptied}
use Rattle.cdb_names.specs.Replacing.{inner_of}
use Rattle.cdb_files.proofs.Failing.{building_below, building_later}
use Rattle.cdb_files.proofs.records_file.RecordsBuilder.build.Goals as goal

-- what both clauses give if the call answered Ok
both : {T E P Q R : Type 0} (r : Result T E) → (P → Q → R) → OnOk r P → OnOk r Q → OnOk r R
both (Ok x) f p q = f p q
both (Err e) f p q = tt

pub returns-in-Ok-clause-built : goal.returns-in-Ok-clause-built
returns-in-Ok-clause-built g c =
    let buffered = c.put_all-buffered.result.0 in
    both c.put_all-buffered.result.1 (λ settled file b is.
    file.each b ((over_emptied buffered.pos (bytes_of buffered) (g.S.Store.image buffered.inner.inner) (ap (λ n. take n buffered.buffer.items) settled.0)).no_other b (subst (λ s. g.S.Store.image s b) (c.into_inner.ensures ∙ ap inner_of c.discard.ensures) is)))
    c.put_all-buffered.ensures.settled c.put_all-buffered.ensures.file

pub returns-in-Ok-clause-fails : goal.returns-in-Ok-clause-fails
returns-in-Ok-clause-fails g c =
    let w = g.L.Width.WORD in
    let greatest = g.L.Width.GREATEST in
    let records = c.args.self.records.now in
    let buffered = c.put_all-buffered.result.0 in
    let inner = c.into_inner.ensures ∙ ap inner_of c.discard.ensures in
    let over : g.S.Store.failures (inner_of c.over.result) ≡ g.S.Store.failures c.args.store = ap g.S.Store.failures c.over.ensures in
    rw inner (IfErr-weaker c.put_all-buffered.result.1 _ _ (λ f fails.
    building_later w greatest records (g.S.Store.failures c.args.store) (g.S.Store.failures c.in-Ok.buffered.inner.inner) (g.S.Store.failures buffered.inner.inner) (g.S.Store.image buffered.inner.inner) f (c.in-Ok.ensures.failures ∙ over)
    (building_below w greatest records (g.S.Store.failures c.in-Ok.buffered.inner.inner) (g.S.Store.failures buffered.inner.inner) buffered.pos (bytes_of buffered) (g.S.Store.image buffered.inner.inner) f fails))
    c.put_all-buffered.ensures.fails)
