use Rattle.cdb.proofs.Words.{Keeps-refl, ap, arith, inl, inr, making_of, refl, same_places, take, ⊤, ◌<◌, ◌∙◌, ◌≡◌}
use Rattle.std.proofs.lemmas.Result.{IfErr-weaker, on_ok_weaker}
use Rattle.cdb_store.specs.BufferedStore.{bytes_of}
use Rattle.cdb_store.specs.Images.{overwrite}
use Rattle.cdb_store.proofs.OverLemmas.{over_emptied}
use Rattle.cdb_names.specs.Replacing.{inner_of}
use Rattle.cdb.specs.Reasons.{run_reasons}
use Rattle.cdb.proofs.Databases.{database_made, run_under}
use Rattle.cdb.proofs.Reasons.{each_weaker}
use Rattle.cdb.proofs.building.BuildingBuilder.build.Goals as goal

pub returns-in-Ok-clause-built : goal.returns-in-Ok-clause-built
returns-in-Ok-clause-built g c =
    let run = c.make_in-buffered.ensures in
    let left = c.make_in-buffered.result.0 in
    let back = c.make_in-buffered.result.1 in
    let made = c.make_in-buffered.result.2 in
    rw (c.into_inner.ensures ∙ ap inner_of c.discard.ensures)
    (database_made g.Y.File.Store (making_of g.L.Width.WORD g.L.Width.GREATEST g.Y.Stream.Feeds.feed g.Y.Input.Feeds.feed c.args.self.contents back.inputs) back.base _ (g.S.Store.image left.inner.inner) _ _ made run.runs
    (on_ok_weaker made (λ settled. (over_emptied left.pos (bytes_of left) (g.S.Store.image left.inner.inner) (ap (λ n. take n left.buffer.items) settled.0)).no_other) run.settled))

pub returns-in-Ok-clause-fails : goal.returns-in-Ok-clause-fails
returns-in-Ok-clause-fails g c =
    let left = c.make_in-buffered.result.0 in
    let over : g.S.Store.failures (inner_of c.over.result) ≡ g.S.Store.failures c.args.store = ap g.S.Store.failures c.over.ensures in
    rw (c.into_inner.ensures ∙ ap inner_of c.discard.ensures)
    (IfErr-weaker c.make_in-buffered.result.2 _ _ (λ f fails. (
      (λ is. let rose : g.S.Store.failures c.in-Ok.buffered.inner.inner < g.S.Store.failures left.inner.inner = fails.0 is in omega (arith, rose, c.in-Ok.ensures.failures, over)),
      (λ is. fails.1 is ∙ (c.in-Ok.ensures.failures ∙ over)),
    )) c.make_in-buffered.ensures.failed)

pub returns-in-Ok-clause-tells : goal.returns-in-Ok-clause-tells
returns-in-Ok-clause-tells g c =
    let run = c.make_in-buffered.ensures in
    let left = c.make_in-buffered.result.0 in
    let back = c.make_in-buffered.result.1 in
    rw (c.into_inner.ensures ∙ ap inner_of c.discard.ensures) (
      inl (run_under g.Y.File.Store (making_of g.L.Width.WORD g.L.Width.GREATEST g.Y.Stream.Feeds.feed g.Y.Input.Feeds.feed c.args.self.contents back.inputs) back.base _ (g.S.Store.image left.inner.inner) _ _ c.make_in-buffered.result.2 run.runs (λ b is. (overwrite b left.pos (bytes_of left), (b, is, refl)))
          (on_ok_weaker c.make_in-buffered.result.2 (λ settled. (over_emptied left.pos (bytes_of left) (g.S.Store.image left.inner.inner) (ap (λ n. take n left.buffer.items) settled.0)).no_other) run.settled)),
      run.placed,
      run.output,
      each_weaker (run_reasons g.Y.File.Store g.Y.Stream.Feeds.feed g.Y.Input.Feeds.feed back (g.S.Store.failures c.in-Ok.buffered.inner.inner < g.S.Store.failures left.inner.inner) ⊥) (run_reasons g.Y.File.Store g.Y.Stream.Feeds.feed g.Y.Input.Feeds.feed back ⊤ ⊥) c.make_in-buffered.result.2 (λ r. r) (λ s. s) (λ m. tt) (λ n. n) run.reason,
    )

pub returns-in-Err-clause-tells : goal.returns-in-Err-clause-tells
returns-in-Err-clause-tells g c = rw c.into_sources-sources.ensures (inr (refl, refl, Keeps-refl _), same_places c.args.self.contents.sources.inputs.readers.items, tt, tt)
