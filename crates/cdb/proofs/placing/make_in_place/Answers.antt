use Rattle.cdb.proofs.Words.{Keeps-refl, Some, [], inl, inr, making_of, refl, rules, same_places, subst, ◌∷◌}
use Rattle.cdb.proofs.Databases.{database_synced, named_says, synced_says}
use Rattle.cdb.proofs.HandedBack.{hands_left, making_opens, missing_opens}
use Rattle.std.proofs.Common.{map, option_map, string_bytes}
use Rattle.cdb.specs.Contents.{sources_left}
use Rattle.cdb.specs.Creating.{LooksFor, files_read}
use Rattle.cdb.specs.Handing.{machine_of}
use Rattle.cdb.specs.Reasons.{AnyStoreFailed, calls_made, left_reasons, run_reasons}
use Rattle.cdb.proofs.NameReasons.{finds_one}
use Rattle.cdb.proofs.Reasons.{each_weaker, emptying_reason, seen_reason, some_any, synced_reason}
use Rattle.cdb.proofs.placing.make_in_place.Goals as goal

pub returns-then-may_be_read-clause-makes : goal.returns-then-may_be_read-clause-makes
returns-then-may_be_read-clause-makes g c =
    rw c.into_left.ensures (rw c.into_sources.ensures (c.args.contents.sources.inputs, record { readers = refl; shared = refl; stream = refl; placed = same_places c.args.contents.sources.inputs.readers.items }, λ output. inl (subst (λ found. LooksFor (files_read c.args.creation.name.now (option_map string_bytes c.args.creation.base.now) (map string_bytes c.args.creation.inputs.now)) found (g.Y.Names.Names.calls c.args.names.now) (g.Y.Names.Names.calls c.may_be_read.new.names)) (search rules) c.may_be_read.ensures, refl, record { read = refl; other = refl; made = refl }, refl, Keeps-refl _)))

pub returns-in-Err-clause-makes : goal.returns-in-Err-clause-makes
returns-in-Err-clause-makes g c =
    rw c.into_left-in-Err.ensures (rw c.into_sources-in-Err.ensures (c.args.contents.sources.inputs, record { readers = refl; shared = refl; stream = refl; placed = same_places c.args.contents.sources.inputs.readers.items }, λ output. inr (subst (λ found. LooksFor (files_read c.args.creation.name.now (option_map string_bytes c.args.creation.base.now) (map string_bytes c.args.creation.inputs.now)) found (g.Y.Names.Names.calls c.args.names.now) (g.Y.Names.Names.calls c.may_be_read.new.names)) (search rules) c.may_be_read.ensures, inl (c.in-Err.fault, c.in-Err.ensures.fails, record { read = refl; other = refl; made = refl }, refl, Keeps-refl _))))

pub returns-in-Err-clause-opens : goal.returns-in-Err-clause-opens
returns-in-Err-clause-opens g c = missing_opens _ _ _ c.in-Err.fault c.in-Err.ensures.fails

pub returns-clause-makes : goal.returns-clause-makes
returns-clause-makes g c =
    let sources = c.build-store.result.1 in
    let built = c.build-store.result.0 in
    let made = c.build-store.result.2 in
    let last = c.synced-flushed.new.store in (
      sources.inputs,
      hands_left sources c.into_left-2.result _ c.args.contents.sources.inputs c.into_left-2.ensures c.build-store.ensures.tells.1,
      λ output.
          rw c.into_left-2.ensures (inr (
            subst (λ found. LooksFor (files_read c.args.creation.name.now (option_map string_bytes c.args.creation.base.now) (map string_bytes c.args.creation.inputs.now)) found (g.Y.Names.Names.calls c.args.names.now) (g.Y.Names.Names.calls c.may_be_read.new.names)) (search rules) c.may_be_read.ensures,
            inr (
              g.Y.System.calls c.emptied.new.system,
              c.in-Ok.ensures.calls,
              record {
                store = c.in-Ok.store;
                came = c.in-Ok.ensures.makes;
                built = built;
                made = made;
                last = last;
                is_last = refl;
                alone = refl;
                run = c.build-store.ensures.tells.0;
                cause = c.build-store.ensures.fails;
                synced = c.synced-flushed.result;
                syncs = c.synced-flushed.ensures;
                has = database_synced g.Y.File.Store g.Y.Made.Store (making_of g.L.Width.WORD g.L.Width.GREATEST g.Y.Stream.Feeds.feed g.Y.Input.Feeds.feed c.args.contents sources.inputs) sources.base built last made c.synced-flushed.result c.synced-flushed.ensures c.build-store.ensures.built;
                named = c.kept-answer.ensures;
              },
            ),
          )),
    )

pub returns-clause-opens : goal.returns-clause-opens
returns-clause-opens g c = making_opens _ _ _ _ c.synced-flushed.result c.kept-answer.result c.in-Ok.ensures.calls c.kept-answer.ensures

pub returns-clause-output : goal.returns-clause-output
returns-clause-output g c =
    named_says _ _ _ _ c.synced-flushed.result c.kept-answer.result c.kept-answer.ensures (synced_says _ c.build-store.result.2 c.synced-flushed.result c.synced-flushed.ensures c.build-store.ensures.tells.2)

pub returns-then-may_be_read-clause-reason : goal.returns-then-may_be_read-clause-reason
returns-then-may_be_read-clause-reason g c =
    inr (inl (finds_one c.args.creation.name.now (option_map string_bytes c.args.creation.base.now) (map string_bytes c.args.creation.inputs.now) (g.Y.Names.Names.calls c.args.names.now) (g.Y.Names.Names.calls c.may_be_read.new.names) (subst (λ found. LooksFor (files_read c.args.creation.name.now (option_map string_bytes c.args.creation.base.now) (map string_bytes c.args.creation.inputs.now)) found (g.Y.Names.Names.calls c.args.names.now) (g.Y.Names.Names.calls c.may_be_read.new.names)) (search rules) c.may_be_read.ensures)))

pub returns-in-Err-clause-reason : goal.returns-in-Err-clause-reason
returns-in-Err-clause-reason g c =
    emptying_reason (left_reasons (machine_of g.Y.File.Store g.Y.Made.Store g.Y.Stream.Feeds.feed g.Y.System g.Y.Names.File.RawFile) g.Y.Input.Feeds.feed (calls_made (g.Y.System.calls c.args.system.now) (g.Y.Names.Names.calls c.args.names.now)) (calls_made (g.Y.System.calls c.emptied.new.system) (g.Y.Names.Names.calls c.may_be_read.new.names)) c.into_left-in-Err.result ⊥) c.args.creation.name.now (g.Y.System.calls c.args.system.now) (g.Y.System.calls c.emptied.new.system) c.in-Err.fault (λ refused. inl refused) c.in-Err.ensures.fails

pub returns-clause-reason : goal.returns-clause-reason
returns-clause-reason g c =
    let sources = c.build-store.result.1 in
    let last = c.synced-flushed.new.store in
    let run = run_reasons g.Y.File.Store g.Y.Stream.Feeds.feed g.Y.Input.Feeds.feed sources (AnyStoreFailed g.Y.Made.Store (last ∷ [])) ⊥ in
    let why = left_reasons (machine_of g.Y.File.Store g.Y.Made.Store g.Y.Stream.Feeds.feed g.Y.System g.Y.Names.File.RawFile) g.Y.Input.Feeds.feed (calls_made (g.Y.System.calls c.args.system.now) (g.Y.Names.Names.calls c.args.names.now)) (calls_made (g.Y.System.calls c.kept-answer.new.system) (g.Y.Names.Names.calls c.may_be_read.new.names)) (sources_left sources (Some last)) ⊥ in
    rw c.into_left-2.ensures
    (seen_reason run why c.args.creation.name.now (g.Y.System.calls c.args.system.now) (g.Y.System.calls c.emptied.new.system) (g.Y.System.calls c.kept-answer.new.system) c.synced-flushed.result c.kept-answer.result (λ refused. inl refused) c.in-Ok.ensures.calls c.kept-answer.ensures
    (each_weaker run why c.synced-flushed.result (some_any g.Y.Stream.Feeds.feed g.Y.Input.Feeds.feed sources.inputs.readers.items sources.inputs.shared) (λ s. s) (λ m. inl m) (λ n. absurd n))
    (synced_reason g.Y.File.Store g.Y.Stream.Feeds.feed g.Y.Input.Feeds.feed sources g.Y.Made.Store c.in-Ok.store c.build-store.result.0 last c.build-store.result.2 c.synced-flushed.result c.build-store.ensures.fails c.synced-flushed.ensures c.build-store.ensures.tells.3))
