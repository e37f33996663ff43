use Rattle.cdb.proofs.Words.{false, inr, making_of, refl, rules, same_places, subst, ⊤}
use Rattle.cdb.proofs.Agreeing.{Tells, of_contents, told_placed}
use Rattle.cdb.proofs.Asks.{ok_and, read_asking}
use Rattle.cdb.proofs.Replaced.{replaced_says}
use Rattle.std.proofs.Common.{inl, map, option_map, string_bytes, ◌≡◌, ◌⊎◌}
use Rattle.cdb_names.specs.Replacing.{IsNoName}
use Rattle.cdb.specs.Creating.{LooksFor, files_read}
use Rattle.cdb.specs.Reasons.{HasFailedFile, HasRefusedName, run_reasons}
use Rattle.cdb.proofs.NameReasons.{failed_then, finds_one, name_then, replaced_reason}
use Rattle.cdb.proofs.Reasons.{each_weaker}
use Rattle.cdb.proofs.placing.replace_database.Goals as goal

pub returns-clause-replaces : goal.returns-clause-replaces
returns-clause-replaces g c =
    let e = c.replace_file-sources.ensures in
    let sources = c.replace_file-sources.result.0 in
    let answer = c.replace_file-sources.result.1 in
    λ opened output. inr (
      g.Y.Names.Names.calls c.may_be_read.new.names,
      subst (λ found. LooksFor (files_read c.args.temporary.now (option_map string_bytes c.args.creation.base.now) (map string_bytes c.args.creation.inputs.now)) found (g.Y.Names.Names.calls c.args.names.now) (g.Y.Names.Names.calls c.may_be_read.new.names)) (search rules) c.may_be_read.ensures,
      record {
        answer = answer;
        answered = c.answer_to_program.ensures;
        calls = e.calls;
        moments = e.any_moment;
        ok = ok_and _ _ answer e.ok e.sure;
        err = e.err;
        no_name = e.no_name;
        guarded = e.guarded;
        renamed = e.renames_ok;
        unrenamed = e.renames_err;
        build = e.build;
        lines = of_contents g.Y.Stream.Feeds.feed g.Y.Input.Feeds.feed g.E.Sink.contents g.E.Sink.failed g.Y.File.Store g.Y.Names.File.RawFile (making_of g.L.Width.WORD g.L.Width.GREATEST g.Y.Stream.Feeds.feed g.Y.Input.Feeds.feed c.args.contents) c.args.contents.sources _ _ _ _ sources _ _ answer refl e.told;
      },
    )

pub returns-then-may_be_read-clause-placed : goal.returns-then-may_be_read-clause-placed
returns-then-may_be_read-clause-placed g c = rw c.into_sources.ensures (same_places c.args.contents.sources.inputs.readers.items)

pub returns-clause-placed : goal.returns-clause-placed
returns-clause-placed g c =
    told_placed g.Y.Stream.Feeds.feed g.Y.Input.Feeds.feed g.E.Sink.contents g.E.Sink.failed g.Y.File.Store g.Y.Names.File.RawFile (making_of g.L.Width.WORD g.L.Width.GREATEST g.Y.Stream.Feeds.feed g.Y.Input.Feeds.feed c.args.contents) c.args.contents.sources _ _ _ _ c.replace_file-sources.result.0 _ _ c.replace_file-sources.result.1 c.replace_file-sources.ensures.told

pub returns-clause-output : goal.returns-clause-output
returns-clause-output g c =
    rw c.answer_to_program.ensures (replaced_says g.E.Sink.failed g.Y.Names.File.RawFile _ (Tells g.Y.Stream.Feeds.feed g.Y.Input.Feeds.feed g.E.Sink.contents g.E.Sink.failed g.Y.File.Store g.Y.Names.File.RawFile (making_of g.L.Width.WORD g.L.Width.GREATEST g.Y.Stream.Feeds.feed g.Y.Input.Feeds.feed c.args.contents) c.args.contents.sources) _ _ _ _ c.replace_file-sources.result.0 _ _ c.replace_file-sources.result.1 (λ images made told. told.2) c.replace_file-sources.ensures.told)

pub returns-then-may_be_read-clause-reason : goal.returns-then-may_be_read-clause-reason
returns-then-may_be_read-clause-reason g c =
    inl (finds_one c.args.temporary.now (option_map string_bytes c.args.creation.base.now) (map string_bytes c.args.creation.inputs.now) (g.Y.Names.Names.calls c.args.names.now) (g.Y.Names.Names.calls c.may_be_read.new.names) (subst (λ found. LooksFor (files_read c.args.temporary.now (option_map string_bytes c.args.creation.base.now) (map string_bytes c.args.creation.inputs.now)) found (g.Y.Names.Names.calls c.args.names.now) (g.Y.Names.Names.calls c.may_be_read.new.names)) (search rules) c.may_be_read.ensures))

pub returns-clause-reason : goal.returns-clause-reason
returns-clause-reason g c =
    let e = c.replace_file-sources.ensures in
    let sources = c.replace_file-sources.result.0 in
    let answer = c.replace_file-sources.result.1 in
    let old = g.Y.Names.Names.calls c.args.names.now in
    let mid = g.Y.Names.Names.calls c.may_be_read.new.names in
    let new = g.Y.Names.Names.calls c.replace_file-sources.new.names in
    let asked = read_asking c.args.temporary.now (option_map string_bytes c.args.creation.base.now) (map string_bytes c.args.creation.inputs.now) false old mid (subst (λ found. LooksFor (files_read c.args.temporary.now (option_map string_bytes c.args.creation.base.now) (map string_bytes c.args.creation.inputs.now)) found (g.Y.Names.Names.calls c.args.names.now) (g.Y.Names.Names.calls c.may_be_read.new.names)) (search rules) c.may_be_read.ensures) in
    let why = λ (made : Type 0). run_reasons g.Y.File.Store g.Y.Stream.Feeds.feed g.Y.Input.Feeds.feed sources made (HasRefusedName old new ⊎ IsNoName c.args.creation.name.now ⊎ (c.args.temporary.now ≡ c.args.creation.name.now)) in
    rw c.answer_to_program.ensures
    (replaced_reason g.Y.Names.File.RawFile c.args.temporary.now c.args.creation.name.now mid new (why (HasFailedFile g.Y.Names.File.RawFile old new)) (λ none. inr none) (λ refused. inl (name_then old mid new asked.since asked.are refused)) (failed_then g.Y.Names.File.RawFile old mid new asked.since asked.are)
    _ (Tells g.Y.Stream.Feeds.feed g.Y.Input.Feeds.feed g.E.Sink.contents g.E.Sink.failed g.Y.File.Store g.Y.Names.File.RawFile (making_of g.L.Width.WORD g.L.Width.GREATEST g.Y.Stream.Feeds.feed g.Y.Input.Feeds.feed c.args.contents) c.args.contents.sources) sources _ _
    (λ images built told. each_weaker (run_reasons g.Y.File.Store g.Y.Stream.Feeds.feed g.Y.Input.Feeds.feed sources ⊤ ⊥) (why ⊤) built (λ r. r) (λ s. s) (λ m. m) (λ n. absurd n) told.3)
    answer e.err e.build e.told)
