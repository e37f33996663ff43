use Rattle.cdb.proofs.Words.{Err, Keeps-refl, None, files_of, inl, inr, refl, rules, same_places, says_more}
use Rattle.cdb.proofs.HandedBack.{hands_left, opens_nothing}
use Rattle.std.proofs.Common.{map, option_map, string_bytes, ◌≡◌, ◌⊎◌}
use Rattle.cdb_names.specs.Replacing.{IsNoName}
use Rattle.cdb_system.specs.Answered.{if_some}
use Rattle.cdb_system.specs.Opening.{base_left}
use Rattle.cdb_system.specs.State.{temporary_of}
use Rattle.cdb.specs.Contents.{sources_left}
use Rattle.cdb.specs.Handing.{machine_of}
use Rattle.cdb.specs.Reasons.{HasFailedFile, HasRefusedFile, HasRefusedName, calls_made, left_reasons, run_reasons, store_reasons}
use Rattle.cdb.proofs.Reasons.{all_opened, each_weaker, file_then, reason_weaker, some_any}
use Rattle.cdb.proofs.creating.create.Goals as goal

pub returns-in-Err-clause-output : goal.returns-in-Err-clause-output
returns-in-Err-clause-output g c = says_more (Err c.in-Err.unopened.fault) (λ none. absurd none) c.in-Err.ensures.output

pub returns-in-Err-clause-creates : goal.returns-in-Err-clause-creates
returns-in-Err-clause-creates g c =
    rw c.base_left.ensures (inl (c.in-Err.unopened.fault, refl, c.in-Err.ensures.fails, refl, refl, Keeps-refl _, Keeps-refl _))

pub returns-then-is_standard-clause-creates : goal.returns-then-is_standard-clause-creates
returns-then-is_standard-clause-creates g c =
    let contents = c.in-Ok.contents in
    let sources = c.make_on_output-sources.result.0 in
    inr (
      contents.sources.base,
      contents.sources.inputs,
      g.Y.System.calls c.open_all.new.system,
      c.in-Ok.ensures.ok,
      record {
        shared = c.in-Ok.ensures.shared;
        handed = sources.inputs;
        hands = hands_left sources c.into_left.result _ contents.sources.inputs c.into_left.ensures c.make_on_output-sources.ensures.placed;
        opens = opens_nothing _ _ refl;
        does = rw c.into_left.ensures (inl (search rules, refl, refl, record { read = refl; other = refl; made = refl }, rw c.in-Ok.ensures.options at c.make_on_output-sources.ensures.makes));
      },
    )

pub returns-then-is_in_place-clause-creates : goal.returns-then-is_in_place-clause-creates
returns-then-is_in_place-clause-creates g c =
    let contents = c.in-Ok.contents in
    let makes = c.make_in_place.ensures.makes in
    inr (
      contents.sources.base,
      contents.sources.inputs,
      g.Y.System.calls c.open_all.new.system,
      c.in-Ok.ensures.ok,
      record {
        shared = c.in-Ok.ensures.shared;
        handed = makes.0;
        hands = makes.1;
        opens = c.make_in_place.ensures.opens;
        does = inr (search rules, Keeps-refl _, inl (search rules, rw c.in-Ok.ensures.options at (makes.2 (g.O.Sink.contents c.args.streams.now.output))));
      },
    )

pub returns-in-Err-temporary_name-clause-creates : goal.returns-in-Err-temporary_name-clause-creates
returns-in-Err-temporary_name-clause-creates g c =
    let contents = c.in-Ok.contents in
    inr (
      contents.sources.base,
      contents.sources.inputs,
      g.Y.System.calls c.open_all.new.system,
      c.in-Ok.ensures.ok,
      record {
        shared = c.in-Ok.ensures.shared;
        handed = contents.sources.inputs;
        hands = rw c.into_left-in-Err-temporary_name.ensures (rw c.into_sources.ensures (record { readers = refl; shared = refl; stream = refl; placed = same_places contents.sources.inputs.readers.items }));
        opens = opens_nothing _ _ refl;
        does = rw c.into_left-in-Err-temporary_name.ensures (rw c.into_sources.ensures (inr (search rules, Keeps-refl _, inr (search rules, refl, record { read = refl; other = refl; made = refl }, inl (search rules, refl, refl, Keeps-refl _)))));
      },
    )

pub returns-clause-creates : goal.returns-clause-creates
returns-clause-creates g c =
    let contents = c.in-Ok.contents in
    let sources = c.replace_database-sources.result.0 in
    inr (
      contents.sources.base,
      contents.sources.inputs,
      g.Y.System.calls c.open_all.new.system,
      c.in-Ok.ensures.ok,
      record {
        shared = c.in-Ok.ensures.shared;
        handed = sources.inputs;
        hands = hands_left sources c.into_left-2.result _ contents.sources.inputs c.into_left-2.ensures c.replace_database-sources.ensures.placed;
        opens = opens_nothing _ _ refl;
        does =
            (let made = rw c.in-Ok-temporary_name.ensures at (rw c.as_str.ensures.value at (rw c.in-Ok.ensures.options at (c.replace_database-sources.ensures.replaces (g.Y.System.calls c.open_all.new.system) (g.O.Sink.contents c.args.streams.now.output)))) in
            rw c.into_left-2.ensures (inr (search rules, Keeps-refl _, inr (search rules, refl, record { read = refl; other = refl; made = refl }, inr made))));
      },
    )

pub returns-in-Err-clause-reason : goal.returns-in-Err-clause-reason
returns-in-Err-clause-reason g c =
    let base = c.in-Err.unopened.base in
    rw c.base_left.ensures
    (reason_weaker (store_reasons g.Y.File.Store (if_some base) (HasRefusedFile (g.Y.System.calls c.args.system.now) (g.Y.System.calls c.open_all.new.system))) (left_reasons (machine_of g.Y.File.Store g.Y.Made.Store g.Y.Stream.Feeds.feed g.Y.System g.Y.Names.File.RawFile) g.Y.Input.Feeds.feed (calls_made (g.Y.System.calls c.args.system.now) (g.Y.Names.Names.calls c.args.names.now)) (calls_made (g.Y.System.calls c.open_all.new.system) (g.Y.Names.Names.calls c.args.names.now)) (base_left base) (IsNoName c.args.creation.name.now ⊎ (temporary_of c.args.creation.name.now (option_map string_bytes c.args.creation.temporary.now) ≡ c.args.creation.name.now))) (λ r. absurd r) (λ s. s) (λ m. absurd m) (λ refused. inl refused) c.in-Err.unopened.fault c.in-Err.ensures.reason)

pub returns-then-is_standard-clause-reason : goal.returns-then-is_standard-clause-reason
returns-then-is_standard-clause-reason g c =
    let sources = c.make_on_output-sources.result.0 in
    rw c.into_left.ensures
    (each_weaker (run_reasons g.Y.File.Store g.Y.Stream.Feeds.feed g.Y.Input.Feeds.feed sources ⊥ ⊥) (left_reasons (machine_of g.Y.File.Store g.Y.Made.Store g.Y.Stream.Feeds.feed g.Y.System g.Y.Names.File.RawFile) g.Y.Input.Feeds.feed (calls_made (g.Y.System.calls c.args.system.now) (g.Y.Names.Names.calls c.args.names.now)) (calls_made (g.Y.System.calls c.open_all.new.system) (g.Y.Names.Names.calls c.args.names.now)) (sources_left sources None) (IsNoName c.args.creation.name.now ⊎ (temporary_of c.args.creation.name.now (option_map string_bytes c.args.creation.temporary.now) ≡ c.args.creation.name.now))) c.make_on_output-sources.result.1 (some_any g.Y.Stream.Feeds.feed g.Y.Input.Feeds.feed sources.inputs.readers.items sources.inputs.shared) (λ s. s) (λ m. absurd m) (λ n. absurd n) c.make_on_output-sources.ensures.reason)

pub returns-then-is_in_place-clause-reason : goal.returns-then-is_in_place-clause-reason
returns-then-is_in_place-clause-reason g c =
    let files = files_of g.Y.File.Store g.Y.Made.Store g.Y.Stream.Feeds.feed g.Y.System in
    let old = g.Y.System.calls c.args.system.now in
    let mid = g.Y.System.calls c.open_all.new.system in
    let opened = all_opened g.L.Width.WORD files (option_map string_bytes c.args.creation.base.now) (map string_bytes c.args.creation.inputs.now) old mid c.in-Ok.contents.sources.base c.in-Ok.contents.sources.inputs.readers.items c.in-Ok.ensures.ok in
    each_weaker (left_reasons (machine_of g.Y.File.Store g.Y.Made.Store g.Y.Stream.Feeds.feed g.Y.System g.Y.Names.File.RawFile) g.Y.Input.Feeds.feed (calls_made (g.Y.System.calls c.open_all.new.system) (g.Y.Names.Names.calls c.args.names.now)) (calls_made (g.Y.System.calls c.make_in_place.new.system) (g.Y.Names.Names.calls c.make_in_place.new.names)) c.make_in_place.result.0 ⊥) (left_reasons (machine_of g.Y.File.Store g.Y.Made.Store g.Y.Stream.Feeds.feed g.Y.System g.Y.Names.File.RawFile) g.Y.Input.Feeds.feed (calls_made (g.Y.System.calls c.args.system.now) (g.Y.Names.Names.calls c.args.names.now)) (calls_made (g.Y.System.calls c.make_in_place.new.system) (g.Y.Names.Names.calls c.make_in_place.new.names)) c.make_in_place.result.0 (IsNoName c.args.creation.name.now ⊎ (temporary_of c.args.creation.name.now (option_map string_bytes c.args.creation.temporary.now) ≡ c.args.creation.name.now))) c.make_in_place.result.1 (λ r. r) (λ s. s) (λ m. m)
    (λ n. elim n [
      | inl file ↦ inl (file_then old mid (g.Y.System.calls c.make_in_place.new.system) opened.0 opened.1 file)
      | inr n ↦ elim n [ inl name ↦ inr (inl name) | inr none ↦ absurd none ]
    ])
    c.make_in_place.ensures.reason

pub returns-clause-reason : goal.returns-clause-reason
returns-clause-reason g c =
    let sources = c.replace_database-sources.result.0 in
    let reason = rw c.in-Ok-temporary_name.ensures at (rw c.as_str.ensures.value at c.replace_database-sources.ensures.reason) in
    rw c.into_left-2.ensures
    (each_weaker (run_reasons g.Y.File.Store g.Y.Stream.Feeds.feed g.Y.Input.Feeds.feed sources (HasFailedFile g.Y.Names.File.RawFile (g.Y.Names.Names.calls c.args.names.now) (g.Y.Names.Names.calls c.replace_database-sources.new.names)) (HasRefusedName (g.Y.Names.Names.calls c.args.names.now) (g.Y.Names.Names.calls c.replace_database-sources.new.names) ⊎ (IsNoName c.args.creation.name.now ⊎ (temporary_of c.args.creation.name.now (option_map string_bytes c.args.creation.temporary.now) ≡ c.args.creation.name.now)))) (left_reasons (machine_of g.Y.File.Store g.Y.Made.Store g.Y.Stream.Feeds.feed g.Y.System g.Y.Names.File.RawFile) g.Y.Input.Feeds.feed (calls_made (g.Y.System.calls c.args.system.now) (g.Y.Names.Names.calls c.args.names.now)) (calls_made (g.Y.System.calls c.open_all.new.system) (g.Y.Names.Names.calls c.replace_database-sources.new.names)) (sources_left sources None) (IsNoName c.args.creation.name.now ⊎ (temporary_of c.args.creation.name.now (option_map string_bytes c.args.creation.temporary.now) ≡ c.args.creation.name.now))) c.replace_database-sources.result.1 (some_any g.Y.Stream.Feeds.feed g.Y.Input.Feeds.feed sources.inputs.readers.items sources.inputs.shared) (λ s. s) (λ m. inr m) (λ n. inr n) reason)
