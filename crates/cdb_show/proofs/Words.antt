-- The words that most proofs here name.
pub use Rattle.cdb_command.specs.Refused.{shown}
pub use Rattle.cdb_command.specs.declared.style.Style.{Style}
pub use Rattle.cdb_read.specs.Differing.{SaysDifference}
pub use Rattle.cdb_show.specs.Feed.{AreRead, CutShort, HasFault, NoMore, NotBegun, Stop, StopsSo, TakesOne, reached, Parsing}
pub use Rattle.cdb_show.specs.declared.input_reader.InputReader.{InputReader}
pub use Rattle.cdb_form.proofs.Bytes.WritingLemmas.{appends_kept, appends_none, appends_then, prefix_in, prefix_last, prefix_then, same_appends, same_prefix, same_writes, writes_last, writes_prefix}
pub use Rattle.cdb_form.proofs.Fed.FeedLemmas.{from_both, from_kept, from_taken, from_then, from_weaker, nothing_taken}
pub use Rattle.cdb_form.proofs.MapTexts.WholeMap.{going_on}
pub use Rattle.cdb_form.specs.Views.Feed.{Consumes, Feed, FromTo, reader_feed}
pub use Rattle.cdb_form.specs.Views.RecordReader.{Fails, GivesEnd, GivesRecord}
pub use Rattle.cdb_form.specs.Format.{head_size, KeyValue, Walked}
unfoldable pub use Rattle.cdb_form.specs.Format.{walk_of}
pub use Rattle.cdb_form.specs.Text.Parse.{Change, Putting}
pub use Rattle.cdb_form.specs.Text.Map.{map_lines, with_newlines}
pub use Rattle.cdb_form.specs.Text.Native.{Spells}
pub use Rattle.cdb_form.specs.Views.KnownBytes.{AppendsPrefix}
pub use Rattle.cdb_form.specs.Views.Source.{budget}
pub use Rattle.cdb_form.specs.Views.TextFault.{IsOfText}
pub use Rattle.cdb_form.specs.Views.WalkFault.{IsDamage, damage_of}
pub use Rattle.cdb_form.specs.declared.damage.Damage.{Damage}
pub use Rattle.cdb_form.specs.declared.text.fault.TextFault.{TextFault}
pub use Rattle.cdb_form.specs.declared.text.map_reader.MapReader.{MapReader}
pub use Rattle.cdb_form.specs.declared.text.source.Source.{Source}
pub use Rattle.cdb_form.specs.declared.walk.fault.WalkFault.{WalkFault}
pub use Rattle.cdb_form.specs.declared.walk.record_reader.RecordReader.{RecordReader}
pub use Rattle.cdb_read.proofs.FoundSoFar.{found_more, found_still, reads_none}
pub use Rattle.cdb_read.specs.Views.Finder.{left_in, slots_left}
pub use Rattle.cdb_read.specs.Views.Reads.{OpeningFails}
pub use Rattle.cdb_read.specs.declared.fault.ReadFault.{ReadFault}
pub use Rattle.cdb_show.specs.Lines.{newlines}
pub use Rattle.cdb_show.specs.Message.{duplicate_line, numbered}
pub use Rattle.cdb_show.specs.Runs.Flushed.{Flushed}
pub use Rattle.cdb_show.specs.Runs.WalkText.{end_of}
pub use Rattle.cdb_show.specs.Runs.Given.{Given, given_from}
pub use Rattle.cdb_show.specs.Runs.Inputs.{BeginsWithItems, HasFaults, HasInputFault, HasItemFault, InputForm, InputsBeginWith, IsInput, IsInputOf, Puts, key_of, keys_form, keys_of, keys_of_each}
pub use Rattle.cdb_show.specs.Runs.Lookups.{looked_up, LookupState, LookupTask, lookup_state, FaultBehind, HasLooked, LookupsStopAt, StopsBehind, missing_answer}
pub use Rattle.cdb_show.specs.Runs.Parsing.{fault_in, stop_of, stopped_parsing}
pub use Rattle.cdb_show.specs.Runs.Query.{Queries, Query, QueryAnswers, QueryFails, WritesQueryPrefix, query_answer, query_text}
pub use Rattle.cdb_show.specs.Runs.Stats.{keys_line, records_line, sizes_line, tables_line, values_line}
unfoldable pub use Rattle.cdb_show.specs.Runs.Stats.{distance_lines}
pub use Rattle.cdb_show.specs.Views.Fault.{read_fault}
pub use Rattle.cdb_show.specs.Views.Noted.{noted_by, shared_feed}
pub use Rattle.cdb_show.specs.Views.Output.{output_bytes, passed_bytes, writer_bytes}
pub use Rattle.cdb_show.specs.Views.KeyReader.{form_of, reader_of}
pub use Rattle.cdb_show.specs.Views.Window.{feed_of}
pub use Rattle.cdb_show.specs.declared.fault.Fault.{Fault}
pub use Rattle.cdb_show.specs.declared.inputs.Inputs.{Inputs}
pub use Rattle.cdb_show.specs.declared.inputs.SharedWindow.{SharedWindow}
pub use Rattle.cdb_show.specs.declared.runs.key_reader.KeyReader.{KeyReader}
pub use Rattle.cdb_show.specs.declared.runs.lookup_options.LookupOptions.{LookupOptions}
pub use Rattle.cdb_store.proofs.Reading.{reads_more}
pub use Rattle.cdb_store.specs.Reads.{OnlyReads}
pub use Rattle.cdb_store.specs.declared.store.Store.{Ghosts}
pub use Rattle.std.proofs.Common.{Bool, Err, IfErr, IfOk, IfSome, List, None, Ok, OnOk, Option, Result, Some, [], ap, append_assoc, arith, codes, drop, false, flat_map, fold, get_or, inl, inr, length, length-append, map, refl, rules, slice_index_or, slice_set, subst, suc, sym, take, true, ℕ, ◌++◌, ◌+◌, ◌-◌, ◌<◌, ◌^◌, ◌∙◌, ◌∷◌, ◌≡◌, ◌≢◌, ◌≤◌, ◌⊎◌}
pub use Rattle.std.proofs.lemmas.Grind.{common_steps}
pub use Rattle.std.proofs.lemmas.List.{append-nil, drop-drop, length-take, length-take-le, map-append, take-append-drop, take-take}
pub use Rattle.std.proofs.lemmas.List.Concat.{flat_map-append}
pub use Rattle.std.proofs.lemmas.Result.{err_from_is_err_and}
pub use Rattle.std.specs.Io.KnownBytes.{Appends, Keeps}
pub use Rattle.std.specs.Prelude.{IsOk, ⊤}
