-- The words that most proofs here name.
pub use Rattle.cdb_show.specs.Feed.{AgreesWith, AreUnread, CutShort, FirstAgree, HasFault, IsUnread, NoMore, NotBegun, Stop, reached}
pub use Rattle.cdb_form.proofs.Bytes.WritingLemmas.{appends_kept, appends_none}
pub use Rattle.cdb_form.proofs.Fed.FeedLemmas.{nothing_taken}
pub use Rattle.cdb_form.specs.Views.Feed.{Consumes, Feed, FromTo}
pub use Rattle.cdb_form.specs.Format.{file_size, KeyValue, Walked, with_first}
unfoldable pub use Rattle.cdb_form.specs.Format.{walk_of}
pub use Rattle.cdb_form.specs.Text.Parse.{Change, Putting, Removing}
pub use Rattle.cdb_form.specs.Text.Map.{with_newlines}
pub use Rattle.cdb_form.specs.Views.Pairs.{key_values}
pub use Rattle.cdb_form.specs.Views.TextFault.{IsOfText, IsReadFault}
pub use Rattle.cdb_form.specs.declared.damage.Damage.{Damage}
pub use Rattle.cdb_form.specs.declared.text.fault.TextFault.{TextFault}
pub use Rattle.cdb_make.proofs.Callers.{follows_same, holds_fits}
pub use Rattle.cdb_make.proofs.Rolls.{follows_then}
pub use Rattle.cdb_make.specs.Survivors.{fits, put_answer, put_list, put_result}
pub use Rattle.cdb_make.specs.Views.Maker.{ComesFrom, FailsFinishing, FailsPutting, Follows, Holds, IsFile, Puts, WhereHonest, limit_of}
pub use Rattle.cdb_make.specs.declared.answer.Put.{Put}
pub use Rattle.cdb_make.specs.declared.maker.Maker.{Maker}
pub use Rattle.cdb_read.specs.Views.Walking.{left_of, record_in}
pub use Rattle.cdb_read.specs.declared.fault.ReadFault.{ReadFault}
pub use Rattle.cdb_show.proofs.ItemInputs.{GaveItems}
pub use Rattle.cdb_show.proofs.Writers.{not_ok, prefix_kept, whole_prefix}
pub use Rattle.cdb_show.specs.Message.{TellsEach, TellsPart, Told}
pub use Rattle.cdb_show.specs.Runs.Flushed.{Flushed}
pub use Rattle.cdb_show.specs.Runs.Incoming.{Incoming, came, from_input, from_inputs}
pub use Rattle.cdb_show.specs.Runs.Inputs.{BeginsWithItems, InputForm, IsInputOf, input_form}
pub use Rattle.cdb_show.specs.Runs.InputTask.{progress}
pub use Rattle.cdb_show.specs.Views.Fault.{make_fault}
pub use Rattle.cdb_show.specs.Views.Noted.{shared_feed}
pub use Rattle.cdb_show.specs.Views.ItemReader.{form_of, reader_of}
pub use Rattle.cdb_show.specs.Views.Output.{OutputSays}
pub use Rattle.cdb_show.specs.declared.fault.Fault.{Fault}
pub use Rattle.cdb_show.specs.declared.inputs.Inputs.{Inputs}
pub use Rattle.cdb_show.specs.declared.inputs.SharedWindow.{SharedWindow}
pub use Rattle.cdb_store.proofs.Reading.{reads_more, reads_nothing}
pub use Rattle.cdb_store.specs.Reads.{OnlyReads}
pub use Rattle.cdb_store.specs.declared.make_fault.MakeFault.{MakeFault}
pub use Rattle.cdb_store.specs.declared.store.Store.{Ghosts}
pub use Rattle.cdb_tool.specs.Runs.Make.{Course, EndsSo, InCourse, NotAdded, OfBase, PutsInputs, PutsInputsStop, Task, course_of, ends, is_going, mode_of, terms_of, with_change, with_next}
pub use Rattle.cdb_tool.specs.Runs.Made.{made_of}
pub use Rattle.cdb_tool.specs.Runs.MakesSo.{ComesOf}
pub use Rattle.cdb_tool.specs.Runs.InputsRead.{RunsRead, WereRead, feeds_of, parsing, run_state}
pub use Rattle.cdb_tool.specs.declared.runs.options.RunOptions.{RunOptions}
pub use Rattle.std.proofs.Common.{Bool, Err, List, None, Ok, Option, Result, Some, [], ap, append_assoc, arith, false, if◌then◌else◌, inl, inr, is_some, length, length-append, map, refl, rules, subst, sym, take, true, true≢false, ℕ, ◌*◌, ◌++◌, ◌+◌, ◌<◌, ◌^◌, ◌∙◌, ◌∷◌, ◌≡◌, ◌≢◌, ◌≤◌, ◌⊎◌}
pub use Rattle.std.proofs.lemmas.Bool.{cond-true, le-leb}
pub use Rattle.std.proofs.lemmas.Grind.{common_steps}
pub use Rattle.std.proofs.lemmas.List.{append-nil}
pub use Rattle.std.proofs.lemmas.List.Sums.{fold-append}
pub use Rattle.std.proofs.lemmas.Result.{err_from_is_err_and}
pub use Rattle.std.specs.Io.KnownBytes.{Appends, Keeps}
pub use Rattle.std.specs.Prelude.{IsOk, OnOk, ⊤}
