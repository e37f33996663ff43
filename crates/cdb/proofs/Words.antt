-- The words that most proofs here name.
pub use Rattle.cdb.specs.Handing.{HandsInputs, InputsTaken, OpensNoMore, inputs_taken}
pub use Rattle.cdb.specs.Contents.{making_of}
pub use Rattle.cdb.specs.Created.{Created, create_of, in_place, in_temporary, is_in_place, is_no_name, is_read, placed, unopened}
pub use Rattle.cdb.specs.Creating.{AsksAll, Creates, HandsBase, HasDatabase, IsBufferedRun, IsDatabase, IsMakeRun, Making, ReadsMaking, Replaces, SeesName, Syncs, WritesAll, answer_of}
pub use Rattle.cdb.specs.Foretold.{IsTaken}
pub use Rattle.cdb.specs.ForetoldCreate.{HadBytes, HoldsAll, HonestCreate, IsNoAlias, IsNoFailedRemoval, IsNoFailedRename, KeepsAll, LeavesAll, passing, place_of}
pub use Rattle.cdb.specs.Performs.{PerformsIn, Runs}
pub use Rattle.cdb.specs.declared.contents.Sources.{Sources}
pub use Rattle.cdb_command.specs.Asked.{Asked, asked_in, has_wide_words}
pub use Rattle.cdb_command.specs.Refused.{Refused, usage_of}
pub use Rattle.cdb_command.specs.declared.command.Command.{Command}
pub use Rattle.cdb_show.specs.declared.input_reader.InputReader.{InputReader}
pub use Rattle.cdb_form.specs.Views.Feed.{Feed}
pub use Rattle.cdb_form.specs.Format.{AreBytes}
pub use Rattle.cdb_form.specs.Views.KnownBytes.{AppendsPrefix}
pub use Rattle.cdb_make.specs.Views.Maker.{WhereHonest}
pub use Rattle.cdb_names.specs.Folder.{Has, MayHave, NameCalls}
pub use Rattle.cdb_names.specs.Replacing.{AtEach, AtEachMoment, BuilderTells, IsNew, NameEvent, renames}
pub use Rattle.cdb_names.specs.declared.answer.Answer.{Answer}
pub use Rattle.cdb_names.specs.declared.name_fault.NameFault.{NameFault}
pub use Rattle.cdb_names.specs.declared.name_trace.NameCall.{NameCall}
pub use Rattle.cdb_names.specs.declared.replace.ReplaceFault.{ReplaceFault}
pub use Rattle.cdb_show.proofs.OutputFaults.{says_more}
pub use Rattle.cdb_show.proofs.PlacedReaders.{all_passed, same_places}
pub use Rattle.cdb_show.proofs.Writers.{prefix_kept}
pub use Rattle.cdb_show.specs.Message.{fault_line}
pub use Rattle.cdb_show.specs.Status.{plain_status}
pub use Rattle.cdb_show.specs.Views.Noted.{AreInPlace}
pub use Rattle.cdb_show.specs.Views.Output.{HasHandedOn, OutputFailed, OutputSays, held_by, output_bytes, writer_bytes}
pub use Rattle.cdb_show.specs.declared.fault.Fault.{Fault}
pub use Rattle.cdb_show.specs.declared.inputs.Inputs.{Inputs}
pub use Rattle.cdb_store.specs.Calls.{Calls}
pub use Rattle.cdb_store.specs.FileStore.{calls_of}
pub use Rattle.cdb_store.specs.declared.store.Store.{Ghosts}
pub use Rattle.cdb_system.proofs.InputsKnown.{standard_is, standard_not}
pub use Rattle.cdb_system.specs.Answered.{AreAnswered, stores_in}
pub use Rattle.cdb_system.specs.Oracle.{Disk, is_standard}
pub use Rattle.cdb_system.specs.State.{files_of, temporary_of, Standard, State, failed_of, given_of, state_of}
pub use Rattle.cdb_system.specs.Inputs.{inputs_read}
pub use Rattle.cdb_system.specs.Opening.{OpenCalls}
pub use Rattle.cdb_system.specs.Telling.{SaysLine, refused_lines, usage_line, usage_status}
pub use Rattle.cdb_system.specs.declared.left.Left.{Left}
pub use Rattle.cdb_tool.specs.Runs.Made.{Made, made_file, made_lines, made_of}
pub use Rattle.cdb_tool.specs.Runs.Make.{HandsBack, OfBase}
pub use Rattle.cdb_tool.specs.declared.runs.options.RunOptions.{RunOptions}
pub use Rattle.std.proofs.Common.{Bool, Err, IfSome, List, None, Ok, Option, Result, Some, [], ap, append-nil, append_assoc, arith, bytes_eq, codes, false, inl, inr, length, length-append, map, option_map, refl, rules, string_bytes, subst, sym, take, true, ℕ, ◌++◌, ◌+◌, ◌<◌, ◌||◌, ◌∙◌, ◌∷◌, ◌≡◌, ◌≢◌, ◌⊎◌}
pub use Rattle.std.proofs.KnownBytes.{Appends-kept, Keeps-refl, Keeps-trans}
pub use Rattle.std.proofs.lemmas.Bool.{cond-false, cond-true, false_from_ne_true, or_from, or_left, or_right}
pub use Rattle.std.proofs.lemmas.Grind.{not_there}
pub use Rattle.std.proofs.lemmas.List.{append_cancel_right}
pub use Rattle.std.proofs.lemmas.Slice.Eq.{bytes_eq-Decides}
pub use Rattle.std.specs.Io.KnownBytes.{Appends, Keeps}
pub use Rattle.std.specs.List.{AllByRecursion}
pub use Rattle.std.specs.Prelude.{IfErr, OnErr, OnOk, ⊤}
