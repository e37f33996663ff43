-- The words that most proofs here name.
pub use Rattle.cdb_command.specs.Asked.{Asked}
pub use Rattle.cdb_command.specs.Refused.{parts_line, shown}
pub use Rattle.cdb_show.specs.Feed.{AreUnread, IsUnread}
pub use Rattle.cdb_show.specs.declared.input_reader.InputReader.{InputReader}
pub use Rattle.cdb_form.proofs.Bytes.WritingLemmas.{same_appends, same_writes}
pub use Rattle.cdb_form.specs.Views.Feed.{Feed, FromTo}
pub use Rattle.cdb_form.specs.Format.{head_size}
unfoldable pub use Rattle.cdb_form.specs.Format.{walk_of}
pub use Rattle.cdb_form.specs.Views.KnownBytes.{AppendsPrefix}
pub use Rattle.cdb_form.specs.declared.damage.Damage.{Damage}
pub use Rattle.cdb_names.specs.declared.name_fault.NameFault.{NameFault}
pub use Rattle.cdb_names.specs.declared.refusal.Cause.{Cause}
pub use Rattle.cdb_show.specs.Message.{fault_line}
pub use Rattle.cdb_show.specs.Runs.WalkText.{WritesFirst, WritesToDamage, WritesWalk, WritingFails, Form}
pub use Rattle.cdb_show.specs.Status.{plain_status}
pub use Rattle.cdb_show.specs.Views.Window.{window_feed}
pub use Rattle.cdb_show.specs.declared.fault.Fault.{Fault}
pub use Rattle.cdb_store.specs.Contents.{contents}
pub use Rattle.cdb_store.specs.declared.memory.MemStore.{MemStore}
pub use Rattle.cdb_store.specs.declared.store.Store.{Ghosts}
pub use Rattle.cdb_system.specs.Answered.{AreAnswered, IsAnswered, Reading, Shows}
pub use Rattle.cdb_system.specs.Oracle.{Disk, Outcome, ended, of_file}
pub use Rattle.cdb_system.specs.Causes.{name_ending, reason_name}
pub use Rattle.cdb_system.specs.State.{files_of, Standard, State, AgreeInTurn, Agrees, names_in_turn, own_readers}
pub use Rattle.cdb_system.specs.Inputs.{OpensEach, OpensInputs, inputs_read}
pub use Rattle.cdb_system.specs.Opening.{OpenCalls, unopened}
pub use Rattle.cdb_system.specs.Reading.{IsWhole}
pub use Rattle.cdb_system.specs.Telling.{Says, SaysLine}
pub use Rattle.cdb_system.specs.declared.left.Left.{Left}
pub use Rattle.cdb_system.specs.declared.open_trace.OpenCall.{OpenCall}
pub use Rattle.cdb_system.specs.declared.open_trace.OpenTrace.{OpenTrace}
pub use Rattle.std.proofs.Common.{Bool, Err, IfOk, IfSome, List, None, Ok, Option, Result, Some, [], ap, append_assoc, arith, codes, false, inl, inr, length, map, refl, string_bytes, subst, sym, take, true, ℕ, ◌++◌, ◌+◌, ◌<◌, ◌∙◌, ◌∷◌, ◌≡◌, ◌≤◌}
pub use Rattle.std.proofs.lemmas.Bool.{cond-false, cond-true, le-ltb, lt-ltb}
pub use Rattle.std.proofs.lemmas.List.{append-nil}
pub use Rattle.std.proofs.lemmas.Result.{err_from_is_err_and}
pub use Rattle.std.specs.Io.KnownBytes.{Appends, Keeps}
pub use Rattle.std.specs.List.{AllByRecursion}
pub use Rattle.std.specs.Prelude.{if◌then◌else◌, nat_lt}
