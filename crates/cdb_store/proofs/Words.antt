-- The words that most proofs here name.
pub use Rattle.cdb_store.specs.BufferedStore.{bytes_of}
pub use Rattle.cdb_store.specs.Calls.{AfterPut, AfterTornPut, Agrees, AreAtLeast, Asked, AskedInVain, Calls, Came, FileImage, IsLost, Untouched, ended, failed_syncs, failure_count, lost, written_count}
unfoldable pub use Rattle.cdb_store.specs.Calls.{interrupted}
pub use Rattle.cdb_store.specs.Images.{AfterCut, AfterRead, AfterTornWrite, AfterWrite, AreApart, AreSized, ImagesHold, Over, SameImages, Torn, overwrite, part}
pub use Rattle.cdb_store.specs.Lengths.{file_size, length-overwrite}
pub use Rattle.cdb_store.specs.declared.trace.Call.{Call}
pub use Rattle.cdb_store.specs.declared.trace.Trace.{Trace}
pub use Rattle.std.proofs.Common.{List, [], add-zero, ap, append_assoc, arith, drop, inl, inr, length, length-append, length-take, max, refl, rules, subst, sym, take, ℕ, ◌++◌, ◌+◌, ◌-◌, ◌<◌, ◌∙◌, ◌∷◌, ◌≡◌, ◌≤◌}
pub use Rattle.std.proofs.Math.Seq.{take-add, take-append-add}
pub use Rattle.std.proofs.lemmas.Bool.{cases_lt}
pub use Rattle.std.proofs.lemmas.Grind.{common_steps}
pub use Rattle.std.proofs.lemmas.List.{drop-drop, drop-take, length-take-le, take-append-drop, take-take, take_all, take_at}
pub use Rattle.std.proofs.lemmas.Result.{on_ok_weaker}
