-- The words that most proofs here name.
pub use Rattle.cdb_read.specs.Differing.{DifferenceStops, WritesPass, WritesPassPrefix, changes_at, changes_text, is_first_changed, AllMarked, AreInStep, LooksOn, ReadBoth, StaysAt, Grows, KeepsOthers, is_marked, mark_hash, mark_step, left_from, flipped}
unfoldable pub use Rattle.cdb_read.specs.Differing.{mark_at}
pub use Rattle.cdb_form.proofs.Bytes.WritingLemmas.{appends_none, appends_then, prefix_in, prefix_last, prefix_then, same_appends, writes_prefix}
pub use Rattle.cdb_form.specs.Format.{head_size, KeyValue, Walked, no_walk, with_first, with_records}
unfoldable pub use Rattle.cdb_form.specs.Format.{walk_of}
pub use Rattle.cdb_form.specs.Text.Parse.{Change, Putting, change_line}
pub use Rattle.cdb_form.specs.Views.KnownBytes.{AppendsPrefix}
pub use Rattle.cdb_form.specs.declared.item.ItemKind.{ItemKind}
pub use Rattle.cdb_read.proofs.Differences.{values_of-append}
pub use Rattle.cdb_read.proofs.FoundSoFar.{reads_none}
pub use Rattle.cdb_read.proofs.Walked.WalkedLengths.{length_of}
unfoldable pub use Rattle.cdb_read.specs.Difference.{values_eq}
pub use Rattle.cdb_read.specs.Lookup.{Found, bytes_of, nothing_found, with_span, values_of}
unfoldable pub use Rattle.cdb_read.specs.Lookup.{lookup_of}
pub use Rattle.cdb_read.specs.Views.Finder.{left_in, slots_left}
pub use Rattle.cdb_read.specs.Views.Walking.{LiesAt, behind, next_place, record_in, size_ahead, walk_ahead}
pub use Rattle.cdb_read.specs.declared.lookup.finder.Finder.{Finder}
pub use Rattle.cdb_read.specs.declared.span.Pair.{Pair}
pub use Rattle.cdb_read.specs.declared.span.Span.{Span}
pub use Rattle.cdb_store.proofs.Parts.{part_add}
pub use Rattle.cdb_store.proofs.Reading.{reads_more, reads_nothing}
pub use Rattle.cdb_store.specs.Images.{part}
pub use Rattle.cdb_store.specs.Reads.{OnlyReads}
pub use Rattle.cdb_store.specs.declared.store.Store.{Ghosts}
pub use Rattle.std.proofs.Common.{Bool, List, Option, [], ap, append_assoc, arith, codes, cond, false, flat_map, fold, inl, inr, length, length-append, map, refl, rules, subst, sym, true, ℕ, ◌++◌, ◌+◌, ◌-◌, ◌<◌, ◌∙◌, ◌∷◌, ◌≡◌, ◌≢◌, ◌≤◌}
pub use Rattle.std.proofs.lemmas.Bool.{cases_Bool}
pub use Rattle.std.proofs.lemmas.Grind.{common_steps}
pub use Rattle.std.proofs.lemmas.List.{append-nil}
pub use Rattle.std.proofs.lemmas.List.Concat.{flat_map-append}
pub use Rattle.std.proofs.lemmas.Result.{err_from_is_err_and}
pub use Rattle.std.proofs.lemmas.Slice.Eq.{bytes_eq-Decides}
pub use Rattle.std.specs.Io.KnownBytes.{Appends}
pub use Rattle.std.specs.Prelude.{bytes_eq, filter, ◌&&◌}
