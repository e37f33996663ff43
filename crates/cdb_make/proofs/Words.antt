-- The words that most proofs here name.
pub use Rattle.cdb_form.proofs.Bytes.HeadLemmas.{length-flat_map_words}
pub use Rattle.cdb_form.proofs.Files.Sizes.{length-record_bytes, length-slots_of, size_split, slots_within}
pub use Rattle.cdb_form.proofs.Files.Standing.{AreBytes-drop}
pub use Rattle.cdb_form.specs.Format.{file_size, whole_size, key_hash, table_number, WordPair, head_size, pair_bytes, pair_size, pair_at, AreBytes, IsRecord, KeyValue, record_size, records_end, empty_slot, in_table, slots_of, prefix_record, prefix_size}
unfoldable pub use Rattle.cdb_form.specs.Format.{file_bytes, pointers_from, record_bytes, entries_from, filled_slots, table_entries, whole_records}
pub use Rattle.cdb_form.specs.Views.Pairs.{PairFits, header_pair, pointer_pair}
unfoldable pub use Rattle.cdb_form.specs.Views.Pairs.{slots_in}
pub use Rattle.cdb_make.specs.Chains.{AreChained, FindsLast, Has, IsIn, IsLast, Reaches, bucket_of, HasLengthsInImages, LooksAtImages, NoNewImage, TellsSameInImages, searched_by, sought_by, tag_step}
pub use Rattle.cdb_make.specs.Tables.{HeadIsLast, IsFinished, is_among, all_gathered, entries_in, entries_of, gathered_in, gathered_room, roll_entries, roll_tables, rooms_of}
pub use Rattle.cdb_make.specs.Survivors.{lowered, behind_first, count_of, has_key, is_there, without}
pub use Rattle.cdb_make.specs.Spans.{AreNone, HaveHash, IsFirstMarked, IsPutBackFrom, IsTakenFrom, found_of, gone_of, is_found, is_gone, put_back, taken, all_marks, head_bytes, table_bytes, AreOf, AreRising, AreSpans, IsPicked, Stand, Turns, behind, end_from, joined, left, number, or_each, picked, places_from}
pub use Rattle.cdb_make.specs.Rolls.{IsFreshRecord, Sees, SeesNone, fresh}
unfoldable pub use Rattle.cdb_make.specs.Tables.{tables_of}
pub use Rattle.cdb_make.specs.Views.Appending.{AreFirst, Enters, FailsAppending, KeepsLimit, PassesLimit, full_size, records_at}
pub use Rattle.cdb_make.specs.Views.Maker.{ComesFrom, CompactsAll, HasGone, HasNotFailed, Holds, IsFile, Meets, SameCounts, StaysWhole, count_in, found_in, gone_in, made_size}
pub use Rattle.cdb_make.specs.Views.Places.{of_halves, places_in}
pub use Rattle.cdb_make.specs.Views.Roll.{HasRoom, SameRecords, marks_in, searched, sought_in}
pub use Rattle.cdb_make.specs.declared.key_at.LookFault.{LookFault}
pub use Rattle.cdb_make.specs.declared.maker.Maker.{Maker}
pub use Rattle.cdb_make.specs.declared.mark.Mark.{Mark}
pub use Rattle.cdb_make.specs.declared.roll.Picked.{Picked}
pub use Rattle.cdb_make.specs.declared.roll.Roll.{Roll}
pub use Rattle.cdb_store.proofs.Moves.{held_first, held_kept, kept_same, kept_torn, torn_behind, torn_from_write, torn_wider, write_more}
pub use Rattle.cdb_store.proofs.Parts.{length-part, part-overwrite, part_add, part_from_take, take-overwrite}
pub use Rattle.cdb_store.proofs.Reading.{reads_more, reads_nothing}
pub use Rattle.cdb_store.specs.Images.{AfterRead, AfterTornWrite, AfterWrite, AreSized, Copied, ImagesHold, KeepsPart, SameImages, overwrite, part}
pub use Rattle.cdb_store.specs.Reads.{OnlyReads}
pub use Rattle.cdb_store.specs.declared.make_fault.MakeFault.{MakeFault}
pub use Rattle.cdb_store.specs.declared.store.Store.{Ghosts}
pub use Rattle.std.proofs.Common.{Bool, Err, List, None, Option, Some, [], ap, append_assoc, arith, cond, drop, false, flat_map, fold, get_or, inl, inr, is_some, length, length-append, length-drop, length-set, length-take, map, max, min, not, refl, replicate, rules, set, slice_set, subst, suc, sum_by, sym, take, true, zero, ℕ, ◌%◌, ◌*◌, ◌++◌, ◌+◌, ◌-◌, ◌/◌, ◌<◌, ◌^◌, ◌∙◌, ◌∷◌, ◌≡◌, ◌≢◌, ◌≤◌, ◌⊎◌}
pub use Rattle.std.proofs.Math.Nat.{mul-le-mul_left}
pub use Rattle.std.proofs.Math.Seq.{map-set_same}
pub use Rattle.std.proofs.lemmas.Bool.{cases_eq, cases_lt, false_from_ne_true}
pub use Rattle.std.proofs.lemmas.Bool.Decides.{nat_tests}
pub use Rattle.std.proofs.lemmas.Grind.{common_steps, get_or_default_zero}
pub use Rattle.std.proofs.lemmas.List.{append-nil, drop-drop, drop-take, ext_get_or, get_or-map, get_or-set_other, get_or-set_same, get_or_append_left, get_or_default, get_or_past, get_or_push, length-map, length-replicate, length-take-le, length_push, map-append, map-set, map_push, take-append-drop, take-map, take-take, take_all, take_at, take_more, take_more_set}
pub use Rattle.std.proofs.lemmas.List.Concat.{flat_map-append}
pub use Rattle.std.proofs.lemmas.List.Elements.{All-same}
pub use Rattle.std.proofs.lemmas.List.Sums.{sum_by-append, sum_by-cons, sum_by_more, sum_by_more_le, sum_by_push}
pub use Rattle.std.proofs.lemmas.Result.{err_from_is_err_and, on_err_weaker, on_ok_weaker}
pub use Rattle.std.proofs.lemmas.Slice.Eq.{bytes_eq-Decides}
pub use Rattle.std.specs.Int.Count.{count_trailing_zeros}
pub use Rattle.std.specs.List.{range_with_len}
pub use Rattle.std.specs.Prelude.{All, bytes_eq, slice_index, sum, vec_capacity}
pub use Rattle.std.specs.Result.{IsErrAnd}
pub use Rattle.std.specs.Simd.Lanes.{mask_l, zip2}
