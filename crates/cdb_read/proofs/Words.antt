-- The words that most proofs here name.
pub use Rattle.cdb_form.proofs.Bytes.ReadBack.{same_words}
pub use Rattle.cdb_form.proofs.Bytes.WordLemmas.{pair_at-take}
pub use Rattle.cdb_form.proofs.Bytes.WritingLemmas.{writes_prefix}
pub use Rattle.cdb_form.proofs.Files.Places.{drop-head, tables_bytes}
pub use Rattle.cdb_form.proofs.Files.Prefixes.{Begins}
pub use Rattle.cdb_form.proofs.Files.Sizes.{length-file_bytes, length-slots_with}
pub use Rattle.cdb_form.proofs.Files.WalkLaws.{walk_of-file_bytes}
pub use Rattle.cdb_form.proofs.Files.WalkSteps.{walk_of-records, walk_of-short}
pub use Rattle.cdb_form.proofs.NativeTexts.RecordLemmas.{are_records}
unfoldable pub use Rattle.cdb_form.specs.Format.{file_bytes, head_at, record_bytes, entries_from, filled_slots, slots_with, table_entries, table_slots, record_end, walk_from, walk_of}
pub use Rattle.cdb_form.specs.Format.{hash_step, home_slot, key_hash, table_number, WordPair, head_size, pair_size, nth_pair, pair_at, AreBytes, IsRecord, KeyValue, record_of, record_size, records_end, empty_slot, file_entries, in_table, is_used, slots_from, slots_of, Walked, damaged, has_slots, no_walk, prefix_record, prefix_size, with_first, with_records}
pub use Rattle.cdb_form.specs.Text.Parse.{Putting, Removing}
pub use Rattle.cdb_form.specs.Views.Pairs.{PairFits, head_pairs, header_pair, key_values, pointer_pair, slot_pair}
unfoldable pub use Rattle.cdb_form.specs.Views.Pairs.{slots_in}
pub use Rattle.cdb_form.specs.declared.damage.Damage.{Damage}
pub use Rattle.cdb_form.specs.declared.head.Pointer.{Pointer}
pub use Rattle.cdb_form.specs.declared.header.Header.{Header}
pub use Rattle.cdb_read.specs.Difference.{after_change, all_of, amended, changed_keys, is_changed, puts_of, removal_of_new}
unfoldable pub use Rattle.cdb_read.specs.Difference.{difference, first_keys}
pub use Rattle.cdb_read.specs.Sound.{entry_fault, fault_if, faults_behind, is_right_slot, is_same, lost_fault, slot_fault, table_fault, used_fault, IsRight, IsSound, distance, has_place, is_reached, nth_slot, table_at, tables_below, walk_entries}
unfoldable pub use Rattle.cdb_read.specs.Sound.{first_fault, first_of, slots_fault, run_of, all_slots}
pub use Rattle.cdb_read.specs.Laws.{brought_up}
pub use Rattle.cdb_read.specs.Lookup.{Found, bytes_of, found_by, has_hash, has_key, is_inside, is_whole, nothing_found, slots_at, value_span, with_span, values_of}
unfoldable pub use Rattle.cdb_read.specs.Lookup.{found_at, lookup_of, met_slots}
pub use Rattle.cdb_read.specs.Statistics.{distances_of, is_outside, key_lengths, slot_of, table_sizes, value_lengths}
unfoldable pub use Rattle.cdb_read.specs.Statistics.{statistics_damage}
pub use Rattle.cdb_read.specs.Views.Check.{IsFirstDamage, ReadTells, HasEntries, SlotHas, TableHas, TableIsClear, TablesAreClear, TablesHave, WalkHas}
pub use Rattle.cdb_read.specs.Views.Stats.{Counts, Spreads, StatsFail}
pub use Rattle.cdb_read.specs.Views.Spans.{LiesInside, StandsInside, HasSpans}
pub use Rattle.cdb_read.specs.Views.Reads.{HasLengths, LengthsFail}
pub use Rattle.cdb_read.specs.Views.Search.{IsSearchInside, ProbeInside, LooksAt, TellsSame, found_ahead}
pub use Rattle.cdb_read.specs.Views.RecordLists.{HasAdded, IsRising, ListsMark}
pub use Rattle.cdb_read.specs.Views.TableRecords.{Marks, entries_of, entry_pairs, is_told}
unfoldable pub use Rattle.cdb_read.specs.Views.TableRecords.{marks_of}
pub use Rattle.cdb_read.specs.Views.Walking.{bytes_left, left_of, place_of, LiesAt, behind, next_place, record_in, walk_ahead}
pub use Rattle.cdb_read.specs.Views.Window.{Covers, Shows}
pub use Rattle.cdb_read.specs.declared.checking.table_records.TableRecords.{TableRecords}
pub use Rattle.cdb_read.specs.declared.fault.ReadFault.{ReadFault}
pub use Rattle.cdb_read.specs.declared.lookup.probe.Probe.{Probe}
pub use Rattle.cdb_read.specs.declared.span.Pair.{Pair}
pub use Rattle.cdb_read.specs.declared.span.Span.{Span}
pub use Rattle.cdb_read.specs.declared.statistics.distances.Distances.{Distances}
pub use Rattle.cdb_read.specs.declared.statistics.lengths.Lengths.{Lengths}
pub use Rattle.cdb_read.specs.declared.statistics.spread.Spread.{Spread}
pub use Rattle.cdb_read.specs.declared.walking.records.Walk.{Walk}
pub use Rattle.cdb_read.specs.declared.walking.state.RecordArea.{RecordArea}
pub use Rattle.cdb_read.specs.declared.window.Window.{Window}
pub use Rattle.cdb_store.proofs.Parts.{length-part, part_add}
pub use Rattle.cdb_store.specs.Images.{AfterRead, ImagesHold, part}
pub use Rattle.cdb_store.specs.Reads.{OnlyReads}
pub use Rattle.cdb_store.specs.declared.store.Store.{Ghosts}
pub use Rattle.std.proofs.Common.{Bool, Err, List, Ok, [], ap, append_assoc, arith, cond, drop, false, flat_map, fold, get_or, inl, inr, length, length-append, length-drop, length-take, map, mod-eq_of_lt, refl, replicate, rules, set, subst, suc, sym, take, true, zero, ℕ, ◌%◌, ◌*◌, ◌++◌, ◌+◌, ◌-◌, ◌<◌, ◌^◌, ◌∙◌, ◌∷◌, ◌≡◌, ◌≢◌, ◌≤◌, ◌⊎◌}
pub use Rattle.std.proofs.Math.Nat.{min-eq_left, min-eq_right, min-le_right}
pub use Rattle.std.proofs.lemmas.Bool.{OnTrue_at, and_from, and_left, and_parts, and_right, both_ways, cases_Bool, cases_eq, cases_lt, cond-false, cond-true, eq-eqb, eqb-false, eqb-true, le-leb, le-ltb, leb-true, lt-ltb, ltb-true, ne_eqb, not-false, not_from_false, not_from_true, or_right}
pub use Rattle.std.proofs.lemmas.Grind.{common_steps, flat_map-append}
pub use Rattle.std.proofs.lemmas.List.{append-nil, drop-append-le, drop-drop, drop-take, drop_at, get_or-map, get_or-set_other, get_or-set_same, get_or_default, length-map, length-replicate, length-set, length-take-le, map-append, nil_from_length, same_lists, take-append-drop, take-append-le, take-take, take_all, take_at, take_more}
pub use Rattle.std.proofs.lemmas.List.Elements.{All-cons, All-contains, All-contains_itself, All-filter, All-from_get_or, All-get_or, All-head, All-nil, All-replicate, All-same, All-set, All-tail, All-weaker, Contains-append_right, filter-append, filter_passes, recursion_from_All}
pub use Rattle.std.proofs.lemmas.List.Folds.{list_any-append, list_any_none}
pub use Rattle.std.proofs.lemmas.List.FromFn.{get_or-map-range_with_len, length-map-range_with_len}
pub use Rattle.std.proofs.lemmas.List.Sums.{fold-append, sum_by-append, sum_by-cons, sum_by-set, take_while-cons}
pub use Rattle.std.proofs.lemmas.Result.{err_from_is_err_and}
pub use Rattle.std.proofs.lemmas.Slice.Eq.{bytes_eq-Decides}
pub use Rattle.std.specs.List.{AllByRecursion, Contains, count_by, list_all, list_any, prefix_len, range_with_len}
pub use Rattle.std.specs.List.Sorted.{IsPermutation, IsStrictlyIncreasing}
pub use Rattle.std.specs.Option.{option_or}
pub use Rattle.std.specs.Prelude.{All, None, Option, Some, bytes_eq, filter, find, if◌then◌else◌, min, nat_le, nat_lt, not, option_map, position, sum_by, take_while, ⊤, ◌&&◌, ◌==◌, ◌||◌}
