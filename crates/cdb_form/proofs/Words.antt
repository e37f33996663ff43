-- The words that most proofs here name.
pub use Rattle.byteorder.specs.Endian.{little_number}
pub use Rattle.byteorder.specs.Numbers.{length-bytes_low_first}
pub use Rattle.cdb_form.specs.Views.Feed.{Consumes, Feed, FromTo, IsAtEnd, Keeps, reader_feed}
pub use Rattle.cdb_form.specs.Views.MapParser.{ReadsPair, ReadsValue, is_of, line_end}
pub use Rattle.cdb_form.specs.Views.NativeParser.{FailsIn, Leaves, ReadsBehind, FailsByte, FailsEntry, FailsField, FailsItem, FailsNumber, seen, told}
pub use Rattle.cdb_form.specs.Views.Taking.{LosesAtMost, LosesFewer, ReadsFirst, ReadsNoRecord, ReadsShort}
pub use Rattle.cdb_form.specs.Format.{file_size, hash_step, WordPair, head_size, pair_bytes, pair_size, nth_pair, pair_at, AreBytes, IsRecord, KeyValue, record_size, records_end, empty_slot, is_used, slots_of, Walked, damaged, first_table_at, has_slots, least_place, no_walk, prefix_record, prefix_size, with_first}
unfoldable pub use Rattle.cdb_form.specs.Format.{file_bytes, file_pointers, pointers_from, head_at, record_bytes, file_tables, table_entries, record_end, walk_from, walk_of, whole_records}
pub use Rattle.cdb_form.specs.Laws.Text.{ChangeFits, LengthsFit}
pub use Rattle.cdb_form.specs.Text.Parse.{Change, Putting, Removing, SpellsChange, SpellsRemoval, SpellsKey}
pub use Rattle.cdb_form.specs.Text.Form.{HasFault, HasNoItem, HasNoText, IsPrefix, LongestPrefix, Reads}
pub use Rattle.cdb_form.specs.Text.Map.{BeginsOther, IsIgnoredLine, IsLineOf, Lacks, behind_blanks, is_blank, is_ignored, is_newline, line_pair, line_records, map_lines, with_newlines}
pub use Rattle.cdb_form.specs.Text.Native.{IsNumeral, Spells}
pub use Rattle.cdb_form.specs.Views.MapReader.{IsAmidLines}
pub use Rattle.cdb_form.specs.Views.Pairs.{PairFits, changes_of, header_pair, key_value, key_values, pointer_pair, AreRuns, IsRun}
pub use Rattle.cdb_form.specs.Views.Prefix.{BeginsWithBody, IsStored, BeginsWithLine, may_end}
pub use Rattle.cdb_form.specs.Views.RecordReader.{behind_records}
unfoldable pub use Rattle.cdb_form.specs.Views.Pairs.{slots_in}
pub use Rattle.cdb_form.specs.Views.Source.{budget}
pub use Rattle.cdb_form.specs.Views.TextFault.{IsOfText, IsReadFault}
pub use Rattle.cdb_form.specs.Views.WalkFault.{stopped_by}
pub use Rattle.cdb_form.specs.declared.damage.Damage.{Damage}
pub use Rattle.cdb_form.specs.declared.head.Pointer.{Pointer}
pub use Rattle.cdb_form.specs.declared.header.Header.{Header}
pub use Rattle.cdb_form.specs.declared.record.Record.{Record}
pub use Rattle.cdb_form.specs.declared.text.fault.TextFault.{TextFault}
pub use Rattle.cdb_form.specs.declared.text.form_reader.FormReader.{FormReader}
pub use Rattle.cdb_form.specs.declared.text.kind.Kind.{Kind}
pub use Rattle.cdb_form.specs.declared.text.list_reader.ListReader.{ListReader}
pub use Rattle.cdb_form.specs.declared.text.map_reader.MapReader.{MapReader}
pub use Rattle.cdb_form.specs.declared.text.source.Source.{Source}
pub use Rattle.cdb_form.specs.declared.walk.fault.WalkFault.{WalkFault}
pub use Rattle.cdb_form.specs.declared.walk.record_reader.RecordReader.{RecordReader}
pub use Rattle.std.proofs.Common.{All, List, None, Option, Some, [], ap, append_assoc, arith, decimal, drop, eqb, false, flat_map, fold, get_or, inl, inr, leb, length, length-append, length-drop, length-take, lit<, lit≤, map, not, refl, replicate, rules, slice_set, subst, suc, sym, take, true, w8, zero, ℕ, ◌%◌, ◌*◌, ◌++◌, ◌+◌, ◌-◌, ◌/◌, ◌<◌, ◌^◌, ◌∙◌, ◌∷◌, ◌≡◌, ◌≢◌, ◌≤◌, ◌⊎◌}
pub use Rattle.std.proofs.Math.Nat.{mul-le-mul_left}
pub use Rattle.std.proofs.Math.Seq.{take-add}
pub use Rattle.std.proofs.lemmas.Bool.{cases_eq, cases_lt, cond-false, cond-true, cond_both, eq-eqb, eqb-true, le-ltb, leb-true, lt-ltb, ne_eqb}
pub use Rattle.std.proofs.lemmas.Bool.Decides.{nat_tests}
pub use Rattle.std.proofs.lemmas.Grind.{common_steps}
pub use Rattle.std.proofs.lemmas.Int.Digits.{digits_push, digits_value_push}
pub use Rattle.std.proofs.lemmas.List.{append-nil, drop-drop, drop-take, drop_at, get_or-drop, get_or-map, get_or-replicate, get_or-set_other, get_or-set_same, length-map, length-replicate, length-set, length-take-le, take-append-drop, take-append-le, take-take, take_all, take_at, take_more}
pub use Rattle.std.proofs.lemmas.List.Concat.{flat_map-append}
pub use Rattle.std.proofs.lemmas.List.Elements.{All-append, All-nil, All-push, recursion_from_All}
pub use Rattle.std.proofs.lemmas.List.FromFn.{fill_by_all, get_or-map-range_with_len, length-map-range_with_len}
pub use Rattle.std.proofs.lemmas.List.Sums.{fold-append, prefix_len-drop_no, prefix_len-le-length, prefix_len_is, sum_by-cons}
pub use Rattle.std.proofs.lemmas.Option.{IfSome_then}
pub use Rattle.std.proofs.lemmas.Result.{IfErr-weaker, IfOk-weaker, err_from_is_err_and, on_err_weaker}
pub use Rattle.std.proofs.lemmas.Simd.{bitmask_splat}
pub use Rattle.std.specs.Char.{digit_value}
pub use Rattle.std.specs.Int.{bytes_low_first}
pub use Rattle.std.specs.Io.KnownBytes.{Appends}
pub use Rattle.std.specs.List.{AllByRecursion, AllPass, position_or_len, prefix_len, range_with_len, reduce}
pub use Rattle.std.specs.Prelude.{codes, if◌then◌else◌, max, nat_lt, sum_by, unwrap_or, ◌==◌}
pub use Rattle.std.specs.Simd.Lanes.{mask_l}
pub use Rattle.std.specs.Str.Parse.{AllDigits, digits_value}
