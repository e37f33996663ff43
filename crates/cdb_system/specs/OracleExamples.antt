-- What the oracle says of worked files, and calls by which it comes true.
use Rattle.std.specs.Prelude.{ℕ, ◌≡◌, true, false, bytes_eq, if◌then◌else◌, List, [], ◌∷◌, ◌++◌, take, codes, Option, None, Some, IfSome, ⊤, refl, zero, suc}
use Rattle.std.proofs.Common.{arith, subst, sym}
use Rattle.std.proofs.lemmas.Bool.{cond_both}
use Rattle.std.specs.Fmt.{digits}
use Rattle.cdb_command.specs.Asked.{Query, Lookups, Dump, Listing, Stats, Check, Difference}
use Rattle.cdb_command.specs.declared.style.Style.TheVariants.{Native, Map}
use Rattle.cdb_show.specs.Feed.{noted_feed}
use Rattle.cdb_show.specs.declared.input_reader.InputReader.{InputReader}
use Rattle.cdb_show.specs.declared.input_reader.InputReader.TheVariants.{Own, Shared}
use Rattle.cdb_show.specs.declared.noted_reader.NotedReader.{NotedReader}
use Rattle.cdb_form.specs.Examples.Files.{words_of, repeat, put_at, two_file, foreign_file}
use Rattle.cdb_form.proofs.Bytes.ByteLemmas.{AreBytes-nil}
use Rattle.cdb_form.specs.Format.{head_at, AreBytes, entries_from, walk_of, walk_from, whole_records, record_end}
use Rattle.cdb_form.specs.Text.Parse.{text_from}
use Rattle.cdb_read.specs.Difference.{difference, first_keys, values_eq}
use Rattle.cdb_read.specs.Sound.{lacks_tables, first_fault, first_of, slots_fault, all_slots}
use Rattle.cdb_read.specs.Lookup.{met_slots, found_at, lookup_of}
use Rattle.cdb_read.specs.Statistics.{distances_in, statistics_of, statistics_damage}
use Rattle.cdb_store.specs.Contents.{contents}
use Rattle.cdb_store.specs.contracts.memory.MemStoreStore.TheImpl.{ghosts as in_memory}
use Rattle.cdb_store.specs.declared.memory.MemStore.{MemStore}
use Rattle.cdb_show.specs.declared.inputs.Inputs.{Inputs}
use Rattle.cdb_show.specs.Runs.Stats.{distance_lines, stats_text}
use Rattle.cdb_system.specs.State.{Files, files_of, Standard, standard_of, AgreeInTurn, Agrees, own_readers}
use Rattle.cdb_system.specs.Answered.{AreComparable, Honest}
use Rattle.cdb_system.specs.Oracle.{Disk, Outcome, command_outcome, difference_outcome, lookups_outcome}
use Rattle.cdb_system.specs.Opening.{OpenCalls, input_left, looked_left, read_left, stream_left}
use Rattle.cdb_system.specs.NotedExamples.{ended, fresh, fresh_is_unread, front_agrees, more_agree, noted, these_agree}
use Rattle.cdb_system.specs.declared.left.Left.{Left}
use Rattle.cdb_system.specs.declared.open_trace.OpenCall.TheVariants.{AtPlaces, InTurn}
use Rattle.cdb_system.specs.declared.system.System.{Ghosts as Systems}

-- two files: one of two records, and another program's of one record
name : List ℕ
name = codes "a.cdb"

other : List ℕ
other = codes "b.cdb"

unfoldable disk : Disk
unfolding name other
disk file =
    if bytes_eq file name then Some two_file
    else if bytes_eq file other then Some foreign_file else None

comes : (status : ℕ) → (output lines : List ℕ) → Option Outcome
comes status output lines = Some (record { status = status; output = output; lines = lines })

-- the statistics of the two records
unfoldable two_stats : List ℕ
two_stats =
    codes "records: 2\nkey lengths least/average/greatest: 3/3/3\n"
    ++ codes "value lengths least/average/greatest: 5/6/7\ntables/entries/collisions: 2/2/0\n"
    ++ codes "table sizes least/average/greatest: 2/2/2\n"
    ++ codes "distance 0: 2\ndistance 1: 0\ndistance 2: 0\ndistance 3: 0\ndistance 4: 0\n"
    ++ codes "distance 5: 0\ndistance 6: 0\ndistance 7: 0\ndistance 8: 0\ndistance 9: 0\n"
    ++ codes "distance 10 or more: 0\n"

-- a value
value_is : command_outcome (Query name (codes "two") None true false) disk [] ≡ comes 0 (codes "Goodbye\n") []
unfolding disk name other comes two_stats two_file put_at words_of repeat walk_of walk_from whole_records record_end head_at lookup_of met_slots found_at statistics_of statistics_damage distances_in stats_text distance_lines first_fault first_of slots_fault all_slots entries_from digits
value_is = refl

-- one of a key that is not there
missing_is : command_outcome (Query name (codes "a") None false false) disk [] ≡ comes 100 [] []
unfolding disk name other comes two_stats two_file put_at words_of repeat walk_of walk_from whole_records record_end head_at lookup_of met_slots found_at statistics_of statistics_damage distances_in stats_text distance_lines first_fault first_of slots_fault all_slots entries_from digits
missing_is = refl

-- the second of a key that has one
second_is : command_outcome (Query name (codes "two") (Some 2) false false) disk [] ≡ comes 100 [] []
unfolding disk name other comes two_stats two_file put_at words_of repeat walk_of walk_from whole_records record_end head_at lookup_of met_slots found_at statistics_of statistics_damage distances_in stats_text distance_lines first_fault first_of slots_fault all_slots entries_from digits
second_is = refl

-- no such file
unopened_is : command_outcome (Query (codes "c.cdb") (codes "two") None false false) disk [] ≡ comes 111 [] (codes "cdb: file cannot be opened\n")
unfolding disk name other comes two_stats two_file put_at words_of repeat walk_of walk_from whole_records record_end head_at lookup_of met_slots found_at statistics_of statistics_damage distances_in stats_text distance_lines first_fault first_of slots_fault all_slots entries_from digits
unopened_is = refl

-- the records, and the keys as lines
dump_is : command_outcome (Dump (Some name) Native false) disk [] ≡ comes 0 (codes "+3,5:one->Hello\n+3,7:two->Goodbye\n\n") []
unfolding disk name other comes two_stats two_file put_at words_of repeat walk_of walk_from whole_records record_end head_at lookup_of met_slots found_at statistics_of statistics_damage distances_in stats_text distance_lines first_fault first_of slots_fault all_slots entries_from digits
dump_is = refl

keys_are : command_outcome (Listing (Some name) Map false) disk [] ≡ comes 0 (codes "one\ntwo\n") []
unfolding disk name other comes two_stats two_file put_at words_of repeat walk_of walk_from whole_records record_end head_at lookup_of met_slots found_at statistics_of statistics_damage distances_in stats_text distance_lines first_fault first_of slots_fault all_slots entries_from digits
keys_are = refl

-- standard input, whose second record reaches past the record end
damaged_dump_is : command_outcome (Dump None Native false) disk (put_at 2068 (8 ∷ []) two_file) ≡ comes 111 (codes "+3,5:one->Hello\n") (codes "cdb: record at 2064: not whole\n")
unfolding disk name other comes two_stats two_file put_at words_of repeat walk_of walk_from whole_records record_end head_at lookup_of met_slots found_at statistics_of statistics_damage distances_in stats_text distance_lines first_fault first_of slots_fault all_slots entries_from digits
damaged_dump_is = refl

-- statistics
stats_are : command_outcome (Stats (Some name) false) disk [] ≡ comes 0 two_stats []
unfolding disk name other comes two_stats two_file put_at words_of repeat walk_of walk_from whole_records record_end head_at lookup_of met_slots found_at statistics_of statistics_damage distances_in stats_text distance_lines first_fault first_of slots_fault all_slots entries_from digits
stats_are = refl

-- a sound file
sound_is : command_outcome (Check (Some name) false) disk [] ≡ comes 0 [] []
unfolding disk name other comes two_stats two_file put_at words_of repeat walk_of walk_from whole_records record_end head_at lookup_of met_slots found_at statistics_of statistics_damage distances_in stats_text distance_lines first_fault first_of slots_fault all_slots entries_from digits
sound_is = refl

-- one cut within the head
short_is : command_outcome (Check None false) disk (take 2047 two_file) ≡ comes 100 [] (codes "cdb: database shorter than its head\n")
unfolding disk name other comes two_stats two_file put_at words_of repeat walk_of walk_from whole_records record_end head_at lookup_of met_slots found_at statistics_of statistics_damage distances_in stats_text distance_lines first_fault first_of slots_fault all_slots entries_from digits
short_is = refl

-- one with a slot taken away
unindexed_is : command_outcome (Check None false) disk (put_at 2106 (words_of 4 0 0) two_file) ≡ comes 100 [] (codes "cdb: record at 2048: in no slot\n")
unfolding disk name other comes two_stats two_file put_at words_of repeat walk_of walk_from whole_records record_end head_at lookup_of met_slots found_at statistics_of statistics_damage distances_in stats_text distance_lines first_fault first_of slots_fault all_slots entries_from digits
unindexed_is = refl

-- what changed from the one file to the other
difference_is : command_outcome (Difference name other false) disk [] ≡ comes 0 (codes "-3:one\n-3:two\n-1:a\n+1,1:a->1\n\n") []
unfolding disk name other comes two_stats two_file foreign_file put_at words_of repeat walk_of walk_from whole_records record_end head_at lookup_of met_slots found_at statistics_of statistics_damage distances_in stats_text distance_lines first_fault first_of slots_fault all_slots entries_from digits difference first_keys values_eq lacks_tables
difference_is = refl

-- a file that lacks its last byte, or was cut within its first table; both, and one whose head is cut
unfoldable cut_disk : Disk
unfolding name other
cut_disk file =
    if bytes_eq file name then Some (take 2097 two_file)
    else if bytes_eq file other then Some (take 2113 two_file) else Some two_file

old_cut_is : command_outcome (Difference other (codes "c.cdb") false) cut_disk [] ≡ comes 111 [] (codes "cdb: old database: table 129: outside the file\n")
unfolding name other two_file foreign_file put_at words_of repeat head_at digits lacks_tables cut_disk comes
old_cut_is = refl

new_cut_is : command_outcome (Difference (codes "c.cdb") name false) cut_disk [] ≡ comes 111 [] (codes "cdb: new database: table 41: outside the file\n")
unfolding name other two_file foreign_file put_at words_of repeat head_at digits lacks_tables cut_disk comes
new_cut_is = refl

both_cut_is : command_outcome (Difference other name false) cut_disk [] ≡ comes 111 [] (codes "cdb: old database: table 129: outside the file\n")
unfolding name other two_file foreign_file put_at words_of repeat head_at digits lacks_tables cut_disk comes
both_cut_is = refl

no_head_is : difference_outcome 4 (take 2113 two_file) (take 2047 two_file) ≡ record { status = 111; output = []; lines = codes "cdb: new database: database shorter than its head\n" }
unfolding name other two_file foreign_file put_at words_of repeat head_at digits lacks_tables
no_head_is = refl

-- they are comparable, since their heads say why they are not compared
cut_are_comparable : AreComparable 4 (Some two_file) (Some (take 2113 two_file))
unfolding name other two_file foreign_file put_at words_of repeat head_at digits lacks_tables
cut_are_comparable none = cc

-- the records of two keys of standard input, of which one has no value
keys_asked : command_outcome (Lookups name [] None Native false) disk (codes "+1:a\n+3:two\n\n") ≡ comes 100 (codes "+3,7:two->Goodbye\n\n") []
unfolding disk name other comes two_stats two_file put_at words_of repeat walk_of walk_from whole_records record_end head_at lookup_of met_slots found_at statistics_of statistics_damage distances_in stats_text distance_lines first_fault first_of slots_fault all_slots entries_from digits text_from
keys_asked = refl

-- of a map text, the first of each
lines_asked : command_outcome (Lookups name (codes "-" ∷ []) (Some 1) Map false) disk (codes "two\none and more\n") ≡ comes 0 (codes "two Goodbye\none Hello\n") []
unfolding disk name other comes two_stats two_file put_at words_of repeat walk_of walk_from whole_records record_end head_at lookup_of met_slots found_at statistics_of statistics_damage distances_in stats_text distance_lines first_fault first_of slots_fault all_slots entries_from digits text_from
lines_asked = refl

-- of a list that is cut, and of an input that is not there
cut_list_is : command_outcome (Lookups name [] None Native false) disk (codes "+3:one\n+3:tw") ≡ comes 111 (codes "+3,5:one->Hello\n") (codes "cdb: input 1: byte 12: text ends early\n")
unfolding disk name other comes two_stats two_file put_at words_of repeat walk_of walk_from whole_records record_end head_at lookup_of met_slots found_at statistics_of statistics_damage distances_in stats_text distance_lines first_fault first_of slots_fault all_slots entries_from digits text_from
cut_list_is = refl

no_list_is : command_outcome (Lookups name (codes "-" ∷ codes "c" ∷ []) None Native false) disk (codes "+3:one\n\n") ≡ comes 111 [] (codes "cdb: file cannot be opened\n")
unfolding disk name other comes two_stats two_file put_at words_of repeat walk_of walk_from whole_records record_end head_at lookup_of met_slots found_at statistics_of statistics_damage distances_in stats_text distance_lines first_fault first_of slots_fault all_slots entries_from digits text_from
no_list_is = refl

-- the record of the second key reaches past the end of the file; a third is not looked up
damage_asked : lookups_outcome 4 4294967295 (record { number = None; style = Native }) (None ∷ []) (codes "+3:one\n+3:two\n+3:one\n\n") (put_at 2068 (200 ∷ []) two_file) ≡ record { status = 111; output = codes "+3,5:one->Hello\n"; lines = codes "cdb: record at 2064: not whole\n" }
unfolding disk name other comes two_stats two_file put_at words_of repeat walk_of walk_from whole_records record_end head_at lookup_of met_slots found_at statistics_of statistics_damage distances_in stats_text distance_lines first_fault first_of slots_fault all_slots entries_from digits text_from
damage_asked = refl

-- ---- calls by which it comes true

-- a reader of bytes that notes what it gave
abbrev Reader : Type 0
Reader = NotedReader (List ℕ)

-- a system that opens each file of a disk: in memory, to be read at places, or as its bytes
of_disk : Disk → Systems OpenCalls MemStore Reader MemStore Reader Unit Unit
of_disk disk = record {
  calls = λ calls. calls;
  lacks = λ calls. ⊥;
  gives = λ name store. disk name ≡ Some (contents store);
  reads = λ name stream. disk name ≡ Some stream.reader;
  makes = λ name store. ⊤;
}

abbrev from : Disk → Files MemStore Reader Reader MemStore Unit Unit OpenCalls
from disk = files_of in_memory in_memory noted_feed (of_disk disk)

abbrev Back : Type 0
Back = Left MemStore MemStore Reader Reader

abbrev standard : (input : List ℕ) → Standard Reader
standard input = standard_of noted_feed (fresh input)

-- a query of a file that lies in memory
query_is_honest : (store : MemStore) → two_file ≡ contents store
    → Honest (from disk) disk [] (Query name (codes "two") None true false) (standard [])
    [] ((AtPlaces, name) ∷ []) (let left : Back = read_left store in left)
unfolding disk name other of_disk
query_is_honest store has = record {
  calls = (AtPlaces, name) ∷ [];
  are = refl;
  answered = ((has, refl), tt);
  in_turn = tt;
  unread = fresh_is_unread {R = List ℕ} [];
  agrees = tt;
  bytes = tt;
  in_order = tt;
}

-- a dump of a file whose records came, and not the end
dump_is_honest : Honest (from disk) disk [] (Dump (Some name) Native false) (standard [])
    [] ((InTurn, name) ∷ []) (let left : Back = stream_left (noted [] (take 2082 two_file)) in left)
unfolding disk name of_disk
dump_is_honest = record {
  calls = (InTurn, name) ∷ [];
  are = refl;
  answered = (tt, tt);
  in_turn = (front_agrees {R = List ℕ} [] 2082 two_file, tt);
  unread = fresh_is_unread {R = List ℕ} [];
  agrees = tt;
  bytes = tt;
  in_order = tt;
}

-- one of standard input, of which no end came, and the statistics of all of it
input_dump_is_honest : (more : List ℕ)
    → Honest (from disk) disk (two_file ++ more) (Dump None Native false) (standard (two_file ++ more))
    [] [] (let left : Back = input_left (noted more two_file) in left)
unfolding of_disk
input_dump_is_honest more = record {
  calls = [];
  are = refl;
  answered = tt;
  in_turn = tt;
  unread = fresh_is_unread (two_file ++ more);
  agrees = more_agree {R = List ℕ} more two_file more;
  bytes = tt;
  in_order = tt;
}

input_stats_are_honest : Honest (from disk) disk two_file (Stats None false) (standard two_file)
    [] [] (let left : Back = input_left (ended [] two_file) in left)
unfolding of_disk
input_stats_are_honest = record {
  calls = [];
  are = refl;
  answered = tt;
  in_turn = tt;
  unread = fresh_is_unread two_file;
  agrees = these_agree {R = List ℕ} [] two_file;
  bytes = tt;
  in_order = tt;
}

-- a query of the keys of two inputs: of an empty list in a file, whose end came, and of standard input, which begins
-- with an empty list; of a third, for which the run had no time, nothing came
empty_list_is : AreBytes (codes "\n")
empty_list_is zero = omega arith
empty_list_is (suc k) = omega arith

unfoldable lists : Disk
unfolding name other
lists file =
    if bytes_eq file name then Some [] else if bytes_eq file other then Some (codes "\n") else None

lists_have : (file : List ℕ) → IfSome (lists file) AreBytes
unfolding lists name other
lists_have file =
    cond_both (bytes_eq file name) _ _ (λ o. IfSome o AreBytes) (λ is. AreBytes-nil)
    (λ no. cond_both (bytes_eq file other) _ _ (λ o. IfSome o AreBytes) (λ is. empty_list_is) (λ no. tt))

abbrev asked_lists : List (List ℕ)
asked_lists = other ∷ codes "-" ∷ name ∷ []

abbrev list_readers : List (InputReader (NotedReader (List ℕ)))
list_readers = Own (ended [] (codes "\n")) ∷ Shared ∷ Own (fresh []) ∷ []

lookups_are_honest : (store : MemStore) → [] ≡ contents store
    → (inputs : Inputs (NotedReader (List ℕ)) (NotedReader (List ℕ)))
    → inputs.readers.items ≡ list_readers → inputs.shared ≡ noted [] (codes "\n")
    → Honest (from lists) lists (codes "\n") (Lookups name asked_lists None Native false)
    (standard (codes "\n")) []
    ((InTurn, name) ∷ (InTurn, other) ∷ (AtPlaces, name) ∷ [])
    (let left : Back = looked_left store inputs in left)
unfolding lists name other of_disk
lookups_are_honest store has inputs are shared = record {
  calls = (InTurn, name) ∷ (InTurn, other) ∷ (AtPlaces, name) ∷ [];
  are = refl;
  answered = (tt, (tt, ((has, refl), tt)));
  in_turn = subst (λ rs. AgreeInTurn noted_feed lists (other ∷ name ∷ []) (own_readers rs)) (sym are)
      (these_agree {R = List ℕ} [] (codes "\n"), (([], record { begins = refl; ends = λ e. refl }), tt));
  unread = fresh_is_unread (codes "\n");
  agrees = subst (λ r. Agrees (Some (codes "\n")) (noted_feed r)) (sym shared)
      (more_agree {R = List ℕ} [] (codes "\n") []);
  bytes = record { files = lists_have; standard = empty_list_is };
  in_order = tt;
}
