-- What is known of runs over readers that report nothing before they are read: a query with -v of a key without a
-- value, a dump of a file and one of standard input, and the statistics of standard input.
use Rattle.std.proofs.Common.{inl, inr, subst}
use Rattle.std.specs.Fmt.{digits}
use Rattle.std.specs.Io.KnownBytes.{Appends}
use Rattle.std.specs.Prelude.{ℕ, ◌≡◌, ◌⊎◌, true, false, bytes_eq, if◌then◌else◌, List, [], ◌∷◌, ◌++◌, codes, take, None, Some, Ok, ⊤, refl}
use Rattle.cdb_command.specs.Asked.{Asked, Dump, Query, Stats}
use Rattle.cdb_command.specs.declared.style.Style.TheVariants.{Native}
use Rattle.cdb_show.specs.Feed.{noted_feed}
use Rattle.cdb_show.specs.declared.noted_reader.NotedReader.{NotedReader}
use Rattle.cdb_form.specs.Examples.Files.{words_of, repeat, two_file}
use Rattle.cdb_form.specs.Format.{head_at, entries_from, walk_of, walk_from, whole_records, record_end}
use Rattle.cdb_form.specs.Views.KnownBytes.{AppendsPrefix}
use Rattle.cdb_names.specs.Folder.{NameCalls}
use Rattle.cdb_read.specs.Lookup.{met_slots, found_at, lookup_of}
use Rattle.cdb_read.specs.Statistics.{distances_in, statistics_of, statistics_damage}
use Rattle.cdb_show.specs.Command.{explains_in, plan_of}
use Rattle.cdb_show.specs.Runs.Stats.{distance_lines, stats_text}
use Rattle.cdb_show.specs.Views.Output.{output_bytes, writer_bytes}
use Rattle.cdb_show.specs.declared.output.Output.{Output as Writer}
use Rattle.cdb_store.specs.Contents.{contents}
use Rattle.cdb_store.specs.contracts.memory.MemStoreStore.TheImpl.{ghosts as in_memory}
use Rattle.cdb_store.specs.declared.memory.MemStore.{MemStore}
use Rattle.cdb_store.specs.declared.raw.RawFile.{Ghosts as Raw}
use Rattle.cdb.specs.Created.{foretell}
use Rattle.cdb.specs.Foretold.{AsksNoCreate, IsForetold, IsTaken}
use Rattle.cdb.specs.declared.streams.Streams.{Streams}
use Rattle.cdb.specs.Running.{IsRun, given_by, taken, world_of, written}
use Rattle.cdb_system.specs.Answered.{Honest}
use Rattle.cdb_system.specs.Oracle.{Disk, Outcome}
use Rattle.cdb_system.specs.State.{Files, files_of, Standard, given_of, standard_of}
use Rattle.cdb_system.specs.NotedExamples.{ended, fresh, fresh_is_unread, front_agrees, noted, these_agree}
use Rattle.cdb_system.specs.Opening.{OpenCalls, input_left, read_left, stream_left}
use Rattle.cdb_system.specs.declared.left.Left.{Left}
use Rattle.cdb_system.specs.declared.open_trace.OpenCall.TheVariants.{AtPlaces, InTurn}
use Rattle.cdb_system.specs.declared.system.System.{Ghosts as Systems}

-- ---- the runs

-- cdb -v -q a.cdb a
abbrev query_words : List (List ℕ)
query_words = codes "cdb" ∷ codes "-v" ∷ codes "-q" ∷ codes "a.cdb" ∷ codes "a" ∷ []

abbrev query : Asked
query = Query (codes "a.cdb") (codes "a") None false false

query_is_explained : explains_in query_words ≡ true
query_is_explained = refl

-- cdb -d a.cdb, and cdb -d
abbrev dump_words : List (List ℕ)
dump_words = codes "cdb" ∷ codes "-d" ∷ codes "a.cdb" ∷ []

abbrev dump : Asked
dump = Dump (Some (codes "a.cdb")) Native false

abbrev input_dump_words : List (List ℕ)
input_dump_words = codes "cdb" ∷ codes "-d" ∷ []

abbrev input_dump : Asked
input_dump = Dump None Native false

-- cdb -s
abbrev stats_words : List (List ℕ)
stats_words = codes "cdb" ∷ codes "-s" ∷ []

abbrev stats : Asked
stats = Stats None false

-- ---- what is foretold of them

-- the file of two records, none of which has the key of the query
unfoldable disk : Disk
disk file = if bytes_eq file (codes "a.cdb") then Some two_file else None

abbrev ends_well : (output : List ℕ) → Outcome
ends_well output = record { status = 0; output = output; lines = [] }

unfoldable two_records : List ℕ
two_records = codes "+3,5:one->Hello\n+3,7:two->Goodbye\n\n"

unfoldable two_stats : List ℕ
two_stats =
    codes "records: 2\nkey lengths least/average/greatest: 3/3/3\n"
    ++ codes "value lengths least/average/greatest: 5/6/7\ntables/entries/collisions: 2/2/0\n"
    ++ codes "table sizes least/average/greatest: 2/2/2\n"
    ++ codes "distance 0: 2\ndistance 1: 0\ndistance 2: 0\ndistance 3: 0\ndistance 4: 0\n"
    ++ codes "distance 5: 0\ndistance 6: 0\ndistance 7: 0\ndistance 8: 0\ndistance 9: 0\n"
    ++ codes "distance 10 or more: 0\n"

query_is_missing : (foretell (Ok query) disk []).outcome ≡ record { status = 100; output = []; lines = [] }
unfolding disk two_file words_of repeat head_at lookup_of met_slots found_at entries_from
query_is_missing = refl

dump_is : (foretell (Ok dump) disk []).outcome ≡ ends_well two_records
unfolding disk two_records two_file words_of repeat walk_of walk_from whole_records record_end head_at digits
dump_is = refl

input_dump_is : (foretell (Ok input_dump) disk two_file).outcome ≡ ends_well two_records
unfolding two_records two_file words_of repeat walk_of walk_from whole_records record_end head_at digits
input_dump_is = refl

stats_are : (foretell (Ok stats) disk two_file).outcome ≡ ends_well two_stats
unfolding two_stats two_file words_of repeat walk_of walk_from whole_records record_end head_at statistics_of statistics_damage distances_in stats_text distance_lines entries_from digits
stats_are = refl

-- ---- what is taken as given

-- a reader that reports nothing before it is read, and notes what it gave
abbrev Reader : Type 0
Reader = NotedReader Unit

-- a system that opens the file in memory, or to be read from its start on by such a reader
abbrev of_disk : Systems OpenCalls MemStore Reader MemStore Reader Unit Unit
of_disk = record {
  calls = λ calls. calls;
  lacks = λ calls. ⊥;
  gives = λ name store. disk name ≡ Some (contents store);
  reads = λ name reader. ⊤;
  makes = λ name store. ⊤;
}

abbrev files : Files MemStore Reader Reader MemStore Unit Unit OpenCalls
files = files_of in_memory in_memory noted_feed of_disk

-- standard input is read by such a reader too
abbrev standard : Standard Reader
standard = standard_of noted_feed (fresh tt)

-- what is returned by a command that makes nothing
abbrev Back : Type 0
Back = Left MemStore MemStore Reader Reader

-- the query read the file in memory
abbrev query_calls : OpenCalls
query_calls = (AtPlaces, codes "a.cdb") ∷ []

query_is_honest : (store : MemStore) → two_file ≡ contents store
    → Honest files disk [] query standard [] query_calls (let left : Back = read_left store in left)
unfolding disk
query_is_honest store has = record {
  calls = query_calls;
  are = refl;
  answered = ((has, refl), tt);
  in_turn = tt;
  unread = fresh_is_unread {R = Unit} tt;
  agrees = tt;
  bytes = tt;
  in_order = tt;
}

-- the dump took the head and the records of the file, and met no end
abbrev dump_calls : OpenCalls
dump_calls = (InTurn, codes "a.cdb") ∷ []

abbrev dump_left : Back
dump_left = stream_left (noted tt (take 2082 two_file))

dump_is_honest : Honest files disk [] dump standard [] dump_calls dump_left
unfolding disk
dump_is_honest = record {
  calls = dump_calls;
  are = refl;
  answered = (tt, tt);
  in_turn = (front_agrees {R = Unit} tt 2082 two_file, tt);
  unread = fresh_is_unread {R = Unit} tt;
  agrees = tt;
  bytes = tt;
  in_order = tt;
}

-- so did the one of standard input
abbrev input_dump_left : Back
input_dump_left = input_left (noted tt (take 2082 two_file))

input_dump_is_honest : Honest files disk two_file input_dump standard [] [] input_dump_left
input_dump_is_honest = record {
  calls = [];
  are = refl;
  answered = tt;
  in_turn = tt;
  unread = fresh_is_unread {R = Unit} tt;
  agrees = front_agrees {R = Unit} tt 2082 two_file;
  bytes = tt;
  in_order = tt;
}

-- the statistics took all of it, to its end
abbrev stats_left : Back
stats_left = input_left (ended tt two_file)

stats_are_honest : Honest files disk two_file stats standard [] [] stats_left
stats_are_honest = record {
  calls = [];
  are = refl;
  answered = tt;
  in_turn = tt;
  unread = fresh_is_unread {R = Unit} tt;
  agrees = these_agree {R = Unit} tt two_file;
  bytes = tt;
  in_order = tt;
}

-- ---- what is known then

module _ {O E : Type 0} (r : Raw Unit) (was now : NameCalls) (had has : Type 0) (before after : Streams (Writer O) (Writer E)) (status : ℕ) where
  -- these words were run, all that was written was taken, and standard input reported nothing
  abbrev Ran : (words : List (List ℕ)) → OpenCalls → Back → Type 0
  Ran words calls left =
      IsTaken before.output after.output after.errors
      × IsRun (record { files = files; raw = r }) (given_by words standard) (world_of [] was had before) (world_of calls now has after)
      left status

  -- it came to this, or a failure was reported, and a prefix was written
  abbrev CameTo : Outcome → Type 0
  CameTo o =
      ((status ≡ o.status)
      × Appends (output_bytes before.output) (writer_bytes after.output) o.output)
      ⊎ ((status ≡ 111)
      × AppendsPrefix (output_bytes before.output) (writer_bytes after.output) o.output)

  came_to : (words : List (List ℕ)) (command : Asked) (input : List ℕ) (calls : OpenCalls) (left : Back) (o : Outcome) → plan_of words ≡ Ok command → AsksNoCreate (Ok command) → (foretell (Ok command) disk input).outcome ≡ o → Honest files disk input command standard [] calls left → Ran words calls left → CameTo o
  came_to words command input calls left o asked none is honest ran =
      let old = world_of [] was had before in
      let new = world_of calls now has after in
      let foretold = subst (λ p. IsForetold files (given_of p (explains_in words) standard) (written old) (taken new) left (IsTaken before.output after.output after.errors) status) asked ran.1.foretold in
      subst CameTo is (elim (foretold disk input ran.0 none honest) [
        | inl came ↦ inl (came.is_status, came.output)
        | inr refused ↦ inr (refused.is_status, refused.output)
      ])

  -- if the words request these commands, the key is missing, both records are written, and so are the statistics
  query_is_foretold : (store : MemStore) → plan_of query_words ≡ Ok query → two_file ≡ contents store
      → Ran query_words query_calls (read_left store) → CameTo (record { status = 100; output = []; lines = [] })
  query_is_foretold store asked has ran =
      came_to query_words query [] query_calls (read_left store) _ asked tt query_is_missing (query_is_honest store has) ran

  dump_is_foretold : plan_of dump_words ≡ Ok dump → Ran dump_words dump_calls dump_left → CameTo (ends_well two_records)
  dump_is_foretold asked ran =
      came_to dump_words dump [] dump_calls dump_left _ asked tt dump_is dump_is_honest ran

  input_dump_is_foretold : plan_of input_dump_words ≡ Ok input_dump → Ran input_dump_words [] input_dump_left → CameTo (ends_well two_records)
  input_dump_is_foretold asked ran =
      came_to input_dump_words input_dump two_file [] input_dump_left _ asked tt input_dump_is input_dump_is_honest ran

  stats_are_foretold : plan_of stats_words ≡ Ok stats → Ran stats_words [] stats_left → CameTo (ends_well two_stats)
  stats_are_foretold asked ran =
      came_to stats_words stats two_file [] stats_left _ asked tt stats_are stats_are_honest ran
