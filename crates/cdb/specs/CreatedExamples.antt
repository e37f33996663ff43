-- What the oracle says of worked creates.
use Rattle.std.specs.Fmt.{digits}
use Rattle.std.specs.Prelude.{ℕ, ◌≡◌, Bool, ◌&&◌, true, false, nat_lt, bytes_eq, if◌then◌else◌, List, [], ◌∷◌, length, codes, Option, None, Some, Ok, refl, zero, suc, IfSome}
use Rattle.std.proofs.Common.{arith, inl, subst, sym}
use Rattle.std.proofs.lemmas.Bool.{and_parts, cond_both, ltb-true}
use Rattle.cdb_show.specs.Feed.{noted_feed}
use Rattle.cdb_show.specs.declared.input_reader.InputReader.TheVariants.{Own, Shared}
use Rattle.cdb_show.specs.declared.noted_reader.NotedReader.{NotedReader}
use Rattle.cdb_names.specs.Folder.{NameCalls}
use Rattle.cdb_names.specs.declared.answer.Answer.TheVariants as looks
use Rattle.cdb_names.specs.declared.name_trace.NameCall.TheVariants as name_call
use Rattle.cdb_store.specs.Calls.{Calls, FileImage}
use Rattle.cdb_store.specs.Contents.{contents}
use Rattle.cdb_store.specs.contracts.memory.MemStoreStore.TheImpl.{ghosts as in_memory}
use Rattle.cdb_store.specs.declared.memory.MemStore.{MemStore}
use Rattle.cdb_store.specs.declared.trace.Call.TheVariants as file_call
use Rattle.cdb_form.proofs.Bytes.ByteLemmas.{AreBytes-cons, AreBytes-nil}
use Rattle.cdb_form.specs.Format.{AreBytes, file_bytes, file_pointers, pointers_from, head_at, record_bytes, record_of, file_tables, table_slots, filled_slots, slots_with, table_entries, entries_from, walk_of, walk_from, whole_records, record_end}
use Rattle.cdb_system.specs.Answered.{AreAnswered, if_some}
use Rattle.cdb_system.specs.Oracle.{Disk}
use Rattle.cdb_system.specs.State.{Files, files_of, AgreeInTurn, Agrees, own_readers, Standard, State, standard_of, state_of}
use Rattle.cdb_system.specs.NotedExamples.{ended, fresh, fresh_is_unread, more_agree, noted, these_agree}
use Rattle.cdb_system.specs.declared.left.Left.{Left}
use Rattle.cdb_system.specs.declared.open_trace.OpenCall.TheVariants.{InTurn, Watched}
use Rattle.cdb.specs.Contents.{sources_left}
use Rattle.cdb.specs.declared.contents.Sources.{Sources}
use Rattle.cdb.specs.ForetoldCreate.{HonestCreate}
use Rattle.cdb_system.specs.Opening.{OpenCalls}
use Rattle.cdb_system.specs.declared.system.System.{Ghosts as Systems}
use Rattle.cdb_command.specs.Asked.{Asked, Create}
use Rattle.cdb_command.specs.declared.options.MakeOptions.{MakeOptions}
use Rattle.cdb_command.specs.declared.style.Style.TheVariants.{Native}
use Rattle.cdb_form.specs.Examples.Files.{words_of, repeat, two_file}
use Rattle.cdb_form.specs.Text.Parse.{text_from}
use Rattle.cdb_read.specs.Sound.{lacks_tables}
use Rattle.cdb_form.specs.declared.mode.Mode.TheVariants.{Add}
use Rattle.cdb.specs.Created.{Ending, foretell}

-- an empty disk, and one with the file of the two records
unfoldable nothing : Disk
nothing name = None

unfoldable old : Disk
old name = if bytes_eq name (codes "a.cdb") then Some two_file else None

-- the text of both, and what a create of a.cdb comes to, of standard input
unfoldable two_text : List ℕ
two_text = codes "+3,5:one->Hello\n+3,7:two->Goodbye\n\n"

unfoldable plain : MakeOptions
plain = record { mode = Add; warn = false; stop = false; style = Native; limit = 4294967295 }

unfoldable stopping : MakeOptions
stopping = record { mode = Add; warn = false; stop = true; style = Native; limit = 4294967295 }

abbrev of_file : MakeOptions → (base : Option (List ℕ)) → Disk → (input : List ℕ) → Ending
of_file o base disk input = foretell (Ok (Create (codes "a.cdb") base [] None o false)) disk input

-- cdb -c a.cdb, over nothing: the file of 2114 bytes, and no temporary file
made_is : (of_file plain None nothing two_text).disk (codes "a.cdb") ≡ Some two_file
unfolding nothing two_text plain text_from two_file words_of repeat file_bytes file_tables table_slots filled_slots slots_with table_entries entries_from file_pointers pointers_from record_bytes
made_is = refl

long_is : length two_file ≡ 2114
unfolding two_file words_of repeat
long_is = refl

succeeds : (of_file plain None nothing two_text).outcome ≡ record { status = 0; output = []; lines = [] }
unfolding nothing two_text plain text_from
succeeds = refl

gone : (of_file plain None nothing two_text).disk (codes "a.cdb.tmp") ≡ None
unfolding nothing two_text plain text_from
gone = refl

-- cdb -c -
printed : (foretell (Ok (Create (codes "-") None [] None plain false)) nothing two_text).outcome ≡ record { status = 0; output = two_file; lines = [] }
unfolding nothing two_text plain text_from two_file words_of repeat file_bytes file_tables table_slots filled_slots slots_with table_entries entries_from file_pointers pointers_from record_bytes
printed = refl

-- cdb -c -t - a.cdb of a text that is cut: the file may have any bytes then
unsure_is : (foretell (Ok (Create (codes "a.cdb") None [] (Some (codes "-")) plain false)) old (codes "+1")).unsure ≡ Some (codes "a.cdb")
unfolding old plain text_from
unsure_is = refl

-- cdb -c a.cdb of a text that is cut: the old file stays
early : (of_file plain None old (codes "+1,1:a->1\n")).outcome ≡ record { status = 111; output = []; lines = codes "cdb: input 1: byte 10: text ends early\n" }
unfolding old plain digits text_from
early = refl

kept : (of_file plain None old (codes "+1,1:a->1\n")).disk (codes "a.cdb") ≡ Some two_file
unfolding old plain text_from
kept = refl

-- cdb -c -e a.cdb of a key that comes twice: so it does
twice : (of_file stopping None old (codes "+1,1:a->1\n+1,1:a->2\n\n")).outcome ≡ record { status = 111; output = []; lines = codes "cdb: input 1: record 2: duplicate key\ncdb: stopped at a duplicate key\n" }
unfolding old stopping digits text_from
twice = refl

stopped : (of_file stopping None old (codes "+1,1:a->1\n+1,1:a->2\n\n")).disk (codes "a.cdb") ≡ Some two_file
unfolding old stopping text_from
stopped = refl

-- cdb -c -b a.cdb a.cdb of a removal: the record is gone
removed : (of_file plain (Some (codes "a.cdb")) old (codes "-3:two\n\n")).disk (codes "a.cdb") ≡ Some (file_bytes 4 (record_of (codes "one") (codes "Hello") ∷ []))
unfolding old plain text_from two_file words_of repeat walk_of walk_from whole_records record_end head_at lacks_tables
removed = refl

-- of a wide file without records: it is refused, and stays
unfoldable wide : Disk
wide name = if bytes_eq name (codes "a.cdb") then Some (file_bytes 8 []) else None

abbrev of_wide : Ending
of_wide = of_file plain (Some (codes "a.cdb")) wide (codes "\n")

refused : of_wide.outcome ≡ record { status = 111; output = []; lines = codes "cdb: base database: no tables before its records\n" }
unfolding wide plain text_from file_bytes file_tables table_slots filled_slots slots_with table_entries entries_from file_pointers pointers_from record_bytes head_at lacks_tables
refused = refl

stays : of_wide.disk (codes "a.cdb") ≡ Some (file_bytes 8 [])
unfolding wide plain text_from file_bytes file_tables table_slots filled_slots slots_with table_entries entries_from file_pointers pointers_from record_bytes head_at lacks_tables
stays = refl

-- ---- calls by which it comes true

-- the names, the file of no records, and the calls on it: made, written and synced
abbrev its : List ℕ
its = codes "a.cdb"

abbrev temporary : List ℕ
temporary = codes "a.cdb.tmp"

unfoldable empty_file : List ℕ
empty_file = file_bytes 4 []

abbrev file_calls : Calls
file_calls = (file_call.Synced, []) ∷ (file_call.Wrote 0, empty_file) ∷ (file_call.Made, []) ∷ []

-- the calls on names of a create of empty texts after these questions, the newest first
abbrev name_calls : (asked : NameCalls) → NameCalls
name_calls asked =
    (name_call.Synced, its, [], []) ∷ (name_call.Renamed 2048, temporary, its, file_calls)
    ∷ (name_call.Same looks.No, temporary, its, []) ∷ (name_call.Own looks.Yes, temporary, [], [])
    ∷ (name_call.Made 384, temporary, [], []) ∷ (name_call.Special looks.No, its, [], []) ∷ asked

newline_is : AreBytes (codes "\n")
newline_is zero = omega arith
newline_is (suc k) = omega arith

-- true if all are bytes
abbrev are_small : List ℕ → Bool
are_small [] = true
are_small (x ∷ xs) = nat_lt x 256 && are_small xs

small_are : (xs : List ℕ) → are_small xs ≡ true → AreBytes xs
small_are [] e = AreBytes-nil
small_are (x ∷ xs) e = let both = and_parts (nat_lt x 256) (are_small xs) e in AreBytes-cons x xs (ltb-true x 256 both.0) (small_are xs both.1)

empty_is : AreBytes empty_file
unfolding empty_file file_bytes file_tables table_slots filled_slots slots_with table_entries entries_from file_pointers pointers_from record_bytes
empty_is = small_are empty_file refl

is_written : FileImage 2048 file_calls empty_file
unfolding empty_file file_bytes file_tables table_slots filled_slots slots_with table_entries entries_from file_pointers pointers_from record_bytes
is_written = (empty_file, ([], refl, omega arith, refl), omega arith, refl)

-- a file of an empty text, and a database without records
abbrev text : List ℕ
text = codes "in"

abbrev first : List ℕ
first = codes "b.cdb"

unfoldable with_text : Disk
with_text file = if bytes_eq file text then Some (codes "\n") else None

unfoldable with_base : Disk
with_base file = if bytes_eq file first then Some empty_file else None

text_has : (file : List ℕ) → IfSome (with_text file) AreBytes
unfolding with_text
text_has file = cond_both (bytes_eq file text) _ _ (λ o. IfSome o AreBytes) (λ is. newline_is) (λ no. tt)

base_has : (file : List ℕ) → IfSome (with_base file) AreBytes
unfolding with_base
base_has file = cond_both (bytes_eq file first) _ _ (λ o. IfSome o AreBytes) (λ is. empty_is) (λ no. tt)

-- readers that note what they gave, of files in memory
abbrev Reader : Type 0
Reader = NotedReader (List ℕ)

abbrev Machine : Type 1
Machine = Systems OpenCalls MemStore Reader MemStore Reader Unit Unit

abbrev from : Machine → Files MemStore Reader Reader MemStore Unit Unit OpenCalls
from y = files_of in_memory in_memory noted_feed y

abbrev standard : (input : List ℕ) → Standard Reader
standard input = standard_of noted_feed (fresh input)

-- what is returned
abbrev left_of : Sources MemStore Reader Reader → Left MemStore MemStore Reader Reader
left_of sources = sources_left sources None

abbrev calls_of : OpenCalls → NameCalls → State OpenCalls
calls_of opened named = state_of opened named None None

-- cdb -c a.cdb, of standard input, of which an empty text came and no end
create_is_honest : (y : Machine) → (sources : Sources MemStore Reader Reader)
    → sources.base ≡ None → sources.inputs.readers.items ≡ Shared ∷ [] → sources.inputs.shared ≡ noted [] (codes "\n")
    → HonestCreate (from y) nothing (codes "\n") its (standard (codes "\n")) (calls_of [] [])
    (calls_of [] (name_calls ((name_call.Input looks.No, temporary, [], []) ∷ []))) (left_of sources)
unfolding nothing
create_is_honest y sources based readers shared = record {
  calls = [];
  are = refl;
  answered = tt;
  in_turn = tt;
  unread = fresh_is_unread (codes "\n");
  agrees = subst (λ r. Agrees (Some (codes "\n")) (noted_feed r)) (sym shared) (more_agree {R = List ℕ} [] (codes "\n") []);
  bytes = record { files = λ name. tt; standard = newline_is };
  first = refl;
  alone = (tt, (tt, ((λ said same. (let no : temporary ≡ its = same in cc), λ said. absurd (said refl)), (tt, (tt, (tt, (refl, tt)))))));
  held = Some empty_file;
  has = inl (refl, λ synced. is_written);
}

create_is : (of_file plain None nothing (codes "\n")).disk its ≡ Some empty_file
unfolding nothing plain text_from empty_file file_bytes file_tables table_slots filled_slots slots_with table_entries entries_from file_pointers pointers_from record_bytes
create_is = refl

-- cdb -c a.cdb in, of a file, of which all came and its end; of standard input nothing did
abbrev of_text : Asked
of_text = Create its None (text ∷ []) None plain false

file_is_honest : (y : Machine) → (sources : Sources MemStore Reader Reader)
    → sources.base ≡ None → sources.inputs.readers.items ≡ Own (ended [] (codes "\n")) ∷ [] → sources.inputs.shared ≡ fresh []
    → HonestCreate (from y) with_text [] its (standard []) (calls_of [] [])
    (calls_of ((InTurn, text) ∷ []) (name_calls ((name_call.Same looks.No, temporary, text, []) ∷ []))) (left_of sources)
unfolding with_text
file_is_honest y sources based readers shared = record {
  calls = (InTurn, text) ∷ [];
  are = refl;
  answered = (tt, tt);
  in_turn = subst (λ rs. AgreeInTurn noted_feed with_text (text ∷ []) (own_readers rs)) (sym readers) (these_agree {R = List ℕ} [] (codes "\n"), tt);
  unread = fresh_is_unread {R = List ℕ} [];
  agrees = subst (λ r. Agrees (Some []) (noted_feed r)) (sym shared) ([], record { begins = refl; ends = λ e. refl });
  bytes = record { files = text_has; standard = AreBytes-nil };
  first = refl;
  alone = (tt, (tt, ((λ said same. (let no : temporary ≡ its = same in cc), λ said. absurd (said refl)), (tt, (tt, (tt, ((λ said same. (let no : temporary ≡ text = same in cc), λ said. absurd (said refl)), tt)))))));
  held = Some empty_file;
  has = inl (refl, λ synced. is_written);
}

file_is : (foretell (Ok of_text) with_text []).disk its ≡ Some empty_file
unfolding with_text plain text_from empty_file file_bytes file_tables table_slots filled_slots slots_with table_entries entries_from file_pointers pointers_from record_bytes
file_is = refl

-- cdb -c -b b.cdb a.cdb - -, of standard input twice, after a base: two empty texts came
abbrev of_base : Asked
of_base = Create its (Some first) (codes "-" ∷ codes "-" ∷ []) None plain false

abbrev texts : List ℕ
texts = codes "\n\n"

texts_are : AreBytes texts
texts_are zero = omega arith
texts_are (suc zero) = omega arith
texts_are (suc (suc k)) = omega arith

base_is_honest : (y : Machine) → (sources : Sources MemStore Reader Reader) → (store : MemStore)
    → sources.base ≡ Some store → empty_file ≡ contents store → sources.inputs.readers.items ≡ Shared ∷ Shared ∷ [] → sources.inputs.shared ≡ noted [] texts
    → HonestCreate (from y) with_base texts its (standard texts) (calls_of [] [])
    (calls_of ((Watched, first) ∷ [])
    (name_calls ((name_call.Input looks.No, temporary, [], []) ∷ (name_call.Input looks.No, temporary, [], []) ∷ (name_call.Same looks.No, temporary, first, []) ∷ [])))
    (left_of sources)
unfolding with_base
base_is_honest y sources store based has readers shared = record {
  calls = (Watched, first) ∷ [];
  are = refl;
  answered = subst (λ b. AreAnswered in_memory with_base ((Watched, first) ∷ []) (if_some b)) (sym based) ((has, refl), tt);
  in_turn = tt;
  unread = fresh_is_unread texts;
  agrees = subst (λ r. Agrees (Some texts) (noted_feed r)) (sym shared) (more_agree {R = List ℕ} [] texts []);
  bytes = record { files = base_has; standard = texts_are };
  first = refl;
  alone = (tt, (tt, ((λ said same. (let no : temporary ≡ its = same in cc), λ said. absurd (said refl)), (tt, (tt, (tt, (refl, (refl, ((λ said same. (let no : temporary ≡ first = same in cc), λ said. absurd (said refl)), tt)))))))));
  held = Some empty_file;
  has = inl (refl, λ synced. is_written);
}

base_is : (foretell (Ok of_base) with_base texts).disk its ≡ Some empty_file
unfolding with_base plain text_from empty_file file_bytes file_tables table_slots filled_slots slots_with table_entries entries_from file_pointers pointers_from record_bytes words_of repeat walk_of walk_from whole_records record_end head_at lacks_tables
base_is = refl
