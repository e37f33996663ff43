-- That a command has a fault for its reason: one that only reads by what it leaves, and a create by its own contract.
use Rattle.cdb.proofs.Words.{Asked, Err, Fault, Feed, Ghosts, IfErr, Left, List, None, Ok, OpenCalls, Option, Result, Some, Standard, State, [], ap, arith, inl, inr, refl, subst, sym, ℕ, ◌++◌, ◌<◌, ◌∷◌, ◌≡◌}
use Rattle.std.proofs.Common.{Bool}
use Rattle.cdb_command.specs.Asked as asked
use Rattle.cdb_show.specs.Feed.{SomeFailed, Stop}
use Rattle.cdb_form.specs.Text.Parse.{Change}
use Rattle.cdb_form.specs.declared.text.fault.TextFault.{TextFault}
use Rattle.cdb_form.specs.declared.text.fault.TextFault.TheVariants as text
use Rattle.cdb_form.specs.declared.walk.fault.WalkFault.TheVariants as walk
use Rattle.cdb_names.specs.declared.answer.Answer.TheVariants as looks
use Rattle.cdb_read.specs.declared.fault.ReadFault.TheVariants as read
use Rattle.cdb_store.specs.contracts.memory.MemStoreStore.TheImpl.{ghosts as in_memory}
use Rattle.cdb_store.specs.declared.memory.MemStore.{MemStore}
use Rattle.cdb_show.specs.Runs.Stats.{CheckingFails, TellingFails}
use Rattle.cdb_show.specs.Runs.Difference.{TellsDifference, DifferenceFails, DifferenceState, DifferenceTask, difference_state, difference_task}
use Rattle.cdb_show.specs.Runs.Flushed.{FlushedWhole}
use Rattle.cdb_show.specs.Runs.WalkText.{Form, dump_form, list_form, WritingFails}
use Rattle.cdb_show.specs.Runs.Lookups.{LookupState, LookupTask, lookup_state, lookup_task, LookupsFail, LookupsLeave}
use Rattle.cdb_show.specs.Runs.Query.{Queries, Query, QueryFails}
use Rattle.cdb_show.specs.Views.Window.{window_feed}
use Rattle.cdb_show.specs.declared.fault.Fault.TheVariants.{Missing, New, NoMemory, NoNewTables, NoOldTables, Long, Old, Output, Read, Text, Walk}
use Rattle.cdb_system.specs.Opening.{both_left, input_left, looked_left, read_left, stream_left}
use Rattle.cdb_system.specs.Reading.{ChecksStore, IsNotLoaded, PerformsDifference, PerformsLookups, PerformsOn, PerformsQuery, PerformsText, ReadsText, Refuses, Takes, Tells, TellsStore}
use Rattle.cdb_system.specs.State.{calls_in, WantedDifference, WantedLookups, WantedQuery, WantedStore, WantedText}
use Rattle.cdb_system.specs.declared.open_trace.OpenCall.TheVariants.{AtPlaces, Stream}
use Rattle.cdb.specs.Handing.{Machine}
use Rattle.cdb.specs.Performs.{HandsOn, Performs}
use Rattle.cdb.specs.Reasons.{HasReason, IfCreate, Reasons, calls_made, left_reasons}
use Rattle.cdb.proofs.Reasons.{file_then, inputs_missed, missed_reason, some_any}

-- ---- what each run leaves

module _ (why : Reasons) where
  query_fault : {S : Type 0} (w : ℕ) (s : Ghosts S) (q : Query) (old new : S) (start end : Option (List ℕ)) (f : Fault) → (0 < s.failures new → why.store) → QueryFails w s q old new start end f → HasReason why f
  query_fault w s q old new start end (Read read.Device) store h = store (let rose = h.0 in omega (arith, rose))
  query_fault w s q old new start end (Read f) store h = tt
  query_fault w s q old new start end Missing store h = tt
  query_fault w s q old new start end Output store h = tt
  query_fault w s q old new start end f store h = absurd h

  queries : {S : Type 0} (w : ℕ) (s : Ghosts S) (q : Query) (old new : S) (start end : Option (List ℕ)) (result : Result Unit Fault) → (0 < s.failures new → why.store) → Queries w s q old new start end result → IfErr result (HasReason why)
  queries w s q old new start end (Ok done) store h = tt
  queries w s q old new start end (Err f) store h = query_fault w s q old new start end f store h.err

  text_fault : (w : ℕ) (form : Form) (before after : Feed) (start end : Option (List ℕ)) (f : Fault) → (after.failed → why.reader) → WritingFails w form before after start end f → HasReason why f
  text_fault w form before after start end (Walk walk.Input) reader h = reader h.1
  text_fault w form before after start end (Walk f) reader h = tt
  text_fault w form before after start end NoMemory reader h = tt
  text_fault w form before after start end Output reader h = tt
  text_fault w form before after start end f reader h = absurd h

  reads_text : (w : ℕ) (form : Form) (before after : Feed) (start end : Option (List ℕ)) (result : Result Unit Fault) → (after.failed → why.reader) → ReadsText w form before after start end result → IfErr result (HasReason why)
  reads_text w form before after start end result reader (inl lacks) = subst (λ r. IfErr r (HasReason why)) (sym lacks.0) tt
  reads_text w form before after start end (Ok done) reader (inr writes) = tt
  reads_text w form before after start end (Err f) reader (inr writes) = text_fault w form before (window_feed after writes.held) start end f reader writes.walk.err

  stats_fault : {S : Type 0} (w : ℕ) (s : Ghosts S) (old new : S) (start end : Option (List ℕ)) (f : Fault) → (s.failures old < s.failures new → why.store) → TellingFails w s old new start end f → HasReason why f
  stats_fault w s old new start end (Read read.Device) store h = store h.0
  stats_fault w s old new start end (Read f) store h = tt
  stats_fault w s old new start end Output store h = tt
  stats_fault w s old new start end f store h = absurd h

  tells_stats : {S : Type 0} (w : ℕ) (s : Ghosts S) (old new : S) (start end : Option (List ℕ)) (result : Result Unit Fault) → (s.failures old < s.failures new → why.store) → TellsStore w start end result s old new → IfErr result (HasReason why)
  tells_stats w s old new start end (Ok done) store h = tt
  tells_stats w s old new start end (Err f) store h = stats_fault w s old new start end f store h.err

  check_fault : {S : Type 0} (w : ℕ) (s : Ghosts S) (old new : S) (f : Fault) → (s.failures old < s.failures new → why.store) → CheckingFails w s old new f → HasReason why f
  check_fault w s old new (Read read.Device) store h = store h
  check_fault w s old new (Read f) store h = tt
  check_fault w s old new NoMemory store h = tt
  check_fault w s old new f store h = absurd h

  checks : {S : Type 0} (w : ℕ) (s : Ghosts S) (old new : S) (start end : Option (List ℕ)) (result : Result Unit Fault) → (s.failures old < s.failures new → why.store) → ChecksStore w start end result s old new → IfErr result (HasReason why)
  checks w s old new start end (Ok done) store h = tt
  checks w s old new start end (Err f) store h = check_fault w s old new f store h.fails

  not_loaded : (most : ℕ) (before after : Feed) (f : Fault) → (after.failed → why.reader) → IsNotLoaded most before after f → HasReason why f
  not_loaded most before after Long reader h = tt
  not_loaded most before after (Walk walk.Input) reader h = reader h
  not_loaded most before after NoMemory reader h = tt
  not_loaded most before after f reader h = absurd h

  takes : (most : ℕ) (before after : Feed) (start end : Option (List ℕ)) (result : Result Unit Fault) (done : MemStore → MemStore → Type 0) → (after.failed → why.reader) → ((store last : MemStore) → done store last → IfErr result (HasReason why)) → Takes most before after start end result done → IfErr result (HasReason why)
  takes most before after start end result done reader does (inl none) = subst (λ r. IfErr r (HasReason why)) (sym none.is) (not_loaded most before after none.fault reader none.why)
  takes most before after start end result done reader does (inr some) = does some.store some.last some.does

  difference_fault : {S T : Type 0} (d : DifferenceTask S T) (before after : DifferenceState S T) (f : Fault) → (0 < d.old.failures after.old → why.store) → (0 < d.new.failures after.new → why.store) → DifferenceFails d before after f → HasReason why f
  difference_fault d before after (Old read.Device) old new h = old (let rose : d.old.failures before.old < d.old.failures after.old = h in omega (arith, rose))
  difference_fault d before after (Old f) old new h = tt
  difference_fault d before after (New read.Device) old new h = new (let rose : d.new.failures before.new < d.new.failures after.new = h in omega (arith, rose))
  difference_fault d before after (New f) old new h = tt
  difference_fault d before after Output old new h = tt
  difference_fault d before after NoMemory old new h = tt
  difference_fault d before after NoOldTables old new h = tt
  difference_fault d before after NoNewTables old new h = tt
  difference_fault d before after f old new h = absurd h

  tells_difference : {S T : Type 0} (d : DifferenceTask S T) (before after : DifferenceState S T) (result : Result Unit Fault) → (0 < d.old.failures after.old → why.store) → (0 < d.new.failures after.new → why.store) → TellsDifference d before after result → IfErr result (HasReason why)
  tells_difference d before after (Ok done) old new h = tt
  tells_difference d before after (Err f) old new h = difference_fault d before after f old new h.err

  module _ {J I S : Type 0} (t : LookupTask S) (own : J → Feed) (shared : I → Feed) (old new : LookupState J I S) (store : 0 < t.store.failures new.store → why.store) where
    lookups_fault : (done : List (List Change)) (stop : Stop Change TextFault) (f : Fault) → LookupsFail t done stop old new f → ((n : ℕ) → f ≡ Text n text.Input → why.reader) → HasReason why f
    lookups_fault done stop (Read read.Device) h reader = elim h [
      | inl next ↦ store (let rose = next.stops.0 in omega (arith, rose))
      | inr unopened ↦ store (let rose = unopened.why in omega (arith, rose))
    ]
    lookups_fault done stop (Read f) h reader = tt
    lookups_fault done stop (Text n text.Input) h reader = reader n refl
    lookups_fault done stop (Text n f) h reader = tt
    lookups_fault done stop Missing h reader = tt
    lookups_fault done stop Output h reader = tt
    lookups_fault done stop NoMemory h reader = tt
    lookups_fault done stop f h reader = absurd h.stops

    some_lookup : (f : Fault) → LookupsLeave t own shared old new (Err f) → (SomeFailed own shared new.inputs.readers.items new.inputs.shared → why.reader) → HasReason why f
    some_lookup Missing h reader = tt
    some_lookup f h reader = lookups_fault h.read h.stop f (h.fails f refl (λ e. let no : ⊥ = cc in no)) (λ n e. reader (h.failed n (ap (λ (f : Fault). Err f) e)))

    left_lookups : (answer : Result Unit Fault) → LookupsLeave t own shared old new answer → (SomeFailed own shared new.inputs.readers.items new.inputs.shared → why.reader) → IfErr answer (HasReason why)
    left_lookups (Ok done) h reader = tt
    left_lookups (Err f) h reader = some_lookup f h reader

flushed_whole : (why : Reasons) (mid new : Option (List ℕ)) (answer result : Result Unit Fault) → FlushedWhole mid new answer result → IfErr answer (HasReason why) → IfErr result (HasReason why)
flushed_whole why mid new answer result f h = elim f.answered as (λ _. IfErr result (HasReason why)) [
  | inl same ↦ subst (λ r. IfErr r (HasReason why)) (sym same) h
  | inr failed ↦ subst (λ r. IfErr r (HasReason why)) (sym failed.1) tt
]

-- ---- each command that reads

module _ {F I J M N R Y : Type 0} (machine : Machine F I J M N R Y) (input : Standard J) (old new : State Y) (nameless : Type 0) where
  abbrev Why : Left F M I J → Reasons
  Why left = left_reasons machine input.feed (calls_made (calls_in machine.files old) old.named) (calls_made (calls_in machine.files new) new.named) left nameless

  abbrev Reasoned : Left F M I J → Result Unit Fault → Type 0
  Reasoned left result = IfErr result (HasReason (Why left))

  -- as it is left
  left_so : (left is : Left F M I J) (result : Result Unit Fault) → left ≡ is → Reasoned is result → Reasoned left result
  left_so left is result e h = subst (λ l. Reasoned l result) (sym e) h

  refuses : (left : Left F M I J) (name : List ℕ) (more : OpenCalls) (start end : Option (List ℕ)) (result : Result Unit Fault) → Refuses name (more ++ calls_in machine.files old) (calls_in machine.files new) start end result → Reasoned left result
  refuses left name more start end result h =
      subst (λ r. Reasoned left r) (sym h.is)
      (missed_reason (Why left) name (more ++ calls_in machine.files old) (calls_in machine.files new) h.fault (λ refused. inl (file_then (calls_in machine.files old) (more ++ calls_in machine.files old) (calls_in machine.files new) more refl refused)) h.misses)

  query_reason : (q : WantedQuery) (left : Left F M I J) (result : Result Unit Fault) → PerformsQuery machine.files q old new left result → Reasoned left result
  query_reason q left result (inl none) = refuses left q.name [] old.output new.output result none.1
  query_reason q left result (inr (calls, file)) = left_so left (read_left file.last) result file.is_last (queries (Why (read_left file.last)) q.word machine.files.stores q.query file.file file.last old.output new.output result (λ rose. inl rose) file.queries)

  text_reason : (t : WantedText) (left : Left F M I J) (result : Result Unit Fault) (name : Option (List ℕ)) → t.name ≡ name → PerformsText machine.files (record t { name = name }) input old new left result → Reasoned left result
  text_reason t left result (Some name) e (inl none) = refuses left name [] old.output new.output result none.1
  text_reason t left result (Some name) e (inr (calls, file)) = left_so left (stream_left file.last) result file.is_last (reads_text (Why (stream_left file.last)) t.word t.form (machine.files.feed file.file) (machine.files.feed file.last) old.output new.output result (λ failed. inl (inl failed)) file.reads)
  text_reason t left result None e (same, it) = left_so left (input_left it.last) result it.is_last (reads_text (Why (input_left it.last)) t.word t.form (input.feed input.reader) (input.feed it.last) old.output new.output result (λ failed. inr (inl failed)) it.reads)

  store_reason : (s : WantedStore F) (left : Left F M I J) (result : Result Unit Fault) (name : Option (List ℕ)) → ((why : Reasons) (store last : F) → (machine.files.stores.failures store < machine.files.stores.failures last → why.store) → s.file store last → IfErr result (HasReason why)) → ((why : Reasons) (store last : MemStore) → s.taken store last → IfErr result (HasReason why))
      → PerformsOn machine.files (record s { name = name }) input old new left result → Reasoned left result
  store_reason s left result (Some name) file taken (inl none) = refuses left name ((Stream looks.No, name) ∷ []) old.output new.output result none.1
  store_reason s left result (Some name) file taken (inr (inl (calls, of))) = left_so left (read_left of.last) result of.is_last (file (Why (read_left of.last)) of.file of.last (λ rose. inl (omega (arith, rose))) of.does)
  store_reason s left result (Some name) file taken (inr (inr (inl none))) = refuses left name ((Stream looks.Yes, name) ∷ []) old.output new.output result none.1
  store_reason s left result (Some name) file taken (inr (inr (inr (inl (calls, of))))) = left_so left (stream_left of.last) result of.is_last (takes (Why (stream_left of.last)) s.most (machine.files.feed of.file) (machine.files.feed of.last) old.output new.output result s.taken (λ failed. inl (inl failed)) (taken (Why (stream_left of.last))) of.takes)
  store_reason s left result (Some name) file taken (inr (inr (inr (inr (calls, none, is, kept))))) =
      subst (λ r. Reasoned left r) (sym is) (inl (record { call = Stream looks.Unknown; name = name; since = []; are = calls; refuses = tt }))
  store_reason s left result None file taken (same, of) = left_so left (input_left of.last) result of.is_last (takes (Why (input_left of.last)) s.most (input.feed input.reader) (input.feed of.last) old.output new.output result s.taken (λ failed. inr (inl failed)) (taken (Why (input_left of.last))) of.takes)

  stats_reason : (w most : ℕ) (name : Option (List ℕ)) (left : Left F M I J) (result : Result Unit Fault) → PerformsOn machine.files (record { most = most; name = name; file = TellsStore w old.output new.output result machine.files.stores; taken = TellsStore w old.output new.output result in_memory }) input old new left result → Reasoned left result
  stats_reason w most name left result h =
      store_reason (record { most = most; name = name; file = TellsStore w old.output new.output result machine.files.stores; taken = TellsStore w old.output new.output result in_memory }) left result name (λ why store last failed does. tells_stats why w machine.files.stores store last old.output new.output result failed does) (λ why store last does. tells_stats why w in_memory store last old.output new.output result (λ rose. absurd (omega (arith, rose))) does) h

  check_reason : (w most : ℕ) (name : Option (List ℕ)) (left : Left F M I J) (result : Result Unit Fault) → PerformsOn machine.files (record { most = most; name = name; file = ChecksStore w old.output new.output result machine.files.stores; taken = ChecksStore w old.output new.output result in_memory }) input old new left result → Reasoned left result
  check_reason w most name left result h =
      store_reason (record { most = most; name = name; file = ChecksStore w old.output new.output result machine.files.stores; taken = ChecksStore w old.output new.output result in_memory }) left result name (λ why store last failed does. checks why w machine.files.stores store last old.output new.output result failed does) (λ why store last does. checks why w in_memory store last old.output new.output result (λ rose. absurd (omega (arith, rose))) does) h

  difference_reason : (d : WantedDifference) (left : Left F M I J) (result : Result Unit Fault) → PerformsDifference machine.files d old new left result → Reasoned left result
  difference_reason d left result (inl none) = refuses left d.first [] old.output new.output result none.1
  difference_reason d left result (inr (inl half)) = refuses left d.second ((AtPlaces, d.first) ∷ []) old.output new.output result half.refuses
  difference_reason d left result (inr (inr (calls, both))) =
      left_so left (both_left both.old_last both.new_last) result both.are_last
      (tells_difference (Why (both_left both.old_last both.new_last)) (difference_task d.word machine.files.stores machine.files.stores) (difference_state both.old both.new old.output) (difference_state both.old_last both.new_last new.output) result (λ rose. inr (inl rose)) (λ rose. inl rose) both.tells)

  lookups_reason : (l : WantedLookups) (left : Left F M I J) (result : Result Unit Fault) → PerformsLookups machine.files l input old new left result → Reasoned left result
  lookups_reason l left result (inl none) = refuses left l.name [] old.output new.output result none.1
  lookups_reason l left result (inr (inl half)) =
      subst (λ r. Reasoned left r) (sym half.is)
      (inputs_missed machine.files.system (Why left) l.inputs ((AtPlaces, l.name) ∷ calls_in machine.files old) (calls_in machine.files new) half.fault
      (λ refused. inl (file_then (calls_in machine.files old) ((AtPlaces, l.name) ∷ calls_in machine.files old) (calls_in machine.files new) ((AtPlaces, l.name) ∷ []) refl refused)) half.stops)
  lookups_reason l left result (inr (inr file)) =
      let why = Why (looked_left file.last file.handed) in
      left_so left (looked_left file.last file.handed) result file.are_last
      (flushed_whole why file.looks.mid new.output file.looks.answer result file.looks.flushed
      (left_lookups why (lookup_task l.word l.greatest machine.files.stores l.options) machine.files.feed input.feed (lookup_state file.inputs file.file old.output) (lookup_state file.handed file.last file.looks.mid) (λ rose. inl rose) file.looks.answer file.looks.leaves
      (some_any machine.files.feed input.feed file.handed.readers.items file.handed.shared)))

  tells_reason : (text : List ℕ) (left : Left F M I J) (result : Result Unit Fault) → Tells text old.output new.output result → Reasoned left result
  tells_reason text left (Ok done) h = tt
  tells_reason text left (Err f) h = subst (HasReason (Why left)) (sym h.err.0) tt

  pub command_reason : (w most : ℕ) (explained : Bool) (command : Asked) (left : Left F M I J) (result : Result Unit Fault) → Performs w most machine explained command input old new left result → IfCreate command (Reasoned left result) → Reasoned left result
  command_reason w most explained (asked.Query name key number lines wide) left result h create = query_reason _ left result h
  command_reason w most explained (asked.Lookups name inputs number style wide) left result h create = lookups_reason _ left result h
  command_reason w most explained (asked.Dump name style wide) left result h create = text_reason (record { word = w; name = name; form = dump_form style }) left result name refl h
  command_reason w most explained (asked.Listing name style wide) left result h create = text_reason (record { word = w; name = name; form = list_form style }) left result name refl h
  command_reason w most explained (asked.Stats name wide) left result h create = stats_reason w most name left result h
  command_reason w most explained (asked.Check name wide) left result h create = check_reason w most name left result h
  command_reason w most explained (asked.Difference first second wide) left result h create = difference_reason _ left result h
  command_reason w most explained (asked.Create name base inputs temporary options wide) left result h create = create
  command_reason w most explained asked.Help left result h create = tells_reason _ left result h.2
  command_reason w most explained asked.Version left result h create = tells_reason _ left result h.2

-- an output that was forwarded changes a fault into no other but its own
pub handed_reason : (why : Reasons) (end final : Option (List ℕ)) (unwritten : Type 0) (answer result : Result Unit Fault) → HandsOn end final unwritten answer result → IfErr answer (HasReason why) → IfErr result (HasReason why)
handed_reason why end final unwritten answer result h is = elim h.answered as (λ _. IfErr result (HasReason why)) [
  | inl same ↦ subst (λ r. IfErr r (HasReason why)) (sym same) is
  | inr failed ↦ subst (λ r. IfErr r (HasReason why)) (sym failed.1) tt
]
