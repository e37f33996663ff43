-- A query of the keys that inputs give comes to what the oracle says.
use Rattle.cdb_system.proofs.OutputTaken.{MayGiveUp}
use Rattle.cdb_system.proofs.Words.{AgreeInTurn, Agrees, AllByRecursion, AppendsPrefix, Cause, Err, Fault, Feed, Ghosts, IfSome, IsUnread, Keeps, Left, List, NameFault, None, Option, Result, Some, Standard, State, [], ap, append_assoc, files_of, head_size, inl, inputs_read, inr, length, names_in_turn, own_readers, plain_status, refl, subst, sym, true, unopened, ℕ, ◌++◌, ◌<◌, ◌∙◌, ◌∷◌, ◌≡◌, ◌≤◌}
use Rattle.cdb_names.specs.declared.name_fault.NameFault.TheVariants as why
use Rattle.cdb_form.specs.declared.text.fault.TextFault.TheVariants as text
use Rattle.cdb_read.specs.declared.fault.ReadFault.TheVariants as read
use Rattle.cdb_show.specs.Runs.Inputs.{keys_form}
use Rattle.cdb_show.specs.Runs.Parsing.{fault_in, stopped_parsing}
use Rattle.cdb_show.specs.Runs.Lookups.{Looked, records_asked, lookup_task}
use Rattle.cdb_show.specs.declared.fault.Fault.TheVariants.{Text, Read, Output, Open, NoMemory}
use Rattle.cdb_show.specs.Views.Noted.{shared_feed}
use Rattle.cdb_show.specs.declared.inputs.SharedWindow.TheVariants.{Unread}
use Rattle.cdb_show.specs.declared.runs.lookup_options.LookupOptions.{LookupOptions}
use Rattle.cdb_show.proofs.LookedUp.{IsLookupRefusal, LooksOrShort, lookups_asked}
use Rattle.cdb_system.specs.Answered.{IsAnswered, IsOfBytes, IsThere, Texts, stores_in, streams_in}
use Rattle.cdb_system.specs.Oracle.{Disk, Outcome, ended, inputs_of, lookups_outcome, of_file, of_inputs}
use Rattle.cdb_system.specs.Reading.{LooksUpFile, PerformsLookups, RefusesInputs}
use Rattle.cdb_system.specs.State.{WantedLookups}
use Rattle.cdb_system.specs.declared.open_trace.OpenCall.TheVariants.{AtPlaces, Unopened}
use Rattle.cdb_system.specs.declared.system.System.{Ghosts as Systems}
use Rattle.cdb_system.proofs.Coming.{Comes, EachAgrees, EachAnswered, IsSized, comes_so, gives_none, gives_up, long_is, nothing_written, of_shown, output_of, refused_so, short_is}
use Rattle.cdb_system.proofs.InputsKnown.{input_missing, missing_inputs, answered_before, files_of_each, in_turn_then, inputs_are, inputs_since, opened_since, opened_there, own_names, reached_agree}

-- ---- one was not

not_there : (file : Option (List ℕ)) → of_file file (λ bytes. ended plain_status [] (Err Open)) ≡ ended plain_status [] (Err Open)
not_there None = refl
not_there (Some bytes) = refl

inputs_missed : {F : Type 0} (s : Ghosts F) (disk : Disk) (stores : List F) (file : Option (List ℕ)) (files : Option (List (Option (List ℕ)))) (outcome : List ℕ → List (Option (List ℕ)) → Outcome) (name : List ℕ) (cause : NameFault) (found : Cause) (start end : Option (List ℕ))
    → IsAnswered s disk stores (Unopened cause found) name → (disk name ≡ None → files ≡ None) → Keeps start end → Comes true Texts plain_status (of_file file (λ bytes. of_inputs files (outcome bytes))) start end (Err (unopened cause))
inputs_missed s disk stores file files outcome name why.Failed found start end none missing k =
    comes_so true Texts plain_status _ [] start end (Err Open) (ap (λ f. of_file file (λ bytes. of_inputs f (outcome bytes))) (missing none) ∙ not_there file) (nothing_written start end k)
inputs_missed s disk stores file files outcome name why.NoMemory found start end none missing k = gives_none true Texts plain_status _ start end NoMemory tt k

inputs_refused : {F I J M N R Y : Type 0} (s : Ghosts F) (m : Ghosts M) (feed : I → Feed) (y : Systems Y F I M J N R) (name : List ℕ) (inputs : List (List ℕ)) (disk : Disk) (stores : List F) (outcome : List ℕ → List (Option (List ℕ)) → Outcome) (old new : State Y) (left : Left F M I J) (result : Result Unit Fault)
    → EachAnswered s disk stores (y.calls old.opened) (y.calls new.opened) → RefusesInputs (files_of s m feed y) name inputs old new left result → Comes true Texts plain_status (of_file (disk name) (λ bytes. of_inputs (inputs_of disk inputs) (outcome bytes))) old.output new.output result
inputs_refused s m feed y name inputs disk stores outcome old new left result answers h = elim h.stops.last [
  | inl memory ↦ subst (Comes true Texts plain_status _ old.output new.output) (sym (h.is ∙ ap (λ (f : Fault). Err f) memory.1)) (gives_none true Texts plain_status _ old.output new.output NoMemory tt h.kept)
  | inr missed ↦ (let stops = h.stops in
      let miss = missed.3.1 in
      let opened = opened_since y stops.opened stops.readers ((AtPlaces, name) ∷ y.calls old.opened) stops.mid stops.opens in
      let calls : y.calls new.opened ≡ ((Unopened miss.why miss.found, missed.0) ∷ (opened.since ++ (AtPlaces, name) ∷ [])) ++ y.calls old.opened =
      miss.calls ∙ ap (λ c. (Unopened miss.why miss.found, missed.0) ∷ c) (opened.are ∙ sym (append_assoc opened.since ((AtPlaces, name) ∷ []) (y.calls old.opened))) in
      let answered = (answers ((Unopened miss.why miss.found, missed.0) ∷ (opened.since ++ (AtPlaces, name) ∷ [])) calls).0 in
      subst (Comes true Texts plain_status _ old.output new.output) (sym (h.is ∙ ap (λ (f : Fault). Err f) miss.is))
      (inputs_missed s disk stores (disk name) (inputs_of disk inputs) outcome missed.0 miss.why miss.found old.output new.output answered
      (λ none. missing_inputs disk inputs stops.opened missed.0 missed.1 (stops.are ∙ ap (λ l. stops.opened ++ l) missed.2) (input_missing disk missed.0 missed.3.0 none)) h.kept))
]

-- ---- the run

may_refuse : (f : Fault) → IsLookupRefusal f → MayGiveUp true Texts f
may_refuse (Text n text.Input) h = refl
may_refuse (Text n text.Endless) h = refl
may_refuse Output h = refl
may_refuse NoMemory h = tt
may_refuse f h = absurd h

lookups_come : {F : Type 0} (w g : ℕ) (s : Ghosts F) (o : LookupOptions) (files : List (Option (List ℕ))) (input : List ℕ) (old last : F) (bytes : List ℕ) (start end : Option (List ℕ)) (result : Result Unit Fault) → length bytes ≡ s.size last → LooksOrShort w s (records_asked w g o files input bytes) old last start end result
    → Comes true Texts plain_status (lookups_outcome w g o files input bytes) start end result
lookups_come w g s o files input old last bytes start end result size h =
    let l : Looked = records_asked w g o files input bytes in
    elim h.comes [
      | inl none ↦ (let short = subst (λ n. n < head_size w) (sym (size ∙ ap s.size none.1.unread)) none.1.short in
          subst (Comes true Texts plain_status _ start end) (sym none.0)
          (comes_so true Texts plain_status _ [] start end (Err (Read read.Short)) (short_is w bytes _ _ short) (nothing_written start end none.1.kept)))
      | inr some ↦ (let long = subst (λ n. head_size w ≤ n) (sym size) some.0 in
          elim some.1 [
            | inl so ↦ comes_so true Texts plain_status _ l.text start end result (long_is w bytes _ _ long ∙ ap (ended plain_status l.text) (sym so.is)) so.written
            | inr not ↦ subst (Comes true Texts plain_status _ start end) (sym not.is)
                (gives_up true Texts plain_status _ start end not.fault (may_refuse not.fault not.refusal) (subst (λ o. AppendsPrefix start end o) (sym (ap (λ (o : Outcome). o.output) (long_is w bytes _ _ long) ∙ output_of plain_status l.text l.answer)) not.written))
          ])
    ]

-- the records of the keys of the inputs that were opened, of which the ones that were reached agree with their files
module _ {F I J M N R Y : Type 0} (feed : I → Feed) (s : Ghosts F) (m : Ghosts M) (y : Systems Y F I M J N R) (l : WantedLookups) (disk : Disk) (bytes : List ℕ) (input : Standard J) (old new : State Y) (left : Left F M I J) (result : Result Unit Fault) where
  looked_foretold : IsSized s → IsOfBytes disk bytes → IsUnread (input.feed input.reader) → EachAnswered s disk (stores_in left) (y.calls old.opened) (y.calls new.opened) → EachAgrees feed disk (streams_in left) (y.calls old.opened) (y.calls new.opened) → IfSome left.input (λ reader. Agrees (Some bytes) (input.feed reader))
      → LooksUpFile (files_of s m feed y) l input old new left result → Comes true Texts plain_status (of_file (disk l.name) (λ image. of_inputs (inputs_of disk l.inputs) (λ files. lookups_outcome l.word l.greatest l.options files bytes image))) old.output new.output result
  looked_foretold sized of_bytes unread answers agree standard looks =
      let opens = inputs_since y l.inputs looks.inputs.readers.items ((AtPlaces, l.name) ∷ y.calls old.opened) (y.calls new.opened) looks.opens in
      let since = opened_since y (inputs_read l.inputs) looks.inputs.readers.items ((AtPlaces, l.name) ∷ y.calls old.opened) (y.calls new.opened) opens in
      let calls = since.since ++ (AtPlaces, l.name) ∷ [] in
      let are : y.calls new.opened ≡ calls ++ y.calls old.opened = since.are ∙ sym (append_assoc since.since ((AtPlaces, l.name) ∷ []) (y.calls old.opened)) in
      let all = subst (λ k. EachAnswered s disk (stores_in k) (y.calls old.opened) (y.calls new.opened)) looks.are_last answers calls are in
      let shown = answered_before s disk (looks.last ∷ []) since.since ((AtPlaces, l.name) ∷ []) since.each all in
      let there = subst (AllByRecursion (λ name. IsThere (disk name))) since.in_turn (opened_there s disk (looks.last ∷ []) since.since ((AtPlaces, l.name) ∷ []) since.each all) in
      let k = files_of_each y disk (inputs_read l.inputs) looks.inputs.readers.items ((AtPlaces, l.name) ∷ y.calls old.opened) (y.calls new.opened) of_bytes.files opens there in
      let names : names_in_turn calls ≡ own_names (inputs_read l.inputs) looks.inputs.readers.items = in_turn_then since.since ((AtPlaces, l.name) ∷ []) ∙ since.in_turn in
      let streams = subst (λ ns. AgreeInTurn feed disk ns (own_readers looks.handed.readers.items)) names (subst (λ k. EachAgrees feed disk (streams_in k) (y.calls old.opened) (y.calls new.opened)) looks.are_last agree calls are) in
      let run = looks.looks.leaves in
      let first = reached_agree feed (shared_feed input.feed) (stopped_parsing (keys_form l.options.style) l.greatest (fault_in looks.looks.answer)) disk run.read run.stop (inputs_read l.inputs) looks.inputs.readers.items looks.handed.readers.items k.files (Unread looks.inputs.shared) run.are.window run.are.are k.of k.own streams in
      let agrees = subst (λ k. IfSome k.input (λ reader. Agrees (Some bytes) (input.feed reader))) looks.are_last standard in
      of_shown true Texts s plain_status (disk l.name) looks.last [] _ old.output new.output result shown.0
      (λ image is works. subst (λ f. Comes true Texts plain_status (of_inputs f (λ files. lookups_outcome l.word l.greatest l.options files bytes image)) old.output new.output result) (sym (inputs_are disk l.inputs ∙ k.are))
      (lookups_come l.word l.greatest s l.options k.files bytes looks.file looks.last image old.output new.output result (sized looks.last image is)
      (lookups_asked (lookup_task l.word l.greatest s l.options) feed input.feed looks.inputs looks.handed k.files bytes looks.file looks.last image old.output new.output result looks.looks looks.unread (subst (λ r. IsUnread (input.feed r)) (sym looks.shared) unread) k.long first
      (record { fit = of_bytes.standard; rest = agrees.0; may = agrees.1 }) is works)))

  pub lookups_foretold : IsSized s → IsOfBytes disk bytes → IsUnread (input.feed input.reader) → EachAnswered s disk (stores_in left) (y.calls old.opened) (y.calls new.opened) → EachAgrees feed disk (streams_in left) (y.calls old.opened) (y.calls new.opened) → IfSome left.input (λ reader. Agrees (Some bytes) (input.feed reader))
      → PerformsLookups (files_of s m feed y) l input old new left result → Comes true Texts plain_status (of_file (disk l.name) (λ image. of_inputs (inputs_of disk l.inputs) (λ files. lookups_outcome l.word l.greatest l.options files bytes image))) old.output new.output result
  lookups_foretold sized of_bytes unread answers agree standard (inl none) =
      refused_so true Texts s plain_status l.name disk (stores_in left) _ (y.calls old.opened) (y.calls new.opened) [] old.output new.output result refl answers none.1
  lookups_foretold sized of_bytes unread answers agree standard (inr (inl half)) =
      inputs_refused s m feed y l.name l.inputs disk (stores_in left) (λ image files. lookups_outcome l.word l.greatest l.options files bytes image) old new left result answers half
  lookups_foretold sized of_bytes unread answers agree standard (inr (inr looks)) = looked_foretold sized of_bytes unread answers agree standard looks
