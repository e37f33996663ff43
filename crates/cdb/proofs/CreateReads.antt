-- What a create reads, and what is looked up of its names, by the calls that were noted.
use Rattle.std.proofs.Common.{ℕ, Bool, List, [], ◌∷◌, ◌++◌, Option, Some, None, IfSome, Result, Ok, Err, ◌≡◌, ◌⊎◌, ◌∙◌, ap, inl, inr, refl, subst, sym, append_assoc, append-nil, option_map}
use Rattle.std.specs.Prelude.{unwrap_or}
use Rattle.cdb.proofs.Words.{AllByRecursion, AtEach, AtEachMoment, Fault, Feed, Ghosts, HandsBack, HonestCreate, Inputs, InputsTaken, LeavesAll, Left, MayHave, NameCalls, NameEvent, OpenCalls, Standard, append_cancel_right, files_of, inputs_taken, place_of, state_of}
use Rattle.cdb_names.specs.declared.answer.Answer.TheVariants as looks
use Rattle.cdb_names.specs.declared.name_trace.NameCall.TheVariants as name_call
use Rattle.cdb_show.specs.Feed.{IsUnread}
use Rattle.cdb_read.specs.declared.fault.ReadFault.TheVariants.{Device}
use Rattle.cdb_show.specs.declared.fault.Fault.TheVariants.{Read}
use Rattle.cdb.specs.Handing.{HandsInputs, OpensNone, OpensNoMore}
use Rattle.cdb.proofs.Agreeing.{InputsAgree}
use Rattle.cdb.proofs.Asks.{Asking, IsQuestion}
use Rattle.cdb.specs.Created.{base_in, base_of, head_fault, unless_refused}
use Rattle.cdb.specs.Creating.{LooksAtBase, OpensAll, SeesBase}
use Rattle.cdb_system.specs.Answered.{AreAnswered, IsThere, Shows, if_some, stores_before, stores_in, streams_in}
use Rattle.cdb_system.specs.Oracle.{Disk, inputs_of}
use Rattle.cdb_system.specs.Inputs.{inputs_read, OpensBase, OpensEach}
use Rattle.cdb_system.specs.State.{AgreeInTurn, Agrees, name_in_turn, names_in_turn, own_readers}
use Rattle.cdb_system.specs.declared.open_trace.OpenCall.{OpenCall}
use Rattle.cdb_system.specs.declared.open_trace.OpenCall.TheVariants.{AtPlaces, InTurn, Watched}
use Rattle.cdb_system.specs.declared.system.System.{Ghosts as Systems}
use Rattle.cdb.proofs.Replaced.{BaseHas}
use Rattle.cdb_system.proofs.InputsKnown.{OpenedSince, answered_before, files_of_each, in_turn_then, inputs_are, inputs_since, opened_since, opened_there, own_names}

shown : {F : Type 0} (s : Ghosts F) (file : Option (List ℕ)) (read : Option F) → Shows s file (if_some read) → (b : List ℕ) × (file ≡ Some b) × BaseHas s read (Some b)
shown s (Some b) (Some store) h = (b, refl, h.0)
shown s (Some b) None h = absurd h
shown s None read h = absurd h

-- all that is read
pub record AllKnown {F I J : Type 0} (s : Ghosts F) (w : ℕ) (disk : Disk) (base : Option (List ℕ)) (inputs : List (List ℕ)) (input : List ℕ) (read : Option F) (left : InputsTaken I J) : Type 0 where
  pub old : Option (List ℕ)
  pub base_is : base_of w disk base ≡ Ok old
  pub has : BaseHas s read old
  pub files : List (Option (List ℕ))
  pub are : inputs_of disk inputs ≡ Some files
  pub known : InputsAgree files input left

-- the bytes of a base that was opened, whose store is returned
base_shown : {F I J M N R Y : Type 0} (s : Ghosts F) (y : Systems Y F I M J N R) (disk : Disk) (name : List ℕ) (came : F) (read : Option F) (old new calls : OpenCalls) → OpensBase y (Some name) (Some came) old new → new ≡ calls ++ old → AreAnswered s disk calls (if_some read)
    → (b : List ℕ) × (disk name ≡ Some b) × BaseHas s read (Some b)
base_shown s y disk name came read old new calls opens e all =
    let only : calls ≡ (Watched, name) ∷ [] = append_cancel_right calls ((Watched, name) ∷ []) old (sym e ∙ opens.0) in
    shown s (disk name) read (subst (λ c. AreAnswered s disk c (if_some read)) only all).0

-- its head does not refuse it
base_passed : {F I J M N R Y : Type 0} (s : Ghosts F) (y : Systems Y F I M J N R) (w : ℕ) (disk : Disk) (base : Option (List ℕ)) (came file read : Option F) (old new calls : OpenCalls) → OpensBase y base came old new → SeesBase w s came file (Ok tt) → HandsBack s file read
    → new ≡ calls ++ old → AreAnswered s disk calls (if_some read) → (x : Option (List ℕ)) × (base_of w disk base ≡ Ok x) × BaseHas s read x
base_passed s y w disk None None None None old new calls opens sees hands e all = (None, refl, tt)
base_passed s y w disk (Some name) (Some came) (Some file) (Some read) old new calls opens sees hands e all =
    let is = base_shown s y disk name came (Some read) old new calls opens e all in
    let passes : head_fault w is.0 ≡ None = sees.ok is.0 (hands.images is.0 is.2) in
    (Some is.0, ap (base_in w) is.1 ∙ ap (λ fault. unless_refused fault is.0) passes, is.2)
base_passed s y w disk None None None (Some read) old new calls opens sees hands e all = absurd hands
base_passed s y w disk None None (Some file) read old new calls opens sees hands e all = absurd sees
base_passed s y w disk None (Some came) file read old new calls opens sees hands e all = absurd opens
base_passed s y w disk (Some name) None file read old new calls opens sees hands e all = absurd opens
base_passed s y w disk (Some name) (Some came) None read old new calls opens sees hands e all = absurd sees
base_passed s y w disk (Some name) (Some came) (Some file) None old new calls opens sees hands e all = absurd hands

-- or it does, or its store failed
base_stopped : {F I J M N R Y : Type 0} (s : Ghosts F) (y : Systems Y F I M J N R) (w : ℕ) (disk : Disk) (base : Option (List ℕ)) (came file : Option F) (old new calls : OpenCalls) (fault : Fault) → OpensBase y base came old new → SeesBase w s came file (Err fault)
    → new ≡ calls ++ old → AreAnswered s disk calls (if_some file) → (base_of w disk base ≡ Err fault) ⊎ (fault ≡ Read Device)
base_stopped s y w disk (Some name) (Some came) (Some file) old new calls fault opens sees e all =
    let is = base_shown s y disk name came (Some file) old new calls opens e all in
    elim sees.err [
      | inl refuses ↦ inl (ap (base_in w) is.1 ∙ ap (λ found. unless_refused found is.0) (refuses is.0 is.2))
      | inr failed ↦ inr failed.0
    ]
base_stopped s y w disk None None None old new calls fault opens sees e all = absurd (let no : ◌≡◌ {A = Result Unit Fault} (Err fault) (Ok tt) = sees in cc)
base_stopped s y w disk None None (Some file) old new calls fault opens sees e all = absurd sees
base_stopped s y w disk None (Some came) file old new calls fault opens sees e all = absurd opens
base_stopped s y w disk (Some name) None file old new calls fault opens sees e all = absurd opens
base_stopped s y w disk (Some name) (Some came) None old new calls fault opens sees e all = absurd sees

module _ {F I J M N R Y : Type 0} (s : Ghosts F) (m : Ghosts M) (feed : I → Feed) (y : Systems Y F I M J N R) (w : ℕ) (disk : Disk) (base : Option (List ℕ)) (file : Option F) (old new calls : OpenCalls) where
  pub base_known : (read : Option F) → LooksAtBase w (files_of s m feed y) base old new file (Ok tt) → HandsBack s file read → new ≡ calls ++ old → AreAnswered s disk calls (if_some read) → (x : Option (List ℕ)) × (base_of w disk base ≡ Ok x) × BaseHas s read x
  base_known read looks hands e all = base_passed s y w disk base looks.came file read old new calls looks.opens looks.sees hands e all

  pub base_refused : (fault : Fault) → LooksAtBase w (files_of s m feed y) base old new file (Err fault) → new ≡ calls ++ old → AreAnswered s disk calls (if_some file) → (base_of w disk base ≡ Err fault) ⊎ (fault ≡ Read Device)
  base_refused fault looks e all = base_stopped s y w disk base looks.came file old new calls fault looks.opens looks.sees e all

-- the call that opened it, which opened nothing in turn
pub record BaseSince (old new : OpenCalls) : Type 0 where
  pub since : OpenCalls
  pub are : new ≡ since ++ old
  pub in_turn : names_in_turn since ≡ []

pub base_since : {F I J M N R Y : Type 0} (y : Systems Y F I M J N R) (base : Option (List ℕ)) (file : Option F) (old new : OpenCalls) → OpensBase y base file old new → BaseSince old new
base_since y None None old new h = record { since = []; are = h; in_turn = refl }
base_since y (Some name) (Some file) old new h = record { since = (Watched, name) ∷ []; are = h.0; in_turn = refl }
base_since y (Some name) None old new h = absurd h
base_since y None (Some file) old new h = absurd h

-- ---- the calls before those that opened no more

stores_same : {F : Type 0} (call : OpenCall) (stores : List F) → OpensNone call → stores_before call stores ≡ stores
stores_same AtPlaces stores none = absurd none
stores_same Watched stores none = absurd none
stores_same InTurn stores none = absurd none
stores_same call stores none = refl

name_none : (call : OpenCall) (name : List ℕ) → OpensNone call → name_in_turn call name ≡ []
name_none AtPlaces name none = absurd none
name_none Watched name none = absurd none
name_none InTurn name none = absurd none
name_none call name none = refl

names_none : (since : OpenCalls) → AllByRecursion (λ c. OpensNone c.0) since → names_in_turn since ≡ []
names_none [] each = refl
names_none (c ∷ since) each = ap (λ names. names ++ name_in_turn c.0 c.1) (names_none since each.1) ∙ name_none c.0 c.1 each.0

answered_since : {F : Type 0} (s : Ghosts F) (disk : Disk) (stores : List F) (since calls : OpenCalls) → AllByRecursion (λ c. OpensNone c.0) since → AreAnswered s disk (since ++ calls) stores → AreAnswered s disk calls stores
answered_since s disk stores [] calls each h = h
answered_since s disk stores (c ∷ since) calls each h =
    answered_since s disk stores since calls each.1 (subst (λ l. AreAnswered s disk (since ++ calls) l) (stores_same c.0 stores each.0) h.1)

-- ---- the inputs

-- the bytes of the inputs, which agree with the readers that are returned
pub record InputsFound {I J : Type 0} (own : I → Feed) (shared : J → Feed) (disk : Disk) (inputs : List (List ℕ)) (input : List ℕ) (before after : Inputs I J) : Type 0 where
  pub files : List (Option (List ℕ))
  pub are : inputs_of disk inputs ≡ Some files
  pub agree : InputsAgree files input (inputs_taken own shared before after)

-- the readers of the files that were read in turn are those of the inputs
streams_are : {F I J M : Type 0} (inputs handed : Inputs I J) (left : Left F M I J) → HandsInputs inputs handed left → streams_in left ≡ own_readers handed.readers.items
streams_are inputs handed left h =
    ap (λ v. if_some v ++ own_readers (unwrap_or (option_map (λ readers. readers.items) left.inputs) [])) h.stream
    ∙ ap (λ v. own_readers (unwrap_or (option_map (λ readers. readers.items) v) [])) h.readers

module _ {F I J M N R Y : Type 0} (s : Ghosts F) (m : Ghosts M) (feed : I → Feed) (y : Systems Y F I M J N R) (disk : Disk) (input name : List ℕ) (base : Option (List ℕ)) (inputs : List (List ℕ)) (standard : Standard J) (old mid new : OpenCalls) (left : Left F M I J) (was now : NameCalls) (start end told said : Option (List ℕ)) (file : Option F) (before handed : Inputs I J)
    (w : ℕ) (honest : HonestCreate (files_of s m feed y) disk input name standard (state_of old was start told) (state_of new now end said) left) (opens : OpensAll w (files_of s m feed y) base inputs old mid file before.readers.items) (shared : before.shared ≡ standard.reader) (hands : HandsInputs before handed left) (more : OpensNoMore mid new) where
  at_base : BaseSince old opens.mid
  at_base = base_since y base opens.base_is.came old opens.mid opens.base_is.opens

  each_opens : OpensEach y (inputs_read inputs) before.readers.items opens.mid mid
  each_opens = inputs_since y inputs before.readers.items opens.mid mid opens.inputs_are

  at_inputs : OpenedSince (inputs_read inputs) before.readers.items opens.mid mid
  at_inputs = opened_since y (inputs_read inputs) before.readers.items opens.mid mid each_opens

  -- all calls on files
  calls_are : honest.calls ≡ more.since ++ (at_inputs.since ++ at_base.since)
  calls_are = append_cancel_right honest.calls (more.since ++ (at_inputs.since ++ at_base.since)) old
      (sym honest.are ∙ more.are ∙ ap (λ c. more.since ++ c) (at_inputs.are ∙ ap (λ c. at_inputs.since ++ c) at_base.are ∙ sym (append_assoc at_inputs.since at_base.since old)) ∙ sym (append_assoc more.since (at_inputs.since ++ at_base.since) old))

  answered_there : AreAnswered s disk (at_inputs.since ++ at_base.since) (stores_in left)
  answered_there = answered_since s disk (stores_in left) more.since (at_inputs.since ++ at_base.since) more.each (subst (λ c. AreAnswered s disk c (stores_in left)) calls_are honest.answered)

  names_are : names_in_turn honest.calls ≡ own_names (inputs_read inputs) before.readers.items
  names_are =
      ap names_in_turn calls_are ∙ in_turn_then more.since (at_inputs.since ++ at_base.since) ∙ ap (λ n. names_in_turn (at_inputs.since ++ at_base.since) ++ n) (names_none more.since more.each) ∙ append-nil (names_in_turn (at_inputs.since ++ at_base.since))
      ∙ in_turn_then at_inputs.since at_base.since ∙ ap (λ n. n ++ names_in_turn at_inputs.since) at_base.in_turn ∙ at_inputs.in_turn

  pub inputs_found : InputsFound feed standard.feed disk inputs input before handed
  inputs_found =
      let there = subst (AllByRecursion (λ name. IsThere (disk name))) at_inputs.in_turn (opened_there s disk (stores_in left) at_inputs.since at_base.since at_inputs.each answered_there) in
      let k = files_of_each y disk (inputs_read inputs) before.readers.items opens.mid mid honest.bytes.files each_opens there in
      let streams = subst (λ rs. AgreeInTurn feed disk (own_names (inputs_read inputs) before.readers.items) rs) (streams_are before handed left hands) (subst (λ ns. AgreeInTurn feed disk ns (streams_in left)) names_are honest.in_turn) in
      let agrees = subst (λ v. IfSome v (λ reader. Agrees (Some input) (standard.feed reader))) hands.shared honest.agrees in
      record {
        files = k.files;
        are = inputs_are disk inputs ∙ k.are;
        agree = record {
          disk = disk;
          names = inputs_read inputs;
          unread = opens.unread;
          none_read = subst (λ r. IsUnread (standard.feed r)) (sym shared) honest.unread;
          long = k.long;
          of = k.of;
          fit = k.own;
          agree = streams;
          shared_agrees = record { fit = honest.bytes.standard; rest = agrees.0; may = agrees.1 };
        };
      }

  -- and the base, if it is returned
  pub all_found : left.other ≡ None → HandsBack s file left.read → AllKnown s w disk base inputs input left.read (inputs_taken feed standard.feed before handed)
  all_found alone hands =
      let found = inputs_found in
      let answered = subst (λ l. AreAnswered s disk at_base.since l) (ap (λ v. if_some v ++ if_some left.read) alone) (answered_before s disk (stores_in left) at_inputs.since at_base.since at_inputs.each answered_there) in
      let x = base_known s m feed y w disk base file old opens.mid at_base.since left.read opens.base_is hands at_base.are answered in
      record {
        old = x.0;
        base_is = x.1;
        has = x.2;
        files = found.files;
        are = found.are;
        known = found.agree;
      }

-- ---- what was looked up of names

-- it leaves each name as it is
question_kept : (call : NameEvent) (calls : NameCalls) → IsQuestion call → (place : List ℕ → Bool) (first held : Option (List ℕ)) → MayHave place first (call ∷ calls) held → MayHave place first calls held
question_kept (name_call.Same said, one, two, file) calls is place first held h = h
question_kept (name_call.Input said, one, two, file) calls is place first held h = h
question_kept (name_call.Special said, one, two, file) calls is place first held h = absurd is
question_kept (name_call.Made asked, one, two, file) calls is place first held h = absurd is
question_kept (name_call.Removed, one, two, file) calls is place first held h = absurd is
question_kept (name_call.NotRemoved, one, two, file) calls is place first held h = absurd is
question_kept (name_call.Renamed len, one, two, file) calls is place first held h = absurd is
question_kept (name_call.NotRenamed len fault, one, two, file) calls is place first held h = absurd is
question_kept (name_call.Synced, one, two, file) calls is place first held h = absurd is
question_kept (call, one, two, file) calls is place first held h = absurd is

questions_kept : (since was : NameCalls) → AllByRecursion IsQuestion since → (place : List ℕ → Bool) (first held : Option (List ℕ)) → MayHave place first (since ++ was) held → MayHave place first was held
questions_kept [] was all place first held h = h
questions_kept (call ∷ since) was all place first held h = questions_kept since was all.1 place first held (question_kept call (since ++ was) all.0 place first held h)

pub asked_kept : (was now : NameCalls) → Asking was now → (place : List ℕ → Bool) (first held : Option (List ℕ)) → MayHave place first now held → MayHave place first was held
asked_kept was now a place first held h = questions_kept a.since was a.each place first held (subst (λ c. MayHave place first c held) a.are h)

-- so a crash leaves what each name had
leaves_first : (disk after : Disk) (out : Option (List ℕ)) (since : NameCalls) → AllByRecursion IsQuestion since → LeavesAll disk out after (since ++ [])
leaves_first disk after out since all = λ other held not_out may. inl (questions_kept since [] all (place_of other) (disk other) held may)

each_first : (disk after : Disk) (out : Option (List ℕ)) (since : NameCalls) → AllByRecursion IsQuestion since → AtEach (LeavesAll disk out after) since []
each_first disk after out [] all = leaves_first disk after out [] all
each_first disk after out (call ∷ since) all = (leaves_first disk after out (call ∷ since) all, each_first disk after out since all.1)

pub moments_first : (disk after : Disk) (out : Option (List ℕ)) (was now : NameCalls) → was ≡ [] → Asking was now → AtEachMoment (LeavesAll disk out after) was now
moments_first disk after out was now first a = record {
  since = a.since;
  calls = a.are;
  each = subst (λ c. AtEach (LeavesAll disk out after) a.since c) (sym first) (each_first disk after out a.since a.each);
}
