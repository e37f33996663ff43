-- That a fault has its reason: of a run over what a create read, of a name, and of a command that only reads.
use Rattle.cdb.proofs.Words.{Answer, Err, Fault, Feed, Ghosts, IfErr, InputReader, List, NameFault, None, Ok, OnErr, OpenCalls, Option, Result, SeesName, Some, Sources, Syncs, [], ap, append_assoc, arith, inl, inr, refl, subst, sym, ℕ, ⊤, ◌++◌, ◌<◌, ◌∙◌, ◌∷◌, ◌≡◌, ◌⊎◌}
use Rattle.std.proofs.lemmas.Result.{IfErr-weaker}
use Rattle.cdb_show.specs.Feed.{SomeFailed}
use Rattle.cdb_show.specs.declared.input_reader.InputReader.TheVariants.{Own, Shared}
use Rattle.cdb_form.specs.declared.text.fault.TextFault.TheVariants as text
use Rattle.cdb_form.specs.declared.walk.fault.WalkFault.TheVariants as walk
use Rattle.cdb_names.specs.declared.answer.Answer.TheVariants as looks
use Rattle.cdb_names.specs.declared.name_fault.NameFault.TheVariants as why
use Rattle.cdb_names.specs.declared.answer.Lock.TheVariants.{Held}
use Rattle.cdb_read.specs.declared.fault.ReadFault.TheVariants as read
use Rattle.cdb_show.specs.Runs.Inputs.{InputForm}
use Rattle.cdb_show.specs.Runs.Parsing.{IsFaultOf}
use Rattle.cdb_show.specs.declared.fault.Fault.TheVariants.{Make, New, Old, Open, Output, Read, Rename, Text, Walk}
use Rattle.cdb_store.specs.declared.make_fault.MakeFault.TheVariants as make
use Rattle.cdb_system.specs.Answered.{if_some}
use Rattle.cdb_system.specs.State.{Files, own_readers}
use Rattle.cdb_system.specs.Inputs.{MissesBase, OpensBase, StopsOpening, inputs_read}
use Rattle.cdb_system.specs.Opening.{Empties, Misses, MissesEmptying, named_as, unopened}
use Rattle.cdb_system.specs.declared.open_trace.OpenCall.TheVariants.{Emptied, Locked, Own as OwnName, ToEmpty, Unopened}
use Rattle.cdb_system.specs.declared.system.System.{Ghosts as Systems}
use Rattle.cdb_system.proofs.InputsKnown.{inputs_since, opened_since}
use Rattle.cdb_tool.specs.Runs.Make.{BaseHasFailed, IsOfBase, IsOfStore}
use Rattle.cdb.specs.Creating.{HasCauseInStore, OpensAll}
use Rattle.cdb.specs.Reasons.{AnyFailed, AnyStoreFailed, HasReason, HasRefusedFile, Reasons, run_reasons}
use Rattle.cdb.proofs.CreateReads.{base_since}

-- ---- one reason gives another

pub reason_weaker : (a b : Reasons) → (a.reader → b.reader) → (a.store → b.store) → (a.made → b.made) → (a.name → b.name) → (f : Fault) → HasReason a f → HasReason b f
reason_weaker a b r s m n (Text i text.Input) h = r h
reason_weaker a b r s m n (Walk walk.Input) h = r h
reason_weaker a b r s m n (Read read.Device) h = s h
reason_weaker a b r s m n (Old read.Device) h = s h
reason_weaker a b r s m n (New read.Device) h = s h
reason_weaker a b r s m n (Make make.Writing) h = m h
reason_weaker a b r s m n (Make make.Lookup) h = m h
reason_weaker a b r s m n Open h = n h
reason_weaker a b r s m n Rename h = n h
reason_weaker a b r s m n f h = tt

pub each_weaker : (a b : Reasons) (result : Result Unit Fault) → (a.reader → b.reader) → (a.store → b.store) → (a.made → b.made) → (a.name → b.name) → IfErr result (HasReason a) → IfErr result (HasReason b)
each_weaker a b result r s m n h = IfErr-weaker result (HasReason a) (HasReason b) (reason_weaker a b r s m n) h

-- why what is made failed, if that is known
pub with_made : (a : Reasons) (M : Type 0) (f : Fault) → HasReason a f → (IsOfStore f → M) → HasReason (record a { made = M }) f
with_made a M (Make make.Writing) h made = made tt
with_made a M (Make make.Lookup) h made = made tt
with_made a M f h made = h

-- an output that failed is its own
pub output_reason : (P : Type 0) (r : Reasons) (result : Result Unit Fault) → IfErr result (λ fault. (fault ≡ Output) × P) → IfErr result (HasReason r)
output_reason P r (Ok done) h = tt
output_reason P r (Err f) h = subst (HasReason r) (sym h.0) tt

-- ---- a run

-- a reader of the inputs is one of those that are returned
pub some_any : {R S : Type 0} (own : R → Feed) (shared : S → Feed) (readers : List (InputReader R)) (it : S) → SomeFailed own shared readers it → AnyFailed own (own_readers readers) ⊎ AnyFailed shared (it ∷ [])
some_any own shared [] it h = inr (inl h)
some_any own shared (Own reader ∷ readers) it (inl h) = inl (inl h)
some_any own shared (Shared ∷ readers) it (inl h) = inr (inl h)
some_any own shared (Own reader ∷ readers) it (inr h) = elim (some_any own shared readers it h) [ inl one ↦ inl (inr one) | inr one ↦ inr one ]
some_any own shared (Shared ∷ readers) it (inr h) = some_any own shared readers it h

base_failed : {F : Type 0} (s : Ghosts F) (was back : Option F) → BaseHasFailed s was back → AnyStoreFailed s (if_some back)
base_failed s (Some old) (Some new) h = inl (omega (arith, h))
base_failed s None back h = absurd h
base_failed s (Some old) None h = absurd h

module _ {F J I : Type 0} (s : Ghosts F) (own : J → Feed) (shared : I → Feed) (was : Option F) (back : Sources F J I) (made : Type 0) where
  run_fault : (form : InputForm) (i : ℕ) (f : Fault) → IsFaultOf form i (SomeFailed own shared back.inputs.readers.items back.inputs.shared) f → (IsOfStore f → made) → (IsOfBase f → BaseHasFailed s was back.base) → HasReason (run_reasons s own shared back made ⊥) f
  run_fault form i (Text n text.Input) of_input store base = of_input.failed n refl
  run_fault form i (Read read.Device) of_input store base = base_failed s was back.base (base tt)
  run_fault form i (Make make.Writing) of_input store base = store tt
  run_fault form i (Make make.Lookup) of_input store base = store tt
  run_fault form i Open of_input store base = absurd of_input.of_run
  run_fault form i Rename of_input store base = absurd of_input.of_run
  run_fault form i (Walk f) of_input store base = absurd of_input.of_run
  run_fault form i (Old f) of_input store base = absurd of_input.of_run
  run_fault form i (New f) of_input store base = absurd of_input.of_run
  run_fault form i f of_input store base = tt

  pub run_reason : (form : InputForm) (i : ℕ) (result : Result Unit Fault) → IfErr result (IsFaultOf form i (SomeFailed own shared back.inputs.readers.items back.inputs.shared)) → IfErr result (λ f. IsOfStore f → made) → IfErr result (λ f. IsOfBase f → BaseHasFailed s was back.base)
      → IfErr result (HasReason (run_reasons s own shared back made ⊥))
  run_reason form i (Ok done) of_input store base = tt
  run_reason form i (Err f) of_input store base = run_fault form i f of_input store base

-- in a store that was flushed then, if it is left so
module _ {F J I M : Type 0} (s : Ghosts F) (own : J → Feed) (shared : I → Feed) (back : Sources F J I) (m : Ghosts M) (store built last : M) where
  abbrev Kept : Result Unit Fault → Type 0
  Kept result = IfErr result (HasReason (run_reasons s own shared back (AnyStoreFailed m (last ∷ [])) ⊥))

  kept_reason : (result : Result Unit Fault) → HasCauseInStore m store built result → OnErr result (last ≡ built) → IfErr result (HasReason (run_reasons s own shared back ⊤ ⊥)) → Kept result
  kept_reason (Ok done) cause kept h = tt
  kept_reason (Err f) cause kept h =
      with_made (run_reasons s own shared back ⊤ ⊥) (AnyStoreFailed m (last ∷ [])) f h
      (λ is. inl (let rose : m.failures store < m.failures built = cause.0 is in let same : m.failures last ≡ m.failures built = ap m.failures kept in omega (arith, rose, same)))

  pub synced_reason : (result synced : Result Unit Fault) → HasCauseInStore m store built result → Syncs m built last result synced → IfErr result (HasReason (run_reasons s own shared back ⊤ ⊥)) → Kept synced
  synced_reason result synced cause syncs h = elim syncs.answered as (λ _. Kept synced) [
    | inl same ↦ subst Kept (sym same) (kept_reason result cause syncs.kept h)
    | inr failed ↦ subst Kept (sym failed.1) (inl (let rose : m.failures built < m.failures last = failed.2 in omega (arith, rose)))
  ]

-- ---- a file that was not opened or emptied

-- by calls that began later
pub file_then : (old mid new more : OpenCalls) → mid ≡ more ++ old → HasRefusedFile mid new → HasRefusedFile old new
file_then old mid new more e h = record {
  call = h.call;
  name = h.name;
  since = h.since ++ more;
  are = h.are ∙ ap (λ c. (h.call, h.name) ∷ c) (ap (λ c. h.since ++ c) e ∙ sym (append_assoc h.since more old));
  refuses = h.refuses;
}

unopened_reason : (r : Reasons) (k : NameFault) (P : Type 0) → P → (P → r.name) → HasReason r (unopened k)
unopened_reason r why.Failed P is named = named is
unopened_reason r why.NoMemory P is named = tt

pub missed_reason : (r : Reasons) (name : List ℕ) (old new : OpenCalls) (fault : Fault) → (HasRefusedFile old new → r.name) → Misses name old new fault → HasReason r fault
missed_reason r name old new fault named h =
    subst (HasReason r) (sym h.is) (unopened_reason r h.why (HasRefusedFile old new) (record { call = Unopened h.why h.found; name = name; since = []; are = h.calls; refuses = tt }) named)

-- the file of the name was lost, or the system did not say whether it has it
lost_reason : (r : Reasons) (name : List ℕ) (since old new : OpenCalls) (answer : Answer) (result : Result Unit Fault) → (HasRefusedFile old new → r.name) → new ≡ (OwnName answer, name) ∷ (since ++ old) → result ≡ named_as answer → IfErr result (HasReason r)
lost_reason r name since old new looks.Yes result named e is = subst (λ x. IfErr x (HasReason r)) (sym is) tt
lost_reason r name since old new looks.No result named e is = subst (λ x. IfErr x (HasReason r)) (sym is) (named (record { call = OwnName looks.No; name = name; since = since; are = e; refuses = tt }))
lost_reason r name since old new looks.Unknown result named e is = subst (λ x. IfErr x (HasReason r)) (sym is) (named (record { call = OwnName looks.Unknown; name = name; since = since; are = e; refuses = tt }))

pub emptying_reason : (r : Reasons) (name : List ℕ) (old new : OpenCalls) (fault : Fault) → (HasRefusedFile old new → r.name) → MissesEmptying name old new fault → HasReason r fault
emptying_reason r name old new fault named (inl misses) = missed_reason r name old new fault named misses
emptying_reason r name old new fault named (inr (inl held)) =
    subst (HasReason r) (sym held.0) (named (record { call = Locked Held; name = name; since = (ToEmpty, name) ∷ []; are = held.1; refuses = tt }))
emptying_reason r name old new fault named (inr (inr (inl (answer, asks, is)))) =
    lost_reason r name ((Locked asks.lock, name) ∷ (ToEmpty, name) ∷ []) old new answer (Err fault) named asks.calls (sym is)
emptying_reason r name old new fault named (inr (inr (inr (locked, takes, misses)))) =
    missed_reason r name locked new fault (λ refused. named (file_then old locked new ((OwnName looks.Yes, name) ∷ (Locked takes.lock, name) ∷ (ToEmpty, name) ∷ []) takes.calls refused)) misses

-- it has it to the end
pub seen_reason : (r q : Reasons) (name : List ℕ) (old emptied new : OpenCalls) (synced result : Result Unit Fault) → (HasRefusedFile old new → q.name) → Empties name old emptied → SeesName name emptied new synced result → (IfErr synced (HasReason r) → IfErr synced (HasReason q)) → IfErr synced (HasReason r) → IfErr result (HasReason q)
seen_reason r q name old emptied new (Ok done) result named empties (answer, calls, is) on h =
    let takes = empties.takes in
    lost_reason q name ((Emptied, name) ∷ (OwnName looks.Yes, name) ∷ (Locked takes.lock, name) ∷ (ToEmpty, name) ∷ []) old new answer result named
    (calls ∙ ap (λ c. (OwnName answer, name) ∷ c) (empties.calls ∙ ap (λ c. (Emptied, name) ∷ c) takes.calls)) is
seen_reason r q name old emptied new (Err fault) result named empties (same, is) on h = subst (λ x. IfErr x (HasReason q)) (sym is) (on h)

-- ---- what is read was not opened

pub base_missed : (r : Reasons) (base : Option (List ℕ)) (old new : OpenCalls) (fault : Fault) → (HasRefusedFile old new → r.name) → MissesBase base old new fault → HasReason r fault
base_missed r (Some name) old new fault named h = missed_reason r name old new fault named h
base_missed r None old new fault named h = absurd h

pub inputs_missed : {F I J M N R Y : Type 0} (y : Systems Y F I M J N R) (r : Reasons) (names : List (List ℕ)) (old new : OpenCalls) (fault : Fault) → (HasRefusedFile old new → r.name) → StopsOpening y names old new fault → HasReason r fault
inputs_missed y r names old new fault named h =
    let opened = opened_since y h.opened h.readers old h.mid h.opens in
    elim h.last [
      | inl lacks ↦ subst (HasReason r) (sym lacks.1) tt
      | inr missed ↦ missed_reason r missed.0 h.mid new fault (λ refused. named (file_then old h.mid new opened.since opened.are refused)) missed.3.1
    ]

-- after the base was opened
pub inputs_missed_behind : {F I J M N R Y : Type 0} (y : Systems Y F I M J N R) (r : Reasons) (base : Option (List ℕ)) (file : Option F) (names : List (List ℕ)) (old mid new : OpenCalls) (fault : Fault) → (HasRefusedFile old new → r.name) → OpensBase y base file old mid → StopsOpening y names mid new fault → HasReason r fault
inputs_missed_behind y r base file names old mid new fault named opens h =
    let since = base_since y base file old mid opens in
    inputs_missed y r names mid new fault (λ refused. named (file_then old mid new since.since since.are refused)) h

-- all that is read was opened
pub all_opened : {F I J M N R Y : Type 0} (w : ℕ) (files : Files F I J M N R Y) (base : Option (List ℕ)) (inputs : List (List ℕ)) (old new : OpenCalls) (file : Option F) (readers : List (InputReader I)) → OpensAll w files base inputs old new file readers → (more : OpenCalls) × (new ≡ more ++ old)
all_opened w files base inputs old new file readers h =
    let first = base_since files.system base h.base_is.came old h.mid h.base_is.opens in
    let rest = opened_since files.system (inputs_read inputs) readers h.mid new (inputs_since files.system inputs readers h.mid new h.inputs_are) in
    (rest.since ++ first.since, rest.are ∙ ap (λ c. rest.since ++ c) first.are ∙ sym (append_assoc rest.since first.since old))
