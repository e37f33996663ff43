-- That a replacement which fails has its reason in the calls on names, or in the file that was built.
use Rattle.cdb.proofs.Words.{Answer, BuilderTells, Err, Fault, IfErr, List, NameCalls, NameEvent, NameFault, Ok, Option, ReplaceFault, Result, [], answer_of, ap, append_assoc, arith, inl, inr, refl, subst, sym, ℕ, ⊤, ◌++◌, ◌∙◌, ◌∷◌, ◌≡◌, ◌≢◌, ◌⊎◌}
use Rattle.std.proofs.Common.{Bool, None, Some, true, true≢false}
use Rattle.cdb_names.specs.Replacing.{BuilderAnswers, EndsIn, FailsRename, FailsToBuild, IsNoName, IsNotGiven, IsOfBuilder, IsStop, IsUndone, LacksBits, StopsMaking, StopsUnbuilt}
use Rattle.cdb_names.specs.declared.answer.Answer.TheVariants as answer
use Rattle.cdb_names.specs.declared.answer.Found.TheVariants as found
use Rattle.cdb_names.specs.declared.answer.Lock.TheVariants as locking
use Rattle.cdb_names.specs.declared.name_fault.NameFault.TheVariants as name_fault
use Rattle.cdb_names.specs.declared.name_trace.NameCall.TheVariants as call
use Rattle.cdb_names.specs.declared.replace.ReplaceFault.TheVariants as replace
use Rattle.cdb_names.specs.Wanted.{wanted_bits}
use Rattle.cdb_show.specs.declared.fault.Fault.TheVariants.{Open, Rename}
use Rattle.cdb_store.specs.FileStore.{failures_of}
use Rattle.cdb_store.specs.declared.raw.RawFile.{Ghosts as Raw}
use Rattle.cdb_store.specs.declared.trace.Call.TheVariants as file_call
use Rattle.cdb.specs.Created.{is_read}
use Rattle.cdb.specs.Creating.{FindsOne, IsCaused, LooksFor, files_read}
use Rattle.cdb.specs.Reasons.{HasFailedFile, HasReason, HasRefusedName, Reasons, RefusesName}
use Rattle.cdb.proofs.Asks.{SayEach, say_read}
use Rattle.cdb.proofs.Reasons.{with_made}

-- ---- a call that refused a name

pub name_then : (old mid new more : NameCalls) → mid ≡ more ++ old → HasRefusedName mid new → HasRefusedName old new
name_then old mid new more e h = record {
  stop = h.stop;
  before = h.before;
  since = (h.since.0 ++ more, h.since.1 ∙ ap (λ c. h.since.0 ++ c) e ∙ sym (append_assoc h.since.0 more old));
  later = h.later;
  are = h.are;
  refuses = h.refuses;
}

newest : (old new : NameCalls) (stop : NameEvent) → RefusesName stop → new ≡ stop ∷ old → HasRefusedName old new
newest old new stop refuses e = record { stop = stop; before = old; since = ([], refl); later = []; are = e; refuses = refuses }

-- ---- a file that is read may be the one of the name

refused : (each : List (Answer → NameEvent)) (is : Bool) (was now : NameCalls) → SayEach each is → LooksFor each true was now → HasRefusedName was now
refused [] is was now none (missed, e) = absurd (true≢false missed)
refused (asks ∷ more) is was now (one, rest, e, says, say) (inl other) = name_then was (asks answer.No ∷ was) now (asks answer.No ∷ []) refl (refused more rest (asks answer.No ∷ was) now say other)
refused (asks ∷ more) is was now (one, rest, e, says, say) (inr (said, isnt, met, at)) = newest was now (asks said) (says.refuses said isnt) at

pub finds_one : (name : List ℕ) (base : Option (List ℕ)) (inputs : List (List ℕ)) (was now : NameCalls) → FindsOne name base inputs was now → HasRefusedName was now
finds_one name base inputs was now h = refused (files_read name base inputs) (is_read name base inputs) was now (say_read name base inputs) h

pub failed_then : {R : Type 0} (r : Raw R) (old mid new more : NameCalls) → mid ≡ more ++ old → HasFailedFile r mid new → HasFailedFile r old new
failed_then r old mid new more e h =
    let clears = h.cleared in
    record {
      name = h.name;
      store = h.store;
      failed = h.failed;
      cleared = (clears.0, (clears.1.0 ++ more, clears.1.1 ∙ ap (λ c. clears.1.0 ++ c) e ∙ sym (append_assoc clears.1.0 more old)), clears.2);
    }

-- ---- the calls at which a replacement stops

stop_refuses : (temporary name : List ℕ) (old : NameCalls) (stop : NameEvent) (before : NameCalls) → IsStop temporary name old stop before → RefusesName stop
stop_refuses temporary name old (call.Special answer.Unknown, one, other, file) before h = tt
stop_refuses temporary name old (call.Bits None, one, other, file) before h = tt
stop_refuses temporary name old (call.Same answer.Yes, one, other, file) before h = tt
stop_refuses temporary name old (call.Same answer.Unknown, one, other, file) before h = tt
stop_refuses temporary name old (call.Looked found.Other, one, other, file) before h = tt
stop_refuses temporary name old (call.Looked found.Unknown, one, other, file) before h = tt
stop_refuses temporary name old (call.NotOpened name_fault.Failed, one, other, file) before h = tt
stop_refuses temporary name old (call.Locked locking.Held, one, other, file) before h = tt
stop_refuses temporary name old (call.NotMade name_fault.Failed, one, other, file) before h = tt
stop_refuses temporary name old stop before h = absurd h

undone_refuses : (temporary name : List ℕ) (stop : NameEvent) → IsUndone temporary name stop → RefusesName stop
undone_refuses temporary name (call.Seen None, one, other, file) h = tt
undone_refuses temporary name (call.Own answer.No, one, other, file) h = tt
undone_refuses temporary name (call.Own answer.Unknown, one, other, file) h = tt
undone_refuses temporary name (call.Same answer.Yes, one, other, file) h = tt
undone_refuses temporary name (call.Same answer.Unknown, one, other, file) h = tt
undone_refuses temporary name stop h = absurd h

stops_making : (temporary name : List ℕ) (old new : NameCalls) → StopsMaking temporary name old new → HasRefusedName old new
stops_making temporary name old new (stop, before, since, how) = elim how [
  | inl (is, e) ↦ record { stop = stop; before = before; since = since; later = []; are = e; refuses = stop_refuses temporary name old stop before is }
  | inr (is, gone) ↦ record { stop = stop; before = before; since = since; later = (gone.0, temporary, [], (file_call.Made, []) ∷ []) ∷ []; are = gone.2; refuses = undone_refuses temporary name stop is }
]

bits_not_given : (temporary name : List ℕ) (old new : NameCalls) (bits : ℕ) (seen : NameEvent) (before later : NameCalls) → IsNotGiven temporary name bits old before → new ≡ later ++ seen ∷ before → HasRefusedName old new
bits_not_given temporary name old new bits seen before later (held, wanted, given, first, goes, bad, asked) e = record {
  stop = (call.Set (wanted_bits wanted), temporary, [], given);
  before = (call.Bits (Some held), name, [], []) ∷ first;
  since = ((call.Bits (Some held), name, [], []) ∷ goes.0, ap (λ c. (call.Bits (Some held), name, [], []) ∷ c) goes.1);
  later = later ++ seen ∷ [];
  are = e ∙ ap (λ c. later ++ seen ∷ c) asked ∙ sym (append_assoc later (seen ∷ []) ((call.Set (wanted_bits wanted), temporary, [], given) ∷ (call.Bits (Some held), name, [], []) ∷ first));
  refuses = tt;
}

lacks_bits : (temporary name : List ℕ) (old new : NameCalls) (stop : NameEvent) (before later : NameCalls) → (since : NameCalls) × (before ≡ since ++ old) → LacksBits temporary name old stop before → new ≡ later ++ stop ∷ before → HasRefusedName old new
lacks_bits temporary name old new (call.Bits None, one, other, file) before later since h e = record { stop = (call.Bits None, one, other, file); before = before; since = since; later = later; are = e; refuses = tt }
lacks_bits temporary name old new (call.Seen None, one, other, file) before later since h e = record { stop = (call.Seen None, one, other, file); before = before; since = since; later = later; are = e; refuses = tt }
lacks_bits temporary name old new (call.Seen (Some shown), one, other, file) before later since (is, not_given) e =
    bits_not_given temporary name old new shown.bits (call.Seen (Some shown), one, other, file) before later not_given e
lacks_bits temporary name old new stop before later since h e = absurd h

fails_rename : (temporary name : List ℕ) (old new : NameCalls) (k : NameFault) → FailsRename temporary name old new k → HasRefusedName old new
fails_rename temporary name old new k (len, file, before, since, gone) = record { stop = (call.NotRenamed len k, temporary, name, file); before = before; since = since; later = (gone.0, temporary, [], file) ∷ []; are = gone.2; refuses = tt }

-- ---- the fault of a replacement

err_eq : {f g : ReplaceFault Fault} → ◌≡◌ {A = Result Unit (ReplaceFault Fault)} (Err f) (Err g) → f ≡ g
err_eq e = cc

of_builder : (P : Fault → Type 0) (f : Fault) (built : Result Unit Fault) → BuilderAnswers built (Err (replace.Build f)) → IfErr built P → P f
of_builder P f (Ok done) answers h = absurd answers
of_builder P f (Err e) answers h = subst P (let same : e ≡ f = cc in same) h

module _ {R : Type 0} (r : Raw R) (temporary name : List ℕ) (old new : NameCalls) (why : Reasons) (nameless : (IsNoName name ⊎ (temporary ≡ name)) → why.name) (refused : HasRefusedName old new → why.name) (unmade : HasFailedFile r old new → why.made) where
  open_reason : EndsIn {E = Fault} temporary name old new replace.Open → why.name
  open_reason (inl (inl (same, none))) = nameless none
  open_reason (inl (inr stops)) = refused (stops_making temporary name old new stops)
  open_reason (inr (stop, before, since, lacks, cleared)) = refused (lacks_bits temporary name old new stop before ((cleared.1.0, temporary, [], cleared.0) ∷ []) since lacks cleared.1.2)

  rename_reason : EndsIn {E = Fault} temporary name old new replace.Rename → why.name
  rename_reason (inl e) = refused (newest old new _ tt e)
  rename_reason (inr fails) = refused (fails_rename temporary name old new name_fault.Failed fails)

  module _ {B T : Type 0} (gives_up : B → Type 0) (tells : B → T → T → (List ℕ → Type 0) → Result Unit Fault → Type 0) (back : B) (told said : T) (reads : (images : List ℕ → Type 0) (built : Result Unit Fault) → tells back told said images built → IfErr built (HasReason (record why { made = ⊤ }))) where
    unwritten : BuilderTells r gives_up tells temporary name old new back told said (Err replace.Write) → why.made
    unwritten (inl none) = absurd (subst (StopsUnbuilt temporary name old new) (sym (err_eq none.is)) none.stops)
    unwritten (inr some) = unmade (record { name = temporary; store = some.sealed; failed = (let rose = some.unsynced refl in omega (arith, rose)); cleared = some.cleared })

    unbuilt : (f : Fault) → FailsToBuild {file = r} (λ store left fault. IsCaused fault (failures_of store) (failures_of left)) temporary old new f → BuilderTells r gives_up tells temporary name old new back told said (Err (replace.Build f)) → HasReason why f
    unbuilt f fails (inl none) = absurd (subst (StopsUnbuilt temporary name old new) (sym (err_eq none.is)) none.stops)
    unbuilt f fails (inr some) =
        with_made (record why { made = ⊤ }) why.made f (of_builder (HasReason (record why { made = ⊤ })) f some.built some.answers (reads _ some.built some.tells_so))
        (λ is. unmade (record { name = temporary; store = fails.left; failed = (let rose = fails.why.0 is in omega (arith, rose)); cleared = fails.cleared }))

    pub replaced_reason : (result : Result Unit (ReplaceFault Fault)) → IfErr result (EndsIn temporary name old new) → IfErr result (IsOfBuilder (FailsToBuild {file = r} (λ store left fault. IsCaused fault (failures_of store) (failures_of left)) temporary old new))
        → BuilderTells r gives_up tells temporary name old new back told said result → IfErr (answer_of result) (HasReason why)
    replaced_reason (Ok done) ends build h = tt
    replaced_reason (Err replace.Open) ends build h = open_reason ends
    replaced_reason (Err replace.NoMemory) ends build h = tt
    replaced_reason (Err replace.Rename) ends build h = rename_reason ends
    replaced_reason (Err replace.Write) ends build h = unwritten h
    replaced_reason (Err (replace.Build f)) ends build h = unbuilt f build h
