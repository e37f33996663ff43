-- What a query of the keys of some inputs came to, by the readers of the inputs as they come back.
use Rattle.cdb_show.proofs.Words.{Appends, AppendsPrefix, Bool, Change, Err, Fault, Feed, Ghosts, HasLooked, Inputs, List, LookupState, LookupTask, LookupsStopAt, NoMore, None, NotBegun, OnlyReads, OpeningFails, Option, Parsing, ReadFault, Result, Stop, TextFault, [], ap, append-nil, append_assoc, appends_then, arith, end_of, false, fault_in, head_size, inl, inr, keys_of, keys_of_each, length, looked_up, lookup_state, missing_answer, nothing_taken, prefix_last, read_fault, reads_more, reads_none, refl, stop_of, subst, sym, true, ℕ, ◌++◌, ◌+◌, ◌∙◌, ◌∷◌, ◌≡◌, ◌≤◌}
use Rattle.cdb_read.specs.declared.fault.ReadFault.TheVariants as damage
use Rattle.cdb_form.specs.declared.text.fault.TextFault.TheVariants as kind
use Rattle.cdb_form.specs.declared.width.Width.{Ghosts as Widths}
use Rattle.cdb_show.specs.Feed.{SomeFailed}
use Rattle.cdb_show.specs.Runs.InputTask.{DoesAll, DoesEach, Progress, StopsAmid, StopsOrNot, parsing_of}
use Rattle.cdb_show.specs.Runs.Lookups.{LookupsFail, LookupsLeave, StopsInNext}
use Rattle.cdb_show.specs.Views.Noted.{AreReadTo}
use Rattle.cdb_show.specs.Views.LookUps.{Looks, StopsLooking, lookup_work}
use Rattle.cdb_show.specs.declared.fault.Fault.TheVariants.{Text, Missing, Read, Output}
use Rattle.cdb_show.specs.declared.inputs.SharedWindow.TheVariants.{Unread}
use Rattle.cdb_show.specs.declared.runs.lookups.Looking.{Looking}
use Rattle.cdb_show.proofs.InputTurns.{fault_weaker}
use Rattle.cdb_show.proofs.LookupRuns.{looked_none, stops_later}
use Rattle.cdb_show.proofs.Openings.{unopened_by}
use Rattle.cdb_show.proofs.Writers.{keeps_self}

-- ---- the keys of the inputs, one after the other

module _ {S L : Type 0} {s : Ghosts S} {l : Widths L} (task : LookupTask S) where
  looks_each : (n : ℕ) (read : List (List Change)) (old new : Progress (Looking S L s l)) → DoesEach (lookup_work task) n read old new → Looks task (keys_of_each read) old new
  looks_each n [] old new e = subst (Looks task [] old) (sym e) (record {
    reads = reads_none task.store old.state.reader.store;
    looked = λ before start h. subst (λ keys. HasLooked task keys old.state.reader.store start old.output old.state.missing) (sym (append-nil before)) h;
  })
  looks_each n (items ∷ read) old new (mid, one, others) =
      let more = looks_each (n + 1) read mid new others in
      record {
        reads = reads_more one.reads more.reads;
        looked = λ before start h.
            subst (λ keys. HasLooked task keys new.state.reader.store start new.output new.state.missing) (append_assoc before (keys_of items) (keys_of_each read))
            (more.looked (before ++ keys_of items) start (one.looked before start h));
      }

  -- in the next input, or before it was begun
  stops_next : (n : ℕ) (last : List Change) (old new : Progress (Looking S L s l)) (f : Fault) → StopsOrNot (lookup_work task) n last old new f → StopsLooking task (keys_of last) old new f
  stops_next n last old new f (inl h) = h
  stops_next n last old new f (inr h) =
      subst (λ items. StopsLooking task (keys_of items) old new f) (sym h.none) (subst (λ at. StopsLooking task [] old at f) (sym h.same) (subst (StopsLooking task [] old old) (sym h.memory) (record {
        reads = reads_none task.store old.state.reader.store;
        stopped = λ before start k. (old.state.missing, subst (λ keys. HasLooked task keys old.state.reader.store start old.output old.state.missing) (sym (append-nil before)) k);
      })))

-- ---- the end

-- a fault that stopped it in an input is neither a missing value nor a store without a head
fails_in : {J I S : Type 0} (task : LookupTask S) (read : List (List Change)) (stop : Stop Change TextFault) (old new : LookupState J I S) (f : Fault) → StopsInNext task read stop old new f → LookupsFail task read stop old new f
fails_in task read stop old new (Read damage.Short) h = absurd h.stops
fails_in task read stop old new (Read damage.Device) h = inl h
fails_in task read stop old new Output h = inl h
fails_in task read stop old new f h = h

not_missing : (missing : Bool) (f : Fault) → Err f ≡ missing_answer missing → f ≡ Missing
not_missing true f e = cc
not_missing false f e = cc

no_fault : (missing : Bool) → fault_in (missing_answer missing) ≡ None
no_fault true = refl
no_fault false = refl

module _ {J I S L : Type 0} {s : Ghosts S} {l : Widths L} (task : LookupTask S) (own : J → Feed) (shared : I → Feed) (inputs left : Inputs J I) (old new : Progress (Looking S L s l)) (fresh : old.state.missing ≡ false) (long : head_size task.word ≤ task.store.size old.state.reader.store) where
  abbrev Reads : Parsing Change TextFault → List (List Change) → Stop Change TextFault → Type 0
  Reads p read stop = AreReadTo own shared p read stop inputs left

  begun : HasLooked task [] old.state.reader.store old.output old.output old.state.missing
  begun = subst (HasLooked task [] old.state.reader.store old.output old.output) (sym fresh) (looked_none task old.state.reader.store old.output long)

  -- it stopped in an input
  pub fed_stopped : (f : Fault) → StopsAmid (lookup_work task) Reads (SomeFailed own shared left.readers.items left.shared) old new f → LookupsLeave task own shared (lookup_state inputs old.state.reader.store old.output) (lookup_state left new.state.reader.store new.output) (Err f)
  fed_stopped f h =
      let each = looks_each task 1 h.read old h.mid h.does in
      let next = stops_next task (length h.read + 1) h.last h.mid new f h.stops in
      let was = lookup_state inputs old.state.reader.store old.output in
      let is = lookup_state left new.state.reader.store new.output in
      let stop = stop_of (fault_in (Err f)) h.last in
      let stops = stops_later task _ old.state.reader.store h.mid.state.reader.store new.state.reader.store old.output new.output f each.reads (next.stopped (keys_of_each h.read) old.output (each.looked [] old.output begun)) in
      record {
        reads = reads_more each.reads next.reads;
        read = h.read;
        stop = stop;
        are = h.reads;
        all = λ missing e. absurd (subst (LookupsStopAt task (keys_of_each h.read ++ keys_of h.last) was.store is.store was.output is.output) (not_missing missing f e) stops);
        fails = λ v e other.
            let k : f ≡ v = cc in
            subst (LookupsFail task h.read stop was is) k (fails_in task h.read stop was is f (record { last = h.last; is_stop = refl; stops = stops; is_fault = fault_weaker _ _ _ _ f (λ h. tt) h.is_fault }));
        failed = λ n e.
            let k : f ≡ Text n kind.Input = cc in
            h.is_fault.failed n k;
      }

  module _ (h : DoesAll (lookup_work task) Reads old new) (end : Option (List ℕ)) where
    each : Looks task (keys_of_each h.read) old new
    each = looks_each task 1 h.read old new h.does

    looked : HasLooked task (keys_of_each h.read) new.state.reader.store old.output new.output new.state.missing
    looked = each.looked [] old.output begun

    -- all keys were looked up
    pub fed_whole : (result : Result Unit Fault) → result ≡ missing_answer new.state.missing → Appends new.output end (end_of task.options.style) → LookupsLeave task own shared (lookup_state inputs old.state.reader.store old.output) (lookup_state left new.state.reader.store end) result
    fed_whole result is ending = record {
      reads = each.reads;
      read = h.read;
      stop = NoMore;
      are = subst (λ f. Reads (parsing_of (lookup_work {s = s} {l = l} task) f) h.read NoMore) (sym (ap fault_in is ∙ no_fault new.state.missing)) h.reads;
      all = λ other e. (refl, record { long = looked.long; answered = λ b at. looked.answered b at ∙ sym is ∙ e; written = λ b at. appends_then old.output new.output end _ _ (looked.written b at) ending });
      fails = λ f e other. absurd (other (not_missing new.state.missing f (sym e ∙ is)));
      failed = λ n e. let k = not_missing new.state.missing (Text n kind.Input) (sym e ∙ is) in absurd (let no : ⊥ = cc in no);
    }

    -- the end of the text was not written whole
    pub fed_unended : AppendsPrefix new.output end (end_of task.options.style) → LookupsLeave task own shared (lookup_state inputs old.state.reader.store old.output) (lookup_state left new.state.reader.store end) (Err Output)
    fed_unended front = record {
      reads = each.reads;
      read = h.read;
      stop = NoMore;
      are = h.reads;
      all = λ other e. absurd (let k = not_missing other Output e in let no : ⊥ = cc in no);
      fails = λ f e other.
          let k : Output ≡ f = cc in
          subst (LookupsFail task h.read NoMore (lookup_state inputs old.state.reader.store old.output) (lookup_state left new.state.reader.store end)) k
          (inr (new.state.missing, refl, record { long = looked.long; answered = looked.answered; written = λ b is. prefix_last old.output new.output end (looked_up task.word b task.options (keys_of_each h.read)).text (end_of task.options.style) _ (looked.written b is) front refl }));
      failed = λ n e. absurd (let no : ⊥ = cc in no);
    }

-- ---- the store

-- it was not opened
unopened_leaves : {J I S : Type 0} (task : LookupTask S) (own : J → Feed) (shared : I → Feed) (inputs : Inputs J I) (old new : S) (start : Option (List ℕ)) (f : ReadFault) → OnlyReads task.store old new → LookupsFail task [] NotBegun (lookup_state inputs old start) (lookup_state inputs new start) (Read f)
    → LookupsLeave task own shared (lookup_state inputs old start) (lookup_state inputs new start) (Err (Read f))
unopened_leaves task own shared inputs old new start f reads fails = record {
  reads = reads;
  read = [];
  stop = NotBegun;
  are = record { window = Unread inputs.shared; are = nothing_taken (shared inputs.shared); handed = refl; others = refl };
  all = λ missing e. absurd (let k = not_missing missing (Read f) e in let no : ⊥ = cc in no);
  fails = λ v e other.
      let k : Read f ≡ v = cc in
      subst (LookupsFail task [] NotBegun (lookup_state inputs old start) (lookup_state inputs new start)) k fails;
  failed = λ n e. absurd (let no : ⊥ = cc in no);
}

pub fed_unopened : {J I S : Type 0} (task : LookupTask S) (own : J → Feed) (shared : I → Feed) (inputs : Inputs J I) (old new : S) (start : Option (List ℕ)) (f : ReadFault) → OpeningFails task.word task.store old new f
    → LookupsLeave task own shared (lookup_state inputs old start) (lookup_state inputs new start) (Err (read_fault f))
fed_unopened task own shared inputs old new start f h = unopened_by task.word task.store old new (λ f. LookupsLeave task own shared (lookup_state inputs old start) (lookup_state inputs new start) (Err (read_fault f)))
    (λ short same. unopened_leaves task own shared inputs old new start damage.Short (subst (OnlyReads task.store old) (sym same) (reads_none task.store old)) (record { none = refl; is_stop = refl; same = refl; kept = keeps_self start; why = (short, same) }))
    (λ reads failed. unopened_leaves task own shared inputs old new start damage.Device reads (inr (record { none = refl; is_stop = refl; same = refl; kept = keeps_self start; why = failed }))) f h

-- it was
in_next : {J I S : Type 0} (task : LookupTask S) (read : List (List Change)) (stop : Stop Change TextFault) (old : S) (mid new : LookupState J I S) (f : Fault) → OnlyReads task.store old mid.store → StopsInNext task read stop mid new f → StopsInNext task read stop (lookup_state mid.inputs old mid.output) new f
in_next task read stop old mid new f reads h = record { last = h.last; is_stop = h.is_stop; stops = stops_later task _ old mid.store new.store mid.output new.output f reads h.stops; is_fault = h.is_fault }

begun_fails : {J I S : Type 0} (task : LookupTask S) (read : List (List Change)) (stop : Stop Change TextFault) (old : S) (mid new : LookupState J I S) (f : Fault) → OnlyReads task.store old mid.store → head_size task.word ≤ task.store.size mid.store
    → LookupsFail task read stop mid new f → LookupsFail task read stop (lookup_state mid.inputs old mid.output) new f
begun_fails task read stop old mid new (Read damage.Short) reads long h = let short = h.why.0 in absurd (let no : ⊥ = omega (arith, long, short) in no)
begun_fails task read stop old mid new (Read damage.Device) reads long (inl h) = inl (in_next task read stop old mid new _ reads h)
begun_fails task read stop old mid new (Read damage.Device) reads long (inr h) = inr (record { none = h.none; is_stop = h.is_stop; same = h.same; kept = h.kept; why = let k = reads.failures in let more = h.why in omega (arith, k, more) })
begun_fails task read stop old mid new Output reads long (inl h) = inl (in_next task read stop old mid new _ reads h)
begun_fails task read stop old mid new Output reads long (inr h) = inr h
begun_fails task read stop old mid new f reads long h = in_next task read stop old mid new _ reads h

pub fed_begun : {J I S : Type 0} (task : LookupTask S) (own : J → Feed) (shared : I → Feed) (inputs left : Inputs J I) (old mid new last : S) (start now : Option (List ℕ)) (result : Result Unit Fault) → OnlyReads task.store old mid → head_size task.word ≤ task.store.size mid → last ≡ new
    → LookupsLeave task own shared (lookup_state inputs mid start) (lookup_state left new now) result → LookupsLeave task own shared (lookup_state inputs old start) (lookup_state left last now) result
fed_begun task own shared inputs left old mid new last start now result reads long same h = subst (λ v. LookupsLeave task own shared (lookup_state inputs old start) (lookup_state left v now) result) (sym same) (record {
  reads = reads_more reads h.reads;
  read = h.read;
  stop = h.stop;
  are = h.are;
  all = h.all;
  fails = λ f e other. begun_fails task h.read h.stop old (lookup_state inputs mid start) (lookup_state left new now) f reads long (h.fails f e other);
  failed = h.failed;
})
