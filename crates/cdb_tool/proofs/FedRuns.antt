-- The inputs of a run, one after the other, and their readers as they come back.
use Rattle.cdb_tool.proofs.Words.{Bool, Change, Consumes, Err, Fault, Feed, Follows, Ghosts, Inputs, List, Maker, Ok, OnOk, Option, OutputSays, PutsInputs, PutsInputsStop, Result, RunOptions, SharedWindow, Stop, Task, TextFault, WereRead, [], append-nil, append_assoc, arith, came, feeds_of, follows_same, follows_then, from_inputs, inl, inr, length, length-append, nothing_taken, refl, shared_feed, subst, sym, ℕ, ◌++◌, ◌+◌, ◌∙◌, ◌∷◌, ◌≡◌}
use Rattle.std.proofs.Common.{IfErr}
use Rattle.cdb_form.specs.declared.text.fault.TextFault.TheVariants as text
use Rattle.cdb_form.specs.declared.width.Width.{Ghosts as Widths}
use Rattle.cdb_show.specs.Feed.{Parsing}
use Rattle.cdb_show.specs.Runs.InputTask.{DoesAll, DoesEach, Progress, StopsAmid, StopsOrNot}
use Rattle.cdb_show.specs.Views.Noted.{AreReadTo, held_of, reader_of}
use Rattle.cdb_show.specs.declared.inputs.SharedWindow.TheVariants.{InHand, Unread}
use Rattle.cdb_tool.specs.Runs.Make.{HasCome, StepsOn, StopsItems, put_work}
use Rattle.cdb_tool.proofs.InputRuns.{none_put, text_stopped}
use Rattle.cdb_tool.proofs.MakerSteps.{step_failed}

-- ---- the readers

-- what the window held is lost
window_lost : {I : Type 0} (shared : I → Feed) (w : SharedWindow I) → Consumes (shared_feed shared w) (shared (reader_of w)) (held_of w)
window_lost shared (Unread reader) = nothing_taken (shared reader)
window_lost shared (InHand w) = record { known = λ k. k; back = λ k whole rest m. record { behind = rest; may = m; is = refl }; stays = λ f. f }

pub were_read : {J I : Type 0} (own : J → Feed) (shared : I → Feed) (p : Parsing Change TextFault) (read : List (List Change)) (stop : Stop Change TextFault) (before after : Inputs J I) → AreReadTo own shared p read stop before after → WereRead (feeds_of own shared) p read stop before after
were_read own shared p read stop before after h = record {
  window = h.window;
  are = h.are;
  passed = h.others;
  lost = held_of h.window;
  let_go = subst (λ r. Consumes (shared_feed shared h.window) (shared r) (held_of h.window)) (sym h.handed) (window_lost shared h.window);
}

-- ---- the items

module _ {S L : Type 0} {s : Ghosts S} {l : Widths L} (o : RunOptions) (amends : Bool) where
  -- those of some inputs were done, after those of others
  record DoneAfter (done read : List (List Change)) (old new : Progress (Maker S L s l)) : Type 0 where
    puts : (t : Task) (start : Option (List ℕ)) → t.options ≡ o → HasCome t (from_inputs 1 done) start old → HasCome t (from_inputs 1 (done ++ read)) start new
    follows : Follows old.state new.state
    fine : s.failures new.state.store ≡ s.failures old.state.store

  done_each : (n : ℕ) (done read : List (List Change)) (old new : Progress (Maker S L s l)) → n ≡ length done + 1 → DoesEach (put_work o amends) n read old new → DoneAfter done read old new
  done_each n done [] old new at e = subst (DoneAfter done [] old) (sym e) (record {
    puts = λ t start same h. subst (λ r. HasCome t (from_inputs 1 r) start old) (sym (append-nil done)) h;
    follows = follows_same old.state;
    fine = refl;
  })
  done_each n done (items ∷ read) old new at (mid, one, others) =
      let more = done_each (n + 1) (done ++ items ∷ []) read mid new (omega (arith, at, length-append done (items ∷ []))) others in
      record {
        puts = λ t start same h. subst (λ r. HasCome t (from_inputs 1 r) start new) (append_assoc done (items ∷ []) read) (more.puts t start same (one.puts t done start same at h));
        follows = follows_then _ _ _ one.step.follows more.follows;
        fine = more.fine ∙ one.step.fine;
      }

  -- the run stopped in the next one, or before it was begun
  stopped_next : (n : ℕ) (last : List Change) (old new : Progress (Maker S L s l)) (f : Fault) → StopsOrNot (put_work o amends) n last old new f → StopsItems o n last old new f
  stopped_next n last old new f (inl h) = h
  stopped_next n last old new f (inr h) =
      subst (λ items. StopsItems o n items old new f) (sym h.none) (subst (λ at. StopsItems o n [] old at f) (sym h.same) (subst (StopsItems o n [] old old) (sym h.memory) (record {
        stops = λ t read start same numbered k. text_stopped t (came read []) start old.output old.state n text.NoMemory (none_put t read start old.output old.state k);
        step = record { follows = follows_same old.state; failed = λ is. absurd is; memory = λ e. refl; fine = tt; base = λ is. absurd is; output = tt };
      })))

  module _ (Reads : Parsing Change TextFault → List (List Change) → Stop Change TextFault → Type 0) (old new : Progress (Maker S L s l)) where
    pub all_put : (h : DoesAll (put_work o amends) Reads old new) → PutsInputs o h.read old new
    all_put h = (done_each 1 [] h.read old new refl h.does).puts

    pub put_stopped : (Failed : Type 0) (f : Fault) (h : StopsAmid (put_work o amends) Reads Failed old new f) → PutsInputsStop o h.read h.last old new f
    put_stopped Failed f h =
        let before = done_each 1 [] h.read old h.mid refl h.does in
        let next = stopped_next (length h.read + 1) h.last h.mid new f h.stops in
        λ t start same k. next.stops t h.read start same refl (before.puts t start same k)

    pub put_steps : (Failed said : Type 0) (result : Result Unit Fault) → OnOk result (DoesAll (put_work o amends) Reads old new) → IfErr result (StopsAmid (put_work o amends) Reads Failed old new) → OutputSays said result → StepsOn old.state new.state ⊥ said result
    put_steps Failed said (Ok u) h none says = let all = done_each 1 [] h.read old new refl h.does in record { follows = all.follows; failed = tt; memory = tt; fine = all.fine; base = tt; output = tt }
    put_steps Failed said (Err f) none h says =
        let before = done_each 1 [] h.read old h.mid refl h.does in
        let next = stopped_next (length h.read + 1) h.last h.mid new f h.stops in
        let step = step_failed {B = Unit} f before.follows before.fine (λ is. is) (λ is. is) next.step in
        record { follows = step.follows; failed = step.failed; memory = step.memory; fine = tt; base = step.base; output = says }
