-- A maker goes on by steps, of which some are refused.
use Rattle.std.proofs.Common.{◌≡◌, ◌+◌, ◌<◌, ◌≤◌, true, false, if◌then◌else◌, ℕ, Bool, ◌⊎◌, inl, inr, List, [], ◌∷◌, ◌++◌, length, length-append, not, fold, refl, sym, ap, subst, ◌∙◌, append_assoc, arith, Option, Some, None, Result, Ok, Err}
use Rattle.std.specs.Prelude.{filter, IfOk, IfErr}
use Rattle.std.specs.List.{list_any}
use Rattle.std.specs.Result.{result_err}
use Rattle.std.proofs.lemmas.Bool.{le-leb, lt-leb}
use Rattle.std.proofs.lemmas.List.{append-nil}
use Rattle.std.proofs.lemmas.List.Filters.{length-filter_both}
use Rattle.std.proofs.lemmas.List.Sums.{fold-append}
use Rattle.std.proofs.lemmas.Map.Views.{any-filter_same}
use Rattle.cdb_store.specs.declared.store.Store.{Ghosts}
use Rattle.cdb_form.specs.declared.mode.Mode.{Mode}
use Rattle.cdb_form.specs.declared.mode.Mode.TheVariants.{Add, Warn, Insert, Replace}
use Rattle.cdb_form.specs.declared.width.Width.{Ghosts as Widths}
use Rattle.cdb_form.specs.Format.{file_size, KeyValue}
use Rattle.cdb_make.specs.Survivors.{answered_step, survivors, put_list, fits, is_there, has_key, without}
use Rattle.cdb_make.specs.Survivors.Call.{Putting, Removing}
use Rattle.cdb_make.specs.Views.Maker.{Follows, IsBroken, Holds, HoldsIn, ComesFrom, WhereHonest, Puts, FailsPutting, Removes, FailsRemoving, FailsFinishing, HasGone, HasGoneOr, SameCounts, made_size}
use Rattle.cdb_store.specs.declared.make_fault.MakeFault.{MakeFault}
use Rattle.cdb_store.specs.declared.make_fault.MakeFault.TheVariants.{Broken, Lookup, TooBig, NoMemory, Writing}
use Rattle.cdb_make.specs.declared.maker.Maker.{Maker}
use Rattle.cdb_make.specs.declared.answer.Put.{Put}
use Rattle.cdb_make.proofs.Appends.{held_size, made_within}
use Rattle.cdb_make.proofs.Finishing.{rests_nothing}
use Rattle.cdb_files.specs.Callers.{HoldsWhole, StepMeets, MeetsStep, StepsRun, Stage, Tries, TriesCall, TriesStep, after, answers_of, answered, left_by, stage_of, takes_out, whole}
use Rattle.cdb_files.specs.declared.examples.steps.Step.{Step}
use Rattle.cdb_files.specs.declared.examples.steps.Step.TheVariants as kind

-- ---- what a call leaves of a maker

-- a broken maker isn't whole
not_broken : {b : Bool} → b ≡ true → b ≡ false → ⊥
not_broken broken whole = let k : true ≡ false = sym broken ∙ whole in cc

-- a maker that takes records out at once has none that go later
none_gone : {S L : Type 0} {s : Ghosts S} {l : Widths L} (m : Maker S L s l) → m.lazy ≡ false → HasGone m → ⊥
none_gone m eager gone = not_broken gone.0 eager

its_key : {S L : Type 0} {s : Ghosts S} {l : Widths L} (m : Maker S L s l) (key : List ℕ) (rs : List KeyValue) → m.lazy ≡ false → HasGoneOr m key rs → is_there key rs ≡ true
its_key m key rs eager (inl gone) = absurd (none_gone m eager gone)
its_key m key rs eager (inr there) = there

is_replacement : {S L : Type 0} {s : Ghosts S} {l : Widths L} (m : Maker S L s l) (mode : Mode) → m.lazy ≡ false → HasGone m ⊎ (mode ≡ Replace) → mode ≡ Replace
is_replacement m mode eager (inl gone) = absurd (none_gone m eager gone)
is_replacement m mode eager (inr is) = is

-- a whole maker
pub stage_whole : {S L : Type 0} {s : Ghosts S} {l : Widths L} (m : Maker S L s l) (n : ℕ) → m.broken ≡ false → s.failures m.store ≡ n → stage_of m ≡ whole n
stage_whole {s = s} m n is same = ap (λ b. let x : Stage = record { broken = b; failures = s.failures m.store } in x) is ∙ ap whole same

-- of a maker that is whole only its answer is owed
meets_whole : {answers : ℕ → Stage → Type 0} {fault : Option MakeFault} {old new : Stage} → old.broken ≡ false → answers old.failures new → StepMeets answers fault old new
meets_whole whole answers = record { of_broken = λ broken. absurd (not_broken broken whole); of_whole = λ _. answers }

-- a put that was taken is within the limit, and one that is too big isn't
put_fits : {S L : Type 0} {s : Ghosts S} {l : Widths L} (new : Maker S L s l) (limit : ℕ) (mode : Mode) (r : KeyValue) (rs : List KeyValue) (b : List ℕ) → (l.WORD ≡ 4) ⊎ (l.WORD ≡ 8) → new.limit ≡ limit → Holds new (put_list mode r rs) → s.image new.store b → fits l.WORD limit mode r rs ≡ true
put_fits {l = l} new limit mode r rs b w same holds is =
    let size : made_size new ≡ file_size l.WORD (put_list mode r rs) = held_size new (put_list mode r rs) b w holds is in
    le-leb (file_size l.WORD (put_list mode r rs)) limit (omega (arith, size, same, made_within new, new.within))

put_done : {S L : Type 0} {s : Ghosts S} {l : Widths L} (new : Maker S L s l) (limit : ℕ) (mode : Mode) (r : KeyValue) (rs : List KeyValue) → (l.WORD ≡ 4) ⊎ (l.WORD ≡ 8) → new.limit ≡ limit → new.broken ≡ false → Holds new (put_list mode r rs)
    → Holds new (if fits l.WORD limit mode r rs then put_list mode r rs else rs)
put_done new limit mode r rs w same whole holds = record {
  whole = whole;
  each = λ b is. subst (λ (x : Bool). HoldsIn new (if x then put_list mode r rs else rs) b) (sym (put_fits new limit mode r rs b w same holds is)) (holds.each b is);
}

put_too_big : {S L : Type 0} {s : Ghosts S} {l : Widths L} (new : Maker S L s l) (limit : ℕ) (mode : Mode) (r : KeyValue) (rs : List KeyValue) → new.broken ≡ false → WhereHonest (s.image new.store) (limit < file_size l.WORD (put_list mode r rs)) → Holds new rs
    → Holds new (if fits l.WORD limit mode r rs then put_list mode r rs else rs)
put_too_big {l = l} new limit mode r rs whole past holds = record {
  whole = whole;
  each = λ b is.
      let fit : fits l.WORD limit mode r rs ≡ false = lt-leb (file_size l.WORD (put_list mode r rs)) limit (past.each b is) in
      subst (λ (x : Bool). HoldsIn new (if x then put_list mode r rs else rs) b) (sym fit) (holds.each b is);
}

-- a put that is to add its record and nothing else takes none out
none_any : (test : KeyValue → Bool) (rs : List KeyValue) → length rs ≡ 0 → list_any test rs ≡ false
none_any test [] none = refl
none_any test (r ∷ rs) none = absurd (omega (arith, none))

twice_not : (b : Bool) → b ≡ not (not b)
twice_not true = refl
twice_not false = refl

all_kept : (k : List ℕ) (rs : List KeyValue) → length (without k rs) ≡ length rs → is_there k rs ≡ false
all_kept k rs same =
    let both : length (without k rs) + length (filter (has_key k) rs) ≡ length rs = length-filter_both (λ r. not (has_key k r)) (has_key k) (λ r. twice_not (has_key k r)) rs in
    sym (any-filter_same (has_key k) (has_key k) true (λ r has. has) rs) ∙ none_any (has_key k) (filter (has_key k) rs) (omega (arith, both, same))

adds_only : (mode : Mode) (r : KeyValue) (rs : List KeyValue) → put_list mode r rs ≡ rs ++ r ∷ [] → takes_out rs (Putting mode r) ≡ false
adds_only Add r rs e = refl
adds_only Warn r rs e = refl
adds_only Insert r rs e = refl
adds_only Replace r rs e =
    let long : length (without r.key rs ++ r ∷ []) ≡ length (rs ++ r ∷ []) = ap length e in
    all_kept r.key rs (omega (arith, long, length-append (without r.key rs) (r ∷ []), length-append rs (r ∷ [])))

takes_there : (mode : Mode) (r : KeyValue) (rs : List KeyValue) → mode ≡ Replace → is_there r.key rs ≡ true → takes_out rs (Putting mode r) ≡ true
takes_there Replace r rs is there = there
takes_there Add r rs is there = absurd (let no : ⊥ = cc in no)
takes_there Warn r rs is there = absurd (let no : ⊥ = cc in no)
takes_there Insert r rs is there = absurd (let no : ⊥ = cc in no)

-- what was tried of a maker
tried : {S L : Type 0} {s : Ghosts S} {l : Widths L} (old new : Maker S L s l) (answers : ℕ → Stage → Type 0) (fault : Option MakeFault) (left : List KeyValue) → Follows old new → WhereHonest (s.image new.store) (StepMeets answers fault (stage_of old) (stage_of new)) → HoldsWhole new left
    → Tries old new answers fault left
tried old new answers fault left follows meets holds = record { meets = meets; holds = holds; limit = follows.limit; lazy = follows.lazy; comes = follows.comes; failures = follows.failures }

-- a call that answered that the maker is broken
tried_broken : {S L : Type 0} {s : Ghosts S} {l : Widths L} (old new : Maker S L s l) (answers : ℕ → Stage → Type 0) (rs left : List KeyValue) → Follows old new → IsBroken old new → HoldsWhole old rs → Tries old new answers (Some Broken) left
tried_broken {S = S} {L = L} {s = s} {l = l} old new answers rs left follows broken h = tried old new answers (Some Broken) left follows
    (record { each = λ b is. record { of_broken = λ e. (refl, ap (λ (m : Maker S L s l). stage_of m) (broken.same e)); of_whole = λ e. absurd (broken.cause rs (h e) b is) } })
    (λ whole. absurd (not_broken broken.broken whole))

-- a put, whatever it answers
pub put_tried : {S L : Type 0} {s : Ghosts S} {l : Widths L} (old new : Maker S L s l) (mode : Mode) (r : KeyValue) (result : Result Put MakeFault) (rs : List KeyValue) → (l.WORD ≡ 4) ⊎ (l.WORD ≡ 8) → old.lazy ≡ false → IfOk result (Puts old new mode r) → IfErr result (FailsPutting old new mode r) → Follows old new → HoldsWhole old rs
    → TriesCall old new rs (Putting mode r) (result_err result)
put_tried old new mode r (Ok answer) rs w eager puts fails follows h =
    let holds : Holds new (put_list mode r rs) = puts.holds rs (h puts.was) in
    tried old new _ None _ follows (record { each = λ b is. meets_whole puts.was (put_fits new old.limit mode r rs b w follows.limit holds is, follows.failures, puts.whole) })
    (λ whole. put_done new old.limit mode r rs w follows.limit whole holds)
put_tried old new mode r (Err Broken) rs w eager puts fails follows h = tried_broken old new _ rs _ follows fails h
put_tried old new mode r (Err Lookup) rs w eager puts fails follows h =
    let stays = (rests_nothing old new fails.0).stays in
    tried old new _ (Some Lookup) _ follows (record { each = λ b is. meets_whole stays.was (fails.2, fails.1, stays.whole) }) (λ whole. stays.holds rs (h stays.was))
put_tried {s = s} {l = l} old new mode r (Err TooBig) rs w eager puts fails follows h =
    let stays = fails.0.stays in
    let held = h stays.was in
    tried old new _ (Some TooBig) _ follows
    (record { each = λ b is. meets_whole stays.was (lt-leb (file_size l.WORD (put_list mode r rs)) old.limit ((fails.1 rs held).each b is), stage_whole new (s.failures old.store) stays.whole fails.2) })
    (λ whole. put_too_big new old.limit mode r rs whole (fails.1 rs held) (stays.holds rs held))
put_tried {s = s} {l = l} old new mode r (Err NoMemory) rs w eager puts fails follows h =
    let stays = fails.0.stays in
    tried old new _ (Some NoMemory) _ follows
    (record {
      each = λ b is.
          let would = (fails.2 rs (h stays.was)).each b is in
          meets_whole stays.was (would.0, le-leb (file_size l.WORD (put_list mode r rs)) old.limit would.1, stage_whole new (s.failures old.store) stays.whole fails.3);
    })
    (λ whole. stays.holds rs (h stays.was))
put_tried {l = l} old new mode r (Err Writing) rs w eager puts (inl x, would) follows h =
    tried old new _ (Some Writing) _ follows
    (record {
      each = λ b is.
          let put = (would rs (h x.0.was)).each b is in
          meets_whole x.0.was (put.0, le-leb (file_size l.WORD (put_list mode r rs)) old.limit put.1, x.1.failed, x.0.whole ∙ sym (adds_only mode r rs ((x.2 eager rs (h x.0.was)).each b is)));
    })
    (λ whole. x.0.holds rs (h x.0.was))
put_tried {l = l} old new mode r (Err Writing) rs w eager puts (inr x, would) follows h =
    tried old new _ (Some Writing) _ follows
    (record {
      each = λ b is.
          let put = (would rs (h x.0.was)).each b is in
          meets_whole x.0.was (put.0, le-leb (file_size l.WORD (put_list mode r rs)) old.limit put.1, x.0.failed, x.0.broken ∙ sym (takes_there mode r rs (is_replacement old mode eager x.1) (its_key old r.key rs eager ((x.0.found rs (h x.0.was)).each b is))));
    })
    (λ whole. absurd (not_broken x.0.broken whole))

-- a removal
pub removal_tried : {S L : Type 0} {s : Ghosts S} {l : Widths L} (old new : Maker S L s l) (key : List ℕ) (result : Result ℕ MakeFault) (rs : List KeyValue) → IfOk result (Removes old new key) → IfErr result (FailsRemoving old new key) → Follows old new → HoldsWhole old rs
    → TriesCall old new rs (Removing key) (result_err result)
removal_tried old new key (Ok count) rs removes fails follows h =
    tried old new _ None _ follows (record { each = λ b is. meets_whole removes.was (refl, follows.failures, removes.whole) }) (λ whole. removes.holds rs (h removes.was))
removal_tried old new key (Err Broken) rs removes fails follows h = tried_broken old new _ rs _ follows fails h
removal_tried old new key (Err Lookup) rs removes fails follows h =
    let stays = (rests_nothing old new fails.0).stays in
    tried old new _ (Some Lookup) _ follows (record { each = λ b is. meets_whole stays.was (tt, fails.1, stays.whole) }) (λ whole. stays.holds rs (h stays.was))
removal_tried old new key (Err TooBig) rs removes fails follows h = absurd fails
removal_tried old new key (Err NoMemory) rs removes fails follows h = absurd fails
removal_tried old new key (Err Writing) rs removes fails follows h =
    tried old new _ (Some Writing) _ follows
    (record {
      each = λ b is.
          let there = (fails.found rs (h fails.was)).each b is in
          meets_whole fails.was (there, refl, fails.failed, fails.broken ∙ sym there);
    })
    (λ whole. absurd (not_broken fails.broken whole))

-- ---- a finish

-- one that was refused
pub finish_tried : {S L : Type 0} {s : Ghosts S} {l : Widths L} (old new : Maker S L s l) (f : MakeFault) (rs : List KeyValue) → old.lazy ≡ false → SameCounts old new → new.lazy ≡ old.lazy → FailsFinishing old new f → ComesFrom (s.image old.store) (s.image new.store) → s.failures old.store ≤ s.failures new.store → HoldsWhole old rs
    → TriesStep old new rs kind.Finish (Some f)
finish_tried {S = S} {L = L} {s = s} {l = l} old new Broken rs eager counts lazy fails comes rises h = record {
  meets = record { each = λ b is. record { of_broken = λ e. (refl, ap (λ (m : Maker S L s l). stage_of m) fails.1); of_whole = λ e. absurd (not_broken fails.0 e) } };
  holds = λ whole. absurd (not_broken fails.0 (sym (ap (λ m. m.broken) fails.1) ∙ whole));
  limit = counts.limit;
  lazy = lazy;
  comes = comes;
  failures = rises;
}
finish_tried old new Lookup rs eager counts lazy fails comes rises h = absurd fails
finish_tried old new TooBig rs eager counts lazy fails comes rises h = absurd fails
finish_tried old new NoMemory rs eager counts lazy fails comes rises h = record {
  meets = record { each = λ b is. meets_whole fails.0.stays.was (rises, fails.0.stays.whole) };
  holds = λ whole. fails.0.stays.holds rs (h fails.0.stays.was);
  limit = counts.limit;
  lazy = lazy;
  comes = comes;
  failures = rises;
}
finish_tried old new Writing rs eager counts lazy (inr torn) comes rises h = absurd (none_gone old eager torn.0)
finish_tried old new Writing rs eager counts lazy (inl (stays, failed)) comes rises h = record {
  meets = record { each = λ b is. meets_whole stays.was (failed, stays.whole) };
  holds = λ whole. stays.holds rs (h stays.was);
  limit = counts.limit;
  lazy = lazy;
  comes = comes;
  failures = rises;
}

-- ---- steps in turn

-- no step was made
answered_none : (steps : List Step) → answered steps [] ≡ []
answered_none [] = refl
answered_none (step ∷ steps) = refl

-- a step more
answered_more : (steps : List Step) (faults : List (Option MakeFault)) (step : Step) (fault : Option MakeFault) → length faults ≡ length steps → answered (steps ++ step ∷ []) (faults ++ fault ∷ []) ≡ answered steps faults ++ answers_of step fault
answered_more [] [] step fault same = append-nil (answers_of step fault)
answered_more [] (f ∷ faults) step fault same = absurd (omega (arith, same))
answered_more (s ∷ steps) [] step fault same = absurd (omega (arith, same))
answered_more (s ∷ steps) (f ∷ faults) step fault same =
    ap (λ x. answers_of s f ++ x) (answered_more steps faults step fault (omega (arith, same))) ∙ sym (append_assoc (answers_of s f) (answered steps faults) (answers_of step fault))

-- and those after them count for nothing
answered_first : (steps rest : List Step) (faults : List (Option MakeFault)) → length faults ≡ length steps → answered (steps ++ rest) faults ≡ answered steps faults
answered_first [] rest [] same = answered_none rest
answered_first [] rest (f ∷ faults) same = absurd (omega (arith, same))
answered_first (s ∷ steps) rest [] same = absurd (omega (arith, same))
answered_first (s ∷ steps) rest (f ∷ faults) same = ap (λ x. answers_of s f ++ x) (answered_first steps rest faults (omega (arith, same)))

pub left_more : (w limit : ℕ) (steps : List Step) (faults : List (Option MakeFault)) (step : Step) (fault : Option MakeFault) → length faults ≡ length steps → left_by w limit (steps ++ step ∷ []) (faults ++ fault ∷ []) ≡ after w limit (left_by w limit steps faults) step fault
left_more w limit steps faults step fault same = ap (survivors w limit) (answered_more steps faults step fault same) ∙ fold-append (answered_step w limit) [] (answered steps faults) (answers_of step fault)

pub left_first : (w limit : ℕ) (steps rest : List Step) (faults : List (Option MakeFault)) → length faults ≡ length steps → left_by w limit (steps ++ rest) faults ≡ left_by w limit steps faults
left_first w limit steps rest faults same = ap (survivors w limit) (answered_first steps rest faults same)

-- a run, and a step more
pub runs_more : (w limit : ℕ) (rs : List KeyValue) (steps : List Step) (faults : List (Option MakeFault)) (old mid new : Stage) (step : Step) (fault : Option MakeFault) → length faults ≡ length steps → StepsRun w limit rs steps faults old mid
    → MeetsStep w limit (fold (answered_step w limit) rs (answered steps faults)) step fault mid new → StepsRun w limit rs (steps ++ step ∷ []) (faults ++ fault ∷ []) old new
runs_more w limit rs [] [] old mid new step fault same run meets = (new, subst (λ x. MeetsStep w limit rs step fault x new) run meets, refl)
runs_more w limit rs [] (f ∷ faults) old mid new step fault same run meets = absurd run
runs_more w limit rs (s ∷ steps) [] old mid new step fault same run meets = absurd (omega (arith, same))
runs_more w limit rs (s ∷ steps) (f ∷ faults) old mid new step fault same run meets =
    let here : MeetsStep w limit (fold (answered_step w limit) (after w limit rs s f) (answered steps faults)) step fault mid new =
    subst (λ x. MeetsStep w limit x step fault mid new) (fold-append (answered_step w limit) rs (answers_of s f) (answered steps faults)) meets in
    (run.0, run.1, runs_more w limit (after w limit rs s f) steps faults run.0 mid new step fault (omega (arith, same)) run.2 here)

-- or a finish that was taken
pub runs_taken : (w limit : ℕ) (rs : List KeyValue) (steps rest : List Step) (faults : List (Option MakeFault)) (old new : Stage) → length faults ≡ length steps → StepsRun w limit rs steps faults old new → StepsRun w limit rs (steps ++ kind.Finish ∷ rest) faults old new
runs_taken w limit rs [] rest [] old new same run = (refl, run)
runs_taken w limit rs [] rest (f ∷ faults) old new same run = absurd run
runs_taken w limit rs (s ∷ steps) rest [] old new same run = absurd (omega (arith, same))
runs_taken w limit rs (s ∷ steps) rest (f ∷ faults) old new same run = (run.0, run.1, runs_taken w limit (after w limit rs s f) steps rest faults run.0 new (omega (arith, same)) run.2)
