-- A database that is built by steps, from a new maker on to its finish.
use Rattle.std.proofs.Common.{◌≡◌, ◌+◌, ◌<◌, ◌≤◌, ◌⊎◌, inl, inr, false, ℕ, List, [], ◌∷◌, ◌++◌, length, length-append, refl, sym, ap, subst, ◌∙◌, arith, Option}
use Rattle.std.specs.Prelude.{All, drop, get_or, take}
use Rattle.std.proofs.lemmas.List.{drop_more, take-append-drop, take_all, take_more}
use Rattle.cdb_store.specs.declared.store.Store.{Ghosts}
use Rattle.cdb_form.specs.declared.width.Width.{Ghosts as Widths}
use Rattle.cdb_form.specs.Format.{file_size, KeyValue, IsRecord}
use Rattle.cdb_make.specs.Views.Maker.{ComesFrom, FailsFinishing, Holds, IsFile, WhereHonest, made_size}
use Rattle.cdb_store.specs.declared.make_fault.MakeFault.{MakeFault}
use Rattle.cdb_store.specs.declared.make_fault.MakeFault.TheVariants.{Broken, Lookup, NoMemory, TooBig, Writing}
use Rattle.cdb_make.specs.declared.maker.Maker.{Maker}
use Rattle.cdb_files.specs.Callers.{Builds, Finishes, IsUnbuilt, Made, NotBuilt, HoldsWhole, MeetsStep, StepsRun, Stage, TriesStep, after, left_by, stage_of, whole}
use Rattle.cdb_files.specs.declared.examples.ask.AskFault.TheVariants.{Make}
use Rattle.cdb_files.specs.declared.examples.steps.Step.{Step}
use Rattle.cdb_files.specs.declared.examples.steps.Step.TheVariants as kind
use Rattle.cdb_files.specs.declared.examples.steps.Unbuilt.{Unbuilt}
use Rattle.cdb_make.proofs.Finishing.{left_behind}
use Rattle.cdb_files.proofs.Asking.{held_within}
use Rattle.cdb_files.proofs.Stepping.{left_first, left_more, runs_more, runs_taken, stage_whole}

-- these steps were made, each with its answer
pub record SoFar {S L : Type 0} {s : Ghosts S} {l : Widths L} (store : S) (limit : ℕ) (steps : List Step) (faults : List (Option MakeFault)) (m : Maker S L s l) : Type 0 where
  pub same : m.limit ≡ limit
  pub eager : m.lazy ≡ false
  pub one_each : length faults ≡ length steps
  pub rises : s.failures store ≤ s.failures m.store
  pub made : WhereHonest (s.image m.store) (Made l.WORD limit steps faults (s.failures store) (stage_of m))
  pub holds : HoldsWhole m (left_by l.WORD limit steps faults)

-- none, of a new maker
pub so_far_none : {S L : Type 0} {s : Ghosts S} {l : Widths L} (store : S) (limit : ℕ) (m : Maker S L s l) (faults : List (Option MakeFault)) → faults ≡ [] → Holds m [] → m.limit ≡ limit → m.lazy ≡ false → s.failures store ≤ s.failures m.store → SoFar store limit [] faults m
so_far_none {s = s} {l = l} store limit m faults none held same eager rises = subst (λ fs. SoFar store limit [] fs m) (sym none) (record {
  same = same;
  eager = eager;
  one_each = refl;
  rises = rises;
  made = record { each = λ b is. record { begun = s.failures m.store; begins = rises; runs = stage_whole m (s.failures m.store) held.whole refl } };
  holds = λ whole. held;
})

-- one more
pub so_far_more : {S L : Type 0} {s : Ghosts S} {l : Widths L} (store : S) (limit : ℕ) (steps : List Step) (faults : List (Option MakeFault)) (step : Step) (fault : Option MakeFault) (m n : Maker S L s l)
    → SoFar store limit steps faults m → TriesStep m n (left_by l.WORD limit steps faults) step fault → SoFar store limit (steps ++ step ∷ []) (faults ++ fault ∷ []) n
so_far_more {s = s} {l = l} store limit steps faults step fault m n so t =
    let w : ℕ = l.WORD in
    let left : List KeyValue = left_by w limit steps faults in
    record {
      same = t.limit ∙ so.same;
      eager = t.lazy ∙ so.eager;
      one_each = omega (arith, so.one_each, length-append faults (fault ∷ []), length-append steps (step ∷ []));
      rises = omega (arith, so.rises, t.failures);
      made = record {
        each = λ b is.
            let was = t.comes.each b is in
            let h = so.made.each was.0 was.1 in
            let meets : MeetsStep w limit left step fault (stage_of m) (stage_of n) = subst (λ v. MeetsStep w v left step fault (stage_of m) (stage_of n)) so.same (t.meets.each b is) in
            record { begun = h.begun; begins = h.begins; runs = runs_more w limit [] steps faults (whole h.begun) (stage_of m) (stage_of n) step fault so.one_each h.runs meets };
      };
      holds = λ is.
          let h : Holds n (after w m.limit left step fault) = t.holds is in
          subst (λ v. Holds n v) (sym (left_more w limit steps faults step fault so.one_each)) (subst (λ v. Holds n (after w v left step fault)) so.same h);
    }

-- ---- the finish

pub finishes : {S L : Type 0} {s : Ghosts S} {l : Widths L} (m : Maker S L s l) (rs : List KeyValue) (store : S) → m.broken ≡ false → IsFile l.WORD rs (s.image store) → s.size store ≡ made_size m → ComesFrom (s.image m.store) (s.image store) → s.failures m.store ≤ s.failures store
    → Finishes m rs kind.Finish store
finishes m rs store whole file size comes rises = record { finish = refl; whole = whole; file = file; size = omega (arith, size, left_behind m.roll); comes = comes; failures = rises }

-- the steps that a run has are the first of all steps
pub record IsWhole (first steps : List Step) (faults : List (Option MakeFault)) : Type 0 where
  pub runs : (w limit : ℕ) (old new : Stage) → StepsRun w limit [] first faults old new → StepsRun w limit [] steps faults old new
  pub left : (w limit : ℕ) → left_by w limit steps faults ≡ left_by w limit first faults

-- if one of them is the finish, or all were made
whole_taken : (first rest steps : List Step) (faults : List (Option MakeFault)) → steps ≡ first ++ kind.Finish ∷ rest → length faults ≡ length first → IsWhole first steps faults
whole_taken first rest steps faults split same = subst (λ v. IsWhole first v faults) (sym split) (record {
  runs = λ w limit old new run. runs_taken w limit [] first rest faults old new same run;
  left = λ w limit. left_first w limit first (kind.Finish ∷ rest) faults same;
})

whole_made : (first steps : List Step) (faults : List (Option MakeFault)) → first ≡ steps → IsWhole first steps faults
whole_made first steps faults all = subst (λ v. IsWhole first v faults) all (record { runs = λ w limit old new run. run; left = λ w limit. refl })

-- a step that was made is one of all
pub one_more : (steps : List Step) (i : ℕ) (step : Step) → i < length steps → step ≡ get_or steps i step → take (i + 1) steps ≡ take i steps ++ step ∷ []
one_more steps i step lt is = take_more steps i step lt ∙ ap (λ x. take i steps ++ x ∷ []) (sym is)

split_at : (steps : List Step) (i : ℕ) (step : Step) → i < length steps → step ≡ get_or steps i step → step ≡ kind.Finish → steps ≡ take i steps ++ kind.Finish ∷ drop (i + 1) steps
split_at steps i step lt is finish = sym (take-append-drop i steps) ∙ ap (λ x. take i steps ++ x) (drop_more steps i step lt ∙ ap (λ x. x ∷ drop (i + 1) steps) (sym is ∙ finish))

-- what a run of all steps left
pub record Ended {S L : Type 0} (s : Ghosts S) (l : Widths L) (store : S) (limit : ℕ) (steps : List Step) (faults : List (Option MakeFault)) (new : S) : Type 0 where
  pub builds : WhereHonest (s.image new) (Builds l.WORD limit steps faults (s.failures store) (s.failures new))
  pub file : IsFile l.WORD (left_by l.WORD limit steps faults) (s.image new)
  pub fits : WhereHonest (s.image new) (All IsRecord (left_by l.WORD limit steps faults) × (file_size l.WORD (left_by l.WORD limit steps faults) ≤ l.GREATEST))

ended : {S L : Type 0} {s : Ghosts S} {l : Widths L} (store : S) (limit : ℕ) (first steps : List Step) (faults : List (Option MakeFault)) (m : Maker S L s l) (step : Step) (new : S) → (l.WORD ≡ 4) ⊎ (l.WORD ≡ 8) → SoFar store limit first faults m → IsWhole first steps faults
    → Finishes m (left_by l.WORD limit first faults) step new → Ended s l store limit steps faults new
ended {s = s} {l = l} store limit first steps faults m step new four so all end =
    let w : ℕ = l.WORD in
    let here : stage_of m ≡ whole (s.failures m.store) = stage_whole m (s.failures m.store) end.whole refl in
    record {
      builds = record {
        each = λ b is.
            let was = end.comes.each b is in
            let h = so.made.each was.0 was.1 in
            record {
              failures = s.failures m.store;
              made = record { begun = h.begun; begins = h.begins; runs = all.runs w limit (whole h.begun) (whole (s.failures m.store)) (subst (λ v. StepsRun w limit [] first faults (whole h.begun) v) here h.runs) };
              ends = end.failures;
            };
      };
      file = subst (λ v. IsFile w v (s.image new)) (sym (all.left w limit)) end.file;
      fits = record {
        each = λ b is.
            let was = end.comes.each b is in
            subst (λ v. All IsRecord v × (file_size w v ≤ l.GREATEST)) (sym (all.left w limit)) (held_within m (left_by w limit first faults) was.0 four was.1 (so.holds end.whole));
      };
    }

-- if a step was the finish
pub ended_taken : {S L : Type 0} {s : Ghosts S} {l : Widths L} (store : S) (limit i : ℕ) (steps : List Step) (faults : List (Option MakeFault)) (m : Maker S L s l) (step : Step) (new : S) → (l.WORD ≡ 4) ⊎ (l.WORD ≡ 8) → i < length steps → step ≡ get_or steps i step → SoFar store limit (take i steps) faults m
    → Finishes m (left_by l.WORD limit (take i steps) faults) step new → Ended s l store limit steps faults new
ended_taken store limit i steps faults m step new four lt is so end =
    ended store limit (take i steps) steps faults m step new four so (whole_taken (take i steps) (drop (i + 1) steps) steps faults (split_at steps i step lt is end.finish) so.one_each) end

-- or all were made
pub ended_made : {S L : Type 0} {s : Ghosts S} {l : Widths L} (store : S) (limit i : ℕ) (steps : List Step) (faults : List (Option MakeFault)) (m : Maker S L s l) (new : S) → (l.WORD ≡ 4) ⊎ (l.WORD ≡ 8) → length steps ≤ i → SoFar store limit (take i steps) faults m
    → m.broken ≡ false → ((rs : List KeyValue) → Holds m rs → IsFile l.WORD rs (s.image new)) → s.size new ≡ made_size m → ComesFrom (s.image m.store) (s.image new) → s.failures m.store ≤ s.failures new → Ended s l store limit steps faults new
ended_made {l = l} store limit i steps faults m new four all so whole file size comes rises =
    ended store limit (take i steps) steps faults m kind.Finish new four so (whole_made (take i steps) steps faults (take_all i steps all)) (finishes m (left_by l.WORD limit (take i steps) faults) new whole (file (left_by l.WORD limit (take i steps) faults) (so.holds whole)) size comes rises)

-- or the last finish was refused
unfinished : {S L : Type 0} {s : Ghosts S} {l : Widths L} (store : S) (limit : ℕ) (first steps : List Step) (faults : List (Option MakeFault)) (m n : Maker S L s l) (f : MakeFault) → SoFar store limit first faults m → IsWhole first steps faults
    → FailsFinishing m n f → ComesFrom (s.image m.store) (s.image n.store) → WhereHonest (s.image n.store) (NotBuilt l.WORD limit steps faults (s.failures store) (s.failures n.store) f)
unfinished {l = l} store limit first steps faults m n Broken so all fails comes = record {
  each = λ b is.
      let was = comes.each b is in
      let h = so.made.each was.0 was.1 in
      (stage_of m, fails.0, record { begun = h.begun; begins = h.begins; runs = all.runs l.WORD limit (whole h.begun) (stage_of m) h.runs });
}
unfinished store limit first steps faults m n NoMemory so all fails comes = record { each = λ b is. tt }
unfinished {s = s} store limit first steps faults m n Writing so all (inl (stays, failed)) comes = record { each = λ b is. omega (arith, so.rises, failed) }
unfinished {s = s} store limit first steps faults m n Writing so all (inr (gone, whole, broken, failed)) comes = record { each = λ b is. omega (arith, so.rises, failed) }
unfinished store limit first steps faults m n Lookup so all fails comes = absurd fails
unfinished store limit first steps faults m n TooBig so all fails comes = absurd fails

pub unbuilt : {S L : Type 0} {s : Ghosts S} {l : Widths L} (store : S) (limit i : ℕ) (steps : List Step) (faults : List (Option MakeFault)) (m n : Maker S L s l) (f : MakeFault) → length steps ≤ i → SoFar store limit (take i steps) faults m
    → FailsFinishing m n f → ComesFrom (s.image m.store) (s.image n.store) → WhereHonest (s.image n.store) (NotBuilt l.WORD limit steps faults (s.failures store) (s.failures n.store) f)
unbuilt store limit i steps faults m n f all so fails comes = unfinished store limit (take i steps) steps faults m n f so (whole_made (take i steps) steps faults (take_all i steps all)) fails comes

-- if memory was refused nothing else is owed
pub out_of_memory : {S : Type 0} (s : Ghosts S) (w limit : ℕ) (store : S) (steps : List Step) (u : Unbuilt S) → u.fault ≡ Make NoMemory → IsUnbuilt s w limit store steps u
out_of_memory s w limit store steps u e = (NoMemory, e, record { each = λ b is. tt })
