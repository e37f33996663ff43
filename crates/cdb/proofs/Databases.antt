-- What a store has once a run over it succeeded, and what a run says whose lines were forwarded.
use Rattle.cdb.proofs.Words.{Asked, Bool, Err, Fault, Feed, Ghosts, HasDatabase, IsDatabase, IsMakeRun, Keeps, Left, List, Making, NameCalls, Ok, OnErr, OnOk, OpenCalls, Option, OutputSays, ReadsMaking, Refused, Result, Runs, SeesName, Standard, Syncs, failed_of, given_of, inl, inr, refused_lines, says_more, state_of, subst, sym, true, ℕ, ◌∙◌, ◌≡◌}
use Rattle.cdb_names.specs.declared.answer.Answer.TheVariants.{No, Unknown, Yes}
use Rattle.cdb_store.specs.declared.raw.RawFile.{Ghosts as Raw}
use Rattle.cdb_tool.specs.Runs.Make.{MakeRuns, Reading, Terms, terms_of}
use Rattle.cdb_tool.proofs.RunEnds.{base_weaker}
use Rattle.cdb_system.specs.declared.system.System.{Ghosts as Systems}
use Rattle.cdb_system.proofs.Said.{line_kept, says_kept}
use Rattle.cdb.specs.Handing.{machine_of}

runs_under : (terms : Terms) (x : Option (List ℕ)) (r : Reading) (images inner : List ℕ → Type 0) (told said : Option (List ℕ)) (made : Result Unit Fault) → OnOk made ((b : List ℕ) → inner b → images b) → MakeRuns terms x r images told said made → MakeRuns terms x r inner told said made
runs_under terms x r images inner told said (Ok done) in_image runs = record { ok = record { based = runs.ok.based; goes = runs.ok.goes; file = record { each = λ b is. runs.ok.file.each b (in_image b is) } }; err = tt }
runs_under terms x r images inner told said (Err fault) in_image runs = record { ok = tt; err = runs.err }

-- what a run leaves in a store over another one is so of the other's images too
read_under : {F I J : Type 0} (f : Ghosts F) (m : Making F I J) (back : Option F) (images inner : List ℕ → Type 0) (told said : Option (List ℕ)) (made : Result Unit Fault) → ReadsMaking f m back images told said made → ((b : List ℕ) → inner b → (a : List ℕ) × images a) → OnOk made ((b : List ℕ) → inner b → images b)
    → ReadsMaking f m back inner told said made
read_under f m back images inner told said made run over in_image = record {
  read = run.read;
  were = run.were;
  is = run.is;
  runs = record {
    each = λ b is. base_weaker f back _ _ (λ x some runs. runs_under (terms_of m.word m.greatest m.options) x run.read images inner told said made in_image runs) (run.runs.each (over b is).0 (over b is).1);
  };
}

pub run_under : {F I J : Type 0} (f : Ghosts F) (m : Making F I J) (back : Option F) (images inner : List ℕ → Type 0) (told said : Option (List ℕ)) (made : Result Unit Fault) → IsMakeRun f m back images told said made
    → ((b : List ℕ) → inner b → (a : List ℕ) × images a) → OnOk made ((b : List ℕ) → inner b → images b) → IsMakeRun f m back inner told said made
run_under f m back images inner told said made ran over in_image =
    record { hands = ran.hands; base_failed = ran.base_failed; runs = read_under f m back images inner told said made ran.runs over in_image }

-- the database that a run made
pub database_made : {F I J : Type 0} (f : Ghosts F) (m : Making F I J) (back : Option F) (images inner : List ℕ → Type 0) (told said : Option (List ℕ)) (made : Result Unit Fault) → IsMakeRun f m back images told said made → OnOk made ((b : List ℕ) → inner b → images b) → OnOk made (HasDatabase f m back inner)
database_made f m back images inner told said (Ok done) ran in_image = λ b is.
    let at : images b = in_image b is in
    record { hands = ran.hands; told = told; said = said; is = read_under f m back images (λ c. c ≡ b) told said (Ok tt) ran.runs (λ c e. (b, at)) (λ c e. subst images (sym e) at) }
database_made f m back images inner told said (Err fault) ran in_image = tt

-- ---- a store that was flushed

abbrev IsDone : Result Unit Fault → Type 0
IsDone (Ok done) = Unit {0}
IsDone (Err fault) = ⊥

-- the database that a run made is there once the store was flushed

-- a flush that fails is no fault of an output
pub synced_says : {M : Type 0} {s : Ghosts M} {built left : M} (O : Type 0) (made result : Result Unit Fault) → Syncs s built left made result → OutputSays O made → OutputSays O result
synced_says O made result h says = elim h.answered [
  | inl same ↦ subst (OutputSays O) (sym same) says
  | inr failed ↦ subst (OutputSays O) (sym failed.1) tt
]

-- nor is a name that lost its file
pub named_says : (O : Type 0) (name : List ℕ) (was now : OpenCalls) (synced result : Result Unit Fault) → SeesName name was now synced result → OutputSays O synced → OutputSays O result
named_says O name was now (Ok done) result (Yes, calls, is) says = subst (OutputSays O) (sym is) tt
named_says O name was now (Ok done) result (No, calls, is) says = subst (OutputSays O) (sym is) tt
named_says O name was now (Ok done) result (Unknown, calls, is) says = subst (OutputSays O) (sym is) tt
named_says O name was now (Err fault) result (same, is) says = subst (OutputSays O) (sym is) says

pub database_synced : {F I J M : Type 0} (f : Ghosts F) (s : Ghosts M) (m : Making F I J) (back : Option F) (built left : M) (made result : Result Unit Fault) → Syncs s built left made result
    → OnOk made (HasDatabase f m back (s.image built)) → OnOk result (HasDatabase f m back (s.image left))
database_synced f s m back built left made (Err fault) syncs has = tt
database_synced f s m back built left made (Ok done) syncs has = λ b is. elim syncs.answered as (λ _. IsDatabase f m back b) [
  | inl same ↦ subst (λ r. OnOk r (HasDatabase f m back (s.image built))) (sym same) has b (syncs.same.no_other b is)
  | inr failed ↦ absurd (subst IsDone failed.1 tt)
]

-- ---- the lines that were handed on

-- an output that failed has failed for good
pub failed_stays : {T E : Type 0} (r : Result T E) (old new : Bool) → OnOk r (new ≡ old) → OnErr r (new ≡ true) → old ≡ true → new ≡ true
failed_stays (Ok done) old new same failed is = same ∙ is
failed_stays (Err e) old new same failed is = failed

pub run_kept : {F I J M N R Y : Type 0} (s : Ghosts F) (m : Ghosts M) (r : Raw R) (feed : I → Feed) (y : Systems Y F I M J N R) (planned : Result Asked Refused) (explained : Bool) (input : Standard J) (old new : Y) (was now : NameCalls) (left : Left F M I J) (start end final told mid said : Option (List ℕ)) (unwritten before after copy : Type 0) (status : ℕ)
    → Runs (machine_of s m feed y r) (given_of planned explained input) (state_of old was start told) (state_of new now end mid) final left (failed_of unwritten before copy) status → (before → after) → Keeps mid said → Runs (machine_of s m feed y r) (given_of planned explained input) (state_of old was start told) (state_of new now end said) final left (failed_of unwritten after copy) status
run_kept s m r feed y planned explained input old new was now left start end final told mid said unwritten before after copy status h stays k = elim h as (λ _. Runs (machine_of s m feed y r) (given_of planned explained input) (state_of old was start told) (state_of new now end said) final left (failed_of unwritten after copy) status) [
  | inl none ↦ inl (record { refused = none.refused; why = none.why; line = line_kept (refused_lines explained none.refused) told mid said before after stays none.line k; untouched = none.untouched; none = none.none; same = none.same; kept = none.kept; is_status = none.is_status })
  | inr some ↦
      inr (record {
        command = some.command;
        asks = some.asks;
        result = some.result;
        before = some.before;
        does = some.does;
        output = says_more some.result (λ failed. elim failed [ inl output ↦ inl output | inr errors ↦ inr (stays errors) ]) some.output;
        silent = some.silent;
        same = some.same;
        more = some.more;
        explains = some.explains;
        says = says_kept some.result some.more some.before mid said before after stays some.says k;
        is_status = some.is_status;
      })
]
