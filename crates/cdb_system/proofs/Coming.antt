-- A command came to what was said of it, or was refused something.
use Rattle.cdb_system.proofs.OutputTaken.{MayGiveUp}
use Rattle.std.proofs.Common.{ℕ, Bool, ◌⊎◌, ◌<◌, ◌≤◌, List, [], ◌∷◌, ◌++◌, length, Option, Some, None, Result, Ok, Err, ◌≡◌, ◌∙◌, ap, inl, inr, refl, subst, sym}
use Rattle.cdb_system.proofs.Words.{AgreeInTurn, Appends, AppendsPrefix, AreAnswered, Cause, Disk, Fault, Feed, Ghosts, IsAnswered, Keeps, NameFault, OpenCalls, Outcome, Reading, Shows, cond-false, cond-true, ended, fault_line, head_size, if◌then◌else◌, le-ltb, lt-ltb, names_in_turn, nat_lt, of_file, same_appends, unopened}
use Rattle.std.proofs.lemmas.List.{append-nil, append_cancel_right}
use Rattle.cdb_names.specs.declared.name_fault.NameFault.TheVariants as why
use Rattle.cdb_show.specs.declared.fault.Fault.TheVariants.{Open, NoMemory}
use Rattle.cdb_system.specs.Reading.{Refuses}
use Rattle.cdb_system.specs.declared.open_trace.OpenCall.TheVariants.{Unopened}

-- ---- a command whose faults have these statuses, before its output is handed on

-- it wrote and answered what was said
pub record Does (status : Fault → ℕ) (o : Outcome) (start end : Option (List ℕ)) (result : Result Unit Fault) : Type 0 where
  pub is : ended status o.output result ≡ o
  pub written : Appends start end o.output

-- or it was refused something
pub record GivesUp (writes : Bool) (reads : Reading) (o : Outcome) (start end : Option (List ℕ)) (result : Result Unit Fault) : Type 0 where
  pub fault : Fault
  pub is : result ≡ Err fault
  pub refusal : MayGiveUp writes reads fault
  pub written : AppendsPrefix start end o.output

abbrev pub Comes : (writes : Bool) (reads : Reading) → (Fault → ℕ) → Outcome → (start end : Option (List ℕ)) → Result Unit Fault → Type 0
Comes writes reads status o start end result = Does status o start end result ⊎ GivesUp writes reads o start end result

pub ended_twice : (status : Fault → ℕ) (text : List ℕ) (result : Result Unit Fault) → ended status (ended status text result).output result ≡ ended status text result
ended_twice status text (Ok done) = refl
ended_twice status text (Err fault) = refl

pub output_of : (status : Fault → ℕ) (text : List ℕ) (result : Result Unit Fault) → (ended status text result).output ≡ text
output_of status text (Ok done) = refl
output_of status text (Err fault) = refl

-- it wrote this text, and answered so
pub comes_so : (writes : Bool) (reads : Reading) (status : Fault → ℕ) (o : Outcome) (text : List ℕ) (start end : Option (List ℕ)) (result : Result Unit Fault) → o ≡ ended status text result → Appends start end text → Comes writes reads status o start end result
comes_so writes reads status o text start end result e h =
    subst (λ o. Comes writes reads status o start end result) (sym e) (inl (record {
      is = ended_twice status text result;
      written = same_appends start end text _ (sym (output_of status text result)) h;
    }))

pub nothing_written : (start end : Option (List ℕ)) → Keeps start end → Appends start end []
nothing_written None end k = tt
nothing_written (Some xs) None k = absurd k
nothing_written (Some xs) (Some ys) k = k ∙ sym (append-nil xs)

pub gives_up : (writes : Bool) (reads : Reading) (status : Fault → ℕ) (o : Outcome) (start end : Option (List ℕ)) (fault : Fault) → MayGiveUp writes reads fault → AppendsPrefix start end o.output → Comes writes reads status o start end (Err fault)
gives_up writes reads status o start end fault refusal h = inr (record { fault = fault; is = refl; refusal = refusal; written = h })

pub no_prefix : (o : Outcome) (start end : Option (List ℕ)) → Keeps start end → AppendsPrefix start end o.output
no_prefix o start end k = record { front = []; more = o.output; split = refl; appended = nothing_written start end k }

pub gives_none : (writes : Bool) (reads : Reading) (status : Fault → ℕ) (o : Outcome) (start end : Option (List ℕ)) (fault : Fault) → MayGiveUp writes reads fault → Keeps start end → Comes writes reads status o start end (Err fault)
gives_none writes reads status o start end fault refusal k = gives_up writes reads status o start end fault refusal (no_prefix o start end k)

-- ---- the calls

-- those of a run, whichever list has them
abbrev pub EachAnswered : {F : Type 0} → Ghosts F → Disk → List F → (old new : OpenCalls) → Type 0
EachAnswered s disk stores old new = (calls : OpenCalls) → new ≡ calls ++ old → AreAnswered s disk calls stores

pub each_answered : {F : Type 0} (s : Ghosts F) (disk : Disk) (stores : List F) (old new calls : OpenCalls) → new ≡ calls ++ old → AreAnswered s disk calls stores → EachAnswered s disk stores old new
each_answered s disk stores old new calls is h = λ others are. subst (λ c. AreAnswered s disk c stores) (append_cancel_right calls others old (sym is ∙ are)) h

-- the files that were read from their start on agree with the readers that came back
abbrev pub EachAgrees : {I : Type 0} → (I → Feed) → Disk → List I → (old new : OpenCalls) → Type 0
EachAgrees feed disk streams old new = (calls : OpenCalls) → new ≡ calls ++ old → AgreeInTurn feed disk (names_in_turn calls) streams

pub each_agrees : {I : Type 0} (feed : I → Feed) (disk : Disk) (streams : List I) (old new calls : OpenCalls) → new ≡ calls ++ old → AgreeInTurn feed disk (names_in_turn calls) streams → EachAgrees feed disk streams old new
each_agrees feed disk streams old new calls is h = λ others are. subst (λ c. AgreeInTurn feed disk (names_in_turn c) streams) (append_cancel_right calls others old (sym is ∙ are)) h

-- a file that was not opened
pub missed_so : {F : Type 0} (writes : Bool) (reads : Reading) (s : Ghosts F) (status : Fault → ℕ) (name : List ℕ) (disk : Disk) (stores : List F) (outcome : List ℕ → Outcome) (why : NameFault) (found : Cause) (start end : Option (List ℕ)) → 111 ≡ status Open → IsAnswered s disk stores (Unopened why found) name → Keeps start end
    → Comes writes reads status (of_file (disk name) outcome) start end (Err (unopened why))
missed_so writes reads s status name disk stores outcome why.Failed found start end plain none k =
    comes_so writes reads status _ [] start end (Err Open) (ap (λ file. of_file file outcome) none ∙ ap (λ n. record { status = n; output = []; lines = fault_line Open }) plain) (nothing_written start end k)
missed_so writes reads s status name disk stores outcome why.NoMemory found start end plain none k = gives_none writes reads status _ start end NoMemory tt k

pub refused_so : {F : Type 0} (writes : Bool) (reads : Reading) (s : Ghosts F) (status : Fault → ℕ) (name : List ℕ) (disk : Disk) (stores : List F) (outcome : List ℕ → Outcome) (old new more : OpenCalls) (start end : Option (List ℕ)) (result : Result Unit Fault) → 111 ≡ status Open → EachAnswered s disk stores old new → Refuses name (more ++ old) new start end result
    → Comes writes reads status (of_file (disk name) outcome) start end result
refused_so writes reads s status name disk stores outcome old new more start end result plain answers refuses =
    let m = refuses.misses in
    let answer = (answers ((Unopened m.why m.found, name) ∷ more) m.calls).0 in
    subst (Comes writes reads status (of_file (disk name) outcome) start end) (sym (refuses.is ∙ ap (λ f. Err f) m.is))
    (missed_so writes reads s status name disk stores outcome m.why m.found start end plain answer refuses.kept)

-- each image of a store has its length
abbrev pub IsSized : {S : Type 0} → Ghosts S → Type 0
IsSized s = (store : _) → (b : List ℕ) → s.image store b → length b ≡ s.size store

-- what a file shows is what is done with its bytes
pub of_shown : {F : Type 0} (writes : Bool) (reads : Reading) (s : Ghosts F) (status : Fault → ℕ) (file : Option (List ℕ)) (last : F) (others : List F) (outcome : List ℕ → Outcome) (start end : Option (List ℕ)) (result : Result Unit Fault) → Shows s file (last ∷ others) → ((bytes : List ℕ) → s.image last bytes → s.failures last ≡ 0 → Comes writes reads status (outcome bytes) start end result)
    → Comes writes reads status (of_file file outcome) start end result
of_shown writes reads s status None last others outcome start end result shows h = absurd shows
of_shown writes reads s status (Some bytes) last others outcome start end result shows h = h bytes shows.0 shows.1

-- ---- a file by its head

pub short_is : {A : Type 0} (w : ℕ) (bytes : List ℕ) (x y : A) → length bytes < head_size w → (if nat_lt (length bytes) (head_size w) then x else y) ≡ x
short_is w bytes x y h = cond-true (nat_lt (length bytes) (head_size w)) x y (lt-ltb (length bytes) (head_size w) h)

pub long_is : {A : Type 0} (w : ℕ) (bytes : List ℕ) (x y : A) → head_size w ≤ length bytes → (if nat_lt (length bytes) (head_size w) then x else y) ≡ y
long_is w bytes x y h = cond-false (nat_lt (length bytes) (head_size w)) x y (le-ltb (length bytes) (head_size w) h)
