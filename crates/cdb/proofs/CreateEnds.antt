-- What a create comes to that makes nothing, and what each name has then.
use Rattle.cdb.proofs.CreateTaken.{MayGiveUpCreate}
use Rattle.cdb.proofs.Words.{AllByRecursion, Appends, AppendsPrefix, AtEach, AtEachMoment, Bool, Err, Fault, Feed, Ghosts, HandsBack, Has, InputsTaken, Keeps, List, Made, MayHave, NameCalls, NameFault, None, Ok, OnErr, OnOk, OpenCalls, Option, Result, RunOptions, Some, State, [], ap, append_assoc, append_cancel_right, arith, bytes_eq, bytes_eq-Decides, codes, false, files_of, inl, inr, length, length-append, made_file, made_lines, made_of, option_map, refl, subst, sym, temporary_of, true, ℕ, ◌++◌, ◌||◌, ◌∙◌, ◌∷◌, ◌≡◌, ◌≢◌, ◌⊎◌}
use Rattle.cdb_system.specs.Opening.{unopened as unopened_fault}
use Rattle.std.proofs.lemmas.Bool.{cond-true, cond-false, false_from_ne_true, or_from, or_left, or_parts}
use Rattle.cdb_names.specs.declared.answer.Answer.TheVariants as looks
use Rattle.cdb_names.specs.declared.refusal.Cause.{Cause}
use Rattle.cdb_names.specs.declared.name_fault.NameFault.TheVariants as why
use Rattle.cdb_names.specs.declared.name_trace.NameCall.TheVariants as name_call
use Rattle.cdb_read.proofs.FoundSoFar.{reads_none}
use Rattle.cdb_store.specs.declared.raw.RawFile.{Ghosts as Raw}
use Rattle.cdb_show.specs.declared.fault.Fault.TheVariants.{NoMemory, Open}
use Rattle.cdb.specs.Created.{Created, base_in, base_of, create_of, if_based, if_opened, in_temporary, is_in_place, is_no_name, in_place, is_read, placed, unmade, unopened}
use Rattle.cdb.specs.Creating.{LooksAtBase, Making, NotOpened, Replaces}
use Rattle.cdb_system.specs.Answered.{AreAnswered, IsAnswered, if_some}
use Rattle.cdb_system.specs.Oracle.{Disk, inputs_of, is_standard}
use Rattle.cdb.specs.ForetoldCreate.{HadBytes, HasBytes, HoldsAll, IsNoAlias, IsNoFailedRemoval, IsNoFailedRename, KeepsAll, LeavesAll, passing, place_of}
use Rattle.cdb_system.specs.Inputs.{MissesBase, StopsOpening}
use Rattle.cdb_system.specs.declared.open_trace.OpenCall.TheVariants.{Unopened}
use Rattle.cdb_system.specs.declared.system.System.{Ghosts as Systems}
use Rattle.cdb.proofs.Replaced.{IsPlain, none_appended, said_nothing}
use Rattle.cdb.proofs.Asks.{Asking}
use Rattle.cdb.proofs.CreateReads.{AllKnown, asked_kept, base_known, base_refused, base_since, moments_first}
use Rattle.cdb_system.proofs.InputsKnown.{answered_before, opened_since, missing_inputs, input_missing}

-- ---- the oracle

-- of all that is read, if it is there and no base is refused
pub based_is : {F I J : Type 0} (s : Ghosts F) (w : ℕ) (disk : Disk) (input : List ℕ) (base : Option (List ℕ)) (inputs : List (List ℕ)) (read : Option F) (left : InputsTaken I J) (f : Option (List ℕ) → List (Option (List ℕ)) → Created) → (k : AllKnown s w disk base inputs input read left)
    → if_based disk (base_of w disk base) (λ old. if_opened disk (option_map (f old) (inputs_of disk inputs))) ≡ f k.old k.files
based_is s w disk input base inputs read left f k =
    ap (λ x. if_based disk x (λ old. if_opened disk (option_map (f old) (inputs_of disk inputs)))) k.base_is
    ∙ ap (λ x. if_opened disk (option_map (f k.old) x)) k.are

-- it is made in its temporary file of all that is read
pub oracle_is : {F I J : Type 0} (s : Ghosts F) (w g : ℕ) (disk : Disk) (input name : List ℕ) (base : Option (List ℕ)) (inputs : List (List ℕ)) (temporary : Option (List ℕ)) (o : RunOptions) (read : Option F) (left : InputsTaken I J) → (k : AllKnown s w disk base inputs input read left) → is_standard name ≡ false → is_in_place name temporary ≡ false → is_read (temporary_of name temporary) base inputs ≡ false → is_no_name name ≡ false
    → (made : Made) → made ≡ made_of w g o.make k.old k.files input → create_of w g disk input name base inputs temporary o.make ≡ in_temporary disk (temporary_of name temporary) name (made_lines made) (made_file w made) made.result
oracle_is s w g disk input name base inputs temporary o read left k standard placed_in other named made is =
    based_is s w disk input base inputs read left (λ old files. placed w disk name base inputs temporary (made_of w g o.make old files input)) k
    ∙ cond-false (is_standard name) _ _ standard
    ∙ cond-false (is_in_place name temporary) _ _ placed_in
    ∙ cond-false (is_read (temporary_of name temporary) base inputs || is_no_name name) _ _ (or_from _ _ other named)
    ∙ ap (λ v. in_temporary disk (temporary_of name temporary) name (made_lines v) (made_file w v) v.result) (sym is)

-- what it says of the name
pub name_holds : (disk : Disk) (temporary name lines file : List ℕ) (result : Result Unit Fault) → temporary ≢ name → result ≡ Ok tt → (in_temporary disk temporary name lines file result).disk name ≡ Some file
name_holds disk temporary name lines file result apart e =
    let other : bytes_eq name temporary ≡ false = false_from_ne_true (bytes_eq name temporary) (λ t. apart (sym ((bytes_eq-Decides name temporary).0 t))) in
    ap (λ r. (in_temporary disk temporary name lines file r).disk name) e
    ∙ cond-false (bytes_eq name temporary) _ _ other ∙ cond-true (bytes_eq name name) _ _ ((bytes_eq-Decides name name).1 refl)

pub lines_of : (disk : Disk) (temporary name lines file : List ℕ) (result : Result Unit Fault) → (in_temporary disk temporary name lines file result).lines ≡ lines
lines_of disk temporary name lines file (Ok done) = refl
lines_of disk temporary name lines file (Err f) = refl

pub result_of : (disk : Disk) (temporary name lines file : List ℕ) (result : Result Unit Fault) → (in_temporary disk temporary name lines file result).result ≡ result
result_of disk temporary name lines file (Ok done) = refl
result_of disk temporary name lines file (Err f) = refl

-- ---- what comes of a create

-- it came to what was said, or a refusal was reported
pub record CameTrue (o : RunOptions) (c : Created) (start end told said : Option (List ℕ)) (result : Result Unit Fault) : Type 0 where
  pub is : result ≡ c.result
  pub output : Appends start end c.output
  pub lines : IsPlain o → Appends told said c.lines

pub record GaveUp (o : RunOptions) (c : Created) (start end told said : Option (List ℕ)) (result : Result Unit Fault) : Type 0 where
  pub fault : Fault
  pub is : result ≡ Err fault
  pub refusal : MayGiveUpCreate fault
  pub output : AppendsPrefix start end c.output
  pub lines : IsPlain o → AppendsPrefix told said c.lines

-- and so did the disk
abbrev pub Came : {M : Type 0} → Ghosts M → Disk → (name : List ℕ) → RunOptions → Created → OpenCalls → NameCalls → Option M → (start end told said : Option (List ℕ)) → Result Unit Fault → Type 0
Came m disk name o c opened now made start end told said result =
    (CameTrue o c start end told said result × (AllByRecursion IsNoFailedRemoval now → HoldsAll m disk name made opened now c)) ⊎ GaveUp o c start end told said result

pub record CreateSo {M : Type 0} (m : Ghosts M) (disk : Disk) (name : List ℕ) (temporary : Option (List ℕ)) (o : RunOptions) (c : Created) (opened : OpenCalls) (was now : NameCalls) (made : Option M) (start end told said : Option (List ℕ)) (result : Result Unit Fault) : Type 0 where
  pub answer : HadBytes (temporary_of name temporary) now → HasBytes m made → Came m disk name o c opened now made start end told said result
  pub done : OnOk result (HoldsAll m disk name made opened now c)
  pub failed : OnErr result (AllByRecursion IsNoFailedRename now → KeepsAll disk (passing name temporary) now)
  pub moments : AtEachMoment (LeavesAll disk (passing name temporary) c.disk) was now

-- ---- names

-- how the names are before a create, and that each call on them was answered as they are
pub record AnsweredNames (disk : Disk) (name : List ℕ) (was now : NameCalls) : Type 0 where
  pub first : was ≡ []
  pub alone : AllByRecursion IsNoAlias now
  pub held : Option (List ℕ)
  pub has : Has (place_of name) (disk name) now held

-- all that is read is known, if the base is returned
abbrev pub Knows : {F I J : Type 0} → Ghosts F → (w : ℕ) → Disk → (base : Option (List ℕ)) → (inputs : List (List ℕ)) → (input : List ℕ) → (file read : Option F) → InputsTaken I J → Type 0
Knows s w disk base inputs input file read items = HandsBack s file read → AllKnown s w disk base inputs input read items

pub same_name : (a b : List ℕ) → bytes_eq a b ≡ true → a ≡ b
same_name a b e = (bytes_eq-Decides a b).0 e

pub other_name : (a b : List ℕ) → bytes_eq a b ≡ false → a ≢ b
other_name a b e same = let no : true ≡ false = sym ((bytes_eq-Decides a b).1 same) ∙ e in cc

pub same_some : (a b : List ℕ) → ◌≡◌ {A = Option (List ℕ)} (Some a) (Some b) → a ≡ b
same_some a b e = cc

-- the temporary name is another
length_more : (xs ys : List ℕ) → xs ++ ys ≡ xs → length ys ≡ 0
length_more xs ys e = omega (arith, ap length e, length-append xs ys)

longer : (name : List ℕ) → name ++ codes ".tmp" ≡ name → ⊥
longer name e = let h : length (codes ".tmp") ≡ 0 = length_more name (codes ".tmp") e in omega (arith, h)

all_back : {A : Type 0} (P : A → Type 0) (xs ys : List A) → AllByRecursion P (xs ++ ys) → AllByRecursion P ys
all_back P [] ys h = h
all_back P (x ∷ xs) ys h = all_back P xs ys h.1

pub since_asked : (asked now since : NameCalls) → now ≡ since ++ asked → AllByRecursion IsNoAlias now → AllByRecursion IsNoAlias asked
since_asked asked now since e all = all_back IsNoAlias since asked (subst (AllByRecursion IsNoAlias) e all)

pub apart_is : (name : List ℕ) (temporary : Option (List ℕ)) → is_in_place name temporary ≡ false → temporary_of name temporary ≢ name
apart_is name None e same = longer name same
apart_is name (Some t) e same = absurd (let both = or_parts (bytes_eq t (codes "-")) (bytes_eq t name) e in let no : true ≡ false = sym ((bytes_eq-Decides t name).1 same) ∙ both.1 in cc)

-- ---- what a name has is what it may have

pub has_may : (place : List ℕ → Bool) (first : Option (List ℕ)) (calls : NameCalls) (held : Option (List ℕ)) → Has place first calls held → MayHave place first calls held
has_may place first [] held h = h
has_may place first ((name_call.Made asked, made, other, file) ∷ calls) held (inl here) = inl here
has_may place first ((name_call.Made asked, made, other, file) ∷ calls) held (inr there) = inr (has_may place first calls held there.1)
has_may place first ((name_call.Removed, gone, other, file) ∷ calls) held (inl here) = inl here
has_may place first ((name_call.Removed, gone, other, file) ∷ calls) held (inr there) = inr (has_may place first calls held there.1)
has_may place first ((name_call.NotRemoved, gone, other, file) ∷ calls) held (inl here) = inl here
has_may place first ((name_call.NotRemoved, gone, other, file) ∷ calls) held (inr there) = inr (has_may place first calls held there)
has_may place first ((name_call.Renamed len, from, to, file) ∷ calls) held (inl here) = inl here
has_may place first ((name_call.Renamed len, from, to, file) ∷ calls) held (inr (to_not, inl gone)) = inr (inl gone)
has_may place first ((name_call.Renamed len, from, to, file) ∷ calls) held (inr (to_not, inr there)) = inr (inr (has_may place first calls held there.1))
has_may place first ((name_call.NotRenamed len fault, from, to, file) ∷ calls) held (inl here) = inl here
has_may place first ((name_call.NotRenamed len fault, from, to, file) ∷ calls) held (inr (inl gone)) = inr (inl gone)
has_may place first ((name_call.NotRenamed len fault, from, to, file) ∷ calls) held (inr (inr there)) = inr (inr (has_may place first calls held there))
has_may place first ((name_call.Synced, synced, other, file) ∷ calls) held h = (has_may place first calls held h, λ _. h)
has_may place first ((call, one, other, file) ∷ calls) held h = has_may place first calls held h

pub last_moment : (P : NameCalls → Type 0) (since old now : NameCalls) → now ≡ since ++ old → AtEach P since old → P now
last_moment P [] old now e h = subst P (sym e) h
last_moment P (call ∷ since) old now e h = subst P (sym e) h.0

pub first_is : (place : List ℕ → Bool) (first held : Option (List ℕ)) (was : NameCalls) → was ≡ [] → MayHave place first was held → held ≡ first
first_is place first held was e h = subst (λ c. MayHave place first c held) e h

pub last_leaves : (disk after : Disk) (out : Option (List ℕ)) (was now : NameCalls) → AtEachMoment (LeavesAll disk out after) was now → LeavesAll disk out after now
last_leaves disk after out was now h = last_moment (LeavesAll disk out after) h.since was now h.calls h.each

-- nothing was done but look names up
pub has_first : (disk : Disk) (was now : NameCalls) → was ≡ [] → Asking was now → (other : List ℕ) (held : Option (List ℕ)) → Has (place_of other) (disk other) now held → held ≡ disk other
has_first disk was now first a other held h =
    first_is (place_of other) (disk other) held was first (asked_kept was now a (place_of other) (disk other) held (has_may (place_of other) (disk other) now held h))

pub keeps_first : (disk : Disk) (out : Option (List ℕ)) (was now : NameCalls) → was ≡ [] → Asking was now → KeepsAll disk out now
keeps_first disk out was now first a = λ other held not_out h. has_first disk was now first a other held h

pub holds_first : {M : Type 0} (m : Ghosts M) (disk : Disk) (name : List ℕ) (c : Created) (was now : NameCalls) → was ≡ [] → Asking was now → ((other : List ℕ) → c.disk other ≡ disk other) → HoldsAll m disk name None [] now c
holds_first m disk name c was now first a same = λ other held sure h. has_first disk was now first a other held h ∙ sym (same other)

-- ---- nothing was made

-- it ends so, as was said; or a refusal
abbrev EndsEarly : RunOptions → Created → Disk → (start end told said : Option (List ℕ)) → Fault → Type 0
EndsEarly o c disk start end told said fault = (CameTrue o c start end told said (Err fault) × (c ≡ unmade disk fault)) ⊎ GaveUp o c start end told said (Err fault)

pub ends_early : {M : Type 0} (m : Ghosts M) (o : RunOptions) (c : Created) (disk : Disk) (name : List ℕ) (temporary : Option (List ℕ)) (was now : NameCalls) (start end told said : Option (List ℕ)) (fault : Fault) → was ≡ [] → Asking was now → EndsEarly o c disk start end told said fault
    → CreateSo m disk name temporary o c [] was now None start end told said (Err fault)
ends_early m o c disk name temporary was now start end told said fault first a h = record {
  answer = λ had has. elim h [
    | inl so ↦ inl (so.0, λ removed. holds_first m disk name c was now first a (λ other. ap (λ (v : Created). v.disk other) so.1))
    | inr gave ↦ inr gave
  ];
  done = tt;
  failed = λ tried. keeps_first disk (passing name temporary) was now first a;
  moments = moments_first disk c.disk (passing name temporary) was now first a;
}

unmade_so : (o : RunOptions) (c : Created) (disk : Disk) (start end told said : Option (List ℕ)) (fault : Fault) → c ≡ unmade disk fault → Keeps start end × Keeps told said → EndsEarly o c disk start end told said fault
unmade_so o c disk start end told said fault e k = inl (
  record {
    is = sym (ap (λ (v : Created). v.result) e);
    output = subst (Appends start end) (sym (ap (λ (v : Created). v.output) e)) (none_appended start end k.0);
    lines = λ plain. subst (Appends told said) (sym (ap (λ (v : Created). v.lines) e)) (none_appended told said k.1);
  },
  e,
)

pub open_so : (o : RunOptions) (c : Created) (disk : Disk) (start end told said : Option (List ℕ)) → c ≡ unopened disk → Keeps start end × Keeps told said → EndsEarly o c disk start end told said Open
open_so o c disk start end told said e k = unmade_so o c disk start end told said Open e k

pub refused_early : (o : RunOptions) (c : Created) (disk : Disk) (start end told said : Option (List ℕ)) (fault : Fault) → MayGiveUpCreate fault → Keeps start end × Keeps told said → EndsEarly o c disk start end told said fault
refused_early o c disk start end told said fault is k = inr (record { fault = fault; is = refl; refusal = is; output = said_nothing start end c.output k.0; lines = λ plain. said_nothing told said c.lines k.1 })

pub memory_so : (o : RunOptions) (c : Created) (disk : Disk) (start end told said : Option (List ℕ)) (fault : Fault) → fault ≡ NoMemory → Keeps start end × Keeps told said → EndsEarly o c disk start end told said fault
memory_so o c disk start end told said fault e k = refused_early o c disk start end told said fault (subst MayGiveUpCreate (sym e) tt) k

missed_why : (o : RunOptions) (c : Created) (disk : Disk) (start end told said : Option (List ℕ)) (fault : Fault) (cause : NameFault) → fault ≡ unopened_fault cause → (cause ≡ why.Failed → c ≡ unopened disk) → Keeps start end × Keeps told said → EndsEarly o c disk start end told said fault
missed_why o c disk start end told said fault why.Failed e h k = subst (λ f. EndsEarly o c disk start end told said f) (sym e) (open_so o c disk start end told said (h refl) k)
missed_why o c disk start end told said fault why.NoMemory e h k = memory_so o c disk start end told said fault e k

module _ (w g : ℕ) (disk : Disk) (input name : List ℕ) (base : Option (List ℕ)) (inputs : List (List ℕ)) (temporary : Option (List ℕ)) (o : RunOptions) where
  abbrev of_all : Option (List ℕ) → List (Option (List ℕ)) → Created
  of_all old files = placed w disk name base inputs temporary (made_of w g o.make old files input)

  no_inputs : (old : Option (List ℕ)) → base_of w disk base ≡ Ok old → inputs_of disk inputs ≡ None → create_of w g disk input name base inputs temporary o.make ≡ unopened disk
  no_inputs old based none =
      ap (λ x. if_based disk x (λ old. if_opened disk (option_map (of_all old) (inputs_of disk inputs)))) based
      ∙ ap (λ x. if_opened disk (option_map (of_all old) x)) none

  no_base : (fault : Fault) → base_of w disk base ≡ Err fault → create_of w g disk input name base inputs temporary o.make ≡ unmade disk fault
  no_base fault e = ap (λ x. if_based disk x (λ old. if_opened disk (option_map (of_all old) (inputs_of disk inputs)))) e

-- its last call was answered as the disk is
head_answered : {F I J M N R Y : Type 0} (s : Ghosts F) (y : Systems Y F I M J N R) (disk : Disk) (stores : List F) (old mid new calls : OpenCalls) (cause : NameFault) (found : Cause) (name : List ℕ) → new ≡ calls ++ old → ((c : OpenCalls) × (mid ≡ c ++ old)) → new ≡ (Unopened cause found, name) ∷ mid
    → AreAnswered s disk calls stores → cause ≡ why.Failed → disk name ≡ None
head_answered s y disk stores old mid new calls cause found name e before is all failed =
    let split : calls ≡ (Unopened cause found, name) ∷ before.0 = append_cancel_right calls ((Unopened cause found, name) ∷ before.0) old (sym e ∙ is ∙ ap (λ c. (Unopened cause found, name) ∷ c) before.1) in
    let answered = (subst (λ c. AreAnswered s disk c stores) split all).0 in
    subst (λ v. IsAnswered s disk stores (Unopened v found) name) failed answered

base_missed : {F I J M N R Y : Type 0} (s : Ghosts F) (y : Systems Y F I M J N R) (w g : ℕ) (disk : Disk) (input name : List ℕ) (base : Option (List ℕ)) (inputs : List (List ℕ)) (temporary : Option (List ℕ)) (o : RunOptions) (old new calls : OpenCalls) (stores : List F) (read : Option F) (start end told said : Option (List ℕ)) (fault : Fault)
    → new ≡ calls ++ old → AreAnswered s disk calls stores → MissesBase base old new fault → Keeps start end × Keeps told said
    → EndsEarly o (create_of w g disk input name base inputs temporary o.make) disk start end told said fault
base_missed s y w g disk input name None inputs temporary o old new calls stores read start end told said fault e all h k = absurd h
base_missed s y w g disk input name (Some base) inputs temporary o old new calls stores read start end told said fault e all h k =
    missed_why o _ disk start end told said fault h.why h.is (λ failed. no_base w g disk input name (Some base) inputs temporary o Open
    (ap (base_in w) (head_answered s y disk stores old old new calls h.why h.found base e ([], refl) h.calls all failed))) k

-- without its last call, which opened nothing
tail_answered : {F : Type 0} (s : Ghosts F) (disk : Disk) (stores : List F) (old mid new calls since : OpenCalls) (cause : NameFault) (found : Cause) (name : List ℕ) → new ≡ calls ++ old → mid ≡ since ++ old → new ≡ (Unopened cause found, name) ∷ mid → AreAnswered s disk calls stores → AreAnswered s disk since stores
tail_answered s disk stores old mid new calls since cause found name e before is all =
    let split : calls ≡ (Unopened cause found, name) ∷ since = append_cancel_right calls ((Unopened cause found, name) ∷ since) old (sym e ∙ is ∙ ap (λ c. (Unopened cause found, name) ∷ c) before) in
    (subst (λ c. AreAnswered s disk c stores) split all).1

pub hands_self : {F : Type 0} (s : Ghosts F) (base : Option F) → HandsBack s base base
hands_self s None = tt
hands_self s (Some store) = reads_none s store

-- a base is not there, or refused, or an input is not
module _ {F I J M N R Y : Type 0} (s : Ghosts F) (ms : Ghosts M) (feed : I → Feed) (y : Systems Y F I M J N R) (w g : ℕ) (disk : Disk) (input name : List ℕ) (base : Option (List ℕ)) (inputs : List (List ℕ)) (temporary : Option (List ℕ)) (o : RunOptions) (old new calls : OpenCalls) (back : Option F) (start end told said : Option (List ℕ)) (fault : Fault)
    (e : new ≡ calls ++ old) (all : AreAnswered s disk calls (if_some back)) (k : Keeps start end × Keeps told said) where
  refused_so : LooksAtBase w (files_of s ms feed y) base old new back (Err fault) → EndsEarly o (create_of w g disk input name base inputs temporary o.make) disk start end told said fault
  refused_so looks = elim (base_refused s ms feed y w disk base back old new calls fault looks e all) [
    | inl refused ↦ unmade_so o _ disk start end told said fault (no_base w g disk input name base inputs temporary o fault refused) k
    | inr failed ↦ refused_early o _ disk start end told said fault (subst MayGiveUpCreate (sym failed) tt) k
  ]

  stopped_so : (mid : OpenCalls) → LooksAtBase w (files_of s ms feed y) base old mid back (Ok tt) → StopsOpening y inputs mid new fault → EndsEarly o (create_of w g disk input name base inputs temporary o.make) disk start end told said fault
  stopped_so mid looks stops = elim stops.last [
    | inl memory ↦ memory_so o _ disk start end told said fault memory.1 k
    | inr missed ↦ (let m = missed.3.1 in
        let before = base_since y base looks.came old mid looks.opens in
        let opened = opened_since y stops.opened stops.readers mid stops.mid stops.opens in
        let since : stops.mid ≡ (opened.since ++ before.since) ++ old = opened.are ∙ ap (λ c. opened.since ++ c) before.are ∙ sym (append_assoc opened.since before.since old) in
        let answered = answered_before s disk (if_some back) opened.since before.since opened.each (tail_answered s disk (if_some back) old stops.mid new calls (opened.since ++ before.since) m.why m.found missed.0 e since m.calls all) in
        let known = base_known s ms feed y w disk base back old mid before.since back looks (hands_self s back) before.are answered in
        missed_why o _ disk start end told said fault m.why m.is (λ failed. no_inputs w g disk input name base inputs temporary o known.0 known.1
        (missing_inputs disk inputs stops.opened missed.0 missed.1 (stops.are ∙ ap (λ l. stops.opened ++ l) missed.2)
        (input_missing disk missed.0 missed.3.0 (head_answered s y disk (if_some back) old stops.mid new calls m.why m.found missed.0 e (opened.since ++ before.since, since) m.calls all failed)))) k)
  ]

  pub not_opened_so : NotOpened w (files_of s ms feed y) base inputs old new back fault → EndsEarly o (create_of w g disk input name base inputs temporary o.make) disk start end told said fault
  not_opened_so h = elim h.calls [
    | inl missed ↦ base_missed s y w g disk input name base inputs temporary o old new calls (if_some back) back start end told said fault e all missed.0 k
    | inr (inl looks) ↦ refused_so looks
    | inr (inr (mid, looks, stops)) ↦ stopped_so mid looks stops
  ]

-- ---- a file that is read has the temporary name

pub read_unopened : {F I J : Type 0} (s : Ghosts F) (w g : ℕ) (disk : Disk) (input name : List ℕ) (base : Option (List ℕ)) (inputs : List (List ℕ)) (temporary : Option (List ℕ)) (o : RunOptions) (read : Option F) (left : InputsTaken I J) → AllKnown s w disk base inputs input read left → is_standard name ≡ false → is_in_place name temporary ≡ false → is_read (temporary_of name temporary) base inputs ≡ true
    → create_of w g disk input name base inputs temporary o.make ≡ unopened disk
read_unopened s w g disk input name base inputs temporary o read left k standard in_place is =
    based_is s w disk input base inputs read left (λ old files. placed w disk name base inputs temporary (made_of w g o.make old files input)) k
    ∙ cond-false (is_standard name) _ _ standard ∙ cond-false (is_in_place name temporary) _ _ in_place
    ∙ cond-true (is_read (temporary_of name temporary) base inputs || is_no_name name) _ _ (or_left _ _ is)

pub hands_unread : {F : Type 0} (s : Ghosts F) (base back : Option F) → back ≡ base → HandsBack s base back
hands_unread s base back e = subst (HandsBack s base) (sym e) (hands_self s base)

pub back_hands : {F I J R : Type 0} (s : Ghosts F) (r : Raw R) (m : Making F I J) (temporary name : List ℕ) (old new : State OpenCalls) (back : Option F) (result : Result Unit Fault) → Replaces s r m temporary name old new back result → HandsBack s m.base back
back_hands s r m temporary name old new back result h = elim h.lines [
  | inl none ↦ hands_unread s m.base back none.gave_up
  | inr some ↦ elim some.tells_so [ inl ran ↦ ran.hands | inr lacks ↦ hands_unread s m.base back lacks.0 ]
]
