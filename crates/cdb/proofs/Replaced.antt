-- A create in a temporary file comes to what the function of its bytes says.
use Rattle.cdb.proofs.CreateTaken.{MayGiveUpCreate}
use Rattle.cdb.proofs.Words.{AllByRecursion, Appends, AppendsPrefix, Err, Fault, Ghosts, HadBytes, IfErr, IsNoFailedRename, Keeps, Keeps-refl, List, Made, NameCall, None, OfBase, Ok, OnErr, OnOk, OpenCalls, Option, OutputSays, ReplaceFault, Result, RunOptions, Some, [], ap, append-nil, append_cancel_right, arith, bytes_eq, bytes_eq-Decides, false, false_from_ne_true, inl, inr, made_file, made_lines, made_of, place_of, refl, state_of, subst, sym, take, true, ℕ, ⊤, ◌++◌, ◌+◌, ◌∙◌, ◌∷◌, ◌≡◌, ◌≢◌, ◌⊎◌}
use Rattle.cdb_names.specs.Folder.{Has, LeavesFile, MayHave, NameCalls}
use Rattle.cdb_names.specs.Replacing.{BuilderAnswers, AreOfReplacing, AtEach, ClearsFile, HasCleared, IsNew, IsOfReplacing, IsReady, IsRenamed, LeavesOldOrNew, NameEvent, BuilderTells, TellsOfFile, StopsUnbuilt, renames}
use Rattle.cdb_names.specs.declared.name_trace.NameCall.TheVariants.{NotRemoved, NotRenamed, NotSynced, Removed, Renamed, Synced}
use Rattle.cdb_names.specs.declared.name_trace.NameCall.TheVariants as name_call
use Rattle.cdb_names.specs.declared.replace.ReplaceFault.TheVariants as replace
use Rattle.cdb_store.specs.Calls.{Calls, FileImage, IsSynced}
use Rattle.cdb_store.specs.FileStore.{calls_of, images_of}
use Rattle.cdb_store.specs.declared.file.FileStore.{FileStore}
use Rattle.cdb_store.specs.declared.raw.RawFile.{Ghosts as Raw}
use Rattle.cdb_show.specs.declared.fault.Fault.TheVariants.{Open, Rename, NoMemory}
use Rattle.cdb_tool.specs.Runs.MakesSo.{ComesOf, IsMakeRefusal}
use Rattle.cdb.proofs.Agreeing.{InputsAgree, making_comes}
use Rattle.cdb_tool.proofs.ToldLines.{part_plain, tells_plain}
use Rattle.cdb.specs.Creating.{IsBufferedRun, IsDatabase, IsMakeRun, Making, Replaces, answer_of, fault_of}

-- ---- what it comes to

-- the base that was opened has these bytes, or there is none
abbrev pub BaseHas : {F : Type 0} → Ghosts F → Option F → Option (List ℕ) → Type 0
BaseHas s None None = ⊤
BaseHas s (Some store) (Some bytes) = s.image store bytes
BaseHas s store bytes = ⊥

-- a crash now leaves in the place of the name what one before would have left, or the database
abbrev pub LeavesOldOrMade : (w : ℕ) → (name : List ℕ) → Made → (old now : NameCalls) → Type 0
LeavesOldOrMade w name made old now = (first held : Option (List ℕ))
    → MayHave (place_of name) first now held
    → MayHave (place_of name) first old held
    ⊎ ((held ≡ Some (made_file w made)) × (made.result ≡ Ok tt))

-- and what one before would have left in the place of each name that is neither of both
abbrev pub KeepsOthers : (temporary name : List ℕ) → (old now : NameCalls) → Type 0
KeepsOthers temporary name old now = (other : List ℕ) → temporary ≢ other → name ≢ other
    → (first held : Option (List ℕ)) → MayHave (place_of other) first now held
    → MayHave (place_of other) first old held

-- no duplicate is explained
abbrev pub IsPlain : RunOptions → Type 0
IsPlain o = o.names ≡ None

-- now the name has the database, and all its lines were said
pub record HasMade (w : ℕ) (o : RunOptions) (made : Made) (told said : Option (List ℕ)) (held : Option (List ℕ)) : Type 0 where
  pub file : held ≡ Some (made_file w made)
  pub result : made.result ≡ Ok tt
  pub lines : IsPlain o → Appends told said (made_lines made)

-- it ended in the fault that was said, or was refused
pub record EndsSo (o : RunOptions) (made : Made) (told said : Option (List ℕ)) (result : Result Unit Fault) : Type 0 where
  pub is : result ≡ made.result
  pub lines : IsPlain o → Appends told said (made_lines made)

pub record WasRefused (o : RunOptions) (made : Made) (told said : Option (List ℕ)) (fault : Fault) : Type 0 where
  pub refusal : MayGiveUpCreate fault
  pub lines : IsPlain o → AppendsPrefix told said (made_lines made)

-- the last call was to take the name from its file
abbrev pub IsGone : (temporary : List ℕ) → NameCalls → Type 0
IsGone temporary calls = (before : NameCalls) × HasCleared temporary before calls

-- without a rename, done or tried, the place of the name keeps what it had
abbrev pub KeepsName : (name : List ℕ) → (old now : NameCalls) → Type 0
KeepsName name old now = AllByRecursion IsNoFailedRename now → (first held : Option (List ℕ)) → MayHave (place_of name) first now held → MayHave (place_of name) first old held

-- what a replacement comes to
pub record ReplacesSo (w : ℕ) (o : RunOptions) (temporary name : List ℕ) (made : Made) (old new : NameCalls) (told said : Option (List ℕ)) (result : Result Unit Fault) : Type 0 where
  pub since : NameCalls
  pub calls : new ≡ since ++ old
  pub moments : AtEach (LeavesOldOrMade w name made old) since old
  pub others : AtEach (KeepsOthers temporary name old) since old
  pub ok : OnOk result ((first held : Option (List ℕ)) → Has (place_of name) first new held → HasMade w o made told said held)
  pub renamed : OnOk result (IsRenamed temporary name new)
  pub unrenamed : OnErr result (KeepsName name old new)
  pub err : IfErr result (λ fault. HadBytes temporary new → (EndsSo o made told said result × IsGone temporary new) ⊎ WasRefused o made told said fault)

-- ---- the database of some bytes

of_known : {F : Type 0} (f : Ghosts F) (back : Option F) (x : Option (List ℕ)) (P : Option (List ℕ) → Type 0) → BaseHas f back x → OfBase f back P → P x
of_known f None None P has h = h
of_known f (Some store) (Some bytes) P has h = h bytes has
of_known f None (Some bytes) P has h = absurd has
of_known f (Some store) None P has h = absurd has

abbrev pub made_here : {F I J : Type 0} → Making F I J → Option (List ℕ) → List (Option (List ℕ)) → List ℕ → Made
made_here m x files input = made_of m.word m.greatest m.options.make x files input

pub database_is : {F I J : Type 0} (f : Ghosts F) (m : Making F I J) (back : Option F) (x : Option (List ℕ)) (files : List (Option (List ℕ))) (input b : List ℕ) → BaseHas f back x → InputsAgree files input m.inputs → IsDatabase f m back b → (b ≡ made_file m.word (made_here m x files input)) × ((made_here m x files input).result ≡ Ok tt)
database_is f m back x files input b has known d =
    let comes = of_known f back x (λ y. ComesOf m.word m.options (made_here m y files input) (λ c. c ≡ b) d.told d.said (Ok tt)) has ((making_comes f m back files input (λ c. c ≡ b) d.told d.said (Ok tt) known d.hands d.is).each b refl) in
    elim comes [
      | inl so ↦ (so.file.each b refl, sym so.is)
      | inr refused ↦ absurd (let no : ◌≡◌ {A = Result Unit Fault} (Ok tt) (Err refused.fault) = refused.is in cc)
    ]

-- ---- the other names

pub at_name : (name : List ℕ) → place_of name name ≡ true
at_name name = (bytes_eq-Decides name name).1 refl

pub not_at : (temporary name : List ℕ) → temporary ≢ name → place_of name temporary ≡ false
not_at temporary name apart = false_from_ne_true (bytes_eq temporary name) (λ e. apart ((bytes_eq-Decides temporary name).0 e))

not_here : (made temporary other : List ℕ) → made ≡ temporary → temporary ≢ other → place_of other made ≡ true → ⊥
not_here made temporary other is apart here = let e : true ≡ false = sym here ∙ not_at made other (λ same. apart (sym is ∙ same)) in cc

-- a call of a replacement leaves them
call_kept : (temporary name other : List ℕ) (whole : List ℕ → Type 0) (call : NameEvent) (calls : NameCalls) → temporary ≢ other → name ≢ other → IsOfReplacing temporary name whole call → (first held : Option (List ℕ)) → MayHave (place_of other) first (call ∷ calls) held → MayHave (place_of other) first calls held
call_kept t n other whole (name_call.Made asked, made, two, file) calls at an is first held (inl here) = absurd (not_here made t other is at here.0)
call_kept t n other whole (name_call.Made asked, made, two, file) calls at an is first held (inr there) = there
call_kept t n other whole (Removed, gone, two, file) calls at an is first held (inl here) = absurd (not_here gone t other is at here.0)
call_kept t n other whole (Removed, gone, two, file) calls at an is first held (inr there) = there
call_kept t n other whole (NotRemoved, gone, two, file) calls at an is first held (inl here) = absurd (not_here gone t other is at here.0)
call_kept t n other whole (NotRemoved, gone, two, file) calls at an is first held (inr there) = there
call_kept t n other whole (Renamed len, from, to, file) calls at an is first held (inl here) = absurd (not_here to n other is.to_is an here.0)
call_kept t n other whole (Renamed len, from, to, file) calls at an is first held (inr (inl gone)) = absurd (not_here from t other is.from_is at gone.0)
call_kept t n other whole (Renamed len, from, to, file) calls at an is first held (inr (inr there)) = there
call_kept t n other whole (NotRenamed len fault, from, to, file) calls at an is first held (inl here) = absurd (not_here to n other is.to_is an here.0)
call_kept t n other whole (NotRenamed len fault, from, to, file) calls at an is first held (inr (inl gone)) = absurd (not_here from t other is.from_is at gone.0)
call_kept t n other whole (NotRenamed len fault, from, to, file) calls at an is first held (inr (inr there)) = there
call_kept t n other whole (Synced, one, two, file) calls at an is first held h = h.0
call_kept t n other whole (call, one, two, file) calls at an is first held h = h

-- so do all, and at each moment
calls_kept : (temporary name : List ℕ) (whole : List ℕ → Type 0) (since old : NameCalls) → AllByRecursion (IsOfReplacing temporary name whole) since → KeepsOthers temporary name old (since ++ old)
calls_kept t n whole [] old all = λ other at an first held h. h
calls_kept t n whole (call ∷ since) old all = λ other at an first held h.
    calls_kept t n whole since old all.1 other at an first held (call_kept t n other whole call (since ++ old) at an all.0 first held h)

others_kept : (temporary name : List ℕ) (whole : List ℕ → Type 0) (since old : NameCalls) → AllByRecursion (IsOfReplacing temporary name whole) since → AtEach (KeepsOthers temporary name old) since old
others_kept t n whole [] old all = λ other at an first held h. h
others_kept t n whole (call ∷ since) old all = (calls_kept t n whole (call ∷ since) old all, others_kept t n whole since old all.1)

-- without a rename the name is left too
unrenamed_kept : (temporary name : List ℕ) (whole : List ℕ → Type 0) (call : NameEvent) (calls : NameCalls) → temporary ≢ name → IsOfReplacing temporary name whole call → IsNoFailedRename call → renames (call ∷ calls) ≡ 0 → (first : Option (List ℕ))
    → (renames calls ≡ 0) × ((held : Option (List ℕ)) → MayHave (place_of name) first (call ∷ calls) held → MayHave (place_of name) first calls held)
unrenamed_kept t n whole (name_call.Made asked, made, two, file) calls apart is tried none first = (none, λ held h. elim h [ inl here ↦ absurd (not_here made t n is apart here.0) | inr there ↦ there ])
unrenamed_kept t n whole (Removed, gone, two, file) calls apart is tried none first = (none, λ held h. elim h [ inl here ↦ absurd (not_here gone t n is apart here.0) | inr there ↦ there ])
unrenamed_kept t n whole (NotRemoved, gone, two, file) calls apart is tried none first = (none, λ held h. elim h [ inl here ↦ absurd (not_here gone t n is apart here.0) | inr there ↦ there ])
unrenamed_kept t n whole (Renamed len, from, to, file) calls apart is tried none first = absurd (omega (arith, none))
unrenamed_kept t n whole (NotRenamed len fault, from, to, file) calls apart is tried none first = absurd tried
unrenamed_kept t n whole (Synced, one, two, file) calls apart is tried none first = (none, λ held h. h.0)
unrenamed_kept t n whole (call, one, two, file) calls apart is tried none first = (none, λ held h. h)

all_unrenamed : (temporary name : List ℕ) (whole : List ℕ → Type 0) (since old : NameCalls) → temporary ≢ name → AllByRecursion (IsOfReplacing temporary name whole) since → AllByRecursion IsNoFailedRename (since ++ old) → renames (since ++ old) ≡ 0
    → (first held : Option (List ℕ)) → MayHave (place_of name) first (since ++ old) held → MayHave (place_of name) first old held
all_unrenamed t n whole [] old apart all tried none first held h = h
all_unrenamed t n whole (call ∷ since) old apart all tried none first held h =
    let one = unrenamed_kept t n whole call (since ++ old) apart all.0 tried.0 none first in
    all_unrenamed t n whole since old apart all.1 tried.1 one.0 first held (one.1 held h)

keeps_name : (temporary name : List ℕ) (whole : List ℕ → Type 0) (old new : NameCalls) → temporary ≢ name → AreOfReplacing temporary name whole old new → renames new ≡ 0 → KeepsName name old new
keeps_name t n whole old new apart calls none = λ tried first held h.
    all_unrenamed t n whole calls.since old apart calls.each (subst (AllByRecursion IsNoFailedRename) calls.calls tried) (sym (ap renames calls.calls) ∙ none) first held (subst (λ c. MayHave (place_of n) first c held) calls.calls h)

-- ---- at each moment

pub each_weaker : (P Q : NameCalls → Type 0) (since old : NameCalls) → ((now : NameCalls) → P now → Q now) → AtEach P since old → AtEach Q since old
each_weaker P Q [] old go h = go old h
each_weaker P Q (call ∷ since) old go h = (go (call ∷ (since ++ old)) h.0, each_weaker P Q since old go h.1)

new_is : {F I J : Type 0} (f : Ghosts F) (m : Making F I J) (back : Option F) (x : Option (List ℕ)) (files : List (Option (List ℕ))) (input : List ℕ) (held : Option (List ℕ)) → BaseHas f back x → InputsAgree files input m.inputs → IsNew (IsDatabase f m back) held → (held ≡ Some (made_file m.word (made_here m x files input))) × ((made_here m x files input).result ≡ Ok tt)
new_is f m back x files input None has known h = absurd h
new_is f m back x files input (Some b) has known h =
    let d = database_is f m back x files input b has known h in
    (ap (λ (z : List ℕ). Some z) d.0, d.1)

one_moment : {F I J : Type 0} (f : Ghosts F) (m : Making F I J) (back : Option F) (x : Option (List ℕ)) (files : List (Option (List ℕ))) (input temporary name : List ℕ) (old now : NameCalls) → temporary ≢ name → BaseHas f back x → InputsAgree files input m.inputs
    → LeavesOldOrNew temporary name (IsDatabase f m back) old now → LeavesOldOrMade m.word name (made_here m x files input) old now
one_moment f m back x files input temporary name old now apart has known h = λ first held may.
    let other = not_at temporary name apart in
    elim (h (place_of name) (at_name name) (λ _. other) first held may) as (λ _. MayHave (place_of name) first old held ⊎ ((held ≡ Some (made_file m.word (made_here m x files input))) × ((made_here m x files input).result ≡ Ok tt))) [
      | inl was ↦ inl was
      | inr (inl new) ↦ inr (new_is f m back x files input held has known new)
      | inr (inr both) ↦ absurd (let e : true ≡ false = sym both.0 ∙ other in cc)
    ]

-- ---- the file that was renamed

heads : (x y : NameEvent) (xs ys : NameCalls) → x ∷ xs ≡ y ∷ ys → x ≡ y
heads x y xs ys e = cc

tails : (x y : NameEvent) (xs ys : NameCalls) → x ∷ xs ≡ y ∷ ys → xs ≡ ys
tails x y xs ys e = cc

left_file : (len : ℕ) (file : Calls) (held : Option (List ℕ)) → LeavesFile len file held → IsSynced file → (b : List ℕ) × (held ≡ Some b) × FileImage len file b
left_file len file None h synced = absurd h
left_file len file (Some b) h synced = (b, refl, h synced)

-- it was synced
ready_in : (temporary name : List ℕ) (whole : List ℕ → Type 0) (sync : NameCall) (len : ℕ) (file : Calls) (since old before : NameCalls) → renames old ≡ 0 → ((calls : NameCalls) → renames ((sync, name, [], []) ∷ calls) ≡ renames calls)
    → since ++ old ≡ (sync, name, [], []) ∷ (Renamed len, temporary, name, file) ∷ before → AllByRecursion (IsOfReplacing temporary name whole) since → IsReady temporary name whole len temporary name file
ready_in t n whole sync len file [] old before none plain e each = absurd (let h : renames old ≡ renames before + 1 = ap renames e ∙ plain ((Renamed len, t, n, file) ∷ before) in omega (arith, h, none))
ready_in t n whole sync len file (x ∷ []) old before none plain e each =
    let tail : old ≡ (Renamed len, t, n, file) ∷ before = tails x (sync, n, [], []) old ((Renamed len, t, n, file) ∷ before) e in
    absurd (let h : renames old ≡ renames before + 1 = ap renames tail in omega (arith, h, none))
ready_in t n whole sync len file (x ∷ y ∷ since) old before none plain e each =
    let tail : y ∷ (since ++ old) ≡ (Renamed len, t, n, file) ∷ before = tails x (sync, n, [], []) (y ∷ (since ++ old)) ((Renamed len, t, n, file) ∷ before) e in
    subst (IsOfReplacing t n whole) (heads y (Renamed len, t, n, file) (since ++ old) before tail) each.1.0

-- what the name has then
renamed_has : (temporary name : List ℕ) (sync : NameCall) (len : ℕ) (file : Calls) (before : NameCalls) (first held : Option (List ℕ)) → (Has (place_of name) first ((sync, name, [], []) ∷ (Renamed len, temporary, name, file) ∷ before) held → Has (place_of name) first ((Renamed len, temporary, name, file) ∷ before) held) → IsSynced file
    → Has (place_of name) first ((sync, name, [], []) ∷ (Renamed len, temporary, name, file) ∷ before) held → (b : List ℕ) × (held ≡ Some b) × FileImage len file b
renamed_has t n sync len file before first held passes synced h = elim (passes h) [
  | inl to ↦ left_file len file held to.1 synced
  | inr other ↦ absurd (let e : true ≡ false = sym (at_name n) ∙ other.0 in cc)
]

-- ---- the run

-- its bytes, its answer and its lines
run_is : {F I J : Type 0} (f : Ghosts F) (m : Making F I J) (back : Option F) (x : Option (List ℕ)) (files : List (Option (List ℕ))) (input : List ℕ) (images : List ℕ → Type 0) (b : List ℕ) (told said : Option (List ℕ)) (built : Result Unit Fault) → BaseHas f back x → InputsAgree files input m.inputs → images b → IsMakeRun f m back images told said built
    → ComesOf m.word m.options (made_here m x files input) images told said built
run_is f m back x files input images b told said built has known is h =
    of_known f back x (λ y. ComesOf m.word m.options (made_here m y files input) images told said built) has ((making_comes f m back files input images told said built known h.hands h.runs).each b is)

made_ok : (w : ℕ) (o : RunOptions) (made : Made) (images : List ℕ → Type 0) (b : List ℕ) (held told said : Option (List ℕ)) → images b → held ≡ Some b → ComesOf w o made images told said (Ok tt) → HasMade w o made told said held
made_ok w o made images b held told said is e (inl so) = record { file = e ∙ ap (λ (z : List ℕ). Some z) (so.file.each b is); result = sym so.is; lines = λ plain. tells_plain o.names made.told told said plain so.lines }
made_ok w o made images b held told said is e (inr refused) = absurd (let no : ◌≡◌ {A = Result Unit Fault} (Ok tt) (Err refused.fault) = refused.is in cc)

-- ---- it ended well

built_ok : (built : Result Unit Fault) → BuilderAnswers built (Ok tt) → built ≡ Ok tt
built_ok (Ok done) h = refl
built_ok (Err fault) h = absurd (let no : ◌≡◌ {A = Result Unit (ReplaceFault Fault)} (Ok tt) (Err (replace.Build fault)) = h in cc)

pub ran_ok : {F I J : Type 0} (f : Ghosts F) (m : Making F I J) (back : Option F) (x : Option (List ℕ)) (files : List (Option (List ℕ))) (input : List ℕ) (images : List ℕ → Type 0) (b : List ℕ) (held told said : Option (List ℕ)) → BaseHas f back x → InputsAgree files input m.inputs → images b → held ≡ Some b → IsBufferedRun f m back images told said (Ok tt)
    → HasMade m.word m.options (made_here m x files input) told said held
ran_ok f m back x files input images b held told said has known is e (inl ran) = made_ok m.word m.options (made_here m x files input) images b held told said is e (run_is f m back x files input images b told said (Ok tt) has known is ran)
ran_ok f m back x files input images b held told said has known is e (inr none) = absurd (let no : ◌≡◌ {A = Result Unit Fault} (Ok tt) (Err NoMemory) = none.1 in cc)

abbrev FileTold : {F I J R : Type 0} → Ghosts F → Raw R → Making F I J → (temporary name : List ℕ) (old new : NameCalls) → Option F → (told said : Option (List ℕ)) → Result Unit (ReplaceFault Fault) → Type 0
FileTold f r m temporary name old new back told said answer = TellsOfFile r (λ base before after images made. IsBufferedRun f m base images before after made) temporary name old new back told said answer

with_sync : {F I J R : Type 0} (f : Ghosts F) (r : Raw R) (m : Making F I J) (back : Option F) (x : Option (List ℕ)) (files : List (Option (List ℕ))) (input temporary name : List ℕ) (old new before : NameCalls) (first held told said : Option (List ℕ)) (sync : NameCall) → renames old ≡ 0 → BaseHas f back x → InputsAgree files input m.inputs
    → AreOfReplacing temporary name (IsDatabase f m back) old new → (t : FileTold f r m temporary name old new back told said (Ok tt))
    → new ≡ (sync, name, [], []) ∷ (Renamed t.sealed.len, temporary, name, calls_of t.sealed) ∷ before → ((calls : NameCalls) → renames ((sync, name, [], []) ∷ calls) ≡ renames calls)
    → ((calls : NameCalls) → Has (place_of name) first ((sync, name, [], []) ∷ calls) held → Has (place_of name) first calls held) → Has (place_of name) first new held → HasMade m.word m.options (made_here m x files input) told said held
with_sync f r m back x files input temporary name old new before first held told said sync none has known calls t e plain passes h =
    let file = calls_of t.sealed in
    let len = t.sealed.len in
    let ready = ready_in temporary name (IsDatabase f m back) sync len file calls.since old before none plain (sym calls.calls ∙ e) calls.each in
    let got = renamed_has temporary name sync len file before first held (passes ((Renamed len, temporary, name, file) ∷ before)) ready.synced (subst (λ c. Has (place_of name) first c held) e h) in
    ran_ok f m back x files input (images_of t.left) got.0 held told said has known (t.same.no_other got.0 got.2) got.1
    (subst (IsBufferedRun f m back (images_of t.left) told said) (built_ok t.built t.answers) t.tells_so)

replaced_ok : {F I J R : Type 0} (f : Ghosts F) (r : Raw R) (m : Making F I J) (back : Option F) (x : Option (List ℕ)) (files : List (Option (List ℕ))) (input temporary name : List ℕ) (old new : NameCalls) (told said : Option (List ℕ)) → renames old ≡ 0 → BaseHas f back x → InputsAgree files input m.inputs
    → AreOfReplacing temporary name (IsDatabase f m back) old new → IsRenamed temporary name new → FileTold f r m temporary name old new back told said (Ok tt)
    → (first held : Option (List ℕ)) → Has (place_of name) first new held → HasMade m.word m.options (made_here m x files input) told said held
replaced_ok f r m back x files input temporary name old new told said none has known calls renamed t first held h =
    let is = t.renamed in
    let one : NameEvent = (is.sync, name, [], []) in
    let two : NameEvent = (renamed.sync, name, [], []) in
    let same : is.sync ≡ renamed.sync = ap (λ (z : NameEvent). z.0) (heads one two _ _ (sym is.are ∙ renamed.are)) in
    elim renamed.is_sync as (λ _. HasMade m.word m.options (made_here m x files input) told said held) [
      | inl e ↦ with_sync f r m back x files input temporary name old new is.before first held told said Synced none has known calls t (is.are ∙ ap (λ (s : NameCall). (s, name, [], []) ∷ (Renamed t.sealed.len, temporary, name, calls_of t.sealed) ∷ is.before) (same ∙ e)) (λ c. refl) (λ c k. k) h
      | inr e ↦ with_sync f r m back x files input temporary name old new is.before first held told said NotSynced none has known calls t (is.are ∙ ap (λ (s : NameCall). (s, name, [], []) ∷ (Renamed t.sealed.len, temporary, name, calls_of t.sealed) ∷ is.before) (same ∙ e)) (λ c. refl) (λ c k. k) h
    ]

-- ---- it failed

may_be : (f : Fault) → IsMakeRefusal f → MayGiveUpCreate f
may_be Open h = tt
may_be Rename h = tt
may_be f h = h

same_fault : (f g : Fault) → ◌≡◌ {A = Result Unit Fault} (Err f) (Err g) → f ≡ g
same_fault f g e = cc

pub none_appended : (told said : Option (List ℕ)) → Keeps told said → Appends told said []
none_appended None said k = tt
none_appended (Some xs) None k = absurd k
none_appended (Some xs) (Some ys) k = k ∙ sym (append-nil xs)

pub whole_lines : (old new : Option (List ℕ)) (xs : List ℕ) → Appends old new xs → AppendsPrefix old new xs
whole_lines old new xs a = record { front = xs; more = []; split = sym (append-nil xs); appended = a }

pub said_nothing : (told said : Option (List ℕ)) (lines : List ℕ) → Keeps told said → AppendsPrefix told said lines
said_nothing told said lines k = record { front = []; more = lines; split = refl; appended = none_appended told said k }

ended_so : (w : ℕ) (o : RunOptions) (made : Made) (images : List ℕ → Type 0) (told said : Option (List ℕ)) (f : Fault) → ComesOf w o made images told said (Err f) → EndsSo o made told said (Err f) ⊎ WasRefused o made told said f
ended_so w o made images told said f (inl so) = inl (record { is = so.is; lines = λ plain. tells_plain o.names made.told told said plain so.lines })
ended_so w o made images told said f (inr refused) =
    let same : f ≡ refused.fault = same_fault f refused.fault refused.is in
    inr (record { refusal = may_be f (subst IsMakeRefusal (sym same) refused.refusal); lines = λ plain. part_plain o.names made.told told said plain refused.lines })

pub ran_err : {F I J : Type 0} (f : Ghosts F) (m : Making F I J) (back : Option F) (x : Option (List ℕ)) (files : List (Option (List ℕ))) (input : List ℕ) (images : List ℕ → Type 0) (b : List ℕ) (told said : Option (List ℕ)) (fault : Fault) → BaseHas f back x → InputsAgree files input m.inputs → images b → IsBufferedRun f m back images told said (Err fault)
    → EndsSo m.options (made_here m x files input) told said (Err fault) ⊎ WasRefused m.options (made_here m x files input) told said fault
ran_err f m back x files input images b told said fault has known is (inl ran) = ended_so m.word m.options (made_here m x files input) images told said fault (run_is f m back x files input images b told said (Err fault) has known is ran)
ran_err f m back x files input images b told said fault has known is (inr none) =
    inr (record { refusal = subst MayGiveUpCreate (sym (same_fault fault NoMemory none.1)) tt; lines = λ plain. said_nothing told said _ none.2 })

-- all lines of what was built
ran_lines : {F I J : Type 0} (f : Ghosts F) (m : Making F I J) (back : Option F) (x : Option (List ℕ)) (files : List (Option (List ℕ))) (input : List ℕ) (images : List ℕ → Type 0) (b : List ℕ) (told said : Option (List ℕ)) → BaseHas f back x → InputsAgree files input m.inputs → images b → IsBufferedRun f m back images told said (Ok tt)
    → IsPlain m.options → AppendsPrefix told said (made_lines (made_here m x files input))
ran_lines f m back x files input images b told said has known is ran plain =
    whole_lines told said _ ((ran_ok f m back x files input images b (Some b) told said has known is refl ran).lines plain)

refusal_of : (e : ReplaceFault Fault) → BuilderAnswers (Ok tt) (Err e) → MayGiveUpCreate (fault_of e)
refusal_of (replace.Build fault) h = absurd h
refusal_of e h = tt

unbuilt_refusal : (temporary name : List ℕ) (old new : NameCalls) (e : ReplaceFault Fault) → StopsUnbuilt temporary name old new e → MayGiveUpCreate (fault_of e)
unbuilt_refusal t n old new replace.Write h = absurd h
unbuilt_refusal t n old new (replace.Build fault) h = absurd h
unbuilt_refusal t n old new e h = tt

answered_says : (O : Type 0) (built : Result Unit Fault) (answer : Result Unit (ReplaceFault Fault)) → BuilderAnswers built answer → OutputSays O built → OutputSays O (answer_of answer)
answered_says O (Ok done) (Ok all) is says = tt
answered_says O (Ok done) (Err replace.Open) is says = tt
answered_says O (Ok done) (Err replace.NoMemory) is says = tt
answered_says O (Ok done) (Err replace.Write) is says = tt
answered_says O (Ok done) (Err replace.Rename) is says = tt
answered_says O (Ok done) (Err (replace.Build fault)) is says = absurd is
answered_says O (Err fault) answer is says = subst (λ r. OutputSays O (answer_of r)) (sym is) says

unbuilt_says : (O : Type 0) (temporary name : List ℕ) (old new : NameCalls) (e : ReplaceFault Fault) → StopsUnbuilt temporary name old new e → OutputSays O (answer_of (Err e))
unbuilt_says O t n old new replace.Write h = absurd h
unbuilt_says O t n old new (replace.Build fault) h = absurd h
unbuilt_says O t n old new e h = tt

-- a replacement reports an output that failed if its builder does
pub replaced_says : {B R T : Type 0} (failed : T → Type 0) (r : Raw R) (gives_up : B → Type 0) (tells : B → T → T → (List ℕ → Type 0) → Result Unit Fault → Type 0) (t n : List ℕ) (old new : NameCalls) (back : B) (told said : T) (answer : Result Unit (ReplaceFault Fault))
    → ((images : List ℕ → Type 0) (made : Result Unit Fault) → tells back told said images made → OutputSays (failed said) made) → BuilderTells r gives_up tells t n old new back told said answer → OutputSays (failed said) (answer_of answer)
replaced_says failed r gives_up tells t n old new back told said answer says (inl none) = subst (λ a. OutputSays (failed said) (answer_of a)) (sym none.is) (unbuilt_says (failed said) t n old new none.fault none.stops)
replaced_says failed r gives_up tells t n old new back told said answer says (inr some) = answered_says (failed said) some.built answer some.answers (says (images_of some.left) some.built some.tells_so)

same_replace : (e g : ReplaceFault Fault) → ◌≡◌ {A = Result Unit (ReplaceFault Fault)} (Err e) (Err g) → e ≡ g
same_replace e g h = cc

-- the file that was cleared away had some image
some_image : {R : Type 0} (r : Raw R) (store : FileStore R r) (temporary : List ℕ) (old new : NameCalls) → HadBytes temporary new → ClearsFile temporary (calls_of store) old new → (b : List ℕ) × images_of store b
some_image r store temporary old new had cleared =
    let h = had (calls_of store) cleared.0 cleared.2 in
    let long = (store.long (store.known ∙ h.0)).each h.1.0 h.1.1 in
    (take store.len h.1.0, (h.1.0, h.1.1, long, refl))

built_err : {F I J R : Type 0} (f : Ghosts F) (r : Raw R) (m : Making F I J) (back : Option F) (x : Option (List ℕ)) (files : List (Option (List ℕ))) (input temporary name : List ℕ) (new : NameCalls) (told said : Option (List ℕ)) (e : ReplaceFault Fault) (built : Result Unit Fault) (images : List ℕ → Type 0) (b : List ℕ) → BaseHas f back x → InputsAgree files input m.inputs → images b
    → BuilderAnswers built (Err e) → IsBufferedRun f m back images told said built → EndsSo m.options (made_here m x files input) told said (Err (fault_of e)) ⊎ WasRefused m.options (made_here m x files input) told said (fault_of e)
built_err f r m back x files input temporary name new told said e (Ok done) images b has known is answers ran =
    inr (record { refusal = refusal_of e answers; lines = ran_lines f m back x files input images b told said has known is ran })
built_err f r m back x files input temporary name new told said e (Err fault) images b has known is answers ran =
    let same : e ≡ replace.Build fault = same_replace e (replace.Build fault) answers in
    subst (λ (g : ReplaceFault Fault). EndsSo m.options (made_here m x files input) told said (Err (fault_of g)) ⊎ WasRefused m.options (made_here m x files input) told said (fault_of g)) (sym same)
    (ran_err f m back x files input images b told said fault has known is ran)

replaced_err : {F I J R : Type 0} (f : Ghosts F) (r : Raw R) (m : Making F I J) (back : Option F) (x : Option (List ℕ)) (files : List (Option (List ℕ))) (input temporary name : List ℕ) (old new : NameCalls) (told said : Option (List ℕ)) (e : ReplaceFault Fault) → BaseHas f back x → InputsAgree files input m.inputs → HadBytes temporary new
    → BuilderTells r (λ base. base ≡ m.base) (λ base before after images made. IsBufferedRun f m base images before after made) temporary name old new back told said (Err e)
    → (EndsSo m.options (made_here m x files input) told said (Err (fault_of e)) × IsGone temporary new) ⊎ WasRefused m.options (made_here m x files input) told said (fault_of e)
replaced_err f r m back x files input temporary name old new told said e has known had (inl none) =
    let same : e ≡ none.fault = same_replace e none.fault none.is in
    inr (record {
      refusal = subst (λ (g : ReplaceFault Fault). MayGiveUpCreate (fault_of g)) (sym same) (unbuilt_refusal temporary name old new none.fault none.stops);
      lines = λ plain. said_nothing told said _ (subst (λ s. Keeps told s) (sym none.same) (Keeps-refl told));
    })
replaced_err f r m back x files input temporary name old new told said e has known had (inr t) =
    let image = some_image r t.sealed temporary old new had t.cleared in
    elim (built_err f r m back x files input temporary name new told said e t.built (images_of t.left) image.0 has known (t.same.no_other image.0 image.1) t.answers t.tells_so) [
      | inl ended ↦ inl (ended, (t.cleared.0, (calls_of t.sealed, t.cleared.2)))
      | inr refused ↦ inr refused
    ]

-- ---- a replacement

no_file : {F I J R : Type 0} (f : Ghosts F) (r : Raw R) (m : Making F I J) (temporary name : List ℕ) (old new : NameCalls) (back : Option F) (told said : Option (List ℕ)) → BuilderTells r (λ base. base ≡ m.base) (λ base before after images made. IsBufferedRun f m base images before after made) temporary name old new back told said (Ok tt)
    → FileTold f r m temporary name old new back told said (Ok tt)
no_file f r m temporary name old new back told said (inl none) = absurd (let no : ◌≡◌ {A = Result Unit (ReplaceFault Fault)} (Ok tt) (Err none.fault) = none.is in cc)
no_file f r m temporary name old new back told said (inr t) = t

renamed_part : (A B : Type 0) (answer : Result Unit (ReplaceFault Fault)) → OnOk answer (A × B) → OnOk answer A
renamed_part A B (Ok done) h = h.0
renamed_part A B (Err e) h = tt

if_failed : (A B : Type 0) (answer : Result Unit (ReplaceFault Fault)) → (A → B) → OnErr answer A → OnErr answer B
if_failed A B (Ok done) go h = tt
if_failed A B (Err e) go h = go h

-- what is said of each moment and of the other names, whatever it answers
record Moments (w : ℕ) (temporary name : List ℕ) (made : Made) (old new : NameCalls) : Type 0 where
  since : NameCalls
  calls : new ≡ since ++ old
  moments : AtEach (LeavesOldOrMade w name made old) since old
  others : AtEach (KeepsOthers temporary name old) since old

answered : {F I J R : Type 0} (f : Ghosts F) (r : Raw R) (m : Making F I J) (x : Option (List ℕ)) (files : List (Option (List ℕ))) (input temporary name : List ℕ) (old new : NameCalls) (back : Option F) (told said : Option (List ℕ)) (answer : Result Unit (ReplaceFault Fault)) → renames old ≡ 0 → BaseHas f back x → InputsAgree files input m.inputs
    → Moments m.word temporary name (made_here m x files input) old new → AreOfReplacing temporary name (IsDatabase f m back) old new → OnOk answer (IsRenamed temporary name new) → OnErr answer (KeepsName name old new)
    → BuilderTells r (λ base. base ≡ m.base) (λ base before after images made. IsBufferedRun f m base images before after made) temporary name old new back told said answer
    → ReplacesSo m.word m.options temporary name (made_here m x files input) old new told said (answer_of answer)
answered f r m x files input temporary name old new back told said (Ok done) none has known k calls renamed keeps lines = record {
  since = k.since;
  calls = k.calls;
  moments = k.moments;
  others = k.others;
  ok = replaced_ok f r m back x files input temporary name old new told said none has known calls renamed (no_file f r m temporary name old new back told said lines);
  renamed = renamed;
  unrenamed = tt;
  err = tt;
}
answered f r m x files input temporary name old new back told said (Err e) none has known k calls renamed keeps lines = record {
  since = k.since;
  calls = k.calls;
  moments = k.moments;
  others = k.others;
  ok = tt;
  renamed = tt;
  unrenamed = keeps;
  err = λ had. replaced_err f r m back x files input temporary name old new told said e has known had lines;
}

pub replaces_so : {F I J R : Type 0} {opened opens : OpenCalls} {start end : Option (List ℕ)} (f : Ghosts F) (r : Raw R) (m : Making F I J) (x : Option (List ℕ)) (files : List (Option (List ℕ))) (input temporary name : List ℕ) (old new : NameCalls) (back : Option F) (told said : Option (List ℕ)) (result : Result Unit Fault) → temporary ≢ name → renames old ≡ 0 → BaseHas f back x → InputsAgree files input m.inputs
    → Replaces f r m temporary name (state_of opened old start told) (state_of opens new end said) back result → ReplacesSo m.word m.options temporary name (made_here m x files input) old new told said result
replaces_so f r m x files input temporary name old new back told said result apart none has known h =
    let moments = h.moments in
    let same = append_cancel_right h.calls.since moments.since old (sym h.calls.calls ∙ moments.calls) in
    subst (ReplacesSo m.word m.options temporary name (made_here m x files input) old new told said) (sym h.answered)
    (answered f r m x files input temporary name old new back told said h.answer none has known
    (record {
      since = moments.since;
      calls = moments.calls;
      moments = each_weaker _ _ moments.since old (λ now k. one_moment f m back x files input temporary name old now apart has known k) moments.each;
      others = others_kept temporary name (IsDatabase f m back) moments.since old (subst (AllByRecursion (IsOfReplacing temporary name (IsDatabase f m back))) same h.calls.each);
    })
    h.calls (renamed_part _ _ h.answer h.ok) (if_failed _ _ h.answer (λ same. keeps_name temporary name (IsDatabase f m back) old new apart h.calls (same ∙ none)) h.unrenamed) h.lines)
