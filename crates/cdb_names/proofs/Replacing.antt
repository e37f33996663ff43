-- The calls of a replacement, one after the other, and what a crash between them leaves.
use Rattle.std.proofs.Common.{◌≡◌, ℕ, ◌⊎◌, inl, inr, List, [], ◌∷◌, ◌++◌, Option, None, Some, Bool, true, false, cond, refl, sym, ◌∙◌, ap, subst, append_assoc}
use Rattle.std.specs.List.{AllByRecursion}
use Rattle.std.proofs.lemmas.Bool.{false≢true}
use Rattle.cdb_store.specs.Calls.{Calls, IsSynced, FileImage}
use Rattle.cdb_names.specs.declared.name_trace.NameCall.{NameCall}
use Rattle.cdb_names.specs.declared.name_trace.NameCall.TheVariants.{Made, Bits, Seen, Set}
use Rattle.cdb_names.specs.declared.name_trace.NameCall.TheVariants.{Removed, NotRemoved, Renamed, NotRenamed, Synced, NotSynced}
use Rattle.cdb_names.specs.declared.shown.Shown.{Shown}
use Rattle.cdb_names.specs.Folder.{NameCalls, IsRemoval, IsCleared, MayHave, Has, LeavesFile, AreNamesApart, MayRemove, IsGuarded, EachIsGuarded, AreGuarded}
use Rattle.cdb_names.specs.Replacing.{NameEvent, IsReady, IsOfReplacing, AreOfReplacing, EachIsStep, AreSteps, AtEach, AtEachMoment, IsNew, IsTrueOf, LeavesOldOrNew, LeavesNew}

-- ---- steps

pub no_step : {t n : List ℕ} {whole : List ℕ → Type 0} (calls : NameCalls) → AreSteps t n whole calls calls
no_step calls = record { since = []; calls = refl; each = tt }

pub step : {t n : List ℕ} {whole : List ℕ → Type 0} {old mid : NameCalls} (new : NameCalls) (call : NameEvent)
    → AreSteps t n whole old mid → new ≡ call ∷ mid → IsOfReplacing t n whole call → IsGuarded n call mid
    → AreSteps t n whole old new
step {n = n} new call are is may guarded =
    record {
      since = call ∷ are.since;
      calls = is ∙ ap (λ cs. call ∷ cs) are.calls;
      each = (may, subst (λ (cs : NameCalls). IsGuarded n call cs) are.calls guarded, are.each);
    }

-- the same of a file known by its length and its calls
pub of_file : {P : List ℕ → Type 0} (len n : ℕ) (calls file : Calls) → n ≡ len → file ≡ calls
    → ((b : List ℕ) → FileImage len calls b → P b) → (b : List ℕ) → FileImage n file b → P b
of_file len n calls file same_len same all b is =
    all b (subst (λ (cs : Calls). FileImage len cs b) same (subst (λ (m : ℕ). FileImage m file b) same_len is))

weaker_one : (t n : List ℕ) {P Q : List ℕ → Type 0} → ((b : List ℕ) → P b → Q b) → (call : NameEvent)
    → IsOfReplacing t n P call → IsOfReplacing t n Q call
weaker_one t n f (Renamed len, from, to, file) r =
    record { from_is = r.from_is; to_is = r.to_is; synced = r.synced; is_whole = λ b is. f b (r.is_whole b is) }
weaker_one t n f (NotRenamed len fault, from, to, file) r =
    record { from_is = r.from_is; to_is = r.to_is; synced = r.synced; is_whole = λ b is. f b (r.is_whole b is) }
weaker_one t n f (Made asked, one, other, file) r = r
weaker_one t n f (Removed, one, other, file) r = r
weaker_one t n f (NotRemoved, one, other, file) r = r
weaker_one t n f other_case r = tt

weaker_all : (t n : List ℕ) {P Q : List ℕ → Type 0} → ((b : List ℕ) → P b → Q b) → (since old : NameCalls)
    → EachIsStep t n P since old → EachIsStep t n Q since old
weaker_all t n f [] old all = tt
weaker_all t n f (call ∷ since) old all = (weaker_one t n f call all.0, all.1, weaker_all t n f since old all.2)

both : (t n : List ℕ) (P : List ℕ → Type 0) (more since old : NameCalls) → EachIsStep t n P more (since ++ old)
    → EachIsStep t n P since old → EachIsStep t n P (more ++ since) old
both t n P [] since old each before = before
both t n P (call ∷ more) since old each before =
    (each.0, subst (λ (cs : NameCalls). IsGuarded n call cs) (sym (append_assoc more since old)) each.1, both t n P more since old each.2 before)

-- what a weaker claim allows is allowed, and what follows it is too
pub go_on : {t n : List ℕ} {P Q : List ℕ → Type 0} {old mid new : NameCalls} → ((b : List ℕ) → P b → Q b)
    → AreSteps t n Q old mid → AreSteps t n P mid new → AreSteps t n Q old new
go_on {t = t} {n = n} {Q = Q} {old = old} f are more =
    record {
      since = more.since ++ are.since;
      calls = more.calls ∙ ap (λ cs. more.since ++ cs) are.calls ∙ sym (append_assoc more.since are.since old);
      each = both t n Q more.since are.since old (subst (λ (cs : NameCalls). EachIsStep t n Q more.since cs) are.calls (weaker_all t n f more.since _ more.each)) are.each;
    }

pub weaker : {t n : List ℕ} {P Q : List ℕ → Type 0} {old new : NameCalls} → ((b : List ℕ) → P b → Q b)
    → AreSteps t n P old new → AreSteps t n Q old new
weaker {t = t} {n = n} {old = old} f are = record { since = are.since; calls = are.calls; each = weaker_all t n f are.since old are.each }

each_of_replacing : (t n : List ℕ) (P : List ℕ → Type 0) (since old : NameCalls) → EachIsStep t n P since old
    → AllByRecursion (IsOfReplacing t n P) since
each_of_replacing t n P [] old all = tt
each_of_replacing t n P (call ∷ since) old all = (all.0, each_of_replacing t n P since old all.2)

pub are_of_replacing : {t n : List ℕ} {P : List ℕ → Type 0} {old new : NameCalls} → AreSteps t n P old new
    → AreOfReplacing t n P old new
are_of_replacing {t = t} {n = n} {P = P} {old = old} are =
    record { since = are.since; calls = are.calls; each = each_of_replacing t n P are.since old are.each }

each_guarded : (t n : List ℕ) (P : List ℕ → Type 0) (since old : NameCalls) → EachIsStep t n P since old
    → EachIsGuarded n since old
each_guarded t n P [] old all = tt
each_guarded t n P (call ∷ since) old all = (all.1, each_guarded t n P since old all.2)

pub are_guarded : {t n : List ℕ} {P : List ℕ → Type 0} {old new : NameCalls} → AreSteps t n P old new
    → AreGuarded n old new
are_guarded {t = t} {n = n} {P = P} {old = old} are =
    record { since = are.since; calls = are.calls; each = each_guarded t n P are.since old are.each }

-- what the rename leaves under the name is the file, whole
new_file : {t n : List ℕ} {whole : List ℕ → Type 0} {len : ℕ} {from to : List ℕ} {file : Calls}
    (held : Option (List ℕ)) → IsReady t n whole len from to file → LeavesFile len file held
    → IsNew whole held
new_file None ready leaves = leaves
new_file (Some b) ready leaves = ready.is_whole b (leaves ready.synced)

-- a crash leaves the old or the new, unless the temporary name leads to the place too
abbrev Keeps : (place : List ℕ → Bool) (t : List ℕ) (whole : List ℕ → Type 0) (old now : NameCalls) → Type 0
Keeps place t whole old now = (first held : Option (List ℕ)) → MayHave place first now held
    → MayHave place first old held ⊎ IsNew whole held ⊎ (place t ≡ true)

-- a call that a replacement may make keeps what a crash leaves
keeps : {t : List ℕ} {whole : List ℕ → Type 0} (n : List ℕ) (place : List ℕ → Bool) (old now : NameCalls) (call : NameEvent)
    → IsOfReplacing t n whole call → Keeps place t whole old now → Keeps place t whole old (call ∷ now)
keeps n place old now (Made asked, one, other, file) may before first held (inl is) = inr (inr (subst (λ name. place name ≡ true) may is.0))
keeps n place old now (Made asked, one, other, file) may before first held (inr was) = before first held was
keeps n place old now (Removed, one, other, file) may before first held (inl is) = inr (inr (subst (λ name. place name ≡ true) may is.0))
keeps n place old now (Removed, one, other, file) may before first held (inr was) = before first held was
keeps n place old now (NotRemoved, one, other, file) may before first held (inl is) = inr (inr (subst (λ name. place name ≡ true) may is.0))
keeps n place old now (NotRemoved, one, other, file) may before first held (inr was) = before first held was
keeps n place old now (Renamed len, from, to, file) may before first held (inl is) = inr (inl (new_file held may is.1))
keeps n place old now (Renamed len, from, to, file) may before first held (inr (inl is)) = inr (inr (subst (λ name. place name ≡ true) may.from_is is.0))
keeps n place old now (Renamed len, from, to, file) may before first held (inr (inr was)) = before first held was
keeps n place old now (NotRenamed len fault, from, to, file) may before first held (inl is) = inr (inl (new_file held may is.1))
keeps n place old now (NotRenamed len fault, from, to, file) may before first held (inr (inl is)) = inr (inr (subst (λ name. place name ≡ true) may.from_is is.0))
keeps n place old now (NotRenamed len fault, from, to, file) may before first held (inr (inr was)) = before first held was
keeps n place old now (Synced, one, other, file) may before first held is = before first held is.0
keeps n place old now call may before first held was = before first held was

all_keep : (t n : List ℕ) (whole : List ℕ → Type 0) (place : List ℕ → Bool) (old since : NameCalls)
    → AllByRecursion (IsOfReplacing t n whole) since → Keeps place t whole old (since ++ old)
all_keep t n whole place old [] all = λ first held was. inl was
all_keep t n whole place old (call ∷ since) all =
    keeps n place old (since ++ old) call all.0 (all_keep t n whole place old since all.1)

unseen : (t n : List ℕ) (whole : List ℕ → Type 0) (place : List ℕ → Bool) (old now : NameCalls) (first held : Option (List ℕ))
    → IsTrueOf place t n now → MayHave place first old held ⊎ IsNew whole held ⊎ (place t ≡ true)
    → MayHave place first old held ⊎ IsNew whole held ⊎ ((place t ≡ true) × (AreNamesApart t n now → ⊥))
unseen t n whole place old now first held is_true (inl was) = inl was
unseen t n whole place old now first held is_true (inr (inl new)) = inr (inl new)
unseen t n whole place old now first held is_true (inr (inr leads)) = inr (inr (leads, λ seen. false≢true (sym (is_true seen) ∙ leads)))

leaves : (t n : List ℕ) (whole : List ℕ → Type 0) (old now : NameCalls)
    → ((place : List ℕ → Bool) → Keeps place t whole old now) → LeavesOldOrNew t n whole old now
leaves t n whole old now all place leads is_true first held may =
    unseen t n whole place old now first held is_true (all place first held may)

each_of : (t n : List ℕ) (whole : List ℕ → Type 0) (old since : NameCalls)
    → AllByRecursion (IsOfReplacing t n whole) since → AtEach (LeavesOldOrNew t n whole old) since old
each_of t n whole old [] all = λ place leads is_true first held was. inl was
each_of t n whole old (call ∷ since) all =
    (leaves t n whole old (call ∷ (since ++ old)) (λ place. all_keep t n whole place old (call ∷ since) all), each_of t n whole old since all.1)

-- a crash at any moment leaves the old file or the new one
pub at_each_moment : {t n : List ℕ} {whole : List ℕ → Type 0} {old new : NameCalls}
    → AreOfReplacing t n whole old new → AtEachMoment (LeavesOldOrNew t n whole old) old new
at_each_moment {t = t} {n = n} {whole = whole} {old = old} are =
    record { since = are.since; calls = are.calls; each = each_of t n whole old are.since are.each }

-- the sync of the folder leaves what the name has
has_new : {t n : List ℕ} {whole : List ℕ → Type 0} (place : List ℕ → Bool) → place n ≡ true → (len : ℕ) (file : Calls)
    (mid : NameCalls) → IsReady t n whole len t n file → (first held : Option (List ℕ))
    → Has place first ((Renamed len, t, n, file) ∷ mid) held → IsNew whole held
has_new place leads len file mid ready first held (inl is) = new_file held ready is.1
has_new place leads len file mid ready first held (inr not) = absurd (false≢true (sym not.0 ∙ leads))

-- the newest call is that the folder was synced
is_synced : NameCalls → Bool
is_synced ((Synced, one, other, file) ∷ calls) = true
is_synced _ = false

pub ready : {t n : List ℕ} {whole : List ℕ → Type 0} (len : ℕ) (file : Calls) → IsSynced file
    → ((b : List ℕ) → FileImage len file b → whole b) → IsReady t n whole len t n file
ready len file is all = record { from_is = refl; to_is = refl; synced = is; is_whole = all }

pub sure : {n : List ℕ} {whole : List ℕ → Type 0} (t : List ℕ) (len : ℕ) (file : Calls) (mid named now : NameCalls) (r : Bool)
    → IsReady t n whole len t n file → named ≡ (Renamed len, t, n, file) ∷ mid
    → now ≡ (cond r Synced NotSynced, n, [], []) ∷ named → LeavesNew n whole now
unfolding is_synced
sure {n = n} t len file mid named now true all is after_is place leads before newest_is first held may =
    let after = subst (λ (cs : NameCalls). MayHave place first cs held) after_is may in
    has_new place leads len file mid all first held (subst (λ (cs : NameCalls). Has place first cs held) is (after.1 leads))
sure {n = n} t len file mid named now false all is after_is place leads before newest_is first held may =
    absurd (false≢true (ap is_synced (sym after_is ∙ newest_is)))

weaker_new : {P Q : List ℕ → Type 0} → ((b : List ℕ) → P b → Q b) → (held : Option (List ℕ)) → IsNew P held → IsNew Q held
weaker_new f None new = new
weaker_new f (Some b) new = f b new

pub weaker_sure : (n : List ℕ) {P Q : List ℕ → Type 0} (now : NameCalls) → ((b : List ℕ) → P b → Q b) → LeavesNew n P now
    → LeavesNew n Q now
weaker_sure n now f leaves place leads before is first held may = weaker_new f held (leaves place leads before is first held may)

-- ---- the calls of a replacement

removal : (t n : List ℕ) (whole : List ℕ → Type 0) (file : Calls) (call : NameCall) → IsRemoval call
    → IsOfReplacing t n whole (call, t, [], file)
removal t n whole file call (inl is) = subst (λ (g : NameCall). IsOfReplacing t n whole (g, t, [], file)) (sym is) refl
removal t n whole file call (inr is) = subst (λ (g : NameCall). IsOfReplacing t n whole (g, t, [], file)) (sym is) refl

removal_guarded : (t n : List ℕ) (mid : NameCalls) (file : Calls) (call : NameCall) → IsRemoval call → MayRemove t n mid
    → IsGuarded n (call, t, [], file) mid
removal_guarded t n mid file call (inl is) may = subst (λ (g : NameCall). IsGuarded n (g, t, [], file) mid) (sym is) may
removal_guarded t n mid file call (inr is) may = subst (λ (g : NameCall). IsGuarded n (g, t, [], file) mid) (sym is) may

-- the name was taken from a file
pub cleared : {t n : List ℕ} {whole : List ℕ → Type 0} {file : Calls} {old mid : NameCalls} (new : NameCalls)
    → AreSteps t n whole old mid → MayRemove t n mid → IsCleared t file mid new → AreSteps t n whole old new
cleared {t = t} {n = n} {whole = whole} {file = file} {mid = mid} new are may is =
    step new (is.0, t, [], file) are is.2 (removal t n whole file is.0 is.1) (removal_guarded t n mid file is.0 is.1 may)

pub synced : {t n : List ℕ} {whole : List ℕ → Type 0} {old mid : NameCalls} (new : NameCalls) (r : Bool)
    → AreSteps t n whole old mid → new ≡ (cond r Synced NotSynced, n, [], []) ∷ mid → AreSteps t n whole old new
synced {n = n} new true are is = step new (Synced, n, [], []) are is tt tt
synced {n = n} new false are is = step new (NotSynced, n, [], []) are is tt tt

-- the old file was looked at, the system was requested to set them, and the file was looked at
pub set_seen : {t n : List ℕ} {whole : List ℕ → Type 0} {old : NameCalls} (mid set new : NameCalls) (held : Option (Option Shown)) (bits : ℕ) (last : Option Shown) (given file : Calls)
    → mid ≡ (Bits held, n, [], []) ∷ old → set ≡ (Set bits, t, [], given) ∷ mid → new ≡ (Seen last, t, [], file) ∷ set → AreSteps t n whole old new
set_seen {t = t} {n = n} {old = old} mid set new held bits last given file looked asked seen =
    step new (Seen last, t, [], file) (step set (Set bits, t, [], given) (step mid (Bits held, n, [], []) (no_step old) looked tt tt) asked tt tt) seen tt tt

-- ---- what was built

all_weaker : (t n : List ℕ) {P Q : List ℕ → Type 0} → ((b : List ℕ) → P b → Q b) → (since : NameCalls) → AllByRecursion (IsOfReplacing t n P) since
    → AllByRecursion (IsOfReplacing t n Q) since
all_weaker t n f [] all = tt
all_weaker t n f (call ∷ since) all = (weaker_one t n f call all.0, all_weaker t n f since all.1)

pub weaker_replacing : {t n : List ℕ} {P Q : List ℕ → Type 0} {old new : NameCalls} → ((b : List ℕ) → P b → Q b) → AreOfReplacing t n P old new
    → AreOfReplacing t n Q old new
weaker_replacing {t = t} {n = n} f are = record { since = are.since; calls = are.calls; each = all_weaker t n f are.since are.each }
