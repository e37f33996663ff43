-- Why nothing was built, by the last answer.
use Rattle.std.proofs.Common.{◌≡◌, ◌⊎◌, ◌∙◌, ℕ, inl, inr, List, [], ◌∷◌, ◌++◌, ap, append_assoc, refl, subst, sym}
use Rattle.std.specs.Prelude.{None, Option, Some}
use Rattle.std.specs.List.{AllByRecursion}
use Rattle.cdb_names.specs.declared.answer.Answer.{Answer}
use Rattle.cdb_names.specs.declared.answer.Answer.TheVariants.{Yes, Unknown}
use Rattle.cdb_names.specs.declared.answer.Answer.TheVariants as answer
use Rattle.cdb_names.specs.declared.answer.Found.TheVariants as found
use Rattle.cdb_names.specs.declared.answer.Lock.TheVariants.{Held}
use Rattle.cdb_names.specs.declared.answer.Lock.TheVariants as locking
use Rattle.cdb_names.specs.declared.name_fault.NameFault.{NameFault}
use Rattle.cdb_names.specs.declared.name_fault.NameFault.TheVariants.{Failed, NoMemory}
use Rattle.cdb_names.specs.declared.name_trace.NameCall.TheVariants.{Special, Same, Looked, Opened, NotOpened, Made, NotMade, Locked, Bits, Seen}
use Rattle.cdb_names.specs.declared.replace.ReplaceFault.{ReplaceFault}
use Rattle.cdb_names.specs.declared.replace.ReplaceFault.TheVariants as replacing
use Rattle.cdb_store.specs.Calls.{Calls}
use Rattle.cdb_store.specs.declared.trace.Call.TheVariants.{Made as FileMade}
use Rattle.cdb_names.specs.declared.shown.Shown.{Shown}
use Rattle.cdb_names.specs.Folder.{NameCalls, IsCleared, SeesBits, SeesUser, WereSeen}
use Rattle.cdb_names.specs.Wanted.{plain_bits}
use Rattle.cdb_names.specs.Replacing.{AreSteps, FailsRename, GoesOn, IsAtHand, IsFound, IsFree, IsNotGiven, IsStop, IsUndoing, IsUnmade, MakesNone, LacksBits, LacksMemoryForLock, NameEvent, ReplacingStopsAt, StopsMaking, StopsUnbuilt, of_open}

-- ---- calls that go on

pub no_more : (calls : NameCalls) → GoesOn calls calls
no_more calls = ([], refl)

pub one_more : (old mid new : NameCalls) (call : NameEvent) → GoesOn old mid → new ≡ call ∷ mid → GoesOn old new
one_more old mid new call on is = (call ∷ on.0, is ∙ ap (λ cs. call ∷ cs) on.1)

pub further : (old mid new : NameCalls) → GoesOn old mid → GoesOn mid new → GoesOn old new
further old mid new on more =
    (more.0 ++ on.0, more.1 ∙ ap (λ cs. more.0 ++ cs) on.1 ∙ sym (append_assoc more.0 on.0 old))

pub steps_go_on : {t n : List ℕ} {whole : List ℕ → Type 0} {old new : NameCalls} → AreSteps t n whole old new → GoesOn old new
steps_go_on are = (are.since, are.calls)

-- the same of calls that made no file under a name
pub none_made : (t : List ℕ) (calls : NameCalls) → IsUnmade t calls calls
none_made t calls = ([], refl, tt)

pub one_unmade : (t : List ℕ) (old mid new : NameCalls) (call : NameEvent) → MakesNone t call → IsUnmade t old mid → new ≡ call ∷ mid → IsUnmade t old new
one_unmade t old mid new call none (since, are, each) is = (call ∷ since, is ∙ ap (λ cs. call ∷ cs) are, (none, each))

unmade_goes : (t : List ℕ) (old calls : NameCalls) → IsUnmade t old calls → GoesOn old calls
unmade_goes t old calls (since, are, each) = (since, are)

neither_made : (t : List ℕ) (more since : NameCalls) → AllByRecursion (MakesNone t) more → AllByRecursion (MakesNone t) since → AllByRecursion (MakesNone t) (more ++ since)
neither_made t [] since each before = before
neither_made t (call ∷ more) since each before = (each.0, neither_made t more since each.1 before)

unmade_further : (t : List ℕ) (old mid new : NameCalls) → IsUnmade t old mid → IsUnmade t mid new → IsUnmade t old new
unmade_further t old mid new on more =
    (more.0 ++ on.0, more.1 ∙ ap (λ cs. more.0 ++ cs) on.1 ∙ sym (append_assoc more.0 on.0 old), neither_made t more.0 on.0 more.2 on.2)

-- what ended since some calls ended since earlier ones too
found_since : (t : List ℕ) (old mid calls : NameCalls) → IsUnmade t old mid → IsFound t mid calls → IsFound t old calls
found_since t old mid calls on is = (is.0, unmade_further t old mid is.0 on is.1, is.2)

pub free_since : (t : List ℕ) (old mid calls : NameCalls) → GoesOn old mid → IsFree t mid calls → IsFree t old calls
free_since t old mid calls on is = (is.0, further old mid is.0 on is.1, is.2)

hand_since : (t : List ℕ) (old mid calls : NameCalls) → IsUnmade t old mid → IsAtHand t mid calls → IsAtHand t old calls
hand_since t old mid calls on (before, inl (unmade, is)) = (before, inl (unmade_further t old mid before on unmade, is))
hand_since t old mid calls on (before, inr (free, made)) = (before, inr (free_since t old mid before (unmade_goes t old mid on) free, made))

stop_since : (t n : List ℕ) (old mid before : NameCalls) (stop : NameEvent) → IsUnmade t old mid → IsStop t n mid stop before → IsStop t n old stop before
stop_since t n old mid before (Same answer.Yes, one, two, file) on is = (is.0, is.1, found_since t old mid before on is.2)
stop_since t n old mid before (Same answer.Unknown, one, two, file) on is = (is.0, is.1, found_since t old mid before on is.2)
stop_since t n old mid before (NotMade Failed, one, two, file) on is = (is.0, free_since t old mid before (unmade_goes t old mid on) is.1)
stop_since t n old mid before (Special answer.Unknown, one, two, file) on is = (is.0, unmade_further t old mid before on is.1)
stop_since t n old mid before (Bits None, one, two, file) on is = (is.0, unmade_further t old mid before on is.1)
stop_since t n old mid before (Looked found.Other, one, two, file) on is = (is.0, unmade_further t old mid before on is.1)
stop_since t n old mid before (Looked found.Unknown, one, two, file) on is = (is.0, unmade_further t old mid before on is.1)
stop_since t n old mid before (NotOpened Failed, one, two, file) on is = (is.0, unmade_further t old mid before on is.1)
stop_since t n old mid before (Locked locking.Held, one, two, file) on is = (is.0, hand_since t old mid before on is.1)
stop_since t n old mid before stop on is = absurd is

making_since : (t n : List ℕ) (old mid new : NameCalls) → IsUnmade t old mid → StopsMaking t n mid new → StopsMaking t n old new
making_since t n old mid new on (stop, before, since, inl (is, are)) =
    (stop, before, further old mid before (unmade_goes t old mid on) since, inl (stop_since t n old mid before stop on is, are))
making_since t n old mid new on (stop, before, since, inr undone) = (stop, before, further old mid before (unmade_goes t old mid on) since, inr undone)

memory_since : (t : List ℕ) (old mid new : NameCalls) → IsUnmade t old mid → LacksMemoryForLock t mid new → LacksMemoryForLock t old new
memory_since t old mid new on (before, inl (is, unmade)) = (before, inl (is, unmade_further t old mid before on unmade))
memory_since t old mid new on (before, inr (is, free)) =
    (before, inr (is, free_since t old mid before (unmade_goes t old mid on) free))

pub stops_since : {E : Type 0} (t n : List ℕ) (old mid new : NameCalls) (fault : ReplaceFault E) → IsUnmade t old mid → ReplacingStopsAt t n mid new fault → ReplacingStopsAt t n old new fault
stops_since t n old mid new replacing.Open on stops = making_since t n old mid new on stops
stops_since t n old mid new replacing.NoMemory on stops = memory_since t old mid new on stops
stops_since t n old mid new fault on stops = absurd stops

not_given_since : (t n : List ℕ) (bits : ℕ) (old mid calls : NameCalls) → GoesOn old mid → IsNotGiven t n bits mid calls → IsNotGiven t n bits old calls
not_given_since t n bits old mid calls on (held, wanted, file, before, since, not, is) =
    (held, wanted, file, before, further old mid before on since, not, is)

pub bits_since : (t n : List ℕ) (old mid before : NameCalls) (stop : NameEvent) → GoesOn old mid → LacksBits t n mid stop before → LacksBits t n old stop before
bits_since t n old mid before (Bits None, one, two, file) on is = is
bits_since t n old mid before (Seen None, one, two, file) on is = is
bits_since t n old mid before (Seen (Some shown), one, two, file) on is = (is.0, not_given_since t n shown.bits old mid before on is.1)
bits_since t n old mid before stop on is = absurd is

pub rename_since : (t n : List ℕ) (old mid new : NameCalls) (fault : NameFault) → GoesOn old mid → FailsRename t n mid new fault → FailsRename t n old new fault
rename_since t n old mid new fault on (len, file, before, since, is) = (len, file, before, further old mid before on since, is)

-- ---- why it stopped

-- the calls before a free name go on too
pub free_goes_on : (t : List ℕ) (old calls : NameCalls) → IsFree t old calls → GoesOn old calls
free_goes_on t old calls (before, on, inl is) = one_more old before calls _ on is
free_goes_on t old calls (before, on, inr cleared) = one_more old before calls _ on cleared.1.2

-- the old file was not opened
pub not_opened : (E : Type 0) (t n : List ℕ) (old new : NameCalls) (fault : NameFault) → new ≡ (NotOpened fault, t, [], []) ∷ old
    → ReplacingStopsAt t n old new (of_open {E = E} fault)
not_opened E t n old new Failed is = ((NotOpened Failed, t, [], []), old, no_more old, inl ((refl, none_made t old), is))
not_opened E t n old new NoMemory is = (old, inl (is, none_made t old))

-- no file was made
pub not_made : (E : Type 0) (t n : List ℕ) (old mid new : NameCalls) (fault : NameFault) → GoesOn old mid → IsFree t old mid
    → new ≡ (NotMade fault, t, [], []) ∷ mid → ReplacingStopsAt t n old new (of_open {E = E} fault)
not_made E t n old mid new Failed on free is = ((NotMade Failed, t, [], []), mid, on, inl ((refl, free), is))
not_made E t n old mid new NoMemory on free is = (mid, inr (is, free))

-- another process holds the old file
pub is_held : (t n : List ℕ) (old mid new : NameCalls) → mid ≡ (Opened, t, [], []) ∷ old → new ≡ (Locked Held, t, [], []) ∷ mid → StopsMaking t n old new
is_held t n old mid new opened is =
    ((Locked Held, t, [], []), mid, one_more old old mid _ (no_more old) opened, inl ((refl, (old, inl (none_made t old, opened))), is))

-- or the one that was made
pub made_held : (t n : List ℕ) (old free mid new : NameCalls) (asked : ℕ) → IsFree t old free → mid ≡ (Made asked, t, [], []) ∷ free → new ≡ (Locked Held, t, [], []) ∷ mid
    → StopsMaking t n old new
made_held t n old free mid new asked is made held =
    ((Locked Held, t, [], []), mid, one_more old free mid _ (free_goes_on t old free is) made, inl ((refl, (free, inr (is, (asked, made)))), held))

-- the old file may be that of the name
pub may_be_it : (t n : List ℕ) (old mid new : NameCalls) (said : Answer) → GoesOn old mid → IsFound t old mid → (said ≡ Yes) ⊎ (said ≡ Unknown)
    → new ≡ (Same said, t, n, []) ∷ mid → StopsMaking t n old new
may_be_it t n old mid new said on found (inl is) called =
    ((Same Yes, t, n, []), mid, on, inl ((refl, refl, found), subst (λ (a : Answer). new ≡ (Same a, t, n, []) ∷ mid) is called))
may_be_it t n old mid new said on found (inr is) called =
    ((Same Unknown, t, n, []), mid, on, inl ((refl, refl, found), subst (λ (a : Answer). new ≡ (Same a, t, n, []) ∷ mid) is called))

-- the file that was made was removed again
pub was_undone : (t n : List ℕ) (file : Calls) (old mid last new : NameCalls) → file ≡ (FileMade, []) ∷ [] → GoesOn old mid → IsUndoing t n mid last
    → IsCleared t file last new → StopsMaking t n old new
was_undone t n file old mid last new made on undoing is =
    (undoing.0, undoing.1, further old mid undoing.1 on undoing.2, inr (undoing.3, subst (λ (f : Calls). IsCleared t f (undoing.0 ∷ undoing.1) new) made (subst (λ (cs : NameCalls). IsCleared t file cs new) undoing.4 is)))

-- nor did the system say which permission bits it has
pub unseen_undone : (t n : List ℕ) (shown : Option Shown) (file : Calls) (old mid seen new : NameCalls) → shown ≡ None → file ≡ (FileMade, []) ∷ [] → GoesOn old mid
    → seen ≡ (Seen shown, t, [], file) ∷ mid → IsCleared t file seen new → StopsMaking t n old new
unseen_undone t n shown file old mid seen new none made on is gone =
    was_undone t n file old mid seen new made on ((Seen None, t, [], file), mid, no_more mid, refl, subst (λ (s : Option Shown). seen ≡ (Seen s, t, [], file) ∷ mid) none is) gone

-- what was seen stays seen
pub seen_since : (t n : List ℕ) (shown : Shown) (mid new : NameCalls) → GoesOn mid new → WereSeen t n shown mid → WereSeen t n shown new
seen_since t n shown mid new on seen =
    record {
      since = on.0 ++ seen.since;
      at = seen.at;
      are = on.1 ∙ ap (λ cs. on.0 ++ cs) seen.are ∙ sym (append_assoc on.0 seen.since seen.at);
      how = seen.how;
    }

-- the regular file of the name was seen
pub held_seen : (t n : List ℕ) (old : Shown) (held : Option Shown) (at new : NameCalls) → GoesOn at new → held ≡ Some old → SeesBits n held at → WereSeen t n old new
held_seen t n old held at new on is (before, are) =
    record {
      since = on.0;
      at = at;
      are = on.1;
      how = inr (before, subst (λ (h : Option Shown). at ≡ (Bits (Some h), n, [], []) ∷ before) is are);
    }

-- a plain file was made and seen, and removed
pub plain_seen : (t n : List ℕ) (one : Shown) (shown : Option Shown) (file : Calls) (old made seen new : NameCalls) → shown ≡ Some one → file ≡ (FileMade, []) ∷ []
    → made ≡ (Made plain_bits, t, [], []) ∷ old → seen ≡ (Seen shown, t, [], file) ∷ made → IsCleared t file seen new
    → (whose : Shown) → whose.bits ≡ one.bits → WereSeen t n whose new
plain_seen t n one shown file old made seen new some empty is sees gone whose same =
    let two : seen ≡ (Seen (Some one), t, [], file) ∷ made = subst (λ (s : Option Shown). seen ≡ (Seen s, t, [], file) ∷ made) some sees in
    let three : seen ≡ (Seen (Some one), t, [], (FileMade, []) ∷ []) ∷ made = subst (λ (f : Calls). seen ≡ (Seen (Some one), t, [], f) ∷ made) empty two in
    record {
      since = (gone.0, t, [], file) ∷ [];
      at = seen;
      are = gone.2;
      how = inl (one, sym same, old, three ∙ ap (λ cs. (Seen (Some one), t, [], (FileMade, []) ∷ []) ∷ cs) is);
    }

-- whose file was made
pub user_seen : (t : List ℕ) (one : Shown) (shown : Option Shown) (file : Calls) (mid new : NameCalls) → shown ≡ Some one → file ≡ (FileMade, []) ∷ []
    → new ≡ (Seen shown, t, [], file) ∷ mid → SeesUser t one.user new
user_seen t one shown file mid new some empty sees =
    let two : new ≡ (Seen (Some one), t, [], file) ∷ mid = subst (λ (s : Option Shown). new ≡ (Seen s, t, [], file) ∷ mid) some sees in
    (one, refl, mid, subst (λ (f : Calls). new ≡ (Seen (Some one), t, [], f) ∷ mid) empty two)

pub unbuilt : {E : Type 0} (t n : List ℕ) (old new : NameCalls) (fault : ReplaceFault E) → ReplacingStopsAt t n old new fault → StopsUnbuilt t n old new fault
unbuilt t n old new replacing.Open stops = inr stops
unbuilt t n old new replacing.NoMemory stops = stops
unbuilt t n old new fault stops = absurd stops
