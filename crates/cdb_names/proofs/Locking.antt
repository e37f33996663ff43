-- What the calls of a replacement have seen, so that a file may be removed or renamed.
use Rattle.std.proofs.Common.{◌≡◌, ◌≢◌, ℕ, inl, inr, List, [], ◌∷◌, Option, refl, sym, subst, ap, ◌∙◌}
use Rattle.cdb_names.specs.declared.answer.Answer.TheVariants.{Yes, No}
use Rattle.cdb_names.specs.declared.answer.Lock.{Lock}
use Rattle.cdb_names.specs.declared.answer.Lock.TheVariants.{Held}
use Rattle.cdb_names.specs.declared.name_trace.NameCall.TheVariants.{Same, Opened, Made, Locked, Own, Seen, NotRenamed}
use Rattle.cdb_names.specs.declared.name_fault.NameFault.{NameFault}
use Rattle.cdb_names.specs.declared.shown.Shown.{Shown}
use Rattle.cdb_store.specs.Calls.{Calls}
use Rattle.cdb_names.specs.Folder.{NameCalls, AreNamesApart, HasBits, HasLock, HasMade, IsOwn, IsPlain, MayRemove, MayReplace, MayUndo, SeesUser, WereSeen}
use Rattle.cdb_names.specs.Replacing.{IsMadeApart, IsReadyToBuild, TakesLock}
use Rattle.cdb_names.specs.Wanted.{plain_bits, private_bits}

-- the lock of a file was taken
has_lock : (t : List ℕ) (lock : Lock) (mid : NameCalls) → lock ≢ Held → HasLock t ((Locked lock, t, [], []) ∷ mid)
has_lock t Held mid free = absurd (free refl)
has_lock t lock mid free = inl refl

-- an old file of another name may be removed then
pub old_removable : (t n : List ℕ) (old mid new : NameCalls) → AreNamesApart t n old → mid ≡ (Opened, t, [], []) ∷ old → TakesLock t mid new
    → MayRemove t n new
old_removable t n old mid new apart is takes =
    let seen : AreNamesApart t n mid = subst (λ (cs : NameCalls). AreNamesApart t n cs) (sym is) apart in
    let may : MayRemove t n ((Locked takes.lock, t, [], []) ∷ mid) = record { lock = inl (has_lock t takes.lock mid takes.free); other = inr seen } in
    subst (λ (cs : NameCalls). MayRemove t n cs) (sym takes.are) may

-- and a file that was made
pub made_undoable : {asked : ℕ} (t : List ℕ) (old mid new : NameCalls) → mid ≡ (Made asked, t, [], []) ∷ old → TakesLock t mid new → MayUndo t new
made_undoable t old mid new is takes =
    let made : HasMade t mid = subst (λ (cs : NameCalls). HasMade t cs) (sym is) (inl refl) in
    let may : MayUndo t ((Locked takes.lock, t, [], []) ∷ mid) = record { lock = has_lock t takes.lock mid takes.free; made = made } in
    subst (λ (cs : NameCalls). MayUndo t cs) (sym takes.are) may

pub may_remove : (t n : List ℕ) (calls : NameCalls) → MayUndo t calls → MayRemove t n calls
may_remove t n calls may = record { lock = inl may.lock; other = inl may.made }

-- a plain file that was made and looked at may be removed too
pub plain_removable : (t n : List ℕ) (seen : Option Shown) (file : Calls) (old made new : NameCalls) → made ≡ (Made plain_bits, t, [], []) ∷ old
    → new ≡ (Seen seen, t, [], file) ∷ made → MayRemove t n new
plain_removable t n seen file old made new is sees =
    let after : MayRemove t n ((Seen seen, t, [], file) ∷ (Made plain_bits, t, [], []) ∷ old) =
    record { lock = inr (inl (refl, refl)); other = inl (inl refl) } in
    let are : new ≡ (Seen seen, t, [], file) ∷ (Made plain_bits, t, [], []) ∷ old = sees ∙ ap (λ cs. (Seen seen, t, [], file) ∷ cs) is in
    subst (λ (cs : NameCalls). MayRemove t n cs) (sym are) after

-- a look at a file changes nothing of that
pub may_look : (t n : List ℕ) (seen : Option Shown) (file : Calls) (old new : NameCalls) → new ≡ (Seen seen, t, [], file) ∷ old → MayRemove t n old
    → MayRemove t n new
may_look t n seen file old new is may =
    let after : MayRemove t n ((Seen seen, t, [], file) ∷ old) = record { lock = may.lock; other = may.other } in
    subst (λ (cs : NameCalls). MayRemove t n cs) (sym is) after

-- the file that is built may be removed
pub built_removable : (t n : List ℕ) (old new : NameCalls) → IsMadeApart t n old new → MayRemove t n new
built_removable t n old new made =
    let may = made_undoable t old ((Made private_bits, t, [], []) ∷ old) made.locked refl made.takes in
    let all : MayRemove t n ((Seen made.seen, t, [], made.file) ∷ (Same No, t, n, []) ∷ (Own Yes, t, [], []) ∷ made.locked) = record { lock = inl may.lock; other = inl may.made } in
    subst (λ (cs : NameCalls). MayRemove t n cs) (sym made.are) all

-- a rename that failed changes nothing of that
pub may_after : (t n : List ℕ) (len : ℕ) (fault : NameFault) (file : Calls) (old new : NameCalls) → new ≡ (NotRenamed len fault, t, n, file) ∷ old → MayRemove t n old
    → MayRemove t n new
may_after t n len fault file old new is may =
    let after : MayRemove t n ((NotRenamed len fault, t, n, file) ∷ old) = record { lock = may.lock; other = may.other } in
    subst (λ (cs : NameCalls). MayRemove t n cs) (sym is) after

-- the file that was built and got its permission bits may be renamed
pub may_replace : (t n : List ℕ) (shown : Shown) (file same : Calls) (ready new : NameCalls) → same ≡ file → IsReadyToBuild t n ready → SeesUser t shown.user ready
    → WereSeen t n shown ready → HasBits t n shown file ready new → MayReplace t n same new
may_replace t n shown file same ready new is built user seen bits =
    let made = built.made in
    let undo = made_undoable t built.before ((Made private_bits, t, [], []) ∷ built.before) made.locked refl made.takes in
    let locked : HasLock t ready = subst (λ (cs : NameCalls). HasLock t cs) (sym made.are) undo.lock in
    let own : IsOwn t ready = subst (λ (cs : NameCalls). IsOwn t cs) (sym made.are) (inl refl) in
    let apart : AreNamesApart t n ready = subst (λ (cs : NameCalls). AreNamesApart t n cs) (sym made.are) (inl (refl, refl)) in
    let before : IsPlain n made.locked = subst (λ (cs : NameCalls). IsPlain n cs) (sym made.takes.are) built.plain in
    let plain : IsPlain n ready = subst (λ (cs : NameCalls). IsPlain n cs) (sym made.are) before in
    record {
      lock = subst (λ (cs : NameCalls). HasLock t cs) (sym bits.are) locked;
      own = subst (λ (cs : NameCalls). IsOwn t cs) (sym bits.are) own;
      apart = subst (λ (cs : NameCalls). AreNamesApart t n cs) (sym bits.are) apart;
      earlier = ready;
      shown = shown;
      user = user;
      seen = seen;
      bits = subst (λ (f : Calls). HasBits t n shown f ready new) (sym is) bits;
      plain = subst (λ (cs : NameCalls). IsPlain n cs) (sym bits.are) plain;
    }
