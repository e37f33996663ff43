use Rattle.std.proofs.Common.{inl, inr, ap, refl, sym, subst, ◌∙◌, ◌≡◌, List, ℕ, Result, Ok, Err}
use Rattle.std.specs.Prelude.{IfErr, OnErr, OnOk}
use Rattle.cdb_store.specs.Calls.{Calls}
use Rattle.cdb_names.specs.Replacing.{BuilderAnswers, ClearsFile, EndsIn, FailsRename, FailsToSeal, GoesOn, IsOfBuilder, RenamesFile, of_name}
use Rattle.cdb_names.specs.declared.name_fault.NameFault.{NameFault}
use Rattle.cdb_names.specs.declared.name_fault.NameFault.TheVariants.{Failed, NoMemory}
use Rattle.cdb_names.specs.Folder.{NameCalls, IsCleared}
use Rattle.cdb_names.specs.declared.replace.ReplaceFault.{ReplaceFault}
use Rattle.cdb_names.specs.declared.replace.ReplaceFault.TheVariants.{Open, Build, Write}
use Rattle.cdb_names.specs.declared.replace.ReplaceFault.TheVariants as replacing
use Rattle.cdb_store.specs.Images.{SameImages}
use Rattle.cdb_names.proofs.Locking.{built_removable, may_replace}
use Rattle.cdb_names.proofs.Replacing.{weaker, go_on, cleared, are_of_replacing, are_guarded, at_each_moment, weaker_sure, of_file}
use Rattle.cdb_names.proofs.Stops.{bits_since, further, rename_since, steps_go_on}
use Rattle.std.proofs.lemmas.Result.{on_ok_weaker}
use Rattle.cdb_names.proofs.replace.replace_file.Goals as goal

ends_in : {E : Type 0} {t n : List ℕ} (old new : NameCalls) (e : ReplaceFault E)
    → ((fault : NameFault) × (e ≡ of_name fault) × FailsRename t n old new fault) → EndsIn t n old new e
ends_in {E = E} {t = t} {n = n} old new e (Failed, is, fails) = subst (λ (f : ReplaceFault E). EndsIn t n old new f) (sym is) (inr fails)
ends_in {E = E} {t = t} {n = n} old new e (NoMemory, is, fails) = subst (λ (f : ReplaceFault E). EndsIn t n old new f) (sym is) (inr fails)

publish_ends : {E : Type 0} (t n : List ℕ) (old mid new : NameCalls) (r : Result Unit (ReplaceFault E)) → GoesOn old mid → IfErr r (λ e. (fault : NameFault) × (e ≡ of_name fault) × FailsRename t n mid new fault) → IfErr r (EndsIn t n old new)
publish_ends t n old mid new (Ok done) on h = tt
publish_ends t n old mid new (Err e) on (fault, is, fails) = ends_in old new e (fault, is, rename_since t n old mid new fault on fails)

-- one that was not sealed
seal_ends : {E : Type 0} (t n : List ℕ) (file : Calls) (old built mid new : NameCalls) (fault : ReplaceFault E) → GoesOn old built → GoesOn built mid → FailsToSeal t n built mid fault → IsCleared t file mid new → EndsIn t n old new fault
seal_ends t n file old built mid new Open on more (stop, before, since, lacks, is) cleared =
    inr (stop, before, further old built before on since, bits_since t n old built before stop on lacks, (file, subst (λ (cs : NameCalls). IsCleared t file cs new) is cleared))
seal_ends t n file old built mid new Write on more fails cleared = inr (mid, further old built mid on more, (file, cleared))
seal_ends t n file old built mid new replacing.NoMemory on more fails cleared = absurd fails
seal_ends t n file old built mid new replacing.Rename on more fails cleared = absurd fails
seal_ends t n file old built mid new (Build f) on more fails cleared = absurd fails

-- an answer that the file could not be synced
abbrev IsUnsynced : {E : Type 0} → Result Unit (ReplaceFault E) → Type 0
IsUnsynced (Err Write) = Unit {0}
IsUnsynced r = ⊥

built_synced : (E : Type 0) (f : E) (r : Result Unit (ReplaceFault E)) → r ≡ Err (Build f) → r ≡ Err Write → ⊥
built_synced E f r built is = subst (λ (q : Result Unit (ReplaceFault E)). IsUnsynced q) (sym is ∙ built) tt

named_synced : (E : Type 0) (fault : NameFault) → IsUnsynced {E = E} (Err (of_name fault)) → ⊥
named_synced E Failed is = is
named_synced E NoMemory is = is

-- a file that was not renamed was synced
renames_synced : {E : Type 0} (t n : List ℕ) (old new : NameCalls) (r : Result Unit (ReplaceFault E))
    → IfErr r (λ e. (fault : NameFault) × (e ≡ of_name fault) × FailsRename t n old new fault) → IsUnsynced r → ⊥
renames_synced t n old new (Ok done) fails is = is
renames_synced {E = E} t n old new (Err e) (fault, same, fails) is =
    named_synced E fault (subst (λ (f : ReplaceFault E). IsUnsynced (Err f)) same is)

no_build : (E : Type 0) (fault : NameFault) → IsOfBuilder (λ (e : E). ⊥) (of_name fault)
no_build E Failed = tt
no_build E NoMemory = tt

-- a rename that failed is no fault of the builder
renames_built : {E : Type 0} (t n : List ℕ) (old new : NameCalls) (r : Result Unit (ReplaceFault E))
    → IfErr r (λ e. (fault : NameFault) × (e ≡ of_name fault) × FailsRename t n old new fault) → BuilderAnswers (Ok tt) r
renames_built t n old new (Ok done) fails = tt
renames_built {E = E} t n old new (Err e) (fault, is, fails) = subst (λ (f : ReplaceFault E). IsOfBuilder (λ _. ⊥) f) (sym is) (no_build E fault)

-- nor is a file that was not sealed
seal_built : {E : Type 0} (t n : List ℕ) (old new : NameCalls) (fault : ReplaceFault E) → FailsToSeal t n old new fault → BuilderAnswers (Ok tt) (Err fault)
seal_built t n old new Open fails = tt
seal_built t n old new Write fails = tt
seal_built t n old new replacing.NoMemory fails = absurd fails
seal_built t n old new replacing.Rename fails = absurd fails
seal_built t n old new (Build f) fails = absurd fails

-- the same of a file known by its length and its calls
renames_same : {E : Type 0} (t n : List ℕ) (len m : ℕ) (calls file : Calls) (named : NameCalls) (r : Result Unit (ReplaceFault E)) → m ≡ len → file ≡ calls
    → OnOk r (RenamesFile t n m file named) → OnOk r (RenamesFile t n len calls named)
renames_same t n len m calls file named r same_len same is =
    subst (λ (k : ℕ). OnOk r (RenamesFile t n k calls named)) same_len (subst (λ (cs : Calls). OnOk r (RenamesFile t n m cs named)) same is)

-- the temporary name was taken from that file
cleared_of : (t : List ℕ) (file same : Calls) (old before new : NameCalls) → GoesOn old before → same ≡ file → IsCleared t same before new → ClearsFile t file old new
cleared_of t file same old before new on is cleared = (before, on, subst (λ (cs : Calls). IsCleared t cs before new) is cleared)

clears_same : {E : Type 0} (t : List ℕ) (file same : Calls) (old mid new : NameCalls) (r : Result Unit (ReplaceFault E)) → GoesOn old mid → same ≡ file
    → OnErr r (ClearsFile t same mid new) → OnErr r (ClearsFile t file old new)
clears_same t file same old mid new (Ok done) on is cleared = tt
clears_same t file same old mid new (Err fault) on is (before, since, cleared) = cleared_of t file same old before new (further old mid before on since) is cleared

same_images : (images : List ℕ → Type 0) → SameImages images images
same_images images = record { no_other = λ b is. is; none_lost = λ b is. is }

pub returns-in-Err-clause-calls : goal.returns-in-Err-clause-calls
returns-in-Err-clause-calls g c = are_of_replacing (weaker (λ b none. absurd none) c.make_temporary.ensures.steps)

pub returns-in-Err-clause-guarded : goal.returns-in-Err-clause-guarded
returns-in-Err-clause-guarded g c = are_guarded c.make_temporary.ensures.steps

pub returns-in-Err-clause-any_moment : goal.returns-in-Err-clause-any_moment
returns-in-Err-clause-any_moment g c =
    at_each_moment (are_of_replacing (weaker (λ b none. absurd none) c.make_temporary.ensures.steps))

pub returns-in-Err-clause-told : goal.returns-in-Err-clause-told
returns-in-Err-clause-told g c =
    inl (record {
      gave_up = c.give_up.ensures;
      same = refl;
      fault = c.in-Err.fault;
      is = refl;
      stops = c.in-Err.ensures.err;
      calls = are_of_replacing c.make_temporary.ensures.steps;
      moments = at_each_moment (are_of_replacing c.make_temporary.ensures.steps);
    })

-- ---- the builder failed

pub returns-in-Err-built-clause-calls : goal.returns-in-Err-built-clause-calls
returns-in-Err-built-clause-calls g c =
    are_of_replacing (cleared _ (weaker (λ b none. absurd none) c.make_temporary.ensures.steps) (built_removable c.args.temporary.now c.args.name.now _ _ c.in-Ok.ensures.made.made) c.remove_own.ensures)

pub returns-in-Err-built-clause-guarded : goal.returns-in-Err-built-clause-guarded
returns-in-Err-built-clause-guarded g c =
    are_guarded (cleared _ c.make_temporary.ensures.steps (built_removable c.args.temporary.now c.args.name.now _ _ c.in-Ok.ensures.made.made) c.remove_own.ensures)

pub returns-in-Err-built-clause-any_moment : goal.returns-in-Err-built-clause-any_moment
returns-in-Err-built-clause-any_moment g c =
    at_each_moment (are_of_replacing (cleared _ (weaker (λ b none. absurd none) c.make_temporary.ensures.steps) (built_removable c.args.temporary.now c.args.name.now _ _ c.in-Ok.ensures.made.made) c.remove_own.ensures))

pub returns-in-Err-built-clause-build : goal.returns-in-Err-built-clause-build
returns-in-Err-built-clause-build g c =
    record {
      empty = c.in-Ok.made.0;
      left = c.build-store.result.0;
      made = c.in-Ok.ensures.empty;
      why = rw c.in-Err-built.is at c.build-store.ensures.fails;
      cleared = cleared_of _ _ _ _ _ _ (steps_go_on c.make_temporary.ensures.steps) (ap g.N.File.RawFile.calls c.file.ensures) c.remove_own.ensures;
    }

pub returns-in-Err-built-clause-told : goal.returns-in-Err-built-clause-told
returns-in-Err-built-clause-told g c =
    let store = c.build-store.result.0 in
    inr (record {
      left = store;
      built = Err c.in-Err-built.fault;
      tells_so = rw c.in-Err-built.is at c.build-store.ensures.tells;
      answers = refl;
      sealed = store;
      same = same_images _;
      unsynced = λ is. absurd (built_synced _ _ _ refl is);
      renamed = tt;
      cleared = cleared_of _ _ _ _ _ _ (steps_go_on c.make_temporary.ensures.steps) (ap g.N.File.RawFile.calls c.file.ensures) c.remove_own.ensures;
    })

pub returns-in-Err-built-clause-err : goal.returns-in-Err-built-clause-err
returns-in-Err-built-clause-err g c = inr (_, steps_go_on c.make_temporary.ensures.steps, (_, c.remove_own.ensures))

-- ---- the file was not sealed

pub returns-in-Err-seal-clause-err : goal.returns-in-Err-seal-clause-err
returns-in-Err-seal-clause-err g c =
    seal_ends c.args.temporary.now c.args.name.now _ _ _ _ _ c.in-Err-seal.fault (steps_go_on c.make_temporary.ensures.steps) (steps_go_on c.seal.ensures.steps) c.in-Err-seal.ensures.err c.remove_own-in-Err-seal.ensures

pub returns-in-Err-seal-clause-calls : goal.returns-in-Err-seal-clause-calls
returns-in-Err-seal-clause-calls g c =
    are_of_replacing (cleared _ (go_on (λ b none. absurd none) (weaker (λ b none. absurd none) c.make_temporary.ensures.steps) c.seal.ensures.steps) (c.seal.ensures.may (built_removable c.args.temporary.now c.args.name.now _ _ c.in-Ok.ensures.made.made)) c.remove_own-in-Err-seal.ensures)

pub returns-in-Err-seal-clause-guarded : goal.returns-in-Err-seal-clause-guarded
returns-in-Err-seal-clause-guarded g c =
    are_guarded (cleared _ (go_on (λ b is. is) c.make_temporary.ensures.steps c.seal.ensures.steps) (c.seal.ensures.may (built_removable c.args.temporary.now c.args.name.now _ _ c.in-Ok.ensures.made.made)) c.remove_own-in-Err-seal.ensures)

pub returns-in-Err-seal-clause-any_moment : goal.returns-in-Err-seal-clause-any_moment
returns-in-Err-seal-clause-any_moment g c =
    at_each_moment (are_of_replacing (cleared _ (go_on (λ b none. absurd none) (weaker (λ b none. absurd none) c.make_temporary.ensures.steps) c.seal.ensures.steps) (c.seal.ensures.may (built_removable c.args.temporary.now c.args.name.now _ _ c.in-Ok.ensures.made.made)) c.remove_own-in-Err-seal.ensures))

pub returns-in-Err-seal-clause-told : goal.returns-in-Err-seal-clause-told
returns-in-Err-seal-clause-told g c =
    inr (record {
      left = c.build-store.result.0;
      built = Ok tt;
      tells_so = rw c.in_default.is at c.build-store.ensures.tells;
      answers = seal_built c.args.temporary.now c.args.name.now _ _ c.in-Err-seal.fault c.in-Err-seal.ensures.err;
      sealed = c.seal.new.store;
      same = c.seal.ensures.images;
      unsynced = λ is. c.seal.ensures.failed (c.in-Err-seal.is ∙ is);
      renamed = tt;
      cleared = cleared_of _ _ _ _ _ _ (further _ _ _ (steps_go_on c.make_temporary.ensures.steps) (steps_go_on c.seal.ensures.steps)) (ap g.N.File.RawFile.calls c.file-in-Err-seal.ensures) c.remove_own-in-Err-seal.ensures;
    })

-- ---- the file was built and sealed

pub returns-clause-err : goal.returns-clause-err
returns-clause-err g c =
    publish_ends c.args.temporary.now c.args.name.now _ _ _ c.publish-published.result (further _ _ _ (steps_go_on c.make_temporary.ensures.steps) (steps_go_on c.seal.ensures.steps)) c.publish-published.ensures.err

pub returns-clause-calls : goal.returns-clause-calls
returns-clause-calls g c =
    are_of_replacing (go_on (of_file _ _ _ _ c.len-len.ensures (ap g.N.File.RawFile.calls c.into_file.ensures) (λ b is. (rw c.in_default.is at c.build-store.ensures.built) b (c.seal.ensures.images.no_other b is))) (go_on (λ b none. absurd none) (weaker (λ b none. absurd none) c.make_temporary.ensures.steps) c.seal.ensures.steps) c.publish-published.ensures.steps)

pub returns-clause-guarded : goal.returns-clause-guarded
returns-clause-guarded g c =
    are_guarded (go_on (of_file _ _ _ _ c.len-len.ensures (ap g.N.File.RawFile.calls c.into_file.ensures) (λ b is. (rw c.in_default.is at c.build-store.ensures.built) b (c.seal.ensures.images.no_other b is))) (go_on (λ b none. absurd none) (weaker (λ b none. absurd none) c.make_temporary.ensures.steps) c.seal.ensures.steps) c.publish-published.ensures.steps)

pub returns-clause-any_moment : goal.returns-clause-any_moment
returns-clause-any_moment g c =
    at_each_moment (are_of_replacing (go_on (of_file _ _ _ _ c.len-len.ensures (ap g.N.File.RawFile.calls c.into_file.ensures) (λ b is. (rw c.in_default.is at c.build-store.ensures.built) b (c.seal.ensures.images.no_other b is))) (go_on (λ b none. absurd none) (weaker (λ b none. absurd none) c.make_temporary.ensures.steps) c.seal.ensures.steps) c.publish-published.ensures.steps))

pub returns-clause-told : goal.returns-clause-told
returns-clause-told g c =
    inr (record {
      left = c.build-store.result.0;
      built = Ok tt;
      tells_so = rw c.in_default.is at c.build-store.ensures.tells;
      answers = renames_built _ _ _ _ c.publish-published.result c.publish-published.ensures.err;
      sealed = c.seal.new.store;
      same = c.seal.ensures.images;
      unsynced = λ is. absurd (renames_synced _ _ _ _ c.publish-published.result c.publish-published.ensures.err (subst (λ (r : Result Unit (ReplaceFault g.row.B-Fault.Denot)). IsUnsynced r) (sym is) tt));
      renamed = renames_same _ _ _ _ _ _ _ c.publish-published.result c.len-len.ensures (ap g.N.File.RawFile.calls c.into_file.ensures) c.publish-published.ensures.file;
      cleared = clears_same _ _ _ _ _ _ c.publish-published.result (further _ _ _ (steps_go_on c.make_temporary.ensures.steps) (steps_go_on c.seal.ensures.steps)) (ap g.N.File.RawFile.calls c.into_file.ensures) c.publish-published.ensures.cleared;
    })

pub returns-clause-sure : goal.returns-clause-sure
returns-clause-sure g c =
    on_ok_weaker c.publish-published.result (weaker_sure c.args.name.now _ (of_file _ _ _ _ c.len-len.ensures (ap g.N.File.RawFile.calls c.into_file.ensures) (λ b is. (rw c.in_default.is at c.build-store.ensures.built) b (c.seal.ensures.images.no_other b is)))) c.publish-published.ensures.sure

pub publish-published-requires-clause-ready : goal.publish-published-requires-clause-ready
publish-published-requires-clause-ready g c =
    may_replace c.args.temporary.now c.args.name.now c.in-Ok.made.1 _ _ _ _ (ap g.N.File.RawFile.calls c.into_file.ensures) c.in-Ok.ensures.made c.in-Ok.ensures.user c.in-Ok.ensures.seen c.in_default-seal.ensures.ok
