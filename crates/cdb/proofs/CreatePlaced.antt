-- A create in place, and one on standard output, come to what the oracle says.
use Rattle.cdb.proofs.CreateTaken.{MayGiveUpCreate}
use Rattle.cdb.proofs.Words.{AllByRecursion, Answer, Appends, AppendsPrefix, Disk, Err, Fault, Feed, Ghosts, HandsBack, IfErr, InputsTaken, IsNew, Keeps, Left, List, Made, NameCalls, NameFault, None, Ok, OnErr, OnOk, Option, Result, RunOptions, Some, [], ap, bytes_eq, cond-false, cond-true, false, files_of, inl, inr, is_standard, made_file, made_lines, made_of, refl, state_of, subst, sym, true, ℕ, ◌∙◌, ◌≡◌, ◌⊎◌}
use Rattle.cdb_store.specs.Contents.{contents}
use Rattle.cdb_store.specs.contracts.memory.MemStoreStore.TheImpl.{ghosts as in_memory}
use Rattle.cdb_store.specs.declared.memory.MemStore.{MemStore}
use Rattle.cdb_store.specs.declared.make_fault.MakeFault.TheVariants.{Writing}
use Rattle.cdb_names.specs.declared.answer.Answer.TheVariants.{No, Unknown, Yes}
use Rattle.cdb_names.specs.declared.name_fault.NameFault.TheVariants as why
use Rattle.cdb_show.specs.declared.fault.Fault.TheVariants.{Make, Rename}
use Rattle.cdb.specs.Created.{Created, create_of, is_in_place, in_place, is_read, on_output, placed, unopened}
use Rattle.cdb.specs.Creating.{HasDatabase, IsBufferedRun, IsMakeRun, MakesEmptied, MakesOnOutput, SeesName, Syncs, WritesAll, AsksAll, Making}
use Rattle.cdb.specs.ForetoldCreate.{HoldsAll, IsNamed, IsNoFailedRename, KeepsAll, passing}
use Rattle.cdb_system.specs.Opening.{Empties, MissesEmptying, OpenCalls, named_as, unopened as unopened_fault}
use Rattle.cdb_system.specs.declared.system.System.{Ghosts as Systems}
use Rattle.cdb.proofs.Agreeing.{InputsAgree}
use Rattle.cdb.proofs.Replaced.{BaseHas, EndsSo, IsPlain, WasRefused, database_is, made_here, ran_err, ran_ok, whole_lines, none_appended, said_nothing}
use Rattle.cdb.proofs.Asks.{Asking, asking_none, read_asking, read_looked}
use Rattle.cdb.proofs.CreateReads.{AllKnown, moments_first}
use Rattle.cdb.proofs.CreateEnds.{AnsweredNames, Knows, Came, CameTrue, CreateSo, GaveUp, based_is, hands_unread, has_first, holds_first, keeps_first, same_name}

-- ---- in place

in_place_is : {F I J : Type 0} (s : Ghosts F) (w g : ℕ) (disk : Disk) (input name : List ℕ) (base : Option (List ℕ)) (inputs : List (List ℕ)) (temporary : Option (List ℕ)) (o : RunOptions) (read : Option F) (left : InputsTaken I J) → (k : AllKnown s w disk base inputs input read left) → is_standard name ≡ false → is_in_place name temporary ≡ true → is_read name base inputs ≡ false
    → (made : Made) → made ≡ made_of w g o.make k.old k.files input → create_of w g disk input name base inputs temporary o.make ≡ in_place disk name (made_lines made) (made_file w made) made.result
in_place_is s w g disk input name base inputs temporary o read left k standard placed_in other made is =
    based_is s w disk input base inputs read left (λ old files. placed w disk name base inputs temporary (made_of w g o.make old files input)) k
    ∙ cond-false (is_standard name) _ _ standard
    ∙ cond-true (is_in_place name temporary) _ _ placed_in
    ∙ cond-false (is_read name base inputs) _ _ other
    ∙ ap (λ v. in_place disk name (made_lines v) (made_file w v) v.result) (sym is)

pub in_place_unopened : {F I J : Type 0} (s : Ghosts F) (w g : ℕ) (disk : Disk) (input name : List ℕ) (base : Option (List ℕ)) (inputs : List (List ℕ)) (temporary : Option (List ℕ)) (o : RunOptions) (read : Option F) (left : InputsTaken I J) → AllKnown s w disk base inputs input read left → is_standard name ≡ false → is_in_place name temporary ≡ true → is_read name base inputs ≡ true
    → create_of w g disk input name base inputs temporary o.make ≡ unopened disk
in_place_unopened s w g disk input name base inputs temporary o read left k standard placed_in is =
    based_is s w disk input base inputs read left (λ old files. placed w disk name base inputs temporary (made_of w g o.make old files input)) k
    ∙ cond-false (is_standard name) _ _ standard ∙ cond-true (is_in_place name temporary) _ _ placed_in ∙ cond-true (is_read name base inputs) _ _ is

-- what it says
place_lines : (disk : Disk) (name lines file : List ℕ) (result : Result Unit Fault) → (in_place disk name lines file result).lines ≡ lines
place_lines disk name lines file (Ok done) = refl
place_lines disk name lines file (Err f) = refl

place_result : (disk : Disk) (name lines file : List ℕ) (result : Result Unit Fault) → (in_place disk name lines file result).result ≡ result
place_result disk name lines file (Ok done) = refl
place_result disk name lines file (Err f) = refl

place_output : (disk : Disk) (name lines file : List ℕ) (result : Result Unit Fault) → (in_place disk name lines file result).output ≡ []
place_output disk name lines file (Ok done) = refl
place_output disk name lines file (Err f) = refl

place_off : (disk : Disk) (name lines file other : List ℕ) (result : Result Unit Fault) → bytes_eq other name ≡ false → (in_place disk name lines file result).disk other ≡ disk other
place_off disk name lines file other (Ok done) e = cond-false (bytes_eq other name) _ _ e
place_off disk name lines file other (Err f) e = refl

place_its : (disk : Disk) (name lines file other : List ℕ) (result : Result Unit Fault) → result ≡ Ok tt → bytes_eq other name ≡ true → (in_place disk name lines file result).disk other ≡ Some file
place_its disk name lines file other result is e = ap (λ r. (in_place disk name lines file r).disk other) is ∙ cond-true (bytes_eq other name) _ _ e

place_unsure : (disk : Disk) (name lines file : List ℕ) (result : Result Unit Fault) (f : Fault) → result ≡ Err f → (in_place disk name lines file result).unsure ≡ Some name
place_unsure disk name lines file result f e = ap (λ r. (in_place disk name lines file r).unsure) e

-- the store has the database
store_new : (images : List ℕ → Type 0) (file : List ℕ) (ok : Type 0) (held : Option (List ℕ)) → ((b : List ℕ) → images b → (b ≡ file) × ok) → IsNew images held → (held ≡ Some file) × ok
store_new images file ok None each h = absurd h
store_new images file ok (Some b) each h = (ap (λ (z : List ℕ). Some z) (each b h).0, (each b h).1)

place_holds : {F I J M : Type 0} (s : Ghosts F) (m : Ghosts M) (disk : Disk) (name : List ℕ) (mk : Making F I J) (x : Option (List ℕ)) (files : List (Option (List ℕ))) (input : List ℕ) (back : Option F) (last : M) (c : Created) (opened : OpenCalls) (was now : NameCalls) → IsNamed name opened → was ≡ [] → Asking was now → BaseHas s back x → InputsAgree files input mk.inputs
    → c ≡ in_place disk name (made_lines (made_here mk x files input)) (made_file mk.word (made_here mk x files input)) (made_here mk x files input).result → HasDatabase s mk back (m.image last) → HoldsAll m disk name (Some last) opened now c
place_holds s m disk name mk x files input back last c opened was now named first a has known is database = λ other held sure h. elim h [
  | inl here ↦ (let v = made_here mk x files input in
      let new = store_new (m.image last) (made_file mk.word v) (v.result ≡ Ok tt) held (λ b k. database_is s mk back x files input b has known (database b k)) (here.1 named) in
      new.0 ∙ sym (ap (λ (v : Created). v.disk other) is ∙ place_its disk name (made_lines v) (made_file mk.word v) other v.result new.1 here.0))
  | inr there ↦ (let v = made_here mk x files input in
      has_first disk was now first a other held there.1 ∙ sym (ap (λ (v : Created). v.disk other) is ∙ place_off disk name (made_lines v) (made_file mk.word v) other v.result there.0))
]

place_fails : {M : Type 0} (m : Ghosts M) (disk : Disk) (name lines file : List ℕ) (result : Result Unit Fault) (f : Fault) (last : M) (c : Created) (opened : OpenCalls) (was now : NameCalls) → was ≡ [] → Asking was now → result ≡ Err f → c ≡ in_place disk name lines file result → HoldsAll m disk name (Some last) opened now c
place_fails m disk name lines file result f last c opened was now first a fails is = λ other held sure h. elim h [
  | inl here ↦ absurd (sure (ap (λ (v : Created). v.unsure) is ∙ place_unsure disk name lines file result f fails ∙ ap (λ (x : List ℕ). Some x) (sym (same_name other name here.0))))
  | inr there ↦ has_first disk was now first a other held there.1 ∙ sym (ap (λ (v : Created). v.disk other) is ∙ place_off disk name lines file other result there.0)
]

-- it came to what was said, and so did the disk, if the name was seen to have its file; or a refusal was reported
abbrev SyncedSo : {M : Type 0} → Ghosts M → Disk → (name : List ℕ) → RunOptions → Created → OpenCalls → NameCalls → M → (start end told said : Option (List ℕ)) → Result Unit Fault → Type 0
SyncedSo m disk name o c opened now last start end told said result =
    (CameTrue o c start end told said result × (OnOk result (IsNamed name opened) → HoldsAll m disk name (Some last) opened now c)) ⊎ GaveUp o c start end told said result

-- what came of the run, and of its sync
synced_so : {F I J M : Type 0} (s : Ghosts F) (m : Ghosts M) (disk : Disk) (name : List ℕ) (mk : Making F I J) (x : Option (List ℕ)) (files : List (Option (List ℕ))) (input : List ℕ) (back : Option F) (built last : M) (c : Created) (opened : OpenCalls) (was now : NameCalls) (start end told said : Option (List ℕ)) (made result : Result Unit Fault) (b : List ℕ)
    → was ≡ [] → Asking was now → BaseHas s back x → InputsAgree files input mk.inputs → c ≡ in_place disk name (made_lines (made_here mk x files input)) (made_file mk.word (made_here mk x files input)) (made_here mk x files input).result → Keeps start end
    → IsBufferedRun s mk back (m.image built) told said made → Syncs m built last made result → OnOk result (HasDatabase s mk back (m.image last)) → m.image last b → SyncedSo m disk name mk.options c opened now last start end told said result
synced_so s m disk name mk x files input back built last c opened was now start end told said (Ok done) result b first a has known is kept run syncs database image =
    let v = made_here mk x files input in
    let ran = ran_ok s mk back x files input (m.image built) b (Some b) told said has known (syncs.same.no_other b image) refl run in
    let lines : IsPlain mk.options → Appends told said c.lines = λ plain. subst (Appends told said) (sym (ap (λ (v : Created). v.lines) is ∙ place_lines disk name (made_lines v) (made_file mk.word v) v.result)) (ran.lines plain) in
    elim syncs.answered [
      | inl same ↦ inl (
        record {
          is = same ∙ sym (ap (λ (v : Created). v.result) is ∙ place_result disk name (made_lines v) (made_file mk.word v) v.result ∙ ran.result);
          output = subst (Appends start end) (sym (ap (λ (v : Created). v.output) is ∙ place_output disk name (made_lines v) (made_file mk.word v) v.result)) (none_appended start end kept);
          lines = lines;
        },
        λ named. place_holds s m disk name mk x files input back last c opened was now (subst (λ r. OnOk r (IsNamed name opened)) same named) first a has known is (subst (λ r. OnOk r (HasDatabase s mk back (m.image last))) same database),
      )
      | inr failed ↦ inr (record { fault = Make Writing; is = failed.1; refusal = tt; output = said_nothing start end c.output kept; lines = λ plain. whole_lines told said c.lines (lines plain) })
    ]
synced_so s m disk name mk x files input back built last c opened was now start end told said (Err f) result b first a has known is kept run syncs database image =
    let v = made_here mk x files input in
    let same : result ≡ Err f = elim syncs.answered [ inl same ↦ same | inr failed ↦ absurd (let no : false ≡ true = failed.0 in cc) ] in
    let lines : c.lines ≡ made_lines v = ap (λ (v : Created). v.lines) is ∙ place_lines disk name (made_lines v) (made_file mk.word v) v.result in
    elim (ran_err s mk back x files input (m.image built) b told said f has known (syncs.same.no_other b image) run) [
      | inl e ↦ inl (
        record {
          is = same ∙ e.is ∙ sym (ap (λ (v : Created). v.result) is ∙ place_result disk name (made_lines v) (made_file mk.word v) v.result);
          output = subst (Appends start end) (sym (ap (λ (v : Created). v.output) is ∙ place_output disk name (made_lines v) (made_file mk.word v) v.result)) (none_appended start end kept);
          lines = λ plain. subst (Appends told said) (sym lines) (e.lines plain);
        },
        λ named. place_fails m disk name (made_lines v) (made_file mk.word v) v.result f last c opened was now first a (sym e.is) is,
      )
      | inr r ↦ inr (record { fault = f; is = same; refusal = r.refusal; output = said_nothing start end c.output kept; lines = λ plain. subst (AppendsPrefix told said) (sym lines) (r.lines plain) })
    ]

-- what came of the last look at the name
unnamed_so : {M : Type 0} (m : Ghosts M) (disk : Disk) (name : List ℕ) (o : RunOptions) (c : Created) (opened : OpenCalls) (now : NameCalls) (last : M) (start end told said : Option (List ℕ)) (done : Unit {0}) (result : Result Unit Fault) → Keeps start end → SyncedSo m disk name o c opened now last start end told said (Ok done) → result ≡ Err Rename → Came m disk name o c opened now (Some last) start end told said result
unnamed_so m disk name o c opened now last start end told said done result kept (inl h) is = inr (record { fault = Rename; is = is; refusal = tt; output = said_nothing start end c.output kept; lines = λ plain. whole_lines told said c.lines (h.0.lines plain) })
unnamed_so m disk name o c opened now last start end told said done result kept (inr h) is = absurd (let no : ◌≡◌ {A = Result Unit Fault} (Ok done) (Err h.fault) = h.is in cc)

named_so : {M : Type 0} (m : Ghosts M) (disk : Disk) (name : List ℕ) (o : RunOptions) (c : Created) (emptied opened : OpenCalls) (now : NameCalls) (last : M) (start end told said : Option (List ℕ)) (synced result : Result Unit Fault) → Keeps start end → SyncedSo m disk name o c opened now last start end told said synced → SeesName name emptied opened synced result → Came m disk name o c opened now (Some last) start end told said result
named_so m disk name o c emptied opened now last start end told said (Ok done) result kept (inl h) (Yes, calls, is) = subst (Came m disk name o c opened now (Some last) start end told said) (sym is) (inl (h.0, λ removed. h.1 (emptied, calls)))
named_so m disk name o c emptied opened now last start end told said (Ok done) result kept (inr h) (Yes, calls, is) = subst (Came m disk name o c opened now (Some last) start end told said) (sym is) (inr h)
named_so m disk name o c emptied opened now last start end told said (Ok done) result kept h (No, calls, is) = unnamed_so m disk name o c opened now last start end told said done result kept h is
named_so m disk name o c emptied opened now last start end told said (Ok done) result kept h (Unknown, calls, is) = unnamed_so m disk name o c opened now last start end told said done result kept h is
named_so m disk name o c emptied opened now last start end told said (Err f) result kept (inl h) (same, is) = subst (Came m disk name o c opened now (Some last) start end told said) (sym is) (inl (h.0, λ removed. h.1 tt))
named_so m disk name o c emptied opened now last start end told said (Err f) result kept (inr h) (same, is) = subst (Came m disk name o c opened now (Some last) start end told said) (sym is) (inr h)

-- the file was not emptied
opening_refused : (cause : NameFault) → MayGiveUpCreate (unopened_fault cause)
opening_refused why.Failed = tt
opening_refused why.NoMemory = tt

same_fault : (f g : Fault) → ◌≡◌ {A = Result Unit Fault} (Err f) (Err g) → f ≡ g
same_fault f g e = cc

unnamed_refused : (answer : Answer) (fault : Fault) → named_as answer ≡ Err fault → MayGiveUpCreate fault
unnamed_refused Yes fault is = absurd (let no : ◌≡◌ {A = Result Unit Fault} (Ok tt) (Err fault) = is in cc)
unnamed_refused answer fault is = subst MayGiveUpCreate (same_fault Rename fault is) tt

pub emptying_refused : (name : List ℕ) (old new : OpenCalls) (fault : Fault) → MissesEmptying name old new fault → MayGiveUpCreate fault
emptying_refused name old new fault (inl misses) = subst MayGiveUpCreate (sym misses.is) (opening_refused misses.why)
emptying_refused name old new fault (inr (inl held)) = subst MayGiveUpCreate (sym held.0) tt
emptying_refused name old new fault (inr (inr (inl (answer, asks, is)))) = unnamed_refused answer fault is
emptying_refused name old new fault (inr (inr (inr (locked, takes, misses)))) = subst MayGiveUpCreate (sym misses.is) (opening_refused misses.why)

back_of : {F I J : Type 0} (s : Ghosts F) (mk : Making F I J) (back : Option F) (images : List ℕ → Type 0) (told said : Option (List ℕ)) (made : Result Unit Fault) → IsBufferedRun s mk back images told said made → HandsBack s mk.base back
back_of s mk back images told said made (inl ran) = ran.hands
back_of s mk back images told said made (inr lacks) = hands_unread s mk.base back lacks.0

place_done : {F I J M : Type 0} (s : Ghosts F) (m : Ghosts M) (disk : Disk) (name : List ℕ) (mk : Making F I J) (x : Option (List ℕ)) (files : List (Option (List ℕ))) (input : List ℕ) (back : Option F) (last : M) (c : Created) (emptied opened : OpenCalls) (was now : NameCalls) (synced result : Result Unit Fault) → was ≡ [] → Asking was now → BaseHas s back x → InputsAgree files input mk.inputs
    → c ≡ in_place disk name (made_lines (made_here mk x files input)) (made_file mk.word (made_here mk x files input)) (made_here mk x files input).result → OnOk synced (HasDatabase s mk back (m.image last)) → SeesName name emptied opened synced result → OnOk result (HoldsAll m disk name (Some last) opened now c)
place_done s m disk name mk x files input back last c emptied opened was now (Ok done) result first a has known is database (Yes, calls, e) = subst (λ r. OnOk r (HoldsAll m disk name (Some last) opened now c)) (sym e) (place_holds s m disk name mk x files input back last c opened was now (emptied, calls) first a has known is database)
place_done s m disk name mk x files input back last c emptied opened was now (Ok done) result first a has known is database (No, calls, e) = subst (λ r. OnOk r (HoldsAll m disk name (Some last) opened now c)) (sym e) tt
place_done s m disk name mk x files input back last c emptied opened was now (Ok done) result first a has known is database (Unknown, calls, e) = subst (λ r. OnOk r (HoldsAll m disk name (Some last) opened now c)) (sym e) tt
place_done s m disk name mk x files input back last c emptied opened was now (Err f) result first a has known is database (same, e) = subst (λ r. OnOk r (HoldsAll m disk name (Some last) opened now c)) (sym e) tt

if_err : (P : Type 0) (result : Result Unit Fault) → P → OnErr result P
if_err P (Ok done) p = tt
if_err P (Err f) p = p

pub emptied_so : {F I J M N R Y : Type 0} (s : Ghosts F) (m : Ghosts M) (feed : I → Feed) (y : Systems Y F I M J N R) (w g : ℕ) (disk : Disk) (input name : List ℕ) (base : Option (List ℕ)) (inputs : List (List ℕ)) (temporary : Option (List ℕ)) (o : RunOptions) (mid emptied new : OpenCalls) (file : Option F) (items : InputsTaken I J) (left : Left F M I J) (was now : NameCalls) (start end told said : Option (List ℕ)) (result : Result Unit Fault)
    → is_standard name ≡ false → is_in_place name temporary ≡ true → Knows s w disk base inputs input file left.read items → AnsweredNames disk name was now → Keeps start end → AsksAll name base inputs was now → Empties name mid emptied
    → MakesEmptied (files_of s m feed y) (record { word = w; greatest = g; options = o; base = file; inputs = items }) name emptied (state_of mid was start told) (state_of new now end said) left result → CreateSo m disk name temporary o (create_of w g disk input name base inputs temporary o.make) new was now left.made start end told said result
emptied_so s m feed y w g disk input name base inputs temporary o mid emptied new file items left was now start end told said result standard placed_in knows honest kept asks empties h =
    let mk : Making _ _ _ = record { word = w; greatest = g; options = o; base = file; inputs = items } in
    let known = knows (back_of s mk left.read (m.image h.built) told said h.made h.run) in
    let question = read_looked name base inputs false was now asks honest.alone in
    let a = read_asking name base inputs false was now asks in
    let c = create_of w g disk input name base inputs temporary o.make in
    let is = in_place_is s w g disk input name base inputs temporary o left.read items known standard placed_in question.is (made_here mk known.old known.files input) refl in
    let so : CreateSo m disk name temporary o c new was now (Some h.last) start end told said result = record {
      answer = λ had has. named_so m disk name o c emptied new now h.last start end told said h.synced result kept (synced_so s m disk name mk known.old known.files input left.read h.built h.last c new was now start end told said h.made h.synced has.0 honest.first a known.has known.known is kept h.run h.syncs h.has has.1) h.named;
      done = place_done s m disk name mk known.old known.files input left.read h.last c emptied new was now h.synced result honest.first a known.has known.known is h.has h.named;
      failed = if_err (AllByRecursion IsNoFailedRename now → KeepsAll disk (passing name temporary) now) result (λ tried. keeps_first disk (passing name temporary) was now honest.first a);
      moments = moments_first disk c.disk (passing name temporary) was now honest.first a;
    } in
    subst (λ v. CreateSo m disk name temporary o c new was now v start end told said result) (sym h.is_last) so

-- ---- on standard output

output_is : {F I J : Type 0} (s : Ghosts F) (w g : ℕ) (disk : Disk) (input name : List ℕ) (base : Option (List ℕ)) (inputs : List (List ℕ)) (temporary : Option (List ℕ)) (o : RunOptions) (read : Option F) (left : InputsTaken I J) → (k : AllKnown s w disk base inputs input read left) → is_standard name ≡ true
    → (made : Made) → made ≡ made_of w g o.make k.old k.files input → create_of w g disk input name base inputs temporary o.make ≡ on_output disk (made_lines made) (made_file w made) made.result
output_is s w g disk input name base inputs temporary o read left k standard made is =
    based_is s w disk input base inputs read left (λ old files. placed w disk name base inputs temporary (made_of w g o.make old files input)) k
    ∙ cond-true (is_standard name) _ _ standard
    ∙ ap (λ v. on_output disk (made_lines v) (made_file w v) v.result) (sym is)

output_lines : (disk : Disk) (lines file : List ℕ) (result : Result Unit Fault) → (on_output disk lines file result).lines ≡ lines
output_lines disk lines file (Ok done) = refl
output_lines disk lines file (Err f) = refl

output_result : (disk : Disk) (lines file : List ℕ) (result : Result Unit Fault) → (on_output disk lines file result).result ≡ result
output_result disk lines file (Ok done) = refl
output_result disk lines file (Err f) = refl

output_disk : (disk : Disk) (lines file other : List ℕ) (result : Result Unit Fault) → (on_output disk lines file result).disk other ≡ disk other
output_disk disk lines file other (Ok done) = refl
output_disk disk lines file other (Err f) = refl

output_file : (disk : Disk) (lines file : List ℕ) (result : Result Unit Fault) → result ≡ Ok tt → (on_output disk lines file result).output ≡ file
output_file disk lines file result e = ap (λ r. (on_output disk lines file r).output) e

output_none : (disk : Disk) (lines file : List ℕ) (result : Result Unit Fault) (f : Fault) → result ≡ Err f → (on_output disk lines file result).output ≡ []
output_none disk lines file result f e = ap (λ r. (on_output disk lines file r).output) e

-- what is said, without the disk
abbrev Wrote : RunOptions → Created → (start end told said : Option (List ℕ)) → Result Unit Fault → Type 0
Wrote o c start end told said result = CameTrue o c start end told said result ⊎ GaveUp o c start end told said result

written_so : (w : ℕ) (disk : Disk) (o : RunOptions) (v : Made) (c : Created) (bytes : List ℕ) (start end told said : Option (List ℕ)) (result : Result Unit Fault) → c ≡ on_output disk (made_lines v) (made_file w v) v.result → bytes ≡ made_file w v → v.result ≡ Ok tt → (IsPlain o → Appends told said (made_lines v)) → WritesAll start end bytes result → Wrote o c start end told said result
written_so w disk o v c bytes start end told said (Ok done) is file ok lines h = inl (record {
  is = sym (ap (λ (v : Created). v.result) is ∙ output_result disk (made_lines v) (made_file w v) v.result ∙ ok);
  output = subst (Appends start end) (file ∙ sym (ap (λ (v : Created). v.output) is ∙ output_file disk (made_lines v) (made_file w v) v.result ok)) h.ok;
  lines = λ plain. subst (Appends told said) (sym (ap (λ (v : Created). v.lines) is ∙ output_lines disk (made_lines v) (made_file w v) v.result)) (lines plain);
})
written_so w disk o v c bytes start end told said (Err f) is file ok lines h = inr (record {
  fault = f;
  is = refl;
  refusal = subst MayGiveUpCreate (sym h.err.0) tt;
  output = subst (AppendsPrefix start end) (file ∙ sym (ap (λ (v : Created). v.output) is ∙ output_file disk (made_lines v) (made_file w v) v.result ok)) h.err.1;
  lines = λ plain. whole_lines told said c.lines (subst (Appends told said) (sym (ap (λ (v : Created). v.lines) is ∙ output_lines disk (made_lines v) (made_file w v) v.result)) (lines plain));
})

unwritten_so : (w : ℕ) (disk : Disk) (o : RunOptions) (v : Made) (c : Created) (start end told said : Option (List ℕ)) (f : Fault) (result : Result Unit Fault) → c ≡ on_output disk (made_lines v) (made_file w v) v.result → result ≡ Err f → Keeps start end → EndsSo o v told said (Err f) ⊎ WasRefused o v told said f → Wrote o c start end told said result
unwritten_so w disk o v c start end told said f result is same kept (inl e) = inl (record {
  is = same ∙ e.is ∙ sym (ap (λ (v : Created). v.result) is ∙ output_result disk (made_lines v) (made_file w v) v.result);
  output = subst (Appends start end) (sym (ap (λ (v : Created). v.output) is ∙ output_none disk (made_lines v) (made_file w v) v.result f (sym e.is))) (none_appended start end kept);
  lines = λ plain. subst (Appends told said) (sym (ap (λ (v : Created). v.lines) is ∙ output_lines disk (made_lines v) (made_file w v) v.result)) (e.lines plain);
})
unwritten_so w disk o v c start end told said f result is same kept (inr r) = inr (record {
  fault = f;
  is = same;
  refusal = r.refusal;
  output = said_nothing start end c.output kept;
  lines = λ plain. subst (AppendsPrefix told said) (sym (ap (λ (v : Created). v.lines) is ∙ output_lines disk (made_lines v) (made_file w v) v.result)) (r.lines plain);
})

some_bytes : (a b : List ℕ) → ◌≡◌ {A = Option (List ℕ)} (Some a) (Some b) → a ≡ b
some_bytes a b e = cc

made_written : {F I J : Type 0} (s : Ghosts F) (mk : Making F I J) (x : Option (List ℕ)) (files : List (Option (List ℕ))) (input : List ℕ) (back : Option F) (disk : Disk) (c : Created) (store : MemStore) (start end told said : Option (List ℕ)) (made result : Result Unit Fault) → BaseHas s back x → InputsAgree files input mk.inputs
    → c ≡ on_output disk (made_lines (made_here mk x files input)) (made_file mk.word (made_here mk x files input)) (made_here mk x files input).result → IsMakeRun s mk back (in_memory.image store) told said made → OnOk made (WritesAll start end (contents store) result) → IfErr made (λ fault. (result ≡ Err fault) × Keeps start end)
    → Wrote mk.options c start end told said result
made_written s mk x files input back disk c store start end told said (Ok done) result has known is run written failed =
    let h = ran_ok s mk back x files input (in_memory.image store) (contents store) (Some (contents store)) told said has known refl refl (inl run) in
    written_so mk.word disk mk.options (made_here mk x files input) c (contents store) start end told said result is (some_bytes (contents store) _ h.file) h.result h.lines written
made_written s mk x files input back disk c store start end told said (Err f) result has known is run written failed =
    unwritten_so mk.word disk mk.options (made_here mk x files input) c start end told said f result is failed.0 failed.1
    (ran_err s mk back x files input (in_memory.image store) (contents store) told said f has known refl (inl run))

if_ok : (P : Type 0) (result : Result Unit Fault) → P → OnOk result P
if_ok P (Ok done) p = p
if_ok P (Err f) p = tt

pub output_so : {F I J M : Type 0} (s : Ghosts F) (m : Ghosts M) (w g : ℕ) (disk : Disk) (input name : List ℕ) (base : Option (List ℕ)) (inputs : List (List ℕ)) (temporary : Option (List ℕ)) (o : RunOptions) (file read : Option F) (items : InputsTaken I J) (was now : NameCalls) (start end told said : Option (List ℕ)) (result : Result Unit Fault)
    → is_standard name ≡ true → Knows s w disk base inputs input file read items → AnsweredNames disk name was now → now ≡ was
    → MakesOnOutput s (record { word = w; greatest = g; options = o; base = file; inputs = items }) read start end told said result → CreateSo m disk name temporary o (create_of w g disk input name base inputs temporary o.make) [] was now None start end told said result
output_so s m w g disk input name base inputs temporary o file read items was now start end told said result standard knows honest calls h =
    let mk : Making _ _ _ = record { word = w; greatest = g; options = o; base = file; inputs = items } in
    let known = knows h.makes.run.hands in
    let c = create_of w g disk input name base inputs temporary o.make in
    let v = made_here mk known.old known.files input in
    let is = output_is s w g disk input name base inputs temporary o read items known standard v refl in
    let a = asking_none was now calls in
    let holds : HoldsAll m disk name None [] now c = holds_first m disk name c was now honest.first a (λ other. ap (λ (v : Created). v.disk other) is ∙ output_disk disk (made_lines v) (made_file w v) other v.result) in
    record {
      answer = λ had has. elim (made_written s mk known.old known.files input read disk c h.store start end told said h.made result known.has known.known is h.makes.run h.written h.failed) [
        | inl so ↦ inl (so, λ removed. holds)
        | inr gave ↦ inr gave
      ];
      done = if_ok (HoldsAll m disk name None [] now c) result holds;
      failed = if_err (AllByRecursion IsNoFailedRename now → KeepsAll disk (passing name temporary) now) result (λ tried. keeps_first disk (passing name temporary) was now honest.first a);
      moments = moments_first disk c.disk (passing name temporary) was now honest.first a;
    }
