-- A create in a temporary file comes to what the oracle says.
use Rattle.cdb.proofs.Words.{AllByRecursion, Appends, AppendsPrefix, AsksAll, Calls, Created, Disk, Err, Fault, Ghosts, HadBytes, HandsBack, Has, HoldsAll, InputsTaken, IsBufferedRun, IsNoFailedRemoval, IsNoFailedRename, Keeps, Keeps-refl, KeepsAll, LeavesAll, List, Made, Making, MayHave, NameCall, NameCalls, None, Ok, OnErr, OnOk, OpenCalls, Option, ReplaceFault, Replaces, Result, RunOptions, Some, [], answer_of, ap, append_assoc, arith, bytes_eq, calls_of, create_of, false, in_place, in_temporary, inl, inr, is_in_place, is_no_name, is_read, is_standard, length, length-append, made_file, made_lines, made_of, passing, place_of, placed, refl, state_of, subst, sym, temporary_of, true, unopened, ℕ, ◌++◌, ◌||◌, ◌∙◌, ◌∷◌, ◌≡◌, ◌≢◌, ◌⊎◌}
use Rattle.std.proofs.lemmas.Bool.{eqb-true, cond-true, cond-false, or_right, cases_Bool}
use Rattle.cdb_names.specs.declared.replace.ReplaceFault.TheVariants as replace
use Rattle.cdb_names.specs.Replacing.{AtEach, AtEachMoment, ClearsFile, IsNoName, BuilderTells, IsRenamed, renames}
use Rattle.cdb_names.specs.declared.name_trace.NameCall.TheVariants as name_call
use Rattle.cdb_store.specs.declared.raw.RawFile.{Ghosts as Raw}
use Rattle.cdb_show.specs.declared.fault.Fault.TheVariants.{Open}
use Rattle.cdb.proofs.Replaced.{IsGone, KeepsOthers, LeavesOldOrMade, ReplacesSo, at_name, none_appended, not_at, replaces_so, said_nothing}
use Rattle.cdb.proofs.Asks.{Asking, read_asking, read_looked}
use Rattle.cdb.proofs.CreateReads.{AllKnown, asked_kept, moments_first}
use Rattle.cdb.proofs.CreateEnds.{AnsweredNames, Knows, Came, CreateSo, apart_is, based_is, ends_early, first_is, has_may, last_leaves, last_moment, lines_of, name_holds, open_so, oracle_is, other_name, result_of, same_name, same_some, since_asked}

-- ---- in a temporary file

-- what the oracle says of the names
disk_off : (disk : Disk) (temporary name lines file : List ℕ) (result : Result Unit Fault) (other : List ℕ) → temporary ≢ other → name ≢ other → (in_temporary disk temporary name lines file result).disk other ≡ disk other
disk_off disk t name lines file (Ok done) other tn nn = cond-false (bytes_eq other t) _ _ (not_at other t (λ e. tn (sym e))) ∙ cond-false (bytes_eq other name) _ _ (not_at other name (λ e. nn (sym e)))
disk_off disk t name lines file (Err f) other tn nn = cond-false (bytes_eq other t) _ _ (not_at other t (λ e. tn (sym e)))

disk_gone : (disk : Disk) (temporary name lines file : List ℕ) (result : Result Unit Fault) → (in_temporary disk temporary name lines file result).disk temporary ≡ None
disk_gone disk t name lines file (Ok done) = cond-true (bytes_eq t t) _ _ (at_name t)
disk_gone disk t name lines file (Err f) = cond-true (bytes_eq t t) _ _ (at_name t)

disk_old : (disk : Disk) (temporary name lines file : List ℕ) (result : Result Unit Fault) (f : Fault) → temporary ≢ name → result ≡ Err f → (in_temporary disk temporary name lines file result).disk name ≡ disk name
disk_old disk t name lines file result f apart e = ap (λ r. (in_temporary disk t name lines file r).disk name) e ∙ cond-false (bytes_eq name t) _ _ (not_at name t (λ e. apart (sym e)))

output_of : (disk : Disk) (temporary name lines file : List ℕ) (result : Result Unit Fault) → (in_temporary disk temporary name lines file result).output ≡ []
output_of disk t name lines file (Ok done) = refl
output_of disk t name lines file (Err f) = refl

-- each moment since the questions
each_both : (P Q R : NameCalls → Type 0) (since old : NameCalls) → ((now : NameCalls) → P now → Q now → R now) → AtEach P since old → AtEach Q since old → AtEach R since old
each_both P Q R [] old go a b = go old a b
each_both P Q R (call ∷ since) old go a b = (go (call ∷ (since ++ old)) a.0 b.0, each_both P Q R since old go a.1 b.1)

each_then : (P : NameCalls → Type 0) (later since old : NameCalls) → AtEach P later (since ++ old) → AtEach P since old → AtEach P (later ++ since) old
each_then P [] since old a b = b
each_then P (call ∷ later) since old a b = (subst (λ c. P (call ∷ c)) (sym (append_assoc later since old)) a.0, each_then P later since old a.1 b)

moment_so : (w : ℕ) (disk : Disk) (temporary name : List ℕ) (made : Made) (c : Created) (was asked at : NameCalls) → temporary ≢ name → c ≡ in_temporary disk temporary name (made_lines made) (made_file w made) made.result → was ≡ [] → Asking was asked → LeavesOldOrMade w name made asked at
    → (held : Option (List ℕ)) → MayHave (place_of name) (disk name) at held → (held ≡ disk name) ⊎ (held ≡ c.disk name)
moment_so w disk temporary name made c was asked at apart is first a h held may = elim (h (disk name) held may) [
  | inl old ↦ inl (first_is (place_of name) (disk name) held was first (asked_kept was asked a (place_of name) (disk name) held old))
  | inr new ↦ inr (new.0 ∙ sym (ap (λ (v : Created). v.disk name) is ∙ name_holds disk temporary name (made_lines made) (made_file w made) made.result apart new.1))
]

moment_all : (w : ℕ) (disk : Disk) (temporary name : List ℕ) (made : Made) (c : Created) (was asked at : NameCalls) → temporary ≢ name → c ≡ in_temporary disk temporary name (made_lines made) (made_file w made) made.result → was ≡ [] → Asking was asked → LeavesOldOrMade w name made asked at → KeepsOthers temporary name asked at
    → LeavesAll disk (Some temporary) c.disk at
moment_all w disk t name made c was asked at apart is first a h others = λ other held out may. elim (cases_Bool (bytes_eq name other)) [
  | inl e ↦ subst (λ (x : List ℕ). MayHave (place_of x) (disk x) at held → (held ≡ disk x) ⊎ (held ≡ c.disk x)) (same_name name other e) (moment_so w disk t name made c was asked at apart is first a h held) may
  | inr e ↦ inl (first_is (place_of other) (disk other) held was first (asked_kept was asked a (place_of other) (disk other) held
      (others other (λ same. out (ap (λ (x : List ℕ). Some x) same)) (other_name name other e) (disk other) held may)))
]

moments_so : (w : ℕ) (disk : Disk) (temporary name : List ℕ) (o : RunOptions) (made : Made) (c : Created) (was asked now : NameCalls) (told said : Option (List ℕ)) (result : Result Unit Fault) → temporary ≢ name → c ≡ in_temporary disk temporary name (made_lines made) (made_file w made) made.result → was ≡ [] → Asking was asked → ReplacesSo w o temporary name made asked now told said result
    → AtEachMoment (LeavesAll disk (Some temporary) c.disk) was now
moments_so w disk t name o made c was asked now told said result apart is first a so =
    let P : NameCalls → Type 0 = LeavesAll disk (Some t) c.disk in
    let later : AtEach P so.since asked = each_both (LeavesOldOrMade w name made asked) (KeepsOthers t name asked) P so.since asked (λ at h others. moment_all w disk t name made c was asked at apart is first a h others) so.moments so.others in
    let before = moments_first disk c.disk (Some t) was asked first a in
    record {
      since = so.since ++ before.since;
      calls = so.calls ∙ ap (λ c. so.since ++ c) before.calls ∙ sym (append_assoc so.since before.since was);
      each = each_then P so.since before.since was (subst (λ c. AtEach P so.since c) before.calls later) before.each;
    }

-- each name once it ended
holds_so : {M : Type 0} (m : Ghosts M) (disk : Disk) (temporary name : List ℕ) (c : Created) (now : NameCalls) → LeavesAll disk (Some temporary) c.disk now → ((other : List ℕ) → temporary ≢ other → name ≢ other → c.disk other ≡ disk other)
    → ((held : Option (List ℕ)) → Has (place_of name) (disk name) now held → held ≡ c.disk name) → ((held : Option (List ℕ)) → Has (place_of temporary) (disk temporary) now held → held ≡ c.disk temporary) → HoldsAll m disk name None [] now c
holds_so m disk t name c now all off at_its at_temporary = λ other held sure h. elim (cases_Bool (bytes_eq t other)) [
  | inl e ↦ subst (λ (x : List ℕ). Has (place_of x) (disk x) now held → held ≡ c.disk x) (same_name t other e) (at_temporary held) h
  | inr nt ↦ elim (cases_Bool (bytes_eq name other)) [
    | inl e ↦ subst (λ (x : List ℕ). Has (place_of x) (disk x) now held → held ≡ c.disk x) (same_name name other e) (at_its held) h
    | inr nn ↦ elim (all other held (λ p. other_name t other nt (same_some t other p)) (has_may (place_of other) (disk other) now held h)) [
      | inl was ↦ was ∙ sym (off other (other_name t other nt) (other_name name other nn))
      | inr new ↦ new
    ]
  ]
]

-- the temporary name is gone
renamed_gone : (temporary name : List ℕ) (len : ℕ) (file : Calls) (before : NameCalls) (first held : Option (List ℕ)) → temporary ≢ name → Has (place_of temporary) first ((name_call.Renamed len, temporary, name, file) ∷ before) held → held ≡ None
renamed_gone t name len file before first held apart (inl to) = absurd (let no : true ≡ false = sym to.0 ∙ not_at name t (λ e. apart (sym e)) in cc)
renamed_gone t name len file before first held apart (inr (other, inl gone)) = gone.1
renamed_gone t name len file before first held apart (inr (other, inr there)) = absurd (let no : true ≡ false = sym (at_name t) ∙ there.0 in cc)

gone_ok : (temporary name : List ℕ) (now : NameCalls) (first held : Option (List ℕ)) → temporary ≢ name → IsRenamed temporary name now → Has (place_of temporary) first now held → held ≡ None
gone_ok t name now first held apart is h = elim is.is_sync [
  | inl e ↦ renamed_gone t name is.len is.file is.before first held apart
      (let k : Has (place_of t) first ((name_call.Synced, name, [], []) ∷ (name_call.Renamed is.len, t, name, is.file) ∷ is.before) held = subst (λ c. Has (place_of t) first c held) (is.are ∙ ap (λ (s : NameCall). (s, name, [], []) ∷ (name_call.Renamed is.len, t, name, is.file) ∷ is.before) e) h in k)
  | inr e ↦ renamed_gone t name is.len is.file is.before first held apart
      (let k : Has (place_of t) first ((name_call.NotSynced, name, [], []) ∷ (name_call.Renamed is.len, t, name, is.file) ∷ is.before) held = subst (λ c. Has (place_of t) first c held) (is.are ∙ ap (λ (s : NameCall). (s, name, [], []) ∷ (name_call.Renamed is.len, t, name, is.file) ∷ is.before) e) h in k)
]

removed_gone : (temporary : List ℕ) (file : Calls) (before : NameCalls) (first held : Option (List ℕ)) → Has (place_of temporary) first ((name_call.Removed, temporary, [], file) ∷ before) held → held ≡ None
removed_gone t file before first held (inl gone) = gone.1
removed_gone t file before first held (inr there) = absurd (let no : true ≡ false = sym (at_name t) ∙ there.0 in cc)

gone_err : (temporary : List ℕ) (now : NameCalls) (first held : Option (List ℕ)) → IsGone temporary now → AllByRecursion IsNoFailedRemoval now → Has (place_of temporary) first now held → held ≡ None
gone_err t now first held (before, (file, (gone, inl e, are))) removed h =
    removed_gone t file before first held (subst (λ c. Has (place_of t) first c held) (are ∙ ap (λ (g : NameCall). (g, t, [], file) ∷ before) e) h)
gone_err t now first held (before, (file, (gone, inr e, are))) removed h =
    absurd (subst (AllByRecursion IsNoFailedRemoval) (are ∙ ap (λ (g : NameCall). (g, t, [], file) ∷ before) e) removed).0

replaced_holds : {M : Type 0} (m : Ghosts M) (w : ℕ) (disk : Disk) (temporary name : List ℕ) (o : RunOptions) (made : Made) (c : Created) (asked now : NameCalls) (told said : Option (List ℕ)) (result : Result Unit Fault) → temporary ≢ name → c ≡ in_temporary disk temporary name (made_lines made) (made_file w made) made.result → LeavesAll disk (Some temporary) c.disk now → ReplacesSo w o temporary name made asked now told said result
    → OnOk result (HoldsAll m disk name None [] now c)
replaced_holds m w disk t name o made c asked now told said (Err f) apart is all so = tt
replaced_holds m w disk t name o made c asked now told said (Ok done) apart is all so =
    holds_so m disk t name c now all (λ other tn nn. ap (λ (v : Created). v.disk other) is ∙ disk_off disk t name (made_lines made) (made_file w made) made.result other tn nn)
    (λ held has. (let h = so.ok (disk name) held has in h.file ∙ sym (ap (λ (v : Created). v.disk name) is ∙ name_holds disk t name (made_lines made) (made_file w made) made.result apart h.result)))
    (λ held has. gone_ok t name now (disk t) held apart so.renamed has ∙ sym (ap (λ (v : Created). v.disk t) is ∙ disk_gone disk t name (made_lines made) (made_file w made) made.result))

failed_holds : {M : Type 0} (m : Ghosts M) (w : ℕ) (disk : Disk) (temporary name : List ℕ) (made : Made) (c : Created) (now : NameCalls) (f : Fault) → temporary ≢ name → c ≡ in_temporary disk temporary name (made_lines made) (made_file w made) made.result → made.result ≡ Err f → LeavesAll disk (Some temporary) c.disk now → IsGone temporary now → AllByRecursion IsNoFailedRemoval now
    → HoldsAll m disk name None [] now c
failed_holds m w disk t name made c now f apart is fails all gone removed =
    let at_its : c.disk name ≡ disk name = ap (λ (v : Created). v.disk name) is ∙ disk_old disk t name (made_lines made) (made_file w made) made.result f apart fails in
    holds_so m disk t name c now all (λ other tn nn. ap (λ (v : Created). v.disk other) is ∙ disk_off disk t name (made_lines made) (made_file w made) made.result other tn nn)
    (λ held has. elim (all name held (λ p. apart (same_some t name p)) (has_may (place_of name) (disk name) now held has)) [ inl was ↦ was ∙ sym at_its | inr new ↦ new ])
    (λ held has. gone_err t now (disk t) held gone removed has ∙ sym (ap (λ (v : Created). v.disk t) is ∙ disk_gone disk t name (made_lines made) (made_file w made) made.result))

finished_so : {M : Type 0} (m : Ghosts M) (w : ℕ) (disk : Disk) (temporary name : List ℕ) (o : RunOptions) (made : Made) (c : Created) (asked now : NameCalls) (start end told said held : Option (List ℕ)) (result : Result Unit Fault) → temporary ≢ name → c ≡ in_temporary disk temporary name (made_lines made) (made_file w made) made.result → c.lines ≡ (made_lines made) → c.result ≡ made.result → Appends start end c.output → AppendsPrefix start end c.output
    → LeavesAll disk (Some temporary) c.disk now → Has (place_of name) (disk name) now held → ReplacesSo w o temporary name made asked now told said result → HadBytes temporary now → Came m disk name o c [] now None start end told said result
finished_so m w disk t name o made c asked now start end told said held (Ok done) apart is lines ends whole part all has so had =
    let h = so.ok (disk name) held has in
    inl (record { is = sym (ends ∙ h.result); output = whole; lines = λ plain. subst (Appends told said) (sym lines) (h.lines plain) }, λ removed. replaced_holds m w disk t name o made c asked now told said (Ok tt) apart is all so)
finished_so m w disk t name o made c asked now start end told said held (Err f) apart is lines ends whole part all has so had = elim (so.err had) [
  | inl e ↦ inl (
    record { is = e.0.is ∙ sym ends; output = whole; lines = λ plain. subst (Appends told said) (sym lines) (e.0.lines plain) },
    λ removed. failed_holds m w disk t name made c now f apart is (sym e.0.is) all e.1 removed,
  )
  | inr r ↦ inr (record { fault = f; is = refl; refusal = r.refusal; output = part; lines = λ plain. subst (AppendsPrefix told said) (sym lines) (r.lines plain) })
]

finished : {M : Type 0} (m : Ghosts M) (w : ℕ) (disk : Disk) (temporary name : List ℕ) (o : RunOptions) (made : Made) (c : Created) (asked now : NameCalls) (start end told said held : Option (List ℕ)) (result : Result Unit Fault) → temporary ≢ name → c ≡ in_temporary disk temporary name (made_lines made) (made_file w made) made.result → Keeps start end → LeavesAll disk (Some temporary) c.disk now → Has (place_of name) (disk name) now held
    → ReplacesSo w o temporary name made asked now told said result → HadBytes temporary now → Came m disk name o c [] now None start end told said result
finished m w disk t name o made c asked now start end told said held result apart is kept all has so had =
    let lines : c.lines ≡ (made_lines made) = ap (λ (v : Created). v.lines) is ∙ lines_of disk t name (made_lines made) (made_file w made) made.result in
    let ends : c.result ≡ made.result = ap (λ (v : Created). v.result) is ∙ result_of disk t name (made_lines made) (made_file w made) made.result in
    let written : c.output ≡ [] = ap (λ (v : Created). v.output) is ∙ output_of disk t name (made_lines made) (made_file w made) made.result in
    finished_so m w disk t name o made c asked now start end told said held result apart is lines ends (subst (Appends start end) (sym written) (none_appended start end kept)) (said_nothing start end c.output kept) all has so had

others_at : (since asked now : NameCalls) (temporary name : List ℕ) → now ≡ since ++ asked → AtEach (KeepsOthers temporary name asked) since asked → KeepsOthers temporary name asked now
others_at since asked now t name e h = last_moment (KeepsOthers t name asked) since asked now e h

-- after a fault, with no rename done or tried, each other name has what it had
failed_so : (w : ℕ) (disk : Disk) (temporary name : List ℕ) (o : RunOptions) (made : Made) (was asked now : NameCalls) (told said : Option (List ℕ)) (result : Result Unit Fault) → was ≡ [] → Asking was asked → ReplacesSo w o temporary name made asked now told said result → OnErr result (AllByRecursion IsNoFailedRename now → KeepsAll disk (Some temporary) now)
failed_so w disk t name o made was asked now told said (Ok done) first a so = tt
failed_so w disk t name o made was asked now told said (Err f) first a so = λ tried other held out h.
    (let may = has_may (place_of other) (disk other) now held h in
    let before : MayHave (place_of other) (disk other) asked held = elim (cases_Bool (bytes_eq name other)) [
      | inl e ↦ (let same = same_name name other e in
          subst (λ (x : List ℕ). MayHave (place_of x) (disk other) now held → MayHave (place_of x) (disk other) asked held) same (so.unrenamed tried (disk other) held) may)
      | inr e ↦ others_at so.since asked now t name so.calls so.others other (λ same. out (ap (λ (x : List ℕ). Some x) same)) (other_name name other e) (disk other) held may
    ] in
    first_is (place_of other) (disk other) held was first (asked_kept was asked a (place_of other) (disk other) held before))

passing_temporary : (name : List ℕ) (temporary : Option (List ℕ)) → is_standard name ≡ false → is_in_place name temporary ≡ false → passing name temporary ≡ Some (temporary_of name temporary)
passing_temporary name temporary standard in_place = cond-false (is_standard name) _ _ standard ∙ cond-false (is_in_place name temporary) _ _ in_place

named_so : {F I J M R : Type 0} (s : Ghosts F) (m : Ghosts M) (r : Raw R) (w g : ℕ) (disk : Disk) (input name : List ℕ) (base : Option (List ℕ)) (inputs : List (List ℕ)) (temporary : Option (List ℕ)) (o : RunOptions) (mid new : OpenCalls) (file read : Option F) (left : InputsTaken I J) (was asked now : NameCalls) (start end told said : Option (List ℕ)) (result : Result Unit Fault)
    → is_standard name ≡ false → is_in_place name temporary ≡ false → is_no_name name ≡ false → HandsBack s file read → Knows s w disk base inputs input file read left → AnsweredNames disk name was now → Keeps start end → AsksAll (temporary_of name temporary) base inputs was asked
    → Replaces s r (record { word = w; greatest = g; options = o; base = file; inputs = left }) (temporary_of name temporary) name (state_of mid asked start told) (state_of new now end said) read result
    → CreateSo m disk name temporary o (create_of w g disk input name base inputs temporary o.make) [] was now None start end told said result
named_so s m r w g disk input name base inputs temporary o mid new file read left was asked now start end told said result standard in_place named hands knows honest kept asks replaces =
    let t = temporary_of name temporary in
    let known = knows hands in
    let apart = apart_is name temporary in_place in
    let more = since_asked asked now replaces.moments.since replaces.moments.calls honest.alone in
    let question = read_looked t base inputs false was asked asks more in
    let made = made_of w g o.make known.old known.files input in
    let is = oracle_is s w g disk input name base inputs temporary o read left known standard in_place question.is named made refl in
    let zero : renames asked ≡ 0 = question.renamed ∙ ap renames honest.first in
    let mk : Making _ _ _ = record { word = w; greatest = g; options = o; base = file; inputs = left } in
    let so = replaces_so s r mk known.old known.files input t name asked now read told said result apart zero known.has known.known replaces in
    let moments = moments_so w disk t name o made _ was asked now told said result apart is honest.first (read_asking t base inputs false was asked asks) so in
    let all = last_leaves disk _ (Some t) was now moments in
    record {
      answer = λ had has. finished m w disk t name o made _ asked now start end told said honest.held result apart is kept all honest.has so had;
      done = replaced_holds m w disk t name o made _ asked now told said result apart is all so;
      failed = subst (λ out. OnErr result (AllByRecursion IsNoFailedRename now → KeepsAll disk out now)) (sym (passing_temporary name temporary standard in_place)) (failed_so w disk t name o made was asked now told said result honest.first (read_asking t base inputs false was asked asks) so);
      moments = subst (λ out. AtEachMoment (LeavesAll disk out (create_of w g disk input name base inputs temporary o.make).disk) was now) (sym (passing_temporary name temporary standard in_place)) moments;
    }

-- a text that no file can have as its name
no_name_is : (name : List ℕ) → is_no_name name ≡ true → IsNoName name
no_name_is [] e = inl refl
no_name_is (c ∷ []) e = inr ([], ap (λ (x : ℕ). x ∷ []) (eqb-true c 47 e))
no_name_is (c ∷ d ∷ name) e = elim (no_name_is (d ∷ name) e) [
  | inl none ↦ absurd (let no : ◌≡◌ {A = List ℕ} (d ∷ name) [] = none in cc)
  | inr (front, is) ↦ inr (c ∷ front, ap (λ x. c ∷ x) is)
]

no_name_unopened : {F I J : Type 0} (s : Ghosts F) (w g : ℕ) (disk : Disk) (input name : List ℕ) (base : Option (List ℕ)) (inputs : List (List ℕ)) (temporary : Option (List ℕ)) (o : RunOptions) (read : Option F) (left : InputsTaken I J) → AllKnown s w disk base inputs input read left → is_standard name ≡ false → is_in_place name temporary ≡ false → is_no_name name ≡ true
    → create_of w g disk input name base inputs temporary o.make ≡ unopened disk
no_name_unopened s w g disk input name base inputs temporary o read left k standard in_place is =
    based_is s w disk input base inputs read left (λ old files. placed w disk name base inputs temporary (made_of w g o.make old files input)) k
    ∙ cond-false (is_standard name) _ _ standard ∙ cond-false (is_in_place name temporary) _ _ in_place
    ∙ cond-true (is_read (temporary_of name temporary) base inputs || is_no_name name) _ _ (or_right _ _ is)

-- a replacement that made no call did not take its temporary name from a file
not_cleared : (t : List ℕ) (file : Calls) (asked now : NameCalls) → now ≡ asked → ClearsFile t file asked now → ⊥
not_cleared t file asked now same (before, (since, on), (gone, removal, are)) =
    omega (arith, ap length same, ap length on, ap length are, length-append since asked)

silent_so : {F I J R : Type 0} (s : Ghosts F) (r : Raw R) (mk : Making F I J) (temporary name : List ℕ) (asked now : NameCalls) (back : Option F) (told said : Option (List ℕ)) (answer : Result Unit (ReplaceFault Fault)) → now ≡ asked → answer ≡ Err replace.Open
    → BuilderTells r (λ base. base ≡ mk.base) (λ base before after images made. IsBufferedRun s mk base images before after made) temporary name asked now back told said answer → Keeps told said
silent_so s r mk t name asked now back told said answer same is (inl none) = subst (λ v. Keeps told v) (sym none.same) (Keeps-refl told)
silent_so s r mk t name asked now back told said answer same is (inr some) =
    absurd (not_cleared t (calls_of some.sealed) asked now same (subst (λ v. OnErr v (ClearsFile t (calls_of some.sealed) asked now)) is some.cleared))

-- nothing is done for it
no_name_so : {F I J M R : Type 0} {mid new : OpenCalls} (s : Ghosts F) (m : Ghosts M) (r : Raw R) (w g : ℕ) (disk : Disk) (input name : List ℕ) (base : Option (List ℕ)) (inputs : List (List ℕ)) (temporary : Option (List ℕ)) (o : RunOptions) (mk : Making F I J) (read : Option F) (left : InputsTaken I J) (was asked now : NameCalls) (start end told said : Option (List ℕ)) (result : Result Unit Fault)
    → is_standard name ≡ false → is_in_place name temporary ≡ false → is_no_name name ≡ true → AllKnown s w disk base inputs input read left → was ≡ [] → Keeps start end → AsksAll (temporary_of name temporary) base inputs was asked → Replaces s r mk (temporary_of name temporary) name (state_of mid asked start told) (state_of new now end said) read result
    → CreateSo m disk name temporary o (create_of w g disk input name base inputs temporary o.make) [] was now None start end told said result
no_name_so s m r w g disk input name base inputs temporary o mk read left was asked now start end told said result standard in_place is known first kept asks replaces =
    let c = create_of w g disk input name base inputs temporary o.make in
    let a = read_asking (temporary_of name temporary) base inputs false was asked asks in
    elim replaces.no_name [
      | inl named ↦ absurd (named (no_name_is name is))
      | inr ended ↦ (let silent = silent_so s r mk (temporary_of name temporary) name asked now read told said replaces.answer ended.1 ended.0 replaces.lines in
          subst (CreateSo m disk name temporary o c [] was now None start end told said) (sym (replaces.answered ∙ ap answer_of ended.0))
          (ends_early m o c disk name temporary was now start end told said Open first (subst (λ v. Asking was v) (sym ended.1) a)
          (open_so o c disk start end told said (no_name_unopened s w g disk input name base inputs temporary o read left known standard in_place is) (kept, silent))))
    ]

pub replacing_so : {F I J M R : Type 0} (s : Ghosts F) (m : Ghosts M) (r : Raw R) (w g : ℕ) (disk : Disk) (input name : List ℕ) (base : Option (List ℕ)) (inputs : List (List ℕ)) (temporary : Option (List ℕ)) (o : RunOptions) (mid new : OpenCalls) (file read : Option F) (left : InputsTaken I J) (was asked now : NameCalls) (start end told said : Option (List ℕ)) (result : Result Unit Fault)
    → is_standard name ≡ false → is_in_place name temporary ≡ false → HandsBack s file read → Knows s w disk base inputs input file read left → AnsweredNames disk name was now → Keeps start end → AsksAll (temporary_of name temporary) base inputs was asked
    → Replaces s r (record { word = w; greatest = g; options = o; base = file; inputs = left }) (temporary_of name temporary) name (state_of mid asked start told) (state_of new now end said) read result
    → CreateSo m disk name temporary o (create_of w g disk input name base inputs temporary o.make) [] was now None start end told said result
replacing_so s m r w g disk input name base inputs temporary o mid new file read left was asked now start end told said result standard in_place hands knows honest kept asks replaces = elim (cases_Bool (is_no_name name)) [
  | inl is ↦ no_name_so s m r w g disk input name base inputs temporary o (record { word = w; greatest = g; options = o; base = file; inputs = left }) read left was asked now start end told said result standard in_place is (knows hands) honest.first kept asks replaces
  | inr named ↦ named_so s m r w g disk input name base inputs temporary o mid new file read left was asked now start end told said result standard in_place named hands knows honest kept asks replaces
]
