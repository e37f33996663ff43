-- What is looked up of the files that are read, one after the other, and what comes of it.
use Rattle.cdb.proofs.Words.{AllByRecursion, Answer, Err, IsNoAlias, List, NameCalls, NameEvent, Ok, Option, Result, [], ap, append_assoc, bytes_eq-Decides, false_from_ne_true, inl, inputs_read, inr, map, refl, renames, subst, sym, ℕ, ⊤, ◌||◌, ◌++◌, ◌∙◌, ◌∷◌, ◌≡◌, ◌≢◌}
use Rattle.std.proofs.Common.{Bool, None, Some, bytes_eq, codes, false, if◌then◌else◌, true, true≢false}
use Rattle.std.proofs.lemmas.List.{map-append}
use Rattle.std.specs.Prelude.{OnOk}
use Rattle.cdb_names.specs.declared.answer.Answer.TheVariants as looks
use Rattle.cdb_names.specs.declared.name_trace.NameCall.TheVariants as name_call
use Rattle.cdb.specs.Created.{is_input, is_read}
use Rattle.cdb.specs.Creating.{LooksFor, file_is, files_read, input_is}
use Rattle.cdb.specs.Reasons.{RefusesName}
use Rattle.cdb_system.specs.Oracle.{is_standard}

pub ok_and : {T E : Type 0} (A B : Type 0) (r : Result T E) → OnOk r A → OnOk r B → OnOk r (A × B)
ok_and A B (Ok x) a b = (a, b)
ok_and A B (Err e) a b = tt

-- ---- one look after the other

-- those are other files, and then come these
pub looks_then : (first more : List (Answer → NameEvent)) (found : Bool) (was mid now : NameCalls) → LooksFor first false was mid → LooksFor more found mid now → LooksFor (first ++ more) found was now
looks_then [] more found was mid now (none, e) h = subst (λ v. LooksFor more found v now) e h
looks_then (asks ∷ first) more found was mid now (inl other) h = inl (looks_then first more found (asks looks.No ∷ was) mid now other h)
looks_then (asks ∷ first) more found was mid now (inr (said, same, met, e)) h = absurd (true≢false (sym met))

-- one may be it, and no more are looked up
pub looks_no_more : (first more : List (Answer → NameEvent)) (was now : NameCalls) → LooksFor first true was now → LooksFor (first ++ more) true was now
looks_no_more [] more was now (none, e) = absurd (true≢false none)
looks_no_more (asks ∷ first) more was now (inl other) = inl (looks_no_more first more (asks looks.No ∷ was) now other)
looks_no_more (asks ∷ first) more was now (inr same) = inr same

pub looks_named : (asks : List ℕ → Answer → NameEvent) (first more : List (List ℕ)) (file : List ℕ) (found : Bool) (was mid now : NameCalls) → LooksFor (map asks first) false was mid → LooksFor (map asks (file ∷ more)) found mid now → LooksFor (map asks (first ++ file ∷ more)) found was now
looks_named asks first more file found was mid now others h =
    subst (λ v. LooksFor v found was now) (sym (map-append asks first (file ∷ more))) (looks_then (map asks first) (map asks (file ∷ more)) found was mid now others h)

-- without an input standard input is read, and else the inputs are
pub read_none : {A : Type 0} (f : A → List ℕ) (files : List A) → files ≡ [] → inputs_read (map f files) ≡ codes "-" ∷ []
read_none f files none = ap (λ v. inputs_read (map f v)) none

pub read_some : {A : Type 0} (f : A → List ℕ) (files : List A) → (files ≡ [] → ⊥) → inputs_read (map f files) ≡ map f files
read_some f [] some = absurd (some refl)
read_some f (file ∷ files) some = refl

-- ---- only that was looked up since

abbrev pub IsQuestion : NameEvent → Type 0
IsQuestion (name_call.Same said, one, two, file) = ⊤
IsQuestion (name_call.Input said, one, two, file) = ⊤
IsQuestion (call, one, two, file) = ⊥

pub record Asking (was now : NameCalls) : Type 0 where
  pub since : NameCalls
  pub are : now ≡ since ++ was
  pub each : AllByRecursion IsQuestion since

pub asking_none : (was now : NameCalls) → now ≡ was → Asking was now
asking_none was now e = record { since = []; are = e; each = tt }

all_both : {A : Type 0} (P : A → Type 0) (xs ys : List A) → AllByRecursion P xs → AllByRecursion P ys → AllByRecursion P (xs ++ ys)
all_both P [] ys a b = b
all_both P (x ∷ xs) ys a b = (a.0, all_both P xs ys a.1 b)

asking_then : (was mid now : NameCalls) → Asking was mid → Asking mid now → Asking was now
asking_then was mid now a b = record {
  since = b.since ++ a.since;
  are = b.are ∙ ap (λ c. b.since ++ c) a.are ∙ sym (append_assoc b.since a.since was);
  each = all_both IsQuestion b.since a.since b.each a.each;
}

-- ---- what a look says, if the system is right

pub record Says (asks : Answer → NameEvent) (is : Bool) : Type 0 where
  pub question : (said : Answer) → IsQuestion (asks said)
  pub renamed : (said : Answer) (was : NameCalls) → renames (asks said ∷ was) ≡ renames was
  pub refuses : (said : Answer) → said ≢ looks.No → RefusesName (asks said)
  pub other : IsNoAlias (asks looks.No) → is ≡ false
  pub same : (said : Answer) → said ≢ looks.No → IsNoAlias (asks said) → is ≡ true

refuses_file : (name file : List ℕ) (said : Answer) → said ≢ looks.No → RefusesName (name_call.Same said, name, file, [])
refuses_file name file looks.No isnt = absurd (isnt refl)
refuses_file name file looks.Yes isnt = tt
refuses_file name file looks.Unknown isnt = tt

refuses_standard : (name : List ℕ) (said : Answer) → said ≢ looks.No → RefusesName (name_call.Input said, name, [], [])
refuses_standard name looks.No isnt = absurd (isnt refl)
refuses_standard name looks.Yes isnt = tt
refuses_standard name looks.Unknown isnt = tt

says_file : (name file : List ℕ) → Says (file_is name file) (bytes_eq name file)
says_file name file = record {
  question = λ said. tt;
  renamed = λ said was. refl;
  refuses = refuses_file name file;
  other = λ h. false_from_ne_true (bytes_eq name file) (λ e. h.0 refl ((bytes_eq-Decides name file).0 e));
  same = λ said isnt h. (bytes_eq-Decides name file).1 (h.1 isnt);
}

says_input : (standard : Bool) (name file : List ℕ) → Says (λ said. if standard then (name_call.Input said, name, [], []) else file_is name file said) (if standard then false else bytes_eq name file)
says_input false name file = says_file name file
says_input true name file = record {
  question = λ said. tt;
  renamed = λ said was. refl;
  refuses = refuses_standard name;
  other = λ h. refl;
  same = λ said isnt h. absurd (isnt h);
}

-- one of these files is it, or none
abbrev pub SayEach : List (Answer → NameEvent) → Bool → Type 0
SayEach [] is = is ≡ false
SayEach (asks ∷ more) is = (one rest : Bool) × (is ≡ one || rest) × Says asks one × SayEach more rest

say_inputs : (name : List ℕ) (files : List (List ℕ)) → SayEach (map (input_is name) files) (is_input name files)
say_inputs name [] = refl
say_inputs name (file ∷ files) = (_, is_input name files, refl, says_input (is_standard file) name file, say_inputs name files)

-- standard input, which is read if there are no names, is no file of a name
pub read_input : (name : List ℕ) (inputs : List (List ℕ)) → is_input name (inputs_read inputs) ≡ is_input name inputs
read_input name [] = refl
read_input name (file ∷ files) = refl

pub say_read : (name : List ℕ) (base : Option (List ℕ)) (inputs : List (List ℕ)) → SayEach (files_read name base inputs) (is_read name base inputs)
say_read name None inputs = subst (SayEach (map (input_is name) (inputs_read inputs))) (read_input name inputs) (say_inputs name (inputs_read inputs))
say_read name (Some base) inputs = (bytes_eq name base, is_input name inputs, refl, says_file name base, subst (SayEach (map (input_is name) (inputs_read inputs))) (read_input name inputs) (say_inputs name (inputs_read inputs)))

pub record Looked (one found : Bool) (was now : NameCalls) : Type 0 where
  pub is : one ≡ found
  pub all : AllByRecursion IsNoAlias was
  pub renamed : renames now ≡ renames was

looked : (each : List (Answer → NameEvent)) (is found : Bool) (was now : NameCalls) → SayEach each is → LooksFor each found was now → AllByRecursion IsNoAlias now → Looked is found was now
looked [] is found was now none (missed, e) all = record { is = none ∙ sym missed; all = subst (AllByRecursion IsNoAlias) e all; renamed = ap renames e }
looked (asks ∷ more) is found was now (one, rest, e, says, say) (inl other) all =
    let h = looked more rest found (asks looks.No ∷ was) now say other all in
    record { is = e ∙ ap (λ b. b || rest) (says.other h.all.0) ∙ h.is; all = h.all.1; renamed = h.renamed ∙ says.renamed looks.No was }
looked (asks ∷ more) is found was now (one, rest, e, says, say) (inr (said, isnt, met, at)) all =
    let here = subst (AllByRecursion IsNoAlias) at all in
    record { is = e ∙ ap (λ b. b || rest) (says.same said isnt here.0) ∙ sym met; all = here.1; renamed = ap renames at ∙ says.renamed said was }

pub read_looked : (name : List ℕ) (base : Option (List ℕ)) (inputs : List (List ℕ)) (found : Bool) (was now : NameCalls) → LooksFor (files_read name base inputs) found was now → AllByRecursion IsNoAlias now → Looked (is_read name base inputs) found was now
read_looked name base inputs found was now h all = looked (files_read name base inputs) (is_read name base inputs) found was now (say_read name base inputs) h all

asking : (each : List (Answer → NameEvent)) (is found : Bool) (was now : NameCalls) → SayEach each is → LooksFor each found was now → Asking was now
asking [] is found was now none (missed, e) = asking_none was now e
asking (asks ∷ more) is found was now (one, rest, e, says, say) (inl other) =
    asking_then was (asks looks.No ∷ was) now (record { since = asks looks.No ∷ []; are = refl; each = (says.question looks.No, tt) }) (asking more rest found (asks looks.No ∷ was) now say other)
asking (asks ∷ more) is found was now (one, rest, e, says, say) (inr (said, isnt, met, at)) = record { since = asks said ∷ []; are = at; each = (says.question said, tt) }

pub read_asking : (name : List ℕ) (base : Option (List ℕ)) (inputs : List (List ℕ)) (found : Bool) (was now : NameCalls) → LooksFor (files_read name base inputs) found was now → Asking was now
read_asking name base inputs found was now h = asking (files_read name base inputs) (is_read name base inputs) found was now (say_read name base inputs) h
