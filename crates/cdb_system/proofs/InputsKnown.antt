-- What the inputs have that were opened, and that one was not there, by the calls that were noted.
use Rattle.std.proofs.Common.{ℕ, suc, true, false, List, [], ◌∷◌, ◌++◌, length, Option, Some, None, IfSome, ◌≡◌, ◌∙◌, ap, refl, subst, sym, append_assoc, append-nil, option_map, codes}
use Rattle.std.specs.Prelude.{⊤}
use Rattle.cdb_system.proofs.Words.{AllByRecursion, Feed, Ghosts, InputReader, OpenCall, OpenCalls}
use Rattle.std.proofs.lemmas.Bool.{cond-true, cond-false, false_from_ne_true}
use Rattle.std.proofs.lemmas.Slice.Eq.{bytes_eq-Decides}
use Rattle.cdb_show.specs.Feed.{AgreesWith, AreRead, FirstAgree, Stop, HasFault, CutShort, StopsSo, TakesOne, reached, Parsing}
use Rattle.cdb_show.specs.declared.input_reader.InputReader.TheVariants.{Own, Shared}
use Rattle.cdb_form.specs.Format.{AreBytes}
use Rattle.cdb_show.specs.Runs.Incoming.{EachOfBytes}
use Rattle.cdb_system.specs.Answered.{AreAnswered, IsAnswered, IsThere, stores_before}
use Rattle.cdb_system.specs.Oracle.{Disk, both, each_of, input_of, inputs_of, is_standard}
use Rattle.cdb_system.specs.Inputs.{IsStandard, OpensEach, OpensInputs, inputs_read}
use Rattle.cdb_system.specs.State.{AgreeInTurn, Agrees, name_in_turn, names_in_turn, own_readers}
use Rattle.cdb_system.specs.declared.open_trace.OpenCall.TheVariants.{InTurn}
use Rattle.cdb_system.specs.declared.system.System.{Ghosts as Systems}

-- ---- lists

pub all_join : {A : Type 0} (P : A → Type 0) (xs ys : List A) → AllByRecursion P xs → AllByRecursion P ys → AllByRecursion P (xs ++ ys)
all_join P [] ys a b = b
all_join P (x ∷ xs) ys a b = (a.0, all_join P xs ys a.1 b)

pub in_turn_then : (later earlier : OpenCalls) → names_in_turn (later ++ earlier) ≡ names_in_turn earlier ++ names_in_turn later
in_turn_then [] earlier = sym (append-nil (names_in_turn earlier))
in_turn_then (call ∷ later) earlier =
    ap (λ names. names ++ name_in_turn call.0 call.1) (in_turn_then later earlier) ∙ append_assoc (names_in_turn earlier) (names_in_turn later) (name_in_turn call.0 call.1)

-- ---- what was opened

pub standard_is : (name : List ℕ) → IsStandard name → is_standard name ≡ true
standard_is name is = (bytes_eq-Decides name (codes "-")).1 is

pub standard_not : (name : List ℕ) → (IsStandard name → ⊥) → is_standard name ≡ false
standard_not name other = false_from_ne_true (is_standard name) (λ e. other ((bytes_eq-Decides name (codes "-")).0 e))

-- the names of the inputs that have a reader of their own
abbrev pub own_names : {I : Type 0} → List (List ℕ) → List (InputReader I) → List (List ℕ)
own_names (name ∷ names) (Own reader ∷ readers) = name ∷ own_names names readers
own_names (name ∷ names) (Shared ∷ readers) = own_names names readers
own_names names readers = []

-- each call since opened one of these
pub record OpenedSince {I : Type 0} (names : List (List ℕ)) (readers : List (InputReader I)) (old new : OpenCalls) : Type 0 where
  pub since : OpenCalls
  pub are : new ≡ since ++ old
  pub each : AllByRecursion (λ c. c.0 ≡ InTurn) since
  pub in_turn : names_in_turn since ≡ own_names names readers

pub opened_since : {F I J M N R Y : Type 0} (y : Systems Y F I M J N R) (names : List (List ℕ)) (readers : List (InputReader I)) (old new : OpenCalls) → OpensEach y names readers old new → OpenedSince names readers old new
opened_since y [] [] old new e = record { since = []; are = e; each = tt; in_turn = refl }
opened_since y (name ∷ names) (Shared ∷ readers) old new (mid, one, more) =
    let rest = opened_since y names readers mid new more in
    record { since = rest.since; are = rest.are ∙ ap (λ c. rest.since ++ c) one.1; each = rest.each; in_turn = rest.in_turn }
opened_since y (name ∷ names) (Own reader ∷ readers) old new (mid, one, more) =
    let rest = opened_since y names readers mid new more in
    record {
      since = rest.since ++ (InTurn, name) ∷ [];
      are = rest.are ∙ ap (λ c. rest.since ++ c) one.1 ∙ sym (append_assoc rest.since ((InTurn, name) ∷ []) old);
      each = all_join _ rest.since ((InTurn, name) ∷ []) rest.each (refl, tt);
      in_turn = in_turn_then rest.since ((InTurn, name) ∷ []) ∙ ap (λ ns. name ∷ ns) rest.in_turn;
    }
opened_since y [] (reader ∷ readers) old new e = absurd e
opened_since y (name ∷ names) [] old new e = absurd e

pub inputs_since : {F I J M N R Y : Type 0} (y : Systems Y F I M J N R) (names : List (List ℕ)) (readers : List (InputReader I)) (old new : OpenCalls) → OpensInputs y names readers old new → OpensEach y (inputs_read names) readers old new
inputs_since y [] readers old new h = subst (λ rs. OpensEach y (codes "-" ∷ []) rs old new) (sym h.0) (new, (refl, h.1), refl)
inputs_since y (name ∷ names) readers old new h = h

pub inputs_are : (disk : Disk) (names : List (List ℕ)) → inputs_of disk names ≡ each_of disk (inputs_read names)
inputs_are disk [] = refl
inputs_are disk (name ∷ names) = refl

-- ---- what the files have

-- the calls before those were answered, whatever stores were opened
pub answered_before : {F : Type 0} (s : Ghosts F) (disk : Disk) (stores : List F) (since calls : OpenCalls) → AllByRecursion (λ c. c.0 ≡ InTurn) since → AreAnswered s disk (since ++ calls) stores → AreAnswered s disk calls stores
answered_before s disk stores [] calls each h = h
answered_before s disk stores (c ∷ since) calls each h =
    answered_before s disk stores since calls each.1 (subst (λ k. AreAnswered s disk (since ++ calls) (stores_before k stores)) each.0 h.1)

there_in_turn : {F : Type 0} (s : Ghosts F) (disk : Disk) (stores : List F) (call : OpenCall) (name : List ℕ) → call ≡ InTurn → IsAnswered s disk stores call name → AllByRecursion (λ name. IsThere (disk name)) (name_in_turn call name)
there_in_turn s disk stores call name is h = subst (λ k. AllByRecursion (λ name. IsThere (disk name)) (name_in_turn k name)) (sym is) (subst (λ k. IsAnswered s disk stores k name) is h, tt)

-- what was opened so is there
pub opened_there : {F : Type 0} (s : Ghosts F) (disk : Disk) (stores : List F) (since calls : OpenCalls) → AllByRecursion (λ c. c.0 ≡ InTurn) since → AreAnswered s disk (since ++ calls) stores → AllByRecursion (λ name. IsThere (disk name)) (names_in_turn since)
opened_there s disk stores [] calls each h = tt
opened_there s disk stores (c ∷ since) calls each h =
    all_join _ (names_in_turn since) _
    (opened_there s disk stores since calls each.1 (subst (λ k. AreAnswered s disk (since ++ calls) (stores_before k stores)) each.0 h.1))
    (there_in_turn s disk stores c.0 c.1 each.0 h.0)

-- these are the bytes of the inputs, by the readers that were opened
abbrev pub AreOf : {I : Type 0} → Disk → List (List ℕ) → List (InputReader I) → List (Option (List ℕ)) → Type 0
AreOf disk [] [] [] = ⊤
AreOf disk (name ∷ names) (Own reader ∷ readers) (Some bytes ∷ files) = (disk name ≡ Some bytes) × AreOf disk names readers files
AreOf disk (name ∷ names) (Shared ∷ readers) (None ∷ files) = AreOf disk names readers files
AreOf disk names readers files = ⊥

pub record FilesOf {I : Type 0} (disk : Disk) (names : List (List ℕ)) (readers : List (InputReader I)) : Type 0 where
  pub files : List (Option (List ℕ))
  pub are : each_of disk names ≡ Some files
  pub of : AreOf disk names readers files
  pub long : length files ≡ length readers
  pub own : EachOfBytes files

both_are : {A : Type 0} (x : Option A) (xs : Option (List A)) (a : A) (rest : List A) → x ≡ Some a → xs ≡ Some rest → both (λ p ps. p ∷ ps) x xs ≡ Some (a ∷ rest)
both_are x xs a rest e f = ap (λ o. both (λ p ps. p ∷ ps) o xs) e ∙ ap (λ o. both (λ p ps. p ∷ ps) (Some a) o) f

there : (file : Option (List ℕ)) → IsThere file → (bytes : List ℕ) × (file ≡ Some bytes)
there (Some bytes) h = (bytes, refl)
there None h = absurd h

pub files_of_each : {F I J M N R Y : Type 0} (y : Systems Y F I M J N R) (disk : Disk) (names : List (List ℕ)) (readers : List (InputReader I)) (old new : OpenCalls) → ((name : List ℕ) → IfSome (disk name) AreBytes) → OpensEach y names readers old new → AllByRecursion (λ name. IsThere (disk name)) (own_names names readers) → FilesOf disk names readers
files_of_each y disk [] [] old new bytes h all = record { files = []; are = refl; of = tt; long = refl; own = tt }
files_of_each y disk (name ∷ names) (Shared ∷ readers) old new bytes (mid, one, more) all =
    let rest = files_of_each y disk names readers mid new bytes more all in
    record {
      files = None ∷ rest.files;
      are = both_are (input_of disk name) (each_of disk names) None rest.files (cond-true (is_standard name) _ _ (standard_is name one.0)) rest.are;
      of = rest.of;
      long = ap suc rest.long;
      own = rest.own;
    }
files_of_each y disk (name ∷ names) (Own reader ∷ readers) old new bytes (mid, one, more) all =
    let rest = files_of_each y disk names readers mid new bytes more all.1 in
    let file = there (disk name) all.0 in
    record {
      files = Some file.0 ∷ rest.files;
      are = both_are (input_of disk name) (each_of disk names) (Some file.0) rest.files (cond-false (is_standard name) _ _ (standard_not name one.0) ∙ ap (option_map (λ b. Some b)) file.1) rest.are;
      of = (file.1, rest.of);
      long = ap suc rest.long;
      own = (subst (λ o. IfSome o AreBytes) file.1 (bytes name), rest.own);
    }
files_of_each y disk [] (reader ∷ readers) old new bytes h all = absurd h
files_of_each y disk (name ∷ names) [] old new bytes h all = absurd h

-- ---- the readers that were reached agree with these bytes

agrees_so : (file : Option (List ℕ)) (bytes : List ℕ) (feed : Feed) → file ≡ Some bytes → AreBytes bytes → Agrees file feed → AgreesWith AreBytes feed bytes
agrees_so file bytes feed is fit agrees = let h = subst (λ o. Agrees o feed) is agrees in record { fit = fit; rest = h.0; may = h.1 }

module _ {I S Item Fault : Type 0} (own : I → Feed) (shared : S → Feed) (p : Parsing Item Fault) (disk : Disk) where
  -- the first input was, and it has a reader of its own or not, as before
  first_agrees : (P : (text rest : List ℕ) → Type 0) (n : ℕ) (names : List (List ℕ)) (before after : List (InputReader I)) (reader left : InputReader I) (files : List (Option (List ℕ))) (old new : S) → TakesOne own shared P reader left old new → AreOf disk names (reader ∷ before) files → EachOfBytes files
      → AgreeInTurn own disk (own_names names (reader ∷ before)) (own_readers (left ∷ after))
      → ((names : List (List ℕ)) (files : List (Option (List ℕ))) → AreOf disk names before files → EachOfBytes files → AgreeInTurn own disk (own_names names before) (own_readers after) → FirstAgree own AreBytes n files after)
      → FirstAgree own AreBytes (suc n) files (left ∷ after)
  first_agrees P n (name ∷ names) before after (Own reader) (Own left) (Some bytes ∷ files) old new takes of fit agree rest = (agrees_so (disk name) bytes (own left) of.0 fit.0 agree.0, rest names files of.1 fit.1 agree.1)
  first_agrees P n (name ∷ names) before after Shared Shared (None ∷ files) old new takes of fit agree rest = rest names files of fit agree
  first_agrees P n names before after (Own reader) Shared files old new takes of fit agree rest = absurd takes
  first_agrees P n names before after Shared (Own left) files old new takes of fit agree rest = absurd takes
  first_agrees P n [] before after (Own reader) (Own left) files old new takes of fit agree rest = absurd of
  first_agrees P n (name ∷ names) before after (Own reader) (Own left) [] old new takes of fit agree rest = absurd of
  first_agrees P n (name ∷ names) before after (Own reader) (Own left) (None ∷ files) old new takes of fit agree rest = absurd of
  first_agrees P n [] before after Shared Shared files old new takes of fit agree rest = absurd of
  first_agrees P n (name ∷ names) before after Shared Shared [] old new takes of fit agree rest = absurd of
  first_agrees P n (name ∷ names) before after Shared Shared (Some bytes ∷ files) old new takes of fit agree rest = absurd of

  last_agrees : (stop : Stop Item Fault) (names : List (List ℕ)) (before after : List (InputReader I)) (files : List (Option (List ℕ))) (old new : S) → StopsSo own shared p stop before after old new → AreOf disk names before files → EachOfBytes files → AgreeInTurn own disk (own_names names before) (own_readers after)
      → FirstAgree own AreBytes (reached [] stop) files after
  last_agrees (HasFault items fault) names (reader ∷ before) (left ∷ after) files old new stops of fit agree = first_agrees _ 0 names before after reader left files old new stops of fit agree (λ names files of fit agree. tt)
  last_agrees (CutShort items) names (reader ∷ before) (left ∷ after) files old new stops of fit agree = first_agrees _ 0 names before after reader left files old new stops of fit agree (λ names files of fit agree. tt)
  last_agrees (HasFault items fault) names [] after files old new stops of fit agree = absurd stops
  last_agrees (HasFault items fault) names (reader ∷ before) [] files old new stops of fit agree = absurd stops
  last_agrees (CutShort items) names [] after files old new stops of fit agree = absurd stops
  last_agrees (CutShort items) names (reader ∷ before) [] files old new stops of fit agree = absurd stops
  last_agrees stop names before after files old new stops of fit agree = tt

  pub reached_agree : (read : List (List Item)) (stop : Stop Item Fault) (names : List (List ℕ)) (before after : List (InputReader I)) (files : List (Option (List ℕ))) (old new : S) → AreRead own shared p read stop before after old new → AreOf disk names before files → EachOfBytes files → AgreeInTurn own disk (own_names names before) (own_readers after)
      → FirstAgree own AreBytes (reached read stop) files after
  reached_agree [] stop names before after files old new are of fit agree = last_agrees stop names before after files old new are of fit agree
  reached_agree (items ∷ read) stop names (reader ∷ before) (left ∷ after) files old new (mid, one, more) of fit agree = first_agrees _ (reached read stop) names before after reader left files old mid one of fit agree (λ names files of fit agree. reached_agree read stop names before after files mid new more of fit agree)
  reached_agree (items ∷ read) stop names [] after files old new are of fit agree = absurd are
  reached_agree (items ∷ read) stop names (reader ∷ before) [] files old new are of fit agree = absurd are

-- ---- what was not opened

pub both_none : {A B C : Type 0} (f : A → B → C) (x : Option A) → both f x None ≡ None
both_none f None = refl
both_none f (Some a) = refl

-- an input is not there
missing_each : (disk : Disk) (first : List (List ℕ)) (name : List ℕ) (more : List (List ℕ)) → input_of disk name ≡ None → each_of disk (first ++ name ∷ more) ≡ None
missing_each disk [] name more e = ap (λ o. both (λ p ps. p ∷ ps) o (each_of disk more)) e
missing_each disk (n ∷ first) name more e = ap (λ o. both (λ p ps. p ∷ ps) (input_of disk n) o) (missing_each disk first name more e) ∙ both_none (λ p ps. p ∷ ps) (input_of disk n)

pub missing_inputs : (disk : Disk) (names first : List (List ℕ)) (name : List ℕ) (more : List (List ℕ)) → names ≡ first ++ name ∷ more → input_of disk name ≡ None → inputs_of disk names ≡ None
missing_inputs disk [] [] name more e h = absurd (let no : ◌≡◌ {A = List (List ℕ)} [] (name ∷ more) = e in cc)
missing_inputs disk [] (n ∷ first) name more e h = absurd (let no : ◌≡◌ {A = List (List ℕ)} [] (n ∷ (first ++ name ∷ more)) = e in cc)
missing_inputs disk (n ∷ names) first name more e h = ap (each_of disk) e ∙ missing_each disk first name more h

pub input_missing : (disk : Disk) (name : List ℕ) → (IsStandard name → ⊥) → disk name ≡ None → input_of disk name ≡ None
input_missing disk name other e = cond-false (is_standard name) _ _ (standard_not name other) ∙ ap (option_map (λ b. Some b)) e
