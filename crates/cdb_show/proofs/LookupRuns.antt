-- The keys that were looked up so far, and how their query ends.
use Rattle.cdb_show.proofs.Words.{Appends, AppendsPrefix, BeginsWithItems, Bool, Change, Err, Fault, Feed, Ghosts, InputForm, KeyReader, List, LookupOptions, LookupTask, Ok, OnlyReads, Option, Queries, Result, TextFault, [], ap, append-nil, appends_none, appends_then, arith, false, flat_map-append, fold, form_of, head_size, keys_of, keys_of_each, prefix_last, query_answer, query_text, reader_of, refl, subst, sym, true, ℕ, ◌++◌, ◌∙◌, ◌∷◌, ◌≡◌, ◌≢◌, ◌≤◌}
use Rattle.cdb_form.specs.Views.Feed as fed
use Rattle.cdb_form.specs.declared.text.fault.TextFault.TheVariants as text
use Rattle.cdb_read.specs.declared.fault.ReadFault.TheVariants as read
use Rattle.cdb_show.specs.Runs.Lookups.{key_query, Looked, joined, looked_up, with_key, with_one, FaultBehind, StopsBehind, ComesTo, missing_answer, HasLooked, LookupsStopAt}
use Rattle.cdb_show.specs.Runs.Parsing.{IsOfRun}
use Rattle.cdb_show.specs.Views.Fault.{text_fault}
use Rattle.cdb_show.specs.Views.KeyReader as views
use Rattle.cdb_show.specs.declared.fault.Fault.TheVariants.{Text, Missing, Read, Walk, Output, Open, Rename, NoMemory, Old, New}
use Rattle.cdb_show.proofs.KeyInputs.{GaveKeys, keys_fault, keys_own, keys_still, keys_told}

-- ---- one key more

pushed : {A S : Type 0} (f : S → A → S) (s : S) (xs : List A) (x : A) → fold f s (xs ++ x ∷ []) ≡ f (fold f s xs) x
pushed f s [] x = refl
pushed f s (y ∷ xs) x = pushed f (f s y) xs x

next_text : (l : Looked) (more : List ℕ) (now : Result Unit Fault) (missing : Bool) → l.answer ≡ missing_answer missing → (with_one l more now).text ≡ l.text ++ more
next_text l more now true e = rw e refl
next_text l more now false e = rw e refl

next_answer : (l : Looked) (more : List ℕ) (now : Result Unit Fault) (missing : Bool) → l.answer ≡ missing_answer missing → (with_one l more now).answer ≡ joined (missing_answer missing) now
next_answer l more now true e = rw e refl
next_answer l more now false e = rw e refl

-- the text with one key more, and its answer
text_more : (w : ℕ) (b : List ℕ) (o : LookupOptions) (listed : List (List ℕ)) (key : List ℕ) (missing : Bool) → (looked_up w b o listed).answer ≡ missing_answer missing
    → (looked_up w b o (listed ++ key ∷ [])).text ≡ (looked_up w b o listed).text ++ query_text w b (key_query o key)
text_more w b o listed key missing e = ap (λ (l : Looked). l.text) (pushed (with_key w b o) _ listed key) ∙ next_text _ _ _ missing e

answer_more : (w : ℕ) (b : List ℕ) (o : LookupOptions) (listed : List (List ℕ)) (key : List ℕ) (missing : Bool) → (looked_up w b o listed).answer ≡ missing_answer missing
    → (looked_up w b o (listed ++ key ∷ [])).answer ≡ joined (missing_answer missing) (query_answer w b (key_query o key))
answer_more w b o listed key missing e = ap (λ (l : Looked). l.answer) (pushed (with_key w b o) _ listed key) ∙ next_answer _ _ _ missing e

comes_more : {S : Type 0} (task : LookupTask S) (listed : List (List ℕ)) (key : List ℕ) (old new : S) (start mid now : Option (List ℕ)) (missing : Bool) (answer : Result Unit Fault) → HasLooked task listed old start mid missing → OnlyReads task.store old new
    → ((b : List ℕ) → task.store.image new b → answer ≡ query_answer task.word b (key_query task.options key)) → ((b : List ℕ) → task.store.image new b → Appends mid now (query_text task.word b (key_query task.options key)))
    → ComesTo task (listed ++ key ∷ []) new start now (joined (missing_answer missing) answer)
comes_more task listed key old new start mid now missing answer h reads answered written = record {
  long = let long = h.long in let size = reads.size in omega (arith, long, size);
  answered = λ b is. answer_more task.word b task.options listed key missing (h.answered b (reads.images b is)) ∙ ap (joined (missing_answer missing)) (sym (answered b is));
  written = λ b is. subst (Appends start now) (sym (text_more task.word b task.options listed key missing (h.answered b (reads.images b is)))) (appends_then start mid now _ _ (h.written b (reads.images b is)) (written b is));
}

pub found_more : {S : Type 0} (task : LookupTask S) (listed : List (List ℕ)) (key : List ℕ) (old new : S) (start mid now : Option (List ℕ)) (missing : Bool) → HasLooked task listed old start mid missing
    → Queries task.word task.store (key_query task.options key) old new mid now (Ok tt) → HasLooked task (listed ++ key ∷ []) new start now missing
found_more task listed key old new start mid now missing h q = comes_more task listed key old new start mid now missing (Ok tt) h q.reads q.ok.answered q.ok.written

pub missing_more : {S : Type 0} (task : LookupTask S) (listed : List (List ℕ)) (key : List ℕ) (old new : S) (start mid now : Option (List ℕ)) (missing : Bool) → HasLooked task listed old start mid missing
    → Queries task.word task.store (key_query task.options key) old new mid now (Err Missing) → HasLooked task (listed ++ key ∷ []) new start now true
missing_more task listed key old new start mid now missing h q = comes_more task listed key old new start mid now missing (Err Missing) h q.reads q.err.answered q.err.written

-- a prefix of the text of the last key
prefix_more : {S : Type 0} (task : LookupTask S) (listed : List (List ℕ)) (key : List ℕ) (old new : S) (start mid now : Option (List ℕ)) (missing : Bool) → HasLooked task listed old start mid missing → OnlyReads task.store old new
    → ((b : List ℕ) → task.store.image new b → AppendsPrefix mid now (query_text task.word b (key_query task.options key)))
    → (b : List ℕ) → task.store.image new b → AppendsPrefix start now (looked_up task.word b task.options (listed ++ key ∷ [])).text
prefix_more task listed key old new start mid now missing h reads front b is =
    let l = looked_up task.word b task.options listed in
    let q = query_text task.word b (key_query task.options key) in
    prefix_last start mid now l.text q _ (h.written b (reads.images b is)) (front b is)
    (text_more task.word b task.options listed key missing (h.answered b (reads.images b is)))

pub stops_more : {S : Type 0} (task : LookupTask S) (listed : List (List ℕ)) (key : List ℕ) (old new : S) (start mid now : Option (List ℕ)) (missing : Bool) (f : Fault) → HasLooked task listed old start mid missing
    → head_size task.word ≤ task.store.size old → Queries task.word task.store (key_query task.options key) old new mid now (Err f) → f ≢ Missing → LookupsStopAt task (listed ++ key ∷ []) old new start now f
stops_more task listed key old new start mid now missing (Read (read.Table n)) h long q other = comes_more task listed key old new start mid now missing _ h q.reads q.err.answered q.err.written
stops_more task listed key old new start mid now missing (Read (read.Record place)) h long q other = comes_more task listed key old new start mid now missing _ h q.reads q.err.answered q.err.written
stops_more task listed key old new start mid now missing (Read read.Device) h long q other = (q.err.0, prefix_more task listed key old new start mid now missing h q.reads q.err.1.written)
stops_more task listed key old new start mid now missing Output h long q other = (q.err.0, prefix_more task listed key old new start mid now missing h q.reads q.err.1.written)
stops_more task listed key old new start mid now missing (Read read.Short) h long q other = let short = q.err.short in absurd (let no : ⊥ = omega (arith, long, short) in no)
stops_more task listed key old new start mid now missing Missing h long q other = absurd (other refl)
stops_more task listed key old new start mid now missing f h long q other = absurd q.err

-- ---- nothing yet

pub looked_none : {S : Type 0} (task : LookupTask S) (store : S) (start : Option (List ℕ)) → head_size task.word ≤ task.store.size store → HasLooked task [] store start start false
looked_none task store start long = record { long = long; answered = λ b is. refl; written = λ b is. appends_none start }

-- it stopped later in the reading of the same store
pub stops_later : {S : Type 0} (task : LookupTask S) (listed : List (List ℕ)) (old mid new : S) (start now : Option (List ℕ)) (f : Fault) → OnlyReads task.store old mid → LookupsStopAt task listed mid new start now f → LookupsStopAt task listed old new start now f
stops_later task listed old mid new start now (Read (read.Table n)) reads h = h
stops_later task listed old mid new start now (Read (read.Record place)) reads h = h
stops_later task listed old mid new start now (Read read.Device) reads h = (let k = reads.failures in omega (arith, k, h.0), h.1)
stops_later task listed old mid new start now Output reads h = h
stops_later task listed old mid new start now (Text n f) reads h = h
stops_later task listed old mid new start now NoMemory reads h = h
stops_later task listed old mid new start now f reads h = absurd h

-- ---- a fault of an input

record SameText (n i : ℕ) (f g : TextFault) : Type 0 where
  input : i ≡ n
  fault : g ≡ f
  other : f ≢ text.NoMemory

same_text : (n i : ℕ) (f g : TextFault) → text_fault n f ≡ Text i g → SameText n i f g
same_text n i text.NoMemory g e = absurd (let no : ⊥ = cc in no)
same_text n i f g e = record { input = cc; fault = cc; other = λ h. cc }

pub stops_text : {S : Type 0} (task : LookupTask S) (listed : List (List ℕ)) (old new : S) (start now : Option (List ℕ)) (missing : Bool) (n : ℕ) (f : TextFault) → HasLooked task listed new start now missing → LookupsStopAt task listed old new start now (text_fault n f)
stops_text task listed old new start now missing n (text.Syntax at) h = (missing, h)
stops_text task listed old new start now missing n (text.Ended at) h = (missing, h)
stops_text task listed old new start now missing n (text.Large at) h = (missing, h)
stops_text task listed old new start now missing n text.Input h = (missing, h)
stops_text task listed old new start now missing n text.Endless h = (missing, h)
stops_text task listed old new start now missing n text.NoMemory h = (missing, h)

-- a fault of a text is one of a run
pub text_of_run : (n : ℕ) (f : TextFault) → IsOfRun (text_fault n f)
text_of_run n text.NoMemory = tt
text_of_run n f = tt

pub text_stops : {F L : Type 0} (g : ℕ) (feed : F → Feed) (n : ℕ) (start : Feed) (t u : KeyReader F L) (form : InputForm) (last : List Change) (f : TextFault) → ((it : F) (whole a b : List ℕ) → (feed it).may whole a → (feed it).may whole b → a ≡ b)
    → form_of t ≡ form → GaveKeys g feed start t last → views.Fails g feed t u f → StopsBehind form g n last start (feed (reader_of u)) (text_fault n f)
text_stops g feed n start t u form last f one same gave fails = subst (λ v. StopsBehind v g n last start (feed (reader_of u)) (text_fault n f)) same (record {
  begins = keys_still g feed start t u last f gave fails;
  of_text = λ i v e.
      let k = same_text n i f v e in (
        k.input,
        subst (FaultBehind (form_of t) g last start (feed (reader_of u))) (sym k.fault) (record {
          has = keys_fault g feed start t u last f one gave fails k.other;
          own = keys_own g feed start t u last f gave fails;
          memory = k.other;
          failed = keys_told g feed start t u last f gave fails;
        }),
      );
  of_run = text_of_run n f;
})

-- a fault of the store, of the writer or of a damage is none of a text
no_text : {S : Type 0} (w : ℕ) (s : Ghosts S) (q : _) (old new : S) (mid now : Option (List ℕ)) (n : ℕ) (f : TextFault) → Queries w s q old new mid now (Err (Text n f)) → ⊥
no_text w s q old new mid now n f h = h.err

of_query : {S : Type 0} (w : ℕ) (s : Ghosts S) (q : _) (old new : S) (mid now : Option (List ℕ)) (f : Fault) → Queries w s q old new mid now (Err f) → IsOfRun f
of_query w s q old new mid now Open h = absurd h.err
of_query w s q old new mid now Rename h = absurd h.err
of_query w s q old new mid now (Walk fault) h = absurd h.err
of_query w s q old new mid now (Old fault) h = absurd h.err
of_query w s q old new mid now (New fault) h = absurd h.err
of_query w s q old new mid now f h = tt

pub key_stops : {S : Type 0} (w g : ℕ) (s : Ghosts S) (q : _) (n : ℕ) (form : InputForm) (last : List Change) (start end : Feed) (old new : S) (mid now : Option (List ℕ)) (f : Fault)
    → fed.FromTo start end (λ text rest. BeginsWithItems form g last text) → Queries w s q old new mid now (Err f) → StopsBehind form g n last start end f
key_stops w g s q n form last start end old new mid now f begins query = record {
  begins = begins;
  of_text = λ i v e. absurd (no_text w s q old new mid now i v (subst (λ x. Queries w s q old new mid now (Err x)) e query));
  of_run = of_query w s q old new mid now f query;
}

-- after the keys up to the last one
pub key_stops_at : {S : Type 0} (task : LookupTask S) (before listed : List (List ℕ)) (key : List ℕ) (last : List Change) (first old new : S) (start mid now : Option (List ℕ)) (missing : Bool) (f : Fault)
    → listed ++ key ∷ [] ≡ before ++ keys_of last → HasLooked task listed old start mid missing → OnlyReads task.store first old → head_size task.word ≤ task.store.size old → Queries task.word task.store (key_query task.options key) old new mid now (Err f) → f ≢ Missing
    → LookupsStopAt task (before ++ keys_of last) first new start now f
key_stops_at task before listed key last first old new start mid now missing f same h reads long q other =
    subst (λ k. LookupsStopAt task k first new start now f) same (stops_later task _ first old new start now f reads (stops_more task listed key old new start mid now missing f h long q other))

-- ---- one input more

pub each_more : (read : List (List Change)) (last : List Change) → keys_of_each (read ++ last ∷ []) ≡ keys_of_each read ++ keys_of last
each_more read last = flat_map-append keys_of read (last ∷ []) ∙ ap (λ k. keys_of_each read ++ k) (append-nil (keys_of last))
