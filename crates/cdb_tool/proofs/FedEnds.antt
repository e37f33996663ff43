-- How a run ends whose readers are returned: what it read, and what its maker says of the items that came.
use Rattle.cdb_tool.proofs.Words.{Bool, Change, ComesFrom, Err, FailsFinishing, Fault, Feed, Flushed, Ghosts, Holds, InputForm, Inputs, IsFile, IsOk, KeyValue, List, MakeFault, Maker, NoMore, None, NotBegun, Ok, Option, Result, RunOptions, Stop, TextFault, WhereHonest, [], came, feeds_of, inl, input_form, inr, is_some, length, limit_of, make_fault, map, not_ok, nothing_taken, parsing, progress, refl, run_state, subst, sym, terms_of, ℕ, ◌+◌, ◌∙◌, ◌≡◌, ◌⊎◌}
use Rattle.std.specs.Global.{Vec}
use Rattle.std.proofs.lemmas.List.{length-map}
use Rattle.cdb_store.specs.declared.make_fault.MakeFault.TheVariants as make
use Rattle.cdb_form.specs.declared.text.fault.TextFault.TheVariants as text
use Rattle.cdb_form.specs.declared.width.Width.{Ghosts as Widths}
use Rattle.cdb_show.specs.declared.input_reader.InputReader.TheVariants.{Own}
use Rattle.cdb_show.specs.declared.fault.Fault.TheVariants.{Output, Text}
use Rattle.cdb_show.specs.Runs.Parsing.{IsFaultOf, fault_in, stopped_parsing}
use Rattle.cdb_show.specs.Feed.{SomeFailed}
use Rattle.cdb_tool.specs.Runs.Make.{HoldsBase, IsOfMaking, MakeRuns, OfBase, PutsInputs, PutsInputsStop, StopsAt, came_of, none_read, reading}
use Rattle.cdb_tool.specs.Runs.InputsRead.{IsStopOf, RunsRead, WereRead, stop_by}
use Rattle.cdb_show.specs.declared.inputs.SharedWindow.TheVariants.{Unread}
use Rattle.cdb_tool.proofs.InputRuns.{in_run}
use Rattle.cdb_tool.proofs.RunEnds.{runs_flushed, runs_stopped, runs_unfinished, runs_whole}

-- ---- the inputs

-- none was begun
pub were_none : {J I : Type 0} (own : J → Feed) (shared : I → Feed) (form : InputForm) (g : ℕ) (answer : Result Unit Fault) (inputs : Inputs J I) → WereRead (feeds_of own shared) (parsing form g answer) [] NotBegun inputs inputs
were_none own shared form g answer inputs = record { window = Unread inputs.shared; are = nothing_taken (shared inputs.shared); passed = refl; lost = []; let_go = nothing_taken (shared inputs.shared) }

-- inputs that each have one of these readers
abbrev pub each_own : {J I : Type 0} → Vec J → (shared : I) → Inputs J I
each_own readers shared = record {
  readers = record {
    ptr = readers.ptr;
    len = readers.len;
    cap = readers.cap;
    alloc = readers.alloc;
    items = map Own readers.items;
    ok = (readers.ok.0 ∙ sym (length-map readers.items Own), readers.ok.1);
    small = readers.small;
  };
  shared = shared;
}

-- ---- why a run read no more

-- a fault of the maker is none of a text or of a name
pub of_making : (f : MakeFault) → IsOfMaking (make_fault f)
of_making make.NoMemory = tt
of_making made = tt

none_in : (f : MakeFault) → fault_in (Err (make_fault f)) ≡ None
none_in make.NoMemory = refl
none_in made = refl

-- a fault that is none of an input
no_input : (form : InputForm) (n : ℕ) (Failed : Type 0) (f : Fault) → IsOfMaking f → IsFaultOf form n Failed f
no_input form n Failed f is = record {
  number = λ i t e. absurd (subst IsOfMaking e is);
  own = λ i t e of_text. absurd (subst IsOfMaking e is);
  memory = λ i t e same. subst IsOfMaking e is;
  failed = λ i e. absurd (subst IsOfMaking e is);
  of_run = in_run f is;
}

unread_stop : (f : Fault) → IsOfMaking f → IsStopOf (Err f) NotBegun
unread_stop (Text n f) is = absurd is
unread_stop f is = tt

whole_stop : (f : Fault) → IsOfMaking f → IsStopOf (Err f) NoMore
whole_stop (Text n f) is = absurd is
whole_stop f is = tt

in_stop : (f : Fault) (last : List Change) → IsStopOf (Err f) (stop_by f last)
in_stop (Text n f) last = (last, refl)
in_stop f last = tt

-- the items that came of an input in which it stopped
came_by : (items : List (List Change)) (f : Fault) (last : List Change) → came_of items (stop_by f last) ≡ came items last
came_by items (Text n (text.Syntax at)) last = refl
came_by items (Text n (text.Ended at)) last = refl
came_by items (Text n (text.Large at)) last = refl
came_by items (Text n f) last = refl
came_by items f last = refl

-- ---- the run

-- it read nothing
pub read_none : {B J I : Type 0} (t : Ghosts B) (was base : Option B) (own : J → Feed) (shared : I → Feed) (w g : ℕ) (o : RunOptions) (inputs : Inputs J I) (images : List ℕ → Type 0) (old new : Option (List ℕ)) (f : Fault)
    → IsOfMaking f → WhereHonest images (OfBase t base (λ b. MakeRuns (terms_of w g o) b none_read images old new (Err f))) → RunsRead (terms_of w g o) (feeds_of own shared) t (run_state was inputs old) (run_state base inputs new) images (Err f)
read_none t was base own shared w g o inputs images old new f of runs = record {
  read = none_read;
  were = were_none own shared (input_form o.make.style (is_some was)) g (Err f) inputs;
  is = record { stopped = unread_stop f of; of_input = no_input _ _ _ f of };
  runs = runs;
}

module _ {S L B J I : Type 0} {s : Ghosts S} {l : Widths L} (t : Ghosts B) (was base : Option B) (own : J → Feed) (shared : I → Feed) (g : ℕ) (o : RunOptions) (amends : Bool) (before after : Inputs J I) (start now : Option (List ℕ)) (begun m : Maker S L s l) (of_was : amends ≡ is_some was)
    (wide : (l.WORD ≡ 4) ⊎ (l.WORD ≡ 8)) (holds : HoldsBase l.WORD t base begun) (limit : limit_of begun ≡ o.make.limit) (comes : ComesFrom (s.image begun.store) (s.image m.store)) (items : List (List Change)) where
  abbrev pub WereSo : Result Unit Fault → Stop Change TextFault → Bool → Type 0
  WereSo answer stop v = WereRead (feeds_of own shared) (parsing (input_form o.make.style v) g answer) items stop before after

  pub read_stopped : (last : List Change) (f : Fault) → WereSo (Err f) (stop_by f last) amends → IsFaultOf (input_form o.make.style amends) (length items + 1) (SomeFailed own shared after.readers.items after.shared) f
      → PutsInputsStop o items last (progress start begun) (progress now m) f → RunsRead (terms_of l.WORD g o) (feeds_of own shared) t (run_state was before start) (run_state base after now) (s.image m.store) (Err f)
  read_stopped last f were of_input stops = record {
    read = reading items (stop_by f last);
    were = subst (WereSo (Err f) (stop_by f last)) of_was were;
    is = record { stopped = in_stop f last; of_input = subst (λ v. IsFaultOf (input_form o.make.style v) (length items + 1) (SomeFailed own shared after.readers.items after.shared) f) of_was of_input };
    runs = runs_stopped {s = s} {l = l} t base g o start now begun wide holds limit (reading items (stop_by f last)) (s.image m.store) f comes
        (λ k same begins. subst (λ cs. WhereHonest (s.image m.store) (StopsAt l.WORD k cs start now f)) (sym (came_by items f last)) (stops k start same begins).stops);
  }

  pub read_whole : (images : List ℕ → Type 0) → WereSo (Ok tt) NoMore amends → PutsInputs o items (progress start begun) (progress now m) → ComesFrom (s.image m.store) images → ((rs : List KeyValue) → Holds m rs → IsFile l.WORD rs images)
      → RunsRead (terms_of l.WORD g o) (feeds_of own shared) t (run_state was before start) (run_state base after now) images (Ok tt)
  read_whole images were puts finished file = record {
    read = reading items NoMore;
    were = subst (WereSo (Ok tt) NoMore) of_was were;
    is = record { stopped = refl; of_input = tt };
    runs = runs_whole {s = s} {l = l} t base g o start now begun wide holds limit items m images (λ k same begins. puts k start same begins) comes finished file;
  }

  pub read_unfinished : (new : Maker S L s l) (f : MakeFault) → WereSo (Ok tt) NoMore amends → PutsInputs o items (progress start begun) (progress now m) → ComesFrom (s.image m.store) (s.image new.store) → FailsFinishing m new f
      → RunsRead (terms_of l.WORD g o) (feeds_of own shared) t (run_state was before start) (run_state base after now) (s.image new.store) (Err (make_fault f))
  read_unfinished new f were puts finished fails = record {
    read = reading items NoMore;
    were = subst (WereSo (Err (make_fault f)) NoMore) of_was (subst (λ v. WereRead (feeds_of own shared) (stopped_parsing (input_form o.make.style amends) g v) items NoMore before after) (sym (none_in f)) were);
    is = record { stopped = whole_stop (make_fault f) (of_making f); of_input = no_input _ _ _ (make_fault f) (of_making f) };
    runs = runs_unfinished {s = s} {l = l} t base g o start now begun wide holds limit items m (s.image new.store) (λ k same begins. puts k start same begins) comes finished new f fails;
  }

-- ---- the flush

module _ {B J I : Type 0} (t : Ghosts B) (was base : Option B) (own : J → Feed) (shared : I → Feed) (w g : ℕ) (o : RunOptions) (before after : Inputs J I) (images : List ℕ → Type 0) (old mid new : Option (List ℕ)) where
  abbrev pub ReadTo : Option (List ℕ) → Result Unit Fault → Type 0
  ReadTo lines answer = RunsRead (terms_of w g o) (feeds_of own shared) t (run_state was before old) (run_state base after lines) images answer

  flush_err : (answer : Result Unit Fault) → IsOk answer → Flushed mid new answer (Err Output) → ReadTo mid answer → ReadTo new (Err Output)
  flush_err (Ok u) ok f h = record {
    read = h.read;
    were = h.were;
    is = record { stopped = subst (IsStopOf (Err Output)) (sym h.is.stopped) tt; of_input = no_input _ _ _ Output tt };
    runs = runs_flushed t base w g o h.read images old mid new (Ok u) (Err Output) h.runs f;
  }
  flush_err (Err e) ok f h = absurd (not_ok ok)

  pub read_flushed : (answer result : Result Unit Fault) → ReadTo mid answer → Flushed mid new answer result → ReadTo new result
  read_flushed answer result h f = elim f.answered as (λ _. ReadTo new result) [
    | inl e ↦ subst (ReadTo new) (sym e) (record { read = h.read; were = h.were; is = h.is; runs = runs_flushed t base w g o h.read images old mid new answer answer h.runs (subst (Flushed mid new answer) e f) })
    | inr e ↦ subst (ReadTo new) (sym e.1) (flush_err answer e.0 (subst (Flushed mid new answer) e.1 f) h)
  ]
