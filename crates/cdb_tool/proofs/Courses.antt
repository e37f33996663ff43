-- A run, item after item.
use Rattle.cdb_tool.proofs.Words.{Change, Err, Fault, Ghosts, Incoming, KeyValue, List, MakeFault, Maker, None, Ok, Option, Put, Putting, Removing, Result, RunOptions, Some, TellsEach, TellsPart, [], ap, append-nil, append_assoc, arith, false, file_size, fits, fold-append, from_input, from_inputs, if◌then◌else◌, inl, inr, length, make_fault, progress, put_answer, put_list, refl, subst, sym, true, ℕ, ◌++◌, ◌+◌, ◌<◌, ◌∙◌, ◌∷◌, ◌≡◌, ◌≤◌, ◌⊎◌}
use Rattle.std.specs.Prelude.{OnOk, IfErr}
use Rattle.std.proofs.lemmas.Bool.{le-leb, lt-leb}
use Rattle.cdb_form.specs.declared.width.Width.{Ghosts as Widths}
use Rattle.cdb_make.specs.Views.Maker.{Holds, HoldsIn, StaysWhole, Puts, WouldPut, FailsPutting, Removes, FailsRemoving, limit_of, told_count, IsUsable, WhereHonest, ComesFrom}
use Rattle.cdb_store.specs.declared.make_fault.MakeFault.TheVariants as make
use Rattle.cdb_form.specs.declared.mode.Mode.{Mode}
use Rattle.cdb_make.specs.declared.answer.Put.TheVariants.{Present}
use Rattle.cdb_make.proofs.Callers.{holds_count, holds_fits}
use Rattle.cdb_make.proofs.Finishing.{rests_nothing}
use Rattle.cdb_tool.specs.Runs.Make.{Task, Course, mode_of, put_at, told, ends, is_going, with_put, with_change, with_next, at_start, course_of, TellFails, Goes, StopsSo, DoesItem, InCourse, PutStops, IsOfStore, MakeStandsAt, IsHalt, StoppedAt, TakesNext}
use Rattle.cdb_show.specs.declared.fault.Fault.TheVariants.{Text, Make, Duplicate, Missing, Read, Walk, Output, Long, Open, Rename, NoMemory, Old, New, NoOldTables, NoNewTables, NoBaseTables}
use Rattle.cdb_tool.proofs.ToldLines.{part_then, tells_none, tells_then}

-- ---- the course over one item more

pub course_next : (w : ℕ) (t : Task) (cs : List Incoming) (c : Incoming) → (course_of w t cs).ended ≡ None → course_of w t (cs ++ c ∷ []) ≡ with_change w t.options.make (course_of w t cs) c.input c.number c.it
course_next w t cs c going =
    let s = course_of w t cs in
    fold-append (with_next w t.options.make) (at_start t) cs (c ∷ []) ∙ ap (λ e. if is_going e then with_change w t.options.make s c.input c.number c.it else s) going

-- a record that comes
abbrev pub putting : ℕ → ℕ → KeyValue → Incoming
putting i n r = record { input = i; number = n; it = Putting r }

abbrev pub course_put : ℕ → Task → List Incoming → ℕ → ℕ → KeyValue → Put → Course
course_put w t cs i n r put =
    let s = course_of w t cs in
    record { records = put_list (mode_of t.options.make) r s.records; told = s.told ++ told t.options.make i n r.key (Ok put); ended = ends t.options.make (Ok put) }

pub put_fits : (w : ℕ) (o : RunOptions) (s : Course) (i n : ℕ) (r : KeyValue) (put : Put) → fits w o.make.limit (mode_of o.make) r s.records ≡ true → put ≡ put_answer (mode_of o.make) r s.records
    → with_put w o.make s i n r ≡ record { records = put_list (mode_of o.make) r s.records; told = s.told ++ told o.make i n r.key (Ok put); ended = ends o.make (Ok put) }
put_fits w o s i n r put fit answer =
    let rs = put_list (mode_of o.make) r s.records in
    let p = put_answer (mode_of o.make) r s.records in
    ap (λ b. let a : Result Put MakeFault = (if b then Ok p else Err make.TooBig) in record { records = if b then rs else s.records; told = s.told ++ told o.make i n r.key a; ended = ends o.make a }) fit
    ∙ ap (λ q. record { records = rs; told = s.told ++ told o.make i n r.key (Ok q); ended = ends o.make (Ok q) }) (sym answer)

put_full : (w : ℕ) (o : RunOptions) (s : Course) (i n : ℕ) (r : KeyValue) → fits w o.make.limit (mode_of o.make) r s.records ≡ false → with_put w o.make s i n r ≡ record { records = s.records; told = s.told ++ []; ended = Some (Make make.TooBig) }
put_full w o s i n r full =
    let rs = put_list (mode_of o.make) r s.records in
    let p = put_answer (mode_of o.make) r s.records in
    ap (λ b. let a : Result Put MakeFault = (if b then Ok p else Err make.TooBig) in record { records = if b then rs else s.records; told = s.told ++ told o.make i n r.key a; ended = ends o.make a }) full

-- ---- a put

record IsPut {S L : Type 0} {s : Ghosts S} {l : Widths L} (t : Task) (cs : List Incoming) (i n : ℕ) (r : KeyValue) (start mid : Option (List ℕ)) (m : Maker S L s l) (put : Put) (b : List ℕ) : Type 0 where
  goes : Goes l.WORD t cs start mid
  is : course_of l.WORD t (cs ++ putting i n r ∷ []) ≡ course_put l.WORD t cs i n r put
  held : HoldsIn m (put_list (mode_of t.options.make) r (course_of l.WORD t cs).records) b

is_put : {S L : Type 0} {s : Ghosts S} {l : Widths L} (t : Task) (cs : List Incoming) (i n : ℕ) (r : KeyValue) (start mid : Option (List ℕ)) (old new : Maker S L s l) (put : Put) → InCourse t cs start mid old → (l.WORD ≡ 4) ⊎ (l.WORD ≡ 8) → Puts old new (mode_of t.options.make) r put
    → ComesFrom (s.image old.store) (s.image new.store) → limit_of new ≡ limit_of old → (b : List ℕ) → s.image new.store b → IsPut t cs i n r start mid new put b
is_put {l = l} t cs i n r start mid old new put h wide puts comes limit b is =
    let rs = (course_of l.WORD t cs).records in
    let all = put_list (mode_of t.options.make) r rs in
    let a = comes.each b is in
    let goes = h.goes.each a.0 a.1 in
    let holds = puts.holds rs h.holds in
    let small : file_size l.WORD all ≤ limit_of new = (holds_fits new all wide holds).each b is in
    let same : limit_of new ≡ t.options.make.limit = limit ∙ h.limit in
    let fit : fits l.WORD t.options.make.limit (mode_of t.options.make) r rs ≡ true = le-leb (file_size l.WORD all) t.options.make.limit (omega (arith, small, same)) in
    record {
      goes = goes;
      is = course_next l.WORD t cs (putting i n r) goes.going ∙ put_fits l.WORD t.options (course_of l.WORD t cs) i n r put fit ((puts.answers rs h.holds).each b is);
      held = holds.each b is;
    }

-- the run goes on
put_goes : {S L : Type 0} {s : Ghosts S} {l : Widths L} (t : Task) (cs : List Incoming) (i n : ℕ) (r : KeyValue) (start mid end : Option (List ℕ)) (old new : Maker S L s l) (put : Put) → InCourse t cs start mid old → (l.WORD ≡ 4) ⊎ (l.WORD ≡ 8) → Puts old new (mode_of t.options.make) r put
    → ComesFrom (s.image old.store) (s.image new.store) → limit_of new ≡ limit_of old → TellsEach t.options.names (told t.options.make i n r.key (Ok put)) mid end → ends t.options.make (Ok put) ≡ None → InCourse t (cs ++ putting i n r ∷ []) start end new
put_goes {l = l} t cs i n r start mid end old new put h wide puts comes limit tells going = record {
  holds = record {
    whole = puts.whole;
    each = λ b is. let p = is_put t cs i n r start mid old new put h wide puts comes limit b is in subst (λ s. HoldsIn new s.records b) (sym p.is) p.held;
  };
  limit = limit ∙ h.limit;
  goes = record {
    each = λ b is.
        let p = is_put t cs i n r start mid old new put h wide puts comes limit b is in
        record {
          going = ap (λ s. s.ended) p.is ∙ going;
          lines = subst (λ s. TellsEach t.options.names s.told start end) (sym p.is) (tells_then t.options.names _ _ start mid end p.goes.lines tells);
        };
  };
}

-- or stops as the put is reported
told_so : {S L : Type 0} {s : Ghosts S} {l : Widths L} (t : Task) (cs : List Incoming) (i n : ℕ) (r : KeyValue) (start mid end : Option (List ℕ)) (m : Maker S L s l) (put : Put) (f : Fault) (b : List ℕ) → IsPut t cs i n r start mid m put b → TellFails t.options (put_at i n r.key) put mid end f
    → StopsSo l.WORD t (cs ++ putting i n r ∷ []) start end f
told_so t cs i n r start mid end m put (Text j f) b p x = absurd x
told_so t cs i n r start mid end m put (Make f) b p x = absurd x
told_so t cs i n r start mid end m put (Walk f) b p x = absurd x
told_so t cs i n r start mid end m put Missing b p x = absurd x
told_so t cs i n r start mid end m put (Read f) b p x = absurd x
told_so t cs i n r start mid end m put Long b p x = absurd x
told_so t cs i n r start mid end m put Open b p x = absurd x
told_so t cs i n r start mid end m put Rename b p x = absurd x
told_so t cs i n r start mid end m put NoOldTables b p x = absurd x
told_so t cs i n r start mid end m put NoNewTables b p x = absurd x
told_so t cs i n r start mid end m put NoBaseTables b p x = absurd x
told_so t cs i n r start mid end m put (Old side) b p x = absurd x
told_so t cs i n r start mid end m put (New side) b p x = absurd x
told_so t cs i n r start mid end m put NoMemory b p x = absurd x
told_so {l = l} t cs i n r start mid end m put Output b p x =
    subst (λ s. TellsPart t.options.names s.told start end) (sym p.is) (part_then t.options.names _ _ start mid end p.goes.lines x)
told_so t cs i n r start mid end m put Duplicate b p x = record {
  before = cs;
  last = putting i n r;
  are = refl;
  going = p.goes.going;
  ended = ap (λ s. s.ended) p.is ∙ x.1;
  lines = subst (λ s. TellsEach t.options.names s.told start end) (sym p.is) (tells_then t.options.names _ _ start mid end p.goes.lines x.0);
}

put_told : {S L : Type 0} {s : Ghosts S} {l : Widths L} (t : Task) (cs : List Incoming) (i n : ℕ) (r : KeyValue) (start mid end : Option (List ℕ)) (old new : Maker S L s l) (put : Put) (f : Fault) → InCourse t cs start mid old → (l.WORD ≡ 4) ⊎ (l.WORD ≡ 8) → Puts old new (mode_of t.options.make) r put
    → ComesFrom (s.image old.store) (s.image new.store) → limit_of new ≡ limit_of old → TellFails t.options (put_at i n r.key) put mid end f → WhereHonest (s.image new.store) (PutStops l.WORD t cs (putting i n r) start end f)
put_told t cs i n r start mid end old new put f h wide puts comes limit x = record { each = λ b is. inr (told_so t cs i n r start mid end new put f b (is_put t cs i n r start mid old new put h wide puts comes limit b is) x) }

-- ---- a put that was refused

pub full_so : {S L : Type 0} {s : Ghosts S} {l : Widths L} (t : Task) (cs : List Incoming) (i n : ℕ) (r : KeyValue) (start mid : Option (List ℕ)) (old : Maker S L s l) → Goes l.WORD t cs start mid → limit_of old ≡ t.options.make.limit
    → limit_of old < file_size l.WORD (put_list (mode_of t.options.make) r (course_of l.WORD t cs).records) → StopsSo l.WORD t (cs ++ putting i n r ∷ []) start mid (Make make.TooBig)
full_so {l = l} t cs i n r start mid old goes limit large =
    let s = course_of l.WORD t cs in
    let o = t.options in
    let full : fits l.WORD o.make.limit (mode_of o.make) r s.records ≡ false = lt-leb (file_size l.WORD (put_list (mode_of o.make) r s.records)) o.make.limit (omega (arith, large, limit)) in
    let is = course_next l.WORD t cs (putting i n r) goes.going ∙ put_full l.WORD o s i n r full in
    record {
      before = cs;
      last = putting i n r;
      are = refl;
      going = goes.going;
      ended = ap (λ v. v.ended) is;
      lines = subst (λ v. TellsEach o.names v.told start mid) (sym is) (subst (λ ds. TellsEach o.names ds start mid) (sym (append-nil s.told)) goes.lines);
    }

refused_so : {S L : Type 0} {s : Ghosts S} {l : Widths L} (t : Task) (cs : List Incoming) (i n : ℕ) (r : KeyValue) (start mid : Option (List ℕ)) (old new : Maker S L s l) (f : MakeFault) → InCourse t cs start mid old → FailsPutting old new (mode_of t.options.make) r f
    → ComesFrom (s.image old.store) (s.image new.store) → (b : List ℕ) → s.image new.store b → PutStops l.WORD t cs (putting i n r) start mid (make_fault f)
refused_so {l = l} t cs i n r start mid old new make.Broken h x comes b is = absurd (x.cause (course_of l.WORD t cs).records h.holds b is)
refused_so t cs i n r start mid old new make.Lookup h x comes b is = let a = comes.each b is in inl (h.goes.each a.0 a.1)
refused_so {l = l} t cs i n r start mid old new make.TooBig h x comes b is =
    let a = comes.each b is in
    inr (full_so t cs i n r start mid old (h.goes.each a.0 a.1) h.limit ((x.1 (course_of l.WORD t cs).records h.holds).each b is))
refused_so t cs i n r start mid old new make.NoMemory h x comes b is = let a = comes.each b is in inl (h.goes.each a.0 a.1)
refused_so t cs i n r start mid old new make.Writing h x comes b is = let a = comes.each b is in inl (h.goes.each a.0 a.1)

put_refused : {S L : Type 0} {s : Ghosts S} {l : Widths L} (t : Task) (cs : List Incoming) (i n : ℕ) (r : KeyValue) (start mid : Option (List ℕ)) (old new : Maker S L s l) (f : MakeFault) → InCourse t cs start mid old → FailsPutting old new (mode_of t.options.make) r f
    → ComesFrom (s.image old.store) (s.image new.store) → WhereHonest (s.image new.store) (PutStops l.WORD t cs (putting i n r) start mid (make_fault f))
put_refused t cs i n r start mid old new f h x comes = record { each = λ b is. refused_so t cs i n r start mid old new f h x comes b is }

-- a fault of the store comes only if it failed
pub refused_store : {S L : Type 0} {s : Ghosts S} {l : Widths L} (old new : Maker S L s l) (mode : Mode) (r : KeyValue) (f : MakeFault) → FailsPutting old new mode r f → IsOfStore (make_fault f) → s.failures old.store < s.failures new.store
refused_store old new mode r make.Lookup x is = x.1
refused_store old new mode r make.Writing x is = elim x.0 [ inl stays ↦ stays.1.failed | inr torn ↦ torn.0.failed ]
refused_store old new mode r f x is = absurd is

-- ---- how far a run came that was halted

stands_so : {S L : Type 0} {s : Ghosts S} {l : Widths L} (t : Task) (cs : List Incoming) (start mid : Option (List ℕ)) (old new : Maker S L s l) → InCourse t cs start mid old → ComesFrom (s.image old.store) (s.image new.store) → told_count new ≡ told_count old
    → (IsUsable new → Holds new (course_of l.WORD t cs).records) → MakeStandsAt t cs start mid new
stands_so {l = l} t cs start mid old new h comes count holds = record {
  holds = holds;
  count = record { each = λ b is. let a = comes.each b is in count ∙ (holds_count old (course_of l.WORD t cs).records h.holds).each a.0 a.1 };
  goes = record { each = λ b is. let a = comes.each b is in h.goes.each a.0 a.1 };
}

pub stands_whole : {S L : Type 0} {s : Ghosts S} {l : Widths L} (t : Task) (cs : List Incoming) (start mid : Option (List ℕ)) (old new : Maker S L s l) → InCourse t cs start mid old → ComesFrom (s.image old.store) (s.image new.store) → told_count new ≡ told_count old → StaysWhole old new
    → MakeStandsAt t cs start mid new
stands_whole {l = l} t cs start mid old new h comes count stays = stands_so t cs start mid old new h comes count (λ usable. stays.holds (course_of l.WORD t cs).records h.holds)

pub stands_broken : {S L : Type 0} {s : Ghosts S} {l : Widths L} (t : Task) (cs : List Incoming) (start mid : Option (List ℕ)) (old new : Maker S L s l) → InCourse t cs start mid old → ComesFrom (s.image old.store) (s.image new.store) → told_count new ≡ told_count old → new.broken ≡ true
    → MakeStandsAt t cs start mid new
stands_broken t cs start mid old new h comes count broken = stands_so t cs start mid old new h comes count (λ usable. absurd (let k : true ≡ false = sym broken ∙ usable in cc))

pub course_stands : {S L : Type 0} {s : Ghosts S} {l : Widths L} (t : Task) (cs : List Incoming) (start now : Option (List ℕ)) (m : Maker S L s l) → InCourse t cs start now m → MakeStandsAt t cs start now m
course_stands t cs start now m h = stands_so t cs start now m m h (record { each = λ b is. (b, is) }) refl (λ usable. h.holds)

put_halted : {S L : Type 0} {s : Ghosts S} {l : Widths L} (t : Task) (cs : List Incoming) (r : KeyValue) (start mid : Option (List ℕ)) (old new : Maker S L s l) (f : MakeFault) → InCourse t cs start mid old → FailsPutting old new (mode_of t.options.make) r f
    → ComesFrom (s.image old.store) (s.image new.store) → told_count new ≡ told_count old → IsHalt (make_fault f) → MakeStandsAt t cs start mid new
put_halted t cs r start mid old new make.Lookup h x comes count is = stands_whole t cs start mid old new h comes count (rests_nothing old new x.0).stays
put_halted t cs r start mid old new make.NoMemory h x comes count is = stands_whole t cs start mid old new h comes count x.0.stays
put_halted t cs r start mid old new make.Writing h x comes count is = elim x.0 [
  | inl stays ↦ stands_whole t cs start mid old new h comes count stays.0
  | inr torn ↦ stands_broken t cs start mid old new h comes count torn.0.broken
]
put_halted t cs r start mid old new f h x comes count is = absurd is

removal_halted : {S L : Type 0} {s : Ghosts S} {l : Widths L} (t : Task) (cs : List Incoming) (key : List ℕ) (start now : Option (List ℕ)) (old new : Maker S L s l) (f : MakeFault) → InCourse t cs start now old → FailsRemoving old new key f
    → ComesFrom (s.image old.store) (s.image new.store) → told_count new ≡ told_count old → IsHalt (make_fault f) → MakeStandsAt t cs start now new
removal_halted t cs key start now old new make.Lookup h x comes count is = stands_whole t cs start now old new h comes count (rests_nothing old new x.0).stays
removal_halted t cs key start now old new make.NoMemory h x comes count is = absurd x
removal_halted t cs key start now old new make.Writing h x comes count is = stands_broken t cs start now old new h comes count x.broken
removal_halted t cs key start now old new f h x comes count is = absurd is

-- a run that was halted stopped there
pub halted : {S L : Type 0} {s : Ghosts S} {l : Widths L} (t : Task) (cs : List Incoming) (start now : Option (List ℕ)) (m : Maker S L s l) (f : Fault) → IsHalt f → MakeStandsAt t cs start now m → StoppedAt t cs start now m f
halted t cs start now m (Make make.Lookup) is h = record { stops = h.goes; stands = λ is. h }
halted t cs start now m (Make make.Writing) is h = record { stops = h.goes; stands = λ is. h }
halted t cs start now m NoMemory is h = record { stops = h.goes; stands = λ is. h }
halted t cs start now m f is h = absurd is

-- what a teller answers does not halt a run
told_halts : (o : RunOptions) (i j : ℕ) (key : List ℕ) (put : Put) (old new : Option (List ℕ)) (f : Fault) → TellFails o (put_at i j key) put old new f → IsHalt f → ⊥
told_halts o i j key put old new (Make f) x is = absurd x
told_halts o i j key put old new NoMemory x is = absurd x
told_halts o i j key put old new other_case x is = absurd is

-- ---- a put that was refused memory

goes_on : (o : RunOptions) (put : Put) → (put ≡ Present → ⊥) → ends o.make (Ok put) ≡ None
goes_on o Present h = absurd (h refl)
goes_on o put h = refl

would_take : {S L : Type 0} {s : Ghosts S} {l : Widths L} (t : Task) (cs : List Incoming) (i n : ℕ) (r : KeyValue) (start mid : Option (List ℕ)) (old new : Maker S L s l) → InCourse t cs start mid old → WouldPut old new (mode_of t.options.make) r
    → ComesFrom (s.image old.store) (s.image new.store) → WhereHonest (s.image new.store) (TakesNext l.WORD t cs (putting i n r))
would_take {l = l} t cs i n r start mid old new h would comes = record {
  each = λ b is.
      let s = course_of l.WORD t cs in
      let o = t.options in
      let a = comes.each b is in
      let goes = h.goes.each a.0 a.1 in
      let w = (would s.records h.holds).each b is in
      let small : file_size l.WORD (put_list (mode_of o.make) r s.records) ≤ o.make.limit = omega (arith, w.1, h.limit) in
      let fit : fits l.WORD o.make.limit (mode_of o.make) r s.records ≡ true = le-leb (file_size l.WORD (put_list (mode_of o.make) r s.records)) o.make.limit small in
      ap (λ v. v.ended) (course_next l.WORD t cs (putting i n r) goes.going ∙ put_fits l.WORD o s i n r (put_answer (mode_of o.make) r s.records) fit refl) ∙ goes_on o (put_answer (mode_of o.make) r s.records) w.0;
}

no_memory : (f : MakeFault) → make_fault f ≡ NoMemory → f ≡ make.NoMemory
no_memory make.NoMemory e = refl
no_memory make.Broken e = absurd (let k : Make make.Broken ≡ NoMemory = e in cc)
no_memory make.Lookup e = absurd (let k : Make make.Lookup ≡ NoMemory = e in cc)
no_memory make.TooBig e = absurd (let k : Make make.TooBig ≡ NoMemory = e in cc)
no_memory make.Writing e = absurd (let k : Make make.Writing ≡ NoMemory = e in cc)

-- ---- the same of each run that has these options

pub put_done : {S L : Type 0} {s : Ghosts S} {l : Widths L} (o : RunOptions) (m : Mode) (i n : ℕ) (r : KeyValue) (mid end : Option (List ℕ)) (old new : Maker S L s l) (put : Put) (result : Result Unit Fault) → m ≡ mode_of o.make → (l.WORD ≡ 4) ⊎ (l.WORD ≡ 8) → Puts old new m r put → ComesFrom (s.image old.store) (s.image new.store)
    → limit_of new ≡ limit_of old → OnOk result (TellsEach o.names (told o.make i n r.key (Ok put)) mid end) → OnOk result (ends o.make (Ok put) ≡ None) → IfErr result (TellFails o (put_at i n r.key) put mid end) → DoesItem o i n (Putting r) (progress mid old) (progress end new) result
put_done o m i n r mid end old new put (Ok u) mode wide puts comes limit tells going x = λ t cs start same h. record {
  ok = put_goes t cs i n r start mid end old new put h wide (subst (λ v. Puts old new v r put) (mode ∙ ap (λ v. mode_of v.make) (sym same)) puts) comes limit
      (subst (λ v. TellsEach v.names (told v.make i n r.key (Ok put)) mid end) (sym same) tells) (subst (λ v. ends v.make (Ok put) ≡ None) (sym same) going);
  fails = tt;
  stands = tt;
  takes = tt;
}
put_done o m i n r mid end old new put (Err f) mode wide puts comes limit tells going x = λ t cs start same h. record {
  ok = tt;
  fails = put_told t cs i n r start mid end old new put f h wide (subst (λ v. Puts old new v r put) (mode ∙ ap (λ v. mode_of v.make) (sym same)) puts) comes limit (subst (λ v. TellFails v (put_at i n r.key) put mid end f) (sym same) x);
  stands = λ is. absurd (told_halts o i n r.key put mid end f x is);
  takes = λ e. absurd (told_halts o i n r.key put mid end f x (subst IsHalt (sym e) tt));
}

pub put_failed : {S L : Type 0} {s : Ghosts S} {l : Widths L} (o : RunOptions) (m : Mode) (i n : ℕ) (r : KeyValue) (mid : Option (List ℕ)) (old new : Maker S L s l) (f : MakeFault) → m ≡ mode_of o.make → FailsPutting old new m r f → ComesFrom (s.image old.store) (s.image new.store)
    → told_count new ≡ told_count old → DoesItem o i n (Putting r) (progress mid old) (progress mid new) (Err (make_fault f))
put_failed o m i n r mid old new f mode x comes count = λ t cs start same h.
    let fails = subst (λ v. FailsPutting old new v r f) (mode ∙ ap (λ v. mode_of v.make) (sym same)) x in
    record {
      ok = tt;
      fails = put_refused t cs i n r start mid old new f h fails comes;
      stands = put_halted t cs r start mid old new f h fails comes count;
      takes = λ e. would_take t cs i n r start mid old new h (subst (FailsPutting old new (mode_of t.options.make) r) (no_memory f e) fails).2 comes;
    }

-- ---- a removal

-- a key that comes, whose records go
abbrev pub removing : ℕ → ℕ → List ℕ → Incoming
removing i n key = record { input = i; number = n; it = Removing key }

removed_goes : {S L : Type 0} {s : Ghosts S} {l : Widths L} (t : Task) (cs : List Incoming) (i n : ℕ) (key : List ℕ) (count : ℕ) (start now : Option (List ℕ)) (old new : Maker S L s l) → InCourse t cs start now old → Removes old new key count
    → ComesFrom (s.image old.store) (s.image new.store) → limit_of new ≡ limit_of old → InCourse t (cs ++ removing i n key ∷ []) start now new
removed_goes {l = l} t cs i n key count start now old new h removes comes limit =
    let rs = (course_of l.WORD t cs).records in
    let held = removes.holds rs h.holds in
    record {
      holds = record {
        whole = removes.whole;
        each = λ b is.
            let a = comes.each b is in
            subst (λ s. HoldsIn new s.records b) (sym (course_next l.WORD t cs (removing i n key) (h.goes.each a.0 a.1).going)) (held.each b is);
      };
      limit = limit ∙ h.limit;
      goes = record {
        each = λ b is.
            let a = comes.each b is in
            let goes = h.goes.each a.0 a.1 in
            let next = course_next l.WORD t cs (removing i n key) goes.going in
            record {
              going = ap (λ s. s.ended) next ∙ goes.going;
              lines = subst (λ s. TellsEach t.options.names s.told start now) (sym next) goes.lines;
            };
      };
    }

unremoved_so : {S L : Type 0} {s : Ghosts S} {l : Widths L} (t : Task) (cs : List Incoming) (key : List ℕ) (start now : Option (List ℕ)) (old new : Maker S L s l) (f : MakeFault) → InCourse t cs start now old → FailsRemoving old new key f
    → ComesFrom (s.image old.store) (s.image new.store) → (b : List ℕ) → s.image new.store b → StopsSo l.WORD t cs start now (make_fault f)
unremoved_so {l = l} t cs key start now old new make.Broken h x comes b is = absurd (x.cause (course_of l.WORD t cs).records h.holds b is)
unremoved_so t cs key start now old new make.Lookup h x comes b is = let a = comes.each b is in h.goes.each a.0 a.1
unremoved_so t cs key start now old new make.Writing h x comes b is = let a = comes.each b is in h.goes.each a.0 a.1
unremoved_so t cs key start now old new make.TooBig h x comes b is = absurd x
unremoved_so t cs key start now old new make.NoMemory h x comes b is = absurd x

pub unremoved : {S L : Type 0} {s : Ghosts S} {l : Widths L} (t : Task) (cs : List Incoming) (key : List ℕ) (start now : Option (List ℕ)) (old new : Maker S L s l) (f : MakeFault) → InCourse t cs start now old → FailsRemoving old new key f
    → ComesFrom (s.image old.store) (s.image new.store) → WhereHonest (s.image new.store) (StopsSo l.WORD t cs start now (make_fault f))
unremoved t cs key start now old new f h x comes = record { each = λ b is. unremoved_so t cs key start now old new f h x comes b is }

pub removal_done : {S L : Type 0} {s : Ghosts S} {l : Widths L} (o : RunOptions) (i n : ℕ) (key : List ℕ) (count : ℕ) (now : Option (List ℕ)) (old new : Maker S L s l) → Removes old new key count → ComesFrom (s.image old.store) (s.image new.store) → limit_of new ≡ limit_of old
    → DoesItem o i n (Removing key) (progress now old) (progress now new) (Ok tt)
removal_done o i n key count now old new removes comes limit = λ t cs start same h. record { ok = removed_goes t cs i n key count start now old new h removes comes limit; fails = tt; stands = tt; takes = tt }

pub removal_failed : {S L : Type 0} {s : Ghosts S} {l : Widths L} (o : RunOptions) (i n : ℕ) (key : List ℕ) (now : Option (List ℕ)) (old new : Maker S L s l) (f : MakeFault) → FailsRemoving old new key f → ComesFrom (s.image old.store) (s.image new.store) → told_count new ≡ told_count old
    → DoesItem o i n (Removing key) (progress now old) (progress now new) (Err (make_fault f))
removal_failed o i n key now old new f x comes count = λ t cs start same h. record {
  ok = tt;
  fails = record { each = λ b is. inl (unremoved_so t cs key start now old new f h x comes b is) };
  stands = removal_halted t cs key start now old new f h x comes count;
  takes = λ e. absurd (subst (FailsRemoving old new key) (no_memory f e) x);
}

-- ---- the start

pub course_starts : {S L : Type 0} {s : Ghosts S} {l : Widths L} (t : Task) (start : Option (List ℕ)) (m : Maker S L s l) → Holds m (at_start t).records → limit_of m ≡ t.options.make.limit → InCourse t [] start start m
course_starts t start m h limit = record { holds = h; limit = limit; goes = record { each = λ b is. record { going = refl; lines = tells_none t.options.names start } } }

-- ---- the items of inputs, one more

input_more : (i j n : ℕ) (rs : List Change) (r : Change) → n ≡ j + length rs → from_input i j (rs ++ r ∷ []) ≡ from_input i j rs ++ record { input = i; number = n; it = r } ∷ []
input_more i j n [] r e = let same : j ≡ n = omega (arith, e) in ap (λ (k : ℕ). record { input = i; number = k; it = r } ∷ []) same
input_more i j n (q ∷ rs) r e = ap (λ t. record { input = i; number = j; it = q } ∷ t) (input_more i (j + 1) n rs r (omega (arith, e)))

inputs_more : (i k n : ℕ) (read : List (List Change)) (last : List Change) (r : Change) → k ≡ i + length read → n ≡ length last + 1
    → from_inputs i (read ++ (last ++ r ∷ []) ∷ []) ≡ from_inputs i (read ++ last ∷ []) ++ record { input = k; number = n; it = r } ∷ []
inputs_more i k n [] last r e f =
    let same : k ≡ i = omega (arith, e) in
    append-nil (from_input i 1 (last ++ r ∷ []))
    ∙ input_more i 1 n last r (omega (arith, f))
    ∙ ap (λ (v : ℕ). from_input i 1 last ++ record { input = v; number = n; it = r } ∷ []) (sym same)
    ∙ ap (λ t. t ++ record { input = k; number = n; it = r } ∷ []) (sym (append-nil (from_input i 1 last)))
inputs_more i k n (q ∷ read) last r e f =
    ap (λ t. from_input i 1 q ++ t) (inputs_more (i + 1) k n read last r (omega (arith, e)) f) ∙ sym (append_assoc (from_input i 1 q) _ _)

pub came_more : (input number : ℕ) (read : List (List Change)) (last : List Change) (r : Change) → input ≡ length read + 1 → number ≡ length last + 1
    → from_inputs 1 (read ++ (last ++ r ∷ []) ∷ []) ≡ from_inputs 1 (read ++ last ∷ []) ++ record { input = input; number = number; it = r } ∷ []
came_more input number read last r e f = inputs_more 1 input number read last r (omega (arith, e)) f

inputs_none : (i : ℕ) (read : List (List Change)) → from_inputs i (read ++ [] ∷ []) ≡ from_inputs i read
inputs_none i [] = refl
inputs_none i (q ∷ read) = ap (λ t. from_input i 1 q ++ t) (inputs_none (i + 1) read)

pub came_none : (read : List (List Change)) → from_inputs 1 (read ++ [] ∷ []) ≡ from_inputs 1 read
came_none read = inputs_none 1 read

-- ---- what a put was given

pub as_told : (P : Mode → KeyValue → Type 0) (m n : Mode) (k v : List ℕ) (r : KeyValue) → m ≡ n → k ≡ r.key → v ≡ r.value → P m (record { key = k; value = v }) → P n r
as_told P m n k v r a b d p =
    subst (λ x. P x r) a (subst (λ x. P m (record { key = r.key; value = x })) d (subst (λ x. P m (record { key = x; value = v })) b p))
