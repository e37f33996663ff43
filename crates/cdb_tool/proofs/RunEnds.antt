-- How a run ends: without a record, with a fault of its inputs or its store, or with its file; and
-- then the flush.
use Rattle.cdb_tool.proofs.Words.{Change, ComesFrom, Err, FailsFinishing, Fault, Flushed, Ghosts, Holds, Incoming, IsFile, IsOk, Keeps, KeyValue, List, MakeFault, Maker, NoMore, None, Ok, Option, Result, RunOptions, Some, WhereHonest, [], ap, appends_kept, appends_none, arith, file_size, from_inputs, holds_fits, inl, inr, is_some, limit_of, make_fault, not_ok, refl, subst, sym, terms_of, true≢false, walk_of, ℕ, ◌<◌, ◌∙◌, ◌≡◌, ◌≤◌, ◌⊎◌}
use Rattle.cdb_form.specs.declared.width.Width.{Ghosts as Widths}
use Rattle.cdb_make.specs.Views.Maker.{MakingFault}
use Rattle.cdb_store.specs.declared.make_fault.MakeFault.TheVariants as make
use Rattle.cdb_tool.specs.Runs.Make.{Task, task_of, Goes, EndsSo, StopsAt, StopsSo, InCourse, Reading, RunFails, MakeRuns, came_of, none_read, reading, records_of, OfBase, HoldsBase, BaseStopped, HandsBack, IsBase, IsSomeBase, BaseFails, IsOfStore}
use Rattle.cdb_show.specs.declared.fault.Fault.TheVariants.{Text, Make, Duplicate, Output, NoMemory}
use Rattle.cdb_tool.proofs.ToldLines.{part_kept, part_whole, tells_kept, tells_none}
use Rattle.cdb_tool.proofs.Courses.{course_starts}

-- ---- no maker was made

goes_none : (w : ℕ) (t : Task) (start : Option (List ℕ)) → Goes w t [] start start
goes_none w t start = record { going = refl; lines = tells_none t.options.names start }

not_made : {S : Type 0} (image : S → List ℕ → Type 0) (size written failures : S → ℕ) (w g : ℕ) (o : RunOptions) (x : Option (List ℕ)) (start : Option (List ℕ)) (old new : S) (f : MakeFault) → MakingFault image size written failures old new f
    → RunFails (terms_of w g o) x none_read start start (make_fault f)
not_made image size written failures w g o None start old new make.NoMemory h = inr (record { based = tt; stops = goes_none w (task_of o None) start })
not_made image size written failures w g o None start old new make.Writing h = inr (record { based = tt; stops = goes_none w (task_of o None) start })
not_made image size written failures w g o (Some b) start old new make.NoMemory h = inl (record { fails = tt; unread = refl; lines = appends_none start })
not_made image size written failures w g o (Some b) start old new make.Writing h = inl (record { fails = tt; unread = refl; lines = appends_none start })
not_made image size written failures w g o x start old new f h = absurd h

-- memory was refused, and the store has not failed
pub unmade_memory : {S : Type 0} (image : S → List ℕ → Type 0) (size written failures : S → ℕ) (old new : S) (f : MakeFault) → MakingFault image size written failures old new f → make_fault f ≡ NoMemory → failures new ≡ failures old
unmade_memory image size written failures old new make.NoMemory h e = h.3
unmade_memory image size written failures old new make.Writing h e = absurd (let k : Make make.Writing ≡ NoMemory = e in cc)
unmade_memory image size written failures old new f h e = absurd h

-- a fault of the store comes only if it failed
pub unmade_store : {S : Type 0} (image : S → List ℕ → Type 0) (size written failures : S → ℕ) (old new : S) (f : MakeFault) → MakingFault image size written failures old new f → IsOfStore (make_fault f) → failures old < failures new
unmade_store image size written failures old new make.Writing h is = h
unmade_store image size written failures old new make.NoMemory h is = absurd is
unmade_store image size written failures old new f h is = absurd h

-- what holds whatever the base is
each_base : {B : Type 0} (s : Ghosts B) (base : Option B) (P : Option (List ℕ) → Type 0) → ((x : Option (List ℕ)) → P x) → OfBase s base P
each_base s None P f = f None
each_base s (Some base) P f = λ b is. f (Some b)

pub runs_not : {S B : Type 0} (image : S → List ℕ → Type 0) (size written failures : S → ℕ) (s : Ghosts B) (base : Option B) (w g : ℕ) (o : RunOptions) (start : Option (List ℕ)) (old new : S) (images : List ℕ → Type 0) (f : MakeFault)
    → MakingFault image size written failures old new f → WhereHonest images (OfBase s base (λ x. MakeRuns (terms_of w g o) x none_read images start start (Err (make_fault f))))
runs_not image size written failures s base w g o start old new images f h =
    record { each = λ a j. each_base s base _ (λ x. record { ok = tt; err = not_made image size written failures w g o x start old new f h }) }

-- nothing was begun, since an allocation failed
unbegun : (w g : ℕ) (o : RunOptions) (x : Option (List ℕ)) (start : Option (List ℕ)) → RunFails (terms_of w g o) x none_read start start NoMemory
unbegun w g o None start = inr (record { based = tt; stops = goes_none w (task_of o None) start })
unbegun w g o (Some b) start = inl (record { fails = tt; unread = refl; lines = appends_none start })

pub runs_unbegun : {B : Type 0} (s : Ghosts B) (base : Option B) (w g : ℕ) (o : RunOptions) (start : Option (List ℕ)) (images : List ℕ → Type 0) → WhereHonest images (OfBase s base (λ x. MakeRuns (terms_of w g o) x none_read images start start (Err NoMemory)))
runs_unbegun s base w g o start images = record { each = λ a j. each_base s base _ (λ x. record { ok = tt; err = unbegun w g o x start }) }

-- ---- its base stopped it

pub hands_some : {B : Type 0} (s : Ghosts B) (old new : Option B) → HandsBack s old new → is_some new ≡ is_some old
hands_some s None None h = refl
hands_some s (Some old) (Some new) h = refl
hands_some s None (Some new) h = absurd h
hands_some s (Some old) None h = absurd h

pub hands_same : {B : Type 0} (s : Ghosts B) (base : Option B) → HandsBack s base base
hands_same s None = tt
hands_same s (Some base) = record { images = λ b is. is; size = refl; written = refl; room = omega arith; failures = omega arith; unwritten = omega arith }

pub runs_unbased : {B : Type 0} (s : Ghosts B) (base : Option B) (w g : ℕ) (o : RunOptions) (limit : ℕ) (start : Option (List ℕ)) (images : List ℕ → Type 0) (f : Fault) → limit ≡ o.make.limit → BaseStopped w limit s base images f
    → WhereHonest images (OfBase s base (λ x. MakeRuns (terms_of w g o) x none_read images start start (Err f)))
runs_unbased s None w g o limit start images f same h = absurd h
runs_unbased s (Some base) w g o limit start images f same h = record {
  each = λ a j. λ b is. record {
    ok = tt;
    err = inl (record { fails = subst (λ (k : ℕ). BaseFails w k b f) same ((h b is).each a j); unread = refl; lines = appends_none start });
  };
}

-- ---- its inputs stopped it

-- a base that was added can be amended
is_base : {S L : Type 0} {s : Ghosts S} {l : Widths L} (o : RunOptions) (b : List ℕ) (rs : List KeyValue) (m : Maker S L s l) → (l.WORD ≡ 4) ⊎ (l.WORD ≡ 8) → walk_of l.WORD b ≡ record { records = rs; damage = None } → Holds m rs → limit_of m ≡ o.make.limit → (a : List ℕ) → s.image m.store a → IsBase l.WORD o.make.limit b
is_base {l = l} o b rs m wide is holds limit a j =
    let fits : file_size l.WORD rs ≤ limit_of m = (holds_fits m rs wide holds).each a j in
    let same : file_size l.WORD (walk_of l.WORD b).records ≡ file_size l.WORD rs = ap (λ v. file_size l.WORD v.records) is in
    record { whole = ap (λ v. v.damage) is; fits = omega (arith, fits, same, limit) }

-- and the run begins with its records
begins_based : {S L : Type 0} {s : Ghosts S} {l : Widths L} (o : RunOptions) (b : List ℕ) (rs : List KeyValue) (start : Option (List ℕ)) (m : Maker S L s l) → walk_of l.WORD b ≡ record { records = rs; damage = None } → Holds m rs → limit_of m ≡ o.make.limit
    → InCourse (task_of o (records_of l.WORD (Some b))) [] start start m
begins_based {l = l} o b rs start m is holds limit =
    course_starts (task_of o (records_of l.WORD (Some b))) start m (subst (Holds m) (sym (ap (λ v. v.records) is)) holds) limit

-- what is so for each run that begins with such records, is so of the base
of_held : {S L B : Type 0} {s : Ghosts S} {l : Widths L} (t : Ghosts B) (base : Option B) (o : RunOptions) (start : Option (List ℕ)) (m : Maker S L s l) (P : Option (List ℕ) → Type 0) → (l.WORD ≡ 4) ⊎ (l.WORD ≡ 8) → HoldsBase l.WORD t base m → limit_of m ≡ o.make.limit
    → (a : List ℕ) → s.image m.store a → ((x : Option (List ℕ)) → IsSomeBase l.WORD o.make.limit x → InCourse (task_of o (records_of l.WORD x)) [] start start m → P x) → OfBase t base P
of_held t None o start m P wide h limit a j f = f None tt (course_starts (task_of o None) start m h limit)
of_held t (Some base) o start m P wide h limit a j f = λ b is. f (Some b) (is_base o b h.records m wide (h.each b is) h.holds limit a j) (begins_based o b h.records start m (h.each b is) h.holds limit)

not_finished : {S L : Type 0} {s : Ghosts S} {l : Widths L} (t : Task) (cs : List Incoming) (start now : Option (List ℕ)) (old new : Maker S L s l) (rs : List KeyValue) (f : MakeFault) → Holds old rs → Goes l.WORD t cs start now → FailsFinishing old new f → StopsAt l.WORD t cs start now (make_fault f)
not_finished t cs start now old new rs make.Broken holds goes h = absurd (true≢false (sym h.0 ∙ holds.whole))
not_finished t cs start now old new rs make.NoMemory holds goes h = goes
not_finished t cs start now old new rs make.Writing holds goes h = goes
not_finished t cs start now old new rs make.Lookup holds goes h = absurd h
not_finished t cs start now old new rs make.TooBig holds goes h = absurd h

-- a run from such a maker that read so much
module _ {S L B : Type 0} {s : Ghosts S} {l : Widths L} (t : Ghosts B) (base : Option B) (g : ℕ) (o : RunOptions) (start now : Option (List ℕ)) (begun : Maker S L s l) (wide : (l.WORD ≡ 4) ⊎ (l.WORD ≡ 8)) (holds : HoldsBase l.WORD t base begun) (limit : limit_of begun ≡ o.make.limit) where
  pub runs_stopped : (r : Reading) (images : List ℕ → Type 0) (f : Fault) → ComesFrom (s.image begun.store) images → ((k : Task) → k.options ≡ o → InCourse k [] start start begun → WhereHonest images (StopsAt l.WORD k (came_of r.items r.stop) start now f))
      → WhereHonest images (OfBase t base (λ x. MakeRuns (terms_of l.WORD g o) x r images start now (Err f)))
  runs_stopped r images f comes stops = record {
    each = λ b is.
        let a = comes.each b is in
        of_held t base o start begun _ wide holds limit a.0 a.1
        (λ x based begins. record { ok = tt; err = inr (record { based = based; stops = (stops (task_of o (records_of l.WORD x)) refl begins).each b is }) });
  }

  -- ---- all inputs were put

  module _ (items : List (List Change)) (m : Maker S L s l) (images : List ℕ → Type 0) (course : (k : Task) → k.options ≡ o → InCourse k [] start start begun → InCourse k (from_inputs 1 items) start now m) (before : ComesFrom (s.image begun.store) (s.image m.store)) (comes : ComesFrom (s.image m.store) images) where
    pub runs_whole : ((rs : List KeyValue) → Holds m rs → IsFile l.WORD rs images) → WhereHonest images (OfBase t base (λ x. MakeRuns (terms_of l.WORD g o) x (reading items NoMore) images start now (Ok tt)))
    runs_whole file = record {
      each = λ b is.
          let a = comes.each b is in
          let c = before.each a.0 a.1 in
          of_held t base o start begun _ wide holds limit c.0 c.1
          (λ x based begins.
          let put = course (task_of o (records_of l.WORD x)) refl begins in
          record { ok = record { based = based; goes = put.goes.each a.0 a.1; file = file _ put.holds }; err = tt });
    }

    -- the file was not finished
    pub runs_unfinished : (new : Maker S L s l) (f : MakeFault) → FailsFinishing m new f → WhereHonest images (OfBase t base (λ x. MakeRuns (terms_of l.WORD g o) x (reading items NoMore) images start now (Err (make_fault f))))
    runs_unfinished new f fails = record {
      each = λ b is.
          let a = comes.each b is in
          let c = before.each a.0 a.1 in
          of_held t base o start begun _ wide holds limit c.0 c.1
          (λ x based begins.
          let k : Task = task_of o (records_of l.WORD x) in
          let put = course k refl begins in
          record { ok = tt; err = inr (record { based = based; stops = not_finished k (from_inputs 1 items) start now m new _ f put.holds (put.goes.each a.0 a.1) fails }) });
    }

-- a fault of the store comes only if it failed, and a fault of memory only if it did not
pub unfinished_store : {S L : Type 0} {s : Ghosts S} {l : Widths L} (old new : Maker S L s l) (f : MakeFault) → FailsFinishing old new f → IsOfStore (make_fault f) → s.failures old.store < s.failures new.store
unfinished_store old new make.Writing x is = elim x [ inl stays ↦ stays.1 | inr torn ↦ torn.3 ]
unfinished_store old new make.Lookup x is = absurd x
unfinished_store old new make.TooBig x is = absurd x
unfinished_store old new f x is = absurd is

pub unfinished_memory : {S L : Type 0} {s : Ghosts S} {l : Widths L} (old new : Maker S L s l) (f : MakeFault) → FailsFinishing old new f → make_fault f ≡ NoMemory → s.failures new.store ≡ s.failures old.store
unfinished_memory old new make.NoMemory x e = x.1
unfinished_memory old new make.Broken x e = absurd (let k : Make make.Broken ≡ NoMemory = e in cc)
unfinished_memory old new make.Writing x e = absurd (let k : Make make.Writing ≡ NoMemory = e in cc)
unfinished_memory old new f x e = absurd x

-- ---- the flush

goes_kept : (w : ℕ) (o : Task) (cs : List Incoming) (old mid new : Option (List ℕ)) → Goes w o cs old mid → Keeps mid new → Goes w o cs old new
goes_kept w o cs old mid new h k = record { going = h.going; lines = tells_kept o.options.names _ old mid new h.lines k }

ends_kept : (w : ℕ) (o : Task) (cs : List Incoming) (f : Fault) (old mid new : Option (List ℕ)) → EndsSo w o cs f old mid → Keeps mid new → EndsSo w o cs f old new
ends_kept w o cs f old mid new h k = record { before = h.before; last = h.last; are = h.are; going = h.going; ended = h.ended; lines = tells_kept o.options.names _ old mid new h.lines k }

stops_kept : (w : ℕ) (o : Task) (cs : List Incoming) (old mid new : Option (List ℕ)) (f : Fault) → StopsSo w o cs old mid f → Keeps mid new → StopsSo w o cs old new f
stops_kept w o cs old mid new (Make make.TooBig) h k = ends_kept w o cs _ old mid new h k
stops_kept w o cs old mid new (Make make.Lookup) h k = goes_kept w o cs old mid new h k
stops_kept w o cs old mid new (Make make.Writing) h k = goes_kept w o cs old mid new h k
stops_kept w o cs old mid new Duplicate h k = ends_kept w o cs _ old mid new h k
stops_kept w o cs old mid new NoMemory h k = goes_kept w o cs old mid new h k
stops_kept w o cs old mid new Output h k = part_kept o.options.names _ old mid new h k
stops_kept w o cs old mid new f h k = absurd h

at_kept : (w : ℕ) (o : Task) (cs : List Incoming) (old mid new : Option (List ℕ)) (f : Fault) → StopsAt w o cs old mid f → Keeps mid new → StopsAt w o cs old new f
at_kept w o cs old mid new (Text n f) h k = goes_kept w o cs old mid new h k
at_kept w o cs old mid new f h k = stops_kept w o cs old mid new f h k

module _ (w g : ℕ) (o : RunOptions) (x : Option (List ℕ)) (r : Reading) (images : List ℕ → Type 0) (old mid new : Option (List ℕ)) where
  runs_kept : (result : Result Unit Fault) → MakeRuns (terms_of w g o) x r images old mid result → Keeps mid new → MakeRuns (terms_of w g o) x r images old new result
  runs_kept (Ok u) h k = record { ok = record { based = h.ok.based; goes = goes_kept w (task_of o (records_of w x)) (came_of r.items r.stop) old mid new h.ok.goes k; file = h.ok.file }; err = tt }
  runs_kept (Err f) h k = record {
    ok = tt;
    err = elim h.err as (λ _. RunFails (terms_of w g o) x r old new f) [
      | inl base ↦ inl (record { fails = base.fails; unread = base.unread; lines = appends_kept old mid new [] base.lines k })
      | inr stop ↦ inr (record { based = stop.based; stops = at_kept w (task_of o (records_of w x)) (came_of r.items r.stop) old mid new f stop.stops k })
    ];
  }

  flush_fails : (result : Result Unit Fault) → MakeRuns (terms_of w g o) x r images old mid result → Keeps mid new → IsOk result → MakeRuns (terms_of w g o) x r images old new (Err Output)
  flush_fails (Ok u) h k is = record { ok = tt; err = inr (record { based = h.ok.based; stops = part_whole o.names _ old new (tells_kept o.names _ old mid new h.ok.goes.lines k) }) }
  flush_fails (Err f) h k is = absurd (not_ok is)

  flush_each : (answer result : Result Unit Fault) → Flushed mid new answer result → MakeRuns (terms_of w g o) x r images old mid answer → MakeRuns (terms_of w g o) x r images old new result
  flush_each answer result f h = elim f.answered as (λ _. MakeRuns (terms_of w g o) x r images old new result) [
    | inl e ↦ subst (MakeRuns (terms_of w g o) x r images old new) (sym e) (runs_kept answer h f.kept)
    | inr e ↦ subst (MakeRuns (terms_of w g o) x r images old new) (sym e.1) (flush_fails answer h f.kept e.0)
  ]

pub base_weaker : {B : Type 0} (s : Ghosts B) (base : Option B) (P Q : Option (List ℕ) → Type 0) → ((x : Option (List ℕ)) → is_some x ≡ is_some base → P x → Q x) → OfBase s base P → OfBase s base Q
base_weaker s None P Q f h = f None refl h
base_weaker s (Some base) P Q f h = λ b is. f (Some b) refl (h b is)

pub runs_flushed : {B : Type 0} (s : Ghosts B) (base : Option B) (w g : ℕ) (o : RunOptions) (r : Reading) (images : List ℕ → Type 0) (old mid new : Option (List ℕ)) (answer result : Result Unit Fault)
    → WhereHonest images (OfBase s base (λ x. MakeRuns (terms_of w g o) x r images old mid answer)) → Flushed mid new answer result
    → WhereHonest images (OfBase s base (λ x. MakeRuns (terms_of w g o) x r images old new result))
runs_flushed s base w g o r images old mid new answer result h f = record {
  each = λ b is. base_weaker s base _ _ (λ x some. flush_each w g o x r images old mid new answer result f) (h.each b is);
}
