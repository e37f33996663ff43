-- Records that are added at once, and a run that comes to them.
use Rattle.cdb_tool.proofs.Words.{Change, ComesFrom, Course, Err, Fault, Ghosts, Holds, InCourse, Incoming, KeyValue, List, MakeFault, Maker, None, Ok, Option, Putting, Result, RunOptions, Task, TellsEach, WhereHonest, [], ap, append-nil, append_assoc, arith, came, course_of, ends, file_size, fits, holds_fits, inl, inr, le-leb, length, length-append, limit_of, make_fault, map, mode_of, put_answer, put_list, progress, refl, subst, sym, true, true≢false, ℕ, ◌++◌, ◌+◌, ◌<◌, ◌∙◌, ◌∷◌, ◌≡◌, ◌≤◌, ◌⊎◌}
use Rattle.std.proofs.Common.{Bool, drop, false, flat_map, take, ◌&&◌, ◌||◌}
use Rattle.std.specs.Prelude.{All, IfErr, OnOk, ◌^◌}
use Rattle.std.proofs.lemmas.List.{drop_at, length-drop, length-map, map-append}
use Rattle.std.proofs.lemmas.List.Elements.{All-drop, All-head}
use Rattle.cdb_form.specs.Format.{prefix_record, prefix_size, record_bytes, record_size}
use Rattle.cdb_form.specs.Laws.Text.{LengthsFit}
use Rattle.cdb_form.proofs.Files.Prefixes.{same_record}
use Rattle.cdb_tool.proofs.Batched.{NextIs, batch_next}
use Rattle.cdb_form.specs.declared.width.Width.{Ghosts as Widths}
use Rattle.cdb_form.specs.declared.mode.Mode.TheVariants.{Add}
use Rattle.cdb_make.specs.Views.Appending.{AppendsAll, AppendsSome, FailsAppending, PassesLimit}
use Rattle.cdb_make.specs.Views.Maker.{HoldsIn, StaysWhole}
use Rattle.cdb_make.specs.declared.answer.Put.TheVariants.{Added}
use Rattle.cdb_store.specs.declared.make_fault.MakeFault.TheVariants as make
use Rattle.cdb_command.specs.declared.options.MakeOptions.{MakeOptions}
use Rattle.cdb_show.specs.Runs.InputTask.{Progress}
use Rattle.cdb_show.specs.declared.fault.Fault.TheVariants.{Make, NoMemory}
use Rattle.cdb_tool.specs.Runs.Batches.{HoldsBatch, IsAmid, PutsWaiting, StopsAmid}
use Rattle.cdb_tool.specs.Runs.Make.{DoesItem, PutsItems, StopsSo, told}
use Rattle.cdb_tool.specs.declared.runs.batch.Batch.{Batch}
use Rattle.cdb_tool.proofs.BaseRecords.{size_grows}
use Rattle.cdb_tool.proofs.Courses.{came_more, course_next, course_stands, full_so, put_fits, putting, stands_broken}
use Rattle.cdb_tool.proofs.InputRuns.{item_stopped, last_by, none_put}

-- ---- the course over records that are added

and_false : (b : Bool) → (b && false) ≡ false
and_false true = refl
and_false false = refl

-- nothing is reported of a record that was added
pub added_told : (o : MakeOptions) (i n : ℕ) (key : List ℕ) → told o i n key (Ok Added) ≡ []
added_told o i n key = rw (and_false (o.warn || o.stop)) refl

-- a course with more records
abbrev with_more : Course → List KeyValue → Course
with_more s rs = record { records = s.records ++ rs; told = s.told; ended = None }

added_one : (w : ℕ) (t : Task) (cs : List Incoming) (i n : ℕ) (r : KeyValue) → mode_of t.options.make ≡ Add → (course_of w t cs).ended ≡ None → file_size w ((course_of w t cs).records ++ r ∷ []) ≤ t.options.make.limit
    → course_of w t (cs ++ putting i n r ∷ []) ≡ with_more (course_of w t cs) (r ∷ [])
added_one w t cs i n r mode going small =
    let s = course_of w t cs in
    let o = t.options in
    let list : put_list (mode_of o.make) r s.records ≡ s.records ++ r ∷ [] = ap (λ m. put_list m r s.records) mode in
    let answer : Added ≡ put_answer (mode_of o.make) r s.records = sym (ap (λ m. put_answer m r s.records) mode) in
    let fit : fits w o.make.limit (mode_of o.make) r s.records ≡ true = le-leb (file_size w (put_list (mode_of o.make) r s.records)) o.make.limit (omega (arith, small, ap (file_size w) list)) in
    let none : s.told ++ told o.make i n r.key (Ok Added) ≡ s.told = ap (λ ds. s.told ++ ds) (added_told o.make i n r.key) ∙ append-nil s.told in
    course_next w t cs (putting i n r) going
    ∙ put_fits w o s i n r Added fit answer
    ∙ ap (λ rs. let c : Course = record { records = rs; told = s.told ++ told o.make i n r.key (Ok Added); ended = ends o.make (Ok Added) } in c) list
    ∙ ap (λ ds. let c : Course = record { records = s.records ++ r ∷ []; told = ds; ended = None } in c) none

added_each : (w : ℕ) (t : Task) (read : List (List Change)) (before : List Change) (rs : List KeyValue) → mode_of t.options.make ≡ Add → (course_of w t (came read before)).ended ≡ None → file_size w ((course_of w t (came read before)).records ++ rs) ≤ t.options.make.limit
    → course_of w t (came read (before ++ map Putting rs)) ≡ with_more (course_of w t (came read before)) rs
added_each w t read before [] mode going small =
    let s = course_of w t (came read before) in
    ap (λ v. course_of w t (came read v)) (append-nil before)
    ∙ ap (λ rs. let c : Course = record { records = rs; told = s.told; ended = s.ended } in c) (sym (append-nil s.records))
    ∙ ap (λ e. let c : Course = record { records = s.records ++ []; told = s.told; ended = e } in c) going
added_each w t read before (r ∷ rs) mode going small =
    let s = course_of w t (came read before) in
    let all : (s.records ++ r ∷ []) ++ rs ≡ s.records ++ r ∷ rs = append_assoc s.records (r ∷ []) rs in
    let same = ap (file_size w) all in
    let one = added_one w t (came read before) (length read + 1) (length before + 1) r mode going (omega (arith, size_grows w (s.records ++ r ∷ []) rs, same, small)) in
    let next : course_of w t (came read (before ++ Putting r ∷ [])) ≡ with_more s (r ∷ []) = ap (course_of w t) (came_more (length read + 1) (length before + 1) read before (Putting r) refl refl) ∙ one in
    let long : file_size w ((course_of w t (came read (before ++ Putting r ∷ []))).records ++ rs) ≡ file_size w ((s.records ++ r ∷ []) ++ rs) = ap (λ c. file_size w (c.records ++ rs)) next in
    ap (λ v. course_of w t (came read v)) (sym (append_assoc before (Putting r ∷ []) (map Putting rs)))
    ∙ added_each w t read (before ++ Putting r ∷ []) rs mode (ap (λ c. c.ended) next) (omega (arith, long, same, small))
    ∙ ap (λ c. with_more c rs) next
    ∙ ap (λ v. let c : Course = record { records = v; told = s.told; ended = None } in c) all

module _ {S L : Type 0} {s : Ghosts S} {l : Widths L} (t : Task) (read : List (List Change)) (before : List Change) (start now : Option (List ℕ)) (old new : Maker S L s l) (mode : mode_of t.options.make ≡ Add) (wide : (l.WORD ≡ 4) ⊎ (l.WORD ≡ 8)) (h : InCourse t (came read before) start now old) (comes : ComesFrom (s.image old.store) (s.image new.store)) (limit : limit_of new ≡ limit_of old) where
  -- the run comes to the records that are held
  now_at : (rs : List KeyValue) → ((held : List KeyValue) → Holds old held → Holds new (held ++ rs)) → (b : List ℕ) → s.image new.store b
      → course_of l.WORD t (came read (before ++ map Putting rs)) ≡ with_more (course_of l.WORD t (came read before)) rs
  now_at rs hold b is =
      let a = comes.each b is in
      let records = (course_of l.WORD t (came read before)).records in
      let small : file_size l.WORD (records ++ rs) ≤ limit_of new = (holds_fits new (records ++ rs) wide (hold records h.holds)).each b is in
      added_each l.WORD t read before rs mode (h.goes.each a.0 a.1).going (omega (arith, small, limit ∙ h.limit))

  pub added_goes : (rs : List KeyValue) → ((held : List KeyValue) → Holds old held → Holds new (held ++ rs)) → InCourse t (came read (before ++ map Putting rs)) start now new
  added_goes rs hold =
      let holds = hold (course_of l.WORD t (came read before)).records h.holds in
      record {
        holds = record { whole = holds.whole; each = λ b is. subst (λ c. HoldsIn new c.records b) (sym (now_at rs hold b is)) (holds.each b is) };
        limit = limit ∙ h.limit;
        goes = record {
          each = λ b is.
              let a = comes.each b is in
              let at = now_at rs hold b is in
              record { going = ap (λ c. c.ended) at; lines = subst (λ c. TellsEach t.options.names c.told start now) (sym at) (h.goes.each a.0 a.1).lines };
        };
      }

  -- it ends with the record that passes the limit
  too_big : (rs : List KeyValue) (some : AppendsSome old new rs (PassesLimit old new)) → WhereHonest (s.image new.store) (StopsSo l.WORD t (came read ((before ++ map Putting some.done) ++ Putting some.next ∷ [])) start now (Make make.TooBig))
  too_big rs some = record {
    each = λ b is.
        let records = (course_of l.WORD t (came read before)).records in
        let front = before ++ map Putting some.done in
        let at = now_at some.done some.holds b is in
        let goes = (added_goes some.done some.holds).goes.each b is in
        let large : limit_of old < file_size l.WORD (records ++ (some.done ++ some.next ∷ [])) = (some.why records h.holds).each b is in
        let held : put_list (mode_of t.options.make) some.next (course_of l.WORD t (came read front)).records ≡ records ++ (some.done ++ some.next ∷ []) =
        ap (λ m. put_list m some.next (course_of l.WORD t (came read front)).records) mode ∙ ap (λ c. c.records ++ some.next ∷ []) at ∙ append_assoc records some.done (some.next ∷ []) in
        subst (λ cs. StopsSo l.WORD t cs start now (Make make.TooBig)) (sym (came_more (length read + 1) (length front + 1) read front (Putting some.next) refl refl))
        (full_so {l = l} t (came read front) (length read + 1) (length front + 1) some.next start now old goes h.limit (omega (arith, large, ap (file_size l.WORD) held)));
  }

-- it comes no further if nothing is added
pub stays_there : {S L : Type 0} {s : Ghosts S} {l : Widths L} (t : Task) (cs : List Incoming) (start now : Option (List ℕ)) (old new : Maker S L s l) → InCourse t cs start now old → ComesFrom (s.image old.store) (s.image new.store) → limit_of new ≡ limit_of old → StaysWhole old new → InCourse t cs start now new
stays_there {l = l} t cs start now old new h comes limit stays = record {
  holds = stays.holds (course_of l.WORD t cs).records h.holds;
  limit = limit ∙ h.limit;
  goes = record { each = λ b is. let a = comes.each b is in h.goes.each a.0 a.1 };
}

-- the items, parted where they were added
parted : (items done : List Change) (waiting first later : List KeyValue) (next : KeyValue) → items ≡ done ++ map Putting waiting → waiting ≡ first ++ next ∷ later
    → items ≡ (done ++ map Putting first) ++ map Putting (next ∷ later)
parted items done waiting first later next are all =
    are ∙ ap (λ rs. done ++ map Putting rs) all ∙ ap (λ cs. done ++ cs) (map-append Putting first (next ∷ later)) ∙ sym (append_assoc done (map Putting first) (map Putting (next ∷ later)))

module _ {S L : Type 0} {s : Ghosts S} {l : Widths L} (o : RunOptions) (input : ℕ) (items : List Change) (batch : Batch L) (begin : Progress (Maker S L s l)) (now : Option (List ℕ)) (old new : Maker S L s l) (mode : mode_of o.make ≡ Add) (wide : (l.WORD ≡ 4) ⊎ (l.WORD ≡ 8)) (amid : IsAmid o input items batch begin (progress now old)) (comes : ComesFrom (s.image old.store) (s.image new.store)) (limit : limit_of new ≡ limit_of old) where
  mode_in : (t : Task) → t.options ≡ o → mode_of t.options.make ≡ Add
  mode_in t same = ap (λ v. mode_of v.make) same ∙ mode

  -- they were all added
  pub appended : (rs : List KeyValue) (n : ℕ) → rs ≡ amid.waiting → AppendsAll old new rs n → PutsItems o input items begin (progress now new)
  appended rs n is x t read start same i h =
      let all : items ≡ amid.done ++ map Putting rs = amid.are ∙ ap (λ v. amid.done ++ map Putting v) (sym is) in
      subst (λ v. InCourse t (came read v) start now new) (sym all) (added_goes t read amid.done start now old new (mode_in t same) wide (amid.puts t read start same i h) comes limit rs x.holds)

  -- or some of them
  pub appended_stops : (rs : List KeyValue) (f : MakeFault) → rs ≡ amid.waiting → FailsAppending old new rs f → StopsAmid o input items begin (progress now new) (make_fault f)
  appended_stops rs make.Broken is x = record {
    kept = items;
    later = [];
    are = sym (append-nil items);
    stops = λ t read start same i h. absurd (true≢false (sym x.0 ∙ (amid.puts t read start same i h).holds.whole));
  }
  appended_stops rs make.Lookup is x = absurd x
  appended_stops rs make.TooBig is x =
      let some = x.0 in
      let front = amid.done ++ map Putting some.done in
      let split = parted items amid.done amid.waiting some.done some.later some.next amid.are (sym is ∙ some.all) in
      record {
        kept = front ++ Putting some.next ∷ [];
        later = map Putting some.later;
        are = split ∙ sym (append_assoc front (Putting some.next ∷ []) (map Putting some.later));
        stops = λ t read start same i h. record {
          stops = too_big t read amid.done start now old new (mode_in t same) wide (amid.puts t read start same i h) comes limit rs some;
          stands = λ is. absurd is;
        };
      }
  appended_stops rs make.NoMemory is x =
      let some = x.0 in
      record {
        kept = amid.done ++ map Putting some.done;
        later = map Putting (some.next ∷ some.later);
        are = parted items amid.done amid.waiting some.done some.later some.next amid.are (sym is ∙ some.all);
        stops = λ t read start same i h.
            let at = added_goes t read amid.done start now old new (mode_in t same) wide (amid.puts t read start same i h) comes limit some.done some.holds in
            record { stops = at.goes; stands = λ is. course_stands t (came read (amid.done ++ map Putting some.done)) start now new at };
      }
  appended_stops rs make.Writing is (inl x) = record {
    kept = amid.done;
    later = map Putting amid.waiting;
    are = amid.are;
    stops = λ t read start same i h.
        let at = stays_there t (came read amid.done) start now old new (amid.puts t read start same i h) comes limit x.2 in
        record { stops = at.goes; stands = λ is. course_stands t (came read amid.done) start now new at };
  }
  appended_stops rs make.Writing is (inr x) = record {
    kept = amid.done;
    later = map Putting amid.waiting;
    are = amid.are;
    stops = λ t read start same i h.
        let at = stands_broken t (came read amid.done) start now old new (amid.puts t read start same i h) comes x.5.count x.2 in
        record { stops = at.goes; stands = λ is. at };
  }

-- ---- what waits, and what is done

module _ {S L : Type 0} {s : Ghosts S} {l : Widths L} (o : RunOptions) (input : ℕ) (begin : Progress (Maker S L s l)) where
  -- no item came
  pub amid_none : (batch : Batch L) → batch.done ≡ 0 → HoldsBatch l.WORD l.TOP batch [] → IsAmid o input [] batch begin begin
  amid_none batch none holds = record {
    done = [];
    waiting = [];
    are = refl;
    number = none;
    holds = holds;
    puts = λ t read start same i h. none_put {s = s} {l = l} t read start begin.output begin.state h;
  }

  -- records more wait
  pub amid_more : (items : List Change) (old new : Batch L) (rs : List KeyValue) (at : Progress (Maker S L s l)) → IsAmid o input items old begin at → new.done ≡ old.done → ((held : List KeyValue) → HoldsBatch l.WORD l.TOP old held → HoldsBatch l.WORD l.TOP new (held ++ rs))
      → IsAmid o input (items ++ map Putting rs) new begin at
  amid_more items old new rs at amid same holds = record {
    done = amid.done;
    waiting = amid.waiting ++ rs;
    are = ap (λ cs. cs ++ map Putting rs) amid.are ∙ append_assoc amid.done (map Putting amid.waiting) (map Putting rs) ∙ ap (λ cs. amid.done ++ cs) (sym (map-append Putting amid.waiting rs));
    number = same ∙ amid.number;
    holds = holds amid.waiting amid.holds;
    puts = amid.puts;
  }

  -- how many items came
  pub amid_count : (items : List Change) (batch : Batch L) (at : Progress (Maker S L s l)) → IsAmid o input items batch begin at → batch.done + batch.count ≡ length items
  amid_count items batch at amid =
      omega (arith, amid.number, amid.holds.count, ap length amid.are, length-append amid.done (map Putting amid.waiting), length-map amid.waiting Putting)

  -- all are done
  pub amid_all : (items : List Change) (batch : Batch L) (at : Progress (Maker S L s l)) → batch.done ≡ length items → HoldsBatch l.WORD l.TOP batch [] → PutsItems o input items begin at → IsAmid o input items batch begin at
  amid_all items batch at number holds puts = record {
    done = items;
    waiting = [];
    are = sym (append-nil items);
    number = number;
    holds = holds;
    puts = puts;
  }

  -- where a run stopped with an item, and what it left out
  last_front : (f : Fault) (items : List Change) (c : Change) → (later : List Change) × (items ++ c ∷ [] ≡ last_by f items c ++ later)
  last_front (Make make.Lookup) items c = (c ∷ [], refl)
  last_front (Make make.Writing) items c = (c ∷ [], refl)
  last_front NoMemory items c = (c ∷ [], refl)
  last_front f items c = ([], sym (append-nil (items ++ c ∷ [])))

  -- one item more was done
  pub item_done : (items : List Change) (n : ℕ) (c : Change) (mid now : Progress (Maker S L s l)) → n ≡ length items + 1 → PutsItems o input items begin mid → DoesItem o input n c mid now (Ok tt) → PutsItems o input (items ++ c ∷ []) begin now
  item_done items n c mid now number puts does t read start same i h =
      subst (λ cs. InCourse t cs start now.output now.state) (sym (came_more input n read items c i number)) (does t (came read items) start same (puts t read start same i h)).ok

  -- or it stopped the run
  pub item_not_done : (items : List Change) (n : ℕ) (c : Change) (mid now : Progress (Maker S L s l)) (f : Fault) → n ≡ length items + 1 → ComesFrom (s.image mid.state.store) (s.image now.state.store) → PutsItems o input items begin mid → DoesItem o input n c mid now (Err f) → StopsAmid o input (items ++ c ∷ []) begin now f
  item_not_done items n c mid now f number comes puts does =
      let split = last_front f items c in
      record {
        kept = last_by f items c;
        later = split.0;
        are = split.1;
        stops = λ t read start same i h.
            let at = puts t read start same i h in
            item_stopped {s = s} {l = l} t read items (record { input = input; number = n; it = c }) start mid.output now.output mid.state now.state i number comes f at (does t (came read items) start same at);
      }

  -- what stopped it stops it too if more items came
  pub stops_more : (items more : List Change) (now : Progress (Maker S L s l)) (f : Fault) → StopsAmid o input items begin now f → StopsAmid o input (items ++ more) begin now f
  stops_more items more now f x = record {
    kept = x.kept;
    later = x.later ++ more;
    are = ap (λ cs. cs ++ more) x.are ∙ append_assoc x.kept x.later more;
    stops = x.stops;
  }

  -- those that waited were put
  pub waited : (items : List Change) (batch after : Batch L) (at now : Progress (Maker S L s l)) (result : Result Unit Fault) → after.done ≡ batch.done + batch.count → HoldsBatch l.WORD l.TOP after [] → IsAmid o input items batch begin at → PutsWaiting o input batch at now result
      → OnOk result (IsAmid o input (items ++ []) after begin now) × IfErr result (StopsAmid o input (items ++ []) begin now)
  waited items batch after at now (Ok u) number holds amid puts = (
    subst (λ v. IsAmid o input v after begin now) (sym (append-nil items)) (amid_all items after now (number ∙ amid_count items batch at amid) holds (puts items begin amid).0),
    tt,
  )
  waited items batch after at now (Err f) number holds amid puts = (tt, stops_more items [] now f (puts items begin amid).1)

  -- one more was done, or stopped the run, with no record that waits
  pub item_does : (items : List Change) (n : ℕ) (c : Change) (batch : Batch L) (mid now : Progress (Maker S L s l)) (result : Result Unit Fault) → n ≡ length items + 1 → batch.done ≡ n → HoldsBatch l.WORD l.TOP batch [] → ComesFrom (s.image mid.state.store) (s.image now.state.store)
      → PutsItems o input items begin mid → DoesItem o input n c mid now result → OnOk result (IsAmid o input (items ++ c ∷ []) batch begin now) × IfErr result (StopsAmid o input (items ++ c ∷ []) begin now)
  item_does items n c batch mid now (Ok u) number done holds comes puts does = (
    amid_all (items ++ c ∷ []) batch now (omega (arith, done, number, length-append items (c ∷ []))) holds (item_done items n c mid now number puts does),
    tt,
  )
  item_does items n c batch mid now (Err f) number done holds comes puts does = (tt, item_not_done items n c mid now f number comes puts does)

  -- the run was refused memory between two items
  pub amid_refused : (items more : List Change) (at : Progress (Maker S L s l)) → PutsItems o input items begin at → StopsAmid o input (items ++ more) begin at NoMemory
  amid_refused items more at puts = record {
    kept = items;
    later = more;
    are = refl;
    stops = λ t read start same i h.
        let now = puts t read start same i h in
        record { stops = now.goes; stands = λ is. course_stands t (came read items) start at.output at.state now };
  }

-- ---- the records of a batch, one after the other

-- the first of them were put, up to a place
pub record PutSoFar {S L : Type 0} {s : Ghosts S} {l : Widths L} (o : RunOptions) (input : ℕ) (batch : Batch L) (bytes : List ℕ) (index place : ℕ) (rs : List KeyValue) (old new : Progress (Maker S L s l)) : Type 0 where
  pub done : List KeyValue
  pub left : List KeyValue
  pub are : rs ≡ done ++ left
  pub number : index ≡ length done
  pub rest : drop place bytes ≡ flat_map (record_bytes l.WORD) left
  pub within : place ≤ length bytes
  pub course : (before : List Change) (begin : Progress (Maker S L s l)) → batch.done ≡ length before → PutsItems o input before begin old → PutsItems o input (before ++ map Putting done) begin new

-- the next of them, those after it, and how it reads
pub record NextLeft (w top place : ℕ) (bytes : List ℕ) (left : List KeyValue) : Type 0 where
  pub next : KeyValue
  pub later : List KeyValue
  pub are : left ≡ next ∷ later
  pub reads : NextIs w place bytes next (flat_map (record_bytes w) later)

next_left : (w top place : ℕ) (bytes : List ℕ) (left : List KeyValue) → top + 1 ≡ 256 ^ w → 0 < length left → All (LengthsFit top) left → drop place bytes ≡ flat_map (record_bytes w) left → NextLeft w top place bytes left
next_left w top place bytes [] top_is some fit rest = absurd (omega (arith, some))
next_left w top place bytes (r ∷ later) top_is some fit rest = record {
  next = r;
  later = later;
  are = refl;
  reads = batch_next w top place bytes r (flat_map (record_bytes w) later) top_is (All-head (LengthsFit top) r later fit) rest;
}

no_items : (rs : List KeyValue) → length rs ≡ 0 → rs ≡ []
no_items [] e = refl
no_items (r ∷ rs) e = absurd (omega (arith, e))

module _ {S L : Type 0} {s : Ghosts S} {l : Widths L} (o : RunOptions) (input : ℕ) (batch : Batch L) (bytes : List ℕ) (rs : List KeyValue) (old : Progress (Maker S L s l)) (top_is : l.TOP + 1 ≡ 256 ^ l.WORD) (holds : HoldsBatch l.WORD l.TOP batch rs) where
  pub put_none : bytes ≡ flat_map (record_bytes l.WORD) rs → PutSoFar o input batch bytes 0 0 rs old old
  put_none are = record {
    done = [];
    left = rs;
    are = refl;
    number = refl;
    rest = are;
    within = omega arith;
    course = λ before begin number puts. subst (λ v. PutsItems o input v begin old) (sym (append-nil before)) puts;
  }

  pub put_next : (index place : ℕ) (mid : Progress (Maker S L s l)) → (so : PutSoFar o input batch bytes index place rs old mid) → index < batch.count → NextLeft l.WORD l.TOP place bytes so.left
  put_next index place mid so few =
      let long : 0 < length so.left = omega (arith, few, holds.count, ap length so.are, length-append so.done so.left, so.number) in
      let fit : All (LengthsFit l.TOP) so.left = subst (All (LengthsFit l.TOP)) (ap (drop (length so.done)) so.are ∙ drop_at so.done so.left (length so.done) refl) (All-drop (LengthsFit l.TOP) (length so.done) rs holds.fit) in
      next_left l.WORD l.TOP place bytes so.left top_is long fit so.rest

  module _ (index place : ℕ) (mid now : Progress (Maker S L s l)) (so : PutSoFar o input batch bytes index place rs old mid) (few : index < batch.count) (key value : List ℕ) (n : ℕ) (number : n ≡ batch.done + index + 1) (key_is : key ≡ (prefix_record l.WORD (drop place bytes)).key) (value_is : value ≡ (prefix_record l.WORD (drop place bytes)).value) where
    abbrev pub put : KeyValue
    put = record { key = key; value = value }

    put_is : (next : NextLeft l.WORD l.TOP place bytes so.left) → put ≡ next.next
    put_is next = same_record put next.next (key_is ∙ ap (λ r. r.key) next.reads.is) (value_is ∙ ap (λ r. r.value) next.reads.is)

    pub put_bytes : (own : List ℕ) → own ≡ take (prefix_size l.WORD (drop place bytes)) (drop place bytes) → own ≡ record_bytes l.WORD put
    put_bytes own own_is =
        let next = put_next index place mid so few in
        own_is ∙ next.reads.own ∙ ap (record_bytes l.WORD) (sym (put_is next))

    front_count : (before : List Change) → batch.done ≡ length before → n ≡ length (before ++ map Putting so.done) + 1
    front_count before done = omega (arith, number, done, so.number, length-append before (map Putting so.done), length-map so.done Putting)

    pub put_more : (size : ℕ) → size ≡ prefix_size l.WORD (drop place bytes) → DoesItem o input n (Putting put) mid now (Ok tt) → PutSoFar o input batch bytes (index + 1) (place + size) rs old now
    put_more size size_is does =
        let next = put_next index place mid so few in
        let r = next.next in
        let same : size ≡ record_size l.WORD r = size_is ∙ next.reads.size in
        record {
          done = so.done ++ r ∷ [];
          left = next.later;
          are = so.are ∙ ap (λ v. so.done ++ v) next.are ∙ sym (append_assoc so.done (r ∷ []) next.later);
          number = omega (arith, so.number, length-append so.done (r ∷ []));
          rest = ap (λ (k : ℕ). drop (place + k) bytes) same ∙ next.reads.rest_is;
          within = omega (arith, size_is, next.reads.fits, length-drop place bytes, so.within);
          course = λ before begin done puts.
              let front = before ++ map Putting so.done in
              let one = item_done o input begin front n (Putting put) mid now (front_count before done) (so.course before begin done puts) does in
              let all : front ++ Putting put ∷ [] ≡ before ++ map Putting (so.done ++ r ∷ []) =
              ap (λ v. front ++ Putting v ∷ []) (put_is next) ∙ append_assoc before (map Putting so.done) (Putting r ∷ []) ∙ ap (λ v. before ++ v) (sym (map-append Putting so.done (r ∷ []))) in
              subst (λ v. PutsItems o input v begin now) all one;
        }

    pub put_stops : (items : List Change) (begin : Progress (Maker S L s l)) (f : Fault) → (amid : IsAmid o input items batch begin old) → rs ≡ amid.waiting → ComesFrom (s.image mid.state.store) (s.image now.state.store) → DoesItem o input n (Putting put) mid now (Err f) → StopsAmid o input items begin now f
    put_stops items begin f amid is comes does =
        let next = put_next index place mid so few in
        let front = amid.done ++ map Putting so.done in
        let one = item_not_done o input begin front n (Putting put) mid now f (front_count amid.done amid.number) comes (so.course amid.done begin amid.number amid.puts) does in
        let split = parted items amid.done amid.waiting so.done next.later next.next amid.are (sym is ∙ so.are ∙ ap (λ v. so.done ++ v) next.are) in
        let all : (front ++ Putting put ∷ []) ++ map Putting next.later ≡ items =
        append_assoc front (Putting put ∷ []) (map Putting next.later) ∙ ap (λ v. front ++ Putting v ∷ map Putting next.later) (put_is next) ∙ sym split in
        subst (λ v. StopsAmid o input v begin now f) all (stops_more o input begin (front ++ Putting put ∷ []) (map Putting next.later) now f one)

  pub put_all : (items : List Change) (begin : Progress (Maker S L s l)) (place : ℕ) (now : Progress (Maker S L s l)) → PutSoFar o input batch bytes batch.count place rs old now → (amid : IsAmid o input items batch begin old) → rs ≡ amid.waiting → PutsItems o input items begin now
  put_all items begin place now so amid is =
      let none : length so.left ≡ 0 = omega (arith, holds.count, ap length so.are, length-append so.done so.left, so.number) in
      let all : so.done ≡ rs = sym (so.are ∙ ap (λ v. so.done ++ v) (no_items so.left none) ∙ append-nil so.done) in
      subst (λ v. PutsItems o input v begin now) (ap (λ v. amid.done ++ map Putting v) (all ∙ is) ∙ sym amid.are) (so.course amid.done begin amid.number amid.puts)
