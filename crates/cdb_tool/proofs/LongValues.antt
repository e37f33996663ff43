-- A record whose value is read in pieces, and a run that comes to it.
use Rattle.cdb_tool.proofs.Words.{Err, Fault, Feed, Follows, Ghosts, KeyValue, List, MakeFault, Maker, Ok, Option, Puts, Putting, Result, RunOptions, [], TellsEach, ap, append-nil, arith, came, follows_same, inl, inr, length, make_fault, progress, refl, subst, sym, take, ℕ, ◌+◌, ◌∙◌, ◌≡◌, ◌≤◌, ◌⊎◌}
use Rattle.std.specs.Prelude.{IfErr, OnErr, OnOk}
use Rattle.std.proofs.lemmas.List.{length-take-le}
use Rattle.std.proofs.lemmas.Result.{on_ok_weaker}
use Rattle.cdb_store.specs.declared.make_fault.MakeFault.TheVariants as make
use Rattle.cdb_form.specs.Format.{record_of}
use Rattle.cdb_form.specs.declared.mode.Mode.TheVariants.{Add}
use Rattle.cdb_form.specs.declared.text.fault.TextFault.TheVariants as text_fault
use Rattle.cdb_form.specs.declared.width.Width.{Ghosts as Widths}
use Rattle.cdb_make.specs.Views.Long.{FailsLong}
use Rattle.cdb_make.specs.Views.Maker.{ComesFrom, HasNotFailed, SameCounts, StaysWhole}
use Rattle.cdb_make.specs.declared.answer.Put.TheVariants.{Added}
use Rattle.cdb_show.specs.Runs.InputTask.{Progress}
use Rattle.cdb_show.specs.declared.fault.Fault.TheVariants.{NoMemory}
use Rattle.cdb_show.specs.declared.runs.item_reader.ItemReader.{ItemReader}
use Rattle.cdb_tool.specs.Runs.Batches.{HoldsBatch, PutsWaiting, StopsAmid}
use Rattle.cdb_tool.specs.Runs.LongValues.{HasTextFault, IsAmid, IsRead, LongItem, PutsLong, StopsAdding, StopsLong}
use Rattle.cdb_tool.specs.Runs.Make.{DoesItem, IsHalt, IsOfMaking, StepsOn, mode_of, told}
use Rattle.cdb_tool.specs.declared.runs.batch.Batch.{Batch}
use Rattle.cdb_tool.proofs.Batches.{added_told, amid_count, amid_refused, item_does, item_not_done, stays_there}
use Rattle.cdb_tool.proofs.Courses.{halted, put_done, stands_whole}
use Rattle.cdb_tool.proofs.MakerSteps.{step_text}
use Rattle.cdb_tool.proofs.ToldLines.{tells_none}

-- the maker stopped it

long_halts : {S L : Type 0} {s : Ghosts S} {l : Widths L} (m k : Maker S L s l) (f : MakeFault) → FailsLong m k f → IsHalt (make_fault f) × IsOfMaking (make_fault f) × StaysWhole m k
long_halts m k make.NoMemory x = (tt, tt, x.0)
long_halts m k make.Writing x = (tt, tt, x.0)
long_halts m k f x = absurd x

pub long_step : {S L : Type 0} {s : Ghosts S} {l : Widths L} {unread unsaid : Type 0} (m k : Maker S L s l) (f : MakeFault) → FailsLong m k f → Follows m k → StepsOn {A = Unit} m k unread unsaid (Err (make_fault f))
long_step m k make.NoMemory x follows = record { follows = follows; failed = λ is. absurd is; memory = λ e. x.1; fine = tt; base = λ is. absurd is; output = tt }
long_step m k make.Writing x follows = record { follows = follows; failed = λ is. x.1.failed; memory = λ e. cc; fine = tt; base = λ is. absurd is; output = tt }
long_step m k f x follows = absurd x

-- what is counted, one step after another
pub then_counts : {S L : Type 0} {s : Ghosts S} {l : Widths L} (a b c : Maker S L s l) → SameCounts a b → SameCounts b c → SameCounts a c
then_counts a b c x y = record { count = y.count ∙ x.count; size = y.size ∙ x.size; limit = y.limit ∙ x.limit }

-- a piece of a value was read over the memory of a batch
pub still_none : {L : Type 0} {w top : ℕ} (batch after : Batch L) → HoldsBatch w top batch [] → batch.held ≤ length batch.bytes.items → after.held ≡ batch.held → after.count ≡ batch.count → HoldsBatch w top after []
still_none batch after none within held count =
    let zero : after.held ≡ 0 = omega (arith, held, within, ap length none.bytes, length-take-le batch.held batch.bytes.items within) in
    record { bytes = ap (λ n. take n after.bytes.items) zero; count = count ∙ none.count; are = none.are; fit = none.fit }

module _ {S L F : Type 0} {s : Ghosts S} {l : Widths L} (o : RunOptions) (g : ℕ) (feed : F → Feed) (it : LongItem F L) (now : ItemReader F L) (batch : Batch L) (old : Progress (Maker S L s l)) (mid : Option (List ℕ)) (m : Maker S L s l) (waited : PutsWaiting o it.input batch old (progress mid m) (Ok tt)) where
  -- before the value was read
  pub stops_before : (k : Maker S L s l) (f : MakeFault) (got : List ℕ) → IsAmid g feed it now got → FailsLong m k f → Follows m k → SameCounts m k → StopsLong o g feed it now batch old (progress mid k) (make_fault f)
  stops_before k f got amid fails follows counts =
      let h = long_halts m k f fails in
      inr (inl (record {
        got = got;
        amid = amid;
        own = h.1;
        stops = λ items start amid. record {
          kept = items;
          later = [];
          are = sym (append-nil items);
          stops = λ t read from same i at. halted t (came read items) from mid k (make_fault f) h.0 (stands_whole t (came read items) from mid m k ((waited items start amid).0 t read from same i at) follows.comes counts.count h.2);
        };
      }))

  -- or memory for it was refused
  pub memory_before : (got : List ℕ) → IsAmid g feed it now got → StopsLong o g feed it now batch old (progress mid m) NoMemory
  memory_before got amid = inr (inl (record {
    got = got;
    amid = amid;
    own = tt;
    stops = λ items start amid. subst (λ v. StopsAmid o it.input v start (progress mid m) NoMemory) (append-nil items) (amid_refused o it.input start items [] (progress mid m) (waited items start amid).0);
  }))

  -- its text has a fault
  pub text_before : (k : Maker S L s l) (f : Fault) → HasTextFault g feed it now f → Follows m k → StaysWhole m k → StopsLong o g feed it now batch old (progress mid k) f
  text_before k f text follows stays = inl (record {
    text = text;
    puts = λ items start amid t read from same i at. stays_there t (came read items) from mid m k ((waited items start amid).0 t read from same i at) follows.comes follows.limit stays;
  })

  pub unread_before : (f : Fault) → (HasTextFault g feed it now f) ⊎ ((f ≡ NoMemory) × ((got : List ℕ) × IsAmid g feed it now got)) → StopsLong o g feed it now batch old (progress mid m) f
  unread_before f why = elim why [
    | inl text ↦ inl (record { text = text; puts = λ items start amid. (waited items start amid).0 })
    | inr memory ↦ subst (StopsLong o g feed it now batch old (progress mid m)) (sym memory.0) (memory_before memory.1.0 memory.1.1)
  ]

  -- it was put
  module _ (after : Batch L) (end : Progress (Maker S L s l)) (value : List ℕ) (read : IsRead g feed it now value) (done : after.done ≡ batch.done + batch.count + 1) (none : HoldsBatch l.WORD l.TOP after []) (comes : ComesFrom (s.image m.store) (s.image end.state.store)) where
    pub long_put : (result : Result Unit Fault) → DoesItem o it.input after.done (Putting (record_of it.key value)) (progress mid m) end result → OnOk result (PutsLong o g feed it now batch after old end)
    long_put (Ok u) does = record {
      value = value;
      read = read;
      does = λ items start amid.
          item_does o it.input start items after.done (Putting (record_of it.key value)) after (progress mid m) end (Ok tt) (omega (arith, done, amid_count o it.input start items batch old amid)) refl none comes (waited items start amid).0 does;
    }
    long_put (Err f) does = tt

  -- or the run stopped with it
  pub put_stopped : (end : Progress (Maker S L s l)) (value : List ℕ) (n : ℕ) → IsRead g feed it now value → n ≡ batch.done + batch.count + 1 → ComesFrom (s.image m.store) (s.image end.state.store) → (result : Result Unit Fault) → DoesItem o it.input n (Putting (record_of it.key value)) (progress mid m) end result → IfErr result IsOfMaking
      → IfErr result (StopsLong o g feed it now batch old end)
  put_stopped end value n read number comes (Ok u) does own = tt
  put_stopped end value n read number comes (Err f) does own = inr (inr (record {
    value = value;
    read = read;
    own = own;
    stops = λ items start amid. item_not_done o it.input start items n (Putting (record_of it.key value)) (progress mid m) end f (omega (arith, number, amid_count o it.input start items batch old amid)) comes (waited items start amid).0 does;
  }))

  -- ---- it was begun in a maker, and added as it was read

  module _ (k : Maker S L s l) (follows : Follows m k) where
    pub added_long : (result : Result Unit Fault) (after : Batch L) → Add ≡ mode_of o.make → (l.WORD ≡ 4) ⊎ (l.WORD ≡ 8) → after.done ≡ batch.done + batch.count + 1 → HoldsBatch l.WORD l.TOP after [] → OnOk result ((value : List ℕ) × IsRead g feed it now value × Puts m k Add (record_of it.key value) Added) → OnOk result (PutsLong o g feed it now batch after old (progress mid k))
    added_long result after mode wide done none puts =
        on_ok_weaker result (λ h.
        let r : KeyValue = record_of it.key h.0 in
        let lines : TellsEach o.names (told o.make it.input after.done it.key (Ok Added)) mid mid = subst (λ v. TellsEach o.names v mid mid) (sym (added_told o.make it.input after.done it.key)) (tells_none o.names mid) in
        long_put after (progress mid k) h.0 h.1 done none follows.comes (Ok tt) (put_done o Add it.input after.done r mid mid m k Added (Ok tt) mode wide h.2 follows.comes follows.limit lines refl tt)) puts

    pub adding_stopped : (result : Result Unit Fault) → OnErr result (SameCounts m k) → IfErr result (StopsAdding g feed it now m k) → IfErr result (StopsLong o g feed it now batch old (progress mid k))
    adding_stopped (Ok u) counts why = tt
    adding_stopped (Err f) counts why = elim why [
      | inl x ↦ text_before k f x.0 follows x.1
      | inr x ↦ subst (StopsLong o g feed it now batch old (progress mid k)) (sym x.1) (stops_before k x.0 x.3.0 x.3.1 x.2 follows counts)
    ]

-- ---- the steps of a maker

module _ {S L F : Type 0} {s : Ghosts S} {l : Widths L} {unsaid : Type 0} (g : ℕ) (feed : F → Feed) (it : LongItem F L) (now : ItemReader F L) (m : Maker S L s l) where
  pub adding_step : (k : Maker S L s l) (result : Result Unit Fault) → Follows m k → OnOk result (HasNotFailed m k) → IfErr result (StopsAdding g feed it now m k) → StepsOn m k ⊥ unsaid result
  adding_step k (Ok u) follows fine why = record { follows = follows; failed = tt; memory = tt; fine = fine; base = tt; output = tt }
  adding_step k (Err f) follows fine why = elim why [
    | inl x ↦ subst (λ v. StepsOn {A = Unit} m k ⊥ unsaid (Err v)) (sym x.0.is) (step_text it.input x.0.text follows x.2)
    | inr x ↦ subst (λ v. StepsOn {A = Unit} m k ⊥ unsaid (Err v)) (sym x.1) (long_step m k x.0 x.2 follows)
  ]

  pub unread_step : (f : Fault) → (HasTextFault g feed it now f) ⊎ ((f ≡ NoMemory) × ((got : List ℕ) × IsAmid g feed it now got)) → StepsOn {A = Unit} m m ⊥ unsaid (Err f)
  unread_step f why = elim why [
    | inl text ↦ subst (λ v. StepsOn {A = Unit} m m ⊥ unsaid (Err v)) (sym text.is) (step_text it.input text.text (follows_same m) refl)
    | inr memory ↦ subst (λ v. StepsOn {A = Unit} m m ⊥ unsaid (Err v)) (sym memory.0) (step_text it.input text_fault.NoMemory (follows_same m) refl)
  ]
