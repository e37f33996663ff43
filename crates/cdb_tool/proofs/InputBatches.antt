-- An input whose records wait in batches, up to its end or to what stops the run.
use Rattle.cdb_tool.proofs.Words.{BeginsWithItems, Change, Err, Fault, Feed, FromTo, GaveItems, Ghosts, IsInputOf, InputForm, List, Maker, Ok, Putting, Result, RunOptions, TextFault, [], append-nil, arith, came, follows_same, follows_then, form_of, inl, inr, length, length-append, map, reader_of, refl, subst, sym, ℕ, ⊤, ◌++◌, ◌+◌, ◌^◌, ◌∙◌, ◌∷◌, ◌≡◌, ◌≤◌}
use Rattle.std.specs.Prelude.{IfErr, OnOk}
use Rattle.std.proofs.lemmas.List.{length-map}
use Rattle.cdb_form.specs.declared.width.Width.{Ghosts as Widths}
use Rattle.cdb_form.proofs.Fed.FeedLemmas.{from_weaker}
use Rattle.cdb_show.specs.Runs.InputTask.{Progress}
use Rattle.cdb_show.specs.Runs.Lookups.{StopsBehind}
use Rattle.cdb_show.specs.Views.Fault.{text_fault}
use Rattle.cdb_show.specs.Views.ItemReader.{Fails, GivesEnd, GivesItem, IsNew, asks_left}
use Rattle.cdb_show.specs.declared.runs.item_reader.ItemReader.{ItemReader}
use Rattle.cdb_show.proofs.ItemInputs.{items_all, items_amid, items_begin, items_each, items_fewer, items_form, items_more, items_none, items_still, puts_fewer, puts_form}
use Rattle.cdb_tool.specs.Runs.Batches.{DoesMore, HoldsBatch, IsAmid, PutsWaiting, StopsAmid, TakesMore}
use Rattle.cdb_tool.specs.Runs.LongValues.{PutsLong, StopsLong, long_item}
use Rattle.cdb_tool.specs.Runs.Make.{DoesItems, IsOfMaking, StepsOn, StoppedAt, StopsItems}
use Rattle.cdb_form.specs.Format.{record_of}
use Rattle.cdb_tool.specs.declared.runs.batch.Batch.{Batch}
use Rattle.cdb_tool.proofs.Batches.{amid_count, amid_more, amid_none}
use Rattle.cdb_tool.proofs.FrontItems.{items_front, whole_begins}
use Rattle.cdb_tool.proofs.InputRuns.{in_run, text_stopped, text_stops}
use Rattle.cdb_tool.proofs.MakerSteps.{step_failed, step_text}

module _ {S L F : Type 0} {s : Ghosts S} {l : Widths L} (o : RunOptions) (n g : ℕ) (feed : F → Feed) (start : Feed) (form : InputForm) (begin : Progress (Maker S L s l)) where
  -- a reader gave some items, of which the first were done and the others wait
  pub record Comes (t : ItemReader F L) (batch : Batch L) (now : Progress (Maker S L s l)) : Type 0 where
    pub last : List Change
    pub gave : GaveItems g feed start t last
    pub same : form_of t ≡ form
    pub asks : length last + asks_left t ≤ 2 ^ 48
    pub amid : IsAmid o n last batch begin now
    pub step : StepsOn {A = Unit} begin.state now.state ⊥ ⊥ (Ok tt)

  -- the run stopped in the input
  abbrev pub Stopped : (end : Feed) (now : Progress (Maker S L s l)) → Fault → Type 0
  Stopped end now f = (last : List Change) × StopsBehind form g n last start end f × StopsItems o n last begin now f

  stopped_amid : (t : ItemReader F L) (end : Feed) (items : List Change) (now : Progress (Maker S L s l)) (f : Fault) → form_of t ≡ form → FromTo start end (λ text rest. BeginsWithItems (form_of t) g items text) → StopsAmid o n items begin now f → IsOfMaking f → StepsOn {A = Unit} begin.state now.state ⊥ ⊤ (Err f)
      → Stopped end now f
  stopped_amid t end items now f same begins x own step = (
    x.kept,
    subst (λ v. StopsBehind v g n x.kept start end f) same (record {
      begins = from_weaker start end (λ text rest. BeginsWithItems (form_of t) g items text) (λ text rest. BeginsWithItems (form_of t) g x.kept text) begins (λ text rest is. items_front t g x.kept x.later text (subst (λ v. BeginsWithItems (form_of t) g v text) x.are is));
      of_text = λ i v e. absurd (subst IsOfMaking e own);
      of_run = in_run f own;
    }),
    record { stops = x.stops; step = step },
  )

  -- steps that were done, one after the other
  done_then : {unsaid : Type 0} (mid now : Progress (Maker S L s l)) → StepsOn {A = Unit} begin.state mid.state ⊥ ⊥ (Ok tt) → StepsOn {A = Unit} mid.state now.state ⊥ unsaid (Ok tt) → StepsOn {A = Unit} begin.state now.state ⊥ ⊥ (Ok tt)
  done_then mid now a b = record { follows = follows_then _ _ _ a.follows b.follows; failed = tt; memory = tt; fine = b.fine ∙ a.fine; base = tt; output = tt }

  failed_then : {unsaid : Type 0} (mid now : Progress (Maker S L s l)) (f : Fault) → StepsOn {A = Unit} begin.state mid.state ⊥ ⊥ (Ok tt) → StepsOn {A = Unit} mid.state now.state ⊥ unsaid (Err f) → StepsOn {A = Unit} begin.state now.state ⊥ ⊤ (Err f)
  failed_then mid now f a b = step_failed f a.follows a.fine (λ is. is) (λ is. tt) b

  -- ---- what the reader gives

  pub comes_none : (t : ItemReader F L) (batch : Batch L) → start ≡ feed (reader_of t) → form_of t ≡ form → IsNew t → batch.done ≡ 0 → HoldsBatch l.WORD l.TOP batch [] → Comes t batch begin
  comes_none t batch from same new none holds = record {
    last = [];
    gave = subst (λ v. GaveItems g feed v t []) (sym from) (items_none g feed t new);
    same = same;
    asks = omega (arith, new.asks);
    amid = amid_none o n begin batch none holds;
    step = record { follows = follows_same begin.state; failed = tt; memory = tt; fine = refl; base = tt; output = tt };
  }

  pub comes_filled : (t u : ItemReader F L) (old new : Batch L) (now : Progress (Maker S L s l)) → Comes t old now → TakesMore l.WORD l.TOP g feed t u old new → new.done ≡ old.done → Comes u new now
  comes_filled t u old new now h x done = record {
    last = h.last ++ map Putting x.more;
    gave = items_each g feed start t u h.last x.more h.gave x.gives;
    same = puts_form g feed t u x.more x.gives ∙ h.same;
    asks = omega (arith, h.asks, puts_fewer g feed t u x.more x.gives, length-append h.last (map Putting x.more), length-map x.more Putting);
    amid = amid_more o n begin h.last old new x.more now h.amid done x.holds;
    step = h.step;
  }

  pub comes_waited : {unsaid : Type 0} (t : ItemReader F L) (old new : Batch L) (mid now : Progress (Maker S L s l)) → Comes t old mid → DoesMore o n [] old new mid now (Ok tt) → StepsOn {A = Unit} mid.state now.state ⊥ unsaid (Ok tt) → Comes t new now
  comes_waited t old new mid now h does step = record {
    last = h.last;
    gave = h.gave;
    same = h.same;
    asks = h.asks;
    amid = subst (λ v. IsAmid o n v new begin now) (append-nil h.last) (does h.last begin h.amid).0;
    step = done_then mid now h.step step;
  }

  pub comes_more : {unsaid : Type 0} (t u : ItemReader F L) (c : Change) (old new : Batch L) (mid now : Progress (Maker S L s l)) → Comes t old mid → GivesItem g feed t u c → DoesMore o n (c ∷ []) old new mid now (Ok tt) → StepsOn {A = Unit} mid.state now.state ⊥ unsaid (Ok tt) → Comes u new now
  comes_more t u c old new mid now h one does step = record {
    last = h.last ++ c ∷ [];
    gave = items_more g feed start t u h.last c h.gave one;
    same = items_form g feed t u c one ∙ h.same;
    asks = omega (arith, h.asks, items_fewer g feed t u c one, length-append h.last (c ∷ []));
    amid = (does h.last begin h.amid).0;
    step = done_then mid now h.step step;
  }

  pub comes_few : (t : ItemReader F L) (batch : Batch L) (now : Progress (Maker S L s l)) → Comes t batch now → batch.done + batch.count ≤ 2 ^ 48
  comes_few t batch now h = omega (arith, h.asks, amid_count o n begin h.last batch now h.amid)

  -- ---- what stops the run

  pub waited_stops : {unsaid : Type 0} (t : ItemReader F L) (old new : Batch L) (mid now : Progress (Maker S L s l)) (f : Fault) → Comes t old mid → DoesMore o n [] old new mid now (Err f) → IsOfMaking f → StepsOn {A = Unit} mid.state now.state ⊥ unsaid (Err f) → Stopped (feed (reader_of t)) now f
  waited_stops t old new mid now f h does own step =
      stopped_amid t (feed (reader_of t)) (h.last ++ []) now f h.same (subst (λ v. FromTo start (feed (reader_of t)) (λ text rest. BeginsWithItems (form_of t) g v text)) (sym (append-nil h.last)) (items_begin g feed start t h.last h.gave)) (does h.last begin h.amid).1 own (failed_then mid now f h.step step)

  pub more_stops : {unsaid : Type 0} (t u : ItemReader F L) (c : Change) (old new : Batch L) (mid now : Progress (Maker S L s l)) (f : Fault) → Comes t old mid → GivesItem g feed t u c → DoesMore o n (c ∷ []) old new mid now (Err f) → IsOfMaking f → StepsOn {A = Unit} mid.state now.state ⊥ unsaid (Err f) → Stopped (feed (reader_of u)) now f
  more_stops t u c old new mid now f h one does own step =
      stopped_amid u (feed (reader_of u)) (h.last ++ c ∷ []) now f (items_form g feed t u c one ∙ h.same) (items_begin g feed start u (h.last ++ c ∷ []) (items_more g feed start t u h.last c h.gave one)) (does h.last begin h.amid).1 own (failed_then mid now f h.step step)

  -- the end, and a fault of the text, before which those that wait are put
  pub end_done : {unsaid : Type 0} (t u : ItemReader F L) (batch : Batch L) (mid now : Progress (Maker S L s l)) (result : Result Unit Fault) → Comes t batch mid → GivesEnd feed t u → PutsWaiting o n batch mid now result → StepsOn mid.state now.state ⊥ unsaid result
      → OnOk result ((last : List Change) × FromTo start (feed (reader_of u)) (IsInputOf form g last) × DoesItems o n last begin now)
  end_done t u batch mid now (Ok v) h end puts step = (
    h.last,
    subst (λ v. FromTo start (feed (reader_of u)) (IsInputOf v g h.last)) h.same (items_all g feed start t u h.last h.gave end),
    record { puts = (puts h.last begin h.amid).0; step = done_then mid now h.step step },
  )
  end_done t u batch mid now (Err f) h end puts step = tt

  pub end_stops : {unsaid : Type 0} (t u : ItemReader F L) (batch : Batch L) (mid now : Progress (Maker S L s l)) (result : Result Unit Fault) → Comes t batch mid → GivesEnd feed t u → PutsWaiting o n batch mid now result → IfErr result IsOfMaking → StepsOn mid.state now.state ⊥ unsaid result
      → IfErr result (Stopped (feed (reader_of u)) now)
  end_stops t u batch mid now (Ok v) h end puts own step = tt
  end_stops t u batch mid now (Err f) h end puts own step =
      stopped_amid t (feed (reader_of u)) h.last now f h.same (from_weaker start (feed (reader_of u)) (IsInputOf (form_of t) g h.last) (λ text rest. BeginsWithItems (form_of t) g h.last text) (items_all g feed start t u h.last h.gave end) (whole_begins t g h.last)) (puts h.last begin h.amid).1 own (failed_then mid now f h.step step)

  pub fault_unput : {unsaid : Type 0} (t u : ItemReader F L) (batch : Batch L) (mid now : Progress (Maker S L s l)) (fault : TextFault) (f : Fault) → Comes t batch mid → Fails g feed t u fault → PutsWaiting o n batch mid now (Err f) → IsOfMaking f → StepsOn {A = Unit} mid.state now.state ⊥ unsaid (Err f) → Stopped (feed (reader_of u)) now f
  fault_unput t u batch mid now fault f h fails puts own step =
      stopped_amid t (feed (reader_of u)) h.last now f h.same (items_still g feed start t u h.last fault h.gave fails) (puts h.last begin h.amid).1 own (failed_then mid now f h.step step)

  pub fault_stops : {unsaid : Type 0} (t u : ItemReader F L) (batch : Batch L) (mid now : Progress (Maker S L s l)) (fault : TextFault) → ((it : F) (whole a b : List ℕ) → (feed it).may whole a → (feed it).may whole b → a ≡ b) → Comes t batch mid → Fails g feed t u fault → PutsWaiting o n batch mid now (Ok tt) → StepsOn {A = Unit} mid.state now.state ⊥ unsaid (Ok tt)
      → Stopped (feed (reader_of u)) now (text_fault n fault)
  fault_stops t u batch mid now fault one h fails puts step =
      let done = done_then mid now h.step step in (
        h.last,
        text_stops g feed n start t u form h.last fault one h.same h.gave fails,
        record {
          stops = λ t' read from same i at. text_stopped t' _ from now.output now.state n fault ((puts h.last begin h.amid).0 t' read from same i at);
          step = step_text n fault done.follows done.fine;
        },
      )

  -- ---- a record whose value was left

  pub comes_long : {unsaid : Type 0} (t u : ItemReader F L) (key : List ℕ) (vlen : ℕ) (old new : Batch L) (mid now : Progress (Maker S L s l)) → Comes t old mid → PutsLong o g feed (long_item n t key vlen) u old new mid now → StepsOn {A = Unit} mid.state now.state ⊥ unsaid (Ok tt) → Comes u new now
  comes_long t u key vlen old new mid now h x step = comes_more t u (Putting (record_of key x.value)) old new mid now h x.read x.does step

  pub long_stops : {unsaid : Type 0} (t u : ItemReader F L) (key : List ℕ) (vlen : ℕ) (batch : Batch L) (mid now : Progress (Maker S L s l)) (f : Fault) → ((it : F) (whole a b : List ℕ) → (feed it).may whole a → (feed it).may whole b → a ≡ b) → Comes t batch mid → StopsLong o g feed (long_item n t key vlen) u batch mid now f → StepsOn {A = Unit} mid.state now.state ⊥ unsaid (Err f)
      → Stopped (feed (reader_of u)) now f
  long_stops t u key vlen batch mid now f one h why step = elim why [
    | inl x ↦ (
      h.last,
      subst (StopsBehind form g n h.last start (feed (reader_of u))) (sym x.text.is) (text_stops g feed n start t u form h.last x.text.text one h.same h.gave x.text.fails),
      record {
        stops = λ t' read from same i at. subst (StoppedAt t' (came read h.last) from now.output now.state) (sym x.text.is) (text_stopped t' (came read h.last) from now.output now.state n x.text.text (x.puts h.last begin h.amid t' read from same i at));
        step = failed_then mid now f h.step step;
      },
    )
    | inr (inl x) ↦ stopped_amid t (feed (reader_of u)) h.last now f h.same (items_amid g feed start t u h.last key vlen x.got h.gave x.amid) (x.stops h.last begin h.amid) x.own (failed_then mid now f h.step step)
    | inr (inr x) ↦
        let c : Change = Putting (record_of key x.value) in
        stopped_amid u (feed (reader_of u)) (h.last ++ c ∷ []) now f (items_form g feed t u c x.read ∙ h.same) (items_begin g feed start u (h.last ++ c ∷ []) (items_more g feed start t u h.last c h.gave x.read)) (x.stops h.last begin h.amid) x.own (failed_then mid now f h.step step)
  ]
