-- What a run made of inputs whose bytes agree with their readers, and that the readers are in their places.
use Rattle.std.proofs.Common.{◌≡◌, ◌∙◌, ℕ, List, length, Option, Result, is_some, ap, inl, inr, sym}
use Rattle.cdb.proofs.Words.{AreBytes, BuilderTells, Disk, Fault, Feed, Ghosts, HandsBack, IfErr, Inputs, InputsTaken, IsBufferedRun, Making, NameCalls, OfBase, OutputSays, ReadsMaking, ReplaceFault, RunOptions, Sources, WhereHonest, made_of, ⊤}
use Rattle.cdb_show.specs.Feed.{AgreesWith, AreUnread, IsUnread}
use Rattle.cdb_show.specs.Runs.Incoming.{EachOfBytes}
use Rattle.cdb_store.specs.declared.raw.RawFile.{Ghosts as Raw}
use Rattle.cdb_show.specs.Runs.Inputs.{input_form}
use Rattle.cdb_show.specs.Views.Noted.{AreInPlace, shared_feed}
use Rattle.cdb_show.specs.declared.inputs.SharedWindow.TheVariants.{Unread}
use Rattle.cdb_show.proofs.PlacedReaders.{all_passed, in_place}
use Rattle.cdb_system.specs.State.{AgreeInTurn, own_readers}
use Rattle.cdb_system.proofs.InputsKnown.{AreOf, own_names, reached_agree}
use Rattle.cdb_tool.specs.Runs.InputsRead.{parsing, RunsRead, feeds_of, run_state}
use Rattle.cdb_tool.specs.Runs.Make.{terms_of}
use Rattle.cdb_tool.specs.Runs.MakesSo.{ComesOf}
use Rattle.cdb_tool.proofs.AgreeingRuns.{agreeing_comes}
use Rattle.cdb.specs.Reasons.{HasReason, run_reasons}

-- ---- a run

module _ {B J I : Type 0} (w g : ℕ) (o : RunOptions) (own : J → Feed) (shared : I → Feed) (s : Ghosts B) (was base : Option B) (before after : Inputs J I) (images : List ℕ → Type 0) (old new : Option (List ℕ)) (result : Result Unit Fault) where
  pub run_placed : RunsRead (terms_of w g o) (feeds_of own shared) s (run_state was before old) (run_state base after new) images result → AreInPlace before.readers.items after.readers.items
  run_placed h = in_place own (shared_feed shared) (parsing (input_form o.make.style (is_some was)) g result) h.read.items h.read.stop before.readers.items after.readers.items (Unread before.shared) h.were.window h.were.are h.were.passed

-- inputs of these names had nothing taken, and these bytes are those of a disk and agree with what their readers gave
pub record InputsAgree {J I : Type 0} (files : List (Option (List ℕ))) (input : List ℕ) (inputs : InputsTaken J I) : Type 0 where
  pub disk : Disk
  pub names : List (List ℕ)
  pub unread : AreUnread inputs.feeds.own inputs.opened.readers.items
  pub none_read : IsUnread (inputs.feeds.shared inputs.opened.shared)
  pub long : length files ≡ length inputs.opened.readers.items
  pub of : AreOf disk names inputs.opened.readers.items files
  pub fit : EachOfBytes files
  pub agree : AgreeInTurn inputs.feeds.own disk (own_names names inputs.opened.readers.items) (own_readers inputs.handed.readers.items)
  pub shared_agrees : AgreesWith AreBytes (inputs.feeds.shared inputs.handed.shared) input

-- a run of them came to what the function says of these bytes
pub making_comes : {F J I : Type 0} (f : Ghosts F) (m : Making F J I) (back : Option F) (files : List (Option (List ℕ))) (input : List ℕ) (images : List ℕ → Type 0) (told said : Option (List ℕ)) (made : Result Unit Fault) → InputsAgree files input m.inputs → HandsBack f m.base back → ReadsMaking f m back images told said made
    → WhereHonest images (OfBase f back (λ b. ComesOf m.word m.options (made_of m.word m.greatest m.options.make b files input) images told said made))
making_comes f m back files input images told said made a hands run =
    let i = m.inputs in
    agreeing_comes f m.base back i.feeds m.word m.greatest m.options i.opened i.handed images told said made run hands a.unread a.none_read files input a.long
    (reached_agree i.feeds.own (shared_feed i.feeds.shared) (parsing (input_form m.options.make.style (is_some m.base)) m.greatest made) a.disk run.read.items run.read.stop a.names i.opened.readers.items i.handed.readers.items files (Unread i.opened.shared) run.were.window run.were.are a.of a.fit a.agree)
    a.shared_agrees

-- ---- what a builder reports

module _ {F J I R T : Type 0} (own : J → Feed) (shared : I → Feed) (contents : T → Option (List ℕ)) (failed : T → Type 0) (f : Ghosts F) (r : Raw R) (making : Inputs J I → Making F J I) (sources : Sources F J I) where
  -- what it built, that the readers are in their places, and of the output
  abbrev pub Tells : Sources F J I → (told said : T) → (images : List ℕ → Type 0) → Result Unit Fault → Type 0
  Tells back told said images made =
      IsBufferedRun f (making back.inputs) back.base images (contents told) (contents said) made
      × AreInPlace sources.inputs.readers.items back.inputs.readers.items
      × OutputSays (failed said) made
      × IfErr made (HasReason (run_reasons f own shared back ⊤ ⊥))

  -- it reports what the writer has
  pub of_contents : (t n : List ℕ) (old new : NameCalls) (back : Sources F J I) (told said : T) (answer : Result Unit (ReplaceFault Fault)) → (making back.inputs).base ≡ sources.base → BuilderTells r (λ b. b ≡ sources) Tells t n old new back told said answer
      → BuilderTells r (λ base. base ≡ (making back.inputs).base) (λ base before after images made. IsBufferedRun f (making back.inputs) base images before after made) t n old new back.base (contents told) (contents said) answer
  of_contents t n old new back told said answer based (inl none) = inl (record {
    gave_up = ap (λ (b : Sources F J I). b.base) none.gave_up ∙ sym based;
    same = ap contents none.same;
    fault = none.fault;
    is = none.is;
    stops = none.stops;
    calls = none.calls;
    moments = none.moments;
  })
  of_contents t n old new back told said answer based (inr some) = inr (record {
    left = some.left;
    built = some.built;
    tells_so = some.tells_so.0;
    answers = some.answers;
    sealed = some.sealed;
    same = some.same;
    unsynced = some.unsynced;
    renamed = some.renamed;
    cleared = some.cleared;
  })

  pub told_placed : (t n : List ℕ) (old new : NameCalls) (back : Sources F J I) (told said : T) (answer : Result Unit (ReplaceFault Fault)) → BuilderTells r (λ b. b ≡ sources) Tells t n old new back told said answer → AreInPlace sources.inputs.readers.items back.inputs.readers.items
  told_placed t n old new back told said answer (inl none) = all_passed sources.inputs.readers.items back.inputs.readers.items (ap (λ (b : Sources F J I). b.inputs.readers.items) none.gave_up)
  told_placed t n old new back told said answer (inr some) = some.tells_so.1
