-- Records of an input that wait to be put, as a file has them, and a run amid that input.
use Rattle.std.specs.Prelude.{All, IfErr, List, OnOk, Result, flat_map, length, map, take, ◌++◌, ◌≡◌, ℕ}
use Rattle.cdb_store.specs.declared.store.Store.{Ghosts}
use Rattle.cdb_form.specs.declared.width.Width.{Ghosts as Widths}
use Rattle.cdb_form.specs.Format.{IsRecord, KeyValue, record_bytes}
use Rattle.cdb_form.specs.Laws.Text.{LengthsFit}
use Rattle.cdb_form.specs.Text.Parse.{Change, Putting}
use Rattle.cdb_form.specs.Views.Feed.{Feed}
use Rattle.cdb_make.specs.declared.maker.Maker.{Maker}
use Rattle.cdb_show.specs.Runs.InputTask.{Progress}
use Rattle.cdb_show.specs.Views.ItemReader.{GivesPuts}
use Rattle.cdb_show.specs.declared.fault.Fault.{Fault}
use Rattle.cdb_show.specs.declared.runs.item_reader.ItemReader.{ItemReader}
use Rattle.cdb_tool.specs.Runs.Make.{PutsItems, PutsStop}
use Rattle.cdb_tool.specs.declared.runs.batch.Batch.{Batch}
use Rattle.cdb_tool.specs.declared.runs.options.RunOptions.{RunOptions}

-- these records wait in a batch
pub record HoldsBatch {L : Type 0} (w top : ℕ) (batch : Batch L) (rs : List KeyValue) : Type 0 where
  pub bytes : take batch.held batch.bytes.items ≡ flat_map (record_bytes w) rs
  pub count : batch.count ≡ length rs
  pub are : All IsRecord rs
  pub fit : All (LengthsFit top) rs

-- a reader of an input gave more records, which wait behind the others
pub record TakesMore {F L : Type 0} (w top greatest : ℕ) (feed : F → Feed) (items items₁ : ItemReader F L)
    (old new : Batch L) : Type 0 where
  pub more : List KeyValue
  pub gives : GivesPuts greatest feed items items₁ more
  pub holds : (rs : List KeyValue) → HoldsBatch w top old rs → HoldsBatch w top new (rs ++ more)

-- the first items of an input were done, and the others are records that wait
pub record IsAmid {S L : Type 0} {s : Ghosts S} {l : Widths L} (o : RunOptions) (input : ℕ)
    (items : List Change) (batch : Batch L) (old new : Progress (Maker S L s l)) : Type 0 where
  pub done : List Change
  pub waiting : List KeyValue
  pub are : items ≡ done ++ map Putting waiting
  pub number : batch.done ≡ length done
  pub holds : HoldsBatch l.WORD l.TOP batch waiting
  pub puts : PutsItems o input done old new

-- the run stopped after the first of these items
pub record StopsAmid {S L : Type 0} {s : Ghosts S} {l : Widths L} (o : RunOptions) (input : ℕ)
    (items : List Change) (old new : Progress (Maker S L s l)) (fault : Fault) : Type 0 where
  pub kept : List Change
  pub later : List Change
  pub are : items ≡ kept ++ later
  pub stops : PutsStop o input kept old new fault

-- what a call leaves that puts the records that wait: they are done, or the run stopped amid them
abbrev pub PutsWaiting : {S L : Type 0} {s : Ghosts S} {l : Widths L} → RunOptions → (input : ℕ) → Batch L
    → (old new : Progress (Maker S L s l)) → Result Unit Fault → Type 0
PutsWaiting {S} {L} {s} {l} o input batch old new result =
    (items : List Change) (start : Progress (Maker S L s l)) → IsAmid o input items batch start old
    → OnOk result (PutsItems o input items start new) × IfErr result (StopsAmid o input items start new)

-- and one that does more items, or lets them wait
abbrev pub DoesMore : {S L : Type 0} {s : Ghosts S} {l : Widths L} → RunOptions → (input : ℕ) → List Change
    → (batch batch₁ : Batch L) → (old new : Progress (Maker S L s l)) → Result Unit Fault → Type 0
DoesMore {S} {L} {s} {l} o input more batch batch₁ old new result =
    (items : List Change) (start : Progress (Maker S L s l)) → IsAmid o input items batch start old
    → OnOk result (IsAmid o input (items ++ more) batch₁ start new)
    × IfErr result (StopsAmid o input (items ++ more) start new)
