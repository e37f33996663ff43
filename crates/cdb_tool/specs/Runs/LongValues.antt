-- A record whose value is read in pieces, and put after those that wait.
use Rattle.std.specs.Prelude.{List, Ok, [], ◌++◌, ◌∷◌, ◌≡◌, ◌⊎◌, ℕ}
use Rattle.cdb_store.specs.declared.store.Store.{Ghosts}
use Rattle.cdb_store.specs.declared.make_fault.MakeFault.{MakeFault}
use Rattle.cdb_form.specs.declared.width.Width.{Ghosts as Widths}
use Rattle.cdb_form.specs.declared.text.fault.TextFault.{TextFault}
use Rattle.cdb_form.specs.Format.{record_of}
use Rattle.cdb_form.specs.Text.Parse.{Change, Putting}
use Rattle.cdb_form.specs.Views.Feed.{Feed}
use Rattle.cdb_make.specs.declared.maker.Maker.{Maker}
use Rattle.cdb_make.specs.Views.Long.{FailsLong}
use Rattle.cdb_make.specs.Views.Maker.{HasNotFailed, StaysWhole}
use Rattle.cdb_show.specs.Runs.InputTask.{Progress}
use Rattle.cdb_show.specs.Views.Fault.{make_fault, text_fault}
use Rattle.cdb_show.specs.Views.ItemReader.{AmidValue, Fails, GivesItem}
use Rattle.cdb_show.specs.declared.fault.Fault.{Fault}
use Rattle.cdb_show.specs.declared.runs.item_reader.ItemReader.{ItemReader}
use Rattle.cdb_tool.specs.Runs.Batches as batches
use Rattle.cdb_tool.specs.Runs.Batches.{DoesMore, StopsAmid}
use Rattle.cdb_tool.specs.Runs.Make.{IsOfMaking, PutsItems}
use Rattle.cdb_tool.specs.declared.runs.batch.Batch.{Batch}
use Rattle.cdb_tool.specs.declared.runs.options.RunOptions.{RunOptions}

-- a record of an input of this number whose value was left by its reader, which stood before it
pub record LongItem (F L : Type 0) : Type 0 where
  pub input : ℕ
  pub first : ItemReader F L
  pub key : List ℕ
  pub vlen : ℕ

abbrev pub long_item : {F L : Type 0} → ℕ → ItemReader F L → List ℕ → ℕ → LongItem F L
long_item input first key vlen = record { input = input; first = first; key = key; vlen = vlen }

-- these bytes of its value were read; and it was read whole
abbrev pub IsAmid : {F L : Type 0} → ℕ → (F → Feed) → LongItem F L → ItemReader F L → List ℕ → Type 0
IsAmid greatest feed it now got = AmidValue greatest feed it.first now it.key it.vlen got

abbrev pub IsRead : {F L : Type 0} → ℕ → (F → Feed) → LongItem F L → ItemReader F L → List ℕ → Type 0
IsRead greatest feed it now value =
    GivesItem greatest feed it.first now (Putting (record_of it.key value))

-- the text has a fault in it
pub record HasTextFault {F L : Type 0} (greatest : ℕ) (feed : F → Feed) (it : LongItem F L)
    (now : ItemReader F L) (fault : Fault) : Type 0 where
  pub text : TextFault
  pub is : fault ≡ text_fault it.input text
  pub fails : Fails greatest feed it.first now text

-- it was begun in a maker, which then holds what it held: the text has a fault, or the maker stopped it
abbrev pub StopsAdding : {S L F : Type 0} {s : Ghosts S} {l : Widths L} → ℕ → (F → Feed) → LongItem F L
    → ItemReader F L → (old new : Maker S L s l) → Fault → Type 0
StopsAdding greatest feed it now old new fault =
    (HasTextFault greatest feed it now fault × StaysWhole old new × HasNotFailed old new)
    ⊎ ((f : MakeFault) × (fault ≡ make_fault f) × FailsLong old new f
    × ((got : List ℕ) × IsAmid greatest feed it now got))

-- the run stopped amid the record, after the items before it; or with it
pub record StopsBefore {S L F : Type 0} {s : Ghosts S} {l : Widths L} (o : RunOptions) (greatest : ℕ)
    (feed : F → Feed) (it : LongItem F L) (now : ItemReader F L) (batch : Batch L)
    (old new : Progress (Maker S L s l)) (fault : Fault) : Type 0 where
  pub got : List ℕ
  pub amid : IsAmid greatest feed it now got
  pub own : IsOfMaking fault
  pub stops : (items : List Change) (start : Progress (Maker S L s l))
      → batches.IsAmid o it.input items batch start old → StopsAmid o it.input items start new fault

pub record StopsWith {S L F : Type 0} {s : Ghosts S} {l : Widths L} (o : RunOptions) (greatest : ℕ)
    (feed : F → Feed) (it : LongItem F L) (now : ItemReader F L) (batch : Batch L)
    (old new : Progress (Maker S L s l)) (fault : Fault) : Type 0 where
  pub value : List ℕ
  pub read : IsRead greatest feed it now value
  pub own : IsOfMaking fault
  pub stops : (items : List Change) (start : Progress (Maker S L s l))
      → batches.IsAmid o it.input items batch start old
      → StopsAmid o it.input (items ++ Putting (record_of it.key value) ∷ []) start new fault

-- or its text has a fault, and the items before it were done
pub record StopsInText {S L F : Type 0} {s : Ghosts S} {l : Widths L} (o : RunOptions) (greatest : ℕ)
    (feed : F → Feed) (it : LongItem F L) (now : ItemReader F L) (batch : Batch L)
    (old new : Progress (Maker S L s l)) (fault : Fault) : Type 0 where
  pub text : HasTextFault greatest feed it now fault
  pub puts : (items : List Change) (start : Progress (Maker S L s l))
      → batches.IsAmid o it.input items batch start old → PutsItems o it.input items start new

-- it was put after the records that waited
pub record PutsLong {S L F : Type 0} {s : Ghosts S} {l : Widths L} (o : RunOptions) (greatest : ℕ)
    (feed : F → Feed) (it : LongItem F L) (now : ItemReader F L) (batch batch₁ : Batch L)
    (old new : Progress (Maker S L s l)) : Type 0 where
  pub value : List ℕ
  pub read : IsRead greatest feed it now value
  pub does : DoesMore o it.input (Putting (record_of it.key value) ∷ []) batch batch₁ old new (Ok tt)

abbrev pub StopsLong : {S L F : Type 0} {s : Ghosts S} {l : Widths L} → RunOptions → ℕ → (F → Feed)
    → LongItem F L → ItemReader F L → Batch L → (old new : Progress (Maker S L s l)) → Fault → Type 0
StopsLong o greatest feed it now batch old new fault =
    StopsInText o greatest feed it now batch old new fault
    ⊎ (StopsBefore o greatest feed it now batch old new fault
    ⊎ StopsWith o greatest feed it now batch old new fault)
