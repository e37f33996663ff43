-- What look-ups of keys do with their inputs.
use Rattle.std.specs.Prelude.{ℕ, List, ◌++◌, Option}
use Rattle.cdb_store.specs.Reads.{OnlyReads}
use Rattle.cdb_store.specs.declared.store.Store.{Ghosts}
use Rattle.cdb_form.specs.declared.width.Width.{Ghosts as Widths}
use Rattle.cdb_show.specs.Runs.InputTask.{Progress, Work}
use Rattle.cdb_show.specs.Runs.Inputs.{keys_form, keys_of}
use Rattle.cdb_show.specs.Runs.Lookups.{LookupTask, HasLooked, LookupsStopAt}
use Rattle.cdb_show.specs.declared.fault.Fault.{Fault}
use Rattle.cdb_show.specs.declared.runs.lookups.Looking.{Looking}

-- the store was only read, and these keys were looked up, whatever keys were before
pub record Looks {S L : Type 0} {s : Ghosts S} {l : Widths L} (t : LookupTask S) (keys : List (List ℕ))
    (old new : Progress (Looking S L s l)) : Type 0 where
  pub reads : OnlyReads t.store old.state.reader.store new.state.reader.store
  pub looked : (before : List (List ℕ)) (start : Option (List ℕ))
      → HasLooked t before old.state.reader.store start old.output old.state.missing
      → HasLooked t (before ++ keys) new.state.reader.store start new.output new.state.missing

-- they stopped with this fault in these keys, or after them
pub record StopsLooking {S L : Type 0} {s : Ghosts S} {l : Widths L} (t : LookupTask S) (keys : List (List ℕ))
    (old new : Progress (Looking S L s l)) (fault : Fault) : Type 0 where
  pub reads : OnlyReads t.store old.state.reader.store new.state.reader.store
  pub stopped : (before : List (List ℕ)) (start : Option (List ℕ))
      → HasLooked t before old.state.reader.store start old.output old.state.missing
      → LookupsStopAt t (before ++ keys) old.state.reader.store new.state.reader.store start new.output fault

-- the inputs give keys, which are looked up
abbrev pub lookup_work : {S L : Type 0} {s : Ghosts S} {l : Widths L} → LookupTask S → Work (Looking S L s l)
lookup_work t = record {
  form = keys_form t.options.style;
  greatest = t.greatest;
  does = λ number items old new. Looks t (keys_of items) old new;
  stops = λ number items old new fault. StopsLooking t (keys_of items) old new fault;
}
