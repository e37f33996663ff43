-- What a finder is still to give.
use Rattle.std.specs.Prelude.{ℕ, ◌≡◌, ◌+◌, ◌<◌, ◌≤◌, List}
use Rattle.cdb_store.specs.declared.store.Store.{Ghosts}
use Rattle.cdb_form.specs.declared.width.Width.{Ghosts as Widths}
use Rattle.cdb_form.specs.declared.damage.Damage.TheVariants as damage
use Rattle.cdb_read.specs.Lookup.{Found, nothing_found, found_damaged, with_span}
use Rattle.cdb_read.specs.Views.Search.{found_ahead}
use Rattle.cdb_read.specs.declared.fault.ReadFault.{ReadFault}
use Rattle.cdb_read.specs.declared.fault.ReadFault.TheVariants.{Table, Record, Device}
use Rattle.cdb_read.specs.declared.lookup.finder.Finder.{Finder}
use Rattle.cdb_read.specs.declared.span.Span.{Span}
use Rattle.cdb_read.specs.declared.lookup.probe.Searching.{Searching}
use Rattle.cdb_read.specs.declared.lookup.probe.Searching.TheVariants.{At, AtEnd, NoTable, NoRecord}

-- what is left of the look-up, in a list of bytes
abbrev pub left_in : {S L : Type 0} {s : Ghosts S} {l : Widths L} → ℕ → List ℕ → Finder S L s l
    → Found
left_in w b t = found_ahead w b t.key.now t.searching

-- the number of slots it may still look at
abbrev pub probes_left : Searching → ℕ
probes_left (At probe) = probe.left
probes_left other = 0

abbrev pub slots_left : {S L : Type 0} {s : Ghosts S} {l : Widths L} → Finder S L s l → ℕ
slots_left t = probes_left t.searching

-- it has answered `None`, that a table isn't inside the file, or that a record isn't whole
abbrev pub HasEnded : {S L : Type 0} {s : Ghosts S} {l : Widths L} → Finder S L s l → Type 0
HasEnded t = t.searching ≡ AtEnd

abbrev pub HasNoTable : {S L : Type 0} {s : Ghosts S} {l : Widths L} → Finder S L s l → ℕ → Type 0
HasNoTable t n = t.searching ≡ NoTable n

abbrev pub HasNoRecord : {S L : Type 0} {s : Ghosts S} {l : Widths L} → Finder S L s l → ℕ → Type 0
HasNoRecord t place = t.searching ≡ NoRecord place

-- a call gave a span: the first of what was left
pub record GivesSpan {S L : Type 0} {s : Ghosts S} {l : Widths L} (w : ℕ)
    (old new : Finder S L s l) (span : Span) : Type 0 where
  pub first : (b : List ℕ) → s.image new.reader.now.store b
      → left_in w b old ≡ with_span span (left_in w b new)
  pub inside : span.place + span.len ≤ s.size new.reader.now.store
  pub fewer : slots_left new < slots_left old

-- or none, since nothing was left
pub record GivesNone {S L : Type 0} {s : Ghosts S} {l : Widths L} (w : ℕ)
    (old new : Finder S L s l) : Type 0 where
  pub none : (b : List ℕ) → s.image new.reader.now.store b → left_in w b old ≡ nothing_found
  pub ended : HasEnded new

-- or a fault: the store failed, and the finder is where it was; or the damage of what was left
abbrev pub FindingFails : {S L : Type 0} {s : Ghosts S} {l : Widths L} → ℕ → Finder S L s l
    → Finder S L s l → ReadFault → Type 0
FindingFails {s = s} w old new Device = (new.searching ≡ old.searching)
    × (s.failures old.reader.now.store < s.failures new.reader.now.store)
FindingFails {s = s} w old new (Table n) = HasNoTable new n
    × ((b : List ℕ) → s.image new.reader.now.store b
    → left_in w b old ≡ found_damaged (damage.Table n))
FindingFails {s = s} w old new (Record place) = HasNoRecord new place
    × ((b : List ℕ) → s.image new.reader.now.store b
    → left_in w b old ≡ found_damaged (damage.Record place))
FindingFails w old new fault = ⊥
