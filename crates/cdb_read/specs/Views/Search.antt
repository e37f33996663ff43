-- What clauses read of a search: where it is, and what it finds.
use Rattle.std.specs.Prelude.{ℕ, ◌≡◌, ◌+◌, ◌-◌, ◌*◌, ◌%◌, ◌<◌, ◌≤◌, Bool, true, false, List, length, map, filter, take, drop, take_while}
use Rattle.cdb_form.specs.Format.{pair_size, head_size, key_hash, WordPair, pair_at, is_used, slots_from}
use Rattle.cdb_read.specs.declared.lookup.probe.Searching.{Searching}
use Rattle.cdb_read.specs.declared.lookup.probe.Searching.TheVariants.{At, AtEnd, NoTable, NoRecord}
use Rattle.cdb_read.specs.declared.lookup.probe.Probe.{Probe}
use Rattle.std.specs.Bool.{Decides}
use Rattle.cdb_store.specs.Images.{part}
use Rattle.cdb_form.specs.declared.damage.Damage.TheVariants as damage
use Rattle.cdb_form.specs.Views.Pairs.{pointer_pair}
use Rattle.cdb_read.specs.Lookup.{Found, nothing_found, found_damaged, with_span, found_at, has_hash, has_key, is_whole, slots_at, value_span, bytes_of, lookup_of}
use Rattle.cdb_read.specs.declared.lookup.key_at.Look.{Look}
use Rattle.cdb_read.specs.declared.lookup.key_at.Look.TheVariants as look
use Rattle.cdb_read.specs.declared.lookup.search.Met.{Met}
use Rattle.cdb_read.specs.declared.lookup.search.Met.TheVariants as met
use Rattle.cdb_read.specs.declared.lookup.search.Probed.{Probed}
use Rattle.cdb_read.specs.declared.lookup.search.Probed.TheVariants as step
use Rattle.cdb_store.specs.declared.store.Store.{Ghosts}
use Rattle.cdb_read.specs.declared.fault.ReadFault.{ReadFault}
use Rattle.cdb_read.specs.declared.fault.ReadFault.TheVariants.{Table, Record, Device, NoMemory}
use Rattle.cdb_read.specs.declared.span.Span.{Span}

-- ---- Where a search is.

-- its table lies after the head and inside a file of this size, and it has no more probes than
-- slots
pub record ProbeInside (w size : ℕ) (probe : Probe) : Type 0 where
  pub behind : head_size w ≤ probe.table.place
  pub inside : probe.table.place + pair_size w * probe.table.slots ≤ size
  pub slot : probe.slot < probe.table.slots
  pub left : probe.left ≤ probe.table.slots

abbrev pub IsSearchInside : ℕ → ℕ → Searching → Type 0
IsSearchInside w size searching = (probe : Probe) → searching ≡ At probe → ProbeInside w size probe

-- the probe after a probe
abbrev pub next_probe : Probe → Probe
next_probe probe =
    record {
      table = probe.table;
      slot = (probe.slot + 1) % probe.table.slots;
      left = probe.left - 1;
    }

-- ---- What a search is still to give, and what each part of it says of the bytes that it reads.

-- the slots that are left of a search
abbrev pub slots_ahead : ℕ → List ℕ → Probe → List WordPair
slots_ahead w b probe =
    take probe.left (slots_from probe.slot (slots_at w b (pointer_pair probe.table)))

-- what a search finds from where it is
abbrev pub found_ahead : ℕ → List ℕ → List ℕ → Searching → Found
found_ahead w b key (At probe) =
    let used = take_while is_used (slots_ahead w b probe) in
    found_at w b key (map (λ s. s.second) (filter (has_hash (key_hash key)) used))
found_ahead w b key AtEnd = nothing_found
found_ahead w b key (NoTable n) = found_damaged (damage.Table n)
found_ahead w b key (NoRecord place) = found_damaged (damage.Record place)

-- the slot of a probe
abbrev pub probe_slot : ℕ → List ℕ → Probe → WordPair
probe_slot w b probe = pair_at w (drop (probe.table.place + pair_size w * probe.slot) b)

-- in each image the bytes from a place on are the key exactly when the answer is true
pub record TellsSame (same : Bool) (place : ℕ) (key : List ℕ) (images : List ℕ → Type 0)
    : Type 0 where
  pub each : (b : List ℕ) → images b → Decides same (part place (length key) b ≡ key)

-- what a look at a place says of some bytes
abbrev pub LookTells : ℕ → List ℕ → ℕ → Look → List ℕ → Type 0
LookTells w key place look.Broken b = is_whole w b place ≡ false
LookTells w key place look.Other b = (is_whole w b place ≡ true) × (has_key w b key place ≡ false)
LookTells w key place (look.Value span) b =
    (is_whole w b place ≡ true) × (has_key w b key place ≡ true) × (span ≡ value_span w b place)

pub record LooksAt (w : ℕ) (key : List ℕ) (place : ℕ) (look : Look) (images : List ℕ → Type 0)
    : Type 0 where
  pub each : (b : List ℕ) → images b → LookTells w key place look b

-- a value that was found lies inside a file of so many bytes
abbrev pub LookWithin : ℕ → Look → Type 0
LookWithin size (look.Value span) = span.place + span.len ≤ size
LookWithin size _ = Unit {0}

-- what a probe says of what is left of the look-up
abbrev pub StepTells : ℕ → List ℕ → Probe → Probed → List ℕ → Type 0
StepTells w key probe step.Empty b = found_ahead w b key (At probe) ≡ nothing_found
StepTells w key probe step.Passed b =
    found_ahead w b key (At probe) ≡ found_ahead w b key (At (next_probe probe))
StepTells w key probe (step.Value span) b =
    found_ahead w b key (At probe) ≡ with_span span (found_ahead w b key (At (next_probe probe)))
StepTells w key probe (step.Broken place) b =
    found_ahead w b key (At probe) ≡ found_damaged (damage.Record place)

pub record ProbedFrom (w : ℕ) (key : List ℕ) (probe : Probe) (step : Probed) (images : List ℕ → Type 0)
    : Type 0 where
  pub each : (b : List ℕ) → images b → StepTells w key probe step b

abbrev pub ProbedWithin : ℕ → Probed → Type 0
ProbedWithin size (step.Value span) = span.place + span.len ≤ size
ProbedWithin size other = Unit {0}

-- what some probes say
abbrev pub MetTells : ℕ → List ℕ → Probe → Met → List ℕ → Type 0
MetTells w key probe met.End b = found_ahead w b key (At probe) ≡ nothing_found
MetTells w key probe (met.Value span then) b =
    found_ahead w b key (At probe) ≡ with_span span (found_ahead w b key (At then))
MetTells w key probe (met.Broken place) b =
    found_ahead w b key (At probe) ≡ found_damaged (damage.Record place)

pub record Meets (w : ℕ) (key : List ℕ) (probe : Probe) (met : Met) (images : List ℕ → Type 0)
    : Type 0 where
  pub each : (b : List ℕ) → images b → MetTells w key probe met b

-- the value lies inside a file of so many bytes, and fewer probes are left
abbrev pub MetWithin : ℕ → ℕ → Probe → Met → Type 0
MetWithin w size probe (met.Value span then) =
    (span.place + span.len ≤ size) × ProbeInside w size then × (then.left < probe.left)
MetWithin w size probe other = Unit {0}

-- ---- What the first value of a key is, and why none was given.

-- what a look-up gives first
abbrev pub IsFirstSpan : Found → Span → Type 0
IsFirstSpan found span = (rest : Found) × (found ≡ with_span span rest)

-- and its bytes
abbrev pub IsFirst : List ℕ → Found → List ℕ → Type 0
IsFirst b found value = (span : Span) × IsFirstSpan found span × (value ≡ bytes_of b span)

-- why it was not given: the store failed, there was no memory, or the look-up is damaged
abbrev pub GettingFails : {S : Type 0} → ℕ → Ghosts S → (key : List ℕ) → (old new : S) → ReadFault
    → Type 0
GettingFails w s key old new Device = s.failures old < s.failures new
GettingFails w s key old new NoMemory = Unit {0}
GettingFails w s key old new (Table n) =
    (b : List ℕ) → s.image new b → lookup_of w b key ≡ found_damaged (damage.Table n)
GettingFails w s key old new (Record place) =
    (b : List ℕ) → s.image new b → lookup_of w b key ≡ found_damaged (damage.Record place)
GettingFails w s key old new fault = ⊥
