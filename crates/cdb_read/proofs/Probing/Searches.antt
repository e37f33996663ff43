-- What a probe of a search reports.
use Rattle.cdb_read.proofs.Words.{Found, List, Probe, Span, WordPair, ap, arith, eq-eqb, false, found_at, has_hash, is_used, key_hash, map, ne_eqb, not_from_false, not_from_true, nothing_found, pointer_pair, refl, slots_at, suc, sym, true, with_span, ℕ, ◌%◌, ◌+◌, ◌-◌, ◌<◌, ◌==◌, ◌∙◌, ◌∷◌, ◌≡◌, ◌≢◌, ◌≤◌}
use Rattle.cdb_read.specs.Views.Search.{found_ahead, probe_slot, LooksAt, ProbedFrom, Meets, ProbeInside, next_probe}
use Rattle.cdb_read.specs.declared.lookup.key_at.Look.TheVariants as look
use Rattle.cdb_read.specs.declared.lookup.search.Probed.TheVariants as step
use Rattle.cdb_read.specs.declared.lookup.search.Met.TheVariants as met
use Rattle.cdb_read.specs.declared.lookup.probe.Searching.TheVariants.{At}
use Rattle.cdb_read.proofs.WholeFiles.LookupLaws.{found_at-has, found_at-other, found_at-none}
use Rattle.cdb_read.proofs.Lists.Meeting.{met as met_of}
use Rattle.cdb_read.proofs.Probing.Probes.{met_ahead, next_slot, met_ahead-none, met_ahead-empty, met_ahead-other, met_ahead-hash, found_at-broken}

-- what is found from a slot on, of a table
abbrev found_from : ℕ → List ℕ → List ℕ → WordPair → ℕ → ℕ → Found
found_from w b key p slot left = found_at w b key (map (λ (s : WordPair). s.second) (met_ahead (key_hash key) slot left (slots_at w b p)))

ahead_is : (w : ℕ) (b key : List ℕ) (probe : Probe) → found_ahead w b key (At probe) ≡ found_from w b key (pointer_pair probe.table) probe.slot probe.left
unfolding met_of
ahead_is w b key probe = refl

-- a probe has a slot, and those after it
more_left : (left : ℕ) → 0 < left → left ≡ suc (left - 1)
more_left left some = omega arith

ahead_more : (w : ℕ) (b key : List ℕ) (probe : Probe) → 0 < probe.left → found_ahead w b key (At probe) ≡ found_from w b key (pointer_pair probe.table) probe.slot (suc (probe.left - 1))
ahead_more w b key probe some = ahead_is w b key probe ∙ ap (found_from w b key (pointer_pair probe.table) probe.slot) (more_left probe.left some)

places : List WordPair → List ℕ
places ss = map (λ (s : WordPair). s.second) ss

used_slot : (s : WordPair) → s.second ≢ 0 → is_used s ≡ true
used_slot s some = not_from_false (s.second == 0) (ne_eqb s.second 0 some)

unused_slot : (s : WordPair) → s.second ≡ 0 → is_used s ≡ false
unused_slot s none = not_from_true (s.second == 0) (eq-eqb s.second 0 none)

-- no slot is left
pub none_left : (w : ℕ) (b key : List ℕ) (probe : Probe) → probe.left ≡ 0 → found_ahead w b key (At probe) ≡ nothing_found
none_left w b key probe none =
    let p = pointer_pair probe.table in
    ahead_is w b key probe
    ∙ ap (found_from w b key p probe.slot) none
    ∙ ap (λ (ss : List WordPair). found_at w b key (map (λ (s : WordPair). s.second) ss)) (met_ahead-none (key_hash key) w b p probe.slot)
    ∙ found_at-none w b key

-- in each image a slot is that of a probe
pub record IsProbeSlot (w : ℕ) (probe : Probe) (slot : WordPair) (images : List ℕ → Type 0) : Type 0 where
  pub each : (b : List ℕ) → images b → slot ≡ probe_slot w b probe

fewer_probes : (left slots : ℕ) → 0 < left → left ≤ slots → left - 1 < slots
fewer_probes left slots some within = omega arith

-- an empty slot
pub step_empty : {w size : ℕ} {images : List ℕ → Type 0} (key : List ℕ) (probe : Probe) (slot : WordPair) → ProbeInside w size probe → 0 < probe.left → IsProbeSlot w probe slot images → slot.second ≡ 0 → ProbedFrom w key probe step.Empty images
step_empty {w = w} key probe slot inside some is_slot empty = record {
  each = λ b is.
      let p = pointer_pair probe.table in
      ahead_more w b key probe some
      ∙ ap (λ (ss : List WordPair). found_at w b key (map (λ (s : WordPair). s.second) ss))
      (met_ahead-empty (key_hash key) w b p probe.slot (probe.left - 1) inside.slot (fewer_probes probe.left probe.table.slots some inside.left)
      (ap is_used (sym (is_slot.each b is)) ∙ unused_slot slot empty))
      ∙ found_at-none w b key;
}

-- a slot with another hash
pub step_other : {w size : ℕ} {images : List ℕ → Type 0} (key : List ℕ) (probe : Probe) (slot : WordPair) → ProbeInside w size probe → 0 < probe.left → IsProbeSlot w probe slot images → slot.second ≢ 0 → slot.first ≢ key_hash key → ProbedFrom w key probe step.Passed images
step_other {w = w} key probe slot inside some is_slot used other = record {
  each = λ b is.
      let p = pointer_pair probe.table in
      ahead_more w b key probe some
      ∙ ap (λ (ss : List WordPair). found_at w b key (map (λ (s : WordPair). s.second) ss))
      (met_ahead-other (key_hash key) w b p probe.slot (probe.left - 1) inside.slot (fewer_probes probe.left probe.table.slots some inside.left)
      (ap is_used (sym (is_slot.each b is)) ∙ used_slot slot used)
      (ap (has_hash (key_hash key)) (sym (is_slot.each b is)) ∙ ne_eqb slot.first (key_hash key) other))
      ∙ sym (ahead_is w b key (next_probe probe));
}

-- a slot with the hash: its record, and then what follows it
hash_ahead : (w : ℕ) (b key : List ℕ) (probe : Probe) (slot : WordPair) → probe.slot < probe.table.slots → 0 < probe.left → probe.left ≤ probe.table.slots → slot ≡ probe_slot w b probe → slot.second ≢ 0 → slot.first ≡ key_hash key
    → found_ahead w b key (At probe) ≡ found_at w b key (slot.second ∷ map (λ (s : WordPair). s.second) (met_ahead (key_hash key) ((probe.slot + 1) % probe.table.slots) (probe.left - 1) (slots_at w b (pointer_pair probe.table))))
hash_ahead w b key probe slot low some within is used same =
    let p = pointer_pair probe.table in
    let h = key_hash key in
    let rest = met_ahead h (next_slot probe.slot p.second) (probe.left - 1) (slots_at w b p) in
    ahead_more w b key probe some
    ∙ ap (λ (ss : List WordPair). found_at w b key (map (λ (s : WordPair). s.second) ss))
    (met_ahead-hash h w b p probe.slot (probe.left - 1) low (fewer_probes probe.left probe.table.slots some within)
    (ap is_used (sym is) ∙ used_slot slot used)
    (ap (has_hash h) (sym is) ∙ eq-eqb slot.first h same))
    ∙ ap (λ (s : WordPair). found_at w b key (s.second ∷ map (λ (t : WordPair). t.second) rest)) (sym is)

pub step_broken : {w size : ℕ} {images : List ℕ → Type 0} (key : List ℕ) (probe : Probe) (slot : WordPair) → ProbeInside w size probe → 0 < probe.left → IsProbeSlot w probe slot images → slot.second ≢ 0 → slot.first ≡ key_hash key → LooksAt w key slot.second look.Broken images → ProbedFrom w key probe (step.Broken slot.second) images
step_broken {w = w} key probe slot inside some is_slot used same looks = record {
  each = λ b is. hash_ahead w b key probe slot inside.slot some inside.left (is_slot.each b is) used same ∙ found_at-broken w b key slot.second _ (looks.each b is);
}

pub step_passed : {w size : ℕ} {images : List ℕ → Type 0} (key : List ℕ) (probe : Probe) (slot : WordPair) → ProbeInside w size probe → 0 < probe.left → IsProbeSlot w probe slot images → slot.second ≢ 0 → slot.first ≡ key_hash key → LooksAt w key slot.second look.Other images → ProbedFrom w key probe step.Passed images
step_passed {w = w} key probe slot inside some is_slot used same looks = record {
  each = λ b is. hash_ahead w b key probe slot inside.slot some inside.left (is_slot.each b is) used same ∙ found_at-other w b key slot.second _ (looks.each b is).0 (looks.each b is).1 ∙ sym (ahead_is w b key (next_probe probe));
}

pub step_value : {w size : ℕ} {images : List ℕ → Type 0} (key : List ℕ) (probe : Probe) (slot : WordPair) (span : Span) → ProbeInside w size probe → 0 < probe.left → IsProbeSlot w probe slot images → slot.second ≢ 0 → slot.first ≡ key_hash key → LooksAt w key slot.second (look.Value span) images → ProbedFrom w key probe (step.Value span) images
unfolding found_at met_of
step_value {w = w} key probe slot span inside some is_slot used same looks = record {
  each = λ b is.
      let tells = looks.each b is in
      hash_ahead w b key probe slot inside.slot some inside.left (is_slot.each b is) used same ∙ found_at-has w b key slot.second _ tells.0 tells.1
      ∙ ap (λ (s : Span). with_span s (found_ahead w b key (At (next_probe probe)))) (sym tells.2);
}

pub fewer_slots : {w : ℕ} {probe : Probe} {slot : WordPair} {old new : List ℕ → Type 0} → ((b : List ℕ) → new b → old b) → IsProbeSlot w probe slot old → IsProbeSlot w probe slot new
fewer_slots few is_slot = record { each = λ b is. is_slot.each b (few b is) }

-- in each image, two probes are to give the same
pub record SameAhead (w : ℕ) (key : List ℕ) (from probe : Probe) (images : List ℕ → Type 0) : Type 0 where
  pub each : (b : List ℕ) → images b → found_ahead w b key (At from) ≡ found_ahead w b key (At probe)

pub meets_none : {w : ℕ} {key : List ℕ} {from probe : Probe} {images : List ℕ → Type 0} → probe.left ≡ 0 → SameAhead w key from probe images → Meets w key from met.End images
meets_none {w = w} {key = key} {probe = probe} none same = record { each = λ b is. same.each b is ∙ none_left w b key probe none }
