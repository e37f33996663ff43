-- What bytes in memory say of a record and of a table, if they are the only image.
use Rattle.std.proofs.Common.{◌≡◌, ℕ, ◌+◌, ◌-◌, ◌*◌, ◌<◌, ◌≤◌, Bool, true, false, List, length, take, drop, refl, sym, ap, ◌∙◌, subst, ◌%◌, arith}
use Rattle.std.specs.Prelude.{bytes_eq, not}
use Rattle.std.proofs.lemmas.Slice.Eq.{bytes_eq-Decides}
use Rattle.std.proofs.lemmas.List.{take-append-drop, length-take-le}
use Rattle.std.proofs.Math.Nat.{mod-lt}
use Rattle.cdb_form.proofs.RecordReading.RecordAreas.{head_at-append}
use Rattle.cdb_store.specs.Images.{part, ImagesHold}
use Rattle.cdb_store.proofs.Parts.{length-part}
use Rattle.cdb_form.specs.Format.{key_hash, table_number, WordPair, head_size, pair_at, nth_pair, head_at}
use Rattle.cdb_form.specs.Views.Pairs.{header_pair}
use Rattle.cdb_form.specs.declared.header.Header.{Header}
use Rattle.cdb_read.specs.Lookup.{found_by, lookup_of}
use Rattle.cdb_read.specs.Views.Search.{TellsSame, probe_slot, ProbedFrom, Meets, ProbeInside, next_probe}
use Rattle.cdb_read.specs.declared.lookup.search.Probed.TheVariants as step
use Rattle.cdb_read.specs.declared.lookup.search.Met.TheVariants as met
use Rattle.cdb_read.specs.declared.span.Span.{Span}
use Rattle.cdb_read.specs.declared.lookup.probe.Probe.{Probe}
use Rattle.cdb_read.proofs.Probing.Headers.{HasLengths, has_lengths, prefix_pair}
use Rattle.cdb_read.proofs.Probing.Searches.{IsProbeSlot, SameAhead}
use Rattle.cdb_read.proofs.WholeFiles.LookupLaws.{lookup_of-is}

pub slot_here : {w : ℕ} {probe : Probe} {slot : WordPair} (file : List ℕ) → slot ≡ probe_slot w file probe → IsProbeSlot w probe slot (λ b. b ≡ file)
slot_here {w = w} {probe = probe} file e = record { each = λ b is. e ∙ ap (λ k. probe_slot w k probe) (sym is) }

pub header_here : {w p n : ℕ} (file : List ℕ) (h : Header) → n ≡ 2 * w → p + n ≤ length file → header_pair h ≡ pair_at w (take ((p + n) - p) (drop p file)) → HasLengths w p h.klen h.vlen (length file) (λ b. b ≡ file)
header_here {w = w} {p = p} {n = n} file h e inside read =
    let m : (p + n) - p ≡ n = omega arith in
    let l : length (take ((p + n) - p) (drop p file)) ≡ n = ap (λ k. length (take k (drop p file))) m ∙ length-part p n file inside in
    let held : ImagesHold p (take ((p + n) - p) (drop p file)) (λ b. b ≡ file) =
    record { each = λ b is. ap (λ k. take k (drop p b)) (l ∙ sym m) ∙ ap (λ k. take ((p + n) - p) (drop p k)) is } in
    has_lengths h (l ∙ e) read held (λ b is. ap length is)

not_so : (v : Bool) → true ≡ not v → v ≡ false
not_so v = elim v as (λ v. true ≡ not v → v ≡ false) [ true ↦ λ k. cc | false ↦ λ k. refl ]

is_so : (v : Bool) → false ≡ not v → v ≡ true
is_so v = elim v as (λ v. false ≡ not v → v ≡ true) [ true ↦ λ k. refl | false ↦ λ k. cc ]

tells_here : {place : ℕ} (same : Bool) (key file : List ℕ) → bytes_eq (take ((place + length key) - place) (drop place file)) key ≡ same → TellsSame same place key (λ b. b ≡ file)
tells_here {place = place} same key file e =
    let n : (place + length key) - place ≡ length key = omega arith in
    let d = bytes_eq-Decides (take ((place + length key) - place) (drop place file)) key in
    record {
      each = λ b is. (
        λ t. ap (λ k. part place (length key) k) is ∙ ap (λ k. take k (drop place file)) (sym n) ∙ d.0 (e ∙ t),
        λ p. sym e ∙ d.1 (ap (λ k. take k (drop place file)) n ∙ ap (λ k. part place (length key) k) (sym is) ∙ p),
      );
    }

pub tells_not : {place : ℕ} (key file : List ℕ) → true ≡ not (bytes_eq (take ((place + length key) - place) (drop place file)) key) → TellsSame false place key (λ b. b ≡ file)
tells_not {place = place} key file e = tells_here false key file (not_so (bytes_eq (take ((place + length key) - place) (drop place file)) key) e)

pub tells_so : {place : ℕ} (key file : List ℕ) → false ≡ not (bytes_eq (take ((place + length key) - place) (drop place file)) key) → TellsSame true place key (λ b. b ≡ file)
tells_so {place = place} key file e = tells_here true key file (is_so (bytes_eq (take ((place + length key) - place) (drop place file)) key) e)

pub looked_up : (w : ℕ) {n size hash : ℕ} (file key : List ℕ) (p : WordPair) → size ≡ 2 * w → n ≡ table_number hash → hash ≡ key_hash key → p ≡ pair_at w (take ((size * n + size) - size * n) (drop (size * n) file)) → found_by w file key p ≡ lookup_of w file key
looked_up w {n = n} {size = size} {hash = hash} file key p long number is read =
    let m : (size * n + size) - size * n ≡ size = omega arith in
    let at : p ≡ nth_pair w file (table_number (key_hash key)) =
    read
    ∙ ap (λ k. pair_at w (take k (drop (size * n) file))) m
    ∙ prefix_pair w size (drop (size * n) file) long
    ∙ ap (λ k. pair_at w (drop (k * n) file)) long
    ∙ ap (nth_pair w file) (number ∙ ap table_number is) in
    ap (found_by w file key) at ∙ sym (lookup_of-is w file key)

-- what a probe reports, after probes that passed
pub meets_empty : {w : ℕ} {key : List ℕ} {from probe : Probe} {images : List ℕ → Type 0} → SameAhead w key from probe images → ProbedFrom w key probe step.Empty images → Meets w key from met.End images
meets_empty same steps = record { each = λ b is. same.each b is ∙ steps.each b is }

pub meets_broken : {w : ℕ} {key : List ℕ} {from probe : Probe} {images : List ℕ → Type 0} (place : ℕ) → SameAhead w key from probe images → ProbedFrom w key probe (step.Broken place) images → Meets w key from (met.Broken place) images
meets_broken place same steps = record { each = λ b is. same.each b is ∙ steps.each b is }

pub meets_value : {w : ℕ} {key : List ℕ} {from probe then : Probe} {images : List ℕ → Type 0} (span : Span) → then ≡ next_probe probe → SameAhead w key from probe images → ProbedFrom w key probe (step.Value span) images → Meets w key from (met.Value span then) images
meets_value {w = w} {key = key} {from = from} {probe = probe} {then = then} {images = images} span is same steps =
    subst (λ t. Meets w key from (met.Value span t) images) (sym is) (record { each = λ b here. same.each b here ∙ steps.each b here })

pub same_next : {w : ℕ} {key : List ℕ} {from probe then : Probe} {images : List ℕ → Type 0} → then ≡ next_probe probe → SameAhead w key from probe images → ProbedFrom w key probe step.Passed images → SameAhead w key from then images
same_next {w = w} {key = key} {from = from} {probe = probe} {then = then} {images = images} is same steps =
    subst (λ t. SameAhead w key from t images) (sym is) (record { each = λ b here. same.each b here ∙ steps.each b here })

round : (slot slots : ℕ) → slot < slots → (slot + 1) % slots < slots
round slot slots low = mod-lt (slot + 1) (omega arith)

pub next_inside : {w size : ℕ} {probe then : Probe} → then ≡ next_probe probe → ProbeInside w size probe → ProbeInside w size then
next_inside {w = w} {size = size} {probe = probe} is inside =
    let left = inside.left in
    subst (λ t. ProbeInside w size t) (sym is) (record { behind = inside.behind; inside = inside.inside; slot = round probe.slot probe.table.slots inside.slot; left = omega arith })

pub next_fewer : (probe then : Probe) {n : ℕ} → then ≡ next_probe probe → probe.left ≤ n → then.left ≤ n
next_fewer probe then {n = n} is few = subst (λ (t : Probe). t.left ≤ n) (sym is) (omega arith)

-- the head of a file is that of its first bytes
pub head_here : (w : ℕ) {n : ℕ} {ps : List WordPair} (file : List ℕ) → n ≡ head_size w → head_size w ≤ length file → ps ≡ head_at w (take n file) → head_at w file ≡ ps
head_here w {n = n} file e long read =
    let l : length (take n file) ≡ head_size w = length-take-le n file (omega arith) ∙ e in
    ap (head_at w) (sym (take-append-drop n file)) ∙ head_at-append w (take n file) (drop n file) l ∙ sym read
