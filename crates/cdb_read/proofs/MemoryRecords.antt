-- The record at a place of bytes in memory.
use Rattle.std.proofs.Common.{◌≡◌, ℕ, ◌+◌, ◌-◌, ◌*◌, ◌<◌, ◌≤◌, List, length, take, drop, refl, sym, ap, ◌∙◌, arith}
use Rattle.std.proofs.Math.Nat.{min-le_left, min-le_right}
use Rattle.std.specs.Prelude.{Option, Some, None, MatchOption, min}
use Rattle.cdb_form.specs.Format.{WordPair, pair_at, walk_from, damaged}
use Rattle.cdb_form.specs.Views.Pairs.{header_pair}
use Rattle.cdb_form.specs.declared.damage.Damage.TheVariants.{Record}
use Rattle.cdb_form.specs.declared.header.Header.{Header}
use Rattle.cdb_read.specs.Views.Spans.{HasSpans}
use Rattle.cdb_read.specs.Views.Walking.{behind, LiesAt}
use Rattle.cdb_read.specs.declared.walking.state.RecordArea.{RecordArea}
use Rattle.cdb_read.specs.declared.span.Pair.{Pair}
use Rattle.cdb_read.proofs.Probing.Headers.{prefix_pair}
use Rattle.cdb_read.proofs.Probing.Pairs.{HeaderTells, either, least_below, no_header, no_body, stands}
use Rattle.cdb_read.specs.Memory.{StandsRecord}

abbrev rest_at : (place end : ℕ) → place < end → RecordArea
rest_at place end before = record { place = place; end = end; ordered = omega arith }

tells_here : (w : ℕ) {p n : ℕ} (file : List ℕ) (h : Header) → n ≡ 2 * w → header_pair h ≡ pair_at w (take ((p + n) - p) (drop p file)) → HeaderTells w p (length file) (header_pair h) (λ b. b ≡ file)
tells_here w {p = p} {n = n} file h e read =
    let m : (p + n) - p ≡ n = omega arith in
    let told : pair_at w (drop p file) ≡ header_pair h = sym (read ∙ ap (λ k. pair_at w (take k (drop p file))) m ∙ prefix_pair w n (drop p file) e) in
    record {
      told = λ b is. ap (λ k. pair_at w (drop p k)) is ∙ told;
      long = λ b is. ap length is;
    }

pub no_header_here : (w : ℕ) {place end : ℕ} (file : List ℕ) → 0 < w → place < end → either (length file) end (place + 2 * w) → walk_from w place end (drop place file) ≡ damaged (Record place)
no_header_here w {place = place} {end = end} file some before few =
    let s = no_header {rest = rest_at place end before} {w = w} {n = length file} {images = λ b. b ≡ file} some before few (λ b is. ap length is) in
    s.each file refl

no_body_here : (w : ℕ) {place end n : ℕ} (file : List ℕ) (h : Header) → n ≡ 2 * w → place < end → place + 2 * w ≤ length file → place + 2 * w ≤ end → either (length file) end (place + (2 * w + h.klen + h.vlen)) → header_pair h ≡ pair_at w (take ((place + n) - place) (drop place file)) → walk_from w place end (drop place file) ≡ damaged (Record place)
no_body_here w {place = place} {end = end} file h e before room area few read =
    let s = no_body {rest = rest_at place end before} {w = w} {n = length file} {k = h.klen} {v = h.vlen} {images = λ b. b ≡ file} before room area few (tells_here w file h e read) in
    s.each file refl

stands_here : (w : ℕ) {place end n : ℕ} (file : List ℕ) (h : Header) (pair : Pair) → 0 < w → n ≡ 2 * w → place < end → LiesAt w place pair → pair.key.len ≡ h.klen → pair.value.len ≡ h.vlen → behind pair ≤ length file → behind pair ≤ end → header_pair h ≡ pair_at w (take ((place + n) - place) (drop place file)) → StandsRecord w file place end pair
stands_here w {place = place} {end = end} file h pair some e before lies klen vlen inside early read =
    let t = tells_here w file h e read in
    let lengths : header_pair h ≡ record { first = pair.key.len; second = pair.value.len } = ap (λ k. let p : WordPair = record { first = k; second = h.vlen } in p) (sym klen) ∙ ap (λ v. let p : WordPair = record { first = pair.key.len; second = v } in p) (sym vlen) in
    let s = stands {rest = rest_at place end before} {w = w} {n = length file} {images = λ b. b ≡ file} pair some lies inside early (record { told = λ b is. t.told b is ∙ lengths; long = t.long }) in
    record { first = s.each file refl; lies = lies; before = early; inside = inside }

pub spans_here : (w : ℕ) {place end n limit : ℕ} (file : List ℕ) (h : Header) (found : Option Pair) → 0 < w → n ≡ 2 * w → place < end → limit ≡ min (length file) end → place + 2 * w ≤ limit
    → MatchOption found (limit < place + (2 * w + h.klen + h.vlen)) (HasSpans w place h limit) → header_pair h ≡ pair_at w (take ((place + n) - place) (drop place file))
    → MatchOption found (walk_from w place end (drop place file) ≡ damaged (Record place)) (StandsRecord w file place end)
spans_here w {place = place} {end = end} {limit = limit} file h None some e before least room past read =
    let left = min-le_left (length file) end in
    let right = min-le_right (length file) end in
    no_body_here w file h e before (omega arith) (omega arith) (least_below (length file) end limit (place + (2 * w + h.klen + h.vlen)) least past) read
spans_here w {end = end} file h (Some pair) some e before least room has read =
    let left = min-le_left (length file) end in
    let right = min-le_right (length file) end in
    let early = has.before in
    stands_here w file h pair some e before has.lies has.klen has.vlen (omega arith) (omega arith) read
