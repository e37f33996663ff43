-- The record at a place, and the walk after it.
use Rattle.cdb_read.proofs.Words.{Begins, HasSpans, Header, ImagesHold, KeyValue, List, Pair, RecordArea, WordPair, ap, arith, cases_lt, drop, drop-drop, header_pair, inl, inr, length, length-drop, length-part, pair_at, part, prefix_size, record_size, refl, sym, take, take-append-drop, walk_from, with_first, ℕ, ◌*◌, ◌++◌, ◌+◌, ◌-◌, ◌<◌, ◌∙◌, ◌≡◌, ◌≤◌, ◌⊎◌}
use Rattle.std.proofs.Math.Nat.{le-min, min-le_left, min-le_right}
use Rattle.cdb_form.proofs.Files.WalkSteps.{walk_from-more, walk_from-no_header, walk_from-no_body}
use Rattle.cdb_read.proofs.Probing.Headers.{prefix_pair, pair_read}
use Rattle.cdb_read.specs.Views.Walking.{record_in, behind, LiesAt, StandsAt, StandsWithin}
use Rattle.std.specs.Prelude.{Option, Some, None, MatchOption, min}

-- in each image, of n bytes, the header at a place gives these lengths
pub record HeaderTells (w p n : ℕ) (lengths : WordPair) (images : List ℕ → Type 0) : Type 0 where
  pub told : (b : List ℕ) → images b → pair_at w (drop p b) ≡ lengths
  pub long : (b : List ℕ) → images b → length b ≡ n

pub header_tells : {w p n : ℕ} {bytes : List ℕ} {images : List ℕ → Type 0} (h : Header) → length bytes ≡ 2 * w → header_pair h ≡ pair_at w bytes → ImagesHold p bytes images → ((b : List ℕ) → images b → length b ≡ n) → HeaderTells w p n (header_pair h) images
header_tells {w = w} {p = p} {bytes = bytes} h l e held long = record {
  told = pair_read w p (header_pair h) l e held;
  long = long;
}

-- the least of two is too small
abbrev pub either : ℕ → ℕ → ℕ → Type 0
either n e k = (n < k) ⊎ (e < k)

pub least_below : (n e limit k : ℕ) → limit ≡ min n e → limit < k → either n e k
least_below n e limit k least below = elim (cases_lt n k) [
  | inl lt ↦ inl lt
  | inr ge ↦ (elim (cases_lt e k) [
    | inl lt ↦ inr lt
    | inr ge_end ↦ absurd (let l = le-min ge ge_end in omega arith)
  ])
]

-- no room for a header
pub no_header : {rest : RecordArea} {w n : ℕ} {images : List ℕ → Type 0} → 0 < w → rest.place < rest.end → either n rest.end (rest.place + 2 * w) → ((b : List ℕ) → images b → length b ≡ n) → StandsAt w rest None images
no_header {rest = rest} {w = w} some before few long = record {
  each = λ b is.
      let l : length (drop rest.place b) ≡ length b - rest.place = length-drop rest.place b in
      let size = long b is in
      walk_from-no_header w rest.place rest.end (drop rest.place b) before
      (elim few [ inl a ↦ inr (omega arith) | inr a ↦ inl (omega arith) ]);
}

-- no room for what the header says
pub no_body : {rest : RecordArea} {w n k v : ℕ} {images : List ℕ → Type 0} → rest.place < rest.end → rest.place + 2 * w ≤ n → rest.place + 2 * w ≤ rest.end → either n rest.end (rest.place + (2 * w + k + v))
    → HeaderTells w rest.place n (record { first = k; second = v }) images → StandsAt w rest None images
no_body {rest = rest} {w = w} {k = k} {v = v} before room area few header = record {
  each = λ b is.
      let at : List ℕ = drop rest.place b in
      let size = header.long b is in
      let l : length at ≡ length b - rest.place = length-drop rest.place b in
      let front : length (take (2 * w) at) ≡ 2 * w = length-part rest.place (2 * w) b (omega arith) in
      let told : pair_at w (take (2 * w) at) ≡ record { first = k; second = v } = prefix_pair w (2 * w) at refl ∙ header.told b is in
      let needs : prefix_size w (take (2 * w) at) ≡ 2 * w + k + v = ap (λ (p : WordPair). 2 * w + p.first + p.second) told in
      walk_from-no_body w rest.place rest.end at (take (2 * w) at) (drop (2 * w) at) before (sym (take-append-drop (2 * w) at)) front (omega arith)
      (elim few [ inl a ↦ inr (omega arith) | inr a ↦ inl (omega arith) ]);
}

-- some bytes, and those after them
split_at : (n q : ℕ) (b : List ℕ) → drop q b ≡ part q n b ++ drop (q + n) b
split_at n q b = sym (take-append-drop n (drop q b)) ∙ ap (λ t. part q n b ++ t) (drop-drop n q b)

pair_is : (a b c d : ℕ) → a ≡ c → b ≡ d → (let p : WordPair = record { first = a; second = b } in p) ≡ record { first = c; second = d }
pair_is a b c d e f = ap (λ x. let p : WordPair = record { first = x; second = b } in p) e ∙ ap (λ y. let p : WordPair = record { first = c; second = y } in p) f

-- the record of a pair is at the start
begins_here : (w p : ℕ) (pair : Pair) (b : List ℕ) → LiesAt w p pair → behind pair ≤ length b → pair_at w (drop p b) ≡ record { first = pair.key.len; second = pair.value.len } → Begins w (drop p b) (record_in b pair) (drop (behind pair) b)
begins_here w p pair b lies inside told =
    let here = lies.here in
    let key = lies.key in
    let value = lies.value in
    let at : p + 2 * w ≡ pair.key.place = omega arith in
    let klen : length (part pair.key.place pair.key.len b) ≡ pair.key.len = length-part pair.key.place pair.key.len b (omega arith) in
    let vlen : length (part pair.value.place pair.value.len b) ≡ pair.value.len = length-part pair.value.place pair.value.len b (omega arith) in
    record {
      header = take (2 * w) (drop p b);
      long = length-part p (2 * w) b (omega arith);
      lengths = prefix_pair w (2 * w) (drop p b) refl ∙ told ∙ pair_is pair.key.len pair.value.len _ _ (sym klen) (sym vlen);
      split = split_at (2 * w) p b
          ∙ ap (λ q. take (2 * w) (drop p b) ++ drop q b) at
          ∙ ap (λ t. take (2 * w) (drop p b) ++ t) (split_at pair.key.len pair.key.place b
          ∙ ap (λ q. part pair.key.place pair.key.len b ++ drop q b) (sym value)
          ∙ ap (λ t. part pair.key.place pair.key.len b ++ t) (split_at pair.value.len pair.value.place b));
    }

pub stands : {rest : RecordArea} {w n : ℕ} {images : List ℕ → Type 0} (pair : Pair) → 0 < w → LiesAt w rest.place pair → behind pair ≤ n → behind pair ≤ rest.end
    → HeaderTells w rest.place n (record { first = pair.key.len; second = pair.value.len }) images → StandsAt w rest (Some pair) images
stands {rest = rest} {w = w} pair some lies inside before header = record {
  each = λ b is.
      let size = header.long b is in
      let r : KeyValue = record_in b pair in
      let begins = begins_here w rest.place pair b lies (omega arith) (header.told b is) in
      let here = lies.here in
      let key = lies.key in
      let value = lies.value in
      let klen : length r.key ≡ pair.key.len = length-part pair.key.place pair.key.len b (omega arith) in
      let vlen : length r.value ≡ pair.value.len = length-part pair.value.place pair.value.len b (omega arith) in
      let next : rest.place + record_size w r ≡ behind pair = omega arith in
      walk_from-more w rest.place rest.end (drop rest.place b) r (drop (behind pair) b) some begins (omega arith)
      ∙ ap (λ q. with_first r (walk_from w q rest.end (drop (behind pair) b))) next;
}

-- the spans by the header, which lies before the record end and inside a file of n bytes
pub spans_stand : {rest : RecordArea} {w n limit : ℕ} {images : List ℕ → Type 0} (h : Header) (found : Option Pair) → 0 < w → rest.place < rest.end → limit ≡ min n rest.end → rest.place + 2 * w ≤ limit
    → MatchOption found (limit < rest.place + (2 * w + h.klen + h.vlen)) (HasSpans w rest.place h limit) → HeaderTells w rest.place n (header_pair h) images → StandsAt w rest found images
spans_stand {rest = rest} {w = w} {n = n} {limit = limit} h None some before least room past header =
    let left = min-le_left n rest.end in
    let right = min-le_right n rest.end in
    no_body {k = h.klen} {v = h.vlen} before (omega arith) (omega arith) (least_below n rest.end limit (rest.place + (2 * w + h.klen + h.vlen)) least past) header
spans_stand {rest = rest} {w = w} {n = n} h (Some pair) some before least room has header =
    let left = min-le_left n rest.end in
    let right = min-le_right n rest.end in
    let early = has.before in
    let lengths : header_pair h ≡ record { first = pair.key.len; second = pair.value.len } = pair_is h.klen h.vlen _ _ (sym has.klen) (sym has.vlen) in
    stands pair some has.lies (omega arith) (omega arith) (record { told = λ b is. header.told b is ∙ lengths; long = header.long })

pub spans_within : (rest : RecordArea) (w : ℕ) (h : Header) {n limit size : ℕ} (found : Option Pair) → limit ≡ min n rest.end → n ≡ size → MatchOption found (limit < rest.place + (2 * w + h.klen + h.vlen)) (HasSpans w rest.place h limit) → StandsWithin w rest size found
spans_within rest w h None least same past = tt
spans_within rest w h {n = n} (Some pair) least same has =
    let left = min-le_left n rest.end in
    let right = min-le_right n rest.end in
    let early = has.before in
    record { lies = has.lies; before = omega arith; inside = omega arith }
