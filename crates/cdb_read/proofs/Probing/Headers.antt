-- What a header that was read says of the record at its place.
use Rattle.cdb_read.proofs.Words.{Bool, Covers, HasSpans, Header, ImagesHold, List, LooksAt, Pair, Shows, Span, TellsSame, Window, WordPair, and_from, ap, arith, both_ways, bytes_eq, bytes_eq-Decides, cases_Bool, cases_lt, drop, drop-drop, false, head_size, header_pair, inl, inr, is_whole, le-leb, leb-true, length, length-part, nat_le, pair_at, pair_at-take, part, prefix_record, prefix_size, refl, sym, take, true, value_span, ℕ, ◌*◌, ◌+◌, ◌-◌, ◌<◌, ◌∙◌, ◌≡◌, ◌≢◌, ◌≤◌}
use Rattle.std.specs.Bool.{Decides}
use Rattle.cdb_read.proofs.Bytes.Windows.{holds_shown}
use Rattle.cdb_read.proofs.Probing.Beginnings.{and_true}
use Rattle.cdb_read.specs.declared.lookup.key_at.Look.TheVariants as look

-- in each image, of n bytes, the record at a place has lengths k and v
pub record HasLengths (w p k v n : ℕ) (images : List ℕ → Type 0) : Type 0 where
  pub size : (b : List ℕ) → images b → prefix_size w (drop p b) ≡ 2 * w + k + v
  pub key : (b : List ℕ) → images b → (prefix_record w (drop p b)).key ≡ part (p + 2 * w) k b
  pub value : (b : List ℕ) → images b → value_span w b p ≡ record { place = p + 2 * w + k; len = v }
  pub long : (b : List ℕ) → images b → length b ≡ n

pub prefix_pair : (w n : ℕ) (xs : List ℕ) → n ≡ 2 * w → pair_at w (take n xs) ≡ pair_at w xs
prefix_pair w n xs e =
    let m : n ≡ w + w = omega arith in
    ap (λ k. pair_at w (take k xs)) m ∙ pair_at-take w xs

-- the pair that was read at a place
pub pair_read : {bytes : List ℕ} {images : List ℕ → Type 0} (w at : ℕ) (p : WordPair) → length bytes ≡ 2 * w → p ≡ pair_at w bytes → ImagesHold at bytes images → (b : List ℕ) → images b → pair_at w (drop at b) ≡ p
pair_read {bytes = bytes} w at p l e held b is = sym (prefix_pair w (length bytes) (drop at b) l) ∙ ap (pair_at w) (held.each b is) ∙ sym e

pub has_lengths : {w p n : ℕ} {bytes : List ℕ} {images : List ℕ → Type 0} (h : Header) → length bytes ≡ 2 * w → header_pair h ≡ pair_at w bytes → ImagesHold p bytes images → ((b : List ℕ) → images b → length b ≡ n) → HasLengths w p h.klen h.vlen n images
has_lengths {w = w} {p = p} {bytes = bytes} h l e r long =
    let same : (b : List ℕ) → _ → pair_at w (drop p b) ≡ header_pair h = pair_read w p (header_pair h) l e r in
    record {
      size = λ b is. ap (λ (q : WordPair). 2 * w + q.first + q.second) (same b is);
      key = λ b is. ap (λ (q : WordPair). take q.first (drop (2 * w) (drop p b))) (same b is) ∙ ap (take h.klen) (drop-drop (2 * w) p b);
      value = λ b is. ap (λ (q : WordPair). let s : Span = record { place = p + 2 * w + q.first; len = q.second } in s) (same b is);
      long = long;
    }

-- the header that was read of a window
pub lengths_shown : {w p size n : ℕ} {window : Window} {bytes : List ℕ} {images : List ℕ → Type 0} (h : Header) → Shows window images → Covers window p size → bytes ≡ part (p - window.place) size window.bytes → length bytes ≡ size → size ≡ 2 * w
    → header_pair h ≡ pair_at w bytes → ((b : List ℕ) → images b → length b ≡ n) → HasLengths w p h.klen h.vlen n images
lengths_shown h shows covers is long pair read size = has_lengths h (long ∙ pair) read (holds_shown shows covers is long) size

pub fewer_lengths : {w p k v n : ℕ} {old new : List ℕ → Type 0} → ((b : List ℕ) → new b → old b) → HasLengths w p k v n old → HasLengths w p k v n new
fewer_lengths few h = record {
  size = λ b is. h.size b (few b is);
  key = λ b is. h.key b (few b is);
  value = λ b is. h.value b (few b is);
  long = λ b is. h.long b (few b is);
}

size_least : (w : ℕ) (b : List ℕ) → 2 * w ≤ prefix_size w b
size_least w b =
    let least : (m n : ℕ) → 2 * w ≤ 2 * w + m + n = λ m n. omega arith in
    least (pair_at w b).first (pair_at w b).second

pub unequal : (xs ys : List ℕ) → xs ≢ ys → bytes_eq xs ys ≡ false
unequal xs ys h =
    let d = bytes_eq-Decides xs ys in
    let f : (v : Bool) → (v ≡ true → xs ≡ ys) → v ≡ false = λ v. elim v as (λ v. (v ≡ true → xs ≡ ys) → v ≡ false) [ true ↦ λ k. absurd (h (k refl)) | false ↦ λ k. refl ] in
    f (bytes_eq xs ys) d.0

not_whole : (w : ℕ) (b : List ℕ) (p : ℕ) → (head_size w ≤ p → p + prefix_size w (drop p b) ≤ length b → ⊥) → is_whole w b p ≡ false
not_whole w b p none = elim (cases_Bool (is_whole w b p)) [
  | inl t ↦
      (let both = and_true (nat_le (head_size w) p) (nat_le (p + prefix_size w (drop p b)) (length b)) t in
      absurd (none (leb-true (head_size w) p both.0) (leb-true (p + prefix_size w (drop p b)) (length b) both.1)))
  | inr f ↦ f
]

whole : (w : ℕ) (b : List ℕ) (p : ℕ) → head_size w ≤ p → p + prefix_size w (drop p b) ≤ length b → is_whole w b p ≡ true
whole w b p low high = and_from _ _ (le-leb (head_size w) p low) (le-leb (p + prefix_size w (drop p b)) (length b) high)

-- what an answer denies
pub passes : (answer : Bool) (m n : ℕ) → Decides answer (m ≤ n) → answer ≡ false → n < m
passes answer m n decides denied = elim (cases_lt n m) [
  | inl lt ↦ lt
  | inr ge ↦ absurd (both_ways answer denied (decides.1 ge))
]

-- a place within the head, or with no room for a header
pub no_header : {w p n : ℕ} {images : List ℕ → Type 0} (key : List ℕ) → ((b : List ℕ) → images b → length b ≡ n) → (head_size w ≤ p → p + 2 * w ≤ n → ⊥) → LooksAt w key p look.Broken images
no_header {w = w} {p = p} key long none = record {
  each = λ b is. not_whole w b p (λ low high. none low (let l = size_least w (drop p b) in let m = long b is in omega arith));
}

-- with no room for the record
pub no_room : {w p k v n : ℕ} {images : List ℕ → Type 0} (key : List ℕ) → HasLengths w p k v n images → n < p + (2 * w + k + v) → LooksAt w key p look.Broken images
no_room {w = w} {p = p} key h lt = record {
  each = λ b is. not_whole w b p (λ low high. let m = h.long b is in let s = h.size b is in omega arith);
}

whole_here : {w p k v n : ℕ} {images : List ℕ → Type 0} → HasLengths w p k v n images → head_size w ≤ p → p + (2 * w + k + v) ≤ n → (b : List ℕ) → images b → is_whole w b p ≡ true
whole_here {w = w} {p = p} h low fits b is = whole w b p low (let m = h.long b is in let s = h.size b is in omega arith)

key_behind : {w place limit : ℕ} {h : Header} {pair : Pair} → HasSpans w place h limit pair → pair.key.place ≡ place + 2 * w
key_behind has =
    let lies = has.lies in
    let here = lies.here in
    let key = lies.key in
    omega arith

-- the record ends before the limit
spans_fit : {w place limit : ℕ} {h : Header} {pair : Pair} → HasSpans w place h limit pair → place + (2 * w + h.klen + h.vlen) ≤ limit
spans_fit has =
    let at = key_behind has in
    let value = has.lies.value in
    let klen = has.klen in
    let vlen = has.vlen in
    let before = has.before in
    omega arith

-- another length, another key
pub other_length : {w p n : ℕ} {head : Header} {pair : Pair} {images : List ℕ → Type 0} (key : List ℕ) → HasLengths w p head.klen head.vlen n images → head_size w ≤ p → HasSpans w p head n pair → pair.key.len ≢ length key → LooksAt w key p look.Other images
other_length {w = w} {p = p} {head = head} key h low has ne = record {
  each = λ b is.
      let l = h.long b is in
      let fits = spans_fit has in (
        whole_here h low fits b is,
        unequal ((prefix_record w (drop p b)).key) key
            (λ same.
            let y : length (part (p + 2 * w) head.klen b) ≡ head.klen = length-part (p + 2 * w) head.klen b (omega arith) in
            ne (has.klen ∙ sym y ∙ ap length (sym (h.key b is) ∙ same))),
      );
}

-- the key of the record there
key_here : {w p n : ℕ} {head : Header} {pair : Pair} {images : List ℕ → Type 0} (key : List ℕ) → HasLengths w p head.klen head.vlen n images → HasSpans w p head n pair → pair.key.len ≡ length key → (b : List ℕ) → images b → (prefix_record w (drop p b)).key ≡ part pair.key.place (length key) b
key_here {w = w} {p = p} key h has same b is = h.key b is ∙ ap (λ v. part (p + 2 * w) v b) (sym has.klen ∙ same) ∙ ap (λ v. part v (length key) b) (sym (key_behind has))

pub other_key : {w p n : ℕ} {head : Header} {pair : Pair} {images : List ℕ → Type 0} (key : List ℕ) → HasLengths w p head.klen head.vlen n images → head_size w ≤ p → HasSpans w p head n pair → pair.key.len ≡ length key → TellsSame false pair.key.place key images → LooksAt w key p look.Other images
other_key {w = w} {p = p} key h low has same tells = record {
  each = λ b is. (
    whole_here h low (spans_fit has) b is,
    unequal ((prefix_record w (drop p b)).key) key
        (λ eq.
        let both = (tells.each b is).1 (sym (key_here key h has same b is) ∙ eq) in
        cc),
  );
}

pub same_key : {w p n : ℕ} {head : Header} {pair : Pair} {images : List ℕ → Type 0} (key : List ℕ) → HasLengths w p head.klen head.vlen n images → head_size w ≤ p → HasSpans w p head n pair → pair.key.len ≡ length key → TellsSame true pair.key.place key images → LooksAt w key p (look.Value pair.value) images
same_key {w = w} {p = p} {head = head} {pair = pair} key h low has same tells =
    let at = key_behind has in
    let behind = has.lies.value in
    let klen = has.klen in
    let here : pair.value.place ≡ p + 2 * w + head.klen = omega arith in
    record {
      each = λ b is. (
        whole_here h low (spans_fit has) b is,
        (bytes_eq-Decides ((prefix_record w (drop p b)).key) key).1 (key_here key h has same b is ∙ (tells.each b is).0 refl),
        ap (λ q. let s : Span = record { place = q; len = pair.value.len } in s) here ∙ ap (λ q. let s : Span = record { place = p + 2 * w + head.klen; len = q } in s) has.vlen ∙ sym (h.value b is),
      );
    }
