-- What a header that was read says of the record at its place.
use Rattle.std.proofs.Common.{◌≡◌, ◌≢◌, ℕ, ◌+◌, ◌*◌, ◌<◌, ◌≤◌, Bool, true, false, List, length, take, drop, refl, sym, ap, ◌∙◌, arith, rules, length-drop, ◌-◌, Ok, Err, Some, None}
use Rattle.cdb_make.proofs.Words.{AfterRead, AreSized, bytes_eq, bytes_eq-Decides, drop-drop, drop-take, header_pair, length-part, pair_at, part, take-take, take_all}
use Rattle.cdb_form.specs.declared.header.Header.{Header}
use Rattle.cdb_form.proofs.Bytes.WordLemmas.{pair_at-take}
use Rattle.cdb_make.specs.declared.key_at.LookFault.TheVariants.{Foreign}
use Rattle.cdb_make.specs.Chains.{key_at, size_at, NoNewImage, HasLengthsInImages, HoldAt, TellsSameInImages, LooksAtImages}

prefix_pair : (w n : ℕ) (xs : List ℕ) → n ≡ 2 * w → pair_at w (take n xs) ≡ pair_at w xs
prefix_pair w n xs e =
    let m : n ≡ w + w = omega arith in
    ap (λ k. pair_at w (take k xs)) m ∙ pair_at-take w xs

-- the header is that of the bytes read, which may be more
pub has_lengths : {w p : ℕ} {bytes : List ℕ} {old new : List ℕ → Type 0} (h : Header) → 2 * w ≤ length bytes → header_pair h ≡ pair_at w (take (2 * w) bytes) → AfterRead p bytes old new → HasLengthsInImages w p h.klen h.vlen new
unfolding size_at key_at
has_lengths {w = w} {p = p} {bytes = bytes} h l e r =
    let front : (b : List ℕ) → _ → take (2 * w) (drop p b) ≡ take (2 * w) bytes = λ b is. sym (take-take (2 * w) (length bytes) (drop p b) l) ∙ ap (take (2 * w)) (r.read b is) in
    let same : (b : List ℕ) → _ → pair_at w (drop p b) ≡ header_pair h = λ b is. sym (prefix_pair w (2 * w) (drop p b) refl) ∙ ap (pair_at w) (front b is) ∙ sym e in
    record {
      size = λ b is. ap (λ q. 2 * w + q.first + q.second) (same b is);
      key = λ b is. ap (λ q. take q.first (drop (2 * w) (drop p b))) (same b is) ∙ ap (take h.klen) (drop-drop (2 * w) p b);
    }

-- the bytes read after the header
pub held_behind : (w : ℕ) {p : ℕ} {bytes : List ℕ} {old new : List ℕ → Type 0} → 2 * w ≤ length bytes → AfterRead p bytes old new → HoldAt (p + 2 * w) (drop (2 * w) bytes) new
held_behind w {p = p} {bytes = bytes} l r = record {
  each = λ b is.
      let n : ℕ = length bytes - 2 * w in
      let sum : 2 * w + n ≡ length bytes = omega arith in
      let long : length (drop (2 * w) bytes) ≡ n = search (rules, length-drop) in
      ap (λ k. part (p + 2 * w) k b) long
      ∙ ap (take n) (sym (drop-drop (2 * w) p b))
      ∙ sym (drop-take (2 * w) n (drop p b))
      ∙ ap (λ k. drop (2 * w) (take k (drop p b))) sum
      ∙ ap (drop (2 * w)) (r.read b is);
}

pub held_from : (w n p : ℕ) (bytes : List ℕ) {at : ℕ} {images : List ℕ → Type 0} → n ≡ 2 * w → at ≡ p + 2 * w → HoldAt (p + 2 * w) (drop (2 * w) bytes) images → HoldAt at (take (length bytes - n) (drop n bytes)) images
held_from w n p bytes {at = at} same place h =
    let all : take (length bytes - n) (drop n bytes) ≡ drop n bytes = take_all (length bytes - n) (drop n bytes) (omega (arith, length-drop n bytes)) in
    record { each = λ b is. ap (λ v. part at (length v) b) all ∙ (ap (λ k. part at (length (drop k bytes)) b) same ∙ ap (λ k. part k (length (drop (2 * w) bytes)) b) place ∙ h.each b is ∙ ap (λ k. drop k bytes) (sym same)) ∙ sym all }

pub fewer_lengths : {w p k v : ℕ} {old new : List ℕ → Type 0} → NoNewImage old new → HasLengthsInImages w p k v old → HasLengthsInImages w p k v new
fewer_lengths few h = record { size = λ b is. h.size b (few.no_other b is); key = λ b is. h.key b (few.no_other b is) }

size_least : (w p : ℕ) (b : List ℕ) → 2 * w ≤ size_at w p b
unfolding size_at
size_least w p b =
    let least : (m n : ℕ) → 2 * w ≤ 2 * w + m + n = λ m n. omega arith in
    least (pair_at w (drop p b)).first (pair_at w (drop p b)).second

unequal : (xs ys : List ℕ) → xs ≢ ys → bytes_eq xs ys ≡ false
unequal xs ys h =
    let d = bytes_eq-Decides xs ys in
    let f : (v : Bool) → (v ≡ true → xs ≡ ys) → v ≡ false = λ v. elim v as (λ v. (v ≡ true → xs ≡ ys) → v ≡ false) [ true ↦ λ k. absurd (h (k refl)) | false ↦ λ k. refl ] in
    f (bytes_eq xs ys) d.0

-- there is no room for a header before `end`
pub no_header : (w p end : ℕ) (key : List ℕ) (images : List ℕ → Type 0) → end < p + 2 * w → LooksAtImages w p end key (Err Foreign) images
no_header w p end key images lt = record { each = λ b is. let l : 2 * w ≤ size_at w p b = size_least w p b in omega arith }

-- nor for the record
pub no_room : {w p k v : ℕ} {images : List ℕ → Type 0} (end : ℕ) (key : List ℕ) → HasLengthsInImages w p k v images → end < p + (2 * w + k + v) → LooksAtImages w p end key (Err Foreign) images
no_room {w = w} {p = p} end key h lt = record { each = λ b is. omega (arith, h.size b is) }

-- another length, another key
pub other_length : {w p k v n : ℕ} {images : List ℕ → Type 0} (end : ℕ) (key : List ℕ) → AreSized n images → end ≤ n → HasLengthsInImages w p k v images → p + (2 * w + k + v) ≤ end → k ≢ length key → LooksAtImages w p end key (Ok None) images
other_length {w = w} {p = p} {k = k} end key sized inside h fits ne = record {
  each = λ b is.
      let l : length b ≡ _ = sized.each b is in (
        omega (arith, h.size b is),
        unequal (key_at w p b) key
            (λ same.
            let y : length (part (p + 2 * w) k b) ≡ k = length-part (p + 2 * w) k b (omega arith) in
            ne (sym y ∙ ap length (sym (h.key b is) ∙ same))),
      );
}

pub other_key : {w p k v : ℕ} {images : List ℕ → Type 0} (place end : ℕ) (key : List ℕ) → place ≡ p + 2 * w → k ≡ length key → HasLengthsInImages w p k v images → p + (2 * w + k + v) ≤ end → TellsSameInImages false place key images → LooksAtImages w p end key (Ok None) images
other_key {w = w} {p = p} {k = k} place end key at same h fits tells = record {
  each = λ b is. (
    omega (arith, h.size b is),
    unequal (key_at w p b) key
        (λ eq.
        let yes = (tells.each b is).1 (ap (λ v. part v (length key) b) at ∙ ap (λ v. part (p + 2 * w) v b) (sym same) ∙ sym (h.key b is) ∙ eq) in
        cc),
  );
}

pub same_key : {w p k v : ℕ} {images : List ℕ → Type 0} (place end n : ℕ) (key : List ℕ) → place ≡ p + 2 * w → n ≡ 2 * w + k + v → k ≡ length key → HasLengthsInImages w p k v images → p + (2 * w + k + v) ≤ end → TellsSameInImages true place key images → LooksAtImages w p end key (Ok (Some n)) images
same_key {w = w} {p = p} {k = k} place end n key at size same h fits tells = record {
  each = λ b is. (
    omega (arith, h.size b is),
    (bytes_eq-Decides (key_at w p b) key).1 (h.key b is ∙ ap (λ v. part (p + 2 * w) v b) same ∙ ap (λ v. part v (length key) b) (sym at) ∙ (tells.each b is).0 refl),
    omega (arith, h.size b is),
  );
}
