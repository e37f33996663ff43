-- What a window shows.
use Rattle.cdb_read.proofs.Words.{Covers, ImagesHold, List, Shows, Window, ap, arith, length, part, sym, take, ℕ, ◌+◌, ◌-◌, ◌∙◌, ◌≡◌, ◌≤◌}
use Rattle.cdb_store.proofs.Parts.{part_part}

-- what it covers, it shows
pub shown_is : (window : Window) (images : List ℕ → Type 0) (place n : ℕ) → Shows window images → Covers window place n → (b : List ℕ) → images b → part (place - window.place) n window.bytes ≡ part place n b
shown_is window images place n shows covers b is =
    let from = covers.from in
    let to = covers.to in
    let d : ℕ = place - window.place in
    let inside : d + n ≤ window.len = omega arith in
    let at : window.place + d ≡ place = omega arith in
    let start : 0 + d ≡ d = omega arith in
    let one : part d n (take window.len window.bytes) ≡ part d n window.bytes = part_part 0 window.len d n window.bytes inside ∙ ap (λ k. part k n window.bytes) start in
    sym one ∙ ap (part d n) (sym (shows.each b is)) ∙ part_part window.place window.len d n b inside ∙ ap (λ q. part q n b) at

pub holds_shown : {window : Window} {images : List ℕ → Type 0} {place n : ℕ} {bytes : List ℕ} → Shows window images → Covers window place n → bytes ≡ part (place - window.place) n window.bytes → length bytes ≡ n → ImagesHold place bytes images
holds_shown {window = window} {images = images} {place = place} {n = n} {bytes = bytes} shows covers e long = record {
  each = λ b is. ap (λ k. part place k b) long ∙ sym (shown_is window images place n shows covers b is) ∙ sym e;
}
