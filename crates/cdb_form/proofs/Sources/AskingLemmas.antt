-- What a reader gave, request after request.
use Rattle.cdb_form.specs.Views.Taking.{IsUnread, IsWhy}
use Rattle.cdb_form.specs.Views.KnownBytes.{IsOfReader}
use Rattle.cdb_form.specs.Views.WalkFault.{IsDamage, unread_walk}
use Rattle.cdb_form.specs.declared.reading.ReadStop.{ReadStop}
use Rattle.cdb_form.specs.declared.reading.ReadStop.TheVariants as unread
use Rattle.cdb_form.specs.declared.walk.fault.WalkFault.{WalkFault}
use Rattle.cdb_form.proofs.Words.{Keeps, inl, inr, refl, subst, ◌<◌, ◌⊎◌, AreBytes, Consumes, Feed, List, ap, append_assoc, arith, length, length-append, length-replicate, length-take-le, replicate, sym, take, take-append-le, take-take, ℕ, ◌++◌, ◌+◌, ◌∙◌, ◌≡◌, ◌≤◌}
use borrow.Rule.Slice.PartMut.{put_mid, post_of}
use Rattle.cdb_form.proofs.Bytes.ByteLemmas.{AreBytes-append, AreBytes-take}
use Rattle.cdb_form.proofs.Files.Prefixes.{take_past}
use Rattle.cdb_form.proofs.Fed.FeedLemmas.{consumes_then}

-- the start of a slice of which a part was read, and n bytes of that part
pub take_read : (a k n : ℕ) (xs ys : List ℕ) → a ≤ length xs → n ≤ length ys → take (a + n) (put_mid a k xs ys) ≡ take a xs ++ take n ys
take_read a k n xs ys within few =
    take_past (take a xs) (ys ++ post_of a k xs) a n (length-take-le a xs within) ∙ ap (λ t. take a xs ++ t) (take-append-le n ys (post_of a k xs) few)

-- ---- why bytes did not come

pub why_ended : (new : Feed) (n asked asks : ℕ) → IsWhy new n asked asks unread.Ended
why_ended new n asked asks = record { spent = λ e. absurd (let no : ⊥ = cc in no); used = λ e. absurd (let no : ⊥ = cc in no); failed = λ e. absurd (let no : ⊥ = cc in no) }

-- after some bytes, each by a request of its own
pub why_on : (mid new : Feed) (n done first asked asks : ℕ) (stop : ReadStop) → mid.failed ⊎ (first ≤ asked + done) → Keeps mid new → done < n → IsWhy new 1 asked asks stop → IsWhy new n first asks stop
why_on mid new n done first asked asks stop used kept few why = record {
  spent = why.spent;
  used = λ e. elim used [
    | inl f ↦ inl (kept.stays f)
    | inr some ↦ elim (why.used e) [
      | inl f ↦ inl f
      | inr none ↦ inr (omega (arith, some, none, few))
    ]
  ];
  failed = why.failed;
}

-- a request more, which gave some
pub used_more : (mid new : Feed) (done n first asked asks : ℕ) (bytes : List ℕ) → mid.failed ⊎ (first ≤ asked + done) → Consumes mid new bytes → new.failed ⊎ (asked ≤ asks + 1) → 0 < n → new.failed ⊎ (first ≤ asks + (done + n))
used_more mid new done n first asked asks bytes used read one some = elim used [
  | inl f ↦ inl (read.stays f)
  | inr so_far ↦ elim one [
    | inl f ↦ inl f
    | inr few ↦ inr (omega (arith, so_far, few, some))
  ]
]

-- with as many requests as that the reader failed
pub why_failed : (new : Feed) (n asked asks : ℕ) (stop : ReadStop) → IsWhy new n asked asks stop → n ≤ asked → IsOfReader stop → new.failed
why_failed new n asked asks unread.Failed why enough of = why.failed refl
why_failed new n asked asks unread.Spent why enough of = elim (why.used refl) [
  | inl f ↦ f
  | inr few ↦ absurd (let no : ⊥ = omega (arith, few, enough) in no)
]
why_failed new n asked asks unread.Ended why enough of = absurd of
why_failed new n asked asks unread.NoMemory why enough of = absurd of

pub unread_so : (new : Feed) (n asked asks : ℕ) (early : WalkFault) (stop : ReadStop) → IsWhy new n asked asks stop → n ≤ asked → IsDamage early → IsUnread new (unread_walk early stop)
unread_so new n asked asks early unread.Ended why enough damage = λ e. absurd (subst IsDamage e damage)
unread_so new n asked asks early unread.Failed why enough damage = λ e. why_failed new n asked asks unread.Failed why enough tt
unread_so new n asked asks early unread.Spent why enough damage = λ e. why_failed new n asked asks unread.Spent why enough tt
unread_so new n asked asks early unread.NoMemory why enough damage = λ e. absurd (let no : ⊥ = cc in no)

-- a piece more was read
pub record ReadMore (old new : Feed) (so_far piece : List ℕ) (count : ℕ) : Type 0 where
  pub read : Consumes old new (so_far ++ piece)
  pub are : AreBytes (so_far ++ piece)
  pub long : length (so_far ++ piece) ≡ count

pub read_more : (old mid new : Feed) (so_far into : List ℕ) (done n : ℕ) → Consumes old mid so_far → AreBytes so_far → length so_far ≡ done → Consumes mid new (take n into) → AreBytes into → n ≤ length into
    → ReadMore old new so_far (take n into) (done + n)
read_more old mid new so_far into done n a are long b bytes few = record {
  read = consumes_then old mid new so_far (take n into) a b;
  are = AreBytes-append so_far (take n into) are (AreBytes-take n into bytes);
  long = omega (arith, length-append so_far (take n into), length-take-le n into few);
}

-- the start of some zeros, that words are read into
pub zeros_long : (size room : ℕ) → size ≤ room → length (take size (replicate {A = ℕ} room 0)) ≡ size
zeros_long size room small = length-take-le size (replicate {A = ℕ} room 0) (omega (arith, length-replicate {A = ℕ} room 0))

-- a prefix of what a vector held before it was made longer
pub same_prefix : (held : ℕ) (old longer : List ℕ) → held ≤ length old → take (length old) longer ≡ old → take held longer ≡ take held old
same_prefix held old longer within front = sym (take-take held (length old) longer within) ∙ ap (take held) front

-- n bytes came after a prefix
pub came_behind : (held n len : ℕ) (front ys post rest : List ℕ) → length front ≡ held → n ≤ length ys → held + n ≤ len → take (held + n) (take len (front ++ (ys ++ post) ++ rest)) ≡ front ++ take n ys
came_behind held n len front ys post rest long few within =
    take-take (held + n) len (front ++ (ys ++ post) ++ rest) within
    ∙ ap (take (held + n)) (append_assoc front (ys ++ post) rest)
    ∙ take_past front (ys ++ post ++ rest) held n long
    ∙ ap (λ t. front ++ t) (take-append-le n (ys ++ post) rest (omega (arith, few, length-append ys post)) ∙ take-append-le n ys post few)
