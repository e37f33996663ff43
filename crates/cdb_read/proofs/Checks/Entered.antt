-- The records of a walk by their places and hashes, and which of them slots have pointed to.
use Rattle.std.proofs.Common.{◌≡◌, ℕ, zero, suc, ◌+◌, ◌<◌, ◌≤◌, Bool, true, false, not, ◌&&◌, ◌||◌, List, [], ◌∷◌, ◌++◌, length, get_or, set, drop, refl, sym, ap, ◌∙◌, subst, arith, inl, inr}
use Rattle.cdb_read.proofs.Words.{All, All-from_get_or, Damage, IsStrictlyIncreasing, Marks, None, Option, Some, TableRecords, WordPair, and_from, and_left, and_right, cases_eq, cases_lt, empty_slot, entries_of, entry_pairs, eq-eqb, fault_if, first_of, has_place, is_right_slot, is_same, is_told, list_any, lost_fault, marks_of, ne_eqb, option_or, table_number, used_fault, ◌==◌}
use Rattle.std.proofs.lemmas.List.{same_lists, get_or-map, length-map, length-set, get_or-set_same, get_or-set_other, map-append, at_drop_more, drop_all}
use Rattle.std.proofs.lemmas.List.Folds.{list_any-append, list_any_none, list_any_at}
use Rattle.cdb_form.specs.declared.damage.Damage.TheVariants.{Slot, Twice, Unindexed}
use Rattle.cdb_read.proofs.Checks.FaultSteps.{first_of-cons, first_of-nil}

pub length-entries_of : (ps hs : List ℕ) → length hs ≡ length ps → length (entries_of ps hs) ≡ length ps
length-entries_of [] hs e = refl
length-entries_of (p ∷ ps) [] e = absurd (omega arith)
length-entries_of (p ∷ ps) (h ∷ hs) e = let ih = length-entries_of ps hs (omega arith) in omega arith

pub get_or-entries_of : (ps hs : List ℕ) (k : ℕ) → length hs ≡ length ps → k < length ps → get_or (entries_of ps hs) k empty_slot ≡ record { first = get_or hs k 0; second = get_or ps k 0 }
get_or-entries_of [] hs k e l = absurd (omega arith)
get_or-entries_of (p ∷ ps) [] k e l = absurd (omega arith)
get_or-entries_of (p ∷ ps) (h ∷ hs) zero e l = refl
get_or-entries_of (p ∷ ps) (h ∷ hs) (suc k) e l = get_or-entries_of ps hs k (omega arith) (omega arith)

pub place-entries_of : (ps hs : List ℕ) (k : ℕ) → length hs ≡ length ps → k < length ps → (get_or (entries_of ps hs) k empty_slot).second ≡ get_or ps k 0
place-entries_of ps hs k e l = ap (λ (s : WordPair). s.second) (get_or-entries_of ps hs k e l)

hash-entries_of : (ps hs : List ℕ) (k : ℕ) → length hs ≡ length ps → k < length ps → (get_or (entries_of ps hs) k empty_slot).first ≡ get_or hs k 0
hash-entries_of ps hs k e l = ap (λ (s : WordPair). s.first) (get_or-entries_of ps hs k e l)

-- one record more
pub entries_of-push : (ps hs : List ℕ) (p h : ℕ) → length hs ≡ length ps → entries_of (ps ++ p ∷ []) (hs ++ h ∷ []) ≡ entries_of ps hs ++ record { first = h; second = p } ∷ []
entries_of-push [] [] p h e = refl
entries_of-push [] (x ∷ hs) p h e = absurd (omega arith)
entries_of-push (q ∷ ps) [] p h e = absurd (omega arith)
entries_of-push (q ∷ ps) (x ∷ hs) p h e = ap (λ t. record { first = x; second = q } ∷ t) (entries_of-push ps hs p h (omega arith))

pub marks_of-push : (es : List WordPair) (e : WordPair) → marks_of [] es ++ false ∷ [] ≡ marks_of [] (es ++ e ∷ [])
unfolding marks_of
marks_of-push es e = sym (map-append (is_told []) es (e ∷ []))

-- places that rise
rising_far : (ps : List ℕ) (i j : ℕ) → IsStrictlyIncreasing ps → i < j → j < length ps → get_or ps i 0 < get_or ps j 0
rising_far ps i zero up l m = absurd (omega arith)
rising_far ps i (suc j) up l m =
    let e : j + 1 ≡ suc j = omega arith in
    let step : get_or ps j 0 < get_or ps (suc j) 0 = subst (λ k. get_or ps j 0 < get_or ps k 0) e (up j (omega arith)) in
    elim (cases_eq i j) [
      | inl s ↦ subst (λ k. get_or ps k 0 < get_or ps (suc j) 0) (sym s) step
      | inr d ↦ (let ih = rising_far ps i j up (elim (cases_lt i j) [ inl h ↦ h | inr h ↦ absurd (d (omega arith)) ]) (omega arith) in omega arith)
    ]

pub rising_from : (ps : List ℕ) (i j : ℕ) → IsStrictlyIncreasing ps → i ≤ j → j < length ps → get_or ps i 0 ≤ get_or ps j 0
rising_from ps i j up l m = elim (cases_lt i j) [
  | inl h ↦ (let s = rising_far ps i j up h m in omega arith)
  | inr h ↦ (let e : i ≡ j = omega arith in let s = ap (λ k. get_or ps k 0) e in omega arith)
]

pub rising_apart : (ps : List ℕ) (i j : ℕ) → IsStrictlyIncreasing ps → (i ≡ j → ⊥) → i < length ps → j < length ps → get_or ps i 0 ≡ get_or ps j 0 → ⊥
rising_apart ps i j up d l m e = elim (cases_lt i j) [
  | inl h ↦ (let s = rising_far ps i j up h m in omega arith)
  | inr h ↦ elim (cases_lt j i) [ inl g ↦ (let s = rising_far ps j i up g l in omega arith) | inr g ↦ d (omega arith) ]
]

-- a record with the place and the hash of a slot is there, or none
pub record_there : (ps hs : List ℕ) (s : WordPair) (k : ℕ) → length hs ≡ length ps → k < length ps → get_or ps k 0 ≡ s.second → get_or hs k 0 ≡ s.first → list_any (is_same s) (entries_of ps hs) ≡ true
record_there ps hs s k e l p h =
    let long = length-entries_of ps hs e in
    let place = place-entries_of ps hs k e l in
    let hash = hash-entries_of ps hs k e l in
    list_any_at (is_same s) (entries_of ps hs) k empty_slot (omega arith)
    (and_from ((get_or (entries_of ps hs) k empty_slot).first == s.first) ((get_or (entries_of ps hs) k empty_slot).second == s.second) (eq-eqb _ _ (hash ∙ h)) (eq-eqb _ _ (place ∙ p)))

other_words : (a b x y : ℕ) → (b ≡ y → a ≡ x → ⊥) → ((a == x) && (b == y)) ≡ false
other_words a b x y never = elim (cases_eq b y) [
  | inl e ↦ and_left (a == x) (b == y) (ne_eqb a x (never e))
  | inr d ↦ and_right (a == x) (b == y) (ne_eqb b y d)
]

pub record_nowhere : (ps hs : List ℕ) (s : WordPair) → length hs ≡ length ps → ((k : ℕ) → k < length ps → get_or ps k 0 ≡ s.second → get_or hs k 0 ≡ s.first → ⊥) → list_any (is_same s) (entries_of ps hs) ≡ false
record_nowhere ps hs s e never =
    let long = length-entries_of ps hs e in
    list_any_none (is_same s) (entries_of ps hs) (All-from_get_or (λ x. is_same s x ≡ false) (entries_of ps hs) empty_slot (λ k l.
    (let place = place-entries_of ps hs k e (omega arith) in
    let hash = hash-entries_of ps hs k e (omega arith) in
    other_words (get_or (entries_of ps hs) k empty_slot).first (get_or (entries_of ps hs) k empty_slot).second s.first s.second (λ p h. never k (omega arith) (sym place ∙ p) (sym hash ∙ h)))))

-- the mark of a record, by its place
length-marks_of : (slots es : List WordPair) → length (marks_of slots es) ≡ length es
unfolding marks_of
length-marks_of slots es = length-map es (is_told slots)

get_or-marks_of : (slots es : List WordPair) (k : ℕ) (d : Bool) → k < length es → get_or (marks_of slots es) k d ≡ is_told slots (get_or es k empty_slot)
unfolding marks_of
get_or-marks_of slots es k d l = get_or-map (is_told slots) es k empty_slot d l

abbrev place_told : List WordPair → ℕ → Bool
place_told slots p = list_any (λ (x : WordPair). x.second == p) slots

pub mark_at : (ps hs : List ℕ) (slots : List WordPair) (k p : ℕ) (d : Bool) → length hs ≡ length ps → k < length ps → get_or ps k 0 ≡ p → get_or (marks_of slots (entries_of ps hs)) k d ≡ list_any (λ (x : WordPair). x.second == p) slots
mark_at ps hs slots k p d e l is =
    let long = length-entries_of ps hs e in
    get_or-marks_of slots (entries_of ps hs) k d (omega arith) ∙ ap (place_told slots) (place-entries_of ps hs k e l ∙ is)

or_none : (a b : Bool) → b ≡ false → (a || (b || false)) ≡ a
or_none true b h = refl
or_none false true h = h
or_none false false h = refl

or_some : (a b : Bool) → b ≡ true → (a || (b || false)) ≡ true
or_some true b h = refl
or_some false true h = refl
or_some false false h = h

told_more : (slots : List WordPair) (s : WordPair) (p : ℕ) → place_told (slots ++ s ∷ []) p ≡ (place_told slots p || ((s.second == p) || false))
told_more slots s p = list_any-append (λ (x : WordPair). x.second == p) slots (s ∷ [])

-- one slot more, which points to record k
pub marks_set : (ps hs : List ℕ) (slots : List WordPair) (s : WordPair) (k : ℕ) → length hs ≡ length ps → IsStrictlyIncreasing ps → k < length ps → get_or ps k 0 ≡ s.second
    → set (marks_of slots (entries_of ps hs)) k true ≡ marks_of (slots ++ s ∷ []) (entries_of ps hs)
marks_set ps hs slots s k e up l is =
    let long = length-entries_of ps hs e in
    let a = length-marks_of slots (entries_of ps hs) in
    let b = length-marks_of (slots ++ s ∷ []) (entries_of ps hs) in
    let c = length-set (marks_of slots (entries_of ps hs)) k true in
    same_lists (set (marks_of slots (entries_of ps hs)) k true) (marks_of (slots ++ s ∷ []) (entries_of ps hs)) (omega arith) (λ j d m. elim (cases_eq j k) [
      | inl same ↦
          (ap (λ x. get_or (set (marks_of slots (entries_of ps hs)) k true) x d) same ∙ get_or-set_same (marks_of slots (entries_of ps hs)) k true d (omega arith)
          ∙ sym (mark_at ps hs (slots ++ s ∷ []) j s.second d e (omega arith) (ap (λ x. get_or ps x 0) same ∙ is) ∙ told_more slots s s.second ∙ or_some (place_told slots s.second) (s.second == s.second) (eq-eqb s.second s.second refl)))
      | inr other ↦
          (get_or-set_other (marks_of slots (entries_of ps hs)) k j true d other
          ∙ mark_at ps hs slots j (get_or ps j 0) d e (omega arith) refl
          ∙ sym (mark_at ps hs (slots ++ s ∷ []) j (get_or ps j 0) d e (omega arith) refl ∙ told_more slots s (get_or ps j 0)
          ∙ or_none (place_told slots (get_or ps j 0)) (s.second == get_or ps j 0) (ne_eqb s.second (get_or ps j 0) (λ q. rising_apart ps j k up other (omega arith) l (sym q ∙ sym is)))))
    ])

-- one slot more, which points to no record
pub marks_same : (ps hs : List ℕ) (slots : List WordPair) (s : WordPair) → length hs ≡ length ps → ((j : ℕ) → j < length ps → s.second ≡ get_or ps j 0 → ⊥)
    → marks_of slots (entries_of ps hs) ≡ marks_of (slots ++ s ∷ []) (entries_of ps hs)
marks_same ps hs slots s e never =
    let long = length-entries_of ps hs e in
    let a = length-marks_of slots (entries_of ps hs) in
    let b = length-marks_of (slots ++ s ∷ []) (entries_of ps hs) in
    same_lists (marks_of slots (entries_of ps hs)) (marks_of (slots ++ s ∷ []) (entries_of ps hs)) (omega arith) (λ j d m.
    mark_at ps hs slots j (get_or ps j 0) d e (omega arith) refl
    ∙ sym (mark_at ps hs (slots ++ s ∷ []) j (get_or ps j 0) d e (omega arith) refl ∙ told_more slots s (get_or ps j 0)
    ∙ or_none (place_told slots (get_or ps j 0)) (s.second == get_or ps j 0) (ne_eqb s.second (get_or ps j 0) (never j (omega arith)))))

-- the fault of a used slot that is right, if its record has the mark `b`
told_right : (es slots : List WordPair) (n i : ℕ) (s : WordPair) (reached : Bool) → list_any (is_same s) es ≡ true → table_number s.first ≡ n → reached ≡ true → used_fault slots (is_right_slot es n s reached) n i s ≡ fault_if (list_any (has_place s) slots) (Twice s.second)
told_right es slots n i s reached there table way =
    let right : (list_any (is_same s) es && ((table_number s.first == n) && reached)) ≡ true = and_from _ _ there (and_from _ _ (eq-eqb (table_number s.first) n table) way) in
    ap (λ b. option_or (fault_if (not b) (Slot n i)) (fault_if (list_any (has_place s) slots) (Twice s.second))) right

pub told_by_mark : (e : TableRecords) (es slots : List WordPair) (n i k : ℕ) (s : WordPair) (reached b : Bool) → Marks e es slots → k < length e.places.items → get_or e.places.items k 0 ≡ s.second → get_or e.hashes.items k 0 ≡ s.first → get_or e.marks.items k false ≡ b
    → table_number s.first ≡ n → reached ≡ true → used_fault slots (is_right_slot es n s reached) n i s ≡ fault_if b (Twice s.second)
told_by_mark e es slots n i k s reached b m l place hash mark table way =
    let there : list_any (is_same s) es ≡ true = ap (list_any (is_same s)) (sym m.are) ∙ record_there e.places.items e.hashes.items s k e.paired l place hash in
    let marked : list_any (has_place s) slots ≡ b = sym (mark_at e.places.items e.hashes.items slots k s.second false e.paired l place) ∙ sym (ap (λ v. get_or v k false) (m.marked ∙ ap (marks_of slots) (sym m.are))) ∙ mark in
    told_right es slots n i s reached there table way ∙ ap (λ x. fault_if x (Twice s.second)) marked

-- and its record is marked then
pub marks_told : (old new : TableRecords) (es slots : List WordPair) (k : ℕ) (s : WordPair) → Marks old es slots → k < length old.places.items → get_or old.places.items k 0 ≡ s.second → new.places ≡ old.places → new.hashes ≡ old.hashes → new.marks.items ≡ set old.marks.items k true → Marks new es (slots ++ s ∷ [])
marks_told old new es slots k s m l place same_places same_hashes mark =
    let ps : new.places.items ≡ old.places.items = ap (λ v. v.items) same_places in
    let hs : new.hashes.items ≡ old.hashes.items = ap (λ v. v.items) same_hashes in
    record {
      are = ap (λ v. entries_of v new.hashes.items) ps ∙ ap (entries_of old.places.items) hs ∙ m.are;
      marked = mark ∙ ap (λ v. set v k true) (m.marked ∙ ap (marks_of slots) (sym m.are))
          ∙ marks_set old.places.items old.hashes.items slots s k old.paired m.rising l place
          ∙ ap (marks_of (slots ++ s ∷ [])) m.are;
      rising = subst IsStrictlyIncreasing (sym ps) m.rising;
      positive = subst (All (λ p. 0 < p)) (sym ps) m.positive;
    }

-- an empty slot points to no record
pub marks_unused : (e : TableRecords) (es slots : List WordPair) (s : WordPair) → s.second ≡ 0 → Marks e es slots → Marks e es (slots ++ s ∷ [])
marks_unused e es slots s z m =
    let ps = e.places.items in
    let hs = e.hashes.items in
    record {
      are = m.are;
      marked = m.marked ∙ ap (marks_of slots) (sym m.are)
          ∙ marks_same e.places.items e.hashes.items slots s e.paired (λ j l q. (let p = m.positive j 0 l in omega arith))
          ∙ ap (marks_of (slots ++ s ∷ [])) m.are;
      rising = m.rising;
      positive = m.positive;
    }

-- the first record that no slot points to, from record k on
abbrev pub lost_from : List WordPair → List WordPair → ℕ → Option Damage
lost_from slots es k = first_of (lost_fault slots) (drop k es)

lost_step : (ps hs : List ℕ) (slots : List WordPair) (k : ℕ) → length hs ≡ length ps → k < length ps
    → lost_from slots (entries_of ps hs) k ≡ option_or (lost_fault slots (get_or (entries_of ps hs) k empty_slot)) (lost_from slots (entries_of ps hs) (k + 1))
lost_step ps hs slots k e l =
    let long = length-entries_of ps hs e in
    at_drop_more (first_of (lost_fault slots)) (entries_of ps hs) k empty_slot (omega arith) ∙ first_of-cons (lost_fault slots) (get_or (entries_of ps hs) k empty_slot) (drop (k + 1) (entries_of ps hs))

lost_at : (ps hs : List ℕ) (slots : List WordPair) (k : ℕ) (marks : List Bool) (b : Bool) → length hs ≡ length ps → k < length ps → marks ≡ marks_of slots (entries_of ps hs) → get_or marks k false ≡ b
    → lost_fault slots (get_or (entries_of ps hs) k empty_slot) ≡ fault_if (not b) (Unindexed (get_or ps k 0))
lost_at ps hs slots k marks b e l is here =
    ap (λ p. fault_if (not (list_any (λ (x : WordPair). x.second == p) slots)) (Unindexed p)) (place-entries_of ps hs k e l)
    ∙ ap (λ t. fault_if (not t) (Unindexed (get_or ps k 0))) (sym (mark_at ps hs slots k (get_or ps k 0) false e l refl) ∙ sym (ap (λ m. get_or m k false) is) ∙ here)

marks_here : (e : TableRecords) (es slots : List WordPair) → Marks e es slots → e.marks.items ≡ marks_of slots (entry_pairs e)
marks_here e es slots m = m.marked ∙ ap (marks_of slots) (sym m.are)

pub lost_more : (e : TableRecords) (es slots : List WordPair) (k : ℕ) → Marks e es slots → k < length e.places.items → get_or e.marks.items k false ≡ true → lost_from slots (entry_pairs e) k ≡ lost_from slots (entry_pairs e) (k + 1)
lost_more e es slots k m l here =
    lost_step e.places.items e.hashes.items slots k e.paired l
    ∙ ap (λ x. option_or x (lost_from slots (entry_pairs e) (k + 1))) (lost_at e.places.items e.hashes.items slots k e.marks.items true e.paired l (marks_here e es slots m) here)

pub lost_here : (e : TableRecords) (es slots : List WordPair) (k : ℕ) → Marks e es slots → k < length e.places.items → get_or e.marks.items k false ≡ false → lost_from slots (entry_pairs e) k ≡ Some (Unindexed (get_or e.places.items k 0))
lost_here e es slots k m l here =
    lost_step e.places.items e.hashes.items slots k e.paired l
    ∙ ap (λ x. option_or x (lost_from slots (entry_pairs e) (k + 1))) (lost_at e.places.items e.hashes.items slots k e.marks.items false e.paired l (marks_here e es slots m) here)

pub lost_none : (e : TableRecords) (slots : List WordPair) (k : ℕ) → length e.places.items ≤ k → lost_from slots (entry_pairs e) k ≡ None
lost_none e slots k past =
    let long = length-entries_of e.places.items e.hashes.items e.paired in
    ap (first_of (lost_fault slots)) (drop_all k (entry_pairs e) (omega arith)) ∙ first_of-nil (lost_fault slots)
