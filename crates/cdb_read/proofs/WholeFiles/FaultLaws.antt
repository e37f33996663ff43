-- A file is sound exactly when it has no fault.
use Rattle.cdb_read.proofs.Words.{All, All-cons, All-contains, All-from_get_or, All-get_or, All-head, All-nil, All-tail, All-weaker, Bool, Contains, Contains-append_right, Damage, IsRight, IsSound, List, None, Option, Some, WordPair, [], all_slots, ap, arith, count_by, false, get_or, has_place, has_slots, head_size, inl, inr, is_inside, is_reached, is_used, length, list_any, nat_lt, not, nth_pair, nth_slot, option_or, range_with_len, refl, same_words, subst, sym, table_at, table_number, tables_below, take, true, walk_entries, walk_of, ℕ, ◌&&◌, ◌++◌, ◌+◌, ◌<◌, ◌==◌, ◌∙◌, ◌∷◌, ◌≡◌, ◌≤◌}
use Rattle.std.proofs.lemmas.List.FromFn.{length-range_with_len, get_or-range_with_len}
use Rattle.std.proofs.lemmas.Bool.{cases_Bool, cases_lt, cond-true, cond-false, both_ways, eq-eqb, eqb-true, not-false, not_from_true, not_from_false, and_parts, and_from, and_left, and_right, or_cases, or_left, or_right, le-ltb, lt-ltb}
use Rattle.cdb_form.specs.declared.damage.Damage.TheVariants.{Table, Slot, Twice, Unindexed}
use Rattle.cdb_read.specs.Sound.{entry_fault, fault_if, first_fault, first_of, is_right, is_same, slot_fault, slots_fault, table_fault}
use Rattle.cdb_read.specs.Laws.{SoundIsNoDamage}
use Rattle.cdb_read.proofs.Lists.Apart.{Contains-cases, entries-above}
use Rattle.cdb_read.proofs.Lists.Counts.{any_none, any_some}
use Rattle.cdb_read.proofs.FilledTables.Once.{NoneTwice, once_in_tables, none_earlier}
use Rattle.cdb_read.proofs.Walked.Walks.{walk_head}

-- faults in turn: there is none exactly when each of them is none
option_or-none : (a b : Option Damage) → option_or a b ≡ None → (a ≡ None) × (b ≡ None)
option_or-none None b h = (refl, h)
option_or-none (Some x) b h = cc

both_none : (a b : Option Damage) → a ≡ None → b ≡ None → option_or a b ≡ None
both_none a b h k = ap (λ x. option_or x b) h ∙ k

fault_if-none : (b : Bool) (d : Damage) → fault_if b d ≡ None → b ≡ false
fault_if-none true d h = cc
fault_if-none false d h = refl

no_fault : (b : Bool) (d : Damage) → b ≡ false → fault_if b d ≡ None
no_fault b d h = cond-false b (Some d) None h

first_of-none : {X : Type 0} (f : X → Option Damage) (xs : List X) → first_of f xs ≡ None → All (λ x. f x ≡ None) xs
unfolding first_of
first_of-none f [] h = All-nil (λ x. f x ≡ None)
first_of-none f (x ∷ xs) h =
    let both = option_or-none (f x) (first_of f xs) h in
    All-cons (λ y. f y ≡ None) x xs both.0 (first_of-none f xs both.1)

pub none_of-all : {X : Type 0} (f : X → Option Damage) (xs : List X) → All (λ x. f x ≡ None) xs → first_of f xs ≡ None
unfolding first_of
none_of-all f [] all = refl
none_of-all f (x ∷ xs) all = both_none (f x) (first_of f xs) (All-head (λ y. f y ≡ None) x xs all) (none_of-all f xs (All-tail (λ y. f y ≡ None) x xs all))

-- numbers in turn
number_is : (k n : ℕ) → n < k → get_or (range_with_len 0 k) n 0 ≡ n
number_is k n l = let at : 0 + n ≡ n = omega arith in get_or-range_with_len 0 k n 0 l ∙ at

each_number : (P : ℕ → Type 0) (k n : ℕ) → All P (range_with_len 0 k) → n < k → P n
each_number P k n all l =
    let long = length-range_with_len 0 k in
    subst P (number_is k n l) (All-get_or P (range_with_len 0 k) n 0 (omega arith) all)

pub all_numbers : (P : ℕ → Type 0) (k : ℕ) → ((n : ℕ) → n < k → P n) → All P (range_with_len 0 k)
all_numbers P k each =
    let long = length-range_with_len 0 k in
    All-from_get_or P (range_with_len 0 k) 0 (λ n l. (let low : n < k = omega arith in subst P (sym (number_is k n low)) (each n low)))

-- tables
table_inside : (w : ℕ) (bytes : List ℕ) (n : ℕ) → table_fault w bytes n ≡ None → has_slots (nth_pair w bytes n) ≡ true → is_inside w bytes (nth_pair w bytes n) ≡ true
table_inside w bytes n h has =
    let p = nth_pair w bytes n in
    elim (cases_Bool (is_inside w bytes p)) [
      | inl t ↦ t
      | inr f ↦ absurd (both_ways (has_slots p && not (is_inside w bytes p)) (fault_if-none _ (Table n) h) (and_from _ _ has (not_from_false _ f)))
    ]

inside_table : (w : ℕ) (bytes : List ℕ) (n : ℕ) → (has_slots (nth_pair w bytes n) ≡ true → is_inside w bytes (nth_pair w bytes n) ≡ true) → table_fault w bytes n ≡ None
inside_table w bytes n h =
    let p = nth_pair w bytes n in
    no_fault _ (Table n) (elim (cases_Bool (has_slots p)) [
      | inl t ↦ and_right _ _ (not_from_true (is_inside w bytes p) (h t))
      | inr f ↦ and_left _ _ f
    ])

-- an entry among others, by its words
told_by_words : (s : WordPair) (es : List WordPair) → list_any (is_same s) es ≡ true → Contains es s
told_by_words s [] h = absurd (both_ways false refl h)
told_by_words s (e ∷ es) h = elim (or_cases (is_same s e) (list_any (is_same s) es) h) [
  | inl t ↦ (let both = and_parts (e.first == s.first) (e.second == s.second) t in (0, (omega arith), same_words e s (eqb-true e.first s.first both.0) (eqb-true e.second s.second both.1)))
  | inr r ↦ Contains-append_right (e ∷ []) es s (told_by_words s es r)
]

words_told : (s : WordPair) (es : List WordPair) → Contains es s → list_any (is_same s) es ≡ true
words_told s [] (k, l, e) = absurd (omega arith)
words_told s (e ∷ es) c = elim (Contains-cases e es s c) [
  | inl i ↦ or_left (is_same s e) (list_any (is_same s) es) (and_from (e.first == s.first) (e.second == s.second) (eq-eqb e.first s.first (ap (λ (q : WordPair). q.first) i)) (eq-eqb e.second s.second (ap (λ (q : WordPair). q.second) i)))
  | inr d ↦ or_right (is_same s e) (list_any (is_same s) es) (words_told s es d)
]

-- whether a slot is right
right_is : (entries : List WordPair) (n : ℕ) (slots : List WordPair) (i : ℕ) → is_right entries n slots i ≡ true → IsRight entries n slots i
right_is entries n slots i h =
    let s = nth_slot slots i in
    let parts = and_parts (list_any (is_same s) entries) ((table_number s.first == n) && is_reached slots i) h in
    let more = and_parts (table_number s.first == n) (is_reached slots i) parts.1 in
    record { told = told_by_words s entries parts.0; in_table = eqb-true (table_number s.first) n more.0; reached = more.1 }

is_right-true : (entries : List WordPair) (n : ℕ) (slots : List WordPair) (i : ℕ) → IsRight entries n slots i → is_right entries n slots i ≡ true
is_right-true entries n slots i right =
    let s = nth_slot slots i in
    and_from (list_any (is_same s) entries) ((table_number s.first == n) && is_reached slots i) (words_told s entries right.told)
    (and_from (table_number s.first == n) (is_reached slots i) (eq-eqb (table_number s.first) n right.in_table) right.reached)

-- a used slot without a fault is right, and no earlier one has its place
pub record IsClean (entries before : List WordPair) (n : ℕ) (slots : List WordPair) (i : ℕ) : Type 0 where
  pub right : IsRight entries n slots i
  pub first : list_any (has_place (nth_slot slots i)) (before ++ take i slots) ≡ false

pub slot_clean : (entries before : List WordPair) (n : ℕ) (slots : List WordPair) (i : ℕ) → slot_fault entries before n slots i ≡ None → is_used (nth_slot slots i) ≡ true → IsClean entries before n slots i
slot_clean entries before n slots i h u =
    let s = nth_slot slots i in
    let both = option_or-none _ _ (sym (cond-true (is_used s) _ _ u) ∙ h) in
    record {
      right = right_is entries n slots i (not-false (is_right entries n slots i) (fault_if-none _ (Slot n i) both.0));
      first = fault_if-none _ (Twice s.second) both.1;
    }

pub clean_slot : (entries before : List WordPair) (n : ℕ) (slots : List WordPair) (i : ℕ) → (is_used (nth_slot slots i) ≡ true → IsClean entries before n slots i) → slot_fault entries before n slots i ≡ None
clean_slot entries before n slots i clean =
    let s = nth_slot slots i in
    elim (cases_Bool (is_used s)) [
      | inl u ↦
          (let c = clean u in
          cond-true (is_used s) _ _ u
          ∙ both_none _ _ (no_fault _ (Slot n i) (not_from_true (is_right entries n slots i) (is_right-true entries n slots i c.right))) (no_fault _ (Twice s.second) c.first))
      | inr f ↦ cond-false (is_used s) _ _ f
    ]

-- what is reported of a file that has a whole head
abbrev pub told_behind : ℕ → List ℕ → Option Damage
told_behind w bytes =
    option_or (first_of (table_fault w bytes) (range_with_len 0 256))
    (option_or (walk_of w bytes).damage
    (option_or (first_of (slots_fault w bytes (walk_entries w bytes)) (range_with_len 0 256))
    (first_of (entry_fault w bytes) (walk_entries w bytes))))

pub first_fault-whole : (w : ℕ) (bytes : List ℕ) → head_size w ≤ length bytes → first_fault w bytes ≡ told_behind w bytes
unfolding first_fault
first_fault-whole w bytes h = cond-false (nat_lt (length bytes) (head_size w)) _ _ (le-ltb (length bytes) (head_size w) h)

whole_head : (w : ℕ) (bytes : List ℕ) → first_fault w bytes ≡ None → head_size w ≤ length bytes
unfolding first_fault
whole_head w bytes h = elim (cases_lt (length bytes) (head_size w)) [
  | inl short ↦ (let e = sym (cond-true (nat_lt (length bytes) (head_size w)) _ _ (lt-ltb (length bytes) (head_size w) short)) ∙ h in cc)
  | inr whole ↦ whole
]

-- each slot, by those of its table
pub slots_clean : (w : ℕ) (bytes : List ℕ) (entries : List WordPair) (n i : ℕ) → slots_fault w bytes entries n ≡ None → i < length (table_at w bytes n) → slot_fault entries (tables_below w bytes n) n (table_at w bytes n) i ≡ None
unfolding slots_fault
slots_clean w bytes entries n i h l =
    let slots = table_at w bytes n in
    each_number (λ j. slot_fault entries (tables_below w bytes n) n slots j ≡ None) (length slots) i (first_of-none (slot_fault entries (tables_below w bytes n) n slots) (range_with_len 0 (length slots)) h) l

clean_slots : (w : ℕ) (bytes : List ℕ) (entries : List WordPair) (n : ℕ) → ((i : ℕ) → i < length (table_at w bytes n) → slot_fault entries (tables_below w bytes n) n (table_at w bytes n) i ≡ None) → slots_fault w bytes entries n ≡ None
unfolding slots_fault
clean_slots w bytes entries n each =
    let slots = table_at w bytes n in
    none_of-all (slot_fault entries (tables_below w bytes n) n slots) (range_with_len 0 (length slots)) (all_numbers (λ j. slot_fault entries (tables_below w bytes n) n slots j ≡ None) (length slots) each)

exactly_one : (n : ℕ) → 0 < n → n ≤ 1 → n ≡ 1
exactly_one n a b = omega arith

entry_once : (w : ℕ) (bytes : List ℕ) (e : WordPair) → entry_fault w bytes e ≡ None → 0 < e.second → ((n : ℕ) → n < 256 → NoneTwice (tables_below w bytes n) (table_at w bytes n)) → count_by (has_place e) (all_slots w bytes) ≡ 1
unfolding all_slots
entry_once w bytes e h some fresh =
    let there = any_some (has_place e) (all_slots w bytes) (not-false (list_any (has_place e) (all_slots w bytes)) (fault_if-none _ (Unindexed e.second) h)) in
    let few = once_in_tables (table_at w bytes) e 256 some fresh in
    exactly_one (count_by (has_place e) (all_slots w bytes)) there few

-- a file without a fault is sound
sound_from_none : (w : ℕ) (bytes : List ℕ) → 0 < w → first_fault w bytes ≡ None → IsSound w bytes
sound_from_none w bytes some h =
    let entries = walk_entries w bytes in
    let one = option_or-none _ _ (sym (first_fault-whole w bytes (whole_head w bytes h)) ∙ h) in
    let two = option_or-none (walk_of w bytes).damage _ one.1 in
    let three = option_or-none (first_of (slots_fault w bytes entries) (range_with_len 0 256)) _ two.1 in
    let tables = first_of-none (table_fault w bytes) (range_with_len 0 256) one.0 in
    let slots = first_of-none (slots_fault w bytes entries) (range_with_len 0 256) three.0 in
    let indexed = first_of-none (entry_fault w bytes) entries three.1 in
    let clean : (n i : ℕ) → n < 256 → i < length (table_at w bytes n) → is_used (nth_slot (table_at w bytes n) i) ≡ true → IsClean entries (tables_below w bytes n) n (table_at w bytes n) i = λ n i l m u.
    slot_clean entries (tables_below w bytes n) n (table_at w bytes n) i (slots_clean w bytes entries n i (each_number (λ k. slots_fault w bytes entries k ≡ None) 256 n slots l) m) u in
    let above = entries-above w (head_size w) (walk_of w bytes).records in
    record {
      inside = λ n l has. table_inside w bytes n (each_number (λ k. table_fault w bytes k ≡ None) 256 n tables l) has;
      walked = two.0;
      slots = λ n i l m u. (clean n i l m u).right;
      once = λ k d l.
          (let high = above k d l in
          entry_once w bytes (get_or entries k d) (indexed k d l) (omega arith) (λ n low i m u. (clean n i low m u).first));
    }

-- a sound file has no fault
sound_slot : (w : ℕ) (bytes : List ℕ) (n i : ℕ) → IsSound w bytes → n < 256 → i < length (table_at w bytes n) → slot_fault (walk_entries w bytes) (tables_below w bytes n) n (table_at w bytes n) i ≡ None
unfolding all_slots
sound_slot w bytes n i s l m = clean_slot (walk_entries w bytes) (tables_below w bytes n) n (table_at w bytes n) i (λ u.
    (let right = s.slots n i l m u in
    record {
      right = right;
      first = none_earlier (table_at w bytes) 256 n i l m (All-contains (λ e. count_by (has_place e) (all_slots w bytes) ≡ 1) (walk_entries w bytes) _ s.once right.told);
    }))

sound_entry : (w : ℕ) (bytes : List ℕ) (e : WordPair) → count_by (has_place e) (all_slots w bytes) ≡ 1 → entry_fault w bytes e ≡ None
sound_entry w bytes e one = no_fault _ (Unindexed e.second) (not_from_true (list_any (has_place e) (all_slots w bytes)) (elim (cases_Bool (list_any (has_place e) (all_slots w bytes))) [
  | inl t ↦ t
  | inr f ↦ (let none = any_none (has_place e) (all_slots w bytes) f in absurd (omega arith))
]))

none_from_sound : (w : ℕ) (bytes : List ℕ) → IsSound w bytes → first_fault w bytes ≡ None
none_from_sound w bytes s =
    let entries = walk_entries w bytes in
    first_fault-whole w bytes (walk_head w bytes s.walked).whole
    ∙ both_none (first_of (table_fault w bytes) (range_with_len 0 256)) _ (none_of-all (table_fault w bytes) (range_with_len 0 256) (all_numbers (λ n. table_fault w bytes n ≡ None) 256 (λ n l. inside_table w bytes n (s.inside n l))))
    (both_none (walk_of w bytes).damage _ s.walked
    (both_none (first_of (slots_fault w bytes entries) (range_with_len 0 256)) _
    (none_of-all (slots_fault w bytes entries) (range_with_len 0 256) (all_numbers (λ n. slots_fault w bytes entries n ≡ None) 256 (λ n l. clean_slots w bytes entries n (λ i m. sound_slot w bytes n i s l m))))
    (none_of-all (entry_fault w bytes) entries (All-weaker (λ e. count_by (has_place e) (all_slots w bytes) ≡ 1) (λ e. entry_fault w bytes e ≡ None) (λ e one. sound_entry w bytes e one) entries s.once))))

-- the law
pub sound_is_no_damage : (w : ℕ) (bytes : List ℕ) → 0 < w → SoundIsNoDamage w bytes
sound_is_no_damage w bytes some = (none_from_sound w bytes, sound_from_none w bytes some)
