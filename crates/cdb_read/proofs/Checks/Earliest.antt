-- The first record that no slot points to, among the records of some tables.
use Rattle.std.proofs.Common.{◌≡◌, ℕ, ◌+◌, ◌<◌, ◌≤◌, Bool, true, false, not, List, [], ◌∷◌, length, get_or, refl, sym, ap, ◌∙◌, subst, arith, inl, inr}
use Rattle.cdb_read.proofs.Words.{Damage, Marks, None, Option, Some, TableRecords, WordPair, fault_if, first_of, if◌then◌else◌, in_table, is_told, lost_fault, min-eq_left, min-eq_right, nat_lt, option_map, table_number}
use Rattle.std.specs.Option.{option_or, unwrap_or}
use Rattle.std.specs.List.{filter}
use Rattle.std.proofs.lemmas.Bool.{cases_Bool, cases_lt, cond-true, cond-false, eqb-true, eqb-false, ne_eqb, lt-ltb, le-ltb, ltb-true, ltb-false}
use Rattle.cdb_form.specs.declared.damage.Damage.TheVariants.{Unindexed}
use Rattle.cdb_read.specs.Views.RecordLists.{earlier_of, IsRising, ListsMark}
use Rattle.cdb_read.proofs.Checks.FaultSteps.{first_of-cons, first_of-nil}
use Rattle.cdb_read.proofs.Lists.Rising.{rising_filter}

-- the place of the first record that no slot of a list points to
lost_place : List WordPair → List WordPair → Option ℕ
lost_place slots [] = None
lost_place slots (e ∷ es) = if is_told slots e then lost_place slots es else Some e.second

abbrev pub as_lost : Option ℕ → Option Damage
as_lost place = option_map (λ p. Unindexed p) place

-- by whether a slot points to its first record
next_told : (slots es : List WordPair) (e : WordPair) → is_told slots e ≡ true → lost_place slots (e ∷ es) ≡ lost_place slots es
unfolding lost_place
next_told slots es e t = cond-true (is_told slots e) (lost_place slots es) (Some e.second) t

next_lost : (slots es : List WordPair) (e : WordPair) → is_told slots e ≡ false → lost_place slots (e ∷ es) ≡ Some e.second
unfolding lost_place
next_lost slots es e f = cond-false (is_told slots e) (lost_place slots es) (Some e.second) f

none_lost : (slots : List WordPair) → lost_place slots [] ≡ None
unfolding lost_place
none_lost slots = refl

lost_is : (slots es : List WordPair) → first_of (lost_fault slots) es ≡ as_lost (lost_place slots es)
lost_is slots [] = first_of-nil (lost_fault slots) ∙ sym (ap as_lost (none_lost slots))
lost_is slots (e ∷ es) =
    first_of-cons (lost_fault slots) e es
    ∙ elim (cases_Bool (is_told slots e)) [
      | inl t ↦
          (ap (λ b. option_or (fault_if (not b) (Unindexed e.second)) (first_of (lost_fault slots) es)) t
          ∙ lost_is slots es ∙ sym (ap as_lost (next_told slots es e t)))
      | inr f ↦
          (ap (λ b. option_or (fault_if (not b) (Unindexed e.second)) (first_of (lost_fault slots) es)) f
          ∙ sym (ap as_lost (next_lost slots es e f)))
    ]

place_is : (a b : Option ℕ) → as_lost a ≡ as_lost b → a ≡ b
place_is None None h = refl
place_is None (Some y) h = absurd cc
place_is (Some x) None h = absurd cc
place_is (Some x) (Some y) h = cc

some_is : (a b : ℕ) → Some a ≡ Some b → a ≡ b
some_is a b h = ap (λ o. unwrap_or o 0) h

lost_above : (slots es : List WordPair) (low place : ℕ) → IsRising low es → lost_place slots es ≡ Some place → low ≤ place
lost_above slots [] low place up is = let h = sym (none_lost slots) ∙ is in absurd cc
lost_above slots (e ∷ es) low place up is =
    let h : low ≤ e.second = up.0 in
    elim (cases_Bool (is_told slots e)) [
      | inl t ↦ (let rest = lost_above slots es (e.second + 1) place up.1 (sym (next_told slots es e t) ∙ is) in omega arith)
      | inr f ↦ (let here = some_is e.second place (sym (next_lost slots es e f) ∙ is) in omega arith)
    ]

-- among the records that pass a test
lost_in : (WordPair → Bool) → List WordPair → List WordPair → Option ℕ
lost_in p slots es = lost_place slots (filter p es)

past : (p : WordPair → Bool) (slots es : List WordPair) (e : WordPair) → p e ≡ false → lost_in p slots (e ∷ es) ≡ lost_in p slots es
unfolding lost_in
past p slots es e f = ap (lost_place slots) (cond-false (p e) (e ∷ filter p es) (filter p es) f)

told_in : (p : WordPair → Bool) (slots es : List WordPair) (e : WordPair) → is_told slots e ≡ true → lost_in p slots (e ∷ es) ≡ lost_in p slots es
unfolding lost_in
told_in p slots es e t = elim (cases_Bool (p e)) [
  | inl y ↦ ap (lost_place slots) (cond-true (p e) (e ∷ filter p es) (filter p es) y) ∙ next_told slots (filter p es) e t
  | inr n ↦ past p slots es e n
]

lost_here : (p : WordPair → Bool) (slots es : List WordPair) (e : WordPair) → p e ≡ true → is_told slots e ≡ false → lost_in p slots (e ∷ es) ≡ Some e.second
unfolding lost_in
lost_here p slots es e y f = ap (lost_place slots) (cond-true (p e) (e ∷ filter p es) (filter p es) y) ∙ next_lost slots (filter p es) e f

in_above : (p : WordPair → Bool) (slots es : List WordPair) (low place : ℕ) → IsRising low es → lost_in p slots es ≡ Some place → low ≤ place
unfolding lost_in
in_above p slots es low place up is = lost_above slots (filter p es) low place (rising_filter p low es up) is

earlier_first : (a : ℕ) (other : Option ℕ) → ((b : ℕ) → other ≡ Some b → a ≤ b) → earlier_of (Some a) other ≡ Some a
earlier_first a None least = refl
earlier_first a (Some b) least = ap (λ n. Some n) (min-eq_left (least b refl))

earlier_last : (a : ℕ) (other : Option ℕ) → ((b : ℕ) → other ≡ Some b → a ≤ b) → earlier_of other (Some a) ≡ Some a
earlier_last a None least = refl
earlier_last a (Some b) least = ap (λ n. Some n) (min-eq_right (least b refl))

-- the earlier of two, if no record passes both tests, and each record that passes one passes the third
record Parts (p q r : WordPair → Bool) : Type 0 where
  left : (e : WordPair) → p e ≡ true → r e ≡ true
  right : (e : WordPair) → q e ≡ true → r e ≡ true
  none : (e : WordPair) → p e ≡ false → q e ≡ false → r e ≡ false
  apart : (e : WordPair) → p e ≡ true → q e ≡ false

none_in : (p : WordPair → Bool) (slots : List WordPair) → lost_in p slots [] ≡ None
unfolding lost_in
none_in p slots = none_lost slots

earlier_in : (p q r : WordPair → Bool) (slots : List WordPair) (low : ℕ) (es : List WordPair) → Parts p q r → IsRising low es → earlier_of (lost_in p slots es) (lost_in q slots es) ≡ lost_in r slots es
earlier_in p q r slots low [] parts up = ap (λ a. earlier_of a (lost_in q slots [])) (none_in p slots) ∙ none_in q slots ∙ sym (none_in r slots)
earlier_in p q r slots low (e ∷ es) parts up =
    let ih = earlier_in p q r slots (e.second + 1) es parts up.1 in
    let behind : (t : WordPair → Bool) (b : ℕ) → lost_in t slots es ≡ Some b → e.second ≤ b = λ t b is. (let h = in_above t slots es (e.second + 1) b up.1 is in omega arith) in
    let both : (a b : Option ℕ) → lost_in p slots (e ∷ es) ≡ a → lost_in q slots (e ∷ es) ≡ b → earlier_of (lost_in p slots (e ∷ es)) (lost_in q slots (e ∷ es)) ≡ earlier_of a b =
    λ a b h k. ap (λ x. earlier_of x (lost_in q slots (e ∷ es))) h ∙ ap (earlier_of a) k in
    elim (cases_Bool (is_told slots e)) [
      | inl t ↦ both (lost_in p slots es) (lost_in q slots es) (told_in p slots es e t) (told_in q slots es e t) ∙ ih ∙ sym (told_in r slots es e t)
      | inr f ↦ elim (cases_Bool (p e)) [
        | inl y ↦
            (both (Some e.second) (lost_in q slots es) (lost_here p slots es e y f) (past q slots es e (parts.apart e y))
            ∙ earlier_first e.second (lost_in q slots es) (behind q) ∙ sym (lost_here r slots es e (parts.left e y) f))
        | inr n ↦ elim (cases_Bool (q e)) [
          | inl y ↦
              (both (lost_in p slots es) (Some e.second) (past p slots es e n) (lost_here q slots es e y f)
              ∙ earlier_last e.second (lost_in p slots es) (behind p) ∙ sym (lost_here r slots es e (parts.right e y) f))
          | inr m ↦ both (lost_in p slots es) (lost_in q slots es) (past p slots es e n) (past q slots es e m) ∙ ih ∙ sym (past r slots es e (parts.none e n m))
        ]
      ]
    ]

-- the records of the tables below table n
above : (a n : ℕ) → n ≤ a → (a ≡ n → ⊥) → n + 1 ≤ a
above a n l other = elim (cases_lt n a) [ inl h ↦ omega arith | inr h ↦ absurd (other (omega arith)) ]

abbrev below_table : ℕ → WordPair → Bool
below_table n e = nat_lt (table_number e.first) n

below_next : (n : ℕ) → Parts (below_table n) (in_table n) (below_table (n + 1))
below_next n = record {
  left = λ e y. (let l = ltb-true (table_number e.first) n y in lt-ltb (table_number e.first) (n + 1) (omega arith));
  right = λ e y. (let i = eqb-true (table_number e.first) n y in lt-ltb (table_number e.first) (n + 1) (omega arith));
  none = λ e f g. (let l = ltb-false (table_number e.first) n f in le-ltb (table_number e.first) (n + 1) (above (table_number e.first) n l (λ i. eqb-false (table_number e.first) n g i)));
  apart = λ e y. (let l = ltb-true (table_number e.first) n y in ne_eqb (table_number e.first) n (λ i. omega arith));
}

none_below : (slots es : List WordPair) → lost_in (below_table 0) slots es ≡ None
none_below slots [] = none_in (below_table 0) slots
none_below slots (e ∷ es) = past (below_table 0) slots es e (le-ltb (table_number e.first) 0 (omega arith)) ∙ none_below slots es

all_below : (n : ℕ) (es : List WordPair) → 256 ≤ n → filter (below_table n) es ≡ es
all_below n [] l = refl
all_below n (e ∷ es) l =
    let small : table_number e.first < 256 = omega arith in
    cond-true (below_table n e) (e ∷ filter (below_table n) es) (filter (below_table n) es) (lt-ltb (table_number e.first) n (omega arith))
    ∙ ap (λ t. e ∷ t) (all_below n es l)

-- the place of the first record of the first n lists that no slot points to
pub record IsFirstOf (lists : List TableRecords) (n : ℕ) (first : Option ℕ) : Type 0 where
  lost : (entries slots : List WordPair) → ListsMark lists entries slots → first ≡ lost_in (below_table n) slots entries

pub first_none : (lists : List TableRecords) → IsFirstOf lists 0 None
first_none lists = record { lost = λ es slots m. sym (none_below slots es) }

pub first_more : (lists : List TableRecords) (n : ℕ) (list : TableRecords) (first other : Option ℕ) → n < length lists → list ≡ get_or lists n list → IsFirstOf lists n first
    → ((entries slots : List WordPair) → Marks list entries slots → as_lost other ≡ first_of (lost_fault slots) entries) → IsFirstOf lists (n + 1) (earlier_of first other)
unfolding lost_in
first_more lists n list first other l is before here = record {
  lost = λ es slots m.
      let marks : Marks list (filter (in_table n) es) slots = subst (λ z. Marks z (filter (in_table n) es) slots) (sym is) (m.each n list (omega (arith, m.many))) in
      let last : other ≡ lost_in (in_table n) slots es = place_is other (lost_in (in_table n) slots es) (here (filter (in_table n) es) slots marks ∙ lost_is slots (filter (in_table n) es)) in
      ap (λ a. earlier_of a other) (before.lost es slots m)
      ∙ ap (earlier_of (lost_in (below_table n) slots es)) last
      ∙ earlier_in (below_table n) (in_table n) (below_table (n + 1)) slots 1 es (below_next n) m.rising;
}

pub first_all : (lists : List TableRecords) (n : ℕ) (first : Option ℕ) (es slots : List WordPair) → ListsMark lists es slots → length lists ≤ n → IsFirstOf lists n first → as_lost first ≡ first_of (lost_fault slots) es
unfolding lost_in
first_all lists n first es slots m l before =
    ap as_lost (before.lost es slots m ∙ ap (lost_place slots) (all_below n es (omega (arith, m.many)))) ∙ sym (lost_is slots es)
