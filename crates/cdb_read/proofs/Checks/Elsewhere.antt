-- The slots of a table without a fault point to no record of another table, and are right or wrong by
-- the records of their own alone.
use Rattle.std.proofs.Common.{◌≡◌, ℕ, ◌<◌, ◌≤◌, Bool, true, false, ◌&&◌, ◌||◌, List, [], ◌∷◌, ◌++◌, length, take, get_or, refl, sym, ap, ◌∙◌, subst, arith, inl, inr}
use Rattle.cdb_read.proofs.Words.{All, Damage, IsRising, Marks, None, Option, TableRecords, WordPair, and_left, and_parts, and_right, both_ways, cases_Bool, cond-false, cond-true, empty_slot, eqb-true, faults_behind, first_of, has_place, if◌then◌else◌, in_table, is_reached, is_right_slot, is_same, is_told, is_used, list_any-append, list_any_none, marks_of, ne_eqb, not-false, nth_slot, option_or, slot_fault, slots_fault, table_at, table_number, tables_below, used_fault, ◌==◌}
use Rattle.std.specs.List.{Contains, filter, list_any, range_with_len}
use Rattle.std.proofs.lemmas.List.Elements.{All-nil, All-cons, All-head, All-tail, All-from_get_or, All-contains, Contains-get_or}
use Rattle.cdb_read.proofs.Lists.Apart.{apart_same}
use Rattle.cdb_read.proofs.WholeFiles.FaultLaws.{slot_clean, slots_clean}
use Rattle.cdb_read.proofs.Lists.Rising.{rising_above, rising_is_apart}

-- a record with the hash of a slot is of the slot's table
same_table : (n : ℕ) (s e : WordPair) → (table_number s.first == n) ≡ true → in_table n e ≡ false → is_same s e ≡ false
same_table n s e here other = elim (cases_Bool (is_same s e)) [
  | inl t ↦
      (let parts = and_parts (e.first == s.first) (e.second == s.second) t in
      absurd (both_ways (in_table n e) other (ap (λ h. table_number h == n) (eqb-true e.first s.first parts.0) ∙ here)))
  | inr f ↦ f
]

same_in : (n : ℕ) (s : WordPair) (es : List WordPair) → (table_number s.first == n) ≡ true → list_any (is_same s) es ≡ list_any (is_same s) (filter (in_table n) es)
same_in n s [] here = refl
same_in n s (e ∷ es) here = elim (cases_Bool (in_table n e)) [
  | inl t ↦ ap (λ b. is_same s e || b) (same_in n s es here) ∙ ap (list_any (is_same s)) (sym (cond-true (in_table n e) (e ∷ filter (in_table n) es) (filter (in_table n) es) t))
  | inr f ↦
      (ap (λ b. b || list_any (is_same s) es) (same_table n s e here f)
      ∙ same_in n s es here
      ∙ ap (list_any (is_same s)) (sym (cond-false (in_table n e) (e ∷ filter (in_table n) es) (filter (in_table n) es) f)))
]

right_in : (es : List WordPair) (n : ℕ) (s : WordPair) (reached : Bool) → is_right_slot es n s reached ≡ is_right_slot (filter (in_table n) es) n s reached
right_in es n s reached = elim (cases_Bool (table_number s.first == n)) [
  | inl t ↦ ap (λ b. b && ((table_number s.first == n) && reached)) (same_in n s es t)
  | inr f ↦
      (and_right (list_any (is_same s) es) _ (and_left (table_number s.first == n) reached f)
      ∙ sym (and_right (list_any (is_same s) (filter (in_table n) es)) _ (and_left (table_number s.first == n) reached f)))
]

slot_fault_in : (es before : List WordPair) (n : ℕ) (slots : List WordPair) (i : ℕ) → slot_fault es before n slots i ≡ slot_fault (filter (in_table n) es) before n slots i
slot_fault_in es before n slots i =
    let s = nth_slot slots i in
    ap (λ b. if is_used s then used_fault (before ++ take i slots) b n i s else None) (right_in es n s (is_reached slots i))

first_of-same : (f g : ℕ → Option Damage) (xs : List ℕ) → ((x : ℕ) → f x ≡ g x) → first_of f xs ≡ first_of g xs
unfolding first_of
first_of-same f g [] each = refl
first_of-same f g (x ∷ xs) each = ap (λ a. option_or a (first_of f xs)) (each x) ∙ ap (option_or (g x)) (first_of-same f g xs each)

-- the first fault of table n, by the records of the table
pub faults_in : (es before : List WordPair) (n : ℕ) (slots : List WordPair) → faults_behind es before n slots ≡ faults_behind (filter (in_table n) es) before n slots
faults_in es before n slots = first_of-same (slot_fault es before n slots) (slot_fault (filter (in_table n) es) before n slots) (range_with_len 0 (length slots)) (λ i. slot_fault_in es before n slots i)

-- a slot of table n doesn't have the place of a record of another table
other_place : (w : ℕ) (b : List ℕ) (es : List WordPair) (n i : ℕ) (e : WordPair) → IsRising 1 es → slots_fault w b es n ≡ None → i < length (table_at w b n) → Contains es e → (table_number e.first ≡ n → ⊥) → has_place e (nth_slot (table_at w b n) i) ≡ false
other_place w b es n i e up none l there other =
    let s = nth_slot (table_at w b n) i in
    elim (cases_Bool (is_used s)) [
      | inl u ↦ elim (cases_Bool (has_place e s)) [
        | inl t ↦
            (let right = (slot_clean es (tables_below w b n) n (table_at w b n) i (slots_clean w b es n i none l) u).right in
            let same : s ≡ e = apart_same es s e (rising_is_apart 1 es up) right.told there t in
            absurd (other (ap (λ (x : WordPair). table_number x.first) (sym same) ∙ right.in_table)))
        | inr f ↦ f
      ]
      | inr f ↦
          (let some : 1 ≤ e.second = All-contains (λ x. 1 ≤ x.second) es e (rising_above 1 es up) there in
          let empty : s.second ≡ 0 = eqb-true s.second 0 (not-false (s.second == 0) f) in
          ne_eqb s.second e.second (λ same. omega arith))
    ]

told_nowhere : (w : ℕ) (b : List ℕ) (es : List WordPair) (n : ℕ) (e : WordPair) → IsRising 1 es → slots_fault w b es n ≡ None → Contains es e → (table_number e.first ≡ n → ⊥) → is_told (table_at w b n) e ≡ false
told_nowhere w b es n e up none there other =
    list_any_none (has_place e) (table_at w b n) (All-from_get_or (λ s. has_place e s ≡ false) (table_at w b n) empty_slot (λ i l. other_place w b es n i e up none l there other))

-- so more slots mark nothing more
kept_have : (p : WordPair → Bool) (Q : WordPair → Type 0) (xs : List WordPair) → All (λ x. p x ≡ true → Q x) xs → All Q (filter p xs)
kept_have p Q [] all = All-nil Q
kept_have p Q (x ∷ xs) all =
    let rest = kept_have p Q xs (All-tail (λ y. p y ≡ true → Q y) x xs all) in
    elim (cases_Bool (p x)) [
      | inl t ↦ subst (All Q) (sym (cond-true (p x) (x ∷ filter p xs) (filter p xs) t)) (All-cons Q x (filter p xs) (All-head (λ y. p y ≡ true → Q y) x xs all t) rest)
      | inr f ↦ subst (All Q) (sym (cond-false (p x) (x ∷ filter p xs) (filter p xs) f)) rest
    ]

or_no : (a b : Bool) → b ≡ false → (a || b) ≡ a
or_no true b h = refl
or_no false b h = h

marks_of-more : (before more es : List WordPair) → All (λ e. is_told more e ≡ false) es → marks_of before es ≡ marks_of (before ++ more) es
unfolding marks_of
marks_of-more before more [] all = refl
marks_of-more before more (e ∷ es) all =
    let same : is_told before e ≡ is_told (before ++ more) e =
    sym (list_any-append (has_place e) before more ∙ or_no (is_told before e) (is_told more e) (All-head (λ x. is_told more x ≡ false) e es all)) in
    ap (λ b. b ∷ marks_of before es) same
    ∙ ap (λ t. is_told (before ++ more) e ∷ t) (marks_of-more before more es (All-tail (λ x. is_told more x ≡ false) e es all))

pub marks_elsewhere : (w : ℕ) (b : List ℕ) (list : TableRecords) (es before : List WordPair) (n k : ℕ) → IsRising 1 es → slots_fault w b es n ≡ None → (k ≡ n → ⊥) → Marks list (filter (in_table k) es) before → Marks list (filter (in_table k) es) (before ++ table_at w b n)
marks_elsewhere w b list es before n k up none other m = record {
  are = m.are;
  marked = m.marked ∙ marks_of-more before (table_at w b n) (filter (in_table k) es)
      (kept_have (in_table k) (λ e. is_told (table_at w b n) e ≡ false) es
      (λ i d l h. told_nowhere w b es n (get_or es i d) up none (Contains-get_or es i d l) (λ is. other (sym (eqb-true (table_number (get_or es i d).first) k h) ∙ is))));
  rising = m.rising;
  positive = m.positive;
}
