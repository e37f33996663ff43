-- A search in a table that was filled entry by entry meets the entries of its hash, in order.
use Rattle.std.proofs.Common.{◌≡◌, ℕ, zero, suc, ◌+◌, ◌-◌, ◌%◌, ◌<◌, ◌≤◌, Bool, true, false, cond, List, [], ◌∷◌, ◌++◌, length, get_or, set, take, drop, replicate, fold, refl, sym, ap, ◌∙◌, subst, arith, inl, inr, length-append, length-take, length-drop, append_assoc, nat_lt, mod-eq_of_lt}
use native.Mathlib.Nat.{mod-eq-sub-mod}
use Rattle.cdb_read.proofs.Words.{All, All-head, All-tail, WordPair, both_ways, cases_lt, cond-false, cond-true, empty_slot, eqb-true, filled_slots, has_hash, home_slot, is_used, le-ltb, length-slots_with, lt-ltb, met_slots, slots_from, slots_with}
use Rattle.std.specs.List.{filter, take_while, prefix_len, count_by}
use Rattle.std.proofs.lemmas.List.{length-replicate, drop-set-add, drop-set-lt, take-set-le, set-append_left, set-append_right, get_or-append_right, get_or_append_left, get_or-drop, get_or-take, take-replicate, drop-replicate, replicate-append-replicate, append-nil}
use Rattle.std.proofs.Math.Seq.{take-set-lt}
use Rattle.std.proofs.lemmas.List.Sums.{sum_by-append, sum_by-take-drop, sum_by-set, prefix_len_stops}
use Rattle.cdb_read.proofs.Lists.Counts.{counts_none, counts_one}
use Rattle.cdb_read.proofs.Lists.Meeting.{met, HasNone, HasNoneBehind, HasNoneBehind-HasNone, met-HasNone, met-set, HasNoneBehind-set, prefix_len-lt}

-- the place of slot i among the slots from home on
abbrev pub turned : ℕ → ℕ → ℕ → ℕ
turned home n i = cond (nat_lt i home) (n - home + i) (i - home)

pub turned-before : (home n i : ℕ) → i < home → turned home n i ≡ n - home + i
turned-before home n i h = cond-true (nat_lt i home) (n - home + i) (i - home) (lt-ltb i home h)

pub turned-behind : (home n i : ℕ) → home ≤ i → turned home n i ≡ i - home
turned-behind home n i h = cond-false (nat_lt i home) (n - home + i) (i - home) (le-ltb i home h)

-- place d among the slots from home on, as a slot
pub turned-home : (home n d : ℕ) → home < n → d < n → turned home n ((home + d) % n) ≡ d
turned-home home n d h l = elim (cases_lt (home + d) n) [
  | inl low ↦ (let e = mod-eq_of_lt low in ap (turned home n) e ∙ turned-behind home n (home + d) (omega arith) ∙ omega arith)
  | inr high ↦
      (let e : (home + d) % n ≡ home + d - n = mod-eq-sub-mod high ∙ mod-eq_of_lt (omega arith) in
      ap (turned home n) e ∙ turned-before home n (home + d - n) (omega arith) ∙ omega arith)
]

pub turned-lt : (home n i : ℕ) → home ≤ n → i < n → turned home n i < n
turned-lt home n i h l = elim (cases_lt i home) [
  | inl low ↦ (let e = turned-before home n i low in omega arith)
  | inr high ↦ (let e = turned-behind home n i high in omega arith)
]

-- an element put into a slot is at that slot's place among the slots from home on
pub slots_from-set : (home i : ℕ) (slots : List WordPair) (e : WordPair) → home ≤ length slots → i < length slots → slots_from home (set slots i e) ≡ set (slots_from home slots) (turned home (length slots) i) e
slots_from-set home i slots e h l = elim (cases_lt i home) [
  | inl low ↦
      (let at : turned home (length slots) i ≡ length slots - home + i = turned-before home (length slots) i low in
      let put : set (slots_from home slots) (length slots - home + i) e ≡ drop home slots ++ set (take home slots) (length slots - home + i - (length slots - home)) e = set-append_right (drop home slots) (take home slots) (length slots - home) (length slots - home + i) e (length-drop home slots) (omega arith) in
      let back : length slots - home + i - (length slots - home) ≡ i = omega arith in
      ap (λ t. t ++ take home (set slots i e)) (drop-set-lt home slots i e low)
      ∙ ap (λ t. drop home slots ++ t) (take-set-lt home slots i e low)
      ∙ sym (ap (λ k. drop home slots ++ set (take home slots) k e) back)
      ∙ sym put ∙ sym (ap (λ k. set (slots_from home slots) k e) at))
  | inr high ↦
      (let at : turned home (length slots) i ≡ i - home = turned-behind home (length slots) i high in
      let there : home + (i - home) ≡ i = omega arith in
      let put : drop home (set slots i e) ≡ set (drop home slots) (i - home) e = sym (ap (λ k. drop home (set slots k e)) there) ∙ drop-set-add home slots (i - home) e in
      ap (λ t. t ++ take home (set slots i e)) put
      ∙ ap (λ t. set (drop home slots) (i - home) e ++ t) (take-set-le home slots i e high)
      ∙ sym (set-append_left (drop home slots) (take home slots) (i - home) e (omega (arith, length-drop home slots)))
      ∙ sym (ap (λ k. set (slots_from home slots) k e) at))
]

pub get_or-slots_from : (home i : ℕ) (slots : List WordPair) (d : WordPair) → home ≤ length slots → i < length slots → get_or (slots_from home slots) (turned home (length slots) i) d ≡ get_or slots i d
get_or-slots_from home i slots d h l = elim (cases_lt i home) [
  | inl low ↦
      (let at : turned home (length slots) i ≡ length slots - home + i = turned-before home (length slots) i low in
      let back : length slots - home + i - (length slots - home) ≡ i = omega arith in
      ap (λ k. get_or (slots_from home slots) k d) at
      ∙ get_or-append_right (drop home slots) (take home slots) (length slots - home) (length slots - home + i) d (length-drop home slots) (omega arith)
      ∙ ap (λ k. get_or (take home slots) k d) back
      ∙ get_or-take home slots i d low)
  | inr high ↦
      (let at : turned home (length slots) i ≡ i - home = turned-behind home (length slots) i high in
      let there : home + (i - home) ≡ i = omega arith in
      ap (λ k. get_or (slots_from home slots) k d) at
      ∙ get_or_append_left (drop home slots) (take home slots) d (i - home) (omega (arith, length-drop home slots))
      ∙ get_or-drop home slots (i - home) d
      ∙ ap (λ k. get_or slots k d) there)
]

pub length-slots_from : (home : ℕ) (slots : List WordPair) → length (slots_from home slots) ≡ length slots
length-slots_from home slots = omega (arith, length-append (drop home slots) (take home slots), length-drop home slots, length-take home slots)

pub count_by-slots_from : (p : WordPair → Bool) (home : ℕ) (slots : List WordPair) → count_by p (slots_from home slots) ≡ count_by p slots
count_by-slots_from p home slots =
    let f : WordPair → ℕ = λ x. cond (p x) 1 0 in
    let joined = sum_by-append (λ (x : WordPair). cond (p x) 1 0) (drop home slots) (take home slots) in
    let split = sum_by-take-drop (λ (x : WordPair). cond (p x) 1 0) slots home in
    omega arith

-- the number of slots that are used
abbrev pub used_count : List WordPair → ℕ
used_count slots = count_by is_used slots

-- no entry of hash h is after the first empty slot from its home
abbrev pub NoneBehind : ℕ → List WordPair → Type 0
NoneBehind h slots = HasNoneBehind is_used (has_hash h) (slots_from (home_slot h (length slots)) slots)

-- where an entry goes: an empty slot, which is the first one from its home
pub record Free (slots : List WordPair) (h : ℕ) (i : ℕ) : Type 0 where
  pub within : i < length slots
  pub empty : (d : WordPair) → is_used (get_or slots i d) ≡ false
  pub first : turned (home_slot h (length slots)) (length slots) i ≡ prefix_len is_used (slots_from (home_slot h (length slots)) slots)

abbrev pub free_slot : List WordPair → ℕ → ℕ
free_slot slots h = (home_slot h (length slots) + prefix_len is_used (slots_from (home_slot h (length slots)) slots)) % length slots

pub free : (slots : List WordPair) (h : ℕ) → used_count slots < length slots → Free slots h (free_slot slots h)
free slots h room =
    let home = home_slot h (length slots) in
    let home_in : home_slot h (length slots) < length slots = omega arith in
    let same = count_by-slots_from is_used (home_slot h (length slots)) slots in
    let long = length-slots_from (home_slot h (length slots)) slots in
    let stop : prefix_len is_used (slots_from (home_slot h (length slots)) slots) < length (slots_from (home_slot h (length slots)) slots) = prefix_len-lt is_used (slots_from (home_slot h (length slots)) slots) (omega arith) in
    let at = turned-home (home_slot h (length slots)) (length slots) (prefix_len is_used (slots_from (home_slot h (length slots)) slots)) home_in (omega arith) in
    let within : free_slot slots h < length slots = omega arith in
    record {
      within = within;
      empty = λ d. ap is_used (sym (get_or-slots_from (home_slot h (length slots)) (free_slot slots h) slots d (omega arith) within) ∙ ap (λ k. get_or (slots_from (home_slot h (length slots)) slots) k d) at) ∙ prefix_len_stops is_used (slots_from (home_slot h (length slots)) slots) d stop;
      first = at;
    }

-- the slots from the home of a hash on
abbrev pub from_home : ℕ → List WordPair → List WordPair
from_home h slots = slots_from (home_slot h (length slots)) slots

abbrev pub turned_free : ℕ → List WordPair → ℕ → ℕ
turned_free h slots k = turned (home_slot h (length slots)) (length slots) (free_slot slots k)

pub met_slots-met : (h : ℕ) (slots : List WordPair) → met_slots h slots ≡ met is_used (has_hash h) (from_home h slots)
unfolding met_slots met
met_slots-met h slots = refl

pub slots_with-set : (slots : List WordPair) (e : WordPair) → slots_with slots e ≡ set slots (free_slot slots e.first) e
unfolding slots_with
slots_with-set slots e = refl

from_home-slots_with : (h : ℕ) (slots : List WordPair) (e : WordPair) → used_count slots < length slots → from_home h (slots_with slots e) ≡ set (from_home h slots) (turned_free h slots e.first) e
from_home-slots_with h slots e room =
    let f = free slots e.first room in
    let home_in : home_slot h (length slots) < length slots = omega arith in
    ap (λ n. slots_from (home_slot h n) (slots_with slots e)) (length-slots_with slots e)
    ∙ ap (slots_from (home_slot h (length slots))) (slots_with-set slots e)
    ∙ slots_from-set (home_slot h (length slots)) (free_slot slots e.first) slots e (omega arith) f.within

-- what the general step needs of an entry
record Put (h : ℕ) (slots : List WordPair) (e : WordPair) : Type 0 where
  within : turned_free h slots e.first < length (from_home h slots)
  empty : is_used (get_or (from_home h slots) (turned_free h slots e.first) e) ≡ false
  first : has_hash h e ≡ true → prefix_len is_used (from_home h slots) ≡ turned_free h slots e.first

put : (h : ℕ) (slots : List WordPair) (e : WordPair) → used_count slots < length slots → Put h slots e
put h slots e room =
    let f = free slots e.first room in
    let home_in : home_slot h (length slots) < length slots = omega arith in
    let long = length-slots_from (home_slot h (length slots)) slots in
    record {
      within = omega (arith, turned-lt (home_slot h (length slots)) (length slots) (free_slot slots e.first) (omega arith) f.within);
      empty = ap is_used (get_or-slots_from (home_slot h (length slots)) (free_slot slots e.first) slots e (omega arith) f.within) ∙ f.empty e;
      first = λ t. (let same = eqb-true e.first h t in sym (subst (λ k. turned_free k slots e.first ≡ prefix_len is_used (from_home k slots)) same f.first));
    }

-- one entry more
pub met_slots-slots_with : (h : ℕ) (slots : List WordPair) (e : WordPair) → used_count slots < length slots → is_used e ≡ true → NoneBehind h slots → met_slots h (slots_with slots e) ≡ met_slots h slots ++ cond (has_hash h e) (e ∷ []) []
met_slots-slots_with h slots e room used none =
    let p = put h slots e room in
    met_slots-met h (slots_with slots e)
    ∙ ap (met is_used (has_hash h)) (from_home-slots_with h slots e room)
    ∙ met-set is_used (has_hash h) (from_home h slots) (turned_free h slots e.first) e e p.within p.empty used p.first none
    ∙ ap (λ m. m ++ cond (has_hash h e) (e ∷ []) []) (sym (met_slots-met h slots))

pub NoneBehind-slots_with : (h : ℕ) (slots : List WordPair) (e : WordPair) → used_count slots < length slots → is_used e ≡ true → NoneBehind h slots → NoneBehind h (slots_with slots e)
NoneBehind-slots_with h slots e room used none =
    let p = put h slots e room in
    subst (HasNoneBehind is_used (has_hash h)) (sym (from_home-slots_with h slots e room))
    (HasNoneBehind-set is_used (has_hash h) (from_home h slots) (turned_free h slots e.first) e e p.within p.empty used p.first none)

pub used_count-slots_with : (slots : List WordPair) (e : WordPair) → used_count slots < length slots → is_used e ≡ true → used_count (slots_with slots e) ≡ used_count slots + 1
used_count-slots_with slots e room used =
    let f = free slots e.first room in
    let more : used_count (set slots (free_slot slots e.first) e) + cond {A = ℕ} (is_used (get_or slots (free_slot slots e.first) e)) 1 0 ≡ used_count slots + cond {A = ℕ} (is_used e) 1 0 = sum_by-set (λ (x : WordPair). cond {A = ℕ} (is_used x) 1 0) slots (free_slot slots e.first) e e f.within in
    let old = counts_none (is_used (get_or slots (free_slot slots e.first) e)) (f.empty e) in
    let new = counts_one (is_used e) used in
    ap used_count (slots_with-set slots e) ∙ omega arith

-- entries are used slots
abbrev pub IsUsed : WordPair → Type 0
IsUsed e = is_used e ≡ true

abbrev pub AllUsed : List WordPair → Type 0
AllUsed es = All IsUsed es

joined : (b : Bool) (e : WordPair) (ys : List WordPair) → cond b (e ∷ []) [] ++ ys ≡ cond b (e ∷ ys) ys
joined true e ys = refl
joined false e ys = refl

filter_cons : (h : ℕ) (e : WordPair) (es xs : List WordPair) → (xs ++ cond (has_hash h e) (e ∷ []) []) ++ filter (has_hash h) es ≡ xs ++ filter (has_hash h) (e ∷ es)
filter_cons h e es xs = append_assoc xs (cond (has_hash h e) (e ∷ []) []) (filter (has_hash h) es) ∙ ap (λ t. xs ++ t) (joined (has_hash h e) e (filter (has_hash h) es))

-- entries in turn, into slots that have room for them
pub met_slots-filled_from : (h : ℕ) (es slots : List WordPair) → used_count slots + length es ≤ length slots → AllUsed es → NoneBehind h slots → met_slots h (fold slots_with slots es) ≡ met_slots h slots ++ filter (has_hash h) es
met_slots-filled_from h [] slots room used none = sym (append-nil (met_slots h slots))
met_slots-filled_from h (e ∷ es) slots room used none =
    let here : used_count slots < length slots = omega arith in
    let long = length-slots_with slots e in
    let count = used_count-slots_with slots e here (All-head IsUsed e es used) in
    met_slots-filled_from h es (slots_with slots e) (omega arith) (All-tail IsUsed e es used) (NoneBehind-slots_with h slots e here (All-head IsUsed e es used) none)
    ∙ ap (λ t. t ++ filter (has_hash h) es) (met_slots-slots_with h slots e here (All-head IsUsed e es used) none)
    ∙ filter_cons h e es (met_slots h slots)

HasNone-empty : (h n : ℕ) → HasNone is_used (has_hash h) (replicate n empty_slot)
HasNone-empty h zero = tt
HasNone-empty h (suc n) = (λ t. absurd (both_ways false refl t), HasNone-empty h n)

slots_from-replicate : (home n : ℕ) → home ≤ n → slots_from home (replicate n empty_slot) ≡ replicate n empty_slot
slots_from-replicate home n h =
    ap (λ t. t ++ take home (replicate n empty_slot)) (drop-replicate home n empty_slot)
    ∙ ap (λ t. replicate (n - home) empty_slot ++ t) (take-replicate home n empty_slot h)
    ∙ replicate-append-replicate (n - home) home empty_slot
    ∙ ap (λ k. replicate k empty_slot) (let e : n - home + home ≡ n = omega arith in e)

pub slots_from-none : (k : ℕ) → slots_from k [] ≡ []
slots_from-none zero = refl
slots_from-none (suc k) = refl

pub from_home-replicate : (h n : ℕ) → from_home h (replicate n empty_slot) ≡ replicate n empty_slot
from_home-replicate h zero = slots_from-none (home_slot h 0)
from_home-replicate h (suc n) =
    let long = length-replicate (suc n) empty_slot in
    let home_in : home_slot h (length (replicate (suc n) empty_slot)) < length (replicate (suc n) empty_slot) = omega arith in
    slots_from-replicate (home_slot h (length (replicate (suc n) empty_slot))) (suc n) (omega arith)

HasNone-home : (h n : ℕ) → HasNone is_used (has_hash h) (from_home h (replicate n empty_slot))
HasNone-home h n = subst (HasNone is_used (has_hash h)) (sym (from_home-replicate h n)) (HasNone-empty h n)

pub used_count-empty : (n : ℕ) → used_count (replicate n empty_slot) ≡ 0
used_count-empty zero = refl
used_count-empty (suc n) = used_count-empty n

pub NoneBehind-empty : (h n : ℕ) → NoneBehind h (replicate n empty_slot)
NoneBehind-empty h n = HasNoneBehind-HasNone is_used (has_hash h) (from_home h (replicate n empty_slot)) (HasNone-home h n)

-- the heart: from the home of a hash to the first empty slot are its entries, in their order
pub met_slots-filled_slots : (h n : ℕ) (es : List WordPair) → length es ≤ n → AllUsed es → met_slots h (filled_slots n es) ≡ filter (has_hash h) es
unfolding filled_slots
met_slots-filled_slots h n es room used =
    let long = length-replicate n empty_slot in
    let count = used_count-empty n in
    met_slots-filled_from h es (replicate n empty_slot) (omega arith) used (NoneBehind-empty h n)
    ∙ ap (λ t. t ++ filter (has_hash h) es) (met_slots-met h (replicate n empty_slot) ∙ met-HasNone is_used (has_hash h) (from_home h (replicate n empty_slot)) (HasNone-home h n))

pub met_slots-none : (h : ℕ) → met_slots h [] ≡ []
unfolding met_slots
met_slots-none h = ap (λ t. filter (has_hash h) (take_while is_used t)) (slots_from-none (home_slot h 0))
