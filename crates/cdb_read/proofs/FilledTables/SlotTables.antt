-- The slots of a filled table: what is in them, that a search comes to each, and how many there are.
use Rattle.cdb_read.proofs.Words.{All, All-head, All-replicate, All-set, All-tail, Bool, List, WordPair, [], ap, arith, both_ways, cond, count_by, empty_slot, false, filled_slots, fold, get_or, is_used, length, length-replicate, length-slots_with, refl, replicate, set, slots_with, sum_by-set, true, ℕ, ◌+◌, ◌<◌, ◌∙◌, ◌∷◌, ◌≡◌, ◌≤◌}
use Rattle.cdb_read.proofs.Lists.Counts.{count-cons, counts_none, count_zero}
use Rattle.cdb_read.proofs.FilledTables.Filled.{IsUsed, AllUsed, NoneBehind, NoneBehind-empty, NoneBehind-slots_with, used_count, used_count-slots_with, used_count-empty, free, free_slot, slots_with-set}

-- what holds of the entries, holds of the used slots
abbrev WhenUsed : (WordPair → Type 0) → WordPair → Type 0
WhenUsed P s = is_used s ≡ true → P s

told-filled_from : (P : WordPair → Type 0) (es slots : List WordPair) → All (WhenUsed P) slots → All P es → All (WhenUsed P) (fold slots_with slots es)
unfolding slots_with
told-filled_from P [] slots old new = old
told-filled_from P (e ∷ es) slots old new = told-filled_from P es (slots_with slots e) (All-set (WhenUsed P) slots _ e (λ u. All-head P e es new) old) (All-tail P e es new)

pub told-filled_slots : (P : WordPair → Type 0) (n : ℕ) (es : List WordPair) → All P es → All (λ s. is_used s ≡ true → P s) (filled_slots n es)
unfolding filled_slots
told-filled_slots P n es all = told-filled_from P es (replicate n empty_slot) (All-replicate (WhenUsed P) n empty_slot (λ u. absurd (both_ways false refl u))) all

-- no entry of a hash is after the first empty slot from its home
NoneBehind-filled_from : (h : ℕ) (es slots : List WordPair) → used_count slots + length es ≤ length slots → AllUsed es → NoneBehind h slots → NoneBehind h (fold slots_with slots es)
NoneBehind-filled_from h [] slots room used none = none
NoneBehind-filled_from h (e ∷ es) slots room used none =
    let here : used_count slots < length slots = omega arith in
    let long = length-slots_with slots e in
    let first = All-head IsUsed e es used in
    let count = used_count-slots_with slots e here first in
    NoneBehind-filled_from h es (slots_with slots e) (omega arith) (All-tail IsUsed e es used) (NoneBehind-slots_with h slots e here first none)

pub NoneBehind-filled_slots : (h n : ℕ) (es : List WordPair) → length es ≤ n → AllUsed es → NoneBehind h (filled_slots n es)
unfolding filled_slots
NoneBehind-filled_slots h n es room used =
    let long = length-replicate n empty_slot in
    let count = used_count-empty n in
    NoneBehind-filled_from h es (replicate n empty_slot) (omega arith) used (NoneBehind-empty h n)

-- a test that no empty slot passes
abbrev pub OnlyUsed : (WordPair → Bool) → Type 0
OnlyUsed q = (s : WordPair) → is_used s ≡ false → q s ≡ false

count-slots_with : (q : WordPair → Bool) (slots : List WordPair) (e : WordPair) → OnlyUsed q → used_count slots < length slots → count_by q (slots_with slots e) ≡ count_by q slots + cond {A = ℕ} (q e) 1 0
count-slots_with q slots e only room =
    let f = free slots e.first room in
    let old_slot = get_or slots (free_slot slots e.first) e in
    let more : count_by q (set slots (free_slot slots e.first) e) + cond {A = ℕ} (q old_slot) 1 0 ≡ count_by q slots + cond {A = ℕ} (q e) 1 0 = sum_by-set (λ (x : WordPair). cond {A = ℕ} (q x) 1 0) slots (free_slot slots e.first) e e f.within in
    let old = counts_none (q old_slot) (only old_slot (f.empty e)) in
    ap (count_by q) (slots_with-set slots e) ∙ omega arith

plus_zero : (n : ℕ) → n ≡ n + 0
plus_zero n = omega arith

count-filled_from : (q : WordPair → Bool) (es slots : List WordPair) → OnlyUsed q → used_count slots + length es ≤ length slots → AllUsed es → count_by q (fold slots_with slots es) ≡ count_by q slots + count_by q es
count-filled_from q [] slots only room used = plus_zero (count_by q slots)
count-filled_from q (e ∷ es) slots only room used =
    let here : used_count slots < length slots = omega arith in
    let long = length-slots_with slots e in
    let count = used_count-slots_with slots e here (All-head IsUsed e es used) in
    let one = count-slots_with q slots e only here in
    let both = count-cons q e es in
    let ih = count-filled_from q es (slots_with slots e) only (omega arith) (All-tail IsUsed e es used) in
    ih ∙ omega arith

-- as many slots pass it as entries
pub count-filled_slots : (q : WordPair → Bool) (n : ℕ) (es : List WordPair) → OnlyUsed q → length es ≤ n → AllUsed es → count_by q (filled_slots n es) ≡ count_by q es
unfolding filled_slots
count-filled_slots q n es only room used =
    let long = length-replicate n empty_slot in
    let count = used_count-empty n in
    let none = count_zero q (replicate n empty_slot) (All-replicate (λ x. q x ≡ false) n empty_slot (only empty_slot refl)) in
    count-filled_from q es (replicate n empty_slot) only (omega arith) used ∙ omega arith
