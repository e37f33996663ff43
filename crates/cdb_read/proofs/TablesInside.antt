-- A file whose tables lie inside it: neither its walk nor a look-up has the damage of a table.
use Rattle.cdb_read.proofs.Words.{All-from_get_or, Bool, Found, List, Walked, WordPair, [], ap, arith, false, found_at, get_or, get_or-map-range_with_len, has_slots, head_at, head_size, inl, inr, is_inside, is_whole, key_hash, length, length-map-range_with_len, lookup_of, map, nth_pair, record_end, recursion_from_All, refl, subst, sym, table_number, true, walk_from, walk_of, walk_of-records, walk_of-short, ℕ, ◌+◌, ◌<◌, ◌∙◌, ◌∷◌, ◌≡◌, ◌≤◌}
use Rattle.std.specs.Prelude.{Option, Some, None, cond, filter, find, min, nat_lt, not, option_map, position, unwrap_or, fold}
use Rattle.std.specs.List.{AllByRecursion, position_or_len, reduce}
use Rattle.std.proofs.lemmas.Bool.{and_from, both_ways, cases_Bool, cases_lt, cond-true, cond_both, lt-ltb, not_from_false}
use Rattle.std.proofs.lemmas.List.Sums.{fails_before_first}
use Rattle.cdb_form.specs.declared.damage.Damage.TheVariants.{Record, Table}
use Rattle.cdb_read.specs.Statistics.{is_outside, outside_table}
use Rattle.cdb_read.proofs.Probing.Beginnings.{is_inside-lies}
use Rattle.cdb_read.proofs.Walked.Walks.{record_end-is}
use Rattle.cdb_read.proofs.WholeFiles.LookupLaws.{lookup_of-inside}

-- no element passes
none_passes : {X : Type 0} (p : X → Bool) (xs : List X) (d : X) (k : ℕ) → position p xs ≡ None → k < length xs → p (get_or xs k d) ≡ false
none_passes p xs d k none low = elim (cases_lt (position_or_len p xs) (length xs)) [
  | inl at ↦ absurd (let e = sym none ∙ cond-true (nat_lt (position_or_len p xs) (length xs)) (Some (position_or_len p xs)) None (lt-ltb (position_or_len p xs) (length xs) at) in cc)
  | inr past ↦ fails_before_first p xs k d (omega (arith, past, low))
]

-- a table with slots that isn't outside lies inside
is_not_outside : (w : ℕ) (b : List ℕ) (p : WordPair) → is_outside w b p ≡ false → has_slots p ≡ true → is_inside w b p ≡ true
is_not_outside w b p inside has = elim (cases_Bool (is_inside w b p)) [
  | inl t ↦ t
  | inr f ↦ absurd (both_ways (is_outside w b p) inside (and_from (has_slots p) (not (is_inside w b p)) has (not_from_false (is_inside w b p) f)))
]

-- ---- the walk

fold_min-ge : (low a : ℕ) (xs : List ℕ) → low ≤ a → AllByRecursion (λ x. low ≤ x) xs → low ≤ fold min a xs
fold_min-ge low a [] h all = h
fold_min-ge low a (x ∷ xs) h all = let first = all.0 in fold_min-ge low (min a x) xs (omega arith) all.1

least_of-ge : (none low : ℕ) (xs : List ℕ) → low ≤ none → AllByRecursion (λ x. low ≤ x) xs → low ≤ unwrap_or (reduce min xs) none
least_of-ge none low [] h all = h
least_of-ge none low (x ∷ xs) h all = fold_min-ge low x xs all.0 all.1

starts-ge : (w : ℕ) (b : List ℕ) (ps : List WordPair) → AllByRecursion (λ p. is_outside w b p ≡ false) ps → AllByRecursion (λ x. head_size w ≤ x) (map (λ (p : WordPair). p.first) (filter has_slots ps))
starts-ge w b [] all = tt
starts-ge w b (p ∷ ps) all =
    cond_both (has_slots p) (p ∷ filter has_slots ps) (filter has_slots ps) (λ qs. AllByRecursion (λ x. head_size w ≤ x) (map (λ (q : WordPair). q.first) qs))
    (λ has. ((is_inside-lies w (length b) b p refl (is_not_outside w b p all.0 has)).behind, starts-ge w b ps all.1)) (λ none. starts-ge w b ps all.1)

ends_behind : (w : ℕ) (b : List ℕ) → outside_table w b ≡ None → head_size w ≤ record_end w b
ends_behind w b none =
    let d : WordPair = record { first = 0; second = 0 } in
    let each = recursion_from_All (λ p. is_outside w b p ≡ false) (head_at w b) (All-from_get_or (λ p. is_outside w b p ≡ false) (head_at w b) d (λ k low. none_passes (is_outside w b) (head_at w b) d k none low)) in
    subst (λ n. head_size w ≤ n) (sym (record_end-is w b)) (least_of-ge (head_size w) (head_size w) (map (λ (p : WordPair). p.first) (filter has_slots (head_at w b))) (omega arith) (starts-ge w b (head_at w b) each))

stops_at_no_table : (ended : Bool) (stop n : ℕ) → cond ended None (Some (Record stop)) ≡ Some (Table n) → ⊥
stops_at_no_table true stop n h = cc
stops_at_no_table false stop n h = cc

from_no_table : (w place end n : ℕ) (bytes : List ℕ) → (walk_from w place end bytes).damage ≡ Some (Table n) → ⊥
unfolding walk_from
from_no_table w place end n bytes h = stops_at_no_table _ _ n h

pub walk_meets_no_table : (w n : ℕ) (b : List ℕ) → outside_table w b ≡ None → (walk_of w b).damage ≡ Some (Table n) → ⊥
walk_meets_no_table w n b none h = elim (cases_lt (length b) (head_size w)) [
  | inl short ↦ (let e = sym h ∙ ap (λ (x : Walked). x.damage) (walk_of-short w b short) in cc)
  | inr long ↦ from_no_table w _ _ n _ (sym (ap (λ (x : Walked). x.damage) (walk_of-records w b long (ends_behind w b none))) ∙ h)
]

-- ---- look-ups

places_no_table : (other : Option ℕ) (n : ℕ) → option_map (λ place. Record place) other ≡ Some (Table n) → ⊥
places_no_table None n h = cc
places_no_table (Some place) n h = cc

at_no_table : (w n : ℕ) (b key places : List ℕ) → (found_at w b key places).damage ≡ Some (Table n) → ⊥
unfolding found_at
at_no_table w n b key places h = places_no_table (find (λ place. not (is_whole w b place)) places) n h

table_inside : (w n : ℕ) (b : List ℕ) → outside_table w b ≡ None → n < 256 → has_slots (nth_pair w b n) ≡ true → is_inside w b (nth_pair w b n) ≡ true
unfolding head_at
table_inside w n b none low =
    let d : WordPair = record { first = 0; second = 0 } in
    let many = length-map-range_with_len (nth_pair w b) 0 256 in
    let at : 0 + n ≡ n = omega arith in
    let is = get_or-map-range_with_len (nth_pair w b) 0 256 n n d low at in
    is_not_outside w b (nth_pair w b n) (ap (is_outside w b) (sym is) ∙ none_passes (is_outside w b) (head_at w b) d n none (omega (arith, many, low)))

pub lookup_meets_no_table : (w n : ℕ) (b key : List ℕ) → outside_table w b ≡ None → (lookup_of w b key).damage ≡ Some (Table n) → ⊥
lookup_meets_no_table w n b key none h =
    let t = table_number (key_hash key) in
    at_no_table w n b key _ (sym (ap (λ (f : Found). f.damage) (lookup_of-inside w b key (nth_pair w b t) refl (table_inside w t b none (omega arith)))) ∙ h)
