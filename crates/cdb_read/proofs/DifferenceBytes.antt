-- The records that a difference leaves are lists of bytes, and so is what it says.
use Rattle.cdb_read.proofs.Words.{AllByRecursion, AreBytes, Bool, IsRecord, KeyValue, List, [], after_change, all_of, amended, brought_up, bytes_eq, cases_Bool, changed_keys, cond-false, cond-true, difference, filter, first_keys, flat_map, inl, inr, is_changed, map, not, puts_of, record_of, removal_of_new, subst, sym, values_of, ℕ, ⊤, ◌++◌, ◌∷◌}
use Rattle.cdb_form.specs.Text.Parse.{Change, Putting, Removing}

all_filtered : {X : Type 0} (P : X → Type 0) (q : X → Bool) (xs : List X) → AllByRecursion P xs → AllByRecursion P (filter q xs)
all_filtered P q [] all = tt
all_filtered P q (x ∷ xs) all =
    let left = filter q xs in
    elim (cases_Bool (q x)) [
      | inl t ↦ subst (AllByRecursion P) (sym (cond-true (q x) (x ∷ left) left t)) (all.0, all_filtered P q xs all.1)
      | inr f ↦ subst (AllByRecursion P) (sym (cond-false (q x) (x ∷ left) left f)) (all_filtered P q xs all.1)
    ]

all_appended : {X : Type 0} (P : X → Type 0) (xs ys : List X) → AllByRecursion P xs → AllByRecursion P ys → AllByRecursion P (xs ++ ys)
all_appended P [] ys all more = more
all_appended P (x ∷ xs) ys all more = (all.0, all_appended P xs ys all.1 more)

keys_bytes : (rs : List KeyValue) → AllByRecursion IsRecord rs → AllByRecursion AreBytes (first_keys rs)
unfolding first_keys
keys_bytes [] all = tt
keys_bytes (r ∷ rs) all = (all.0.key, all_filtered AreBytes (λ k. not (bytes_eq k r.key)) (first_keys rs) (keys_bytes rs all.1))

fields_bytes : (rs : List KeyValue) → AllByRecursion IsRecord rs → AllByRecursion AreBytes (map (λ (r : KeyValue). r.value) rs)
fields_bytes [] all = tt
fields_bytes (r ∷ rs) all = (all.0.value, fields_bytes rs all.1)

-- what a change puts is a record
abbrev pub PutsRecord : Change → Type 0
PutsRecord (Putting r) = IsRecord r
PutsRecord (Removing key) = ⊤

removals_put : (ks : List (List ℕ)) → AllByRecursion PutsRecord (map Removing ks)
removals_put [] = tt
removals_put (k ∷ ks) = (tt, removals_put ks)

values_put : (k : List ℕ) (vs : List (List ℕ)) → AreBytes k → AllByRecursion AreBytes vs → AllByRecursion PutsRecord (map (λ value. Putting (record_of k value)) vs)
values_put k [] key all = tt
values_put k (v ∷ vs) key all = (record { key = key; value = all.0 }, values_put k vs key all.1)

new_put : (vs : List (List ℕ)) (k : List ℕ) → AllByRecursion PutsRecord (removal_of_new vs k)
new_put [] k = (tt, tt)
new_put (v ∷ vs) k = tt

keys_put : (rs ss : List KeyValue) (ks : List (List ℕ)) → AllByRecursion IsRecord ss → AllByRecursion AreBytes ks → AllByRecursion PutsRecord (flat_map (all_of rs ss) ks)
keys_put rs ss [] all keys = tt
keys_put rs ss (k ∷ ks) all keys =
    all_appended PutsRecord (all_of rs ss k) (flat_map (all_of rs ss) ks)
    (all_appended PutsRecord (removal_of_new (values_of k rs) k) (puts_of ss k) (new_put (values_of k rs) k)
    (values_put k (values_of k ss) keys.0 (fields_bytes (filter (λ r. bytes_eq r.key k) ss) (all_filtered IsRecord (λ r. bytes_eq r.key k) ss all))))
    (keys_put rs ss ks all keys.1)

difference_puts : (rs ss : List KeyValue) → AllByRecursion IsRecord ss → AllByRecursion PutsRecord (difference rs ss)
unfolding difference
difference_puts rs ss all =
    all_appended PutsRecord (map Removing (changed_keys rs ss)) (flat_map (all_of rs ss) (changed_keys ss rs)) (removals_put (changed_keys rs ss))
    (keys_put rs ss (changed_keys ss rs) all (all_filtered AreBytes (is_changed ss rs) (first_keys ss) (keys_bytes ss all)))

amended_records : (rs : List KeyValue) (changes : List Change) → AllByRecursion IsRecord rs → AllByRecursion PutsRecord changes → AllByRecursion IsRecord (amended rs changes)
amended_records rs [] all puts = all
amended_records rs (Putting r ∷ changes) all puts = amended_records (rs ++ r ∷ []) changes (all_appended IsRecord rs (r ∷ []) all (puts.0, tt)) puts.1
amended_records rs (Removing key ∷ changes) all puts = amended_records (after_change rs (Removing key)) changes (all_filtered IsRecord (λ r. not (bytes_eq r.key key)) rs all) puts.1

pub brought_up_records : (rs ss : List KeyValue) → AllByRecursion IsRecord rs → AllByRecursion IsRecord ss → AllByRecursion IsRecord (brought_up rs ss)
brought_up_records rs ss old new = amended_records rs (difference rs ss) old (difference_puts rs ss new)
