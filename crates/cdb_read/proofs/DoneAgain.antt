-- A difference that is done again leaves the very records that it left.
use Rattle.cdb_read.proofs.Words.{Bool, KeyValue, List, Putting, Removing, [], and_from, and_parts, and_right, ap, append-nil, append_assoc, arith, bytes_eq, bytes_eq-Decides, cases_Bool, cond, cond-false, cond-true, false, filter, filter-append, flat_map, fold-append, inl, inr, length, map, not, record_of, refl, subst, sym, true, values_of, ℕ, ◌&&◌, ◌++◌, ◌∙◌, ◌∷◌, ◌≡◌, ◌≤◌}
use Rattle.cdb_read.proofs.Differences.{at_key, changed_back, eq_itself, eq_other_way, filter_both, filter_same, none_there, once, there}
use Rattle.cdb_read.specs.Difference.{after_change, all_of, amended, changed_keys, difference, first_keys, is_changed, puts_of, removal_of_new}

-- ---- a key among some

-- a key as often as it is among some
abbrev hits : List ℕ → List (List ℕ) → List (List ℕ)
hits key ks = flat_map (at_key key (key ∷ [])) ks

has_any : {X : Type 0} → List X → Bool
has_any [] = false
has_any (x ∷ xs) = true

abbrev among : List ℕ → List (List ℕ) → Bool
among key ks = has_any (hits key ks)

eq_both : (xs ys : List ℕ) → bytes_eq xs ys ≡ bytes_eq ys xs
eq_both xs ys = elim (cases_Bool (bytes_eq xs ys)) [
  | inl t ↦ t ∙ sym ((bytes_eq-Decides ys xs).1 (sym ((bytes_eq-Decides xs ys).0 t)))
  | inr f ↦ f ∙ sym (eq_other_way xs ys f)
]

any_more : {X : Type 0} (b : Bool) (x : X) (xs : List X) → has_any (cond b (x ∷ []) [] ++ xs) ≡ cond b true (has_any xs)
unfolding has_any
any_more true x xs = refl
any_more false x xs = refl

any_one : {X : Type 0} (b : Bool) (x : X) → has_any (cond b (x ∷ []) []) ≡ b
unfolding has_any
any_one true x = refl
any_one false x = refl

-- each is among them once
abbrev AreApart : List (List ℕ) → Type 0
AreApart ks = (key : List ℕ) → length (hits key ks) ≤ 1

few_more : {X : Type 0} (b : Bool) (x : X) (xs : List X) → length (cond b (x ∷ []) [] ++ xs) ≤ 1 → length xs ≤ 1
few_more true x xs few = omega (arith, few)
few_more false x xs few = few

few_others : {X : Type 0} (x : X) (xs : List X) → length (x ∷ xs) ≤ 1 → has_any xs ≡ false
unfolding has_any
few_others x [] few = refl
few_others x (y ∷ xs) few = absurd (omega (arith, few))

one_at_most : {X : Type 0} (b : Bool) (x : X) → length (cond b (x ∷ []) []) ≤ 1
one_at_most true x = omega arith
one_at_most false x = omega arith

others_apart : (k : List ℕ) (ks : List (List ℕ)) → AreApart (k ∷ ks) → AreApart ks
others_apart k ks apart key = few_more (bytes_eq k key) key (hits key ks) (apart key)

first_apart : (k : List ℕ) (ks : List (List ℕ)) → AreApart (k ∷ ks) → among k ks ≡ false
first_apart k ks apart = few_others k (hits k ks) (subst (λ b. length (cond b (k ∷ []) [] ++ hits k ks) ≤ 1) (eq_itself k) (apart k))

keys_apart : (p : List ℕ → Bool) (rs : List KeyValue) → AreApart (filter p (first_keys rs))
keys_apart p rs key = subst (λ ks. length ks ≤ 1) (sym (once key (key ∷ []) p rs)) (one_at_most (there key rs && p key) key)

among_keys : (key : List ℕ) (p : List ℕ → Bool) (rs : List KeyValue) → among key (filter p (first_keys rs)) ≡ (there key rs && p key)
among_keys key p rs = ap has_any (once key (key ∷ []) p rs) ∙ any_one (there key rs && p key) key

-- ---- what removals leave

all_left : {X : Type 0} (xs : List X) → xs ≡ filter (λ x. true) xs
all_left [] = refl
all_left (x ∷ xs) = ap (λ ys. x ∷ ys) (all_left xs)

neither : {X : Type 0} (b : Bool) (x : X) (xs : List X) → (not b && not (has_any xs)) ≡ not (has_any (cond b (x ∷ []) [] ++ xs))
unfolding has_any
neither true x xs = refl
neither false x xs = refl

removed_left : (ks : List (List ℕ)) (ts : List KeyValue) → amended ts (map Removing ks) ≡ filter (λ r. not (among r.key ks)) ts
unfolding has_any
removed_left [] ts = all_left ts
removed_left (k ∷ ks) ts =
    removed_left ks (filter (λ r. not (bytes_eq r.key k)) ts)
    ∙ filter_both (λ (r : KeyValue). not (among r.key ks)) (λ r. not (bytes_eq r.key k)) ts
    ∙ filter_same (λ (r : KeyValue). not (bytes_eq r.key k) && not (among r.key ks)) (λ r. not (among r.key (k ∷ ks))) ts
    (λ r. ap (λ b. not b && not (among r.key ks)) (eq_both r.key k) ∙ neither (bytes_eq k r.key) r.key (hits r.key ks))

-- ---- what comes of all that is said of some keys

abbrev lacks : List KeyValue → List ℕ → Bool
lacks rs key = not (has_any (values_of key rs))

abbrev stays : List KeyValue → List (List ℕ) → KeyValue → Bool
stays rs ks r = not (among r.key ks && lacks rs r.key)

abbrev stays_one : List KeyValue → List ℕ → KeyValue → Bool
stays_one rs k r = not (bytes_eq r.key k && lacks rs k)

abbrev records_at : List KeyValue → List ℕ → List KeyValue
records_at ss k = map (record_of k) (values_of k ss)

and_true : (b : Bool) → b ≡ (b && true)
and_true true = refl
and_true false = refl

and_false : (b : Bool) → true ≡ not (b && false)
and_false true = refl
and_false false = refl

new_left : (us : List (List ℕ)) (k : List ℕ) (ts : List KeyValue) → amended ts (removal_of_new us k) ≡ filter (λ r. not (bytes_eq r.key k && not (has_any us))) ts
unfolding has_any
new_left [] k ts = filter_same (λ (r : KeyValue). not (bytes_eq r.key k)) (λ r. not (bytes_eq r.key k && true)) ts (λ r. ap not (and_true (bytes_eq r.key k)))
new_left (u ∷ us) k ts = all_left ts ∙ filter_same (λ (r : KeyValue). true) (λ r. not (bytes_eq r.key k && false)) ts (λ r. and_false (bytes_eq r.key k))

put_last : (k : List ℕ) (vs : List (List ℕ)) (ts : List KeyValue) → amended ts (map (λ value. Putting (record_of k value)) vs) ≡ ts ++ map (record_of k) vs
put_last k [] ts = sym (append-nil ts)
put_last k (v ∷ vs) ts = put_last k vs (ts ++ record_of k v ∷ []) ∙ append_assoc ts (record_of k v ∷ []) (map (record_of k) vs)

one_left : (rs ss : List KeyValue) (k : List ℕ) (ts : List KeyValue) → amended ts (all_of rs ss k) ≡ filter (stays_one rs k) ts ++ records_at ss k
one_left rs ss k ts =
    fold-append after_change ts (removal_of_new (values_of k rs) k) (puts_of ss k)
    ∙ put_last k (values_of k ss) (amended ts (removal_of_new (values_of k rs) k))
    ∙ ap (λ xs. xs ++ records_at ss k) (new_left (values_of k rs) k ts)

-- both tests are the test of one key more
with_same : (l a : Bool) → (not (true && l) && not (a && l)) ≡ not (true && l)
with_same true a = refl
with_same false true = refl
with_same false false = refl

both_stay : (rs : List KeyValue) (k : List ℕ) (ks : List (List ℕ)) (r : KeyValue) → (stays_one rs k r && stays rs ks r) ≡ stays rs (k ∷ ks) r
both_stay rs k ks r =
    let l = lacks rs r.key in
    let a = among r.key ks in
    let more : stays rs (k ∷ ks) r ≡ not (cond (bytes_eq r.key k) true a && l) = ap (λ b. not (b && l)) (any_more (bytes_eq k r.key) r.key (hits r.key ks) ∙ ap (λ b. cond b true a) (eq_both k r.key)) in
    elim (cases_Bool (bytes_eq r.key k)) [
      | inl t ↦
          ap (λ b. not (b && lacks rs k) && not (a && l)) t
          ∙ ap (λ key. not (true && lacks rs key) && not (a && l)) (sym ((bytes_eq-Decides r.key k).0 t))
          ∙ with_same l a
          ∙ sym (more ∙ ap (λ b. not (cond b true a && l)) t)
      | inr f ↦ ap (λ b. not (b && lacks rs k) && not (a && l)) f ∙ sym (more ∙ ap (λ b. not (cond b true a && l)) f)
    ]

all_stay : (p : KeyValue → Bool) (k : List ℕ) (vs : List (List ℕ)) → ((value : List ℕ) → p (record_of k value) ≡ true) → filter p (map (record_of k) vs) ≡ map (record_of k) vs
all_stay p k [] each = refl
all_stay p k (v ∷ vs) each = cond-true (p (record_of k v)) (record_of k v ∷ filter p (map (record_of k) vs)) (filter p (map (record_of k) vs)) (each v) ∙ ap (λ rs. record_of k v ∷ rs) (all_stay p k vs each)

said_left : (rs ss : List KeyValue) (ks : List (List ℕ)) (ts : List KeyValue) → AreApart ks → amended ts (flat_map (all_of rs ss) ks) ≡ filter (stays rs ks) ts ++ flat_map (records_at ss) ks
unfolding has_any
said_left rs ss [] ts apart = all_left ts ∙ sym (append-nil (filter (λ (x : KeyValue). true) ts))
said_left rs ss (k ∷ ks) ts apart =
    let others = flat_map (records_at ss) ks in
    let mine = records_at ss k in
    let left = filter (stays_one rs k) ts in
    let kept : filter (stays rs ks) mine ≡ mine = all_stay (stays rs ks) k (values_of k ss) (λ value. ap (λ b. not (b && lacks rs k)) (first_apart k ks apart)) in
    fold-append after_change ts (all_of rs ss k) (flat_map (all_of rs ss) ks)
    ∙ said_left rs ss ks (amended ts (all_of rs ss k)) (others_apart k ks apart)
    ∙ ap (λ xs. filter (stays rs ks) xs ++ others) (one_left rs ss k ts)
    ∙ ap (λ xs. xs ++ others) (filter-append (stays rs ks) left mine ∙ ap (λ xs. filter (stays rs ks) left ++ xs) kept)
    ∙ append_assoc (filter (stays rs ks) left) mine others
    ∙ ap (λ xs. xs ++ (mine ++ others)) (filter_both (stays rs ks) (stays_one rs k) ts ∙ filter_same (λ r. stays_one rs k r && stays rs ks r) (stays rs (k ∷ ks)) ts (both_stay rs k ks))

-- ---- what a difference leaves: the records that it does not name, and those that it puts

abbrev stays_whole : (rs ss : List KeyValue) → KeyValue → Bool
stays_whole rs ss r = not (among r.key (changed_keys rs ss)) && stays rs (changed_keys ss rs) r

abbrev put_whole : (rs ss : List KeyValue) → List KeyValue
put_whole rs ss = flat_map (records_at ss) (changed_keys ss rs)

whole_left : (rs ss ts : List KeyValue) → amended ts (difference rs ss) ≡ filter (stays_whole rs ss) ts ++ put_whole rs ss
unfolding difference
whole_left rs ss ts =
    let gone = map Removing (changed_keys rs ss) in
    fold-append after_change ts gone (flat_map (all_of rs ss) (changed_keys ss rs))
    ∙ said_left rs ss (changed_keys ss rs) (amended ts gone) (keys_apart (is_changed ss rs) ss)
    ∙ ap (λ xs. filter (stays rs (changed_keys ss rs)) xs ++ put_whole rs ss) (removed_left (changed_keys rs ss) ts)
    ∙ ap (λ xs. xs ++ put_whole rs ss) (filter_both (stays rs (changed_keys ss rs)) (λ r. not (among r.key (changed_keys rs ss))) ts)

-- ---- no record that it puts stays if it is done again

twice : (b : Bool) → (b && b) ≡ b
twice true = refl
twice false = refl

none_stay : (p : KeyValue → Bool) (k : List ℕ) (vs : List (List ℕ)) → ((value : List ℕ) → p (record_of k value) ≡ false) → filter p (map (record_of k) vs) ≡ []
none_stay p k [] each = refl
none_stay p k (v ∷ vs) each = cond-false (p (record_of k v)) (record_of k v ∷ filter p (map (record_of k) vs)) (filter p (map (record_of k) vs)) (each v) ∙ none_stay p k vs each

either_true : (b : Bool) → cond b true true ≡ true
either_true true = refl
either_true false = refl

puts_go : (p : KeyValue → Bool) (ss : List KeyValue) (ks : List (List ℕ)) → ((key value : List ℕ) → among key ks ≡ true → p (record_of key value) ≡ false) → filter p (flat_map (records_at ss) ks) ≡ []
puts_go p ss [] each = refl
puts_go p ss (k ∷ ks) each =
    let others = flat_map (records_at ss) ks in
    let here : among k (k ∷ ks) ≡ true = any_more (bytes_eq k k) k (hits k ks) ∙ ap (λ b. cond b true (among k ks)) (eq_itself k) in
    filter-append p (records_at ss k) others
    ∙ ap (λ xs. xs ++ filter p others) (none_stay p k (values_of k ss) (λ value. each k value here))
    ∙ puts_go p ss ks (λ key value t. each key value (any_more (bytes_eq k key) key (hits key ks) ∙ ap (λ a. cond (bytes_eq k key) true a) t ∙ either_true (bytes_eq k key)))

puts_whole_go : (rs ss : List KeyValue) (key value : List ℕ) → among key (changed_keys ss rs) ≡ true → stays_whole rs ss (record_of key value) ≡ false
unfolding has_any
puts_whole_go rs ss key value t =
    let changed : is_changed ss rs key ≡ true = (and_parts (there key ss) (is_changed ss rs key) (sym (among_keys key (is_changed ss rs) ss) ∙ t)).1 in
    let old = among key (changed_keys rs ss) in
    elim (cases_Bool (there key rs)) [
      | inl is ↦ ap (λ b. not b && not (among key (changed_keys ss rs) && lacks rs key)) (among_keys key (is_changed rs ss) rs ∙ and_from (there key rs) (is_changed rs ss key) is (changed_back rs ss key changed))
      | inr f ↦ ap (λ b. not old && not (b && lacks rs key)) t ∙ ap (λ us. not old && not (true && not (has_any us))) (none_there key rs f) ∙ and_right (not old) false refl
    ]

pub done_again : (rs ss ts : List KeyValue) → amended (amended ts (difference rs ss)) (difference rs ss) ≡ amended ts (difference rs ss)
done_again rs ss ts =
    let stay : KeyValue → Bool = stays_whole rs ss in
    let puts = put_whole rs ss in
    whole_left rs ss (amended ts (difference rs ss))
    ∙ ap (λ xs. filter stay xs ++ puts) (whole_left rs ss ts)
    ∙ ap (λ xs. xs ++ puts)
    (filter-append stay (filter stay ts) puts
    ∙ ap (λ xs. xs ++ filter stay puts) (filter_both stay stay ts ∙ filter_same (λ r. stay r && stay r) stay ts (λ r. twice (stay r)))
    ∙ ap (λ xs. filter stay ts ++ xs) (puts_go stay ss (changed_keys ss rs) (puts_whole_go rs ss))
    ∙ append-nil (filter stay ts))
    ∙ sym (whole_left rs ss ts)
