-- The difference of two lists of records, done to the first, gives each key what it has in the second.
use Rattle.cdb_read.proofs.Words.{Bool, KeyValue, List, Putting, Removing, [], and_from, and_parts, and_right, ap, append-nil, append_assoc, both_ways, bytes_eq, bytes_eq-Decides, cases_Bool, cond, cond-false, cond-true, false, filter, filter-append, flat_map, fold-append, inl, inr, map, map-append, not, not_from_false, not_from_true, record_of, refl, sym, true, values_of, ℕ, ◌&&◌, ◌++◌, ◌∙◌, ◌∷◌, ◌≡◌}
use Rattle.cdb_read.specs.Difference.{after_change, all_of, amended, changed_keys, difference, first_keys, is_changed, puts_of, removal_of_new, values_eq}
use Rattle.cdb_read.specs.Laws.{brought_up, EmptyIsSame}

-- ---- tests

pub eq_itself : (xs : List ℕ) → bytes_eq xs xs ≡ true
eq_itself xs = (bytes_eq-Decides xs xs).1 refl

pub eq_other_way : (xs ys : List ℕ) → bytes_eq xs ys ≡ false → bytes_eq ys xs ≡ false
eq_other_way xs ys f = elim (cases_Bool (bytes_eq ys xs)) [
  | inl t ↦ absurd (both_ways (bytes_eq xs ys) f ((bytes_eq-Decides xs ys).1 (sym ((bytes_eq-Decides ys xs).0 t))))
  | inr g ↦ g
]

pub values_eq-itself : (vs : List (List ℕ)) → values_eq vs vs ≡ true
unfolding values_eq
values_eq-itself [] = refl
values_eq-itself (v ∷ vs) = and_from (bytes_eq v v) (values_eq vs vs) (eq_itself v) (values_eq-itself vs)

pub values_eq-same : (us vs : List (List ℕ)) → values_eq us vs ≡ true → us ≡ vs
unfolding values_eq
values_eq-same [] [] t = refl
values_eq-same [] (v ∷ vs) t = absurd (let k : false ≡ true = t in cc)
values_eq-same (u ∷ us) [] t = absurd (let k : false ≡ true = t in cc)
values_eq-same (u ∷ us) (v ∷ vs) t =
    let p = and_parts (bytes_eq u v) (values_eq us vs) t in
    ap (λ x. x ∷ us) ((bytes_eq-Decides u v).0 p.0) ∙ ap (λ xs. v ∷ xs) (values_eq-same us vs p.1)

pub cond_nothing : {X : Type 0} (b : Bool) → cond b [] [] ≡ (let none : List X = [] in none)
cond_nothing true = refl
cond_nothing false = refl

-- ---- lists that are filtered

pub filter_both : {X : Type 0} (p q : X → Bool) (xs : List X) → filter p (filter q xs) ≡ filter (λ x. q x && p x) xs
filter_both p q [] = refl
filter_both p q (x ∷ xs) =
    let left = filter q xs in
    let both = filter (λ y. q y && p y) xs in
    elim (cases_Bool (q x)) [
      | inl t ↦ ap (filter p) (cond-true (q x) (x ∷ left) left t) ∙ ap (λ l. cond (p x) (x ∷ l) l) (filter_both p q xs) ∙ sym (ap (λ v. cond (v && p x) (x ∷ both) both) t)
      | inr f ↦ ap (filter p) (cond-false (q x) (x ∷ left) left f) ∙ filter_both p q xs ∙ sym (ap (λ v. cond (v && p x) (x ∷ both) both) f)
    ]

pub filter_none : {X : Type 0} (p : X → Bool) (xs : List X) → ((x : X) → p x ≡ false) → filter p xs ≡ []
filter_none p [] none = refl
filter_none p (x ∷ xs) none = cond-false (p x) (x ∷ filter p xs) (filter p xs) (none x) ∙ filter_none p xs none

pub filter_same : {X : Type 0} (p q : X → Bool) (xs : List X) → ((x : X) → p x ≡ q x) → filter p xs ≡ filter q xs
filter_same p q [] same = refl
filter_same p q (x ∷ xs) same = ap (λ v. cond v (x ∷ filter p xs) (filter p xs)) (same x) ∙ ap (λ l. cond (q x) (x ∷ l) l) (filter_same p q xs same)

-- a joined list of a filtered one
joined_first : {X A : Type 0} (g : X → List A) (b : Bool) (x : X) (xs : List X) → flat_map g (cond b (x ∷ xs) xs) ≡ cond b (g x) [] ++ flat_map g xs
joined_first g true x xs = refl
joined_first g false x xs = refl

-- ---- the keys of a list

-- true if some record has a key
unfoldable pub there : List ℕ → List KeyValue → Bool
there key [] = false
there key (r ∷ rs) = cond (bytes_eq r.key key) true (there key rs)

pub none_there : (key : List ℕ) (rs : List KeyValue) → there key rs ≡ false → values_of key rs ≡ []
unfolding there
none_there key [] h = refl
none_there key (r ∷ rs) h =
    let left = filter (λ q. bytes_eq q.key key) rs in
    elim (cases_Bool (bytes_eq r.key key)) [
      | inl t ↦ absurd (both_ways (cond (bytes_eq r.key key) true (there key rs)) h (cond-true (bytes_eq r.key key) true (there key rs) t))
      | inr f ↦
          ap (map (λ (q : KeyValue). q.value)) (cond-false (bytes_eq r.key key) (r ∷ left) left f)
          ∙ none_there key rs (sym (cond-false (bytes_eq r.key key) true (there key rs) f) ∙ h)
    ]

-- some items at the key alone
abbrev pub at_key : {A : Type 0} → List ℕ → List A → List ℕ → List A
at_key key xs k = cond (bytes_eq k key) xs []

closed : {A : Type 0} (p th : Bool) (xs : List A) → cond p xs [] ++ cond (th && (false && p)) xs [] ≡ cond p xs []
closed p true xs = append-nil (cond p xs [])
closed p false xs = append-nil (cond p xs [])

-- a key is among the first keys once, if it is there
pub once : {A : Type 0} (key : List ℕ) (xs : List A) (p : List ℕ → Bool) (rs : List KeyValue) → flat_map (at_key key xs) (filter p (first_keys rs)) ≡ cond (there key rs && p key) xs []
unfolding first_keys there
once key xs p [] = refl
once key xs p (r ∷ rs) =
    let q : List ℕ → Bool = λ k. not (bytes_eq k r.key) in
    let tail = filter p (filter q (first_keys rs)) in
    let split = joined_first (at_key key xs) (p r.key) r.key tail in
    let rest : flat_map (at_key key xs) tail ≡ cond (there key rs && (q key && p key)) xs [] = ap (flat_map (at_key key xs)) (filter_both p q (first_keys rs)) ∙ once key xs (λ k. q k && p k) rs in
    elim (cases_Bool (bytes_eq r.key key)) [
      | inl t ↦
          (let same : r.key ≡ key = (bytes_eq-Decides r.key key).0 t in
          let not_again : q key ≡ false = not_from_true (bytes_eq key r.key) ((bytes_eq-Decides key r.key).1 (sym same)) in
          split
          ∙ ap (λ v. v ++ flat_map (at_key key xs) tail) (ap (λ k. cond (p k) (at_key key xs r.key) []) same ∙ ap (λ v. cond (p key) v []) (cond-true (bytes_eq r.key key) xs [] t))
          ∙ ap (λ v. cond (p key) xs [] ++ v) (rest ∙ ap (λ v. cond (there key rs && (v && p key)) xs []) not_again)
          ∙ closed (p key) (there key rs) xs
          ∙ sym (ap (λ v. cond (cond v true (there key rs) && p key) xs []) t))
      | inr f ↦
          (let still : q key ≡ true = not_from_false (bytes_eq key r.key) (eq_other_way r.key key f) in
          split
          ∙ ap (λ v. v ++ flat_map (at_key key xs) tail) (ap (λ v. cond (p r.key) v []) (cond-false (bytes_eq r.key key) xs [] f) ∙ cond_nothing (p r.key))
          ∙ rest
          ∙ ap (λ v. cond (there key rs && (v && p key)) xs []) still
          ∙ sym (ap (λ v. cond (cond v true (there key rs) && p key) xs []) f))
    ]

-- ---- what removals leave

abbrev without : List ℕ → List KeyValue → List KeyValue
without k rs = filter (λ r. not (bytes_eq r.key k)) rs

-- nothing, if there are any hits
kept : {A B : Type 0} → List A → List B → List B
kept [] ys = ys
kept (x ∷ xs) ys = []

kept_nothing : {A B : Type 0} (xs : List A) → kept xs [] ≡ (let none : List B = [] in none)
unfolding kept
kept_nothing [] = refl
kept_nothing (x ∷ xs) = refl

-- a test that holds of a key and not of it
never : (k key : List ℕ) → k ≡ key → (r : KeyValue) → (not (bytes_eq r.key k) && bytes_eq r.key key) ≡ false
never k key same r = elim (cases_Bool (bytes_eq r.key key)) [
  | inl t ↦ ap (λ v. not v && bytes_eq r.key key) (ap (bytes_eq r.key) same ∙ t)
  | inr f ↦ and_right (not (bytes_eq r.key k)) (bytes_eq r.key key) f
]

as_well : (k key : List ℕ) → bytes_eq k key ≡ false → (r : KeyValue) → (not (bytes_eq r.key k) && bytes_eq r.key key) ≡ bytes_eq r.key key
as_well k key other r = elim (cases_Bool (bytes_eq r.key k)) [
  | inl t ↦
      (let same : r.key ≡ k = (bytes_eq-Decides r.key k).0 t in
      ap (λ v. not v && bytes_eq r.key key) t ∙ sym (ap (λ x. bytes_eq x key) same ∙ other))
  | inr f ↦ ap (λ v. not v && bytes_eq r.key key) f
]

removed_one : (key k : List ℕ) (rs : List KeyValue) → values_of key (without k rs) ≡ cond (bytes_eq k key) [] (values_of key rs)
removed_one key k rs =
    let has : KeyValue → Bool = λ r. bytes_eq r.key key in
    let other : KeyValue → Bool = λ r. not (bytes_eq r.key k) in
    elim (cases_Bool (bytes_eq k key)) [
      | inl t ↦
          ap (map (λ (r : KeyValue). r.value)) (filter_both has other rs ∙ filter_none (λ r. other r && has r) rs (never k key ((bytes_eq-Decides k key).0 t)))
          ∙ sym (cond-true (bytes_eq k key) [] (values_of key rs) t)
      | inr f ↦
          ap (map (λ (r : KeyValue). r.value)) (filter_both has other rs ∙ filter_same (λ r. other r && has r) has rs (as_well k key f))
          ∙ sym (cond-false (bytes_eq k key) [] (values_of key rs) f)
    ]

kept_more : {A B : Type 0} (b : Bool) (x : A) (hits : List A) (ys : List B) → kept hits (cond b [] ys) ≡ kept (cond b (x ∷ []) [] ++ hits) ys
unfolding kept
kept_more true x hits ys = kept_nothing hits
kept_more false x hits ys = refl

removed : (key : List ℕ) (ks : List (List ℕ)) (rs : List KeyValue) → values_of key (amended rs (map Removing ks)) ≡ kept (flat_map (at_key key (key ∷ [])) ks) (values_of key rs)
unfolding kept
removed key [] rs = refl
removed key (k ∷ ks) rs =
    removed key ks (without k rs)
    ∙ ap (kept (flat_map (at_key key (key ∷ [])) ks)) (removed_one key k rs)
    ∙ kept_more (bytes_eq k key) key (flat_map (at_key key (key ∷ [])) ks) (values_of key rs)

-- ---- what puts add

pub values_of-append : (key : List ℕ) (xs ys : List KeyValue) → values_of key (xs ++ ys) ≡ values_of key xs ++ values_of key ys
values_of-append key xs ys =
    ap (map (λ (r : KeyValue). r.value)) (filter-append (λ (r : KeyValue). bytes_eq r.key key) xs ys)
    ∙ map-append (λ (r : KeyValue). r.value) (filter (λ r. bytes_eq r.key key) xs) (filter (λ r. bytes_eq r.key key) ys)

one_value : (key k value : List ℕ) → values_of key (record_of k value ∷ []) ≡ at_key key (value ∷ []) k
one_value key k value = elim (cases_Bool (bytes_eq k key)) [
  | inl t ↦ ap (map (λ (r : KeyValue). r.value)) (cond-true (bytes_eq k key) (record_of k value ∷ []) [] t) ∙ sym (cond-true (bytes_eq k key) (value ∷ []) [] t)
  | inr f ↦ ap (map (λ (r : KeyValue). r.value)) (cond-false (bytes_eq k key) (record_of k value ∷ []) [] f) ∙ sym (cond-false (bytes_eq k key) (value ∷ []) [] f)
]

at_key_more : {A : Type 0} (b : Bool) (x : A) (xs : List A) → cond b (x ∷ []) [] ++ cond b xs [] ≡ cond b (x ∷ xs) []
at_key_more true x xs = refl
at_key_more false x xs = refl

pub put_values : (key k : List ℕ) (vs : List (List ℕ)) (rs : List KeyValue) → values_of key (amended rs (map (λ value. Putting (record_of k value)) vs)) ≡ values_of key rs ++ at_key key vs k
put_values key k [] rs = sym (ap (λ v. values_of key rs ++ v) (cond_nothing (bytes_eq k key)) ∙ append-nil (values_of key rs))
put_values key k (v ∷ vs) rs =
    put_values key k vs (rs ++ record_of k v ∷ [])
    ∙ ap (λ x. x ++ at_key key vs k) (values_of-append key rs (record_of k v ∷ []) ∙ ap (λ x. values_of key rs ++ x) (one_value key k v))
    ∙ append_assoc (values_of key rs) (at_key key (v ∷ []) k) (at_key key vs k)
    ∙ ap (λ x. values_of key rs ++ x) (at_key_more (bytes_eq k key) v vs)

-- its own values alone
own_values : (key k : List ℕ) (ss : List KeyValue) → at_key key (values_of k ss) k ≡ at_key key (values_of key ss) k
own_values key k ss = elim (cases_Bool (bytes_eq k key)) [
  | inl t ↦ ap (λ x. at_key key (values_of x ss) k) ((bytes_eq-Decides k key).0 t)
  | inr f ↦ cond-false (bytes_eq k key) (values_of k ss) [] f ∙ sym (cond-false (bytes_eq k key) (values_of key ss) [] f)
]

-- nothing, if a key was new
cleared : {A B : Type 0} → List A → List B → List B
cleared [] ys = []
cleared (x ∷ xs) ys = ys

cleared_nothing : {A B : Type 0} (xs : List A) → cleared xs [] ≡ (let none : List B = [] in none)
unfolding cleared
cleared_nothing [] = refl
cleared_nothing (x ∷ xs) = refl

either_way : {A : Type 0} (b : Bool) (x : A) → x ≡ cond b x x
either_way true x = refl
either_way false x = refl

new_removed : (key k : List ℕ) (us : List (List ℕ)) (ts : List KeyValue) → values_of key (amended ts (removal_of_new us k)) ≡ cond (bytes_eq k key) (cleared us (values_of key ts)) (values_of key ts)
unfolding cleared
new_removed key k [] ts = removed_one key k ts
new_removed key k (u ∷ us) ts = either_way (bytes_eq k key) (values_of key ts)

own_cleared : (key k : List ℕ) (rs : List KeyValue) (vs : List (List ℕ)) → cond (bytes_eq k key) (cleared (values_of k rs) vs) vs ≡ cond (bytes_eq k key) (cleared (values_of key rs) vs) vs
own_cleared key k rs vs = elim (cases_Bool (bytes_eq k key)) [
  | inl t ↦ ap (λ x. cond (bytes_eq k key) (cleared (values_of x rs) vs) vs) ((bytes_eq-Decides k key).0 t)
  | inr f ↦ cond-false (bytes_eq k key) (cleared (values_of k rs) vs) vs f ∙ sym (cond-false (bytes_eq k key) (cleared (values_of key rs) vs) vs f)
]

-- ---- what comes of a key of which all is said

said_part : {A : Type 0} (b : Bool) (xs ys vs : List A) → cond b xs vs ++ cond b ys [] ≡ cond b (xs ++ ys) vs
said_part true xs ys vs = refl
said_part false xs ys vs = append-nil vs

said_one : (key k : List ℕ) (rs ss ts : List KeyValue) → values_of key (amended ts (all_of rs ss k)) ≡ cond (bytes_eq k key) (cleared (values_of key rs) (values_of key ts) ++ values_of key ss) (values_of key ts)
said_one key k rs ss ts =
    let removal = removal_of_new (values_of k rs) k in
    ap (values_of key) (fold-append after_change ts removal (puts_of ss k))
    ∙ put_values key k (values_of k ss) (amended ts removal)
    ∙ ap (λ x. x ++ at_key key (values_of k ss) k) (new_removed key k (values_of k rs) ts ∙ own_cleared key k rs (values_of key ts))
    ∙ ap (λ x. cond (bytes_eq k key) (cleared (values_of key rs) (values_of key ts)) (values_of key ts) ++ x) (own_values key k ss)
    ∙ said_part (bytes_eq k key) (cleared (values_of key rs) (values_of key ts)) (values_of key ss) (values_of key ts)

-- for each hit
told : {A B : Type 0} → List A → (us ws vs : List B) → List B
told [] us ws vs = vs
told (x ∷ hits) us ws vs = told hits us ws (cleared us vs ++ ws)

told_more : {A B : Type 0} (b : Bool) (x : A) (hits : List A) (us ws vs : List B) → told hits us ws (cond b (cleared us vs ++ ws) vs) ≡ told (cond b (x ∷ []) [] ++ hits) us ws vs
unfolding told
told_more true x hits us ws vs = refl
told_more false x hits us ws vs = refl

said : (key : List ℕ) (rs ss : List KeyValue) (ks : List (List ℕ)) (ts : List KeyValue) → values_of key (amended ts (flat_map (all_of rs ss) ks)) ≡ told (flat_map (at_key key (key ∷ [])) ks) (values_of key rs) (values_of key ss) (values_of key ts)
unfolding told
said key rs ss [] ts = refl
said key rs ss (k ∷ ks) ts =
    let hits = flat_map (at_key key (key ∷ [])) ks in
    ap (values_of key) (fold-append after_change ts (all_of rs ss k) (flat_map (all_of rs ss) ks))
    ∙ said key rs ss ks (amended ts (all_of rs ss k))
    ∙ ap (told hits (values_of key rs) (values_of key ss)) (said_one key k rs ss ts)
    ∙ told_more (bytes_eq k key) key hits (values_of key rs) (values_of key ss) (values_of key ts)

-- ---- the laws

-- what comes of a key, by whether it is there and whether it is changed
both_parts : (key : List ℕ) (rs ss ts : List KeyValue)
    → values_of key (amended ts (difference rs ss)) ≡ told (cond (there key ss && is_changed ss rs key) (key ∷ []) []) (values_of key rs) (values_of key ss) (kept (cond (there key rs && is_changed rs ss key) (key ∷ []) []) (values_of key ts))
unfolding difference
both_parts key rs ss ts =
    let gone = map Removing (changed_keys rs ss) in
    ap (values_of key) (fold-append after_change ts gone (flat_map (all_of rs ss) (changed_keys ss rs)))
    ∙ said key rs ss (changed_keys ss rs) (amended ts gone)
    ∙ ap (λ hits. told hits (values_of key rs) (values_of key ss) (values_of key (amended ts gone))) (once key (key ∷ []) (is_changed ss rs) ss)
    ∙ ap (told (cond (there key ss && is_changed ss rs key) (key ∷ []) []) (values_of key rs) (values_of key ss))
    (removed key (changed_keys rs ss) ts ∙ ap (λ x. kept x (values_of key ts)) (once key (key ∷ []) (is_changed rs ss) rs))

-- a key is changed either way, or neither
pub same_unchanged : (rs ss : List KeyValue) (key : List ℕ) → values_of key rs ≡ values_of key ss → is_changed rs ss key ≡ false
same_unchanged rs ss key same = not_from_true (values_eq (values_of key rs) (values_of key ss)) (ap (λ vs. values_eq vs (values_of key ss)) same ∙ values_eq-itself (values_of key ss))

-- the values are the same, if they are not changed
same_values : (rs ss : List KeyValue) (key : List ℕ) → is_changed rs ss key ≡ false → values_of key rs ≡ values_of key ss
same_values rs ss key f = elim (cases_Bool (values_eq (values_of key rs) (values_of key ss))) [
  | inl t ↦ values_eq-same (values_of key rs) (values_of key ss) t
  | inr g ↦ absurd (both_ways (not (values_eq (values_of key rs) (values_of key ss))) f (not_from_false (values_eq (values_of key rs) (values_of key ss)) g))
]

unchanged_back : (rs ss : List KeyValue) (key : List ℕ) → is_changed ss rs key ≡ false → is_changed rs ss key ≡ false
unchanged_back rs ss key f = same_unchanged rs ss key (sym (same_values ss rs key f))

pub changed_back : (rs ss : List KeyValue) (key : List ℕ) → is_changed ss rs key ≡ true → is_changed rs ss key ≡ true
changed_back rs ss key t = elim (cases_Bool (is_changed rs ss key)) [
  | inl u ↦ u
  | inr f ↦ absurd (both_ways (is_changed ss rs key) (unchanged_back ss rs key f) t)
]

-- a key that has no values now, and is changed, had some
has_been : (key : List ℕ) (rs ss : List KeyValue) → values_of key ss ≡ [] → is_changed ss rs key ≡ true → there key rs ≡ true
has_been key rs ss none is = elim (cases_Bool (there key rs)) [
  | inl t ↦ t
  | inr f ↦ absurd (both_ways (is_changed ss rs key) (same_unchanged ss rs key (none ∙ sym (none_there key rs f))) is)
]

-- of a key that is changed nothing is left before its puts
left_clear : (key : List ℕ) (rs : List KeyValue) (vs : List (List ℕ)) (changed : Bool) → changed ≡ true → cleared (values_of key rs) (kept (cond (there key rs && changed) (key ∷ []) []) vs) ≡ []
unfolding kept cleared
left_clear key rs vs changed is = elim (cases_Bool (there key rs)) [
  | inl t ↦ ap (λ v. cleared (values_of key rs) (kept (cond v (key ∷ []) []) vs)) (and_from (there key rs) changed t is) ∙ cleared_nothing (values_of key rs)
  | inr f ↦ ap (λ us. cleared us (kept (cond (there key rs && changed) (key ∷ []) []) vs)) (none_there key rs f)
]

-- and of the old records nothing before the puts of all
pub changed_gone : (key : List ℕ) (rs ss : List KeyValue) → is_changed ss rs key ≡ true → values_of key (amended rs (map Removing (changed_keys rs ss))) ≡ []
unfolding kept
changed_gone key rs ss is =
    let hits = cond (there key rs && is_changed rs ss key) (key ∷ []) [] in
    removed key (changed_keys rs ss) rs
    ∙ ap (λ x. kept x (values_of key rs)) (once key (key ∷ []) (is_changed rs ss) rs)
    ∙ elim (cases_Bool (there key rs)) [
      | inl t ↦ ap (λ v. kept (cond v (key ∷ []) []) (values_of key rs)) (and_from (there key rs) (is_changed rs ss key) t (changed_back rs ss key is))
      | inr f ↦ ap (kept hits) (none_there key rs f) ∙ kept_nothing hits
    ]

-- whatever records it is done to, a key that is changed has its new values then, and any other what it
-- had
pub changed_comes : (key : List ℕ) (rs ss ts : List KeyValue) → is_changed ss rs key ≡ true → values_of key (amended ts (difference rs ss)) ≡ values_of key ss
unfolding told kept
changed_comes key rs ss ts is =
    let was = kept (cond (there key rs && is_changed rs ss key) (key ∷ []) []) (values_of key ts) in
    let back : is_changed rs ss key ≡ true = changed_back rs ss key is in
    both_parts key rs ss ts ∙ elim (cases_Bool (there key ss)) [
      | inl t ↦
          ap (λ v. told (cond v (key ∷ []) []) (values_of key rs) (values_of key ss) was) (and_from (there key ss) (is_changed ss rs key) t is)
          ∙ ap (λ x. x ++ values_of key ss) (left_clear key rs (values_of key ts) (is_changed rs ss key) back)
      | inr f ↦
          (let none : values_of key ss ≡ [] = none_there key ss f in
          ap (λ v. told (cond (v && is_changed ss rs key) (key ∷ []) []) (values_of key rs) (values_of key ss) was) f
          ∙ ap (λ v. kept (cond v (key ∷ []) []) (values_of key ts)) (and_from (there key rs) (is_changed rs ss key) (has_been key rs ss none is) back)
          ∙ sym none)
    ]

pub unchanged_stays : (key : List ℕ) (rs ss ts : List KeyValue) → is_changed ss rs key ≡ false → values_of key (amended ts (difference rs ss)) ≡ values_of key ts
unfolding told kept
unchanged_stays key rs ss ts is =
    let was = kept (cond (there key rs && is_changed rs ss key) (key ∷ []) []) (values_of key ts) in
    both_parts key rs ss ts
    ∙ ap (λ v. told (cond v (key ∷ []) []) (values_of key rs) (values_of key ss) was) (and_right (there key ss) (is_changed ss rs key) is)
    ∙ ap (λ v. kept (cond v (key ∷ []) []) (values_of key ts)) (and_right (there key rs) (is_changed rs ss key) (unchanged_back rs ss key is))

-- done to the records that it was made of, it brings them up
pub brings_up : (rs ss : List KeyValue) (key : List ℕ) → values_of key (brought_up rs ss) ≡ values_of key ss
brings_up rs ss key = elim (cases_Bool (is_changed ss rs key)) [
  | inl t ↦ changed_comes key rs ss rs t
  | inr f ↦ unchanged_stays key rs ss rs f ∙ sym (same_values ss rs key f)
]

pub same_is_empty : (rs ss : List KeyValue) → ((key : List ℕ) → values_of key rs ≡ values_of key ss) → difference rs ss ≡ []
unfolding difference
same_is_empty rs ss same =
    ap (λ ks. map Removing ks ++ flat_map (all_of rs ss) (changed_keys ss rs)) (filter_none (is_changed rs ss) (first_keys rs) (λ key. same_unchanged rs ss key (same key)))
    ∙ ap (flat_map (all_of rs ss)) (filter_none (is_changed ss rs) (first_keys ss) (λ key. same_unchanged ss rs key (sym (same key))))

pub empty_is_same : (rs ss : List KeyValue) → EmptyIsSame rs ss
empty_is_same rs ss = (
  λ empty key. sym (ap (λ changes. values_of key (amended rs changes)) empty) ∙ brings_up rs ss key,
  same_is_empty rs ss,
)
