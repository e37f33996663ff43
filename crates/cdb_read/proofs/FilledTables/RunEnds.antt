-- Runs of used slots: how long the one before a slot is, and whether a search comes to the slot.
use Rattle.std.proofs.Common.{◌≡◌, ℕ, zero, suc, ◌+◌, ◌-◌, ◌<◌, ◌≤◌, Bool, true, false, ◌&&◌, cond, List, [], ◌∷◌, ◌++◌, length, take, drop, reverse, refl, sym, ap, ◌∙◌, arith, inl, inr, length-append, length-take, length-drop}
use Rattle.cdb_read.proofs.Words.{WordPair, distance, home_slot, is_reached, is_used, list_all, nat_le, nth_slot, prefix_len, run_of, slots_from}
use Rattle.std.proofs.lemmas.Bool.{cases_Bool, cases_lt, cond-true, cond-false, le-leb, lt-leb}
use Rattle.std.proofs.lemmas.List.{reverse-append, length-reverse, take-append-drop, take-append-le, drop-append-le, drop-take, drop-drop, take-take, take_at, drop_at}
use Rattle.std.proofs.Math.Seq.{take-append-add}
use Rattle.std.proofs.lemmas.List.Folds.{list_all-append}
use Rattle.cdb_read.proofs.FilledTables.Filled.{turned-before, turned-behind}
use Rattle.cdb_read.proofs.FilledTables.Reached.{distance-turned}

pub run_of-none : run_of [] ≡ 0
unfolding run_of
run_of-none = refl

run_of-push : (xs : List WordPair) (s : WordPair) → run_of (xs ++ s ∷ []) ≡ cond (is_used s) (1 + run_of xs) 0
unfolding run_of
run_of-push xs s = ap (prefix_len is_used) (reverse-append xs (s ∷ []))

pub run_of-used : (xs : List WordPair) (s : WordPair) → is_used s ≡ true → run_of (xs ++ s ∷ []) ≡ run_of xs + 1
run_of-used xs s u = let e = run_of-push xs s ∙ cond-true (is_used s) (1 + run_of xs) 0 u in omega arith

pub run_of-unused : (xs : List WordPair) (s : WordPair) → is_used s ≡ false → run_of (xs ++ s ∷ []) ≡ 0
run_of-unused xs s u = run_of-push xs s ∙ cond-false (is_used s) (1 + run_of xs) 0 u

-- so many elements at the start pass, exactly when as many or more pass in a row
run_passes : {X : Type 0} (u : X → Bool) (d : ℕ) (xs : List X) → d ≤ length xs → nat_le d (prefix_len u xs) ≡ list_all u (take d xs)
run_passes u zero xs l = le-leb 0 (prefix_len u xs) (omega arith)
run_passes u (suc d) [] l = absurd (omega arith)
run_passes u (suc d) (x ∷ xs) l = elim (cases_Bool (u x)) [
  | inl t ↦
      (let run : prefix_len u (x ∷ xs) ≡ suc (prefix_len u xs) = cond-true (u x) (1 + prefix_len u xs) 0 t ∙ omega arith in
      let all : list_all u (take (suc d) (x ∷ xs)) ≡ list_all u (take d xs) = ap (λ b. b && list_all u (take d xs)) t in
      let less : nat_le (suc d) (suc (prefix_len u xs)) ≡ nat_le d (prefix_len u xs) = elim (cases_lt (prefix_len u xs) d) [
        | inl low ↦ lt-leb (suc d) (suc (prefix_len u xs)) (omega arith) ∙ sym (lt-leb d (prefix_len u xs) low)
        | inr high ↦ le-leb (suc d) (suc (prefix_len u xs)) (omega arith) ∙ sym (le-leb d (prefix_len u xs) high)
      ] in
      ap (nat_le (suc d)) run ∙ less ∙ run_passes u d xs (omega arith) ∙ sym all)
  | inr f ↦
      (let run : prefix_len u (x ∷ xs) ≡ 0 = cond-false (u x) (1 + prefix_len u xs) 0 f in
      ap (nat_le (suc d)) run ∙ lt-leb (suc d) 0 (omega arith) ∙ sym (ap (λ b. b && list_all u (take d xs)) f))
]

-- turned round
turned_and : (a b : Bool) → (a && (b && true)) ≡ (b && a)
turned_and true true = refl
turned_and true false = refl
turned_and false true = refl
turned_and false false = refl

list_all-reverse : {X : Type 0} (u : X → Bool) (xs : List X) → list_all u (reverse xs) ≡ list_all u xs
list_all-reverse u [] = refl
list_all-reverse u (x ∷ xs) =
    ap (list_all u) (reverse-append (x ∷ []) xs)
    ∙ list_all-append u (reverse xs) (x ∷ [])
    ∙ ap (λ b. b && (u x && true)) (list_all-reverse u xs)
    ∙ turned_and (list_all u xs) (u x)

-- so many elements at the end pass, exactly when as many or more end it in a row
reverse_end : {X : Type 0} (m d : ℕ) (xs : List X) → m + d ≡ length xs → take d (reverse xs) ≡ reverse (drop m xs)
reverse_end m d xs e =
    let long : length (reverse (drop m xs)) ≡ d = omega (arith, length-reverse (drop m xs), length-drop m xs) in
    ap (λ ys. take d (reverse ys)) (sym (take-append-drop m xs))
    ∙ ap (take d) (reverse-append (take m xs) (drop m xs))
    ∙ take_at (reverse (drop m xs)) (reverse (take m xs)) d long

run_ends : (m d : ℕ) (xs : List WordPair) → m + d ≡ length xs → nat_le d (run_of xs) ≡ list_all is_used (drop m xs)
unfolding run_of
run_ends m d xs e =
    let long = length-reverse xs in
    run_passes is_used d (reverse xs) (omega arith)
    ∙ ap (list_all is_used) (reverse_end m d xs e)
    ∙ list_all-reverse is_used (drop m xs)

-- the slots on the way to slot i are the last of those before it, going round
way_before : (home i : ℕ) (slots : List WordPair) → home < length slots → i < home → drop home (slots ++ take i slots) ≡ take (length slots - home + i) (slots_from home slots)
way_before home i slots h low =
    let long = length-drop home slots in
    let sum : length slots - home + i ≡ length (drop home slots) + i = omega arith in
    drop-append-le home slots (take i slots) (omega arith)
    ∙ ap (λ t. drop home slots ++ t) (sym (take-take i home slots (omega arith)))
    ∙ sym (take-append-add (drop home slots) (take home slots) i)
    ∙ ap (λ k. take k (slots_from home slots)) (sym sum)

way_behind : (home i : ℕ) (slots : List WordPair) → i < length slots → home ≤ i → drop (length slots + home) (slots ++ take i slots) ≡ take (i - home) (slots_from home slots)
way_behind home i slots l high =
    let sum : home + (i - home) ≡ i = omega arith in
    sym (drop-drop home (length slots) (slots ++ take i slots))
    ∙ ap (drop home) (drop_at slots (take i slots) (length slots) refl)
    ∙ ap (λ k. drop home (take k slots)) (sym sum)
    ∙ drop-take home (i - home) slots
    ∙ sym (take-append-le (i - home) (drop home slots) (take home slots) (omega (arith, length-drop home slots)))

way_is_run : (home i : ℕ) (slots : List WordPair) → home < length slots → i < length slots → nat_le (distance home (length slots) i) (run_of (slots ++ take i slots)) ≡ list_all is_used (take (distance home (length slots) i) (slots_from home slots))
way_is_run home i slots h l =
    let far = distance-turned home (length slots) i h l in
    let both : length (slots ++ take i slots) ≡ length slots + i = omega (arith, length-append slots (take i slots), length-take i slots) in
    elim (cases_lt i home) [
      | inl low ↦
          (let d : distance home (length slots) i ≡ length slots - home + i = far ∙ turned-before home (length slots) i low in
          run_ends home (distance home (length slots) i) (slots ++ take i slots) (omega arith)
          ∙ ap (list_all is_used) (way_before home i slots h low ∙ ap (λ k. take k (slots_from home slots)) (sym d)))
      | inr high ↦
          (let d : distance home (length slots) i ≡ i - home = far ∙ turned-behind home (length slots) i high in
          run_ends (length slots + home) (distance home (length slots) i) (slots ++ take i slots) (omega arith)
          ∙ ap (list_all is_used) (way_behind home i slots l high ∙ ap (λ k. take k (slots_from home slots)) (sym d)))
    ]

-- a search comes to slot i exactly when it is no farther from its home than that run is long
pub reached_by_run : (slots : List WordPair) (i n run : ℕ) (s : WordPair) → length slots ≡ n → i < n → nth_slot slots i ≡ s → run ≡ run_of (slots ++ take i slots) → nat_le (distance (home_slot s.first n) n i) run ≡ is_reached slots i
reached_by_run slots i n run s long l here ran =
    let home : ℕ = home_slot (nth_slot slots i).first (length slots) in
    let h : home_slot (nth_slot slots i).first (length slots) < length slots = omega arith in
    ap (λ r. nat_le (distance (home_slot s.first n) n i) r) ran
    ∙ ap (λ m. nat_le (distance (home_slot s.first m) m i) (run_of (slots ++ take i slots))) (sym long)
    ∙ ap (λ (x : WordPair). nat_le (distance (home_slot x.first (length slots)) (length slots) i) (run_of (slots ++ take i slots))) (sym here)
    ∙ way_is_run (home_slot (nth_slot slots i).first (length slots)) i slots h (omega arith)
