-- A search as the author of the format describes it finds what a look-up finds.
use Rattle.cdb_read.proofs.Words.{Found, List, None, WordPair, [], ap, arith, bytes_eq, bytes_of, cases_Bool, cond-false, cond-true, drop, drop-drop, eqb-true, false, found_at, found_by, has_hash, has_key, has_slots, head_size, home_slot, inl, inr, is_inside, is_used, is_whole, key_hash, leb-true, length, length-part, lookup_of, map, met_slots, nat_le, not, not_from_false, not_from_true, nth_pair, pair_at, part, prefix_size, refl, slots_at, slots_from, subst, suc, sym, table_number, take, take_all, true, zero, ℕ, ◌*◌, ◌+◌, ◌<◌, ◌==◌, ◌&&◌, ◌∙◌, ◌∷◌, ◌≡◌, ◌≤◌}
use Rattle.std.specs.Prelude.{◌/◌}
use Rattle.std.proofs.Math.Nat.{mod-lt}
use Rattle.std.proofs.lemmas.Bool.{eqb-false}
use Rattle.cdb_form.specs.declared.damage.Damage.TheVariants.{Table}
use Rattle.cdb_read.specs.Lookup.{found_damaged, is_of_key, search_of, slot_at, value_at, values_from}
use Rattle.cdb_read.proofs.FilledTables.Filled.{length-slots_from}
use Rattle.cdb_read.proofs.Lists.Meeting.{met}
use Rattle.cdb_read.proofs.Probing.Beginnings.{and_true}
use Rattle.cdb_read.proofs.Probing.Headers.{unequal}
use Rattle.cdb_read.proofs.Probing.Probes.{found_at-broken, length-slots_at, met_ahead, met_ahead-empty, met_ahead-hash, met_ahead-none, met_ahead-other, next_slot}
use Rattle.cdb_read.proofs.WholeFiles.LookupLaws.{found_at-has, found_at-none, found_at-other, lookup_of-inside, lookup_of-is, places_of}

-- a search compares the length first, and a look-up the whole key
same_key : (w : ℕ) (b key : List ℕ) (place : ℕ) → is_whole w b place ≡ true → is_of_key w b key place ≡ has_key w b key place
same_key w b key place whole =
    let p = pair_at w (drop place b) in
    let both = and_true (nat_le (head_size w) place) (nat_le (place + prefix_size w (drop place b)) (length b)) whole in
    let fits = leb-true (place + prefix_size w (drop place b)) (length b) both.1 in
    let at : drop (2 * w) (drop place b) ≡ drop (place + 2 * w) b = drop-drop (2 * w) place b in
    let long : length (part (place + 2 * w) p.first b) ≡ p.first = length-part (place + 2 * w) p.first b (omega arith) in
    let same = bytes_eq (take (length key) (drop (place + 2 * w) b)) key in
    elim (cases_Bool (p.first == length key)) [
      | inl t ↦
          ap (λ x. x && same) t
          ∙ ap (λ n. bytes_eq (take n (drop (place + 2 * w) b)) key) (sym (eqb-true p.first (length key) t))
          ∙ ap (λ d. bytes_eq (take p.first d) key) (sym at)
      | inr f ↦
          ap (λ x. x && same) f
          ∙ sym (unequal (take p.first (drop (2 * w) (drop place b))) key
          (λ is. eqb-false p.first (length key) f (sym long ∙ ap (λ d. length (take p.first d)) (sym at) ∙ ap length is)))
    ]

-- these are the values that were found, unless a damage was met
abbrev Says : List ℕ → (values : List (List ℕ)) → Found → Type 0
Says b values found = found.damage ≡ None → values ≡ map (bytes_of b) found.spans

abbrev found_ahead : ℕ → List ℕ → List ℕ → WordPair → (left slot : ℕ) → Found
found_ahead w b key p left slot = found_at w b key (places_of (met_ahead (key_hash key) slot left (slots_at w b p)))

-- one slot of a search
empty : (w : ℕ) (b key : List ℕ) (p : WordPair) (left slot : ℕ) → ((slot_at w b p slot).second == 0) ≡ true → values_from w b key p (suc left) slot ≡ []
unfolding values_from
empty w b key p left slot e = cond-true ((slot_at w b p slot).second == 0) [] _ e

met_one : (w : ℕ) (b key : List ℕ) (p : WordPair) (left slot : ℕ) → ((slot_at w b p slot).second == 0) ≡ false
    → (((slot_at w b p slot).first == key_hash key) && is_of_key w b key (slot_at w b p slot).second) ≡ true
    → values_from w b key p (suc left) slot ≡ value_at w b (slot_at w b p slot).second ∷ values_from w b key p left (next_slot slot p.second)
unfolding values_from
met_one w b key p left slot used is = cond-false ((slot_at w b p slot).second == 0) [] _ used ∙ cond-true _ _ _ is

met_other : (w : ℕ) (b key : List ℕ) (p : WordPair) (left slot : ℕ) → ((slot_at w b p slot).second == 0) ≡ false
    → (((slot_at w b p slot).first == key_hash key) && is_of_key w b key (slot_at w b p slot).second) ≡ false
    → values_from w b key p (suc left) slot ≡ values_from w b key p left (next_slot slot p.second)
unfolding values_from
met_other w b key p left slot used is = cond-false ((slot_at w b p slot).second == 0) [] _ used ∙ cond-false _ _ _ is

none_left : (w : ℕ) (b key : List ℕ) (p : WordPair) (slot : ℕ) → values_from w b key p zero slot ≡ []
unfolding values_from
none_left w b key p slot = refl

-- a slot with the hash, whose record is whole or a damage
met_hash : (w : ℕ) (b key : List ℕ) (p : WordPair) (left slot : ℕ) (places : List ℕ) → ((slot_at w b p slot).second == 0) ≡ false → has_hash (key_hash key) (slot_at w b p slot) ≡ true
    → Says b (values_from w b key p left (next_slot slot p.second)) (found_at w b key places)
    → Says b (values_from w b key p (suc left) slot) (found_at w b key ((slot_at w b p slot).second ∷ places))
met_hash w b key p left slot places used hash says =
    let it = slot_at w b p slot in
    let place = it.second in
    let by_key : ((it.first == key_hash key) && is_of_key w b key place) ≡ is_of_key w b key place = ap (λ x. x && is_of_key w b key place) hash in
    elim (cases_Bool (is_whole w b place)) [
      | inl whole ↦ (elim (cases_Bool (has_key w b key place)) [
        | inl has ↦
            (let more = met_one w b key p left slot used (by_key ∙ same_key w b key place whole ∙ has) in
            subst (Says b (values_from w b key p (suc left) slot)) (sym (found_at-has w b key place places whole has))
            (λ none. more ∙ ap (λ vs. value_at w b place ∷ vs) (says none)))
        | inr other ↦
            (let more = met_other w b key p left slot used (by_key ∙ same_key w b key place whole ∙ other) in
            subst (Says b (values_from w b key p (suc left) slot)) (sym (found_at-other w b key place places whole other))
            (λ none. more ∙ says none))
      ])
      | inr broken ↦ (λ none. absurd (let is = sym (ap (λ (f : Found). f.damage) (found_at-broken w b key place places broken)) ∙ none in cc))
    ]

searched : (w : ℕ) (b key : List ℕ) (p : WordPair) (left slot : ℕ) → slot < p.second → left ≤ p.second → Says b (values_from w b key p left slot) (found_ahead w b key p left slot)
searched w b key p zero slot low few =
    subst (Says b (values_from w b key p zero slot)) (sym (ap (λ es. found_at w b key (places_of es)) (met_ahead-none (key_hash key) w b p slot) ∙ found_at-none w b key))
    (λ none. none_left w b key p slot)
searched w b key p (suc left) slot low few =
    let h = key_hash key in
    let it = slot_at w b p slot in
    let next = next_slot slot p.second in
    let inside : next < p.second = mod-lt (slot + 1) (omega arith) in
    let ih = searched w b key p left next inside (omega arith) in
    let values = values_from w b key p (suc left) slot in
    elim (cases_Bool (it.second == 0)) [
      | inl none ↦
          subst (Says b values) (sym (ap (λ es. found_at w b key (places_of es)) (met_ahead-empty h w b p slot left low (omega arith) (not_from_true (it.second == 0) none)) ∙ found_at-none w b key))
          (λ sound. empty w b key p left slot none)
      | inr used ↦
          (let has = not_from_false (it.second == 0) used in
          elim (cases_Bool (has_hash h it)) [
            | inl same ↦
                subst (Says b values) (sym (ap (λ es. found_at w b key (places_of es)) (met_ahead-hash h w b p slot left low (omega arith) has same)))
                (met_hash w b key p left slot (places_of (met_ahead h next left (slots_at w b p))) used same ih)
            | inr other ↦
                subst (Says b values) (sym (ap (λ es. found_at w b key (places_of es)) (met_ahead-other h w b p slot left low (omega arith) has other)))
                (λ sound. met_other w b key p left slot used (ap (λ x. x && is_of_key w b key it.second) other) ∙ ih sound)
          ])
    ]

-- the whole table
met_whole : (w : ℕ) (b key : List ℕ) (p : WordPair) → met_ahead (key_hash key) (home_slot (key_hash key) p.second) p.second (slots_at w b p) ≡ met_slots (key_hash key) (slots_at w b p)
unfolding met_slots met
met_whole w b key p =
    let h = key_hash key in
    let slots = slots_at w b p in
    let n = length-slots_at w b p in
    let long = length-slots_from (home_slot h p.second) slots in
    ap (met is_used (has_hash h)) (take_all p.second (slots_from (home_slot h p.second) slots) (omega arith))
    ∙ ap (λ k. met is_used (has_hash h) (slots_from (home_slot h k) slots)) (sym n)

unfold_search : (w : ℕ) (b key : List ℕ) (p : WordPair) → nth_pair w b (table_number (key_hash key)) ≡ p → search_of w b key ≡ values_from w b key p p.second (home_slot (key_hash key) p.second)
unfolding search_of
unfold_search w b key p is = ap (λ (q : WordPair). values_from w b key q q.second (home_slot (key_hash key) q.second)) is

-- a look-up that meets no damage finds its table inside the file
inside_of : (w : ℕ) (b key : List ℕ) (p : WordPair) → nth_pair w b (table_number (key_hash key)) ≡ p → (lookup_of w b key).damage ≡ None → has_slots p ≡ true → is_inside w b p ≡ true
inside_of w b key p pointer sound some = elim (cases_Bool (is_inside w b p)) [
  | inl t ↦ t
  | inr f ↦
      (let outside : lookup_of w b key ≡ found_damaged (Table (table_number (key_hash key))) =
      lookup_of-is w b key ∙ ap (found_by w b key) pointer ∙ cond-false (not (has_slots p)) _ _ (not_from_true (has_slots p) some) ∙ cond-false (is_inside w b p) _ _ f in
      absurd (let is = sym (ap (λ (x : Found). x.damage) outside) ∙ sound in cc))
]

-- unless a look-up meets a damage, the search finds the same values
pub search_is_lookup : (w : ℕ) (b key : List ℕ) → (lookup_of w b key).damage ≡ None → search_of w b key ≡ map (bytes_of b) (lookup_of w b key).spans
search_is_lookup w b key sound =
    let p = nth_pair w b (table_number (key_hash key)) in
    let looks = lookup_of-inside w b key p refl (inside_of w b key p refl sound) in
    let home = home_slot (key_hash key) p.second in
    let values = values_from w b key p p.second home in
    let says : Says b values (found_ahead w b key p p.second home) = elim (cases_Bool (p.second == 0)) [
      | inl none ↦
          (let n = eqb-true p.second 0 none in
          subst (λ k. Says b (values_from w b key p k home) (found_ahead w b key p k home)) (sym n)
          (subst (Says b (values_from w b key p zero home)) (sym (ap (λ es. found_at w b key (places_of es)) (met_ahead-none (key_hash key) w b p home) ∙ found_at-none w b key))
          (λ _. none_left w b key p home)))
      | inr some ↦ searched w b key p p.second home (mod-lt (key_hash key / 256) (let x = eqb-false p.second 0 some in omega (arith, x))) (omega arith)
    ] in
    let same : found_ahead w b key p p.second home ≡ lookup_of w b key = ap (λ es. found_at w b key (places_of es)) (met_whole w b key p) ∙ sym looks in
    unfold_search w b key p refl ∙ subst (Says b values) same says sound
