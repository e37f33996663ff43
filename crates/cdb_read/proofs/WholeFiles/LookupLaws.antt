-- A look-up in the file of some records finds the values of the key.
use Rattle.cdb_read.proofs.Words.{All-filter, Damage, Found, KeyValue, List, None, Option, Some, WordPair, [], ap, arith, both_ways, bytes_eq, bytes_eq-Decides, bytes_of, cases_Bool, cond, cond-false, cond-true, drop, drop-head, entries_from, eq-eqb, eqb-true, false, file_bytes, file_entries, filter, find, found_at, found_by, has_hash, has_key, has_slots, head_size, in_table, inl, inr, is_inside, is_whole, key_hash, length, length-file_bytes, length-map-range_with_len, lookup_of, map, met_slots, ne_eqb, nil_from_length, not, not_from_false, not_from_true, nth_pair, option_map, record_size, refl, slots_at, subst, sym, table_entries, table_number, table_slots, tables_bytes, take_while, take_while-cons, true, value_span, values_of, with_span, ℕ, ◌*◌, ◌+◌, ◌<◌, ◌==◌, ◌∙◌, ◌∷◌, ◌≡◌}
use Rattle.cdb_form.specs.declared.damage.Damage.TheVariants.{Record}
use Rattle.cdb_read.specs.Laws.{FindsValues}
use Rattle.cdb_read.proofs.FilledTables.FileTables.{table_pointer, nth_pair-file_bytes, slots_at-file_bytes, is_inside-file_bytes}
use Rattle.cdb_read.proofs.FilledTables.Filled.{IsUsed, met_slots-filled_slots, met_slots-none}
use Rattle.cdb_read.proofs.FilledTables.Fits.{Fit, some_width, size_is, AllUsed-entries}
use Rattle.cdb_read.proofs.Bytes.RecordsAt.{ReadsAt, AllRead, all_read}

-- one place more
pub same_found : (a b : Found) → a.spans ≡ b.spans → a.damage ≡ b.damage → a ≡ b
same_found a b s d = ap (λ x. let f : Found = record { spans = x; damage = a.damage } in f) s ∙ ap (λ x. let f : Found = record { spans = b.spans; damage = x } in f) d

abbrev damage_at : ℕ → List ℕ → List ℕ → Option Damage
damage_at w bytes places = option_map (λ place. Record place) (find (λ place. not (is_whole w bytes place)) places)

damage_behind : (w : ℕ) (bytes : List ℕ) (place : ℕ) (places : List ℕ) → is_whole w bytes place ≡ true → damage_at w bytes (place ∷ places) ≡ damage_at w bytes places
damage_behind w bytes place places whole =
    ap (option_map (λ p. Record p)) (cond-false (not (is_whole w bytes place)) (Some place) (find (λ p. not (is_whole w bytes p)) places) (not_from_true (is_whole w bytes place) whole))

whole_behind : (w : ℕ) (bytes : List ℕ) (place : ℕ) (places : List ℕ) → is_whole w bytes place ≡ true → take_while (is_whole w bytes) (place ∷ places) ≡ place ∷ take_while (is_whole w bytes) places
whole_behind w bytes place places whole =
    take_while-cons (is_whole w bytes) place places ∙ cond-true (is_whole w bytes place) (place ∷ take_while (is_whole w bytes) places) [] whole

pub found_at-has : (w : ℕ) (bytes key : List ℕ) (place : ℕ) (places : List ℕ) → is_whole w bytes place ≡ true → has_key w bytes key place ≡ true → found_at w bytes key (place ∷ places) ≡ with_span (value_span w bytes place) (found_at w bytes key places)
unfolding found_at
found_at-has w bytes key place places whole has =
    let left = filter (has_key w bytes key) (take_while (is_whole w bytes) places) in
    same_found _ _
    (ap (λ ps. map (value_span w bytes) (filter (has_key w bytes key) ps)) (whole_behind w bytes place places whole) ∙ ap (map (value_span w bytes)) (cond-true (has_key w bytes key place) (place ∷ left) left has))
    (damage_behind w bytes place places whole)

pub found_at-other : (w : ℕ) (bytes key : List ℕ) (place : ℕ) (places : List ℕ) → is_whole w bytes place ≡ true → has_key w bytes key place ≡ false → found_at w bytes key (place ∷ places) ≡ found_at w bytes key places
unfolding found_at
found_at-other w bytes key place places whole other =
    let left = filter (has_key w bytes key) (take_while (is_whole w bytes) places) in
    same_found _ _
    (ap (λ ps. map (value_span w bytes) (filter (has_key w bytes key) ps)) (whole_behind w bytes place places whole) ∙ ap (map (value_span w bytes)) (cond-false (has_key w bytes key place) (place ∷ left) left other))
    (damage_behind w bytes place places whole)

pub found_at-none : (w : ℕ) (bytes key : List ℕ) → found_at w bytes key [] ≡ record { spans = []; damage = None }
unfolding found_at
found_at-none w bytes key = refl

-- the values of a key, one record more
values_of-has : (key : List ℕ) (r : KeyValue) (rs : List KeyValue) → bytes_eq r.key key ≡ true → values_of key (r ∷ rs) ≡ r.value ∷ values_of key rs
values_of-has key r rs h = ap (map (λ (q : KeyValue). q.value)) (cond-true (bytes_eq r.key key) (r ∷ filter (λ q. bytes_eq q.key key) rs) (filter (λ q. bytes_eq q.key key) rs) h)

values_of-other : (key : List ℕ) (r : KeyValue) (rs : List KeyValue) → bytes_eq r.key key ≡ false → values_of key (r ∷ rs) ≡ values_of key rs
values_of-other key r rs h = ap (map (λ (q : KeyValue). q.value)) (cond-false (bytes_eq r.key key) (r ∷ filter (λ q. bytes_eq q.key key) rs) (filter (λ q. bytes_eq q.key key) rs) h)

-- what was found is the values of a key of some records, and no damage
pub record Answers (bytes key : List ℕ) (rs : List KeyValue) (found : Found) : Type 0 where
  pub values : map (bytes_of bytes) found.spans ≡ values_of key rs
  pub sound : found.damage ≡ None

answers_has : (w : ℕ) (bytes key : List ℕ) (at : ℕ) (places : List ℕ) (r : KeyValue) (rs : List KeyValue) → ReadsAt w bytes at r → bytes_eq r.key key ≡ true → Answers bytes key rs (found_at w bytes key places)
    → Answers bytes key (r ∷ rs) (found_at w bytes key (at ∷ places))
answers_has w bytes key at places r rs reads same ih =
    let is = found_at-has w bytes key at places reads.whole (ap (λ k. bytes_eq k key) reads.key ∙ same) in
    record {
      values = ap (λ (f : Found). map (bytes_of bytes) f.spans) is ∙ ap (λ v. v ∷ map (bytes_of bytes) (found_at w bytes key places).spans) reads.value ∙ ap (λ vs. r.value ∷ vs) ih.values ∙ sym (values_of-has key r rs same);
      sound = ap (λ (f : Found). f.damage) is ∙ ih.sound;
    }

answers_other : (w : ℕ) (bytes key : List ℕ) (at : ℕ) (places : List ℕ) (r : KeyValue) (rs : List KeyValue) → ReadsAt w bytes at r → bytes_eq r.key key ≡ false → Answers bytes key rs (found_at w bytes key places)
    → Answers bytes key (r ∷ rs) (found_at w bytes key (at ∷ places))
answers_other w bytes key at places r rs reads other ih =
    let is = found_at-other w bytes key at places reads.whole (ap (λ k. bytes_eq k key) reads.key ∙ other) in
    record {
      values = ap (λ (f : Found). map (bytes_of bytes) f.spans) is ∙ ih.values ∙ sym (values_of-other key r rs other);
      sound = ap (λ (f : Found). f.damage) is ∙ ih.sound;
    }

-- a record of another hash has another key
answers_skipped : (bytes key : List ℕ) (r : KeyValue) (rs : List KeyValue) (found : Found) → bytes_eq r.key key ≡ false → Answers bytes key rs found → Answers bytes key (r ∷ rs) found
answers_skipped bytes key r rs found other ih = record { values = ih.values ∙ sym (values_of-other key r rs other); sound = ih.sound }

abbrev entry_at : ℕ → KeyValue → WordPair
entry_at at r = record { first = key_hash r.key; second = at }

-- the places of entries
abbrev pub places_of : List WordPair → List ℕ
places_of es = map (λ (e : WordPair). e.second) es

-- one record more, whose entry is among those of the hash if its key has the hash
answers_more : (w : ℕ) (bytes key : List ℕ) (at : ℕ) (es : List WordPair) (r : KeyValue) (rs : List KeyValue) → ReadsAt w bytes at r → Answers bytes key rs (found_at w bytes key (places_of es))
    → Answers bytes key (r ∷ rs) (found_at w bytes key (places_of (cond (has_hash (key_hash key) (entry_at at r)) (entry_at at r ∷ es) es)))
answers_more w bytes key at es r rs reads ih =
    let h = key_hash key in
    let e = entry_at at r in
    let with : List WordPair → Found = λ fs. found_at w bytes key (places_of fs) in
    elim (cases_Bool (has_hash h e)) [
      | inl t ↦
          subst (λ fs. Answers bytes key (r ∷ rs) (with fs)) (sym (cond-true (has_hash h e) (e ∷ es) es t))
          (elim (cases_Bool (bytes_eq r.key key)) [
            | inl same ↦ answers_has w bytes key at (places_of es) r rs reads same ih
            | inr other ↦ answers_other w bytes key at (places_of es) r rs reads other ih
          ])
      | inr f ↦
          subst (λ fs. Answers bytes key (r ∷ rs) (with fs)) (sym (cond-false (has_hash h e) (e ∷ es) es f))
          (elim (cases_Bool (bytes_eq r.key key)) [
            | inl same ↦ absurd (both_ways (has_hash h e) f (eq-eqb (key_hash r.key) h (ap key_hash ((bytes_eq-Decides r.key key).0 same))))
            | inr other ↦ answers_skipped bytes key r rs (with es) other ih
          ])
    ]

-- the entries of a hash, of the records in some bytes
pub answers_entries : (w : ℕ) (bytes key : List ℕ) (at : ℕ) (rs : List KeyValue) → AllRead w bytes at rs → Answers bytes key rs (found_at w bytes key (places_of (filter (has_hash (key_hash key)) (entries_from w at rs))))
unfolding entries_from
answers_entries w bytes key at [] all =
    let none = found_at-none w bytes key in
    record { values = ap (λ (f : Found). map (bytes_of bytes) f.spans) none; sound = ap (λ (f : Found). f.damage) none }
answers_entries w bytes key at (r ∷ rs) all =
    answers_more w bytes key at (filter (has_hash (key_hash key)) (entries_from w (at + record_size w r) rs)) r rs all.0 (answers_entries w bytes key (at + record_size w r) rs all.1)

-- the entries of a hash, whatever its table
filter_filter : (h : ℕ) (es : List WordPair) → filter (has_hash h) (filter (in_table (table_number h)) es) ≡ filter (has_hash h) es
filter_filter h [] = refl
filter_filter h (e ∷ es) =
    let n = table_number h in
    let left = filter (in_table n) es in
    elim (cases_Bool (in_table n e)) [
      | inl t ↦ ap (filter (has_hash h)) (cond-true (in_table n e) (e ∷ left) left t) ∙ ap (λ xs. cond (has_hash h e) (e ∷ xs) xs) (filter_filter h es)
      | inr f ↦
          (let other : has_hash h e ≡ false = ne_eqb e.first h (λ same. both_ways (in_table n e) f (eq-eqb (table_number e.first) n (ap table_number same))) in
          ap (filter (has_hash h)) (cond-false (in_table n e) (e ∷ left) left f)
          ∙ filter_filter h es
          ∙ sym (cond-false (has_hash h e) (e ∷ filter (has_hash h) es) (filter (has_hash h) es) other))
    ]

met_slots-table : (w : ℕ) (rs : List KeyValue) (h : ℕ) → 0 < w → met_slots h (table_slots w rs (table_number h)) ≡ filter (has_hash h) (file_entries w rs)
unfolding table_slots table_entries
met_slots-table w rs h some =
    let es = filter (in_table (table_number h)) (file_entries w rs) in
    met_slots-filled_slots h (2 * length es) es (omega arith) (All-filter (in_table (table_number h)) IsUsed (file_entries w rs) (AllUsed-entries w (head_size w) rs (omega arith))) ∙ filter_filter h (file_entries w rs)

-- a look-up, once the pointer is known
pub lookup_of-is : (w : ℕ) (bytes key : List ℕ) → lookup_of w bytes key ≡ found_by w bytes key (nth_pair w bytes (table_number (key_hash key)))
unfolding lookup_of
lookup_of-is w bytes key = refl

-- if the table lies inside the file, or has no slots, a look-up reads the slots that are met
pub lookup_of-inside : (w : ℕ) (bytes key : List ℕ) (p : WordPair) → nth_pair w bytes (table_number (key_hash key)) ≡ p → (has_slots p ≡ true → is_inside w bytes p ≡ true)
    → lookup_of w bytes key ≡ found_at w bytes key (places_of (met_slots (key_hash key) (slots_at w bytes p)))
lookup_of-inside w bytes key p pointer inside =
    let start : lookup_of w bytes key ≡ found_by w bytes key p = lookup_of-is w bytes key ∙ ap (found_by w bytes key) pointer in
    elim (cases_Bool (p.second == 0)) [
      | inl t ↦
          (let none = nil_from_length (slots_at w bytes p) (length-map-range_with_len (nth_pair w (drop p.first bytes)) 0 p.second ∙ eqb-true p.second 0 t) in
          start ∙ cond-true (not (has_slots p)) _ _ (not_from_false (has_slots p) (not_from_true (p.second == 0) t))
          ∙ sym (found_at-none w bytes key)
          ∙ ap (λ es. found_at w bytes key (places_of es)) (sym (ap (met_slots (key_hash key)) none ∙ met_slots-none (key_hash key))))
      | inr some ↦
          (let has = not_from_false (p.second == 0) some in
          start ∙ cond-false (not (has_slots p)) _ _ (not_from_true (has_slots p) has) ∙ cond-true (is_inside w bytes p) _ _ (inside has))
    ]

-- in a file these are the entries of the hash, in order
pub lookup_of-file_bytes : (w top : ℕ) (rs : List KeyValue) (key : List ℕ) → Fit w top rs → lookup_of w (file_bytes w rs) key ≡ found_at w (file_bytes w rs) key (places_of (filter (has_hash (key_hash key)) (file_entries w rs)))
lookup_of-file_bytes w top rs key f =
    let h = key_hash key in
    let n = table_number h in
    let file = file_bytes w rs in
    let low : n < 256 = omega arith in
    lookup_of-inside w file key (table_pointer w rs n) (nth_pair-file_bytes n f low) (λ has. is_inside-file_bytes w rs n low)
    ∙ ap (λ es. found_at w file key (places_of es)) (ap (met_slots h) (slots_at-file_bytes n f low) ∙ met_slots-table w rs h (some_width f))

-- the law
pub finds_values : (w top : ℕ) (rs : List KeyValue) (key : List ℕ) → Fit w top rs → FindsValues w rs key
finds_values w top rs key f =
    let size = size_is w rs in
    let long = length-file_bytes w rs in
    let room = f.room in
    let file = file_bytes w rs in
    let a : Answers file key rs (lookup_of w file key) = subst (Answers file key rs) (sym (lookup_of-file_bytes w top rs key f))
    (answers_entries w file key (head_size w) rs (all_read w top file (head_size w) rs (tables_bytes w rs) f.top_is (drop-head w rs) (omega arith) (omega arith) (omega arith))) in
    record { values = a.values; sound = a.sound }
