-- What the parts of a check come to.
use Rattle.cdb_read.proofs.Words.{All, All-get_or, Damage, HasEntries, IsFirstDamage, IsSound, List, ListsMark, None, Option, Pointer, Some, StandsInside, TableRecords, TablesAreClear, TablesHave, WalkHas, WordPair, all_slots, ap, arith, cond-false, cond-true, entry_fault, false, first_fault, first_of, get_or, get_or-map, head_at, head_size, is_outside, length, length-map, lost_fault, map, nth_pair, option_map, option_or, pointer_pair, position, range_with_len, refl, slots_fault, subst, sym, table_fault, true, walk_entries, walk_of, ℕ, ◌<◌, ◌∙◌, ◌≡◌, ◌≤◌}
use Rattle.std.proofs.lemmas.List.Quantifiers.{position-Some}
use Rattle.cdb_form.specs.declared.damage.Damage.TheVariants.{Table, Unindexed}
use Rattle.cdb_read.proofs.Probing.Beginnings.{pointer_known}
use Rattle.cdb_read.proofs.WholeFiles.FaultLaws.{first_fault-whole, none_of-all, all_numbers, sound_is_no_damage}
use Rattle.cdb_read.proofs.Checks.FaultSteps.{first_next}
use Rattle.cdb_read.proofs.Checks.TableChecks.{not_outside}

-- table n, as its pointer gives it
pointer_at : (w n : ℕ) (b : List ℕ) (ps : List Pointer) → length ps ≡ 256 → head_at w b ≡ map pointer_pair ps → n < 256 → get_or (map pointer_pair ps) n (record { first = 0; second = 0 }) ≡ nth_pair w b n
pointer_at w n b ps many known l =
    let d : Pointer = record { place = 0; slots = 0 } in
    get_or-map pointer_pair ps n d (record { first = 0; second = 0 }) (omega arith) ∙ sym (pointer_known w b ps n d known l)

outside_fault : (w n : ℕ) (b : List ℕ) → is_outside w b (nth_pair w b n) ≡ true → table_fault w b n ≡ Some (Table n)
outside_fault w n b h = cond-true (is_outside w b (nth_pair w b n)) (Some (Table n)) None h

inside_fault : (w n : ℕ) (b : List ℕ) → is_outside w b (nth_pair w b n) ≡ false → table_fault w b n ≡ None
inside_fault w n b h = cond-false (is_outside w b (nth_pair w b n)) (Some (Table n)) None h

-- the first table outside the file is the first one with a fault
table_first : (w n : ℕ) (b : List ℕ) (ps : List Pointer) → length ps ≡ 256 → head_at w b ≡ map pointer_pair ps → position (is_outside w b) (map pointer_pair ps) ≡ Some n → first_of (table_fault w b) (range_with_len 0 256) ≡ Some (Table n)
table_first w n b ps many known is =
    let q : WordPair = record { first = 0; second = 0 } in
    let long = length-map ps pointer_pair in
    let found = position-Some (is_outside w b) (map pointer_pair ps) n q is in
    let low : n < 256 = omega (arith, found.0) in
    first_next (table_fault w b) n 256 (Table n) low
    (none_of-all (table_fault w b) (range_with_len 0 n) (all_numbers (λ k. table_fault w b k ≡ None) n (λ k l.
    inside_fault w k b (ap (is_outside w b) (sym (pointer_at w k b ps many known (omega arith))) ∙ found.2 k l))))
    (outside_fault w n b (ap (is_outside w b) (sym (pointer_at w n b ps many known low)) ∙ found.1))

tables_inside : (w : ℕ) (b : List ℕ) (ps : List Pointer) → length ps ≡ 256 → head_at w b ≡ map pointer_pair ps → All (StandsInside w (length b)) (map pointer_pair ps) → first_of (table_fault w b) (range_with_len 0 256) ≡ None
tables_inside w b ps many known inside =
    let q : WordPair = record { first = 0; second = 0 } in
    let long = length-map ps pointer_pair in
    none_of-all (table_fault w b) (range_with_len 0 256) (all_numbers (λ k. table_fault w b k ≡ None) 256 (λ k l.
    inside_fault w k b (ap (is_outside w b) (sym (pointer_at w k b ps many known l)) ∙ not_outside w (length b) b (get_or (map pointer_pair ps) k q) refl (All-get_or (StandsInside w (length b)) (map pointer_pair ps) k q (omega arith) inside))))

-- what is known once the tables lie inside a file with a whole head
pub record IsWhole (w : ℕ) (b : List ℕ) (ps : List Pointer) : Type 0 where
  pub head : head_size w ≤ length b
  pub many : length ps ≡ 256
  pub known : head_at w b ≡ map pointer_pair ps

-- and they do
pub record HasTables (w : ℕ) (b : List ℕ) (ps : List Pointer) : Type 0 where
  pub whole : IsWhole w b ps
  pub inside : All (StandsInside w (length b)) (map pointer_pair ps)

-- in an image of a store of n bytes, m of which are seen
pub has_tables : {w n m : ℕ} {b : List ℕ} (ps : List Pointer) → head_size w ≤ n → length ps ≡ 256 → head_at w b ≡ map pointer_pair ps → length b ≡ n → m ≡ n → All (StandsInside w m) (map pointer_pair ps) → HasTables w b ps
has_tables {w = w} ps long many known size seen inside = record {
  whole = record { head = omega (arith, long, size); many = many; known = known };
  inside = subst (λ (k : ℕ). All (StandsInside w k) (map pointer_pair ps)) (seen ∙ sym size) inside;
}

-- a fault, or none, by the parts of a file in turn
pub first_is_table : (w n : ℕ) (b : List ℕ) (ps : List Pointer) → IsWhole w b ps → Some n ≡ position (is_outside w b) (map pointer_pair ps) → IsFirstDamage w b (Table n)
first_is_table w n b ps whole is =
    first_fault-whole w b whole.head
    ∙ ap (λ x. option_or x (option_or (walk_of w b).damage (option_or (first_of (slots_fault w b (walk_entries w b)) (range_with_len 0 256)) (first_of (entry_fault w b) (walk_entries w b))))) (table_first w n b ps whole.many whole.known (sym is))

behind_tables : (w : ℕ) (b : List ℕ) (ps : List Pointer) → HasTables w b ps
    → first_fault w b ≡ option_or (walk_of w b).damage (option_or (first_of (slots_fault w b (walk_entries w b)) (range_with_len 0 256)) (first_of (entry_fault w b) (walk_entries w b)))
behind_tables w b ps tables =
    first_fault-whole w b tables.whole.head
    ∙ ap (λ x. option_or x (option_or (walk_of w b).damage (option_or (first_of (slots_fault w b (walk_entries w b)) (range_with_len 0 256)) (first_of (entry_fault w b) (walk_entries w b))))) (tables_inside w b ps tables.whole.many tables.whole.known tables.inside)

pub first_in_walk : (w : ℕ) (b : List ℕ) (ps : List Pointer) (d : Damage) → HasTables w b ps → WalkHas w b d → IsFirstDamage w b d
first_in_walk w b ps d tables has =
    behind_tables w b ps tables
    ∙ ap (λ x. option_or x (option_or (first_of (slots_fault w b (walk_entries w b)) (range_with_len 0 256)) (first_of (entry_fault w b) (walk_entries w b)))) has

behind_walk : (w : ℕ) (b : List ℕ) (ps : List Pointer) (kept : List TableRecords) → HasTables w b ps → HasEntries w b kept
    → first_fault w b ≡ option_or (first_of (slots_fault w b (walk_entries w b)) (range_with_len 0 256)) (first_of (entry_fault w b) (walk_entries w b))
behind_walk w b ps kept tables has =
    behind_tables w b ps tables
    ∙ ap (λ x. option_or x (option_or (first_of (slots_fault w b (walk_entries w b)) (range_with_len 0 256)) (first_of (entry_fault w b) (walk_entries w b)))) has.whole

pub first_in_slots : (w : ℕ) (b : List ℕ) (ps : List Pointer) (kept : List TableRecords) (d : Damage) → HasTables w b ps → HasEntries w b kept → TablesHave w kept b d → IsFirstDamage w b d
first_in_slots w b ps kept d tables has slots =
    behind_walk w b ps kept tables has
    ∙ ap (λ x. option_or x (first_of (entry_fault w b) (walk_entries w b))) (slots (walk_entries w b) has.marks)

behind_slots : (w : ℕ) (b : List ℕ) (ps : List Pointer) (kept marked : List TableRecords) (lost : Option ℕ) → HasTables w b ps → HasEntries w b kept → TablesAreClear w b kept marked
    → ((entries slots : List WordPair) → ListsMark marked entries slots → option_map (λ place. Unindexed place) lost ≡ first_of (lost_fault slots) entries) → first_fault w b ≡ option_map (λ place. Unindexed place) lost
behind_slots w b ps kept marked lost tables has clear unmarked =
    behind_walk w b ps kept tables has
    ∙ ap (λ x. option_or x (first_of (entry_fault w b) (walk_entries w b))) (clear.none (walk_entries w b) has.marks)
    ∙ sym (unmarked (walk_entries w b) (all_slots w b) (clear.marks (walk_entries w b) has.marks))

pub first_is_lost : (w place : ℕ) (b : List ℕ) (ps : List Pointer) (kept marked : List TableRecords) (lost : Option ℕ) → lost ≡ Some place → HasTables w b ps → HasEntries w b kept → TablesAreClear w b kept marked
    → ((entries slots : List WordPair) → ListsMark marked entries slots → option_map (λ place. Unindexed place) lost ≡ first_of (lost_fault slots) entries) → IsFirstDamage w b (Unindexed place)
first_is_lost w place b ps kept marked lost e tables has clear unmarked =
    behind_slots w b ps kept marked lost tables has clear unmarked ∙ ap (option_map (λ place. Unindexed place)) e

pub sound_is : (w : ℕ) (b : List ℕ) (ps : List Pointer) (kept marked : List TableRecords) (lost : Option ℕ) → lost ≡ None → 0 < w → HasTables w b ps → HasEntries w b kept → TablesAreClear w b kept marked
    → ((entries slots : List WordPair) → ListsMark marked entries slots → option_map (λ place. Unindexed place) lost ≡ first_of (lost_fault slots) entries) → IsSound w b
sound_is w b ps kept marked lost e some tables has clear unmarked =
    (sound_is_no_damage w b some).1 (behind_slots w b ps kept marked lost tables has clear unmarked ∙ ap (option_map (λ place. Unindexed place)) e)
