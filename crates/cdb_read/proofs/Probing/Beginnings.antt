-- Where the search of a key begins.
use Rattle.cdb_read.proofs.Words.{Bool, LiesInside, List, Pointer, Probe, WordPair, and_from, ap, arith, both_ways, cases_Bool, cond-false, cond-true, eq-eqb, false, filter, found_ahead, found_at, found_by, get_or, get_or-map, get_or-map-range_with_len, has_hash, has_slots, head_at, head_size, home_slot, inl, inr, is_inside, is_used, key_hash, le-leb, leb-true, length, length-map, length-map-range_with_len, lookup_of, map, met_slots, nat_le, ne_eqb, not, not_from_false, not_from_true, nth_pair, pair_size, pointer_pair, refl, slots_at, slots_from, sym, table_number, take, take_all, take_while, true, ℕ, ◌&&◌, ◌*◌, ◌+◌, ◌<◌, ◌==◌, ◌∙◌, ◌≡◌}
use Rattle.cdb_form.specs.declared.damage.Damage.TheVariants.{Table}
use Rattle.cdb_read.specs.Lookup.{nothing_found, found_damaged}
use Rattle.cdb_read.specs.declared.lookup.probe.Searching.TheVariants.{At}
use Rattle.cdb_read.proofs.FilledTables.Filled.{length-slots_from}
use Rattle.cdb_read.proofs.WholeFiles.LookupLaws.{lookup_of-is}
use Rattle.cdb_read.proofs.Probing.Probes.{length-slots_at}

pub and_true : (x y : Bool) → (x && y) ≡ true → (x ≡ true) × (y ≡ true)
and_true true y e = (refl, e)
and_true false y e = absurd (both_ways false refl e)

-- the pointers that a reader holds are those of its images
pub pointer_known : (w : ℕ) (b : List ℕ) (ps : List Pointer) (n : ℕ) (d : Pointer) → head_at w b ≡ map pointer_pair ps → n < 256 → nth_pair w b n ≡ pointer_pair (get_or ps n d)
unfolding head_at
pointer_known w b ps n d known low =
    let many = length-map-range_with_len (nth_pair w b) 0 256 in
    let same = ap length known in
    let long = length-map ps pointer_pair in
    let at : 0 + n ≡ n = omega arith in
    sym (get_or-map-range_with_len (nth_pair w b) 0 256 n n (pointer_pair d) low at)
    ∙ ap (λ qs. get_or qs n (pointer_pair d)) known
    ∙ get_or-map pointer_pair ps n d (pointer_pair d) (omega arith)

-- the look-up, by the pointer that is held
pub looks_by : (w : ℕ) (b key : List ℕ) (ps : List Pointer) (n : ℕ) (d : Pointer) → head_at w b ≡ map pointer_pair ps → n ≡ table_number (key_hash key) → lookup_of w b key ≡ found_by w b key (pointer_pair (get_or ps n d))
looks_by w b key ps n d known e =
    let low : table_number (key_hash key) < 256 = omega arith in
    lookup_of-is w b key ∙ ap (found_by w b key) (pointer_known w b ps (table_number (key_hash key)) d known low ∙ ap (λ k. pointer_pair (get_or ps k d)) (sym e))

-- a table without slots
pub begins_nowhere : (w : ℕ) (b key : List ℕ) (p : WordPair) → p.second ≡ 0 → nothing_found ≡ found_by w b key p
begins_nowhere w b key p none = sym (cond-true (not (has_slots p)) _ _ (not_from_false (has_slots p) (not_from_true (p.second == 0) (eq-eqb p.second 0 none))))

some_slots : (p : WordPair) → (p.second ≡ 0 → ⊥) → not (has_slots p) ≡ false
some_slots p some = not_from_true (has_slots p) (not_from_false (p.second == 0) (ne_eqb p.second 0 some))

pub is_inside-lies : (w size : ℕ) (b : List ℕ) (p : WordPair) → size ≡ length b → is_inside w b p ≡ true → LiesInside w size p
is_inside-lies w size b p long t =
    let both = and_true (nat_le (head_size w) p.first) (nat_le (p.first + pair_size w * p.second) (length b)) t in
    record {
      behind = leb-true (head_size w) p.first both.0;
      inside = (let within = leb-true (p.first + pair_size w * p.second) (length b) both.1 in omega arith);
    }

-- one outside the file
pub begins_outside : (w size : ℕ) (b key : List ℕ) (p : WordPair) (n : ℕ) → size ≡ length b → (p.second ≡ 0 → ⊥) → (LiesInside w size p → ⊥) → n ≡ table_number (key_hash key) → found_damaged (Table n) ≡ found_by w b key p
begins_outside w size b key p n long some outside e =
    let not_inside : is_inside w b p ≡ false = elim (cases_Bool (is_inside w b p)) [
      | inl t ↦ absurd (outside (is_inside-lies w size b p long t))
      | inr f ↦ f
    ] in
    ap (λ k. found_damaged (Table k)) e
    ∙ sym (cond-false (not (has_slots p)) _ _ (some_slots p some) ∙ cond-false (is_inside w b p) _ _ not_inside)

-- and one inside
pub begins_at : (w size h : ℕ) (b key : List ℕ) (probe : Probe) → size ≡ length b → h ≡ key_hash key → (probe.table.slots ≡ 0 → ⊥) → LiesInside w size (pointer_pair probe.table) → probe.slot ≡ home_slot h probe.table.slots → probe.left ≡ probe.table.slots
    → found_ahead w b key (At probe) ≡ found_by w b key (pointer_pair probe.table)
unfolding met_slots
begins_at w size hash b key probe long_is hash_is some inside home all =
    let p = pointer_pair probe.table in
    let h = key_hash key in
    let slots = slots_at w b p in
    let n = length-slots_at w b p in
    let within = inside.inside in
    let is_in : is_inside w b p ≡ true = and_from _ _ (le-leb (head_size w) p.first inside.behind) (le-leb (p.first + pair_size w * p.second) (length b) (omega arith)) in
    let long = length-slots_from (home_slot h (length slots)) slots in
    let from : slots_from probe.slot slots ≡ slots_from (home_slot h (length slots)) slots = ap (λ k. slots_from k slots) (home ∙ ap (λ k. home_slot k probe.table.slots) hash_is ∙ ap (home_slot h) (sym n)) in
    let every : take probe.left (slots_from probe.slot slots) ≡ slots_from (home_slot h (length slots)) slots = ap (take probe.left) from ∙ take_all probe.left (slots_from (home_slot h (length slots)) slots) (omega arith) in
    ap (λ xs. found_at w b key (map (λ (s : WordPair). s.second) (filter (has_hash h) (take_while is_used xs)))) every
    ∙ sym (cond-false (not (has_slots p)) _ _ (some_slots p some) ∙ cond-true (is_inside w b p) _ _ is_in)
