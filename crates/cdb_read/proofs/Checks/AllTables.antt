-- One table after another.
use Rattle.cdb_read.proofs.Words.{Damage, List, ListsMark, Marks, None, Pointer, TableHas, TableIsClear, TableRecords, TablesAreClear, TablesHave, WordPair, [], all_slots, ap, append-nil, arith, cases_eq, faults_behind, first_of, flat_map, flat_map-append, get_or, get_or-set_other, get_or-set_same, head_at, in_table, inl, inr, length-set, map, pointer_pair, refl, set, slots_at, slots_fault, subst, sym, table_at, tables_below, ℕ, ◌++◌, ◌+◌, ◌<◌, ◌∙◌, ◌≡◌}
use Rattle.std.specs.List.{filter, range_with_len}
use Rattle.cdb_read.proofs.Probing.Beginnings.{pointer_known}
use Rattle.cdb_read.proofs.Checks.Elsewhere.{faults_in, marks_elsewhere}
use Rattle.cdb_read.proofs.Checks.FaultSteps.{range_split, first_of-nil, none_next, first_next}

-- the slots of the tables below the next
below_more : (w : ℕ) (b : List ℕ) (n : ℕ) → tables_below w b n ++ table_at w b n ≡ tables_below w b (n + 1)
below_more w b n =
    let z : n ≡ 0 + n = omega arith in
    ap (λ t. tables_below w b n ++ t) (ap (table_at w b) z ∙ sym (append-nil (table_at w b (0 + n))))
    ∙ sym (ap (flat_map (table_at w b)) (range_split 0 n 1) ∙ flat_map-append (table_at w b) (range_with_len 0 n) (range_with_len (0 + n) 1))

-- a table, as its pointer gives it
table_is : (w : ℕ) (b : List ℕ) (ps : List Pointer) (n : ℕ) (d : Pointer) → head_at w b ≡ map pointer_pair ps → n < 256 → slots_at w b (pointer_pair (get_or ps n d)) ≡ table_at w b n
table_is w b ps n d known l = ap (slots_at w b) (sym (pointer_known w b ps n d known l))

slots_fault_is : (w : ℕ) (b : List ℕ) (es : List WordPair) (n : ℕ) → slots_fault w b es n ≡ faults_behind es (tables_below w b n) n (table_at w b n)
unfolding slots_fault
slots_fault_is w b es n = refl

-- the first n tables have no fault, and their records are marked
pub record AreClearTo (w : ℕ) (b : List ℕ) (old new : List TableRecords) (n : ℕ) : Type 0 where
  pub none : (entries : List WordPair) → ListsMark old entries [] → first_of (slots_fault w b entries) (range_with_len 0 n) ≡ None
  pub marks : (entries : List WordPair) → ListsMark old entries [] → ListsMark new entries (tables_below w b n)

pub are_clear_none : (w : ℕ) (b : List ℕ) (old : List TableRecords) → AreClearTo w b old old 0
are_clear_none w b old = record { none = λ es m. first_of-nil (slots_fault w b es); marks = λ es m. m }

-- the fault of the next table, by the records of its list
next_fault : (w : ℕ) (b : List ℕ) (ps : List Pointer) (n : ℕ) (d : Pointer) (es : List WordPair) → head_at w b ≡ map pointer_pair ps → n < 256
    → slots_fault w b es n ≡ faults_behind (filter (in_table n) es) (tables_below w b n) n (slots_at w b (pointer_pair (get_or ps n d)))
next_fault w b ps n d es known l =
    slots_fault_is w b es n
    ∙ faults_in es (tables_below w b n) n (table_at w b n)
    ∙ ap (faults_behind (filter (in_table n) es) (tables_below w b n) n) (sym (table_is w b ps n d known l))

-- the marks of each list, if those of table n are of all its slots
marks_next : (w : ℕ) (b : List ℕ) (n : ℕ) (mid : List TableRecords) (new : TableRecords) (es : List WordPair) → n < 256 → slots_fault w b es n ≡ None → ListsMark mid es (tables_below w b n)
    → Marks new (filter (in_table n) es) (tables_below w b n ++ table_at w b n) → ListsMark (set mid n new) es (tables_below w b (n + 1))
marks_next w b n mid new es l none m here = record {
  many = length-set mid n new ∙ m.many;
  rising = m.rising;
  each = λ k d low.
      subst (Marks (get_or (set mid n new) k d) (filter (in_table k) es)) (below_more w b n)
      (elim (cases_eq k n) [
        | inl same ↦
            (let at : get_or (set mid n new) k d ≡ new = ap (λ j. get_or (set mid n new) j d) same ∙ get_or-set_same mid n new d (omega (arith, m.many)) in
            subst (λ z. Marks z (filter (in_table k) es) (tables_below w b n ++ table_at w b n)) (sym at)
            (subst (λ j. Marks new (filter (in_table j) es) (tables_below w b n ++ table_at w b n)) (sym same) here))
        | inr other ↦
            subst (λ z. Marks z (filter (in_table k) es) (tables_below w b n ++ table_at w b n)) (sym (get_or-set_other mid n k new d other))
            (marks_elsewhere w b (get_or mid k d) es (tables_below w b n) n k m.rising none other (m.each k d low))
      ]);
}

pub are_clear_more : (w : ℕ) (b : List ℕ) (ps : List Pointer) (n : ℕ) (d : Pointer) (old mid : List TableRecords) (z new : TableRecords) → head_at w b ≡ map pointer_pair ps → n < 256 → AreClearTo w b old mid n
    → TableIsClear w n (pointer_pair (get_or ps n d)) b (get_or mid n z) new → AreClearTo w b old (set mid n new) (n + 1)
are_clear_more w b ps n d old mid z new known l before clear =
    let none : (es : List WordPair) → ListsMark old es [] → slots_fault w b es n ≡ None = λ es m.
    next_fault w b ps n d es known l ∙ clear.none (filter (in_table n) es) (tables_below w b n) ((before.marks es m).each n z l) in
    record {
      none = λ es m. none_next (slots_fault w b es) n (before.none es m) (none es m);
      marks = λ es m. marks_next w b n mid new es l (none es m) (before.marks es m)
          (subst (λ t. Marks new (filter (in_table n) es) (tables_below w b n ++ t)) (table_is w b ps n d known l)
          (clear.marks (filter (in_table n) es) (tables_below w b n) ((before.marks es m).each n z l)));
    }

pub are_clear_all : (w : ℕ) (b : List ℕ) (old new : List TableRecords) (n : ℕ) → n ≡ 256 → AreClearTo w b old new n → TablesAreClear w b old new
unfolding all_slots
are_clear_all w b old new n e clear = record {
  none = λ es m. ap (λ k. first_of (slots_fault w b es) (range_with_len 0 k)) (sym e) ∙ clear.none es m;
  marks = λ es m. subst (λ k. ListsMark new es (tables_below w b k)) e (clear.marks es m);
}

-- and the first fault in the next
pub fault_in : (w : ℕ) (b : List ℕ) (ps : List Pointer) (n : ℕ) (q : Pointer) (old mid : List TableRecords) (z : TableRecords) (d : Damage) → head_at w b ≡ map pointer_pair ps → n < 256 → AreClearTo w b old mid n
    → TableHas w n (pointer_pair (get_or ps n q)) (get_or mid n z) b d → TablesHave w old b d
fault_in w b ps n q old mid z d known l before has = λ es m.
    first_next (slots_fault w b es) n 256 d l (before.none es m)
    (next_fault w b ps n q es known l ∙ has (filter (in_table n) es) (tables_below w b n) ((before.marks es m).each n z l))
