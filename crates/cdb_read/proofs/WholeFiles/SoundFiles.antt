-- The file of some records is sound.
use Rattle.cdb_read.proofs.Words.{All, All-contains, All-contains_itself, All-filter, All-get_or, All-weaker, Contains, IsRight, IsSound, KeyValue, List, Walked, WordPair, all_slots, ap, arith, both_ways, cases_Bool, count_by, eq-eqb, eqb-true, false, file_bytes, file_entries, filter_passes, has_place, head_size, in_table, inl, inr, is_inside, is_used, length, ne_eqb, not, nth_slot, slots_at, subst, sym, table_at, table_entries, table_number, table_slots, true, walk_entries, walk_of-file_bytes, ℕ, ◌*◌, ◌<◌, ◌==◌, ◌∙◌, ◌≡◌, ◌≤◌}
use Rattle.cdb_read.proofs.Lists.Apart.{IsEntryOf, AreApart-entries, apart_same, count_apart, entries-above}
use Rattle.cdb_read.proofs.Lists.Counts.{count_zero, count-filter, count_lists_one}
use Rattle.cdb_read.proofs.FilledTables.FileTables.{nth_pair-file_bytes, slots_at-file_bytes, is_inside-file_bytes}
use Rattle.cdb_read.proofs.FilledTables.Filled.{IsUsed, AllUsed, NoneBehind}
use Rattle.cdb_read.proofs.FilledTables.SlotTables.{OnlyUsed, told-filled_slots, NoneBehind-filled_slots, count-filled_slots}
use Rattle.cdb_read.proofs.FilledTables.Fits.{Fit, some_width, used, AllUsed-entries}
use Rattle.cdb_read.proofs.FilledTables.Reached.{reached-NoneBehind}

-- the entries of a table
entries_used : (w : ℕ) (rs : List KeyValue) (n : ℕ) → 0 < w → AllUsed (table_entries w rs n)
unfolding table_entries
entries_used w rs n some = All-filter (in_table n) IsUsed (file_entries w rs) (AllUsed-entries w (head_size w) rs (omega arith))

-- they are those of the file whose hash has the table
entries_told : (w : ℕ) (rs : List KeyValue) (n : ℕ) → All (IsEntryOf (file_entries w rs) n) (table_entries w rs n)
unfolding table_entries
entries_told w rs n = λ k d l. (
  All-filter (in_table n) (Contains (file_entries w rs)) (file_entries w rs) (All-contains_itself (file_entries w rs)) k d l,
  eqb-true _ n (filter_passes (in_table n) (file_entries w rs) k d l),
)

-- and so are the used slots
slots_told : (w : ℕ) (rs : List KeyValue) (n : ℕ) → All (λ s. is_used s ≡ true → IsEntryOf (file_entries w rs) n s) (table_slots w rs n)
unfolding table_slots
slots_told w rs n = told-filled_slots (IsEntryOf (file_entries w rs) n) (2 * length (table_entries w rs n)) (table_entries w rs n) (entries_told w rs n)

none_behind : (w : ℕ) (rs : List KeyValue) (n h : ℕ) → 0 < w → NoneBehind h (table_slots w rs n)
unfolding table_slots
none_behind w rs n h some = NoneBehind-filled_slots h (2 * length (table_entries w rs n)) (table_entries w rs n) (omega arith) (entries_used w rs n some)

-- each used slot is right
abbrev RightTable : List WordPair → ℕ → List WordPair → Type 0
RightTable entries n slots = (i : ℕ) → i < length slots → is_used (nth_slot slots i) ≡ true → IsRight entries n slots i

right_table : (w : ℕ) (rs : List KeyValue) (n : ℕ) → 0 < w → RightTable (file_entries w rs) n (table_slots w rs n)
right_table w rs n some i l u =
    let tells = All-get_or (λ s. is_used s ≡ true → IsEntryOf (file_entries w rs) n s) (table_slots w rs n) i _ l (slots_told w rs n) u in
    record {
      told = tells.0;
      in_table = tells.1;
      reached = reached-NoneBehind (table_slots w rs n) i l u (none_behind w rs n (nth_slot (table_slots w rs n) i).first some);
    }

-- how often a record's place occurs in a table: as often as among its entries
place_used : (a b : ℕ) → 0 < b → not (a == 0) ≡ false → a ≡ b → ⊥
place_used a b some f i = both_ways (not (a == 0)) f (used a (omega arith))

pub only_place : (e : WordPair) → 0 < e.second → OnlyUsed (has_place e)
only_place e some s f = ne_eqb s.second e.second (λ i. place_used s.second e.second some f i)

count_table : (w : ℕ) (rs : List KeyValue) (n : ℕ) (e : WordPair) → 0 < w → 0 < e.second → count_by (has_place e) (table_slots w rs n) ≡ count_by (has_place e) (table_entries w rs n)
unfolding table_slots
count_table w rs n e some place = count-filled_slots (has_place e) (2 * length (table_entries w rs n)) (table_entries w rs n) (only_place e place) (omega arith) (entries_used w rs n some)

-- once in the table of its hash
count_here : (w : ℕ) (rs : List KeyValue) (e : WordPair) → 0 < w → Contains (file_entries w rs) e → count_by (has_place e) (table_entries w rs (table_number e.first)) ≡ 1
unfolding table_entries
count_here w rs e some c =
    let apart = AreApart-entries w (head_size w) rs some in
    count-filter (has_place e) (in_table (table_number e.first)) (file_entries w rs)
    (All-weaker (Contains (file_entries w rs)) (λ s. has_place e s ≡ true → in_table (table_number e.first) s ≡ true) (λ s d t. eq-eqb (table_number s.first) (table_number e.first) (ap (λ (q : WordPair). table_number q.first) (apart_same (file_entries w rs) s e apart d c t))) (file_entries w rs) (All-contains_itself (file_entries w rs)))
    ∙ count_apart (file_entries w rs) e apart c

-- and in no other
count_elsewhere : (w : ℕ) (rs : List KeyValue) (m : ℕ) (e : WordPair) → 0 < w → Contains (file_entries w rs) e → (m ≡ table_number e.first → ⊥) → count_by (has_place e) (table_entries w rs m) ≡ 0
count_elsewhere w rs m e some c other =
    count_zero (has_place e) (table_entries w rs m) (All-weaker (IsEntryOf (file_entries w rs) m) (λ s. has_place e s ≡ false)
    (λ s k. elim (cases_Bool (has_place e s)) [
      | inl t ↦ absurd (other (sym k.1 ∙ ap (λ (q : WordPair). table_number q.first) (apart_same (file_entries w rs) s e (AreApart-entries w (head_size w) rs some) k.0 c t)))
      | inr f ↦ f
    ]) (table_entries w rs m) (entries_told w rs m))

-- what table n of the file is
table_at-file_bytes : {w top : ℕ} {rs : List KeyValue} (n : ℕ) → Fit w top rs → n < 256 → table_at w (file_bytes w rs) n ≡ table_slots w rs n
table_at-file_bytes {w = w} {rs = rs} n f low = ap (slots_at w (file_bytes w rs)) (nth_pair-file_bytes n f low) ∙ slots_at-file_bytes n f low

once_in_file : {w top : ℕ} {rs : List KeyValue} (e : WordPair) → Fit w top rs → Contains (file_entries w rs) e → count_by (has_place e) (all_slots w (file_bytes w rs)) ≡ 1
unfolding all_slots
once_in_file {w = w} {rs = rs} e f c =
    let some = some_width f in
    let above = All-contains (λ x. head_size w ≤ x.second) (file_entries w rs) e (entries-above w (head_size w) rs) c in
    let place : 0 < e.second = omega arith in
    let in_tables : (m : ℕ) → m < 256 → count_by (has_place e) (table_at w (file_bytes w rs) m) ≡ count_by (has_place e) (table_entries w rs m) = λ m l.
    ap (count_by (has_place e)) (table_at-file_bytes m f l) ∙ count_table w rs m e some place in
    count_lists_one (has_place e) (table_at w (file_bytes w rs)) (table_number e.first) 0 256 (omega arith) (omega arith)
    (λ m l other. (let low : m < 256 = omega arith in in_tables m low ∙ count_elsewhere w rs m e some c other))
    ∙ in_tables (table_number e.first) (omega arith) ∙ count_here w rs e some c

-- the law
pub IsSound-file_bytes : (w top : ℕ) (rs : List KeyValue) → Fit w top rs → IsSound w (file_bytes w rs)
IsSound-file_bytes w top rs f =
    let some = some_width f in
    let file = file_bytes w rs in
    let walk = walk_of-file_bytes w top rs f.width f.top_is f.room in
    let entries : walk_entries w file ≡ file_entries w rs = ap (λ (x : Walked). file_entries w x.records) walk in
    record {
      inside = λ n l has. ap (is_inside w file) (nth_pair-file_bytes n f l) ∙ is_inside-file_bytes w rs n l;
      walked = ap (λ (x : Walked). x.damage) walk;
      slots = λ n i l. subst (λ es. RightTable es n (table_at w file n)) (sym entries) (subst (RightTable (file_entries w rs) n) (sym (table_at-file_bytes n f l)) (right_table w rs n some)) i;
      once = subst (All (λ e. count_by (has_place e) (all_slots w file) ≡ 1)) (sym entries)
          (All-weaker (Contains (file_entries w rs)) (λ e. count_by (has_place e) (all_slots w file) ≡ 1) (λ e c. once_in_file e f c) (file_entries w rs) (All-contains_itself (file_entries w rs)));
    }
