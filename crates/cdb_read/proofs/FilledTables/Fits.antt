-- The words of the tables of a file fit if its size does.
use Rattle.cdb_read.proofs.Words.{All-cons, All-filter, All-head, All-nil, All-replicate, All-set, All-tail, AllByRecursion, AreBytes, IsRecord, KeyValue, List, PairFits, WordPair, [], ap, arith, empty_slot, entries_from, file_entries, filled_slots, fold, hash_step, head_size, in_table, inl, inr, key_hash, length, ne_eqb, not_from_false, record_size, records_end, replicate, slots_of, slots_with, suc, sum_by-cons, table_entries, table_slots, true, ℕ, ◌%◌, ◌*◌, ◌+◌, ◌<◌, ◌^◌, ◌∙◌, ◌∷◌, ◌≡◌, ◌≤◌, ◌⊎◌}
use Rattle.std.specs.Prelude.{◌==◌, not, filter, sum_by, bit_xor, All}
use Rattle.std.proofs.lemmas.Nat.{xor_lt}
use Rattle.cdb_form.specs.Format.{file_size}
use Rattle.cdb_form.proofs.Files.Sizes.{size_split}
use Rattle.cdb_read.proofs.FilledTables.Filled.{IsUsed, AllUsed}

-- records whose file has words of w bytes, up to `top`, and can be read back
pub record Fit (w top : ℕ) (rs : List KeyValue) : Type 0 where
  pub width : (w ≡ 4) ⊎ (w ≡ 8)
  pub top_is : top + 1 ≡ 256 ^ w
  pub records : AllByRecursion IsRecord rs
  pub room : file_size w rs ≤ top

pub some_width : {w top : ℕ} {rs : List KeyValue} → Fit w top rs → 0 < w
some_width f = elim f.width [ inl a ↦ omega arith | inr b ↦ omega arith ]

-- the greatest word is that of 32 bits at least
top_fits : (w top : ℕ) → (w ≡ 4) ⊎ (w ≡ 8) → top + 1 ≡ 256 ^ w → 4294967295 ≤ top
top_fits w top (inl e) t = let p : top + 1 ≡ 256 ^ 4 = t ∙ ap (λ (k : ℕ). 256 ^ k) e in omega arith
top_fits w top (inr e) t = let p : top + 1 ≡ 256 ^ 8 = t ∙ ap (λ (k : ℕ). 256 ^ k) e in omega arith

-- the size of a file: the end of its records, and twice a slot for each
pub size_is : (w : ℕ) (rs : List KeyValue) → file_size w rs ≡ records_end w rs + 2 * w * (2 * length rs)
size_is w rs = let split = size_split w rs in omega arith

pub end_fits : {w top : ℕ} {rs : List KeyValue} → Fit w top rs → records_end w rs ≤ top
end_fits {w = w} {top = top} {rs = rs} f = let size = size_is w rs in let room = f.room in omega arith

-- a hash has 32 bits
hash_from : (h : ℕ) (key : List ℕ) → h < 2 ^ 32 → AreBytes key → fold hash_step h key < 2 ^ 32
hash_from h [] low bytes = low
hash_from h (b ∷ key) low bytes =
    let byte : b < 256 = bytes 0 in
    let next : bit_xor ((33 * h) % 2 ^ 32) b < 2 ^ 32 = xor_lt 32 ((33 * h) % 2 ^ 32) b (omega arith) (omega (arith, byte)) in
    hash_from (bit_xor ((33 * h) % 2 ^ 32) b) key next (λ k. bytes (suc k))

key_hash-lt : (key : List ℕ) → AreBytes key → key_hash key < 2 ^ 32
key_hash-lt key bytes = hash_from 5381 key (omega arith) bytes

-- entries
entries_fit : (w top at : ℕ) (rs : List KeyValue) → 4294967295 ≤ top → AllByRecursion IsRecord rs → at + sum_by (record_size w) rs ≤ top → All (PairFits top) (entries_from w at rs)
unfolding entries_from
entries_fit w top at [] wide records room = All-nil (PairFits top)
entries_fit w top at (r ∷ rs) wide records room =
    let first = records.0 in
    let low = key_hash-lt r.key first.key in
    let both = sum_by-cons (record_size w) r rs in
    All-cons (PairFits top) _ (entries_from w (at + record_size w r) rs) (record { first = omega arith; second = omega arith }) (entries_fit w top (at + record_size w r) rs wide records.1 (omega arith))

-- and the slots that they fill
filled_fit : (top : ℕ) (es slots : List WordPair) → All (PairFits top) slots → All (PairFits top) es → All (PairFits top) (fold slots_with slots es)
unfolding slots_with
filled_fit top [] slots fit more = fit
filled_fit top (e ∷ es) slots fit more = filled_fit top es (slots_with slots e) (All-set (PairFits top) slots _ e (All-head (PairFits top) e es more) fit) (All-tail (PairFits top) e es more)

slots_fit : (top : ℕ) (es : List WordPair) → All (PairFits top) es → All (PairFits top) (slots_of es)
unfolding filled_slots
slots_fit top es fit = filled_fit top es (replicate (2 * length es) empty_slot) (All-replicate (PairFits top) (2 * length es) empty_slot (record { first = omega arith; second = omega arith })) fit

pub table_fits : {w top : ℕ} {rs : List KeyValue} (n : ℕ) → Fit w top rs → All (PairFits top) (table_slots w rs n)
unfolding table_slots table_entries
table_fits {w = w} {top = top} {rs = rs} n f =
    let entries = entries_fit w top (head_size w) rs (top_fits w top f.width f.top_is) f.records (end_fits f) in
    slots_fit top (filter (in_table n) (file_entries w rs)) (All-filter (in_table n) (PairFits top) (file_entries w rs) entries)

-- entries are used slots
pub used : (n : ℕ) → 0 < n → not (n == 0) ≡ true
used n h = not_from_false (n == 0) (ne_eqb n 0 (λ e. omega arith))

pub AllUsed-entries : (w at : ℕ) (rs : List KeyValue) → 0 < at → AllUsed (entries_from w at rs)
unfolding entries_from
AllUsed-entries w at [] some = All-nil IsUsed
AllUsed-entries w at (r ∷ rs) some = All-cons IsUsed _ (entries_from w (at + record_size w r) rs) (used at some) (AllUsed-entries w (at + record_size w r) rs (omega arith))
