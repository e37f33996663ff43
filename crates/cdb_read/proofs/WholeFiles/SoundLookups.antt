-- A look-up in a sound file finds the values that its key has in the walk.
use Rattle.cdb_read.proofs.Words.{All, All-contains, All-contains_itself, All-filter, All-from_get_or, All-head, All-same, All-tail, All-weaker, AreBytes, Contains, Found, IsPermutation, IsSound, KeyValue, List, None, WordPair, [], all_slots, ap, arith, bytes_of, cases_Bool, cond, cond-false, cond-true, count_by, drop, empty_slot, eqb-true, false, file_entries, filter, filter_passes, flat_map, found_at, has_hash, has_key, has_place, head_size, home_slot, inl, inr, is_used, key_hash, length, lookup_of, map, met_slots, nth_pair, record_bytes, record_size, refl, subst, sum_by, sym, table_at, table_number, take-append-drop, true, value_span, walk_entries, walk_of, ℕ, ◌++◌, ◌+◌, ◌<◌, ◌^◌, ◌∙◌, ◌∷◌, ◌≡◌, ◌≤◌}
use Rattle.cdb_form.proofs.Files.WalkLaws.{record_end-le, walk_of-IsWalk}
use Rattle.cdb_read.specs.Laws.{FindsWalked}
use Rattle.cdb_read.proofs.Lists.Apart.{AreApart-entries, AreApart-filter, Contains-filter, IsEntryOf, apart_same, entries-above, same_entries}
use Rattle.cdb_read.proofs.Lists.Counts.{count_zero, count_lists_one}
use Rattle.cdb_read.proofs.FilledTables.Filled.{count_by-slots_from, from_home, met_slots-met}
use Rattle.cdb_read.proofs.FilledTables.Fits.{used}
use Rattle.cdb_read.proofs.WholeFiles.LookupLaws.{answers_entries, found_at-has, found_at-none, found_at-other, lookup_of-inside, places_of}
use Rattle.cdb_read.proofs.Lists.Meeting.{met}
use Rattle.cdb_read.proofs.FilledTables.Reached.{All-slots_from, NoneBehind-reached, OnlyWanted, count-met, met_all}
use Rattle.cdb_read.proofs.Walked.Walks.{walk_head}
use Rattle.cdb_read.proofs.Bytes.RecordsAt.{AllRead, TellsWhole, all_read, entries_whole}

-- the records of a walk without damage are read at their places
walk_reads : (w top : ℕ) (bytes : List ℕ) → 0 < w → top + 1 ≡ 256 ^ w → head_size w ≤ top → AreBytes bytes → (walk_of w bytes).damage ≡ None → AllRead w bytes (head_size w) (walk_of w bytes).records
walk_reads w top bytes some top_is head are walked =
    let rs = (walk_of w bytes).records in
    let walk = walk_of-IsWalk w top bytes some top_is head are in
    let stand = (walk.longest (walk_head w bytes walked)).stand in
    let size = sum_by (record_size w) (walk_of w bytes).records in
    let body = drop (head_size w) bytes in
    let here : body ≡ flat_map (record_bytes w) rs ++ drop size body = sym (take-append-drop size body) ∙ ap (λ t. t ++ drop size body) stand.bytes_are in
    let word = record_end-le w top bytes are top_is head in
    let low : head_size w ≤ head_size w = omega arith in
    all_read w top bytes (head_size w) rs (drop size body) top_is here low stand.inside (omega (arith, word, stand.before_end))

-- what an entry gives to a look-up
abbrev value_at : ℕ → List ℕ → List ℕ → WordPair → List (List ℕ)
value_at w bytes key e = cond (has_key w bytes key e.second) (bytes_of bytes (value_span w bytes e.second) ∷ []) []

-- entries at whole records give their values one by one
record Gives (w : ℕ) (bytes key : List ℕ) (es : List WordPair) : Type 0 where
  values : map (bytes_of bytes) (found_at w bytes key (places_of es)).spans ≡ flat_map (value_at w bytes key) es
  sound : (found_at w bytes key (places_of es)).damage ≡ None

gives_whole : (w : ℕ) (bytes key : List ℕ) (es : List WordPair) → All (TellsWhole w bytes) es → Gives w bytes key es
gives_whole w bytes key [] all =
    let none = found_at-none w bytes key in
    record { values = ap (λ (f : Found). map (bytes_of bytes) f.spans) none; sound = ap (λ (f : Found). f.damage) none }
gives_whole w bytes key (e ∷ es) all =
    let ih = gives_whole w bytes key es (All-tail (TellsWhole w bytes) e es all) in
    let whole = All-head (TellsWhole w bytes) e es all in
    let value = bytes_of bytes (value_span w bytes e.second) in
    let rest = flat_map (value_at w bytes key) es in
    elim (cases_Bool (has_key w bytes key e.second)) [
      | inl t ↦
          (let is = found_at-has w bytes key e.second (places_of es) whole t in
          record {
            values = ap (λ (f : Found). map (bytes_of bytes) f.spans) is ∙ ap (λ vs. value ∷ vs) ih.values ∙ sym (ap (λ vs. vs ++ rest) (cond-true (has_key w bytes key e.second) (value ∷ []) [] t));
            sound = ap (λ (f : Found). f.damage) is ∙ ih.sound;
          })
      | inr f ↦
          (let is = found_at-other w bytes key e.second (places_of es) whole f in
          record {
            values = ap (λ (q : Found). map (bytes_of bytes) q.spans) is ∙ ih.values ∙ sym (ap (λ vs. vs ++ rest) (cond-false (has_key w bytes key e.second) (value ∷ []) [] f));
            sound = ap (λ (q : Found). q.damage) is ∙ ih.sound;
          })
    ]

-- the used slots of a table of a sound file are its entries
slots_told : {w : ℕ} {bytes : List ℕ} (n : ℕ) → IsSound w bytes → n < 256 → All (λ s. is_used s ≡ true → IsEntryOf (walk_entries w bytes) n s) (table_at w bytes n)
slots_told {w = w} {bytes = bytes} n s low =
    All-from_get_or (λ q. is_used q ≡ true → IsEntryOf (walk_entries w bytes) n q) (table_at w bytes n) empty_slot (λ i l u. (let right = s.slots n i low l u in (right.told, right.in_table)))

-- those with the place of an entry are this entry
record IsEntry (n : ℕ) (e s : WordPair) : Type 0 where
  same : s ≡ e
  in_table : table_number s.first ≡ n
  is_used : is_used s ≡ true

slot_same : (w n : ℕ) (rs : List KeyValue) (e s : WordPair) → 0 < w → Contains (file_entries w rs) e → (is_used s ≡ true → IsEntryOf (file_entries w rs) n s) → has_place e s ≡ true → IsEntry n e s
slot_same w n rs e s some c tells t =
    let above = All-contains (λ x. head_size w ≤ x.second) (file_entries w rs) e (entries-above w (head_size w) rs) c in
    let place = eqb-true s.second e.second t in
    let is = used s.second (omega arith) in
    record {
      same = apart_same (file_entries w rs) s e (AreApart-entries w (head_size w) rs some) (tells is).0 c t;
      in_table = (tells is).1;
      is_used = is;
    }

-- what a search meets are entries of its hash
met_within : {w : ℕ} {bytes : List ℕ} (h : ℕ) → IsSound w bytes → All (Contains (filter (has_hash h) (walk_entries w bytes))) (met_slots h (table_at w bytes (table_number h)))
met_within {w = w} {bytes = bytes} h s =
    let n = table_number h in
    let table = table_at w bytes (table_number h) in
    let entries = walk_entries w bytes in
    let low : n < 256 = omega arith in
    All-same (Contains (filter (has_hash h) entries)) (met_slots h table) (met is_used (has_hash h) (from_home h table)) (met_slots-met h table)
    (All-weaker (λ q. IsEntryOf entries n q × (has_hash h q ≡ true)) (Contains (filter (has_hash h) entries)) (λ q k. Contains-filter (has_hash h) entries q k.0.0 k.1) (met is_used (has_hash h) (from_home h table))
    (met_all (IsEntryOf entries n) is_used (has_hash h) (from_home h table) (All-slots_from (λ q. is_used q ≡ true → IsEntryOf entries n q) (home_slot h (length table)) table (slots_told n s low))))

-- each of them is met once
met_once : {w : ℕ} {bytes : List ℕ} (h : ℕ) (e : WordPair) → 0 < w → IsSound w bytes → Contains (walk_entries w bytes) e → has_hash h e ≡ true → count_by (has_place e) (met_slots h (table_at w bytes (table_number h))) ≡ 1
unfolding all_slots
met_once {w = w} {bytes = bytes} h e some s c t =
    let rs = (walk_of w bytes).records in
    let n = table_number h in
    let table = table_at w bytes (table_number h) in
    let hash = eqb-true e.first h t in
    let low : n < 256 = omega arith in
    let tells = slots_told n s low in
    let others : (m : ℕ) → m < 0 + 256 → (m ≡ n → ⊥) → count_by (has_place e) (table_at w bytes m) ≡ 0 = λ m l other.
    (let below : m < 256 = omega arith in
    count_zero (has_place e) (table_at w bytes m) (All-weaker (λ q. is_used q ≡ true → IsEntryOf (walk_entries w bytes) m q) (λ q. has_place e q ≡ false)
    (λ q k. elim (cases_Bool (has_place e q)) [
      | inl p ↦ (let is = slot_same w m rs e q some c k p in absurd (other (sym is.in_table ∙ ap (λ (x : WordPair). table_number x.first) is.same ∙ ap table_number hash)))
      | inr f ↦ f
    ]) (table_at w bytes m) (slots_told m s below))) in
    let single = count_lists_one (has_place e) (table_at w bytes) n 0 256 (omega arith) (omega arith) others in
    let probe = count_by-slots_from (has_place e) (home_slot h (length table)) table in
    let only : All (OnlyWanted (has_place e) is_used (has_hash h)) (from_home h table) =
    All-weaker (λ q. is_used q ≡ true → IsEntryOf (walk_entries w bytes) n q) (OnlyWanted (has_place e) is_used (has_hash h))
    (λ q k p. (let is = slot_same w n rs e q some c k p in (is.is_used, ap (has_hash h) is.same ∙ t)))
    (from_home h table) (All-slots_from (λ q. is_used q ≡ true → IsEntryOf (walk_entries w bytes) n q) (home_slot h (length table)) table tells) in
    let none = NoneBehind-reached h table (λ i l u. (s.slots n i low l u).reached) in
    let one = All-contains (λ q. count_by (has_place q) (all_slots w bytes) ≡ 1) (walk_entries w bytes) e s.once c in
    ap (count_by (has_place e)) (met_slots-met h table)
    ∙ count-met (has_place e) is_used (has_hash h) (from_home h table) only none
    ∙ probe ∙ sym single ∙ one

-- so a search meets the entries of its hash, in some order
met_same : {w : ℕ} {bytes : List ℕ} {Y : Type 0} (g : WordPair → List Y) (h : ℕ) → 0 < w → IsSound w bytes → IsPermutation (flat_map g (filter (has_hash h) (walk_entries w bytes))) (flat_map g (met_slots h (table_at w bytes (table_number h))))
met_same {w = w} {bytes = bytes} g h some s =
    let entries = walk_entries w bytes in
    let found = met_slots h (table_at w bytes (table_number h)) in
    same_entries g (filter (has_hash h) entries) found (AreApart-filter (has_hash h) entries (AreApart-entries w (head_size w) (walk_of w bytes).records some)) (met_within h s)
    (λ k d l. met_once h _ some s (All-filter (has_hash h) (Contains entries) entries (All-contains_itself entries) k d l) (filter_passes (has_hash h) entries k d l))

-- the law
pub finds_walked : (w top : ℕ) (bytes key : List ℕ) → 0 < w → top + 1 ≡ 256 ^ w → head_size w ≤ top → AreBytes bytes → IsSound w bytes → FindsWalked w bytes key
finds_walked w top bytes key some top_is head are s =
    let rs = (walk_of w bytes).records in
    let h = key_hash key in
    let n = table_number h in
    let low : n < 256 = omega arith in
    let entries = filter (has_hash h) (walk_entries w bytes) in
    let found = met_slots h (table_at w bytes n) in
    let read = walk_reads w top bytes some top_is head are s.walked in
    let whole = All-filter (has_hash h) (TellsWhole w bytes) (walk_entries w bytes) (entries_whole w bytes (head_size w) rs read) in
    let answers = answers_entries w bytes key (head_size w) rs read in
    let walk_gives = gives_whole w bytes key entries whole in
    let search_gives = gives_whole w bytes key found (All-weaker (Contains entries) (TellsWhole w bytes) (λ e c. All-contains (TellsWhole w bytes) entries e whole c) found (met_within h s)) in
    let look : lookup_of w bytes key ≡ found_at w bytes key (places_of found) = lookup_of-inside w bytes key (nth_pair w bytes n) refl (s.inside n low) in
    record {
      values = subst (λ vs. IsPermutation vs (map (bytes_of bytes) (lookup_of w bytes key).spans)) (sym walk_gives.values ∙ answers.values)
          (subst (IsPermutation (flat_map (value_at w bytes key) entries)) (sym (ap (λ (f : Found). map (bytes_of bytes) f.spans) look ∙ search_gives.values)) (met_same (value_at w bytes key) h some s));
      sound = ap (λ (f : Found). f.damage) look ∙ search_gives.sound;
    }
