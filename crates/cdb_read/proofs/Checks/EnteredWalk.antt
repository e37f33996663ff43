-- The records that a walk has given, as a check keeps them.
use Rattle.cdb_read.proofs.Words.{HasAdded, HasEntries, IsRising, KeyValue, LiesAt, List, ListsMark, Pair, TableRecords, Walked, WordPair, [], ap, append-nil, arith, behind, bytes_of, entries_from, file_entries, head_size, key_hash, length, no_walk, record_in, record_size, subst, sum_by, sum_by-cons, sym, walk_of, with_first, with_records, ℕ, ◌++◌, ◌+◌, ◌<◌, ◌∙◌, ◌∷◌, ◌≡◌, ◌≤◌}
use Rattle.cdb_read.proofs.Lists.Rising.{rising_entries, rising_from_one}
use Rattle.cdb_read.proofs.Walked.WalkedLengths.{given_one, ends_behind}

-- some records were given, which are kept, and then what is left of the walk, from a place on
pub record EnteredSoFar (w : ℕ) (b : List ℕ) (left : Walked) (place : ℕ) (lists : List TableRecords) : Type 0 where
  pub done : List KeyValue
  pub all : walk_of w b ≡ with_records done left
  pub here : place ≡ head_size w + sum_by (record_size w) done
  pub marks : ListsMark lists (file_entries w done) []

pub entered_none : (w : ℕ) (b : List ℕ) (left : Walked) (place : ℕ) (lists : List TableRecords) → left ≡ walk_of w b → place ≡ head_size w → ListsMark lists [] [] → EnteredSoFar w b left place lists
unfolding entries_from
entered_none w b left place lists is here none = record {
  done = [];
  all = sym is;
  here = omega arith;
  marks = none;
}

-- the entry of one record more
entries_push : (w at : ℕ) (rs : List KeyValue) (r : KeyValue) → entries_from w at (rs ++ r ∷ []) ≡ entries_from w at rs ++ record { first = key_hash r.key; second = at + sum_by (record_size w) rs } ∷ []
unfolding entries_from
entries_push w at [] r =
    let z : at ≡ at + 0 = omega arith in
    ap (λ (p : ℕ). let e : WordPair = record { first = key_hash r.key; second = p } in e ∷ []) z
entries_push w at (q ∷ rs) r =
    let z : at + record_size w q + sum_by (record_size w) rs ≡ at + sum_by (record_size w) (q ∷ rs) = omega (arith, sum_by-cons (record_size w) q rs) in
    ap (λ (t : List WordPair). let e : WordPair = record { first = key_hash q.key; second = at } in e ∷ t)
    (entries_push w (at + record_size w q) rs r
    ∙ ap (λ (p : ℕ). let e : WordPair = record { first = key_hash r.key; second = p } in entries_from w (at + record_size w q) rs ++ e ∷ []) z)

pub entered_more : (w place next : ℕ) (b : List ℕ) (old new : Walked) (pair : Pair) (hash : ℕ) (kept now : List TableRecords) → 0 < w → EnteredSoFar w b old place kept → old ≡ with_first (record_in b pair) new → LiesAt w place pair → next ≡ behind pair → behind pair ≤ length b
    → hash ≡ key_hash (bytes_of b pair.key) → HasAdded kept now (record { first = hash; second = pair.place }) → EnteredSoFar w b new next now
entered_more w place next b old new pair hash kept now some so_far first lies ends inside hashed more =
    let r = record_in b pair in
    let done = so_far.done in
    let there : pair.place ≡ head_size w + sum_by (record_size w) done = lies.here ∙ so_far.here in
    let entry : file_entries w done ++ record { first = hash; second = pair.place } ∷ [] ≡ file_entries w (done ++ r ∷ []) =
    ap (λ (h : ℕ). let e : WordPair = record { first = h; second = pair.place } in file_entries w done ++ e ∷ []) hashed
    ∙ ap (λ (p : ℕ). let e : WordPair = record { first = key_hash r.key; second = p } in file_entries w done ++ e ∷ []) there
    ∙ sym (entries_push w (head_size w) done r) in
    record {
      done = done ++ r ∷ [];
      all = given_one w b done old new r so_far.all first;
      here = ends_behind b done so_far.here lies ends inside;
      marks = subst (λ t. ListsMark now t []) entry (more (file_entries w done) so_far.marks
          (subst (IsRising 1) (sym entry) (rising_from_one (head_size w) (file_entries w (done ++ r ∷ [])) (omega arith) (rising_entries w (head_size w) (done ++ r ∷ []) some))));
    }

-- nothing is left
pub entered_all : (w : ℕ) (b : List ℕ) (left : Walked) (place : ℕ) (lists : List TableRecords) → EnteredSoFar w b left place lists → left ≡ no_walk → HasEntries w b lists
entered_all w b left place lists so_far none =
    let all : walk_of w b ≡ with_records so_far.done no_walk = so_far.all ∙ ap (with_records so_far.done) none in
    let same : so_far.done ≡ (walk_of w b).records = sym (ap (λ (x : Walked). x.records) all ∙ append-nil so_far.done) in
    record {
      whole = ap (λ (x : Walked). x.damage) all;
      marks = subst (λ rs. ListsMark lists (file_entries w rs) []) same so_far.marks;
    }
