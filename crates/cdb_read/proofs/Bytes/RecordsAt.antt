-- How the records in some bytes are read.
use Rattle.cdb_read.proofs.Words.{All, All-cons, All-nil, KeyValue, List, PairFits, WordPair, [], and_from, ap, append_assoc, arith, bytes_of, drop, drop-drop, drop_at, entries_from, flat_map, head_size, is_whole, le-leb, length, pair_at, prefix_record, prefix_size, record_bytes, record_size, subst, sum_by, sum_by-cons, sym, take, true, value_span, ℕ, ◌*◌, ◌++◌, ◌+◌, ◌^◌, ◌∙◌, ◌∷◌, ◌≡◌, ◌≤◌}
use Rattle.cdb_form.proofs.Files.Prefixes.{lengths_of, Begins, prefix_reads}
use Rattle.cdb_form.proofs.Files.Sizes.{length-record_bytes}
use Rattle.cdb_form.proofs.Files.Standing.{Begins-record_bytes}

-- the record at a place is whole, and reads as this key and this value
pub record ReadsAt (w : ℕ) (bytes : List ℕ) (at : ℕ) (r : KeyValue) : Type 0 where
  pub whole : is_whole w bytes at ≡ true
  pub key : (prefix_record w (drop at bytes)).key ≡ r.key
  pub value : bytes_of bytes (value_span w bytes at) ≡ r.value

reads_at : (w top : ℕ) (bytes : List ℕ) (at : ℕ) (r : KeyValue) (rest : List ℕ) → top + 1 ≡ 256 ^ w → PairFits top (lengths_of r) → drop at bytes ≡ record_bytes w r ++ rest → head_size w ≤ at → at + record_size w r ≤ length bytes → ReadsAt w bytes at r
reads_at w top bytes at r rest top_is fit here low high =
    let begins : Begins w (drop at bytes) r rest = subst (λ b. Begins w b r rest) (sym here) (Begins-record_bytes w top r rest top_is fit) in
    let reads = prefix_reads w (drop at bytes) r rest begins in
    let size = reads.size in
    let p = pair_at w (drop at bytes) in
    let sum : at + (2 * w + p.first) ≡ at + 2 * w + p.first = omega arith in
    let there : drop (2 * w + p.first) (drop at bytes) ≡ drop (at + 2 * w + p.first) bytes = drop-drop (2 * w + p.first) at bytes ∙ ap (λ n. drop n bytes) sum in
    record {
      whole = and_from _ _ (le-leb (head_size w) at low) (le-leb (at + prefix_size w (drop at bytes)) (length bytes) (omega arith));
      key = ap (λ (q : KeyValue). q.key) reads.is;
      value = ap (take p.second) (sym there) ∙ ap (λ (q : KeyValue). q.value) reads.is;
    }

-- and so does each of some records that follow each other from a place on
abbrev pub AllRead : ℕ → List ℕ → ℕ → List KeyValue → Type 0
AllRead w bytes at [] = Unit {0}
AllRead w bytes at (r ∷ rs) = ReadsAt w bytes at r × AllRead w bytes (at + record_size w r) rs

pub all_read : (w top : ℕ) (bytes : List ℕ) (at : ℕ) (rs : List KeyValue) (rest : List ℕ) → top + 1 ≡ 256 ^ w → drop at bytes ≡ flat_map (record_bytes w) rs ++ rest → head_size w ≤ at → at + sum_by (record_size w) rs ≤ length bytes → at + sum_by (record_size w) rs ≤ top → AllRead w bytes at rs
all_read w top bytes at [] rest top_is here low high fits = tt
all_read w top bytes at (r ∷ rs) rest top_is here low high fits =
    let both = sum_by-cons (record_size w) r rs in
    let others = flat_map (record_bytes w) rs ++ rest in
    let fit : PairFits top (lengths_of r) = record { first = omega arith; second = omega arith } in
    let first = here ∙ append_assoc (record_bytes w r) (flat_map (record_bytes w) rs) rest in
    let behind : drop (at + record_size w r) bytes ≡ others = sym (drop-drop (record_size w r) at bytes) ∙ ap (drop (record_size w r)) first ∙ drop_at (record_bytes w r) others (record_size w r) (length-record_bytes w r) in (
      reads_at w top bytes at r others top_is fit first low (omega arith),
      all_read w top bytes (at + record_size w r) rs rest top_is behind (omega arith) (omega arith) (omega arith),
    )

-- the places in their entries are those of whole records
abbrev pub TellsWhole : ℕ → List ℕ → WordPair → Type 0
TellsWhole w bytes e = is_whole w bytes e.second ≡ true

pub entries_whole : (w : ℕ) (bytes : List ℕ) (at : ℕ) (rs : List KeyValue) → AllRead w bytes at rs → All (TellsWhole w bytes) (entries_from w at rs)
unfolding entries_from
entries_whole w bytes at [] all = All-nil (TellsWhole w bytes)
entries_whole w bytes at (r ∷ rs) all = All-cons (TellsWhole w bytes) _ (entries_from w (at + record_size w r) rs) all.0.whole (entries_whole w bytes (at + record_size w r) rs all.1)
