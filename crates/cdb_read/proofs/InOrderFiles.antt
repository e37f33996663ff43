-- The look-ups of the file of some records give each key its records in the order of the walk.
use Rattle.cdb_read.proofs.Words.{Found, KeyValue, List, Span, Walked, WordPair, [], and_parts, ap, arith, both_ways, bytes_eq, bytes_eq-Decides, cases_Bool, cond, cond-false, cond-true, drop, drop-head, entries_from, eq-eqb, false, file_bytes, filter, found_at, has_hash, head_size, inl, inr, key_hash, leb-true, length, length-drop, length-file_bytes, length-take-le, nat_le, pair_at, pair_size, prefix_size, record_size, sym, tables_bytes, take, true, value_span, values_of, walk_of-file_bytes, ℕ, ◌*◌, ◌+◌, ◌∙◌, ◌∷◌, ◌≡◌, ◌≤◌}
use Rattle.cdb_read.specs.Difference.{FindsInOrder, span_of, spans_from}
use Rattle.cdb_read.proofs.WholeFiles.LookupLaws.{found_at-has, found_at-none, found_at-other, places_of, finds_values, lookup_of-file_bytes}
use Rattle.cdb_read.proofs.Bytes.RecordsAt.{AllRead, ReadsAt, all_read}
use Rattle.cdb_read.proofs.FilledTables.Fits.{Fit, size_is}
use Rattle.cdb_read.proofs.Walked.WalkedLengths.{length_of}

-- where the value of the record at a place is read
span_read : (w : ℕ) (bytes : List ℕ) (at : ℕ) (r : KeyValue) → ReadsAt w bytes at r → value_span w bytes at ≡ span_of w at r
span_read w bytes at r reads =
    let p = pair_at w (drop at bytes) in
    let whole = and_parts (nat_le (head_size w) at) (nat_le (at + prefix_size w (drop at bytes)) (length bytes)) reads.whole in
    let fits : at + prefix_size w (drop at bytes) ≤ length bytes = leb-true (at + prefix_size w (drop at bytes)) (length bytes) whole.1 in
    let left = length-drop (2 * w) (drop at bytes) in
    let all = length-drop at bytes in
    let long : length (take p.first (drop (2 * w) (drop at bytes))) ≡ p.first = length-take-le p.first (drop (2 * w) (drop at bytes)) (omega (arith, left, all, fits)) in
    let key : p.first ≡ length r.key = sym long ∙ ap length reads.key in
    let value : p.second ≡ length r.value = sym (length_of bytes (value_span w bytes at) (omega (arith, fits))) ∙ ap length reads.value in
    ap (λ (n : ℕ). let s : Span = record { place = at + pair_size w + n; len = p.second } in s) key
    ∙ ap (λ (n : ℕ). let s : Span = record { place = at + pair_size w + length r.key; len = n } in s) value

pub spans_has : (w at : ℕ) (key : List ℕ) (r : KeyValue) (rs : List KeyValue) → bytes_eq r.key key ≡ true → spans_from w at key (r ∷ rs) ≡ span_of w at r ∷ spans_from w (at + record_size w r) key rs
unfolding spans_from
spans_has w at key r rs t = let others = spans_from w (at + record_size w r) key rs in cond-true (bytes_eq r.key key) (span_of w at r ∷ others) others t

pub spans_other : (w at : ℕ) (key : List ℕ) (r : KeyValue) (rs : List KeyValue) → bytes_eq r.key key ≡ false → spans_from w at key (r ∷ rs) ≡ spans_from w (at + record_size w r) key rs
unfolding spans_from
spans_other w at key r rs f = let others = spans_from w (at + record_size w r) key rs in cond-false (bytes_eq r.key key) (span_of w at r ∷ others) others f

abbrev entry_at : ℕ → KeyValue → WordPair
entry_at at r = record { first = key_hash r.key; second = at }

-- one record more, whose entry is among those of the hash if its key has the hash
more : (w : ℕ) (bytes key : List ℕ) (at : ℕ) (es : List WordPair) (r : KeyValue) (rs : List KeyValue) → ReadsAt w bytes at r → (found_at w bytes key (places_of es)).spans ≡ spans_from w (at + record_size w r) key rs
    → (found_at w bytes key (places_of (cond (has_hash (key_hash key) (entry_at at r)) (entry_at at r ∷ es) es))).spans ≡ spans_from w at key (r ∷ rs)
more w bytes key at es r rs reads ih =
    let h = key_hash key in
    let e = entry_at at r in
    let spans : List WordPair → List Span = λ fs. (found_at w bytes key (places_of fs)).spans in
    elim (cases_Bool (has_hash h e)) [
      | inl t ↦
          ap spans (cond-true (has_hash h e) (e ∷ es) es t)
          ∙ elim (cases_Bool (bytes_eq r.key key)) [
            | inl same ↦
                ap (λ (f : Found). f.spans) (found_at-has w bytes key at (places_of es) reads.whole (ap (λ k. bytes_eq k key) reads.key ∙ same))
                ∙ ap (λ s. s ∷ spans es) (span_read w bytes at r reads)
                ∙ ap (λ ss. span_of w at r ∷ ss) ih
                ∙ sym (spans_has w at key r rs same)
            | inr other ↦
                ap (λ (f : Found). f.spans) (found_at-other w bytes key at (places_of es) reads.whole (ap (λ k. bytes_eq k key) reads.key ∙ other))
                ∙ ih
                ∙ sym (spans_other w at key r rs other)
          ]
      | inr f ↦
          ap spans (cond-false (has_hash h e) (e ∷ es) es f)
          ∙ elim (cases_Bool (bytes_eq r.key key)) [
            | inl same ↦ absurd (both_ways (has_hash h e) f (eq-eqb (key_hash r.key) h (ap key_hash ((bytes_eq-Decides r.key key).0 same))))
            | inr other ↦ ih ∙ sym (spans_other w at key r rs other)
          ]
    ]

spans_found : (w : ℕ) (bytes key : List ℕ) (at : ℕ) (rs : List KeyValue) → AllRead w bytes at rs → (found_at w bytes key (places_of (filter (has_hash (key_hash key)) (entries_from w at rs)))).spans ≡ spans_from w at key rs
unfolding entries_from spans_from
spans_found w bytes key at [] all = ap (λ (f : Found). f.spans) (found_at-none w bytes key)
spans_found w bytes key at (r ∷ rs) all =
    more w bytes key at (filter (has_hash (key_hash key)) (entries_from w (at + record_size w r) rs)) r rs all.0 (spans_found w bytes key (at + record_size w r) rs all.1)

pub finds_in_order : (w top : ℕ) (rs : List KeyValue) → Fit w top rs → FindsInOrder w (file_bytes w rs)
finds_in_order w top rs f =
    let size = size_is w rs in
    let long = length-file_bytes w rs in
    let room = f.room in
    let file = file_bytes w rs in
    let read = all_read w top file (head_size w) rs (tables_bytes w rs) f.top_is (drop-head w rs) (omega arith) (omega arith) (omega arith) in
    let back = walk_of-file_bytes w top rs f.width f.top_is f.room in
    record {
      spans = λ key.
          ap (λ (x : Found). x.spans) (lookup_of-file_bytes w top rs key f)
          ∙ spans_found w file key (head_size w) rs read
          ∙ sym (ap (λ (x : Walked). spans_from w (head_size w) key x.records) back);
      values = λ key. (finds_values w top rs key f).values ∙ sym (ap (λ (x : Walked). values_of key x.records) back);
      sound = λ key. (finds_values w top rs key f).sound;
    }
