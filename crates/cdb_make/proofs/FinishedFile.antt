-- What a store holds once the tables and the head are written and the rest is cut: the whole file.
use Rattle.cdb_make.proofs.Words.{ImagesHold, KeyValue, List, SameImages, WordPair, ap, append_assoc, arith, drop, flat_map, head_bytes, head_size, inl, inr, length, length-append, length-flat_map_words, map, pair_bytes, range_with_len, record_bytes, records_end, sym, table_bytes, take, ℕ, ◌*◌, ◌++◌, ◌+◌, ◌-◌, ◌∙◌, ◌≡◌, ◌≤◌}
use Rattle.std.proofs.lemmas.List.{drop-append-le, length-take-le, take_at, drop-take, length-map}
use Rattle.cdb_store.specs.Images.{overwrite, part, AfterWrite, AfterCut, AreSized, KeepsPart}
use Rattle.cdb_form.specs.Format.{file_bytes, file_pointers, pointers_from, file_tables, slots_of, table_entries}
use Rattle.cdb_form.proofs.Files.Sizes.{length-pointers_from, tables_are}
use Rattle.cdb_make.specs.Tables.{EndsWith, IsFinished, HeadIsLast}
use Rattle.cdb_make.proofs.Bytes.Written.{flat_map-map}

pub length-head_bytes : (w end : ℕ) (ls : List (List WordPair)) → length ls ≡ 256 → length (head_bytes w end ls) ≡ head_size w
length-head_bytes w end ls long =
    length-flat_map_words w (pointers_from w end (map slots_of ls)) ∙ ap (λ (n : ℕ). 2 * w * n) (length-pointers_from w end (map slots_of ls) ∙ length-map ls slots_of ∙ long) ∙ omega arith

-- a list with bytes over its end, cut after them
end_written : (end last : ℕ) (a tables : List ℕ) → end ≤ length a → last ≡ end + length tables
    → take last (overwrite a end tables) ≡ take end a ++ tables
end_written end last a tables inside el =
    let rest : List ℕ = drop (end + length tables) a in
    let front : length (take end a) ≡ end = length-take-le end a inside in
    let len : length (take end a ++ tables) ≡ last = omega (arith, length-append (take end a) tables) in
    ap (take last) (sym (append_assoc (take end a) tables rest)) ∙ take_at (take end a ++ tables) rest last len

-- and then with others over its start
start_written : (first end : ℕ) (a head tables : List ℕ) → length head ≡ first → first ≤ end → end ≤ length a
    → overwrite (take end a ++ tables) 0 head ≡ (head ++ part first (end - first) a) ++ tables
start_written first end a head tables eh le inside =
    let middle : List ℕ = part first (end - first) a in
    let front : length (take end a) ≡ end = length-take-le end a inside in
    let e : first + (end - first) ≡ end = omega arith in
    let cut : drop first (take end a) ≡ middle = ap (λ (n : ℕ). drop first (take n a)) (sym e) ∙ drop-take first (end - first) a in
    let zero : 0 + length head ≡ first = omega arith in
    let behind : drop (0 + length head) (take end a ++ tables) ≡ middle ++ tables =
    ap (λ (n : ℕ). drop n (take end a ++ tables)) zero ∙ drop-append-le first (take end a) tables (omega arith) ∙ ap (λ v. v ++ tables) cut in
    ap (λ v. head ++ v) behind ∙ sym (append_assoc head middle tables)

-- after the tables are written and the rest is cut
pub settled_end : {end last size : ℕ} {bytes : List ℕ} {i j k l : List ℕ → Type 0} → end ≤ size → last ≡ end + length bytes → AreSized size i
    → AfterWrite end bytes i j → AfterCut last j k → SameImages k l → EndsWith end bytes i l
settled_end {end = end} {last = last} {bytes = bytes} inside el sized write cut same = record {
  each = λ b is.
      let c = cut.no_other b (same.no_other b is) in
      let t = write.no_other c.0 c.1 in
      let len : length t.0 ≡ _ = sized.each t.0 t.1 in
      (t.0, t.1, c.2 ∙ ap (take last) t.2 ∙ end_written end last t.0 bytes (omega arith) el);
}

pub finished : {w end size : ℕ} {ls : List (List WordPair)} {i j k l : List ℕ → Type 0} → length ls ≡ 256 → head_size w ≤ end → end ≤ size → AreSized size i
    → EndsWith end (flat_map (table_bytes w) ls) i j → AfterWrite 0 (head_bytes w end ls) j k → SameImages k l → IsFinished w end ls i l
finished {w = w} {end = end} {ls = ls} long start inside sized ends head same = record {
  each = λ b is.
      let h = head.no_other b (same.no_other b is) in
      let t = ends.each h.0 h.1 in
      let len : length t.0 ≡ _ = sized.each t.0 t.1 in (
        t.0,
        t.1,
        h.2 ∙ ap (λ v. overwrite v 0 (head_bytes w end ls)) t.2
            ∙ start_written (head_size w) end t.0 (head_bytes w end ls) (flat_map (table_bytes w) ls) (length-head_bytes w end ls long) start (omega arith),
      );
}

pub head_kept : {w end : ℕ} {ls : List (List WordPair)} {i j : List ℕ → Type 0} → KeepsPart 0 (head_size w) i j → HeadIsLast w end ls i j
head_kept k = record { each = λ b is. inl (k.each b is) }

pub tables_held : {w end : ℕ} {ls : List (List WordPair)} {i j : List ℕ → Type 0} → ImagesHold end (flat_map (table_bytes w) ls) j → HeadIsLast w end ls i j
tables_held h = record { each = λ b is. inr (h.each b is) }

pub head_then : {w end : ℕ} {ls : List (List WordPair)} {i j k : List ℕ → Type 0} → SameImages i j → HeadIsLast w end ls j k → HeadIsLast w end ls i k
head_then same h = record { each = λ b is. elim (h.each b is) [ inl a ↦ inl (a.0, same.no_other a.0 a.1, a.2) | inr t ↦ inr t ] }

pub kept_then : {pos n : ℕ} {i j k : List ℕ → Type 0} → KeepsPart pos n i j → KeepsPart pos n j k → KeepsPart pos n i k
kept_then p q = record { each = λ b is. let h = q.each b is in let o = p.each h.0 h.1 in (o.0, o.1, h.2 ∙ o.2) }

-- the head, the records and the tables of the records' entries are the file
pub file_of_parts : (w end : ℕ) (bytes : List ℕ) (ls : List (List WordPair)) (rs : List KeyValue) → end ≡ records_end w rs → bytes ≡ flat_map (record_bytes w) rs → ls ≡ map (table_entries w rs) (range_with_len 0 256)
    → (head_bytes w end ls ++ bytes) ++ flat_map (table_bytes w) ls ≡ file_bytes w rs
unfolding file_bytes file_pointers
file_of_parts w end bytes ls rs e held entries =
    let ts : List (List WordPair) = map slots_of ls in
    let t : ts ≡ file_tables w rs = ap (map slots_of) entries ∙ sym (tables_are w rs) in
    let tables : flat_map (table_bytes w) ls ≡ flat_map (flat_map (pair_bytes w)) (file_tables w rs) =
    sym (flat_map-map (flat_map (pair_bytes w)) slots_of ls) ∙ ap (flat_map (flat_map (pair_bytes w))) t in
    ap (λ (n : ℕ). (flat_map (pair_bytes w) (pointers_from w n ts) ++ bytes) ++ flat_map (table_bytes w) ls) e
    ∙ ap (λ v. (flat_map (pair_bytes w) (pointers_from w (records_end w rs) v) ++ bytes) ++ flat_map (table_bytes w) ls) t
    ∙ ap (λ v. (flat_map (pair_bytes w) (pointers_from w (records_end w rs) (file_tables w rs)) ++ v) ++ flat_map (table_bytes w) ls) held
    ∙ ap (λ v. (flat_map (pair_bytes w) (pointers_from w (records_end w rs) (file_tables w rs)) ++ flat_map (record_bytes w) rs) ++ v) tables
