-- Bytes that are copied behind others, piece after piece.
use Rattle.byteorder.specs.Endian.{little_bytes}
use Rattle.cdb_form.proofs.Words.{List, ap, append_assoc, arith, drop, drop-drop, drop_at, length, length-append, length-bytes_low_first, length-drop, length-take, length-take-le, pair_bytes, pair_size, record_bytes, refl, sym, take, take-add, take-append-le, take-take, take_all, take_at, ℕ, ◌++◌, ◌+◌, ◌∙◌, ◌≡◌, ◌≤◌}
use Rattle.cdb_form.specs.Format.{record_of}
use Rattle.cdb_form.proofs.Bytes.HeadLemmas.{length-pair_bytes}
use Rattle.std.proofs.lemmas.Simd.{length-put_chunk, put_chunk_is, take_more_put_chunk}
use lib.Lanes.{put_chunk}
use borrow.Rule.Slice.PartMut.{put_mid}

-- n bytes at the start, and what follows them
pub put_front : (n : ℕ) (xs ys : List ℕ) → length ys ≡ n → n ≤ length xs → put_chunk 0 xs ys ≡ ys ++ drop n xs
put_front n xs ys long within = put_chunk_is 0 xs ys (omega (arith, long, within)) ∙ ap (λ (k : ℕ). ys ++ drop k xs) long

-- twice n bytes, one half after the other
pub put_halves : (n : ℕ) (from into : List ℕ) → n + n ≤ length from → n + n ≤ length into
    → put_chunk n (put_chunk 0 into (take n from)) (take n (drop n from)) ≡ take (n + n) from ++ drop (n + n) into
put_halves n from into enough room =
    let first = take n from in
    let second = take n (drop n from) in
    let one : length first ≡ n = length-take-le n from (omega (arith, enough)) in
    let two : length second ≡ n = length-take-le n (drop n from) (omega (arith, enough, length-drop n from)) in
    let front = put_front n into first one (omega (arith, room)) in
    let held = first ++ drop n into in
    let kept : take n held ≡ first = take_at first (drop n into) n one in
    let rest : drop n (drop n held) ≡ drop (n + n) into = ap (drop n) (drop_at first (drop n into) n one) ∙ drop-drop n n into in
    let fits : n + length second ≤ length held = omega (arith, two, one, room, length-append first (drop n into), length-drop n into) in
    ap (λ t. put_chunk n t second) front ∙ put_chunk_is n held second fits
    ∙ ap (λ (k : ℕ). take n held ++ (second ++ drop k (drop n held))) two
    ∙ ap (λ t. t ++ (second ++ drop n (drop n held))) kept ∙ ap (λ t. first ++ (second ++ t)) rest
    ∙ sym (append_assoc first second (drop (n + n) into)) ∙ ap (λ t. t ++ drop (n + n) into) (sym (take-add n n from))

-- the first bytes of a list
pub record IsFront (at : ℕ) (xs front : List ℕ) : Type 0 where
  pub known : take at xs ≡ front
  pub within : at ≤ length xs

-- n more that were put behind them
pub put_behind : (at k n next : ℕ) (into ys front piece : List ℕ) → IsFront at into front → take n ys ≡ piece → n ≤ length ys → next ≡ at + n → IsFront next (put_mid at k into ys) (front ++ piece)
put_behind at k n next into ys front piece so is long next_is =
    let post = drop k (drop at into) in
    let before = take at into in
    let size : length before ≡ at = length-take-le at into so.within in
    let all : take (at + n) (before ++ (ys ++ post)) ≡ front ++ piece =
    take-add at n (before ++ (ys ++ post))
    ∙ ap (λ t. t ++ take n (drop at (before ++ (ys ++ post)))) (take_at before (ys ++ post) at size ∙ so.known)
    ∙ ap (λ t. front ++ take n t) (drop_at before (ys ++ post) at size)
    ∙ ap (λ t. front ++ t) (take-append-le n ys post long ∙ is) in
    record {
      known = ap (λ (m : ℕ). take m (before ++ (ys ++ post))) next_is ∙ all;
      within = omega (arith, next_is, size, long, length-append before (ys ++ post), length-append ys post);
    }

-- bytes that begin as others do are no fewer
long_as : (n : ℕ) (xs ys : List ℕ) → take n xs ≡ take n ys → n ≤ length ys → n ≤ length xs
long_as n xs ys same long = omega (arith, ap length same, length-take n xs, length-take-le n ys long)

-- a record is put behind some bytes, part after part
pub put_record : (w klen vlen end key_at value_at last size1 size2 size3 size4 at2 : ℕ) (into a b k v key value : List ℕ) → end ≤ length into → a ≡ little_bytes w klen → b ≡ little_bytes w vlen
    → take klen k ≡ take klen key → take vlen v ≡ take vlen value → klen ≤ length key → vlen ≤ length value → at2 ≡ end + w → key_at ≡ at2 + w → value_at ≡ key_at + klen → last ≡ value_at + vlen
    → take last (put_mid value_at size4 (put_mid key_at size3 (put_mid at2 size2 (put_mid end size1 into a) b) k) v) ≡ take end into ++ record_bytes w (record_of (take klen key) (take vlen value))
unfolding record_bytes
put_record w klen vlen end key_at value_at last size1 size2 size3 size4 at2 into a b k v key value held is_a is_b is_k is_v long_key long_value second third fourth fifth =
    let before = take end into in
    let klong : length (take klen key) ≡ klen = length-take-le klen key long_key in
    let vlong : length (take vlen value) ≡ vlen = length-take-le vlen value long_value in
    let along : length a ≡ w = ap length is_a ∙ length-bytes_low_first 0 w klen in
    let blong : length b ≡ w = ap length is_b ∙ length-bytes_low_first 0 w vlen in
    let f1 = put_behind end size1 w at2 into a before (little_bytes w klen) (record { known = refl; within = held }) (take_all w a (omega (arith, along)) ∙ is_a) (omega (arith, along)) second in
    let f2 = put_behind at2 size2 w key_at _ b _ (little_bytes w vlen) f1 (take_all w b (omega (arith, blong)) ∙ is_b) (omega (arith, blong)) third in
    let f3 = put_behind key_at size3 klen value_at _ k _ (take klen key) f2 is_k (long_as klen k key is_k long_key) fourth in
    let f4 = put_behind value_at size4 vlen last _ v _ (take vlen value) f3 is_v (long_as vlen v value is_v long_value) fifth in
    let join : (((before ++ little_bytes w klen) ++ little_bytes w vlen) ++ take klen key) ++ take vlen value ≡ before ++ (((little_bytes w klen ++ little_bytes w vlen) ++ take klen key) ++ take vlen value) = simp append_assoc refl in
    f4.known ∙ join
    ∙ ap (λ (n : ℕ). before ++ (((little_bytes w n ++ little_bytes w vlen) ++ take klen key) ++ take vlen value)) (sym klong)
    ∙ ap (λ (n : ℕ). before ++ (((little_bytes w (length (take klen key)) ++ little_bytes w n) ++ take klen key) ++ take vlen value)) (sym vlong)

-- n more bytes are copied
pub copied_more : (done k n : ℕ) (from into ys : List ℕ) → take done into ≡ take done from → done ≤ length into → take n ys ≡ take n (drop done from) → n ≤ length ys → take (done + n) (put_mid done k into ys) ≡ take (done + n) from
copied_more done k n from into ys so within is long =
    (put_behind done k n (done + n) into ys (take done from) (take n (drop done from)) (record { known = so; within = within }) is long refl).known ∙ sym (take-add done n from)

-- fewer of the bytes
pub take_fewer : (m n : ℕ) (xs ys : List ℕ) → m ≤ n → take n xs ≡ take n ys → take m xs ≡ take m ys
take_fewer m n xs ys fewer same = sym (take-take m n xs fewer) ∙ ap (take m) same ∙ take-take m n ys fewer

-- a part that is written keeps the length
pub length-put_mid : (at k : ℕ) (into ys : List ℕ) → at + k ≤ length into → length ys ≡ k → length (put_mid at k into ys) ≡ length into
length-put_mid at k into ys within is = simp (length-append, length-drop) (omega (arith, is, within, length-take-le at into (omega (arith, within)), length-drop k (drop at into), length-drop at into))

-- n more bytes are stored at once
pub stored_more : (done n : ℕ) (from into : List ℕ) → take done into ≡ take done from → done + n ≤ length from → done + n ≤ length into → (done + n ≤ length (put_chunk done into (take n (drop done from)))) × (take (done + n) (put_chunk done into (take n (drop done from))) ≡ take (done + n) from)
stored_more done n from into so enough room =
    let piece = take n (drop done from) in
    let long : length piece ≡ n = length-take-le n (drop done from) (omega (arith, enough, length-drop done from)) in (
      omega (arith, room, length-put_chunk done into piece),
      take_more_put_chunk done into piece (done + n) (omega (arith, long)) room ∙ ap (λ t. t ++ piece) so ∙ sym (take-add done n from),
    )

-- a record is put behind some bytes, after its header
pub put_whole : (w end key_at value_at last size1 size2 size3 : ℕ) (into a k v key value : List ℕ) → end ≤ length into → a ≡ pair_bytes w (record { first = length key; second = length value }) → k ≡ key → v ≡ value
    → key_at ≡ end + pair_size w → value_at ≡ key_at + length key → last ≡ value_at + length value → take last (put_mid value_at size3 (put_mid key_at size2 (put_mid end size1 into a) k) v) ≡ take end into ++ record_bytes w (record_of key value)
unfolding record_bytes
put_whole w end key_at value_at last size1 size2 size3 into a k v key value held is_a is_k is_v second third fourth =
    let before = take end into in
    let words = pair_bytes w (record { first = length key; second = length value }) in
    let along : length a ≡ pair_size w = ap length is_a ∙ length-pair_bytes w (record { first = length key; second = length value }) in
    let klong : length k ≡ length key = ap length is_k in
    let vlong : length v ≡ length value = ap length is_v in
    let f1 = put_behind end size1 (pair_size w) key_at into a before words (record { known = refl; within = held }) (take_all (pair_size w) a (omega (arith, along)) ∙ is_a) (omega (arith, along)) second in
    let f2 = put_behind key_at size2 (length key) value_at _ k _ key f1 (take_all (length key) k (omega (arith, klong)) ∙ is_k) (omega (arith, klong)) third in
    let f3 = put_behind value_at size3 (length value) last _ v _ value f2 (take_all (length value) v (omega (arith, vlong)) ∙ is_v) (omega (arith, vlong)) fourth in
    let join : ((before ++ words) ++ key) ++ value ≡ before ++ ((words ++ key) ++ value) = simp append_assoc refl in
    f3.known ∙ join
