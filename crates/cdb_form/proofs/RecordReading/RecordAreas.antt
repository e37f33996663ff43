-- What the head that was read says of the walk of the whole file.
use Rattle.cdb_form.proofs.Words.{Consumes, Feed, FromTo, KeyValue, List, WalkFault, Walked, WordPair, ap, append_assoc, arith, damaged, drop, empty_slot, fill_by_all, first_table_at, get_or-map-range_with_len, head_at, head_size, inl, inr, least_place, length, length-append, length-drop, length-map-range_with_len, map, mul-le-mul_left, nth_pair, pair_at, pair_size, range_with_len, record_end, replicate, stopped_by, sym, take, walk_from, walk_of, ℕ, ◌*◌, ◌++◌, ◌+◌, ◌<◌, ◌∙◌, ◌≡◌, ◌≤◌, ◌⊎◌}
use Rattle.std.proofs.lemmas.List.{take-append-le, drop-append-le, drop_at}
use Rattle.cdb_form.specs.Views.Taking.{LosesFewer, ReadsFirst, ReadsHead, ReadsNoRecord}
use Rattle.cdb_form.proofs.Fed.FeedLemmas.{consumes_then, from_taken, from_weaker}
use Rattle.cdb_form.specs.declared.walk.fault.WalkFault.TheVariants.{Short}
use Rattle.cdb_form.specs.declared.damage.Damage.TheVariants.{Table}
use Rattle.cdb_form.proofs.Sources.AskingLemmas.{zeros_long}
use Rattle.cdb_form.proofs.Bytes.WordLemmas.{pair_at-take}
use Rattle.cdb_form.proofs.Files.WalkSteps.{walk_of-short, walk_of-table, walk_of-records}

pair_at-append : (w : ℕ) (xs ys : List ℕ) → 2 * w ≤ length xs → pair_at w (xs ++ ys) ≡ pair_at w xs
pair_at-append w xs ys long =
    let within : w + w ≤ length xs = omega arith in
    sym (pair_at-take w (xs ++ ys)) ∙ ap (pair_at w) (take-append-le (w + w) xs ys within) ∙ pair_at-take w xs

nth_pair-append : (w n m : ℕ) (xs ys : List ℕ) → 2 * w * m ≤ length xs → n < m → nth_pair w (xs ++ ys) n ≡ nth_pair w xs n
nth_pair-append w n m xs ys long low =
    let times : 2 * w * n + 2 * w ≤ 2 * w * m = grind (arith, mul-le-mul_left (2 * w) (let h : n + 1 ≤ m = omega arith in h)) in
    ap (pair_at w) (drop-append-le (2 * w * n) xs ys (omega arith)) ∙ pair_at-append w (drop (2 * w * n) xs) ys (omega (arith, length-drop (2 * w * n) xs))

-- only the head is looked at
heads_agree : (w m : ℕ) (xs ys : List ℕ) → 2 * w * m ≤ length xs → map (nth_pair w (xs ++ ys)) (range_with_len 0 m) ≡ map (nth_pair w xs) (range_with_len 0 m)
heads_agree w m xs ys long =
    fill_by_all (nth_pair w xs) (map (nth_pair w (xs ++ ys)) (range_with_len 0 m)) m empty_slot (length-map-range_with_len (nth_pair w (xs ++ ys)) 0 m)
    (λ k low. get_or-map-range_with_len (nth_pair w (xs ++ ys)) 0 m k k empty_slot low (omega arith) ∙ nth_pair-append w k m xs ys long low)

pub head_at-append : (w : ℕ) (xs ys : List ℕ) → length xs ≡ head_size w → head_at w (xs ++ ys) ≡ head_at w xs
unfolding head_at
head_at-append w xs ys long = heads_agree w 256 xs ys (omega arith)

pub record_end-append : (w : ℕ) (xs ys : List ℕ) → length xs ≡ head_size w → record_end w (xs ++ ys) ≡ record_end w xs
unfolding record_end
record_end-append w xs ys long = ap (least_place (head_size w)) (head_at-append w xs ys long)

-- the bytes that a head and that a header is read into
pub head_fits : (w size : ℕ) → size ≡ head_size w → (w ≡ 4) ⊎ (w ≡ 8) → length (take size (replicate {A = ℕ} 4096 0)) ≡ head_size w
head_fits w size e width = zeros_long size 4096 (elim width [ inl a ↦ omega arith | inr b ↦ omega arith ]) ∙ e

pub pair_fits : (w size : ℕ) → size ≡ pair_size w → (w ≡ 4) ⊎ (w ≡ 8) → length (take size (replicate {A = ℕ} 16 0)) ≡ pair_size w
pair_fits w size e width = zeros_long size 16 (elim width [ inl a ↦ omega arith | inr b ↦ omega arith ]) ∙ e

-- the file is too short
pub area_short : (w : ℕ) (old new : Feed) (fault : WalkFault) → fault ≡ Short → FromTo old new (λ text rest. length text < head_size w) → FromTo old new (λ text rest. walk_of w text ≡ stopped_by fault)
area_short w old new fault e h = from_weaker old new _ _ h (λ text rest few. walk_of-short w text few ∙ ap stopped_by (sym e))

-- a table begins within the head
pub area_table : (w n : ℕ) (old new : Feed) (xs : List ℕ) → Consumes old new xs → length xs ≡ head_size w → record_end w xs < head_size w → n ≡ first_table_at (record_end w xs) (head_at w xs)
    → FromTo old new (λ text rest. walk_of w text ≡ damaged (Table n))
area_table w n old new xs read long low e = from_taken old new xs _ read (λ rest.
    let end = record_end-append w xs rest long in
    let whole : length (xs ++ rest) ≡ length xs + length rest = length-append xs rest in
    walk_of-table w (xs ++ rest) (omega arith) (omega arith)
    ∙ ap (λ (k : ℕ). damaged (Table (first_table_at k (head_at w (xs ++ rest))))) end
    ∙ ap (λ (ps : List WordPair). damaged (Table (first_table_at (record_end w xs) ps))) (head_at-append w xs rest long)
    ∙ ap (λ (k : ℕ). damaged (Table k)) (sym e))

-- the bytes of a head, and the records after it
area_text : (w place end : ℕ) (xs rest : List ℕ) → length xs ≡ head_size w → end ≡ record_end w xs → place ≡ head_size w → place ≤ end
    → (walk_of w (xs ++ rest) ≡ walk_from w place end rest) × (end ≡ record_end w (xs ++ rest)) × (rest ≡ drop (head_size w) (xs ++ rest))
area_text w place end xs rest long e at low =
    let text = xs ++ rest in
    let same : record_end w text ≡ record_end w xs = record_end-append w xs rest long in
    let whole : length text ≡ length xs + length rest = length-append xs rest in
    let behind : rest ≡ drop (head_size w) text = sym (drop_at xs rest (head_size w) long) in (
      walk_of-records w text (omega arith) (omega arith)
          ∙ ap (λ (k : ℕ). walk_from w (head_size w) k (drop (head_size w) text)) (same ∙ sym e)
          ∙ ap (λ (k : ℕ). walk_from w k end (drop (head_size w) text)) (sym at)
          ∙ ap (walk_from w place end) (sym behind),
      e ∙ sym same,
      behind,
    )

-- such a head was taken
pub area_read : (w place end : ℕ) (old new : Feed) (xs : List ℕ) → Consumes old new xs → length xs ≡ head_size w → end ≡ record_end w xs → place ≡ head_size w → place ≤ end
    → FromTo old new (λ text rest. (walk_of w text ≡ walk_from w place end rest) × (end ≡ record_end w text) × (rest ≡ drop (head_size w) text))
area_read w place end old new xs read long e at low = from_taken old new xs _ read (λ rest. area_text w place end xs rest long e at low)

-- whatever follows it
pub head_cut : (w place end : ℕ) (old new : Feed) (xs : List ℕ) → Consumes old new xs → length xs ≡ head_size w → end ≡ record_end w xs → place ≡ head_size w → place ≤ end → ReadsHead w place end old new
head_cut w place end old new xs read long e at low = record {
  head = xs;
  read = read;
  walk = λ more. (area_text w place end xs more long e at low).0;
}

-- what was read at a fault has no whole record
pub none_short : (w : ℕ) (old new : Feed) → LosesFewer old new (head_size w) → ReadsNoRecord (walk_of w) old new
none_short w old new l = record { lost = l.lost; taken = l.taken; no_record = ap (λ (v : Walked). v.records) (walk_of-short w l.lost l.few) }

pub none_table : (w : ℕ) (old new : Feed) (xs : List ℕ) → Consumes old new xs → length xs ≡ head_size w → record_end w xs < head_size w → ReadsNoRecord (walk_of w) old new
none_table w old new xs read long low = record { lost = xs; taken = read; no_record = ap (λ (v : Walked). v.records) (walk_of-table w xs (omega arith) low) }

-- nor has it if the head was read, and then nothing with a whole record
pub none_behind_head : (w place end : ℕ) (old mid new : Feed) → ReadsHead w place end old mid → ReadsNoRecord (walk_from w place end) mid new → ReadsNoRecord (walk_of w) old new
none_behind_head w place end old mid new h p = record {
  lost = h.head ++ p.lost;
  taken = consumes_then old mid new h.head p.lost h.read p.taken;
  no_record = ap (λ (v : Walked). v.records) (h.walk p.lost) ∙ p.no_record;
}

-- the head was read, and then a record
pub first_behind_head : (w place end : ℕ) (old mid new : Feed) (r : KeyValue) (rest : List ℕ → Walked) → ReadsHead w place end old mid → ReadsFirst r (walk_from w place end) rest mid new → ReadsFirst r (walk_of w) rest old new
first_behind_head w place end old mid new r rest h p = record {
  bytes = h.head ++ p.bytes;
  read = consumes_then old mid new h.head p.bytes h.read p.read;
  first = λ more. ap (walk_of w) (append_assoc h.head p.bytes more) ∙ h.walk (p.bytes ++ more) ∙ p.first more;
}
