-- Whole records at the start of some bytes, and the walk after them.
use Rattle.cdb_read.proofs.Words.{Ghosts, KeyValue, List, RecordArea, Walk, WordPair, [], ap, arith, cases_Bool, cases_lt, cond-false, cond-true, drop, drop-append-le, drop-drop, drop-take, false, inl, inr, le-leb, leb-true, length, length-append, length-drop, length-take, length-take-le, min, nil_from_length, pair_at, pair_at-take, part, record_size, refl, subst, suc, sum_by, sum_by-append, sum_by-cons, sym, take, take-append-drop, take-append-le, take-take, take_all, zero, ℕ, ◌*◌, ◌++◌, ◌+◌, ◌-◌, ◌<◌, ◌∙◌, ◌∷◌, ◌≡◌, ◌≤◌}
use Rattle.std.proofs.Math.Seq.{take-add}
use Rattle.std.proofs.Math.Bridge.{le_prop}
use Rattle.cdb_form.specs.Format.{Walked, prefix_size, prefix_record, whole_records, walk_from, with_records}
use Rattle.cdb_form.specs.declared.width.Width.{Ghosts as Widths}
use Rattle.cdb_read.specs.Views.Walking.{GivesRecords, bytes_left, place_of, records_length, RecordsAhead, walk_ahead, next_place, size_ahead}
use Rattle.cdb_read.specs.declared.walking.state.Walking.{Walking}
use Rattle.cdb_read.specs.declared.walking.state.Walking.TheVariants.{At, AtEnd, NoTable, NoRecord}
use Rattle.cdb_form.proofs.Files.Prefixes.{all_records, fits_prefix, whole_records-none, whole_records-room}
use Rattle.cdb_form.proofs.Files.WalkSteps.{walk_from-is, walk_with, stopped}

-- the number of bytes that the whole records at the start of some have
abbrev pub all_size : ℕ → List ℕ → ℕ
all_size w bytes = sum_by (record_size w) (all_records w bytes)

-- a whole record is as long as its header says
prefix_long : (w : ℕ) (xs : List ℕ) → prefix_size w xs ≤ length xs → record_size w (prefix_record w xs) ≡ prefix_size w xs
prefix_long w xs fits =
    let k : ℕ = (pair_at w xs).first in
    let v : ℕ = (pair_at w xs).second in
    let key : length (take k (drop (2 * w) xs)) ≡ k = length-take-le k (drop (2 * w) xs) (omega (arith, fits, length-drop (2 * w) xs)) in
    let value : length (take v (drop (2 * w + k) xs)) ≡ v = length-take-le v (drop (2 * w + k) xs) (omega (arith, fits, length-drop (2 * w + k) xs)) in
    omega (arith, key, value)

-- bytes that follow it don't matter
pair_more : (w : ℕ) (xs ys : List ℕ) → 2 * w ≤ length xs → pair_at w (xs ++ ys) ≡ pair_at w xs
pair_more w xs ys long =
    let within : w + w ≤ length xs = omega arith in
    sym (pair_at-take w (xs ++ ys)) ∙ ap (pair_at w) (take-append-le (w + w) xs ys within) ∙ pair_at-take w xs

size_more : (w : ℕ) (xs ys : List ℕ) → 2 * w ≤ length xs → prefix_size w (xs ++ ys) ≡ prefix_size w xs
size_more w xs ys long = ap (λ (p : WordPair). 2 * w + p.first + p.second) (pair_more w xs ys long)

part_more : (from n : ℕ) (xs ys : List ℕ) → from + n ≤ length xs → take n (drop from (xs ++ ys)) ≡ take n (drop from xs)
part_more from n xs ys fits =
    ap (take n) (drop-append-le from xs ys (omega arith))
    ∙ take-append-le n (drop from xs) ys (omega (arith, length-drop from xs))

same_record : (a b : KeyValue) → a.key ≡ b.key → a.value ≡ b.value → a ≡ b
same_record a b k v = ap (λ x. let p : KeyValue = record { key = x; value = a.value } in p) k ∙ ap (λ x. let p : KeyValue = record { key = b.key; value = x } in p) v

record_more : (w : ℕ) (xs ys : List ℕ) → prefix_size w xs ≤ length xs → prefix_record w (xs ++ ys) ≡ prefix_record w xs
record_more w xs ys fits =
    let k : ℕ = (pair_at w xs).first in
    let v : ℕ = (pair_at w xs).second in
    let same : pair_at w (xs ++ ys) ≡ pair_at w xs = pair_more w xs ys (omega arith) in
    same_record (prefix_record w (xs ++ ys)) (prefix_record w xs)
    (ap (λ (p : WordPair). take p.first (drop (2 * w) (xs ++ ys))) same ∙ part_more (2 * w) k xs ys (omega arith))
    (ap (λ (p : WordPair). take p.second (drop (2 * w + p.first) (xs ++ ys))) same ∙ part_more (2 * w + k) v xs ys (omega arith))

-- a whole record, and then the others
one_more : (w most : ℕ) (xs : List ℕ) → prefix_size w xs ≤ length xs → whole_records w (suc most) xs ≡ prefix_record w xs ∷ whole_records w most (drop (prefix_size w xs) xs)
unfolding whole_records
one_more w most xs fits = cond-true (fits_prefix w xs) _ _ (le-leb (prefix_size w xs) (length xs) fits)

none_left : (w most : ℕ) (xs : List ℕ) → 0 < w → length xs ≡ 0 → whole_records w most xs ≡ []
none_left w most xs some empty = whole_records-none w most xs (omega arith)

all_more : (w : ℕ) (xs : List ℕ) → 0 < w → prefix_size w xs ≤ length xs → all_records w xs ≡ prefix_record w xs ∷ all_records w (drop (prefix_size w xs) xs)
all_more w xs some fits =
    let rest : List ℕ = drop (prefix_size w xs) xs in
    let left = length-drop (prefix_size w xs) xs in
    whole_records-room w (length xs) (suc (length xs)) xs some (omega arith) (omega arith)
    ∙ one_more w (length xs) xs fits
    ∙ ap (λ rs. prefix_record w xs ∷ rs) (whole_records-room w (length xs) (length rest) rest some (omega arith) (omega arith))

-- a step of a count of the bytes
pub size_step : (w : ℕ) (xs : List ℕ) → 0 < w → prefix_size w xs ≤ length xs → all_size w xs ≡ prefix_size w xs + all_size w (drop (prefix_size w xs) xs)
size_step w xs some fits =
    ap (sum_by (record_size w)) (all_more w xs some fits)
    ∙ sum_by-cons (record_size w) (prefix_record w xs) (all_records w (drop (prefix_size w xs) xs))
    ∙ ap (λ n. n + all_size w (drop (prefix_size w xs) xs)) (prefix_long w xs fits)

pub size_end : (w : ℕ) (xs : List ℕ) → length xs < prefix_size w xs → all_size w xs ≡ 0
size_end w xs short = ap (sum_by (record_size w)) (whole_records-none w (length xs) xs short)

-- the whole records of some bytes, in those that they have
records_within : (w most : ℕ) (xs : List ℕ) → sum_by (record_size w) (whole_records w most xs) ≤ length xs
unfolding whole_records
records_within w zero xs = omega arith
records_within w (suc most) xs = elim (cases_Bool (fits_prefix w xs)) [
  | inl t ↦
      (let fits = leb-true (prefix_size w xs) (length xs) t in
      let left = length-drop (prefix_size w xs) xs in
      let e = ap (sum_by (record_size w)) (one_more w most xs fits) ∙ sum_by-cons (record_size w) (prefix_record w xs) (whole_records w most (drop (prefix_size w xs) xs)) in
      omega (arith, e, prefix_long w xs fits, records_within w most (drop (prefix_size w xs) xs)))
  | inr f ↦ (let e = ap (sum_by (record_size w)) (cond-false (fits_prefix w xs) (prefix_record w xs ∷ whole_records w most (drop (prefix_size w xs) xs)) [] f) in omega (arith, e))
]

pub size_within : (w : ℕ) (xs : List ℕ) → all_size w xs ≤ length xs
size_within w xs = records_within w (length xs) xs

none_here : (w most : ℕ) (xs : List ℕ) → fits_prefix w xs ≡ false → whole_records w (suc most) xs ≡ []
unfolding whole_records
none_here w most xs f = cond-false (fits_prefix w xs) (prefix_record w xs ∷ whole_records w most (drop (prefix_size w xs) xs)) [] f

size_more_records : (w most : ℕ) (xs : List ℕ) → prefix_size w xs ≤ length xs → sum_by (record_size w) (whole_records w (suc most) xs) ≡ prefix_size w xs + sum_by (record_size w) (whole_records w most (drop (prefix_size w xs) xs))
size_more_records w most xs fits =
    ap (sum_by (record_size w)) (one_more w most xs fits)
    ∙ sum_by-cons (record_size w) (prefix_record w xs) (whole_records w most (drop (prefix_size w xs) xs))
    ∙ ap (λ n. n + sum_by (record_size w) (whole_records w most (drop (prefix_size w xs) xs))) (prefix_long w xs fits)

-- if some bytes are whole records, the records of more bytes are they and then the others
prefix_then : (w most : ℕ) (xs ys : List ℕ) → 0 < w → length xs ≤ most → sum_by (record_size w) (whole_records w most xs) ≡ length xs → all_records w (xs ++ ys) ≡ whole_records w most xs ++ all_records w ys
unfolding whole_records
prefix_then w zero xs ys some room whole = ap (λ t. all_records w (t ++ ys)) (nil_from_length xs (omega arith))
prefix_then w (suc most) xs ys some room whole = elim (cases_Bool (fits_prefix w xs)) [
  | inl t ↦
      (let fits : prefix_size w xs ≤ length xs = leb-true (prefix_size w xs) (length xs) t in
      let rest : List ℕ = drop (prefix_size w xs) xs in
      let left : length rest ≡ length xs - prefix_size w xs = length-drop (prefix_size w xs) xs in
      let both : length (xs ++ ys) ≡ length xs + length ys = length-append xs ys in
      let sums = size_more_records w most xs fits in
      let same : prefix_size w (xs ++ ys) ≡ prefix_size w xs = size_more w xs ys (omega arith) in
      all_more w (xs ++ ys) some (omega arith)
      ∙ ap (λ r. r ∷ all_records w (drop (prefix_size w (xs ++ ys)) (xs ++ ys))) (record_more w xs ys fits)
      ∙ ap (λ n. prefix_record w xs ∷ all_records w (drop n (xs ++ ys))) same
      ∙ ap (λ t. prefix_record w xs ∷ all_records w t) (drop-append-le (prefix_size w xs) xs ys fits)
      ∙ ap (λ rs. prefix_record w xs ∷ rs) (prefix_then w most rest ys some (omega arith) (omega arith))
      ∙ ap (λ rs. rs ++ all_records w ys) (sym (one_more w most xs fits)))
  | inr f ↦
      (let none = none_here w most xs f in
      let empty : length xs ≡ 0 = sym whole ∙ ap (sum_by (record_size w)) none in
      ap (λ t. all_records w (t ++ ys)) (nil_from_length xs empty) ∙ ap (λ rs. rs ++ all_records w ys) (sym none))
]

-- the whole records of some bytes are those of the bytes that they have
prefix_same : (w most : ℕ) (xs : List ℕ) → 0 < w → whole_records w most (take (sum_by (record_size w) (whole_records w most xs)) xs) ≡ whole_records w most xs
unfolding whole_records
prefix_same w zero xs some = refl
prefix_same w (suc most) xs some = elim (cases_Bool (fits_prefix w xs)) [
  | inl t ↦
      (let fits : prefix_size w xs ≤ length xs = leb-true (prefix_size w xs) (length xs) t in
      let rest : List ℕ = drop (prefix_size w xs) xs in
      let more : ℕ = sum_by (record_size w) (whole_records w most rest) in
      let within : more ≤ length rest = records_within w most rest in
      let left : length rest ≡ length xs - prefix_size w xs = length-drop (prefix_size w xs) xs in
      let n : ℕ = prefix_size w xs + more in
      let cut : List ℕ = take n xs in
      let long : length cut ≡ n = length-take-le n xs (omega arith) in
      let split : cut ++ drop n xs ≡ xs = take-append-drop n xs in
      let size : prefix_size w cut ≡ prefix_size w xs = sym (size_more w cut (drop n xs) (omega arith)) ∙ ap (prefix_size w) split in
      ap (λ k. whole_records w (suc most) (take k xs)) (size_more_records w most xs fits)
      ∙ one_more w most cut (omega arith)
      ∙ ap (λ r. r ∷ whole_records w most (drop (prefix_size w cut) cut)) (sym (record_more w cut (drop n xs) (omega arith)) ∙ ap (prefix_record w) split)
      ∙ ap (λ k. prefix_record w xs ∷ whole_records w most (drop k cut)) size
      ∙ ap (λ t. prefix_record w xs ∷ whole_records w most t) (drop-take (prefix_size w xs) more xs)
      ∙ ap (λ rs. prefix_record w xs ∷ rs) (prefix_same w most rest some)
      ∙ sym (one_more w most xs fits))
  | inr f ↦
      (let none = none_here w most xs f in
      ap (λ rs. whole_records w (suc most) (take (sum_by (record_size w) rs) xs)) none
      ∙ none_left w (suc most) [] some refl
      ∙ sym none)
]

-- whole records that were read: as many bytes as all whole records of some have
pub read_size : (w n : ℕ) (xs : List ℕ) → 0 < w → n ≡ all_size w xs → n ≡ records_length w n xs
read_size w n xs some is =
    let within = size_within w xs in
    let long : length (take n xs) ≡ n = length-take-le n xs (omega arith) in
    is ∙ ap (sum_by (record_size w)) (sym (prefix_same w (length xs) xs some)
    ∙ ap (λ k. whole_records w (length xs) (take k xs)) (sym is)
    ∙ whole_records-room w (length xs) n (take n xs) some (omega arith) (omega arith))

-- the walk after them
pub walk_past : (w place end n : ℕ) (xs ys : List ℕ) → 0 < w → n ≤ length xs → n ≤ end - place → n ≡ records_length w n xs → ys ≡ drop n xs → walk_from w place end xs ≡ with_records (whole_records w n (take n xs)) (walk_from w (place + n) end ys)
walk_past w place end n xs ys some long room whole after =
    let rs : List KeyValue = whole_records w n (take n xs) in
    let left : ℕ = end - (place + n) in
    let qs : List KeyValue = all_records w (take left ys) in
    let all : end - place ≡ n + left = omega arith in
    let size : length (take n xs) ≡ n = length-take-le n xs long in
    let area : take (end - place) xs ≡ take n xs ++ take left ys = ap (λ k. take k xs) all ∙ take-add n left xs ∙ ap (λ t. take n xs ++ take left t) (sym after) in
    let are : all_records w (take (end - place) xs) ≡ rs ++ qs = ap (all_records w) area ∙ prefix_then w n (take n xs) (take left ys) some (omega arith) (sym whole ∙ sym size) in
    let stop : place + sum_by (record_size w) (rs ++ qs) ≡ place + n + sum_by (record_size w) qs = omega (arith, sum_by-append (record_size w) rs qs, whole) in
    walk_from-is w place end xs
    ∙ ap (walk_with w place end) are
    ∙ ap (λ k. let v : Walked = record { records = rs ++ qs; damage = stopped k end } in v) stop
    ∙ ap (with_records rs) (sym (walk_from-is w (place + n) end ys))

-- if a file ends before them, as many bytes as it has are the same
area_same : (m k place size : ℕ) (b : List ℕ) → k ≡ min m (size - place) → length b ≡ size → take m (drop place b) ≡ take k (drop place b)
area_same m k place size b least long =
    let left : length (drop place b) ≡ length b - place = length-drop place b in
    elim (cases_lt (length (drop place b)) m) [
      | inl short ↦ (take_all m (drop place b) (omega arith) ∙ sym (take_all k (drop place b) (omega arith)))
      | inr all ↦ (let same : m ≡ k = omega arith in ap (λ j. take j (drop place b)) same)
    ]

-- what a read of k bytes gives, of which n are whole records
pub records_ahead : {images : List ℕ → Type 0} (w size k n : ℕ) (rest : RecordArea) (xs ys : List ℕ) → 0 < w → length xs ≡ k → k ≡ min (min (rest.end - rest.place) (size - rest.place)) (length (xs ++ ys)) → n ≡ all_size w xs
    → ((b : List ℕ) → images b → length b ≡ size) → ((b : List ℕ) → images b → part rest.place k b ≡ xs) → RecordsAhead w rest (xs ++ ys) images n
records_ahead w size k n rest xs ys some long least is sized read =
    let within = size_within w xs in
    let both = length-append xs ys in
    let front : take n (xs ++ ys) ≡ take n xs = take-append-le n xs ys (omega arith) in
    let m : ℕ = min (length (xs ++ ys)) (rest.end - rest.place) in
    let room : k ≡ min m (size - rest.place) = omega arith in
    record {
      few = omega arith;
      room = omega arith;
      size = read_size w n xs some is ∙ ap (λ t. sum_by (record_size w) (whole_records w n t)) (sym front);
      same = λ b image. front ∙ ap (take n) (sym (read b image)) ∙ take-take n k (drop rest.place b) (omega arith);
      most = λ b image. is
          ∙ ap (sum_by (record_size w)) (whole_records-room w (length xs) m xs some (omega arith) (omega arith)
          ∙ ap (whole_records w m) (sym (area_same m k rest.place size b room (sized b image) ∙ read b image)));
    }

-- the walk that read them
pub gives_records : {S L : Type 0} {s : Ghosts S} {l : Widths L} (w : ℕ) (old new : Walk S L s l) (bytes : List ℕ) (n : ℕ) (rest next : RecordArea) → 0 < w → old.walking ≡ At rest → new.walking ≡ At next → next.place ≡ rest.place + n → next.end ≡ rest.end
    → RecordsAhead w rest bytes (s.image new.reader.now.store) n → (n ≡ 0 → At next ≡ At rest) → GivesRecords w old new bytes n
gives_records {s = s} w old new bytes n rest next some was is place end ahead stays =
    let few = ahead.few in
    let room = ahead.room in
    record {
      few = few;
      size = ahead.size;
      gives = λ b image.
          let front : List ℕ = take n (drop rest.place b) in
          let same : take n bytes ≡ take n (drop rest.place b) = ahead.same b image in
          let read : length (take n bytes) ≡ n = length-take-le n bytes few in
          let long : length (take n (drop rest.place b)) ≡ n = sym (ap length same) ∙ read in
          let within : n ≤ length (drop rest.place b) = omega (arith, long, length-take n (drop rest.place b)) in
          let size : n ≡ records_length w n (drop rest.place b) = ahead.size ∙ ap (λ t. sum_by (record_size w) (whole_records w n t)) same in
          ap (walk_ahead w b) was
          ∙ walk_past w rest.place rest.end n (drop rest.place b) (drop (rest.place + n) b) some within room size (sym (drop-drop n rest.place b))
          ∙ ap (λ t. with_records (whole_records w n t) (walk_from w (rest.place + n) rest.end (drop (rest.place + n) b))) (sym same)
          ∙ ap (λ k. with_records (whole_records w n (take n bytes)) (walk_from w k rest.end (drop k b))) (sym place)
          ∙ ap (λ e. with_records (whole_records w n (take n bytes)) (walk_from w next.place e (drop next.place b))) (sym end)
          ∙ ap (λ t. with_records (whole_records w n (take n bytes)) (walk_ahead w b t)) (sym is);
      most = λ b image. ahead.most b image
          ∙ ap (λ t. records_length w (min (length bytes) (size_ahead t)) (drop (next_place w t) b)) (sym was);
      next = ap (next_place w) is ∙ place ∙ ap (λ t. next_place w t + n) (sym was);
      fewer = ap (λ t. size_ahead t + n) is ∙ (let e : next.end - next.place + n ≡ rest.end - rest.place = omega arith in e) ∙ ap size_ahead (sym was);
      stays = λ none. is ∙ stays none ∙ sym was;
    }

-- a walk that is at its end or at a damage has nothing ahead, and gives none
pub nothing_ahead : (t : Walking) → ((rest : RecordArea) → t ≡ At rest → ⊥) → size_ahead t ≡ 0
nothing_ahead (At rest) none = absurd (none rest refl)
nothing_ahead AtEnd none = refl
nothing_ahead (NoTable n) none = refl
nothing_ahead (NoRecord place) none = refl

pub gives_none : {S L : Type 0} {s : Ghosts S} {l : Widths L} (w : ℕ) (old : Walk S L s l) (bytes : List ℕ) → bytes_left old ≡ 0 → GivesRecords w old old bytes 0
unfolding whole_records
gives_none w old bytes ended =
    let none : 0 ≡ min (length bytes) (bytes_left old) = omega arith in
    record {
      few = omega arith;
      size = refl;
      gives = λ b image. refl;
      most = λ b image. ap (λ m. records_length w m (drop (place_of w old) b)) none;
      next = omega arith;
      fewer = omega arith;
      stays = λ none. refl;
    }

-- a rest is its place and its end
abbrev rest_of : (place end : ℕ) → place ≤ end → RecordArea
rest_of place end ordered = record { place = place; end = end; ordered = ordered }

pub same_rest : (place next end : ℕ) (a : next ≤ end) (b : place ≤ end) → next ≡ place → rest_of next end a ≡ rest_of place end b
same_rest place next end a b e = subst (λ k. (c : k ≤ end) → rest_of next end a ≡ rest_of k end c) e (λ c. ap (rest_of next end) (le_prop a c)) b
