-- Marked records: how many they are, how many bytes they have, and which is the first.
use Rattle.cdb_make.proofs.Words.{all_marks, length-set, marks_in, AreOf, Bool, IsPicked, List, Mark, Picked, Roll, [], ap, arith, cases_eq, cases_lt, cond, drop, end_from, ext_get_or, false, false_from_ne_true, get_or, get_or-set_other, get_or-set_same, get_or_default, get_or_past, head_size, inl, inr, left, length, length-map, map, map-set_same, min, number, or_each, picked, places_from, places_in, refl, set, slice_index, subst, suc, sum, sum_by-cons, sym, take, take_at, true, zero, ℕ, ◌++◌, ◌+◌, ◌-◌, ◌<◌, ◌^◌, ◌∙◌, ◌∷◌, ◌≡◌, ◌≤◌, ◌⊎◌}
use Rattle.std.proofs.Math.ListN.{get_or-map}
use Rattle.cdb_make.specs.declared.mark.Mark.TheVariants.{Stays, Found, Gone}
use Rattle.cdb_form.specs.declared.width.Width.{Ghosts as Widths}
use Rattle.cdb_make.specs.Spans.{is_gone, is_found, gone_of, found_of, taken, put_back, IsFirstMarked, IsFirstOrPast, AreNone, HaveHash, IsPutBackFrom}
use Rattle.cdb_make.proofs.Spans.{long_as, place_size, spans_of}
use Rattle.cdb_make.proofs.Marking.{all_full, marks_long, gone_or, found_or}

pub sum-cons : (x : ℕ) (xs : List ℕ) → sum (x ∷ xs) ≡ x + sum xs
sum-cons x xs = sum_by-cons (λ (n : ℕ). n) x xs

-- ---- none

pub number_none : (ms : List Bool) → AreNone ms → number ms ≡ 0
number_none [] none = refl
number_none (true ∷ ms) none = absurd (let t : true ≡ false = none 0 in cc)
number_none (false ∷ ms) none = (let h = number_none ms (λ k. none (suc k)) in omega arith)

pub picked_none : {A : Type 0} (ms : List Bool) (xs : List A) → AreNone ms → picked ms xs ≡ []
picked_none [] xs none = refl
picked_none (m ∷ ms) [] none = refl
picked_none (true ∷ ms) (x ∷ xs) none = absurd (let t : true ≡ false = none 0 in cc)
picked_none (false ∷ ms) (x ∷ xs) none = picked_none ms xs (λ k. none (suc k))

pub left_all_stay : {A : Type 0} (ms : List Bool) (xs : List A) → length ms ≡ length xs → AreNone ms → left ms xs ≡ xs
left_all_stay [] xs e none = refl
left_all_stay (m ∷ ms) [] e none = absurd (omega arith)
left_all_stay (true ∷ ms) (x ∷ xs) e none = absurd (let t : true ≡ false = none 0 in cc)
left_all_stay (false ∷ ms) (x ∷ xs) e none = ap (λ v. x ∷ v) (left_all_stay ms xs (omega arith) (λ k. none (suc k)))

-- ---- bounds

pub number_most : (ms : List Bool) → number ms ≤ length ms
number_most [] = omega arith
number_most (true ∷ ms) = omega (arith, number_most ms)
number_most (false ∷ ms) = omega (arith, number_most ms)

pub picked_most : (ms : List Bool) (xs : List ℕ) → sum (picked ms xs) ≤ sum xs
picked_most [] xs = omega arith
picked_most (m ∷ ms) [] = omega arith
picked_most (true ∷ ms) (x ∷ xs) = omega (arith, picked_most ms xs, sum-cons x (picked ms xs), sum-cons x xs)
picked_most (false ∷ ms) (x ∷ xs) = (let h : sum (picked ms xs) ≤ sum xs = picked_most ms xs in let e : picked (false ∷ ms) (x ∷ xs) ≡ picked ms xs = refl in omega (arith, h, ap sum e, sum-cons x xs))

pub end_sum : (at : ℕ) (ns : List ℕ) → end_from at ns ≡ at + sum ns
end_sum at [] = omega arith
end_sum at (n ∷ ns) = omega (arith, end_sum (at + n) ns, sum-cons n ns)

-- ---- sizes are those of the places

begins_same : (a b : ℕ) (ns ms : List ℕ) → places_from a ns ≡ places_from b ms → end_from a ns ≡ end_from b ms → a ≡ b
begins_same a b [] [] p e = e
begins_same a b [] (m ∷ ms) p e = absurd (omega (arith, ap length p))
begins_same a b (n ∷ ns) [] p e = absurd (omega (arith, ap length p))
begins_same a b (n ∷ ns) (m ∷ ms) p e = ap (λ (v : List ℕ). get_or v 0 0) p

pub of_same : (from : ℕ) (ns ms : List ℕ) → places_from from ns ≡ places_from from ms → end_from from ns ≡ end_from from ms → ns ≡ ms
of_same from [] [] p e = refl
of_same from [] (m ∷ ms) p e = absurd (omega (arith, ap length p))
of_same from (n ∷ ns) [] p e = absurd (omega (arith, ap length p))
of_same from (n ∷ ns) (m ∷ ms) p e =
    let q : places_from (from + n) ns ≡ places_from (from + m) ms = ap (drop 1) p in
    let at : from + n ≡ from + m = begins_same (from + n) (from + m) ns ms q e in
    let same : n ≡ m = omega arith in
    let back : places_from (from + m) ms ≡ places_from (from + n) ms = ap (λ (v : ℕ). places_from v ms) (sym at) in
    let last : end_from (from + m) ms ≡ end_from (from + n) ms = ap (λ (v : ℕ). end_from v ms) (sym at) in
    ap (λ (v : ℕ). v ∷ ns) same ∙ ap (λ (v : List ℕ). m ∷ v) (of_same (from + n) ns ms (q ∙ back) (e ∙ last))

-- ---- one more

pub number_push : (ms : List Bool) → number (ms ++ false ∷ []) ≡ number ms
number_push [] = refl
number_push (m ∷ ms) = ap (λ (n : ℕ). cond m 1 0 + n) (number_push ms)

pub picked_push : {A : Type 0} (ms : List Bool) (xs : List A) (x : A) → length ms ≡ length xs → picked (ms ++ false ∷ []) (xs ++ x ∷ []) ≡ picked ms xs
picked_push [] [] x e = refl
picked_push [] (y ∷ xs) x e = absurd (omega arith)
picked_push (m ∷ ms) [] x e = absurd (omega arith)
picked_push (true ∷ ms) (y ∷ xs) x e = ap (λ v. y ∷ v) (picked_push ms xs x (omega arith))
picked_push (false ∷ ms) (y ∷ xs) x e = picked_push ms xs x (omega arith)

-- ---- what was found is taken

pub gone_taken : (ms : List Mark) → gone_of (map taken ms) ≡ or_each (gone_of ms) (found_of ms)
gone_taken [] = refl
gone_taken (Stays ∷ ms) = ap (λ (v : List Bool). false ∷ v) (gone_taken ms)
gone_taken (Found ∷ ms) = ap (λ (v : List Bool). true ∷ v) (gone_taken ms)
gone_taken (Gone ∷ ms) = ap (λ (v : List Bool). true ∷ v) (gone_taken ms)

pub found_taken : (ms : List Mark) → AreNone (found_of (map taken ms))
found_taken [] k = refl
found_taken (Stays ∷ ms) zero = refl
found_taken (Found ∷ ms) zero = refl
found_taken (Gone ∷ ms) zero = refl
found_taken (m ∷ ms) (suc k) = found_taken ms k

pub number_taken : (ms : List Mark) → number (gone_of (map taken ms)) ≡ number (gone_of ms) + number (found_of ms)
number_taken [] = refl
number_taken (Stays ∷ ms) = omega (arith, number_taken ms)
number_taken (Found ∷ ms) = omega (arith, number_taken ms)
number_taken (Gone ∷ ms) = omega (arith, number_taken ms)

pub picked_taken : (ms : List Mark) (xs : List ℕ) → length ms ≡ length xs → sum (picked (gone_of (map taken ms)) xs) ≡ sum (picked (gone_of ms) xs) + sum (picked (found_of ms) xs)
picked_taken [] [] e = refl
picked_taken [] (x ∷ xs) e = absurd (omega arith)
picked_taken (m ∷ ms) [] e = absurd (omega arith)
picked_taken (Stays ∷ ms) (x ∷ xs) e = picked_taken ms xs (omega arith)
picked_taken (Found ∷ ms) (x ∷ xs) e =
    let a : List ℕ = picked (gone_of (map taken ms)) xs in
    let b : List ℕ = picked (gone_of ms) xs in
    let c : List ℕ = picked (found_of ms) xs in
    let h : sum a ≡ sum b + sum c = picked_taken ms xs (omega arith) in
    let f : sum (x ∷ a) ≡ sum b + sum (x ∷ c) = omega (arith, h, sum-cons x a, sum-cons x c) in f
picked_taken (Gone ∷ ms) (x ∷ xs) e =
    let a : List ℕ = picked (gone_of (map taken ms)) xs in
    let b : List ℕ = picked (gone_of ms) xs in
    let c : List ℕ = picked (found_of ms) xs in
    let h : sum a ≡ sum b + sum c = picked_taken ms xs (omega arith) in
    let f : sum (x ∷ a) ≡ sum (x ∷ b) + sum c = omega (arith, h, sum-cons x a, sum-cons x b) in f

-- ---- what was found is put back

pub gone_put_back : (ms : List Mark) → gone_of (map put_back ms) ≡ gone_of ms
gone_put_back [] = refl
gone_put_back (Stays ∷ ms) = ap (λ (v : List Bool). false ∷ v) (gone_put_back ms)
gone_put_back (Found ∷ ms) = ap (λ (v : List Bool). false ∷ v) (gone_put_back ms)
gone_put_back (Gone ∷ ms) = ap (λ (v : List Bool). true ∷ v) (gone_put_back ms)

pub found_put_back : (ms : List Mark) → AreNone (found_of (map put_back ms))
found_put_back [] k = refl
found_put_back (Stays ∷ ms) zero = refl
found_put_back (Found ∷ ms) zero = refl
found_put_back (Gone ∷ ms) zero = refl
found_put_back (m ∷ ms) (suc k) = found_put_back ms k

put_back_same : (m : Mark) → is_found m ≡ false → m ≡ put_back m
put_back_same Stays e = refl
put_back_same Found e = absurd (let t : true ≡ false = e in cc)
put_back_same Gone e = refl

pub put_back_all : (old new : List Mark) (first : ℕ) → length new ≡ length old → ((k : ℕ) → k < first → get_or (found_of old) k false ≡ false) → first ≤ length old → IsPutBackFrom first (length old) old new → new ≡ map put_back old
put_back_all old new first long none within h = ext_get_or Gone new (map put_back old) (long ∙ sym (length-map old put_back)) (λ k lt.
    elim (cases_lt k first) [
      | inl below ↦ h.before k below ∙ put_back_same (get_or old k Gone) (sym (found_or old k) ∙ none k below)
      | inr over ↦ h.within k (omega arith) (omega arith)
    ] ∙ sym (get_or-map put_back old k Gone))

-- ---- the first of them

more_same : (ms : List Bool) (k : ℕ) → get_or (ms ++ false ∷ []) k false ≡ get_or ms k false
more_same [] zero = refl
more_same [] (suc k) = refl
more_same (m ∷ ms) zero = refl
more_same (m ∷ ms) (suc k) = more_same ms k

first_push : (ms : List Bool) (n : ℕ) → IsFirstOrPast ms n → IsFirstOrPast (ms ++ false ∷ []) n
first_push ms n h = record { before = λ k lt. more_same ms k ∙ h.before k lt; here = λ lt. more_same ms n ∙ h.here lt }

taken_stays : (ms : List Mark) (k : ℕ) → get_or (gone_of ms) k false ≡ false → get_or (found_of ms) k false ≡ false → get_or (gone_of (map taken ms)) k false ≡ false
taken_stays [] k g f = refl
taken_stays (Stays ∷ ms) zero g f = refl
taken_stays (Found ∷ ms) zero g f = f
taken_stays (Gone ∷ ms) zero g f = g
taken_stays (m ∷ ms) (suc k) g f = taken_stays ms k g f

taken_goes : (ms : List Mark) (k : ℕ) → (get_or (gone_of ms) k false ≡ true) ⊎ (get_or (found_of ms) k false ≡ true) → get_or (gone_of (map taken ms)) k false ≡ true
taken_goes [] k (inl e) = e
taken_goes [] k (inr e) = e
taken_goes (Stays ∷ ms) zero (inl e) = e
taken_goes (Stays ∷ ms) zero (inr e) = e
taken_goes (Found ∷ ms) zero h = refl
taken_goes (Gone ∷ ms) zero h = refl
taken_goes (m ∷ ms) (suc k) h = taken_goes ms k h

first_taken : (ms : List Mark) (a b : ℕ) → IsFirstOrPast (gone_of ms) a → IsFirstOrPast (found_of ms) b → IsFirstOrPast (gone_of (map taken ms)) (min a b)
first_taken ms a b g f = record {
  before = λ k lt. taken_stays ms k (g.before k (omega arith)) (f.before k (omega arith));
  here = λ lt. elim (cases_lt b a) [
    | inl below ↦
        let e : min a b ≡ b = omega arith in
        ap (λ (v : ℕ). get_or (gone_of (map taken ms)) v false) e ∙ taken_goes ms b (inr (f.here (omega arith)))
    | inr over ↦
        let e : min a b ≡ a = omega arith in
        ap (λ (v : ℕ). get_or (gone_of (map taken ms)) v false) e ∙ taken_goes ms a (inl (g.here (omega arith)))
  ];
}

first_none : (ms : List Bool) → AreNone ms → IsFirstOrPast ms (2 ^ 64 - 1)
first_none ms none = record { before = λ k lt. none k; here = λ lt. absurd (omega arith) }

-- among so many it is the first of them, or all; and there is a first if some are marked
pub first_among : (ms : List Bool) (n : ℕ) → length ms < 2 ^ 63 → IsFirstOrPast ms n → IsFirstMarked ms (min n (length ms))
first_among ms n few h = record {
  within = omega arith;
  before = λ k lt. get_or_default ms k true false (omega arith) ∙ h.before k (omega arith);
  here = λ lt.
      let e : min n (length ms) ≡ n = omega arith in
      ap (λ (v : ℕ). get_or ms v false) e ∙ h.here (omega arith);
}

pub first_within : (ms : List Bool) (n : ℕ) → IsFirstOrPast ms n → 0 < number ms → n < length ms
first_within ms n h some = elim (cases_lt n (length ms)) [
  | inl lt ↦ lt
  | inr le ↦ absurd (omega (
    arith,
    number_none ms (λ k. elim (cases_lt k n) [
      | inl low ↦ h.before k low
      | inr past ↦ get_or_past ms k false (omega arith)
    ]),
  ))
]

-- what is before the first that has a mark
pub left_front : {A : Type 0} (ms : List Bool) (xs : List A) (first k : ℕ) (d : A) → ((i : ℕ) → i < first → get_or ms i true ≡ false) → k < first → length ms ≡ length xs → get_or (left ms xs) k d ≡ get_or xs k d
left_front [] xs first k d none lt e = refl
left_front (m ∷ ms) [] first k d none lt e = absurd (omega arith)
left_front (true ∷ ms) (x ∷ xs) first k d none lt e = absurd (let t : true ≡ false = none 0 (omega arith) in cc)
left_front (false ∷ ms) (x ∷ xs) first zero d none lt e = refl
left_front (false ∷ ms) (x ∷ xs) first (suc k) d none lt e = left_front ms xs (first - 1) k d (λ i low. none (suc i) (omega arith)) (omega arith) (omega arith)

-- ---- all together

pub picks_push : {from end : ℕ} {places new sizes : List ℕ} (ms : List Bool) (p : Picked) (n : ℕ) → length ms ≡ length sizes → AreOf from places end sizes → AreOf from new (end + n) (sizes ++ n ∷ [])
    → IsPicked from places end ms p → IsPicked from new (end + n) (ms ++ false ∷ []) p
picks_push {from = from} {sizes = sizes} ms p n long of of₁ h = record {
  first = first_push ms p.first h.first;
  count = h.count ∙ sym (number_push ms);
  size = λ ns are.
      let e : ns ≡ sizes ++ n ∷ [] = of_same from ns (sizes ++ n ∷ []) (sym are.are ∙ of₁.are) (sym are.ends ∙ of₁.ends) in
      h.size sizes of ∙ ap sum (sym (picked_push ms sizes n long)) ∙ ap (λ (v : List ℕ). sum (picked (ms ++ false ∷ []) v)) (sym e);
}

pub picks_none : (from end : ℕ) (places : List ℕ) (ms : List Bool) (p : Picked) → AreNone ms → p.first ≡ 2 ^ 64 - 1 → p.count ≡ 0 → p.size ≡ 0 → IsPicked from places end ms p
picks_none from end places ms p none first count size = record {
  first = subst (IsFirstOrPast ms) (sym first) (first_none ms none);
  count = count ∙ sym (number_none ms none);
  size = λ ns of. size ∙ sym (ap sum (picked_none ms ns none));
}

pub picks_taken : {from end : ℕ} {places : List ℕ} (ms : List Mark) (p q r : Picked) → length ms ≡ length places → r.first ≡ min p.first q.first → r.count ≡ p.count + q.count → r.size ≡ p.size + q.size → IsPicked from places end (gone_of ms) p → IsPicked from places end (found_of ms) q
    → IsPicked from places end (gone_of (map taken ms)) r
picks_taken ms p q r long first count size g f = record {
  first = subst (IsFirstOrPast (gone_of (map taken ms))) (sym first) (first_taken ms p.first q.first g.first f.first);
  count = omega (arith, count, g.count, f.count, number_taken ms);
  size = λ ns of. omega (arith, size, g.size ns of, f.size ns of, picked_taken ms ns (long ∙ long_as of));
}

-- ---- the marks of a vector

pub back_items : (now old new rest : List Mark) (len first : ℕ) → now ≡ old → len ≡ length old → IsFirstOrPast (found_of old) first → 0 < number (found_of old) → length new ≡ length now → IsPutBackFrom first (length now) now new → take len (new ++ rest) ≡ map put_back old
back_items now old new rest len first value long h some same back =
    let all : length new ≡ length old = same ∙ ap length value in
    take_at new rest len (all ∙ sym long) ∙ put_back_all old new first all h.before (omega (arith, first_within (found_of old) first h some, length-map old is_found)) (subst (λ (v : List Mark). IsPutBackFrom first (length v) v new) value back)

pub taken_items : (now old new rest : List Mark) (len : ℕ) → now ≡ old → len ≡ length old → new ≡ map taken now → take len (new ++ rest) ≡ map taken old
taken_items now old new rest len value long is =
    let e : new ≡ map taken old = is ∙ ap (map taken) value in
    take_at new rest len (ap length e ∙ length-map old taken ∙ sym long) ∙ e

pub back_long : (n : ℕ) (now old new rest : List Mark) (len : ℕ) → length old ≡ n → now ≡ old → len ≡ length old → length new ≡ length now → length (take len (new ++ rest)) ≤ n
back_long n now old new rest len full value long same =
    let all : length new ≡ len = omega (arith, same, ap length value, long) in
    omega (arith, ap length (take_at new rest len all), all, long, full)

-- the same of all marks
pub back_marks : (n : ℕ) (now old new rest : List Mark) (len first : ℕ) → length old ≡ n → now ≡ old → len ≡ length old → IsFirstOrPast (found_of (all_marks n old)) first → 0 < number (found_of (all_marks n old)) → length new ≡ length now → IsPutBackFrom first (length now) now new
    → all_marks n (take len (new ++ rest)) ≡ map put_back (all_marks n old)
back_marks n now old new rest len first full value long h some same back =
    let e : all_marks n old ≡ old = all_full n old full in
    let is : take len (new ++ rest) ≡ map put_back old = back_items now old new rest len first value long (subst (λ (v : List Mark). IsFirstOrPast (found_of v) first) e h) (subst (λ (v : List Mark). 0 < number (found_of v)) e some) same back in
    all_full n (take len (new ++ rest)) (ap length is ∙ length-map old put_back ∙ full) ∙ is ∙ ap (map put_back) (sym e)

pub taken_marks : (n : ℕ) (now old new rest : List Mark) (len : ℕ) → length old ≡ n → now ≡ old → len ≡ length old → new ≡ map taken now → all_marks n (take len (new ++ rest)) ≡ map taken (all_marks n old)
taken_marks n now old new rest len full value long is =
    let e : take len (new ++ rest) ≡ map taken old = taken_items now old new rest len value long is in
    all_full n (take len (new ++ rest)) (ap length e ∙ length-map old taken ∙ full) ∙ e ∙ ap (map taken) (sym (all_full n old full))

pub set_marks : (n : ℕ) (old : List Mark) (k : ℕ) (m : Mark) → length old ≡ n → all_marks n (set old k m) ≡ set (all_marks n old) k m
set_marks n old k m full = all_full n (set old k m) (length-set old k m ∙ full) ∙ ap (λ (v : List Mark). set v k m) (sym (all_full n old full))

stays_mark : (m : Mark) → is_gone m ≡ false → is_found m ≡ false → m ≡ Stays
stays_mark Stays g f = refl
stays_mark Found g f = absurd (let t : true ≡ false = f in cc)
stays_mark Gone g f = absurd (let t : true ≡ false = g in cc)

pub stays_at : (ms : List Mark) (first k : ℕ) → IsFirstMarked (gone_of ms) first → AreNone (found_of ms) → k < first → get_or ms k Gone ≡ Stays
stays_at ms first k h none lt = stays_mark (get_or ms k Gone) (sym (gone_or ms k) ∙ h.before k lt) (sym (found_or ms k) ∙ none k)

stay_by : (f : Mark → Bool) (ms : List Mark) (n : ℕ) → f Stays ≡ false → length ms ≡ n → ((k : ℕ) → k < n → get_or ms k Gone ≡ Stays) → AreNone (map f ms)
stay_by f ms n e long stay k = elim (cases_lt k n) [
  | inl lt ↦ get_or_default (map f ms) k false (f Gone) (omega (arith, length-map ms f)) ∙ get_or-map f ms k Gone ∙ ap f (stay k lt) ∙ e
  | inr le ↦ get_or_past (map f ms) k false (omega (arith, length-map ms f))
]

pub none_gone : (ms : List Mark) (n : ℕ) → length ms ≡ n → ((k : ℕ) → k < n → get_or ms k Gone ≡ Stays) → AreNone (gone_of ms)
none_gone ms n long stay = stay_by is_gone ms n refl long stay

pub none_found : (ms : List Mark) (n : ℕ) → length ms ≡ n → ((k : ℕ) → k < n → get_or ms k Gone ≡ Stays) → AreNone (found_of ms)
none_found ms n long stay = stay_by is_found ms n refl long stay

-- ---- as many bytes as all have at the most

pub picked_within : {from end : ℕ} {places : List ℕ} (sizes : List ℕ) (ms : List Bool) → AreOf from places end sizes → sum (picked ms sizes) ≤ end
picked_within {from = from} sizes ms of = omega (arith, of.ends, end_sum from sizes, picked_most ms sizes)

-- ---- one more that was found

pub number_set : (ms : List Bool) (n : ℕ) → n < length ms → get_or ms n false ≡ false → number (set ms n true) ≡ number ms + 1
number_set [] n lt off = absurd (omega arith)
number_set (true ∷ ms) zero lt off = absurd (let t : true ≡ false = off in cc)
number_set (false ∷ ms) zero lt off = omega arith
number_set (m ∷ ms) (suc n) lt off = (let h = number_set ms n (omega arith) off in omega (arith, h))

pub picked_set : (ms : List Bool) (xs : List ℕ) (n : ℕ) → length ms ≡ length xs → n < length ms → get_or ms n false ≡ false → sum (picked (set ms n true) xs) ≡ sum (picked ms xs) + get_or xs n 0
picked_set [] xs n e lt off = absurd (omega arith)
picked_set (m ∷ ms) [] n e lt off = absurd (omega arith)
picked_set (true ∷ ms) (x ∷ xs) zero e lt off = absurd (let t : true ≡ false = off in cc)
picked_set (false ∷ ms) (x ∷ xs) zero e lt off = (let f : sum (x ∷ picked ms xs) ≡ sum (picked ms xs) + x = omega (arith, sum-cons x (picked ms xs)) in f)
picked_set (true ∷ ms) (x ∷ xs) (suc n) e lt off =
    let a : List ℕ = picked (set ms n true) xs in
    let b : List ℕ = picked ms xs in
    let h : sum a ≡ sum b + get_or xs n 0 = picked_set ms xs n (omega arith) (omega arith) off in
    let f : sum (x ∷ a) ≡ sum (x ∷ b) + get_or xs n 0 = omega (arith, h, sum-cons x a, sum-cons x b) in f
picked_set (false ∷ ms) (x ∷ xs) (suc n) e lt off = picked_set ms xs n (omega arith) (omega arith) off

first_set : (ms : List Bool) (n first : ℕ) → n < length ms → n < first → IsFirstOrPast ms first → IsFirstOrPast (set ms n true) n
first_set ms n first in_ms lt h = record {
  before = λ k below. get_or-set_other ms n k true false (λ e. omega arith) ∙ h.before k (omega arith);
  here = λ past. get_or-set_same ms n true false in_ms;
}

pub picks_set : {from end : ℕ} {places : List ℕ} (ms : List Bool) (p q : Picked) (n : ℕ) → length ms ≡ length places → n < length ms → n < p.first → q.first ≡ n → q.count ≡ p.count + 1 → q.size ≡ p.size + (get_or places (n + 1) end - get_or places n end) → IsPicked from places end ms p
    → IsPicked from places end (set ms n true) q
picks_set {end = end} {places = places} ms p q n long in_ms lt first count size h =
    let off : get_or ms n false ≡ false = h.first.before n lt in
    record {
      first = subst (IsFirstOrPast (set ms n true)) (sym first) (first_set ms n p.first in_ms lt h.first);
      count = omega (arith, count, h.count, number_set ms n in_ms off);
      size = λ ns of. omega (arith, size, h.size ns of, picked_set ms ns n (long ∙ long_as of) in_ms off, place_size n of (omega (arith, long, long_as of)));
    }

pub gone_set : (ms : List Mark) (n : ℕ) → get_or (gone_of ms) n true ≡ false → gone_of (set ms n Found) ≡ gone_of ms
gone_set ms n stays = map-set_same is_gone ms n Found Gone (sym (sym (gone_or ms n) ∙ stays))

-- ---- what a look has found

pub not_fresh : (ms : List Bool) (k : ℕ) → (get_or ms k false ≡ true → ⊥) → get_or ms k false ≡ false
not_fresh ms k h = false_from_ne_true (get_or ms k false) h

pub found_hash : (hash : ℕ) (hs hs₁ : List ℕ) (ms ms₁ : List Mark) (n : ℕ) → hs₁ ≡ hs → found_of ms₁ ≡ set (found_of ms) n true → slice_index hs n ≡ hash → HaveHash hash hs ms → HaveHash hash hs₁ ms₁
found_hash hash hs hs₁ ms ms₁ n same found here h = record {
  each = λ k is.
      let at : slice_index hs₁ k ≡ slice_index hs k = ap (λ (v : List ℕ). slice_index v k) same in
      at ∙ elim (cases_eq k n) [
        | inl e ↦ ap (slice_index hs) e ∙ here
        | inr apart ↦ h.each k (sym (get_or-set_other (found_of ms) n k true false apart) ∙ ap (λ (v : List Bool). get_or v k false) (sym found) ∙ is)
      ];
}

-- ---- what is left

pub left_number : {A : Type 0} (ms : List Bool) (xs : List A) → length ms ≡ length xs → length (left ms xs) + number ms ≡ length xs
left_number [] [] e = omega arith
left_number [] (x ∷ xs) e = absurd (omega arith)
left_number (m ∷ ms) [] e = absurd (omega arith)
left_number (true ∷ ms) (x ∷ xs) e = (let h = left_number ms xs (omega arith) in omega (arith, h))
left_number (false ∷ ms) (x ∷ xs) e = (let h = left_number ms xs (omega arith) in omega (arith, h))

pub left_sum : (ms : List Bool) (xs : List ℕ) → length ms ≡ length xs → sum (left ms xs) + sum (picked ms xs) ≡ sum xs
left_sum [] [] e = refl
left_sum [] (x ∷ xs) e = absurd (omega arith)
left_sum (m ∷ ms) [] e = absurd (omega arith)
left_sum (true ∷ ms) (x ∷ xs) e =
    let a : List ℕ = left ms xs in
    let b : List ℕ = picked ms xs in
    let h : sum a + sum b ≡ sum xs = left_sum ms xs (omega arith) in
    let f : sum a + sum (x ∷ b) ≡ sum (x ∷ xs) = omega (arith, h, sum-cons x b, sum-cons x xs) in f
left_sum (false ∷ ms) (x ∷ xs) e =
    let a : List ℕ = left ms xs in
    let b : List ℕ = picked ms xs in
    let h : sum a + sum b ≡ sum xs = left_sum ms xs (omega arith) in
    let f : sum (x ∷ a) + sum b ≡ sum (x ∷ xs) = omega (arith, h, sum-cons x a, sum-cons x xs) in f

pub end_left : {from end end₁ : ℕ} {places places₁ : List ℕ} (sizes : List ℕ) (ms : List Bool) (p : Picked) → length ms ≡ length places → IsPicked from places end ms p → AreOf from places end sizes → AreOf from places₁ end₁ (left ms sizes) → end₁ + p.size ≡ end
end_left {from = from} sizes ms p long h of of₁ = omega (arith, h.size sizes of, of.ends, of₁.ends, end_sum from sizes, end_sum from (left ms sizes), left_sum ms sizes (long ∙ long_as of))

-- ---- of a roll: those that go and those that were found are no more than all

pub both_within : {L : Type 0} {l : Widths L} (m : Roll L l) → m.gone.size + m.found.size ≤ m.end
both_within {l = l} m =
    let ms : List Mark = marks_in m in
    let spans = spans_of (head_size l.WORD) m.end (places_in m.places) m.spans in
    let both : sum (picked (gone_of (map taken ms)) spans.sizes) ≡ sum (picked (gone_of ms) spans.sizes) + sum (picked (found_of ms) spans.sizes) = picked_taken ms spans.sizes (omega (arith, (marks_long m), m.paired, long_as spans.of)) in
    omega (arith, m.picked.size spans.sizes spans.of, m.sought.size spans.sizes spans.of, both, picked_within spans.sizes (gone_of (map taken ms)) spans.of)

pub both_few : {L : Type 0} {l : Widths L} (m : Roll L l) → m.gone.count + m.found.count ≤ length m.hashes.items
both_few m =
    let ms : List Mark = marks_in m in
    omega (arith, m.picked.count, m.sought.count, number_taken ms, number_most (gone_of (map taken ms)), length-map (map taken ms) is_gone, length-map ms taken, (marks_long m))
