-- Pieces that lie one after another: step by step, and closed.
use Rattle.std.proofs.Common.{◌≡◌, ℕ, zero, suc, ◌+◌, ◌-◌, ◌<◌, ◌≤◌, Bool, true, false, cond, List, [], ◌∷◌, ◌++◌, length, map, take, drop, get_or, refl, sym, ap, subst, ◌∙◌, arith, add-one, append_assoc, length-append, length-take}
use Rattle.cdb_make.proofs.Words.{AreOf, AreRising, AreSized, AreSpans, Copied, KeepsPart, Stand, Turns, behind, end_from, joined, left, or_each, overwrite, part, places_from}
use Rattle.std.proofs.lemmas.List.{append-nil, take_at, drop_at, drop-take, take-take, drop-drop, take_more, length-take-le, get_or-take, length-map, take_all, take-map, get_or-map}
use Rattle.cdb_store.proofs.Parts.{part_add, part_from_take, length-part, part-overwrite, take-overwrite, drop-overwrite}

-- ---- places

pub end_more : (at n : ℕ) (ns : List ℕ) → end_from at (ns ++ n ∷ []) ≡ end_from at ns + n
end_more at n [] = refl
end_more at n (m ∷ ns) = end_more (at + m) n ns

pub end_low : (at : ℕ) (ns : List ℕ) → at ≤ end_from at ns
end_low at [] = omega arith
end_low at (n ∷ ns) = omega (arith, end_low (at + n) ns)

end_take : (at k : ℕ) (ns : List ℕ) → end_from at (take k ns) ≤ end_from at ns
end_take at zero [] = omega arith
end_take at (suc k) [] = omega arith
end_take at zero (n ∷ ns) = omega (arith, end_low (at + n) ns)
end_take at (suc k) (n ∷ ns) = end_take (at + n) k ns

end_next : (at k : ℕ) (ns : List ℕ) → end_from at (take k ns) ≤ end_from at (take (suc k) ns)
end_next at zero [] = omega arith
end_next at (suc k) [] = omega arith
end_next at zero (n ∷ ns) = omega arith
end_next at (suc k) (n ∷ ns) = end_next (at + n) k ns

place_taken : (at k : ℕ) (ns : List ℕ) → get_or (places_from at ns) k (end_from at ns) ≡ end_from at (take k ns)
place_taken at zero [] = refl
place_taken at (suc k) [] = refl
place_taken at zero (n ∷ ns) = refl
place_taken at (suc k) (n ∷ ns) = place_taken (at + n) k ns

length-places_from : (at : ℕ) (ns : List ℕ) → length (places_from at ns) ≡ length ns
length-places_from at [] = refl
length-places_from at (n ∷ ns) = let h = length-places_from (at + n) ns in omega arith

pub places_more : (at n : ℕ) (ns : List ℕ) → places_from at (ns ++ n ∷ []) ≡ places_from at ns ++ end_from at ns ∷ []
places_more at n [] = refl
places_more at n (m ∷ ns) = ap (λ (v : List ℕ). at ∷ v) (places_more (at + m) n ns)

pub places_take : (at k : ℕ) (ns : List ℕ) → take k (places_from at ns) ≡ places_from at (take k ns)
places_take at zero ns = refl
places_take at (suc k) [] = refl
places_take at (suc k) (n ∷ ns) = ap (λ (v : List ℕ). at ∷ v) (places_take (at + n) k ns)

-- of the places of some pieces
pub place_is : {from end : ℕ} {places sizes : List ℕ} (k : ℕ) → AreOf from places end sizes → get_or places k end ≡ end_from from (take k sizes)
place_is {from = from} {end = end} {places = places} {sizes = sizes} k of =
    ap (λ (v : List ℕ). get_or v k end) of.are ∙ ap (λ (e : ℕ). get_or (places_from from sizes) k e) of.ends ∙ place_taken from k sizes

pub long_as : {from end : ℕ} {places sizes : List ℕ} → AreOf from places end sizes → length places ≡ length sizes
long_as {from = from} {sizes = sizes} of = ap length of.are ∙ length-places_from from sizes

pub place_low : {from end : ℕ} {places sizes : List ℕ} (k : ℕ) → AreOf from places end sizes → from ≤ get_or places k end
place_low {from = from} {sizes = sizes} k of = omega (arith, place_is k of, end_low from (take k sizes))

pub place_high : {from end : ℕ} {places sizes : List ℕ} (k : ℕ) → AreOf from places end sizes → get_or places k end ≤ end
place_high {from = from} {sizes = sizes} k of = omega (arith, place_is k of, end_take from k sizes, of.ends)

pub place_next : {from end : ℕ} {places sizes : List ℕ} (k : ℕ) → AreOf from places end sizes → get_or places k end ≤ get_or places (k + 1) end
place_next {from = from} {sizes = sizes} k of =
    let a = end_next from k sizes in
    let e : take (k + 1) sizes ≡ take (suc k) sizes = rw add-one refl in
    let f : end_from from (take (k + 1) sizes) ≡ end_from from (take (suc k) sizes) = ap (end_from from) e in
    omega (arith, place_is k of, place_is (k + 1) of)

pub place_size : {from end : ℕ} {places sizes : List ℕ} (k : ℕ) → AreOf from places end sizes → k < length sizes → get_or places (k + 1) end ≡ get_or places k end + get_or sizes k 0
place_size {from = from} {sizes = sizes} k of lt =
    let e : end_from from (take (k + 1) sizes) ≡ end_from from (take k sizes ++ get_or sizes k 0 ∷ []) = ap (end_from from) (take_more sizes k 0 lt) in
    omega (arith, place_is k of, place_is (k + 1) of, end_more from (get_or sizes k 0) (take k sizes))

-- one piece more
pub pushed_of : {from end : ℕ} {places new sizes : List ℕ} (n : ℕ) → new ≡ places ++ end ∷ [] → AreOf from places end sizes → AreOf from new (end + n) (sizes ++ n ∷ [])
pushed_of {from = from} {end = end} {sizes = sizes} n is of = record {
  are = is ∙ ap (λ (v : List ℕ). v ++ end ∷ []) of.are ∙ ap (λ (e : ℕ). places_from from sizes ++ e ∷ []) of.ends ∙ sym (places_more from n sizes);
  ends = ap (λ (e : ℕ). e + n) of.ends ∙ sym (end_more from n sizes);
}

pub rising_of : {from end : ℕ} {places sizes : List ℕ} → AreOf from places end sizes → AreRising from places end
rising_of {from = from} {sizes = sizes} of = record { first = place_is 0 of; rises = λ k. place_next k of }

-- places that rise are those of some sizes
pub spans_of : (from end : ℕ) (places : List ℕ) → AreRising from places end → AreSpans from places end
spans_of from end [] h = record { sizes = []; of = record { are = refl; ends = h.first } }
spans_of from end (p ∷ ps) h =
    let next : ℕ = get_or ps 0 end in
    let up : p ≤ next = h.rises 0 in
    let later : (k : ℕ) → get_or ps k end ≤ get_or ps (k + 1) end = λ k.
    let e : suc k + 1 ≡ suc (k + 1) = omega arith in
    let f : get_or (p ∷ ps) (suc k + 1) end ≡ get_or ps (k + 1) end = ap (λ (n : ℕ). get_or (p ∷ ps) n end) e in
    let a : get_or (p ∷ ps) (suc k) end ≡ get_or ps k end = refl in
    omega (arith, h.rises (suc k))
    in
    let rest = spans_of next end ps (record { first = refl; rises = later }) in
    let here : p ≡ from = h.first in
    let at : from + (next - p) ≡ next = omega arith in
    record {
      sizes = (next - p) ∷ rest.sizes;
      of = record {
        are = ap (λ (v : ℕ). v ∷ ps) here ∙ ap (λ (v : List ℕ). from ∷ v) (rest.of.are ∙ ap (λ (v : ℕ). places_from v rest.sizes) (sym at));
        ends = rest.of.ends ∙ ap (λ (v : ℕ). end_from v rest.sizes) (sym at);
      };
    }

-- ---- what has no mark

pub left-append : {A : Type 0} (ms ns : List Bool) (xs ys : List A) → length ms ≡ length xs → left (ms ++ ns) (xs ++ ys) ≡ left ms xs ++ left ns ys
left-append [] ns [] ys e = refl
left-append [] ns (x ∷ xs) ys e = absurd (omega arith)
left-append (m ∷ ms) ns [] ys e = absurd (omega arith)
left-append (true ∷ ms) ns (x ∷ xs) ys e = left-append ms ns xs ys (omega arith)
left-append (false ∷ ms) ns (x ∷ xs) ys e = ap (λ v. x ∷ v) (left-append ms ns xs ys (omega arith))

pub left-map : {A B : Type 0} (f : A → B) (ms : List Bool) (xs : List A) → map f (left ms xs) ≡ left ms (map f xs)
left-map f [] xs = refl
left-map f (m ∷ ms) [] = refl
left-map f (true ∷ ms) (x ∷ xs) = left-map f ms xs
left-map f (false ∷ ms) (x ∷ xs) = ap (λ v. f x ∷ v) (left-map f ms xs)

-- one more: without a mark, and with one
step : {A : Type 0} (ms : List Bool) (xs : List A) (k : ℕ) (x : A) (m : Bool) → k < length ms → length ms ≡ length xs → get_or ms k m ≡ m → left (take (k + 1) ms) (take (k + 1) xs) ≡ left (take k ms) (take k xs) ++ left (m ∷ []) (get_or xs k x ∷ [])
step ms xs k x m lt long is =
    ap (λ (v : List Bool). left v (take (k + 1) xs)) (take_more ms k m lt ∙ ap (λ (v : Bool). take k ms ++ v ∷ []) is)
    ∙ ap (left (take k ms ++ m ∷ [])) (take_more xs k x (omega arith))
    ∙ left-append (take k ms) (m ∷ []) (take k xs) (get_or xs k x ∷ []) (length-take-le k ms (omega arith) ∙ sym (length-take-le k xs (omega arith)))

pub left_live : {A : Type 0} (ms : List Bool) (xs : List A) (k : ℕ) (x : A) → k < length ms → length ms ≡ length xs → get_or ms k false ≡ false → left (take (k + 1) ms) (take (k + 1) xs) ≡ left (take k ms) (take k xs) ++ get_or xs k x ∷ []
left_live ms xs k x lt long is = step ms xs k x false lt long is

pub left_gone : {A : Type 0} (ms : List Bool) (xs : List A) (k : ℕ) (x : A) → k < length ms → length ms ≡ length xs → get_or ms k true ≡ true → left (take (k + 1) ms) (take (k + 1) xs) ≡ left (take k ms) (take k xs)
left_gone ms xs k x lt long is = step ms xs k x true lt long is ∙ append-nil (left (take k ms) (take k xs))

pub left_all : {A : Type 0} (ms : List Bool) (xs : List A) (k : ℕ) → length ms ≤ k → length ms ≡ length xs → left (take k ms) (take k xs) ≡ left ms xs
left_all ms xs k le long = ap (λ (v : List Bool). left v (take k xs)) (take_all k ms le) ∙ ap (left ms) (take_all k xs (omega arith))

-- ---- all marks with some others

pub or_append : (ms ns : List Bool) (m n : Bool) → length ms ≡ length ns → or_each (ms ++ m ∷ []) (ns ++ n ∷ []) ≡ or_each ms ns ++ cond n true m ∷ []
or_append [] [] m n e = refl
or_append [] (b ∷ ns) m n e = absurd (omega arith)
or_append (a ∷ ms) [] m n e = absurd (omega arith)
or_append (a ∷ ms) (b ∷ ns) m n e = ap (λ (v : List Bool). cond b true a ∷ v) (or_append ms ns m n (omega arith))

-- ---- the same after the first mark

behind_more : {A : Type 0} (k : ℕ) (ms ns : List Bool) (xs ys : List A) → length ms ≡ length xs → get_or ms k false ≡ true → behind (ms ++ ns) (xs ++ ys) ≡ behind ms xs ++ left ns ys
behind_more k [] ns xs ys e is = absurd (let t : false ≡ true = is in cc)
behind_more k (m ∷ ms) ns [] ys e is = absurd (omega arith)
behind_more k (true ∷ ms) ns (x ∷ xs) ys e is = left-append ms ns xs ys (omega arith)
behind_more zero (false ∷ ms) ns (x ∷ xs) ys e is = absurd (let t : false ≡ true = is in cc)
behind_more (suc k) (false ∷ ms) ns (x ∷ xs) ys e is = behind_more k ms ns xs ys (omega arith) is

behind_mark : {A : Type 0} (ms : List Bool) (xs : List A) (x : A) → length ms ≡ length xs → behind (ms ++ true ∷ []) (xs ++ x ∷ []) ≡ behind ms xs
behind_mark [] [] x e = refl
behind_mark [] (y ∷ xs) x e = absurd (omega arith)
behind_mark (m ∷ ms) [] x e = absurd (omega arith)
behind_mark (true ∷ ms) (y ∷ xs) x e = left-append ms (true ∷ []) xs (x ∷ []) (omega arith) ∙ append-nil (left ms xs)
behind_mark (false ∷ ms) (y ∷ xs) x e = behind_mark ms xs x (omega arith)

pub behind_none : {A : Type 0} (k : ℕ) (ms : List Bool) (xs : List A) → ((i : ℕ) → i < k → get_or ms i true ≡ false) → behind (take k ms) (take k xs) ≡ []
behind_none zero ms xs none = refl
behind_none (suc k) [] xs none = refl
behind_none (suc k) (m ∷ ms) [] none = refl
behind_none (suc k) (true ∷ ms) (x ∷ xs) none = absurd (let t : true ≡ false = none 0 (omega arith) in cc)
behind_none (suc k) (false ∷ ms) (x ∷ xs) none = behind_none k ms xs (λ i lt. none (suc i) (omega arith))

same_long : {A : Type 0} (ms : List Bool) (xs : List A) (k : ℕ) → length ms ≡ length xs → length (take k ms) ≡ length (take k xs)
same_long ms xs k e = length-take k ms ∙ ap (λ (n : ℕ). Rattle.std.specs.Prelude.min k n) e ∙ sym (length-take k xs)

pub behind_live : {A : Type 0} (ms : List Bool) (xs : List A) (first k : ℕ) (x : A) → first < k → k < length ms → length ms ≡ length xs → get_or ms first false ≡ true → get_or ms k false ≡ false
    → behind (take (k + 1) ms) (take (k + 1) xs) ≡ behind (take k ms) (take k xs) ++ get_or xs k x ∷ []
behind_live ms xs first k x up lt long marked is =
    ap (λ (v : List Bool). behind v (take (k + 1) xs)) (take_more ms k false lt ∙ ap (λ (v : Bool). take k ms ++ v ∷ []) is)
    ∙ ap (behind (take k ms ++ false ∷ [])) (take_more xs k x (omega arith))
    ∙ behind_more first (take k ms) (false ∷ []) (take k xs) (get_or xs k x ∷ []) (same_long ms xs k long) (get_or-take k ms first false up ∙ marked)

pub behind_gone : {A : Type 0} (ms : List Bool) (xs : List A) (k : ℕ) (x : A) → k < length ms → length ms ≡ length xs → get_or ms k true ≡ true → behind (take (k + 1) ms) (take (k + 1) xs) ≡ behind (take k ms) (take k xs)
behind_gone ms xs k x lt long is =
    ap (λ (v : List Bool). behind v (take (k + 1) xs)) (take_more ms k true lt ∙ ap (λ (v : Bool). take k ms ++ v ∷ []) is)
    ∙ ap (behind (take k ms ++ true ∷ [])) (take_more xs k x (omega arith))
    ∙ behind_mark (take k ms) (take k xs) (get_or xs k x) (same_long ms xs k long)

pub behind_all : {A : Type 0} (ms : List Bool) (xs : List A) (k : ℕ) → length ms ≤ k → length ms ≡ length xs → behind (take k ms) (take k xs) ≡ behind ms xs
behind_all ms xs k le long = ap (λ (v : List Bool). behind v (take k xs)) (take_all k ms le) ∙ ap (behind ms) (take_all k xs (omega arith))

-- ---- pieces as bytes

pub joined_more : (ps : List (List ℕ)) (p : List ℕ) → joined (ps ++ p ∷ []) ≡ joined ps ++ p
joined_more [] p = append-nil p
joined_more (q ∷ ps) p = ap (λ (v : List ℕ). q ++ v) (joined_more ps p) ∙ sym (append_assoc q (joined ps) p)

pub joined_end : (at : ℕ) (ps : List (List ℕ)) → end_from at (map length ps) ≡ at + length (joined ps)
joined_end at [] = omega arith
joined_end at (p ∷ ps) = omega (arith, joined_end (at + length p) ps, length-append p (joined ps))

part_first : (at n m : ℕ) (a xs ys : List ℕ) → length xs ≡ n → part at (n + m) a ≡ xs ++ ys → part at n a ≡ xs
part_first at n m a xs ys l e = sym (take-take n (n + m) (drop at a) (omega arith)) ∙ ap (take n) e ∙ take_at xs ys n l

part_second : (at n m : ℕ) (a xs ys : List ℕ) → length xs ≡ n → part at (n + m) a ≡ xs ++ ys → part (at + n) m a ≡ ys
part_second at n m a xs ys l e = ap (take m) (sym (drop-drop n at a)) ∙ sym (drop-take n m (drop at a)) ∙ ap (drop n) e ∙ drop_at xs ys n l

-- one of them
pub piece_at : (at k : ℕ) (ps : List (List ℕ)) (a : List ℕ) → k < length ps → Stand at ps a → part (end_from at (take k (map length ps))) (length (get_or ps k [])) a ≡ get_or ps k []
piece_at at k [] a lt h = absurd (omega arith)
piece_at at zero (p ∷ ps) a lt h = part_first at (length p) (length (joined ps)) a p (joined ps) refl (ap (λ (n : ℕ). part at n a) (sym (length-append p (joined ps))) ∙ h)
piece_at at (suc k) (p ∷ ps) a lt h =
    piece_at (at + length p) k ps a (omega arith) (part_second at (length p) (length (joined ps)) a p (joined ps) refl (ap (λ (n : ℕ). part at n a) (sym (length-append p (joined ps))) ∙ h))

-- the first of them
prefix_at : (at k : ℕ) (ps : List (List ℕ)) (a : List ℕ) → Stand at ps a → part at (length (joined (take k ps))) a ≡ joined (take k ps)
prefix_at at zero ps a h = refl
prefix_at at (suc k) [] a h = refl
prefix_at at (suc k) (p ∷ ps) a h =
    let whole : part at (length p + length (joined ps)) a ≡ p ++ joined ps = ap (λ (n : ℕ). part at n a) (sym (length-append p (joined ps))) ∙ h in
    let ih = prefix_at (at + length p) k ps a (part_second at (length p) (length (joined ps)) a p (joined ps) refl whole) in
    ap (λ (n : ℕ). part at n a) (length-append p (joined (take k ps))) ∙ part_add at (length p) (length (joined (take k ps))) a
    ∙ ap (λ (v : List ℕ). v ++ part (at + length p) (length (joined (take k ps))) a) (part_first at (length p) (length (joined ps)) a p (joined ps) refl whole)
    ∙ ap (λ (v : List ℕ). p ++ v) ih

pub left_none : {A : Type 0} (k : ℕ) (ms : List Bool) (xs : List A) → length ms ≡ length xs → ((i : ℕ) → i < k → get_or ms i true ≡ false) → left (take k ms) (take k xs) ≡ take k xs
left_none zero ms xs e none = refl
left_none (suc k) [] [] e none = refl
left_none (suc k) [] (x ∷ xs) e none = absurd (omega arith)
left_none (suc k) (m ∷ ms) [] e none = absurd (omega arith)
left_none (suc k) (true ∷ ms) (x ∷ xs) e none = absurd (let t : true ≡ false = none 0 (omega arith) in cc)
left_none (suc k) (false ∷ ms) (x ∷ xs) e none = ap (λ v. x ∷ v) (left_none k ms xs (omega arith) (λ i lt. none (suc i) (omega arith)))

-- ---- amid a pass

-- the pieces so far without a mark lie side by side up to `to`, but for those from `from` on; all after
-- that is as it was
pub record Amid (start from to k : ℕ) (places : List ℕ) (gone : List Bool) (end : ℕ) (old new : List ℕ → Type 0) : Type 0 where
  pub each : (b : List ℕ) → new b → (a : List ℕ) × old a × (take start b ≡ take start a) × (drop from b ≡ drop from a)
      × ((ps : List (List ℕ)) → AreOf start places end (map length ps) → Stand start ps a
      → part start (to - start) b ++ part from (get_or places k end - from) b ≡ joined (left (take k gone) (take k ps)))

pub kept_then : {pos n : ℕ} {i j k : List ℕ → Type 0} → KeepsPart pos n i j → KeepsPart pos n j k → KeepsPart pos n i k
kept_then f g = record { each = λ b is. (let h = g.each b is in let q = f.each h.0 h.1 in (q.0, q.1, h.2 ∙ q.2)) }

pub amid_begun : {start p k end : ℕ} {places : List ℕ} {gone : List Bool} {i : List ℕ → Type 0} → p ≡ get_or places k end → length gone ≡ length places → ((n : ℕ) → n < k → get_or gone n true ≡ false) → Amid start p p k places gone end i i
amid_begun {start = start} {p = p} {k = k} {end = end} {places = places} {gone = gone} at long none = record {
  each = λ b is. (
    b,
    is,
    refl,
    refl,
    λ ps of stand.
        let many : length gone ≡ length ps = long ∙ long_as of ∙ length-map ps length in
        let end_is : p ≡ start + length (joined (take k ps)) = at ∙ place_is k of ∙ ap (end_from start) (take-map length k ps) ∙ joined_end start (take k ps) in
        let n : p - start ≡ length (joined (take k ps)) = omega arith in
        let z : get_or places k end - p ≡ 0 = omega arith in
        ap (λ (v : ℕ). part start (p - start) b ++ part p v b) z ∙ append-nil (part start (p - start) b) ∙ ap (λ (v : ℕ). part start v b) n ∙ prefix_at start k ps b stand
        ∙ ap joined (sym (left_none k gone ps many none)),
  );
}

drop_behind : (n m : ℕ) (a b : List ℕ) → n ≤ m → drop n b ≡ drop n a → drop m b ≡ drop m a
drop_behind n m a b le e =
    let s : n + (m - n) ≡ m = omega arith in
    ap (λ (v : ℕ). drop v b) (sym s) ∙ sym (drop-drop (m - n) n b) ∙ ap (drop (m - n)) e ∙ drop-drop (m - n) n a ∙ ap (λ (v : ℕ). drop v a) s

pub amid_live : {start from to k end : ℕ} {places : List ℕ} {gone : List Bool} {old new : List ℕ → Type 0} → from ≤ get_or places k end → k < length gone → length gone ≡ length places → get_or gone k false ≡ false
    → Amid start from to k places gone end old new → Amid start from to (k + 1) places gone end old new
amid_live {start = start} {from = from} {to = to} {k = k} {end = end} {places = places} {gone = gone} order lt long is amid = record {
  each = λ b is₁.
      let h = amid.each b is₁ in (
        h.0,
        h.1,
        h.2,
        h.3,
        λ ps of stand.
            let a : List ℕ = h.0 in
            let p : ℕ = get_or places k end in
            let x : List ℕ = get_or ps k [] in
            let many : length ps ≡ length gone = sym (length-map ps length) ∙ sym (long_as of) ∙ sym long in
            let some : k < length (map length ps) = omega (arith, length-map ps length) in
            let size : get_or (map length ps) k 0 ≡ length x = get_or-map length ps k [] 0 (omega arith) in
            let next : get_or places (k + 1) end ≡ p + length x = place_size k of some ∙ ap (λ (n : ℕ). p + n) size in
            let n : get_or places (k + 1) end - from ≡ (p - from) + length x = omega arith in
            let at : from + (p - from) ≡ p = omega arith in
            let here : part p (length x) b ≡ x =
            ap (take (length x)) (drop_behind from p a b order h.3) ∙ ap (λ (v : ℕ). part v (length x) a) (place_is k of) ∙ piece_at start k ps a (omega arith) stand in
            ap (λ (v : ℕ). part start (to - start) b ++ part from v b) n
            ∙ ap (λ (v : List ℕ). part start (to - start) b ++ v) (part_add from (p - from) (length x) b ∙ ap (λ (v : ℕ). part from (p - from) b ++ part v (length x) b) at ∙ ap (λ (v : List ℕ). part from (p - from) b ++ v) here)
            ∙ sym (append_assoc (part start (to - start) b) (part from (p - from) b) x)
            ∙ ap (λ (v : List ℕ). v ++ x) (h.4 ps of stand)
            ∙ sym (joined_more (left (take k gone) (take k ps)) x)
            ∙ ap joined (sym (left_live gone ps k [] lt (sym many) is)),
      );
}

-- the pieces from `from` on up to one with a mark are moved down
moved_front : (start to n : ℕ) (a xs : List ℕ) → start ≤ to → to ≤ length a → length xs ≡ n → part start ((to + n) - start) (overwrite a to xs) ≡ part start (to - start) a ++ xs
moved_front start to n a xs up in_a long =
    let z : List ℕ = overwrite a to xs in
    let e : (to + n) - start ≡ (to - start) + n = omega arith in
    let f : start + (to - start) ≡ to = omega arith in
    let front : part start (to - start) z ≡ part start (to - start) a = part_from_take start (to - start) to a z f (take-overwrite to to a xs (omega arith) in_a) in
    let back : part to n z ≡ xs = ap (λ (v : ℕ). part to v z) (sym long) ∙ part-overwrite to a xs in_a in
    ap (λ (v : ℕ). part start v z) e ∙ part_add start (to - start) n z ∙ ap (λ (v : List ℕ). v ++ part (start + (to - start)) n z) front
    ∙ ap (λ (v : ℕ). part start (to - start) a ++ part v n z) f ∙ ap (λ (v : List ℕ). part start (to - start) a ++ v) back

pub amid_gone : {start from to k end size to₁ from₁ : ℕ} {places : List ℕ} {gone : List Bool} {i j l : List ℕ → Type 0} → start ≤ to → to ≤ from → from ≤ get_or places k end → get_or places k end ≤ size → get_or places k end ≤ from₁ → to₁ ≡ to + (get_or places k end - from)
    → AreSized size j → Amid start from to k places gone end i j → Copied from to (get_or places k end - from) j l
    → (b : List ℕ) → l b → (a : List ℕ) × i a × (take start b ≡ take start a) × (drop from₁ b ≡ drop from₁ a)
    × ((ps : List (List ℕ)) → AreOf start places end (map length ps) → Stand start ps a → part start (to₁ - start) b ≡ joined (left (take k gone) (take k ps)))
amid_gone {start = start} {from = from} {to = to} {k = k} {end = end} {size = size} {to₁ = to₁} {from₁ = from₁} {places = places} low order up inside behind is sized amid moved = λ b at.
    let n : ℕ = get_or places k end - from in
    let m = moved.each b at in
    let c : List ℕ = m.0 in
    let h = amid.each c m.1 in
    let xs : List ℕ = part from n c in
    let long : length xs ≡ n = length-part from n c (omega (arith, sized.each c m.1)) in (
      h.0,
      h.1,
      ap (take start) m.2 ∙ take-overwrite start to c xs low (omega (arith, sized.each c m.1)) ∙ h.2,
      ap (drop from₁) m.2 ∙ drop-overwrite from₁ to c xs (omega (arith, sized.each c m.1)) (omega arith) ∙ drop_behind from from₁ h.0 c (omega arith) h.3,
      λ ps of stand.
          ap (λ (v : ℕ). part start (v - start) b) is ∙ ap (part start ((to + n) - start)) m.2 ∙ moved_front start to n c xs low (omega (arith, sized.each c m.1)) long ∙ h.4 ps of stand,
    )

-- at the mark of a piece, and after the last piece
pub amid_more : {start from to k end size to₁ from₁ : ℕ} {places : List ℕ} {gone : List Bool} {i j l : List ℕ → Type 0} → start ≤ to → to ≤ from → from ≤ get_or places k end → get_or places k end ≤ size → get_or places k end ≤ from₁ → from₁ ≡ get_or places (k + 1) end → to₁ ≡ to + (get_or places k end - from)
    → k < length gone → length gone ≡ length places → get_or gone k true ≡ true → AreSized size j → Amid start from to k places gone end i j → Copied from to (get_or places k end - from) j l → Amid start from₁ to₁ (k + 1) places gone end i l
amid_more {start = start} {k = k} {end = end} {to₁ = to₁} {from₁ = from₁} {places = places} {gone = gone} low order up inside later at is lt long marked sized amid moved = record {
  each = λ b on.
      let h = amid_gone low order up inside later is sized amid moved b on in (
        h.0,
        h.1,
        h.2,
        h.3,
        λ ps of stand.
            let many : length gone ≡ length ps = long ∙ long_as of ∙ length-map ps length in
            let z : get_or places (k + 1) end - from₁ ≡ 0 = omega arith in
            ap (λ (v : ℕ). part start (to₁ - start) b ++ part from₁ v b) z ∙ append-nil (part start (to₁ - start) b) ∙ h.4 ps of stand ∙ ap joined (sym (left_gone gone ps k [] lt many marked)),
      );
}

pub amid_ended : {start from to k end size : ℕ} {places : List ℕ} {gone : List Bool} {i j l : List ℕ → Type 0} → start ≤ to → to ≤ from → from ≤ end → end ≤ size → get_or places k end ≡ end → length gone ≤ k → length gone ≡ length places
    → AreSized size j → Amid start from to k places gone end i j → Copied from to (end - from) j l → AreSized size l → Turns start places end gone i l
amid_ended {start = start} {from = from} {to = to} {k = k} {end = end} {places = places} {gone = gone} {j = j} {l = l} low order up inside at all long sized amid moved sized₁ = record {
  each = λ b on.
      let same : Copied from to (get_or places k end - from) j l = subst (λ (v : ℕ). Copied from to (v - from) j l) (sym at) moved in
      let h = amid_gone {to₁ = to + (get_or places k end - from)} {from₁ = end} low order (omega arith) (omega arith) (omega arith) refl sized amid same b on in (
        h.0,
        h.1,
        h.2,
        λ ps of stand.
            let last : ℕ = to + (get_or places k end - from) in
            let many : length gone ≡ length ps = long ∙ long_as of ∙ length-map ps length in
            let e : part start (last - start) b ≡ joined (left gone ps) = h.4 ps of stand ∙ ap joined (left_all gone ps k all many) in
            let n : length (joined (left gone ps)) ≡ last - start = ap length (sym e) ∙ length-part start (last - start) b (omega (arith, sized₁.each b on)) in
            ap (λ (v : ℕ). part start v b) n ∙ e,
      );
}
