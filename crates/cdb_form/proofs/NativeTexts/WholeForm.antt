-- A whole text of a form, item after item.
use Rattle.cdb_form.proofs.Words.{AllByRecursion, List, TextFault, [], ap, append-nil, append_assoc, arith, digit_value, flat_map, get_or, length, length-append, refl, subst, sym, take, ℕ, ◌++◌, ◌+◌, ◌-◌, ◌∙◌, ◌∷◌, ◌≡◌, ◌≤◌}
use Rattle.std.proofs.Math.Seq.{take-append-add}
use Rattle.std.proofs.lemmas.List.{get_or-append-add, length-take-le}
use Rattle.cdb_form.specs.declared.text.fault.TextFault.TheVariants.{Syntax, Ended, Large, Input, Endless, NoMemory}
use Rattle.cdb_form.specs.Laws.Text.{IsReadAs}
use Rattle.cdb_form.specs.Views.FormReader.{StopsAmid}
use Rattle.cdb_form.specs.Text.Form.{Spelled, Reads, HasNoItem, WholeItems, IsPrefix, HasNoText, LongestPrefix, LiftsLength, HasFault}
use Rattle.cdb_form.proofs.NativeTexts.Spelling.{IsSpelling}

-- ---- some items more

-- what spells some items, whatever follows it
record Prefix {X : Type 0} (S : ℕ → List ℕ → X → Type 0) (g : ℕ) (xs : List X) (t mid : List ℕ) : Type 0 where
  front : List ℕ
  split : t ≡ front ++ mid
  spelled : (x : List ℕ) → Spelled S g xs (front ++ x) x

prefix_of : {X : Type 0} (S : ℕ → List ℕ → X → Type 0) (g : ℕ) (xs : List X) (t mid : List ℕ) → Spelled S g xs t mid → Prefix S g xs t mid
prefix_of S g [] t mid e = record { front = []; split = e; spelled = λ x. refl }
prefix_of S g (i ∷ xs) t mid (first, more, sp, e, reads) =
    let f = prefix_of S g xs more mid reads in
    record {
      front = first ++ f.front;
      split = e ∙ ap (λ z. first ++ z) f.split ∙ sym (append_assoc first f.front mid);
      spelled = λ x. (first, f.front ++ x, sp, append_assoc first f.front x, f.spelled x);
    }

pub spelled_both : {X : Type 0} (S : ℕ → List ℕ → X → Type 0) (g : ℕ) (xs ys : List X) (t piece more : List ℕ) → Spelled S g xs t (piece ++ more) → Spelled S g ys piece [] → Spelled S g (xs ++ ys) t more
spelled_both S g [] ys t piece more e sp =
    let p = prefix_of S g ys piece [] sp in
    let same : t ≡ p.front ++ more = e ∙ ap (λ z. z ++ more) (p.split ∙ append-nil p.front) in
    subst (λ z. Spelled S g ys z more) (sym same) (p.spelled more)
spelled_both S g (q ∷ xs) ys t piece more (first, rest, one, e, reads) sp = (first, rest, one, e, spelled_both S g xs ys rest piece more reads sp)

-- ---- a text is read in one way

newlines : (x y : ℕ) (s t : List ℕ) → x ∷ s ≡ y ∷ t → s ≡ t
newlines x y s t e = cc

pub one_reading : {X : Type 0} (S : ℕ → List ℕ → X → Type 0) → IsSpelling S → (g : ℕ) (xs ys : List X) (t x y : List ℕ) → Reads S g xs t x → Reads S g ys t y → (ys ≡ xs) × (y ≡ x)
one_reading S s g [] [] t x y a b = (refl, newlines 10 10 y x (sym b ∙ a))
one_reading S s g [] (q ∷ ys) t x y a (first, more, sp, e, reads) = absurd (s.newline g first more x q sp (sym e ∙ a))
one_reading S s g (i ∷ xs) [] t x y (first, more, sp, e, reads) b = absurd (s.newline g first more y i sp (sym e ∙ b))
one_reading S s g (i ∷ xs) (q ∷ ys) t x y (first, more, sp, e, reads) (first', more', sp', e', reads') =
    let same = s.alone g g first first' more more' i q sp sp' (sym e ∙ e') in
    let rest = one_reading S s g xs ys more x y reads (subst (λ m. Spelled S g ys m (10 ∷ y)) (sym same.1) reads') in
    ((let h = same.0 in let k = rest.0 in cc), rest.1)

pub is_read_as : {X : Type 0} (S : ℕ → List ℕ → X → Type 0) → IsSpelling S → (g : ℕ) (xs : List X) (t rest : List ℕ) → Reads S g xs t rest → IsReadAs S g xs t rest
is_read_as S s g xs t rest reads = record { reads = reads; only = λ others more again. one_reading S s g xs others t rest more reads again }

-- the lines that spell some items
pub spelled_lines : {X : Type 0} (S : ℕ → List ℕ → X → Type 0) (line : X → List ℕ) (g : ℕ) (xs : List X) (x : List ℕ) → AllByRecursion (λ i. S g (line i) i) xs → Spelled S g xs (flat_map line xs ++ x) x
spelled_lines S line g [] x each = refl
spelled_lines S line g (i ∷ xs) x each = (line i, flat_map line xs ++ x, each.0, append_assoc (line i) (flat_map line xs) x, spelled_lines S line g xs x each.1)

pub lines_read : {X : Type 0} (S : ℕ → List ℕ → X → Type 0) → IsSpelling S → (line : X → List ℕ) (g : ℕ) (xs : List X) (rest : List ℕ) → AllByRecursion (λ i. S g (line i) i) xs → IsReadAs S g xs ((flat_map line xs ++ 10 ∷ []) ++ rest) rest
lines_read S s line g xs rest each =
    is_read_as S s g xs ((flat_map line xs ++ 10 ∷ []) ++ rest) rest
    (subst (λ t. Spelled S g xs t (10 ∷ rest)) (sym (append_assoc (flat_map line xs) (10 ∷ []) rest)) (spelled_lines S line g xs (10 ∷ rest) each))

-- ---- the fault of a text after an item

prefix_behind : {X : Type 0} (S : ℕ → List ℕ → X → Type 0) (g : ℕ) (first x : List ℕ) (i : X) → S g first i → IsPrefix S g x → IsPrefix S g (first ++ x)
prefix_behind S g first x i sp (xs, more, reads) = (i ∷ xs, more, (first, x ++ more, sp, append_assoc first x more, reads))

-- what a text of the form goes on with after an item is one too
reads_inside : {X : Type 0} (S : ℕ → List ℕ → X → Type 0) → IsSpelling S → (g : ℕ) (first x rest : List ℕ) (i : X) (qs : List X) → S g first i → Reads S g qs (first ++ x) rest → (xs : List X) × Reads S g xs x rest
reads_inside S s g first x rest i [] sp e = absurd (s.newline g first x rest i sp e)
reads_inside S s g first x rest i (q ∷ qs) sp (first', more', sp', e, reads) =
    (qs, subst (λ t. Spelled S g qs t (10 ∷ rest)) (sym (s.alone g g first first' x more' i q sp sp' e).1) reads)

prefix_inside : {X : Type 0} (S : ℕ → List ℕ → X → Type 0) → IsSpelling S → (g : ℕ) (first x : List ℕ) (i : X) → S g first i → IsPrefix S g (first ++ x) → IsPrefix S g x
prefix_inside S s g first x i sp (xs, more, reads) =
    let inside = reads_inside S s g first (x ++ more) [] i xs sp (subst (λ t. Reads S g xs t []) (append_assoc first x more) reads) in
    (inside.0, more, inside.1)

no_text_behind : {X : Type 0} (S : ℕ → List ℕ → X → Type 0) → IsSpelling S → (g : ℕ) (first x : List ℕ) (i : X) → S g first i → HasNoText S g x → HasNoText S g (first ++ x)
no_text_behind S s g first x i sp none xs rest reads = let inside = reads_inside S s g first x rest i xs sp reads in none inside.0 rest inside.1

take_behind : (first x : List ℕ) (p q : ℕ) → q ≡ length first + p → take q (first ++ x) ≡ first ++ take p x
take_behind first x p q e = ap (λ (n : ℕ). take n (first ++ x)) e ∙ take-append-add first x p

longest_behind : {X : Type 0} (S : ℕ → List ℕ → X → Type 0) → IsSpelling S → (g : ℕ) (first x : List ℕ) (p q : ℕ) (i : X) → S g first i → q ≡ length first + p → LongestPrefix S g x p → LongestPrefix S g (first ++ x) q
longest_behind S s g first x p q i sp e l = record {
  within = omega (arith, e, l.within, length-append first x);
  front = subst (IsPrefix S g) (sym (take_behind first x p q e)) (prefix_behind S g first (take p x) i sp l.front);
  longest = λ k h w front.
      let part : k ≡ length first + (k - length first) = omega (arith, e, h) in
      l.longest (k - length first) (omega (arith, e, h)) (omega (arith, e, h, w, length-append first x))
      (prefix_inside S s g first (take (k - length first) x) i sp (subst (IsPrefix S g) (take_behind first x (k - length first) k part) front));
}

byte_behind : (first x : List ℕ) (p q : ℕ) → q ≡ length first + p → get_or (first ++ x) q 0 ≡ get_or x p 0
byte_behind first x p q e = ap (λ (n : ℕ). get_or (first ++ x) n 0) e ∙ get_or-append-add first x p 0

lifts_behind : {X : Type 0} (S : ℕ → List ℕ → X → Type 0) → IsSpelling S → (g : ℕ) (first x : List ℕ) (p q : ℕ) (i : X) → S g first i → q ≡ length first + p → LiftsLength S g x p → LiftsLength S g (first ++ x) q
lifts_behind S s g first x p q i sp e (digit, (greater, le, front)) =
    let next : q + 1 ≡ length first + (p + 1) = omega (arith, e) in
    (omega (arith, digit, ap digit_value (byte_behind first x p q e)), (greater, le, subst (IsPrefix S greater) (sym (take_behind first x (p + 1) (q + 1) next)) (prefix_behind S greater first (take (p + 1) x) i (s.more g greater first i le sp) front)))

lifts_inside : {X : Type 0} (S : ℕ → List ℕ → X → Type 0) → IsSpelling S → (g : ℕ) (first x : List ℕ) (p q : ℕ) (i : X) → S g first i → q ≡ length first + p → LiftsLength S g (first ++ x) q → LiftsLength S g x p
lifts_inside S s g first x p q i sp e (digit, (greater, le, front)) =
    let next : q + 1 ≡ length first + (p + 1) = omega (arith, e) in
    (omega (arith, digit, ap digit_value (byte_behind first x p q e)), (greater, le, prefix_inside S s greater first (take (p + 1) x) i (s.more g greater first i le sp) (subst (IsPrefix S greater) (take_behind first x (p + 1) (q + 1) next) front)))

fault_behind_one : {X : Type 0} (S : ℕ → List ℕ → X → Type 0) → IsSpelling S → (g from to : ℕ) (first x : List ℕ) (i : X) (f : TextFault) → S g first i → to ≡ from + length first → HasFault S g to x f → HasFault S g from (first ++ x) f
fault_behind_one S s g from to first x i (Ended at) sp e (none, longest, place) =
    let all = length-append first x in
    (no_text_behind S s g first x i sp none, longest_behind S s g first x (length x) (length (first ++ x)) i sp all longest, omega (arith, e, place, all))
fault_behind_one S s g from to first x i (Large at) sp e (p, none, longest, within, lifts, place) =
    let q : ℕ = length first + p in
    (q, no_text_behind S s g first x i sp none, longest_behind S s g first x p q i sp refl longest, omega (arith, within, length-append first x), lifts_behind S s g first x p q i sp refl lifts, omega (arith, e, place))
fault_behind_one S s g from to first x i (Syntax at) sp e (p, none, longest, within, lifts, place) =
    let q : ℕ = length first + p in
    (q, no_text_behind S s g first x i sp none, longest_behind S s g first x p q i sp refl longest, omega (arith, within, length-append first x), (λ more. lifts (lifts_inside S s g first x p q i sp refl more)), omega (arith, e, place))
fault_behind_one S s g from to first x i Input sp e h = tt
fault_behind_one S s g from to first x i Endless sp e h = tt
fault_behind_one S s g from to first x i NoMemory sp e h = tt

-- the fault of what follows spelled items is that of the whole text
pub fault_behind : {X : Type 0} (S : ℕ → List ℕ → X → Type 0) → IsSpelling S → (g : ℕ) (xs : List X) (from to : ℕ) (t x : List ℕ) (f : TextFault) → Spelled S g xs t x → to + length x ≡ from + length t → HasFault S g to x f → HasFault S g from t f
fault_behind S s g [] from to t x f e long h =
    let same : to ≡ from = omega (arith, long, ap length e) in
    subst (λ (n : ℕ). HasFault S g n t f) same (subst (λ u. HasFault S g to u f) (sym e) h)
fault_behind S s g (i ∷ xs) from to t x f (first, more, sp, e, reads) long h =
    let all : length t ≡ length first + length more = ap length e ∙ length-append first more in
    let inside = fault_behind S s g xs (from + length first) to more x f reads (omega (arith, long, all)) h in
    subst (λ u. HasFault S g from u f) (sym e) (fault_behind_one S s g from (from + length first) first more i f sp refl inside)

-- ---- what was taken of a text

-- it is the spelling of these items
abbrev pub SoFar : {X : Type 0} → (ℕ → List ℕ → X → Type 0) → ℕ → (text rest : List ℕ) → ℕ → List X → Type 0
SoFar S g text rest taken xs = Spelled S g xs text rest × (taken + length rest ≡ length text)

pub so_far_both : {X : Type 0} (S : ℕ → List ℕ → X → Type 0) (g : ℕ) (t piece more : List ℕ) (from to : ℕ) (xs ys : List X) → SoFar S g t (piece ++ more) from xs → Spelled S g ys piece [] → to ≡ from + length piece → SoFar S g t more to (xs ++ ys)
so_far_both S g t piece more from to xs ys a spells counted =
    (spelled_both S g xs ys t piece more a.0 spells, omega (arith, a.1, counted, length-append piece more))

-- a fault of what is left is one of the whole, and these were all of its items
pub so_far_fault : {X : Type 0} (S : ℕ → List ℕ → X → Type 0) → IsSpelling S → (g : ℕ) (t m : List ℕ) (taken : ℕ) (xs : List X) (f : TextFault) → SoFar S g t m taken xs
    → HasFault S g taken m f → HasNoItem S g m → ((rest : List ℕ) × WholeItems S g t xs rest) × HasFault S g 0 t f
so_far_fault S s g t m taken xs f a b none =
    ((m, record { spelled = a.0; no_more = none }), fault_behind S s g xs 0 taken t m f a.0 (omega (arith, a.1)) b)

-- ---- a part that a reader gave before it failed

-- a part of a text ends early after these items, all that are whole there
pub record EndsBehind {X : Type 0} (S : ℕ → List ℕ → X → Type 0) (g : ℕ) (part : List ℕ) (xs : List X) (at : ℕ) : Type 0 where
  pub rest : List ℕ
  pub whole : WholeItems S g part xs rest
  pub has : HasFault S g 0 part (Ended at)

part_ends : {X : Type 0} (S : ℕ → List ℕ → X → Type 0) → IsSpelling S → (g from to k : ℕ) (t mid : List ℕ) (xs : List X) → Spelled S g xs t mid → from + length mid ≡ length t → to ≡ from + k → k ≤ length mid
    → HasFault S g from (take (to - from) mid) (Ended to) → HasNoItem S g (take (to - from) mid) → EndsBehind S g (take to t) xs to
part_ends S s g from to k t mid xs sp long e few has none =
    let f = prefix_of S g xs t mid sp in
    let place : from ≡ length f.front = omega (arith, long, ap length f.split, length-append f.front mid) in
    let part : to - from ≡ k = omega (arith, e) in
    let read : take to t ≡ f.front ++ take k mid =
    ap (λ (n : ℕ). take n t) (e ∙ ap (λ (n : ℕ). n + k) place) ∙ ap (take (length f.front + k)) f.split ∙ take-append-add f.front mid k in
    let spelled : Spelled S g xs (take to t) (take k mid) = subst (λ z. Spelled S g xs z (take k mid)) (sym read) (f.spelled (take k mid)) in
    let short : length (take k mid) ≡ k = length-take-le k mid few in
    let all : length (take to t) ≡ length f.front + k = ap length read ∙ length-append f.front (take k mid) ∙ ap (λ (n : ℕ). length f.front + n) short in
    let fault : HasFault S g from (take k mid) (Ended to) = subst (λ (n : ℕ). HasFault S g from (take n mid) (Ended to)) part has in
    let no_more : HasNoItem S g (take k mid) = subst (λ (n : ℕ). HasNoItem S g (take n mid)) part none in
    record {
      rest = take k mid;
      whole = record { spelled = spelled; no_more = no_more };
      has = fault_behind S s g xs 0 from (take to t) (take k mid) (Ended to) spelled (omega (arith, short, all, place)) fault;
    }

-- what was read of a text whose reader failed is no longer than the text, and ends early
pub so_far_part : {X : Type 0} (S : ℕ → List ℕ → X → Type 0) → IsSpelling S → (g : ℕ) (t m n bytes : List ℕ) (from to : ℕ) (xs : List X) → SoFar S g t m from xs → m ≡ bytes ++ n → to ≡ from + length bytes
    → StopsAmid S g from to m → (to ≤ length t) × EndsBehind S g (take to t) xs to
so_far_part S s g t m n bytes from to xs a split counted stops =
    let few : length bytes ≤ length m = omega (arith, ap length split, length-append bytes n) in
    (omega (arith, few, a.1, counted), part_ends S s g from to (length bytes) t m xs a.0 a.1 counted few stops.front stops.no_record)
