-- Records of a key, found and taken out.
use Rattle.cdb_make.proofs.Words.{marks_in, AreNone, Bool, Ghosts, IsErrAnd, KeyValue, List, MakeFault, Maker, Mark, Roll, Sees, [], ap, arith, behind, behind_first, cond, count_of, false, found_of, fresh, gone_of, has_key, inl, inr, is_gone, left, length, length-map, map, number, or_each, picked, record_size, refl, subst, suc, sum_by, sum_by-cons, sym, taken, true, without, ℕ, ◌+◌, ◌<◌, ◌∙◌, ◌∷◌, ◌≡◌, ◌≤◌}
use Rattle.std.specs.Prelude.{sum, Result, Ok, Err, IfErr, OnErr}
use Rattle.cdb_form.specs.declared.width.Width.{Ghosts as Widths}
use Rattle.cdb_store.specs.declared.make_fault.MakeFault.TheVariants.{Writing}
use Rattle.cdb_make.specs.Views.Maker.{gone_in, found_in, Holds, Seeks, TakesOut, Tears, Removes, FailsRemoving, Follows, HasStoreFailed, IsMarked}
use Rattle.cdb_make.proofs.Looking.{sees_long, sees_same, same_back}
use Rattle.cdb_make.proofs.Picking.{left_all_stay, sum-cons, gone_taken, picked_taken}
use Rattle.cdb_make.proofs.Rolls.{taken_out}
use Rattle.cdb_make.proofs.Survive.{fresh_count, number_zero, or_none, some_there}
use Rattle.cdb_make.proofs.Marking.{marks_long}

-- the numbers that stay after the first mark are among all that stay
pub behind_most : (ms : List Bool) (xs : List ℕ) → sum (behind ms xs) ≤ sum (left ms xs)
behind_most [] xs = omega arith
behind_most (m ∷ ms) [] = omega arith
behind_most (true ∷ ms) (x ∷ xs) = (let e : left (true ∷ ms) (x ∷ xs) ≡ left ms xs = refl in omega (arith, ap sum e))
behind_most (false ∷ ms) (x ∷ xs) = (let h : sum (behind ms xs) ≤ sum (left ms xs) = behind_most ms xs in let e : behind (false ∷ ms) (x ∷ xs) ≡ behind ms xs = refl in omega (arith, h, ap sum e, sum-cons x (left ms xs)))

pub left-sum_by : {A : Type 0} (f : A → ℕ) (ms : List Bool) (xs : List A) → sum (left ms (map f xs)) ≡ sum_by f (left ms xs)
left-sum_by f [] [] = refl
left-sum_by f [] (x ∷ xs) = omega (arith, left-sum_by f [] xs, sum-cons (f x) (map f xs), sum_by-cons f x xs)
left-sum_by f (m ∷ ms) [] = refl
left-sum_by f (true ∷ ms) (x ∷ xs) = left-sum_by f ms xs
left-sum_by f (false ∷ ms) (x ∷ xs) =
    let h : sum (left ms (map f xs)) ≡ sum_by f (left ms xs) = left-sum_by f ms xs in
    let g : sum (f x ∷ left ms (map f xs)) ≡ sum_by f (x ∷ left ms xs) = omega (arith, h, sum-cons (f x) (left ms (map f xs)), sum_by-cons f x (left ms xs)) in g

pub behind-sum_by : {A : Type 0} (f : A → ℕ) (ms : List Bool) (xs : List A) → sum (behind ms (map f xs)) ≡ sum_by f (behind ms xs)
behind-sum_by f [] [] = refl
behind-sum_by f [] (x ∷ xs) = refl
behind-sum_by f (m ∷ ms) [] = refl
behind-sum_by f (true ∷ ms) (x ∷ xs) = left-sum_by f ms xs
behind-sum_by f (false ∷ ms) (x ∷ xs) = behind-sum_by f ms xs

-- if no record had a mark, the records that move are those after the first of the key
pub moved_first : (k : List ℕ) (ms : List Bool) (rs : List KeyValue) → length ms ≡ length rs → AreNone ms → behind (or_each ms (fresh k ms rs)) rs ≡ behind_first (has_key k) rs
moved_first k [] [] e none = refl
moved_first k [] (r ∷ rs) e none = absurd (omega arith)
moved_first k (m ∷ ms) [] e none = absurd (omega arith)
moved_first k (true ∷ ms) (r ∷ rs) e none = absurd (let t : true ≡ false = none 0 in cc)
moved_first k (false ∷ ms) (r ∷ rs) e none =
    let long : length ms ≡ length rs = omega arith in
    let later : AreNone ms = λ i. none (suc i) in
    let t : left (or_each ms (fresh k ms rs)) rs ≡ without k rs = taken_out k ms rs long ∙ ap (without k) (left_all_stay ms rs long later) in
    elim (has_key k r) as (λ b. cond (cond b true false) (left (or_each ms (fresh k ms rs)) rs) (behind (or_each ms (fresh k ms rs)) rs) ≡ cond b (without k rs) (behind_first (has_key k) rs)) [ true ↦ t | false ↦ moved_first k ms rs long later ]

pub one_of : (b : Bool) (n m : ℕ) → b ≡ true → n ≡ cond b 1 0 + m → n ≡ 1 + m
one_of true n m e is = is
one_of false n m e is = absurd (let t : false ≡ true = e in cc)

pub rest_of : (b : Bool) (n m : ℕ) → b ≡ false → n ≡ cond b 1 0 + m → n ≡ m
rest_of true n m e is = absurd (let t : true ≡ false = e in cc)
rest_of false n m e is = omega (arith, is)

pub none_behind : (k : List ℕ) (rs : List KeyValue) → 0 ≡ count_of k rs → behind_first (has_key k) rs ≡ []
none_behind k [] e = refl
none_behind k (r ∷ rs) e =
    let s : count_of k (r ∷ rs) ≡ cond (has_key k r) 1 0 + count_of k rs = sum_by-cons (λ x. cond (has_key k x) 1 0) r rs in
    let f : (b : Bool) → has_key k r ≡ b → cond b (without k rs) (behind_first (has_key k) rs) ≡ [] = λ b. elim b as (λ b. has_key k r ≡ b → cond b (without k rs) (behind_first (has_key k) rs) ≡ []) [
      | true ↦ λ q. absurd (let c = one_of (has_key k r) (count_of k (r ∷ rs)) (count_of k rs) q s in omega arith)
      | false ↦ λ q. none_behind k rs (let c = rest_of (has_key k r) (count_of k (r ∷ rs)) (count_of k rs) q s in omega arith)
    ] in
    f (has_key k r) refl

-- the number of bytes that those have that go and those that were found
pub kept_picked : {L : Type 0} {l : Widths L} (m : Roll L l) (all : List KeyValue) (b : List ℕ) → Sees m all b → m.gone.size + m.found.size ≡ sum (picked (or_each (gone_of (marks_in m)) (found_of (marks_in m))) (map (record_size l.WORD) all))
kept_picked {l = l} m all b sees =
    let ms : List Mark = marks_in m in
    let ns : List ℕ = map (record_size l.WORD) all in
    let marks : gone_of (map taken ms) ≡ or_each (gone_of ms) (found_of ms) = gone_taken ms in
    let long : length ms ≡ length all = (marks_long m) ∙ sees_long m all b sees in
    let sums : sum (picked (gone_of (map taken ms)) ns) ≡ sum (picked (gone_of ms) ns) + sum (picked (found_of ms) ns) = picked_taken ms ns (long ∙ sym (length-map all (record_size l.WORD))) in
    omega (arith, m.picked.size ns sees.of, m.sought.size ns sees.of, sums, ap (λ (v : List Bool). sum (picked v ns)) marks)

-- what a look found in an image
pub record Sought {S L : Type 0} {s : Ghosts S} {l : Widths L} (j : Maker S L s l) (key : List ℕ) (n : ℕ) (rs : List KeyValue) (b : List ℕ) : Type 0 where
  pub all : List KeyValue
  pub sees : Sees j.roll all b
  pub held : rs ≡ left (gone_in j) all
  pub found : found_in j ≡ fresh key (gone_in j) all
  pub many : length (gone_in j) ≡ length all
  pub count : n ≡ count_of key rs
  pub rest : left (or_each (gone_in j) (found_in j)) all ≡ without key rs

pub sought : {S L : Type 0} {s : Ghosts S} {l : Widths L} (i j : Maker S L s l) (hash n : ℕ) (key : List ℕ) (rs : List KeyValue) (b : List ℕ) → Seeks i j hash key n → Holds i rs → s.image j.store b → Sought j key n rs b
sought i j hash n key rs b h holds is =
    let held = holds.each b (h.rests.reads.images b is) in
    let all : List KeyValue = held.all in
    let sees = sees_same i.roll j.roll all b h.rests.same held.sees in
    let m = j.roll in
    let many : length (gone_in j) ≡ length all = omega (arith, length-map (marks_in m) is_gone, (marks_long m), sees_long m all b sees) in
    let is_left : rs ≡ left (gone_in j) all = held.left ∙ ap (λ (v : List Bool). left v all) (sym h.rests.gone) in
    let found : found_in j ≡ fresh key (gone_in j) all = h.looks.each b is all sees in
    record {
      all = all;
      sees = sees;
      held = is_left;
      found = found;
      many = many;
      count = h.count ∙ m.sought.count ∙ ap number found ∙ fresh_count key (gone_in j) all many ∙ ap (count_of key) (sym is_left);
      rest = ap (λ (v : List Bool). left (or_each (gone_in j) v) all) found ∙ taken_out key (gone_in j) all many ∙ ap (without key) (sym is_left);
    }

-- none was found
pub removes_none : {S L : Type 0} {s : Ghosts S} {l : Widths L} (i j : Maker S L s l) (hash n : ℕ) (key : List ℕ) → n ≡ 0 → Seeks i j hash key n → Removes i j key 0
removes_none {s = s} {l = l} i j hash n key nil h = record {
  was = h.rests.was;
  whole = h.rests.whole;
  holds = λ rs holds. record {
    whole = h.rests.whole;
    each = λ b is.
        let q = sought i j hash n key rs b h holds is in
        let none : AreNone (found_in j) = number_zero (found_in j) (sym j.roll.sought.count ∙ sym h.count ∙ nil) in
        let long : length (gone_in j) ≡ length (found_in j) = omega (arith, length-map (marks_in j.roll) is_gone, length-map (marks_in j.roll) Rattle.cdb_make.specs.Spans.is_found) in
        record { all = q.all; sees = q.sees; left = sym q.rest ∙ ap (λ (v : List Bool). left v q.all) (or_none (gone_in j) (found_in j) long none) };
  };
  answer = λ rs holds. record { each = λ b is. sym nil ∙ (sought i j hash n key rs b h holds is).count };
  written = λ eager rs holds. record {
    each = λ b is.
        let none : behind_first (has_key key) rs ≡ [] = none_behind key rs (sym nil ∙ (sought i j hash n key rs b h holds is).count) in
        let z : sum_by (record_size l.WORD) (behind_first (has_key key) rs) ≡ 0 = ap (sum_by (record_size l.WORD)) none in
        omega (arith, h.rests.reads.written, z);
  };
  pays = λ lazy rs holds. record { each = λ b is. omega (arith, h.rests.reads.written, h.rests.same.end) };
  writes = λ rs holds. record {
    each = λ b is.
        let a = h.rests.reads.images b is in
        let held = holds.each b a in
        record { image = b; was = a; all = held.all; sees = held.sees; held = held.left; wrote = inl (omega (arith, h.rests.reads.written)) };
  };
}

-- those that were found were taken out
pub removes_some : {S L : Type 0} {s : Ghosts S} {l : Widths L} (i j k : Maker S L s l) (hash n : ℕ) (key : List ℕ) → Seeks i j hash key n → TakesOut j k → Removes i k key n
removes_some {s = s} {l = l} i j k hash n key h t = record {
  was = h.rests.was;
  whole = t.whole;
  holds = λ rs holds. record {
    whole = t.whole;
    each = λ b is.
        let g = t.goes.each b is in
        let q = sought i j hash n key rs g.0 h holds g.1 in
        let r = g.2 q.all q.sees in
        record { all = r.0; sees = r.1; left = sym q.rest ∙ sym r.2.0 };
  };
  answer = λ rs holds. record { each = λ b is. (let g = t.goes.each b is in (sought i j hash n key rs g.0 h holds g.1).count) };
  written = λ eager rs holds. record {
    each = λ b is.
        let g = t.goes.each b is in
        let q = sought i j hash n key rs g.0 h holds g.1 in
        let r = g.2 q.all q.sees in
        let none : AreNone (gone_in j) = subst AreNone (sym h.rests.gone) (i.eager eager h.rests.was) in
        let same : rs ≡ q.all = q.held ∙ left_all_stay (gone_in j) q.all q.many none in
        let marks : or_each (gone_in j) (found_in j) ≡ or_each (gone_in j) (fresh key (gone_in j) q.all) = ap (or_each (gone_in j)) q.found in
        let moved : sum (behind (or_each (gone_in j) (found_in j)) (map (record_size l.WORD) q.all)) ≡ sum_by (record_size l.WORD) (behind_first (has_key key) rs) =
        behind-sum_by (record_size l.WORD) (or_each (gone_in j) (found_in j)) q.all ∙ ap (λ (v : List Bool). sum_by (record_size l.WORD) (behind v q.all)) marks
        ∙ ap (sum_by (record_size l.WORD)) (moved_first key (gone_in j) q.all q.many none) ∙ ap (λ (v : List KeyValue). sum_by (record_size l.WORD) (behind_first (has_key key) v)) (sym same) in
        omega (arith, r.2.1 (h.rests.lazy ∙ eager), moved, h.rests.reads.written);
  };
  pays = λ lazy rs holds. record {
    each = λ b is.
        let g = t.goes.each b is in
        let q = sought i j hash n key rs g.0 h holds g.1 in
        let r = g.2 q.all q.sees in
        omega (arith, r.2.2 (h.rests.lazy ∙ lazy), h.rests.reads.written, h.rests.same.end);
  };
  writes = λ rs holds. record {
    each = λ b is.
        let g = t.goes.each b is in
        let q = sought i j hash n key rs g.0 h holds g.1 in
        let r = g.2 q.all q.sees in
        let marks : or_each (gone_in j) (found_in j) ≡ or_each (gone_in i) (fresh key (gone_in i) q.all) = ap (or_each (gone_in j)) q.found ∙ ap (λ (v : List Bool). or_each v (fresh key v q.all)) h.rests.gone in
        let moved : sum (behind (or_each (gone_in j) (found_in j)) (map (record_size l.WORD) q.all)) ≡ sum (behind (or_each (gone_in i) (fresh key (gone_in i) q.all)) (map (record_size l.WORD) q.all)) = ap (λ (v : List Bool). sum (behind v (map (record_size l.WORD) q.all))) marks in
        let taken : j.roll.gone.size + j.roll.found.size ≡ sum (picked (or_each (gone_in i) (fresh key (gone_in i) q.all)) (map (record_size l.WORD) q.all)) = kept_picked j.roll q.all g.0 q.sees ∙ ap (λ (v : List Bool). sum (picked v (map (record_size l.WORD) q.all))) marks in
        record {
          image = g.0;
          was = h.rests.reads.images g.0 g.1;
          all = q.all;
          sees = sees_same j.roll i.roll q.all g.0 (same_back i.roll j.roll h.rests.same) q.sees;
          held = q.held ∙ ap (λ (v : List Bool). left v q.all) h.rests.gone;
          wrote = elim r.2.3 [ inl none ↦ inl (omega (arith, none, h.rests.reads.written)) | inr pass ↦ inr (omega (arith, pass.0, moved, h.rests.reads.written), λ lazy. inl (let due = pass.1 (h.rests.lazy ∙ lazy) in omega (arith, due, taken, h.rests.same.end))) ];
        };
  };
}

pub remove_fails : {S L : Type 0} {s : Ghosts S} {l : Widths L} (i j k : Maker S L s l) (hash n : ℕ) (key : List ℕ) (result : Result ℕ MakeFault) (f : MakeFault) → 0 < n → Seeks i j hash key n → Follows j k → Tears j k f → IsErrAnd result (λ v. v ≡ f) → IfErr result (FailsRemoving i k key)
remove_fails i j k hash n key (Ok x) f some h follows t e = tt
remove_fails i j k hash n key (Err v) f some h follows t e = subst (FailsRemoving i k key) (sym (e ∙ t.is)) (record {
  was = h.rests.was;
  broken = t.broken;
  failed = omega (arith, t.failed, h.rests.reads.failures);
  found = λ rs holds. record { each = λ b is. (let a = follows.comes.each b is in let q = sought i j hash n key rs a.0 h holds a.1 in some_there key rs (omega (arith, some, q.count))) };
  later = record { read = j.store; reads = h.rests.reads; fine = h.fine; answer = n; known = λ rs holds. record { each = λ b is. (sought i j hash n key rs b h holds is).count }; later = t.failed };
  begun = t.marked;
})

-- a pass that failed leaves the marks
pub tears_by : {S L T : Type 0} {s : Ghosts S} {l : Widths L} (i j : Maker S L s l) (r : Result T MakeFault) → IfErr r (λ f. f ≡ Writing) → OnErr r (j.broken ≡ true) → OnErr r (HasStoreFailed i j) → OnErr r (IsMarked j) → IfErr r (Tears i j)
tears_by i j (Ok v) fault torn failed marked = tt
tears_by i j (Err f) fault torn failed marked = record { is = fault; broken = torn; failed = failed; marked = marked }
