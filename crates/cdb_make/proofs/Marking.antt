-- Marks of records, one by one.
use Rattle.cdb_make.proofs.Words.{length-take, take, Roll, marks_in, all_marks, append-nil, append_assoc, length-append, length-replicate, length_push, replicate, suc, [], ◌∷◌, ◌++◌, AreChained, Bool, HaveHash, IsIn, IsLast, IsTakenFrom, List, Mark, ap, arith, bucket_of, cases_eq, cases_lt, ext_get_or, false, found_of, get_or, gone_of, inl, inr, is_found, is_gone, length, length-map, map, refl, slice_index, subst, sym, taken, true, ℕ, ◌+◌, ◌-◌, ◌<◌, ◌∙◌, ◌≡◌, ◌≢◌, ◌≤◌}
use Rattle.std.proofs.Math.ListN.{get_or-map}
use Rattle.std.proofs.lemmas.List.{get_or-take, get_or-append_right, get_or-replicate, get_or_append_left, replicate_more}
use Rattle.cdb_form.specs.declared.width.Width.{Ghosts as Widths}
use Rattle.cdb_make.specs.declared.mark.Mark.TheVariants.{Stays, Found, Gone}

pub gone_or : (ms : List Mark) (k : ℕ) → get_or (gone_of ms) k true ≡ is_gone (get_or ms k Gone)
gone_or ms k = get_or-map is_gone ms k Gone

pub found_or : (ms : List Mark) (k : ℕ) → get_or (found_of ms) k false ≡ is_found (get_or ms k Gone)
found_or ms k = get_or-map is_found ms k Gone

-- ---- marks of all records

pub all_long : (n : ℕ) (ms : List Mark) → length ms ≤ n → length (all_marks n ms) ≡ n
all_long n ms few = omega (arith, length-append ms (replicate (n - length ms) Stays), length-replicate (n - length ms) Stays)

pub all_full : (n : ℕ) (ms : List Mark) → length ms ≡ n → all_marks n ms ≡ ms
all_full n ms full =
    let none : n - length ms ≡ 0 = omega (arith, full) in
    ap (λ (k : ℕ). ms ++ replicate k Stays) none ∙ append-nil ms

pub all_again : (n : ℕ) (ms : List Mark) → length ms ≤ n → all_marks n (all_marks n ms) ≡ all_marks n ms
all_again n ms few = all_full n (all_marks n ms) (all_long n ms few)

pub all_more : (n : ℕ) (ms : List Mark) → length ms ≤ n → all_marks (n + 1) ms ≡ all_marks n ms ++ Stays ∷ []
all_more n ms few =
    let k : ℕ = n - length ms in
    let one : n + 1 - length ms ≡ k + 1 = omega (arith, few) in
    ap (λ (j : ℕ). ms ++ replicate j Stays) one ∙ ap (λ v. ms ++ v) (sym (replicate_more k Stays)) ∙ sym (append_assoc ms (replicate k Stays) (Stays ∷ []))

pub all_step : (n : ℕ) (ms ms₁ : List Mark) → ms₁ ≡ ms ++ Stays ∷ [] → length ms < n → all_marks n ms₁ ≡ all_marks n ms
all_step n ms ms₁ is few =
    let k : ℕ = n - length ms₁ in
    let long : length ms₁ ≡ length ms + 1 = ap length is ∙ length_push ms Stays in
    let one : n - length ms ≡ suc k = omega (arith, long, few) in
    ap (λ v. v ++ replicate k Stays) is ∙ append_assoc ms (Stays ∷ []) (replicate k Stays) ∙ ap (λ (j : ℕ). ms ++ replicate j Stays) (sym one)

-- whether one of them goes
pub gone_all : (n : ℕ) (ms : List Mark) (k : ℕ) → k < length ms → get_or (gone_of (all_marks n ms)) k true ≡ get_or (gone_of ms) k true
gone_all n ms k lt = gone_or (all_marks n ms) k ∙ ap is_gone (get_or_append_left ms (replicate (n - length ms) Stays) Gone k lt) ∙ sym (gone_or ms k)

pub gone_past : (n : ℕ) (ms : List Mark) (k : ℕ) → length ms ≤ k → k < n → get_or (gone_of (all_marks n ms)) k true ≡ false
gone_past n ms k past lt =
    let rest : List Mark = replicate (n - length ms) Stays in
    gone_or (all_marks n ms) k ∙ ap is_gone (get_or-append_right ms rest (length ms) k Gone refl past ∙ get_or-replicate (n - length ms) (k - length ms) Stays Gone (omega arith))

-- all of them, of which the first so many stay and the others have none
pub all_stay : (n first : ℕ) (ms : List Mark) → ((k : ℕ) → k < first → get_or ms k Gone ≡ Stays) → (k : ℕ) → first ≤ n → k < n → get_or (all_marks n (take first ms)) k Gone ≡ Stays
all_stay n first ms stay k low lt =
    let cut : List Mark = take first ms in
    let rest : List Mark = replicate (n - length cut) Stays in
    elim (cases_lt k (length cut)) [
      | inl here ↦
          let before : k < first = omega (arith, here, length-take first ms) in
          get_or_append_left cut rest Gone k here ∙ get_or-take first ms k Gone before ∙ stay k before
      | inr past ↦ get_or-append_right cut rest (length cut) k Gone refl past ∙ get_or-replicate (n - length cut) (k - length cut) Stays Gone (omega arith)
    ]

-- as many as there are records
pub marks_long : {L : Type 0} {l : Widths L} (m : Roll L l) → length (marks_in m) ≡ length m.hashes.items
marks_long m = all_long (length m.hashes.items) m.marks.items m.marked

pub marks_full : {L : Type 0} {l : Widths L} (m : Roll L l) → length m.marks.items ≡ length m.hashes.items → marks_in m ≡ m.marks.items
marks_full m full = all_full (length m.hashes.items) m.marks.items full

-- ---- one by one

found_left : (m : Mark) → is_found m ≡ true → is_gone m ≡ false
found_left Stays e = refl
found_left Found e = refl
found_left Gone e = absurd (let t : false ≡ true = e in cc)

pub taken_same : (m : Mark) → is_found m ≡ false → taken m ≡ m
taken_same Stays e = refl
taken_same Found e = absurd (let t : true ≡ false = e in cc)
taken_same Gone e = refl

pub taken_found : (m : Mark) → is_found m ≡ true → Gone ≡ taken m
taken_found Stays e = absurd (let t : false ≡ true = e in cc)
taken_found Found e = refl
taken_found Gone e = refl

-- an entry that was found and is in no chain
pub free_of : (count b hash : ℕ) (hs : List ℕ) (old ms : List Mark) (end at : ℕ) → b ≡ bucket_of count hash → HaveHash hash hs old → ((k : ℕ) → at ≤ k → k < end → get_or ms k Gone ≡ get_or old k Gone)
    → IsLast (IsIn count b hs (gone_of ms)) end at → (k : ℕ) → at ≤ k → k < end → taken (get_or old k Gone) ≡ get_or old k Gone
free_of count b hash hs old ms end at is have same last k low high =
    let m : Mark = get_or old k Gone in
    let f : (v : Bool) → is_found m ≡ v → taken m ≡ m = λ v. elim v as (λ v. is_found m ≡ v → taken m ≡ m) [
      | true ↦ λ e. absurd (last.none k low high (record {
        bucket = ap (bucket_of count) (have.each k (found_or old k ∙ e)) ∙ sym is;
        stays = gone_or ms k ∙ ap is_gone (same k low high) ∙ found_left m e;
      }))
      | false ↦ λ e. taken_same m e
    ] in
    f (is_found m) refl

pub taken_none : (old : List Mark) (at long : ℕ) → ((k : ℕ) → at ≤ k → k < long → taken (get_or old k Gone) ≡ get_or old k Gone) → IsTakenFrom at long old old
taken_none old at long free = record { within = λ k low high. sym (free k low high); before = λ k lt. refl; behind = λ k le. refl }

pub taken_step : (old ms ms₁ : List Mark) (entry older long : ℕ) → older ≤ entry → entry < long → ((k : ℕ) → k ≢ entry → get_or ms₁ k Gone ≡ get_or ms k Gone) → get_or ms₁ entry Gone ≡ taken (get_or ms entry Gone)
    → ((k : ℕ) → older ≤ k → k < entry → taken (get_or old k Gone) ≡ get_or old k Gone) → IsTakenFrom (entry + 1) long old ms → IsTakenFrom older long old ms₁
taken_step old ms ms₁ entry older long low in_long same here free h = record {
  within = λ k from high. elim (cases_eq k entry) [
    | inl e ↦ ap (λ (n : ℕ). get_or ms₁ n Gone) e ∙ here ∙ ap taken (h.before entry (omega arith)) ∙ ap (λ (n : ℕ). taken (get_or old n Gone)) (sym e)
    | inr apart ↦ same k apart ∙ elim (cases_lt k entry) [
      | inl below ↦ h.before k (omega arith) ∙ sym (free k from below)
      | inr over ↦ h.within k (omega arith) high
    ]
  ];
  before = λ k lt. same k (λ e. omega arith) ∙ h.before k (omega arith);
  behind = λ k le. same k (λ e. omega arith) ∙ h.behind k le;
}

-- the first of them, and then the others
pub taken_all : (old ms new : List Mark) (from : ℕ) → length new ≡ length ms → length ms ≡ length old → IsTakenFrom 0 from old ms → IsTakenFrom from (length ms) ms new → new ≡ map taken old
taken_all old ms new from long long₁ first rest = ext_get_or Gone new (map taken old) (long ∙ long₁ ∙ sym (length-map old taken)) (λ k lt.
    elim (cases_lt k from) [
      | inl below ↦ rest.before k below ∙ first.within k (omega arith) below
      | inr over ↦ rest.within k (omega arith) (omega arith) ∙ ap taken (first.behind k (omega arith))
    ] ∙ sym (get_or-map taken old k Gone))

-- the entry before the one before `at` in its bucket, and what is marked from there on
pub onward : (heads before hs : List ℕ) (old ms : List Mark) (hash at long older : ℕ) → AreChained heads before hs (gone_of ms) → HaveHash hash hs old → IsTakenFrom at long old ms → 0 < at → at ≤ length before
    → IsIn (length heads) (bucket_of (length heads) hash) hs (gone_of ms) (at - 1) → older ≡ slice_index before (at - 1)
    → IsLast (IsIn (length heads) (bucket_of (length heads) hash) hs (gone_of ms)) (at - 1) older × ((k : ℕ) → older ≤ k → k < at - 1 → taken (get_or old k Gone) ≡ get_or old k Gone)
onward heads before hs old ms hash at long older chained have h some within here is =
    let n : ℕ = at - 1 in
    let count : ℕ = length heads in
    let b : ℕ = bucket_of count hash in
    let lt : n < length before = omega arith in
    let step : IsLast (IsIn count b hs (gone_of ms)) n older =
    subst (λ (m : ℕ). IsLast (IsIn count m hs (gone_of ms)) n older) here.bucket
    (subst (λ (m : ℕ). IsLast (IsIn count (bucket_of count (slice_index hs n)) hs (gone_of ms)) n m) (sym is) (chained.steps n lt here.stays)) in
    (step, free_of count b hash hs old ms n older refl have (λ k low high. h.before k (omega arith)) step)
