-- The records of a key, among those that do not go.
use Rattle.cdb_make.proofs.Words.{AreNone, Bool, FindsLast, IsFreshRecord, KeyValue, List, None, Option, Some, [], ap, arith, cases_lt, cond, count_of, false, false_from_ne_true, fresh, has_key, inl, inr, is_some, is_there, left, length, number, or_each, refl, suc, sum_by-cons, sym, true, zero, ℕ, ◌+◌, ◌<◌, ◌∙◌, ◌∷◌, ◌≡◌, ◌≤◌}
use Rattle.std.specs.Prelude.{◌||◌}

there_at : (key : List ℕ) (ms : List Bool) (rs : List KeyValue) (k : ℕ) → IsFreshRecord key ms rs k → is_there key (left ms rs) ≡ true
there_at key [] rs k is = absurd (let t : false ≡ true = is in cc)
there_at key (m ∷ ms) [] k is = absurd (let t : false ≡ true = is in cc)
there_at key (true ∷ ms) (r ∷ rs) zero is = absurd (let t : false ≡ true = is in cc)
there_at key (true ∷ ms) (r ∷ rs) (suc k) is = there_at key ms rs k is
there_at key (false ∷ ms) (r ∷ rs) zero is = ap (λ (v : Bool). v || is_there key (left ms rs)) is
there_at key (false ∷ ms) (r ∷ rs) (suc k) is = elim (has_key key r) as (λ v. (v || is_there key (left ms rs)) ≡ true) [ true ↦ refl | false ↦ there_at key ms rs k is ]

there_none : (key : List ℕ) (ms : List Bool) (rs : List KeyValue) → length ms ≡ length rs → ((k : ℕ) → IsFreshRecord key ms rs k → ⊥) → is_there key (left ms rs) ≡ false
there_none key [] [] e none = refl
there_none key [] (r ∷ rs) e none = absurd (omega arith)
there_none key (m ∷ ms) [] e none = absurd (omega arith)
there_none key (true ∷ ms) (r ∷ rs) e none = there_none key ms rs (omega arith) (λ k. none (suc k))
there_none key (false ∷ ms) (r ∷ rs) e none =
    let here : has_key key r ≡ false = false_from_ne_true (has_key key r) (λ t. none 0 t) in
    ap (λ (v : Bool). v || is_there key (left ms rs)) here ∙ there_none key ms rs (omega arith) (λ k. none (suc k))

fresh_past : (key : List ℕ) (ms : List Bool) (rs : List KeyValue) (k : ℕ) → length rs ≤ k → IsFreshRecord key ms rs k → ⊥
fresh_past key [] rs k le is = (let t : false ≡ true = is in cc)
fresh_past key (m ∷ ms) [] k le is = (let t : false ≡ true = is in cc)
fresh_past key (m ∷ ms) (r ∷ rs) zero le is = absurd (omega arith)
fresh_past key (m ∷ ms) (r ∷ rs) (suc k) le is = fresh_past key ms rs k (omega arith) is

-- true if a search for the last one has found one
pub last_there : (key : List ℕ) (ms : List Bool) (rs : List KeyValue) (end : ℕ) (last : Option ℕ) → length ms ≡ length rs → length rs ≤ end → FindsLast (IsFreshRecord key ms rs) end last → is_some last ≡ is_there key (left ms rs)
last_there key ms rs end (Some n) long all h = sym (there_at key ms rs n h.here)
last_there key ms rs end None long all h = sym (there_none key ms rs long (λ k is. elim (cases_lt k end) [
  | inl lt ↦ h k lt is
  | inr past ↦ fresh_past key ms rs k (omega arith) is
]))

-- how many have no mark yet
pub fresh_count : (key : List ℕ) (ms : List Bool) (rs : List KeyValue) → length ms ≡ length rs → number (fresh key ms rs) ≡ count_of key (left ms rs)
fresh_count key [] [] e = refl
fresh_count key [] (r ∷ rs) e = absurd (omega arith)
fresh_count key (m ∷ ms) [] e = absurd (omega arith)
fresh_count key (true ∷ ms) (r ∷ rs) e = (let h = fresh_count key ms rs (omega arith) in omega (arith, h))
fresh_count key (false ∷ ms) (r ∷ rs) e =
    let us : List KeyValue = left ms rs in
    let h : number (fresh key ms rs) ≡ count_of key us = fresh_count key ms rs (omega arith) in
    let s : count_of key (r ∷ us) ≡ cond (has_key key r) 1 0 + count_of key us = sum_by-cons (λ x. cond (has_key key x) 1 0) r us in
    ap (λ (n : ℕ). cond (has_key key r) 1 0 + n) h ∙ sym s

-- without one they are all
pub number_zero : (ms : List Bool) → number ms ≡ 0 → AreNone ms
number_zero [] e k = refl
number_zero (true ∷ ms) e k = absurd (omega arith)
number_zero (false ∷ ms) e zero = refl
number_zero (false ∷ ms) e (suc k) = number_zero ms (omega arith) k

pub or_none : (ms ns : List Bool) → length ms ≡ length ns → AreNone ns → or_each ms ns ≡ ms
or_none [] [] e none = refl
or_none [] (n ∷ ns) e none = absurd (omega arith)
or_none (m ∷ ms) [] e none = absurd (omega arith)
or_none (m ∷ ms) (true ∷ ns) e none = absurd (let t : true ≡ false = none 0 in cc)
or_none (m ∷ ms) (false ∷ ns) e none = ap (λ (v : List Bool). m ∷ v) (or_none ms ns (omega arith) (λ k. none (suc k)))

zero_if : (b : Bool) (n m : ℕ) → b ≡ false → n ≡ cond b 1 0 + m → n ≡ m
zero_if true n m e is = absurd (let t : true ≡ false = e in cc)
zero_if false n m e is = omega (arith, is)

pub some_there : (key : List ℕ) (rs : List KeyValue) → 0 < count_of key rs → is_there key rs ≡ true
some_there key [] lt = absurd (omega arith)
some_there key (r ∷ rs) lt =
    let s : count_of key (r ∷ rs) ≡ cond (has_key key r) 1 0 + count_of key rs = sum_by-cons (λ x. cond (has_key key x) 1 0) r rs in
    let f : (b : Bool) → has_key key r ≡ b → (has_key key r || is_there key rs) ≡ true = λ b. elim b as (λ b. has_key key r ≡ b → (has_key key r || is_there key rs) ≡ true) [
      | true ↦ λ e. ap (λ (v : Bool). v || is_there key rs) e
      | false ↦ λ e. ap (λ (v : Bool). v || is_there key rs) e ∙ some_there key rs (let c = zero_if (has_key key r) (count_of key (r ∷ rs)) (count_of key rs) e s in omega arith)
    ] in
    f (has_key key r) refl
