-- How the items of the forms are spelled.
use Rattle.cdb_form.proofs.Words.{Change, KeyValue, List, Putting, Removing, Spells, SpellsChange, SpellsRemoval, ap, append_assoc, arith, digits_value, length, lit≤, sym, ℕ, ◌++◌, ◌∙◌, ◌∷◌, ◌≡◌, ◌≤◌}
use Rattle.cdb_form.proofs.NativeTexts.Grammar.{same_digits, same_prefixes}

-- What the laws of a form rest on: no spelling begins with a newline, a greater bound spells no
-- less, and no spelling begins another, whatever the bounds.
pub record IsSpelling {X : Type 0} (S : ℕ → List ℕ → X → Type 0) : Type 0 where
  pub newline : (g : ℕ) (first x y : List ℕ) (i : X) → S g first i → first ++ x ≡ 10 ∷ y → ⊥
  pub more : (g g' : ℕ) (t : List ℕ) (i : X) → g ≤ g' → S g t i → S g' t i
  pub alone : (g h : ℕ) (a b x y : List ℕ) (i j : X) → S g a i → S h b j → a ++ x ≡ b ++ y → (i ≡ j) × (x ≡ y)

tails : (x y : ℕ) (s t : List ℕ) → x ∷ s ≡ y ∷ t → s ≡ t
tails x y s t e = cc

heads : (x y : ℕ) (s t : List ℕ) → x ∷ s ≡ y ∷ t → x ≡ y
heads x y s t e = cc

-- ---- records

pub first_of_spelled : (g : ℕ) (first more : List ℕ) (r : KeyValue) → (sp : Spells g first r) → first ++ more ≡ 43 ∷ (sp.klen ++ 44 ∷ (sp.vlen ++ 58 ∷ (r.key ++ 45 ∷ 62 ∷ (r.value ++ 10 ∷ more))))
first_of_spelled g first more r sp = ap (λ x. x ++ more) sp.text_is ∙ simp append_assoc

-- each begins with a plus
pub head_of_spelled : (g c : ℕ) (first x y : List ℕ) (r : KeyValue) → Spells g first r → first ++ x ≡ c ∷ y → c ≡ 43
head_of_spelled g c first x y r sp e = heads _ _ _ _ (sym e ∙ first_of_spelled g first x r sp)

same_record : (r q : KeyValue) → r.key ≡ q.key → r.value ≡ q.value → r ≡ q
same_record r q k v = ap (λ x. let p : KeyValue = record { key = x; value = r.value } in p) k ∙ ap (λ x. let p : KeyValue = record { key = q.key; value = x } in p) v

same_first : (g h : ℕ) (a b x y : List ℕ) (r q : KeyValue) → Spells g a r → Spells h b q → a ++ x ≡ b ++ y → (r ≡ q) × (x ≡ y)
same_first g h a b x y r q sa sb e =
    let whole = tails _ _ _ _ (sym (first_of_spelled g a x r sa) ∙ e ∙ first_of_spelled h b y q sb) in
    let k = same_digits sa.klen sb.klen _ _ 44 44 sa.klen_is.each sb.klen_is.each (lit≤ tt) (lit≤ tt) whole in
    let v = same_digits sa.vlen sb.vlen _ _ 58 58 sa.vlen_is.each sb.vlen_is.each (lit≤ tt) (lit≤ tt) k.2 in
    let key_long : length r.key ≡ length q.key = sym sa.klen_is.value ∙ ap (digits_value 10) k.0 ∙ sb.klen_is.value in
    let value_long : length r.value ≡ length q.value = sym sa.vlen_is.value ∙ ap (digits_value 10) v.0 ∙ sb.vlen_is.value in
    let keys = same_prefixes r.key q.key _ _ key_long v.2 in
    let values = same_prefixes r.value q.value _ _ value_long (tails _ _ _ _ (tails _ _ _ _ keys.1)) in
    (same_record r q keys.0 values.0, tails _ _ _ _ values.1)

spells_more : (g g' : ℕ) (t : List ℕ) (r : KeyValue) → g ≤ g' → Spells g t r → Spells g' t r
spells_more g g' t r h sp = record {
  klen = sp.klen;
  vlen = sp.vlen;
  klen_is = sp.klen_is;
  vlen_is = sp.vlen_is;
  key_fits = omega (arith, h, sp.key_fits);
  value_fits = omega (arith, h, sp.value_fits);
  bytes = sp.bytes;
  text_is = sp.text_is;
}

no_newline : (g : ℕ) (first x y : List ℕ) (r : KeyValue) → Spells g first r → first ++ x ≡ 10 ∷ y → ⊥
no_newline g first x y r sp e = let h = head_of_spelled g 10 first x y r sp e in omega (arith, h)

pub records : IsSpelling Spells
records = record { newline = no_newline; more = spells_more; alone = same_first }

-- ---- removals

pub first_of_removal : (g : ℕ) (first more key : List ℕ) → (sp : SpellsRemoval g first key) → first ++ more ≡ 45 ∷ (sp.klen ++ 58 ∷ (key ++ 10 ∷ more))
first_of_removal g first more key sp = ap (λ x. x ++ more) sp.text_is ∙ simp append_assoc

-- each begins with a minus
pub head_of_removal : (g c : ℕ) (first x y key : List ℕ) → SpellsRemoval g first key → first ++ x ≡ c ∷ y → c ≡ 45
head_of_removal g c first x y key sp e = heads _ _ _ _ (sym e ∙ first_of_removal g first x key sp)

same_removal : (g h : ℕ) (a b x y k q : List ℕ) → SpellsRemoval g a k → SpellsRemoval h b q → a ++ x ≡ b ++ y → (k ≡ q) × (x ≡ y)
same_removal g h a b x y k q sa sb e =
    let whole = tails _ _ _ _ (sym (first_of_removal g a x k sa) ∙ e ∙ first_of_removal h b y q sb) in
    let n = same_digits sa.klen sb.klen _ _ 58 58 sa.klen_is.each sb.klen_is.each (lit≤ tt) (lit≤ tt) whole in
    let long : length k ≡ length q = sym sa.klen_is.value ∙ ap (digits_value 10) n.0 ∙ sb.klen_is.value in
    let keys = same_prefixes k q _ _ long n.2 in
    (keys.0, tails _ _ _ _ keys.1)

-- ---- changes

change_more : (g g' : ℕ) (t : List ℕ) (i : Change) → g ≤ g' → SpellsChange g t i → SpellsChange g' t i
change_more g g' t (Putting r) h sp = spells_more g g' t r h sp
change_more g g' t (Removing key) h sp = record {
  klen = sp.klen;
  klen_is = sp.klen_is;
  key_fits = omega (arith, h, sp.key_fits);
  bytes = sp.bytes;
  text_is = sp.text_is;
}

-- each begins with a plus or a minus
pub no_change : (g c : ℕ) (first x y : List ℕ) (i : Change) → (c ≡ 43 → ⊥) → (c ≡ 45 → ⊥) → SpellsChange g first i → first ++ x ≡ c ∷ y → ⊥
no_change g c first x y (Putting r) plus minus sp e = plus (head_of_spelled g c first x y r sp e)
no_change g c first x y (Removing key) plus minus sp e = minus (head_of_removal g c first x y key sp e)

same_change : (g h : ℕ) (a b x y : List ℕ) (i j : Change) → SpellsChange g a i → SpellsChange h b j → a ++ x ≡ b ++ y → (i ≡ j) × (x ≡ y)
same_change g h a b x y (Putting r) (Putting q) sa sb e = let s = same_first g h a b x y r q sa sb e in (ap Putting s.0, s.1)
same_change g h a b x y (Putting r) (Removing k) sa sb e =
    let n = head_of_removal h 43 b y _ k sb (sym e ∙ first_of_spelled g a x r sa) in
    absurd (let no : ⊥ = omega (arith, n) in no)
same_change g h a b x y (Removing k) (Putting q) sa sb e =
    let n = head_of_removal g 43 a x _ k sa (e ∙ first_of_spelled h b y q sb) in
    absurd (let no : ⊥ = omega (arith, n) in no)
same_change g h a b x y (Removing k) (Removing q) sa sb e = let s = same_removal g h a b x y k q sa sb e in (ap Removing s.0, s.1)

pub changes : IsSpelling SpellsChange
changes = record {
  newline = λ g first x y i. no_change g 10 first x y i (λ e. omega (arith, e)) (λ e. omega (arith, e));
  more = change_more;
  alone = same_change;
}
