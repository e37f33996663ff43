-- List texts: how a key is spelled, where its spelling stops, and what a reader answered.
use Rattle.std.proofs.Common.{◌≡◌, ◌≢◌, ℕ, ◌≤◌, ◌+◌, List, [], ◌∷◌, ◌++◌, length, refl, sym, ap, subst, ◌∙◌, arith, append_assoc, lit≤, codes}
use Rattle.cdb_form.proofs.Words.{AreBytes, Consumes, FailsIn, FailsItem, Feed, FromTo, IsAtEnd, IsNumeral, Keeps, Leaves, ListReader, ReadsBehind, SpellsKey, SpellsRemoval, TextFault, digits_value, seen, told}
use Rattle.cdb_form.specs.Views.ListReader.{Fails}
use Rattle.cdb_form.specs.Views.ListReader.{HasFailed}
use Rattle.cdb_form.specs.declared.text.fault.TextFault.TheVariants.{Syntax, Ended}
use Rattle.cdb_form.proofs.Fed.FeedLemmas.{from_all, from_taken}
use Rattle.cdb_form.proofs.NativeTexts.Grammar.{same_digits, same_prefixes}
use Rattle.cdb_form.proofs.NativeTexts.Spelling.{IsSpelling}
use Rattle.cdb_form.proofs.NativeTexts.Stops.{Form, Any, BehindMinus, Starts, StopsAt, IsMark, from_cases, behind_tail, OneRest, prefix_any, prefix_form, item_fails, item_stops, ended_item, syntax_item, met}
use Rattle.cdb_form.proofs.Sources.SourceLemmas.{removal_behind}

-- ---- how a key is spelled

heads : (x y : ℕ) (s t : List ℕ) → x ∷ s ≡ y ∷ t → x ≡ y
heads x y s t e = cc

first_of_key : (g : ℕ) (first more key : List ℕ) → (sp : SpellsKey g first key) → first ++ more ≡ 43 ∷ (sp.klen ++ 58 ∷ (key ++ 10 ∷ more))
first_of_key g first more key sp = ap (λ x. x ++ more) sp.text_is ∙ simp append_assoc

-- each begins with a plus
head_of_key : (g c : ℕ) (first x y key : List ℕ) → SpellsKey g first key → first ++ x ≡ c ∷ y → c ≡ 43
head_of_key g c first x y key sp e = heads _ _ _ _ (sym e ∙ first_of_key g first x key sp)

same_key : (g h : ℕ) (a b x y k q : List ℕ) → SpellsKey g a k → SpellsKey h b q → a ++ x ≡ b ++ y → (k ≡ q) × (x ≡ y)
same_key g h a b x y k q sa sb e =
    let whole = behind_tail _ _ _ _ (sym (first_of_key g a x k sa) ∙ e ∙ first_of_key h b y q sb) in
    let n = same_digits sa.klen sb.klen _ _ 58 58 sa.klen_is.each sb.klen_is.each (lit≤ tt) (lit≤ tt) whole in
    let long : length k ≡ length q = sym sa.klen_is.value ∙ ap (digits_value 10) n.0 ∙ sb.klen_is.value in
    let keys = same_prefixes k q _ _ long n.2 in
    (keys.0, behind_tail _ _ _ _ keys.1)

key_more : (g g' : ℕ) (t key : List ℕ) → g ≤ g' → SpellsKey g t key → SpellsKey g' t key
key_more g g' t key h sp = record {
  klen = sp.klen;
  klen_is = sp.klen_is;
  key_fits = omega (arith, h, sp.key_fits);
  bytes = sp.bytes;
  text_is = sp.text_is;
}

pub keys : IsSpelling SpellsKey
keys = record {
  newline = λ g first x y key sp e. let n = head_of_key g 10 first x y key sp e in omega (arith, n);
  more = key_more;
  alone = same_key;
}

-- ---- where it stops after its plus

-- what follows the plus of a key spells it, and then F
plus_key : (F : ℕ → List ℕ → Type 0) (g : ℕ) (t : List ℕ) → BehindMinus F g t → (key first more : List ℕ) × SpellsKey g first key × (43 ∷ t ≡ first ++ more) × F g more
plus_key F g t (a, m₁, k, ia, la, e₁, (key, m₂, lk, bk, e₂, (m₃, e₃, f))) =
    let whole : t ≡ a ++ 58 ∷ (key ++ 10 ∷ m₃) = e₁ ∙ ap (λ x. a ++ 58 ∷ x) (e₂ ∙ ap (λ x. key ++ x) e₃) in (
      key,
      43 ∷ (a ++ 58 ∷ (key ++ 10 ∷ [])),
      m₃,
      record { klen = a; klen_is = subst (IsNumeral a) (sym lk) ia; key_fits = omega arith; bytes = bk; text_is = simp append_assoc refl },
      ap (λ x. 43 ∷ x) whole ∙ simp append_assoc,
      f,
    )

-- and the reverse
behind_key : (F : ℕ → List ℕ → Type 0) (g : ℕ) (t first more key : List ℕ) → SpellsKey g first key → 43 ∷ t ≡ first ++ more → F g more → BehindMinus F g t
behind_key F g t first more key sp e f =
    let whole = behind_tail _ _ _ _ (e ∙ first_of_key g first more key sp) in
    (sp.klen, key ++ 10 ∷ more, length key, sp.klen_is, sp.key_fits, whole, (key, 10 ∷ more, refl, sp.bytes, refl, (more, refl, f)))

plus_keys : IsMark SpellsKey 43 BehindMinus
plus_keys = record {
  to = λ g t b. let p = plus_key (Form SpellsKey) g t b in (p.0 ∷ p.5.0, (p.1, p.2, p.3, p.4, p.5.1));
  from = λ g t form. from_cases SpellsKey 43 BehindMinus g t (λ e. omega (arith, e)) (λ first more key sp e f. behind_key (Form SpellsKey) g t first more key sp e f) form;
  item = λ g t first rest key sp e. behind_key Any g t first rest key sp e tt;
}

pub listed_stops : (g from at : ℕ) (text : List ℕ) (f : TextFault) → at ≡ from + 1 → ((F : ℕ → List ℕ → Type 0) → Starts F → StopsAt (BehindMinus F) g at text f) → FailsItem SpellsKey g from (43 ∷ text) f
listed_stops g from at text f e p = item_stops SpellsKey keys 43 BehindMinus plus_keys g from at text f e (p (Form SpellsKey) (prefix_form SpellsKey), p Any prefix_any)

pub key_fails : (g from at to : ℕ) (old new : Feed) (f : TextFault) → OneRest old → at ≡ from + 1 → ((F : ℕ → List ℕ → Type 0) → Starts F → FromTo old new (λ t rest. StopsAt (BehindMinus F) g at (seen at to f t) (told to f)))
    → FromTo old new (λ t rest. FailsItem SpellsKey g from (43 ∷ seen at to f t) (told to f))
key_fails g from at to old new f one e p = item_fails SpellsKey keys 43 BehindMinus plus_keys g from at to old new f one e p

-- ---- before the mark of a key

pub key_ended : (g from : ℕ) (old new : Feed) → Keeps old new → IsAtEnd new → FromTo old new (λ t rest. FailsItem SpellsKey g from t (Ended from))
key_ended g from old new kept end = from_all old new [] (λ t rest. FailsItem SpellsKey g from t (Ended from)) kept end (ended_item SpellsKey keys g from [] refl)

pub listed_syntax : (g from c : ℕ) (text : List ℕ) → c ≢ 10 → c ≢ 43 → FailsItem SpellsKey g from (c ∷ text) (Syntax from)
listed_syntax g from c text newline plus = syntax_item SpellsKey keys g from c (c ∷ text) text refl newline (λ g first x y key sp e. plus (head_of_key g c first x y key sp e))

pub key_syntax : (g from c : ℕ) (old new : Feed) → Consumes old new (c ∷ []) → c ≢ 10 → c ≢ 43 → FromTo old new (λ t rest. FailsItem SpellsKey g from t (Syntax from))
key_syntax g from c old new read newline plus =
    from_taken old new (c ∷ []) (λ t rest. FailsItem SpellsKey g from t (Syntax from)) read (λ rest. listed_syntax g from c rest newline plus)

-- if nothing was read, nothing of a text was read
pub no_key_read : (g from : ℕ) → FailsItem SpellsKey g from [] (Ended from)
no_key_read g from = ended_item SpellsKey keys g from [] refl

-- ---- a key that was read

tails : (x y : ℕ) (s t : List ℕ) → x ∷ s ≡ y ∷ t → s ≡ t
tails x y s t e = cc

-- after its mark it is spelled as a removal is
pub key_of_removal : {g : ℕ} {x key : List ℕ} → SpellsRemoval g (45 ∷ x) key → SpellsKey g (43 ∷ x) key
key_of_removal sp = record { klen = sp.klen; klen_is = sp.klen_is; key_fits = sp.key_fits; bytes = sp.bytes; text_is = ap (λ z. 43 ∷ z) (tails _ _ _ _ sp.text_is) }

pub listed_behind : (o m n : Feed) (greatest from to : ℕ) (a key : List ℕ)
    → IsNumeral a (length key) → length key ≤ greatest → AreBytes key
    → Consumes o m (a ++ 58 ∷ []) → Consumes m n (key ++ 10 ∷ []) → to ≡ from + (length a + 1) + (length key + 1)
    → ReadsBehind SpellsKey (codes "+") greatest o n from to key
listed_behind o m n greatest from to a key ia fits bytes c₁ c₂ counted =
    let r = removal_behind o m n greatest from to a key ia fits bytes c₁ c₂ counted in
    record { text = r.text; spells = key_of_removal r.spells; read = r.read; counted = r.counted }

-- a fault of the parser
pub list_fails : {R L : Type 0} (g : ℕ) (feed : R → Feed) (old new : ListReader R L) (f : TextFault) → HasFailed new f
    → FailsIn feed old.source new.source (FailsItem SpellsKey g old.source.taken) f → Leaves feed old.source new.source f → Fails g feed old new f
list_fails g feed old new f failed fails leaves = record {
  failed = failed;
  meets = λ going. record {
    of = met SpellsKey g old.source.taken new.source.taken (feed old.source.reader) (feed new.source.reader) f fails;
    took = leaves.took;
    last = leaves.last;
    told = leaves.told;
    spends = leaves.spends;
  };
}
