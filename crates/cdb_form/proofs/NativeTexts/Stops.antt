-- Where a text stops being one of the form.
use Rattle.cdb_form.proofs.Words.{AreBytes, Change, Consumes, FailsByte, FailsEntry, FailsField, FailsItem, FailsNumber, Feed, FromTo, HasFault, HasNoItem, HasNoText, IsAtEnd, IsNumeral, IsOfText, IsPrefix, IsRecord, Keeps, KeyValue, List, LongestPrefix, Putting, Reads, Removing, Spells, SpellsChange, SpellsRemoval, TextFault, [], ap, append-nil, append_assoc, arith, digit_value, digits_push, digits_value, digits_value_push, get_or, inl, inr, length, length-append, lit≤, refl, seen, subst, suc, sym, take, take_all, take_at, told, zero, ℕ, ◌*◌, ◌++◌, ◌+◌, ◌<◌, ◌∙◌, ◌∷◌, ◌≡◌, ◌≢◌, ◌≤◌, ◌⊎◌}
use Rattle.std.specs.Prelude.{⊤, Bool, true, false}
use Rattle.cdb_form.specs.Views.FormReader.{IsFaultOf}
use Rattle.cdb_form.specs.declared.text.fault.TextFault.TheVariants.{Syntax, Ended, Large, Input, Endless, NoMemory}
use Rattle.cdb_form.proofs.Bytes.ByteLemmas.{AreBytes-nil}
use Rattle.cdb_form.proofs.Fed.FeedLemmas.{from_all, from_both, from_taken, from_weaker}
use Rattle.cdb_form.proofs.NativeTexts.Spelling.{IsSpelling, records, changes, first_of_spelled, first_of_removal, head_of_spelled, head_of_removal, no_change}
use Rattle.cdb_form.proofs.Sources.SourceLemmas.{fails_behind}
use Rattle.cdb_form.proofs.NativeTexts.Grammar.{Prefix, Bare, Never, Lit, Bulk, Num, prefix_lit, prefix_lit_none, bare_lit, bare_lit_none, never_lit, never_lit_none, prefix_bulk, prefix_bulk_part, bare_bulk, never_bulk, prefix_num, prefix_num_part, bare_num, bare_num_part, never_num, never_num_bad, never_num_large}

-- ---- texts of a form

abbrev pub Form : {X : Type 0} → (ℕ → List ℕ → X → Type 0) → ℕ → List ℕ → Type 0
Form {X} S g t = (xs : List X) × Reads S g xs t []

-- any text
abbrev pub Any : ℕ → List ℕ → Type 0
Any g t = ⊤

-- the shortest text
pub prefix_form : {X : Type 0} (S : ℕ → List ℕ → X → Type 0) (g : ℕ) → Prefix (Form S g) []
prefix_form S g = (10 ∷ [], ([], refl))

pub prefix_any : (g : ℕ) → Prefix (Any g) []
prefix_any g = ([], tt)

no_item_empty : {X : Type 0} (S : ℕ → List ℕ → X → Type 0) → IsSpelling S → (g : ℕ) → HasNoItem S g []
no_item_empty S s g first rest i sp e = s.newline g first (rest ++ 10 ∷ []) [] i sp (sym (append_assoc first rest (10 ∷ [])) ∙ ap (λ z. z ++ 10 ∷ []) (sym e))

pub not_empty : {X : Type 0} (S : ℕ → List ℕ → X → Type 0) → IsSpelling S → (g : ℕ) → Form S g [] → ⊥
not_empty S s g ([], e) = let h : ◌≡◌ {A = List ℕ} [] (10 ∷ []) = e in cc
not_empty S s g (i ∷ xs, (first, more, sp, e, reads)) = no_item_empty S s g first more i sp e

-- a text, and then the rest
pub reads_split : {X : Type 0} (S : ℕ → List ℕ → X → Type 0) (g : ℕ) (xs : List X) (t rest : List ℕ) → Reads S g xs t rest → (u : List ℕ) × Reads S g xs u [] × (t ≡ u ++ rest)
reads_split S g [] t rest e = (10 ∷ [], refl, e)
reads_split S g (i ∷ xs) t rest (first, more, sp, e, reads) =
    let split = reads_split S g xs more rest reads in
    (first ++ split.0, (first, split.0, sp, refl, split.1), e ∙ ap (λ x. first ++ x) split.2 ∙ sym (append_assoc first split.0 rest))

-- of two prefixes of a list one is a prefix of the other
pub prefixes : (u s x y : List ℕ) (c : ℕ) → s ++ c ∷ y ≡ u ++ x → ((v : List ℕ) × (s ≡ u ++ v)) ⊎ ((m : List ℕ) × (u ≡ s ++ c ∷ m))
prefixes [] s x y c e = inl (s, refl)
prefixes (a ∷ u) [] x y c e = inr (u, (let h : a ≡ c = cc in cc))
prefixes (a ∷ u) (b ∷ s) x y c e =
    let h : b ≡ a = cc in
    elim (prefixes u s x y c (let t : s ++ c ∷ y ≡ u ++ x = cc in t)) [ inl p ↦ inl (p.0, (let i = p.1 in cc)) | inr p ↦ inr (p.0, (let i = p.1 in cc)) ]

no_text_ended : {X : Type 0} (S : ℕ → List ℕ → X → Type 0) (g : ℕ) (t : List ℕ) → Bare (Form S g) t → HasNoText S g t
no_text_ended S g t b xs rest reads = let split = reads_split S g xs t rest reads in b split.0 rest (xs, split.1) split.2

no_text_stuck : {X : Type 0} (S : ℕ → List ℕ → X → Type 0) (g c : ℕ) (s rest : List ℕ) → Bare (Form S g) s → Never (Form S g) s c → HasNoText S g (s ++ c ∷ rest)
no_text_stuck S g c s rest b n xs rest' reads =
    let split = reads_split S g xs (s ++ c ∷ rest) rest' reads in
    elim (prefixes split.0 s rest' rest c split.2) [ inl p ↦ b split.0 p.0 (xs, split.1) p.1 | inr p ↦ n p.0 (subst (Form S g) p.1 (xs, split.1)) ]

take_past : (s rest : List ℕ) (c q : ℕ) → length s < q → (m : List ℕ) × (take q (s ++ c ∷ rest) ≡ s ++ c ∷ m)
take_past [] rest c zero h = absurd (omega arith)
take_past [] rest c (suc q) h = (take q rest, refl)
take_past (a ∷ s) rest c zero h = absurd (omega arith)
take_past (a ∷ s) rest c (suc q) h = let r = take_past s rest c q (omega arith) in (r.0, (let i = r.1 in cc))

take_one_more : (s rest : List ℕ) (c : ℕ) → take (length s + 1) (s ++ c ∷ rest) ≡ s ++ c ∷ []
take_one_more s rest c = ap (take (length s + 1)) (sym (append_assoc s (c ∷ []) rest)) ∙ take_at (s ++ c ∷ []) rest (length s + 1) (length-append s (c ∷ []))

byte_behind : (s rest : List ℕ) (c : ℕ) → get_or (s ++ c ∷ rest) (length s) 0 ≡ c
byte_behind [] rest c = refl
byte_behind (a ∷ s) rest c = byte_behind s rest c

is_prefix : {X : Type 0} (S : ℕ → List ℕ → X → Type 0) (g : ℕ) (s : List ℕ) → Prefix (Form S g) s → IsPrefix S g s
is_prefix S g s (m, (xs, reads)) = (xs, m, reads)

not_prefix : {X : Type 0} (S : ℕ → List ℕ → X → Type 0) (g c : ℕ) (s m : List ℕ) → Never (Form S g) s c → IsPrefix S g (s ++ c ∷ m) → ⊥
not_prefix S g c s m n (xs, more, reads) = n (m ++ more) (xs, subst (λ t. Reads S g xs t []) (append_assoc s (c ∷ m) more) reads)

longest_stuck : {X : Type 0} (S : ℕ → List ℕ → X → Type 0) (g c : ℕ) (s rest : List ℕ) → Prefix (Form S g) s → Never (Form S g) s c → LongestPrefix S g (s ++ c ∷ rest) (length s)
longest_stuck S g c s rest f n = record {
  within = simp length-append (omega arith);
  front = subst (IsPrefix S g) (sym (take_at s (c ∷ rest) (length s) refl)) (is_prefix S g s f);
  longest = λ q h l front. let past = take_past s rest c q h in not_prefix S g c s past.0 n (subst (IsPrefix S g) past.1 front);
}

longest_ended : {X : Type 0} (S : ℕ → List ℕ → X → Type 0) (g : ℕ) (t : List ℕ) → Prefix (Form S g) t → LongestPrefix S g t (length t)
longest_ended S g t f = record {
  within = omega arith;
  front = subst (IsPrefix S g) (sym (take_all (length t) t (omega arith))) (is_prefix S g t f);
  longest = λ q h l front. omega arith;
}

-- ---- where the parts stop

-- The text stops being one of K at the place of the fault. Its first byte is at `from`.
abbrev pub StopsAt : (ℕ → List ℕ → Type 0) → ℕ → ℕ → List ℕ → TextFault → Type 0
StopsAt K g from text (Ended at) = Prefix (K g) text × Bare (K g) text × (at ≡ from + length text)
StopsAt K g from text (Syntax at) = (s : List ℕ) × (c : ℕ) × (rest : List ℕ) × (text ≡ s ++ c ∷ rest) × (at ≡ from + length s) × Prefix (K g) s × Bare (K g) s × ((g' : ℕ) → g ≤ g' → Never (K g') s c)
StopsAt K g from text (Large at) = (s : List ℕ) × (c : ℕ) × (rest : List ℕ) × (text ≡ s ++ c ∷ rest) × (at ≡ from + length s) × Prefix (K g) s × Bare (K g) s × Never (K g) s c
    × (digit_value c < 10) × ((g' : ℕ) × (g ≤ g') × Prefix (K g') (s ++ c ∷ []))
StopsAt K g from text _ = ⊤

stops_form : {X : Type 0} (S : ℕ → List ℕ → X → Type 0) (g from : ℕ) (text : List ℕ) (f : TextFault) → StopsAt (Form S) g from text f → HasFault S g from text f
stops_form S g from text (Ended at) (f, b, e) = (no_text_ended S g text b, longest_ended S g text f, e)
stops_form S g from text (Syntax at) (s, c, rest, e, place, f, b, n) =
    subst (λ t. HasFault S g from t (Syntax at)) (sym e) (
      length s,
      no_text_stuck S g c s rest b (n g (omega arith)),
      longest_stuck S g c s rest f (n g (omega arith)),
      simp length-append (omega arith),
      (λ l. not_prefix S l.1.0 c s [] (n l.1.0 l.1.1) (subst (IsPrefix S l.1.0) (take_one_more s rest c) l.1.2)),
      place,
    )
stops_form S g from text (Large at) (s, c, rest, e, place, f, b, n, digit, (g', l, more)) =
    subst (λ t. HasFault S g from t (Large at)) (sym e) (
      length s,
      no_text_stuck S g c s rest b n,
      longest_stuck S g c s rest f n,
      simp length-append (omega arith),
      (subst (λ (d : ℕ). digit_value d < 10) (sym (byte_behind s rest c)) digit, (g', l, subst (IsPrefix S g') (sym (take_one_more s rest c)) (is_prefix S g' (s ++ c ∷ []) more))),
      place,
    )
stops_form S g from text Input h = tt
stops_form S g from text Endless h = tt
stops_form S g from text NoMemory h = tt

stops_lit : (K : ℕ → List ℕ → Type 0) (g c from to : ℕ) (text : List ℕ) (f : TextFault) → to ≡ from + 1 → StopsAt K g to text f → StopsAt (λ g. Lit c (K g)) g from (c ∷ text) f
stops_lit K g c from to text (Ended at) e (f, b, place) = (prefix_lit c (K g) text f, bare_lit c (K g) text b, omega arith)
stops_lit K g c from to text (Syntax at) e (s, d, rest, split, place, f, b, n) =
    (c ∷ s, d, rest, ap (λ x. c ∷ x) split, omega arith, prefix_lit c (K g) s f, bare_lit c (K g) s b, λ g' le. never_lit c d (K g') s (n g' le))
stops_lit K g c from to text (Large at) e (s, d, rest, split, place, f, b, n, digit, (g', l, more)) =
    (c ∷ s, d, rest, ap (λ x. c ∷ x) split, omega arith, prefix_lit c (K g) s f, bare_lit c (K g) s b, never_lit c d (K g) s n, digit, (g', l, prefix_lit c (K g') (s ++ d ∷ []) more))
stops_lit K g c from to text Input e h = tt
stops_lit K g c from to text Endless e h = tt
stops_lit K g c from to text NoMemory e h = tt

stops_bulk : (K : ℕ → List ℕ → Type 0) (g n from to : ℕ) (v text : List ℕ) (f : TextFault) → length v ≡ n → AreBytes v → to ≡ from + n → StopsAt K g to text f → StopsAt (λ g. Bulk n (K g)) g from (v ++ text) f
stops_bulk K g n from to v text (Ended at) l are e (f, b, place) = (prefix_bulk n (K g) v text l are f, bare_bulk n (K g) v text l b, omega (arith, length-append v text))
stops_bulk K g n from to v text (Syntax at) l are e (s, d, rest, split, place, f, b, never) =
    (v ++ s, d, rest, ap (λ x. v ++ x) split ∙ sym (append_assoc v s (d ∷ rest)), omega (arith, length-append v s), prefix_bulk n (K g) v s l are f, bare_bulk n (K g) v s l b, λ g' le. never_bulk n d (K g') v s l (never g' le))
stops_bulk K g n from to v text (Large at) l are e (s, d, rest, split, place, f, b, never, digit, (g', le, more)) = (
  v ++ s,
  d,
  rest,
  ap (λ x. v ++ x) split ∙ sym (append_assoc v s (d ∷ rest)),
  omega (arith, length-append v s),
  prefix_bulk n (K g) v s l are f,
  bare_bulk n (K g) v s l b,
  never_bulk n d (K g) v s l never,
  digit,
  (g', le, subst (Prefix (Bulk n (K g'))) (sym (append_assoc v s (d ∷ []))) (prefix_bulk n (K g') v (s ++ d ∷ []) l are more)),
)
stops_bulk K g n from to v text Input l are e h = tt
stops_bulk K g n from to v text Endless l are e h = tt
stops_bulk K g n from to v text NoMemory l are e h = tt

stops_num : (K : ℕ → ℕ → List ℕ → Type 0) (g c n from to : ℕ) (ds text : List ℕ) (f : TextFault) → IsNumeral ds n → n ≤ g → 10 ≤ digit_value c → to ≡ from + (length ds + 1)
    → StopsAt (λ g. K g n) g to text f → StopsAt (λ g. Num g c (K g)) g from (ds ++ c ∷ text) f
stops_num K g c n from to ds text (Ended at) i l nc e (f, b, place) = (prefix_num g c n (K g) ds text i l f, bare_num g c n (K g) ds text i nc b, omega (arith, length-append ds (c ∷ text)))
stops_num K g c n from to ds text (Syntax at) i l nc e (s, d, rest, split, place, f, b, never) =
    (ds ++ c ∷ s, d, rest, ap (λ x. ds ++ c ∷ x) split ∙ sym (append_assoc ds (c ∷ s) (d ∷ rest)), omega (arith, length-append ds (c ∷ s)), prefix_num g c n (K g) ds s i l f, bare_num g c n (K g) ds s i nc b, λ g' le. never_num g' c d n (K g') ds s i nc (never g' le))
stops_num K g c n from to ds text (Large at) i l nc e (s, d, rest, split, place, f, b, never, digit, (g', le, more)) = (
  ds ++ c ∷ s,
  d,
  rest,
  ap (λ x. ds ++ c ∷ x) split ∙ sym (append_assoc ds (c ∷ s) (d ∷ rest)),
  omega (arith, length-append ds (c ∷ s)),
  prefix_num g c n (K g) ds s i l f,
  bare_num g c n (K g) ds s i nc b,
  never_num g c d n (K g) ds s i nc never,
  digit,
  (g', le, subst (Prefix (Num g' c (K g'))) (sym (append_assoc ds (c ∷ s) (d ∷ []))) (prefix_num g' c n (K g') ds (s ++ d ∷ []) i (omega arith) more)),
)
stops_num K g c n from to ds text Input i l nc e h = tt
stops_num K g c n from to ds text Endless i l nc e h = tt
stops_num K g c n from to ds text NoMemory i l nc e h = tt

stops_byte : (K : ℕ → List ℕ → Type 0) (g c from : ℕ) (text : List ℕ) (f : TextFault) → ((g : ℕ) → Prefix (K g) []) → FailsByte c from text f → StopsAt (λ g. Lit c (K g)) g from text f
stops_byte K g c from text (Ended at) k (e, place) =
    (subst (Prefix (Lit c (K g))) (sym e) (prefix_lit_none c (K g) (k g)), subst (Bare (Lit c (K g))) (sym e) (bare_lit_none c (K g)), omega (arith, ap length e))
stops_byte K g c from text (Syntax at) k (d, rest, e, other, place) =
    ([], d, rest, e, omega arith, prefix_lit_none c (K g) (k g), bare_lit_none c (K g), λ g' le. never_lit_none c d (K g') other)
stops_byte K g c from text (Large at) k h = absurd h
stops_byte K g c from text Input k h = tt
stops_byte K g c from text Endless k h = tt
stops_byte K g c from text NoMemory k h = tt

-- all the bytes of a field, and nothing after them
bare_field : (n c : ℕ) (K : List ℕ → Type 0) (v : List ℕ) → length v ≤ n → Bare (Bulk n (Lit c K)) v
bare_field n c K v l u w (v', m, l', are, e, k) h =
    let split : v ≡ v' ++ (m ++ w) = h ∙ ap (λ t. t ++ w) e ∙ append_assoc v' m w in
    omega (arith, ap length split, length-append v' (m ++ w), length-append m w, ap length k.1)

stops_field : (K : ℕ → List ℕ → Type 0) (g n c from : ℕ) (text : List ℕ) (f : TextFault) → ((g : ℕ) → Prefix (K g) []) → FailsField n c from text f → StopsAt (λ g. Bulk n (Lit c (K g))) g from text f
stops_field K g n c from text (Ended at) k (are, short, place) =
    (prefix_bulk_part n (Lit c (K g)) text short are (prefix_lit_none c (K g) (k g)), bare_field n c (K g) text short, place)
stops_field K g n c from text (Syntax at) k (other, place) =
    let v = other.bytes in
    subst (λ t. StopsAt (λ g. Bulk n (Lit c (K g))) g from t (Syntax at)) (sym other.text_is)
    (stops_bulk (λ g. Lit c (K g)) g n from (from + n) v (other.other ∷ other.rest) (Syntax at) other.long other.are refl
    (stops_byte K g c (from + n) (other.other ∷ other.rest) (Syntax at) k (other.other, other.rest, refl, other.differs, place)))
stops_field K g n c from text (Large at) k h = absurd h
stops_field K g n c from text Input k h = tt
stops_field K g n c from text Endless k h = tt
stops_field K g n c from text NoMemory k h = tt

stops_number : (K : ℕ → ℕ → List ℕ → Type 0) (g c from : ℕ) (text : List ℕ) (f : TextFault) → ((g n : ℕ) → Prefix (K g n) []) → 10 ≤ digit_value c → FailsNumber g c from text f → StopsAt (λ g. Num g c (K g)) g from text f
stops_number K g c from text (Ended at) k nc (each, fits, place) = (prefix_num_part g c (K g) text each fits (k g), bare_num_part g c (K g) text each nc, place)
stops_number K g c from text (Syntax at) k nc (d, n, t, place, nd, other) = (
  t.digits,
  d,
  t.rest,
  t.text_is,
  omega (arith, t.long),
  prefix_num_part g c (K g) t.digits t.each t.fits (k g),
  bare_num_part g c (K g) t.digits t.each nc,
  λ g' le. never_num_bad g' c d (K g') t.digits t.each nc nd (λ e. t.long ∙ other e),
)
stops_number K g c from text (Large at) k nc (d, n, t, place, dd) =
    let greater : ℕ = digits_value 10 t.digits * 10 + digit_value d in
    let value = digits_value_push 10 t.digits d in
    let lifts = t.lifts dd in (
      t.digits,
      d,
      t.rest,
      t.text_is,
      omega (arith, t.long),
      prefix_num_part g c (K g) t.digits t.each t.fits (k g),
      bare_num_part g c (K g) t.digits t.each nc,
      never_num_large g c d (K g) t.digits t.each nc dd lifts,
      dd,
      (
        greater,
        omega (arith, lifts),
        prefix_num_part greater c (K greater) (t.digits ++ d ∷ []) (digits_push 10 t.digits d t.each dd) (omega (arith, value)) (k greater),
      ),
    )
stops_number K g c from text Input k nc h = tt
stops_number K g c from text Endless k nc h = tt
stops_number K g c from text NoMemory k nc h = tt

-- ---- an item, part by part: what is left of it, and then F

abbrev pub Rest6 : (ℕ → List ℕ → Type 0) → ℕ → List ℕ → Type 0
Rest6 F g = Lit 10 (F g)

abbrev pub Rest5 : (ℕ → List ℕ → Type 0) → ℕ → ℕ → List ℕ → Type 0
Rest5 F n g = Bulk n (Rest6 F g)

abbrev pub Rest4 : (ℕ → List ℕ → Type 0) → ℕ → ℕ → List ℕ → Type 0
Rest4 F n g = Lit 62 (Rest5 F n g)

abbrev pub Rest3 : (ℕ → List ℕ → Type 0) → ℕ → ℕ → List ℕ → Type 0
Rest3 F n g = Lit 45 (Rest4 F n g)

abbrev pub Rest2 : (ℕ → List ℕ → Type 0) → ℕ → ℕ → ℕ → List ℕ → Type 0
Rest2 F k n g = Bulk k (Rest3 F n g)

abbrev pub Rest1 : (ℕ → List ℕ → Type 0) → ℕ → ℕ → List ℕ → Type 0
Rest1 F k g = Num g 58 (λ n. Rest2 F k n g)

-- the rest of a record after its plus, and of a removal after its minus
abbrev pub Behind : (ℕ → List ℕ → Type 0) → ℕ → List ℕ → Type 0
Behind F g t = Num g 44 (λ k. Rest1 F k g) t

abbrev pub BehindMinus : (ℕ → List ℕ → Type 0) → ℕ → List ℕ → Type 0
BehindMinus F g t = Num g 58 (λ k. Rest5 F k g) t

abbrev pub Starts : (ℕ → List ℕ → Type 0) → Type 0
Starts F = (g : ℕ) → Prefix (F g) []

front6 : (F : ℕ → List ℕ → Type 0) → Starts F → Starts (Rest6 F)
front6 F s g = prefix_lit_none 10 (F g) (s g)

front5 : (F : ℕ → List ℕ → Type 0) (n : ℕ) → Starts F → Starts (Rest5 F n)
front5 F n s g = prefix_bulk_part n (Rest6 F g) [] (omega arith) AreBytes-nil (front6 F s g)

front4 : (F : ℕ → List ℕ → Type 0) (n : ℕ) → Starts F → Starts (Rest4 F n)
front4 F n s g = prefix_lit_none 62 (Rest5 F n g) (front5 F n s g)

front3 : (F : ℕ → List ℕ → Type 0) (n : ℕ) → Starts F → Starts (Rest3 F n)
front3 F n s g = prefix_lit_none 45 (Rest4 F n g) (front4 F n s g)

front2 : (F : ℕ → List ℕ → Type 0) (k n : ℕ) → Starts F → Starts (Rest2 F k n)
front2 F k n s g = prefix_bulk_part k (Rest3 F n g) [] (omega arith) AreBytes-nil (front3 F n s g)

front1 : (F : ℕ → List ℕ → Type 0) (k : ℕ) → Starts F → Starts (Rest1 F k)
front1 F k s g = prefix_num_part g 58 (λ n. Rest2 F k n g) [] tt (omega arith) (λ n. front2 F k n s g)

-- ---- the same of a text: after its first part, and in it

behind_num : (K : ℕ → ℕ → List ℕ → Type 0) (g c n from at : ℕ) (o m ds : List ℕ) (f : TextFault) → IsNumeral ds n → n ≤ g → 10 ≤ digit_value c → at ≡ from + (length ds + 1) → o ≡ (ds ++ c ∷ []) ++ m
    → StopsAt (λ g. K g n) g at m f → StopsAt (λ g. Num g c (K g)) g from o f
behind_num K g c n from at o m ds f i l nc counted e h = subst (λ t. StopsAt (λ g. Num g c (K g)) g from t f) (sym (e ∙ append_assoc ds (c ∷ []) m)) (stops_num K g c n from at ds m f i l nc counted h)

behind_field : (K : ℕ → List ℕ → Type 0) (g n c from at : ℕ) (o m v : List ℕ) (f : TextFault) → length v ≡ n → AreBytes v → at ≡ from + (n + 1) → o ≡ (v ++ c ∷ []) ++ m → StopsAt K g at m f → StopsAt (λ g. Bulk n (Lit c (K g))) g from o f
behind_field K g n c from at o m v f l are counted e h =
    subst (λ t. StopsAt (λ g. Bulk n (Lit c (K g))) g from t f) (sym (e ∙ append_assoc v (c ∷ []) m))
    (stops_bulk (λ g. Lit c (K g)) g n from (from + n) v (c ∷ m) f l are refl (stops_lit K g c (from + n) at m f (omega (arith, counted)) h))

-- after a plus: the first length, the second, the key and its hyphen, the angle, the value and its newline

pub behind_klen : (F : ℕ → List ℕ → Type 0) (g k from at : ℕ) (o m ds : List ℕ) (f : TextFault) → IsNumeral ds k → k ≤ g → at ≡ from + (length ds + 1) → o ≡ (ds ++ 44 ∷ []) ++ m → StopsAt (Rest1 F k) g at m f → StopsAt (Behind F) g from o f
behind_klen F g k from at o m ds f i l counted e h = behind_num (λ g k. Rest1 F k g) g 44 k from at o m ds f i l (lit≤ tt) counted e h

pub behind_vlen : (F : ℕ → List ℕ → Type 0) (g k n from at : ℕ) (o m ds : List ℕ) (f : TextFault) → IsNumeral ds n → n ≤ g → at ≡ from + (length ds + 1) → o ≡ (ds ++ 58 ∷ []) ++ m → StopsAt (Rest2 F k n) g at m f → StopsAt (Rest1 F k) g from o f
behind_vlen F g k n from at o m ds f i l counted e h = behind_num (λ g n. Rest2 F k n g) g 58 n from at o m ds f i l (lit≤ tt) counted e h

pub behind_key : (F : ℕ → List ℕ → Type 0) (g k n from at : ℕ) (o m v : List ℕ) (f : TextFault) → length v ≡ k → AreBytes v → at ≡ from + (k + 1) → o ≡ (v ++ 45 ∷ []) ++ m → StopsAt (Rest4 F n) g at m f → StopsAt (Rest2 F k n) g from o f
behind_key F g k n from at o m v f l are counted e h = behind_field (Rest4 F n) g k 45 from at o m v f l are counted e h

pub behind_angle : (F : ℕ → List ℕ → Type 0) (g n from at : ℕ) (o m : List ℕ) (f : TextFault) → at ≡ from + 1 → o ≡ 62 ∷ m → StopsAt (Rest5 F n) g at m f → StopsAt (Rest4 F n) g from o f
behind_angle F g n from at o m f counted e h = subst (λ t. StopsAt (Rest4 F n) g from t f) (sym e) (stops_lit (Rest5 F n) g 62 from at m f counted h)

pub klen_stops : (F : ℕ → List ℕ → Type 0) (g from : ℕ) (text : List ℕ) (f : TextFault) → Starts F → FailsNumber g 44 from text f → StopsAt (Behind F) g from text f
klen_stops F g from text f s h = stops_number (λ g k. Rest1 F k g) g 44 from text f (λ g k. front1 F k s g) (lit≤ tt) h

pub vlen_stops : (F : ℕ → List ℕ → Type 0) (g k from : ℕ) (text : List ℕ) (f : TextFault) → Starts F → FailsNumber g 58 from text f → StopsAt (Rest1 F k) g from text f
vlen_stops F g k from text f s h = stops_number (λ g n. Rest2 F k n g) g 58 from text f (λ g n. front2 F k n s g) (lit≤ tt) h

pub key_stops : (F : ℕ → List ℕ → Type 0) (g k n from : ℕ) (text : List ℕ) (f : TextFault) → Starts F → FailsField k 45 from text f → StopsAt (Rest2 F k n) g from text f
key_stops F g k n from text f s h = stops_field (Rest4 F n) g k 45 from text f (front4 F n s) h

pub angle_stops : (F : ℕ → List ℕ → Type 0) (g n from : ℕ) (text : List ℕ) (f : TextFault) → Starts F → FailsByte 62 from text f → StopsAt (Rest4 F n) g from text f
angle_stops F g n from text f s h = stops_byte (Rest5 F n) g 62 from text f (front5 F n s) h

pub value_stops : (F : ℕ → List ℕ → Type 0) (g n from : ℕ) (text : List ℕ) (f : TextFault) → Starts F → FailsField n 10 from text f → StopsAt (Rest5 F n) g from text f
value_stops F g n from text f s h = stops_field F g n 10 from text f s h

-- after a minus: the length, the key and its newline

pub behind_length : (F : ℕ → List ℕ → Type 0) (g k from at : ℕ) (o m ds : List ℕ) (f : TextFault) → IsNumeral ds k → k ≤ g → at ≡ from + (length ds + 1) → o ≡ (ds ++ 58 ∷ []) ++ m → StopsAt (Rest5 F k) g at m f → StopsAt (BehindMinus F) g from o f
behind_length F g k from at o m ds f i l counted e h = behind_num (λ g k. Rest5 F k g) g 58 k from at o m ds f i l (lit≤ tt) counted e h

pub length_stops : (F : ℕ → List ℕ → Type 0) (g from : ℕ) (text : List ℕ) (f : TextFault) → Starts F → FailsNumber g 58 from text f → StopsAt (BehindMinus F) g from text f
length_stops F g from text f s h = stops_number (λ g k. Rest5 F k g) g 58 from text f (λ g k. front5 F k s g) (lit≤ tt) h

-- ---- the same of what a reader has left: after the bytes that it gave, and of what it gives next

pub lift_klen : (F : ℕ → List ℕ → Type 0) (g k from at to : ℕ) (old mid new : Feed) (ds : List ℕ) (f : TextFault) → IsNumeral ds k → k ≤ g → at ≡ from + (length ds + 1) → at ≤ to → Consumes old mid (ds ++ 44 ∷ []) → FromTo mid new (λ t rest. StopsAt (Rest1 F k) g at (seen at to f t) (told to f)) → FromTo old new (λ t rest. StopsAt (Behind F) g from (seen from to f t) (told to f))
lift_klen F g k from at to old mid new ds f i l counted later read h =
    fails_behind (λ t f. StopsAt (Rest1 F k) g at t f) (λ t f. StopsAt (Behind F) g from t f) old mid new from at to (ds ++ 44 ∷ []) f read (omega (arith, counted, length-append ds (44 ∷ []))) later
    (λ t s. behind_klen F g k from at _ t ds (told to f) i l counted refl s) h

pub lift_vlen : (F : ℕ → List ℕ → Type 0) (g k n from at to : ℕ) (old mid new : Feed) (ds : List ℕ) (f : TextFault) → IsNumeral ds n → n ≤ g → at ≡ from + (length ds + 1) → at ≤ to → Consumes old mid (ds ++ 58 ∷ []) → FromTo mid new (λ t rest. StopsAt (Rest2 F k n) g at (seen at to f t) (told to f)) → FromTo old new (λ t rest. StopsAt (Rest1 F k) g from (seen from to f t) (told to f))
lift_vlen F g k n from at to old mid new ds f i l counted later read h =
    fails_behind (λ t f. StopsAt (Rest2 F k n) g at t f) (λ t f. StopsAt (Rest1 F k) g from t f) old mid new from at to (ds ++ 58 ∷ []) f read (omega (arith, counted, length-append ds (58 ∷ []))) later
    (λ t s. behind_vlen F g k n from at _ t ds (told to f) i l counted refl s) h

pub lift_key : (F : ℕ → List ℕ → Type 0) (g k n from at to : ℕ) (old mid new : Feed) (v : List ℕ) (f : TextFault) → length v ≡ k → AreBytes v → at ≡ from + (k + 1) → at ≤ to → Consumes old mid (v ++ 45 ∷ []) → FromTo mid new (λ t rest. StopsAt (Rest4 F n) g at (seen at to f t) (told to f)) → FromTo old new (λ t rest. StopsAt (Rest2 F k n) g from (seen from to f t) (told to f))
lift_key F g k n from at to old mid new v f l are counted later read h =
    fails_behind (λ t f. StopsAt (Rest4 F n) g at t f) (λ t f. StopsAt (Rest2 F k n) g from t f) old mid new from at to (v ++ 45 ∷ []) f read (omega (arith, counted, l, length-append v (45 ∷ []))) later
    (λ t s. behind_key F g k n from at _ t v (told to f) l are counted refl s) h

pub lift_length : (F : ℕ → List ℕ → Type 0) (g k from at to : ℕ) (old mid new : Feed) (ds : List ℕ) (f : TextFault) → IsNumeral ds k → k ≤ g → at ≡ from + (length ds + 1) → at ≤ to → Consumes old mid (ds ++ 58 ∷ []) → FromTo mid new (λ t rest. StopsAt (Rest5 F k) g at (seen at to f t) (told to f)) → FromTo old new (λ t rest. StopsAt (BehindMinus F) g from (seen from to f t) (told to f))
lift_length F g k from at to old mid new ds f i l counted later read h =
    fails_behind (λ t f. StopsAt (Rest5 F k) g at t f) (λ t f. StopsAt (BehindMinus F) g from t f) old mid new from at to (ds ++ 58 ∷ []) f read (omega (arith, counted, length-append ds (58 ∷ []))) later
    (λ t s. behind_length F g k from at _ t ds (told to f) i l counted refl s) h

pub base_klen : (F : ℕ → List ℕ → Type 0) (g from to : ℕ) (old new : Feed) (f : TextFault) → Starts F → FromTo old new (λ t rest. FailsNumber g 44 from (seen from to f t) (told to f)) → FromTo old new (λ t rest. StopsAt (Behind F) g from (seen from to f t) (told to f))
base_klen F g from to old new f s h = from_weaker old new _ _ h (λ t rest. klen_stops F g from (seen from to f t) (told to f) s)

pub base_vlen : (F : ℕ → List ℕ → Type 0) (g k from to : ℕ) (old new : Feed) (f : TextFault) → Starts F → FromTo old new (λ t rest. FailsNumber g 58 from (seen from to f t) (told to f)) → FromTo old new (λ t rest. StopsAt (Rest1 F k) g from (seen from to f t) (told to f))
base_vlen F g k from to old new f s h = from_weaker old new _ _ h (λ t rest. vlen_stops F g k from (seen from to f t) (told to f) s)

pub base_key : (F : ℕ → List ℕ → Type 0) (g k n from to : ℕ) (old new : Feed) (f : TextFault) → Starts F → FromTo old new (λ t rest. FailsField k 45 from (seen from to f t) (told to f)) → FromTo old new (λ t rest. StopsAt (Rest2 F k n) g from (seen from to f t) (told to f))
base_key F g k n from to old new f s h = from_weaker old new _ _ h (λ t rest. key_stops F g k n from (seen from to f t) (told to f) s)

pub base_angle : (F : ℕ → List ℕ → Type 0) (g n from to : ℕ) (old new : Feed) (f : TextFault) → Starts F → FromTo old new (λ t rest. FailsByte 62 from (seen from to f t) (told to f)) → FromTo old new (λ t rest. StopsAt (Rest4 F n) g from (seen from to f t) (told to f))
base_angle F g n from to old new f s h = from_weaker old new _ _ h (λ t rest. angle_stops F g n from (seen from to f t) (told to f) s)

pub base_value : (F : ℕ → List ℕ → Type 0) (g n from to : ℕ) (old new : Feed) (f : TextFault) → Starts F → FromTo old new (λ t rest. FailsField n 10 from (seen from to f t) (told to f)) → FromTo old new (λ t rest. StopsAt (Rest5 F n) g from (seen from to f t) (told to f))
base_value F g n from to old new f s h = from_weaker old new _ _ h (λ t rest. value_stops F g n from (seen from to f t) (told to f) s)

pub base_length : (F : ℕ → List ℕ → Type 0) (g from to : ℕ) (old new : Feed) (f : TextFault) → Starts F → FromTo old new (λ t rest. FailsNumber g 58 from (seen from to f t) (told to f)) → FromTo old new (λ t rest. StopsAt (BehindMinus F) g from (seen from to f t) (told to f))
base_length F g from to old new f s h = from_weaker old new _ _ h (λ t rest. length_stops F g from (seen from to f t) (told to f) s)

-- ---- at the start of an item: its mark h, and then B

pub record IsMark {X : Type 0} (S : ℕ → List ℕ → X → Type 0) (h : ℕ) (B : (ℕ → List ℕ → Type 0) → ℕ → List ℕ → Type 0) : Type 0 where
  pub to : (g : ℕ) (t : List ℕ) → B (Form S) g t → Form S g (h ∷ t)
  pub from : (g : ℕ) (t : List ℕ) → Form S g (h ∷ t) → B (Form S) g t
  pub item : (g : ℕ) (t first rest : List ℕ) (i : X) → S g first i → h ∷ t ≡ first ++ rest → B Any g t

pub behind_tail : (x y : ℕ) (s t : List ℕ) → x ∷ s ≡ y ∷ t → s ≡ t
behind_tail x y s t e = cc

first_is : (c d : ℕ) (s t : List ℕ) → c ∷ s ≡ d ∷ t → c ≡ d
first_is c d s t e = cc

-- an item at the start of a text of the form that does not begin with a newline
pub from_cases : {X : Type 0} (S : ℕ → List ℕ → X → Type 0) (h : ℕ) (B : (ℕ → List ℕ → Type 0) → ℕ → List ℕ → Type 0) (g : ℕ) (t : List ℕ) → (h ≡ 10 → ⊥)
    → ((first more : List ℕ) (i : X) → S g first i → h ∷ t ≡ first ++ more → Form S g more → B (Form S) g t) → Form S g (h ∷ t) → B (Form S) g t
from_cases S h B g t other behind ([], e) = absurd (other (first_is h 10 t [] e))
from_cases S h B g t other behind (i ∷ xs, (first, more, sp, e, reads)) = behind first more i sp e (xs, reads)

-- ---- the marks of a record and of a removal

-- what follows the plus of a record spells it, and then F
plus_spelled : (F : ℕ → List ℕ → Type 0) (g : ℕ) (t : List ℕ) → Behind F g t → (r : KeyValue) × (first more : List ℕ) × Spells g first r × (43 ∷ t ≡ first ++ more) × F g more
plus_spelled F g t (a, m₁, k, ia, la, e₁, (b, m₂, n, ib, lb, e₂, (key, m₃, lk, bk, e₃, (m₄, e₄, (m₅, e₅, (value, m₆, lv, bv, e₆, (m₇, e₇, f))))))) =
    let r : KeyValue = record { key = key; value = value } in
    let first : List ℕ = 43 ∷ (a ++ 44 ∷ (b ++ 58 ∷ (key ++ 45 ∷ 62 ∷ (value ++ 10 ∷ [])))) in
    let whole : t ≡ a ++ 44 ∷ (b ++ 58 ∷ (key ++ 45 ∷ 62 ∷ (value ++ 10 ∷ m₇))) =
    e₁ ∙ ap (λ x. a ++ 44 ∷ x) (e₂ ∙ ap (λ x. b ++ 58 ∷ x) (e₃ ∙ ap (λ x. key ++ x) (e₄ ∙ ap (λ x. 45 ∷ x) (e₅ ∙ ap (λ x. 62 ∷ x) (e₆ ∙ ap (λ x. value ++ x) e₇))))) in
    let bytes : IsRecord r = record { key = bk; value = bv } in (
      r,
      first,
      m₇,
      record { klen = a; vlen = b; klen_is = subst (IsNumeral a) (sym lk) ia; vlen_is = subst (IsNumeral b) (sym lv) ib; key_fits = omega arith; value_fits = omega arith; bytes = bytes; text_is = simp append_assoc refl },
      ap (λ x. 43 ∷ x) whole ∙ simp append_assoc,
      f,
    )

-- and the reverse
behind_spelled : (F : ℕ → List ℕ → Type 0) (g : ℕ) (t first more : List ℕ) (r : KeyValue) → Spells g first r → 43 ∷ t ≡ first ++ more → F g more → Behind F g t
behind_spelled F g t first more r sp e f =
    let whole = behind_tail _ _ _ _ (e ∙ first_of_spelled g first more r sp) in
    let key = r.key in
    let value = r.value in (
      sp.klen,
      sp.vlen ++ 58 ∷ (key ++ 45 ∷ 62 ∷ (value ++ 10 ∷ more)),
      length key,
      sp.klen_is,
      sp.key_fits,
      whole,
      (
        sp.vlen,
        key ++ 45 ∷ 62 ∷ (value ++ 10 ∷ more),
        length value,
        sp.vlen_is,
        sp.value_fits,
        refl,
        (key, 45 ∷ 62 ∷ (value ++ 10 ∷ more), refl, sp.bytes.key, refl, (62 ∷ (value ++ 10 ∷ more), refl, (value ++ 10 ∷ more, refl, (value, 10 ∷ more, refl, sp.bytes.value, refl, (more, refl, f))))),
      ),
    )

-- what follows the minus of a removal spells it, and then F
minus_spelled : (F : ℕ → List ℕ → Type 0) (g : ℕ) (t : List ℕ) → BehindMinus F g t → (key first more : List ℕ) × SpellsRemoval g first key × (45 ∷ t ≡ first ++ more) × F g more
minus_spelled F g t (a, m₁, k, ia, la, e₁, (key, m₂, lk, bk, e₂, (m₃, e₃, f))) =
    let whole : t ≡ a ++ 58 ∷ (key ++ 10 ∷ m₃) = e₁ ∙ ap (λ x. a ++ 58 ∷ x) (e₂ ∙ ap (λ x. key ++ x) e₃) in (
      key,
      45 ∷ (a ++ 58 ∷ (key ++ 10 ∷ [])),
      m₃,
      record { klen = a; klen_is = subst (IsNumeral a) (sym lk) ia; key_fits = omega arith; bytes = bk; text_is = simp append_assoc refl },
      ap (λ x. 45 ∷ x) whole ∙ simp append_assoc,
      f,
    )

-- and the reverse
behind_removal : (F : ℕ → List ℕ → Type 0) (g : ℕ) (t first more key : List ℕ) → SpellsRemoval g first key → 45 ∷ t ≡ first ++ more → F g more → BehindMinus F g t
behind_removal F g t first more key sp e f =
    let whole = behind_tail _ _ _ _ (e ∙ first_of_removal g first more key sp) in
    (sp.klen, key ++ 10 ∷ more, length key, sp.klen_is, sp.key_fits, whole, (key, 10 ∷ more, refl, sp.bytes, refl, (more, refl, f)))

behind_change : (F : ℕ → List ℕ → Type 0) (g : ℕ) (t first more : List ℕ) (i : Change) → SpellsChange g first i → 43 ∷ t ≡ first ++ more → F g more → Behind F g t
behind_change F g t first more (Putting r) sp e f = behind_spelled F g t first more r sp e f
behind_change F g t first more (Removing key) sp e f = let n = head_of_removal g 43 first more t key sp (sym e) in absurd (let no : ⊥ = omega (arith, n) in no)

minus_change : (F : ℕ → List ℕ → Type 0) (g : ℕ) (t first more : List ℕ) (i : Change) → SpellsChange g first i → 45 ∷ t ≡ first ++ more → F g more → BehindMinus F g t
minus_change F g t first more (Putting r) sp e f = let n = head_of_spelled g 45 first more t r sp (sym e) in absurd (let no : ⊥ = omega (arith, n) in no)
minus_change F g t first more (Removing key) sp e f = behind_removal F g t first more key sp e f

plus_records : IsMark Spells 43 Behind
plus_records = record {
  to = λ g t b. let p = plus_spelled (Form Spells) g t b in (p.0 ∷ p.5.0, (p.1, p.2, p.3, p.4, p.5.1));
  from = λ g t form. from_cases Spells 43 Behind g t (λ e. omega (arith, e)) (λ first more r sp e f. behind_spelled (Form Spells) g t first more r sp e f) form;
  item = λ g t first rest r sp e. behind_spelled Any g t first rest r sp e tt;
}

plus_changes : IsMark SpellsChange 43 Behind
plus_changes = record {
  to = λ g t b. let p = plus_spelled (Form SpellsChange) g t b in (Putting p.0 ∷ p.5.0, (p.1, p.2, p.3, p.4, p.5.1));
  from = λ g t form. from_cases SpellsChange 43 Behind g t (λ e. omega (arith, e)) (λ first more i sp e f. behind_change (Form SpellsChange) g t first more i sp e f) form;
  item = λ g t first rest i sp e. behind_change Any g t first rest i sp e tt;
}

minus_changes : IsMark SpellsChange 45 BehindMinus
minus_changes = record {
  to = λ g t b. let p = minus_spelled (Form SpellsChange) g t b in (Removing p.0 ∷ p.5.0, (p.1, p.2, p.3, p.4, p.5.1));
  from = λ g t form. from_cases SpellsChange 45 BehindMinus g t (λ e. omega (arith, e)) (λ first more i sp e f. minus_change (Form SpellsChange) g t first more i sp e f) form;
  item = λ g t first rest i sp e. minus_change Any g t first rest i sp e tt;
}

-- ---- where an item stops after its mark

prefix_mark : {X : Type 0} (S : ℕ → List ℕ → X → Type 0) (h : ℕ) (B : (ℕ → List ℕ → Type 0) → ℕ → List ℕ → Type 0) → IsMark S h B → (g : ℕ) (s : List ℕ) → Prefix (B (Form S) g) s → Prefix (Form S g) (h ∷ s)
prefix_mark S h B k g s f = (f.0, k.to g (s ++ f.0) f.1)

bare_mark : {X : Type 0} (S : ℕ → List ℕ → X → Type 0) → IsSpelling S → (h : ℕ) (B : (ℕ → List ℕ → Type 0) → ℕ → List ℕ → Type 0) → IsMark S h B → (g : ℕ) (s : List ℕ) → Bare (B (Form S) g) s → Bare (Form S g) (h ∷ s)
bare_mark S is h B k g s b [] v form e = not_empty S is g form
bare_mark S is h B k g s b (x ∷ u) v form e =
    let first : x ≡ h = cc in
    let rest : s ≡ u ++ v = cc in
    b u v (k.from g u (subst (λ y. Form S g (y ∷ u)) first form)) rest

never_mark : {X : Type 0} (S : ℕ → List ℕ → X → Type 0) (h : ℕ) (B : (ℕ → List ℕ → Type 0) → ℕ → List ℕ → Type 0) → IsMark S h B → (g c : ℕ) (s : List ℕ) → Never (B (Form S) g) s c → Never (Form S g) (h ∷ s) c
never_mark S h B k g c s n m form = n m (k.from g (s ++ c ∷ m) form)

stops_mark : {X : Type 0} (S : ℕ → List ℕ → X → Type 0) → IsSpelling S → (h : ℕ) (B : (ℕ → List ℕ → Type 0) → ℕ → List ℕ → Type 0) → IsMark S h B → (g from to : ℕ) (text : List ℕ) (f : TextFault) → to ≡ from + 1 → StopsAt (B (Form S)) g to text f → HasFault S g from (h ∷ text) f
stops_mark S is h B k g from to text (Ended at) e (f, b, place) = stops_form S g from (h ∷ text) (Ended at) (prefix_mark S h B k g text f, bare_mark S is h B k g text b, omega arith)
stops_mark S is h B k g from to text (Syntax at) e (s, d, rest, split, place, f, b, n) =
    stops_form S g from (h ∷ text) (Syntax at) (h ∷ s, d, rest, ap (λ x. h ∷ x) split, omega arith, prefix_mark S h B k g s f, bare_mark S is h B k g s b, λ g' le. never_mark S h B k g' d s (n g' le))
stops_mark S is h B k g from to text (Large at) e (s, d, rest, split, place, f, b, n, digit, (g', l, more)) =
    stops_form S g from (h ∷ text) (Large at) (h ∷ s, d, rest, ap (λ x. h ∷ x) split, omega arith, prefix_mark S h B k g s f, bare_mark S is h B k g s b, never_mark S h B k g d s n, digit, (g', l, prefix_mark S h B k g' (s ++ d ∷ []) more))
stops_mark S is h B k g from to text Input e p = tt
stops_mark S is h B k g from to text Endless e p = tt
stops_mark S is h B k g from to text NoMemory e p = tt

-- if an item stops before its end, there is no item
no_item_stops : {X : Type 0} (S : ℕ → List ℕ → X → Type 0) (h : ℕ) (B : (ℕ → List ℕ → Type 0) → ℕ → List ℕ → Type 0) → IsMark S h B → (g from : ℕ) (text : List ℕ) (f : TextFault) → StopsAt (B Any) g from text f → IsOfText f → HasNoItem S g (h ∷ text)
no_item_stops S h B k g from text (Ended at) (f, b, place) is first rest i sp e = b text [] (k.item g text first rest i sp e) (sym (append-nil text))
no_item_stops S h B k g from text (Syntax at) (s, d, more, split, place, f, b, n) is first rest i sp e = n g (omega arith) more (subst (B Any g) split (k.item g text first rest i sp e))
no_item_stops S h B k g from text (Large at) (s, d, more, split, place, f, b, n, digit, lifts) is first rest i sp e = n more (subst (B Any g) split (k.item g text first rest i sp e))
no_item_stops S h B k g from text Input p is first rest i sp e = absurd is
no_item_stops S h B k g from text Endless p is first rest i sp e = absurd is
no_item_stops S h B k g from text NoMemory p is first rest i sp e = absurd is

-- whatever is to follow the item, it stops there
pub item_stops : {X : Type 0} (S : ℕ → List ℕ → X → Type 0) → IsSpelling S → (h : ℕ) (B : (ℕ → List ℕ → Type 0) → ℕ → List ℕ → Type 0) → IsMark S h B → (g from at : ℕ) (text : List ℕ) (f : TextFault) → at ≡ from + 1
    → StopsAt (B (Form S)) g at text f × StopsAt (B Any) g at text f → FailsItem S g from (h ∷ text) f
item_stops S is h B k g from at text f e (p, q) = record { fault = stops_mark S is h B k g from at text f e p; no_item = no_item_stops S h B k g at text f q }

-- a record, and a removal, stop after their marks
pub record_stops : (removals : Bool) (g from at : ℕ) (text : List ℕ) (f : TextFault) → at ≡ from + 1 → ((F : ℕ → List ℕ → Type 0) → Starts F → StopsAt (Behind F) g at text f) → FailsEntry removals g from (43 ∷ text) f
record_stops true g from at text f e p = item_stops SpellsChange changes 43 Behind plus_changes g from at text f e (p (Form SpellsChange) (prefix_form SpellsChange), p Any prefix_any)
record_stops false g from at text f e p = item_stops Spells records 43 Behind plus_records g from at text f e (p (Form Spells) (prefix_form Spells), p Any prefix_any)

pub removal_stops : (g from at : ℕ) (text : List ℕ) (f : TextFault) → at ≡ from + 1 → ((F : ℕ → List ℕ → Type 0) → Starts F → StopsAt (BehindMinus F) g at text f) → FailsItem SpellsChange g from (45 ∷ text) f
removal_stops g from at text f e p = item_stops SpellsChange changes 45 BehindMinus minus_changes g from at text f e (p (Form SpellsChange) (prefix_form SpellsChange), p Any prefix_any)

-- that all bytes of a reader determine those that are left
abbrev pub OneRest : Feed → Type 0
OneRest feed = (whole first second : List ℕ) → feed.may whole first → feed.may whole second → first ≡ second

pub item_fails : {X : Type 0} (S : ℕ → List ℕ → X → Type 0) → IsSpelling S → (h : ℕ) (B : (ℕ → List ℕ → Type 0) → ℕ → List ℕ → Type 0) → IsMark S h B → (g from at to : ℕ) (old new : Feed) (f : TextFault) → OneRest old → at ≡ from + 1
    → ((F : ℕ → List ℕ → Type 0) → Starts F → FromTo old new (λ t rest. StopsAt (B F) g at (seen at to f t) (told to f))) → FromTo old new (λ t rest. FailsItem S g from (h ∷ seen at to f t) (told to f))
item_fails S is h B k g from at to old new f one e p =
    from_weaker old new _ _ (from_both old new _ _ one (p (Form S) (prefix_form S)) (p Any prefix_any)) (λ t rest s. item_stops S is h B k g from at (seen at to f t) (told to f) e s)

pub record_fails : (removals : Bool) (g from at to : ℕ) (old new : Feed) (f : TextFault) → OneRest old → at ≡ from + 1 → ((F : ℕ → List ℕ → Type 0) → Starts F → FromTo old new (λ t rest. StopsAt (Behind F) g at (seen at to f t) (told to f)))
    → FromTo old new (λ t rest. FailsEntry removals g from (43 ∷ seen at to f t) (told to f))
record_fails true g from at to old new f one e p = item_fails SpellsChange changes 43 Behind plus_changes g from at to old new f one e p
record_fails false g from at to old new f one e p = item_fails Spells records 43 Behind plus_records g from at to old new f one e p

pub removal_fails : (g from at to : ℕ) (old new : Feed) (f : TextFault) → OneRest old → at ≡ from + 1 → ((F : ℕ → List ℕ → Type 0) → Starts F → FromTo old new (λ t rest. StopsAt (BehindMinus F) g at (seen at to f t) (told to f)))
    → FromTo old new (λ t rest. FailsItem SpellsChange g from (45 ∷ seen at to f t) (told to f))
removal_fails g from at to old new f one e p = item_fails SpellsChange changes 45 BehindMinus minus_changes g from at to old new f one e p

-- ---- before the mark of an item

bare_form : {X : Type 0} (S : ℕ → List ℕ → X → Type 0) → IsSpelling S → (g : ℕ) → Bare (Form S g) []
bare_form S is g [] v form h = not_empty S is g form
bare_form S is g (x ∷ u) v form h = let e : [] ≡ x ∷ (u ++ v) = h in cc

-- no item begins with this byte
abbrev pub BeginsNone : {X : Type 0} → (ℕ → List ℕ → X → Type 0) → ℕ → Type 0
BeginsNone {X} S c = (g : ℕ) (first x y : List ℕ) (i : X) → S g first i → first ++ x ≡ c ∷ y → ⊥

never_form : {X : Type 0} (S : ℕ → List ℕ → X → Type 0) (g c : ℕ) → c ≢ 10 → BeginsNone S c → Never (Form S g) [] c
never_form S g c newline other m ([], e) = newline (first_is c 10 m [] e)
never_form S g c newline other m (i ∷ xs, (first, more, sp, e, reads)) = other g first more m i sp (sym e)

pub ended_item : {X : Type 0} (S : ℕ → List ℕ → X → Type 0) → IsSpelling S → (g from : ℕ) (t : List ℕ) → t ≡ [] → FailsItem S g from t (Ended from)
ended_item S is g from t e = record {
  fault = stops_form S g from t (Ended from) (subst (Prefix (Form S g)) (sym e) (prefix_form S g), subst (Bare (Form S g)) (sym e) (bare_form S is g), omega (arith, ap length e));
  no_item = λ of. subst (HasNoItem S g) (sym e) (no_item_empty S is g);
}

pub syntax_item : {X : Type 0} (S : ℕ → List ℕ → X → Type 0) → IsSpelling S → (g from c : ℕ) (o m : List ℕ) → o ≡ c ∷ m → c ≢ 10 → BeginsNone S c → FailsItem S g from o (Syntax from)
syntax_item S is g from c o m h newline other = record {
  fault = stops_form S g from o (Syntax from) ([], c, m, h, omega arith, prefix_form S g, bare_form S is g, λ g' le. never_form S g' c newline other);
  no_item = λ of first rest i sp e. other g first rest m i sp (sym e ∙ h);
}

pub fails_ended : (removals : Bool) (g from : ℕ) (t : List ℕ) → t ≡ [] → FailsEntry removals g from t (Ended from)
fails_ended true g from t e = ended_item SpellsChange changes g from t e
fails_ended false g from t e = ended_item Spells records g from t e

pub fails_syntax : (removals : Bool) (g from c : ℕ) (o m : List ℕ) → o ≡ c ∷ m → c ≢ 10 → c ≢ 43 → (removals ≡ true → c ≢ 45) → FailsEntry removals g from o (Syntax from)
fails_syntax true g from c o m h newline plus minus = syntax_item SpellsChange changes g from c o m h newline (λ g first x y i. no_change g c first x y i plus (minus refl))
fails_syntax false g from c o m h newline plus minus = syntax_item Spells records g from c o m h newline (λ g first x y r sp e. plus (head_of_spelled g c first x y r sp e))

pub ended_first : (removals : Bool) (g from : ℕ) (old new : Feed) → Keeps old new → IsAtEnd new → FromTo old new (λ t rest. FailsEntry removals g from t (Ended from))
ended_first removals g from old new kept end = from_all old new [] (λ t rest. FailsEntry removals g from t (Ended from)) kept end (fails_ended removals g from [] refl)

pub syntax_first : (removals : Bool) (g from c : ℕ) (old new : Feed) → Consumes old new (c ∷ []) → c ≢ 10 → c ≢ 43 → (removals ≡ true → c ≢ 45) → FromTo old new (λ t rest. FailsEntry removals g from t (Syntax from))
syntax_first removals g from c old new read newline plus minus = from_taken old new (c ∷ []) (λ t rest. FailsEntry removals g from t (Syntax from)) read (λ rest. fails_syntax removals g from c (c ∷ rest) rest refl newline plus minus)

-- after the mark that was read
pub mark_first : (P : List ℕ → TextFault → Type 0) (c : ℕ) (old mid new : Feed) (from at to : ℕ) (f : TextFault) → Consumes old mid (c ∷ []) → at ≡ from + 1 → at ≤ to
    → FromTo mid new (λ t rest. P (c ∷ seen at to f t) (told to f)) → FromTo old new (λ t rest. P (seen from to f t) (told to f))
mark_first P c old mid new from at to f read counted later h = fails_behind (λ t f. P (c ∷ t) f) P old mid new from at to (c ∷ []) f read counted later (λ t p. p) h

-- if nothing was read, nothing of a text was read
pub nothing_read : (removals : Bool) (g from : ℕ) → FailsEntry removals g from [] (Ended from)
nothing_read removals g from = fails_ended removals g from [] refl

-- what a fault says of all that was left, and of what was read of it
fault_of : {X : Type 0} (S : ℕ → List ℕ → X → Type 0) (g from to : ℕ) (text : List ℕ) (f : TextFault) → FailsItem S g from (seen from to f text) (told to f) → IsFaultOf S g from to text f
fault_of S g from to t (Syntax at) h = record { exact = h.fault; no_record = h.no_item; part = λ is. absurd is }
fault_of S g from to t (Ended at) h = record { exact = h.fault; no_record = h.no_item; part = λ is. absurd is }
fault_of S g from to t (Large at) h = record { exact = h.fault; no_record = h.no_item; part = λ is. absurd is }
fault_of S g from to t NoMemory h = record { exact = tt; no_record = λ is. absurd is; part = λ is. absurd is }
fault_of S g from to t Input h = record { exact = tt; no_record = λ is. absurd is; part = λ is. record { front = h.fault; no_record = h.no_item tt } }
fault_of S g from to t Endless h = record { exact = tt; no_record = λ is. absurd is; part = λ is. record { front = h.fault; no_record = h.no_item tt } }

pub met : {X : Type 0} (S : ℕ → List ℕ → X → Type 0) (g from to : ℕ) (old new : Feed) (f : TextFault) → FromTo old new (λ t rest. FailsItem S g from (seen from to f t) (told to f)) → FromTo old new (λ t rest. IsFaultOf S g from to t f)
met S g from to old new f h = from_weaker old new _ _ h (λ t rest. fault_of S g from to t f)
