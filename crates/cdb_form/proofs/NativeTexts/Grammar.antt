-- Prefixes of texts, part by part.
use Rattle.cdb_form.proofs.Words.{AllDigits, AreBytes, IsNumeral, List, [], ap, append_assoc, arith, digit_value, digits_push, digits_value, digits_value_push, length, length-append, length-replicate, lit<, refl, replicate, subst, sym, take, take_at, ℕ, ◌*◌, ◌++◌, ◌+◌, ◌-◌, ◌<◌, ◌∙◌, ◌∷◌, ◌≡◌, ◌≢◌, ◌≤◌}
use Rattle.std.proofs.lemmas.Str.Parse.{digits_value-take-le}
use Rattle.cdb_form.proofs.Bytes.ByteLemmas.{AreBytes-append, AreBytes-replicate}

-- s can go on to a text of L; no prefix of s is one; s followed by c can't go on to one
abbrev pub Prefix : (List ℕ → Type 0) → List ℕ → Type 0
Prefix L s = (m : List ℕ) × L (s ++ m)

abbrev pub Bare : (List ℕ → Type 0) → List ℕ → Type 0
Bare L s = (u v : List ℕ) → L u → s ≡ u ++ v → ⊥

abbrev pub Never : (List ℕ → Type 0) → List ℕ → ℕ → Type 0
Never L s c = (m : List ℕ) → L (s ++ c ∷ m) → ⊥

-- ---- a byte, and then K
abbrev pub Lit : ℕ → (List ℕ → Type 0) → List ℕ → Type 0
Lit c K t = (m : List ℕ) × (t ≡ c ∷ m) × K m

pub prefix_lit : (c : ℕ) (K : List ℕ → Type 0) (s : List ℕ) → Prefix K s → Prefix (Lit c K) (c ∷ s)
prefix_lit c K s f = (f.0, (s ++ f.0, refl, f.1))

pub prefix_lit_none : (c : ℕ) (K : List ℕ → Type 0) → Prefix K [] → Prefix (Lit c K) []
prefix_lit_none c K f = (c ∷ f.0, (f.0, refl, f.1))

pub bare_lit : (c : ℕ) (K : List ℕ → Type 0) (s : List ℕ) → Bare K s → Bare (Lit c K) (c ∷ s)
bare_lit c K s b u v (m, e, k) h = b m v k (let h' : c ∷ s ≡ c ∷ (m ++ v) = h ∙ ap (λ t. t ++ v) e in cc)

pub bare_lit_none : (c : ℕ) (K : List ℕ → Type 0) → Bare (Lit c K) []
bare_lit_none c K u v (m, e, k) h = let h' : [] ≡ c ∷ (m ++ v) = h ∙ ap (λ t. t ++ v) e in cc

pub never_lit : (c d : ℕ) (K : List ℕ → Type 0) (s : List ℕ) → Never K s d → Never (Lit c K) (c ∷ s) d
never_lit c d K s n m (t, e, k) = n m (let h : s ++ d ∷ m ≡ t = cc in subst K (sym h) k)

pub never_lit_none : (c d : ℕ) (K : List ℕ → Type 0) → d ≢ c → Never (Lit c K) [] d
never_lit_none c d K n m (t, e, k) = n (let h : d ∷ m ≡ c ∷ t = e in cc)

-- ---- n bytes, and then K
abbrev pub Bulk : ℕ → (List ℕ → Type 0) → List ℕ → Type 0
Bulk n K t = (v : List ℕ) × (m : List ℕ) × (length v ≡ n) × AreBytes v × (t ≡ v ++ m) × K m

-- prefixes of one length are one
pub same_prefixes : (a b x y : List ℕ) → length a ≡ length b → a ++ x ≡ b ++ y → (a ≡ b) × (x ≡ y)
same_prefixes [] [] x y l e = (refl, e)
same_prefixes [] (b ∷ bx) x y l e = absurd (omega arith)
same_prefixes (a ∷ ax) [] x y l e = absurd (omega arith)
same_prefixes (a ∷ ax) (b ∷ bx) x y l e =
    let r = same_prefixes ax bx x y (omega arith) (let t : ax ++ x ≡ bx ++ y = cc in t) in
    let h : a ≡ b = cc in
    ((let i = r.0 in cc), r.1)

pub prefix_bulk : (n : ℕ) (K : List ℕ → Type 0) (v s : List ℕ) → length v ≡ n → AreBytes v → Prefix K s → Prefix (Bulk n K) (v ++ s)
prefix_bulk n K v s l are f = (f.0, (v, s ++ f.0, l, are, append_assoc v s f.0, f.1))

pub prefix_bulk_part : (n : ℕ) (K : List ℕ → Type 0) (v : List ℕ) → length v ≤ n → AreBytes v → Prefix K [] → Prefix (Bulk n K) v
prefix_bulk_part n K v l are f =
    let fill : List ℕ = replicate (n - length v) 0 in
    (fill ++ f.0, (v ++ fill, f.0, simp (length-append, length-replicate) (omega arith), AreBytes-append v fill are (AreBytes-replicate (n - length v) 0 (lit< tt)), sym (append_assoc v fill f.0), f.1))

pub bare_bulk : (n : ℕ) (K : List ℕ → Type 0) (v s : List ℕ) → length v ≡ n → Bare K s → Bare (Bulk n K) (v ++ s)
bare_bulk n K v s l b u w (v', m, l', are, e, k) h =
    b m w k (same_prefixes v v' s (m ++ w) (omega arith) (h ∙ ap (λ t. t ++ w) e ∙ append_assoc v' m w)).1

pub never_bulk : (n d : ℕ) (K : List ℕ → Type 0) (v s : List ℕ) → length v ≡ n → Never K s d → Never (Bulk n K) (v ++ s) d
never_bulk n d K v s l never m (v', t, l', are, e, k) =
    let same = same_prefixes v v' (s ++ d ∷ m) t (omega arith) (sym (append_assoc v s (d ∷ m)) ∙ e) in
    never m (subst K (sym same.1) k)

-- ---- a numeral of at most g and the byte c, and then K of its number
abbrev pub Num : ℕ → ℕ → (ℕ → List ℕ → Type 0) → List ℕ → Type 0
Num g c K t = (ds : List ℕ) × (m : List ℕ) × (n : ℕ) × IsNumeral ds n × (n ≤ g) × (t ≡ ds ++ c ∷ m) × K n m

-- digits end at the first byte that is none
pub same_digits : (a b x y : List ℕ) (c d : ℕ) → AllDigits 10 a → AllDigits 10 b → 10 ≤ digit_value c → 10 ≤ digit_value d → a ++ c ∷ x ≡ b ++ d ∷ y
    → (a ≡ b) × (c ≡ d) × (x ≡ y)
same_digits [] [] x y c d da db nc nd e = (refl, (let h : c ∷ x ≡ d ∷ y = e in cc), (let h : c ∷ x ≡ d ∷ y = e in cc))
same_digits [] (b ∷ bx) x y c d da db nc nd e = let h : c ≡ b = cc in absurd (omega (arith, ap digit_value h, db.0))
same_digits (a ∷ ax) [] x y c d da db nc nd e = let h : a ≡ d = cc in absurd (omega (arith, ap digit_value h, da.0))
same_digits (a ∷ ax) (b ∷ bx) x y c d da db nc nd e =
    let r = same_digits ax bx x y c d da.1 db.1 nc nd (let t : ax ++ c ∷ x ≡ bx ++ d ∷ y = cc in t) in
    let h : a ≡ b = cc in
    ((let i = r.0 in cc), r.1, r.2)

-- digits at the start of digits that end at c are a prefix of them
pub prefix_digits : (a b x y : List ℕ) (c : ℕ) → AllDigits 10 a → 10 ≤ digit_value c → a ++ x ≡ b ++ c ∷ y → (z : List ℕ) × (b ≡ a ++ z)
prefix_digits [] b x y c da nc e = (b, refl)
prefix_digits (a ∷ ax) [] x y c da nc e = let h : a ≡ c = cc in absurd (omega (arith, ap digit_value h, da.0))
prefix_digits (a ∷ ax) (b ∷ bx) x y c da nc e =
    let r = prefix_digits ax bx x y c da.1 nc (let t : ax ++ x ≡ bx ++ c ∷ y = cc in t) in
    let h : a ≡ b = cc in
    (r.0, (let i = r.1 in cc))

-- each byte of digits is a digit
pub digit_within : (a : List ℕ) (c : ℕ) (x : List ℕ) → AllDigits 10 (a ++ c ∷ x) → digit_value c < 10
digit_within [] c x d = d.0
digit_within (a ∷ ax) c x d = digit_within ax c x d.1

pub prefix_num : (g c n : ℕ) (K : ℕ → List ℕ → Type 0) (ds s : List ℕ) → IsNumeral ds n → n ≤ g → Prefix (K n) s → Prefix (Num g c K) (ds ++ c ∷ s)
prefix_num g c n K ds s i l f = (f.0, (ds, s ++ f.0, n, i, l, append_assoc ds (c ∷ s) f.0, f.1))

pub prefix_num_part : (g c : ℕ) (K : ℕ → List ℕ → Type 0) (ds : List ℕ) → AllDigits 10 ds → digits_value 10 ds ≤ g → ((n : ℕ) → Prefix (K n) []) → Prefix (Num g c K) ds
prefix_num_part g c K [] d l f = let z : IsNumeral (48 ∷ []) 0 = record { some = lit< tt; each = (lit< tt, tt); value = refl } in
    (48 ∷ c ∷ (f 0).0, (48 ∷ [], (f 0).0, 0, z, omega arith, refl, (f 0).1))
prefix_num_part g c K (x ∷ ds) d l f =
    let n = digits_value 10 (x ∷ ds) in
    (c ∷ (f n).0, (x ∷ ds, (f n).0, n, record { some = omega arith; each = d; value = refl }, l, refl, (f n).1))

pub bare_num : (g c n : ℕ) (K : ℕ → List ℕ → Type 0) (ds s : List ℕ) → IsNumeral ds n → 10 ≤ digit_value c → Bare (K n) s → Bare (Num g c K) (ds ++ c ∷ s)
bare_num g c n K ds s i nc b u v (ds', m, n', i', l, e, k) h =
    let same = same_digits ds ds' s (m ++ v) c c i.each i'.each nc nc (h ∙ ap (λ t. t ++ v) e ∙ append_assoc ds' (c ∷ m) v) in
    let number : n' ≡ n = sym i'.value ∙ ap (digits_value 10) (sym same.0) ∙ i.value in
    b m v (subst (λ (j : ℕ). K j m) number k) same.2

pub bare_num_part : (g c : ℕ) (K : ℕ → List ℕ → Type 0) (ds : List ℕ) → AllDigits 10 ds → 10 ≤ digit_value c → Bare (Num g c K) ds
bare_num_part g c K ds d nc u v (ds', m, n', i', l, e, k) h =
    let split : ds ≡ ds' ++ c ∷ (m ++ v) = h ∙ ap (λ t. t ++ v) e ∙ append_assoc ds' (c ∷ m) v in
    omega (arith, digit_within ds' c (m ++ v) (subst (AllDigits 10) split d))

pub never_num : (g c d n : ℕ) (K : ℕ → List ℕ → Type 0) (ds s : List ℕ) → IsNumeral ds n → 10 ≤ digit_value c → Never (K n) s d → Never (Num g c K) (ds ++ c ∷ s) d
never_num g c d n K ds s i nc never m (ds', t, n', i', l, e, k) =
    let same = same_digits ds ds' (s ++ d ∷ m) t c c i.each i'.each nc nc (sym (append_assoc ds (c ∷ s) (d ∷ m)) ∙ e) in
    let number : n' ≡ n = sym i'.value ∙ ap (digits_value 10) (sym same.0) ∙ i.value in
    never m (subst (K n) (sym same.2) (subst (λ (j : ℕ). K j t) number k))

pub never_num_bad : (g c d : ℕ) (K : ℕ → List ℕ → Type 0) (ds : List ℕ) → AllDigits 10 ds → 10 ≤ digit_value c → 10 ≤ digit_value d → (d ≡ c → length ds ≡ 0) → Never (Num g c K) ds d
never_num_bad g c d K ds da nc nd other m (ds', t, n', i', l, e, k) =
    let same = same_digits ds ds' m t d c da i'.each nd nc e in
    omega (arith, other same.1, ap length same.0, i'.some)

pub never_num_large : (g c d : ℕ) (K : ℕ → List ℕ → Type 0) (ds : List ℕ) → AllDigits 10 ds → 10 ≤ digit_value c → digit_value d < 10 → g < digits_value 10 ds * 10 + digit_value d → Never (Num g c K) ds d
never_num_large g c d K ds da nc dd large m (ds', t, n', i', l, e, k) =
    let longer = prefix_digits (ds ++ d ∷ []) ds' m t c (digits_push 10 ds d da dd) nc (append_assoc ds (d ∷ []) m ∙ e) in
    let least = digits_value-take-le 10 ds' (length (ds ++ d ∷ [])) (omega arith) in
    let front : take (length (ds ++ d ∷ [])) ds' ≡ ds ++ d ∷ [] = ap (take (length (ds ++ d ∷ []))) longer.1 ∙ take_at (ds ++ d ∷ []) longer.0 _ refl in
    omega (arith, least, ap (digits_value 10) front, digits_value_push 10 ds d, i'.value)
