-- What bytes say as a text is what the relations of a text say of them.
use Rattle.std.proofs.Common.{◌≡◌, ◌⊎◌, ℕ, zero, suc, ◌+◌, ◌*◌, ◌<◌, ◌≤◌, ◌&&◌, ◌==◌, nat_lt, nat_le, true, false, List, [], ◌∷◌, ◌++◌, length, take, drop, map, refl, sym, ap, subst, ◌∙◌, arith, append_assoc, append-nil, length-append, length-take-le, take-append-drop, length-drop, Option, Some, None, Result, Ok, Err, inl, inr, codes, if◌then◌else◌}
use Rattle.std.proofs.lemmas.Bool.{cond_both, ltb-true, ltb-false, leb-true, leb-false, eqb-true, eqb-false, and_parts, and_cases, cases_lt}
use Rattle.std.proofs.lemmas.List.{map-append}
use Rattle.cdb_form.proofs.Words.{AllDigits, Change, FailsByte, FailsField, FailsItem, FailsNumber, IsNumeral, IsOfText, Putting, Removing, Spells, SpellsChange, SpellsKey, SpellsRemoval, TextFault, digit_value, digits_push, digits_value, digits_value_push}
use Rattle.cdb_form.specs.Format.{AreBytes, KeyValue, IsRecord, record_of}
use Rattle.cdb_form.specs.declared.text.fault.TextFault.TheVariants.{Syntax, Ended, Large, Input, Endless, NoMemory}
use Rattle.cdb_form.specs.Laws.Parse.{HoldsOf, IsParsed}
use Rattle.cdb_form.specs.Text.Form.{Spelled, Reads, HasNoItem, WholeItems, HasNoText, LongestPrefix, LiftsLength, HasFault}
use Rattle.cdb_form.specs.Text.Parse.{Part, Found, Stuck, followed, byte_part, field_part, number_part, record_part, removal_part, item_part, key_part, listed, Parsed, going_on, text_from, parse, parse_list}
use Rattle.cdb_form.proofs.Bytes.ByteLemmas.{AreBytes-take}
use Rattle.cdb_form.proofs.NativeTexts.KeyTexts.{keys, key_of_removal, listed_stops, listed_syntax}
use Rattle.cdb_form.proofs.NativeTexts.Spelling.{IsSpelling, records, changes}
use Rattle.cdb_form.proofs.NativeTexts.WholeForm.{fault_behind}
use Rattle.cdb_form.proofs.NativeTexts.Stops.{StopsAt, Starts, Any, prefix_any, Behind, BehindMinus, Rest1, Rest2, Rest4, Rest5, behind_angle, behind_key, behind_klen, behind_length, behind_vlen, angle_stops, ended_item, fails_ended, fails_syntax, key_stops, klen_stops, length_stops, record_stops, removal_stops, value_stops, vlen_stops}

-- ---- parts

-- what was found, or why nothing was
abbrev PartIs : {X : Type 0} → (X → ℕ → List ℕ → Type 0) → (TextFault → Type 0) → Part X → Type 0
PartIs P Q (Found x at rest) = P x at rest
PartIs P Q (Stuck f) = IsOfText f × Q f

followed_is : {X Y : Type 0} (P : X → ℕ → List ℕ → Type 0) (Q : TextFault → Type 0) (P' : Y → ℕ → List ℕ → Type 0) (Q' : TextFault → Type 0) (p : Part X) (next : X → ℕ → List ℕ → Part Y) → PartIs P Q p
    → ((x : X) (at : ℕ) (rest : List ℕ) → P x at rest → PartIs P' Q' (next x at rest)) → ((f : TextFault) → Q f → Q' f) → PartIs P' Q' (followed p next)
followed_is P Q P' Q' (Found x at rest) next h go stop = go x at rest h
followed_is P Q P' Q' (Stuck f) next h go stop = (h.0, stop f h.1)

weaker : {X : Type 0} (P : X → ℕ → List ℕ → Type 0) (Q : TextFault → Type 0) (P' : X → ℕ → List ℕ → Type 0) (Q' : TextFault → Type 0) (p : Part X) → PartIs P Q p
    → ((x : X) (at : ℕ) (rest : List ℕ) → P x at rest → P' x at rest) → ((f : TextFault) → Q f → Q' f) → PartIs P' Q' p
weaker P Q P' Q' (Found x at rest) h go stop = go x at rest h
weaker P Q P' Q' (Stuck f) h go stop = (h.0, stop f h.1)

-- bytes of which this holds were taken
record Took (Says : List ℕ → Type 0) (from : ℕ) (text : List ℕ) (to : ℕ) (rest : List ℕ) : Type 0 where
  first : List ℕ
  says : Says first
  text_is : text ≡ first ++ rest
  place : to ≡ from + length first

took_then : (A B C : List ℕ → Type 0) (from mid to : ℕ) (text more rest : List ℕ) → Took A from text mid more → Took B mid more to rest → ((x y : List ℕ) → A x → B y → C (x ++ y)) → Took C from text to rest
took_then A B C from mid to text more rest a b h = record {
  first = a.first ++ b.first;
  says = h a.first b.first a.says b.says;
  text_is = a.text_is ∙ ap (λ t. a.first ++ t) b.text_is ∙ sym (append_assoc a.first b.first rest);
  place = omega (arith, a.place, b.place, length-append a.first b.first);
}

bytes_behind : (xs ys : List ℕ) → AreBytes (xs ++ ys) → AreBytes ys
bytes_behind [] ys a = a
bytes_behind (x ∷ xs) ys a = bytes_behind xs ys (λ k. a (suc k))

took_bytes : (A : List ℕ → Type 0) (from to : ℕ) (text rest : List ℕ) → Took A from text to rest → AreBytes text → AreBytes rest
took_bytes A from to text rest t are = bytes_behind t.first rest (subst AreBytes t.text_is are)

-- a byte
abbrev IsByte : ℕ → List ℕ → Type 0
IsByte c x = x ≡ c ∷ []

byte_is : (c at : ℕ) (text : List ℕ) → PartIs (λ u to rest. Took (IsByte c) at text to rest) (FailsByte c at text) (byte_part c at text)
byte_is c at [] = (tt, (refl, refl))
byte_is c at (d ∷ text) =
    cond_both (d == c) (Found tt (at + 1) text) (Stuck (Syntax at)) (PartIs (λ u to rest. Took (IsByte c) at (d ∷ text) to rest) (FailsByte c at (d ∷ text)))
    (λ e. let same = eqb-true d c e in record { first = c ∷ []; says = refl; text_is = ap (λ x. x ∷ text) same; place = omega arith })
    (λ e. (tt, (d, text, refl, eqb-false d c e, refl)))

-- a field
abbrev IsField : (n c : ℕ) → List ℕ → List ℕ → Type 0
IsField n c v x = (length v ≡ n) × AreBytes v × (x ≡ v ++ c ∷ [])

field_there : (n c at : ℕ) (v left text : List ℕ) → length v ≡ n → AreBytes v → text ≡ v ++ left → 0 < length left
    → PartIs (λ x to rest. Took (IsField n c x) at text to rest) (FailsField n c at text) (followed (byte_part c (at + n) left) (λ _ at rest. Found v at rest))
field_there n c at v [] text l are e some = absurd (omega (arith, some))
field_there n c at v (d ∷ more) text l are e some =
    cond_both (d == c) (Found tt (at + n + 1) more) (Stuck (Syntax (at + n)))
    (λ p. PartIs (λ x to rest. Took (IsField n c x) at text to rest) (FailsField n c at text) (followed p (λ _ at rest. Found v at rest)))
    (λ q. let same = eqb-true d c q in record {
      first = v ++ c ∷ [];
      says = (l, are, refl);
      text_is = e ∙ ap (λ x. v ++ x ∷ more) same ∙ sym (append_assoc v (c ∷ []) more);
      place = omega (arith, l, length-append v (c ∷ []));
    })
    (λ q. (tt, (record { bytes = v; other = d; rest = more; are = are; long = l; text_is = e; differs = eqb-false d c q }, refl)))

field_is : (n c at : ℕ) (text : List ℕ) → AreBytes text → PartIs (λ x to rest. Took (IsField n c x) at text to rest) (FailsField n c at text) (field_part n c at text)
field_is n c at text are =
    cond_both (nat_le (length text) n) (Stuck (Ended (at + length text))) (followed (byte_part c (at + n) (drop n text)) (λ _ at rest. Found (take n text) at rest))
    (PartIs (λ x to rest. Took (IsField n c x) at text to rest) (FailsField n c at text))
    (λ e. (tt, (are, leb-true (length text) n e, refl)))
    (λ e. let more = leb-false (length text) n e in
    field_there n c at (take n text) (drop n text) text (length-take-le n text (omega (arith, more))) (AreBytes-take n text are) (sym (take-append-drop n text)) (omega (arith, more, length-drop n text)))

-- a number
abbrev IsNumber : (g c n : ℕ) → List ℕ → Type 0
IsNumber g c n x = (ds : List ℕ) × IsNumeral ds n × (n ≤ g) × (x ≡ ds ++ c ∷ [])

number_stops : (g c start at d : ℕ) (ds text : List ℕ) → AllDigits 10 ds → digits_value 10 ds ≤ g → at ≡ start + length ds → 10 ≤ digit_value d
    → PartIs (λ n to rest. Took (IsNumber g c n) start (ds ++ d ∷ text) to rest) (FailsNumber g c start (ds ++ d ∷ text)) (if (d == c) && nat_lt start at then Found (digits_value 10 ds) (at + 1) text else Stuck (Syntax at))
number_stops g c start at d ds text all fits place other =
    cond_both ((d == c) && nat_lt start at) (Found (digits_value 10 ds) (at + 1) text) (Stuck (Syntax at))
    (PartIs (λ n to rest. Took (IsNumber g c n) start (ds ++ d ∷ text) to rest) (FailsNumber g c start (ds ++ d ∷ text)))
    (λ e. let both = and_parts (d == c) (nat_lt start at) e in
    let same = eqb-true d c both.0 in
    let later = ltb-true start at both.1 in
    record {
      first = ds ++ c ∷ [];
      says = (ds, record { some = omega (arith, later, place); each = all; value = refl }, fits, refl);
      text_is = ap (λ x. ds ++ x ∷ text) same ∙ sym (append_assoc ds (c ∷ []) text);
      place = omega (arith, place, length-append ds (c ∷ []));
    })
    (λ e. (
      tt,
      (
        d,
        length ds,
        record { digits = ds; rest = text; each = all; fits = fits; long = refl; text_is = refl; lifts = λ h. omega (arith, h, other) },
        place,
        other,
        λ same. elim (and_cases (d == c) (nat_lt start at) e) [
          | inl differs ↦ absurd (eqb-false d c differs same)
          | inr early ↦ (let h = ltb-false start at early in omega (arith, h, place))
        ],
      ),
    ))

number_from : (g c start at : ℕ) (ds text : List ℕ) → AllDigits 10 ds → digits_value 10 ds ≤ g → at ≡ start + length ds
    → PartIs (λ n to rest. Took (IsNumber g c n) start (ds ++ text) to rest) (FailsNumber g c start (ds ++ text)) (number_part g c start (digits_value 10 ds) at text)
number_from g c start at ds [] all fits place =
    let same : ds ++ [] ≡ ds = append-nil ds in
    (tt, (subst (AllDigits 10) (sym same) all, omega (arith, fits, ap (digits_value 10) same), omega (arith, place, ap length same)))
number_from g c start at ds (d ∷ text) all fits place =
    let value : ℕ = digits_value 10 ds in
    let more : ℕ = value * 10 + digit_value d in
    let P : Part ℕ → Type 0 = PartIs (λ n to rest. Took (IsNumber g c n) start (ds ++ d ∷ text) to rest) (FailsNumber g c start (ds ++ d ∷ text)) in
    cond_both (nat_lt (digit_value d) 10) (if nat_le more g then number_part g c start more (at + 1) text else Stuck (Large at)) (if (d == c) && nat_lt start at then Found value (at + 1) text else Stuck (Syntax at)) P
    (λ e. let digit = ltb-true (digit_value d) 10 e in
    cond_both (nat_le more g) (number_part g c start more (at + 1) text) (Stuck (Large at)) P
    (λ f. let pushed : digits_value 10 (ds ++ d ∷ []) ≡ more = digits_value_push 10 ds d in
    let small = leb-true more g f in
    let h = number_from g c start (at + 1) (ds ++ d ∷ []) text (digits_push 10 ds d all digit) (omega (arith, pushed, small)) (omega (arith, place, length-append ds (d ∷ []))) in
    subst (λ (v : ℕ). P (number_part g c start v (at + 1) text)) pushed
    (subst (λ whole. PartIs (λ n to rest. Took (IsNumber g c n) start whole to rest) (FailsNumber g c start whole) (number_part g c start (digits_value 10 (ds ++ d ∷ [])) (at + 1) text)) (append_assoc ds (d ∷ []) text) h))
    (λ f. (tt, (d, length ds, record { digits = ds; rest = text; each = all; fits = fits; long = refl; text_is = refl; lifts = λ _. leb-false more g f }, place, digit))))
    (λ e. number_stops g c start at d ds text all fits place (ltb-false (digit_value d) 10 e))

number_is : (g c at : ℕ) (text : List ℕ) → PartIs (λ n to rest. Took (IsNumber g c n) at text to rest) (FailsNumber g c at text) (number_part g c at 0 at text)
number_is g c at text = number_from g c at at [] text tt (omega arith) (omega arith)

-- ---- a record after its plus, from its last part on; F is what is to follow it

abbrev IsValue : (n : ℕ) → (key : List ℕ) → KeyValue → List ℕ → Type 0
IsValue n key r x = (r.key ≡ key) × IsField n 10 r.value x

value_is : (F : ℕ → List ℕ → Type 0) (s : Starts F) (g n : ℕ) (key : List ℕ) (at : ℕ) (text : List ℕ) → AreBytes text
    → PartIs (λ r to rest. Took (IsValue n key r) at text to rest) (StopsAt (Rest5 F n) g at text) (followed (field_part n 10 at text) (λ value at rest. Found (record_of key value) at rest))
value_is F s g n key at text are =
    followed_is (λ x to rest. Took (IsField n 10 x) at text to rest) (FailsField n 10 at text) _ (StopsAt (Rest5 F n) g at text) (field_part n 10 at text) _ (field_is n 10 at text are)
    (λ x to rest t. record { first = t.first; says = (refl, t.says); text_is = t.text_is; place = t.place })
    (λ f h. value_stops F g n at text f s h)

abbrev IsAngle : (n : ℕ) → (key : List ℕ) → KeyValue → List ℕ → Type 0
IsAngle n key r x = (y : List ℕ) × IsValue n key r y × (x ≡ 62 ∷ y)

angle_is : (F : ℕ → List ℕ → Type 0) (s : Starts F) (g n : ℕ) (key : List ℕ) (at : ℕ) (text : List ℕ) → AreBytes text
    → PartIs (λ r to rest. Took (IsAngle n key r) at text to rest) (StopsAt (Rest4 F n) g at text)
    (followed (byte_part 62 at text) (λ _ at text. followed (field_part n 10 at text) (λ value at rest. Found (record_of key value) at rest)))
angle_is F s g n key at text are =
    followed_is (λ u to rest. Took (IsByte 62) at text to rest) (FailsByte 62 at text) _ (StopsAt (Rest4 F n) g at text) (byte_part 62 at text) _ (byte_is 62 at text)
    (λ u mid more t. weaker (λ r to rest. Took (IsValue n key r) mid more to rest) (StopsAt (Rest5 F n) g mid more) _ (StopsAt (Rest4 F n) g at text) _
    (value_is F s g n key mid more (took_bytes _ at mid text more t are))
    (λ r to rest v. took_then (IsByte 62) (IsValue n key r) (IsAngle n key r) at mid to text more rest t v (λ x y is says. (y, says, ap (λ z. z ++ y) is)))
    (λ f h. behind_angle F g n at mid text more f (t.place ∙ ap (λ x. at + length x) t.says) (t.text_is ∙ ap (λ x. x ++ more) t.says) h))
    (λ f h. angle_stops F g n at text f s h)

abbrev IsKey : (k n : ℕ) → KeyValue → List ℕ → Type 0
IsKey k n r x = (y z : List ℕ) × IsField k 45 r.key y × IsAngle n r.key r z × (x ≡ y ++ z)

key_is : (F : ℕ → List ℕ → Type 0) (s : Starts F) (g k n at : ℕ) (text : List ℕ) → AreBytes text
    → PartIs (λ r to rest. Took (IsKey k n r) at text to rest) (StopsAt (Rest2 F k n) g at text)
    (followed (field_part k 45 at text) (λ key at text. followed (byte_part 62 at text) (λ _ at text. followed (field_part n 10 at text) (λ value at rest. Found (record_of key value) at rest))))
key_is F s g k n at text are =
    followed_is (λ x to rest. Took (IsField k 45 x) at text to rest) (FailsField k 45 at text) _ (StopsAt (Rest2 F k n) g at text) (field_part k 45 at text) _ (field_is k 45 at text are)
    (λ key mid more t. weaker (λ r to rest. Took (IsAngle n key r) mid more to rest) (StopsAt (Rest4 F n) g mid more) _ (StopsAt (Rest2 F k n) g at text) _
    (angle_is F s g n key mid more (took_bytes _ at mid text more t are))
    (λ r to rest v. took_then (IsField k 45 key) (IsAngle n key r) (IsKey k n r) at mid to text more rest t v
    (λ x y is says. (x, y, subst (λ q. IsField k 45 q x) (sym says.1.0) is, subst (λ q. IsAngle n q r y) (sym says.1.0) says, refl)))
    (λ f h. behind_key F g k n at mid text more key f t.says.0 t.says.1 (omega (arith, t.place, ap length t.says.2, length-append key (45 ∷ []), t.says.0)) (t.text_is ∙ ap (λ x. x ++ more) t.says.2) h))
    (λ f h. key_stops F g k n at text f s h)

abbrev IsVlen : (g k : ℕ) → KeyValue → List ℕ → Type 0
IsVlen g k r x = (n : ℕ) × (y z : List ℕ) × IsNumber g 58 n y × IsKey k n r z × (x ≡ y ++ z)

number_place : (g c n at mid : ℕ) (x : List ℕ) → (is : IsNumber g c n x) → mid ≡ at + length x → mid ≡ at + (length is.0 + 1)
number_place g c n at mid x (ds, is, fits, e) place = omega (arith, place, ap length e, length-append ds (c ∷ []))

vlen_is : (F : ℕ → List ℕ → Type 0) (s : Starts F) (g k at : ℕ) (text : List ℕ) → AreBytes text
    → PartIs (λ r to rest. Took (IsVlen g k r) at text to rest) (StopsAt (Rest1 F k) g at text)
    (followed (number_part g 58 at 0 at text) (λ n at text. followed (field_part k 45 at text) (λ key at text. followed (byte_part 62 at text) (λ _ at text. followed (field_part n 10 at text) (λ value at rest. Found (record_of key value) at rest)))))
vlen_is F s g k at text are =
    followed_is (λ n to rest. Took (IsNumber g 58 n) at text to rest) (FailsNumber g 58 at text) _ (StopsAt (Rest1 F k) g at text) (number_part g 58 at 0 at text) _ (number_is g 58 at text)
    (λ n mid more t. weaker (λ r to rest. Took (IsKey k n r) mid more to rest) (StopsAt (Rest2 F k n) g mid more) _ (StopsAt (Rest1 F k) g at text) _
    (key_is F s g k n mid more (took_bytes _ at mid text more t are))
    (λ r to rest v. took_then (IsNumber g 58 n) (IsKey k n r) (IsVlen g k r) at mid to text more rest t v (λ x y is says. (n, x, y, is, says, refl)))
    (λ f h. behind_vlen F g k n at mid text more t.says.0 f t.says.1 t.says.2 (number_place g 58 n at mid t.first t.says t.place) (t.text_is ∙ ap (λ x. x ++ more) t.says.3) h))
    (λ f h. vlen_stops F g k at text f s h)

abbrev IsBehindPlus : (g : ℕ) → KeyValue → List ℕ → Type 0
IsBehindPlus g r x = (k : ℕ) × (y z : List ℕ) × IsNumber g 44 k y × IsVlen g k r z × (x ≡ y ++ z)

record_is : (F : ℕ → List ℕ → Type 0) (s : Starts F) (g at : ℕ) (text : List ℕ) → AreBytes text → PartIs (λ r to rest. Took (IsBehindPlus g r) at text to rest) (StopsAt (Behind F) g at text) (record_part g at text)
record_is F s g at text are =
    followed_is (λ n to rest. Took (IsNumber g 44 n) at text to rest) (FailsNumber g 44 at text) _ (StopsAt (Behind F) g at text) (number_part g 44 at 0 at text) _ (number_is g 44 at text)
    (λ k mid more t. weaker (λ r to rest. Took (IsVlen g k r) mid more to rest) (StopsAt (Rest1 F k) g mid more) _ (StopsAt (Behind F) g at text) _
    (vlen_is F s g k mid more (took_bytes _ at mid text more t are))
    (λ r to rest v. took_then (IsNumber g 44 k) (IsVlen g k r) (IsBehindPlus g r) at mid to text more rest t v (λ x y is says. (k, x, y, is, says, refl)))
    (λ f h. behind_klen F g k at mid text more t.says.0 f t.says.1 t.says.2 (number_place g 44 k at mid t.first t.says t.place) (t.text_is ∙ ap (λ x. x ++ more) t.says.3) h))
    (λ f h. klen_stops F g at text f s h)

-- it spells the record
plus_spells : (g : ℕ) (r : KeyValue) (x : List ℕ) → IsBehindPlus g r x → Spells g (43 ∷ x) r
plus_spells g r x (k, x1, x2, (a, ia, la, ea), (n, x3, x4, (b, ib, lb, eb), (x5, x6, (lk, bk, ek), (x7, (same, (lv, bv, ev)), e7), e6), e4), e2) =
    let value : x7 ≡ r.value ++ 10 ∷ [] = ev in
    let angle : x6 ≡ 62 ∷ (r.value ++ 10 ∷ []) = e7 ∙ ap (λ z. 62 ∷ z) value in
    let whole : x ≡ (a ++ 44 ∷ []) ++ ((b ++ 58 ∷ []) ++ ((r.key ++ 45 ∷ []) ++ 62 ∷ (r.value ++ 10 ∷ []))) =
    e2 ∙ ap (λ z. z ++ x2) ea ∙ ap (λ z. (a ++ 44 ∷ []) ++ z) (e4 ∙ ap (λ z. z ++ x4) eb ∙ ap (λ z. (b ++ 58 ∷ []) ++ z) (e6 ∙ ap (λ z. z ++ x6) ek ∙ ap (λ z. (r.key ++ 45 ∷ []) ++ z) angle)) in
    let bytes : IsRecord r = record { key = bk; value = bv } in
    record {
      klen = a;
      vlen = b;
      klen_is = subst (IsNumeral a) (sym lk) ia;
      vlen_is = subst (IsNumeral b) (sym lv) ib;
      key_fits = omega (arith, la, lk);
      value_fits = omega (arith, lb, lv);
      bytes = bytes;
      text_is = ap (λ z. 43 ∷ z) whole ∙ (let flat : 43 ∷ ((a ++ 44 ∷ []) ++ ((b ++ 58 ∷ []) ++ ((r.key ++ 45 ∷ []) ++ 62 ∷ (r.value ++ 10 ∷ [])))) ≡ codes "+" ++ a ++ codes "," ++ b ++ codes ":" ++ r.key ++ codes "->" ++ r.value ++ codes "\n" = simp append_assoc refl in flat);
    }

-- ---- a removal after its minus

abbrev IsBehindMinus : (g : ℕ) → (key x : List ℕ) → Type 0
IsBehindMinus g key x = (k : ℕ) × (y z : List ℕ) × IsNumber g 58 k y × IsField k 10 key z × (x ≡ y ++ z)

removal_is : (F : ℕ → List ℕ → Type 0) (s : Starts F) (g at : ℕ) (text : List ℕ) → AreBytes text → PartIs (λ key to rest. Took (IsBehindMinus g key) at text to rest) (StopsAt (BehindMinus F) g at text) (removal_part g at text)
removal_is F s g at text are =
    followed_is (λ n to rest. Took (IsNumber g 58 n) at text to rest) (FailsNumber g 58 at text) _ (StopsAt (BehindMinus F) g at text) (number_part g 58 at 0 at text) _ (number_is g 58 at text)
    (λ k mid more t. weaker (λ x to rest. Took (IsField k 10 x) mid more to rest) (FailsField k 10 mid more) _ (StopsAt (BehindMinus F) g at text) _
    (field_is k 10 mid more (took_bytes _ at mid text more t are))
    (λ key to rest v. took_then (IsNumber g 58 k) (IsField k 10 key) (IsBehindMinus g key) at mid to text more rest t v (λ x y is says. (k, x, y, is, says, refl)))
    (λ f h. behind_length F g k at mid text more t.says.0 f t.says.1 t.says.2 (number_place g 58 k at mid t.first t.says t.place) (t.text_is ∙ ap (λ x. x ++ more) t.says.3) (value_stops F g k mid more f s h)))
    (λ f h. length_stops F g at text f s h)

minus_spells : (g : ℕ) (key x : List ℕ) → IsBehindMinus g key x → SpellsRemoval g (45 ∷ x) key
minus_spells g key x (k, x1, x2, (a, ia, la, ea), (lk, bk, ek), e2) =
    let whole : x ≡ (a ++ 58 ∷ []) ++ (key ++ 10 ∷ []) = e2 ∙ ap (λ z. z ++ x2) ea ∙ ap (λ z. (a ++ 58 ∷ []) ++ z) ek in
    record {
      klen = a;
      klen_is = subst (IsNumeral a) (sym lk) ia;
      key_fits = omega (arith, la, lk);
      bytes = bk;
      text_is = ap (λ z. 45 ∷ z) whole ∙ (let flat : 45 ∷ ((a ++ 58 ∷ []) ++ (key ++ 10 ∷ [])) ≡ codes "-" ++ a ++ codes ":" ++ key ++ codes "\n" = simp append_assoc refl in flat);
    }

-- ---- an item

-- an item was found, or the newline that ends the text
abbrev ItemIs : {X : Type 0} → (ℕ → List ℕ → X → Type 0) → (X → Change) → (g from : ℕ) → List ℕ → Option Change → ℕ → List ℕ → Type 0
ItemIs S inject g from text None to rest = text ≡ 10 ∷ rest
ItemIs {X = X} S inject g from text (Some item) to rest = (x : X) × (item ≡ inject x) × (from < to) × Took (λ first. S g first x) from text to rest

-- after its mark
marked : (A B : List ℕ → Type 0) (c from to : ℕ) (text rest : List ℕ) → Took A (from + 1) text to rest → ((x : List ℕ) → A x → B (c ∷ x)) → (from < to) × Took B from (c ∷ text) to rest
marked A B c from to text rest t h = (
  omega (arith, t.place),
  record { first = c ∷ t.first; says = h t.first t.says; text_is = ap (λ x. c ∷ x) t.text_is; place = omega (arith, t.place) },
)

-- whatever is to follow the item, it is there or not
whatever : {X Y : Type 0} (P : X → ℕ → List ℕ → Type 0) (B : (ℕ → List ℕ → Type 0) → ℕ → List ℕ → Type 0) (g at : ℕ) (text : List ℕ) (P' : Y → ℕ → List ℕ → Type 0) (Q' : TextFault → Type 0) (p : Part X) (next : X → ℕ → List ℕ → Part Y)
    → ((F : ℕ → List ℕ → Type 0) → Starts F → PartIs P (StopsAt (B F) g at text) p) → ((x : X) (to : ℕ) (rest : List ℕ) → P x to rest → PartIs P' Q' (next x to rest))
    → ((f : TextFault) → ((F : ℕ → List ℕ → Type 0) → Starts F → StopsAt (B F) g at text f) → Q' f) → PartIs P' Q' (followed p next)
whatever P B g at text P' Q' (Found x to rest) next h go stop = go x to rest (h Any prefix_any)
whatever P B g at text P' Q' (Stuck f) next h go stop = ((h Any prefix_any).0, stop f (λ F s. (h F s).1))

native_record : (g from : ℕ) (text : List ℕ) → AreBytes text
    → PartIs (ItemIs Spells Putting g from (43 ∷ text)) (FailsItem Spells g from (43 ∷ text)) (followed (record_part g (from + 1) text) (λ r at rest. Found (Some (Putting r)) at rest))
native_record g from text are =
    whatever (λ r to rest. Took (IsBehindPlus g r) (from + 1) text to rest) Behind g (from + 1) text _ _ (record_part g (from + 1) text) _ (λ F s. record_is F s g (from + 1) text are)
    (λ r to rest t. let m = marked (IsBehindPlus g r) (λ first. Spells g first r) 43 from to text rest t (plus_spells g r) in (r, refl, m.0, m.1))
    (λ f h. record_stops false g from (from + 1) text f refl h)

amending_record : (g from : ℕ) (text : List ℕ) → AreBytes text
    → PartIs (ItemIs SpellsChange (λ x. x) g from (43 ∷ text)) (FailsItem SpellsChange g from (43 ∷ text)) (followed (record_part g (from + 1) text) (λ r at rest. Found (Some (Putting r)) at rest))
amending_record g from text are =
    whatever (λ r to rest. Took (IsBehindPlus g r) (from + 1) text to rest) Behind g (from + 1) text _ _ (record_part g (from + 1) text) _ (λ F s. record_is F s g (from + 1) text are)
    (λ r to rest t. let m = marked (IsBehindPlus g r) (λ first. Spells g first r) 43 from to text rest t (plus_spells g r) in (Putting r, refl, m.0, m.1))
    (λ f h. record_stops true g from (from + 1) text f refl h)

amending_removal : (g from : ℕ) (text : List ℕ) → AreBytes text
    → PartIs (ItemIs SpellsChange (λ x. x) g from (45 ∷ text)) (FailsItem SpellsChange g from (45 ∷ text)) (followed (removal_part g (from + 1) text) (λ key at rest. Found (Some (Removing key)) at rest))
amending_removal g from text are =
    whatever (λ key to rest. Took (IsBehindMinus g key) (from + 1) text to rest) BehindMinus g (from + 1) text _ _ (removal_part g (from + 1) text) _ (λ F s. removal_is F s g (from + 1) text are)
    (λ key to rest t. let m = marked (IsBehindMinus g key) (λ first. SpellsRemoval g first key) 45 from to text rest t (minus_spells g key) in (Removing key, refl, m.0, m.1))
    (λ f h. removal_stops g from (from + 1) text f refl h)

native_item : (g from : ℕ) (text : List ℕ) → AreBytes text → PartIs (ItemIs Spells Putting g from text) (FailsItem Spells g from text) (item_part false g from text)
native_item g from [] are = (tt, fails_ended false g from [] refl)
native_item g from (c ∷ text) are =
    let P : Part (Option Change) → Type 0 = PartIs (ItemIs Spells Putting g from (c ∷ text)) (FailsItem Spells g from (c ∷ text)) in
    cond_both (c == 10) _ _ P
    (λ e. ap (λ x. x ∷ text) (eqb-true c 10 e))
    (λ newline. cond_both (c == 43) _ _ P
    (λ e. let is = eqb-true c 43 e in subst (λ d. PartIs (ItemIs Spells Putting g from (d ∷ text)) (FailsItem Spells g from (d ∷ text)) (followed (record_part g (from + 1) text) (λ r at rest. Found (Some (Putting r)) at rest))) (sym is) (native_record g from text (λ k. are (suc k))))
    (λ plus. (tt, fails_syntax false g from c (c ∷ text) text refl (eqb-false c 10 newline) (eqb-false c 43 plus) (λ no. absurd (let h : false ≡ true = no in cc)))))

amending_item : (g from : ℕ) (text : List ℕ) → AreBytes text → PartIs (ItemIs SpellsChange (λ x. x) g from text) (FailsItem SpellsChange g from text) (item_part true g from text)
amending_item g from [] are = (tt, fails_ended true g from [] refl)
amending_item g from (c ∷ text) are =
    let P : Part (Option Change) → Type 0 = PartIs (ItemIs SpellsChange (λ x. x) g from (c ∷ text)) (FailsItem SpellsChange g from (c ∷ text)) in
    cond_both (c == 10) _ _ P
    (λ e. ap (λ x. x ∷ text) (eqb-true c 10 e))
    (λ newline. cond_both (c == 43) _ _ P
    (λ e. subst (λ d. PartIs (ItemIs SpellsChange (λ x. x) g from (d ∷ text)) (FailsItem SpellsChange g from (d ∷ text)) (followed (record_part g (from + 1) text) (λ r at rest. Found (Some (Putting r)) at rest))) (sym (eqb-true c 43 e)) (amending_record g from text (λ k. are (suc k))))
    (λ plus. cond_both (c == 45) _ _ P
    (λ e. subst (λ d. PartIs (ItemIs SpellsChange (λ x. x) g from (d ∷ text)) (FailsItem SpellsChange g from (d ∷ text)) (followed (removal_part g (from + 1) text) (λ key at rest. Found (Some (Removing key)) at rest))) (sym (eqb-true c 45 e)) (amending_removal g from text (λ k. are (suc k))))
    (λ minus. (tt, fails_syntax true g from c (c ∷ text) text refl (eqb-false c 10 newline) (eqb-false c 43 plus) (λ _. eqb-false c 45 minus)))))

listed_key : (g from : ℕ) (text : List ℕ) → AreBytes text
    → PartIs (ItemIs SpellsKey listed g from (43 ∷ text)) (FailsItem SpellsKey g from (43 ∷ text)) (followed (removal_part g (from + 1) text) (λ key at rest. Found (Some (listed key)) at rest))
listed_key g from text are =
    whatever (λ key to rest. Took (IsBehindMinus g key) (from + 1) text to rest) BehindMinus g (from + 1) text _ _ (removal_part g (from + 1) text) _ (λ F s. removal_is F s g (from + 1) text are)
    (λ key to rest t. let m = marked (IsBehindMinus g key) (λ first. SpellsKey g first key) 43 from to text rest t (λ x says. key_of_removal (minus_spells g key x says)) in (key, refl, m.0, m.1))
    (λ f h. listed_stops g from (from + 1) text f refl h)

list_item : (g from : ℕ) (text : List ℕ) → AreBytes text → PartIs (ItemIs SpellsKey listed g from text) (FailsItem SpellsKey g from text) (key_part g from text)
list_item g from [] are = (tt, ended_item SpellsKey keys g from [] refl)
list_item g from (c ∷ text) are =
    let P : Part (Option Change) → Type 0 = PartIs (ItemIs SpellsKey listed g from (c ∷ text)) (FailsItem SpellsKey g from (c ∷ text)) in
    cond_both (c == 10) _ _ P
    (λ e. ap (λ x. x ∷ text) (eqb-true c 10 e))
    (λ newline. cond_both (c == 43) _ _ P
    (λ e. subst (λ d. PartIs (ItemIs SpellsKey listed g from (d ∷ text)) (FailsItem SpellsKey g from (d ∷ text)) (followed (removal_part g (from + 1) text) (λ key at rest. Found (Some (listed key)) at rest))) (sym (eqb-true c 43 e)) (listed_key g from text (λ k. are (suc k))))
    (λ plus. (tt, listed_syntax g from c text (eqb-false c 10 newline) (eqb-false c 43 plus))))

-- ---- a whole text

-- what ends it
abbrev EndsAs : {X : Type 0} → (ℕ → List ℕ → X → Type 0) → (g from : ℕ) → (text rest : List ℕ) → Result (List ℕ) TextFault → Type 0
EndsAs S g from text rest (Ok more) = rest ≡ 10 ∷ more
EndsAs S g from text rest (Err f) = IsOfText f × HasFault S g from text f

-- its items are all that are whole, and it ends so
record ReadsAs {X : Type 0} (S : ℕ → List ℕ → X → Type 0) (inject : X → Change) (g from : ℕ) (text : List ℕ) (p : Parsed) : Type 0 where
  xs : List X
  items : p.items ≡ map inject xs
  rest : List ℕ
  whole : WholeItems S g text xs rest
  ends : EndsAs S g from text rest p.ends

one_more : {X : Type 0} (S : ℕ → List ℕ → X → Type 0) → IsSpelling S → (g from to : ℕ) (text rest last : List ℕ) (x : X) (e : Result (List ℕ) TextFault) → (t : Took (λ first. S g first x) from text to rest) → EndsAs S g to rest last e → EndsAs S g from text last e
one_more S s g from to text rest last x (Ok more) t h = h
one_more S s g from to text rest last x (Err f) t h =
    (h.0, fault_behind S s g (x ∷ []) from to text rest f (t.first, rest, t.says, t.text_is, refl) (omega (arith, t.place, ap length t.text_is, length-append t.first rest)) h.1)

item_read : {X : Type 0} (S : ℕ → List ℕ → X → Type 0) → IsSpelling S → (inject : X → Change) (g from to : ℕ) (text rest : List ℕ) (x : X) (p : Parsed) → Took (λ first. S g first x) from text to rest → ReadsAs S inject g to rest p
    → ReadsAs S inject g from text (record { items = inject x ∷ p.items; ends = p.ends })
item_read S s inject g from to text rest x p t h = record {
  xs = x ∷ h.xs;
  items = ap (λ ys. inject x ∷ ys) h.items;
  rest = h.rest;
  whole = record { spelled = (t.first, rest, t.says, t.text_is, h.whole.spelled); no_more = h.whole.no_more };
  ends = one_more S s g from to text rest h.rest x p.ends t h.ends;
}

-- the text from an item on
goes_on : {X : Type 0} (S : ℕ → List ℕ → X → Type 0) → IsSpelling S → (inject : X → Change) (g from : ℕ) (text : List ℕ) (p : Part (Option Change)) (go : ℕ → List ℕ → Parsed) → PartIs (ItemIs S inject g from text) (FailsItem S g from text) p
    → ((to : ℕ) (rest : List ℕ) → length rest < length text → AreBytes rest → ReadsAs S inject g to rest (go to rest)) → AreBytes text → ReadsAs S inject g from text (going_on p go)
goes_on S s inject g from text (Found (Some item) to rest) go (x, is, later, t) h are =
    subst (λ i. ReadsAs S inject g from text (record { items = i ∷ (go to rest).items; ends = (go to rest).ends })) (sym is)
    (item_read S s inject g from to text rest x (go to rest) t (h to rest (omega (arith, later, t.place, ap length t.text_is, length-append t.first rest)) (took_bytes _ from to text rest t are)))
goes_on S s inject g from text (Found None to rest) go e h are = record {
  xs = [];
  items = refl;
  rest = text;
  whole = record { spelled = refl; no_more = λ first more x sp same. s.newline g first more rest x sp (sym same ∙ e) };
  ends = e;
}
goes_on S s inject g from text (Stuck f) go (of, fails) h are = record {
  xs = [];
  items = refl;
  rest = text;
  whole = record { spelled = refl; no_more = fails.no_item of };
  ends = (of, fails.fault);
}

text_reads : {X : Type 0} (S : ℕ → List ℕ → X → Type 0) → IsSpelling S → (inject : X → Change) (part : (at : ℕ) → List ℕ → Part (Option Change)) (g most from : ℕ) (text : List ℕ)
    → ((from : ℕ) (text : List ℕ) → AreBytes text → PartIs (ItemIs S inject g from text) (FailsItem S g from text) (part from text))
    → length text < most → AreBytes text → ReadsAs S inject g from text (text_from part most from text)
unfolding text_from
text_reads S s inject part g zero from text item few are = absurd (omega (arith, few))
text_reads S s inject part g (suc most) from text item few are =
    goes_on S s inject g from text (part from text) (λ at rest. text_from part most at rest) (item from text are)
    (λ to rest less bytes. text_reads S s inject part g most to rest item (omega (arith, less, few)) bytes) are

native_reads : (g : ℕ) (text : List ℕ) → AreBytes text → ReadsAs Spells Putting g 0 text (parse false g text)
native_reads g text are = text_reads Spells records Putting (item_part false g) g (suc (length text)) 0 text (native_item g) (omega arith) are

amending_reads : (g : ℕ) (text : List ℕ) → AreBytes text → ReadsAs SpellsChange (λ x. x) g 0 text (parse true g text)
amending_reads g text are = text_reads SpellsChange changes (λ x. x) (item_part true g) g (suc (length text)) 0 text (amending_item g) (omega arith) are

list_reads : (g : ℕ) (text : List ℕ) → AreBytes text → ReadsAs SpellsKey listed g 0 text (parse_list g text)
list_reads g text are = text_reads SpellsKey keys listed (key_part g) g (suc (length text)) 0 text (list_item g) (omega arith) are

-- ---- the relations say it of nothing else

le_or_lt : (p q : ℕ) → (p ≤ q) ⊎ (q < p)
le_or_lt p q = elim (cases_lt q p) [ inl lt ↦ inr lt | inr le ↦ inl le ]

same_items : {X : Type 0} (S : ℕ → List ℕ → X → Type 0) → IsSpelling S → (g : ℕ) (xs ys : List X) (t a b : List ℕ) → Spelled S g xs t a → HasNoItem S g a → Spelled S g ys t b → HasNoItem S g b → (xs ≡ ys) × (a ≡ b)
same_items S s g [] [] t a b e na e' nb = (refl, sym e ∙ e')
same_items S s g [] (y ∷ ys) t a b e na (first, more, sp, e', left) nb = absurd (na first more y sp (sym e ∙ e'))
same_items S s g (x ∷ xs) [] t a b (first, more, sp, e, left) na e' nb = absurd (nb first more x sp (sym e' ∙ e))
same_items S s g (x ∷ xs) (y ∷ ys) t a b (first, more, sp, e, left) na (first', more', sp', e', left') nb =
    let same = s.alone g g first first' more more' x y sp sp' (sym e ∙ e') in
    let rest = same_items S s g xs ys more a b left na (subst (λ m. Spelled S g ys m b) (sym same.1) left') nb in
    ((let h = same.0 in let k = rest.0 in cc), rest.1)

first_items : {X : Type 0} (S : ℕ → List ℕ → X → Type 0) → IsSpelling S → (g : ℕ) (xs ys : List X) (t a b : List ℕ) → Spelled S g xs t a → Spelled S g ys t b → HasNoItem S g b → (more : List X) × (ys ≡ xs ++ more)
first_items S s g [] ys t a b e e' nb = (ys, refl)
first_items S s g (x ∷ xs) [] t a b (first, more, sp, e, left) e' nb = absurd (nb first more x sp (sym e' ∙ e))
first_items S s g (x ∷ xs) (y ∷ ys) t a b (first, more, sp, e, left) (first', more', sp', e', left') nb =
    let same = s.alone g g first first' more more' x y sp sp' (sym e ∙ e') in
    let rest = first_items S s g xs ys more a b left (subst (λ m. Spelled S g ys m b) (sym same.1) left') nb in
    (rest.0, (let h = same.0 in let k = rest.1 in cc))

same_longest : {X : Type 0} (S : ℕ → List ℕ → X → Type 0) (g p q : ℕ) (t : List ℕ) → LongestPrefix S g t p → LongestPrefix S g t q → p ≡ q
same_longest S g p q t a b = elim (le_or_lt p q) [
  | inl le ↦ elim (le_or_lt q p) [ inl ge ↦ omega (arith, le, ge) | inr lt ↦ absurd (a.longest q lt b.within b.front) ]
  | inr lt ↦ absurd (b.longest p lt a.within a.front)
]

same_fault : {X : Type 0} (S : ℕ → List ℕ → X → Type 0) (g from : ℕ) (t : List ℕ) (f f' : TextFault) → IsOfText f → IsOfText f' → HasFault S g from t f → HasFault S g from t f' → f ≡ f'
same_fault S g from t (Ended at) (Ended at') is is' (none, a, e) (none', b, e') = ap (λ (n : ℕ). Ended n) (e ∙ sym e')
same_fault S g from t (Ended at) (Large at') is is' (none, a, e) (q, none', b, within, lifts, e') = absurd (let h = same_longest S g (length t) q t a b in omega (arith, h, within))
same_fault S g from t (Ended at) (Syntax at') is is' (none, a, e) (q, none', b, within, lifts, e') = absurd (let h = same_longest S g (length t) q t a b in omega (arith, h, within))
same_fault S g from t (Ended at) Input is is' a b = absurd is'
same_fault S g from t (Ended at) Endless is is' a b = absurd is'
same_fault S g from t (Ended at) NoMemory is is' a b = absurd is'
same_fault S g from t (Large at) (Ended at') is is' (p, none, a, within, lifts, e) (none', b, e') = absurd (let h = same_longest S g p (length t) t a b in omega (arith, h, within))
same_fault S g from t (Large at) (Large at') is is' (p, none, a, within, lifts, e) (q, none', b, within', lifts', e') = ap (λ (n : ℕ). Large n) (let h = same_longest S g p q t a b in omega (arith, h, e, e'))
same_fault S g from t (Large at) (Syntax at') is is' (p, none, a, within, lifts, e) (q, none', b, within', lifts', e') = absurd (lifts' (subst (LiftsLength S g t) (same_longest S g p q t a b) lifts))
same_fault S g from t (Large at) Input is is' a b = absurd is'
same_fault S g from t (Large at) Endless is is' a b = absurd is'
same_fault S g from t (Large at) NoMemory is is' a b = absurd is'
same_fault S g from t (Syntax at) (Ended at') is is' (p, none, a, within, lifts, e) (none', b, e') = absurd (let h = same_longest S g p (length t) t a b in omega (arith, h, within))
same_fault S g from t (Syntax at) (Large at') is is' (p, none, a, within, lifts, e) (q, none', b, within', lifts', e') = absurd (lifts (subst (LiftsLength S g t) (sym (same_longest S g p q t a b)) lifts'))
same_fault S g from t (Syntax at) (Syntax at') is is' (p, none, a, within, lifts, e) (q, none', b, within', lifts', e') = ap (λ (n : ℕ). Syntax n) (let h = same_longest S g p q t a b in omega (arith, h, e, e'))
same_fault S g from t (Syntax at) Input is is' a b = absurd is'
same_fault S g from t (Syntax at) Endless is is' a b = absurd is'
same_fault S g from t (Syntax at) NoMemory is is' a b = absurd is'
same_fault S g from t Input f' is is' a b = absurd is
same_fault S g from t Endless f' is is' a b = absurd is
same_fault S g from t NoMemory f' is is' a b = absurd is

faulty : {X : Type 0} (S : ℕ → List ℕ → X → Type 0) (g from : ℕ) (t : List ℕ) (f : TextFault) → IsOfText f → HasFault S g from t f → HasNoText S g t
faulty S g from t (Ended at) is h = h.0
faulty S g from t (Large at) is h = h.1
faulty S g from t (Syntax at) is h = h.1
faulty S g from t Input is h = absurd is
faulty S g from t Endless is h = absurd is
faulty S g from t NoMemory is h = absurd is

parsed_is : (p : Parsed) (items : List Change) (ends : Result (List ℕ) TextFault) → p.items ≡ items → p.ends ≡ ends → p ≡ record { items = items; ends = ends }
parsed_is p items ends a b = ap (λ x. let q : Parsed = record { items = x; ends = p.ends } in q) a ∙ ap (λ x. let q : Parsed = record { items = items; ends = x } in q) b

behind_newline : (a b : ℕ) (s t : List ℕ) → a ∷ s ≡ b ∷ t → s ≡ t
behind_newline a b s t e = cc

ends_ok : {X : Type 0} (S : ℕ → List ℕ → X → Type 0) (g : ℕ) (xs : List X) (text left rest : List ℕ) (ends : Result (List ℕ) TextFault) → Reads S g xs text rest → left ≡ 10 ∷ rest → EndsAs S g 0 text left ends → ends ≡ Ok rest
ends_ok S g xs text left rest (Ok more) reads e h = ap (λ (z : List ℕ). Ok z) (behind_newline 10 10 more rest (sym h ∙ e))
ends_ok S g xs text left rest (Err f) reads e h = absurd (faulty S g 0 text f h.0 h.1 xs rest reads)

of_reads : {X : Type 0} (S : ℕ → List ℕ → X → Type 0) → IsSpelling S → (inject : X → Change) (g : ℕ) (text : List ℕ) (p : Parsed) → ReadsAs S inject g 0 text p → (xs : List X) (rest : List ℕ) → Reads S g xs text rest → p ≡ record { items = map inject xs; ends = Ok rest }
of_reads S s inject g text p h xs rest reads =
    let same = same_items S s g h.xs xs text h.rest (10 ∷ rest) h.whole.spelled h.whole.no_more reads (λ first more x sp e. s.newline g first more rest x sp (sym e)) in
    parsed_is p (map inject xs) (Ok rest) (h.items ∙ ap (map inject) same.0) (ends_ok S g xs text h.rest rest p.ends reads same.1 h.ends)

ends_err : {X : Type 0} (S : ℕ → List ℕ → X → Type 0) (g : ℕ) (text left : List ℕ) (f : TextFault) (xs : List X) (ends : Result (List ℕ) TextFault) → IsOfText f → HasFault S g 0 text f → Spelled S g xs text left → EndsAs S g 0 text left ends → ends ≡ Err f
ends_err S g text left f xs (Ok more) is fault spelled h = absurd (faulty S g 0 text f is fault xs more (subst (Spelled S g xs text) h spelled))
ends_err S g text left f xs (Err f') is fault spelled h = ap (λ (z : TextFault). Err z) (same_fault S g 0 text f' f h.0 is h.1 fault)

of_fault : {X : Type 0} (S : ℕ → List ℕ → X → Type 0) → IsSpelling S → (inject : X → Change) (g : ℕ) (text : List ℕ) (p : Parsed) → ReadsAs S inject g 0 text p → (xs : List X) (rest : List ℕ) (f : TextFault) → WholeItems S g text xs rest → IsOfText f → HasFault S g 0 text f
    → p ≡ record { items = map inject xs; ends = Err f }
of_fault S s inject g text p h xs rest f whole is fault =
    let same = same_items S s g h.xs xs text h.rest rest h.whole.spelled h.whole.no_more whole.spelled whole.no_more in
    parsed_is p (map inject xs) (Err f) (h.items ∙ ap (map inject) same.0) (ends_err S g text h.rest f h.xs p.ends is fault h.whole.spelled h.ends)

of_first : {X : Type 0} (S : ℕ → List ℕ → X → Type 0) → IsSpelling S → (inject : X → Change) (g : ℕ) (text : List ℕ) (p : Parsed) → ReadsAs S inject g 0 text p → (xs : List X) (rest : List ℕ) → Spelled S g xs text rest → (more : List Change) × (p.items ≡ map inject xs ++ more)
of_first S s inject g text p h xs rest spelled =
    let first = first_items S s g xs h.xs text rest h.rest spelled h.whole.spelled h.whole.no_more in
    (map inject first.0, h.items ∙ ap (map inject) first.1 ∙ map-append inject xs first.0)

same_map : {X : Type 0} (xs : List X) → map (λ x. x) xs ≡ xs
same_map [] = refl
same_map (x ∷ xs) = ap (λ ys. x ∷ ys) (same_map xs)

-- ---- a native text, and an amending one

pub native_is : (g : ℕ) (text : List ℕ) (rs : List KeyValue) (rest : List ℕ) → AreBytes text → Reads Spells g rs text rest → parse false g text ≡ record { items = map Putting rs; ends = Ok rest }
native_is g text rs rest are reads = of_reads Spells records Putting g text (parse false g text) (native_reads g text are) rs rest reads

pub native_fault_is : (g : ℕ) (text : List ℕ) (rs : List KeyValue) (rest : List ℕ) (f : TextFault) → AreBytes text → WholeItems Spells g text rs rest → IsOfText f → HasFault Spells g 0 text f → parse false g text ≡ record { items = map Putting rs; ends = Err f }
native_fault_is g text rs rest f are whole is fault = of_fault Spells records Putting g text (parse false g text) (native_reads g text are) rs rest f whole is fault

pub native_begins : (g : ℕ) (text : List ℕ) (rs : List KeyValue) (rest : List ℕ) → AreBytes text → Spelled Spells g rs text rest → (more : List Change) × ((parse false g text).items ≡ map Putting rs ++ more)
native_begins g text rs rest are spelled = of_first Spells records Putting g text (parse false g text) (native_reads g text are) rs rest spelled

pub amending_is : (g : ℕ) (text : List ℕ) (xs : List Change) (rest : List ℕ) → AreBytes text → Reads SpellsChange g xs text rest → parse true g text ≡ record { items = xs; ends = Ok rest }
amending_is g text xs rest are reads = of_reads SpellsChange changes (λ x. x) g text (parse true g text) (amending_reads g text are) xs rest reads ∙ ap (λ ys. let q : Parsed = record { items = ys; ends = Ok rest } in q) (same_map xs)

pub amending_fault_is : (g : ℕ) (text : List ℕ) (xs : List Change) (rest : List ℕ) (f : TextFault) → AreBytes text → WholeItems SpellsChange g text xs rest → IsOfText f → HasFault SpellsChange g 0 text f → parse true g text ≡ record { items = xs; ends = Err f }
amending_fault_is g text xs rest f are whole is fault = of_fault SpellsChange changes (λ x. x) g text (parse true g text) (amending_reads g text are) xs rest f whole is fault ∙ ap (λ ys. let q : Parsed = record { items = ys; ends = Err f } in q) (same_map xs)

pub amending_begins : (g : ℕ) (text : List ℕ) (xs : List Change) (rest : List ℕ) → AreBytes text → Spelled SpellsChange g xs text rest → (more : List Change) × ((parse true g text).items ≡ xs ++ more)
amending_begins g text xs rest are spelled =
    let h = of_first SpellsChange changes (λ x. x) g text (parse true g text) (amending_reads g text are) xs rest spelled in
    (h.0, h.1 ∙ ap (λ ys. ys ++ h.0) (same_map xs))

-- ---- a list text

pub list_is : (g : ℕ) (text : List ℕ) (xs : List (List ℕ)) (rest : List ℕ) → AreBytes text → Reads SpellsKey g xs text rest → parse_list g text ≡ record { items = map listed xs; ends = Ok rest }
list_is g text xs rest are reads = of_reads SpellsKey keys listed g text (parse_list g text) (list_reads g text are) xs rest reads

pub list_fault_is : (g : ℕ) (text : List ℕ) (xs : List (List ℕ)) (rest : List ℕ) (f : TextFault) → AreBytes text → WholeItems SpellsKey g text xs rest → IsOfText f → HasFault SpellsKey g 0 text f → parse_list g text ≡ record { items = map listed xs; ends = Err f }
list_fault_is g text xs rest f are whole is fault = of_fault SpellsKey keys listed g text (parse_list g text) (list_reads g text are) xs rest f whole is fault

pub list_begins : (g : ℕ) (text : List ℕ) (xs : List (List ℕ)) (rest : List ℕ) → AreBytes text → Spelled SpellsKey g xs text rest → (more : List Change) × ((parse_list g text).items ≡ map listed xs ++ more)
list_begins g text xs rest are spelled = of_first SpellsKey keys listed g text (parse_list g text) (list_reads g text are) xs rest spelled

-- ---- what follows a text are bytes too

rest_bytes : {X : Type 0} (S : ℕ → List ℕ → X → Type 0) (g : ℕ) (xs : List X) (t a : List ℕ) → Spelled S g xs t a → AreBytes t → AreBytes a
rest_bytes S g [] t a e are = subst AreBytes e are
rest_bytes S g (x ∷ xs) t a (first, more, sp, e, left) are = rest_bytes S g xs more a left (bytes_behind first more (subst AreBytes e are))

pub bytes_left : {X : Type 0} (S : ℕ → List ℕ → X → Type 0) (g : ℕ) (xs : List X) (t rest : List ℕ) → Reads S g xs t rest → AreBytes t → AreBytes rest
bytes_left S g xs t rest reads are = bytes_behind (10 ∷ []) rest (rest_bytes S g xs t (10 ∷ rest) reads are)

-- ---- what was parsed is what the grammar says, and nothing else is

holds_as : {X : Type 0} (S : ℕ → List ℕ → X → Type 0) (g : ℕ) (text : List ℕ) (xs : List X) (rest : List ℕ) (ends : Result (List ℕ) TextFault) → WholeItems S g text xs rest → EndsAs S g 0 text rest ends → HoldsOf S g text xs ends
holds_as S g text xs rest (Ok more) whole e = subst (Spelled S g xs text) e whole.spelled
holds_as S g text xs rest (Err f) whole e = (e.0, e.1, (rest, whole))

only_as : {X : Type 0} (S : ℕ → List ℕ → X → Type 0) → IsSpelling S → (inject : X → Change) (g : ℕ) (text : List ℕ) (p : Parsed) → ReadsAs S inject g 0 text p → (xs : List X) (ends : Result (List ℕ) TextFault) → HoldsOf S g text xs ends → p ≡ record { items = map inject xs; ends = ends }
only_as S s inject g text p h xs (Ok rest) holds = of_reads S s inject g text p h xs rest holds
only_as S s inject g text p h xs (Err f) (is, fault, (rest, whole)) = of_fault S s inject g text p h xs rest f whole is fault

is_parsed : {X : Type 0} (S : ℕ → List ℕ → X → Type 0) → IsSpelling S → (inject : X → Change) (g : ℕ) (text : List ℕ) (p : Parsed) → ReadsAs S inject g 0 text p → IsParsed S inject g text p
is_parsed S s inject g text p h = record {
  items = h.xs;
  are = h.items;
  holds = holds_as S g text h.xs h.rest p.ends h.whole h.ends;
  only = λ xs ends holds. only_as S s inject g text p h xs ends holds;
}

pub native_is_parsed : (g : ℕ) (text : List ℕ) → AreBytes text → IsParsed Spells Putting g text (parse false g text)
native_is_parsed g text are = is_parsed Spells records Putting g text (parse false g text) (native_reads g text are)

pub amending_is_parsed : (g : ℕ) (text : List ℕ) → AreBytes text → IsParsed SpellsChange (λ x. x) g text (parse true g text)
amending_is_parsed g text are = is_parsed SpellsChange changes (λ x. x) g text (parse true g text) (amending_reads g text are)

pub list_is_parsed : (g : ℕ) (text : List ℕ) → AreBytes text → IsParsed SpellsKey listed g text (parse_list g text)
list_is_parsed g text are = is_parsed SpellsKey keys listed g text (parse_list g text) (list_reads g text are)
