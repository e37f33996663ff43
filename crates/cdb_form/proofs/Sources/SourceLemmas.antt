-- What a source read, piece after piece.
use Rattle.cdb_form.proofs.Words.{AllDigits, AreBytes, Consumes, Feed, FromTo, IsAtEnd, IsNumeral, IsOfText, Leaves, List, ReadsBehind, Source, Spells, SpellsRemoval, TextFault, [], ap, append_assoc, arith, budget, codes, digit_value, digits_push, digits_value, digits_value_push, length, length-append, refl, subst, sym, take, take_at, ℕ, ◌*◌, ◌++◌, ◌+◌, ◌-◌, ◌<◌, ◌∙◌, ◌∷◌, ◌≡◌, ◌≢◌, ◌≤◌}
use Rattle.cdb_form.proofs.Bytes.ByteLemmas.{AreBytes-front}
use Rattle.cdb_form.specs.declared.text.fault.TextFault.TheVariants.{Syntax, Ended, Large, Input, Endless, NoMemory}
use Rattle.cdb_form.specs.Views.Taking.{Took}
use Rattle.cdb_form.proofs.Fed.FeedLemmas.{consumes_then, from_all, from_behind, from_taken, from_weaker}
use Rattle.cdb_form.proofs.Files.Prefixes.{take_past}
use Rattle.cdb_form.specs.declared.reading.ReadStop.{ReadStop}
use Rattle.cdb_form.specs.declared.reading.ReadStop.TheVariants as unread
use Rattle.cdb_form.specs.Views.TextFault.{IsReadFault, LastRead, unread_fault}
use Rattle.cdb_form.specs.Views.Source.{IsTold}
use Rattle.cdb_form.specs.Format.{record_of}
use Rattle.cdb_form.specs.Views.FormReader.{ReadsItem}
use Rattle.cdb_form.specs.Views.LongValue.{SpellsFront, value_ahead}
use Rattle.cdb_form.specs.Views.NativeParser.{FailsBytes, FailsField, seen, told}

-- digits were read that spell a value
pub record DigitsSoFar (old new : Feed) (greatest start taken value : ℕ) : Type 0 where
  pub digits : List ℕ
  pub read : Consumes old new digits
  pub each : AllDigits 10 digits
  pub value_is : digits_value 10 digits ≡ value
  pub fits : value ≤ greatest
  pub taken_is : taken ≡ start + length digits

-- A fault of the reader is reported for what was read.
pub part_seen : (P : List ℕ → TextFault → Type 0) (old new : Feed) (from to : ℕ) (lost : List ℕ) (f : TextFault) → IsReadFault f → Consumes old new lost → to ≡ from + length lost → P lost (Ended to)
    → FromTo old new (λ text rest. P (seen from to f text) (told to f))
part_seen P old new from to lost (Syntax at) h read counted p = absurd h
part_seen P old new from to lost (Ended at) h read counted p = absurd h
part_seen P old new from to lost (Large at) h read counted p = absurd h
part_seen P old new from to lost NoMemory h read counted p = absurd h
part_seen P old new from to lost Input h read counted p = from_taken old new lost _ read (λ rest. subst (λ t. P t (Ended to)) (sym (take_at lost rest (to - from) (omega (arith, counted)))) p)
part_seen P old new from to lost Endless h read counted p = from_taken old new lost _ read (λ rest. subst (λ t. P t (Ended to)) (sym (take_at lost rest (to - from) (omega (arith, counted)))) p)

-- the text that a fault is reported for, after some bytes that were read
take_behind : (from at to : ℕ) (first text : List ℕ) → at ≡ from + length first → at ≤ to → take (to - from) (first ++ text) ≡ first ++ take (to - at) text
take_behind from at to first text counted later =
    let count : to - from ≡ length first + (to - at) = omega (arith, counted, later) in
    ap (λ (k : ℕ). take k (first ++ text)) count ∙ take_past first text (length first) (to - at) refl

seen_behind : (from at to : ℕ) (first text : List ℕ) (f : TextFault) → at ≡ from + length first → at ≤ to → seen from to f (first ++ text) ≡ first ++ seen at to f text
seen_behind from at to first text (Syntax p) counted later = refl
seen_behind from at to first text (Ended p) counted later = refl
seen_behind from at to first text (Large p) counted later = refl
seen_behind from at to first text NoMemory counted later = refl
seen_behind from at to first text Input counted later = take_behind from at to first text counted later
seen_behind from at to first text Endless counted later = take_behind from at to first text counted later

-- What a fault says of the text after some bytes, it says of these bytes and that text.
pub fails_behind : (P Q : List ℕ → TextFault → Type 0) (old mid new : Feed) (from at to : ℕ) (first : List ℕ) (f : TextFault) → Consumes old mid first → at ≡ from + length first → at ≤ to
    → ((text : List ℕ) → P text (told to f) → Q (first ++ text) (told to f))
    → FromTo mid new (λ text rest. P (seen at to f text) (told to f)) → FromTo old new (λ text rest. Q (seen from to f text) (told to f))
fails_behind P Q old mid new from at to first f read counted later k h =
    from_behind old mid new first (λ text rest. Q (seen from to f text) (told to f)) read
    (from_weaker mid new _ _ h (λ text rest p. subst (λ t. Q t (told to f)) (sym (seen_behind from at to first text f counted later)) (k (seen at to f text) p)))

-- and what was taken
pub took_behind : (old mid new : Feed) (from at to : ℕ) (first : List ℕ) → Consumes old mid first → at ≡ from + length first → Took mid new at to → Took old new from to
took_behind old mid new from at to first read counted t = record {
  bytes = first ++ t.bytes;
  read = consumes_then old mid new first t.bytes read t.read;
  counted = omega (arith, length-append first t.bytes, t.counted);
}

-- a fault of the text is none of the reader
pub told_of_text : (new : Feed) (asks : ℕ) (f : TextFault) → IsOfText f → IsTold new asks f
told_of_text new asks (Syntax at) h = record { spent = λ e. absurd (let no : ⊥ = cc in no); failed = λ e. absurd (let no : ⊥ = cc in no) }
told_of_text new asks (Ended at) h = record { spent = λ e. absurd (let no : ⊥ = cc in no); failed = λ e. absurd (let no : ⊥ = cc in no) }
told_of_text new asks (Large at) h = record { spent = λ e. absurd (let no : ⊥ = cc in no); failed = λ e. absurd (let no : ⊥ = cc in no) }
told_of_text new asks Input h = absurd h
told_of_text new asks Endless h = absurd h
told_of_text new asks NoMemory h = absurd h

-- what a fault leaves after some bytes
pub leaves_behind : {R : Type 0} (feed : R → Feed) (old mid new : Source R) (bytes : List ℕ) (f : TextFault)
    → Consumes (feed old.reader) (feed mid.reader) bytes → mid.taken ≡ old.taken + length bytes → budget old ≤ budget mid → Leaves feed mid new f → Leaves feed old new f
leaves_behind feed old mid new bytes f read counted spends l = record {
  took = took_behind _ _ _ _ _ _ bytes read counted l.took;
  last = l.last;
  told = l.told;
  spends = omega (arith, spends, l.spends);
}

-- the same after some bytes and the byte that ends them
pub leaves_past : {R : Type 0} (feed : R → Feed) (old mid new : Source R) (bytes : List ℕ) (c : ℕ) (f : TextFault)
    → Consumes (feed old.reader) (feed mid.reader) (bytes ++ c ∷ []) → mid.taken ≡ old.taken + (length bytes + 1) → budget old ≤ budget mid → Leaves feed mid new f → Leaves feed old new f
leaves_past feed old mid new bytes c f read counted spends l = leaves_behind feed old mid new (bytes ++ c ∷ []) f read (omega (arith, counted, length-append bytes (c ∷ []))) spends l

pub took_these : (old new : Feed) (from to : ℕ) (bytes : List ℕ) → Consumes old new bytes → to ≡ from + length bytes → Took old new from to
took_these old new from to bytes read counted = record { bytes = bytes; read = read; counted = counted }

-- one digit more
pub digit_more : (old mid new : Feed) (greatest start taken value byte more longer : ℕ) → DigitsSoFar old mid greatest start taken value
    → Consumes mid new (byte ∷ []) → digit_value byte < 10 → longer ≡ value * 10 + digit_value byte → longer ≤ greatest → more ≡ taken + 1
    → DigitsSoFar old new greatest start more longer
digit_more old mid new greatest start taken value byte more longer s read digit is fits counted =
    let value_is : digits_value 10 s.digits ≡ value = s.value_is in
    record {
      digits = s.digits ++ byte ∷ [];
      read = consumes_then old mid new s.digits (byte ∷ []) s.read read;
      each = digits_push 10 s.digits byte s.each digit;
      value_is = digits_value_push 10 s.digits byte ∙ ap (λ (v : ℕ). v * 10 + digit_value byte) value_is ∙ sym is;
      fits = fits;
      taken_is = omega (arith, s.taken_is, length-append s.digits (byte ∷ []));
    }

-- the digits so far and one byte more
pub digits_took : (old mid new : Feed) (greatest start at value byte from to : ℕ) → DigitsSoFar old mid greatest start at value → Consumes mid new (byte ∷ []) → start ≡ from → to ≡ at + 1 → Took old new from to
digits_took old mid new greatest start at value byte from to s read begin counted =
    took_these old new from to (s.digits ++ byte ∷ []) (consumes_then old mid new s.digits (byte ∷ []) s.read read) (omega (arith, s.taken_is, length-append s.digits (byte ∷ [])))

-- what a fault at the byte after the digits leaves
pub digits_leave : {R : Type 0} (feed : R → Feed) (old mid new : Source R) (greatest start value byte : ℕ) (f : TextFault)
    → DigitsSoFar (feed old.reader) (feed mid.reader) greatest start mid.taken value → start ≡ old.taken → budget old ≤ budget mid
    → Consumes (feed mid.reader) (feed new.reader) (byte ∷ []) → new.taken ≡ mid.taken + 1 → mid.asks ≤ new.asks + 1001
    → LastRead new.taken f → IsTold (feed new.reader) new.asks f → Leaves feed old new f
digits_leave feed old mid new greatest start value byte f so_far begin spent read counted spends last is_told = record {
  took = digits_took _ _ _ greatest start mid.taken value byte _ _ so_far read begin counted;
  last = last;
  told = is_told;
  spends = omega (arith, spent, spends, counted);
}

-- a record after a plus, up to its value
pub front_behind : (o m₁ m₂ m₃ n : Feed) (greatest from to : ℕ) (a b key : List ℕ) (vlen : ℕ)
    → IsNumeral a (length key) → IsNumeral b vlen → length key ≤ greatest → vlen ≤ greatest → AreBytes key
    → Consumes o m₁ (a ++ 44 ∷ []) → Consumes m₁ m₂ (b ++ 58 ∷ []) → Consumes m₂ m₃ (key ++ 45 ∷ []) → Consumes m₃ n (62 ∷ [])
    → to ≡ from + (length a + 1) + (length b + 1) + (length key + 1) + 1
    → ReadsBehind SpellsFront (codes "+") greatest o n from to (value_ahead key vlen)
front_behind o m₁ m₂ m₃ n greatest from to a b key vlen ia ib fk fv bytes c₁ c₂ c₃ c₄ counted =
    let text : List ℕ = a ++ 44 ∷ (b ++ 58 ∷ (key ++ 45 ∷ 62 ∷ [])) in
    let all = consumes_then o m₃ n _ _ (consumes_then o m₂ m₃ _ _ (consumes_then o m₁ m₂ _ _ c₁ c₂) c₃) c₄ in
    record {
      text = text;
      spells = λ value are long. record {
        klen = a;
        vlen = b;
        klen_is = ia;
        vlen_is = subst (IsNumeral b) (sym long) ib;
        key_fits = fk;
        value_fits = omega (arith, long, fv);
        bytes = record { key = bytes; value = are };
        text_is = simp append_assoc refl;
      };
      read = simp append_assoc at all;
      counted = simp length-append (omega (arith, counted));
    }

-- and then its value
pub value_behind : (o m n : Feed) (mark : List ℕ) (greatest from at to vlen : ℕ) (key value : List ℕ) → ReadsBehind SpellsFront mark greatest o m from at (value_ahead key vlen)
    → AreBytes value → length value ≡ vlen → Consumes m n (value ++ 10 ∷ []) → to ≡ at + (vlen + 1) → ReadsBehind Spells mark greatest o n from to (record_of key value)
value_behind o m n mark greatest from at to vlen key value front are long read counted = record {
  text = front.text ++ (value ++ 10 ∷ []);
  spells = simp append_assoc at front.spells value are long;
  read = consumes_then o m n front.text (value ++ 10 ∷ []) front.read read;
  counted = omega (arith, front.counted, counted, long, length-append front.text (value ++ 10 ∷ []), length-append value (10 ∷ []));
}

-- a whole removal after a minus
pub removal_behind : (o m n : Feed) (greatest from to : ℕ) (a key : List ℕ)
    → IsNumeral a (length key) → length key ≤ greatest → AreBytes key
    → Consumes o m (a ++ 58 ∷ []) → Consumes m n (key ++ 10 ∷ []) → to ≡ from + (length a + 1) + (length key + 1)
    → ReadsBehind SpellsRemoval (codes "-") greatest o n from to key
removal_behind o m n greatest from to a key ia fits bytes c₁ c₂ counted =
    let text : List ℕ = a ++ 58 ∷ (key ++ 10 ∷ []) in
    let all = consumes_then o m n _ _ c₁ c₂ in
    record {
      text = text;
      spells = record { klen = a; klen_is = ia; key_fits = fits; bytes = bytes; text_is = simp append_assoc refl };
      read = simp append_assoc at all;
      counted = simp length-append (omega (arith, counted));
    }

-- a whole item, with its mark
pub item_whole : {X Y : Type 0} (S : ℕ → List ℕ → X → Type 0) (T : ℕ → List ℕ → Y → Type 0) (c : ℕ) (o m n : Feed) (greatest from at to : ℕ) (x : X) (y : Y) → ((text : List ℕ) → S greatest text x → T greatest text y)
    → Consumes o m (c ∷ []) → at ≡ from + 1 → ReadsBehind S (c ∷ []) greatest m n at to x → ReadsItem T greatest o n from to y
item_whole S T c o m n greatest from at to x y k read counted b = record {
  text = c ∷ b.text;
  spells = k (c ∷ b.text) b.spells;
  read = consumes_then o m n (c ∷ []) b.text read b.read;
  counted = omega (arith, counted, b.counted);
}

-- the bytes read are all that there were, if the reader has no more; else they are what was read
pub bytes_fail : (o n : Feed) (len from to : ℕ) (bytes : List ℕ) (u : ReadStop) → Consumes o n bytes → (u ≡ unread.Ended → IsAtEnd n) → AreBytes bytes → length bytes < len → to ≡ from + length bytes
    → FromTo o n (λ text rest. FailsBytes len from (seen from to (unread_fault to u) text) (told to (unread_fault to u)))
bytes_fail o n len from to bytes unread.Ended read end are short counted = from_all o n bytes _ read (end refl) (are, short, counted)
bytes_fail o n len from to bytes unread.Failed read end are short counted = part_seen (λ text f. FailsBytes len from text f) o n from to bytes Input tt read counted (are, short, counted)
bytes_fail o n len from to bytes unread.Spent read end are short counted = part_seen (λ text f. FailsBytes len from text f) o n from to bytes Endless tt read counted (are, short, counted)
bytes_fail o n len from to bytes unread.NoMemory read end are short counted = from_taken o n bytes _ read (λ rest. tt)

-- the byte after a field is another one
pub other_last : (o n : Feed) (len stop from : ℕ) (bytes items : List ℕ) (last : ℕ) → Consumes o n bytes → AreBytes bytes → length bytes ≡ len + 1 → bytes ≡ items ++ last ∷ [] → last ≢ stop
    → FromTo o n (λ text rest. FailsField len stop from text (Syntax (from + len)))
other_last o n len stop from bytes items last a are long e other = from_taken o n bytes _ a (λ rest. (
  record {
    bytes = items;
    other = last;
    rest = rest;
    are = AreBytes-front items (last ∷ []) (subst AreBytes e are);
    long = omega (arith, long, ap length e, length-append items (last ∷ []));
    text_is = ap (λ t. t ++ rest) e ∙ append_assoc items (last ∷ []) rest;
    differs = other;
  },
  refl,
))
