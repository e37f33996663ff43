-- A value that is read in pieces: where it may stop, and what its pieces make.
use Rattle.cdb_form.proofs.Words.{AreBytes, Consumes, FailsByte, FailsEntry, FailsField, FailsIn, Feed, FormReader, FromTo, Leaves, List, ReadsBehind, Record, Spells, TextFault, [], ap, append-nil, append_assoc, arith, budget, length, length-append, length-replicate, lit<, refl, replicate, seen, subst, sym, told, ℕ, ◌++◌, ◌+◌, ◌<◌, ◌∙◌, ◌∷◌, ◌≡◌, ◌≤◌}
use Rattle.std.specs.Prelude.{Bool}
use Rattle.cdb_form.specs.Format.{record_of}
use Rattle.cdb_form.specs.Views.FormReader.{FailsAs, GivesItem, HasFailed, IsGoing, ReadsItem, asks_left, taken_of}
use Rattle.cdb_form.specs.Views.LongValue.{AmidValue, GivesNext, ReadsNext, SpellsFront, value_ahead}
use Rattle.cdb_form.specs.Views.NativeParser.{FailsBytes}
use Rattle.cdb_form.specs.declared.text.fault.TextFault.TheVariants.{Syntax, Ended, Large, Input, Endless, NoMemory}
use Rattle.cdb_form.specs.declared.text.long_value.Next.{Next}
use Rattle.cdb_form.specs.declared.text.long_value.Next.TheVariants.{Item, Value}
use Rattle.cdb_form.proofs.Bytes.ByteLemmas.{AreBytes-append, AreBytes-nil, AreBytes-replicate}
use Rattle.cdb_form.proofs.Fed.FeedLemmas.{consumes_then}
use Rattle.cdb_form.proofs.NativeTexts.FormReads.{fails_as}
use Rattle.cdb_form.proofs.NativeTexts.Grammar.{same_prefixes}
use Rattle.cdb_form.proofs.NativeTexts.Stops.{behind_angle, behind_key, behind_klen, behind_vlen, record_stops, value_stops}
use Rattle.cdb_form.proofs.Sources.SourceLemmas.{fails_behind, leaves_behind}

-- ---- where a record stops behind the text up to its value

same_fronts : (a b x : List ℕ) → a ++ x ≡ b ++ x → a ≡ b
same_fronts a b x e = (same_prefixes a b x x (omega (arith, ap length e, length-append a x, length-append b x)) e).0

pub value_fails : (removals : Bool) (g from n : ℕ) (front key text : List ℕ) (f : TextFault) → SpellsFront g front (value_ahead key n) → FailsField n 10 (from + length front) text f → FailsEntry removals g from (front ++ text) f
value_fails removals g from n front key text f spells h =
    let value : List ℕ = replicate n 0 in
    let long : length value ≡ n = length-replicate n 0 in
    let s = spells value (AreBytes-replicate n 0 (lit< tt)) long in
    let k : List ℕ = s.klen in
    let v : List ℕ = s.vlen in
    let behind : List ℕ = k ++ 44 ∷ (v ++ 58 ∷ (key ++ 45 ∷ 62 ∷ [])) in
    let whole : front ++ (value ++ 10 ∷ []) ≡ 43 ∷ (k ++ 44 ∷ (v ++ 58 ∷ (key ++ 45 ∷ 62 ∷ (value ++ 10 ∷ [])))) = simp append_assoc at s.text_is in
    let is : front ≡ 43 ∷ behind = same_fronts front (43 ∷ behind) (value ++ 10 ∷ []) (whole ∙ simp append_assoc refl) in
    let at : ℕ = from + 1 in
    let at_vlen : ℕ = at + (length k + 1) in
    let at_key : ℕ = at_vlen + (length v + 1) in
    let at_angle : ℕ = at_key + (length key + 1) in
    let place : from + length front ≡ at_angle + 1 = omega (arith, ap length is, length-append k (44 ∷ (v ++ 58 ∷ (key ++ 45 ∷ 62 ∷ []))), length-append v (58 ∷ (key ++ 45 ∷ 62 ∷ [])), length-append key (45 ∷ 62 ∷ [])) in
    let left = subst (λ (p : ℕ). FailsField n 10 p text f) place h in
    subst (λ t. FailsEntry removals g from (t ++ text) f) (sym is)
    (record_stops removals g from at (behind ++ text) f refl (λ F starts.
    behind_klen F g (length key) at at_vlen _ (v ++ 58 ∷ (key ++ 45 ∷ 62 ∷ text)) k f s.klen_is s.key_fits refl (simp append_assoc refl)
    (behind_vlen F g (length key) n at_vlen at_key _ (key ++ 45 ∷ 62 ∷ text) v f (rw long at s.vlen_is) (rw long at s.value_fits) refl (simp append_assoc refl)
    (behind_key F g (length key) n at_key at_angle _ (62 ∷ text) key f refl s.bytes.key refl (simp append_assoc refl)
    (behind_angle F g n at_angle (at_angle + 1) _ text f refl refl
    (value_stops F g n (at_angle + 1) text f starts left))))))

-- the same of what a reader has left behind a plus
pub value_unread : (removals : Bool) (g from at mid to n : ℕ) (old now new : Feed) (key : List ℕ) (f : TextFault) → at ≡ from + 1 → ReadsBehind SpellsFront (43 ∷ []) g old now at mid (value_ahead key n) → mid ≤ to
    → FromTo now new (λ t rest. FailsField n 10 mid (seen mid to f t) (told to f)) → FromTo old new (λ t rest. FailsEntry removals g from (43 ∷ seen at to f t) (told to f))
value_unread removals g from at mid to n old now new key f e front later h =
    fails_behind (FailsField n 10 mid) (λ t f. FailsEntry removals g from (43 ∷ t) f) old now new at mid to front.text f front.read front.counted later
    (λ t p. value_fails removals g from n (43 ∷ front.text) key t (told to f) front.spells (subst (λ (m : ℕ). FailsField n 10 m t (told to f)) (omega (arith, e, front.counted)) p)) h

-- ---- the same after some of the value, if no byte of it comes, and if another one than the newline does

pub piece_fails : (n at now : ℕ) (got text : List ℕ) (f : TextFault) → AreBytes got → length got ≤ n → now ≡ at + length got → FailsBytes 1 now text f → FailsField n 10 at (got ++ text) f
piece_fails n at now got text (Syntax p) are few counted h = absurd h
piece_fails n at now got text (Large p) are few counted h = absurd h
piece_fails n at now got text (Ended p) are few counted (bytes, none, place) = (AreBytes-append got text are bytes, omega (arith, few, none, length-append got text), omega (arith, counted, place, length-append got text))
piece_fails n at now got text Input are few counted h = tt
piece_fails n at now got text Endless are few counted h = tt
piece_fails n at now got text NoMemory are few counted h = tt

pub newline_fails : (n at now : ℕ) (got text : List ℕ) (f : TextFault) → AreBytes got → length got ≡ n → now ≡ at + length got → FailsByte 10 now text f → FailsField n 10 at (got ++ text) f
newline_fails n at now got text (Syntax p) are long counted (c, rest, is, other, place) =
    (record { bytes = got; other = c; rest = rest; are = are; long = long; text_is = ap (λ t. got ++ t) is; differs = other }, omega (arith, long, counted, place))
newline_fails n at now got text (Large p) are long counted h = absurd h
newline_fails n at now got text (Ended p) are long counted (none, place) =
    (AreBytes-append got text are (subst AreBytes (sym none) AreBytes-nil), omega (arith, long, ap length none, length-append got text), omega (arith, counted, place, ap length none, length-append got text))
newline_fails n at now got text Input are long counted h = tt
newline_fails n at now got text Endless are long counted h = tt
newline_fails n at now got text NoMemory are long counted h = tt

-- ---- what a reader answers amid a value

pub amid_fails : {R L : Type 0} (removals : Bool) (g : ℕ) (feed : R → Feed) (first now new : FormReader R L) (key : List ℕ) (vlen : ℕ) (got : List ℕ) (f : TextFault) (P : List ℕ → TextFault → Type 0) (amid : AmidValue g feed first now key vlen got) → HasFailed new f
    → FailsIn feed now.source new.source P f → Leaves feed now.source new.source f → taken_of now ≤ taken_of new
    → ((text : List ℕ) → P text (told (taken_of new) f) → FailsField vlen 10 (taken_of first + length amid.front) (got ++ text) (told (taken_of new) f)) → FailsAs removals g feed first new f
amid_fails removals g feed first now new key vlen got f P a failed fails leaves later k =
    let from : ℕ = taken_of first in
    fails_as removals g feed first new f failed
    (fails_behind P (FailsEntry removals g from) _ _ _ from (taken_of now) (taken_of new) (a.front ++ got) f a.read a.counted later
    (λ text p. subst (λ t. FailsEntry removals g from t (told (taken_of new) f)) (sym (append_assoc a.front got text)) (value_fails removals g from vlen a.front key (got ++ text) (told (taken_of new) f) a.spells (k text p)))
    fails)
    (leaves_behind feed first.source now.source new.source (a.front ++ got) f a.read a.counted a.spends leaves)

-- the place behind what was read of a value
pub amid_place : {R L : Type 0} (g : ℕ) (feed : R → Feed) (first now : FormReader R L) (key : List ℕ) (vlen : ℕ) (got : List ℕ) (amid : AmidValue g feed first now key vlen got) → taken_of now ≡ taken_of first + length amid.front + length got
amid_place g feed first now key vlen got a = omega (arith, a.counted, length-append a.front got)

amid_begins : {R L : Type 0} (g : ℕ) (feed : R → Feed) (old new : FormReader R L) (key : List ℕ) (vlen : ℕ) → ReadsItem SpellsFront g (feed old.source.reader) (feed new.source.reader) (taken_of old) (taken_of new) (value_ahead key vlen) → IsGoing old → IsGoing new
    → asks_left new < asks_left old → budget old.source ≤ budget new.source → AmidValue g feed old new key vlen []
amid_begins g feed old new key vlen reads began going fewer spends = record {
  front = reads.text;
  spells = reads.spells;
  read = subst (Consumes _ _) (sym (append-nil reads.text)) reads.read;
  counted = omega (arith, reads.counted, length-append reads.text []);
  are = AreBytes-nil;
  within = omega arith;
  began = began;
  going = going;
  fewer = fewer;
  spends = spends;
}

pub next_gives : {R L : Type 0} (g : ℕ) (feed : R → Feed) (old new : FormReader R L) (into : Record) (next : Next) → ReadsNext g (feed old.source.reader) (feed new.source.reader) (taken_of old) (taken_of new) into next → IsGoing old → IsGoing new
    → asks_left new < asks_left old → budget old.source ≤ budget new.source → GivesNext g feed old new into next
next_gives g feed old new into (Item kind) reads began going fewer spends = record { reads = reads; going = going; fewer = fewer; spends = spends }
next_gives g feed old new into (Value vlen) reads began going fewer spends = amid_begins g feed old new into.key.items vlen reads began going fewer spends

pub amid_more : {R L : Type 0} (g : ℕ) (feed : R → Feed) (first now new : FormReader R L) (key : List ℕ) (vlen : ℕ) (got piece : List ℕ) → AmidValue g feed first now key vlen got → Consumes (feed now.source.reader) (feed new.source.reader) piece → AreBytes piece
    → length got + length piece ≤ vlen → taken_of new ≡ taken_of now + length piece → IsGoing new → asks_left new < asks_left now → budget now.source ≤ budget new.source → AmidValue g feed first new key vlen (got ++ piece)
amid_more g feed first now new key vlen got piece a read are within counted going fewer spends = record {
  front = a.front;
  spells = a.spells;
  read = subst (Consumes _ _) (append_assoc a.front got piece) (consumes_then _ _ _ (a.front ++ got) piece a.read read);
  counted = omega (arith, a.counted, counted, length-append a.front got, length-append a.front (got ++ piece), length-append got piece);
  are = AreBytes-append got piece a.are are;
  within = omega (arith, within, length-append got piece);
  began = a.began;
  going = going;
  fewer = omega (arith, a.fewer, fewer);
  spends = omega (arith, a.spends, spends);
}

pub amid_ends : {R L X : Type 0} (S : ℕ → List ℕ → X → Type 0) (x : X) (g : ℕ) (feed : R → Feed) (first now new : FormReader R L) (key : List ℕ) (vlen : ℕ) (got : List ℕ) → ((text : List ℕ) → Spells g text (record_of key got) → S g text x)
    → AmidValue g feed first now key vlen got → length got ≡ vlen → Consumes (feed now.source.reader) (feed new.source.reader) (10 ∷ []) → taken_of new ≡ taken_of now + 1 → IsGoing new → asks_left new < asks_left now → budget now.source ≤ budget new.source
    → GivesItem S g feed first new x
amid_ends S x g feed first now new key vlen got k a long read counted going fewer spends = record {
  reads = record {
    text = a.front ++ (got ++ 10 ∷ []);
    spells = k (a.front ++ (got ++ 10 ∷ [])) (simp append_assoc at a.spells got a.are long);
    read = subst (Consumes _ _) (append_assoc a.front got (10 ∷ [])) (consumes_then _ _ _ (a.front ++ got) (10 ∷ []) a.read read);
    counted = omega (arith, a.counted, counted, length-append a.front got, length-append a.front (got ++ 10 ∷ []), length-append got (10 ∷ []));
  };
  going = going;
  fewer = omega (arith, a.fewer, fewer);
  spends = omega (arith, a.spends, spends);
}
