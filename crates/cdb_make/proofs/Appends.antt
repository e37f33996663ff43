-- Records appended at once, from the bytes to the entries.
use Rattle.std.proofs.Common.{◌≡◌, ℕ, ◌+◌, ◌-◌, ◌*◌, ◌<◌, ◌≤◌, ◌⊎◌, inl, inr, Bool, true, false, List, [], ◌∷◌, ◌++◌, length, refl, sym, ap, subst, ◌∙◌, arith, append_assoc, length-append, Result, Ok, Err, IfOk, IfErr, OnErr}
use Rattle.std.specs.Prelude.{All, sum_by}
use Rattle.std.proofs.Math.Nat.{mul-add, mul-le-mul_left}
use Rattle.cdb_make.proofs.Words.{marks_in, AfterWrite, AreOf, AreSized, ComesFrom, CompactsAll, Ghosts, HasGone, HasNotFailed, Holds, IsRecord, KeyValue, MakeFault, Maker, SameCounts, SameRecords, StaysWhole, append-nil, count_in, file_size, gone_in, gone_of, head_size, is_gone, key_hash, left, length-map, made_size, part, part-overwrite, places_in, record_bytes, record_size, searched, size_split, sought_in, sum_by-append, sum_by_push, whole_size}
use Rattle.cdb_store.specs.Images.{ImagesHold as Stored}
use Rattle.cdb_form.specs.declared.width.Width.{Ghosts as Widths}
use Rattle.cdb_store.specs.declared.make_fault.MakeFault.TheVariants.{Broken, Lookup, TooBig, NoMemory, Writing}
use Rattle.cdb_make.specs.Views.Appending.{full_size, AppendsAll, AppendsSome, Enters, FailsAppending, FailsWriting, IsCrowded, KeepsLimit, PassesLimit}
use Rattle.cdb_make.proofs.Finishing.{left_same}
use Rattle.cdb_make.proofs.Looking.{sees_long, sees_same}
use Rattle.cdb_make.proofs.Picking.{both_few, both_within}
use Rattle.cdb_make.proofs.Rolls.{left_every, left_file, sees_entered}
use Rattle.cdb_make.proofs.Spans.{left-append}
use Rattle.cdb_make.proofs.Marking.{marks_long}

-- bytes that were written are in each image
pub stored_written : {end : ℕ} {ys : List ℕ} {old new : List ℕ → Type 0} (size : ℕ) → AreSized size old → end ≤ size → AfterWrite end ys old new → Stored end ys new
stored_written {end = end} {ys = ys} size sized inside written = record {
  each = λ b is.
      let o = written.no_other b is in
      let l : length o.0 ≡ size = sized.each o.0 o.1 in
      ap (part end (length ys)) o.2 ∙ part-overwrite end o.0 ys (omega arith);
}

-- the same records are held
pub stays_noted : {S L : Type 0} {s : Ghosts S} {l : Widths L} (old new : Maker S L s l) → old.broken ≡ false → new.broken ≡ false → SameRecords old.roll new.roll → (marks_in new.roll) ≡ marks_in old.roll → new.store ≡ old.store → StaysWhole old new
stays_noted {s = s} old new was whole kept marks same = record {
  was = was;
  whole = whole;
  holds = λ rs h. record {
    whole = whole;
    each = λ b is.
        let held = h.each b (subst (λ (v : _). s.image v b) same is) in
        record {
          all = held.all;
          sees = sees_same old.roll new.roll held.all b kept held.sees;
          left = held.left ∙ ap (λ v. left (gone_of v) held.all) (sym marks);
        };
  };
}

-- a record whose bytes follow the others is held once it is noted
pub entered : {S L : Type 0} {s : Ghosts S} {l : Widths L} (old new : Maker S L s l) (r : KeyValue) → IsRecord r → new.broken ≡ false → new.roll.hashes.items ≡ old.roll.hashes.items ++ key_hash r.key ∷ [] → new.roll.tagged ≡ old.roll.tagged → searched new.roll ≡ searched old.roll ++ sought_in old.roll r.key ∷ []
    → ((sizes : List ℕ) → AreOf (head_size l.WORD) (places_in old.roll.places) old.roll.end sizes → AreOf (head_size l.WORD) (places_in new.roll.places) new.roll.end (sizes ++ record_size l.WORD r ∷ []))
    → gone_in new ≡ gone_in old ++ false ∷ [] → new.roll.end ≡ old.roll.end + record_size l.WORD r → new.roll.gone.count ≡ old.roll.gone.count → new.roll.gone.size ≡ old.roll.gone.size → new.limit ≡ old.limit → new.store ≡ old.store
    → Stored old.roll.end (record_bytes l.WORD r) (s.image old.store) → Enters old new (r ∷ [])
entered {s = s} {l = l} old new r is_record whole hashes tagged numbers of marks end gone size limit same stored = record {
  whole = whole;
  holds = λ before h. record {
    whole = whole;
    each = λ b is.
        let there : s.image old.store b = subst (λ (v : _). s.image v b) same is in
        let held = h.each b there in
        let many : length (gone_in old) ≡ length held.all = omega (arith, length-map (marks_in old.roll) is_gone, (marks_long old.roll), sees_long old.roll held.all b held.sees) in
        record {
          all = held.all ++ r ∷ [];
          sees = sees_entered old.roll new.roll r held.all b is_record hashes tagged numbers of (stored.each b there) held.sees;
          left = ap (λ v. v ++ r ∷ []) held.left ∙ sym (ap (λ (v : List Bool). left v (held.all ++ r ∷ [])) marks ∙ left-append (gone_in old) (false ∷ []) held.all (r ∷ []) many);
        };
  };
  end = (let e : sum_by (record_size l.WORD) (r ∷ []) ≡ record_size l.WORD r = omega (arith, sum_by_push (record_size l.WORD) [] r) in omega (arith, end, e));
  count = ap length hashes ∙ length-append old.roll.hashes.items (key_hash r.key ∷ []);
  gone = gone;
  gone_size = size;
  limit = limit;
}

-- the same records were noted before
pub enters_after : {S L : Type 0} {s : Ghosts S} {l : Widths L} (old mid new : Maker S L s l) (rs : List KeyValue) → StaysWhole old mid → SameRecords old.roll mid.roll → mid.roll.gone ≡ old.roll.gone → mid.limit ≡ old.limit → Enters mid new rs → Enters old new rs
enters_after old mid new rs stays same gone limit entered = record {
  whole = entered.whole;
  holds = λ before h. entered.holds before (stays.holds before h);
  end = omega (arith, entered.end, same.end);
  count = entered.count ∙ ap (λ (v : List ℕ). length v + length rs) same.hashes;
  gone = entered.gone ∙ ap (λ q. q.count) gone;
  gone_size = entered.gone_size ∙ ap (λ q. q.size) gone;
  limit = entered.limit ∙ limit;
}

-- one more
pub enters_more : {S L : Type 0} {s : Ghosts S} {l : Widths L} (old mid new : Maker S L s l) (rs : List KeyValue) (r : KeyValue) → Enters old mid rs → Enters mid new (r ∷ []) → Enters old new (rs ++ r ∷ [])
enters_more {l = l} old mid new rs r first next = record {
  whole = next.whole;
  holds = λ before h. subst (λ (v : List KeyValue). Holds new v) (append_assoc before rs (r ∷ [])) (next.holds (before ++ rs) (first.holds before h));
  end = omega (arith, first.end, next.end, sum_by-append (record_size l.WORD) rs (r ∷ []));
  count = omega (arith, first.count, next.count, length-append rs (r ∷ []));
  gone = next.gone ∙ first.gone;
  gone_size = next.gone_size ∙ first.gone_size;
  limit = next.limit ∙ first.limit;
}

-- how large the file of all records is with them
pub entered_size : {S L : Type 0} {s : Ghosts S} {l : Widths L} (old new : Maker S L s l) (rs : List KeyValue) → Enters old new rs → full_size new ≡ full_size old + sum_by (whole_size l.WORD) rs
entered_size {l = l} old new rs entered =
    let w : ℕ = l.WORD in
    let split : sum_by (whole_size l.WORD) rs ≡ sum_by (record_size l.WORD) rs + 4 * l.WORD * length rs = size_split l.WORD rs in
    let end : new.roll.end ≡ old.roll.end + sum_by (record_size l.WORD) rs = entered.end in
    let count : 4 * l.WORD * length new.roll.hashes.items ≡ 4 * l.WORD * (length old.roll.hashes.items + length rs) = ap (λ (n : ℕ). 4 * w * n) entered.count in
    omega (arith, mul-add (4 * l.WORD) (length old.roll.hashes.items) (length rs))

-- the size that the file of the records would have
pub held_size : {S L : Type 0} {s : Ghosts S} {l : Widths L} (m : Maker S L s l) (rs : List KeyValue) (b : List ℕ) → (l.WORD ≡ 4) ⊎ (l.WORD ≡ 8) → Holds m rs → s.image m.store b → made_size m ≡ file_size l.WORD rs
held_size {l = l} m rs b w h is =
    let held = h.each b is in
    let long = sees_long m.roll held.all b held.sees in
    let many : length (gone_in m) ≡ length held.all = omega (arith, long, length-map (marks_in m.roll) is_gone, (marks_long m.roll)) in
    let few : m.roll.gone.count ≤ length m.roll.hashes.items = omega (arith, both_few m.roll) in
    let file = (left_file m.roll held.all b (gone_in m) (m.roll.end - m.roll.gone.size) (count_in m) m.roll.gone.size m.roll.gone.count w many held.sees (omega (arith, both_within m.roll)) (omega (arith, few)) (m.roll.picked.size _ held.sees.of) m.roll.picked.count).0 in
    sym file ∙ ap (file_size l.WORD) (sym held.left)

-- the records that a maker holds can be written
pub held_are : {S L : Type 0} {s : Ghosts S} {l : Widths L} (m : Maker S L s l) (rs : List KeyValue) (b : List ℕ) → Holds m rs → s.image m.store b → All IsRecord rs
held_are m rs b h is =
    let held = h.each b is in
    subst (λ (v : List KeyValue). All IsRecord v) (sym held.left) (left_every IsRecord (gone_in m) held.all held.sees.are)

-- their file is no larger than that of all records
pub made_within : {S L : Type 0} {s : Ghosts S} {l : Widths L} (m : Maker S L s l) → made_size m ≤ full_size m
made_within {l = l} m = let few : count_in m ≤ length m.roll.hashes.items = omega arith in omega (arith, mul-le-mul_left (4 * l.WORD) few)

-- the file of more records
more_size : (w : ℕ) (before rs : List KeyValue) → file_size w (before ++ rs) ≡ file_size w before + sum_by (whole_size w) rs
more_size w before rs = omega (arith, sum_by-append (whole_size w) before rs)

pub keeps_limit : {S L : Type 0} {s : Ghosts S} {l : Widths L} (old new : Maker S L s l) (rs : List KeyValue) → (l.WORD ≡ 4) ⊎ (l.WORD ≡ 8) → ComesFrom (s.image old.store) (s.image new.store)
    → full_size old + sum_by (whole_size l.WORD) rs ≤ old.limit → KeepsLimit old new rs
keeps_limit {l = l} old new rs w comes fits = λ before h. record {
  each = λ b is.
      let a = comes.each b is in
      omega (arith, held_size old before a.0 w h a.1, made_within old, more_size l.WORD before rs);
}

pub passes_limit : {S L : Type 0} {s : Ghosts S} {l : Widths L} (old new : Maker S L s l) (rs : List KeyValue) → (l.WORD ≡ 4) ⊎ (l.WORD ≡ 8) → ComesFrom (s.image old.store) (s.image new.store)
    → old.limit < made_size old + sum_by (whole_size l.WORD) rs → PassesLimit old new rs
passes_limit {l = l} old new rs w comes large = λ before h. record {
  each = λ b is.
      let a = comes.each b is in
      omega (arith, held_size old before a.0 w h a.1, more_size l.WORD before rs);
}

-- memory for an entry was refused
pub stops_entering : {S L : Type 0} {s : Ghosts S} {l : Widths L} (old mid new : Maker S L s l) (rs done later : List KeyValue) (r : KeyValue) → rs ≡ done ++ r ∷ later
    → (l.WORD ≡ 4) ⊎ (l.WORD ≡ 8) → old.broken ≡ false → Enters old mid done → StaysWhole mid new → new.store ≡ old.store → full_size old + sum_by (whole_size l.WORD) (done ++ r ∷ []) ≤ old.limit → AppendsSome old new rs (KeepsLimit old new)
stops_entering {s = s} {l = l} old mid new rs done later r all w was entered stays same fits = record {
  done = done;
  next = r;
  later = later;
  all = all;
  was = was;
  whole = stays.whole;
  holds = λ before h. stays.holds (before ++ done) (entered.holds before h);
  why = keeps_limit old new (done ++ r ∷ []) w (record { each = λ b is. (b, subst (λ (v : _). s.image v b) same is) }) fits;
}

-- the bytes were written, and then all records noted
pub appends_all : {S L : Type 0} {s : Ghosts S} {l : Widths L} (old mid new : Maker S L s l) (rs : List KeyValue) (n : ℕ) → StaysWhole old mid → SameRecords old.roll mid.roll → mid.roll.gone ≡ old.roll.gone → ComesFrom (s.image old.store) (s.image mid.store) → Enters mid new rs
    → n ≡ sum_by (record_size l.WORD) rs → s.written mid.store ≡ s.written old.store + n → s.failures mid.store ≡ s.failures old.store → new.store ≡ mid.store → AppendsAll old new rs n
appends_all {s = s} old mid new rs n stays kept gone comes entered size written fine same =
    let wrote : s.written new.store ≡ s.written old.store + n = ap s.written same ∙ written in
    let few : old.roll.gone.count ≤ length old.roll.hashes.items = omega (arith, both_few old.roll) in
    record {
      was = stays.was;
      whole = entered.whole;
      size = size;
      holds = λ before h. entered.holds before (stays.holds before h);
      written = λ lone. wrote;
      each = λ b is. (let a = comes.each b (subst (λ (v : _). s.image v b) same is) in (a.0, a.1, λ all sees. inl wrote));
      count = omega (arith, few, entered.count, entered.gone, ap (λ q. q.count) gone, ap length kept.hashes);
      failures = ap s.failures same ∙ fine;
    }

-- none were
pub appends_none : {S L : Type 0} {s : Ghosts S} {l : Widths L} (old new : Maker S L s l) (rs : List KeyValue) (n : ℕ) → StaysWhole old new → SameRecords old.roll new.roll → new.roll.gone ≡ old.roll.gone → new.store ≡ old.store → rs ≡ [] → n ≡ sum_by (record_size l.WORD) rs → AppendsAll old new rs n
appends_none {s = s} {l = l} old new rs n stays kept gone same none size =
    let nothing : n ≡ 0 = size ∙ ap (sum_by (record_size l.WORD)) none in
    record {
      was = stays.was;
      whole = stays.whole;
      size = size;
      holds = λ before h. subst (λ (v : List KeyValue). Holds new (before ++ v)) (sym none) (subst (λ (v : List KeyValue). Holds new v) (sym (append-nil before)) (stays.holds before h));
      written = λ lone. omega (arith, nothing, ap s.written same);
      each = λ b is. (b, subst (λ (v : _). s.image v b) same is, λ all sees. inl (omega (arith, nothing, ap s.written same)));
      count = omega (arith, ap length none, ap length kept.hashes, ap (λ q. q.count) gone);
      failures = ap s.failures same;
    }

-- or memory for an entry was refused
some_behind : {S L : Type 0} {s : Ghosts S} {l : Widths L} (old mid new : Maker S L s l) (rs : List KeyValue) → StaysWhole old mid → mid.limit ≡ old.limit
    → AppendsSome mid new rs (KeepsLimit mid new) → AppendsSome old new rs (KeepsLimit old new)
some_behind {s = s} {l = l} old mid new rs stays limit some = record {
  done = some.done;
  next = some.next;
  later = some.later;
  all = some.all;
  was = stays.was;
  whole = some.whole;
  holds = λ before h. some.holds before (stays.holds before h);
  why = λ before h. record {
    each = λ b is.
        let le : file_size l.WORD (before ++ (some.done ++ some.next ∷ [])) ≤ mid.limit = (some.why before (stays.holds before h)).each b is in
        omega arith;
  };
}

pub fails_behind : {S L : Type 0} {s : Ghosts S} {l : Widths L} (old mid new : Maker S L s l) (rs : List KeyValue) (result : Result (Unit {0}) MakeFault) → StaysWhole old mid → mid.limit ≡ old.limit
    → s.failures new.store ≡ s.failures old.store → IfErr result (λ fault. fault ≡ NoMemory) → OnErr result (AppendsSome mid new rs (KeepsLimit mid new)) → IfErr result (FailsAppending old new rs)
fails_behind old mid new rs (Ok u) stays limit fine is some = tt
fails_behind old mid new rs (Err fault) stays limit fine is some = subst (λ (f : MakeFault). FailsAppending old new rs f) (sym is) (some_behind old mid new rs stays limit some, fine)

-- no record was appended
none_done : {S L : Type 0} {s : Ghosts S} {l : Widths L} (old new : Maker S L s l) (r : KeyValue) (later : List KeyValue) → StaysWhole old new → KeepsLimit old new (r ∷ [])
    → AppendsSome old new (r ∷ later) (KeepsLimit old new)
none_done old new r later stays fits = record {
  done = [];
  next = r;
  later = later;
  all = refl;
  was = stays.was;
  whole = stays.whole;
  holds = λ before h. subst (λ (v : List KeyValue). Holds new v) (sym (append-nil before)) (stays.holds before h);
  why = fits;
}

-- the bytes were not written
pub fails_writing : {S L : Type 0} {s : Ghosts S} {l : Widths L} (old new : Maker S L s l) (r : KeyValue) (later : List KeyValue) (fault : MakeFault) → StaysWhole old new → KeepsLimit old new (r ∷ [])
    → FailsWriting old new fault → FailsAppending old new (r ∷ later) fault
fails_writing old new r later Broken stays fits fails = absurd fails
fails_writing old new r later Lookup stays fits fails = absurd fails
fails_writing old new r later TooBig stays fits fails = absurd fails
fails_writing old new r later NoMemory stays fits fails = (none_done old new r later stays fits, fails)
fails_writing old new r later Writing stays fits fails = inl (none_done old new r later stays fits, fails, stays)

-- more records follow those that were to be appended
some_wider : {S L : Type 0} {s : Ghosts S} {l : Widths L} (old new : Maker S L s l) (rs more : List KeyValue) (P : List KeyValue → Type 0) → AppendsSome old new rs P → AppendsSome old new (rs ++ more) P
some_wider old new rs more P some = record {
  done = some.done;
  next = some.next;
  later = some.later ++ more;
  all = ap (λ v. v ++ more) some.all ∙ append_assoc some.done (some.next ∷ some.later) more;
  was = some.was;
  whole = some.whole;
  holds = some.holds;
  why = some.why;
}

pub fails_wider : {S L : Type 0} {s : Ghosts S} {l : Widths L} (old new : Maker S L s l) (rs more : List KeyValue) (fault : MakeFault) → FailsAppending old new rs fault → FailsAppending old new (rs ++ more) fault
fails_wider old new rs more Broken fails = fails
fails_wider old new rs more Lookup fails = fails
fails_wider old new rs more TooBig fails = (some_wider old new rs more (PassesLimit old new) fails.0, fails.1)
fails_wider old new rs more NoMemory fails = (some_wider old new rs more (KeepsLimit old new) fails.0, fails.1)
fails_wider {l = l} old new rs more Writing fails = elim fails [
  | inl f ↦ inl (some_wider old new rs more (KeepsLimit old new) f.0, f.1, f.2)
  | inr t ↦ inr (t.0, t.1, t.2, t.3, omega (arith, t.4, sum_by-append (whole_size l.WORD) rs more), t.5)
]

-- the next one passes the limit
pub appends_until : {S L : Type 0} {s : Ghosts S} {l : Widths L} (old new : Maker S L s l) (rs done later : List KeyValue) (r : KeyValue) (n : ℕ) → rs ≡ done ++ r ∷ later → AppendsAll old new done n
    → PassesLimit old new (done ++ r ∷ []) → FailsAppending old new rs TooBig
appends_until old new rs done later r n all appends passes = (
  record {
    done = done;
    next = r;
    later = later;
    all = all;
    was = appends.was;
    whole = appends.whole;
    holds = appends.holds;
    why = passes;
  },
  appends.failures,
)

-- ---- after a pass

some_after : {S L : Type 0} {s : Ghosts S} {l : Widths L} (old mid new : Maker S L s l) (rs : List KeyValue) (P Q : List KeyValue → Type 0) → StaysWhole old mid → ((v : List KeyValue) → P v → Q v) → AppendsSome mid new rs P → AppendsSome old new rs Q
some_after old mid new rs P Q stays f some = record {
  done = some.done;
  next = some.next;
  later = some.later;
  all = some.all;
  was = stays.was;
  whole = some.whole;
  holds = λ before h. some.holds before (stays.holds before h);
  why = f (some.done ++ some.next ∷ []) some.why;
}

keeps_after : {S L : Type 0} {s : Ghosts S} {l : Widths L} (old mid new : Maker S L s l) → StaysWhole old mid → mid.limit ≡ old.limit → (v : List KeyValue) → KeepsLimit mid new v → KeepsLimit old new v
keeps_after {l = l} old mid new stays limit v k = λ before h. record { each = λ b is. (let le : file_size l.WORD (before ++ v) ≤ mid.limit = (k before (stays.holds before h)).each b is in omega arith) }

passes_after : {S L : Type 0} {s : Ghosts S} {l : Widths L} (old mid new : Maker S L s l) → StaysWhole old mid → mid.limit ≡ old.limit → (v : List KeyValue) → PassesLimit mid new v → PassesLimit old new v
passes_after {l = l} old mid new stays limit v k = λ before h. record { each = λ b is. (let le : mid.limit < file_size l.WORD (before ++ v) = (k before (stays.holds before h)).each b is in omega arith) }

pub appends_after : {S L : Type 0} {s : Ghosts S} {l : Widths L} (old mid new : Maker S L s l) (rs : List KeyValue) (n : ℕ) → IsCrowded old rs → CompactsAll old mid → SameCounts old mid → HasNotFailed old mid → ComesFrom (s.image mid.store) (s.image new.store) → AppendsAll mid new rs n → AppendsAll old new rs n
appends_after {s = s} old mid new rs n crowded compacts counts fine comes appends =
    let none : HasGone mid → ⊥ = λ some. omega (arith, some.1, compacts.none) in
    let wrote : s.written new.store ≡ s.written mid.store + n = appends.written none in
    record {
      was = compacts.stays.was;
      whole = appends.whole;
      size = appends.size;
      holds = λ before h. appends.holds before (compacts.stays.holds before h);
      written = λ lone. omega (arith, wrote, compacts.lone lone);
      each = λ b is.
          let c = comes.each b is in
          let g = compacts.goes.each c.0 c.1 in
          (g.0, g.1, λ all sees. (let q = g.2 all sees in inr (omega (arith, wrote, q.2.1), crowded)));
      count = appends.count ∙ ap (λ (k : ℕ). k + length rs) (left_same old mid compacts.stays.was compacts.stays.whole counts).0;
      failures = appends.failures ∙ fine;
    }

pub fails_after : {S L : Type 0} {s : Ghosts S} {l : Widths L} (old mid new : Maker S L s l) (rs : List KeyValue) (fault : MakeFault) → CompactsAll old mid → SameCounts old mid → HasNotFailed old mid → FailsAppending mid new rs fault → FailsAppending old new rs fault
fails_after old mid new rs Broken compacts counts fine fails = absurd (let t : true ≡ false = sym fails.0 ∙ compacts.stays.whole in cc)
fails_after old mid new rs Lookup compacts counts fine fails = fails
fails_after old mid new rs TooBig compacts counts fine fails = (some_after old mid new rs (PassesLimit mid new) (PassesLimit old new) compacts.stays (passes_after old mid new compacts.stays counts.limit) fails.0, fails.1 ∙ fine)
fails_after old mid new rs NoMemory compacts counts fine fails = (some_after old mid new rs (KeepsLimit mid new) (KeepsLimit old new) compacts.stays (keeps_after old mid new compacts.stays counts.limit) fails.0, fails.1 ∙ fine)
fails_after old mid new rs Writing compacts counts fine fails = elim fails [
  | inl f ↦ inl (
    some_after old mid new rs (KeepsLimit mid new) (KeepsLimit old new) compacts.stays (keeps_after old mid new compacts.stays counts.limit) f.0,
    omega (arith, f.1, fine),
    record { was = compacts.stays.was; whole = f.2.whole; holds = λ before h. f.2.holds before (compacts.stays.holds before h) },
  )
  | inr t ↦ absurd (omega (arith, t.0.1, compacts.none))
]

pub if_ok_weaker : {T E : Type 0} {P Q : T → Type 0} (r : Result T E) → ((x : T) → P x → Q x) → IfOk r P → IfOk r Q
if_ok_weaker (Ok x) f h = f x h
if_ok_weaker (Err e) f h = tt
