-- A record of a database file at the start of some bytes that are at hand.
use Rattle.cdb_form.proofs.Words.{Consumes, Feed, FromTo, Header, IsStored, KeyValue, List, ReadsFirst, RecordReader, WordPair, ap, arith, drop, drop-drop, drop-take, header_pair, length, length-append, length-drop, length-take, length-take-le, pair_at, prefix_record, prefix_size, record_size, subst, sym, take, take-append-drop, take-take, take_all, walk_from, with_first, ℕ, ◌*◌, ◌++◌, ◌+◌, ◌-◌, ◌<◌, ◌∙◌, ◌≡◌, ◌≤◌}
use Rattle.cdb_form.specs.Views.RecordReader.{GivesRecord}
use Rattle.cdb_form.specs.Views.RecordReader.{HasPeeked}
use Rattle.cdb_form.specs.declared.walk.record_area.RecordArea.{RecordArea}
use Rattle.cdb_form.specs.declared.walk.record_reader.Progress.{Progress}
use Rattle.cdb_form.specs.declared.walk.record_reader.Progress.TheVariants.{AtHead, At, AtEnd, Failed}
use Rattle.cdb_form.proofs.Files.Prefixes.{lengths_of}
use Rattle.cdb_form.proofs.Bytes.ReadBack.{same_words}
use Rattle.cdb_form.proofs.RecordReading.RecordReads.{goes_on, record_cut, record_read}
use Rattle.cdb_form.proofs.Bytes.WordLemmas.{pair_at-take}

-- the parts of the record that some bytes begin with, and whose header has this size
pub record Stored (w size n klen vlen : ℕ) (bytes : List ℕ) : Type 0 where
  pub whole : prefix_size w (take n bytes) ≡ n
  pub key : (prefix_record w (take n bytes)).key ≡ take klen (drop size bytes)
  pub value : (prefix_record w (take n bytes)).value ≡ take vlen (drop klen (drop size bytes))

-- they are those of the bytes that it has alone
in_prefix : (w : ℕ) (bytes : List ℕ) (h : Header) → header_pair h ≡ pair_at w (take (2 * w) bytes) → Stored w (2 * w) (2 * w + h.klen + h.vlen) h.klen h.vlen bytes
in_prefix w bytes h told =
    let n = 2 * w + h.klen + h.vlen in
    let twice : 2 * w ≡ w + w = omega arith in
    let long : n ≡ 2 * w + (h.klen + h.vlen) = omega arith in
    let words : pair_at w (take n bytes) ≡ header_pair h =
    sym (pair_at-take w (take n bytes)) ∙ ap (pair_at w) (take-take (w + w) n bytes (omega arith)) ∙ ap (λ (k : ℕ). pair_at w (take k bytes)) (sym twice) ∙ sym told in
    let body : drop (2 * w) (take n bytes) ≡ take (h.klen + h.vlen) (drop (2 * w) bytes) = ap (λ (k : ℕ). drop (2 * w) (take k bytes)) long ∙ drop-take (2 * w) (h.klen + h.vlen) bytes in
    let behind : drop (2 * w + h.klen) (take n bytes) ≡ take h.vlen (drop h.klen (drop (2 * w) bytes)) =
    drop-take (2 * w + h.klen) h.vlen bytes ∙ ap (take h.vlen) (sym (drop-drop h.klen (2 * w) bytes)) in
    record {
      whole = ap (λ (p : WordPair). 2 * w + p.first + p.second) words;
      key = ap (λ (p : WordPair). take p.first (drop (2 * w) (take n bytes))) words ∙ ap (take h.klen) body ∙ take-take h.klen (h.klen + h.vlen) (drop (2 * w) bytes) (omega arith);
      value = ap (λ (p : WordPair). take p.second (drop (2 * w + p.first) (take n bytes))) words ∙ ap (take h.vlen) behind ∙ take-take h.vlen h.vlen (drop h.klen (drop (2 * w) bytes)) (omega arith);
    }

pub stored_prefix : (w size : ℕ) (bytes : List ℕ) (h : Header) → size ≡ 2 * w → header_pair h ≡ pair_at w (take size bytes) → Stored w size (size + h.klen + h.vlen) h.klen h.vlen bytes
stored_prefix w size bytes h e told =
    subst (λ (k : ℕ). Stored w k (k + h.klen + h.vlen) h.klen h.vlen bytes) (sym e) (in_prefix w bytes h (told ∙ ap (λ (k : ℕ). pair_at w (take k bytes)) e))

-- the parts of bytes that are one record
record Parts (w : ℕ) (bytes : List ℕ) : Type 0 where
  pub long : length (take (2 * w) bytes) ≡ 2 * w
  pub lengths : pair_at w (take (2 * w) bytes) ≡ lengths_of (prefix_record w bytes)
  pub split : bytes ≡ take (2 * w) bytes ++ ((prefix_record w bytes).key ++ (prefix_record w bytes).value)

parts_of : (w : ℕ) (bytes : List ℕ) → prefix_size w bytes ≡ length bytes → Parts w bytes
parts_of w bytes whole =
    let p = pair_at w bytes in
    let body = drop (2 * w) bytes in
    let tail = drop (2 * w + p.first) bytes in
    let twice : 2 * w ≡ w + w = omega arith in
    let klong : length (take p.first body) ≡ p.first = length-take-le p.first body (omega (arith, whole, length-drop (2 * w) bytes)) in
    let last : take p.second tail ≡ tail = take_all p.second tail (omega (arith, whole, length-drop (2 * w + p.first) bytes)) in
    let vlong : length (take p.second tail) ≡ p.second = ap length last ∙ omega (arith, whole, length-drop (2 * w + p.first) bytes) in
    let behind : take p.first body ++ take p.second tail ≡ body = ap (λ t. take p.first body ++ t) (last ∙ sym (drop-drop p.first (2 * w) bytes)) ∙ take-append-drop p.first body in
    record {
      long = length-take-le (2 * w) bytes (omega (arith, whole));
      lengths = ap (λ (k : ℕ). pair_at w (take k bytes)) twice ∙ pair_at-take w bytes ∙ same_words p (lengths_of (prefix_record w bytes)) (sym klong) (sym vlong);
      split = sym (ap (λ t. take (2 * w) bytes ++ t) behind ∙ take-append-drop (2 * w) bytes);
    }

-- a record that was taken is the next one of the walk
pub stored_read : (w place end next : ℕ) (old new : Feed) (bytes : List ℕ) → 0 < w → Consumes old new bytes → prefix_size w bytes ≡ length bytes → next ≡ place + length bytes → next ≤ end
    → (next ≡ place + record_size w (prefix_record w bytes))
    × FromTo old new (λ text rest. (walk_from w place end text ≡ with_first (prefix_record w bytes) (walk_from w next end rest)) × (rest ≡ drop (next - place) text))
    × ReadsFirst (prefix_record w bytes) (walk_from w place end) (walk_from w next end) old new
stored_read w place end next old new bytes some read whole at room =
    let r = prefix_record w bytes in
    let header = take (2 * w) bytes in
    let parts = parts_of w bytes whole in
    let behind : next ≡ place + record_size w r = omega (arith, at, parts.long, ap length parts.split, length-append header (r.key ++ r.value), length-append r.key r.value) in
    let split : Consumes old new (header ++ (r.key ++ r.value)) = subst (Consumes old new) parts.split read in (
      behind,
      record_read w place end next old new header r some split parts.long parts.lengths behind room,
      record_cut w place end next old new header r some split parts.long parts.lengths behind room,
    )

-- so is one that was taken of the bytes that are at hand before the record end
pub stored_taken : (w place end next n : ℕ) (old new : Feed) (held : List ℕ) (r : KeyValue) → 0 < w → place ≤ end → IsStored w (take (end - place) held) n r → Consumes old new (take n held) → next ≡ place + n
    → (next ≡ place + record_size w r)
    × FromTo old new (λ text rest. (walk_from w place end text ≡ with_first r (walk_from w next end rest)) × (rest ≡ drop (next - place) text))
    × ReadsFirst r (walk_from w place end) (walk_from w next end) old new
stored_taken w place end next n old new held r some ordered begins taken at =
    let most = end - place in
    let window = take most held in
    let few : n ≤ most = omega (arith, begins.within, length-take most held) in
    let same : take n window ≡ take n held = take-take n most held few in
    let read = subst (Consumes old new) (sym same) taken in
    let long = length-take-le n window begins.within in
    let all = stored_read w place end next old new (take n window) some read (begins.whole ∙ sym long) (omega (arith, long)) (omega (arith, few)) in
    subst (λ (q : KeyValue). (next ≡ place + record_size w q)
    × FromTo old new (λ text rest. (walk_from w place end text ≡ with_first q (walk_from w next end rest)) × (rest ≡ drop (next - place) text))
    × ReadsFirst q (walk_from w place end) (walk_from w next end) old new) begins.is all

-- what the record reader goes on with
abbrev area_in : RecordArea → Progress → RecordArea
area_in other AtHead = other
area_in other (At area) = area
area_in other AtEnd = other
area_in other (Failed fault) = other

-- a record that was shown was taken
pub peeked_taken : {R L : Type 0} (w : ℕ) (feed : R → Feed) (held : R → List ℕ) (old new : RecordReader R L) (now next : RecordArea) (n : ℕ) (r : KeyValue) → 0 < w → HasPeeked w held old n r
    → old.walking ≡ At now → new.walking ≡ At next → Consumes (feed old.reader) (feed new.reader) (take n (held old.reader)) → next.place ≡ now.place + n → next.end ≡ now.end → GivesRecord w feed old new r
peeked_taken w feed held old new now next n r some peeked is becomes taken at end =
    let same : peeked.area ≡ now = ap (area_in now) (sym peeked.going ∙ is) in
    let begins = subst (λ (a : RecordArea). IsStored w (take (a.end - a.place) (held old.reader)) n r) same peeked.begins in
    let all = stored_taken w now.place now.end next.place n (feed old.reader) (feed new.reader) (held old.reader) r some now.ordered begins taken at in
    let few : n ≤ now.end - now.place = omega (arith, begins.within, length-take (now.end - now.place) (held old.reader)) in
    let most : 0 < n = omega (arith, begins.whole) in
    rw (is, becomes) (record {
      walk = goes_on w now.place now.end next.place next.end _ _ r (omega arith) (omega arith) end all.1;
      cut = subst (λ (e : ℕ). ReadsFirst r (walk_from w now.place now.end) (walk_from w next.place e) (feed old.reader) (feed new.reader)) (sym end) all.2;
      going = tt;
      fewer = omega (arith, end);
    })
