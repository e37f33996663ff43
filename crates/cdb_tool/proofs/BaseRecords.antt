-- A base whose records are added to a maker, one after the other.
use Rattle.cdb_tool.proofs.Words.{Bool, Damage, Err, FailsPutting, Fault, Follows, Ghosts, Holds, KeyValue, List, MakeFault, Maker, None, Ok, OnlyReads, OutputSays, Put, Puts, ReadFault, Result, Some, WhereHonest, [], ap, append_assoc, arith, false, file_size, holds_fits, length, length-append, limit_of, reads_nothing, record_in, refl, subst, sym, take, true, true≢false, ℕ, ◌++◌, ◌+◌, ◌<◌, ◌∙◌, ◌∷◌, ◌≡◌, ◌≤◌, ◌⊎◌}
use Rattle.std.proofs.Math.Seq.{drop-drop, take-add, take-append_seam}
use Rattle.std.specs.Prelude.{IfErr, drop}
use Rattle.std.proofs.lemmas.List.{append-nil, length-take}
use Rattle.cdb_form.specs.declared.width.Width.{Ghosts as Widths}
use Rattle.cdb_form.specs.Format.{Walked, walk_of, whole_records, damaged, no_walk, with_first, with_records}
use Rattle.cdb_form.proofs.Files.WalkSteps.{walk_of-short}
use Rattle.cdb_form.specs.declared.damage.Damage.TheVariants as damage
use Rattle.cdb_make.specs.Views.Appending.{AppendsAll, FailsAppending}
use Rattle.cdb_make.specs.Views.Long.{FailsLong}
use Rattle.cdb_store.specs.declared.make_fault.MakeFault.TheVariants as make
use Rattle.cdb_form.specs.declared.mode.Mode.TheVariants.{Add}
use Rattle.cdb_make.specs.declared.answer.Put.TheVariants.{Added}
use Rattle.cdb_make.proofs.Rolls.{whole_push}
use Rattle.cdb_read.specs.Lookup.{bytes_of}
use Rattle.cdb_read.specs.Views.Reads.{OpeningFails, ValueFails}
use Rattle.cdb_read.specs.Views.Walking.{left_of, WalkingFails}
use Rattle.cdb_read.specs.declared.fault.ReadFault.TheVariants as read
use Rattle.cdb_read.specs.declared.walking.records.Walk.{Walk}
use Rattle.cdb_read.specs.declared.span.Pair.{Pair}
use Rattle.cdb_read.specs.declared.span.Span.{Span}
use Rattle.cdb_show.specs.Views.Fault.{read_fault, make_fault}
use Rattle.cdb_tool.specs.Runs.Make.{AddsBase, AddsNext, AddsRecord, BaseFails, IsOfBase, NotAdded, PutsValue, RecordNotAdded, StepsOn}

-- these records were given and added, and then comes what is left of the walk
pub record AddedSoFar {S L : Type 0} {s : Ghosts S} {l : Widths L} (w : ℕ) (images : List ℕ → Type 0) (left : List ℕ → Walked) (first m : Maker S L s l) : Type 0 where
  pub done : List KeyValue
  pub all : (b : List ℕ) → images b → walk_of w b ≡ with_records done (left b)
  pub holds : Holds first [] → Holds m done

no_records : (w : ℕ) → whole_records w 0 [] ≡ []
unfolding whole_records
no_records w = refl

pub added_start : {S L : Type 0} {s : Ghosts S} {l : Widths L} (w : ℕ) (images : List ℕ → Type 0) (left : List ℕ → Walked) (m now : Maker S L s l) (n : ℕ) → AppendsAll m now (whole_records w 0 []) n → ((b : List ℕ) → images b → left b ≡ walk_of w b) → AddedSoFar w images left m now
added_start w images left m now n x is = record { done = []; all = λ b i. sym (is b i); holds = λ h. subst (Holds now) (no_records w) (x.holds [] h) }

-- some were given before others
records_then : (done more : List KeyValue) (rest : Walked) → with_records done (with_records more rest) ≡ with_records (done ++ more) rest
records_then done more rest = ap (λ rs. let walk : Walked = record { records = rs; damage = rest.damage } in walk) (sym (append_assoc done more rest.records))

-- more were given and added
pub added_next : {S L : Type 0} {s : Ghosts S} {l : Widths L} (w : ℕ) (old new : List ℕ → Type 0) (left rest : List ℕ → Walked) (first m now : Maker S L s l) (more : Bool) → AddedSoFar w old left first m → ((b : List ℕ) → new b → old b) → AddsNext w new left rest m now more
    → AddedSoFar w new rest first now
added_next w old new left rest first m now more h fewer x = record {
  done = h.done ++ x.records;
  all = λ b i. h.all b (fewer b i) ∙ ap (with_records h.done) (x.given b i) ∙ records_then h.done x.records (rest b);
  holds = λ none. x.holds h.done (h.holds none);
}

-- all were
pub added_all : {S L : Type 0} {s : Ghosts S} {l : Widths L} (w : ℕ) (images : List ℕ → Type 0) (rest : List ℕ → Walked) (first now : Maker S L s l) → AddedSoFar w images rest first now → ((b : List ℕ) → images b → rest b ≡ no_walk) → Holds first [] → AddsBase w images now
added_all w images rest first now h none holds = record {
  records = h.done;
  holds = h.holds holds;
  each = λ b i.
      h.all b i ∙ ap (with_records h.done) (none b i) ∙ ap (λ rs. let walk : Walked = record { records = rs; damage = None } in walk) (append-nil h.done);
}

-- or not
pub added_not : {S L : Type 0} {s : Ghosts S} {l : Widths L} (old new : List ℕ → Type 0) (left : List ℕ → Walked) (first m now : Maker S L s l) (f : Fault) → AddedSoFar l.WORD old left first m → ((b : List ℕ) → new b → old b)
    → ((rs : List KeyValue) → Holds m rs → (b : List ℕ) → new b → WhereHonest (s.image now.store) (NotAdded l.WORD (limit_of m) (with_records rs (left b)) f)) → limit_of m ≡ limit_of first → Holds first [] → (b : List ℕ) → new b
    → WhereHonest (s.image now.store) (BaseFails l.WORD (limit_of first) b f)
added_not {l = l} old new left first m now f h fewer x limit none b i = record {
  each = λ a j.
      subst (λ (k : ℕ). NotAdded l.WORD k (walk_of l.WORD b) f) limit
      (subst (λ walk. NotAdded l.WORD (limit_of m) walk f) (sym (h.all b (fewer b i))) ((x h.done (h.holds none) b i).each a j));
}

-- ---- a step

-- a window that was read over whole
pub whole_window : (len : ℕ) (xs zs : List ℕ) → length xs ≡ len → take len (xs ++ zs) ≡ xs
whole_window len xs zs e = ap (λ k. take k (xs ++ zs)) (sym e) ∙ take-append_seam xs zs

-- the whole records of a window
window_records : (w : ℕ) (xs bytes : List ℕ) (n : ℕ) → n ≤ length xs → bytes ≡ take n xs → whole_records w (length bytes) bytes ≡ whole_records w n (take n xs)
window_records w xs bytes n few is =
    let long : length bytes ≡ n = omega (arith, few, ap length is, length-take n xs) in
    ap (λ k. whole_records w k bytes) long ∙ ap (whole_records w n) is

-- they were added
pub window_added : {S L : Type 0} {s : Ghosts S} {l : Widths L} (w : ℕ) (images : List ℕ → Type 0) (left rest : List ℕ → Walked) (m now : Maker S L s l) (xs bytes : List ℕ) (n k : ℕ) → n ≤ length xs → bytes ≡ take n xs → ((b : List ℕ) → images b → left b ≡ with_records (whole_records w n (take n xs)) (rest b))
    → AppendsAll m now (whole_records w (length bytes) bytes) k → AddsNext w images left rest m now true
window_added w images left rest m now xs bytes n k few is given x = record {
  records = whole_records w (length bytes) bytes;
  given = λ b i. given b i ∙ ap (λ rs. with_records rs (rest b)) (sym (window_records w xs bytes n few is));
  holds = x.holds;
  ended = λ e. absurd (true≢false e);
}

-- the next record was
pub one_added : {S L : Type 0} {s : Ghosts S} {l : Widths L} (w : ℕ) (images : List ℕ → Type 0) (left rest : List ℕ → Walked) (m now : Maker S L s l) (pair : Pair) → ((b : List ℕ) → images b → left b ≡ with_first (record_in b pair) (rest b)) → AddsRecord images pair m now → AddsNext w images left rest m now true
one_added w images left rest m now pair given x = record {
  records = x.one ∷ [];
  given = λ b i. given b i ∙ ap (λ q. with_records (q ∷ []) (rest b)) (sym (x.is b i));
  holds = x.holds;
  ended = λ e. absurd (true≢false e);
}

-- it was put whole
pub record_added : {S L : Type 0} {s : Ghosts S} {l : Widths L} (images : List ℕ → Type 0) (m now : Maker S L s l) (pair : Pair) (k v : List ℕ) (put : Put) → ((b : List ℕ) → images b → k ≡ bytes_of b pair.key) → ((b : List ℕ) → images b → v ≡ bytes_of b pair.value) → Puts m now Add (record { key = k; value = v }) put
    → AddsRecord images pair m now
record_added images m now pair k v put key value puts = record {
  one = record { key = k; value = v };
  is = λ b i. let e = key b i in let f = value b i in cc;
  holds = puts.holds;
}

-- or in pieces
pub long_added : {S L : Type 0} {s : Ghosts S} {l : Widths L} (images : List ℕ → Type 0) (m now : Maker S L s l) (pair : Pair) (key : List ℕ) → ((b : List ℕ) → images b → key ≡ bytes_of b pair.key) → PutsValue images m now key pair.value → AddsRecord images pair m now
long_added images m now pair key is x = record_added images m now pair key x.value Added is x.is x.puts

-- a piece of a value was read after what was read of it
pub span_piece : (b got piece : List ℕ) (value next : Span) → got ≡ take (length got) (drop value.place b) → piece ≡ bytes_of b next → next.place ≡ value.place + length got → length piece ≡ next.len → got ++ piece ≡ take (length (got ++ piece)) (drop value.place b)
span_piece b got piece value next so is at size =
    let k = length got in
    let more : piece ≡ take next.len (drop k (drop value.place b)) = is ∙ ap (λ n. take next.len (drop n b)) at ∙ ap (take next.len) (sym (drop-drop k value.place b)) in
    let long : length (got ++ piece) ≡ k + next.len = length-append got piece ∙ ap (λ n. k + n) size in
    ap (λ x. x ++ piece) so ∙ ap (λ y. take k (drop value.place b) ++ y) more ∙ sym (take-add k next.len (drop value.place b)) ∙ ap (λ n. take n (drop value.place b)) (sym long)

-- none was left
pub none_added : {S L : Type 0} {s : Ghosts S} {l : Widths L} (w : ℕ) (images : List ℕ → Type 0) (left rest : List ℕ → Walked) (m : Maker S L s l) → ((b : List ℕ) → images b → left b ≡ no_walk) → ((b : List ℕ) → images b → rest b ≡ no_walk) → AddsNext w images left rest m m false
none_added w images left rest m none ended = record {
  records = [];
  given = λ b i. none b i ∙ ap (with_records []) (sym (ended b i));
  holds = λ rs h. subst (Holds m) (sym (append-nil rs)) h;
  ended = λ e b i. ended b i;
}

-- ---- the walk stopped

damage_fails : {S L : Type 0} {s : Ghosts S} {l : Widths L} (rs : List KeyValue) (left : Walked) (d : Damage) (m : Maker S L s l) → (l.WORD ≡ 4) ⊎ (l.WORD ≡ 8) → left ≡ damaged d → Holds m rs → (a : List ℕ) → s.image m.store a
    → ((with_records rs left).damage ≡ Some d) × (file_size l.WORD (with_records rs left).records ≤ limit_of m)
damage_fails {l = l} rs left d m wide is holds a i =
    let fits : file_size l.WORD rs ≤ limit_of m = (holds_fits m rs wide holds).each a i in
    let same : file_size l.WORD (rs ++ left.records) ≡ file_size l.WORD rs = ap (λ (v : Walked). file_size l.WORD (rs ++ v.records)) is ∙ ap (file_size l.WORD) (append-nil rs) in
    (ap (λ (v : Walked). v.damage) is, omega (arith, fits, same))

stopped_so : {S L B : Type 0} {s : Ghosts S} {l : Widths L} {t : Ghosts B} (old new : Walk B L t l) (m : Maker S L s l) (f : ReadFault) → (l.WORD ≡ 4) ⊎ (l.WORD ≡ 8) → WalkingFails l.WORD old new f → (rs : List KeyValue) → Holds m rs → (b : List ℕ) → t.image new.reader.now.store b → (a : List ℕ) → s.image m.store a
    → NotAdded l.WORD (limit_of m) (with_records rs (left_of l.WORD b old)) (read_fault f)
stopped_so old new m read.Short wide x rs holds b i a j = absurd x
stopped_so {l = l} old new m (read.Table n) wide x rs holds b i a j =
    let p = damage_fails rs (left_of l.WORD b old) (damage.Table n) m wide (x.1 b i) holds a j in
    (damage.Table n, refl, p.0, p.1)
stopped_so {l = l} old new m (read.Record place) wide x rs holds b i a j =
    let p = damage_fails rs (left_of l.WORD b old) (damage.Record place) m wide (x.1 b i) holds a j in
    (damage.Record place, refl, p.0, p.1)
stopped_so old new m (read.Slot n k) wide x rs holds b i a j = absurd x
stopped_so old new m (read.Twice place) wide x rs holds b i a j = absurd x
stopped_so old new m (read.Unindexed place) wide x rs holds b i a j = absurd x
stopped_so old new m read.Device wide x rs holds b i a j = tt
stopped_so old new m read.NoMemory wide x rs holds b i a j = absurd x
stopped_so old new m read.Output wide x rs holds b i a j = absurd x

pub walk_stopped : {S L B : Type 0} {s : Ghosts S} {l : Widths L} {t : Ghosts B} (left : List ℕ → Walked) (old new : Walk B L t l) (m : Maker S L s l) (f : ReadFault) → (l.WORD ≡ 4) ⊎ (l.WORD ≡ 8) → ((b : List ℕ) → left b ≡ left_of l.WORD b old) → WalkingFails l.WORD old new f → (rs : List KeyValue) → Holds m rs → (b : List ℕ)
    → t.image new.reader.now.store b → WhereHonest (s.image m.store) (NotAdded l.WORD (limit_of m) (with_records rs (left b)) (read_fault f))
walk_stopped {l = l} left old new m f wide same x rs holds b i = record {
  each = λ a j. subst (λ v. NotAdded l.WORD (limit_of m) (with_records rs v) (read_fault f)) (sym (same b)) (stopped_so old new m f wide x rs holds b i a j);
}

-- ---- records were not added

-- more records take no less room
pub size_grows : (w : ℕ) (rs more : List KeyValue) → file_size w rs ≤ file_size w (rs ++ more)
size_grows w rs [] = subst (λ v. file_size w rs ≤ file_size w v) (sym (append-nil rs)) (omega arith)
size_grows w rs (r ∷ more) =
    let one = whole_push w rs r in
    let rest = subst (λ v. file_size w (rs ++ r ∷ []) ≤ file_size w v) (append_assoc rs (r ∷ []) more) (size_grows w (rs ++ r ∷ []) more) in
    omega (arith, one, rest)

-- a prefix of what is left passes the limit
prefix_passes : (w limit : ℕ) (rs front later : List KeyValue) (rest left : Walked) → left ≡ with_records (front ++ later) rest → limit < file_size w (rs ++ front) → limit < file_size w (rs ++ left.records)
prefix_passes w limit rs front later rest left is large =
    let grows = size_grows w (rs ++ front) (later ++ rest.records) in
    let all : rs ++ left.records ≡ (rs ++ front) ++ (later ++ rest.records) = ap (λ (v : Walked). rs ++ v.records) is ∙ ap (λ t. rs ++ t) (append_assoc front later rest.records) ∙ sym (append_assoc rs front (later ++ rest.records)) in
    let same = ap (file_size w) all in
    omega (arith, large, grows, same)

unappended_so : {S L : Type 0} {s : Ghosts S} {l : Widths L} (rs more : List KeyValue) (left rest : Walked) (m now : Maker S L s l) (f : MakeFault) → left ≡ with_records more rest → FailsAppending m now more f → Holds m rs → (a : List ℕ) → s.image now.store a
    → NotAdded l.WORD (limit_of m) (with_records rs left) (make_fault f)
unappended_so rs more left rest m now make.Broken all x holds a j = absurd (true≢false (sym x.0 ∙ holds.whole))
unappended_so rs more left rest m now make.Lookup all x holds a j = absurd x
unappended_so {l = l} rs more left rest m now make.TooBig all x holds a j =
    let some = x.0 in
    let split : more ≡ (some.done ++ some.next ∷ []) ++ some.later = some.all ∙ sym (append_assoc some.done (some.next ∷ []) some.later) in
    prefix_passes l.WORD (limit_of m) rs (some.done ++ some.next ∷ []) some.later rest left (all ∙ ap (λ v. with_records v rest) split) ((some.why rs holds).each a j)
unappended_so rs more left rest m now make.NoMemory all x holds a j = tt
unappended_so rs more left rest m now make.Writing all x holds a j = tt

pub window_stopped : {S L : Type 0} {s : Ghosts S} {l : Widths L} (images : List ℕ → Type 0) (left rest : List ℕ → Walked) (m now : Maker S L s l) (xs bytes : List ℕ) (n : ℕ) (f : MakeFault) → n ≤ length xs → bytes ≡ take n xs
    → ((b : List ℕ) → images b → left b ≡ with_records (whole_records l.WORD n (take n xs)) (rest b)) → FailsAppending m now (whole_records l.WORD (length bytes) bytes) f → (rs : List KeyValue) → Holds m rs → (b : List ℕ) → images b
    → WhereHonest (s.image now.store) (NotAdded l.WORD (limit_of m) (with_records rs (left b)) (make_fault f))
window_stopped {l = l} images left rest m now xs bytes n f few is given x rs holds b i = record {
  each = λ a j. unappended_so rs (whole_records l.WORD (length bytes) bytes) (left b) (rest b) m now f (given b i ∙ ap (λ v. with_records v (rest b)) (sym (window_records l.WORD xs bytes n few is))) x holds a j;
}

-- an append of none that failed
pub none_stopped : {S L : Type 0} {s : Ghosts S} {l : Widths L} (m now : Maker S L s l) (f : MakeFault) → FailsAppending m now (whole_records l.WORD 0 []) f → Holds m [] → (b : List ℕ) → WhereHonest (s.image now.store) (BaseFails l.WORD (limit_of m) b (make_fault f))
none_stopped {l = l} m now f x holds b = record {
  each = λ a j. unappended_so [] [] (walk_of l.WORD b) (walk_of l.WORD b) m now f refl (subst (λ rs. FailsAppending m now rs f) (no_records l.WORD) x) holds a j;
}

unadded_so : {S L : Type 0} {s : Ghosts S} {l : Widths L} (rs : List KeyValue) (r : KeyValue) (left rest : Walked) (m now : Maker S L s l) (f : MakeFault) → left ≡ with_first r rest → FailsPutting m now Add r f → Holds m rs → (a : List ℕ) → s.image now.store a
    → NotAdded l.WORD (limit_of m) (with_records rs left) (make_fault f)
unadded_so rs r left rest m now make.Broken all x holds a j = absurd (x.cause rs holds a j)
unadded_so rs r left rest m now make.Lookup all x holds a j = absurd (x.2 refl)
unadded_so {l = l} rs r left rest m now make.TooBig all x holds a j = prefix_passes l.WORD (limit_of m) rs (r ∷ []) [] rest left all ((x.1 rs holds).each a j)
unadded_so rs r left rest m now make.NoMemory all x holds a j = tt
unadded_so rs r left rest m now make.Writing all x holds a j = tt

pub record_stopped : {S L : Type 0} {s : Ghosts S} {l : Widths L} (images : List ℕ → Type 0) (m now : Maker S L s l) (pair : Pair) (k v : List ℕ) (f : MakeFault) → ((b : List ℕ) → images b → k ≡ bytes_of b pair.key) → ((b : List ℕ) → images b → v ≡ bytes_of b pair.value) → FailsPutting m now Add (record { key = k; value = v }) f
    → RecordNotAdded images pair m now (make_fault f)
record_stopped images m now pair k v f key value x = λ rest rs holds b i. record {
  each = λ a j.
      let r : KeyValue = record_in b pair in
      let is : KeyValue = record { key = k; value = v } in
      let same : is ≡ r = let e = key b i in let g = value b i in cc in
      unadded_so rs is (with_first r rest) rest m now f (ap (λ q. with_first q rest) (sym same)) x holds a j;
}

-- or written in pieces
pub long_stopped : {S L : Type 0} {s : Ghosts S} {l : Widths L} (m now : Maker S L s l) (f : MakeFault) → FailsLong m now f → (w limit : ℕ) (walk : Walked) → NotAdded w limit walk (make_fault f)
long_stopped m now make.NoMemory x w limit walk = tt
long_stopped m now make.Writing x w limit walk = tt
long_stopped m now f x w limit walk = absurd x

-- the walk stops with it
pub next_stopped : {S L : Type 0} {s : Ghosts S} {l : Widths L} (images : List ℕ → Type 0) (left rest : List ℕ → Walked) (m now : Maker S L s l) (pair : Pair) (f : Fault) → ((b : List ℕ) → images b → left b ≡ with_first (record_in b pair) (rest b)) → RecordNotAdded images pair m now f
    → (rs : List KeyValue) → Holds m rs → (b : List ℕ) → images b → WhereHonest (s.image now.store) (NotAdded l.WORD (limit_of m) (with_records rs (left b)) f)
next_stopped {l = l} images left rest m now pair f given x rs holds b i = record {
  each = λ a j. subst (λ v. NotAdded l.WORD (limit_of m) (with_records rs v) f) (sym (given b i)) ((x (rest b) rs holds b i).each a j);
}

-- no value was read of it
pub unread_anywhere : {B : Type 0} (t : Ghosts B) (old new : B) (f : ReadFault) → ValueFails t old new f → (w limit : ℕ) (walk : Walked) → NotAdded w limit walk (read_fault f)
unread_anywhere t old new read.NoMemory x w limit walk = tt
unread_anywhere t old new read.Device x w limit walk = tt
unread_anywhere t old new f x w limit walk = absurd x

pub unread_base : {S L B : Type 0} {s : Ghosts S} {l : Widths L} {unread unsaid : Type 0} (t : Ghosts B) (old new : B) (m k : Maker S L s l) (f : ReadFault) → ValueFails t old new f → Follows m k → s.failures k.store ≡ s.failures m.store → (t.failures old < t.failures new → unread)
    → StepsOn {A = Unit} m k unread unsaid (Err (read_fault f))
unread_base t old new m k read.NoMemory x follows fine more = record { follows = follows; failed = λ is. absurd is; memory = λ is. fine; fine = tt; base = λ is. absurd is; output = tt }
unread_base t old new m k read.Device x follows fine more = record { follows = follows; failed = λ is. absurd is; memory = λ is. fine; fine = tt; base = λ is. more x; output = tt }
unread_base t old new m k f x follows fine more = absurd x

pub value_stopped : {S L : Type 0} {s : Ghosts S} {l : Widths L} (images : List ℕ → Type 0) (m now : Maker S L s l) (pair : Pair) (result : Result Unit Fault) → IfErr result (λ f. (limit : ℕ) (walk : Walked) → NotAdded l.WORD limit walk f) → IfErr result (RecordNotAdded images pair m now)
value_stopped images m now pair (Ok u) x = tt
value_stopped images m now pair (Err f) x = λ rest rs holds b i. record { each = λ a j. x (limit_of m) (with_records rs (with_first (record_in b pair) rest)) }

-- what fails so is no fault of the base's store
pub make_no_base : (f : MakeFault) → IsOfBase (make_fault f) → ⊥
make_no_base make.Broken is = is
make_no_base make.Lookup is = is
make_no_base make.TooBig is = is
make_no_base make.NoMemory is = is
make_no_base make.Writing is = is

-- and says nothing of an output
pub make_says : (A O : Type 0) (f : MakeFault) → OutputSays {A = A} O (Err (make_fault f))
make_says A O make.Broken = tt
make_says A O make.Lookup = tt
make_says A O make.TooBig = tt
make_says A O make.NoMemory = tt
make_says A O make.Writing = tt

-- ---- no database was opened

-- its store was only read
pub unopened_reads : {B : Type 0} (w : ℕ) (t : Ghosts B) (old new : B) (f : ReadFault) → OpeningFails w t old new f → OnlyReads t old new
unopened_reads w t old new read.Short x = reads_nothing old new x.1
unopened_reads w t old new read.Device x = x.0
unopened_reads w t old new f x = absurd x

unopened_so : {S L B : Type 0} {s : Ghosts S} {l : Widths L} (t : Ghosts B) (old new : B) (m : Maker S L s l) (f : ReadFault) → (l.WORD ≡ 4) ⊎ (l.WORD ≡ 8) → OpeningFails l.WORD t old new f → ((b : List ℕ) → t.image new b → length b ≡ t.size new) → Holds m [] → (b : List ℕ) → t.image new b → (a : List ℕ) → s.image m.store a
    → BaseFails l.WORD (limit_of m) b (read_fault f)
unopened_so {l = l} t old new m read.Short wide x size holds b i a j =
    let long = size b i in
    let same = ap t.size x.1 in
    let few = x.0 in
    let p = damage_fails [] (walk_of l.WORD b) damage.Short m wide (walk_of-short l.WORD b (omega (arith, long, same, few))) holds a j in
    (damage.Short, refl, p.0, p.1)
unopened_so t old new m read.Device wide x size holds b i a j = tt
unopened_so t old new m (read.Table n) wide x size holds b i a j = absurd x
unopened_so t old new m (read.Record place) wide x size holds b i a j = absurd x
unopened_so t old new m (read.Slot n k) wide x size holds b i a j = absurd x
unopened_so t old new m (read.Twice place) wide x size holds b i a j = absurd x
unopened_so t old new m (read.Unindexed place) wide x size holds b i a j = absurd x
unopened_so t old new m read.NoMemory wide x size holds b i a j = tt
unopened_so t old new m read.Output wide x size holds b i a j = absurd x

pub unopened : {S L B : Type 0} {s : Ghosts S} {l : Widths L} (t : Ghosts B) (old new : B) (m : Maker S L s l) (f : ReadFault) → (l.WORD ≡ 4) ⊎ (l.WORD ≡ 8) → OpeningFails l.WORD t old new f → ((b : List ℕ) → t.image new b → length b ≡ t.size new) → Holds m [] → (b : List ℕ) → t.image new b
    → WhereHonest (s.image m.store) (BaseFails l.WORD (limit_of m) b (read_fault f))
unopened t old new m f wide x size holds b i = record { each = λ a j. unopened_so t old new m f wide x size holds b i a j }
