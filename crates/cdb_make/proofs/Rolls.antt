-- What a roll says of an image, step by step.
use Rattle.cdb_make.proofs.Words.{marks_in, AfterTornWrite, AreNone, AreOf, Bool, Ghosts, IsErrAnd, IsRecord, KeepsPart, KeyValue, List, LookFault, MakeFault, Maker, OnlyReads, Roll, SameImages, SameRecords, Sees, SeesNone, Stand, [], ap, arith, cases_eq, cases_lt, cond, end_from, false, file_size, found_of, fresh, get_or, get_or_append_left, get_or_past, get_or_push, gone_of, has_key, head_size, inl, inr, joined, key_hash, left, length, length-append, length-map, length_push, map, map-append, not, number, or_each, overwrite, part, part-overwrite, part_add, part_from_take, picked, places_in, record_bytes, record_size, refl, searched, sought_in, subst, sum_by, sum_by-cons, sum_by_push, sym, take, take-overwrite, take-take, true, whole_size, without, ℕ, ◌*◌, ◌++◌, ◌+◌, ◌<◌, ◌∙◌, ◌∷◌, ◌≡◌, ◌≤◌, ◌⊎◌, kept_torn}
use Rattle.std.specs.Prelude.{All, sum, Result, Ok, Err, IfErr, OnOk, OnErr}
use Rattle.std.proofs.lemmas.List.Elements.{All-append, All-cons, All-nil, All-head, All-tail}
use Rattle.cdb_form.specs.declared.width.Width.{Ghosts as Widths}
use Rattle.cdb_make.specs.Chains.{second_hash, sought_by}
use Rattle.cdb_make.specs.declared.key_at.LookFault.TheVariants.{Failed, Foreign}
use Rattle.cdb_store.specs.declared.store.StoreFault.{StoreFault}
use Rattle.cdb_store.specs.declared.store.StoreFault.TheVariants.{Device, NoMemory as Refused}
use Rattle.cdb_store.specs.declared.make_fault.MakeFault.TheVariants.{Broken, Lookup, TooBig, NoMemory, Writing}
use Rattle.cdb_store.specs.MakeFault.{fault_of}
use Rattle.cdb_make.specs.Views.Maker.{Goes, ComesFrom, AddFails, Follows, Stays, IsMarked, FailsExchanging, FailsCompacting, FailsLooking, HasStoreFailed, gone_in, found_in, is_foreign, look_fault}
use Rattle.cdb_make.proofs.Spans.{left-map, joined_more, joined_end, kept_then}
use Rattle.cdb_make.proofs.Looking.{sizes_of, sees_long, sees_same, same_self}
use Rattle.cdb_make.proofs.Picking.{left_sum, left_number, end_sum}

pub left_every : (P : KeyValue → Type 0) (ms : List Bool) (rs : List KeyValue) → All P rs → All P (left ms rs)
left_every P [] rs all = all
left_every P (m ∷ ms) [] all = All-nil P
left_every P (true ∷ ms) (r ∷ rs) all = left_every P ms rs (All-tail P r rs all)
left_every P (false ∷ ms) (r ∷ rs) all = All-cons P r (left ms rs) (All-head P r rs all) (left_every P ms rs (All-tail P r rs all))

-- where the records end
pub end_joined : {L : Type 0} {l : Widths L} (m : Roll L l) (all : List KeyValue) (b : List ℕ) → Sees m all b → m.end ≡ head_size l.WORD + length (joined (map (record_bytes l.WORD) all))
end_joined {l = l} m all b h = h.of.ends ∙ ap (end_from (head_size l.WORD)) (sym (sizes_of l.WORD all)) ∙ joined_end (head_size l.WORD) (map (record_bytes l.WORD) all)

-- the same records with the same bytes
pub sees_kept : {L : Type 0} {l : Widths L} (old new : Roll L l) (all : List KeyValue) (a b : List ℕ) → SameRecords old new → take old.end b ≡ take old.end a → Sees old all a → Sees new all b
sees_kept {l = l} old new all a b same kept h =
    let w : ℕ = l.WORD in
    let n : ℕ = length (joined (map (record_bytes w) all)) in
    let moved = sees_same old new all a same h in
    record {
      are = h.are;
      stand = part_from_take (head_size w) n old.end a b (sym (end_joined old all a h)) kept ∙ h.stand;
      hashes = moved.hashes;
      searched = moved.searched;
      of = moved.of;
    }

-- the number of one more
pub number_is : (tagged : Bool) (key : List ℕ) (hash tag : ℕ) → hash ≡ key_hash key → (tagged ≡ true → tag ≡ second_hash key) → cond tagged tag hash ≡ sought_by tagged key
number_is true key hash tag hashed tags = tags refl
number_is false key hash tag hashed tags = hashed

-- one record more, whose bytes follow them
pub sees_entered : {L : Type 0} {l : Widths L} (old new : Roll L l) (r : KeyValue) (all : List KeyValue) (b : List ℕ) → IsRecord r → new.hashes.items ≡ old.hashes.items ++ key_hash r.key ∷ [] → new.tagged ≡ old.tagged → searched new ≡ searched old ++ sought_in old r.key ∷ []
    → ((sizes : List ℕ) → AreOf (head_size l.WORD) (places_in old.places) old.end sizes → AreOf (head_size l.WORD) (places_in new.places) new.end (sizes ++ record_size l.WORD r ∷ [])) → part old.end (length (record_bytes l.WORD r)) b ≡ record_bytes l.WORD r → Sees old all b → Sees new (all ++ r ∷ []) b
sees_entered {l = l} old new r all b is_record hashes tagged numbers of behind h =
    let w : ℕ = l.WORD in
    let x : List ℕ = record_bytes w r in
    let js : List ℕ = joined (map (record_bytes w) all) in
    let at : head_size w + length js ≡ old.end = sym (end_joined old all b h) in
    let back : part (head_size w + length js) (length x) b ≡ x = ap (λ (v : ℕ). part v (length x) b) at ∙ behind in
    let all_is : joined (map (record_bytes w) (all ++ r ∷ [])) ≡ js ++ x = ap joined (map-append (record_bytes w) all (r ∷ [])) ∙ joined_more (map (record_bytes w) all) x in
    record {
      are = All-append IsRecord all (r ∷ []) h.are (All-cons IsRecord r [] is_record (All-nil IsRecord));
      stand =
          ap (λ (v : List ℕ). part (head_size w) (length v) b) all_is
          ∙ ap (λ (v : ℕ). part (head_size w) v b) (length-append js x)
          ∙ part_add (head_size w) (length js) (length x) b
          ∙ ap (λ (v : List ℕ). v ++ part (head_size w + length js) (length x) b) h.stand
          ∙ ap (λ (v : List ℕ). js ++ v) back
          ∙ sym all_is;
      hashes = hashes ∙ ap (λ (v : List ℕ). v ++ key_hash r.key ∷ []) h.hashes ∙ sym (map-append (λ q. key_hash q.key) all (r ∷ []));
      searched = numbers ∙ ap (λ (v : List ℕ). v ++ sought_in old r.key ∷ []) h.searched ∙ sym (map-append (λ q. sought_in old q.key) all (r ∷ [])) ∙ ap (λ (v : Bool). map (λ q. sought_by v q.key) (all ++ r ∷ [])) (sym tagged);
      of = subst (AreOf (head_size w) (places_in new.places) new.end) (sym (map-append (record_size w) all (r ∷ []))) (of (map (record_size w) all) h.of);
    }

-- or are written there
pub sees_added : {L : Type 0} {l : Widths L} (old new : Roll L l) (r : KeyValue) (all : List KeyValue) (a b : List ℕ) → IsRecord r → old.end ≤ length a → new.hashes.items ≡ old.hashes.items ++ key_hash r.key ∷ [] → new.tagged ≡ old.tagged → searched new ≡ searched old ++ sought_in old r.key ∷ []
    → ((sizes : List ℕ) → AreOf (head_size l.WORD) (places_in old.places) old.end sizes → AreOf (head_size l.WORD) (places_in new.places) new.end (sizes ++ record_size l.WORD r ∷ [])) → b ≡ overwrite a old.end (record_bytes l.WORD r) → Sees old all a → Sees new (all ++ r ∷ []) b
sees_added {l = l} old new r all a b is_record inside hashes tagged numbers of written h =
    let x : List ℕ = record_bytes l.WORD r in
    let same : take old.end b ≡ take old.end a = ap (take old.end) written ∙ take-overwrite old.end old.end a x (omega arith) inside in
    sees_entered old new r all b is_record hashes tagged numbers of (ap (part old.end (length x)) written ∙ part-overwrite old.end a x inside) (sees_kept old old all a b (same_self old) same h)

-- those without a mark
pub sees_compacted : {L : Type 0} {l : Widths L} (old new : Roll L l) (all : List KeyValue) (a b : List ℕ) → new.hashes.items ≡ left (gone_of (marks_in old)) old.hashes.items → new.tagged ≡ old.tagged → searched new ≡ left (gone_of (marks_in old)) (searched old)
    → ((sizes : List ℕ) → AreOf (head_size l.WORD) (places_in old.places) old.end sizes → AreOf (head_size l.WORD) (places_in new.places) new.end (left (gone_of (marks_in old)) sizes))
    → ((ps : List (List ℕ)) → AreOf (head_size l.WORD) (places_in old.places) old.end (map length ps) → Stand (head_size l.WORD) ps a → Stand (head_size l.WORD) (left (gone_of (marks_in old)) ps) b) → Sees old all a → Sees new (left (gone_of (marks_in old)) all) b
sees_compacted {l = l} old new all a b hashes tagged numbers of stands h =
    let w : ℕ = l.WORD in
    let ms : List Bool = gone_of (marks_in old) in
    let sized : AreOf (head_size w) (places_in old.places) old.end (map length (map (record_bytes w) all)) = subst (AreOf (head_size w) (places_in old.places) old.end) (sym (sizes_of w all)) h.of in
    record {
      are = left_every IsRecord ms all h.are;
      stand = subst (λ (v : List (List ℕ)). Stand (head_size w) v b) (sym (left-map (record_bytes w) ms all)) (stands (map (record_bytes w) all) sized h.stand);
      hashes = hashes ∙ ap (left ms) h.hashes ∙ sym (left-map (λ r. key_hash r.key) ms all);
      searched = numbers ∙ ap (left ms) h.searched ∙ sym (left-map (λ r. sought_in old r.key) ms all) ∙ ap (λ (v : Bool). map (λ q. sought_by v q.key) (left ms all)) (sym tagged);
      of = subst (AreOf (head_size w) (places_in new.places) new.end) (sym (left-map (record_size w) ms all)) (of (map (record_size w) all) h.of);
    }

pub left_fewer : {A : Type 0} (ms : List Bool) (xs : List A) → length (left ms xs) ≤ length xs
left_fewer [] xs = omega arith
left_fewer (m ∷ ms) [] = omega arith
left_fewer (true ∷ ms) (x ∷ xs) = let h = left_fewer ms xs in omega arith
left_fewer (false ∷ ms) (x ∷ xs) = let h = left_fewer ms xs in omega arith

-- slots of one more, and of fewer
pub more_slots : (w n : ℕ) → (w ≡ 4) ⊎ (w ≡ 8) → 4 * w * (n + 1) ≡ 4 * w * n + 4 * w
more_slots w n (inl e) =
    let a : 4 * w * (n + 1) ≡ 16 * (n + 1) = ap (λ (v : ℕ). 4 * v * (n + 1)) e in
    let b : 4 * w * n ≡ 16 * n = ap (λ (v : ℕ). 4 * v * n) e in
    omega arith
more_slots w n (inr e) =
    let a : 4 * w * (n + 1) ≡ 32 * (n + 1) = ap (λ (v : ℕ). 4 * v * (n + 1)) e in
    let b : 4 * w * n ≡ 32 * n = ap (λ (v : ℕ). 4 * v * n) e in
    omega arith

-- the slots of one record more
pub slots_push : (w hash : ℕ) (old was new : List ℕ) → (w ≡ 4) ⊎ (w ≡ 8) → was ≡ old → new ≡ was ++ hash ∷ [] → 4 * w * length new ≡ 4 * w * length old + 4 * w
slots_push w hash old was new wide same push =
    let long : length new ≡ length old + 1 = ap length push ∙ length_push was hash ∙ ap (λ (v : List ℕ). length v + 1) same in
    ap (λ (v : ℕ). 4 * w * v) long ∙ more_slots w (length old) wide

pub fewer_slots : (w few n : ℕ) → (w ≡ 4) ⊎ (w ≡ 8) → few ≤ n → 4 * w * few ≤ 4 * w * n
fewer_slots w few n (inl e) le =
    let a : 4 * w * few ≡ 16 * few = ap (λ (v : ℕ). 4 * v * few) e in
    let b : 4 * w * n ≡ 16 * n = ap (λ (v : ℕ). 4 * v * n) e in
    omega arith
fewer_slots w few n (inr e) le =
    let a : 4 * w * few ≡ 32 * few = ap (λ (v : ℕ). 4 * v * few) e in
    let b : 4 * w * n ≡ 32 * n = ap (λ (v : ℕ). 4 * v * n) e in
    omega arith

-- ---- marks for the records of a key

-- with them its records are gone
pub taken_out : (k : List ℕ) (ms : List Bool) (rs : List KeyValue) → length ms ≡ length rs → left (or_each ms (fresh k ms rs)) rs ≡ without k (left ms rs)
taken_out k [] [] e = refl
taken_out k [] (r ∷ rs) e = absurd (omega arith)
taken_out k (m ∷ ms) [] e = absurd (omega arith)
taken_out k (true ∷ ms) (r ∷ rs) e = taken_out k ms rs (omega arith)
taken_out k (false ∷ ms) (r ∷ rs) e =
    let t : left (or_each ms (fresh k ms rs)) rs ≡ without k (left ms rs) = taken_out k ms rs (omega arith) in
    let xs : List KeyValue = left (or_each ms (fresh k ms rs)) rs in
    elim (has_key k r) as (λ b. cond (cond b true false) xs (r ∷ xs) ≡ cond (not b) (r ∷ without k (left ms rs)) (without k (left ms rs))) [ true ↦ t | false ↦ ap (λ v. r ∷ v) t ]

-- ---- the one relation: a step after another

pub goes_then : {S L : Type 0} {s : Ghosts S} {l : Widths L} (i j k : Maker S L s l) {P Q R : List KeyValue → List KeyValue → Type 0} → ((all mid rest : List KeyValue) → P all mid → Q mid rest → R all rest) → Goes i j P → Goes j k Q → Goes i k R
goes_then i j k f p q = record {
  each = λ b is.
      let h = q.each b is in
      let g = p.each h.0 h.1 in
      (g.0, g.1, λ all sees. (let m = g.2 all sees in let n = h.2 m.0 m.1 in (n.0, n.1, f all m.0 n.0 m.2 n.2)));
}

pub comes_write : {at n : ℕ} {old new : List ℕ → Type 0} → AfterTornWrite at n old new → ComesFrom old new
comes_write torn = record { each = λ b is. let h = torn.no_other b is in (h.0, h.1) }

pub comes_part : {at n : ℕ} {old new : List ℕ → Type 0} → KeepsPart at n old new → ComesFrom old new
comes_part keeps = record { each = λ b is. let h = keeps.each b is in (h.0, h.1) }

-- one more that stays
pub none_more : (ms new : List Bool) → new ≡ ms ++ false ∷ [] → AreNone ms → AreNone new
none_more ms new is none k = ap (λ (v : List Bool). get_or v k false) is ∙ elim (cases_lt k (length ms)) [
  | inl lt ↦ get_or_append_left ms (false ∷ []) false k lt ∙ none k
  | inr le ↦ elim (cases_eq k (length ms)) [
    | inl e ↦ get_or_push ms false false k (sym e)
    | inr apart ↦ get_or_past (ms ++ false ∷ []) k false (omega (arith, length_push ms false))
  ]
]

-- a fault that is known, and that of a store
pub fails_with : {T : Type 0} (P : MakeFault → Type 0) (result : Result T MakeFault) (f : MakeFault) → IsErrAnd result (λ v. v ≡ f) → P f → IfErr result P
fails_with P (Ok x) f is h = tt
fails_with P (Err v) f is h = subst P (sym is) h

pub store_fails : {T : Type 0} (P : MakeFault → Type 0) (result : Result T MakeFault) (e : StoreFault) → IsErrAnd result (λ v. v ≡ fault_of e) → (e ≡ Refused → P NoMemory) → (e ≡ Device → P Writing) → IfErr result P
store_fails P result Device is memory device = fails_with P result Writing is (device refl)
store_fails P result Refused is memory device = fails_with P result NoMemory is (memory refl)

-- slots of some and of others
pub slots_add : (w a b : ℕ) → (w ≡ 4) ⊎ (w ≡ 8) → 4 * w * (a + b) ≡ 4 * w * a + 4 * w * b
slots_add w a b (inl e) =
    let x : 4 * w * (a + b) ≡ 16 * (a + b) = ap (λ (v : ℕ). 4 * v * (a + b)) e in
    let y : 4 * w * a ≡ 16 * a = ap (λ (v : ℕ). 4 * v * a) e in
    let z : 4 * w * b ≡ 16 * b = ap (λ (v : ℕ). 4 * v * b) e in
    omega arith
slots_add w a b (inr e) =
    let x : 4 * w * (a + b) ≡ 32 * (a + b) = ap (λ (v : ℕ). 4 * v * (a + b)) e in
    let y : 4 * w * a ≡ 32 * a = ap (λ (v : ℕ). 4 * v * a) e in
    let z : 4 * w * b ≡ 32 * b = ap (λ (v : ℕ). 4 * v * b) e in
    omega arith

-- the file of some records
pub file_sum : (w : ℕ) (rs : List KeyValue) → (w ≡ 4) ⊎ (w ≡ 8) → file_size w rs ≡ head_size w + sum (map (record_size w) rs) + 4 * w * length rs
file_sum w [] e = let z : 4 * w * 0 ≡ 0 = omega arith in omega (arith, z)
file_sum w (r ∷ rs) e =
    let h : head_size w + sum_by (whole_size w) rs ≡ head_size w + sum (map (record_size w) rs) + 4 * w * length rs = file_sum w rs e in
    let a : sum_by (whole_size w) (r ∷ rs) ≡ whole_size w r + sum_by (whole_size w) rs = sum_by-cons (whole_size w) r rs in
    let b : sum (map (record_size w) (r ∷ rs)) ≡ record_size w r + sum (map (record_size w) rs) = sum_by-cons (λ (n : ℕ). n) (record_size w r) (map (record_size w) rs) in
    let d : 4 * w * (length rs + 1) ≡ 4 * w * length rs + 4 * w = more_slots w (length rs) e in
    let f : length (r ∷ rs) ≡ length rs + 1 = omega arith in
    let k : 4 * w * length (r ∷ rs) ≡ 4 * w * (length rs + 1) = ap (λ (v : ℕ). 4 * w * v) f in
    omega (arith, h, a, b, d, k)

pub whole_push : (w : ℕ) (rs : List KeyValue) (r : KeyValue) → file_size w (rs ++ r ∷ []) ≡ file_size w rs + whole_size w r
whole_push w rs r = omega (arith, sum_by_push (whole_size w) rs r)

-- what is left of the records that a roll notes, without those of some marks
pub left_file : {L : Type 0} {l : Widths L} (m : Roll L l) (all : List KeyValue) (b : List ℕ) (ms : List Bool) (end count size many : ℕ) → (l.WORD ≡ 4) ⊎ (l.WORD ≡ 8) → length ms ≡ length all → Sees m all b → end + size ≡ m.end → count + many ≡ length m.hashes.items
    → size ≡ sum (picked ms (map (record_size l.WORD) all)) → many ≡ number ms → (file_size l.WORD (left ms all) ≡ end + 4 * l.WORD * count) × (count ≡ length (left ms all))
left_file {l = l} m all b ms end count size many w long h ends counts sized numbered =
    let ns : List ℕ = map (record_size l.WORD) all in
    let sums : sum (left ms ns) + sum (picked ms ns) ≡ sum ns = left_sum ms ns (long ∙ sym (length-map all (record_size l.WORD))) in
    let same : sum (map (record_size l.WORD) (left ms all)) ≡ sum (left ms ns) = ap sum (left-map (record_size l.WORD) ms all) in
    let last : m.end ≡ head_size l.WORD + sum ns = h.of.ends ∙ end_sum (head_size l.WORD) ns in
    let len : count ≡ length (left ms all) = omega (arith, left_number ms all long, counts, numbered, sees_long m all b h) in
    let slots : 4 * l.WORD * count ≡ 4 * l.WORD * length (left ms all) = ap (λ (v : ℕ). 4 * l.WORD * v) len in
    (omega (arith, file_sum l.WORD (left ms all) w, sums, same, last, ends, sized, slots), len)

-- ---- after a call another

pub follows_then : {S L : Type 0} {s : Ghosts S} {l : Widths L} (i j k : Maker S L s l) → Follows i j → Follows j k → Follows i k
follows_then i j k f h = record {
  comes = record { each = λ b is. let p = h.comes.each b is in f.comes.each p.0 p.1 };
  head = kept_then f.head h.head;
  limit = h.limit ∙ f.limit;
  lazy = h.lazy ∙ f.lazy;
  room = omega (arith, f.room, h.room);
  failures = omega (arith, f.failures, h.failures);
  unwritten = omega (arith, f.unwritten, h.unwritten);
}

pub exchange_fails : {S L : Type 0} {s : Ghosts S} {l : Widths L} (i j k : Maker S L s l) (result : Result (Unit {0}) MakeFault) (wants : Type 0) → (wants → ⊥) → j.broken ≡ false → AreNone (gone_in j) → Follows i j → Goes i j (λ all rest. rest ≡ left (or_each (gone_in i) (found_in i)) all)
    → OnErr result (Stays j k) → IfErr result (AddFails (s.written j.store) (s.written k.store) (s.failures j.store) (s.failures k.store) (s.unwritten j.store) (s.unwritten k.store) wants) → IfErr result (FailsExchanging i k)
exchange_fails i j k (Ok x) wants room whole none follows goes stays fails = tt
exchange_fails i j k (Err Broken) wants room whole none follows goes stays fails = fails
exchange_fails i j k (Err Lookup) wants room whole none follows goes stays fails = fails
exchange_fails i j k (Err TooBig) wants room whole none follows goes stays fails = fails
exchange_fails i j k (Err NoMemory) wants room whole none follows goes stays fails = room fails.2
exchange_fails i j k (Err Writing) wants room whole none follows goes stays fails = inr (
  stays.broken ∙ whole,
  subst (λ v. AreNone (gone_of v)) (sym stays.marks) none,
  record { failed = omega (arith, fails.0, follows.failures); unwritten = omega (arith, fails.1, follows.unwritten) },
  goes_then i j k (λ all mid rest p q. q ∙ p) goes stays.goes,
)

pub torn_fails : {S L : Type 0} {s : Ghosts S} {l : Widths L} (i k : Maker S L s l) (result : Result (Unit {0}) MakeFault) (f : MakeFault) → f ≡ Writing → k.broken ≡ true → HasStoreFailed i k → IsMarked k → IsErrAnd result (λ v. v ≡ f) → IfErr result (FailsExchanging i k)
torn_fails i k (Ok x) f is broken failed marked e = tt
torn_fails i k (Err v) f is broken failed marked e = subst (FailsExchanging i k) (sym (e ∙ is)) (inl (broken, failed, marked))

-- ---- what a maker holds

look_fails_so : {S L : Type 0} {s : Ghosts S} {l : Widths L} (i k : Maker S L s l) (fault : LookFault) → i.broken ≡ false → SameRecords i.roll k.roll → gone_in k ≡ gone_in i → k.roll.gone ≡ i.roll.gone → k.limit ≡ i.limit → k.lazy ≡ i.lazy → k.broken ≡ is_foreign fault → OnlyReads s i.store k.store
    → (fault ≡ Foreign → SeesNone k.roll (s.image k.store)) → (fault ≡ Failed → s.failures i.store < s.failures k.store) → FailsLooking i k (look_fault fault)
look_fails_so i k Failed was same gone picked limit lazy broken reads none failed = (record { was = was; whole = broken; same = same; gone = gone; picked = picked; limit = limit; lazy = lazy; reads = reads }, failed refl)
look_fails_so i k Foreign was same gone picked limit lazy broken reads none failed = record {
  broken = broken;
  same = λ e. absurd (let t : true ≡ false = sym e ∙ was in cc);
  cause = λ rs h b is. (let held = h.each b (reads.images b is) in (none refl).each b is held.all (sees_same i.roll k.roll held.all b same held.sees));
}

-- a look ended so with this roll and store, and then its maker noted why
pub look_fails : {S L : Type 0} {s : Ghosts S} {l : Widths L} (i k : Maker S L s l) (roll : Roll L l) (store : S) (fault : LookFault) (told : MakeFault) → i.broken ≡ false → SameRecords i.roll roll → gone_of (marks_in roll) ≡ gone_in i → roll.gone ≡ i.roll.gone → OnlyReads s i.store store
    → (fault ≡ Foreign → SeesNone roll (s.image store)) → (fault ≡ Failed → s.failures i.store < s.failures store) → told ≡ look_fault fault → k.broken ≡ is_foreign fault → k.store ≡ store → k.roll ≡ roll → k.limit ≡ i.limit → k.lazy ≡ i.lazy → FailsLooking i k told
look_fails {s = s} i k roll store fault told was same gone picked reads none failed is broken on of limit lazy =
    subst (FailsLooking i k) (sym is)
    (look_fails_so i k fault was (subst (λ v. SameRecords i.roll v) (sym of) same) (ap (λ v. gone_of (marks_in v)) of ∙ gone) (ap (λ v. v.gone) of ∙ picked) limit lazy broken (subst (λ v. OnlyReads s i.store v) (sym on) reads)
    (λ e. subst (λ v. SeesNone v (s.image k.store)) (sym of) (subst (λ v. SeesNone roll (s.image v)) (sym on) (none e)))
    (λ e. subst (λ v. s.failures i.store < s.failures v) (sym on) (failed e)))

pub two_slots : (w p n : ℕ) → p ≡ 2 * w → (w ≡ 4) ⊎ (w ≡ 8) → 2 * p * n ≡ 4 * w * n
two_slots w p n e (inl f) =
    let x : 2 * p * n ≡ 2 * 8 * n = ap (λ (v : ℕ). 2 * v * n) (let t : p ≡ 8 = omega arith in t) in
    let y : 4 * w * n ≡ 4 * 4 * n = ap (λ (v : ℕ). 4 * v * n) f in
    omega arith
two_slots w p n e (inr f) =
    let x : 2 * p * n ≡ 2 * 16 * n = ap (λ (v : ℕ). 2 * v * n) (let t : p ≡ 16 = omega arith in t) in
    let y : 4 * w * n ≡ 4 * 8 * n = ap (λ (v : ℕ). 4 * v * n) f in
    omega arith

-- two slots for each of so many records, which are no more than n
pub slots_fit : (w p few n : ℕ) → p ≡ 2 * w → (w ≡ 4) ⊎ (w ≡ 8) → few ≤ n → 2 * p * few ≤ 4 * w * n
slots_fit w p few n pair wide le = omega (arith, two_slots w p few pair wide, fewer_slots w few n wide le)

pub on_ok_both : {T E A B C : Type 0} (r : Result T E) → (A → B → C) → OnOk r A → OnOk r B → OnOk r C
on_ok_both (Ok x) f a b = f a b
on_ok_both (Err e) f a b = tt

-- ---- over a store whose room was made

pub goes_moved : {S L : Type 0} {s : Ghosts S} {l : Widths L} (i j k n : Maker S L s l) {P Q : List KeyValue → List KeyValue → Type 0} → j.roll ≡ i.roll → ((a : List ℕ) → s.image j.store a → s.image i.store a) → n.roll ≡ k.roll → n.store ≡ k.store
    → ((all rest : List KeyValue) → P all rest → Q all rest) → Goes j k P → Goes i n Q
goes_moved {s = s} i j k n roll images roll₁ store f g = record {
  each = λ b is.
      let h = g.each b (subst (λ v. s.image v b) store is) in (
        h.0,
        images h.0 h.1,
        λ all sees. (let q = h.2 all (subst (λ v. Sees v all h.0) (sym roll) sees) in (q.0, subst (λ v. Sees v q.0 b) (sym roll₁) q.1, f all q.0 q.2)),
      );
}

pub compacting_fails : {S L : Type 0} {s : Ghosts S} {l : Widths L} (i j k n : Maker S L s l) (r : KeyValue) (fault : MakeFault) → j.roll ≡ i.roll → ((a : List ℕ) → s.image j.store a → s.image i.store a) → n.roll ≡ k.roll → n.store ≡ k.store → s.failures j.store ≡ s.failures i.store → s.unwritten i.store ≤ s.unwritten j.store
    → (k.broken ≡ true → n.broken ≡ true) → (0 < i.roll.found.count → n.broken ≡ true) → (k.broken ≡ false → i.roll.found.count ≡ 0 → n.broken ≡ false) → FailsExchanging j k fault → FailsCompacting i n r fault
compacting_fails i j k n r Broken roll images roll₁ store failures unwritten torn lost none h = h
compacting_fails i j k n r Lookup roll images roll₁ store failures unwritten torn lost none h = h
compacting_fails i j k n r TooBig roll images roll₁ store failures unwritten torn lost none h = h
compacting_fails i j k n r NoMemory roll images roll₁ store failures unwritten torn lost none h = absurd h
compacting_fails {s = s} i j k n r Writing roll images roll₁ store failures unwritten torn lost none h =
    let same : s.failures n.store ≡ s.failures k.store = ap s.failures store in
    let same₁ : s.unwritten n.store ≡ s.unwritten k.store = ap s.unwritten store in
    elim h [
      | inl t ↦ inl (torn t.0, omega (arith, t.1, failures, same), inl (omega (arith, t.2, ap (λ v. v.gone.count) roll₁)))
      | inr w ↦ elim (cases_lt 0 i.roll.found.count) [
        | inl some ↦ inl (
          lost some,
          omega (arith, w.2.failed, failures, same),
          inr (some, record { failed = omega (arith, w.2.failed, failures, same); unwritten = omega (arith, w.2.unwritten, unwritten, same₁) }),
        )
        | inr le ↦
            let zero₁ : i.roll.found.count ≡ 0 = omega (arith, le) in
            inr (
              none w.0 zero₁,
              subst (λ v. AreNone (gone_of (marks_in v))) (sym roll₁) w.1,
              record { failed = omega (arith, w.2.failed, failures, same); unwritten = omega (arith, w.2.unwritten, unwritten, same₁) },
              zero₁,
              goes_moved i j k n roll images roll₁ store (λ all rest p. p ∙ ap (λ v. left (or_each (gone_of (marks_in v)) (found_of (marks_in v))) all) roll) w.3,
            )
      ]
    ]

pub follows_room : {S L : Type 0} {s : Ghosts S} {l : Widths L} (i j : Maker S L s l) → j.limit ≡ i.limit → j.lazy ≡ i.lazy → SameImages (s.image i.store) (s.image j.store) → s.room i.store ≤ s.room j.store → s.failures i.store ≤ s.failures j.store → s.unwritten i.store ≤ s.unwritten j.store → Follows i j
follows_room i j limit lazy same room failures unwritten = record {
  comes = record { each = λ b is. (b, same.no_other b is) };
  head = record { each = λ b is. (b, same.no_other b is, refl) };
  limit = limit;
  lazy = lazy;
  room = room;
  failures = failures;
  unwritten = unwritten;
}

pub if_err_weaker : {T E : Type 0} {P Q : E → Type 0} (r : Result T E) → ((e : E) → P e → Q e) → IfErr r P → IfErr r Q
if_err_weaker (Ok x) f h = tt
if_err_weaker (Err e) f h = f e h

pub follows_read : {S L : Type 0} {s : Ghosts S} {l : Widths L} (i j : Maker S L s l) → j.limit ≡ i.limit → j.lazy ≡ i.lazy → OnlyReads s i.store j.store → Follows i j
follows_read i j limit lazy reads = record {
  comes = record { each = λ b is. (b, reads.images b is) };
  head = record { each = λ b is. (b, reads.images b is, refl) };
  limit = limit;
  lazy = lazy;
  room = reads.room;
  failures = reads.failures;
  unwritten = reads.unwritten;
}

-- bytes after the records were written, or nothing was
pub stays_behind : {S L : Type 0} {s : Ghosts S} {l : Widths L} (i j : Maker S L s l) {at n : ℕ} → SameRecords i.roll j.roll → marks_in j.roll ≡ marks_in i.roll → j.roll.gone ≡ i.roll.gone → j.roll.found ≡ i.roll.found → j.broken ≡ i.broken → i.roll.end ≤ at → AfterTornWrite at n (s.image i.store) (s.image j.store) → Stays i j
stays_behind i j {at = at} same marks gone found broken behind torn = record {
  same = same;
  marks = marks;
  gone = gone;
  found = found;
  broken = broken;
  goes = record {
    each = λ b is.
        let h = torn.no_other b is in
        let front : take i.roll.end b ≡ take i.roll.end h.0 = sym (take-take i.roll.end at b behind) ∙ ap (take i.roll.end) h.2.before ∙ take-take i.roll.end at h.0 behind in
        (h.0, h.1, λ all sees. (all, sees_kept i.roll j.roll all h.0 b same front sees, refl));
  };
}

-- a write after the head
pub follows_write : {S L : Type 0} {s : Ghosts S} {l : Widths L} (i j : Maker S L s l) {at n : ℕ} → j.limit ≡ i.limit → j.lazy ≡ i.lazy → head_size l.WORD ≤ at → AfterTornWrite at n (s.image i.store) (s.image j.store) → s.room i.store ≤ s.room j.store → s.failures i.store ≤ s.failures j.store → s.unwritten i.store ≤ s.unwritten j.store → Follows i j
follows_write {l = l} i j limit lazy behind torn room failures unwritten = record {
  comes = comes_write torn;
  head = kept_torn 0 (head_size l.WORD) (inl (omega (arith, behind))) torn;
  limit = limit;
  lazy = lazy;
  room = room;
  failures = failures;
  unwritten = unwritten;
}
