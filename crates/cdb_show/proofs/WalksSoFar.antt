-- From what each call of a reader of records gave to the walk of the whole file: of each file that agrees with what was taken.
use Rattle.cdb_show.proofs.Words.{Consumes, Damage, Fails, Feed, FromTo, GivesEnd, GivesRecord, IsDamage, KeyValue, List, None, Option, RecordReader, WalkFault, [], ap, append-nil, append_assoc, damage_of, drop, sym, take, take-append-drop, ℕ, ◌++◌, ◌∙◌, ◌∷◌, ◌≡◌}
use Rattle.cdb_form.specs.Views.Taking.{ReadsFirst, ReadsNoRecord}
use Rattle.cdb_form.specs.Format.{Walked, walk_of, with_first, with_records}
use Rattle.cdb_form.specs.Views.RecordReader.{walk_of_rest, size_of_rest, reader_of, walk_left, behind_end, behind_records, IsFresh}
use Rattle.cdb_form.proofs.Fed.FeedLemmas.{consumes_then, nothing_taken, from_weaker, from_kept}
use Rattle.cdb_show.specs.Runs.WalkText.{KeepsBehind, ReadsRecords}

-- the walk of a whole file: some records, and a damage or none
abbrev pub walked : List KeyValue → Option Damage → Walked
walked rs damage = record { records = rs; damage = damage }

with_one : (rs : List KeyValue) (r : KeyValue) (walk : Walked) → with_records rs (with_first r walk) ≡ with_records (rs ++ r ∷ []) walk
with_one rs r walk = ap (λ qs. walked qs walk.damage) (sym (append_assoc rs (r ∷ []) walk.records))

with_none : (rs : List KeyValue) (damage : Option Damage) → with_records rs (walked [] damage) ≡ walked rs damage
with_none rs damage = ap (λ qs. walked qs damage) (append-nil rs)

-- ---- of the whole file

-- the walk of a file is these records and then the walk that is left, and what follows its records is still left
pub record Gave {R L : Type 0} (w : ℕ) (t : RecordReader R L) (rs : List KeyValue) (f r : List ℕ) : Type 0 where
  pub walk : walk_of w f ≡ with_records rs (walk_left w t r)
  pub behind : behind_end w t r ≡ behind_records w f

-- a reader of a file gave these records so far
abbrev pub GaveSoFar : {R L : Type 0} → ℕ → (R → Feed) → Feed → RecordReader R L → List KeyValue → Type 0
GaveSoFar w feed file t rs = FromTo file (feed (reader_of t)) (Gave w t rs)

-- these are the first records of a file, and what follows its records is still left
abbrev pub GaveFirst : ℕ → List KeyValue → List ℕ → List ℕ → Type 0
GaveFirst w rs f r = ((more : List KeyValue) × ((walk_of w f).records ≡ rs ++ more)) × KeepsBehind w f r

-- at first
pub gave_none : {R L : Type 0} (w : ℕ) (feed : R → Feed) (t : RecordReader R L) → IsFresh t → GaveSoFar w feed (feed (reader_of t)) t []
gave_none w feed t fresh =
    from_kept (feed (reader_of t)) (feed (reader_of t)) (Gave w t []) (nothing_taken (feed (reader_of t)))
    (λ text. record { walk = sym (ap (λ k. walk_of_rest w k text) fresh); behind = ap (λ k. drop (size_of_rest w k text) text) fresh })

-- one record more
pub gave_more : {R L : Type 0} (w : ℕ) (feed : R → Feed) (file : Feed) (t u : RecordReader R L) (rs : List KeyValue) (r : KeyValue) → GaveSoFar w feed file t rs → GivesRecord w feed t u r → GaveSoFar w feed file u (rs ++ r ∷ [])
gave_more w feed file t u rs r so_far one = record {
  known = λ k. one.walk.known (so_far.known k);
  back = λ k whole rest m.
      let b = one.walk.back (so_far.known k) whole rest m in
      let a = so_far.back k whole b.0 b.1 in
      (a.0, a.1, record { walk = a.2.walk ∙ ap (with_records rs) b.2.0 ∙ with_one rs r (walk_left w u rest); behind = b.2.1 ∙ a.2.behind });
}

-- at the end these records are the walk, and all that is left follows them
pub gave_all : {R L : Type 0} (w : ℕ) (feed : R → Feed) (file : Feed) (t u : RecordReader R L) (rs : List KeyValue) → GaveSoFar w feed file t rs → GivesEnd w feed t u
    → FromTo file (feed (reader_of u)) (λ f r. (walk_of w f ≡ walked rs None) × (r ≡ behind_records w f))
gave_all w feed file t u rs so_far end = record {
  known = λ k. end.walk.known (so_far.known k);
  back = λ k whole rest m.
      let b = end.walk.back (so_far.known k) whole rest m in
      let a = so_far.back k whole b.0 b.1 in
      (a.0, a.1, (a.2.walk ∙ ap (with_records rs) b.2.0 ∙ with_none rs None, sym (ap (λ k. drop (size_of_rest w k rest) rest) end.ended) ∙ b.2.1 ∙ a.2.behind));
}

-- at a damage these records are those of the walk, and it has this damage
pub gave_before : {R L : Type 0} (w : ℕ) (feed : R → Feed) (file : Feed) (t u : RecordReader R L) (rs : List KeyValue) (fault : WalkFault) → GaveSoFar w feed file t rs → Fails w feed t u fault → IsDamage fault
    → FromTo file (feed (reader_of u)) (λ f r. (walk_of w f ≡ walked rs (damage_of fault)) × KeepsBehind w f r)
gave_before w feed file t u rs fault so_far fails damage = record {
  known = λ k. fails.walk.known (so_far.known k);
  back = λ k whole rest m.
      let b = fails.walk.back (so_far.known k) whole rest m in
      let a = so_far.back k whole b.0 b.1 in
      let still = b.2.1 in
      (a.0, a.1, (a.2.walk ∙ ap (with_records rs) (b.2.0 damage) ∙ with_none rs (damage_of fault), (still.0, still.1 ∙ ap (λ z. still.0 ++ z) a.2.behind)));
}

-- after any fault they are the first of the walk
pub gave_failed : {R L : Type 0} (w : ℕ) (feed : R → Feed) (file : Feed) (t u : RecordReader R L) (rs : List KeyValue) (fault : WalkFault) → GaveSoFar w feed file t rs → Fails w feed t u fault → FromTo file (feed (reader_of u)) (GaveFirst w rs)
gave_failed w feed file t u rs fault so_far fails = record {
  known = λ k. fails.walk.known (so_far.known k);
  back = λ k whole rest m.
      let b = fails.walk.back (so_far.known k) whole rest m in
      let a = so_far.back k whole b.0 b.1 in
      let still = b.2.1 in
      (a.0, a.1, (((walk_left w t b.0).records, ap (λ (v : Walked). v.records) a.2.walk), (still.0, still.1 ∙ ap (λ z. still.0 ++ z) a.2.behind)));
}

-- and at any time
pub gave_first : {R L : Type 0} (w : ℕ) (feed : R → Feed) (file : Feed) (t : RecordReader R L) (rs : List KeyValue) → GaveSoFar w feed file t rs → FromTo file (feed (reader_of t)) (GaveFirst w rs)
gave_first w feed file t rs so_far =
    from_weaker file (feed (reader_of t)) (Gave w t rs) (GaveFirst w rs) so_far
    (λ f r g. let n = size_of_rest w t.walking r in (((walk_left w t r).records, ap (λ (v : Walked). v.records) g.walk), (take n r, sym (take-append-drop n r) ∙ ap (λ z. take n r ++ z) g.behind)))

-- ---- of what was taken

-- what was taken so far has these records, and whatever follows it is what is left of the walk
pub record ReadSoFar {R L : Type 0} (w : ℕ) (feed : R → Feed) (file : Feed) (t : RecordReader R L) (rs : List KeyValue) : Type 0 where
  pub bytes : List ℕ
  pub read : Consumes file (feed (reader_of t)) bytes
  pub walk : (more : List ℕ) → walk_of w (bytes ++ more) ≡ with_records rs (walk_left w t more)

pub read_none : {R L : Type 0} (w : ℕ) (feed : R → Feed) (t : RecordReader R L) → IsFresh t → ReadSoFar w feed (feed (reader_of t)) t []
read_none w feed t fresh = record { bytes = []; read = nothing_taken (feed (reader_of t)); walk = λ more. sym (ap (λ k. walk_of_rest w k more) fresh) }

-- one record more
pub read_more : {R L : Type 0} (w : ℕ) (feed : R → Feed) (file : Feed) (t u : RecordReader R L) (rs : List KeyValue) (r : KeyValue) → ReadSoFar w feed file t rs
    → ReadsFirst r (walk_left w t) (walk_left w u) (feed (reader_of t)) (feed (reader_of u)) → ReadSoFar w feed file u (rs ++ r ∷ [])
read_more w feed file t u rs r s f = record {
  bytes = s.bytes ++ f.bytes;
  read = consumes_then file (feed (reader_of t)) (feed (reader_of u)) s.bytes f.bytes s.read f.read;
  walk = λ more. ap (walk_of w) (append_assoc s.bytes f.bytes more) ∙ s.walk (f.bytes ++ more) ∙ ap (with_records rs) (f.first more) ∙ with_one rs r (walk_left w u more);
}

-- at a fault these are all whole records in it
pub read_all : {R L : Type 0} (w : ℕ) (feed : R → Feed) (file : Feed) (t u : RecordReader R L) (rs : List KeyValue) → ReadSoFar w feed file t rs
    → ReadsNoRecord (walk_left w t) (feed (reader_of t)) (feed (reader_of u)) → ReadsRecords w rs file (feed (reader_of u))
read_all w feed file t u rs s p = record {
  bytes = s.bytes ++ p.lost;
  read = consumes_then file (feed (reader_of t)) (feed (reader_of u)) s.bytes p.lost s.read p.taken;
  records = ap (λ (v : Walked). v.records) (s.walk p.lost) ∙ ap (λ qs. rs ++ qs) p.no_record ∙ append-nil rs;
}
