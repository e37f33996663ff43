-- The walk of a whole file, record after record, whatever bytes agree with what was taken.
use Rattle.std.proofs.Common.{List, None, Option, ◌++◌, ◌∷◌, [], ◌∙◌, ◌≡◌, ap, append-nil, append_assoc, sym, ℕ}
use Rattle.cdb_form.specs.Format.{KeyValue, Walked, walk_of, with_first, with_records}
use Rattle.cdb_form.specs.Views.Feed.{Feed, FromTo}
use Rattle.cdb_form.specs.Views.RecordReader.{Fails, GivesEnd, GivesRecord, IsFresh, reader_of, walk_left, walk_of_rest}
use Rattle.cdb_form.specs.Views.WalkFault.{IsDamage, damage_of}
use Rattle.cdb_form.specs.declared.damage.Damage.{Damage}
use Rattle.cdb_form.specs.declared.walk.fault.WalkFault.{WalkFault}
use Rattle.cdb_form.specs.declared.walk.record_reader.RecordReader.{RecordReader}
use Rattle.cdb_form.proofs.Fed.FeedLemmas.{from_kept, from_then, from_weaker, nothing_taken}

abbrev walked : List KeyValue → Option Damage → Walked
walked rs damage = record { records = rs; damage = damage }

with_one : (rs : List KeyValue) (r : KeyValue) (walk : Walked) → with_records rs (with_first r walk) ≡ with_records (rs ++ r ∷ []) walk
with_one rs r walk = ap (λ qs. walked qs walk.damage) (sym (append_assoc rs (r ∷ []) walk.records))

with_none : (rs : List KeyValue) (damage : Option Damage) → with_records rs (walked [] damage) ≡ walked rs damage
with_none rs damage = ap (λ qs. walked qs damage) (append-nil rs)

-- the walk of the file is these records and then the walk that is left
abbrev pub Gave : {R L : Type 0} → ℕ → (R → Feed) → (start : Feed) → RecordReader R L → List KeyValue → Type 0
Gave w feed start t rs = FromTo start (feed (reader_of t)) (λ text rest. walk_of w text ≡ with_records rs (walk_left w t rest))

module _ {R L : Type 0} (w : ℕ) (feed : R → Feed) where
  pub gave_none : (t : RecordReader R L) → IsFresh t → Gave w feed (feed (reader_of t)) t []
  gave_none t fresh = from_kept (feed (reader_of t)) (feed (reader_of t)) (λ text rest. walk_of w text ≡ with_records [] (walk_left w t rest)) (nothing_taken (feed (reader_of t))) (λ text. sym (ap (λ k. walk_of_rest w k text) fresh))

  pub gave_more : (start : Feed) (t u : RecordReader R L) (rs : List KeyValue) (r : KeyValue) → Gave w feed start t rs → GivesRecord w feed t u r → Gave w feed start u (rs ++ r ∷ [])
  gave_more start t u rs r so one =
      from_weaker start (feed (reader_of u)) _ (λ text rest. walk_of w text ≡ with_records (rs ++ r ∷ []) (walk_left w u rest))
      (from_then start (feed (reader_of t)) (feed (reader_of u)) (λ text rest. walk_of w text ≡ with_records rs (walk_left w t rest)) _ so one.walk)
      (λ text rest s. s.1 ∙ ap (with_records rs) s.2.0 ∙ with_one rs r (walk_left w u rest))

  pub gave_all : (start : Feed) (t u : RecordReader R L) (rs : List KeyValue) → Gave w feed start t rs → GivesEnd w feed t u → FromTo start (feed (reader_of u)) (λ text rest. walk_of w text ≡ walked rs None)
  gave_all start t u rs so end =
      from_weaker start (feed (reader_of u)) _ (λ text rest. walk_of w text ≡ walked rs None)
      (from_then start (feed (reader_of t)) (feed (reader_of u)) (λ text rest. walk_of w text ≡ with_records rs (walk_left w t rest)) _ so end.walk)
      (λ text rest s. s.1 ∙ ap (with_records rs) s.2.0 ∙ with_none rs None)

  pub gave_before : (start : Feed) (t u : RecordReader R L) (rs : List KeyValue) (f : WalkFault) → Gave w feed start t rs → Fails w feed t u f → IsDamage f → FromTo start (feed (reader_of u)) (λ text rest. walk_of w text ≡ walked rs (damage_of f))
  gave_before start t u rs f so fails damage =
      from_weaker start (feed (reader_of u)) _ (λ text rest. walk_of w text ≡ walked rs (damage_of f))
      (from_then start (feed (reader_of t)) (feed (reader_of u)) (λ text rest. walk_of w text ≡ with_records rs (walk_left w t rest)) _ so fails.walk)
      (λ text rest s. s.1 ∙ ap (with_records rs) (s.2.0 damage) ∙ with_none rs (damage_of f))
