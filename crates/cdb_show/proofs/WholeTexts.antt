-- The text of a file, up to its record end or its damage.
use Rattle.cdb_show.proofs.Words.{Appends, AppendsPrefix, Damage, Err, Fails, Fault, Feed, Flushed, GivesEnd, GivesRecord, IsDamage, IsOk, Keeps, List, None, Ok, Option, RecordReader, Result, Some, WalkFault, Walked, [], ap, append-nil, append_assoc, appends_kept, appends_none, appends_then, damage_of, flat_map, flat_map-append, from_weaker, inl, inr, prefix_last, prefix_then, refl, subst, sym, walk_of, ℕ, ◌++◌, ◌∙◌, ◌∷◌, ◌≡◌}
use Rattle.cdb_form.specs.Format.{KeyValue, record_of}
use Rattle.cdb_form.specs.Views.RecordReader.{reader_of, behind_records, IsFresh, IsGoing, is_going}
use Rattle.cdb_form.specs.declared.damage.Damage.TheVariants as file_damage
use Rattle.cdb_form.specs.declared.walk.fault.WalkFault.TheVariants as walk
use Rattle.cdb_show.specs.Views.Fault.{walk_fault}
use Rattle.cdb_show.specs.Runs.WalkText.{Form, IsHeld, closing, walk_text, WritesToDamage, WritesTextPrefix, WritesFirst, WritingFails, WritesWalk, KeepsBehind}
use Rattle.cdb_show.specs.declared.runs.content.Content.{Content}
use Rattle.cdb_show.specs.declared.runs.content.Content.TheVariants.{Records, Keys}
use Rattle.cdb_show.specs.declared.fault.Fault.TheVariants.{Walk, Output, NoMemory}
use Rattle.cdb_show.proofs.Writers.{prefix_kept, whole_prefix, not_ok}
use Rattle.cdb_show.proofs.WalksSoFar.{walked, GaveSoFar, GaveFirst, gave_none, gave_more, gave_all, gave_before, gave_failed, gave_first, ReadSoFar, read_none, read_more, read_all}

-- the texts of the records that were given were appended
pub record WrittenSoFar {R L : Type 0} (w : ℕ) (form : Form) (feed : R → Feed) (file : Feed) (t : RecordReader R L) (old new : Option (List ℕ)) : Type 0 where
  pub records : List KeyValue
  pub going : IsGoing t
  pub gave : GaveSoFar w feed file t records
  pub read : ReadSoFar w feed file t records
  pub appended : Appends old new (flat_map form.item records)

-- at first
pub written_none : {R L : Type 0} (w : ℕ) (form : Form) (feed : R → Feed) (t : RecordReader R L) (old : Option (List ℕ)) → IsFresh t → WrittenSoFar w form feed (feed (reader_of t)) t old old
written_none w form feed t old fresh = record { records = []; going = subst is_going (sym fresh) tt; gave = gave_none w feed t fresh; read = read_none w feed t fresh; appended = appends_none old }

texts_more : (form : Form) (rs : List KeyValue) (r : KeyValue) → flat_map form.item (rs ++ r ∷ []) ≡ flat_map form.item rs ++ form.item r
texts_more form rs r = flat_map-append form.item rs (r ∷ []) ∙ ap (λ t. flat_map form.item rs ++ t) (append-nil (form.item r))

-- one record more
pub written_more : {R L : Type 0} (w : ℕ) (form : Form) (feed : R → Feed) (file : Feed) (t u : RecordReader R L) (old mid new : Option (List ℕ)) (r : KeyValue) → WrittenSoFar w form feed file t old mid
    → GivesRecord w feed t u r → Appends mid new (form.item r) → WrittenSoFar w form feed file u old new
written_more w form feed file t u old mid new r d one appended = record {
  records = d.records ++ r ∷ [];
  going = one.going;
  gave = gave_more w feed file t u d.records r d.gave one;
  read = read_more w feed file t u d.records r d.read one.cut;
  appended = subst (Appends old new) (sym (texts_more form d.records r)) (appends_then old mid new (flat_map form.item d.records) (form.item r) d.appended appended);
}

-- what a text has of a record is in its key and value
pub held_by : (content : Content) (key value : List ℕ) → IsHeld content key value (record_of key value)
held_by Records key value = refl
held_by Keys key value = refl

-- and in the same bytes elsewhere
pub held_in : (content : Content) (key value a b : List ℕ) (r : KeyValue) → a ≡ key → b ≡ value → IsHeld content key value r → IsHeld content a b r
held_in content key value a b r k v held = subst (λ x. IsHeld content x b r) (sym k) (subst (λ x. IsHeld content key x r) (sym v) held)

-- ---- how a text ends

-- the walk has ended, and the end was written
pub written_all : {R L : Type 0} (w : ℕ) (form : Form) (feed : R → Feed) (file : Feed) (t u : RecordReader R L) (old mid new : Option (List ℕ)) → WrittenSoFar w form feed file t old mid
    → GivesEnd w feed t u → Appends mid new form.end → WritesWalk w form file (feed (reader_of u)) old new (Ok tt)
written_all w form feed file t u old mid new d end appended = record {
  ok = record { walked = walked d.records None; ends = refl; appended = appends_then old mid new (flat_map form.item d.records) form.end d.appended appended; is = gave_all w feed file t u d.records d.gave end };
  err = tt;
}

-- the text of a walk has a prefix, so the walk of each file that is this one
prefix_is : (w : ℕ) (form : Form) (v : Walked) (old new : Option (List ℕ)) → AppendsPrefix old new (walk_text form v) → (f r : List ℕ) → (walk_of w f ≡ v) × (r ≡ behind_records w f) → AppendsPrefix old new (walk_text form (walk_of w f)) × KeepsBehind w f r
prefix_is w form v old new front f r h = (subst (λ x. AppendsPrefix old new (walk_text form x)) (sym h.0) front, ([], h.1))

-- the writer failed in the end
pub end_fails : {R L : Type 0} (w : ℕ) (form : Form) (feed : R → Feed) (file : Feed) (t u : RecordReader R L) (old mid new : Option (List ℕ)) → WrittenSoFar w form feed file t old mid
    → GivesEnd w feed t u → AppendsPrefix mid new form.end → WritesWalk w form file (feed (reader_of u)) old new (Err Output)
end_fails w form feed file t u old mid new d end front =
    let v = walked d.records None in
    let part : AppendsPrefix old new (walk_text form v) = prefix_last old mid new (flat_map form.item d.records) form.end _ d.appended front refl in
    record {
      ok = tt;
      err = record { walked = v; appended = part; is = from_weaker file (feed (reader_of u)) _ _ (gave_all w feed file t u d.records d.gave end) (prefix_is w form v old new part) };
    }

-- the writer failed in a record, which is one of a walk after some others
prefix_of : (form : Form) (v : Walked) (old mid new : Option (List ℕ)) (rs more : List KeyValue) (r : KeyValue) → v.records ≡ (rs ++ r ∷ []) ++ more
    → Appends old mid (flat_map form.item rs) → AppendsPrefix mid new (form.item r) → AppendsPrefix old new (walk_text form v)
prefix_of form v old mid new rs more r is a front =
    let end = closing form v.damage in
    let rest = flat_map form.item more in
    let split : walk_text form v ≡ flat_map form.item rs ++ (form.item r ++ (rest ++ end)) =
    ap (λ qs. flat_map form.item qs ++ end) is
    ∙ ap (λ t. t ++ end) (flat_map-append form.item (rs ++ r ∷ []) more)
    ∙ ap (λ t. (t ++ rest) ++ end) (texts_more form rs r)
    ∙ simp append_assoc in
    prefix_then old mid new (flat_map form.item rs) (form.item r) (rest ++ end) (walk_text form v) a front split

pub record_fails : {R L : Type 0} (w : ℕ) (form : Form) (feed : R → Feed) (file : Feed) (t u : RecordReader R L) (old mid new : Option (List ℕ)) (r : KeyValue) → WrittenSoFar w form feed file t old mid
    → GivesRecord w feed t u r → AppendsPrefix mid new (form.item r) → WritesWalk w form file (feed (reader_of u)) old new (Err Output)
record_fails w form feed file t u old mid new r d one front =
    let rs = d.records ++ r ∷ [] in
    record {
      ok = tt;
      err = record {
        walked = walked rs None;
        appended = prefix_of form (walked rs None) old mid new d.records [] r (sym (append-nil rs)) d.appended front;
        is = from_weaker file (feed (reader_of u)) (GaveFirst w rs) _ (gave_first w feed file u rs (gave_more w feed file t u d.records r d.gave one))
            (λ f rest h. (prefix_of form (walk_of w f) old mid new d.records h.0.0 r h.0.1 d.appended front, h.1));
      };
    }

-- the reader of the records failed
written_damage : {R L : Type 0} (w : ℕ) (form : Form) (feed : R → Feed) (file : Feed) (t u : RecordReader R L) (old new : Option (List ℕ)) (fault : WalkFault) (damage : Damage) → damage_of fault ≡ Some damage → IsDamage fault
    → WrittenSoFar w form feed file t old new → Fails w feed t u fault → WritesToDamage w form file (feed (reader_of u)) (Some damage) old new
written_damage w form feed file t u old new fault damage e is d fails = record {
  walked = walked d.records (Some damage);
  ends = refl;
  appended = subst (Appends old new) (sym (append-nil (flat_map form.item d.records))) d.appended;
  is = from_weaker file (feed (reader_of u)) _ _ (gave_before w feed file t u d.records fault d.gave fails is) (λ f r h. (h.0 ∙ ap (walked d.records) e, h.1));
}

written_first : {R L : Type 0} (w : ℕ) (form : Form) (feed : R → Feed) (file : Feed) (t u : RecordReader R L) (old new : Option (List ℕ)) (fault : WalkFault) → WrittenSoFar w form feed file t old new
    → Fails w feed t u fault → WritesFirst w form file (feed (reader_of u)) old new
written_first w form feed file t u old new fault d fails =
    record { first = d.records; read = read_all w feed file t u d.records d.read fails.part; appended = d.appended; is = gave_failed w feed file t u d.records fault d.gave fails }

reader_fault : {R L : Type 0} (w : ℕ) (form : Form) (feed : R → Feed) (file : Feed) (t u : RecordReader R L) (old new : Option (List ℕ)) (fault : WalkFault) → WrittenSoFar w form feed file t old new
    → Fails w feed t u fault → WritingFails w form file (feed (reader_of u)) old new (walk_fault fault)
reader_fault w form feed file t u old new walk.Short d fails = written_damage w form feed file t u old new walk.Short file_damage.Short refl tt d fails
reader_fault w form feed file t u old new (walk.Table n) d fails = written_damage w form feed file t u old new (walk.Table n) (file_damage.Table n) refl tt d fails
reader_fault w form feed file t u old new (walk.Record place) d fails = written_damage w form feed file t u old new (walk.Record place) (file_damage.Record place) refl tt d fails
reader_fault w form feed file t u old new walk.Input d fails = (written_first w form feed file t u old new walk.Input d fails, fails.unread d.going refl)
reader_fault w form feed file t u old new walk.NoMemory d fails = written_first w form feed file t u old new walk.NoMemory d fails

pub reader_fails : {R L : Type 0} (w : ℕ) (form : Form) (feed : R → Feed) (file : Feed) (t u : RecordReader R L) (old new : Option (List ℕ)) (fault : WalkFault) → WrittenSoFar w form feed file t old new
    → Fails w feed t u fault → WritesWalk w form file (feed (reader_of u)) old new (Err (walk_fault fault))
reader_fails w form feed file t u old new fault d fails = record { ok = tt; err = reader_fault w form feed file t u old new fault d fails }

-- ---- the flush

damage_kept : (w : ℕ) (form : Form) (file rest : Feed) (damage : Option Damage) (old mid new : Option (List ℕ)) → WritesToDamage w form file rest damage old mid → Keeps mid new → WritesToDamage w form file rest damage old new
damage_kept w form file rest damage old mid new d k = record { walked = d.walked; ends = d.ends; appended = appends_kept old mid new (walk_text form d.walked) d.appended k; is = d.is }

first_kept : (w : ℕ) (form : Form) (file rest : Feed) (old mid new : Option (List ℕ)) → WritesFirst w form file rest old mid → Keeps mid new → WritesFirst w form file rest old new
first_kept w form file rest old mid new d k = record { first = d.first; read = d.read; appended = appends_kept old mid new (flat_map form.item d.first) d.appended k; is = d.is }

text_prefix_kept : (w : ℕ) (form : Form) (file rest : Feed) (old mid new : Option (List ℕ)) → WritesTextPrefix w form file rest old mid → Keeps mid new → WritesTextPrefix w form file rest old new
text_prefix_kept w form file rest old mid new d k = record {
  walked = d.walked;
  appended = prefix_kept old mid new (walk_text form d.walked) d.appended k;
  is = from_weaker file rest _ _ d.is (λ f r h. (prefix_kept old mid new (walk_text form (walk_of w f)) h.0 k, h.1));
}

fails_kept : (w : ℕ) (form : Form) (file rest : Feed) (old mid new : Option (List ℕ)) (f : Fault) → WritingFails w form file rest old mid f → Keeps mid new → WritingFails w form file rest old new f
fails_kept w form file rest old mid new (Walk walk.Short) d k = damage_kept w form file rest (Some file_damage.Short) old mid new d k
fails_kept w form file rest old mid new (Walk (walk.Table n)) d k = damage_kept w form file rest (Some (file_damage.Table n)) old mid new d k
fails_kept w form file rest old mid new (Walk (walk.Record place)) d k = damage_kept w form file rest (Some (file_damage.Record place)) old mid new d k
fails_kept w form file rest old mid new (Walk walk.Input) d k = (first_kept w form file rest old mid new d.0 k, d.1)
fails_kept w form file rest old mid new NoMemory d k = first_kept w form file rest old mid new d k
fails_kept w form file rest old mid new Output d k = text_prefix_kept w form file rest old mid new d k
fails_kept w form file rest old mid new f d k = absurd d

runs_kept : (w : ℕ) (form : Form) (file rest : Feed) (old mid new : Option (List ℕ)) (r : Result Unit Fault) → WritesWalk w form file rest old mid r → Keeps mid new → WritesWalk w form file rest old new r
runs_kept w form file rest old mid new (Ok u) d k =
    record { ok = record { walked = d.ok.walked; ends = d.ok.ends; appended = appends_kept old mid new (walk_text form d.ok.walked) d.ok.appended k; is = d.ok.is }; err = tt }
runs_kept w form file rest old mid new (Err f) d k = record { ok = tt; err = fails_kept w form file rest old mid new f d.err k }

-- the whole text was written, but it wasn't flushed
flush_fails : (w : ℕ) (form : Form) (file rest : Feed) (old mid new : Option (List ℕ)) (r : Result Unit Fault) → WritesWalk w form file rest old mid r → Keeps mid new → IsOk r → WritesWalk w form file rest old new (Err Output)
flush_fails w form file rest old mid new (Ok u) d k is =
    let v = d.ok.walked in
    let part : AppendsPrefix old new (walk_text form v) = whole_prefix old new (walk_text form v) (appends_kept old mid new (walk_text form v) d.ok.appended k) in
    record { ok = tt; err = record { walked = v; appended = part; is = from_weaker file rest _ _ d.ok.is (prefix_is w form v old new part) } }
flush_fails w form file rest old mid new (Err f) d k is = absurd (not_ok is)

pub written_flushed : (w : ℕ) (form : Form) (file rest : Feed) (old mid new : Option (List ℕ)) (answer result : Result Unit Fault) → WritesWalk w form file rest old mid answer → Flushed mid new answer result → WritesWalk w form file rest old new result
written_flushed w form file rest old mid new answer result d f = elim f.answered as (λ _. WritesWalk w form file rest old new result) [
  | inl e ↦ subst (WritesWalk w form file rest old new) (sym e) (runs_kept w form file rest old mid new answer d f.kept)
  | inr e ↦ subst (WritesWalk w form file rest old new) (sym e.1) (flush_fails w form file rest old mid new answer d f.kept e.0)
]
