-- A record added, and those that it replaces taken out.
use Rattle.cdb_make.proofs.Words.{marks_in, AreNone, Bool, Ghosts, HaveHash, KeyValue, List, MakeFault, Maker, Mark, Roll, SameRecords, [], ap, arith, behind, cases_eq, cases_lt, false, found_of, get_or, get_or_append_left, get_or_past, get_or_push, gone_of, inl, inr, is_found, is_gone, left, length, length-map, length_push, map, or_each, record_size, refl, slice_index, subst, suc, sum, sym, true, ℕ, ◌++◌, ◌+◌, ◌<◌, ◌∙◌, ◌∷◌, ◌≡◌, ◌≤◌, ◌⊎◌}
use Rattle.cdb_form.specs.declared.width.Width.{Ghosts as Widths}
use Rattle.cdb_store.specs.declared.make_fault.MakeFault.TheVariants.{Broken, Lookup, TooBig, NoMemory, Writing}
use Rattle.cdb_make.specs.Views.Maker.{gone_in, found_in, Stays, Adds, Waits, Admits, FailsCompacting, FailsAdmitting, IsWithin}
use Rattle.cdb_make.proofs.Looking.{sees_same, sees_long, same_self, same_then}
use Rattle.cdb_make.proofs.Spans.{left-append, or_append}
use Rattle.cdb_make.proofs.Survive.{or_none, number_zero}
use Rattle.cdb_make.proofs.Ends.{end_more}
use Rattle.cdb_make.proofs.Rolls.{none_more, goes_then}
use Rattle.cdb_make.proofs.Marking.{marks_long}

pub have_more : (hash x : ℕ) (hs hs₁ : List ℕ) (ms ms₁ : List Mark) → hs₁ ≡ hs ++ x ∷ [] → found_of ms₁ ≡ found_of ms ++ false ∷ [] → length ms ≡ length hs → HaveHash hash hs ms → HaveHash hash hs₁ ms₁
have_more hash x hs hs₁ ms ms₁ hashes found long h = record {
  each = λ k is.
      let many : length (found_of ms) ≡ length hs = length-map ms is_found ∙ long in
      let yes : get_or (found_of ms ++ false ∷ []) k false ≡ true = ap (λ (v : List Bool). get_or v k false) (sym found) ∙ is in
      ap (λ (v : List ℕ). slice_index v k) hashes ∙ elim (cases_lt k (length hs)) [
        | inl lt ↦ get_or_append_left hs (x ∷ []) 0 k lt ∙ h.each k (sym (get_or_append_left (found_of ms) (false ∷ []) false k (omega arith)) ∙ yes)
        | inr le ↦ elim (cases_eq k (length hs)) [
          | inl e ↦ absurd (let t : false ≡ true = sym (get_or_push (found_of ms) false false k (omega (arith, e, many))) ∙ yes in cc)
          | inr apart ↦ absurd (let t : false ≡ true = sym (get_or_past (found_of ms ++ false ∷ []) k false (omega (arith, length_push (found_of ms) false))) ∙ yes in cc)
        ]
      ];
}

pub behind_nothing : {A : Type 0} (ms : List Bool) (xs : List A) → AreNone ms → behind ms xs ≡ []
behind_nothing [] xs none = refl
behind_nothing (m ∷ ms) [] none = refl
behind_nothing (true ∷ ms) (x ∷ xs) none = absurd (let t : true ≡ false = none 0 in cc)
behind_nothing (false ∷ ms) (x ∷ xs) none = behind_nothing ms xs (λ k. none (suc k))

pub or_clear : (ms ns : List Bool) → length ms ≡ length ns → AreNone ms → AreNone ns → AreNone (or_each ms ns)
or_clear ms ns long a b = subst AreNone (sym (or_none ms ns long b)) a

pub same_marks : {L : Type 0} {l : Widths L} (m : Roll L l) → length (gone_of (marks_in m)) ≡ length (found_of (marks_in m))
same_marks m = length-map (marks_in m) is_gone ∙ sym (length-map (marks_in m) is_found)

-- none goes and none was found
pub clear_by : {S L : Type 0} {s : Ghosts S} {l : Widths L} (i : Maker S L s l) → (i.lazy ≡ true) ⊎ (i.roll.gone.count + i.roll.found.count ≡ 0) → i.lazy ≡ false → i.broken ≡ false → AreNone (gone_in i) × AreNone (found_in i)
clear_by i (inl lazy) eager whole = absurd (let t : true ≡ false = sym lazy ∙ eager in cc)
clear_by i (inr none) eager whole = (i.eager eager whole, number_zero (found_in i) (omega (arith, i.roll.sought.count, none)))

pub taken_clear : {S L : Type 0} {s : Ghosts S} {l : Widths L} (i j : Maker S L s l) (hash : ℕ) (r : KeyValue) → (i.lazy ≡ true) ⊎ (i.roll.gone.count + i.roll.found.count ≡ 0) → i.broken ≡ false → Adds i j hash r → i.lazy ≡ false → AreNone (or_each (gone_in j) (found_in j))
taken_clear i j hash r first whole a eager =
    let none = clear_by i first eager whole in
    or_clear (gone_in j) (found_in j) (same_marks j.roll) (none_more (gone_in i) (gone_in j) a.gone none.0) (none_more (found_in i) (found_in j) a.found none.1)

pub length-or : (ms ns : List Bool) → length ms ≡ length ns → length (or_each ms ns) ≡ length ms
length-or [] ns e = refl
length-or (m ∷ ms) [] e = refl
length-or (m ∷ ms) (n ∷ ns) e = ap suc (length-or ms ns (omega arith))

-- one was added, and those that were found go with a later pass
pub admits_later : {S L : Type 0} {s : Ghosts S} {l : Widths L} (i j k : Maker S L s l) (hash : ℕ) (r : KeyValue) → (i.lazy ≡ true) ⊎ (i.roll.gone.count + i.roll.found.count ≡ 0) → i.broken ≡ false → Adds i j hash r → k.store ≡ j.store → k.broken ≡ j.broken → SameRecords j.roll k.roll → gone_in k ≡ or_each (gone_in j) (found_in j) → Admits i k r
admits_later {s = s} {l = l} i j k hash r first whole a store broken same gone = record {
  whole = broken ∙ a.broken ∙ whole;
  goes = record {
    each = λ b is.
        let h = a.goes.each b (subst (λ v. s.image v b) store is) in (
          h.0,
          h.1,
          λ all sees.
              let q = h.2 all sees in
              let ms : List Bool = or_each (gone_in i) (found_in i) in
              let long : length (gone_in i) ≡ length (found_in i) = same_marks i.roll in
              let many : length ms ≡ length all = length-or (gone_in i) (found_in i) long ∙ length-map (marks_in i.roll) is_gone ∙ (marks_long i.roll) ∙ sees_long i.roll all h.0 sees in
              let both : gone_in k ≡ ms ++ false ∷ [] = gone ∙ ap (λ (v : List Bool). or_each v (found_in j)) a.gone ∙ ap (or_each (gone_in i ++ false ∷ [])) a.found ∙ or_append (gone_in i) (found_in i) false false long in
              let written : s.written k.store ≡ s.written i.store + record_size l.WORD r = ap s.written store ∙ a.written in (
                q.0,
                sees_same j.roll k.roll q.0 b same q.1,
                (
                  ap (left (gone_in k)) q.2 ∙ ap (λ (v : List Bool). left v (all ++ r ∷ [])) both ∙ left-append ms (false ∷ []) all (r ∷ []) many,
                  λ eager.
                      let none = clear_by i first eager whole in
                      let z : sum (behind ms (map (record_size l.WORD) all)) ≡ 0 = ap sum (behind_nothing ms (map (record_size l.WORD) all) (or_clear (gone_in i) (found_in i) long none.0 none.1)) in
                      omega (arith, written, z),
                  inl (written, same.end ∙ end_more i.roll j.roll all q.0 h.0 b r sees q.1 q.2),
                ),
              ),
        );
  };
}

-- no other goes
pub admits_alone : {S L : Type 0} {s : Ghosts S} {l : Widths L} (i j : Maker S L s l) (hash : ℕ) (r : KeyValue) → i.roll.gone.count + i.roll.found.count ≡ 0 → i.broken ≡ false → Adds i j hash r → Admits i j r
admits_alone i j hash r none whole a =
    let found : AreNone (found_in i) = number_zero (found_in i) (omega (arith, i.roll.sought.count, none)) in
    admits_later i j j hash r (inr none) whole a refl refl (same_self j.roll) (sym (or_none (gone_in j) (found_in j) (same_marks j.roll) (none_more (found_in i) (found_in j) a.found found)))

-- nothing was done first
pub admits_after : {S L : Type 0} {s : Ghosts S} {l : Widths L} (i j k : Maker S L s l) (r : KeyValue) → Waits i j r → j.lazy ≡ i.lazy → Admits j k r → Admits i k r
admits_after {s = s} {l = l} i j k r w lazy t = record {
  whole = t.whole;
  goes = record {
    each = λ b is.
        let h = t.goes.each b is in
        let p = w.stays.goes.each h.0 h.1 in (
          p.0,
          p.1,
          λ all sees.
              let m = p.2 all sees in
              let q = h.2 m.0 m.1 in
              let marks : or_each (gone_in j) (found_in j) ≡ or_each (gone_in i) (found_in i) = ap (λ v. or_each (gone_of v) (found_of v)) w.stays.marks in
              let moved : sum (behind (or_each (gone_in j) (found_in j)) (map (record_size l.WORD) m.0)) ≡ sum (behind (or_each (gone_in i) (found_in i)) (map (record_size l.WORD) all)) =
              ap (λ (v : List Bool). sum (behind v (map (record_size l.WORD) m.0))) marks ∙ ap (λ (v : List KeyValue). sum (behind (or_each (gone_in i) (found_in i)) (map (record_size l.WORD) v))) m.2 in (
                q.0,
                q.1,
                (
                  q.2.0 ∙ ap (λ (v : List Bool). left v m.0 ++ r ∷ []) marks ∙ ap (λ (v : List KeyValue). left (or_each (gone_in i) (found_in i)) v ++ r ∷ []) m.2,
                  λ eager. (let x = q.2.1 (lazy ∙ eager) in omega (arith, x, moved, w.written)),
                  elim q.2.2 [ inl x ↦ inl (omega (arith, x.0, w.written), omega (arith, x.1, w.stays.same.end)) | inr x ↦ inr (omega (arith, x.0, moved, w.written), x.1) ],
                ),
              ),
        );
  };
}

pub stays_self : {S L : Type 0} {s : Ghosts S} {l : Widths L} (i : Maker S L s l) → Stays i i
stays_self i = record {
  same = same_self i.roll;
  marks = refl;
  gone = refl;
  found = refl;
  broken = refl;
  goes = record { each = λ b is. (b, is, λ all sees. (all, sees, refl)) };
}

pub stays_then : {S L : Type 0} {s : Ghosts S} {l : Widths L} (i j k : Maker S L s l) → Stays i j → Stays j k → Stays i k
stays_then i j k f h = record {
  same = same_then i.roll j.roll k.roll f.same h.same;
  marks = h.marks ∙ f.marks;
  gone = h.gone ∙ f.gone;
  found = h.found ∙ f.found;
  broken = h.broken ∙ f.broken;
  goes = goes_then i j k (λ all mid rest p q. q ∙ p) f.goes h.goes;
}

pub fails_after : {S L : Type 0} {s : Ghosts S} {l : Widths L} (i j k : Maker S L s l) (r : KeyValue) (fault : MakeFault) → Waits i j r → s.room i.store ≤ s.room j.store → s.unwritten i.store ≤ s.unwritten j.store → IsWithin i r → 0 < j.roll.gone.count + j.roll.found.count → FailsCompacting j k r fault → FailsAdmitting i k r fault
fails_after i j k r Broken w room unwritten fits some h = h
fails_after i j k r Lookup w room unwritten fits some h = h
fails_after i j k r TooBig w room unwritten fits some h = absurd h
fails_after i j k r NoMemory w room unwritten fits some h = (
  record { stays = stays_then i j k w.stays h.0.stays; written = h.0.written ∙ w.written; fine = h.0.fine ∙ w.fine },
  fits,
  λ found. (let p = h.1 in omega (arith, p, room, w.stays.same.end, ap (λ q. q.size) w.stays.gone, ap (λ q. q.size) w.stays.found)),
)
fails_after {s = s} i j k r Writing w room unwritten fits some h = (
  fits,
  inr (elim h [
    | inl t ↦ inl (
      t.0,
      omega (arith, t.1, w.fine),
      omega (arith, some, ap (λ q. q.count) w.stays.gone, ap (λ q. q.count) w.stays.found),
      elim t.2 [
        | inl marked ↦ inl marked
        | inr lost ↦ inr (
          omega (arith, lost.0, ap (λ q. q.count) w.stays.found),
          record { failed = omega (arith, lost.1.failed, w.fine); unwritten = omega (arith, lost.1.unwritten, unwritten) },
        )
      ],
    )
    | inr t ↦ inr (
      t.0,
      t.1,
      record { failed = omega (arith, t.2.failed, w.fine); unwritten = omega (arith, t.2.unwritten, unwritten) },
      ap (λ q. q.count) (sym w.stays.found) ∙ t.3,
      goes_then i j k (λ all mid rest p q. q ∙ ap (λ v. left (or_each (gone_of v) (found_of v)) mid) w.stays.marks ∙ ap (left (or_each (gone_in i) (found_in i))) p) w.stays.goes t.4,
    )
  ]),
)
