-- What a put will answer, and that it does so.
use Rattle.cdb_make.proofs.Words.{marks_in, AreNone, Bool, Ghosts, HasRoom, HaveHash, IsErrAnd, KeyValue, List, MakeFault, Maker, Mark, Roll, Sees, [], ap, arith, behind, cases_lt, cond, false, false_from_ne_true, file_size, found_of, gone_of, head_size, inl, inr, is_gone, left, length, length-map, map, number, or_each, picked, reads_nothing, record_size, records_end, refl, searched, subst, sum_by, sum_by-cons, sum_by_push, sym, taken, true, whole_size, ℕ, ◌*◌, ◌++◌, ◌+◌, ◌-◌, ◌<◌, ◌∙◌, ◌∷◌, ◌≡◌, ◌≢◌, ◌⊎◌}
use Rattle.std.specs.Prelude.{sum, ◌||◌, Result, Ok, Err, IfErr}
use Rattle.cdb_form.specs.declared.width.Width.{Ghosts as Widths}
use Rattle.cdb_form.specs.declared.mode.Mode.{Mode}
use Rattle.cdb_form.specs.declared.mode.Mode.TheVariants.{Add, Warn, Insert, Replace}
use Rattle.cdb_make.specs.declared.answer.Put.{Put}
use Rattle.cdb_make.specs.declared.answer.Put.TheVariants.{Added, AddedAgain, Present, Replaced}
use Rattle.cdb_store.specs.declared.make_fault.MakeFault.TheVariants.{Broken, Lookup, TooBig, NoMemory, Writing}
use Rattle.cdb_make.specs.Survivors.{has_key, is_there, count_of, behind_first, put_list, put_answer}
use Rattle.cdb_make.specs.Views.Maker.{gone_in, found_in, Holds, Rests, Stays, Seeks, Meets, Admits, Puts, Follows, IsOver, IsWithin, IsTooBig, WouldPut, WantsRoom, OnlyAdds, PassesRoom, DoesNothing, WritesNothing, HasFailedToWrite, HasNotFailed, HasStoreFailed, HasGone, HasGoneOr, HasKey, IsAnswerTo, FailsLater, IsTorn, WhereHonest, IsMarked, IsHalfway, FailsAdmitting, FailsPutting, IsAlone, IsShort, put_bytes, lone_bytes, goes_with, is_present}
use Rattle.cdb_make.proofs.Ends.{end_passed}
use Rattle.cdb_make.proofs.Finishing.{gone_lazy, rests_nothing, stays_whole}
use Rattle.cdb_make.proofs.Looking.{same_back, same_self, sees_long, sees_same}
use Rattle.cdb_make.proofs.Picking.{left_all_stay, left_sum, end_sum, number_none, gone_taken, number_taken, both_within, both_few}
use Rattle.cdb_make.proofs.Rolls.{left_file, slots_add, whole_push}
use Rattle.cdb_make.proofs.Removing.{one_of, rest_of, sought, kept_picked, left-sum_by, behind-sum_by, moved_first}
use Rattle.cdb_make.proofs.Admitting.{same_marks, or_clear, behind_nothing, length-or}
use Rattle.cdb_make.proofs.Survive.{or_none, number_zero, some_there}
use Rattle.cdb_make.proofs.Marking.{marks_long}

pub have_none : (hash : ℕ) (hs : List ℕ) (ms : List Mark) → AreNone (found_of ms) → HaveHash hash hs ms
have_none hash hs ms none = record { each = λ k is. absurd (let t : false ≡ true = sym (none k) ∙ is in cc) }

-- a put that takes none out
pub record Plain (w : ℕ) (mode : Mode) (r : KeyValue) (put : Put) (rs : List KeyValue) : Type 0 where
  pub answers : put ≡ put_answer mode r rs
  pub adds : is_present put ≡ false → put_list mode r rs ≡ rs ++ r ∷ []
  pub none : is_present put ≡ true → (put_list mode r rs ≡ rs) × (put_bytes w mode r rs ≡ 0)
  pub bytes : is_present put ≡ false → put_bytes w mode r rs ≡ record_size w r

never : false ≡ true → {A : Type 0} → A
never e = absurd (let t : false ≡ true = e in cc)

pub plain_add : (w : ℕ) (r : KeyValue) (rs : List KeyValue) → Plain w Add r Added rs
plain_add w r rs = record { answers = refl; adds = λ e. refl; none = λ e. never e; bytes = λ e. refl }

pub plain_again : (w : ℕ) (r : KeyValue) (rs : List KeyValue) → true ≡ is_there r.key rs → Plain w Warn r AddedAgain rs
plain_again w r rs there = record { answers = ap (λ (v : Bool). cond v AddedAgain Added) there; adds = λ e. refl; none = λ e. never e; bytes = λ e. refl }

pub plain_warn : (w : ℕ) (r : KeyValue) (rs : List KeyValue) → false ≡ is_there r.key rs → Plain w Warn r Added rs
plain_warn w r rs there = record { answers = ap (λ (v : Bool). cond v AddedAgain Added) there; adds = λ e. refl; none = λ e. never e; bytes = λ e. refl }

pub plain_present : (w : ℕ) (r : KeyValue) (rs : List KeyValue) → true ≡ is_there r.key rs → Plain w Insert r Present rs
plain_present w r rs there = record {
  answers = ap (λ (v : Bool). cond v Present Added) there;
  adds = λ e. never (sym e);
  none = λ e. (sym (ap (λ (v : Bool). cond v rs (rs ++ r ∷ [])) there), sym (ap (λ (v : Bool). cond v 0 (record_size w r)) there));
  bytes = λ e. never (sym e);
}

pub plain_insert : (w : ℕ) (r : KeyValue) (rs : List KeyValue) → false ≡ is_there r.key rs → Plain w Insert r Added rs
plain_insert w r rs there = record {
  answers = ap (λ (v : Bool). cond v Present Added) there;
  adds = λ e. sym (ap (λ (v : Bool). cond v rs (rs ++ r ∷ [])) there);
  none = λ e. never e;
  bytes = λ e. sym (ap (λ (v : Bool). cond v 0 (record_size w r)) there);
}

goes_plain : (mode : Mode) (key : List ℕ) (ms : List Bool) (rs : List KeyValue) → (mode ≡ Replace → ⊥) → goes_with mode key ms rs ≡ ms
goes_plain Add key ms rs other = refl
goes_plain Warn key ms rs other = refl
goes_plain Insert key ms rs other = refl
goes_plain Replace key ms rs other = absurd (other refl)

lone_plain : (w : ℕ) (mode : Mode) (r : KeyValue) (rs : List KeyValue) → (mode ≡ Replace → ⊥) → lone_bytes w mode r rs ≡ put_bytes w mode r rs
lone_plain w Add r rs other = refl
lone_plain w Warn r rs other = refl
lone_plain w Insert r rs other = refl
lone_plain w Replace r rs other = absurd (other refl)

by_present : (v : Bool) (n size : ℕ) → (v ≡ true → n ≡ 0) → (v ≡ false → n ≡ size) → n ≡ cond v 0 size
by_present true n size none some = none refl
by_present false n size none some = some refl

pub meets_by : {S L : Type 0} {s : Ghosts S} {l : Widths L} (i j : Maker S L s l) (hash : ℕ) (mode : Mode) (r : KeyValue) (put : Put) → (mode ≡ Replace → ⊥) → Rests i j → AreNone (found_in j) → ((rs : List KeyValue) → Holds i rs → (b : List ℕ) → s.image j.store b → Plain l.WORD mode r put rs) → Meets i j hash mode r put
meets_by {s = s} {l = l} i j hash mode r put other rests none plain = record {
  rests = rests;
  replaces = λ some. absurd (omega (arith, some, j.roll.sought.count, number_none (found_in j) none));
  have = have_none hash (searched j.roll) (marks_in j.roll) none;
  each = λ rs h b is.
      let p = plain rs h b is in
      let held = h.each b (rests.reads.images b is) in
      let all : List KeyValue = held.all in
      let marks : or_each (gone_in j) (found_in j) ≡ gone_in j = or_none (gone_in j) (found_in j) (same_marks j.roll) none in
      let is_held : rs ≡ left (gone_in j) all = held.left ∙ ap (λ (v : List Bool). left v all) (sym rests.gone) in
      record {
        all = all;
        sees = sees_same i.roll j.roll all b rests.same held.sees;
        answers = p.answers;
        held = is_held;
        adds = λ np. p.adds np ∙ ap (λ (v : List KeyValue). v ++ r ∷ []) (is_held ∙ ap (λ (v : List Bool). left v all) (sym marks));
        none = p.none;
        there = λ some. absurd (omega (arith, some, j.roll.sought.count, number_none (found_in j) none));
        goes = marks ∙ sym (goes_plain mode r.key (gone_in j) all other);
        lone = lone_plain l.WORD mode r rs other ∙ by_present (is_present put) (put_bytes l.WORD mode r rs) (record_size l.WORD r) (λ e. (p.none e).1) p.bytes;
        found = λ replaces there. absurd (other replaces);
        bytes = λ np clear.
            let z : sum (behind (or_each (gone_in j) (found_in j)) (map (record_size l.WORD) all)) ≡ 0 = ap sum (behind_nothing (or_each (gone_in j) (found_in j)) (map (record_size l.WORD) all) (or_clear (gone_in j) (found_in j) (same_marks j.roll) clear none)) in
            omega (arith, p.bytes np, z);
      };
}

there_some : (key : List ℕ) (rs : List KeyValue) → is_there key rs ≡ true → count_of key rs ≡ 0 → ⊥
there_some key [] e z = (let t : false ≡ true = e in cc)
there_some key (r ∷ rs) e z =
    let s : count_of key (r ∷ rs) ≡ cond (has_key key r) 1 0 + count_of key rs = sum_by-cons (λ x. cond (has_key key x) 1 0) r rs in
    let f : (b : Bool) → has_key key r ≡ b → ⊥ = λ b. elim b as (λ b. has_key key r ≡ b → ⊥) [
      | true ↦ λ q. (let c = one_of (has_key key r) (count_of key (r ∷ rs)) (count_of key rs) q s in omega arith)
      | false ↦ λ q. there_some key rs (ap (λ (v : Bool). v || is_there key rs) (sym q) ∙ e) (let c = rest_of (has_key key r) (count_of key (r ∷ rs)) (count_of key rs) q s in omega arith)
    ] in
    f (has_key key r) refl

none_is : (key : List ℕ) (rs : List KeyValue) → 0 ≡ count_of key rs → is_there key rs ≡ false
none_is key rs e = false_from_ne_true (is_there key rs) (λ t. there_some key rs t (omega (arith, e)))

pub meets_found : {S L : Type 0} {s : Ghosts S} {l : Widths L} (i j : Maker S L s l) (hash n : ℕ) (r : KeyValue) (put : Put) → Seeks i j hash r.key n → is_present put ≡ false → ((rs : List KeyValue) → n ≡ count_of r.key rs → put ≡ put_answer Replace r rs) → Meets i j hash Replace r put
meets_found {s = s} {l = l} i j hash n r put h np answers = record {
  rests = h.rests;
  have = h.have;
  replaces = λ some. refl;
  each = λ rs holds b is.
      let q = sought i j hash n r.key rs b h holds is in
      record {
        all = q.all;
        sees = q.sees;
        answers = answers rs q.count;
        held = q.held;
        adds = λ e. ap (λ (v : List KeyValue). v ++ r ∷ []) (sym q.rest);
        none = λ e. never (sym np ∙ e);
        there = λ some. some_there r.key rs (omega (arith, some, h.count, q.count));
        goes = ap (or_each (gone_in j)) q.found;
        lone = ap (λ (v : Bool). cond v 0 (record_size l.WORD r)) (sym np);
        found = λ replaces there. elim (cases_lt 0 j.roll.found.count) [ inl some ↦ some | inr le ↦ absurd (there_some r.key rs there (omega (arith, le, h.count, q.count))) ];
        bytes = λ e clear.
            let same : rs ≡ q.all = q.held ∙ left_all_stay (gone_in j) q.all q.many clear in
            let moved : sum (behind (or_each (gone_in j) (found_in j)) (map (record_size l.WORD) q.all)) ≡ sum_by (record_size l.WORD) (behind_first (has_key r.key) rs) =
            behind-sum_by (record_size l.WORD) (or_each (gone_in j) (found_in j)) q.all ∙ ap (λ (v : List Bool). sum_by (record_size l.WORD) (behind (or_each (gone_in j) v) q.all)) q.found
            ∙ ap (sum_by (record_size l.WORD)) (moved_first r.key (gone_in j) q.all q.many clear) ∙ ap (λ (v : List KeyValue). sum_by (record_size l.WORD) (behind_first (has_key r.key) v)) (sym same) in
            omega (arith, moved);
      };
}

pub answers_none : (r : KeyValue) (rs : List KeyValue) → 0 ≡ count_of r.key rs → Added ≡ put_answer Replace r rs
answers_none r rs e = sym (ap (λ (v : Bool). cond v (Replaced (count_of r.key rs)) Added) (none_is r.key rs e))

pub answers_some : (r : KeyValue) (rs : List KeyValue) (n : ℕ) → 0 < n → n ≡ count_of r.key rs → Replaced n ≡ put_answer Replace r rs
answers_some r rs n some e = ap (λ (v : ℕ). Replaced v) e ∙ sym (ap (λ (v : Bool). cond v (Replaced (count_of r.key rs)) Added) (some_there r.key rs (omega (arith, e))))

-- ---- and done

-- there was no room for a record before a look, if there is none after it
short_before : {S L : Type 0} {s : Ghosts S} {l : Widths L} (i j : Maker S L s l) (r : KeyValue) → Rests i j → (HasRoom i.roll → HasRoom j.roll) → IsShort j r → IsShort i r
short_before {l = l} i j r rests room short =
    let slots : 4 * l.WORD * length j.roll.hashes.items ≡ 4 * l.WORD * length i.roll.hashes.items = ap (λ (v : List ℕ). 4 * l.WORD * length v) rests.same.hashes in
    elim short [
      | inl over ↦ inl (omega (arith, over, slots, rests.limit, rests.same.end))
      | inr full ↦ inr (elim full [ inl none ↦ inl (λ has. none (room has)) | inr past ↦ inr (omega (arith, past, rests.reads.room, rests.same.end)) ])
    ]

pub puts_by : {S L : Type 0} {s : Ghosts S} {l : Widths L} (i j k : Maker S L s l) (hash : ℕ) (mode : Mode) (r : KeyValue) (put : Put) → is_present put ≡ false → Meets i j hash mode r put → Admits j k r → IsAlone j k r → (HasRoom i.roll → HasRoom j.roll) → Puts i k mode r put
puts_by {s = s} {l = l} i j k hash mode r put np m t alone room = record {
  was = m.rests.was;
  whole = t.whole;
  holds = λ rs h. record {
    whole = t.whole;
    each = λ b is.
        let g = t.goes.each b is in
        let e = m.each rs h g.0 g.1 in
        let q = g.2 e.all e.sees in
        record { all = q.0; sees = q.1; left = e.adds np ∙ sym q.2.0 };
  };
  answers = λ rs h. record { each = λ b is. (let g = t.goes.each b is in (m.each rs h g.0 g.1).answers) };
  written = λ eager rs h. record {
    each = λ b is.
        let g = t.goes.each b is in
        let e = m.each rs h g.0 g.1 in
        let q = g.2 e.all e.sees in
        let none : AreNone (gone_in j) = subst AreNone (sym m.rests.gone) (i.eager eager m.rests.was) in
        omega (arith, q.2.1 (m.rests.lazy ∙ eager), e.bytes np none, m.rests.reads.written);
  };
  writes = λ rs h. record {
    each = λ b is.
        let g = t.goes.each b is in
        let e = m.each rs h g.0 g.1 in
        let q = g.2 e.all e.sees in
        let ns : List ℕ = map (record_size l.WORD) e.all in
        let lone : lone_bytes l.WORD mode r rs ≡ record_size l.WORD r = e.lone ∙ ap (λ (v : Bool). cond v 0 (record_size l.WORD r)) np in
        let marks : or_each (gone_in j) (found_in j) ≡ goes_with mode r.key (gone_in i) e.all = e.goes ∙ ap (λ (v : List Bool). goes_with mode r.key v e.all) m.rests.gone in
        let moved : sum (behind (or_each (gone_in j) (found_in j)) ns) ≡ sum (behind (goes_with mode r.key (gone_in i) e.all) ns) = ap (λ (v : List Bool). sum (behind v ns)) marks in
        let taken : j.roll.gone.size + j.roll.found.size ≡ sum (picked (goes_with mode r.key (gone_in i) e.all) ns) = kept_picked j.roll e.all g.0 e.sees ∙ ap (λ (v : List Bool). sum (picked v ns)) marks in
        record {
          image = g.0;
          was = m.rests.reads.images g.0 g.1;
          all = e.all;
          sees = sees_same j.roll i.roll e.all g.0 (same_back i.roll j.roll m.rests.same) e.sees;
          held = e.held ∙ ap (λ (v : List Bool). left v e.all) m.rests.gone;
          wrote = elim alone [
            | inl wrote ↦ inl (omega (arith, wrote, lone, m.rests.reads.written))
            | inr why ↦ elim q.2.2 [
              | inl wrote ↦ inl (omega (arith, wrote.0, lone, m.rests.reads.written))
              | inr pass ↦ inr (
                omega (arith, pass.0, moved, m.rests.reads.written),
                λ lazy. elim (why (m.rests.lazy ∙ lazy)) [ inl due ↦ inl (omega (arith, due, taken, m.rests.same.end)) | inr short ↦ inr (short_before i j r m.rests room short) ],
              )
            ]
          ];
        };
  };
  pays = λ lazy rs h. record {
    each = λ b is.
        let g = t.goes.each b is in
        let e = m.each rs h g.0 g.1 in
        let q = g.2 e.all e.sees in
        let ms : List Bool = or_each (gone_in j) (found_in j) in
        let ns : List ℕ = map (record_size l.WORD) e.all in
        let lone : lone_bytes l.WORD mode r rs ≡ record_size l.WORD r = e.lone ∙ ap (λ (v : Bool). cond v 0 (record_size l.WORD r)) np in
        elim q.2.2 [
          | inl wrote ↦ inl (omega (arith, wrote, lone, m.rests.reads.written, m.rests.same.end))
          | inr pass ↦
              let taken : j.roll.gone.size + j.roll.found.size ≡ sum (picked ms ns) = kept_picked j.roll e.all g.0 e.sees in
              let many : length ms ≡ length e.all = length-or (gone_in j) (found_in j) (same_marks j.roll) ∙ length-map (marks_in j.roll) is_gone ∙ (marks_long j.roll) ∙ sees_long j.roll e.all g.0 e.sees in
              let stay : length (gone_in k) ≡ length q.0 = length-map (marks_in k.roll) is_gone ∙ (marks_long k.roll) ∙ sees_long k.roll q.0 b q.1 in
              let ends = end_passed j.roll k.roll e.all q.0 ms g.0 b r many e.sees q.1 (sym (left_all_stay (gone_in k) q.0 stay pass.1) ∙ q.2.0) in
              elim alone [
                | inl wrote ↦ inl (omega (arith, wrote, ends.0, lone, m.rests.reads.written, m.rests.same.end))
                | inr why ↦ elim (why (m.rests.lazy ∙ lazy)) [
                  | inl due ↦ inl (omega (arith, due, taken, pass.0, ends.0, ends.1, lone, m.rests.reads.written, m.rests.same.end))
                  | inr short ↦ inr (short_before i j r m.rests room short)
                ]
              ]
        ];
  };
}

pub puts_none : {S L : Type 0} {s : Ghosts S} {l : Widths L} (i j : Maker S L s l) (hash : ℕ) (mode : Mode) (r : KeyValue) (put : Put) → is_present put ≡ true → Meets i j hash mode r put → Puts i j mode r put
puts_none {s = s} {l = l} i j hash mode r put p m = record {
  was = m.rests.was;
  whole = m.rests.whole;
  holds = λ rs h. record {
    whole = m.rests.whole;
    each = λ b is. (let e = m.each rs h b is in record { all = e.all; sees = e.sees; left = (e.none p).0 ∙ e.held });
  };
  answers = λ rs h. record { each = λ b is. (m.each rs h b is).answers };
  written = λ eager rs h. record { each = λ b is. omega (arith, (m.each rs h b is).none p, m.rests.reads.written) };
  writes = λ rs h. record {
    each = λ b is.
        let e = m.each rs h b is in
        let lone : lone_bytes l.WORD mode r rs ≡ 0 = e.lone ∙ ap (λ (v : Bool). cond v 0 (record_size l.WORD r)) p in
        record {
          image = b;
          was = m.rests.reads.images b is;
          all = e.all;
          sees = sees_same j.roll i.roll e.all b (same_back i.roll j.roll m.rests.same) e.sees;
          held = e.held ∙ ap (λ (v : List Bool). left v e.all) m.rests.gone;
          wrote = inl (omega (arith, lone, m.rests.reads.written));
        };
  };
  pays = λ lazy rs h. record { each = λ b is. inl (omega (arith, m.rests.reads.written, m.rests.same.end)) };
}

held_still : {S L : Type 0} {s : Ghosts S} {l : Widths L} (i j k : Maker S L s l) → Rests i j → Stays j k → (rs : List KeyValue) → Holds i rs → Holds k rs
held_still i j k rests stays rs h = (stays_whole j k rests.whole stays).holds rs ((rests_nothing i j rests).stays.holds rs h)

-- the file once they are gone
kept_file : {L : Type 0} {l : Widths L} (m : Roll L l) (all : List KeyValue) (b : List ℕ) → (l.WORD ≡ 4) ⊎ (l.WORD ≡ 8) → Sees m all b
    → file_size l.WORD (left (or_each (gone_of (marks_in m)) (found_of (marks_in m))) all) + (m.gone.size + m.found.size) + 4 * l.WORD * (m.gone.count + m.found.count) ≡ m.end + 4 * l.WORD * length m.hashes.items
kept_file {l = l} m all b w sees =
    let ms : List Mark = marks_in m in
    let marks : gone_of (map taken ms) ≡ or_each (gone_of ms) (found_of ms) = gone_taken ms in
    let long : length ms ≡ length all = (marks_long m) ∙ sees_long m all b sees in
    let many : length (or_each (gone_of ms) (found_of ms)) ≡ length all = ap length (sym marks) ∙ length-map (map taken ms) is_gone ∙ length-map ms taken ∙ long in
    let number_is : m.gone.count + m.found.count ≡ number (or_each (gone_of ms) (found_of ms)) = omega (arith, m.picked.count, m.sought.count, number_taken ms, ap number marks) in
    let end : ℕ = m.end - (m.gone.size + m.found.size) in
    let count : ℕ = length m.hashes.items - (m.gone.count + m.found.count) in
    let file = (left_file m all b (or_each (gone_of ms) (found_of ms)) end count (m.gone.size + m.found.size) (m.gone.count + m.found.count) w many sees (omega (arith, both_within m)) (omega (arith, both_few m)) (kept_picked m all b sees) number_is).0 in
    let slots : 4 * l.WORD * (count + (m.gone.count + m.found.count)) ≡ 4 * l.WORD * count + 4 * l.WORD * (m.gone.count + m.found.count) = slots_add l.WORD count (m.gone.count + m.found.count) w in
    let all_is : count + (m.gone.count + m.found.count) ≡ length m.hashes.items = omega (arith, both_few m) in
    let whole : 4 * l.WORD * (count + (m.gone.count + m.found.count)) ≡ 4 * l.WORD * length m.hashes.items = ap (λ (v : ℕ). 4 * l.WORD * v) all_is in
    omega (arith, file, slots, whole, both_within m)

-- where their records end
kept_end : {L : Type 0} {l : Widths L} (m : Roll L l) (all : List KeyValue) (b : List ℕ) → Sees m all b → records_end l.WORD (left (or_each (gone_of (marks_in m)) (found_of (marks_in m))) all) + (m.gone.size + m.found.size) ≡ m.end
kept_end {l = l} m all b sees =
    let ms : List Bool = or_each (gone_of (marks_in m)) (found_of (marks_in m)) in
    let ns : List ℕ = map (record_size l.WORD) all in
    let many : length ms ≡ length ns = length-or (gone_of (marks_in m)) (found_of (marks_in m)) (same_marks m) ∙ length-map (marks_in m) is_gone ∙ (marks_long m) ∙ sees_long m all b sees ∙ sym (length-map all (record_size l.WORD)) in
    omega (arith, left_sum ms ns many, left-sum_by (record_size l.WORD) ms all, kept_picked m all b sees, sees.of.ends, end_sum (head_size l.WORD) ns)

put_size : {S L : Type 0} {s : Ghosts S} {l : Widths L} (i j k : Maker S L s l) (hash : ℕ) (mode : Mode) (r : KeyValue) (put : Put) → (l.WORD ≡ 4) ⊎ (l.WORD ≡ 8) → is_present put ≡ false → Meets i j hash mode r put → Follows j k → (rs : List KeyValue) → Holds i rs → (b : List ℕ) → s.image k.store b
    → file_size l.WORD (put_list mode r rs) + (j.roll.gone.size + j.roll.found.size) + 4 * l.WORD * (j.roll.gone.count + j.roll.found.count) ≡ j.roll.end + whole_size l.WORD r + 4 * l.WORD * length j.roll.hashes.items
put_size {l = l} i j k hash mode r put w np m follows rs h b is =
    let a = follows.comes.each b is in
    let e = m.each rs h a.0 a.1 in
    let x = ap (file_size l.WORD) (e.adds np) ∙ whole_push l.WORD (left (or_each (gone_in j) (found_in j)) e.all) r in
    omega (arith, x, kept_file j.roll e.all a.0 w e.sees)

too_big : {S L : Type 0} {s : Ghosts S} {l : Widths L} (i j k : Maker S L s l) (hash : ℕ) (mode : Mode) (r : KeyValue) (put : Put) → (l.WORD ≡ 4) ⊎ (l.WORD ≡ 8) → is_present put ≡ false → Meets i j hash mode r put → Follows j k → IsOver j r → IsTooBig i k mode r
too_big i j k hash mode r put w np m follows over = λ rs h. record { each = λ b is. omega (arith, put_size i j k hash mode r put w np m follows rs h b is, over, m.rests.limit) }

not_present : (put answer : Put) → is_present put ≡ false → put ≡ answer → answer ≢ Present
not_present put answer np e is = never (sym np ∙ ap is_present (e ∙ is))

would_put : {S L : Type 0} {s : Ghosts S} {l : Widths L} (i j k : Maker S L s l) (hash : ℕ) (mode : Mode) (r : KeyValue) (put : Put) → (l.WORD ≡ 4) ⊎ (l.WORD ≡ 8) → is_present put ≡ false → Meets i j hash mode r put → Follows j k → IsWithin j r → WouldPut i k mode r
would_put i j k hash mode r put w np m follows within = λ rs h. record {
  each = λ b is.
      let a = follows.comes.each b is in
      (not_present put (put_answer mode r rs) np (m.each rs h a.0 a.1).answers, omega (arith, put_size i j k hash mode r put w np m follows rs h b is, within, m.rests.limit));
}

wants_room : {S L : Type 0} {s : Ghosts S} {l : Widths L} (i j k : Maker S L s l) (hash : ℕ) (mode : Mode) (r : KeyValue) (put : Put) → is_present put ≡ false → Meets i j hash mode r put → Follows j k → (0 < j.roll.found.count → PassesRoom j r) → WantsRoom i k mode r
wants_room {l = l} i j k hash mode r put np m follows passes = λ rs h replaces. record {
  each = λ b is there.
      let a = follows.comes.each b is in
      let e = m.each rs h a.0 a.1 in
      let x : records_end l.WORD (put_list mode r rs) ≡ records_end l.WORD (left (or_each (gone_in j) (found_in j)) e.all) + record_size l.WORD r = ap (records_end l.WORD) (e.adds np) ∙ omega (arith, sum_by_push (record_size l.WORD) (left (or_each (gone_in j) (found_in j)) e.all) r) in
      omega (arith, x, kept_end j.roll e.all a.0 e.sees, passes (e.found replaces there), m.rests.reads.room);
}

only_adds : {S L : Type 0} {s : Ghosts S} {l : Widths L} (i j k : Maker S L s l) (hash : ℕ) (mode : Mode) (r : KeyValue) (put : Put) → is_present put ≡ false → Meets i j hash mode r put → Follows j k → j.roll.found.count ≡ 0 → OnlyAdds i k mode r
only_adds i j k hash mode r put np m follows zero = λ rs h. record {
  each = λ b is.
      let a = follows.comes.each b is in
      let e = m.each rs h a.0 a.1 in
      let none : AreNone (found_in j) = number_zero (found_in j) (sym j.roll.sought.count ∙ zero) in
      e.adds np ∙ ap (λ (v : List Bool). left v e.all ++ r ∷ []) (or_none (gone_in j) (found_in j) (same_marks j.roll) none) ∙ ap (λ (v : List KeyValue). v ++ r ∷ []) (sym e.held);
}

failed_later : {S L : Type 0} {s : Ghosts S} {l : Widths L} (i j k : Maker S L s l) → Rests i j → HasFailedToWrite j k → HasFailedToWrite i k
failed_later i j k rests h = record { failed = omega (arith, h.failed, rests.reads.failures); unwritten = omega (arith, h.unwritten, rests.reads.unwritten) }

torn_put : {S L : Type 0} {s : Ghosts S} {l : Widths L} (i j k : Maker S L s l) (hash : ℕ) (mode : Mode) (r : KeyValue) (put : Put) → Meets i j hash mode r put → HasNotFailed i j → Follows j k → k.broken ≡ true → HasStoreFailed j k → 0 < j.roll.gone.count + j.roll.found.count → IsMarked k ⊎ ((0 < j.roll.found.count) × HasFailedToWrite j k)
    → IsTorn i k (HasGoneOr i r.key) (IsAnswerTo mode r) (IsHalfway i k mode r) × (HasGone i ⊎ (mode ≡ Replace))
torn_put {s = s} i j k hash mode r put m fine follows torn failed some half =
    let fails : HasStoreFailed i k = omega (arith, failed, m.rests.reads.failures) in
    let later : FailsLater i k (IsAnswerTo mode r) = record { read = j.store; reads = m.rests.reads; fine = fine; answer = put; known = λ rs h. record { each = λ b is. (m.each rs h b is).answers }; later = failed } in
    let there : 0 < j.roll.found.count → (rs : List KeyValue) → Holds i rs → WhereHonest (s.image k.store) (HasKey r.key rs) = λ found rs h. record { each = λ b is. (let a = follows.comes.each b is in (m.each rs h a.0 a.1).there found) } in
    let begun : IsHalfway i k mode r = elim half [ inl marked ↦ inl marked | inr lost ↦ inr (m.replaces lost.0, failed_later i j k m.rests lost.1, there lost.0) ] in
    elim (cases_lt 0 j.roll.found.count) [
      | inl found ↦ (
        record {
          was = m.rests.was;
          broken = torn;
          failed = fails;
          found = λ rs h. record { each = λ b is. inr ((there found rs h).each b is) };
          later = later;
          begun = begun;
        },
        inr (m.replaces found),
      )
      | inr le ↦
          let goes : 0 < i.roll.gone.count = omega (arith, some, le, ap (λ q. q.count) m.rests.picked) in
          let gone : HasGone i = (gone_lazy i m.rests.was goes, goes) in
          (record { was = m.rests.was; broken = torn; failed = fails; found = λ rs h. record { each = λ b is. inl gone }; later = later; begun = begun }, inl gone)
    ]

nothing_put : {S L : Type 0} {s : Ghosts S} {l : Widths L} (i j k : Maker S L s l) (hash : ℕ) (mode : Mode) (r : KeyValue) (put : Put) → Meets i j hash mode r put → DoesNothing j k → WritesNothing i k
nothing_put i j k hash mode r put m h = record { stays = record { was = m.rests.was; whole = h.stays.broken ∙ m.rests.whole; holds = held_still i j k m.rests h.stays }; written = h.written ∙ m.rests.reads.written }

pub put_fails : {S L : Type 0} {s : Ghosts S} {l : Widths L} (i j k : Maker S L s l) (hash : ℕ) (mode : Mode) (r : KeyValue) (put : Put) (fault : MakeFault) → (l.WORD ≡ 4) ⊎ (l.WORD ≡ 8) → is_present put ≡ false → Meets i j hash mode r put → HasNotFailed i j → Follows j k → FailsAdmitting j k r fault → FailsPutting i k mode r fault
put_fails i j k hash mode r put Broken w np m fine follows h = absurd h
put_fails i j k hash mode r put Lookup w np m fine follows h = absurd h
put_fails i j k hash mode r put TooBig w np m fine follows h = (nothing_put i j k hash mode r put m h.0, too_big i j k hash mode r put w np m follows h.1, h.0.fine ∙ fine)
put_fails i j k hash mode r put NoMemory w np m fine follows h = (nothing_put i j k hash mode r put m h.0, wants_room i j k hash mode r put np m follows h.2, would_put i j k hash mode r put w np m follows h.1, h.0.fine ∙ fine)
put_fails i j k hash mode r put Writing w np m fine follows h =
    let would = would_put i j k hash mode r put w np m follows h.0 in
    elim h.1 [
      | inl t ↦ (
        inl (
          record { was = m.rests.was; whole = t.0.broken ∙ m.rests.whole; holds = held_still i j k m.rests t.0 },
          failed_later i j k m.rests t.1,
          λ eager. only_adds i j k hash mode r put np m follows (t.2 (m.rests.lazy ∙ eager)),
        ),
        would,
      )
      | inr t ↦ elim t [
        | inl u ↦ (inr (torn_put i j k hash mode r put m fine follows u.0 u.1 u.2 u.3), would)
        | inr u ↦ (
          inl (
            record {
              was = m.rests.was;
              whole = u.0;
              holds = λ rs holds. record {
                whole = u.0;
                each = λ b is.
                    let g = u.4.each b is in
                    let held = holds.each g.0 (m.rests.reads.images g.0 g.1) in
                    let q = g.2 held.all (sees_same i.roll j.roll held.all g.0 m.rests.same held.sees) in
                    let none : AreNone (found_in j) = number_zero (found_in j) (sym j.roll.sought.count ∙ u.3) in
                    let many : length (gone_in k) ≡ length q.0 = omega (arith, length-map (marks_in k.roll) is_gone, (marks_long k.roll), sees_long k.roll q.0 b q.1) in
                    record {
                      all = q.0;
                      sees = q.1;
                      left = held.left ∙ ap (λ (v : List Bool). left v held.all) (sym m.rests.gone ∙ sym (or_none (gone_in j) (found_in j) (same_marks j.roll) none)) ∙ sym q.2 ∙ sym (left_all_stay (gone_in k) q.0 many u.1);
                    };
              };
            },
            failed_later i j k m.rests u.2,
            λ eager. only_adds i j k hash mode r put np m follows u.3,
          ),
          would,
        )
      ]
    ]

pub put_failed : {S L : Type 0} {s : Ghosts S} {l : Widths L} (i j k : Maker S L s l) (hash : ℕ) (mode : Mode) (r : KeyValue) (put : Put) (result : Result Put MakeFault) (f : MakeFault) → (l.WORD ≡ 4) ⊎ (l.WORD ≡ 8) → is_present put ≡ false → Meets i j hash mode r put → HasNotFailed i j → Follows j k → FailsAdmitting j k r f → IsErrAnd result (λ v. v ≡ f) → IfErr result (FailsPutting i k mode r)
put_failed i j k hash mode r put (Ok x) f w np m fine follows h e = tt
put_failed i j k hash mode r put (Err v) f w np m fine follows h e = subst (FailsPutting i k mode r) (sym e) (put_fails i j k hash mode r put f w np m fine follows h)

pub meets_add : {S L : Type 0} {s : Ghosts S} {l : Widths L} (i j : Maker S L s l) (hash : ℕ) (mode : Mode) (r : KeyValue) → mode ≡ Add → Rests i j → AreNone (found_in j) → Meets i j hash mode r Added
meets_add {l = l} i j hash mode r is rests none = subst (λ v. Meets i j hash v r Added) (sym is) (meets_by i j hash Add r Added (λ e. (let t : Add ≡ Replace = e in cc)) rests none (λ rs h b at. plain_add l.WORD r rs))

-- no other goes and none was found
pub meets_alone : {S L : Type 0} {s : Ghosts S} {l : Widths L} (i : Maker S L s l) (hash : ℕ) (mode : Mode) (r : KeyValue) → mode ≡ Add → i.broken ≡ false → i.roll.gone.count + i.roll.found.count ≡ 0 → Meets i i hash mode r Added
meets_alone i hash mode r is whole none =
    meets_add i i hash mode r is (record { was = whole; whole = whole; same = same_self i.roll; gone = refl; picked = refl; limit = refl; lazy = refl; reads = reads_nothing _ _ refl })
    (number_zero (found_in i) (omega (arith, i.roll.sought.count, none)))

-- a replacement is taken, and no record is in its way
pub replaces_it : (n : ℕ) → Replaced n ≢ Present
replaces_it n e = cc
