use Rattle.cdb_make.proofs.Words.{AreFirst, FailsAppending, KeepsLimit, KeyValue, List, [], ap, arith, common_steps, drop, err_from_is_err_and, length, length-take, on_ok_weaker, prefix_record, record_size, records_at, refl, size_split, subst, sym, take, whole_size, ℕ, ◌*◌, ◌+◌, ◌-◌, ◌<◌, ◌∙◌, ◌∷◌, ◌≡◌}
use Rattle.std.specs.Prelude.{sum_by}
use Rattle.cdb_store.specs.Images.{ImagesHold as Stored}
use Rattle.cdb_make.proofs.Appends.{appends_all, appends_none, fails_behind, fails_writing, keeps_limit, stays_noted}
use Rattle.cdb_make.proofs.Finishing.{whole_then}
use Rattle.cdb_make.proofs.Looking.{same_then}
use Rattle.cdb_make.proofs.Bytes.Fitting.{first_none, next_fits, next_of, next_splits, sum_take}
use Rattle.cdb_make.proofs.maker.Maker.append_first.Goals as goal

pub write_behind-requires-clause-fits : goal.write_behind-requires-clause-fits
write_behind-requires-clause-fits g c =
    let w : ℕ = g.L.Width.WORD in
    let rs : List KeyValue = take c.args.count (records_at w c.args.bytes.now) in
    let split : sum_by (whole_size w) rs ≡ sum_by (record_size w) rs + 4 * w * length rs = size_split w rs in
    omega (arith, c.tag.ensures.same.end, c.requires.room, c.requires.first.sum, c.requires.first.within, length-take c.args.size c.args.bytes.now)

pub returns-in_err-write_behind-clause-fails : goal.returns-in_err-write_behind-clause-fails
returns-in_err-write_behind-clause-fails g c =
    let p = err_from_is_err_and c.from_residual.result c.from_residual.ensures.1 in
    let w : ℕ = g.L.Width.WORD in
    let m = c.args.self.now in
    let new = c.write_behind.new.self in
    let bytes : List ℕ = c.args.bytes.now in
    let all : List KeyValue = records_at w bytes in
    let r : KeyValue = prefix_record w bytes in
    let later : List KeyValue = take (c.args.count - (0 + 1)) (drop (0 + 1) all) in
    let some : 0 < g.L.Width.WORD = omega (arith, g.met.L.Width.four_or_eight) in
    let more : 0 < c.args.count = omega (arith, c.if-count-eq0.false) in
    let cut = next_splits w bytes 0 0 some (first_none w bytes) (next_fits w bytes 0 0 (first_none w bytes) (omega (arith, c.requires.first.few))) in
    let are : take c.args.count all ≡ r ∷ later = next_of all 0 c.args.count r more cut in
    let one : sum_by (whole_size w) (take 1 all) ≡ sum_by (whole_size w) (r ∷ []) = ap (sum_by (whole_size w)) cut.1 in
    let le = sum_take (whole_size w) all 1 c.args.count (omega arith) in
    let fits : KeepsLimit m new (r ∷ []) = keeps_limit m new (r ∷ []) g.met.L.Width.four_or_eight c.write_behind.ensures.follows.comes (omega (arith, c.requires.room)) in
    rw (p.1, p.2)
    (subst (λ (v : List KeyValue). FailsAppending m new v c.in_err-write_behind.field-0.0) (sym are)
    (fails_writing m new r later c.in_err-write_behind.field-0.0
    (whole_then m _ new (stays_noted m _ c.requires.whole c.requires.whole c.tag.ensures.same c.tag.ensures.marks refl) c.write_behind.ensures.stays) fits c.in_err-write_behind.ensures.fails))

pub returns-clause-ok : goal.returns-clause-ok
returns-clause-ok g c =
    let w : ℕ = g.L.Width.WORD in
    let m = c.args.self.now in
    let bytes : List ℕ = c.args.bytes.now in
    let e = c.in_ok-write_behind.ensures in
    let long : length (take c.args.size bytes) ≡ c.args.size = omega (arith, c.requires.first.within, length-take c.args.size bytes) in
    on_ok_weaker c.enter_all.result
    (λ ok. appends_all m c.write_behind.new.self c.enter_all.new.self (take c.args.count (records_at w bytes)) c.args.size
    (whole_then m _ _ (stays_noted m _ c.requires.whole c.requires.whole c.tag.ensures.same c.tag.ensures.marks refl) c.write_behind.ensures.stays)
    (same_then m.roll c.tag.new.self _ c.tag.ensures.same c.write_behind.ensures.roll) (c.write_behind.ensures.gone ∙ c.tag.ensures.gone) c.write_behind.ensures.follows.comes ok c.requires.first.sum (e.written ∙ ap (λ (n : ℕ). g.S.Store.written m.store + n) long) e.failures c.enter_all.ensures.store)
    c.enter_all.ensures.ok

pub returns-clause-fails : goal.returns-clause-fails
returns-clause-fails g c =
    let w : ℕ = g.L.Width.WORD in
    let m = c.args.self.now in
    let e = c.in_ok-write_behind.ensures in
    fails_behind m c.write_behind.new.self c.enter_all.new.self (take c.args.count (records_at w c.args.bytes.now)) c.enter_all.result
    (whole_then m _ _ (stays_noted m _ c.requires.whole c.requires.whole c.tag.ensures.same c.tag.ensures.marks refl) c.write_behind.ensures.stays) c.write_behind.ensures.follows.limit (ap g.S.Store.failures c.enter_all.ensures.store ∙ e.failures) c.enter_all.ensures.memory c.enter_all.ensures.some

pub enter_all-requires-clause-first : goal.enter_all-requires-clause-first
enter_all-requires-clause-first g c = subst (λ (n : ℕ). AreFirst g.L.Width.WORD c.args.bytes.now c.args.count n) c.requires.first.sum c.requires.first

pub enter_all-requires-clause-written : goal.enter_all-requires-clause-written
enter_all-requires-clause-written g c =
    let new = c.write_behind.new.self in
    subst (λ (n : ℕ). Stored new.roll.end (take n c.args.bytes.now) (g.S.Store.image new.store)) c.requires.first.sum c.in_ok-write_behind.ensures.stored

pub enter_all-requires-clause-inside : goal.enter_all-requires-clause-inside
enter_all-requires-clause-inside g c =
    omega (arith, c.in_ok-write_behind.ensures.inside, c.requires.first.sum, c.requires.first.within, length-take c.args.size c.args.bytes.now)

pub returns-then-count-eq0-clause-ok : goal.returns-then-count-eq0-clause-ok
returns-then-count-eq0-clause-ok g c =
    let m = c.args.self.now in
    let all : List KeyValue = records_at g.L.Width.WORD c.args.bytes.now in
    let zero : c.args.count ≡ 0 = omega (arith, c.if-count-eq0.true) in
    let none : take c.args.count all ≡ [] = ap (λ (n : ℕ). take n all) zero in
    appends_none m _ (take c.args.count all) c.args.size (stays_noted m _ c.requires.whole c.requires.whole c.tag.ensures.same c.tag.ensures.marks refl) c.tag.ensures.same c.tag.ensures.gone refl none c.requires.first.sum

pub returns-clause-gone : goal.returns-clause-gone
returns-clause-gone g c = grind (arith, common_steps)
