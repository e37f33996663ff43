use Rattle.cdb_make.proofs.Words.{FailsAppending, KeyValue, List, PassesLimit, [], ap, arith, common_steps, drop, err_from_is_err_and, full_size, inl, inr, length, prefix_record, records_at, subst, sym, take, take-append-drop, take_all, whole_size, ℕ, ◌++◌, ◌+◌, ◌<◌, ◌∙◌, ◌∷◌, ◌≡◌}
use Rattle.std.specs.Prelude.{sum_by}
use Rattle.cdb_make.proofs.Appends.{appends_until, fails_wider, passes_limit}
use Rattle.cdb_make.proofs.Finishing.{made_none}
use Rattle.cdb_make.proofs.Bytes.Fitting.{next_fits, next_splits, sum_take}
use Rattle.cdb_make.proofs.maker.Maker.append_beside.Goals as goal

pub returns-in_err-append_first-clause-fails : goal.returns-in_err-append_first-clause-fails
returns-in_err-append_first-clause-fails g c =
    let p = err_from_is_err_and c.from_residual.result c.from_residual.ensures.1 in
    let m = c.args.self.now in
    let new = c.append_first.new.self in
    let n : ℕ = c.measure-fitting.result.count in
    let all : List KeyValue = records_at g.L.Width.WORD c.args.bytes.now in
    let fault = c.in_err-append_first.field-0.0 in
    rw (p.1, p.2)
    (subst (λ (v : List KeyValue). FailsAppending m new v fault) (take-append-drop n all)
    (fails_wider m new (take n all) (drop n all) fault c.in_err-append_first.ensures.fails))

pub returns-then-fitting-clause-fails : goal.returns-then-fitting-clause-fails
returns-then-fitting-clause-fails g c =
    let w : ℕ = g.L.Width.WORD in
    let m = c.args.self.now in
    let new = c.append_first.new.self in
    let bytes : List ℕ = c.args.bytes.now in
    let all : List KeyValue = records_at w bytes in
    let n : ℕ = c.measure-fitting.result.count in
    let size : ℕ = c.measure-fitting.result.size in
    let e = c.measure-fitting.ensures in
    let r : KeyValue = prefix_record w (drop size bytes) in
    let some : 0 < g.L.Width.WORD = omega (arith, g.met.L.Width.four_or_eight) in
    let cut = next_splits w bytes n size some e.first (next_fits w bytes n size e.first (e.more c.if-fitting.true)) in
    let are : all ≡ take n all ++ r ∷ drop (n + 1) all = sym (take-append-drop n all) ∙ ap (λ t. take n all ++ t) cut.2 in
    let sum : sum_by (whole_size w) (take (n + 1) all) ≡ sum_by (whole_size w) (take n all ++ r ∷ []) = ap (sum_by (whole_size w)) cut.1 in
    let over : m.limit < full_size m + sum_by (whole_size w) (take n all ++ r ∷ []) = omega (arith, e.passes c.if-fitting.true, c.full_size.ensures.is, c.full_size.ensures.within) in
    let le = sum_take (whole_size w) all (n + 1) (length all) (omega (arith, e.more c.if-fitting.true)) in
    let whole : sum_by (whole_size w) (take (length all) all) ≡ sum_by (whole_size w) all = ap (sum_by (whole_size w)) (take_all (length all) all (omega arith)) in
    let none : m.roll.gone.count ≡ 0 = elim c.requires.room [ inl none ↦ none | inr fits ↦ absurd (omega (arith, over, le, whole, fits)) ] in
    let passes : PassesLimit m new (take n all ++ r ∷ []) =
    passes_limit m new (take n all ++ r ∷ []) g.met.L.Width.four_or_eight c.append_first.ensures.follows.comes (omega (arith, over, made_none m none)) in
    appends_until m new all (take n all) (drop (n + 1) all) r size are c.in_ok-append_first.ensures.ok passes

pub returns-clause-ok : goal.returns-clause-ok
returns-clause-ok g c = grind (arith, common_steps)
