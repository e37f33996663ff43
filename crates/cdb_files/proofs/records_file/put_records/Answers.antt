use Rattle.std.proofs.Common.{arith, ◌≡◌, ◌∙◌, ◌+◌, ◌<◌, ◌++◌, ◌∷◌, ℕ, List, [], ap, sym, subst, take, length, get_or}
use Rattle.std.proofs.lemmas.List.{map_push, take_more}
use Rattle.cdb_form.specs.Format.{KeyValue}
use Rattle.cdb_form.specs.Views.Pairs.{key_value, key_values}
use Rattle.cdb_form.specs.declared.record.Record.{Record}
use Rattle.cdb_make.specs.Views.Maker.{Holds}
use Rattle.std.proofs.lemmas.Result.{err_from_is_err_and}
use Rattle.cdb_files.proofs.Failing.{puts_fail}
use Rattle.cdb_files.proofs.records_file.put_records.Goals as goal

-- one record more
one_more : (rs : List Record) (i : ℕ) (r : Record) (key value : List ℕ) → i < length rs → r ≡ get_or rs i r → key ≡ r.key.items → value ≡ r.value.items
    → key_values (take i rs) ++ record { key = key; value = value } ∷ [] ≡ key_values (take (i + 1) rs)
one_more rs i r key value lt is k v =
    let old : List KeyValue = key_values (take i rs) in
    ap (λ (x : List ℕ). old ++ record { key = x; value = value } ∷ []) k
    ∙ ap (λ (x : List ℕ). old ++ record { key = r.key.items; value = x } ∷ []) v
    ∙ sym (ap key_values (take_more rs i r lt ∙ ap (λ x. take i rs ++ x ∷ []) (sym is)) ∙ map_push key_value (take i rs) r)

pub loop-record-preserved : goal.loop-record-preserved
loop-record-preserved g c =
    let i : ℕ = c.loop-record.record-index in
    let inv = c.loop-record.invariant in
    let e = c.put.ensures in
    let more = one_more c.args.records.now i c.record-item.result _ _ (omega arith) c.record-item.is c.deref.ensures.value c.deref-in-loop-record.ensures.value in
    record {
      holds = subst (λ (v : List KeyValue). Holds c.put.new.self v) more (c.in_ok-put.ensures.puts.holds _ inv.holds);
      limit = e.follows.limit ∙ inv.limit;
      failures = c.in_ok-put.ensures.fine ∙ inv.failures;
    }

pub returns-in_err-put-clause-fails : goal.returns-in_err-put-clause-fails
returns-in_err-put-clause-fails g c =
    let p = err_from_is_err_and c.from_residual.result c.from_residual.ensures.1 in
    let i : ℕ = c.loop-record.record-index in
    let inv = c.loop-record.invariant in
    let more = one_more c.args.records.now i c.record-item.result _ _ (omega arith) c.record-item.is c.deref.ensures.value c.deref-in-loop-record.ensures.value in
    rw (p.1, p.2) (puts_fail {s = g.S.Store} {l = g.L.Width} c.args.maker.now.limit (g.S.Store.failures c.args.maker.now.store) i c.args.records.now c.loop-record.maker c.put.new.self _ _ inv.holds inv.limit inv.failures more c.in_err-put.ensures.fails)

pub returns-in_err-put-clause-failures : goal.returns-in_err-put-clause-failures
returns-in_err-put-clause-failures g c = omega (arith, c.put.ensures.follows.failures, c.loop-record.invariant.failures)
