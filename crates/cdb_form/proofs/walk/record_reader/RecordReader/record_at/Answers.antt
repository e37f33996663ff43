use Rattle.cdb_form.proofs.Words.{ReadsFirst, arith, err_from_is_err_and, refl, rules, subst, sym, walk_from, ℕ, ◌-◌}
use Rattle.cdb_form.proofs.Files.WalkSteps.{walk_from-end}
use Rattle.cdb_form.proofs.RecordReading.RecordReads.{goes_on}
use Rattle.cdb_form.proofs.RecordReading.StreamLemmas.{damage_and, loses_still}
use Rattle.cdb_form.proofs.walk.record_reader.RecordReader.record_at.Goals as goal

pub returns-then-area-clause-end : goal.returns-then-area-clause-end
returns-then-area-clause-end g c = (λ text. walk_from-end g.L.Width.WORD c.args.area.place c.args.area.end text c.if-area.true, c.if-area.true, refl)

pub returns-in_err-behind-clause-fails : goal.returns-in_err-behind-clause-fails
returns-in_err-behind-clause-fails g c =
    let p = err_from_is_err_and c.from_residual.result c.from_residual.ensures.1 in
    let n = c.args.area.end - c.args.area.place in
    let e = c.in_err-behind.ensures in
    rw (p.1, p.2) (damage_and _ _ c.in_err-behind.field-0.0 _ _ (g.met.R.Feeds.one_rest c.args.self.now.reader) e.fails (loses_still _ _ n (λ text. n) (λ text. (omega arith)) e.loses))

pub returns-in_err-behind-clause-header : goal.returns-in_err-behind-clause-header
returns-in_err-behind-clause-header g c =
    let p = err_from_is_err_and c.from_residual.result c.from_residual.ensures.1 in
    rw (p.1, p.2) c.in_err-behind.ensures.header

pub returns-clause-record : goal.returns-clause-record
returns-clause-record g c =
    let w = g.L.Width.WORD in
    let area = c.args.area in
    let behind = c.in_ok-behind.behind in
    let e = c.in_ok-behind.ensures in
    let o = g.R.Feeds.feed c.args.self.now.reader in
    let n = g.R.Feeds.feed c.read_record.new.reader in
    let t = e.record in (
      t.0,
      t.1,
      goes_on w area.place area.end behind.place behind.end o n t.0 (omega (arith, e.place)) behind.ordered e.end t.3,
      subst (λ (k : ℕ). ReadsFirst t.0 (walk_from w area.place area.end) (walk_from w behind.place k) o n) (sym e.end) t.4,
    )

pub returns-clause-value : goal.returns-clause-value
returns-clause-value g c = search rules
