use Rattle.cdb_form.proofs.Words.{FromTo, IfErr-weaker, IfOk-weaker, arith, err_from_is_err_and, head_size, max, no_walk, on_err_weaker, pair_size, record_end, subst, sym, walk_of, ◌≡◌}
use Rattle.cdb_form.proofs.RecordReading.StreamLemmas.{damage_and, end_then, fails_then, false_weaker, first_then, loses_still, no_further_then, true_weaker}
use Rattle.cdb_form.proofs.RecordReading.RecordAreas.{none_behind_head, first_behind_head}
use Rattle.cdb_form.specs.Views.RecordReader.{walk_left, behind_end, behind_records}
use Rattle.cdb_form.proofs.walk.record_reader.RecordReader.first.Goals as goal

pub returns-in_err-area-clause-fails : goal.returns-in_err-area-clause-fails
returns-in_err-area-clause-fails g c =
    let p = err_from_is_err_and c.from_residual.result c.from_residual.ensures.1 in
    let w = g.L.Width.WORD in
    let e = c.in_err-area.ensures in
    rw (p.1, p.2) (damage_and _ _ c.in_err-area.field-0.0 _ _ (g.met.R.Feeds.one_rest c.args.self.now.reader) e.fails
    (loses_still _ _ (head_size w) (λ text. max (head_size w) (record_end w text)) (λ text. (omega arith)) e.loses))

pub returns-clause-fails : goal.returns-clause-fails
returns-clause-fails g c =
    let area = c.in_ok-area.area in
    let ok = c.in_ok-area.ensures in
    IfErr-weaker c.record_at.result _ _ (λ f h. fails_then g.L.Width.WORD area.place area.end _ _ _ f ok.area ok.place area.ordered h) c.record_at.ensures.fails

pub returns-clause-end : goal.returns-clause-end
returns-clause-end g c =
    let w = g.L.Width.WORD in
    let area = c.in_ok-area.area in
    let ok = c.in_ok-area.ensures in
    let o = g.R.Feeds.feed c.args.self.now.reader in
    let m = g.R.Feeds.feed c.read_area.new.reader in
    IfOk-weaker c.record_at.result _ _ (λ given h. false_weaker _ _ given (λ t.
    subst (λ s. FromTo o (g.R.Feeds.feed s.reader) (λ text rest. (walk_of w text ≡ no_walk) × (rest ≡ behind_records w text))) (sym t.2)
    (end_then w area.place area.end o m ok.area ok.place area.ordered t.1 t.0)) h) c.record_at.ensures.end

pub returns-clause-header : goal.returns-clause-header
returns-clause-header g c =
    let w = g.L.Width.WORD in
    IfErr-weaker c.record_at.result _ _ (λ f h damage. no_further_then _ _ _ (head_size w) (pair_size w) c.in_ok-area.ensures.loses (h damage)) c.record_at.ensures.header

pub returns-clause-record : goal.returns-clause-record
returns-clause-record g c =
    let w = g.L.Width.WORD in
    let area = c.in_ok-area.area in
    let ok = c.in_ok-area.ensures in
    let new = c.record_at.new.self in
    let o = g.R.Feeds.feed c.args.self.now.reader in
    let m = g.R.Feeds.feed c.read_area.new.reader in
    let n = g.R.Feeds.feed new.reader in
    IfOk-weaker c.record_at.result _ _ (λ given h. true_weaker _ _ given (λ t. (
      t.0,
      t.1,
      first_then w area.place area.end o m n t.0 (λ rest. walk_left w new rest) (λ rest. behind_end w new rest) ok.area ok.place area.ordered t.2,
      first_behind_head w area.place area.end o m n t.0 (λ rest. walk_left w new rest) ok.cut t.3,
    )) h) c.record_at.ensures.record

pub returns-in_err-area-clause-part : goal.returns-in_err-area-clause-part
returns-in_err-area-clause-part g c =
    let p = err_from_is_err_and c.from_residual.result c.from_residual.ensures.1 in
    rw (p.1) c.in_err-area.ensures.part

pub returns-clause-part : goal.returns-clause-part
returns-clause-part g c =
    let area = c.in_ok-area.area in
    on_err_weaker c.record_at.result (λ h. none_behind_head g.L.Width.WORD area.place area.end _ _ _ c.in_ok-area.ensures.cut h) c.record_at.ensures.part
