use Rattle.cdb_tool.proofs.Words.{ap, arith, err_from_is_err_and, left_of, reads_more, sym, take, with_first, ◌∙◌, ◌≡◌}
use Rattle.cdb_read.specs.Views.Walking.{record_in, walk_ahead}
use Rattle.cdb_tool.proofs.BaseRecords.{next_stopped, none_added, one_added, walk_stopped, whole_window, window_added, window_stopped}
use Rattle.cdb_tool.proofs.runs.make_base.add_next.Goals as goal

pub returns-in_err-append-clause-fails : goal.returns-in_err-append-clause-fails
returns-in_err-append-clause-fails g c =
    let p = err_from_is_err_and c.from_residual-in_err-append.result c.from_residual-in_err-append.ensures.1 in
    let given = c.in_ok-n.ensures.ok in
    let window : c.deref.result.now ≡ c.records_into.new.into =
    c.deref.ensures.value ∙ whole_window _ c.records_into.new.into _ (omega (arith, c.records_into.auto.into, c.deref_mut.ensures.len)) in
    rw (p.1, p.2) (λ rs holds b i. window_stopped {s = g.S.Store} {l = g.L.Width} (g.B.Store.image c.records_into.new.self.reader.now.store) (λ b. left_of g.L.Width.WORD b c.args.records.now) (λ b. left_of g.L.Width.WORD b c.records_into.new.self) _ c.append.new.self c.records_into.new.into _ c.in_ok-n.n _ given.few (ap (take c.in_ok-n.n) window) given.gives c.in_err-append.ensures.fails rs holds b i)

pub returns-then-n-gt0-clause-ok : goal.returns-then-n-gt0-clause-ok
returns-then-n-gt0-clause-ok g c =
    let given = c.in_ok-n.ensures.ok in
    let window : c.deref.result.now ≡ c.records_into.new.into =
    c.deref.ensures.value ∙ whole_window _ c.records_into.new.into _ (omega (arith, c.records_into.auto.into, c.deref_mut.ensures.len)) in
    window_added {s = g.S.Store} {l = g.L.Width} _ (g.B.Store.image c.records_into.new.self.reader.now.store) (λ b. left_of g.L.Width.WORD b c.args.records.now) (λ b. left_of g.L.Width.WORD b c.records_into.new.self) _ c.append.new.self c.records_into.new.into _ c.in_ok-n.n _ given.few (ap (take c.in_ok-n.n) window) given.gives c.in_ok-append.ensures.ok

pub returns-in_err-pair-clause-fails : goal.returns-in_err-pair-clause-fails
returns-in_err-pair-clause-fails g c =
    let p = err_from_is_err_and c.from_residual-in_err-pair.result c.from_residual-in_err-pair.ensures.1 in
    let none : c.in_ok-n.n ≡ 0 = omega (arith, c.if-n-gt0.false) in
    let stays = c.in_ok-n.ensures.ok.stays none in
    rw (p.1, p.2) (λ rs holds b i. walk_stopped {s = g.S.Store} {l = g.L.Width} {t = g.B.Store} (λ b. left_of g.L.Width.WORD b c.args.records.now) c.records_into.new.self c.next.new.self _ c.in_err-pair.field-0.0 g.met.L.Width.four_or_eight (λ b. ap (walk_ahead g.L.Width.WORD b) (sym stays)) c.in_err-pair.ensures.fails rs holds b i)

pub returns-in_default-clause-ok : goal.returns-in_default-clause-ok
returns-in_default-clause-ok g c =
    let none : c.in_ok-n.n ≡ 0 = omega (arith, c.if-n-gt0.false) in
    let stays = c.in_ok-n.ensures.ok.stays none in
    let gives = rw c.in_default.is at c.in_ok-pair.ensures.gives in
    none_added {s = g.S.Store} {l = g.L.Width} _ (g.B.Store.image c.next.new.self.reader.now.store) (λ b. left_of g.L.Width.WORD b c.args.records.now) (λ b. left_of g.L.Width.WORD b c.next.new.self) _ (λ b i. ap (walk_ahead g.L.Width.WORD b) (sym stays) ∙ gives.none b i) (λ b i. ap (walk_ahead g.L.Width.WORD b) gives.ended)

pub returns-in_err-add_long_record-clause-fails : goal.returns-in_err-add_long_record-clause-fails
returns-in_err-add_long_record-clause-fails g c =
    let p = err_from_is_err_and c.from_residual-in_err-add_long_record.result c.from_residual-in_err-add_long_record.ensures.1 in
    let none : c.in_ok-n.n ≡ 0 = omega (arith, c.if-n-gt0.false) in
    let stays = c.in_ok-n.ensures.ok.stays none in
    let one = rw c.in-Some.is at c.in_ok-pair.ensures.gives in
    let add = c.add_long_record.ensures in
    rw (p.1, p.2) (next_stopped {s = g.S.Store} {l = g.L.Width} (g.B.Store.image c.add_long_record.new.records.reader.now.store) (λ b. left_of g.L.Width.WORD b c.args.records.now) (λ b. left_of g.L.Width.WORD b c.add_long_record.new.records) c.args.maker.now c.add_long_record.new.maker c.in-Some.pair c.in_err-add_long_record.field-0.0
    (λ b i. ap (walk_ahead g.L.Width.WORD b) (sym stays) ∙ one.first b (add.reads.images b i) ∙ ap (λ v. with_first (record_in b c.in-Some.pair) (walk_ahead g.L.Width.WORD b v)) (sym add.stays)) c.in_err-add_long_record.ensures.fails)

pub returns-clause-ok : goal.returns-clause-ok
returns-clause-ok g c =
    let none : c.in_ok-n.n ≡ 0 = omega (arith, c.if-n-gt0.false) in
    let stays = c.in_ok-n.ensures.ok.stays none in
    let one = rw c.in-Some.is at c.in_ok-pair.ensures.gives in
    let add = c.add_long_record.ensures in
    one_added {s = g.S.Store} {l = g.L.Width} _ (g.B.Store.image c.add_long_record.new.records.reader.now.store) (λ b. left_of g.L.Width.WORD b c.args.records.now) (λ b. left_of g.L.Width.WORD b c.add_long_record.new.records) _ c.add_long_record.new.maker c.in-Some.pair
    (λ b i. ap (walk_ahead g.L.Width.WORD b) (sym stays) ∙ one.first b (add.reads.images b i) ∙ ap (λ v. with_first (record_in b c.in-Some.pair) (walk_ahead g.L.Width.WORD b v)) (sym add.stays)) c.in_ok-add_long_record.ensures.ok

pub returns-in_err-add_long_record-clause-reads : goal.returns-in_err-add_long_record-clause-reads
returns-in_err-add_long_record-clause-reads g c = reads_more c.records_into.ensures.reads (reads_more c.next.ensures.reads c.add_long_record.ensures.reads)

pub returns-clause-reads : goal.returns-clause-reads
returns-clause-reads g c = reads_more c.records_into.ensures.reads (reads_more c.next.ensures.reads c.add_long_record.ensures.reads)
