use Rattle.cdb_tool.proofs.Words.{List, ap, arith, err_from_is_err_and, follows_same, follows_then, length, progress, refl, subst, sym, take, ℕ, ◌+◌, ◌<◌, ◌∙◌, ◌≡◌, ◌≤◌}
use Rattle.std.proofs.Common.{drop}
use Rattle.std.proofs.lemmas.Grind.{common_steps}
use Rattle.std.proofs.lemmas.List.{length-append, length-drop}
use Rattle.cdb_form.specs.Format.{prefix_record, prefix_size}
use Rattle.cdb_form.proofs.Bytes.HeadLemmas.{rest_of}
use Rattle.cdb_tool.proofs.Batches.{PutSoFar, put_all, put_bytes, put_more, put_next, put_none, put_stops}
use Rattle.cdb_tool.proofs.MakerSteps.{step_failed}
use Rattle.cdb_tool.proofs.runs.make_input.Puts.put_each.Goals as goal

pub loop-index-init : goal.loop-index-init
loop-index-init g c = record {
  each = λ rs holds. put_none {s = g.S.Store} {l = g.L.Width} c.args.self.now.options c.args.input c.args.batch.now c.records-bytes.result.now rs _ g.met.L.Width.top_is holds (c.records-bytes.ensures ∙ holds.bytes);
  follows = follows_same {s = g.S.Store} {l = g.L.Width} c.args.maker.now;
  fine = refl;
}

pub first_record-record-requires : goal.first_record-record-requires
first_record-record-requires g c =
    let bytes : List ℕ = c.records-bytes.result.now in
    let place : ℕ = c.loop-index.place in
    let holds = c.requires.holds.1 in
    let next = put_next {s = g.S.Store} {l = g.L.Width} c.args.self.now.options c.args.input c.args.batch.now bytes c.requires.holds.0 _ g.met.L.Width.top_is holds c.loop-index.index place _ (c.loop-index.invariant.each c.requires.holds.0 holds) (omega (arith, c.loop-index-test.true, c.loop-index.auto.index-end)) in
    subst (λ (v : List ℕ). prefix_size g.L.Width.WORD v ≤ length v) (sym (rest_of place (length bytes) bytes refl)) next.reads.fits

-- a record has its own bytes
pub put_first_record-requires-clause-whole : goal.put_first_record-requires-clause-whole
put_first_record-requires-clause-whole g c =
    let w : ℕ = g.L.Width.WORD in
    let bytes : List ℕ = c.records-bytes.result.now in
    let place : ℕ = c.loop-index.place in
    let rest = rest_of place (length bytes) bytes refl in
    let read = c.first_record-record.ensures in
    let now = progress (g.E.Sink.contents c.loop-index.errors) c.loop-index.maker in
    let holds = c.requires.holds.1 in
    let few : c.loop-index.index < c.args.batch.now.count = omega (arith, c.loop-index-test.true, c.loop-index.auto.index-end) in
    put_bytes {s = g.S.Store} {l = g.L.Width} c.args.self.now.options c.args.input c.args.batch.now bytes c.requires.holds.0 _ g.met.L.Width.top_is holds c.loop-index.index place now now (c.loop-index.invariant.each c.requires.holds.0 holds) few c.first_record-record.result.key.now c.first_record-record.result.value.now _ refl
    (read.key ∙ ap (λ (v : List ℕ). (prefix_record w v).key) rest) (read.value ∙ ap (λ (v : List ℕ). (prefix_record w v).value) rest) c.first_record-record.result.bytes.now (read.bytes ∙ ap (λ (v : List ℕ). take (prefix_size w v) v) rest)

pub returns-in_err-put_first_record-clause-puts : goal.returns-in_err-put_first_record-clause-puts
returns-in_err-put_first_record-clause-puts g c =
    let p = err_from_is_err_and c.from_residual.result c.from_residual.ensures.1 in
    let bytes : List ℕ = c.records-bytes.result.now in
    let place : ℕ = c.loop-index.place in
    let rest = rest_of place (length bytes) bytes refl in
    let read = c.first_record-record.ensures in
    let few : c.loop-index.index < c.args.batch.now.count = omega (arith, c.loop-index-test.true, c.loop-index.auto.index-end) in
    rw (p.1, p.2) (λ items begin amid. (
      tt,
      put_stops {s = g.S.Store} {l = g.L.Width} c.args.self.now.options c.args.input c.args.batch.now bytes amid.waiting _ g.met.L.Width.top_is amid.holds c.loop-index.index place _ (progress (g.E.Sink.contents c.put_first_record.new.errors) c.put_first_record.new.maker) (c.loop-index.invariant.each amid.waiting amid.holds) few c.first_record-record.result.key.now c.first_record-record.result.value.now _ refl
          (read.key ∙ ap (λ (v : List ℕ). (prefix_record g.L.Width.WORD v).key) rest) (read.value ∙ ap (λ (v : List ℕ). (prefix_record g.L.Width.WORD v).value) rest) items begin c.in_err-put_first_record.field-0.0 amid refl c.put_first_record.ensures.step.follows.comes c.in_err-put_first_record.ensures.does,
    ))

pub returns-in_err-put_first_record-clause-step : goal.returns-in_err-put_first_record-clause-step
returns-in_err-put_first_record-clause-step g c =
    let p = err_from_is_err_and c.from_residual.result c.from_residual.ensures.1 in
    let inv = c.loop-index.invariant in
    rw (p.1, p.2) (step_failed c.in_err-put_first_record.field-0.0 inv.follows inv.fine (λ is. is) (λ is. is) c.in_err-put_first_record.ensures.step)

pub overflow_add-place : goal.overflow_add-place
overflow_add-place g c =
    let bytes : List ℕ = c.records-bytes.result.now in
    let place : ℕ = c.loop-index.place in
    let holds = c.requires.holds.1 in
    let so = c.loop-index.invariant.each c.requires.holds.0 holds in
    let next = put_next {s = g.S.Store} {l = g.L.Width} c.args.self.now.options c.args.input c.args.batch.now bytes c.requires.holds.0 _ g.met.L.Width.top_is holds c.loop-index.index place _ so (omega (arith, c.loop-index-test.true, c.loop-index.auto.index-end)) in
    let is : length c.first_record-record.result.bytes.now ≡ prefix_size g.L.Width.WORD (drop place bytes) = c.first_record-record.ensures.size ∙ ap (prefix_size g.L.Width.WORD) (rest_of place (length bytes) bytes refl) in
    let within : place + length c.first_record-record.result.bytes.now ≤ length bytes = omega (arith, is, next.reads.fits, length-drop place bytes, so.within) in
    grind (arith, common_steps)

pub loop-index-preserved : goal.loop-index-preserved
loop-index-preserved g c =
    let inv = c.loop-index.invariant in
    let bytes : List ℕ = c.records-bytes.result.now in
    let place : ℕ = c.loop-index.place in
    let rest = rest_of place (length bytes) bytes refl in
    let read = c.first_record-record.ensures in
    let few : c.loop-index.index < c.args.batch.now.count = omega (arith, c.loop-index-test.true, c.loop-index.auto.index-end) in
    record {
      each = λ rs holds. put_more {s = g.S.Store} {l = g.L.Width} c.args.self.now.options c.args.input c.args.batch.now bytes rs _ g.met.L.Width.top_is holds c.loop-index.index place _ (progress (g.E.Sink.contents c.put_first_record.new.errors) c.put_first_record.new.maker) (inv.each rs holds) few c.first_record-record.result.key.now c.first_record-record.result.value.now _ refl
          (read.key ∙ ap (λ (v : List ℕ). (prefix_record g.L.Width.WORD v).key) rest) (read.value ∙ ap (λ (v : List ℕ). (prefix_record g.L.Width.WORD v).value) rest) (length c.first_record-record.result.bytes.now) (read.size ∙ ap (prefix_size g.L.Width.WORD) rest) c.in_ok-put_first_record.ensures.does;
      follows = follows_then _ _ _ inv.follows c.put_first_record.ensures.step.follows;
      fine = c.in_ok-put_first_record.ensures.step.fine ∙ inv.fine;
    }

pub returns-clause-puts : goal.returns-clause-puts
returns-clause-puts g c = λ items begin amid.
    let inv = c.loop-index.invariant in
    let bytes : List ℕ = c.records-bytes.result.now in
    let so = inv.each amid.waiting amid.holds in
    let all : c.loop-index.index ≡ c.args.batch.now.count = omega (arith, c.loop-index-test.false, c.loop-index.auto.index-end, so.number, amid.holds.count, ap length so.are, length-append so.done so.left) in (
      put_all {s = g.S.Store} {l = g.L.Width} c.args.self.now.options c.args.input c.args.batch.now bytes amid.waiting _ g.met.L.Width.top_is amid.holds items begin c.loop-index.place _
          (subst (λ (k : ℕ). PutSoFar {s = g.S.Store} {l = g.L.Width} c.args.self.now.options c.args.input c.args.batch.now bytes k c.loop-index.place amid.waiting (progress (g.E.Sink.contents c.args.errors.now) c.args.maker.now) (progress (g.E.Sink.contents c.loop-index.errors) c.loop-index.maker)) all so) amid refl,
      tt,
    )
