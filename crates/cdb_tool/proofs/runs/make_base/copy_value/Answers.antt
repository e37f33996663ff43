use Rattle.cdb_tool.proofs.Words.{ap, arith, err_from_is_err_and, follows_then, length, length-append, reads_more, take, ◌++◌, ◌+◌, ◌∙◌, ◌≡◌}
use Rattle.std.specs.Prelude.{drop, ◌-◌}
use Rattle.cdb_read.specs.declared.span.Span.{Span}
use Rattle.cdb_tool.proofs.BaseRecords.{long_stopped, span_piece, unread_anywhere, unread_base}
use Rattle.cdb_tool.proofs.LongValues.{long_step}
use Rattle.cdb_tool.proofs.runs.make_base.copy_value.Goals as goal

pub overflow_sub-place : goal.overflow_sub-place
overflow_sub-place g c =
    let h = c.requires.begun in
    let p = c.loop-long.invariant.part h.0 h.1 h.2 in
    omega (arith, p.1.end, p.1.last, c.left-in-loop-long-2.ensures)

pub value_into-requires : goal.value_into-requires
value_into-requires g c =
    let h = c.requires.begun in
    let p = c.loop-long.invariant.part h.0 h.1 h.2 in
    record { inside = omega (arith, p.1.end, p.1.last, c.left-in-loop-long-2.ensures, c.left-in-loop-long.ensures, c.min-len.ensures, c.requires.inside, c.loop-long.invariant.reads.size) }

pub returns-in_err-value_into-clause-reads : goal.returns-in_err-value_into-clause-reads
returns-in_err-value_into-clause-reads g c = reads_more c.loop-long.invariant.reads c.value_into.ensures.reads

pub returns-in_err-value_into-clause-fails : goal.returns-in_err-value_into-clause-fails
returns-in_err-value_into-clause-fails g c =
    let e = err_from_is_err_and c.from_residual.result c.from_residual.ensures.1 in
    rw (e.1, e.2) (λ limit walk. unread_anywhere g.B.Store _ _ c.in_err-value_into.field-0.0 c.in_err-value_into.ensures.fails g.L.Width.WORD limit walk)

pub returns-in_err-value_into-clause-step : goal.returns-in_err-value_into-clause-step
returns-in_err-value_into-clause-step g c = λ first key part.
    let e = err_from_is_err_and c.from_residual.result c.from_residual.ensures.1 in
    let inv = c.loop-long.invariant in
    let p = (inv.part first key part).1 in
    rw (e.1, e.2) (unread_base {s = g.S.Store} {l = g.L.Width} g.B.Store _ _ first c.loop-long.maker c.in_err-value_into.field-0.0 c.in_err-value_into.ensures.fails p.follows p.fine (λ more. omega (arith, more, inv.reads.failures)))

pub write_long-requires-clause-room : goal.write_long-requires-clause-room
write_long-requires-clause-room g c =
    omega (arith, c.left-in-loop-long.ensures, c.min-len.ensures, ap length c.deref.ensures.value, c.in_ok-value_into.ensures.long)

pub write_long-requires-clause-begun : goal.write_long-requires-clause-begun
write_long-requires-clause-begun g c =
    let h = c.requires.begun in
    let p = c.loop-long.invariant.part h.0 h.1 h.2 in
    (h.0, h.1, c.args.value.len, p.0, p.1)

pub loop-long-smaller : goal.loop-long-smaller
loop-long-smaller g c =
    let h = c.requires.begun in
    let p = c.loop-long.invariant.part h.0 h.1 h.2 in
    let q = c.in_ok-write_long.ensures.ok h.0 h.1 c.args.value.len p.0 p.1 in
    omega (arith, p.1.end, p.1.last, q.end, q.last, length-append p.0 c.deref.result.now, c.left-in-loop-long.ensures, c.min-len.ensures, c.left.ensures, c.loop-long-test.true, ap length c.deref.ensures.value, c.in_ok-value_into.ensures.long)

pub loop-long-preserved : goal.loop-long-preserved
loop-long-preserved g c =
    let inv = c.loop-long.invariant in
    let e = c.value_into.ensures in
    record {
      same = e.same_reader ∙ inv.same;
      stays = e.stays ∙ inv.stays;
      reads = reads_more inv.reads e.reads;
      part = λ first key part.
          let p = inv.part first key part in
          let next : Span = record { place = c.args.value.place + c.args.value.len - c.left-in-loop-long-2.result; len = c.min-len.result } in
          let left : c.left-in-loop-long-2.result + length p.0 ≡ c.args.value.len = omega (arith, p.1.end, p.1.last, c.left-in-loop-long-2.ensures) in (
            p.0 ++ c.deref.result.now,
            c.in_ok-write_long.ensures.ok first key c.args.value.len p.0 p.1,
            λ b i. span_piece b p.0 c.deref.result.now c.args.value next (p.2 b (e.reads.images b i)) (c.deref.ensures.value ∙ c.in_ok-value_into.ensures.is b i) (omega (arith, left)) (ap length c.deref.ensures.value ∙ c.in_ok-value_into.ensures.long),
          );
    }

pub returns-in_err-write_long-clause-reads : goal.returns-in_err-write_long-clause-reads
returns-in_err-write_long-clause-reads g c = reads_more c.loop-long.invariant.reads c.value_into.ensures.reads

pub returns-in_err-write_long-clause-fails : goal.returns-in_err-write_long-clause-fails
returns-in_err-write_long-clause-fails g c =
    let e = err_from_is_err_and c.from_residual-in_err-write_long.result c.from_residual-in_err-write_long.ensures.1 in
    let h = c.requires.begun in
    let p = c.loop-long.invariant.part h.0 h.1 h.2 in
    rw (e.1, e.2) (λ limit walk. long_stopped {s = g.S.Store} {l = g.L.Width} h.0 c.write_long.new.self c.in_err-write_long.field-0.0 (c.in_err-write_long.ensures.fails h.0 h.1 c.args.value.len p.0 p.1) g.L.Width.WORD limit walk)

pub returns-in_err-write_long-clause-step : goal.returns-in_err-write_long-clause-step
returns-in_err-write_long-clause-step g c = λ first key part.
    let e = err_from_is_err_and c.from_residual-in_err-write_long.result c.from_residual-in_err-write_long.ensures.1 in
    let p = c.loop-long.invariant.part first key part in
    rw (e.1, e.2) (long_step {s = g.S.Store} {l = g.L.Width} first c.write_long.new.self c.in_err-write_long.field-0.0 (c.in_err-write_long.ensures.fails first key c.args.value.len p.0 p.1) (follows_then _ _ _ p.1.follows c.write_long.ensures.follows))

pub end_long-requires-clause-begun : goal.end_long-requires-clause-begun
end_long-requires-clause-begun g c =
    let h = c.requires.begun in
    let p = c.loop-long.invariant.part h.0 h.1 h.2 in
    (h.0, h.1, c.args.value.len, p.0, p.1)

pub returns-clause-puts : goal.returns-clause-puts
returns-clause-puts g c = λ first key part.
    let p = c.loop-long.invariant.part first key part in
    let whole : length p.0 ≡ c.args.value.len = omega (arith, p.1.end, p.1.last, c.left.ensures, c.loop-long-test.false, c.loop-long.long.ends) in
    record {
      value = p.0;
      is = λ b i. p.2 b i ∙ ap (λ n. take n (drop c.args.value.place b)) whole;
      puts = c.end_long.ensures.puts first key c.args.value.len p.0 p.1;
    }

pub returns-clause-step : goal.returns-clause-step
returns-clause-step g c = λ first key part.
    let p = (c.loop-long.invariant.part first key part).1 in
    record { follows = follows_then _ _ _ p.follows c.end_long.ensures.follows; failed = tt; memory = tt; fine = c.end_long.ensures.fine ∙ p.fine; base = tt; output = tt }
