use Rattle.cdb_tool.proofs.Words.{List, ap, arith, err_from_is_err_and, follows_then, inl, inr, length, length-append, refl, sym, take, ℕ, ◌++◌, ◌∙◌, ◌≡◌}
use Rattle.std.proofs.lemmas.List.{length-take-le}
use Rattle.cdb_make.proofs.Callers.{part_whole}
use Rattle.cdb_show.specs.Views.Fault.{text_fault}
use Rattle.cdb_tool.proofs.runs.long_values.add_long.Goals as goal

pub read_value-requires-clause-amid : goal.read_value-requires-clause-amid
read_value-requires-clause-amid g c =
    let h = c.requires.begun in
    let p = c.loop-items.invariant.part h.0 h.1 h.2 h.3 in
    (h.1.first, h.1.key, h.1.vlen, p.0, p.2, omega (arith, c.left-in-loop-items.ensures, p.1.end, p.1.last))

pub returns-in-Err-clause-fails : goal.returns-in-Err-clause-fails
returns-in-Err-clause-fails g c = λ first it input part amid.
    let p = c.loop-items.invariant.part first it part amid in
    inl (
      record {
        text = c.in-Err.fault;
        is = c.of_text.ensures ∙ ap (λ n. text_fault n c.in-Err.fault) (sym input);
        fails = c.in-Err.ensures.fails it.first it.key it.vlen p.0 p.2;
      },
      part_whole first c.loop-items.maker it.key it.vlen p.0 c.loop-items.long p.1,
      p.1.fine,
    )

pub write_long-requires-clause-begun : goal.write_long-requires-clause-begun
write_long-requires-clause-begun g c =
    let h = c.requires.begun in
    let p = c.loop-items.invariant.part h.0 h.1 h.2 h.3 in
    (h.0, h.1.key, h.1.vlen, p.0, p.1)

pub loop-items-smaller : goal.loop-items-smaller
loop-items-smaller g c =
    let h = c.requires.begun in
    let p = c.loop-items.invariant.part h.0 h.1 h.2 h.3 in
    let q = c.in_ok-write_long.ensures.ok h.0 h.1.key h.1.vlen p.0 p.1 in
    let piece : List ℕ = take c.in-Ok.n c.read_value.new.into in
    let long : length piece ≡ c.in-Ok.n = length-take-le c.in-Ok.n c.read_value.new.into c.in-Ok.ensures.bound.2 in
    omega (arith, p.1.end, p.1.last, q.end, q.last, length-append p.0 piece, long, c.in-Ok.ensures.bound.0, c.in-Ok.ensures.bound.1, c.left-in-loop-items.ensures)

pub loop-items-preserved : goal.loop-items-preserved
loop-items-preserved g c = record {
  part = λ first it part amid.
      let p = c.loop-items.invariant.part first it part amid in (
        p.0 ++ take c.in-Ok.n c.read_value.new.into,
        c.in_ok-write_long.ensures.ok first it.key it.vlen p.0 p.1,
        c.in-Ok.ensures.reads it.first it.key it.vlen p.0 p.2 (omega (arith, c.left-in-loop-items.ensures, p.1.end, p.1.last)),
      );
  follows = follows_then _ _ _ c.loop-items.invariant.follows c.write_long.ensures.follows;
  fine = c.in_ok-write_long.ensures.fine ∙ c.loop-items.invariant.fine;
  counts = record {
    count = c.write_long.ensures.counts.count ∙ c.loop-items.invariant.counts.count;
    size = c.write_long.ensures.counts.size ∙ c.loop-items.invariant.counts.size;
    limit = c.write_long.ensures.counts.limit ∙ c.loop-items.invariant.counts.limit;
  };
}

pub returns-in_err-write_long-clause-fails : goal.returns-in_err-write_long-clause-fails
returns-in_err-write_long-clause-fails g c =
    let e = err_from_is_err_and c.from_residual.result c.from_residual.ensures.1 in
    rw (e.1, e.2) (λ first it input part amid.
    let p = c.loop-items.invariant.part first it part amid in
    inr (c.in_err-write_long.field-0.0, refl, c.in_err-write_long.ensures.fails first it.key it.vlen p.0 p.1, (p.0 ++ take c.in-Ok.n c.read_value.new.into, c.in-Ok.ensures.reads it.first it.key it.vlen p.0 p.2 (omega (arith, c.left-in-loop-items.ensures, p.1.end, p.1.last)))))

pub returns-in_err-write_long-clause-follows : goal.returns-in_err-write_long-clause-follows
returns-in_err-write_long-clause-follows g c = follows_then _ _ _ c.loop-items.invariant.follows c.write_long.ensures.follows

pub end_value-requires : goal.end_value-requires
end_value-requires g c =
    let h = c.requires.begun in
    let p = c.loop-items.invariant.part h.0 h.1 h.2 h.3 in
    record { whole = (h.1.first, h.1.key, h.1.vlen, p.0, p.2, omega (arith, c.left.ensures, c.loop-items-test.false, p.1.end, p.1.last, c.loop-items.long.ends)) }

pub returns-in-Err-end_value-clause-fails : goal.returns-in-Err-end_value-clause-fails
returns-in-Err-end_value-clause-fails g c = λ first it input part amid.
    let p = c.loop-items.invariant.part first it part amid in
    inl (
      record {
        text = c.in-Err-end_value.fault;
        is = c.of_text-in-Err-end_value.ensures ∙ ap (λ n. text_fault n c.in-Err-end_value.fault) (sym input);
        fails = c.in-Err-end_value.ensures.fails it.first it.key it.vlen p.0 p.2 (omega (arith, c.left.ensures, c.loop-items-test.false, p.1.end, p.1.last, c.loop-items.long.ends));
      },
      part_whole first c.loop-items.maker it.key it.vlen p.0 c.loop-items.long p.1,
      p.1.fine,
    )

pub end_long-requires-clause-begun : goal.end_long-requires-clause-begun
end_long-requires-clause-begun g c =
    let h = c.requires.begun in
    let p = c.loop-items.invariant.part h.0 h.1 h.2 h.3 in
    (h.0, h.1.key, h.1.vlen, p.0, p.1)

pub returns-clause-puts : goal.returns-clause-puts
returns-clause-puts g c = λ first it part amid.
    let p = c.loop-items.invariant.part first it part amid in
    let whole : length p.0 ≡ it.vlen = omega (arith, c.left.ensures, c.loop-items-test.false, p.1.end, p.1.last, c.loop-items.long.ends) in
    (p.0, c.in_default.ensures.gives it.first it.key it.vlen p.0 p.2 whole, c.end_long.ensures.puts first it.key it.vlen p.0 p.1)

pub returns-clause-follows : goal.returns-clause-follows
returns-clause-follows g c = follows_then _ _ _ c.loop-items.invariant.follows c.end_long.ensures.follows
