use Rattle.cdb_read.proofs.DifferenceWords.{ap, arith, false, length, length_of, part, reads_more, refl, subst, sym, true, ℕ, ◌+◌, ◌∙◌, ◌≡◌, ◌≤◌}
use Rattle.cdb_read.proofs.ComparedValues.{piece_differs, same_more}
use Rattle.cdb_read.proofs.difference.same.is_same_span.Goals as goal

pub returns-then-mine-theirs-clause-same : goal.returns-then-mine-theirs-clause-same
returns-then-mine-theirs-clause-same g c = λ b d is it. (
  λ e. cc,
  λ same. absurd (c.if-mine-theirs.true
      (let x = length_of b c.args.mine (subst (λ (n : ℕ). c.args.mine.place + c.args.mine.len ≤ n) (sym (g.met.S.Store.image_size c.args.own.now.store b is)) c.requires.inside) in
      let y = length_of d c.args.theirs (subst (λ (n : ℕ). c.args.theirs.place + c.args.theirs.len ≤ n) (sym (g.met.T.Store.image_size c.args.other.now.store d it)) c.requires.within) in
      sym x ∙ ap length same ∙ y)),
)

pub returns-then-not-is_same-clause-same : goal.returns-then-not-is_same-clause-same
returns-then-not-is_same-clause-same g c = λ b d is it.
    let same_len : c.args.mine.len ≡ c.args.theirs.len = omega (arith, c.if-mine-theirs.false) in (
      λ e. cc,
      λ same. absurd (piece_differs c.args.mine.place c.args.theirs.place c.args.mine.len c.loop-done.done c.min-n.result b d (omega arith)
          (λ equal. let t : false ≡ true = c.if-not-is_same.ensures.1 (c.at_hand-piece.ensures.is b is ∙ equal ∙ sym (c.at_hand-beside.ensures.is d it)) in cc)
          (same ∙ ap (λ (n : ℕ). part c.args.theirs.place n d) (sym same_len))),
    )

pub loop-done-preserved : goal.loop-done-preserved
loop-done-preserved g c =
    let e = c.read_ahead.ensures in
    let f = c.read_ahead-in-loop-done.ensures in
    let inv = c.loop-done.invariant in
    record {
      within = omega arith;
      reads = record { own = reads_more inv.reads.own e.reads; other = reads_more inv.reads.other f.reads };
      same = λ b d is it.
          same_more c.args.mine.place c.args.theirs.place c.loop-done.done c.min-n.result b d (inv.same b d (e.reads.images b is) (f.reads.images d it))
          (sym (c.at_hand-piece.ensures.is b is) ∙ c.if-not-is_same.ensures.0 refl ∙ c.at_hand-beside.ensures.is d it);
    }
