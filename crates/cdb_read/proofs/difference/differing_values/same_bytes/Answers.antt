use Rattle.cdb_read.proofs.DifferenceWords.{length_of, part}
use Rattle.std.proofs.Common.{rules, arith, ◌≡◌, ◌∙◌, ◌+◌, ◌≤◌, ℕ, length, sym, ap, subst, refl, true, false, length-append, length-drop}
use Rattle.cdb_read.proofs.ComparedValues.{piece_differs, same_more}
use Rattle.cdb_read.proofs.Looked.{stays_more}
use Rattle.cdb_read.proofs.difference.differing_values.same_bytes.Goals as goal

pub returns-then-value-with-clause-same : goal.returns-then-value-with-clause-same
returns-then-value-with-clause-same g c = λ b d is it. (
  λ e. cc,
  λ same. absurd (c.if-value-with.true
      (let x = length_of b c.args.value (subst (λ (n : ℕ). c.args.value.place + c.args.value.len ≤ n) (sym (g.met.S.Store.image_size c.args.own.now.reader.now.store b is)) c.requires.inside) in
      let y = length_of d c.args.with (subst (λ (n : ℕ). c.args.with.place + c.args.with.len ≤ n) (sym (g.met.T.Store.image_size c.args.other.now.reader.now.store d it)) c.requires.within) in
      sym x ∙ ap length same ∙ y)),
)

pub returns-then-not-is_same-clause-same : goal.returns-then-not-is_same-clause-same
returns-then-not-is_same-clause-same g c = λ b d is it.
    let at : ℕ = c.args.value.place + c.loop-done.done in
    let beside : ℕ = c.args.with.place + c.loop-done.done in
    let l : length c.read_at.new.into ≡ c.min-n.result = search rules in
    let k : length c.read_at-in-loop-done.new.into ≡ c.min-n.result = search rules in
    let mine : c.read_at.new.into ≡ part at c.min-n.result b = c.in_ok-read_at.ensures.read b is ∙ ap (λ (n : ℕ). part at n b) l in
    let theirs : c.read_at-in-loop-done.new.into ≡ part beside c.min-n.result d = c.in-Ok.ensures.read d it ∙ ap (λ (n : ℕ). part beside n d) k in
    let same_len : c.args.value.len ≡ c.args.with.len = omega (arith, c.if-value-with.false) in (
      λ e. cc,
      λ same. absurd (piece_differs c.args.value.place c.args.with.place c.args.value.len c.loop-done.done c.min-n.result b d (omega arith)
          (λ equal. let t : false ≡ true = c.if-not-is_same.ensures.1 (mine ∙ equal ∙ sym theirs) in cc) (same ∙ ap (λ (n : ℕ). part c.args.with.place n d) (sym same_len))),
    )

pub loop-done-preserved : goal.loop-done-preserved
loop-done-preserved g c =
    let l : length c.read_at.new.into ≡ c.min-n.result = search rules in
    let k : length c.read_at-in-loop-done.new.into ≡ c.min-n.result = search rules in
    let e = c.read_at.ensures in
    let f = c.read_at-in-loop-done.ensures in
    let inv = c.loop-done.invariant in
    record {
      within = omega arith;
      mine = simp (length-append, length-drop) (omega (arith, l, inv.mine));
      theirs = simp (length-append, length-drop) (omega (arith, k, inv.theirs, inv.mine, c.requires.pieces));
      own = stays_more inv.own (record { looks = record { reader = e.same_reader; key = e.key; reads = e.reads }; searching = e.stays });
      other = stays_more inv.other (record { looks = record { reader = f.same_reader; key = f.key; reads = f.reads }; searching = f.stays });
      same = λ b d is it.
          let at : ℕ = c.args.value.place + c.loop-done.done in
          let beside : ℕ = c.args.with.place + c.loop-done.done in
          let mine : c.read_at.new.into ≡ part at c.min-n.result b = c.in_ok-read_at.ensures.read b is ∙ ap (λ (n : ℕ). part at n b) l in
          let theirs : c.read_at-in-loop-done.new.into ≡ part beside c.min-n.result d = c.in-Ok.ensures.read d it ∙ ap (λ (n : ℕ). part beside n d) k in
          same_more c.args.value.place c.args.with.place c.loop-done.done c.min-n.result b d (inv.same b d (e.reads.images b is) (f.reads.images d it))
          (sym mine ∙ c.if-not-is_same.ensures.0 refl ∙ theirs);
    }
