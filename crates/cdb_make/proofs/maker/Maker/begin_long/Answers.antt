use Rattle.cdb_make.proofs.Words.{AreNone, AreSized, Err, List, [], ap, arith, cond, gone_of, inl, inr, length, held_first, refl, subst, sym, ◌*◌, ◌∙◌, ◌<◌, ◌≤◌, ℕ}
use Rattle.cdb_store.specs.declared.make_fault.MakeFault.TheVariants.{NoMemory}
use Rattle.cdb_store.proofs.Moves.{same_refl, torn_same}
use Rattle.cdb_make.specs.Chains.{second_hash}
use Rattle.cdb_make.proofs.Bytes.Written.{length-begun_bytes}
use Rattle.cdb_make.proofs.Finishing.{end_behind, gone_lazy, stays_whole}
use Rattle.cdb_make.proofs.Rolls.{fails_with, follows_write, stays_behind, store_fails}
use Rattle.cdb_make.proofs.maker.Maker.begin_long.Goals.{then-self-via-then-self, then-self-via-else-self+then-self-gt0}
use Rattle.cdb_make.proofs.maker.Maker.begin_long.Goals as goal

pub returns-then-self-clause-why : goal.returns-then-self-clause-why
returns-then-self-clause-why g c = λ is.
    elim c.then-self.branch [
      | then-self-via-then-self w ↦ inl w.if-self.true
      | then-self-via-else-self+then-self-gt0 w ↦
          let some : 0 < c.args.self.now.roll.gone.count = omega (arith, w.if-self-gt0.true) in
          inr (inl (gone_lazy c.args.self.now w.if-self.false some, some))
    ]

pub returns-then-not-fits-clause-why : goal.returns-then-not-fits-clause-why
returns-then-not-fits-clause-why g c = λ is. inr (inr (omega (arith, c.fits.ensures.none c.if-not-fits.true, c.full_size.ensures.is)))

pub invariant_of-self : goal.invariant_of-self
invariant_of-self g c =
    let m = c.args.self.now in
    let k = c.reserve.ensures in
    record {
      inside = omega (arith, k.same.end, m.inside);
      within = omega (arith, k.same.end, ap (λ (v : List ℕ). 4 * g.L.Width.WORD * length v) k.same.hashes, m.within);
      limited = m.limited;
      told = m.told;
      eager = λ eager whole. subst (λ v. AreNone (gone_of v)) (sym k.marks) (m.eager eager whole);
      spare = λ whole. omega (arith, m.spare whole, ap (λ q. q.size) k.gone, k.same.end);
    }

pub returns-in_err-reserve-clause-fails : goal.returns-in_err-reserve-clause-fails
returns-in_err-reserve-clause-fails g c =
    let m = c.args.self.now in
    let k = c.reserve.ensures in
    fails_with _ c.from_residual.result NoMemory c.from_residual.ensures.1
    (stays_whole m _ c.if-self.false (stays_behind m _ k.same k.marks k.gone k.found refl (omega arith) (torn_same m.roll.end 0 (same_refl _))), refl)

pub returns-in_err-begin_record-clause-follows : goal.returns-in_err-begin_record-clause-follows
returns-in_err-begin_record-clause-follows g c =
    let m = c.args.self.now in
    let h = c.begin_record.ensures.within in
    follows_write m _ refl refl (end_behind m.roll) h.torn h.room h.cause.later h.unwritten.later

pub returns-clause-follows : goal.returns-clause-follows
returns-clause-follows g c =
    let m = c.args.self.now in
    let h = c.begin_record.ensures.within in
    follows_write m _ refl refl (end_behind m.roll) h.torn h.room h.cause.later h.unwritten.later

pub returns-in_err-begin_record-clause-fails : goal.returns-in_err-begin_record-clause-fails
returns-in_err-begin_record-clause-fails g c =
    let m = c.args.self.now in
    let k = c.reserve.ensures in
    let h = c.in_err-begin_record.ensures.within in
    let behind : m.roll.end ≤ m.roll.end = omega arith in
    let stays = stays_whole m _ c.if-self.false (stays_behind m _ k.same k.marks k.gone k.found refl behind h.torn) in
    store_fails _ c.from_residual-in_err-begin_record.result c.in_err-begin_record.field-0.0 c.from_residual-in_err-begin_record.ensures.1
    (λ is. (stays, (h.memory (ap Err is)).failures))
    (λ is. (stays, record { failed = h.cause.failed (ap Err is); unwritten = h.unwritten.failed (ap Err is) }))

pub returns-clause-begins : goal.returns-clause-begins
returns-clause-begins g c =
    let m = c.args.self.now in
    let k = c.reserve.ensures in
    let e = c.in_ok-begin_record.ensures in
    let h = c.begin_record.ensures.within in
    let sized : AreSized (g.S.Store.size m.store) (g.S.Store.image m.store) = record { each = g.met.S.Store.image_size m.store } in
    let n = length-begun_bytes g.L.Width.WORD c.args.key.now c.args.vlen [] in
    record {
      was = c.if-self.false;
      none = omega (arith, c.if-self-gt0.false);
      stays = stays_behind m _ k.same k.marks k.gone k.found refl (omega arith) h.torn;
      tagged = k.tagged;
      follows = follows_write m _ refl refl (end_behind m.roll) h.torn h.room h.cause.later h.unwritten.later;
      fine = e.fine;
      are = record { key = λ k. omega (arith, c.type_inv.key k); value = λ k. omega arith };
      stored = held_first m.inside sized e.ok.images;
      inside = omega (arith, e.ok.size, n, c.pair_size.ensures);
      written = omega (arith, e.ok.written, n);
      end = omega (arith, c.pair_size.ensures);
      last = omega (arith, c.pair_size.ensures);
      hash = c.hash-hash.ensures;
      number = λ tagged. c.number_of-number.ensures ∙ ap (λ v. cond v (second_hash c.args.key.now) c.hash-hash.result) (sym k.tagged ∙ tagged);
      room = c.in_ok-reserve.ensures.room;
      fits = omega (arith, c.fits.ensures.room c.if-not-fits.false, c.full_size.ensures.is);
    }
