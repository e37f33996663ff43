use Rattle.cdb_make.proofs.Words.{marks_in, Err, ap, arith, false, false_from_ne_true, gone_in, inr, is_gone, length, length-map, refl, sym, true, ◌+◌, ◌∙◌, ◌≡◌, cases_lt, inl, ℕ}
use Rattle.cdb_make.proofs.Looking.{same_self, sees_long}
use Rattle.cdb_make.proofs.Picking.{left_all_stay, both_few, both_within}
use Rattle.cdb_make.proofs.Rolls.{follows_then, follows_room, compacting_fails, fewer_slots, stays_behind, store_fails}
use Rattle.cdb_store.proofs.Moves.{torn_same}
use Rattle.cdb_make.proofs.Finishing.{fails_so, lost_counts}
use Rattle.cdb_make.proofs.Marking.{marks_long}
use Rattle.cdb_make.proofs.maker.Maker.compact_and_add.Goals as goal

-- the record is within the limit by itself
pub overflow_add-size-2 : goal.overflow_add-size-2
overflow_add-size-2 g c =
    let m = c.args.self.now in
    omega (arith, c.requires.fits, both_within m.roll, fewer_slots g.L.Width.WORD (m.roll.gone.count + m.roll.found.count) (length m.roll.hashes.items) g.met.L.Width.four_or_eight (both_few m.roll), m.limited, g.met.L.Width.greatest_fits, c.pair_size.ensures)

pub overflow_add-kept_end : goal.overflow_add-kept_end
overflow_add-kept_end g c =
    let m = c.args.self.now in
    omega (arith, c.requires.fits, both_within m.roll, fewer_slots g.L.Width.WORD (m.roll.gone.count + m.roll.found.count) (length m.roll.hashes.items) g.met.L.Width.four_or_eight (both_few m.roll), m.limited, g.met.L.Width.greatest_fits, c.pair_size.ensures, c.kept_end.ensures)

pub reserve-requires : goal.reserve-requires
reserve-requires g c =
    let m = c.args.self.now in
    omega (arith, c.requires.fits, both_within m.roll, fewer_slots g.L.Width.WORD (m.roll.gone.count + m.roll.found.count) (length m.roll.hashes.items) g.met.L.Width.four_or_eight (both_few m.roll), m.limited, g.met.L.Width.greatest_fits, c.pair_size.ensures, c.kept_end.ensures)

pub returns-in_err-reserve-clause-steps : goal.returns-in_err-reserve-clause-steps
returns-in_err-reserve-clause-steps g c =
    let r = c.reserve.ensures in
    fails_so c.args.self.now _ c.from_residual.result _ c.from_residual.ensures.1 (record { count = refl; size = refl; limit = refl }) (follows_room c.args.self.now _ refl refl r.images r.room r.failures r.unwritten)

pub returns-in_err-reserve-clause-fails : goal.returns-in_err-reserve-clause-fails
returns-in_err-reserve-clause-fails g c =
    let h = c.in_err-reserve.ensures in
    let m = c.args.self.now in
    store_fails _ c.from_residual.result c.in_err-reserve.field-0.0 c.from_residual.ensures.1
    (λ is. (
      record { stays = stays_behind m _ (same_self m.roll) refl refl refl refl (omega arith) (torn_same m.roll.end 0 h.images); written = h.written; fine = h.err_failures },
      omega (arith, h.past_room, c.kept_end.ensures, c.pair_size.ensures),
    ))
    (λ is. absurd (h.device (ap Err is)))

pub returns-in-Ok-clause-steps : goal.returns-in-Ok-clause-steps
returns-in-Ok-clause-steps g c =
    let r = c.reserve.ensures in
    record {
      fine = c.in-Ok.ensures.fine ∙ c.in_ok-reserve.ensures.ok_failures;
      counts = tt;
      follows = follows_then c.args.self.now _ c.exchange.new.self (follows_room c.args.self.now _ refl refl r.images r.room r.failures r.unwritten) c.exchange.ensures.follows;
    }

pub returns-in-Err-clause-steps : goal.returns-in-Err-clause-steps
returns-in-Err-clause-steps g c =
    let r = c.reserve.ensures in
    let f = follows_then c.args.self.now _ c.exchange.new.self (follows_room c.args.self.now _ refl refl r.images r.room r.failures r.unwritten) c.exchange.ensures.follows in
    let h = c.is_lost-self.ensures in
    let k = c.exchange.new.self in
    let found : ℕ = c.args.self.now.roll.found.count in
    let told = lost_counts _ k c.is_lost-self.result c.requires.whole (λ e. false_from_ne_true k.broken (λ torn. let t : true ≡ false = sym (h.torn torn) ∙ e in cc)) (λ e. elim (cases_lt 0 found) [ inl some ↦ absurd (let t : true ≡ false = sym (h.found some) ∙ e in cc) | inr none ↦ omega arith ]) c.in-Err.ensures.counts in
    record {
      fine = tt;
      counts = record { count = told.0; size = told.1; limit = f.limit };
      follows = record { comes = f.comes; head = f.head; limit = f.limit; lazy = f.lazy; room = f.room; failures = f.failures; unwritten = f.unwritten };
    }

pub returns-in-Err-clause-fails : goal.returns-in-Err-clause-fails
returns-in-Err-clause-fails g c =
    let h = c.is_lost-self.ensures in
    compacting_fails c.args.self.now _ c.exchange.new.self _ _ c.in-Err.fault refl c.reserve.ensures.images.no_other refl refl c.in_ok-reserve.ensures.ok_failures c.reserve.ensures.unwritten h.torn h.found h.none c.in-Err.ensures.fails

pub returns-in-Ok-clause-admits : goal.returns-in-Ok-clause-admits
returns-in-Ok-clause-admits g c =
    let old = c.args.self.now in
    let k = c.exchange.new.self in
    let x = c.in-Ok.ensures.exchanges in
    let m = k.roll in
    record {
      whole = x.whole;
      goes = record {
        each = λ b is.
            let h = x.goes.each b is in (
              h.0,
              c.reserve.ensures.images.no_other h.0 h.1,
              λ all sees.
                  let q = h.2 all sees in
                  let many : length (gone_in k) ≡ length q.0 = omega (arith, length-map (marks_in m) is_gone, (marks_long m), sees_long m q.0 b q.1) in (
                    q.0,
                    q.1,
                    (left_all_stay (gone_in k) q.0 many x.none ∙ q.2.0, λ eager. omega (arith, q.2.1, c.reserve.ensures.written), inr (omega (arith, q.2.1, c.reserve.ensures.written), x.none)),
                  ),
            );
      };
    }

pub invariant_of-self-in-Err-clause-told : goal.invariant_of-self-in-Err-clause-told
invariant_of-self-in-Err-clause-told g c = c.exchange.new.self.told

pub invariant_of-self-in-Err-clause-eager : goal.invariant_of-self-in-Err-clause-eager
invariant_of-self-in-Err-clause-eager g c = λ eager whole.
    let k = c.exchange.new.self in
    k.eager eager (false_from_ne_true k.broken (λ torn. let t : true ≡ false = sym (c.is_lost-self.ensures.torn torn) ∙ whole in cc))
