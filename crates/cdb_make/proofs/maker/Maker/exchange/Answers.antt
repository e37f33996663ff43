use Rattle.cdb_make.proofs.Words.{Bool, KeyValue, List, [], ap, arith, behind, found_in, gone_in, inl, inr, left, length, map, on_err_weaker, on_ok_weaker, or_each, record_size, sum, sym, ℕ, ◌*◌, ◌++◌, ◌+◌, ◌∙◌, ◌∷◌, ◌≡◌}
use Rattle.cdb_make.proofs.Finishing.{exchange_counts}
use Rattle.cdb_make.proofs.Looking.{sees_same}
use Rattle.cdb_make.proofs.Rolls.{none_more, slots_add, follows_then, exchange_fails, torn_fails}
use Rattle.cdb_make.proofs.maker.Maker.exchange.Goals as goal

pub add-requires-clause-fits : goal.add-requires-clause-fits
add-requires-clause-fits g c =
    let w : ℕ = g.L.Width.WORD in
    let m = c.args.self.now.roll in
    let p = c.in_ok-pass.ensures in
    let all : length c.pass.new.self.roll.hashes.items + (m.gone.count + m.found.count) ≡ length m.hashes.items = omega (arith, p.count, c.take.ensures.count, ap length c.take.ensures.same.hashes) in
    let slots : 4 * w * length m.hashes.items ≡ 4 * w * length c.pass.new.self.roll.hashes.items + 4 * w * (m.gone.count + m.found.count) = ap (λ (v : ℕ). 4 * w * v) (sym all) ∙ slots_add w (length c.pass.new.self.roll.hashes.items) (m.gone.count + m.found.count) g.met.L.Width.four_or_eight in
    omega (arith, slots, c.requires.fits, p.end, c.take.ensures.size, c.take.ensures.same.end, c.pass.ensures.follows.limit)

pub returns-clause-exchanges : goal.returns-clause-exchanges
returns-clause-exchanges g c =
    let old = c.args.self.now in
    let w : ℕ = g.L.Width.WORD in
    let r : KeyValue = record { key = c.args.candidate.key.now; value = c.args.candidate.value.now } in
    let ms : List Bool = or_each (gone_in old) (found_in old) in
    let compacts = c.in_ok-pass.ensures.compacts in
    on_ok_weaker c.add.result
    (λ added. record {
      whole = added.broken ∙ compacts.whole;
      none = none_more (gone_in c.pass.new.self) (gone_in c.add.new.self) added.gone compacts.none;
      goes = record {
        each = λ b is.
            let h = added.goes.each b is in
            let q = compacts.goes.each h.0 h.1 in (
              q.0,
              q.1,
              λ all sees.
                  let ns : List ℕ = map (record_size w) all in
                  let mid = q.2 all (sees_same old.roll c.take.new.self all q.0 c.take.ensures.same sees) in
                  let last = h.2 mid.0 mid.1 in
                  let moved = ap (λ (v : List Bool). sum (behind v ns)) c.take.ensures.gone in (
                    last.0,
                    last.1,
                    (last.2 ∙ ap (λ (v : List KeyValue). v ++ r ∷ []) (mid.2.0 ∙ ap (λ (v : List Bool). left v all) c.take.ensures.gone), omega (arith, added.written, mid.2.1, moved)),
                  ),
            );
      };
    })
    c.add.ensures.adds

pub returns-clause-fails : goal.returns-clause-fails
returns-clause-fails g c =
    let old = c.args.self.now in
    let p = c.in_ok-pass.ensures in
    let compacts = p.compacts in
    let t = c.take.ensures in
    exchange_fails old c.pass.new.self c.add.new.self c.add.result _
    (λ wants. elim wants [
      | inl full ↦ full (p.room (omega (arith, c.requires.some, t.count)))
      | inr past ↦ omega (arith, past, c.requires.room, p.end, t.size, t.same.end, c.pass.ensures.follows.room)
    ])
    compacts.whole compacts.none (let f = c.pass.ensures.follows in record { comes = f.comes; head = f.head; limit = f.limit; lazy = f.lazy; room = f.room; failures = f.failures; unwritten = f.unwritten })
    (record {
      each = λ b is.
          let q = compacts.goes.each b is in (
            q.0,
            q.1,
            λ all sees.
                let mid = q.2 all (sees_same old.roll c.take.new.self all q.0 t.same sees) in
                (mid.0, mid.1, mid.2.0 ∙ ap (λ (v : List Bool). left v all) t.gone),
          );
    })
    c.add.ensures.stays c.add.ensures.fails

pub returns-clause-follows : goal.returns-clause-follows
returns-clause-follows g c = follows_then c.args.self.now c.pass.new.self c.add.new.self (let f = c.pass.ensures.follows in record { comes = f.comes; head = f.head; limit = f.limit; lazy = f.lazy; room = f.room; failures = f.failures; unwritten = f.unwritten }) c.add.ensures.follows

pub returns-in_err-pass-clause-fails : goal.returns-in_err-pass-clause-fails
returns-in_err-pass-clause-fails g c =
    let p = c.in_err-pass.ensures in
    torn_fails c.args.self.now c.pass.new.self c.from_residual.result c.in_err-pass.field-0.0 p.fails p.broken p.cause (omega (arith, ap (λ q. q.count) p.kept_gone, c.take.ensures.count, c.requires.some)) c.from_residual.ensures.1

pub returns-in_err-pass-clause-follows : goal.returns-in_err-pass-clause-follows
returns-in_err-pass-clause-follows g c = (let f = c.pass.ensures.follows in record { comes = f.comes; head = f.head; limit = f.limit; lazy = f.lazy; room = f.room; failures = f.failures; unwritten = f.unwritten })

pub returns-clause-counts : goal.returns-clause-counts
returns-clause-counts g c =
    let p = c.in_ok-pass.ensures in
    let t = c.take.ensures in
    on_err_weaker c.add.result
    (λ stays. exchange_counts c.args.self.now c.pass.new.self c.add.new.self (c.pass.ensures.told ∙ c.counts-self.ensures.count) (c.pass.ensures.told_size ∙ c.counts-self.ensures.size) c.add.ensures.counted p.clear p.clear_size (omega (arith, p.end, t.size, t.same.end))
    (omega (arith, p.count, t.count, ap length t.same.hashes)) (c.add.ensures.follows.limit ∙ c.pass.ensures.follows.limit) stays)
    c.add.ensures.stays

pub add-requires-clause-candidate : goal.add-requires-clause-candidate
add-requires-clause-candidate g c =
    let was = c.requires.candidate in
    record { hash = was.hash; tag = λ tagged. was.tag (sym c.take.ensures.tagged ∙ sym c.pass.ensures.tagged ∙ tagged); whole = was.whole }
