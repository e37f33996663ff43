use Rattle.std.proofs.lemmas.Grind.{common_steps}
use Rattle.std.proofs.Common.{arith}
use Rattle.cdb_make.proofs.Words.{marks_in, AreOf, AreSpans, Bool, List, Mark, Turns, ap, arith, behind, common_steps, gone_of, head_size, left, length, map, places_in, record_size, refl, subst, sum, sym, ℕ, ◌+◌, ◌∙◌, ◌≡◌}
use Rattle.cdb_make.proofs.Looking.{sees_same}
use Rattle.cdb_make.proofs.Marking.{marks_full}
use Rattle.cdb_make.proofs.Spans.{spans_of}
use Rattle.cdb_make.proofs.Rolls.{sees_compacted, fewer_slots, comes_part}
use Rattle.cdb_make.proofs.maker.Maker.pass.Goals as goal

pub compact_bytes-requires-clause-spans : goal.compact_bytes-requires-clause-spans
compact_bytes-requires-clause-spans g c =
    let m = c.mark_all.new.self in
    subst (λ (v : ℕ). AreSpans v (places_in m.places) m.end) (sym c.head_size.ensures) (spans_of (head_size g.L.Width.WORD) m.end (places_in m.places) m.spans)

pub returns-in_err-compact_bytes-clause-follows : goal.returns-in_err-compact_bytes-clause-follows
returns-in_err-compact_bytes-clause-follows g c =
    let h = c.compact_bytes.ensures in
    let head = subst (λ (v : ℕ). Rattle.cdb_store.specs.Images.KeepsPart 0 v (g.S.Store.image c.args.self.now.store) (g.S.Store.image c.compact_bytes.new.store)) c.head_size.ensures h.head in
    record { comes = comes_part h.head; head = head; limit = refl; lazy = refl; room = h.room; failures = h.cause.later; unwritten = h.unwritten }

pub returns-clause-follows : goal.returns-clause-follows
returns-clause-follows g c =
    let h = c.compact_bytes.ensures in
    let head = subst (λ (v : ℕ). Rattle.cdb_store.specs.Images.KeepsPart 0 v (g.S.Store.image c.args.self.now.store) (g.S.Store.image c.compact_bytes.new.store)) c.head_size.ensures h.head in
    record { comes = comes_part h.head; head = head; limit = refl; lazy = refl; room = h.room; failures = h.cause.later; unwritten = h.unwritten }

pub returns-clause-compacts : goal.returns-clause-compacts
returns-clause-compacts g c =
    let m = c.mark_all.new.self in
    let w : ℕ = g.L.Width.WORD in
    let old : List ℕ → Type 0 = g.S.Store.image c.args.self.now.store in
    let new : List ℕ → Type 0 = g.S.Store.image c.compact_bytes.new.store in
    let ms : List Bool = gone_of (marks_in m) in
    let k = c.in_ok-compact_bytes.ensures in
    let marks : c.deref.result.now ≡ marks_in m = c.deref.ensures.value ∙ sym (marks_full m c.mark_all.ensures.marked) in
    let turns : Turns (head_size w) (places_in m.places) m.end ms old new =
    subst (λ (v : ℕ). Turns v (places_in m.places) m.end ms old new) c.head_size.ensures
    (subst (λ (v : List Mark). Turns c.head_size.result (places_in m.places) m.end (gone_of v) old new) marks k.turns) in
    record {
      whole = refl;
      none = c.compact.ensures.gone;
      goes = record {
        each = λ b is.
            let h = turns.each b is in (
              h.0,
              h.1,
              λ all was.
                  let sees = sees_same c.args.self.now.roll m all h.0 c.mark_all.ensures.same was in
                  let ns : List ℕ = map (record_size w) all in
                  let of : AreOf c.head_size.result (places_in m.places) m.end ns = subst (λ (v : ℕ). AreOf v (places_in m.places) m.end ns) (sym c.head_size.ensures) sees.of in
                  let written = k.written ns of ∙ ap (λ (v : List Mark). g.S.Store.written c.args.self.now.store + sum (behind (gone_of v) ns)) (marks ∙ c.mark_all.ensures.all) in (
                    left ms all,
                    sees_compacted m c.compact.new.self all h.0 b c.compact.ensures.hashes c.compact.ensures.tagged c.compact.ensures.searched c.compact.ensures.of h.3 sees,
                    (ap (λ (v : List Mark). left (gone_of v) all) c.mark_all.ensures.all, omega (arith, written)),
                  ),
            );
      };
      fine = k.ok_failures;
    }

pub invariant_of-self-2-clause-within : goal.invariant_of-self-2-clause-within
invariant_of-self-2-clause-within g c =
    let m = c.args.self.now in
    omega (arith, c.compact.ensures.end, c.compact.ensures.count, m.within, c.mark_all.ensures.same.end, fewer_slots g.L.Width.WORD (length c.compact.new.self.hashes.items) (length m.roll.hashes.items) g.met.L.Width.four_or_eight (omega (arith, c.compact.ensures.count, ap length c.mark_all.ensures.same.hashes)))

pub returns-clause-room : goal.returns-clause-room
returns-clause-room g c = grind (arith, common_steps)

pub invariant_of-self-in-Break-1 : goal.invariant_of-self-in-Break-1
invariant_of-self-in-Break-1 g c = grind (arith, common_steps)

pub returns-clause-found : goal.returns-clause-found
returns-clause-found g c = grind (arith, common_steps)
