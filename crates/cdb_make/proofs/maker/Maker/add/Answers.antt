use Rattle.cdb_make.proofs.Words.{Mark, marks_in, AreNone, AreOf, Bool, Err, KeyValue, List, [], ap, arith, common_steps, cond, false, found_of, gone_of, head_size, inr, length, length-record_bytes, places_in, record_size, refl, searched, sought_by, subst, sym, ℕ, ◌*◌, ◌++◌, ◌+◌, ◌∙◌, ◌∷◌, ◌≡◌}
use Rattle.cdb_make.proofs.Bytes.Written.{on_any_err}
use Rattle.cdb_make.proofs.Looking.{sees_same}
use Rattle.cdb_make.proofs.Rolls.{number_is, none_more, sees_added, follows_write, slots_push, stays_behind, store_fails}
use Rattle.cdb_store.proofs.Moves.{same_refl, torn_same}
use Rattle.cdb_make.proofs.Finishing.{end_behind}
use Rattle.cdb_make.proofs.maker.Maker.add.Goals as goal

pub returns-in_err-reserve-clause-stays : goal.returns-in_err-reserve-clause-stays
returns-in_err-reserve-clause-stays g c =
    let k = c.reserve.ensures in
    on_any_err c.from_residual.result (stays_behind c.args.self.now _ k.same k.marks k.gone k.found refl (omega arith) (torn_same c.args.self.now.roll.end 0 (same_refl _)))

pub returns-in_err-append_record-clause-fails : goal.returns-in_err-append_record-clause-fails
returns-in_err-append_record-clause-fails g c =
    let h = c.in_err-append_record.ensures.within in
    let e = c.from_residual-in_err-append_record.ensures in
    store_fails _ c.from_residual-in_err-append_record.result c.in_err-append_record.field-0.0 e.1
    (λ is. let m = h.memory (ap Err is) in (m.written, m.failures, inr (let p = h.past_room (ap Err is) in omega (arith, p, c.reserve.ensures.same.end))))
    (λ is. (h.cause.failed (ap Err is), h.unwritten.failed (ap Err is)))

pub returns-in_err-append_record-clause-stays : goal.returns-in_err-append_record-clause-stays
returns-in_err-append_record-clause-stays g c =
    let k = c.reserve.ensures in
    on_any_err c.from_residual-in_err-append_record.result (stays_behind c.args.self.now _ k.same k.marks k.gone k.found refl (omega (arith, k.same.end)) c.append_record.ensures.within.torn)

pub returns-in_err-append_record-clause-follows : goal.returns-in_err-append_record-clause-follows
returns-in_err-append_record-clause-follows g c =
    let h = c.append_record.ensures.within in
    follows_write c.args.self.now _ refl refl (omega (arith, c.reserve.ensures.same.end, end_behind c.args.self.now.roll)) h.torn h.room h.cause.later h.unwritten.later

pub returns-clause-follows : goal.returns-clause-follows
returns-clause-follows g c =
    let h = c.append_record.ensures.within in
    follows_write c.args.self.now _ refl refl (omega (arith, c.reserve.ensures.same.end, end_behind c.args.self.now.roll)) h.torn h.room h.cause.later h.unwritten.later

pub returns-clause-adds : goal.returns-clause-adds
returns-clause-adds g c =
    let m = c.args.self.now in
    let w : ℕ = g.L.Width.WORD in
    let r : KeyValue = record { key = c.args.candidate.key.now; value = c.args.candidate.value.now } in
    let same = c.reserve.ensures.same in
    let size : c.pair_size.result + length c.args.candidate.key.now + length c.args.candidate.value.now ≡ record_size w r = omega (arith, c.pair_size.ensures) in
    let number : cond c.reserve.new.self.tagged c.args.candidate.number c.args.candidate.hash ≡ sought_by c.reserve.new.self.tagged r.key = number_is c.reserve.new.self.tagged r.key c.args.candidate.hash c.args.candidate.number c.requires.candidate.hash (λ e. c.requires.candidate.tag (sym c.reserve.ensures.tagged ∙ e)) in
    record {
      goes = record {
        each = λ b is.
            let h = c.in_ok-append_record.ensures.ok.images.no_other b is in
            let long : length h.0 ≡ g.S.Store.size m.store = g.met.S.Store.image_size m.store h.0 h.1 in (
              h.0,
              h.1,
              λ all sees. (
                all ++ r ∷ [],
                sees_added c.reserve.new.self c.push.new.self r all h.0 b c.args.candidate.is_record (omega (arith, m.inside, same.end)) (c.push.ensures.hashes ∙ ap (λ (v : ℕ). c.reserve.new.self.hashes.items ++ v ∷ []) c.requires.candidate.hash) c.push.ensures.tagged (c.push.ensures.searched ∙ ap (λ (v : ℕ). searched c.reserve.new.self ++ v ∷ []) number)
                    (λ sizes of. subst (λ (n : ℕ). AreOf (head_size w) (places_in c.push.new.self.places) c.push.new.self.end (sizes ++ n ∷ [])) size (c.push.ensures.of sizes of)) h.2
                    (sees_same m.roll c.reserve.new.self all h.0 same sees),
                refl,
              ),
            );
      };
      gone = c.push.ensures.gone ∙ ap (λ (v : List Mark). gone_of v ++ false ∷ []) c.reserve.ensures.marks;
      found = c.push.ensures.found ∙ ap (λ (v : List Mark). found_of v ++ false ∷ []) c.reserve.ensures.marks;
      hashes = c.push.ensures.hashes ∙ ap (λ (v : List ℕ). v ++ c.args.candidate.hash ∷ []) same.hashes;
      searched = c.push.ensures.searched ∙ ap (λ (v : List ℕ). v ++ cond c.reserve.new.self.tagged c.args.candidate.number c.args.candidate.hash ∷ []) same.searched ∙ ap (λ (v : ℕ). searched m.roll ++ v ∷ []) (number ∙ ap (λ (v : Bool). sought_by v r.key) c.reserve.ensures.tagged);
      gone_size = c.push.ensures.size ∙ ap (λ q. q.size) c.reserve.ensures.gone;
      found_size = c.push.ensures.found_size ∙ ap (λ q. q.size) c.reserve.ensures.found;
      end = omega (arith, c.push.ensures.end, size, same.end);
      broken = refl;
      written = c.in_ok-append_record.ensures.ok.written ∙ ap (λ (n : ℕ). g.S.Store.written m.store + n) (length-record_bytes w r);
    }

pub invariant_of-self-2-clause-inside : goal.invariant_of-self-2-clause-inside
invariant_of-self-2-clause-inside g c =
    let r : KeyValue = record { key = c.args.candidate.key.now; value = c.args.candidate.value.now } in
    omega (arith, c.push.ensures.end, c.pair_size.ensures, c.in_ok-append_record.ensures.ok.size, length-record_bytes g.L.Width.WORD r)

pub invariant_of-self-2-clause-within : goal.invariant_of-self-2-clause-within
invariant_of-self-2-clause-within g c =
    let same = c.reserve.ensures.same in
    let all = slots_push g.L.Width.WORD c.args.candidate.hash c.args.self.now.roll.hashes.items c.reserve.new.self.hashes.items c.push.new.self.hashes.items g.met.L.Width.four_or_eight same.hashes c.push.ensures.hashes in
    omega (arith, all, c.requires.fits, c.push.ensures.end, c.pair_size.ensures, same.end)

pub invariant_of-self-2-clause-eager : goal.invariant_of-self-2-clause-eager
invariant_of-self-2-clause-eager g c = λ eager whole.
    let m = c.args.self.now in
    none_more (gone_of (marks_in m.roll)) (gone_of (marks_in c.push.new.self)) (c.push.ensures.gone ∙ ap (λ v. gone_of v ++ false ∷ []) c.reserve.ensures.marks) (m.eager eager whole)

pub push-requires-clause-room : goal.push-requires-clause-room
push-requires-clause-room g c = grind (arith, common_steps)

pub invariant_of-self : goal.invariant_of-self
invariant_of-self g c =
    let m = c.args.self.now in
    let k = c.reserve.ensures in
    record {
      inside = omega (arith, k.same.end, m.inside);
      within = omega (arith, k.same.end, ap (λ (v : List ℕ). 4 * g.L.Width.WORD * length v) k.same.hashes, m.within);
      limited = m.limited;
      told = m.told;
      eager = λ eager whole. subst (λ v. AreNone (gone_of v)) (sym k.marks) (m.eager eager whole);
      spare = λ whole. omega (arith, m.spare whole, ap (λ q. q.size) k.gone, k.same.end);
    }

pub invariant_of-self-in-Break-branch-2 : goal.invariant_of-self-in-Break-branch-2
invariant_of-self-in-Break-branch-2 g c =
    let m = c.args.self.now in
    let k = c.reserve.ensures in
    record {
      inside = omega (arith, k.same.end, m.inside, c.append_record.ensures.within.longer);
      within = omega (arith, k.same.end, ap (λ (v : List ℕ). 4 * g.L.Width.WORD * length v) k.same.hashes, m.within);
      limited = m.limited;
      told = m.told;
      eager = λ eager whole. subst (λ v. AreNone (gone_of v)) (sym k.marks) (m.eager eager whole);
      spare = λ whole. omega (arith, m.spare whole, ap (λ q. q.size) k.gone, k.same.end);
    }
