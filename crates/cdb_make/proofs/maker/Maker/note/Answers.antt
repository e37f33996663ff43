use Rattle.cdb_make.proofs.Words.{marks_in, AreOf, [], ap, arith, gone_of, head_size, places_in, refl, searched, subst, ℕ, ◌++◌, ◌∙◌, ◌∷◌}
use Rattle.cdb_make.proofs.Appends.{entered}
use Rattle.cdb_make.proofs.Rolls.{number_is, none_more, slots_push}
use Rattle.cdb_make.proofs.maker.Maker.note.Goals as goal

pub returns-clause-enters : goal.returns-clause-enters
returns-clause-enters g c = λ r is_record hashed numbered sized stored.
    let m = c.args.self.now in
    let w : ℕ = g.L.Width.WORD in
    let now = c.push.new.self in
    let number = number_is m.roll.tagged r.key c.args.hash c.args.number hashed numbered in
    entered m _ r is_record c.requires.whole
    (c.push.ensures.hashes ∙ ap (λ (v : ℕ). m.roll.hashes.items ++ v ∷ []) hashed) c.push.ensures.tagged (c.push.ensures.searched ∙ ap (λ (v : ℕ). searched m.roll ++ v ∷ []) number)
    (λ sizes of. subst (λ (n : ℕ). AreOf (head_size w) (places_in now.places) now.end (sizes ++ n ∷ [])) sized (c.push.ensures.of sizes of))
    c.push.ensures.gone (omega (arith, c.push.ensures.end, sized)) c.push.ensures.count c.push.ensures.size refl refl stored

pub invariant_of-self-clause-inside : goal.invariant_of-self-clause-inside
invariant_of-self-clause-inside g c = omega (arith, c.push.ensures.end, c.requires.inside)

pub invariant_of-self-clause-within : goal.invariant_of-self-clause-within
invariant_of-self-clause-within g c =
    let m = c.args.self.now in
    let all = slots_push g.L.Width.WORD c.args.hash m.roll.hashes.items m.roll.hashes.items c.push.new.self.hashes.items g.met.L.Width.four_or_eight refl c.push.ensures.hashes in
    omega (arith, all, c.requires.within, c.push.ensures.end)

pub invariant_of-self-clause-eager : goal.invariant_of-self-clause-eager
invariant_of-self-clause-eager g c = λ eager whole.
    let m = c.args.self.now in
    none_more (gone_of (marks_in m.roll)) (gone_of (marks_in c.push.new.self)) c.push.ensures.gone (m.eager eager whole)
