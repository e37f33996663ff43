use Rattle.cdb_make.proofs.Words.{AreNone, KeyValue, Meets, arith, reads_nothing, refl, subst, sym, ℕ, ◌<◌, ◌∙◌, ◌≡◌}
use Rattle.cdb_form.specs.declared.mode.Mode.TheVariants.{Warn, Insert, Replace}
use Rattle.cdb_make.specs.declared.answer.Put.TheVariants.{Added, AddedAgain, Present, Replaced}
use Rattle.cdb_make.proofs.Meeting.{meets_add, meets_by, meets_found, plain_again, plain_warn, plain_present, plain_insert, answers_none, answers_some}
use Rattle.cdb_make.proofs.Finishing.{fails_so}
use Rattle.cdb_make.proofs.maker.Maker.meet.Goals as goal

pub returns-else-self-clause-meets : goal.returns-else-self-clause-meets
returns-else-self-clause-meets g c = λ value.
    let r : KeyValue = record { key = c.args.key.now; value = value } in
    let b = c.put_back.ensures in
    meets_add c.args.self.now _ c.args.sought c.args.mode r c.in-Add.is (record { was = c.if-self.false; whole = c.if-self.false; same = b.same; gone = b.gone; picked = b.picked; limit = refl; lazy = refl; reads = reads_nothing _ _ refl }) b.found

pub returns-then-branch-clause-meets : goal.returns-then-branch-clause-meets
returns-then-branch-clause-meets g c = λ value.
    let r : KeyValue = record { key = c.args.key.now; value = value } in
    let k = c.in_ok-look-in-Warn.ensures.looks in
    subst (λ v. Meets c.args.self.now c.look.new.self c.args.sought v r AddedAgain) (sym c.in-Warn.is)
    (meets_by c.args.self.now c.look.new.self c.args.sought Warn r AddedAgain (λ e. (let t : Warn ≡ Replace = e in cc)) k.rests k.none (λ rs h i is. plain_again g.L.Width.WORD r rs (sym c.if-branch.true ∙ (k.is rs h).each i is)))

pub returns-else-branch-clause-meets : goal.returns-else-branch-clause-meets
returns-else-branch-clause-meets g c = λ value.
    let r : KeyValue = record { key = c.args.key.now; value = value } in
    let k = c.in_ok-look-in-Warn.ensures.looks in
    subst (λ v. Meets c.args.self.now c.look.new.self c.args.sought v r Added) (sym c.in-Warn.is)
    (meets_by c.args.self.now c.look.new.self c.args.sought Warn r Added (λ e. (let t : Warn ≡ Replace = e in cc)) k.rests k.none (λ rs h i is. plain_warn g.L.Width.WORD r rs (sym c.if-branch.false ∙ (k.is rs h).each i is)))

pub returns-then-branch-2-clause-meets : goal.returns-then-branch-2-clause-meets
returns-then-branch-2-clause-meets g c = λ value.
    let r : KeyValue = record { key = c.args.key.now; value = value } in
    let k = c.in_ok-look-in-Insert.ensures.looks in
    subst (λ v. Meets c.args.self.now c.look-in-Insert.new.self c.args.sought v r Present) (sym c.in-Insert.is)
    (meets_by c.args.self.now c.look-in-Insert.new.self c.args.sought Insert r Present (λ e. (let t : Insert ≡ Replace = e in cc)) k.rests k.none (λ rs h i is. plain_present g.L.Width.WORD r rs (sym c.if-branch-2.true ∙ (k.is rs h).each i is)))

pub returns-else-branch-2-clause-meets : goal.returns-else-branch-2-clause-meets
returns-else-branch-2-clause-meets g c = λ value.
    let r : KeyValue = record { key = c.args.key.now; value = value } in
    let k = c.in_ok-look-in-Insert.ensures.looks in
    subst (λ v. Meets c.args.self.now c.look-in-Insert.new.self c.args.sought v r Added) (sym c.in-Insert.is)
    (meets_by c.args.self.now c.look-in-Insert.new.self c.args.sought Insert r Added (λ e. (let t : Insert ≡ Replace = e in cc)) k.rests k.none (λ rs h i is. plain_insert g.L.Width.WORD r rs (sym c.if-branch-2.false ∙ (k.is rs h).each i is)))

pub returns-then-taken-eq0-clause-meets : goal.returns-then-taken-eq0-clause-meets
returns-then-taken-eq0-clause-meets g c = λ value.
    let r : KeyValue = record { key = c.args.key.now; value = value } in
    subst (λ v. Meets c.args.self.now c.seek.new.self c.args.sought v r Added) (sym c.in-Replace.is)
    (meets_found c.args.self.now c.seek.new.self c.args.sought c.in_ok-taken-in-Replace.taken r Added c.in_ok-taken-in-Replace.ensures.seeks refl (λ rs e. answers_none r rs (sym c.if-taken-eq0.true ∙ e)))

pub returns-else-taken-eq0-clause-meets : goal.returns-else-taken-eq0-clause-meets
returns-else-taken-eq0-clause-meets g c = λ value.
    let r : KeyValue = record { key = c.args.key.now; value = value } in
    let n : ℕ = c.in_ok-taken-in-Replace.taken in
    let some : 0 < n = omega (arith, c.if-taken-eq0.false) in
    subst (λ v. Meets c.args.self.now c.seek.new.self c.args.sought v r (Replaced n)) (sym c.in-Replace.is)
    (meets_found c.args.self.now c.seek.new.self c.args.sought n r (Replaced n) c.in_ok-taken-in-Replace.ensures.seeks refl (λ rs e. answers_some r rs n some e))

pub returns-else-self-clause-tagged : goal.returns-else-self-clause-tagged
returns-else-self-clause-tagged g c = λ tagged. c.requires.tagged (sym c.put_back.ensures.tagged ∙ tagged)

pub invariant_of-self-clause-told : goal.invariant_of-self-clause-told
invariant_of-self-clause-told g c = c.args.self.now.told

pub invariant_of-self-clause-eager : goal.invariant_of-self-clause-eager
invariant_of-self-clause-eager g c = λ eager whole. subst AreNone (sym c.put_back.ensures.gone) (c.args.self.now.eager eager whole)

pub returns-in_err-look-in-Warn-clause-steps : goal.returns-in_err-look-in-Warn-clause-steps
returns-in_err-look-in-Warn-clause-steps g c = fails_so c.args.self.now _ c.from_residual.result _ c.from_residual.ensures.1 c.look.ensures.counts c.look.ensures.follows

pub returns-in_err-look-in-Insert-clause-steps : goal.returns-in_err-look-in-Insert-clause-steps
returns-in_err-look-in-Insert-clause-steps g c = fails_so c.args.self.now _ c.from_residual-in_err-look-in-Insert.result _ c.from_residual-in_err-look-in-Insert.ensures.1 c.look-in-Insert.ensures.counts c.look-in-Insert.ensures.follows

pub returns-in_err-taken-in-Replace-clause-steps : goal.returns-in_err-taken-in-Replace-clause-steps
returns-in_err-taken-in-Replace-clause-steps g c = fails_so c.args.self.now _ c.from_residual-in_err-taken-in-Replace.result _ c.from_residual-in_err-taken-in-Replace.ensures.1 c.seek.ensures.counts c.seek.ensures.follows
