use Rattle.std.proofs.lemmas.Grind.{common_steps}
use Rattle.std.proofs.Common.{arith}
use Rattle.cdb_make.proofs.Words.{List, ap, length, refl, searched, searched_by, subst, ℕ, ◌∙◌, ◌≡◌}
use Rattle.cdb_make.specs.Views.Chains.{LinksIfRoom}
use Rattle.cdb_make.proofs.roll.Roll.link.Goals as goal

pub returns-clause-sought : goal.returns-clause-sought
returns-clause-sought g c = λ key n is. c.tag.ensures.sought refl key n is

pub returns-clause-same : goal.returns-clause-same
returns-clause-same g c =
    let s = c.tag.ensures.same in
    record { hashes = s.hashes; searched = s.searched; tagged = s.tagged; places = s.places; end = s.end }

pub returns-clause-room : goal.returns-clause-room
returns-clause-room g c = λ has.
    let h = c.tag.ensures.room has in
    record { hashes = h.hashes; tags = h.tags; places = h.places; marks = h.marks }

pub returns-clause-linked : goal.returns-clause-linked
returns-clause-linked g c =
    let m = c.tag.new.self in
    let numbers : c.searched-searched.result.now ≡ searched m = c.searched-searched.ensures ∙ ap (λ (v : List ℕ). searched_by m.tagged v c.deref-2.result.now) c.deref.ensures.value ∙ ap (searched_by m.tagged m.tags.items) c.deref-2.ensures.value in
    let many : length c.searched-searched.result.now ≡ length c.args.self.now.hashes.items = ap length numbers ∙ m.numbered ∙ ap length c.tag.ensures.same.hashes in
    subst (λ v. LinksIfRoom (length c.args.self.now.hashes.items) v c.link_all.new.self) c.tag.ensures.chains (subst (λ (n : ℕ). LinksIfRoom n m.chains c.link_all.new.self) many c.link_all.ensures.linked)

pub invariant_of-self-2 : goal.invariant_of-self-2
invariant_of-self-2 g c = grind (arith, common_steps)
