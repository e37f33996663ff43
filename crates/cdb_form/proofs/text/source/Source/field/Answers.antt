use Rattle.std.proofs.Common.{◌≡◌, ◌<◌, false, true, vec_len, [], ◌∷◌, arith, subst, rules}
use Rattle.cdb_form.proofs.Words.{AreBytes, common_steps}
use Rattle.cdb_form.proofs.Bytes.ByteLemmas.{AreBytes-front}
use Rattle.cdb_form.proofs.Sources.SourceLemmas.{other_last}
use Rattle.cdb_form.proofs.text.source.Source.field.Goals.{in_default-via-in-Some+else-last-stop, in_default-via-in_default}
use Rattle.cdb_form.proofs.text.source.Source.field.Goals as goal

pub returns-in-Some-clause-are : goal.returns-in-Some-clause-are
returns-in-Some-clause-are g c = AreBytes-front c.pop.new.self.items (c.in-Some.last ∷ []) (subst AreBytes c.in-Some.ensures.items c.in_ok-bytes.ensures.are)

pub returns-in_default-clause-fails : goal.returns-in_default-clause-fails
returns-in_default-clause-fails g c = elim c.in_default.branch [
  | in_default-via-in-Some+else-last-stop w ↦
      other_last _ _ c.args.len c.args.stop _ c.bytes.new.into.items c.pop.new.self.items w.in-Some.last c.in_ok-bytes.ensures.read c.in_ok-bytes.ensures.are c.in_ok-bytes.ensures.long w.in-Some.ensures.items w.if-last-stop.false
  | in_default-via-in_default w ↦ let some : 0 < vec_len c.bytes.new.into = omega (arith, c.bytes.new.into.ok.0, c.in_ok-bytes.ensures.long) in let e : false ≡ true = w.in_default.ensures.variant.1 some in absurd (let no : ⊥ = cc in no)
]

pub returns-in_default-clause-leaves : goal.returns-in_default-clause-leaves
returns-in_default-clause-leaves g c = grind (arith, common_steps)

pub returns-in_default-clause-are : goal.returns-in_default-clause-are
returns-in_default-clause-are g c = grind (arith, common_steps)

pub returns-in-Some-clause-later : goal.returns-in-Some-clause-later
returns-in-Some-clause-later g c = search rules
