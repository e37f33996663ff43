use Rattle.cdb_make.proofs.Words.{List, Mark, all_marks, ap, get_or, ◌∙◌, ◌≡◌, arith, take}
use Rattle.cdb_make.specs.declared.mark.Mark.TheVariants.{Gone}
use Rattle.cdb_make.proofs.Marking.{all_stay}
use Rattle.cdb_make.proofs.roll.compact_marks.Goals as goal

pub returns-clause-stay : goal.returns-clause-stay
returns-clause-stay c = λ count k low lt.
    let cut : c.truncate.new.self.items ≡ take c.args.first c.args.marks.now.items = c.truncate.ensures.items in
    ap (λ (v : List Mark). get_or (all_marks count v) k Gone) cut ∙ all_stay count c.args.first c.args.marks.now.items c.requires k low lt

pub returns-clause-few : goal.returns-clause-few
returns-clause-few c = omega (arith, c.truncate.ensures.len, c.truncate.new.self.ok.0)
