use Rattle.cdb_read.specs.Views.Finder.{left_in}
use Rattle.cdb_read.proofs.ComparedValues.{none_left, some_left}
use Rattle.cdb_read.proofs.difference.differing_values.ends.Goals as goal

pub returns-in-Some-clause-ends : goal.returns-in-Some-clause-ends
returns-in-Some-clause-ends g c = λ d it.
    let one = rw c.in-Some.is at c.in_ok-next_other.ensures.gives in
    some_left d (left_in g.L.Width.WORD d c.args.other.now) (left_in g.L.Width.WORD d c.next_other.new.other) c.in-Some.field-0 (one.first d it)

pub returns-in-None-clause-ends : goal.returns-in-None-clause-ends
returns-in-None-clause-ends g c = λ d it.
    let none = rw c.in-None.is at c.in_ok-next_other.ensures.gives in
    none_left d (left_in g.L.Width.WORD d c.args.other.now) (none.none d it)
