use Rattle.cdb.proofs.performing.perform_in.Goals as goal

pub returns-in-Create-clause-performs : goal.returns-in-Create-clause-performs
returns-in-Create-clause-performs g c = rw c.in-Create.is (c.shown_options.result, rw c.as_slice-in-Create-2.ensures.value at c.shown_options.ensures.shown, rw c.as_str-in-Create.ensures.value at (rw c.as_slice-in-Create.ensures.value at c.create.ensures.creates))

pub returns-in-Create-clause-reason : goal.returns-in-Create-clause-reason
returns-in-Create-clause-reason g c = rw c.in-Create.is (rw c.as_str-in-Create.ensures.value at c.create.ensures.reason)
