use Rattle.std.proofs.Common.{List, ℕ, ◌≡◌, ◌∙◌, ap, subst}
use Rattle.cdb_form.specs.declared.record.Record.{Record}
use Rattle.cdb_form.specs.Format.{file_bytes}
use Rattle.cdb_form.specs.Views.Pairs.{key_values}
use Rattle.cdb_files.specs.Made.{FailsToMake, IsFileOf}
use Rattle.cdb_files.proofs.Failing.{building_fault}
use Rattle.cdb_names.proofs.Replacing.{at_each_moment, weaker_replacing, weaker_sure}
use Rattle.cdb_files.proofs.records_file.make_file_in.Goals as goal

-- what was built is the file of the same records
file_of : (w : ℕ) (records same : List Record) → records ≡ same → (b : List ℕ) → IsFileOf w records b → IsFileOf w same b
file_of w records same e b is = is ∙ ap (λ rs. file_bytes w (key_values rs)) e

pub returns-in-Ok-clause-calls : goal.returns-in-Ok-clause-calls
returns-in-Ok-clause-calls g c = weaker_replacing (file_of g.L.Width.WORD _ _ c.new-builder.ensures) c.replace_file-replaced.ensures.calls

pub returns-in-Ok-clause-any_moment : goal.returns-in-Ok-clause-any_moment
returns-in-Ok-clause-any_moment g c = at_each_moment (weaker_replacing (file_of g.L.Width.WORD _ _ c.new-builder.ensures) c.replace_file-replaced.ensures.calls)

pub returns-in-Ok-clause-sure : goal.returns-in-Ok-clause-sure
returns-in-Ok-clause-sure g c = weaker_sure c.args.name.now _ (file_of g.L.Width.WORD _ _ c.new-builder.ensures) (rw c.in-Ok.is at c.replace_file-replaced.ensures.sure)

pub returns-in-Err-clause-calls : goal.returns-in-Err-clause-calls
returns-in-Err-clause-calls g c = weaker_replacing (file_of g.L.Width.WORD _ _ c.new-builder.ensures) c.replace_file-replaced.ensures.calls

pub returns-in-Err-clause-any_moment : goal.returns-in-Err-clause-any_moment
returns-in-Err-clause-any_moment g c = at_each_moment (weaker_replacing (file_of g.L.Width.WORD _ _ c.new-builder.ensures) c.replace_file-replaced.ensures.calls)

pub returns-in-Err-clause-build : goal.returns-in-Err-clause-build
returns-in-Err-clause-build g c =
    let w = g.L.Width.WORD in
    let greatest = g.L.Width.GREATEST in
    rw (c.from.ensures) (building_fault _ _ c.in-Err.fault (λ f fails.
    subst (λ (records : List Record). FailsToMake g.N.File.RawFile w greatest records c.args.temporary.now (g.N.Names.calls c.args.names.now) (g.N.Names.calls c.replace_file-replaced.new.names) f) c.new-builder.ensures fails) (rw c.in-Err.is at c.replace_file-replaced.ensures.build))
