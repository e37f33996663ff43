use Rattle.std.proofs.Common.{rules, ◌≢◌, IfErr}
use Rattle.cdb_command.proofs.Plans.{gives_no_words}
use Rattle.cdb_command.proofs.Plans.{gives_in_range}
use Rattle.cdb_command.specs.declared.usage.Usage.TheVariants.{Words}
use Rattle.cdb_command.specs.Refused.{refused_in, usage_of}
use Rattle.cdb_command.specs.Line.{given_in}
use Rattle.cdb_command.proofs.planning.plan_explained.Goals as goal

pub returns-clause-refused : goal.returns-clause-refused
returns-clause-refused c =
    let none : IfErr c.asked_on.result (λ f. usage_of (refused_in f) ≢ Words) =
    gives_no_words c.asked_on.result (given_in c.line_of.result) c.asked_on.ensures in
    search rules

pub returns-clause-range : goal.returns-clause-range
returns-clause-range c =
    gives_in_range c.asked_on.result (given_in c.line_of.result) c.asked_on.ensures
