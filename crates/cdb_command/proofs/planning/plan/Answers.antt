use Rattle.std.proofs.Common.{◌≡◌, ◌⊎◌, Err, map, string_bytes, subst}
use Rattle.cdb_command.specs.Refused.{refused_in}
use Rattle.cdb_command.specs.Words.{plan_of}
use Rattle.cdb_command.specs.declared.word_fault.WordFault.TheVariants.{NoMemory}
use Rattle.cdb_command.proofs.Plans.{gives_usage}
use Rattle.cdb_command.proofs.planning.plan.Goals as goal

pub returns-clause-exact : goal.returns-clause-exact
returns-clause-exact c =
    gives_usage c.in-Err.fault c.usage.result _ c.usage.ensures
    (subst (λ words. (c.in-Err.fault ≡ NoMemory)
    ⊎ (plan_of (map (string_bytes {Z = _}) words) ≡ Err (refused_in c.in-Err.fault)))
    c.as_slice.ensures.value c.in-Err.ensures.exact)
