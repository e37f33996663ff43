use Rattle.std.proofs.Common.{ℕ, subst}
use Rattle.cdb_read.specs.Memory.{WalkBegins}
use Rattle.cdb_c.specs.Answers.{rest_at}
use Rattle.cdb_c.proofs.walking.cdb_c_record_end.Goals as goal

pub returns-in-Ok-clause-begins : goal.returns-in-Ok-clause-begins
returns-in-Ok-clause-begins c = λ some.
    subst (λ (p : ℕ). WalkBegins 4 c.args.file.now (rest_at p c.in-Ok.rest.end)) c.in-Ok.ensures.first c.in-Ok.ensures.begins
