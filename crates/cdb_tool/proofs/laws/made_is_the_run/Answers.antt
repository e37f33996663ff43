use Rattle.std.proofs.Common.{refl, ◌≡◌}
use Rattle.cdb_tool.proofs.MadeOf.{run_comes}
use Rattle.cdb_tool.proofs.laws.made_is_the_run.Goals as goal

pub returns : goal.returns
returns g c = λ base inputs shared r image old new result is given runs.
    run_comes _ g.L.Width.WORD g.L.Width.GREATEST c.args._options base inputs shared _ r (λ b. b ≡ image) old new result refl is given runs
