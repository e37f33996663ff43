use Rattle.std.proofs.Common.{◌≡◌, drop, map}
use Rattle.clap.specs.Simple.{app_of}
use Rattle.cdb_command.specs.Words.{flag_rule, flag_rules, with_rules}
use Rattle.cdb_command.proofs.parser.with_flags.Given as goal

abbrev pub invariant-loop-id : goal.invariant-loop-id
invariant-loop-id l =
    with_rules (app_of l.parser) (map (λ p. flag_rule p.0.now p.1) (drop l.id-index l.id-items))
    ≡ with_rules (app_of l.fn.parser) flag_rules
