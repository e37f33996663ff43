use Rattle.cdb_show.proofs.Words.{[], ap, append-nil, arith, common_steps, map, rules, sym, ◌++◌, ◌∙◌, ◌≡◌}
use Rattle.cdb_show.specs.declared.input_reader.InputReader.TheVariants.{Own}
use Rattle.cdb_show.proofs.inputs.Inputs.each_own.Goals as goal

pub loop-reader-init : goal.loop-reader-init
loop-reader-init g c =
    let empty : c.in_ok-own.own.items ≡ [] = search rules in
    let left = c.into_iter-reader-iterator.result.rest.items in
    record {
      next = tt;
      finite = tt;
      done = ap (λ v. v ++ map Own left) empty ∙ ap (map Own) c.into_iter-reader-iterator.ensures.into_iter_gives.0;
    }

pub returns-clause-each : goal.returns-clause-each
returns-clause-each g c =
    let ended : c.loop-reader.reader-iterator.rest.items ≡ [] = grind (arith, common_steps) in
    sym (append-nil c.loop-reader.own.items) ∙ ap (λ v. c.loop-reader.own.items ++ map Own v) (sym ended) ∙ c.loop-reader.invariant.done
