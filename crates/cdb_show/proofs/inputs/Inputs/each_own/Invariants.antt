use Rattle.cdb_show.proofs.Words.{map, ◌++◌, ◌≡◌}
use Rattle.cdb_show.specs.declared.input_reader.InputReader.TheVariants.{Own}
use Rattle.cdb_show.proofs.inputs.Inputs.each_own.Given as goal

-- the readers so far are inputs of their own
abbrev pub invariant-loop-reader : goal.invariant-loop-reader
invariant-loop-reader g l =
    record {
      next : (goal.iterator-loop-reader g).can_next l.reader-iterator;
      finite : (goal.iterator-loop-reader g).is_finite l.reader-iterator;
      done : l.own.items ++ map Own l.reader-iterator.rest.items ≡ map Own l.fn.readers.items;
    }
