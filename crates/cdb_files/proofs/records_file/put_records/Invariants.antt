use Rattle.std.proofs.Common.{◌≡◌, take}
use Rattle.cdb_form.specs.Views.Pairs.{key_values}
use Rattle.cdb_make.specs.Views.Maker.{Holds}
use Rattle.cdb_files.proofs.records_file.put_records.Given as goal

-- the records so far
abbrev pub invariant-loop-record : goal.invariant-loop-record
invariant-loop-record g l =
    record {
      holds : Holds l.maker (key_values (take l.record-index l.records));
      limit : l.maker.limit ≡ l.fn.maker.limit;
      failures : g.S.Store.failures l.maker.store ≡ g.S.Store.failures l.fn.maker.store;
    }
