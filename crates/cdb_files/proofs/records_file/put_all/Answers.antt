use Rattle.cdb_files.proofs.Failing.{none_made}
use Rattle.cdb_files.proofs.records_file.put_all.Goals as goal

pub returns-in-Err-clause-fails : goal.returns-in-Err-clause-fails
returns-in-Err-clause-fails g c = none_made g.S.Store g.L.Width.WORD g.L.Width.GREATEST c.args.records.now c.args.store c.in-Err.refused.store c.in-Err.refused.fault c.in-Err.ensures.fails

pub returns-in-Ok-finish-clause-file : goal.returns-in-Ok-finish-clause-file
returns-in-Ok-finish-clause-file g c = c.in-Ok-finish.ensures.file _ c.in-Ok-put_records.ensures.ok
