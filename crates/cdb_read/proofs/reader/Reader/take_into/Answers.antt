use Rattle.cdb_read.proofs.reader.Reader.take_into.Goals as goal

pub take_span-requires-clause-fits : goal.take_span-requires-clause-fits
take_span-requires-clause-fits g c = c.args.self.now.fits
