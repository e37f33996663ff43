use Rattle.cdb_make.proofs.Words.{arith, reads_nothing}
use Rattle.cdb_form.specs.Format.{record_of}
use Rattle.cdb_make.proofs.Longs.{part_puts, part_stored}
use Rattle.cdb_make.proofs.Rolls.{follows_read}
use Rattle.cdb_make.proofs.maker.Maker.end_long.Goals as goal

pub returns-clause-puts : goal.returns-clause-puts
returns-clause-puts g c = λ first key vlen got p.
    part_puts first c.args.self.now c.note.new.self key vlen got c.args.long p c.note.ensures.store
    (c.note.ensures.enters (record_of key got) p.are p.hash p.number (omega (arith, p.end, p.stays.same.end)) (part_stored first c.args.self.now key vlen got c.args.long p c.requires.whole))

pub returns-clause-follows : goal.returns-clause-follows
returns-clause-follows g c =
    let e = c.note.ensures in
    follows_read c.args.self.now c.note.new.self e.limit e.lazy (reads_nothing c.args.self.now.store c.note.new.self.store e.store)
