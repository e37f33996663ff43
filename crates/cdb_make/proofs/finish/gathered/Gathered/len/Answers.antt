use Rattle.cdb_make.proofs.Words.{arith, places_in}
use Rattle.cdb_make.proofs.Tables.{length-entries_of}
use Rattle.cdb_make.proofs.finish.gathered.Gathered.len.Goals as goal

pub returns : goal.returns
returns g c =
    let s = c.args.self.now in
    omega (arith, c.len.ensures, s.hashes.ok.0, length-entries_of s.hashes.items (places_in s.places) s.paired)
