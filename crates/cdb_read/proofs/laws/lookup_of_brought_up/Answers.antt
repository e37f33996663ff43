use Rattle.cdb_read.proofs.Words.{are_records, arith, brought_up, key_values, ◌∙◌}
use Rattle.cdb_read.proofs.DifferenceBytes.{brought_up_records}
use Rattle.cdb_read.proofs.Differences.{brings_up}
use Rattle.cdb_read.proofs.WholeFiles.LookupLaws.{finds_values}
use Rattle.cdb_read.proofs.laws.lookup_of_brought_up.Goals as goal

pub returns : goal.returns
returns g c = λ room.
    let rs = key_values c.args._old.now in
    let ss = key_values c.args._new.now in
    let laws = g.met.L.Width.greatest_fits in
    let finds = finds_values g.L.Width.WORD g.L.Width.TOP (brought_up rs ss) c.args._key.now (record {
      width = g.met.L.Width.four_or_eight;
      top_is = g.met.L.Width.top_is;
      records = brought_up_records rs ss (are_records c.args._old.now) (are_records c.args._new.now);
      room = omega (arith, laws.0, room);
    }) in
    record { values = finds.values ∙ brings_up rs ss c.args._key.now; sound = finds.sound }
