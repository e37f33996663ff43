use Rattle.cdb_read.proofs.Words.{are_records, arith, file_bytes, key_values, ◌∙◌}
use Rattle.cdb_read.proofs.WholeFiles.LookupLaws.{finds_values}
use Rattle.cdb_read.proofs.WholeFiles.Searched.{search_is_lookup}
use Rattle.cdb_read.proofs.laws.search_of_file.Goals as goal

pub returns : goal.returns
returns g c = λ room.
    let w = g.L.Width.WORD in
    let rs = key_values c.args._records.now in
    let laws = g.met.L.Width.greatest_fits in
    let finds = finds_values w g.L.Width.TOP rs c.args._key.now (record {
      width = g.met.L.Width.four_or_eight;
      top_is = g.met.L.Width.top_is;
      records = are_records c.args._records.now;
      room = omega (arith, laws.0, room);
    }) in
    search_is_lookup w (file_bytes w rs) c.args._key.now finds.sound ∙ finds.values
