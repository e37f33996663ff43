use Rattle.cdb_read.proofs.Words.{are_records, arith, key_values}
use Rattle.cdb_read.proofs.WholeFiles.SoundFiles.{IsSound-file_bytes}
use Rattle.cdb_read.proofs.laws.file_is_sound.Goals as goal

pub returns : goal.returns
returns g c = λ room.
    let laws = g.met.L.Width.greatest_fits in
    IsSound-file_bytes g.L.Width.WORD g.L.Width.TOP (key_values c.args._records.now) (record {
      width = g.met.L.Width.four_or_eight;
      top_is = g.met.L.Width.top_is;
      records = are_records c.args._records.now;
      room = omega (arith, laws.0, room);
    })
