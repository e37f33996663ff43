use Rattle.cdb_make.proofs.Gathering.{room_then}
use Rattle.cdb_make.proofs.finish.gather.gather_sixteens.Goals as goal

pub gather_sixteen-requires-clause-room : goal.gather_sixteen-requires-clause-room
gather_sixteen-requires-clause-room g c = room_then c.args.roll.now c.args.first c.args.gathered.now c.loop-n.gathered c.loop-n.invariant.rooms c.loop-n.invariant.long c.requires.room
