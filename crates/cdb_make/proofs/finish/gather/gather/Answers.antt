use Rattle.cdb_make.proofs.Words.{List, WordPair, all_gathered, ap, arith, gathered_in, length, length-map, roll_entries, tables_of, take_all, ◌∙◌}
use Rattle.cdb_make.proofs.Gathering.{room_then}
use Rattle.cdb_make.proofs.Tables.{roll_long, tables_none}
use Rattle.cdb_make.proofs.finish.gather.gather.Goals as goal

pub gather_sixteens-n-requires-clause-none : goal.gather_sixteens-n-requires-clause-none
gather_sixteens-n-requires-clause-none g c =
    let gs = c.clear.new.gathered in
    tables_none c.args.first (length gs) (all_gathered gs) (length-map gs gathered_in) c.clear.ensures.none

pub gather_sixteens-n-requires-clause-room : goal.gather_sixteens-n-requires-clause-room
gather_sixteens-n-requires-clause-room g c = room_then c.args.roll.now c.args.first c.args.gathered.now c.clear.new.gathered c.clear.ensures.rooms c.clear.ensures.long c.requires.room

pub gather_one-requires-clause-room : goal.gather_one-requires-clause-room
gather_one-requires-clause-room g c = room_then c.args.roll.now c.args.first c.args.gathered.now c.loop-n.gathered c.loop-n.invariant.rooms c.loop-n.invariant.long c.requires.room

pub returns-clause-all : goal.returns-clause-all
returns-clause-all g c =
    let es : List WordPair = roll_entries c.args.roll.now in
    c.loop-n.invariant.all ∙ ap (λ v. tables_of v c.args.first (length c.args.gathered.now)) (take_all c.loop-n.n es (omega (arith, roll_long c.args.roll.now)))
