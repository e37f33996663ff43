use Rattle.std.proofs.lemmas.Grind.{common_steps}
use Rattle.std.proofs.Common.{arith}
use Rattle.cdb_make.proofs.Words.{arith, common_steps, inl, refl}
use Rattle.cdb_make.proofs.Admitting.{stays_self}
use Rattle.cdb_make.proofs.maker.Maker.add_before.Goals as goal

pub returns-in-Err-NoMemory-clause-done : goal.returns-in-Err-NoMemory-clause-done
returns-in-Err-NoMemory-clause-done g c = grind (arith, common_steps)

pub returns-in-Ok-clause-waits : goal.returns-in-Ok-clause-waits
returns-in-Ok-clause-waits g c = grind (arith, common_steps)

pub returns-then-not-has_room-clause-done : goal.returns-then-not-has_room-clause-done
returns-then-not-has_room-clause-done g c = grind (arith, common_steps)

pub returns-in-Ok-clause-done : goal.returns-in-Ok-clause-done
returns-in-Ok-clause-done g c = grind (arith, common_steps)

pub returns-then-not-has_room-clause-waits : goal.returns-then-not-has_room-clause-waits
returns-then-not-has_room-clause-waits g c = λ e. record {
  stays = stays_self c.args.self.now;
  written = refl;
  fine = refl;
  short = inl (omega (arith, c.has_room.ensures.none c.if-not-has_room.true, c.full_size.ensures.is));
}

pub returns-in-Err-clause-counted : goal.returns-in-Err-clause-counted
returns-in-Err-clause-counted g c = c.add.ensures.counted

pub returns-in-Ok-clause-steps : goal.returns-in-Ok-clause-steps
returns-in-Ok-clause-steps g c = record { fine = c.in-Ok.ensures.fine; counts = tt; follows = c.add.ensures.follows }

pub returns-in-Err-NoMemory-clause-steps : goal.returns-in-Err-NoMemory-clause-steps
returns-in-Err-NoMemory-clause-steps g c = record { fine = grind (arith, common_steps); counts = tt; follows = c.add.ensures.follows }

pub returns-in-Err-NoMemory-clause-tagged : goal.returns-in-Err-NoMemory-clause-tagged
returns-in-Err-NoMemory-clause-tagged g c = grind (arith, common_steps)

pub returns-in-Err-clause-tagged : goal.returns-in-Err-clause-tagged
returns-in-Err-clause-tagged g c = grind (arith, common_steps)
