use Rattle.cdb.proofs.Words.{held_by, inr, rules}
use Rattle.cdb.proofs.steps.handed_on.Goals as goal

pub returns-in-Ok-Err-clause-hands : goal.returns-in-Ok-Err-clause-hands
returns-in-Ok-Err-clause-hands g c = record {
  held = held_by c.flush_whole.new.self;
  all = c.flush_whole.ensures.bytes;
  handed = search rules;
  taken = c.flush_whole.ensures.handed;
  answered = inr (search rules);
}
