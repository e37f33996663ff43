use Rattle.cdb_make.proofs.Words.{KeyValue, sym, ◌∙◌}
use Rattle.cdb_make.proofs.Finishing.{counts_then, rests_counts, fails_so}
use Rattle.cdb_make.proofs.Rolls.{follows_then}
use Rattle.cdb_make.proofs.Meeting.{puts_by, puts_none, put_failed}
use Rattle.cdb_make.proofs.maker.Maker.put_by_mode.Goals as goal

pub admit-requires-clause-whole : goal.admit-requires-clause-whole
admit-requires-clause-whole g c = (c.in_ok-put.ensures.meets c.args.value.now).rests.whole

pub admit-requires-clause-have : goal.admit-requires-clause-have
admit-requires-clause-have g c = (c.in_ok-put.ensures.meets c.args.value.now).have

pub returns-in_err-admit-clause-fails : goal.returns-in_err-admit-clause-fails
returns-in_err-admit-clause-fails g c =
    let r : KeyValue = record { key = c.args.key.now; value = c.args.value.now } in
    put_failed c.args.self.now c.meet.new.self c.admit.new.self c.sought_by_look-sought.result c.args.mode r c.in_ok-put.put c.from_residual-in_err-admit.result c.in_err-admit.field-0.0 g.met.L.Width.four_or_eight (sym c.is_present.ensures ∙ c.if-not-is_present.true) (c.in_ok-put.ensures.meets c.args.value.now) c.in_ok-put.ensures.steps.fine
    c.admit.ensures.steps.follows c.in_err-admit.ensures.fails c.from_residual-in_err-admit.ensures.1

pub returns-in_ok-admit-clause-puts : goal.returns-in_ok-admit-clause-puts
returns-in_ok-admit-clause-puts g c =
    let r : KeyValue = record { key = c.args.key.now; value = c.args.value.now } in
    puts_by c.args.self.now c.meet.new.self c.admit.new.self c.sought_by_look-sought.result c.args.mode r c.in_ok-put.put (sym c.is_present.ensures ∙ c.if-not-is_present.true) (c.in_ok-put.ensures.meets c.args.value.now) c.in_ok-admit.ensures.admits c.in_ok-admit.ensures.alone c.in_ok-put.ensures.room

pub returns-else-not-is_present-clause-puts : goal.returns-else-not-is_present-clause-puts
returns-else-not-is_present-clause-puts g c =
    let r : KeyValue = record { key = c.args.key.now; value = c.args.value.now } in
    puts_none c.args.self.now c.meet.new.self c.sought_by_look-sought.result c.args.mode r c.in_ok-put.put (sym c.is_present.ensures ∙ c.if-not-is_present.false) (c.in_ok-put.ensures.meets c.args.value.now)

pub returns-in_err-admit-clause-steps : goal.returns-in_err-admit-clause-steps
returns-in_err-admit-clause-steps g c =
    let i = c.args.self.now in
    let met = c.meet.new.self in
    let k = c.admit.new.self in
    fails_so i k c.from_residual-in_err-admit.result _ c.from_residual-in_err-admit.ensures.1 (counts_then i met k (rests_counts i met (c.in_ok-put.ensures.meets c.args.value.now).rests) c.in_err-admit.ensures.steps.counts)
    (follows_then i met k c.meet.ensures.steps.follows c.admit.ensures.steps.follows)

pub returns-in_ok-admit-clause-steps : goal.returns-in_ok-admit-clause-steps
returns-in_ok-admit-clause-steps g c = record {
  fine = c.in_ok-admit.ensures.steps.fine ∙ c.in_ok-put.ensures.steps.fine;
  counts = tt;
  follows = follows_then c.args.self.now c.meet.new.self c.admit.new.self c.meet.ensures.steps.follows c.admit.ensures.steps.follows;
}
