use Rattle.std.proofs.Common.{refl, ap, arith, rules}
use Rattle.cdb_read.specs.declared.walking.state.Walking.TheVariants.{At}
use Rattle.cdb_read.proofs.Walked.WalkedLengths.{some_word}
use Rattle.cdb_read.proofs.Walked.AheadRecords.{gives_none, nothing_ahead, gives_records, same_rest}
use Rattle.cdb_read.proofs.walking.records.Walk.records_into.Goals as goal

pub returns-in_default : goal.returns-in_default
returns-in_default g c = record {
  same_reader = refl;
  reads = search rules;
  head = refl;
  ok = gives_none g.L.Width.WORD c.args.self.now c.args.into.now (nothing_ahead c.args.self.now.walking c.in_default.not-At);
  fails = tt;
}

pub returns-clause-ok : goal.returns-clause-ok
returns-clause-ok g c =
    let some = some_word g.L.Width.WORD g.met.L.Width.four_or_eight in
    gives_records g.L.Width.WORD c.args.self.now _ c.read_records.new.into c.in_ok-n.n c.in-At.rest _ some c.in-At.is refl refl refl c.in_ok-n.ensures.ahead
    (λ none. ap At (same_rest c.in-At.rest.place _ c.in-At.rest.end _ _ (omega (arith, none))))
