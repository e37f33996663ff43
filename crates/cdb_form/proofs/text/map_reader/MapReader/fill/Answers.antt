use Rattle.cdb_form.proofs.Words.{arith, refl, subst, take, []}
use Rattle.cdb_form.specs.Views.MapReader.{GivesRecords, ReadLines}
use Rattle.cdb_form.proofs.Filling.{fills_as, fills_none, lines_each}
use Rattle.cdb_form.proofs.MapTexts.MapReads.{takes_none}
use Rattle.cdb_form.proofs.MapTexts.WholeMap.{read_none}
use Rattle.cdb_form.proofs.text.map_reader.MapReader.fill.Goals as goal

pub returns-in-On-clause-fills : goal.returns-in-On-clause-fills
returns-in-On-clause-fills g c =
    let f = c.fill_lines-filled.result in
    let so = c.fill_lines-filled.ensures in
    let t = c.take_at_hand.ensures in
    fills_as _ _ _ _ _ _ _ f so.fills (record {
      text = _;
      lines = subst (λ hand. ReadLines (take f.taken hand) [] so.fills.records) c.at_hand.ensures (lines_each so.fills.records c.at_hand.result.now f.taken so.fills.come);
      takes = t.takes;
      going = refl {a = c.args.self.now.going};
      fewer = omega (arith, t.asks, so.few, so.fills.count);
      spends = omega (arith, t.asks, t.taken);
    })

pub returns-in-AtEnd-clause-fills : goal.returns-in-AtEnd-clause-fills
returns-in-AtEnd-clause-fills g c =
    let self = c.args.self.now in
    rw c.none.ensures (fills_none (GivesRecords g.R.Feeds.feed self self) g.L.Width.WORD g.L.Width.TOP c.args.into.now c.args.held c.requires (record {
      text = [];
      lines = read_none [];
      takes = takes_none g.R.Feeds.feed self.source;
      going = refl {a = c.args.self.now.going};
      fewer = omega arith;
      spends = omega arith;
    }))
