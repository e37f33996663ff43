use Rattle.cdb_form.proofs.Words.{Spells, arith, refl, subst, take, []}
use Rattle.cdb_form.specs.Text.Form.{Spelled}
use Rattle.cdb_form.specs.Views.FormReader.{GivesItems}
use Rattle.cdb_form.proofs.Filling.{fills_as, fills_none, spelled_each}
use Rattle.cdb_form.proofs.MapTexts.MapReads.{takes_none}
use Rattle.cdb_form.proofs.text.form_reader.FormReader.fill.Goals as goal

pub returns-in-On-clause-fills : goal.returns-in-On-clause-fills
returns-in-On-clause-fills g c =
    let greatest = g.L.Width.GREATEST in
    let f = c.fill-filled.result in
    let so = c.fill-filled.ensures in
    let t = c.take_at_hand.ensures in
    fills_as _ _ _ _ _ _ _ f so.fills (record {
      text = _;
      spelled = subst (λ hand. Spelled Spells greatest so.fills.records (take f.taken hand) []) c.at_hand.ensures (spelled_each greatest so.fills.records c.at_hand.result.now f.taken so.fills.come);
      takes = t.takes;
      going = refl {a = c.args.self.now.going};
      fewer = omega (arith, t.asks, so.few, so.fills.count);
      spends = omega (arith, t.asks, t.taken);
    })

pub returns-in-AtEnd-clause-fills : goal.returns-in-AtEnd-clause-fills
returns-in-AtEnd-clause-fills g c =
    let self = c.args.self.now in
    rw c.none.ensures (fills_none (GivesItems Spells g.L.Width.GREATEST g.R.Feeds.feed self self) g.L.Width.WORD g.L.Width.TOP c.args.into.now c.args.held c.requires (record {
      text = [];
      spelled = refl;
      takes = takes_none g.R.Feeds.feed self.source;
      going = refl {a = c.args.self.now.going};
      fewer = omega arith;
      spends = omega arith;
    }))
