use Rattle.cdb_make.proofs.Words.{KeyValue, refl}
use Rattle.cdb_make.specs.declared.answer.Put.TheVariants.{Added}
use Rattle.cdb_make.proofs.Meeting.{meets_alone, puts_by, put_failed}
use Rattle.cdb_make.proofs.maker.Maker.put.Goals as goal

pub returns-in_err-add_alone-clause-fails : goal.returns-in_err-add_alone-clause-fails
returns-in_err-add_alone-clause-fails g c =
    let i = c.args.self.now in
    let r : KeyValue = record { key = c.args.key.now; value = c.args.value.now } in
    let f = c.if-only_adds.ensures in
    put_failed i i c.add_alone.new.self c.hash-hash.result c.args.mode r Added c.from_residual.result c.in_err-add_alone.field-0.0 g.met.L.Width.four_or_eight refl (meets_alone i c.hash-hash.result c.args.mode r (f.add refl) (f.whole refl) (f.none refl)) refl
    c.add_alone.ensures.steps.follows c.in_err-add_alone.ensures.fails c.from_residual.ensures.1

pub returns-then-only_adds-clause-puts : goal.returns-then-only_adds-clause-puts
returns-then-only_adds-clause-puts g c =
    let i = c.args.self.now in
    let r : KeyValue = record { key = c.args.key.now; value = c.args.value.now } in
    let f = c.if-only_adds.ensures in
    let ok = c.in_ok-add_alone.ensures in
    puts_by i i c.add_alone.new.self c.hash-hash.result c.args.mode r Added refl (meets_alone i c.hash-hash.result c.args.mode r (f.add refl) (f.whole refl) (f.none refl)) ok.admits ok.alone (λ has. has)
