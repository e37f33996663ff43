use Rattle.std.proofs.Common.{◌≡◌, ◌∙◌, refl, sym}
use Rattle.cdb_form.specs.Format.{key_hash}
use Rattle.cdb_read.specs.Views.Search.{found_ahead}
use Rattle.cdb_read.specs.declared.lookup.probe.Searching.TheVariants.{At}
use Rattle.cdb_read.proofs.memory.search.find.Goals as goal

pub meet-requires : goal.meet-requires
meet-requires g c = record { inside = c.in-At.ensures.inside c.in-At.probe refl }

pub returns-in-End-clause-finds : goal.returns-in-End-clause-finds
returns-in-End-clause-finds g c =
    let is : c.from-hash.result ≡ key_hash c.args.key.now = c.from-hash.ensures ∙ c.hash.ensures in
    sym (c.in-At.ensures.finds c.args.key.now is) ∙ (c.in-End.ensures.meets is).each c.args.file.now refl

pub returns-in-Value-clause-finds : goal.returns-in-Value-clause-finds
returns-in-Value-clause-finds g c =
    let is : c.from-hash.result ≡ key_hash c.args.key.now = c.from-hash.ensures ∙ c.hash.ensures in
    record {
      rest = found_ahead g.L.Width.WORD c.args.file.now c.args.key.now (At c.in-Value.field-1);
      first = sym (c.in-At.ensures.finds c.args.key.now is) ∙ (c.in-Value.ensures.meets is).each c.args.file.now refl;
      inside = c.in-Value.ensures.within.0;
    }

pub returns-in-Broken-clause-damaged : goal.returns-in-Broken-clause-damaged
returns-in-Broken-clause-damaged g c =
    let is : c.from-hash.result ≡ key_hash c.args.key.now = c.from-hash.ensures ∙ c.hash.ensures in
    sym (c.in-At.ensures.finds c.args.key.now is) ∙ (c.in-Broken.ensures.meets is).each c.args.file.now refl
