use Rattle.std.proofs.Common.{◌≡◌, ◌∙◌, length, refl, sym, ap, subst, arith}
use Rattle.cdb_form.specs.Format.{key_hash}
use Rattle.cdb_read.specs.Views.Search.{found_ahead, ProbeInside}
use Rattle.cdb_read.specs.declared.lookup.probe.Searching.TheVariants.{At}
use Rattle.cdb_read.specs.declared.lookup.probe.Probe.{Probe}
use Rattle.cdb_read.proofs.Probing.Searches.{none_left}
use Rattle.cdb_read.proofs.memory.search.begin.Goals as goal

pub returns-in-AtEnd-clause-begins : goal.returns-in-AtEnd-clause-begins
returns-in-AtEnd-clause-begins g c =
    let is : c.from-hash.result ≡ key_hash c.args.key.now = c.from-hash.ensures ∙ c.hash.ensures in
    record {
      hash = is;
      finds = none_left g.L.Width.WORD c.args.file.now c.args.key.now (record { table = record { place = 0; slots = 0 }; slot = 0; left = 0 }) refl ∙ c.in-AtEnd.ensures.finds c.args.key.now is;
      inside = λ some. absurd (omega (arith, some));
    }

pub returns-in-At-clause-begins : goal.returns-in-At-clause-begins
returns-in-At-clause-begins g c =
    let is : c.from-hash.result ≡ key_hash c.args.key.now = c.from-hash.ensures ∙ c.hash.ensures in
    record {
      hash = c.at.ensures.hash ∙ is;
      finds = ap (λ (t : Probe). found_ahead g.L.Width.WORD c.args.file.now c.args.key.now (At t)) c.at.ensures.probe ∙ c.in-At.ensures.finds c.args.key.now is;
      inside = λ some. subst (λ (t : Probe). ProbeInside g.L.Width.WORD (length c.args.file.now) t) (sym c.at.ensures.probe) (c.in-At.ensures.inside c.in-At.probe refl);
    }
