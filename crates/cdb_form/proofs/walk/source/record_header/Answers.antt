use Rattle.cdb_form.proofs.Words.{ReadsShort, ap, arith, common_steps, err_from_is_err_and, pair_at, rules, subst, sym, take_at, ℕ, ◌∙◌}
use Rattle.cdb_form.proofs.RecordReading.RecordAreas.{pair_fits}
use Rattle.cdb_form.proofs.walk.source.record_header.Goals as goal

pub returns-clause-read : goal.returns-clause-read
returns-clause-read g c =
    let w = g.L.Width.WORD in
    let f = c.pair_size-size.ensures in
    let long = c.fill.auto.into ∙ pair_fits w c.pair_size-size.result f g.met.L.Width.four_or_eight in
    record {
      bytes = c.fill.new.into;
      read = c.in_ok-fill.ensures.bytes;
      long = long;
      lengths = c.read_header.ensures.read ∙ ap (pair_at w) (take_at c.fill.new.into _ c.pair_size-size.result (long ∙ sym f));
    }

pub returns-in_err-fill-clause-fails : goal.returns-in_err-fill-clause-fails
returns-in_err-fill-clause-fails g c =
    let p = err_from_is_err_and c.from_residual.result c.from_residual.ensures.1 in
    let long = pair_fits g.L.Width.WORD c.pair_size-size.result c.pair_size-size.ensures g.met.L.Width.four_or_eight in
    rw (p.1, p.2) (λ damage.
    let h = c.in_err-fill.ensures.fails damage in
    (h.0, subst (λ (n : ℕ). ReadsShort n (g.R.Feeds.feed c.args.reader.now) (g.R.Feeds.feed c.fill.new.reader)) long h.1))

pub returns-clause-loses : goal.returns-clause-loses
returns-clause-loses g c = search rules

pub returns-in_err-fill-clause-loses : goal.returns-in_err-fill-clause-loses
returns-in_err-fill-clause-loses g c = search rules

pub slice_bounds-read_header-end : goal.slice_bounds-read_header-end
slice_bounds-read_header-end g c = grind (arith, common_steps)

pub read_header-requires : goal.read_header-requires
read_header-requires g c = grind (arith, common_steps)

pub returns-in_err-fill-clause-loses_fewer : goal.returns-in_err-fill-clause-loses_fewer
returns-in_err-fill-clause-loses_fewer g c = grind (arith, common_steps)
