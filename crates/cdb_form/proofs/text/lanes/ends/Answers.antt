use Rattle.cdb_form.proofs.Words.{ap, arith, bitmask_splat, eqb, leb, map, mask_l, may_end, not, sym, w8, ◌∙◌}
use Rattle.cdb_form.proofs.text.lanes.ends.Goals as goal

pub returns-in-Blank : goal.returns-in-Blank
returns-in-Blank c =
    bitmask_splat w8 (λ a b. not (eqb a b)) c.args.bytes 32 32 c.fits-bytes.0 (omega arith) ∙ ap (λ kind. mask_l (map (may_end kind) c.args.bytes)) (sym c.in-Blank.is)

pub returns-in-InWord : goal.returns-in-InWord
returns-in-InWord c =
    bitmask_splat w8 leb c.args.bytes 32 32 c.fits-bytes.0 (omega arith) ∙ ap (λ kind. mask_l (map (may_end kind) c.args.bytes)) (sym c.in-InWord.is)

pub returns-in-InLine : goal.returns-in-InLine
returns-in-InLine c =
    bitmask_splat w8 eqb c.args.bytes 32 10 c.fits-bytes.0 (omega arith) ∙ ap (λ kind. mask_l (map (may_end kind) c.args.bytes)) (sym c.in-InLine.is)
