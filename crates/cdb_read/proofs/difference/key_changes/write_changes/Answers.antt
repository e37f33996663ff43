use Rattle.cdb_read.proofs.DifferenceWords.{ap, appends_then, changes_at, changes_text, err_from_is_err_and, prefix_in, prefix_last, same_appends, sym, writes_prefix, ◌∙◌}
use Rattle.cdb_read.proofs.Passes.{text_append}
use Rattle.cdb_read.specs.Differing.{puts_at, removal_at}
use Rattle.cdb_read.proofs.difference.key_changes.write_changes.Goals as goal

pub returns-in-Err-clause-writes : goal.returns-in-Err-clause-writes
returns-in-Err-clause-writes g c = λ b d is it.
    let w = g.L.Width.WORD in
    let key = c.args.key.now in
    let text = ap (λ kind. changes_text (changes_at kind w b d key)) c.in-Put.is ∙ text_append (removal_at w d key) (puts_at w b key) in
    record { ok = tt; err = prefix_in _ _ (changes_text (removal_at w d key)) (changes_text (puts_at w b key)) _ (c.in-Err.ensures.writes d it).err text }

pub returns-in_err-write_puts-in-Put-clause-writes : goal.returns-in_err-write_puts-in-Put-clause-writes
returns-in_err-write_puts-in-Put-clause-writes g c = λ b d is it.
    let w = g.L.Width.WORD in
    let key = c.args.key.now in
    let p = err_from_is_err_and c.from_residual.result c.from_residual.ensures.1 in
    let text = ap (λ kind. changes_text (changes_at kind w b d key)) c.in-Put.is ∙ text_append (removal_at w d key) (puts_at w b key) in
    writes_prefix _ _ _ _ _ p.1 (prefix_last _ _ _ (changes_text (removal_at w d key)) (changes_text (puts_at w b key)) _ (c.in-Ok.ensures.writes d it).ok (c.in_err-write_puts-in-Put.ensures.writes b is).err text)

pub returns-in_ok-write_puts-in-Put-clause-writes : goal.returns-in_ok-write_puts-in-Put-clause-writes
returns-in_ok-write_puts-in-Put-clause-writes g c = λ b d is it.
    let w = g.L.Width.WORD in
    let key = c.args.key.now in
    let text = ap (λ kind. changes_text (changes_at kind w b d key)) c.in-Put.is ∙ text_append (removal_at w d key) (puts_at w b key) in
    record { ok = same_appends _ _ _ _ (sym text) (appends_then _ _ _ (changes_text (removal_at w d key)) (changes_text (puts_at w b key)) (c.in-Ok.ensures.writes d it).ok (c.in_ok-write_puts-in-Put.ensures.writes b is).ok); err = tt }
