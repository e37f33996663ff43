use Rattle.cdb_show.proofs.Words.{ap, append_assoc, appends_then, arith, drop, drop-drop, err_from_is_err_and, prefix_last, refl, same_prefix, shown, sym, writes_prefix, ◌++◌, ◌∙◌}
use Rattle.cdb_form.proofs.Bytes.HeadLemmas.{rest_of}
use Rattle.cdb_show.proofs.shown.write_shown.Goals as goal

pub returns-in_err-done-clause-writes : goal.returns-in_err-done-clause-writes
returns-in_err-done-clause-writes g c =
    let p = err_from_is_err_and c.from_residual.result c.from_residual.ensures.1 in
    let so_far = c.loop-done.invariant.shows in
    let rest = rest_of c.loop-done.done _ c.args.bytes.now refl in
    writes_prefix _ _ _ _ _ p.1
    (prefix_last _ _ _ _ _ _ so_far.written (same_prefix _ _ _ _ (ap shown rest) c.in_err-done.ensures.err) so_far.before)

pub loop-done-preserved : goal.loop-done-preserved
loop-done-preserved g c =
    let so_far = c.loop-done.invariant.shows in
    let more = c.in_ok-done.ensures.ok in
    let count = c.in_ok-done.field-0 in
    let rest = rest_of c.loop-done.done _ c.args.bytes.now refl in
    let after = ap (drop count) rest ∙ drop-drop count c.loop-done.done c.args.bytes.now in
    record {
      inside = omega (arith, c.in_ok-done.ensures.count.1);
      shows = record {
        text = so_far.text ++ more.text;
        before = so_far.before
            ∙ ap (λ t. so_far.text ++ t) (ap shown (sym rest) ∙ more.before ∙ ap (λ t. more.text ++ shown t) after)
            ∙ sym (append_assoc so_far.text more.text _);
        written = appends_then _ _ _ _ _ so_far.written more.written;
      };
      stays = λ failed. c.in_ok-done.ensures.stays (c.loop-done.invariant.stays failed);
    }
