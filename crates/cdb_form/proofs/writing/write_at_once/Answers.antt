use Rattle.cdb_form.proofs.Words.{ap, length, refl, sym, take, take-append-drop, ◌++◌, ◌∙◌}
use Rattle.cdb_form.proofs.Bytes.HeadLemmas.{rest_of}
use Rattle.cdb_form.proofs.Bytes.WritingLemmas.{writes_last}
use Rattle.cdb_form.proofs.writing.write_at_once.Goals as goal

pub returns-then-done-bytes-clause-writes : goal.returns-then-done-bytes-clause-writes
returns-then-done-bytes-clause-writes g c =
    let bytes = c.args.bytes.now in
    let done = c.in_ok-done.done in
    writes_last c.write_rest.result _ _ _ (take done bytes) _ bytes c.in_ok-done.ensures.ok c.write_rest.ensures.writes
    (sym (ap (λ t. take done bytes ++ t) (rest_of done (length bytes) bytes refl) ∙ take-append-drop done bytes))
