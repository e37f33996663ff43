use Rattle.std.proofs.Common.{◌∙◌, ◌&&◌, ap, sym, not}
use Rattle.std.proofs.lemmas.Bool.{false_from_ne_true}
use Rattle.std.proofs.lemmas.Str.{IsUtf8-from_is_utf8, is_utf8-from_IsUtf8}
use Rattle.cdb_command.specs.Refused.{has_hidden}
use Rattle.cdb_command.proofs.shown.is_printable.Goals as goal

pub returns-in-Ok : goal.returns-in-Ok
returns-in-Ok c =
    let bytes = c.args.bytes.now in
    ap not (c.has_hidden.ensures ∙ ap has_hidden c.in-Ok.ensures.cases.0)
    ∙ sym (ap (λ b. b && not (has_hidden bytes)) (is_utf8-from_IsUtf8 bytes c.in-Ok.ensures.cases.1))

pub returns-in-Err : goal.returns-in-Err
returns-in-Err c =
    let no = false_from_ne_true _ (λ is. c.in-Err.ensures.cases.0 (IsUtf8-from_is_utf8 _ is)) in
    sym (ap (λ b. b && not (has_hidden c.args.bytes.now)) no)
