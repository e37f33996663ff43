use Rattle.cdb_show.proofs.Words.{ap, arith, drop, err_from_is_err_and, prefix_in, shown, sym, ◌++◌, ◌∙◌}
use Rattle.cdb_command.proofs.ShownText.{shown_byte, shown_character}
use Rattle.cdb_show.proofs.shown.write_first.Goals as goal

pub returns-in_err-write_whole-in-0-clause-err : goal.returns-in_err-write_whole-in-0-clause-err
returns-in_err-write_whole-in-0-clause-err g c =
    let p = err_from_is_err_and c.from_residual.result c.from_residual.ensures.1 in
    let bytes = c.args.bytes.now in
    let seen = shown_byte bytes (sym c.printable_len.ensures.exact ∙ c.in-0.is) c.requires
    ∙ ap (λ t. t ++ shown (drop 1 bytes)) (sym c.escaped.ensures) in
    rw p.1 (prefix_in _ _ _ _ _ c.in_err-write_whole-in-0.ensures.writes.err seen)

pub returns-in_err-write_whole-in_default-clause-err : goal.returns-in_err-write_whole-in_default-clause-err
returns-in_err-write_whole-in_default-clause-err g c =
    let p = err_from_is_err_and c.from_residual-in_err-write_whole-in_default.result c.from_residual-in_err-write_whole-in_default.ensures.1 in
    let seen = shown_character c.printable_len.result c.args.bytes.now (sym c.printable_len.ensures.exact) (omega (arith, c.in_default)) in
    rw p.1 (prefix_in _ _ _ _ _ c.in_err-write_whole-in_default.ensures.writes.err seen)
