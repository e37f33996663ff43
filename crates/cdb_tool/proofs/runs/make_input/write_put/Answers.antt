use Rattle.std.proofs.Common.{◌∙◌, sym}
use Rattle.cdb_tool.proofs.ToldLines.{put_part_told, put_told}
use Rattle.cdb_tool.proofs.runs.make_input.write_put.Goals as goal

pub returns-then-meets_key-clause-ok : goal.returns-then-meets_key-clause-ok
returns-then-meets_key-clause-ok g c =
    put_told c.write_duplicates.result c.args.met.options.now c.args.met.input c.args.met.number c.args.met.line c.args.key.now c.args.put _ _ (sym c.tells.ensures ∙ c.if-tells.true) (sym c.meets_key.ensures ∙ c.if-meets_key.true) c.write_duplicates.ensures.writes

pub returns-then-meets_key-clause-err : goal.returns-then-meets_key-clause-err
returns-then-meets_key-clause-err g c =
    put_part_told c.write_duplicates.result c.args.met.options.now c.args.met.input c.args.met.number c.args.met.line c.args.key.now c.args.put _ _ (sym c.tells.ensures ∙ c.if-tells.true) (sym c.meets_key.ensures ∙ c.if-meets_key.true) c.write_duplicates.ensures.writes
