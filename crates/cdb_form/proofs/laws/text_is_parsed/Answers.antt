use Rattle.std.proofs.Common.{arith}
use Rattle.cdb_form.proofs.NativeTexts.Parsing.{amending_is_parsed, list_is_parsed, native_is_parsed}
use Rattle.cdb_form.proofs.laws.text_is_parsed.Goals as goal

pub returns-clause-native : goal.returns-clause-native
returns-clause-native g c =
    native_is_parsed g.L.Width.GREATEST c.args._text.now (λ k. let h = c.type_inv._text k in omega (arith, h))

pub returns-clause-amending : goal.returns-clause-amending
returns-clause-amending g c =
    amending_is_parsed g.L.Width.GREATEST c.args._text.now (λ k. let h = c.type_inv._text k in omega (arith, h))

pub returns-clause-listed : goal.returns-clause-listed
returns-clause-listed g c =
    list_is_parsed g.L.Width.GREATEST c.args._text.now (λ k. let h = c.type_inv._text k in omega (arith, h))
