use Rattle.cdb_form.proofs.Words.{ap, arith, ◌-◌, ◌*◌, ◌∙◌, sym, ℕ}
use Rattle.cdb_form.proofs.Bytes.ShortNumerals.{ends_in, number_in, short_number_is, tens_in}
use Rattle.cdb_form.proofs.text.prefix.short_number.Goals as goal

pub returns-clause-value : goal.returns-clause-value
returns-clause-value c =
    (short_number_is c.args.digits c.args.bytes.now c.requires.some c.requires.few c.requires.long c.requires.each).0
    ∙ ap (λ (word : ℕ). number_in (tens_in (ends_in word (32 - 8 * c.args.digits)))) (sym c.read_u32-word.ensures)

pub returns-clause-short : goal.returns-clause-short
returns-clause-short c =
    let so = short_number_is c.args.digits c.args.bytes.now c.requires.some c.requires.few c.requires.long c.requires.each in
    let is = so.0 ∙ ap (λ (word : ℕ). number_in (tens_in (ends_in word (32 - 8 * c.args.digits)))) (sym c.read_u32-word.ensures) in
    omega (arith, is, so.1)
