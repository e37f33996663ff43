use Rattle.cdb_form.proofs.Words.{ap, arith, drop, get_or, refl, ℕ, ◌+◌, ◌-◌, ◌∙◌, ◌≡◌}
use Rattle.cdb_form.proofs.NativeTexts.PrefixLemmas.{BeginsWithNumeral, lengths_prefix}
use Rattle.cdb_form.proofs.NativeTexts.ShortLengths.{digits_within, numeral_within, places, without_next, zeros}
use Rattle.cdb_form.proofs.text.prefix.short_lengths.Goals as goal

pub short_number-klen-requires-clause-each : goal.short_number-klen-requires-clause-each
short_number-klen-requires-clause-each c =
    let bytes = c.args.bytes.now in
    let at = places bytes c.digit_ends-ends.result c.requires (λ k. omega (arith, c.type_inv.bytes k)) c.digit_ends-ends.ensures c.if-bytes-ne43.false c.if-comma-gt3.false c.if-colon-comma-gt3.false in
    let comma = zeros (without_next c.digit_ends-ends.result) in
    digits_within bytes 1 (comma - 1) 4 (omega arith) (omega (arith, at.key_few)) (λ k from to. at.key_each k from (omega (arith, to, at.key_some)))

pub short_number-vlen-requires-clause-each : goal.short_number-vlen-requires-clause-each
short_number-vlen-requires-clause-each c =
    let bytes = c.args.bytes.now in
    let at = places bytes c.digit_ends-ends.result c.requires (λ k. omega (arith, c.type_inv.bytes k)) c.digit_ends-ends.ensures c.if-bytes-ne43.false c.if-comma-gt3.false c.if-colon-comma-gt3.false in
    let comma = zeros (without_next c.digit_ends-ends.result) in
    let colon = zeros (without_next (without_next c.digit_ends-ends.result)) in
    digits_within bytes (comma + 1) (colon - comma - 1) (comma + 1 + 4 - (comma + 1)) (omega (arith, at.key_few)) (omega (arith, at.value_few)) (λ k from to. at.value_each k from (omega (arith, to, at.value_some)))

pub returns-clause-begins : goal.returns-clause-begins
returns-clause-begins c = λ _.
    let bytes = c.args.bytes.now in
    let at = places bytes c.digit_ends-ends.result c.requires (λ k. omega (arith, c.type_inv.bytes k)) c.digit_ends-ends.ensures c.if-bytes-ne43.false c.if-comma-gt3.false c.if-colon-comma-gt3.false in
    let comma = zeros (without_next c.digit_ends-ends.result) in
    let colon = zeros (without_next (without_next c.digit_ends-ends.result)) in
    let klen = c.short_number-klen.result in
    let vlen = c.short_number-vlen.result in
    let key_end : 1 + (comma - 1) ≡ comma = omega (arith, at.key_some) in
    let value_end : comma + 1 + (colon - comma - 1) ≡ colon = omega (arith, at.value_some) in
    let key : BeginsWithNumeral 44 (drop 1 bytes) klen comma =
    numeral_within bytes 1 1 (comma - 1) 4 44 klen comma (omega (arith, at.key_some, at.key_few)) (omega (arith, at.key_some)) (omega (arith, at.key_few))
    (digits_within bytes 1 (comma - 1) 4 (omega arith) (omega (arith, at.key_few)) (λ k from to. at.key_each k from (omega (arith, to, at.key_some)))) c.short_number-klen.ensures.value
    (ap (λ (n : ℕ). get_or bytes n 0) key_end ∙ c.if-bytes-comma-ne44.false) (omega (arith, at.key_some)) refl in
    let value : BeginsWithNumeral 58 (drop (1 + comma) bytes) vlen (colon - comma) =
    numeral_within bytes (comma + 1) (1 + comma) (colon - comma - 1) (comma + 1 + 4 - (comma + 1)) 58 vlen (colon - comma) (omega (arith, at.key_few, at.value_some, at.value_few)) (omega (arith, at.value_some)) (omega (arith, at.value_few))
    (digits_within bytes (comma + 1) (colon - comma - 1) (comma + 1 + 4 - (comma + 1)) (omega (arith, at.key_few)) (omega (arith, at.value_few)) (λ k from to. at.value_each k from (omega (arith, to, at.value_some)))) c.short_number-vlen.ensures.value
    (ap (λ (n : ℕ). get_or bytes n 0) value_end ∙ c.if-bytes-colon-ne58.false) (omega (arith, at.value_some)) (omega arith) in
    lengths_prefix c.args.greatest bytes comma (colon - comma) _ (omega arith) c.if-bytes-ne43.false key value c.if-greatest-klen.false c.if-greatest-vlen.false (omega (arith, at.value_some))
