use Rattle.cdb_form.proofs.Words.{ap, arith, drop, false, get_or, get_or-drop, is_blank, length, length-drop, length-take-le, refl, sym, take, ℕ, ◌+◌, ◌-◌, ◌∙◌, ◌≡◌, ◌≢◌, ◌≤◌}
use Rattle.cdb_form.proofs.Bytes.HeadLemmas.{rest_of}
use borrow.Rule.Slice.PartMut.{mid_of}
use Rattle.cdb_form.proofs.MapTexts.LinePrefix.{PlainKey, after_blanks, newline_behind, plain_prefix, some_word}
use Rattle.cdb_form.proofs.text.prefix_line.plain_line.Goals as goal

pub returns-clause-begins : goal.returns-clause-begins
returns-clause-begins c =
    let bytes = c.args.bytes.now in
    let klen = c.word_run-klen.result in
    let vlen = c.wide_run-vlen.result in
    let tail = drop (klen + 1) bytes in
    let rest = rest_of (klen + 1) (length bytes) bytes refl in
    let within : vlen ≤ length tail = rw rest at c.wide_run-vlen.ensures.within in
    let short : vlen ≢ length tail = rw rest at c.if-vlen-tail.false in
    let at : klen + 1 + 0 ≡ klen + 1 = omega arith in
    let first : is_blank (get_or tail 0 0) ≡ false = after_blanks (get_or tail 0 0) (rw rest at c.if-tail-le32.false) in
    let key : PlainKey bytes klen = record {
      each = c.word_run-klen.ensures.each;
      some = some_word bytes klen c.if-bytes-le35.false c.if-bytes-klen-ne32.false;
      space = c.if-bytes-klen-ne32.false;
      other = ap (λ (n : ℕ). is_blank (get_or bytes n 0)) (sym at) ∙ sym (ap is_blank (get_or-drop (klen + 1) bytes 0 0)) ∙ first;
      within = omega (arith, within, short, length-drop (klen + 1) bytes);
    } in
    let newline = newline_behind tail vlen (rw rest at c.wide_run-vlen.ensures.each) (rw rest at c.if-tail-vlen-ne10.false) (omega (arith, within, short)) in
    plain_prefix bytes klen vlen _ key (omega arith) newline refl (ap (λ t. take vlen t) rest)

pub returns-clause-plain : goal.returns-clause-plain
returns-clause-plain c =
    let bytes = c.args.bytes.now in
    let klen = c.word_run-klen.result in
    let vlen = c.wide_run-vlen.result in
    let rest = rest_of (klen + 1) (length bytes) bytes refl in
    let klong : length (take klen bytes) ≡ klen = length-take-le klen bytes (omega arith) in
    let vlong : length (take vlen (mid_of (klen + 1) (length bytes - (klen + 1)) bytes)) ≡ vlen = length-take-le vlen _ (omega arith) in
    record {
      key = ap (λ (k : ℕ). take k bytes) klong;
      value = ap (λ (k : ℕ). take k (drop (length (take klen bytes) + 1) bytes)) vlong ∙ ap (λ (k : ℕ). take vlen (drop (k + 1) bytes)) klong ∙ ap (take vlen) (sym rest);
      size = omega (arith, klong, vlong);
    }
