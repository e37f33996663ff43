use Rattle.cdb_form.proofs.Words.{arith, drop, is_blank, is_of, length, prefix_len, refl, ◌≡◌, ◌≢◌, ◌≤◌}
use Rattle.cdb_form.specs.declared.text.kind.Kind.TheVariants.{InLine, InWord}
use Rattle.cdb_form.proofs.Bytes.HeadLemmas.{rest_of}
use Rattle.cdb_form.proofs.MapTexts.LinePrefix.{first_newline, line_prefix}
use Rattle.cdb_form.proofs.text.prefix_line.spaced_line.Goals as goal

pub returns : goal.returns
returns c =
    let bytes = c.args.bytes.now in
    let start = c.blanks-start.result in
    let klen = c.run-klen.result in
    let gap = c.blanks-gap.result in
    let vlen = c.run-vlen.result in
    let line = drop start bytes in
    let tail = drop klen line in
    let words = rest_of start (length bytes) bytes refl in
    let behind = rest_of klen (length line) line refl in
    let rest = rest_of gap (length tail) tail refl in
    let kis : klen ≡ prefix_len (is_of InWord) line = rw words at c.run-klen.ensures.is in
    let gis : gap ≡ prefix_len is_blank tail = rw behind at (rw words at c.blanks-gap.ensures.is) in
    let vis : vlen ≡ prefix_len (is_of InLine) (drop gap tail) = rw rest at (rw behind at (rw words at c.run-vlen.ensures.is)) in
    let held : vlen ≤ length (drop gap tail) = rw rest at (rw behind at (rw words at c.run-vlen.ensures.within)) in
    let other : vlen ≢ length (drop gap tail) = rw rest at (rw behind at (rw words at c.if-vlen-rest.false)) in
    let newline = first_newline (drop gap tail) vlen vis (omega (arith, held, other)) in
    line_prefix bytes start klen gap vlen _ c.blanks-start.ensures.is kis (omega arith) (rw words at c.if-words-eq35.false) gis newline
    (rw words refl) (rw words (rw behind (rw rest refl)))
