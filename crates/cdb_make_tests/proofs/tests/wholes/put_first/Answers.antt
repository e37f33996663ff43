use Rattle.std.proofs.Common.{List, ap, arith, length, sym, ℕ, ◌∙◌, ◌≤◌}
use Rattle.cdb_form.specs.Format.{prefix_size, record_bytes}
use Rattle.cdb_form.proofs.Files.Prefixes.{same_record}
use Rattle.cdb_make.proofs.Bytes.Fitting.{prefix_bytes}
use Rattle.cdb_make_tests.proofs.tests.wholes.put_first.Goals as goal

pub put_whole-requires : goal.put_whole-requires
put_whole-requires g c =
    let w : ℕ = g.L.Width.WORD in
    let bytes : List ℕ = c.args.bytes.now in
    let read = c.first_record.ensures in
    let tells = rw c.in-Some.is at c.record_len.ensures in
    let fits : prefix_size w bytes ≤ length bytes = omega (arith, tells.0, tells.1) in
    read.bytes ∙ prefix_bytes w bytes (λ k. omega (arith, c.type_inv.bytes k)) fits ∙ ap (record_bytes w) (sym (same_record _ _ read.key read.value))
