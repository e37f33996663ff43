use Rattle.cdb_make.proofs.Words.{ap, arith, header_pair, length, pair_at, rules, take, ◌*◌, ◌∙◌, ◌≡◌, ◌≤◌}
use Rattle.cdb_make.proofs.Bytes.Headers.{has_lengths, held_behind}
use Rattle.cdb_make.proofs.key_at.read_prefix.Goals as goal

pub returns-clause-lengths : goal.returns-clause-lengths
returns-clause-lengths g c =
    let n : c.pair_size.result ≡ 2 * g.L.Width.WORD = search (rules, c.pair_size.ensures) in
    let l : 2 * g.L.Width.WORD ≤ length c.read_at.new.into = omega arith in
    let e : header_pair c.read_header.result ≡ pair_at g.L.Width.WORD (take (2 * g.L.Width.WORD) c.read_at.new.into) =
    c.read_header.ensures.read ∙ ap (λ k. pair_at g.L.Width.WORD (take k c.read_at.new.into)) n in
    has_lengths c.read_header.result l e c.in_ok-read_at.ensures.ok

pub returns-clause-held : goal.returns-clause-held
returns-clause-held g c =
    let l : 2 * g.L.Width.WORD ≤ length c.read_at.new.into = omega arith in
    held_behind g.L.Width.WORD l c.in_ok-read_at.ensures.ok
