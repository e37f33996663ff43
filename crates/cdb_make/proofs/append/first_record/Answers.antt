use Rattle.cdb_make.proofs.Words.{List, WordPair, ap, arith, common_steps, drop, header_pair, length, length-take-le, pair_at, prefix_size, subst, sym, take, ℕ, ◌*◌, ◌+◌, ◌∙◌, ◌≡◌, ◌≤◌}
use Rattle.cdb_form.proofs.Bytes.WordLemmas.{pair_at-take, span_of}
use Rattle.cdb_make.proofs.append.first_record.Goals as goal

pub returns-clause-bytes : goal.returns-clause-bytes
returns-clause-bytes g c =
    let sized : c.pair_size-pair.result + c.read_header-header.result.klen + c.read_header-header.result.vlen ≡ prefix_size g.L.Width.WORD c.args.bytes.now = grind (arith, common_steps) in
    ap (λ (n : ℕ). take n c.args.bytes.now) sized

pub returns-clause-size : goal.returns-clause-size
returns-clause-size g c =
    let sized : c.pair_size-pair.result + c.read_header-header.result.klen + c.read_header-header.result.vlen ≡ prefix_size g.L.Width.WORD c.args.bytes.now = grind (arith, common_steps) in
    length-take-le (c.pair_size-pair.result + c.read_header-header.result.klen + c.read_header-header.result.vlen) c.args.bytes.now (subst (λ (n : ℕ). n ≤ length c.args.bytes.now) (sym sized) c.requires) ∙ sized

pub slice_bounds-whole-end : goal.slice_bounds-whole-end
slice_bounds-whole-end g c = grind (arith, common_steps)

pub slice_bounds-result-end : goal.slice_bounds-result-end
slice_bounds-result-end g c = grind (arith, common_steps)

pub overflow_add-value : goal.overflow_add-value
overflow_add-value g c = grind (arith, common_steps)

pub overflow_add-size : goal.overflow_add-size
overflow_add-size g c = grind (arith, common_steps)

pub returns-clause-key : goal.returns-clause-key
returns-clause-key g c = grind (arith, common_steps)

pub returns-clause-value : goal.returns-clause-value
returns-clause-value g c =
    let w : ℕ = g.L.Width.WORD in
    let bytes : List ℕ = c.args.bytes.now in
    let pair : ℕ = c.pair_size-pair.result in
    let klen : ℕ = c.read_header-header.result.klen in
    let vlen : ℕ = c.read_header-header.result.vlen in
    let twice : pair ≡ w + w = omega (arith, c.pair_size-pair.ensures) in
    let read : header_pair c.read_header-header.result ≡ pair_at w bytes = c.read_header-header.ensures.read ∙ ap (λ (n : ℕ). pair_at w (take n bytes)) twice ∙ pair_at-take w bytes in
    ap (λ (n : ℕ). take n (drop (pair + klen) bytes)) (span_of (pair + klen) vlen)
    ∙ ap (λ (n : ℕ). take vlen (drop (n + klen) bytes)) c.pair_size-pair.ensures
    ∙ ap (λ (p : WordPair). take p.second (drop (2 * w + p.first) bytes)) read
