use Rattle.cdb_read.proofs.Words.{List, [], ap, arith, drop, length, length-append, length-drop, part, refl, rules, sym, ℕ, ◌++◌, ◌+◌, ◌-◌, ◌∙◌, ◌≡◌}
use Rattle.cdb_read.proofs.Walked.WalkedLengths.{some_word}
use Rattle.cdb_read.proofs.Walked.AheadRecords.{records_ahead, size_end}
use Rattle.cdb_read.proofs.reader.Reader.read_records.Goals as goal

pub returns-then-n-eq0-clause-ahead : goal.returns-then-n-eq0-clause-ahead
returns-then-n-eq0-clause-ahead g c =
    let w = g.L.Width.WORD in
    let some = some_word w g.met.L.Width.four_or_eight in
    records_ahead w c.len.result 0 0 c.args.rest [] c.args.into.now some refl (omega arith) (sym (size_end w [] (omega arith)))
    (λ b is. g.met.S.Store.image_size c.args.self.now.store b is ∙ sym c.len.ensures) (λ b is. refl)

pub returns-clause-ahead : goal.returns-clause-ahead
returns-clause-ahead g c =
    let w = g.L.Width.WORD in
    let some = some_word w g.met.L.Width.four_or_eight in
    let xs : List ℕ = c.read_part.new.into in
    let ys : List ℕ = drop c.min-n.result c.args.into.now in
    let long : length xs ≡ c.min-n.result = search rules in
    let both : length (xs ++ ys) ≡ length xs + (length c.args.into.now - c.min-n.result) = length-append xs ys ∙ ap (λ k. length xs + k) (length-drop c.min-n.result c.args.into.now) in
    records_ahead w c.len.result c.min-n.result c.whole_len.result c.args.rest xs ys some long (omega (arith, long, both)) c.whole_len.ensures.whole
    (λ b is. g.met.S.Store.image_size c.read_part.new.store b is ∙ c.read_part.ensures.reads.size ∙ sym c.len.ensures)
    (λ b is. ap (λ k. part c.args.rest.place k b) (sym long) ∙ c.in_ok-read_part.ensures.read.read b is)
