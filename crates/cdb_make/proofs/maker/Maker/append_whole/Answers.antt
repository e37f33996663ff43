use Rattle.cdb_make.proofs.Words.{KeyValue, List, ap, length, record_size, records_at, subst, sym, ℕ, ◌∙◌, ◌≡◌}
use Rattle.std.specs.Prelude.{sum_by}
use Rattle.cdb_make.specs.Views.Appending.{AppendsAll}
use Rattle.cdb_make.proofs.Bytes.Fitting.{all_first}
use Rattle.cdb_make.proofs.maker.Maker.append_whole.Goals as goal

pub returns-then-self-clause-ok : goal.returns-then-self-clause-ok
returns-then-self-clause-ok g c =
    let w : ℕ = g.L.Width.WORD in
    let bytes : List ℕ = c.args.bytes.now in
    let all : List KeyValue = records_at w bytes in
    let done = c.in_ok-append.ensures.ok in
    let long : c.in_ok-append.field-0 ≡ length bytes = done.size ∙ sym (ap (sum_by (record_size w)) (all_first w bytes c.args.count c.requires.whole)) ∙ sym c.requires.whole.sum in
    subst (λ (n : ℕ). AppendsAll c.args.self.now c.append.new.self all n) long done

pub returns-clause-ok : goal.returns-clause-ok
returns-clause-ok g c = rw (all_first g.L.Width.WORD c.args.bytes.now c.args.count c.requires.whole) at c.append_first.ensures.ok

pub returns-clause-fails : goal.returns-clause-fails
returns-clause-fails g c = rw (all_first g.L.Width.WORD c.args.bytes.now c.args.count c.requires.whole) at c.append_first.ensures.fails
