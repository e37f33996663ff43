use Rattle.cdb_form.proofs.Words.{ap, arith, length, sym, unwrap_or, ℕ, ◌∙◌, ◌≡◌}
use Rattle.cdb_form.proofs.Files.TableLemmas.{first_used}
use Rattle.cdb_form.proofs.head.Head.first_table_at.Goals as goal

pub returns : goal.returns
returns c =
    let long : length c.args.self.now.pointers ≡ 256 = omega arith in
    c.unwrap_or.ensures ∙ ap (λ (n : ℕ). unwrap_or c.first_at.result n) (sym long)
    ∙ ap (λ o. unwrap_or o (length c.args.self.now.pointers)) c.first_at.ensures ∙ first_used c.args.place c.args.self.now.pointers
