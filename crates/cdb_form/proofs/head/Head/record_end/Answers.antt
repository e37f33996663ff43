use Rattle.cdb_form.proofs.Words.{ap, least_place, map, pointer_pair, unwrap_or, ℕ, ◌∙◌}
use Rattle.cdb_form.proofs.Files.TableLemmas.{least_used}
use Rattle.cdb_form.proofs.head.Head.record_end.Goals as goal

pub returns : goal.returns
returns g c =
    c.unwrap_or.ensures ∙ ap (λ o. unwrap_or o c.head_size.result) c.least_place.ensures ∙ least_used c.head_size.result c.args.self.now.pointers
    ∙ ap (λ (n : ℕ). least_place n (map pointer_pair c.args.self.now.pointers)) c.head_size.ensures
