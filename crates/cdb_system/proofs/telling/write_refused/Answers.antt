use Rattle.cdb_system.proofs.Words.{Bool, List, [], ap, append-nil, codes, err_from_is_err_and, false, refl, sym, true, ℕ, ◌++◌, ◌∙◌, ◌≡◌}
use Rattle.cdb_command.specs.Refused.{Refused, refused_in, refused_line, usage_of}
use Rattle.cdb_command.specs.Usage.{usage_message}
use Rattle.cdb_form.proofs.Bytes.WritingLemmas.{prefix_in, prefix_last, same_appends, same_prefix, writes_prefix}
use Rattle.cdb_show.specs.Views.Output.{output_bytes}
use Rattle.cdb_system.specs.Telling.{refused_lines, usage_line}
use Rattle.cdb_system.proofs.telling.write_refused.Goals as goal

-- the first line comes first
first_line : (explained : Bool) (r : Refused) → (more : List ℕ) × (refused_lines explained r ≡ usage_line (usage_of r) ++ more)
first_line true r = (refused_line r, refl)
first_line false r = ([], sym (append-nil (usage_line (usage_of r))))

pub returns-in_err-write_pieces-clause-writes : goal.returns-in_err-write_pieces-clause-writes
returns-in_err-write_pieces-clause-writes g c =
    let p = err_from_is_err_and c.from_residual.result c.from_residual.ensures.1 in
    let r = refused_in c.args.fault.now in
    let line = ap (λ t. codes "cdb: " ++ (t ++ codes "\n")) (c.as_bytes.ensures.value ∙ c.message.ensures ∙ ap usage_message c.usage.ensures) in
    let first = same_prefix _ _ _ (usage_line (usage_of r)) line c.in_err-write_pieces.ensures.writes.err in
    let split = first_line c.args.explains r in
    writes_prefix _ _ _ _ _ p.1 (prefix_in _ _ (usage_line (usage_of r)) split.0 _ first split.1)

pub returns-in_err-write_word_fault-clause-writes :
    goal.returns-in_err-write_word_fault-clause-writes
returns-in_err-write_word_fault-clause-writes g c =
    let p = err_from_is_err_and c.from_residual-in_err-write_word_fault.result c.from_residual-in_err-write_word_fault.ensures.1 in
    let r = refused_in c.args.fault.now in
    let line = ap (λ t. codes "cdb: " ++ (t ++ codes "\n")) (c.as_bytes.ensures.value ∙ c.message.ensures ∙ ap usage_message c.usage.ensures) in
    let start = output_bytes c.args.errors.now in
    let mid = output_bytes c.write_pieces.new.w in
    let first = same_appends start mid _ (usage_line (usage_of r)) line c.in_ok-write_pieces.ensures.writes.ok in
    writes_prefix _ _ _ _ _ p.1 (prefix_last start mid (output_bytes c.write_word_fault.new.errors) (usage_line (usage_of r)) (refused_line r) _ first c.in_err-write_word_fault.ensures.writes.err
    (ap (λ b. refused_lines b r) c.if-explains.true))
