use denote.Bor.{Bor}
use Rattle.std.proofs.Common.{rules, ◌≡◌, ◌∙◌, ap, refl, ℕ, ◌+◌, ◌<◌, ◌≤◌, length, List, drop, map, get_or}
use Rattle.std.proofs.lemmas.List.{drop_more, drop_all}
use Rattle.clap.specs.Simple.{App, app_of, with_rule}
use Rattle.cdb_command.specs.Line.{Text}
use Rattle.cdb_command.specs.Words.{flag_rule, with_rules}
use Rattle.cdb_command.proofs.parser.with_flags.Goals as goal

-- the rules of the letters from one on: first that of this one
step : (app : App) (items : List (Bor Text × ℕ)) (n : ℕ) (d : Bor Text × ℕ) → n < length items
    → with_rules (with_rule app (flag_rule (get_or items n d).0.now (get_or items n d).1))
    (map (λ p. flag_rule p.0.now p.1) (drop (n + 1) items))
    ≡ with_rules app (map (λ p. flag_rule p.0.now p.1) (drop n items))
step app items n d h = rw (drop_more items n d h) refl

end : (app : App) (items : List (Bor Text × ℕ)) (n : ℕ) → length items ≤ n
    → app ≡ with_rules app (map (λ p. flag_rule p.0.now p.1) (drop n items))
end app items n h = rw (drop_all n items h) refl

pub loop-id-preserved : goal.loop-id-preserved
loop-id-preserved c =
    let shape = c.in_ok-parser.ensures.shape c.flag.ensures.local in
    let within : c.loop-id.id-index < length c.flag_letters-id-items.result = search rules in
    let same : app_of c.in_ok-parser.parser ≡ with_rule (app_of c.loop-id.parser) (flag_rule _ _) =
    shape ∙ ap (with_rule (app_of c.loop-id.parser)) c.flag.ensures.rule in
    ap (λ app. with_rules app (map (λ p. flag_rule p.0.now p.1) (drop (c.loop-id.id-index + 1) c.flag_letters-id-items.result))) same
    ∙ step _ _ _ _ within ∙ c.loop-id.invariant

pub returns : goal.returns
returns c =
    let past : length c.flag_letters-id-items.result ≤ c.loop-id.id-index = search rules in
    end (app_of c.loop-id.parser) c.flag_letters-id-items.result c.loop-id.id-index past ∙ c.loop-id.invariant
