use Rattle.std.proofs.Common.{[], arith, false, ℕ, ◌∷◌, ◌+◌, drop, map, string_bytes, subst, take, rules, true}
use Rattle.cdb.specs.Creating.{LooksFor, input_is}
use Rattle.cdb.proofs.Asks.{looks_named, looks_no_more}
use Rattle.cdb_system.proofs.Opens.{names_at, names_more}
use Rattle.cdb.proofs.placing.may_be_one_of.Goals as goal

pub loop-input-preserved : goal.loop-input-preserved
loop-input-preserved g c =
    let i : ℕ = c.loop-input.input-index in
    let name = c.args.name.now in
    let old = g.N.Names.calls c.args.names.now in
    let mid = g.N.Names.calls c.loop-input.names in
    let new = g.N.Names.calls c.may_be_input.new.names in
    let more = names_more string_bytes c.args.inputs.now i c.input-item.result c.as_str.result.now (omega arith) c.input-item.is c.as_str.ensures.value in
    let one = subst (λ found. LooksFor (input_is name c.as_str.result.now ∷ []) found mid new) (search rules) c.may_be_input.ensures in
    subst (λ v. LooksFor (map (input_is name) v) false old new) more (looks_named (input_is name) (map string_bytes (take i c.args.inputs.now)) [] c.as_str.result.now false old mid new c.loop-input.invariant one)

pub returns-then-may_be_input : goal.returns-then-may_be_input
returns-then-may_be_input g c =
    let i : ℕ = c.loop-input.input-index in
    let name = c.args.name.now in
    let file = c.as_str.result.now in
    let rest = map string_bytes (drop (i + 1) c.args.inputs.now) in
    let old = g.N.Names.calls c.args.names.now in
    let mid = g.N.Names.calls c.loop-input.names in
    let new = g.N.Names.calls c.may_be_input.new.names in
    let all = names_at string_bytes c.args.inputs.now i c.input-item.result file (omega arith) c.input-item.is c.as_str.ensures.value in
    let found = subst (λ found. LooksFor (input_is name file ∷ []) found mid new) (search rules) c.may_be_input.ensures in
    subst (λ v. LooksFor (map (input_is name) v) true old new) all
    (looks_named (input_is name) (map string_bytes (take i c.args.inputs.now)) rest file true old mid new c.loop-input.invariant (looks_no_more (input_is name file ∷ []) (map (input_is name) rest) mid new found))
