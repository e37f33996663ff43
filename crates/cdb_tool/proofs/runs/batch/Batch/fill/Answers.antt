use Rattle.std.proofs.Common.{arith, ap, ◌≡◌, ◌++◌, ◌∙◌, ◌+◌, ◌<◌, List, flat_map, rules, take, ℕ}
use Rattle.std.specs.Vec.{with_items}
use Rattle.std.proofs.lemmas.List.{places, with_items_is}
use Rattle.cdb_form.specs.Format.{record_bytes}
use Rattle.cdb_tool.proofs.Batched.{batch_more, few_behind}
use Rattle.cdb_tool.proofs.runs.batch.Batch.fill.Goals as goal

pub invariant_of-self-clause-within : goal.invariant_of-self-clause-within
invariant_of-self-clause-within g c = omega (arith, c.fill-filled.ensures.within, c.fill-filled.auto.into, c.deref_mut.ensures.len)

pub invariant_of-self-clause-few : goal.invariant_of-self-clause-few
invariant_of-self-clause-few g c =
    let w : ℕ = g.L.Width.WORD in
    let old = c.args.self.now in
    let some : 0 < w = omega (arith, g.met.L.Width.four_or_eight) in
    let fills = c.fill-filled.ensures in
    let behind = few_behind w c.deref_mut.result.now c.fill-filled.new.into old.held c.fill-filled.result.held fills.records some (omega (arith, old.within, c.deref_mut.ensures.len)) fills.within fills.written in
    omega (arith, old.few, fills.count, behind)

pub returns-clause-takes : goal.returns-clause-takes
returns-clause-takes g c =
    let w : ℕ = g.L.Width.WORD in
    let old = c.args.self.now in
    let into : List ℕ = c.fill-filled.new.into in
    let fills = c.fill-filled.ensures in
    let n : ℕ = c.fill-filled.result.held in
    let more : List ℕ = flat_map (record_bytes w) fills.records in
    let items : (with_items old.bytes into).items ≡ into = with_items_is old.bytes into (search (rules, places)) in
    let behind : take n into ≡ take old.held c.deref_mut.result.now ++ more = fills.written in
    let front : take old.held c.deref_mut.result.now ++ more ≡ take old.held old.bytes.items ++ more = ap (λ v. take old.held v ++ more) c.deref_mut.ensures.value in
    let written : take n (with_items old.bytes into).items ≡ take old.held old.bytes.items ++ more = ap (take n) items ∙ behind ∙ front in
    record {
      more = fills.records;
      gives = fills.come;
      holds = λ rs h. batch_more w g.L.Width.TOP old _ rs fills.records h written (ap (λ (n : ℕ). old.count + n) fills.count) fills.are fills.fit;
    }
