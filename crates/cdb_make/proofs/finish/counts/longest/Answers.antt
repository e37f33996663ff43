use Rattle.cdb_make.proofs.Words.{List, arith, get_or, inl, inr, length, nat_tests, sym, take, take_all, ℕ, ◌<◌, ◌≡◌, ◌≤◌, ◌⊎◌}
use Rattle.std.proofs.lemmas.List.Elements.{All-more, All-weaker, All-same}
use Rattle.cdb_make.proofs.finish.counts.longest.Goals as goal

pub loop-count-preserved : goal.loop-count-preserved
loop-count-preserved c =
    let ns : List ℕ = c.args.counts.now in
    let i : ℕ = c.loop-count.count-index in
    let x : ℕ = get_or ns i 0 in
    let lt : i < length ns = omega arith in
    let more : c.loop-count.most ≤ c.max-most.result = grind (arith, nat_tests, c.max-most.ensures) in
    let longer : x ≤ c.max-most.result = grind (arith, nat_tests, c.max-most.ensures) in
    let one : (c.max-most.result ≡ c.loop-count.most) ⊎ (c.max-most.result ≡ x) = grind (arith, nat_tests, c.max-most.ensures) in
    record {
      most = All-more (λ count. count ≤ c.max-most.result) ns i 0 lt (All-weaker (λ count. count ≤ c.loop-count.most) (λ count. count ≤ c.max-most.result) (λ v a. omega arith) (take i ns) c.loop-count.invariant.most) longer;
      least = λ most all. elim one [ inl old ↦ omega (arith, c.loop-count.invariant.least most all) | inr new ↦ omega (arith, all i 0 lt) ];
    }

pub returns-clause-most : goal.returns-clause-most
returns-clause-most c =
    let all : List ℕ = c.args.counts.now in
    All-same (λ count. count ≤ c.loop-count.most) all (take c.loop-count.count-index all) (sym (take_all c.loop-count.count-index all (omega arith))) c.loop-count.invariant.most
