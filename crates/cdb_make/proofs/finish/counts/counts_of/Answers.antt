use Rattle.cdb_make.proofs.Words.{List, WordPair, [], ap, arith, get_or, get_or_default, length, length-take-le, map, places_in, roll_entries, sym, table_number, tables_of, take, take_all, take_more, ℕ, ◌++◌, ◌+◌, ◌∙◌, ◌∷◌, ◌≡◌}
use Rattle.cdb_make.proofs.Tables.{get_or-entries_of, roll_long, counts_none, counts_push, counts_few}
use Rattle.cdb_make.proofs.finish.counts.counts_of.Goals as goal

pub loop-n-init : goal.loop-n-init
loop-n-init g c = counts_none

pub overflow_add-counts : goal.overflow_add-counts
overflow_add-counts g c =
    let m = c.args.roll.now in
    let few = counts_few (take c.loop-n.n (roll_entries m)) c.loop-n.counts c.table_number.result (omega arith) c.loop-n.invariant in
    omega (arith, few, length-take-le c.loop-n.n (roll_entries m) (omega (arith, roll_long m)))

pub loop-n-preserved : goal.loop-n-preserved
loop-n-preserved g c =
    let m = c.args.roll.now in
    let es : List WordPair = roll_entries m in
    let k : ℕ = c.loop-n.n in
    let h : ℕ = c.index.result.now in
    let p : ℕ = get_or (places_in m.places) k 0 in
    let e : WordPair = record { first = h; second = p } in
    let place : p ≡ get_or (places_in m.places) k p = get_or_default (places_in m.places) k 0 p (omega (arith, m.paired)) in
    let is : get_or es k e ≡ e = get_or-entries_of m.hashes.items (places_in m.places) k h p e m.paired (omega arith) c.index.ensures place in
    let more : take (k + 1) es ≡ take k es ++ e ∷ [] = take_more es k e (omega (arith, roll_long m)) ∙ ap (λ (q : WordPair). take k es ++ q ∷ []) is in
    let number : c.table_number.result ≡ table_number h = c.table_number.ensures.number ∙ ap table_number c.from.ensures in
    counts_push (take k es) e c.loop-n.counts c.table_number.result number c.loop-n.invariant ∙ ap (λ v. map length (tables_of v 0 256)) (sym more)

pub returns : goal.returns
returns g c =
    c.loop-n.invariant ∙ ap (λ v. map length (tables_of v 0 256)) (take_all c.loop-n.n (roll_entries c.args.roll.now) (omega (arith, roll_long c.args.roll.now)))
