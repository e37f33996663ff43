use Rattle.cdb_make.proofs.Words.{List, WordPair, [], all_gathered, ap, arith, entries_in, get_or, get_or_default, length, places_in, roll_entries, slice_set, sym, table_number, tables_of, take, take_more, ℕ, ◌++◌, ◌+◌, ◌-◌, ◌<◌, ◌∙◌, ◌∷◌, ◌≡◌}
use Rattle.cdb_make.proofs.Tables.{get_or-entries_of, roll_long, table_at, tables_more, tables_same, entries_more}
use Rattle.cdb_make.proofs.finish.gather.gather_one.Goals.{else-first-table-via-then-first-table+else-table-first, else-first-table-via-else-first-table}
use Rattle.cdb_make.proofs.finish.gather.gather_one.Goals as goal

pub push-requires-clause-room : goal.push-requires-clause-room
push-requires-clause-room g c =
    let m = c.args.roll.now in
    let es : List WordPair = roll_entries m in
    let k : ℕ = c.args.n in
    let h : ℕ = c.index-hash.result.now in
    let p : ℕ = c.at-place.result in
    let first : ℕ = c.args.first in
    let count : ℕ = length c.args.gathered.now in
    let table : ℕ = c.table_number-table.result in
    let n : ℕ = table - first in
    let e : WordPair = record { first = h; second = p } in
    let is : get_or es k e ≡ e = get_or-entries_of m.hashes.items (places_in m.places) k h p e m.paired c.requires.inside c.index-hash.ensures c.at-place.ensures.at in
    let number : table ≡ table_number h = c.table_number-table.ensures.number ∙ ap table_number c.from.ensures in
    let lt : n < count = omega (arith, c.if-table-first.true) in
    let at : first + n ≡ table = omega (arith, c.if-first-table.true) in
    let now : get_or (all_gathered c.args.gathered.now) n [] ≡ entries_in (take k es) table = ap (λ v. get_or v n []) c.requires.before ∙ table_at (take k es) first count n table lt at in
    let all : get_or (tables_of es first count) n [] ≡ entries_in es table = table_at es first count n table lt at in
    let more : length (entries_in (take k es) table) < length (entries_in es table) = entries_more es table k e (omega (arith, roll_long m, c.requires.inside)) is (sym number) in
    omega (arith, more, c.requires.room n lt, ap length now, ap length all)

pub returns-then-table-first-clause-all : goal.returns-then-table-first-clause-all
returns-then-table-first-clause-all g c =
    let m = c.args.roll.now in
    let es : List WordPair = roll_entries m in
    let k : ℕ = c.args.n in
    let h : ℕ = c.index-hash.result.now in
    let p : ℕ = c.at-place.result in
    let first : ℕ = c.args.first in
    let gs = c.args.gathered.now in
    let count : ℕ = length gs in
    let table : ℕ = c.table_number-table.result in
    let n : ℕ = table - first in
    let e : WordPair = record { first = h; second = p } in
    let is : get_or es k e ≡ e = get_or-entries_of m.hashes.items (places_in m.places) k h p e m.paired c.requires.inside c.index-hash.ensures c.at-place.ensures.at in
    let more : take (k + 1) es ≡ take k es ++ e ∷ [] = take_more es k e (omega (arith, roll_long m, c.requires.inside)) ∙ ap (λ (q : WordPair). take k es ++ q ∷ []) is in
    let number : table ≡ table_number h = c.table_number-table.ensures.number ∙ ap table_number c.from.ensures in
    let put = c.push.ensures in
    put.more
    ∙ ap (λ v. slice_set v n (get_or v n [] ++ e ∷ [])) c.requires.before
    ∙ tables_more (take k es) e first count n (omega (arith, c.if-table-first.true)) (omega (arith, c.if-first-table.true, number))
    ∙ ap (λ v. tables_of v first count) (sym more)
    ∙ ap (tables_of (take (k + 1) es) first) (sym put.long)

pub returns-else-first-table-clause-all : goal.returns-else-first-table-clause-all
returns-else-first-table-clause-all g c =
    let m = c.args.roll.now in
    let es : List WordPair = roll_entries m in
    let k : ℕ = c.args.n in
    let h : ℕ = c.index-hash.result.now in
    let p : ℕ = get_or (places_in m.places) k 0 in
    let first : ℕ = c.args.first in
    let count : ℕ = length c.args.gathered.now in
    let e : WordPair = record { first = h; second = p } in
    let place : p ≡ get_or (places_in m.places) k p = get_or_default (places_in m.places) k 0 p (omega (arith, m.paired, c.requires.inside)) in
    let is : get_or es k e ≡ e = get_or-entries_of m.hashes.items (places_in m.places) k h p e m.paired c.requires.inside c.index-hash.ensures place in
    let more : take (k + 1) es ≡ take k es ++ e ∷ [] = take_more es k e (omega (arith, roll_long m, c.requires.inside)) ∙ ap (λ (q : WordPair). take k es ++ q ∷ []) is in
    let number : c.table_number-table.result ≡ table_number h = c.table_number-table.ensures.number ∙ ap table_number c.from.ensures in
    let none : (n : ℕ) → n < count → first + n ≡ table_number h → ⊥ = elim c.else-first-table.branch [
      | else-first-table-via-then-first-table+else-table-first v ↦ λ n below at. omega (arith, number, v.if-table-first.false, v.if-first-table.true)
      | else-first-table-via-else-first-table v ↦ λ n below at. omega (arith, number, v.if-first-table.false)
    ] in
    c.requires.before ∙ tables_same (take k es) e first count none ∙ ap (λ v. tables_of v first count) (sym more)
