-- Where the records of a roll end, before a step and after it.
use Rattle.cdb_make.proofs.Words.{Bool, KeyValue, List, Roll, Sees, [], ap, arith, behind, head_size, left, length, length-map, map, map-append, picked, record_size, sum, sum_by_push, sym, ℕ, ◌++◌, ◌+◌, ◌∙◌, ◌∷◌, ◌≡◌, ◌≤◌}
use Rattle.cdb_form.specs.declared.width.Width.{Ghosts as Widths}
use Rattle.cdb_make.proofs.Picking.{end_sum, left_sum}
use Rattle.cdb_make.proofs.Removing.{behind_most}
use Rattle.cdb_make.proofs.Spans.{left-map}

-- after the head and all records
seen_end : {L : Type 0} {l : Widths L} (m : Roll L l) (all : List KeyValue) (b : List ℕ) → Sees m all b → m.end ≡ head_size l.WORD + sum (map (record_size l.WORD) all)
seen_end {l = l} m all b sees = sees.of.ends ∙ end_sum (head_size l.WORD) (map (record_size l.WORD) all)

-- one more size
sum_more : (f : KeyValue → ℕ) (rs : List KeyValue) (r : KeyValue) → sum (map f (rs ++ r ∷ [])) ≡ sum (map f rs) + f r
sum_more f rs r = ap sum (map-append f rs (r ∷ [])) ∙ sum_by_push (λ (n : ℕ). n) (map f rs) (f r)

-- of one record more
pub end_more : {L : Type 0} {l : Widths L} (i j : Roll L l) (all rest : List KeyValue) (a b : List ℕ) (r : KeyValue) → Sees i all a → Sees j rest b → rest ≡ all ++ r ∷ [] → j.end ≡ i.end + record_size l.WORD r
end_more {l = l} i j all rest a b r before after is =
    let sums : sum (map (record_size l.WORD) rest) ≡ sum (map (record_size l.WORD) (all ++ r ∷ [])) = ap (λ (v : List KeyValue). sum (map (record_size l.WORD) v)) is in
    omega (arith, seen_end i all a before, seen_end j rest b after, sums, sum_more (record_size l.WORD) all r)

-- some records were taken out, and one was added; a pass moves no more bytes than are left
pub end_passed : {L : Type 0} {l : Widths L} (i j : Roll L l) (all rest : List KeyValue) (ms : List Bool) (a b : List ℕ) (r : KeyValue) → length ms ≡ length all → Sees i all a → Sees j rest b → rest ≡ left ms all ++ r ∷ []
    → (j.end + sum (picked ms (map (record_size l.WORD) all)) ≡ i.end + record_size l.WORD r) × (sum (behind ms (map (record_size l.WORD) all)) + sum (picked ms (map (record_size l.WORD) all)) ≤ i.end)
end_passed {l = l} i j all rest ms a b r long before after is =
    let ns : List ℕ = map (record_size l.WORD) all in
    let sums : sum (map (record_size l.WORD) rest) ≡ sum (map (record_size l.WORD) (left ms all ++ r ∷ [])) = ap (λ (v : List KeyValue). sum (map (record_size l.WORD) v)) is in
    let kept : sum (map (record_size l.WORD) (left ms all)) ≡ sum (left ms ns) = ap sum (left-map (record_size l.WORD) ms all) in
    let both : sum (left ms ns) + sum (picked ms ns) ≡ sum ns = left_sum ms ns (long ∙ sym (length-map all (record_size l.WORD))) in (
      omega (arith, seen_end i all a before, seen_end j rest b after, sums, sum_more (record_size l.WORD) (left ms all) r, kept, both),
      omega (arith, seen_end i all a before, both, behind_most ms ns),
    )
