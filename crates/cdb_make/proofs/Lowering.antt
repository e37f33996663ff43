-- The entries of records of which some were taken out.
use Rattle.cdb_make.proofs.Words.{Bool, KeyValue, List, WordPair, [], ap, arith, entries_from, false, key_hash, left, map, record_size, refl, true, ℕ, ◌+◌, ◌-◌, ◌∙◌, ◌∷◌, ◌≡◌, ◌≤◌}
use Rattle.cdb_make.specs.Survivors.{lower, lowered}

-- all entries from a place on, each lower by as much
all_lower : (w d at : ℕ) (rs : List KeyValue) → d ≤ at → entries_from w (at - d) rs ≡ map (lower d) (entries_from w at rs)
unfolding entries_from
all_lower w d at [] h = refl
all_lower w d at (r ∷ rs) h =
    let n = record_size w r in
    let later : entries_from w ((at + n) - d) rs ≡ map (lower d) (entries_from w (at + n) rs) = all_lower w d (at + n) rs (omega arith) in
    let same : (at - d) + n ≡ (at + n) - d = omega arith in
    ap (λ (k : ℕ). let e : WordPair = record { first = key_hash r.key; second = at - d } in e ∷ entries_from w k rs) same
    ∙ ap (λ (es : List WordPair). let e : WordPair = record { first = key_hash r.key; second = at - d } in e ∷ es) later

pub left_lower : (w d at : ℕ) (marks : List Bool) (rs : List KeyValue) → d ≤ at
    → entries_from w (at - d) (left marks rs) ≡ lowered d marks (map (record_size w) rs) (entries_from w at rs)
unfolding entries_from
left_lower w d at [] rs h = all_lower w d at rs h
left_lower w d at (m ∷ ms) [] h = refl
left_lower w d at (true ∷ ms) (r ∷ rs) h =
    let n = record_size w r in
    let later : entries_from w ((at + n) - (d + n)) (left ms rs) ≡ lowered (d + n) ms (map (record_size w) rs) (entries_from w (at + n) rs) = left_lower w (d + n) (at + n) ms rs (omega arith) in
    let same : at - d ≡ (at + n) - (d + n) = omega arith in
    ap (λ (k : ℕ). entries_from w k (left ms rs)) same ∙ later
left_lower w d at (false ∷ ms) (r ∷ rs) h =
    let n = record_size w r in
    let later : entries_from w ((at + n) - d) (left ms rs) ≡ lowered d ms (map (record_size w) rs) (entries_from w (at + n) rs) = left_lower w d (at + n) ms rs (omega arith) in
    let same : (at - d) + n ≡ (at + n) - d = omega arith in
    ap (λ (k : ℕ). let e : WordPair = record { first = key_hash r.key; second = at - d } in e ∷ entries_from w k (left ms rs)) same
    ∙ ap (λ (es : List WordPair). let e : WordPair = record { first = key_hash r.key; second = at - d } in e ∷ es) later
