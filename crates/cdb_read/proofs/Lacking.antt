-- A file none of whose tables has slots, by its pointers.
use Rattle.cdb_read.proofs.Words.{Bool, List, Pointer, [], ap, false, has_slots, head_at, head_size, le-ltb, length, list_any, map, nat_lt, not, pointer_pair, refl, sym, ℕ, ◌&&◌, ◌==◌, ◌||◌, ◌∙◌, ◌∷◌, ◌≡◌, ◌≤◌}
use Rattle.cdb_read.specs.Sound.{lacks_tables}

slots_in : (ps : List Pointer) → list_any (λ (p : Pointer). not (p.slots == 0)) ps ≡ list_any has_slots (map pointer_pair ps)
slots_in [] = refl
slots_in (p ∷ ps) = ap (λ b. not (p.slots == 0) || b) (slots_in ps)

-- what a reader computes of its head and of how many bytes there are
pub tables_lack : (w head size : ℕ) (b : List ℕ) (ps : List Pointer) (some : Bool) → some ≡ list_any (λ (p : Pointer). not (p.slots == 0)) ps → head_at w b ≡ map pointer_pair ps → head ≡ head_size w → size ≡ length b → (nat_lt head size && not some) ≡ lacks_tables w b
unfolding lacks_tables
tables_lack w head size b ps some is known head_is size_is =
    ap (λ s. nat_lt head size && not s) (is ∙ slots_in ps ∙ ap (list_any has_slots) (sym known))
    ∙ ap (λ n. nat_lt n size && not (list_any has_slots (head_at w b))) head_is
    ∙ ap (λ n. nat_lt (head_size w) n && not (list_any has_slots (head_at w b))) size_is

-- a file that ends with its head has tables enough
pub nothing_follows : (w head size : ℕ) (b : List ℕ) → size ≤ head → head ≡ head_size w → size ≡ length b → nat_lt head size ≡ lacks_tables w b
unfolding lacks_tables
nothing_follows w head size b short head_is size_is =
    let no : nat_lt head size ≡ false = le-ltb head size short in
    no ∙ ap (λ v. v && not (list_any has_slots (head_at w b))) (sym no ∙ ap (λ n. nat_lt n size) head_is ∙ ap (λ n. nat_lt (head_size w) n) size_is)
