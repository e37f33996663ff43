-- What the tables of some lists are.
use Rattle.cdb_make.proofs.Words.{AfterWrite, All, List, WordPair, [], ap, arith, flat_map, flat_map-append, get_or, length, length-append, length-flat_map_words, length-slots_of, map, mul-le-mul_left, overwrite, pair_size, refl, slots_of, slots_within, subst, sum_by, sum_by-cons, sym, table_bytes, take, ℕ, ◌*◌, ◌++◌, ◌+◌, ◌<◌, ◌∙◌, ◌∷◌, ◌≡◌, ◌≤◌, ◌⊎◌}
use Rattle.std.proofs.lemmas.List.{nil_from_length, take_more, map_push, append-nil, length-map, get_or-map}
use Rattle.cdb_store.proofs.Parts.{overwrite_nothing}
use Rattle.cdb_make.proofs.Slots.HeadPointers.{sums_within, table_size}

pub length-table_bytes : (w : ℕ) (es : List WordPair) → length (table_bytes w es) ≡ 4 * w * length es
length-table_bytes w es = length-flat_map_words w (slots_of es) ∙ ap (λ (n : ℕ). 2 * w * n) (length-slots_of es) ∙ omega arith

pub length-tables : (w : ℕ) (ls : List (List WordPair)) → length (flat_map (table_bytes w) ls) ≡ 4 * w * sum_by length ls
length-tables w [] = omega arith
length-tables w (l ∷ ls) =
    let ih = length-tables w ls in
    let one : length (table_bytes w l) ≡ 4 * w * length l = length-table_bytes w l in
    let s = ap (λ (n : ℕ). 4 * w * n) (sum_by-cons length l ls) in
    let both : length (table_bytes w l ++ flat_map (table_bytes w) ls) ≡ length (table_bytes w l) + length (flat_map (table_bytes w) ls) = length-append (table_bytes w l) (flat_map (table_bytes w) ls) in
    omega (arith, ih, one, s, both)

-- a table with no entries has no bytes to write
pub nothing_written : (w pos : ℕ) (es : List WordPair) (i : List ℕ → Type 0) → length es ≡ 0 → AfterWrite pos (table_bytes w es) i i
nothing_written w pos es i none =
    let l : length (table_bytes w es) ≡ 0 = length-table_bytes w es ∙ ap (λ (n : ℕ). 4 * w * n) none ∙ omega arith in
    let e : table_bytes w es ≡ [] = nil_from_length (table_bytes w es) l in
    let same : (a : List ℕ) → overwrite a pos (table_bytes w es) ≡ a = λ a. ap (overwrite a pos) e ∙ overwrite_nothing pos a in
    record { no_other = λ b is. (b, is, sym (same b)); none_lost = λ a is. subst i (sym (same a)) is }

-- one table more
pub tables_next : {X : Type 0} (f : X → List WordPair) (w : ℕ) (xs : List X) (i : ℕ) (x : X) → i < length xs → x ≡ get_or xs i x
    → flat_map (table_bytes w) (map f (take i xs)) ++ table_bytes w (f x) ≡ flat_map (table_bytes w) (map f (take (i + 1) xs))
tables_next f w xs i x h is =
    let lists : map f (take (i + 1) xs) ≡ map f (take i xs) ++ f x ∷ [] =
    ap (map f) (take_more xs i x h ∙ ap (λ y. take i xs ++ y ∷ []) (sym is)) ∙ map_push f (take i xs) x in
    sym (ap (flat_map (table_bytes w)) lists ∙ flat_map-append (table_bytes w) (map f (take i xs)) (f x ∷ [])
    ∙ ap (λ t. flat_map (table_bytes w) (map f (take i xs)) ++ t) (append-nil (table_bytes w (f x))))

-- the table of the next list, of `len` entries, has room among all and in the slots and bytes of the longest
pub record HasRoom (w end place total room long size len : ℕ) : Type 0 where
  pub table : size * (2 * len) ≡ 4 * w * len
  pub few : 2 * len ≤ total
  pub within : place + size * (2 * len) ≤ end + total
  pub slots : 2 * len ≤ room
  pub bytes : size * (2 * len) ≤ long

pub table_room : {X : Type 0} (f : X → List WordPair) (w end place slots bytes size len : ℕ) (xs : List X) (i : ℕ) (x : X) → (w ≡ 4) ⊎ (w ≡ 8) → i < length xs → x ≡ get_or xs i x
    → size ≡ pair_size w → len ≡ length (f x) → bytes ≡ pair_size w * slots → All (λ list. 2 * length list ≤ slots) (map f xs)
    → place ≡ end + 4 * w * sum_by length (map f (take i xs)) → HasRoom w end place (4 * w * sum_by length (map f xs)) slots bytes size len
table_room f w end place slots bytes size len xs i x ww h is es el eb all ep =
    let sums = sums_within f (4 * w) xs i x h is in
    let table : size * (2 * len) ≡ 4 * w * len = table_size w size len len es refl in
    let same : 4 * w * len ≡ 4 * w * length (f x) = ap (λ (n : ℕ). 4 * w * n) el in
    let few = slots_within w len ww in
    let lt : i < length (map f xs) = simp length-map (omega arith) in
    let here : get_or (map f xs) i (f x) ≡ f x = get_or-map f xs i x (f x) h ∙ ap f (sym is) in
    let most : 2 * length (get_or (map f xs) i (f x)) ≤ slots = all i (f x) lt in
    let count : length (get_or (map f xs) i (f x)) ≡ len = ap length here ∙ sym el in
    let slots_fit : 2 * len ≤ slots = omega arith in
    let bytes_fit : pair_size w * (2 * len) ≤ pair_size w * slots = mul-le-mul_left (pair_size w) slots_fit in
    let sized : size * (2 * len) ≡ pair_size w * (2 * len) = ap (λ (n : ℕ). n * (2 * len)) es in
    record {
      table = table;
      few = omega (arith, few, sums, same);
      within = omega (arith, sums, same, table, ep);
      slots = slots_fit;
      bytes = omega (arith, bytes_fit, sized, eb);
    }

-- no tables have no bytes to write
pub all_written : (w pos : ℕ) (ls : List (List WordPair)) (i : List ℕ → Type 0) → ls ≡ [] → AfterWrite pos (flat_map (table_bytes w) ls) i i
all_written w pos ls i none =
    let same : (a : List ℕ) → overwrite a pos (flat_map (table_bytes w) ls) ≡ a = λ a. ap (λ v. overwrite a pos (flat_map (table_bytes w) v)) none ∙ overwrite_nothing pos a in
    record { no_other = λ b is. (b, is, sym (same b)); none_lost = λ a is. subst i (sym (same a)) is }
