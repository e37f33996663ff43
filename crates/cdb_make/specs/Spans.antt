-- The marks of records, where they lie, and what that is in parts.
use Rattle.std.specs.Prelude.{ℕ, ◌≡◌, ◌-◌, ◌^◌, ◌<◌, ◌≤◌, Bool, true, false, List, ◌++◌, length, map, get_or, slice_index, replicate, ◌+◌, cond, [], ◌∷◌, take, flat_map, sum, ◌*◌, sum_by}
use Rattle.cdb_make.specs.declared.mark.Mark.{Mark}
use Rattle.cdb_make.specs.declared.mark.Mark.TheVariants.{Stays, Found, Gone}
use Rattle.cdb_store.specs.Images.{part}
use Rattle.cdb_make.specs.declared.roll.Picked.{Picked}
use Rattle.cdb_form.specs.Format.{WordPair, pair_bytes, slots_of, pointers_from}

-- ---- The marks of records, in their order: which go, and which a look has found.

abbrev pub is_gone : Mark → Bool
is_gone Stays = false
is_gone Found = false
is_gone Gone = true

abbrev pub is_found : Mark → Bool
is_found Stays = false
is_found Found = true
is_found Gone = false

abbrev pub gone_of : List Mark → List Bool
gone_of ms = map is_gone ms

abbrev pub found_of : List Mark → List Bool
found_of ms = map is_found ms

-- the marks of so many records, of which those stay that have none
abbrev pub all_marks : ℕ → List Mark → List Mark
all_marks n ms = ms ++ replicate (n - length ms) Stays

-- what was found goes
abbrev pub taken : Mark → Mark
taken Stays = Stays
taken Found = Gone
taken Gone = Gone

-- what was found is as if no look had found it
abbrev pub put_back : Mark → Mark
put_back Stays = Stays
put_back Found = Stays
put_back Gone = Gone

-- n is the number of the first that is true, or of all
pub record IsFirstMarked (ms : List Bool) (n : ℕ) : Type 0 where
  pub within : n ≤ length ms
  pub before : (k : ℕ) → k < n → get_or ms k true ≡ false
  pub here : n < length ms → get_or ms n false ≡ true

-- n is the number of the first that is true, or past all if there is none
pub record IsFirstOrPast (ms : List Bool) (n : ℕ) : Type 0 where
  pub before : (k : ℕ) → k < n → get_or ms k false ≡ false
  pub here : n < 2 ^ 64 - 1 → get_or ms n false ≡ true

-- none is true
abbrev pub AreNone : List Bool → Type 0
AreNone ms = (k : ℕ) → get_or ms k false ≡ false

-- each record that was found has this hash, and does not go
pub record HaveHash (hash : ℕ) (hashes : List ℕ) (ms : List Mark) : Type 0 where
  pub each : (k : ℕ) → get_or (found_of ms) k false ≡ true → slice_index hashes k ≡ hash

-- of the marks from one number to before another, those of records that were found say that they go;
-- all others are as they were
pub record IsTakenFrom (from end : ℕ) (old new : List Mark) : Type 0 where
  pub within : (k : ℕ) → from ≤ k → k < end → get_or new k Gone ≡ taken (get_or old k Gone)
  pub before : (k : ℕ) → k < from → get_or new k Gone ≡ get_or old k Gone
  pub behind : (k : ℕ) → end ≤ k → get_or new k Gone ≡ get_or old k Gone

-- the same of marks that are put back
pub record IsPutBackFrom (from end : ℕ) (old new : List Mark) : Type 0 where
  pub within : (k : ℕ) → from ≤ k → k < end → get_or new k Gone ≡ put_back (get_or old k Gone)
  pub before : (k : ℕ) → k < from → get_or new k Gone ≡ get_or old k Gone
  pub behind : (k : ℕ) → end ≤ k → get_or new k Gone ≡ get_or old k Gone

-- ---- Pieces that lie one after another; the marked pieces go.

-- what has no mark
abbrev pub left : {A : Type 0} → List Bool → List A → List A
left [] xs = xs
left (m ∷ ms) [] = []
left (m ∷ ms) (x ∷ xs) = cond m (left ms xs) (x ∷ left ms xs)

-- the same after the first that has a mark
abbrev pub behind : {A : Type 0} → List Bool → List A → List A
behind [] xs = []
behind (m ∷ ms) [] = []
behind (m ∷ ms) (x ∷ xs) = cond m (left ms xs) (behind ms xs)

-- and what has one
abbrev pub picked : {A : Type 0} → List Bool → List A → List A
picked [] xs = []
picked (m ∷ ms) [] = []
picked (m ∷ ms) (x ∷ xs) = cond m (x ∷ picked ms xs) (picked ms xs)

-- the number of marks there are
abbrev pub number : List Bool → ℕ
number [] = 0
number (m ∷ ms) = cond m 1 0 + number ms

-- all marks with some others
abbrev pub or_each : List Bool → List Bool → List Bool
or_each [] ns = []
or_each (m ∷ ms) [] = m ∷ ms
or_each (m ∷ ms) (n ∷ ns) = cond n true m ∷ or_each ms ns

-- where pieces of these sizes begin, the first at `at`, and where the last ends
abbrev pub places_from : ℕ → List ℕ → List ℕ
places_from at [] = []
places_from at (n ∷ ns) = at ∷ places_from (at + n) ns

abbrev pub end_from : ℕ → List ℕ → ℕ
end_from at [] = at
end_from at (n ∷ ns) = end_from (at + n) ns

-- these are the places of pieces of these sizes, from a place on up to `end`
pub record AreOf (from : ℕ) (places : List ℕ) (end : ℕ) (sizes : List ℕ) : Type 0 where
  pub are : places ≡ places_from from sizes
  pub ends : end ≡ end_from from sizes

-- of pieces of some sizes
pub record AreSpans (from : ℕ) (places : List ℕ) (end : ℕ) : Type 0 where
  pub sizes : List ℕ
  pub of : AreOf from places end sizes

-- the same, said of the places alone
pub record AreRising (from : ℕ) (places : List ℕ) (end : ℕ) : Type 0 where
  pub first : get_or places 0 end ≡ from
  pub rises : (k : ℕ) → get_or places k end ≤ get_or places (k + 1) end

-- of the pieces with a mark: first is the number of the first, or past all if there is none, and so many
-- they are and so many bytes they have
pub record IsPicked (from : ℕ) (places : List ℕ) (end : ℕ) (marks : List Bool) (p : Picked) : Type 0 where
  pub first : IsFirstOrPast marks p.first
  pub count : p.count ≡ number marks
  pub size : (sizes : List ℕ) → AreOf from places end sizes → p.size ≡ sum (picked marks sizes)

-- some pieces as bytes, and an image that has them from a place on
abbrev pub joined : List (List ℕ) → List ℕ
joined ps = flat_map (λ p. p) ps

abbrev pub Stand : ℕ → List (List ℕ) → List ℕ → Type 0
Stand from ps b = part from (length (joined ps)) b ≡ joined ps

-- each image comes of an old one: if some pieces were stored in that, the pieces without a mark lie
-- side by side, and the bytes before them are the same
pub record Turns (from : ℕ) (places : List ℕ) (end : ℕ) (marks : List Bool) (old new : List ℕ → Type 0)
    : Type 0 where
  pub each : (b : List ℕ) → new b → (a : List ℕ) × old a × (take from b ≡ take from a)
      × ((ps : List (List ℕ)) → AreOf from places end (map length ps) → Stand from ps a
      → Stand from (left marks ps) b)

-- ---- The file of some records, in the parts that are written.

-- the bytes of a table with these entries
abbrev pub table_bytes : ℕ → List WordPair → List ℕ
table_bytes w es = flat_map (pair_bytes w) (slots_of es)

-- the bytes of the head of tables with these entries, the first of which begins at `end`
abbrev pub head_bytes : ℕ → ℕ → List (List WordPair) → List ℕ
head_bytes w end lists = flat_map (pair_bytes w) (pointers_from w end (map slots_of lists))

-- the place after the last table, two slots an entry, if the first table begins at `end`
abbrev pub tables_end : ℕ → ℕ → List (List WordPair) → ℕ
tables_end w end lists = end + 4 * w * sum_by length lists
