-- What changed between two lists of records: the changes after which the first answers each key as
-- the second does.
use Rattle.std.specs.Prelude.{ℕ, Bool, true, false, not, ◌&&◌, bytes_eq, List, [], ◌∷◌, ◌++◌, map, filter, flat_map, fold, ◌≡◌, ◌+◌, if◌then◌else◌, length, None}
use Rattle.cdb_form.specs.Format.{KeyValue, record_of, head_size, pair_size, record_size, walk_of}
use Rattle.cdb_form.specs.Text.Parse.{Change, Putting, Removing}
use Rattle.cdb_read.specs.Lookup.{values_of, bytes_of, lookup_of}
use Rattle.cdb_read.specs.declared.span.Span.{Span}

-- true if two lists of values are the same
unfoldable pub values_eq : List (List ℕ) → List (List ℕ) → Bool
values_eq [] [] = true
values_eq [] (v ∷ vs) = false
values_eq (u ∷ us) [] = false
values_eq (u ∷ us) (v ∷ vs) = bytes_eq u v && values_eq us vs

-- the keys of some records, each once, in the order of their first records
unfoldable pub first_keys : List KeyValue → List (List ℕ)
first_keys [] = []
first_keys (r ∷ rs) = r.key ∷ filter (λ k. not (bytes_eq k r.key)) (first_keys rs)

-- true if a key has other values in ss than in rs; and the keys of rs that have
abbrev pub is_changed : List KeyValue → List KeyValue → List ℕ → Bool
is_changed rs ss key = not (values_eq (values_of key rs) (values_of key ss))

abbrev pub changed_keys : List KeyValue → List KeyValue → List (List ℕ)
changed_keys rs ss = filter (is_changed rs ss) (first_keys rs)

-- a key is put with each of its values, in their order
abbrev pub puts_of : List KeyValue → List ℕ → List Change
puts_of ss key = map (λ value. Putting (record_of key value)) (values_of key ss)

-- a key that had no values is removed as well, before it is put
abbrev pub removal_of_new : List (List ℕ) → List ℕ → List Change
removal_of_new [] key = Removing key ∷ []
removal_of_new (v ∷ vs) key = []

abbrev pub all_of : List KeyValue → List KeyValue → List ℕ → List Change
all_of rs ss key = removal_of_new (values_of key rs) key ++ puts_of ss key

-- each key of rs whose values in ss are others is removed, and then each key of ss whose values in
-- rs are others is put; one that rs lacks is removed before that. So the difference may be done
-- again, and to other records
unfoldable pub difference : List KeyValue → List KeyValue → List Change
difference rs ss =
    map Removing (changed_keys rs ss) ++ flat_map (all_of rs ss) (changed_keys ss rs)

-- the records after a change: a put adds one after the others, a removal takes out all of its key
abbrev pub after_change : List KeyValue → Change → List KeyValue
after_change rs (Putting r) = rs ++ r ∷ []
after_change rs (Removing key) = filter (λ r. not (bytes_eq r.key key)) rs

-- and after some changes, one after the other
abbrev pub amended : List KeyValue → List Change → List KeyValue
amended rs changes = fold after_change rs changes

-- ---- When the look-ups of a file give what its walk gives, in the order of the walk, in words of w
-- bytes.

-- where the value of the record at a place lies
abbrev pub span_of : ℕ → ℕ → KeyValue → Span
span_of w at r = record { place = at + pair_size w + length r.key; len = length r.value }

-- where the values of a key lie among records that follow each other from a place on
unfoldable pub spans_from : ℕ → ℕ → List ℕ → List KeyValue → List Span
spans_from w at key [] = []
spans_from w at key (r ∷ rs) =
    let others = spans_from w (at + record_size w r) key rs in
    if bytes_eq r.key key then span_of w at r ∷ others else others

-- each key has its records of the walk, and no damage
pub record FindsInOrder (w : ℕ) (bytes : List ℕ) : Type 0 where
  pub spans : (key : List ℕ) → (lookup_of w bytes key).spans
      ≡ spans_from w (head_size w) key (walk_of w bytes).records
  pub values : (key : List ℕ) → map (bytes_of bytes) (lookup_of w bytes key).spans
      ≡ values_of key (walk_of w bytes).records
  pub sound : (key : List ℕ) → (lookup_of w bytes key).damage ≡ None
