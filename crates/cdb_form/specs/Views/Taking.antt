-- What calls that read take of a reader, and what is then known of the bytes that were left before.
use Rattle.std.specs.Prelude.{ℕ, ◌≡◌, ◌+◌, ◌<◌, ◌≤◌, ◌⊎◌, ◌++◌, List, [], length}
use Rattle.cdb_form.specs.Views.Feed.{Feed, Consumes, FromTo, IsAtEnd}
use Rattle.cdb_form.specs.Format.{head_size, pair_size, head_at, pair_at, KeyValue, Walked, walk_of, walk_from, with_first}
use Rattle.cdb_form.specs.Views.Pairs.{head_pairs, header_pair}
use Rattle.cdb_form.specs.declared.head.Head.{Head}
use Rattle.cdb_form.specs.declared.header.Header.{Header}
use Rattle.cdb_form.specs.declared.reading.ReadStop.{ReadStop}
use Rattle.cdb_form.specs.declared.reading.ReadStop.TheVariants.{Failed, Spent}
use Rattle.cdb_form.specs.declared.reading_whole.Extent.{Extent}
use Rattle.cdb_form.specs.declared.reading_whole.Extent.TheVariants.{All, More}
use Rattle.cdb_form.specs.declared.walk.fault.WalkFault.{WalkFault}
use Rattle.cdb_form.specs.declared.walk.fault.WalkFault.TheVariants.{Input}
use Rattle.cdb_form.specs.declared.walk.keeping.Keeping.{Keeping}
use Rattle.cdb_form.specs.declared.walk.keeping.Keeping.TheVariants.{Both}

-- why fewer than n bytes came, of a reader that might get so many requests: it failed, or no request is left.
-- Each request gives a byte, or fails
pub record IsWhy (new : Feed) (n asked asks : ℕ) (stop : ReadStop) : Type 0 where
  pub spent : stop ≡ Spent → asks ≡ 0
  pub used : stop ≡ Spent → new.failed ⊎ (asked < n)
  pub failed : stop ≡ Failed → new.failed

-- a walk was not read on: by its reader only if that failed
abbrev pub IsUnread : (new : Feed) → WalkFault → Type 0
IsUnread new fault = fault ≡ Input → new.failed

-- no more than n bytes were taken
pub record LosesAtMost (old new : Feed) (n : ℕ) : Type 0 where
  pub lost : List ℕ
  pub taken : Consumes old new lost
  pub few : length lost ≤ n

-- fewer than n bytes were taken
pub record LosesFewer (old new : Feed) (n : ℕ) : Type 0 where
  pub lost : List ℕ
  pub taken : Consumes old new lost
  pub few : length lost < n

-- bytes were taken, and the count of bytes went from `from` to `to`
pub record Took (old new : Feed) (from to : ℕ) : Type 0 where
  pub bytes : List ℕ
  pub read : Consumes old new bytes
  pub counted : to ≡ from + length bytes

-- fewer than n bytes were left, and none are left now
pub record ReadsShort (n : ℕ) (old new : Feed) : Type 0 where
  pub few : FromTo old new (λ text rest. length text < n)
  pub end : IsAtEnd new

-- n bytes were taken
pub record Passes (n : ℕ) (old new : Feed) : Type 0 where
  pub bytes : List ℕ
  pub read : Consumes old new bytes
  pub long : length bytes ≡ n

-- all that were left were taken, n bytes at most
pub record GivesAll (n : ℕ) (old new : Feed) (bytes : List ℕ) : Type 0 where
  pub read : Consumes old new bytes
  pub few : length bytes ≤ n
  pub end : IsAtEnd new

-- more than n bytes were left, and those and one more were taken
pub record GivesMore (n : ℕ) (old new : Feed) (bytes : List ℕ) : Type 0 where
  pub read : Consumes old new bytes
  pub long : length bytes ≡ n + 1

-- all that were left were taken, or more than n bytes
abbrev pub Gives : ℕ → Feed → Feed → List ℕ → Extent → Type 0
Gives n old new bytes All = GivesAll n old new bytes
Gives n old new bytes More = GivesMore n old new bytes

-- no more than n bytes were taken, or none are left
abbrev pub ReadsNoFurther : ℕ → Feed → Feed → Type 0
ReadsNoFurther n old new = LosesAtMost old new n ⊎ IsAtEnd new

-- bytes were taken: whatever follows them, the walk of both is a record and then that of the
-- rest
pub record ReadsFirst (r : KeyValue) (walk rest : List ℕ → Walked) (old new : Feed) : Type 0 where
  pub bytes : List ℕ
  pub read : Consumes old new bytes
  pub first : (more : List ℕ) → walk (bytes ++ more) ≡ with_first r (rest more)

-- bytes were taken, and their walk has no whole record
pub record ReadsNoRecord (walk : List ℕ → Walked) (old new : Feed) : Type 0 where
  pub lost : List ℕ
  pub taken : Consumes old new lost
  pub no_record : (walk lost).records ≡ []

-- a head was taken: whatever follows it, the records lie from one place to another
pub record ReadsHead (w place end : ℕ) (old new : Feed) : Type 0 where
  pub head : List ℕ
  pub read : Consumes old new head
  pub walk : (more : List ℕ) → walk_of w (head ++ more) ≡ walk_from w place end more

-- a head was taken, with these pointers
pub record HeadRead (w : ℕ) (old new : Feed) (head : Head) : Type 0 where
  pub bytes : List ℕ
  pub read : Consumes old new bytes
  pub long : length bytes ≡ head_size w
  pub pointers : head_pairs head ≡ head_at w bytes

-- the header of a record was taken, with these lengths
pub record HeaderRead (w : ℕ) (old new : Feed) (header : Header) : Type 0 where
  pub bytes : List ℕ
  pub read : Consumes old new bytes
  pub long : length bytes ≡ pair_size w
  pub lengths : header_pair header ≡ pair_at w bytes

-- n bytes of a value were taken, and kept or not
pub record ValueRead (keeping : Keeping) (n : ℕ) (old new : Feed) (into : List ℕ) : Type 0 where
  pub bytes : List ℕ
  pub kept : keeping ≡ Both → bytes ≡ into
  pub read : Consumes old new bytes
  pub long : length bytes ≡ n

-- the key and the value of a record were taken, with the lengths in its header
pub record BodyRead (old new : Feed) (header : Header) (r : KeyValue) : Type 0 where
  pub read : Consumes old new (r.key ++ r.value)
  pub klen : length r.key ≡ header.klen
  pub vlen : length r.value ≡ header.vlen
