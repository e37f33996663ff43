-- What a call makes of the database of a handle.
use Rattle.std.specs.Prelude.{ℕ, Bool, true, ◌≡◌, List, [], length, Option, Some, None}
use Rattle.cdb_form.specs.Format.{KeyValue}
use Rattle.cdb_store.specs.BufferedStore.{images_of, inner_of}
use Rattle.cdb_store.specs.Calls.{IsSynced}
use Rattle.cdb_store.specs.FileStore.{calls_of, len_of}
use Rattle.cdb_make.specs.Unfinished.{IsUnfinished}
use Rattle.cdb_make.specs.Views.Maker.{Holds, IsThere, IsFile, WhereHonest, store_of, limit_of, is_lazy, told_count, HasGone}
use Rattle.cdb_c.specs.declared.maker.database.Database.{Database}
use Rattle.cdb_c.specs.declared.maker.database.Database.TheVariants.{Open, Made, Lent}
use Rattle.cdb_c.specs.declared.maker.database.Finished.{Finished}
use Rattle.cdb_c.specs.declared.maker.database.Making.{Making}
use Rattle.cdb_c.specs.declared.maker.handle.Handle.{Handle}
use Rattle.cdb_store.specs.declared.file.FileStore.{FileStore}
use Rattle.cdb_store.specs.declared.real.RealFile.{RealFile}
use Rattle.cdb_store.specs.contracts.real.RealFileRawFile.TheImpl.{ghosts}

-- the maker was this one, and with the maker after it is in this relation
abbrev pub Follow : Making → Option Database → (Making → Making → Type 0) → Type 0
Follow m (Some (Open n)) P = P m n
Follow m new P = ⊥

-- the maker before a call and the maker after it are in this relation; if there was no maker,
-- nothing changed
abbrev pub BetweenCalls : Option Database → Option Database → (Making → Making → Type 0) → Type 0
BetweenCalls None new P = new ≡ None
BetweenCalls (Some Lent) new P = new ≡ Some Lent
BetweenCalls (Some (Made f)) new P = new ≡ Some (Made f)
BetweenCalls (Some (Open m)) new P = Follow m new P

-- a maker holds so many records, and reports so many
pub record IsCount (m : Making) (n : ℕ) : Type 0 where
  pub holds : (rs : List KeyValue) → Holds m.maker rs
      → WhereHonest (images_of (store_of m.maker)) (n ≡ length rs)
  pub told : n ≡ told_count m.maker

-- the number of records that a maker holds; of any other database none is said
abbrev pub HandleCounts : Option Database → ℕ → Type 0
HandleCounts (Some (Open m)) n = IsCount m n
HandleCounts old n = n ≡ 0

-- the number of bytes that the file of a maker has, as its store counts them; of any other database none is said
abbrev pub HandleWrote : Option Database → ℕ → Type 0
HandleWrote (Some (Open m)) n = n ≡ len_of (inner_of (store_of m.maker))
HandleWrote old n = n ≡ 0

-- there is no maker
abbrev pub HasNoMaker : Option Database → Type 0
HasNoMaker None = Unit {0}
HasNoMaker (Some Lent) = Unit {0}
HasNoMaker (Some (Made f)) = Unit {0}
HasNoMaker (Some (Open m)) = ⊥

-- there is a maker, and it is new: it holds no records, takes records out later, none goes yet, and
-- its file may have less than 4 GiB; and the system was requested to sync its head
pub record IsNew (m : Making) : Type 0 where
  pub holds : Holds m.maker []
  pub head : IsUnfinished 4 (images_of (store_of m.maker))
  pub limit : limit_of m.maker ≡ 4294967295
  pub lazy : is_lazy m.maker ≡ true
  pub none : HasGone m.maker → ⊥
  pub synced : IsSynced (calls_of (inner_of (store_of m.maker)))

abbrev pub HasNewMaker : Option Database → Type 0
HasNewMaker None = ⊥
HasNewMaker (Some Lent) = ⊥
HasNewMaker (Some (Made f)) = ⊥
HasNewMaker (Some (Open m)) = IsNew m

-- the answer is whether some record that the maker held has the key
pub record FindsKey (there : Bool) (key : List ℕ) (m n : Making) : Type 0 where
  pub each : (rs : List KeyValue) → Holds m.maker rs
      → IsThere there key rs (images_of (store_of n.maker))

-- the finished file is that of the records which the maker held, and the system was requested to sync it
pub record IsFileOfHandle (m : Making) (f : Finished) : Type 0 where
  pub file : (rs : List KeyValue) → Holds m.maker rs → IsFile 4 rs (images_of f.store)
  pub synced : IsSynced (calls_of (inner_of f.store))

-- there was a maker, and now there is its finished file
abbrev pub IsHandleFinished : Option Database → Option Database → Type 0
IsHandleFinished (Some (Open m)) (Some (Made f)) = IsFileOfHandle m f
IsHandleFinished old new = ⊥

-- ---- What a handle holds.

-- its database, if it has one
abbrev pub kept_in : Handle → Option Database
kept_in h = h.address.kept

-- ---- The file of a database that is given up.

-- the file of a database, with the calls that were made of it: that of its maker, or the finished one
abbrev pub file_in : Database → Option (FileStore RealFile ghosts)
file_in (Open m) = Some (inner_of (store_of m.maker))
file_in (Made f) = Some (inner_of f.store)
file_in Lent = None

-- and that of a handle, if it has one
abbrev pub file_of_kept : Option Database → Option (FileStore RealFile ghosts)
file_of_kept None = None
file_of_kept (Some d) = file_in d
