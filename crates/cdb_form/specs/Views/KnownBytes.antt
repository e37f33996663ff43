-- What a call does to the bytes that a reader has left or a writer holds, if they are known.
use Rattle.std.specs.Io.KnownBytes.{Appends, Consumes}
use Rattle.std.specs.Prelude.{drop, ℕ, List, ◌++◌, Option, ◌≡◌, ⊤, Some, None, Result, OnOk, OnErr}
use Rattle.cdb_form.specs.Format.{KeyValue, walk_of}
use Rattle.cdb_form.specs.declared.record.Record.{Record}
use Rattle.cdb_form.specs.declared.walk.keeping.Keeping.{Keeping}
use Rattle.cdb_form.specs.declared.walk.keeping.Keeping.TheVariants.{Both}
use Rattle.cdb_form.specs.declared.reading.ReadStop.{ReadStop}
use Rattle.cdb_form.specs.declared.reading.ReadStop.TheVariants.{Ended, Failed, Spent, NoMemory}

-- a relation of the bytes before and after
abbrev pub FromTo : Option (List ℕ) → Option (List ℕ) → (List ℕ → List ℕ → Type 0) → Type 0
FromTo None new P = ⊤
FromTo (Some text) None P = ⊥
FromTo (Some text) (Some rest) P = P text rest

-- all bytes from place n on are still there, and no others after them
abbrev pub StillFrom : ℕ → List ℕ → List ℕ → Type 0
StillFrom n text rest = (more : List ℕ) × (rest ≡ more ++ drop n text)

-- known bytes grow by a prefix of some bytes
pub record AppendsPrefix (old new : Option (List ℕ)) (bytes : List ℕ) : Type 0 where
  pub front : List ℕ
  pub more : List ℕ
  pub split : bytes ≡ front ++ more
  pub appended : Appends old new front

-- some bytes were written: all of them, or after a fault a prefix of them
pub record Writes {A E : Type 0} (result : Result A E) (old new : Option (List ℕ))
    (bytes : List ℕ) : Type 0 where
  pub ok : OnOk result (Appends old new bytes)
  pub err : OnErr result (AppendsPrefix old new bytes)

-- ---- What a clause says of a reader that did not give the bytes requested.

-- the reader itself failed, or got as many requests as it may
abbrev pub IsOfReader : ReadStop → Type 0
IsOfReader Failed = ⊤
IsOfReader Spent = ⊤
IsOfReader Ended = ⊥
IsOfReader NoMemory = ⊥

-- bytes of a file were read, and these are all whole records in them
pub record ReadsRecords (w : ℕ) (rs : List KeyValue) (old new : Option (List ℕ)) : Type 0 where
  pub bytes : List ℕ
  pub read : Consumes old new bytes
  pub records : (walk_of w bytes).records ≡ rs

-- what was kept of a record that was read
pub record IsKept (keeping : Keeping) (into : Record) (r : KeyValue) : Type 0 where
  pub key : r.key ≡ into.key.items
  pub value : keeping ≡ Both → r.value ≡ into.value.items
