-- A record that is written piece after piece, after those that a maker notes.
use Rattle.std.specs.Prelude.{ℕ, ◌≡◌, ◌+◌, ◌*◌, ◌≤◌, true, false, List, ◌++◌, length}
use Rattle.cdb_store.specs.declared.store.Store.{Ghosts}
use Rattle.cdb_store.specs.Images.{ImagesHold}
use Rattle.cdb_store.specs.declared.make_fault.MakeFault.{MakeFault}
use Rattle.cdb_store.specs.declared.make_fault.MakeFault.TheVariants.{NoMemory, Writing}
use Rattle.cdb_form.specs.declared.width.Width.{Ghosts as Widths}
use Rattle.cdb_form.specs.Format.{IsRecord, key_hash, pair_bytes, pair_size, record_of, record_size}
use Rattle.cdb_make.specs.declared.long.LongRecord.{LongRecord}
use Rattle.cdb_make.specs.declared.maker.Maker.{Maker}
use Rattle.cdb_make.specs.Chains.{second_hash}
use Rattle.cdb_make.specs.Views.Appending.{full_size}
use Rattle.cdb_make.specs.Views.Maker.{Follows, HasFailedToWrite, HasNotFailed, Stays, StaysWhole}
use Rattle.cdb_make.specs.Views.Roll.{HasRoom}

-- the header and the key of a record whose value has this length, and the first bytes of the value
unfoldable pub begun_bytes : ℕ → List ℕ → ℕ → List ℕ → List ℕ
begun_bytes w key vlen got =
    pair_bytes w (record { first = length key; second = vlen }) ++ key ++ got

-- the number of bytes of such a record once it is whole
abbrev pub long_size : ℕ → List ℕ → ℕ → ℕ
long_size w key vlen = pair_size w + length key + vlen

-- after the records that a maker notes, none of which goes, this much of a record was written, and
-- there is room for the rest of it. The records and the counts of failures are what they were
pub record IsPart {S L : Type 0} {s : Ghosts S} {l : Widths L} (first now : Maker S L s l)
    (key : List ℕ) (vlen : ℕ) (got : List ℕ) (long : LongRecord) : Type 0 where
  pub was : first.broken ≡ false
  pub none : first.roll.gone.count ≡ 0
  pub stays : Stays first now
  pub tagged : now.roll.tagged ≡ first.roll.tagged
  pub follows : Follows first now
  pub fine : HasNotFailed first now
  pub are : IsRecord (record_of key got)
  pub stored : ImagesHold first.roll.end (begun_bytes l.WORD key vlen got) (s.image now.store)
  pub inside : long.end ≤ s.size now.store
  pub written : s.written now.store
      ≡ s.written first.store + record_size l.WORD (record_of key got)
  pub end : long.end ≡ first.roll.end + record_size l.WORD (record_of key got)
  pub last : long.last ≡ first.roll.end + long_size l.WORD key vlen
  pub hash : long.hash ≡ key_hash key
  pub number : now.roll.tagged ≡ true → long.number ≡ second_hash key
  pub room : HasRoom now.roll
  pub fits : full_size first + (long_size l.WORD key vlen + 4 * l.WORD) ≤ first.limit

-- such a record was refused memory, or its store failed: what is held stays
abbrev pub FailsLong : {S L : Type 0} {s : Ghosts S} {l : Widths L} → (old new : Maker S L s l) → MakeFault
    → Type 0
FailsLong old new NoMemory = StaysWhole old new × HasNotFailed old new
FailsLong old new Writing = StaysWhole old new × HasFailedToWrite old new
FailsLong old new fault = ⊥
