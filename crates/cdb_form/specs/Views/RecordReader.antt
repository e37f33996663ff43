-- What a clause reads of a reader of the records of a file.
use Rattle.std.specs.Prelude.{ℕ, ◌^◌, ◌+◌, ◌<◌, List, drop, take, ◌≡◌, ⊤, ◌-◌, max}
use Rattle.cdb_form.specs.Format.{head_size, pair_size, KeyValue, Walked, walk_of, walk_from, record_end, no_walk, with_first}
use Rattle.cdb_form.specs.Views.KnownBytes.{StillFrom, IsKept}
use Rattle.cdb_form.specs.Views.Prefix.{IsStored}
use Rattle.cdb_form.specs.Views.WalkFault.{IsDamage, stopped_by}
use Rattle.cdb_form.specs.declared.record.Record.{Record}
use Rattle.cdb_form.specs.declared.walk.keeping.Keeping.{Keeping}
use Rattle.cdb_form.specs.declared.walk.fault.WalkFault.{WalkFault}
use Rattle.cdb_form.specs.declared.walk.record_area.RecordArea.{RecordArea}
use Rattle.cdb_form.specs.declared.walk.record_reader.RecordReader.{RecordReader}
use Rattle.cdb_form.specs.declared.walk.record_reader.Progress.{Progress}
use Rattle.cdb_form.specs.declared.walk.record_reader.Progress.TheVariants.{AtHead, At, AtEnd, Failed}
use Rattle.cdb_form.specs.Views.Feed.{Feed, FromTo}
use Rattle.cdb_form.specs.Views.Taking.{IsUnread, ReadsFirst, ReadsNoFurther, ReadsNoRecord}

-- the walk of what is unread: of a whole file before its head was read, and then from the next
-- place on
abbrev pub walk_of_rest : ℕ → Progress → List ℕ → Walked
walk_of_rest w AtHead text = walk_of w text
walk_of_rest w (At area) text = walk_from w area.place area.end text
walk_of_rest w AtEnd text = no_walk
walk_of_rest w (Failed fault) text = stopped_by fault

-- how many of the unread bytes precede the record end, or lie in the head
abbrev pub size_of_rest : ℕ → Progress → List ℕ → ℕ
size_of_rest w AtHead text = max (head_size w) (record_end w text)
size_of_rest w (At area) text = area.end - area.place
size_of_rest w AtEnd text = 0
size_of_rest w (Failed fault) text = 0

-- a bound on the bytes that may still be read
abbrev pub bound_of_rest : Progress → ℕ
bound_of_rest AtHead = 2 ^ 64
bound_of_rest (At area) = area.end - area.place
bound_of_rest AtEnd = 0
bound_of_rest (Failed fault) = 0

abbrev pub is_going : Progress → Type 0
is_going AtHead = ⊤
is_going (At area) = ⊤
is_going AtEnd = ⊥
is_going (Failed fault) = ⊥

-- its reader
abbrev pub reader_of : {R L : Type 0} → RecordReader R L → R
reader_of t = t.reader

-- the walk that it is still to give, if these bytes are unread
abbrev pub walk_left : {R L : Type 0} → ℕ → RecordReader R L → List ℕ → Walked
walk_left w t text = walk_of_rest w t.walking text

-- which of the unread bytes follow the record end
abbrev pub behind_end : {R L : Type 0} → ℕ → RecordReader R L → List ℕ → List ℕ
behind_end w t text = drop (size_of_rest w t.walking text) text

-- each record that it gives lowers this bound
abbrev pub bytes_left : {R L : Type 0} → RecordReader R L → ℕ
bytes_left t = bound_of_rest t.walking

-- nothing was read
abbrev pub IsFresh : {R L : Type 0} → RecordReader R L → Type 0
IsFresh t = t.walking ≡ AtHead

-- it has answered neither `None` nor a fault
abbrev pub IsGoing : {R L : Type 0} → RecordReader R L → Type 0
IsGoing t = is_going t.walking

-- it has answered `None`
abbrev pub HasEnded : {R L : Type 0} → RecordReader R L → Type 0
HasEnded t = t.walking ≡ AtEnd

-- it has answered this fault
abbrev pub HasFailed : {R L : Type 0} → RecordReader R L → WalkFault → Type 0
HasFailed t fault = t.walking ≡ Failed fault

-- the next record is whole at hand, as n bytes there, and ends before the record end or at it
pub record HasPeeked {R L : Type 0} (w : ℕ) (held : R → List ℕ) (t : RecordReader R L) (n : ℕ)
    (r : KeyValue) : Type 0 where
  pub area : RecordArea
  pub going : t.walking ≡ At area
  pub begins : IsStored w (take (area.end - area.place) (held t.reader)) n r

-- which bytes of a file follow its head and its records
abbrev pub behind_records : ℕ → List ℕ → List ℕ
behind_records w text = drop (max (head_size w) (record_end w text)) text

-- how many bytes of the head and of one header are still to be read
abbrev pub headers_left : ℕ → Progress → ℕ
headers_left w AtHead = head_size w + pair_size w
headers_left w _ = pair_size w

-- a relation of the bytes that were left before and after a call
abbrev pub Between : {R L : Type 0} → (R → Feed) → (old new : RecordReader R L)
    → (List ℕ → List ℕ → Type 0) → Type 0
Between feed old new P = FromTo (feed old.reader) (feed new.reader) P

-- a call gave a record: the first of the walk that was left, whatever follows what was taken.
-- What follows the record end is still left.
pub record GivesRecord {R L : Type 0} (w : ℕ) (feed : R → Feed) (old new : RecordReader R L)
    (r : KeyValue) : Type 0 where
  pub walk : Between feed old new
      (λ text rest. (walk_left w old text ≡ with_first r (walk_left w new rest))
      × (behind_end w new rest ≡ behind_end w old text))
  pub cut : ReadsFirst r (walk_left w old) (walk_left w new) (feed old.reader) (feed new.reader)
  pub going : IsGoing new
  pub fewer : bytes_left new < bytes_left old

-- the same, of a record of which so much was kept; and of one with this key
abbrev pub GivesKept : {R L : Type 0} → ℕ → (R → Feed) → (old new : RecordReader R L)
    → Keeping → Record → Type 0
GivesKept w feed old new keeping into =
    (r : KeyValue) × IsKept keeping into r × GivesRecord w feed old new r

abbrev pub GivesKey : {R L : Type 0} → ℕ → (R → Feed) → (old new : RecordReader R L)
    → List ℕ → Type 0
GivesKey w feed old new key = (r : KeyValue) × (r.key ≡ key) × GivesRecord w feed old new r

-- a call reported the end: the walk that was left has no record and no damage. What follows the
-- record end is all that is left.
pub record GivesEnd {R L : Type 0} (w : ℕ) (feed : R → Feed) (old new : RecordReader R L) : Type 0
  where
    pub walk : Between feed old new
        (λ text rest. (walk_left w old text ≡ no_walk)
        × (behind_end w new rest ≡ behind_end w old text))
    pub ended : HasEnded new

-- A call answered a fault, as every later one will. One of the file is the damage of the walk that
-- was left, with no record before it; no more was taken than what was left of the head and one
-- header, or the reader is at its end. Whichever fault it is, what was taken is no whole record: the
-- walk that was left has none in it.
pub record Fails {R L : Type 0} (w : ℕ) (feed : R → Feed) (old new : RecordReader R L)
    (fault : WalkFault) : Type 0 where
  pub failed : HasFailed new fault
  pub walk : Between feed old new
      (λ text rest. (IsDamage fault → walk_left w old text ≡ stopped_by fault)
      × StillFrom (size_of_rest w old.walking text) text rest)
  pub part : ReadsNoRecord (walk_left w old) (feed old.reader) (feed new.reader)
  pub unread : IsGoing old → IsUnread (feed new.reader) fault
  pub no_further : IsGoing old → IsDamage fault
      → ReadsNoFurther (headers_left w old.walking) (feed old.reader) (feed new.reader)
