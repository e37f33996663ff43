-- The state of a search and of a walk over bytes in memory, and what each call says of it.
use Rattle.std.specs.Prelude.{ℕ, ◌≡◌, ◌+◌, ◌<◌, ◌≤◌, List, length, drop}
use Rattle.cdb_form.specs.Format.{key_hash, Walked, walk_from, walk_of, with_first}
use Rattle.cdb_read.specs.Lookup.{Found, lookup_of, nothing_found, with_span}
use Rattle.cdb_read.specs.Views.Search.{found_ahead, ProbeInside}
use Rattle.cdb_read.specs.declared.span.Span.{Span}
use Rattle.cdb_read.specs.declared.lookup.probe.Searching.TheVariants.{At}
use Rattle.cdb_read.specs.declared.lookup.probe.Probe.{Probe}
use Rattle.cdb_read.specs.declared.memory.search.Search.{Search}
use Rattle.cdb_read.specs.Views.Walking.{record_in, behind, LiesAt}
use Rattle.cdb_read.specs.declared.span.Pair.{Pair}
use Rattle.cdb_read.specs.declared.memory.walk.RecordArea.{RecordArea}

-- ---- What a search that a caller holds is still to find.

-- the probe at which it is
abbrev pub probe_of : Search → Probe
probe_of s = record { table = record { place = s.table; slots = s.slots }; slot = s.slot; left = s.left }

-- what is left of the look-up of a key
abbrev pub ahead : ℕ → List ℕ → List ℕ → Search → Found
ahead w file key s = found_ahead w file key (At (probe_of s))

-- its table and its slot lie in a file of so many bytes, if it has slots left
abbrev pub IsSearchWithin : ℕ → ℕ → Search → Type 0
IsSearchWithin w size s = 0 < s.left → ProbeInside w size (probe_of s)

-- a search of a key in a file begins
pub record SearchBegins (w : ℕ) (file key : List ℕ) (s : Search) : Type 0 where
  pub hash : s.hash ≡ key_hash key
  pub finds : ahead w file key s ≡ lookup_of w file key
  pub inside : IsSearchWithin w (length file) s

-- a call gave the first value of what was left; the search goes on after it, with fewer slots
pub record SearchGivesSpan (w : ℕ) (file key : List ℕ) (old new : Search) (span : Span) : Type 0 where
  pub first : ahead w file key old ≡ with_span span (ahead w file key new)

pub record Advances (w size : ℕ) (old new : Search) (span : Span) : Type 0 where
  pub value : span.place + span.len ≤ size
  pub hash : new.hash ≡ old.hash
  pub inside : ProbeInside w size (probe_of new)
  pub fewer : new.left < old.left

-- or none, since nothing was left
pub record SearchGivesNone (w : ℕ) (file key : List ℕ) (old new : Search) : Type 0 where
  pub none : ahead w file key old ≡ nothing_found
  pub ended : new.left ≡ 0
  pub hash : new.hash ≡ old.hash

-- the first value of a look-up
pub record HasFirst (file : List ℕ) (looked : Found) (span : Span) : Type 0 where
  pub rest : Found
  pub first : looked ≡ with_span span rest
  pub inside : span.place + span.len ≤ length file

-- ---- What a walk that a caller holds is still to give.

-- the records from the next place to the record end
abbrev pub rest_of : ℕ → List ℕ → RecordArea → Walked
rest_of w file r = walk_from w r.place r.end (drop r.place file)

-- a record is at a place, before the record end and inside the file, and the walk goes on after it
pub record StandsRecord (w : ℕ) (file : List ℕ) (place end : ℕ) (pair : Pair) : Type 0 where
  pub first : walk_from w place end (drop place file)
      ≡ with_first (record_in file pair) (walk_from w (behind pair) end (drop (behind pair) file))
  pub lies : LiesAt w place pair
  pub before : behind pair ≤ end
  pub inside : behind pair ≤ length file

-- a walk over a file begins
pub record WalkBegins (w : ℕ) (file : List ℕ) (r : RecordArea) : Type 0 where
  pub walks : rest_of w file r ≡ walk_of w file
  pub ordered : r.place ≤ r.end

-- a call gave the record at the next place, which lies before the record end and inside the file
pub record WalkGivesRecord (w : ℕ) (file : List ℕ) (old new : RecordArea) (pair : Pair) : Type 0 where
  pub first : rest_of w file old ≡ with_first (record_in file pair) (rest_of w file new)
  pub lies : LiesAt w old.place pair
  pub next : new.place ≡ behind pair
  pub end : new.end ≡ old.end
  pub ordered : new.place ≤ new.end
  pub inside : behind pair ≤ length file
