-- What a roll notes.
use Rattle.std.specs.Prelude.{ℕ, ◌≡◌, ◌<◌, true, false, List, length, vec_capacity}
use Rattle.cdb_form.specs.declared.width.Width.{Ghosts as Widths}
use Rattle.cdb_form.specs.Format.{key_hash}
use Rattle.cdb_make.specs.Spans.{all_marks}
use Rattle.cdb_make.specs.Chains.{second_hash, searched_by, sought_by}
use Rattle.cdb_make.specs.Views.Places.{places_in, places_room}
use Rattle.cdb_make.specs.declared.mark.Mark.{Mark}
use Rattle.cdb_make.specs.declared.roll.Roll.{Roll}

-- what becomes of each of its records
abbrev pub marks_in : {L : Type 0} {l : Widths L} → Roll L l → List Mark
marks_in m = all_marks (length m.hashes.items) m.marks.items

-- the numbers by which its records are found, and that of a key
abbrev pub searched : {L : Type 0} {l : Widths L} → Roll L l → List ℕ
searched m = searched_by m.tagged m.tags.items m.hashes.items

abbrev pub sought_in : {L : Type 0} {l : Widths L} → Roll L l → List ℕ → ℕ
sought_in m key = sought_by m.tagged key

-- the number of a key, once a look has begun the tags of a roll that has noted no record
pub record IsSought {L : Type 0} {l : Widths L} (m : Roll L l) (key : List ℕ) (n : ℕ) : Type 0 where
  pub tagged : m.tagged ≡ true → n ≡ second_hash key
  pub first : vec_capacity m.hashes ≡ 0 → n ≡ second_hash key
  pub later : m.tagged ≡ false → 0 < vec_capacity m.hashes → n ≡ key_hash key

-- there is room for one record more
pub record HasRoom {L : Type 0} {l : Widths L} (m : Roll L l) : Type 0 where
  pub hashes : length m.hashes.items < vec_capacity m.hashes
  pub tags : m.tagged ≡ true → length m.tags.items < vec_capacity m.tags
  pub places : length (places_in m.places) < places_room m.places
  pub marks : length m.hashes.items < vec_capacity m.marks

-- the same records are noted
pub record SameRecords {L : Type 0} {l : Widths L} (old new : Roll L l) : Type 0 where
  pub hashes : new.hashes.items ≡ old.hashes.items
  pub searched : searched new ≡ searched old
  pub tagged : 0 < length old.hashes.items → new.tagged ≡ old.tagged
  pub places : places_in new.places ≡ places_in old.places
  pub end : new.end ≡ old.end
