-- What a clause reads of a buffered store.
use Rattle.std.specs.Prelude.{ℕ, ◌+◌, max, List, take}
use Rattle.cdb_store.specs.declared.store.Store.{Ghosts}
use Rattle.cdb_store.specs.declared.buffered.BufferedStore.{BufferedStore}
use Rattle.cdb_store.specs.Images.{Over}
use Rattle.cdb_store.specs.Calls.{written_count}

-- the store under it, how many bytes its buffer holds at most, and where the buffer's bytes belong
abbrev pub inner_of : {S : Type 0} {inner : Ghosts S} → BufferedStore S inner → S
inner_of f = f.inner

abbrev pub capacity_of : {S : Type 0} {inner : Ghosts S} → BufferedStore S inner → ℕ
capacity_of f = f.capacity

abbrev pub start_of : {S : Type 0} {inner : Ghosts S} → BufferedStore S inner → ℕ
start_of f = f.pos

-- the number of bytes it has collected
abbrev pub held_of : {S : Type 0} {inner : Ghosts S} → BufferedStore S inner → ℕ
held_of f = f.held

-- what it has collected
abbrev pub bytes_of : {S : Type 0} {inner : Ghosts S} → BufferedStore S inner → List ℕ
bytes_of f = take f.held f.buffer.items

-- its length
abbrev pub size_of : {S : Type 0} {inner : Ghosts S} → BufferedStore S inner → ℕ
size_of {inner = inner} f = max (inner.size f.inner) (f.pos + held_of f)

-- its images: those of the inner store, with what is collected over them
abbrev pub images_of : {S : Type 0} {inner : Ghosts S} → BufferedStore S inner → List ℕ → Type 0
images_of {inner = inner} f = Over f.pos (bytes_of f) (inner.image f.inner)

-- the number of bytes that were written to it
abbrev pub written_of : {S : Type 0} {inner : Ghosts S} → BufferedStore S inner → ℕ
written_of f = written_count f.trace.events
