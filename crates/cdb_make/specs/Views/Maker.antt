-- What a maker holds, and what its calls leave.
use Rattle.std.specs.Prelude.{ℕ, ◌≡◌, ◌≢◌, ◌+◌, ◌-◌, ◌*◌, ◌<◌, ◌≤◌, ◌⊎◌, Bool, true, false, cond, List, [], ◌∷◌, ◌++◌, length, map, sum, sum_by, Result, OnOk, OnErr}
use Rattle.cdb_store.specs.declared.store.Store.{Ghosts}
use Rattle.cdb_store.specs.Images.{KeepsPart, HasNoImage, SameImages}
use Rattle.cdb_store.specs.Reads.{OnlyReads}
use Rattle.cdb_form.specs.declared.width.Width.{Ghosts as Widths}
use Rattle.cdb_form.specs.Format.{file_bytes, file_size, whole_size, key_hash, head_size, KeyValue, record_of, record_size, records_end}
use Rattle.cdb_store.specs.declared.make_fault.MakeFault.{MakeFault}
use Rattle.cdb_store.specs.declared.make_fault.MakeFault.TheVariants.{Broken, Lookup, TooBig, NoMemory, Writing}
use Rattle.cdb_make.specs.declared.candidate.Candidate.{Candidate}
use Rattle.cdb_make.specs.declared.key_at.LookFault.{LookFault}
use Rattle.cdb_make.specs.declared.key_at.LookFault.TheVariants.{Failed, Foreign}
use Rattle.cdb_make.specs.declared.maker.Maker.{Maker}
use Rattle.cdb_make.specs.declared.roll.Roll.{Roll}
use Rattle.cdb_make.specs.Tables.{HeadIsLast, roll_tables}
use Rattle.cdb_make.specs.Unfinished.{IsUnfinished}
use Rattle.cdb_make.specs.Spans.{gone_of, found_of, AreNone, HaveHash, left, picked, behind, or_each}
use Rattle.cdb_make.specs.Rolls.{Sees, LooksAll, fresh}
use Rattle.cdb_make.specs.Chains.{second_hash}
use Rattle.cdb_make.specs.Survivors.{has_key, is_there, count_of, without, behind_first, put_list, put_answer}
use Rattle.cdb_form.specs.declared.mode.Mode.{Mode}
use Rattle.cdb_form.specs.declared.mode.Mode.TheVariants.{Add, Warn, Insert, Replace}
use Rattle.cdb_make.specs.declared.answer.Put.{Put}
use Rattle.cdb_make.specs.declared.answer.Put.TheVariants.{Added, AddedAgain, Present, Replaced}
use Rattle.cdb_make.specs.Views.Roll.{searched, sought_in, marks_in, HasRoom, SameRecords}
use Rattle.cdb_make.specs.Views.Writing.{AreWhole}

-- its store, the greatest size that its file may have, whether it takes records out later, and
-- whether an earlier call broke it
abbrev pub store_of : {S L : Type 0} {s : Ghosts S} {l : Widths L} → Maker S L s l → S
store_of m = m.store

abbrev pub limit_of : {S L : Type 0} {s : Ghosts S} {l : Widths L} → Maker S L s l → ℕ
limit_of m = m.limit

abbrev pub is_lazy : {S L : Type 0} {s : Ghosts S} {l : Widths L} → Maker S L s l → Bool
is_lazy m = m.lazy

abbrev pub is_broken : {S L : Type 0} {s : Ghosts S} {l : Widths L} → Maker S L s l → Bool
is_broken m = m.broken

-- which of its records go, and which a look has found
abbrev pub gone_in : {S L : Type 0} {s : Ghosts S} {l : Widths L} → Maker S L s l → List Bool
gone_in m = gone_of (marks_in m.roll)

abbrev pub found_in : {S L : Type 0} {s : Ghosts S} {l : Widths L} → Maker S L s l → List Bool
found_in m = found_of (marks_in m.roll)

-- the record of a candidate; and its numbers are those by which a roll will find it, and its bytes
-- are the record's, if they are at hand
abbrev pub record_in : Candidate → KeyValue
record_in c = record_of c.key.now c.value.now

pub record IsCandidate {L : Type 0} {l : Widths L} (m : Roll L l) (c : Candidate) : Type 0 where
  pub hash : c.hash ≡ key_hash c.key.now
  pub tag : m.tagged ≡ true → c.number ≡ second_hash c.key.now
  pub whole : AreWhole l.WORD (record_in c) c.bytes.now

-- its store failed; and so that a write failed; and no failure of it was counted
abbrev pub HasStoreFailed : {S L : Type 0} {s : Ghosts S} {l : Widths L} → Maker S L s l
    → Maker S L s l → Type 0
HasStoreFailed {s = s} old new = s.failures old.store < s.failures new.store

pub record HasFailedToWrite {S L : Type 0} {s : Ghosts S} {l : Widths L} (old new : Maker S L s l)
    : Type 0 where
  pub failed : HasStoreFailed old new
  pub unwritten : s.unwritten old.store < s.unwritten new.store

abbrev pub HasNotFailed : {S L : Type 0} {s : Ghosts S} {l : Widths L} → Maker S L s l
    → Maker S L s l → Type 0
HasNotFailed {s = s} old new = s.failures new.store ≡ s.failures old.store

-- every image of a store was one before, or is made of one
pub record ComesFrom (old new : List ℕ → Type 0) : Type 0 where
  pub each : (b : List ℕ) → new b → (a : List ℕ) × old a

-- it came of the other, whatever the call answered: each image of its store comes of an old one and
-- has the head of one, its limit is the same, and room and failures of its store are no less
pub record Follows {S L : Type 0} {s : Ghosts S} {l : Widths L} (old new : Maker S L s l)
    : Type 0 where
  pub comes : ComesFrom (s.image old.store) (s.image new.store)
  pub head : KeepsPart 0 (head_size l.WORD) (s.image old.store) (s.image new.store)
  pub limit : new.limit ≡ old.limit
  pub lazy : new.lazy ≡ old.lazy
  pub room : s.room old.store ≤ s.room new.store
  pub failures : s.failures old.store ≤ s.failures new.store
  pub unwritten : s.unwritten old.store ≤ s.unwritten new.store

-- each image of a store comes of an old one, and of the records that were stored there these are left now
pub record Goes {S L : Type 0} {s : Ghosts S} {l : Widths L} (old new : Maker S L s l)
    (P : List KeyValue → List KeyValue → Type 0) : Type 0 where
  pub each : (b : List ℕ) → s.image new.store b → (a : List ℕ) × s.image old.store a
      × ((all : List KeyValue) → Sees old.roll all a
      → (rest : List KeyValue) × Sees new.roll rest b × P all rest)

-- the records are the same, with the same marks
pub record Stays {S L : Type 0} {s : Ghosts S} {l : Widths L} (old new : Maker S L s l)
    : Type 0 where
  pub same : SameRecords old.roll new.roll
  pub marks : marks_in new.roll ≡ marks_in old.roll
  pub gone : new.roll.gone ≡ old.roll.gone
  pub found : new.roll.found ≡ old.roll.found
  pub broken : new.broken ≡ old.broken
  pub goes : Goes old new (λ all rest. rest ≡ all)

-- one record more, after the others
pub record Adds {S L : Type 0} {s : Ghosts S} {l : Widths L} (old new : Maker S L s l)
    (hash : ℕ) (r : KeyValue) : Type 0 where
  pub goes : Goes old new (λ all rest. rest ≡ all ++ r ∷ [])
  pub gone : gone_in new ≡ gone_in old ++ false ∷ []
  pub found : found_in new ≡ found_in old ++ false ∷ []
  pub hashes : new.roll.hashes.items ≡ old.roll.hashes.items ++ hash ∷ []
  pub searched : searched new.roll ≡ searched old.roll ++ sought_in old.roll r.key ∷ []
  pub gone_size : new.roll.gone.size ≡ old.roll.gone.size
  pub found_size : new.roll.found.size ≡ old.roll.found.size
  pub end : new.roll.end ≡ old.roll.end + record_size l.WORD r
  pub broken : new.broken ≡ old.broken
  pub written : s.written new.store ≡ s.written old.store + record_size l.WORD r

-- why no record was added: memory is wanted and nothing was written, or the store failed
abbrev pub AddFails : (written written₁ failures failures₁ unwritten unwritten₁ : ℕ) → Type 0
    → MakeFault → Type 0
AddFails written written₁ failures failures₁ unwritten unwritten₁ wants NoMemory =
    (written₁ ≡ written) × (failures₁ ≡ failures) × wants
AddFails written written₁ failures failures₁ unwritten unwritten₁ wants Writing =
    (failures < failures₁) × (unwritten < unwritten₁)
AddFails written written₁ failures failures₁ unwritten unwritten₁ wants fault = ⊥

-- a pass over the records with these marks: it moves the records after the first mark that stay
abbrev pub Passes : {S L : Type 0} {s : Ghosts S} {l : Widths L} → Maker S L s l → Maker S L s l
    → List Bool → ℕ → List KeyValue → Type 0
Passes {s = s} {l = l} old new marks more all = s.written new.store
    ≡ s.written old.store + (sum (behind marks (map (record_size l.WORD) all)) + more)

-- those that go were taken out
pub record Compacts {S L : Type 0} {s : Ghosts S} {l : Widths L} (old new : Maker S L s l)
    : Type 0 where
  pub whole : new.broken ≡ false
  pub none : AreNone (gone_in new)
  pub goes : Goes old new (λ all rest. (rest ≡ left (gone_in old) all) × Passes old new (gone_in old) 0 all)
  pub fine : HasNotFailed old new

-- those that go, and those that were found, were taken out, and one was added
pub record Exchanges {S L : Type 0} {s : Ghosts S} {l : Widths L} (old new : Maker S L s l)
    (r : KeyValue) : Type 0 where
  pub whole : new.broken ≡ false
  pub none : AreNone (gone_in new)
  pub goes : Goes old new (λ all rest.
      (rest ≡ left (or_each (gone_in old) (found_in old)) all ++ r ∷ [])
      × Passes old new (or_each (gone_in old) (found_in old)) (record_size l.WORD r) all)

-- some of its records are marked, as they are while no pass was made to its end
abbrev pub IsMarked : {S L : Type 0} {s : Ghosts S} {l : Widths L} → Maker S L s l → Type 0
IsMarked m = 0 < m.roll.gone.count

-- it is broken amid a pass, or those that go and those that were found were taken out
abbrev pub FailsExchanging : {S L : Type 0} {s : Ghosts S} {l : Widths L} → Maker S L s l
    → Maker S L s l → MakeFault → Type 0
FailsExchanging old new Writing =
    ((new.broken ≡ true) × HasStoreFailed old new × IsMarked new)
    ⊎ ((new.broken ≡ false) × AreNone (gone_in new) × HasFailedToWrite old new
    × Goes old new (λ all rest. rest ≡ left (or_each (gone_in old) (found_in old)) all))
FailsExchanging old new fault = ⊥

-- this holds if some byte list is an image
pub record WhereHonest (images : List ℕ → Type 0) (P : Type 0) : Type 0 where
  pub each : (b : List ℕ) → images b → P

-- in an image it holds these records: those of its store that do not go
pub record HoldsIn {S L : Type 0} {s : Ghosts S} {l : Widths L} (m : Maker S L s l)
    (rs : List KeyValue) (b : List ℕ) : Type 0 where
  pub all : List KeyValue
  pub sees : Sees m.roll all b
  pub left : rs ≡ left (gone_in m) all

-- it is whole, and holds these records in each image
pub record Holds {S L : Type 0} {s : Ghosts S} {l : Widths L} (m : Maker S L s l)
    (rs : List KeyValue) : Type 0 where
  pub whole : m.broken ≡ false
  pub each : (b : List ℕ) → s.image m.store b → HoldsIn m rs b

-- it was made in a store: it holds no records, none goes, and the store has a head of a file that is
-- not finished
pub record Begins {S L : Type 0} {s : Ghosts S} {l : Widths L} (store : S) (limit : ℕ)
    (m : Maker S L s l) : Type 0 where
  pub holds : Holds m []
  pub none : m.roll.gone.count ≡ 0
  pub limited : m.limit ≡ limit
  pub head : IsUnfinished l.WORD (s.image m.store)
  pub settled : s.settled m.store
  pub size : s.size m.store ≡ head_size l.WORD
  pub written : s.written m.store ≡ s.written store + head_size l.WORD
  pub room : s.room store ≤ s.room m.store
  pub fine : s.failures m.store ≡ s.failures store

-- its store was read and no more: the records are the same, and the same records go
pub record Rests {S L : Type 0} {s : Ghosts S} {l : Widths L} (old new : Maker S L s l)
    : Type 0 where
  pub was : old.broken ≡ false
  pub whole : new.broken ≡ false
  pub same : SameRecords old.roll new.roll
  pub gone : gone_in new ≡ gone_in old
  pub picked : new.roll.gone ≡ old.roll.gone
  pub limit : new.limit ≡ old.limit
  pub lazy : new.lazy ≡ old.lazy
  pub reads : OnlyReads s old.store new.store

-- it is broken, since it was or since its store has given back bytes that were not written to it
pub record IsBroken {S L : Type 0} {s : Ghosts S} {l : Widths L} (old new : Maker S L s l)
    : Type 0 where
  pub broken : new.broken ≡ true
  pub same : old.broken ≡ true → new ≡ old
  pub cause : (rs : List KeyValue) → Holds old rs → HasNoImage (s.image new.store)

-- what a fault of a look is to its caller, and whether it breaks the maker
abbrev pub look_fault : LookFault → MakeFault
look_fault Failed = Lookup
look_fault Foreign = Broken

abbrev pub is_foreign : LookFault → Bool
is_foreign Failed = false
is_foreign Foreign = true

-- what a look that failed leaves
abbrev pub FailsLooking : {S L : Type 0} {s : Ghosts S} {l : Widths L} → Maker S L s l
    → Maker S L s l → MakeFault → Type 0
FailsLooking old new Broken = IsBroken old new
FailsLooking old new Lookup = Rests old new × HasStoreFailed old new
FailsLooking old new fault = ⊥

-- the records of a key that do not go were found, and are so many
pub record Seeks {S L : Type 0} {s : Ghosts S} {l : Widths L} (old new : Maker S L s l)
    (number : ℕ) (key : List ℕ) (n : ℕ) : Type 0 where
  pub rests : Rests old new
  pub fine : HasNotFailed old new
  pub have : HaveHash number (searched new.roll) (marks_in new.roll)
  pub looks : LooksAll key new.roll (s.image new.store)
  pub count : n ≡ new.roll.found.count

-- if the records are stored, the answer is whether some have a key
pub record IsThere (there : Bool) (k : List ℕ) (rs : List KeyValue) (images : List ℕ → Type 0)
    : Type 0 where
  pub each : (b : List ℕ) → images b → there ≡ is_there k rs

-- the number of records it counts, and the size that their file would have
abbrev pub count_in : {S L : Type 0} {s : Ghosts S} {l : Widths L} → Maker S L s l → ℕ
count_in m = length m.roll.hashes.items - m.roll.gone.count

abbrev pub made_size : {S L : Type 0} {s : Ghosts S} {l : Widths L} → Maker S L s l → ℕ
made_size {l = l} m = (m.roll.end - m.roll.gone.size) + 4 * l.WORD * count_in m

-- what it reports of them: in a broken maker, what it reported before the call that broke it
abbrev pub told_count : {S L : Type 0} {s : Ghosts S} {l : Widths L} → Maker S L s l → ℕ
told_count m = cond m.broken m.counted.count (count_in m)

abbrev pub told_size : {S L : Type 0} {s : Ghosts S} {l : Widths L} → Maker S L s l → ℕ
told_size m = cond m.broken m.counted.size (made_size m)

-- its counts are what they were
pub record SameCounts {S L : Type 0} {s : Ghosts S} {l : Widths L} (old new : Maker S L s l)
    : Type 0 where
  pub count : told_count new ≡ told_count old
  pub size : told_size new ≡ told_size old
  pub limit : new.limit ≡ old.limit

-- whatever a call is for: it came of the other, and what it counts and whether its store failed are as
-- the call answers
pub record Steps {S L T E : Type 0} {s : Ghosts S} {l : Widths L} (old new : Maker S L s l)
    (result : Result T E) : Type 0 where
  pub fine : OnOk result (HasNotFailed old new)
  pub counts : OnErr result (SameCounts old new)
  pub follows : Follows old new

-- they are, if it is broken or no record was found
pub record TellsCounts {S L : Type 0} {s : Ghosts S} {l : Widths L} (old new : Maker S L s l)
    : Type 0 where
  pub count : new.counted.count ≡ told_count old
  pub size : new.counted.size ≡ told_size old
  pub left : new.broken ≡ false → old.roll.found.count ≡ 0 → count_in new ≡ count_in old
  pub left_size : new.broken ≡ false → old.roll.found.count ≡ 0 → made_size new ≡ made_size old
  pub limit : new.limit ≡ old.limit

-- to take out so many bytes a pass is due: it frees more than it moves, and 4 MiB
abbrev pub IsDueFor : {S L : Type 0} {s : Ghosts S} {l : Widths L} → Maker S L s l → ℕ → Type 0
IsDueFor m size = m.roll.end + 4194304 < 2 * size

-- a record more has no room beside those that go: in the file, in the roll or in the store
abbrev pub IsShort : {S L : Type 0} {s : Ghosts S} {l : Widths L} → Maker S L s l → KeyValue
    → Type 0
IsShort {s = s} {l = l} m r = (m.limit < m.roll.end + whole_size l.WORD r
    + 4 * l.WORD * length m.roll.hashes.items)
    ⊎ ((HasRoom m.roll → ⊥) ⊎ (s.room m.store < m.roll.end + record_size l.WORD r))

-- those that go and those that were found go: now, or with a later pass if it is lazy. A pass that a
-- lazy maker makes moves no more bytes than it frees
pub record TakesOut {S L : Type 0} {s : Ghosts S} {l : Widths L} (old new : Maker S L s l)
    : Type 0 where
  pub whole : new.broken ≡ false
  pub goes : Goes old new (λ all rest.
      (left (gone_in new) rest ≡ left (or_each (gone_in old) (found_in old)) all)
      × (old.lazy ≡ false → Passes old new (or_each (gone_in old) (found_in old)) 0 all)
      × (old.lazy ≡ true → s.written new.store + new.roll.end ≤ s.written old.store + old.roll.end)
      × ((s.written new.store ≡ s.written old.store)
      ⊎ (Passes old new (or_each (gone_in old) (found_in old)) 0 all
      × (old.lazy ≡ true → IsDueFor old (old.roll.gone.size + old.roll.found.size)))))

-- it is broken, since its store failed amid a pass
pub record Tears {S L : Type 0} {s : Ghosts S} {l : Widths L} (old new : Maker S L s l)
    (fault : MakeFault) : Type 0 where
  pub is : fault ≡ Writing
  pub broken : new.broken ≡ true
  pub failed : HasStoreFailed old new
  pub marked : IsMarked new

-- it stays whole, and holds what it held
pub record StaysWhole {S L : Type 0} {s : Ghosts S} {l : Widths L} (old new : Maker S L s l)
    : Type 0 where
  pub was : old.broken ≡ false
  pub whole : new.broken ≡ false
  pub holds : (rs : List KeyValue) → Holds old rs → Holds new rs

-- it is lazy, and some of its records go with a later pass
abbrev pub HasGone : {S L : Type 0} {s : Ghosts S} {l : Widths L} → Maker S L s l → Type 0
HasGone m = (m.lazy ≡ true) × (0 < m.roll.gone.count)

-- if none of its records went with a later pass, none does now
abbrev pub MakerKeepsAll : {S L : Type 0} {s : Ghosts S} {l : Widths L} → Maker S L s l
    → Maker S L s l → Type 0
MakerKeepsAll old new = (HasGone old → ⊥) → HasGone new → ⊥

-- its store failed only once it was read with no failure, and the call knew by that what to answer: so
-- no failed look is among these failures
pub record FailsLater {S L A : Type 0} {s : Ghosts S} {l : Widths L} (old new : Maker S L s l)
    (answers : A → List KeyValue → Type 0) : Type 0 where
  pub read : S
  pub reads : OnlyReads s old.store read
  pub fine : s.failures read ≡ s.failures old.store
  pub answer : A
  pub known : (rs : List KeyValue) → Holds old rs → WhereHonest (s.image read) (answers answer rs)
  pub later : s.failures read < s.failures new.store

-- it is broken, since its store failed in such a case: after all looks, and once it had gone so far
pub record IsTorn {S L A : Type 0} {s : Ghosts S} {l : Widths L} (old new : Maker S L s l)
    (some : List KeyValue → Type 0) (answers : A → List KeyValue → Type 0) (so_far : Type 0)
    : Type 0 where
  pub was : old.broken ≡ false
  pub broken : new.broken ≡ true
  pub failed : HasStoreFailed old new
  pub found : (rs : List KeyValue) → Holds old rs
      → WhereHonest (s.image new.store) (some rs)
  pub later : FailsLater old new answers
  pub begun : so_far

-- some have the key, or go with a later pass
abbrev pub HasKey : List ℕ → List KeyValue → Type 0
HasKey key rs = is_there key rs ≡ true

abbrev pub HasGoneOr : {S L : Type 0} {s : Ghosts S} {l : Widths L} → Maker S L s l → List ℕ
    → List KeyValue → Type 0
HasGoneOr m key rs = HasGone m ⊎ HasKey key rs

-- so many have the key; and a put of a record answers so
abbrev pub IsCountOf : List ℕ → ℕ → List KeyValue → Type 0
IsCountOf key count rs = count ≡ count_of key rs

abbrev pub IsAnswerTo : Mode → KeyValue → Put → List KeyValue → Type 0
IsAnswerTo mode r put rs = put ≡ put_answer mode r rs

-- which of these records go after a put of a key, if these go before it
abbrev pub goes_with : Mode → List ℕ → List Bool → List KeyValue → List Bool
goes_with Add key ms rs = ms
goes_with Warn key ms rs = ms
goes_with Insert key ms rs = ms
goes_with Replace key ms rs = or_each ms (fresh key ms rs)

-- it held these records and wrote so many bytes, or those of a pass and then so many. The pass takes
-- out those among all that go then. If it is lazy the pass was due, or in such a case
pub record WritesIn {S L : Type 0} {s : Ghosts S} {l : Widths L} (old new : Maker S L s l)
    (goes : List KeyValue → List Bool) (lone more : ℕ) (short : Type 0) (rs : List KeyValue)
    : Type 0 where
  pub image : List ℕ
  pub was : s.image old.store image
  pub all : List KeyValue
  pub sees : Sees old.roll all image
  pub held : rs ≡ left (gone_in old) all
  pub wrote : (s.written new.store ≡ s.written old.store + lone)
      ⊎ (Passes old new (goes all) more all × (old.lazy ≡ true
      → IsDueFor old (sum (picked (goes all) (map (record_size l.WORD) all))) ⊎ short))

-- a removal of the records of a key that answered so many. An eager maker moves each byte after the
-- first of them once. With what a lazy maker writes, its records end no later than before: so all its
-- removals together move no more bytes than were put
pub record Removes {S L : Type 0} {s : Ghosts S} {l : Widths L} (old new : Maker S L s l)
    (key : List ℕ) (count : ℕ) : Type 0 where
  pub was : old.broken ≡ false
  pub whole : new.broken ≡ false
  pub holds : (rs : List KeyValue) → Holds old rs → Holds new (without key rs)
  pub answer : (rs : List KeyValue) → Holds old rs
      → WhereHonest (s.image new.store) (count ≡ count_of key rs)
  pub written : old.lazy ≡ false → (rs : List KeyValue) → Holds old rs
      → WhereHonest (s.image new.store) (s.written new.store
      ≡ s.written old.store + sum_by (record_size l.WORD) (behind_first (has_key key) rs))
  pub pays : old.lazy ≡ true → (rs : List KeyValue) → Holds old rs
      → WhereHonest (s.image new.store)
      (s.written new.store + new.roll.end ≤ s.written old.store + old.roll.end)
  pub writes : (rs : List KeyValue) → Holds old rs → WhereHonest (s.image new.store)
      (WritesIn old new (goes_with Replace key (gone_in old)) 0 0 ⊥ rs)

-- what one that failed leaves
abbrev pub FailsRemoving : {S L : Type 0} {s : Ghosts S} {l : Widths L} → Maker S L s l
    → Maker S L s l → List ℕ → MakeFault → Type 0
FailsRemoving old new key Broken = IsBroken old new
FailsRemoving old new key Lookup = Rests old new × HasStoreFailed old new
FailsRemoving old new key Writing = IsTorn old new (HasKey key) (IsCountOf key) (IsMarked new)
FailsRemoving old new key fault = ⊥

-- one record more is noted after the others, or none, since memory is wanted or the file with those
-- that go has no room for it
pub record Waits {S L : Type 0} {s : Ghosts S} {l : Widths L} (old new : Maker S L s l)
    (r : KeyValue) : Type 0 where
  pub stays : Stays old new
  pub written : s.written new.store ≡ s.written old.store
  pub fine : HasNotFailed old new
  pub short : IsShort old r

-- a write failed, and the records are the same
pub record FailsToWrite {S L : Type 0} {s : Ghosts S} {l : Widths L} (old new : Maker S L s l)
    (fault : MakeFault) : Type 0 where
  pub is : fault ≡ Writing
  pub stays : Stays old new
  pub failed : HasFailedToWrite old new

-- the records that go and those that were found are gone, now or with a later pass, and one was added:
-- alone after the others, or after a pass
pub record Admits {S L : Type 0} {s : Ghosts S} {l : Widths L} (old new : Maker S L s l)
    (r : KeyValue) : Type 0 where
  pub whole : new.broken ≡ false
  pub goes : Goes old new (λ all rest.
      (left (gone_in new) rest ≡ left (or_each (gone_in old) (found_in old)) all ++ r ∷ [])
      × (old.lazy ≡ false
      → Passes old new (or_each (gone_in old) (found_in old)) (record_size l.WORD r) all)
      × (((s.written new.store ≡ s.written old.store + record_size l.WORD r)
      × (new.roll.end ≡ old.roll.end + record_size l.WORD r))
      ⊎ (Passes old new (or_each (gone_in old) (found_in old)) (record_size l.WORD r) all
      × AreNone (gone_in new))))

-- it wrote the record alone, or was to make a pass: if it is lazy, one was due, or there was no room
abbrev pub IsAlone : {S L : Type 0} {s : Ghosts S} {l : Widths L} → Maker S L s l → Maker S L s l
    → KeyValue → Type 0
IsAlone {s = s} {l = l} old new r =
    (s.written new.store ≡ s.written old.store + record_size l.WORD r)
    ⊎ (old.lazy ≡ true → IsDueFor old (old.roll.gone.size + old.roll.found.size) ⊎ IsShort old r)

-- with the record, and without those that go and those that were found, the file passes the limit
abbrev pub IsOver : {S L : Type 0} {s : Ghosts S} {l : Widths L} → Maker S L s l → KeyValue → Type 0
IsOver {l = l} m r = m.limit + (m.roll.gone.size + m.roll.found.size)
    + 4 * l.WORD * (m.roll.gone.count + m.roll.found.count)
    < m.roll.end + whole_size l.WORD r + 4 * l.WORD * length m.roll.hashes.items

abbrev pub IsWithin : {S L : Type 0} {s : Ghosts S} {l : Widths L} → Maker S L s l → KeyValue
    → Type 0
IsWithin {l = l} m r = m.roll.end + whole_size l.WORD r + 4 * l.WORD * length m.roll.hashes.items
    ≤ m.limit + (m.roll.gone.size + m.roll.found.size)
    + 4 * l.WORD * (m.roll.gone.count + m.roll.found.count)

-- after a pass the record passes the room of the store
abbrev pub PassesRoom : {S L : Type 0} {s : Ghosts S} {l : Widths L} → Maker S L s l → KeyValue
    → Type 0
PassesRoom {s = s} {l = l} m r = s.room m.store + (m.roll.gone.size + m.roll.found.size)
    < m.roll.end + record_size l.WORD r

-- nothing was done
pub record DoesNothing {S L : Type 0} {s : Ghosts S} {l : Widths L} (old new : Maker S L s l)
    : Type 0 where
  pub stays : Stays old new
  pub written : s.written new.store ≡ s.written old.store
  pub fine : HasNotFailed old new

-- what is left if a pass was to take records out, and one was to be added. It is broken only if the
-- store failed amid the pass, or if records were found and a write failed
abbrev pub FailsCompacting : {S L : Type 0} {s : Ghosts S} {l : Widths L} → Maker S L s l
    → Maker S L s l → KeyValue → MakeFault → Type 0
FailsCompacting old new r NoMemory = DoesNothing old new × PassesRoom old r
FailsCompacting old new r Writing =
    ((new.broken ≡ true) × HasStoreFailed old new
    × (IsMarked new ⊎ ((0 < old.roll.found.count) × HasFailedToWrite old new)))
    ⊎ ((new.broken ≡ false) × AreNone (gone_in new) × HasFailedToWrite old new
    × (old.roll.found.count ≡ 0)
    × Goes old new (λ all rest. rest ≡ left (or_each (gone_in old) (found_in old)) all))
FailsCompacting old new r fault = ⊥

-- why no record was added, and what is left then: it would be too big, memory is wanted, or a write
-- failed. If no record was to be replaced, the records are the same
abbrev pub FailsAdmitting : {S L : Type 0} {s : Ghosts S} {l : Widths L} → Maker S L s l
    → Maker S L s l → KeyValue → MakeFault → Type 0
FailsAdmitting old new r TooBig = DoesNothing old new × IsOver old r
FailsAdmitting old new r NoMemory =
    DoesNothing old new × IsWithin old r × (0 < old.roll.found.count → PassesRoom old r)
FailsAdmitting old new r Writing = IsWithin old r
    × ((Stays old new × HasFailedToWrite old new
    × (old.lazy ≡ false → old.roll.found.count ≡ 0))
    ⊎ (((new.broken ≡ true) × HasStoreFailed old new
    × (0 < old.roll.gone.count + old.roll.found.count)
    × (IsMarked new ⊎ ((0 < old.roll.found.count) × HasFailedToWrite old new)))
    ⊎ ((new.broken ≡ false) × AreNone (gone_in new) × HasFailedToWrite old new
    × (old.roll.found.count ≡ 0)
    × Goes old new (λ all rest. rest ≡ left (or_each (gone_in old) (found_in old)) all))))
FailsAdmitting old new r fault = ⊥

-- no record is found any more, and whether one has the key is known
pub record Looks {S L : Type 0} {s : Ghosts S} {l : Widths L} (old new : Maker S L s l)
    (key : List ℕ) (answer : Bool) : Type 0 where
  pub rests : Rests old new
  pub none : AreNone (found_in new)
  pub is : (rs : List KeyValue) → Holds old rs → IsThere answer key rs (s.image new.store)

-- the number of bytes that a put writes: the records that it moves, and its own
abbrev pub put_bytes : ℕ → Mode → KeyValue → List KeyValue → ℕ
put_bytes w Add r rs = record_size w r
put_bytes w Warn r rs = record_size w r
put_bytes w Insert r rs = cond (is_there r.key rs) 0 (record_size w r)
put_bytes w Replace r rs =
    sum_by (record_size w) (behind_first (has_key r.key) rs) + record_size w r

-- and if it makes no pass
abbrev pub lone_bytes : ℕ → Mode → KeyValue → List KeyValue → ℕ
lone_bytes w Add r rs = record_size w r
lone_bytes w Warn r rs = record_size w r
lone_bytes w Insert r rs = cond (is_there r.key rs) 0 (record_size w r)
lone_bytes w Replace r rs = record_size w r

-- its record was not added
abbrev pub is_present : Put → Bool
is_present Present = true
is_present Added = false
is_present AddedAgain = false
is_present (Replaced n) = false

-- in an image: what a put answers and leaves of these records
pub record MeetsIn {S L : Type 0} {s : Ghosts S} {l : Widths L} (m : Maker S L s l) (mode : Mode)
    (r : KeyValue) (put : Put) (rs : List KeyValue) (b : List ℕ) : Type 0 where
  pub all : List KeyValue
  pub sees : Sees m.roll all b
  pub answers : put ≡ put_answer mode r rs
  pub held : rs ≡ left (gone_in m) all
  pub adds : is_present put ≡ false
      → put_list mode r rs ≡ left (or_each (gone_in m) (found_in m)) all ++ r ∷ []
  pub none : is_present put ≡ true → (put_list mode r rs ≡ rs) × (put_bytes l.WORD mode r rs ≡ 0)
  pub there : 0 < m.roll.found.count → is_there r.key rs ≡ true
  pub goes : or_each (gone_in m) (found_in m) ≡ goes_with mode r.key (gone_in m) all
  pub lone : lone_bytes l.WORD mode r rs ≡ cond (is_present put) 0 (record_size l.WORD r)
  pub found : mode ≡ Replace → is_there r.key rs ≡ true → 0 < m.roll.found.count
  pub bytes : is_present put ≡ false → AreNone (gone_in m) → put_bytes l.WORD mode r rs
      ≡ sum (behind (or_each (gone_in m) (found_in m)) (map (record_size l.WORD) all))
      + record_size l.WORD r

-- a put of this record will answer so, unless it fails: those that were found are to go
pub record Meets {S L : Type 0} {s : Ghosts S} {l : Widths L} (old new : Maker S L s l)
    (number : ℕ) (mode : Mode) (r : KeyValue) (put : Put) : Type 0 where
  pub rests : Rests old new
  pub have : HaveHash number (searched new.roll) (marks_in new.roll)
  pub replaces : 0 < new.roll.found.count → mode ≡ Replace
  pub each : (rs : List KeyValue) → Holds old rs → (b : List ℕ) → s.image new.store b
      → MeetsIn new mode r put rs b

-- a put of a record that answered so. With what a lazy maker writes, its records end no later than
-- before but for the new record, which is written after them: so all passes together move no more bytes
-- than were put, but for those of a put that had no room
pub record Puts {S L : Type 0} {s : Ghosts S} {l : Widths L} (old new : Maker S L s l)
    (mode : Mode) (r : KeyValue) (answer : Put) : Type 0 where
  pub was : old.broken ≡ false
  pub whole : new.broken ≡ false
  pub holds : (rs : List KeyValue) → Holds old rs → Holds new (put_list mode r rs)
  pub answers : (rs : List KeyValue) → Holds old rs
      → WhereHonest (s.image new.store) (answer ≡ put_answer mode r rs)
  pub written : old.lazy ≡ false → (rs : List KeyValue) → Holds old rs
      → WhereHonest (s.image new.store)
      (s.written new.store ≡ s.written old.store + put_bytes l.WORD mode r rs)
  pub writes : (rs : List KeyValue) → Holds old rs → WhereHonest (s.image new.store)
      (WritesIn old new (goes_with mode r.key (gone_in old)) (lone_bytes l.WORD mode r rs)
      (record_size l.WORD r) (IsShort old r) rs)
  pub pays : old.lazy ≡ true → (rs : List KeyValue) → Holds old rs
      → WhereHonest (s.image new.store) ((s.written new.store + new.roll.end
      ≤ s.written old.store + old.roll.end + 2 * lone_bytes l.WORD mode r rs) ⊎ IsShort old r)

-- and nothing was written
pub record WritesNothing {S L : Type 0} {s : Ghosts S} {l : Widths L} (old new : Maker S L s l)
    : Type 0 where
  pub stays : StaysWhole old new
  pub written : s.written new.store ≡ s.written old.store

-- the file with the record would pass the limit
abbrev pub IsTooBig : {S L : Type 0} {s : Ghosts S} {l : Widths L} → Maker S L s l → Maker S L s l
    → Mode → KeyValue → Type 0
IsTooBig {s = s} {l = l} old new mode r = (rs : List KeyValue) → Holds old rs
    → WhereHonest (s.image new.store) (old.limit < file_size l.WORD (put_list mode r rs))

-- the key of the record is not in its way, and the file with it would keep the limit
abbrev pub WouldPut : {S L : Type 0} {s : Ghosts S} {l : Widths L} → Maker S L s l → Maker S L s l
    → Mode → KeyValue → Type 0
WouldPut {s = s} {l = l} old new mode r = (rs : List KeyValue) → Holds old rs
    → WhereHonest (s.image new.store)
    ((put_answer mode r rs ≢ Present) × (file_size l.WORD (put_list mode r rs) ≤ old.limit))

-- a replacement that takes records out wants no memory but the store's
abbrev pub WantsRoom : {S L : Type 0} {s : Ghosts S} {l : Widths L} → Maker S L s l → Maker S L s l
    → Mode → KeyValue → Type 0
WantsRoom {s = s} {l = l} old new mode r = (rs : List KeyValue) → Holds old rs → mode ≡ Replace
    → WhereHonest (s.image new.store) (is_there r.key rs ≡ true
    → s.room old.store < records_end l.WORD (put_list mode r rs))

-- the put was to add its record after the others, and to take no record out
abbrev pub OnlyAdds : {S L : Type 0} {s : Ghosts S} {l : Widths L} → Maker S L s l → Maker S L s l
    → Mode → KeyValue → Type 0
OnlyAdds {s = s} old new mode r = (rs : List KeyValue) → Holds old rs
    → WhereHonest (s.image new.store) (put_list mode r rs ≡ rs ++ r ∷ [])

-- the store failed amid a pass, or a write failed that was to replace records of the key
abbrev pub IsHalfway : {S L : Type 0} {s : Ghosts S} {l : Widths L} → Maker S L s l → Maker S L s l
    → Mode → KeyValue → Type 0
IsHalfway {s = s} old new mode r = IsMarked new ⊎ ((mode ≡ Replace) × HasFailedToWrite old new
    × ((rs : List KeyValue) → Holds old rs → WhereHonest (s.image new.store) (HasKey r.key rs)))

-- what a put that failed leaves
abbrev pub FailsPutting : {S L : Type 0} {s : Ghosts S} {l : Widths L} → Maker S L s l
    → Maker S L s l → Mode → KeyValue → MakeFault → Type 0
FailsPutting old new mode r Broken = IsBroken old new
FailsPutting old new mode r Lookup = Rests old new × HasStoreFailed old new × (mode ≢ Add)
FailsPutting old new mode r TooBig =
    WritesNothing old new × IsTooBig old new mode r × HasNotFailed old new
FailsPutting old new mode r NoMemory =
    WritesNothing old new × WantsRoom old new mode r × WouldPut old new mode r
    × HasNotFailed old new
FailsPutting old new mode r Writing =
    ((StaysWhole old new × HasFailedToWrite old new
    × (old.lazy ≡ false → OnlyAdds old new mode r))
    ⊎ (IsTorn old new (HasGoneOr old r.key) (IsAnswerTo mode r) (IsHalfway old new mode r)
    × (HasGone old ⊎ (mode ≡ Replace))))
    × WouldPut old new mode r

-- a pass was made if records go: none goes then, and its store has the others alone
pub record CompactsAll {S L : Type 0} {s : Ghosts S} {l : Widths L} (old new : Maker S L s l)
    : Type 0 where
  pub stays : StaysWhole old new
  pub none : new.roll.gone.count ≡ 0
  pub end : new.roll.end ≡ old.roll.end - old.roll.gone.size
  pub goes : Goes old new (λ all rest.
      (rest ≡ left (gone_in old) all) × Passes old new (gone_in old) 0 all)
  pub lone : (HasGone old → ⊥) → s.written new.store ≡ s.written old.store

-- why no pass was made to its end: if a pass was made, the store failed amid it
abbrev pub FailsCompactingAll : {S L : Type 0} {s : Ghosts S} {l : Widths L} → Maker S L s l
    → Maker S L s l → MakeFault → Type 0
FailsCompactingAll old new Broken = (old.broken ≡ true) × (new ≡ old)
FailsCompactingAll old new Writing =
    HasGone old × (old.broken ≡ false) × (new.broken ≡ true) × HasStoreFailed old new
FailsCompactingAll old new fault = ⊥

-- it takes calls, and where its records would end without those that go
abbrev pub IsUsable : {S L : Type 0} {s : Ghosts S} {l : Widths L} → Maker S L s l → Type 0
IsUsable m = m.broken ≡ false

abbrev pub end_of : {S L : Type 0} {s : Ghosts S} {l : Widths L} → Maker S L s l → ℕ
end_of m = m.roll.end - m.roll.gone.size

-- every image is the file of these records
pub record IsFile (w : ℕ) (rs : List KeyValue) (images : List ℕ → Type 0) : Type 0 where
  pub each : (b : List ℕ) → images b → b ≡ file_bytes w rs

-- in each image the head is an old one, or all tables of the records that the maker has noted are stored
abbrev pub PutsHeadLast : {S L : Type 0} {s : Ghosts S} {l : Widths L} → Maker S L s l
    → (old new : List ℕ → Type 0) → Type 0
PutsHeadLast {l = l} m old new = HeadIsLast l.WORD m.roll.end (roll_tables m.roll) old new

-- a finish that wrote so many bytes: those of a pass if records go, of the tables, and of the head
pub record FinishWrites {S L : Type 0} {s : Ghosts S} {l : Widths L} (m : Maker S L s l) (store : S)
    : Type 0 where
  pub each : (b : List ℕ) → s.image store b → (a : List ℕ) × s.image m.store a
      × ((all : List KeyValue) → Sees m.roll all a → s.written store + end_of m
      ≡ s.written m.store + (sum (behind (gone_in m) (map (record_size l.WORD) all))
      + (head_size l.WORD + made_size m)))
  pub lone : (HasGone m → ⊥)
      → s.written store + end_of m ≡ s.written m.store + (head_size l.WORD + made_size m)

-- why a file was not finished, and what the maker is then. No pass was made if no record goes
abbrev pub FailsFinishing : {S L : Type 0} {s : Ghosts S} {l : Widths L} → Maker S L s l
    → Maker S L s l → MakeFault → Type 0
FailsFinishing old new Broken = (old.broken ≡ true) × (new ≡ old)
FailsFinishing old new NoMemory = CompactsAll old new × HasNotFailed old new
FailsFinishing old new Writing =
    (StaysWhole old new × HasStoreFailed old new)
    ⊎ (HasGone old × (old.broken ≡ false) × (new.broken ≡ true) × HasStoreFailed old new)
FailsFinishing old new fault = ⊥

-- ---- What is left of a store in which no maker was made.

-- if memory was refused, it is as it was and has not failed; else it failed
abbrev pub MakingFault : {S : Type 0} → (S → List ℕ → Type 0) → (S → ℕ) → (S → ℕ) → (S → ℕ)
    → S → S → MakeFault → Type 0
MakingFault image size written failures old new NoMemory =
    SameImages (image old) (image new) × (size new ≡ size old) × (written new ≡ written old)
    × (failures new ≡ failures old)
MakingFault image size written failures old new Writing = failures old < failures new
MakingFault image size written failures old new fault = ⊥
