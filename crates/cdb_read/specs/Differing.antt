-- What writing a difference leaves, and what clauses read of the types of this crate.
use Rattle.std.specs.Prelude.{ℕ, ◌≡◌, ◌<◌, ◌==◌, ◌&&◌, ◌⊎◌, ⊤, Bool, false, not, List, [], ◌∷◌, ◌++◌, map, flat_map, Option, None, Some, Result, OnOk, IfErr, ◌-◌, if◌then◌else◌, nat_le, ◌≢◌, ◌*◌, ◌/◌, ◌%◌, ◌^◌, true, bit_xor, fold, get_or, ◌≤◌, ◌+◌}
use Rattle.std.specs.Io.KnownBytes.{Appends}
use Rattle.cdb_store.specs.declared.store.Store.{Ghosts}
use Rattle.cdb_store.specs.Reads.{OnlyReads}
use Rattle.cdb_form.specs.Format.{KeyValue, record_of, walk_of, Walked, damaged, no_walk, with_first, with_records}
use Rattle.cdb_form.specs.Text.Parse.{Change, Putting, Removing, amending_text, change_line}
use Rattle.cdb_form.specs.Views.KnownBytes.{AppendsPrefix}
use Rattle.cdb_form.specs.declared.damage.Damage.{Damage}
use Rattle.cdb_form.specs.declared.damage.Damage.TheVariants as damage
use Rattle.cdb_form.specs.declared.item.ItemKind.{ItemKind}
use Rattle.cdb_form.specs.declared.item.ItemKind.TheVariants as kind
use Rattle.cdb_read.specs.Difference.{all_of, changed_keys, difference, removal_of_new, values_eq, FindsInOrder}
use Rattle.cdb_read.specs.Lookup.{bytes_of, lookup_of, values_of}
use Rattle.cdb_read.specs.declared.fault.ReadFault.{ReadFault}
use Rattle.cdb_read.specs.declared.fault.ReadFault.TheVariants as read
use Rattle.cdb_read.specs.declared.span.Span.{Span}
use Rattle.cdb_read.specs.declared.difference.stop.Stop.{Stop}
use Rattle.cdb_read.specs.declared.difference.stop.Stop.TheVariants.{Own, Other}
use Rattle.cdb_form.specs.declared.width.Width.{Ghosts as Widths}
use Rattle.cdb_read.specs.Views.Finder.{left_in, FindingFails}
use Rattle.cdb_read.specs.Views.Reads.{StoreFails}
use Rattle.cdb_read.specs.declared.fault.ReadFault.TheVariants.{Table, Record, Device}
use Rattle.cdb_read.specs.declared.lookup.finder.Finder.{Finder}
use Rattle.cdb_read.specs.declared.reader.Reader.{Reader}
use Rattle.std.specs.Int.{bit_at}
use Rattle.cdb_read.specs.Views.Walking.{LiesAt, behind, next_place, record_in, size_ahead, walk_ahead}
use Rattle.cdb_read.specs.declared.span.Pair.{Pair}
use Rattle.cdb_read.specs.declared.walking.bookmark.Bookmark.{Bookmark}
use Rattle.cdb_read.specs.declared.difference.in_step.Places.{Places}

-- ---- What writing the difference of two databases leaves, in words of w bytes. An image is one of its
-- store as it is left.

-- ---- a key of a file

-- the values that a look-up gives
abbrev pub values_at : ℕ → List ℕ → List ℕ → List (List ℕ)
values_at w b key = map (bytes_of b) (lookup_of w b key).spans

-- true if the first of some values lies at a place
abbrev pub first_at : ℕ → List Span → Bool
first_at place [] = false
first_at place (span ∷ spans) = span.place == place

-- true if the value at a place is the first of its key, and the key has other values in c
abbrev pub is_first_changed : ℕ → (b c key : List ℕ) → ℕ → Bool
is_first_changed w b c key place = first_at place (lookup_of w b key).spans
    && not (values_eq (values_at w b key) (values_at w c key))

-- a put for each value that a look-up gives
abbrev pub puts_at : ℕ → (b key : List ℕ) → List Change
puts_at w b key = map (λ value. Putting (record_of key value)) (values_at w b key)

-- the removal of a key that c lacks
abbrev pub removal_at : ℕ → (c key : List ℕ) → List Change
removal_at w c key = removal_of_new (values_at w c key) key

-- what is written of a key whose values in c are others: its removal; or its puts, and its removal
-- before them if c lacks it
abbrev pub changes_at : ItemKind → ℕ → (b c key : List ℕ) → List Change
changes_at kind.Put w b c key = removal_at w c key ++ puts_at w b key
changes_at kind.Remove w b c key = Removing key ∷ []

-- some record has a key
abbrev pub WalkHasKey : List ℕ → List KeyValue → Type 0
WalkHasKey key rs = (values_of key rs ≡ []) → ⊥

-- a file beside another has a damage, which its walk meets or its look-up of the key of a record of
-- either file
abbrev pub HasDamage : ℕ → (b c : List ℕ) → Damage → Type 0
HasDamage w b c damage = ((walk_of w b).damage ≡ Some damage)
    ⊎ ((key : List ℕ) × (WalkHasKey key (walk_of w b).records ⊎ WalkHasKey key (walk_of w c).records)
    × ((lookup_of w b key).damage ≡ Some damage))

-- in each image of both
abbrev pub InBoth : {S T : Type 0} → Ghosts S → Ghosts T → S → T
    → ((b c : List ℕ) → Type 0) → Type 0
InBoth s t old new P = (b c : List ℕ) → s.image old b → t.image new c → P b c

-- the first of two files has a damage
abbrev pub IsOneDamaged : {S T : Type 0} → ℕ → Ghosts S → Ghosts T → S → T → Damage → Type 0
IsOneDamaged w s t store beside damage =
    InBoth s t store beside (λ b c. HasDamage w b c damage)

-- ---- one pass over a file, beside another

-- the text of some changes, which nothing ends
abbrev pub changes_text : List Change → List ℕ
changes_text changes = flat_map change_line changes

-- the changes of a pass over rs, beside ss
abbrev pub key_changes : ItemKind → (rs ss : List KeyValue) → List ℕ → List Change
key_changes kind.Put rs ss key = all_of ss rs key
key_changes kind.Remove rs ss key = Removing key ∷ []

abbrev pub pass_changes : ItemKind → (rs ss : List KeyValue) → List Change
pass_changes kind rs ss = flat_map (key_changes kind rs ss) (changed_keys rs ss)

abbrev pub pass_of : ItemKind → ℕ → (b c : List ℕ) → List Change
pass_of kind w b c = pass_changes kind (walk_of w b).records (walk_of w c).records

-- the walk has no damage, and some changes were written, those of the pass if both files give each
-- key what their walks give
pub record WritesPass (w : ℕ) (kind : ItemKind) (b c : List ℕ) (start end : Option (List ℕ))
    : Type 0 where
  pub whole : (walk_of w b).damage ≡ None
  pub changes : List Change
  pub written : Appends start end (changes_text changes)
  pub are : FindsInOrder w b → FindsInOrder w c → changes ≡ pass_of kind w b c

-- or a prefix of some
pub record WritesPassPrefix (w : ℕ) (kind : ItemKind) (b c : List ℕ)
    (start end : Option (List ℕ)) : Type 0 where
  pub changes : List Change
  pub written : AppendsPrefix start end (changes_text changes)
  pub are : FindsInOrder w b → FindsInOrder w c
      → AppendsPrefix start end (changes_text (pass_of kind w b c))

-- why a file is not read any more, or the writer not written to: the store failed, or it has a
-- damage of some kind; or the writer did
abbrev pub ReadingStops : {S : Type 0} → Ghosts S → (old new : S) → (Damage → Type 0)
    → (failed : Type 0) → ReadFault → Type 0
ReadingStops s old new P failed read.Device = s.failures old < s.failures new
ReadingStops s old new P failed (read.Table n) = P (damage.Table n)
ReadingStops s old new P failed (read.Record place) = P (damage.Record place)
ReadingStops s old new P failed read.NoMemory = ⊤
ReadingStops s old new P failed read.Output = failed
ReadingStops s old new P failed fault = ⊥

-- which of the two it is
abbrev pub StopsBy : {S T : Type 0} → Ghosts S → Ghosts T → (own own_now : S) → (other other_now : T)
    → (mine theirs : Damage → Type 0) → (failed : Type 0) → Stop → Type 0
StopsBy s t own own_now other other_now mine theirs failed (Own fault) =
    ReadingStops s own own_now mine failed fault
StopsBy s t own own_now other other_now mine theirs failed (Other fault) =
    ReadingStops t other other_now theirs failed fault

-- a pass stopped
abbrev pub DifferenceStops : {S T : Type 0} → ℕ → Ghosts S → Ghosts T → (own own_now : S)
    → (other other_now : T) → (failed : Type 0) → Stop → Type 0
DifferenceStops w s t own own_now other other_now failed =
    StopsBy s t own own_now other other_now (IsOneDamaged w s t own_now other_now)
    (IsOneDamaged w t s other_now own_now) failed

-- the look-up of a key has a damage in a store
abbrev pub LookHas : {S : Type 0} → ℕ → Ghosts S → S → (key : List ℕ) → Damage → Type 0
LookHas w s store key damage = (b : List ℕ) → s.image store b
    → (lookup_of w b key).damage ≡ Some damage

-- or that of a key at a place in the first of two files
abbrev pub OwnLookHas : {S : Type 0} → ℕ → Ghosts S → S → Span → Damage → Type 0
OwnLookHas w s store key damage = (b : List ℕ) → s.image store b
    → (lookup_of w b (bytes_of b key)).damage ≡ Some damage

abbrev pub OtherLookHas : {S T : Type 0} → ℕ → Ghosts S → Ghosts T → S → T → Span → Damage → Type 0
OtherLookHas w s t own other key damage =
    InBoth s t own other (λ b c. (lookup_of w c (bytes_of b key)).damage ≡ Some damage)

-- ---- the whole text

-- the difference of two files
abbrev pub difference_of : ℕ → (b c : List ℕ) → List Change
difference_of w b c = difference (walk_of w b).records (walk_of w c).records

-- neither walk has a damage, and an amending text was written, that of the difference if both files
-- give each key what their walks give
pub record WritesDifference (w : ℕ) (b c : List ℕ) (start end : Option (List ℕ)) : Type 0 where
  pub old_whole : (walk_of w b).damage ≡ None
  pub new_whole : (walk_of w c).damage ≡ None
  pub changes : List Change
  pub written : Appends start end (amending_text changes)
  pub are : FindsInOrder w b → FindsInOrder w c → changes ≡ difference_of w b c

-- or a prefix of one
pub record WritesDifferencePrefix (w : ℕ) (b c : List ℕ) (start end : Option (List ℕ)) : Type 0 where
  pub changes : List Change
  pub written : AppendsPrefix start end (amending_text changes)
  pub are : FindsInOrder w b → FindsInOrder w c
      → AppendsPrefix start end (amending_text (difference_of w b c))

-- what writing it leaves, of two files that were opened
pub record SaysDifference {S T : Type 0} (w : ℕ) (s : Ghosts S) (t : Ghosts T) (old old_now : S)
    (new new_now : T) (start end : Option (List ℕ)) (failed : Type 0) (result : Result Unit Stop)
    : Type 0 where
  pub old_reads : OnlyReads s old old_now
  pub new_reads : OnlyReads t new new_now
  pub ok : OnOk result (InBoth s t old_now new_now (λ b c. WritesDifference w b c start end))
  pub err : IfErr result (DifferenceStops w s t old old_now new new_now failed)
  pub front : IfErr result (λ stop.
      InBoth s t old_now new_now (λ b c. WritesDifferencePrefix w b c start end))

-- ---- Why values of two files were not compared.

-- one of the stores failed
abbrev pub BytesStop : {S T : Type 0} → Ghosts S → Ghosts T → (own own_now : S)
    → (other other_now : T) → Stop → Type 0
BytesStop s t own own_now other other_now (Own fault) = StoreFails s own own_now fault
BytesStop s t own own_now other other_now (Other fault) = StoreFails t other other_now fault

-- what a finder had left has a damage
abbrev pub LeftHas : {S L : Type 0} {s : Ghosts S} {l : Widths L} → ℕ → (old new : Finder S L s l)
    → Damage → Type 0
LeftHas {s = s} w old new damage =
    (b : List ℕ) → s.image new.reader.now.store b → (left_in w b old).damage ≡ Some damage

-- a finder's store failed, or what it had left has a damage
abbrev pub ComparingStops : {S L : Type 0} {s : Ghosts S} {l : Widths L} → ℕ → (old new : Finder S L s l)
    → ReadFault → Type 0
ComparingStops {s = s} w old new Device =
    s.failures old.reader.now.store < s.failures new.reader.now.store
ComparingStops w old new (Table n) = LeftHas w old new (damage.Table n)
ComparingStops w old new (Record place) = LeftHas w old new (damage.Record place)
ComparingStops w old new fault = ⊥

-- this happened at one of two finders
abbrev pub ValuesStop : {S T L : Type 0} {s : Ghosts S} {t : Ghosts T} {l : Widths L} → ℕ
    → (own own_now : Finder S L s l) → (other other_now : Finder T L t l) → Stop → Type 0
ValuesStop w own own_now other other_now (Own fault) = ComparingStops w own own_now fault
ValuesStop w own own_now other other_now (Other fault) = ComparingStops w other other_now fault

-- the other finder's next value wasn't given
abbrev pub OtherStops : {T L : Type 0} {t : Ghosts T} {l : Widths L} → ℕ
    → (other other_now : Finder T L t l) → Stop → Type 0
OtherStops w other other_now (Own fault) = ⊥
OtherStops w other other_now (Other fault) = FindingFails w other other_now fault

-- ---- How far ahead the first value of a key is.

-- the number of bytes that a place is after another; one that is before it is the farthest
abbrev pub bytes_between : (from to : ℕ) → ℕ
bytes_between from to = if nat_le from to then to - from else 18446744073709551615

-- how far after a place the first of some values is; none is the farthest
abbrev pub first_after : ℕ → List Span → ℕ
first_after from [] = 18446744073709551615
first_after from (span ∷ spans) = bytes_between from span.place

-- and the first value of a key of c that is not long, in b
abbrev pub ahead_of : ℕ → (b c : List ℕ) → (from : ℕ) → (key : Span) → ℕ
ahead_of w b c from key =
    if nat_le key.len 4096 then first_after from (lookup_of w b (bytes_of c key)).spans
    else 18446744073709551615

-- ---- What the calls of readers and finders leave as it was.

-- it only read its store: it is over the same reader and of the same key
pub record LooksOn {S L : Type 0} {s : Ghosts S} {l : Widths L} (old new : Finder S L s l)
    : Type 0 where
  pub reader : new.reader.ghost_name ≡ old.reader.ghost_name
  pub key : new.key.now ≡ old.key.now
  pub reads : OnlyReads s old.reader.now.store new.reader.now.store

-- and its search is where it was
pub record StaysAt {S L : Type 0} {s : Ghosts S} {l : Widths L} (old new : Finder S L s l)
    : Type 0 where
  pub looks : LooksOn old new
  pub searching : new.searching ≡ old.searching

-- the stores of two readers were read and nothing else
pub record ReadBoth {S T L : Type 0} {s : Ghosts S} {t : Ghosts T} {l : Widths L}
    (mine mine_now : Reader S L s l) (theirs theirs_now : Reader T L t l) : Type 0 where
  pub own : OnlyReads s mine.store mine_now.store
  pub other : OnlyReads t theirs.store theirs_now.store

-- ---- Marks of hashes, as the bits of words of 64 bits.

-- true if the mark of a hash is set: hashes with the same low 22 bits share one
unfoldable pub mark_at : List ℕ → ℕ → Bool
mark_at words hash =
    let at = hash % 4194304 in
    bit_at (get_or words (at / 64) 0) (at % 64) == 1

-- the hash h by which a key is marked, and then one more byte
abbrev pub mark_step : ℕ → ℕ → ℕ
mark_step h byte = bit_xor ((h * 2654435761) % 2 ^ 32) byte

-- the hash by which a key is marked, which is not that of the format
abbrev pub mark_hash : List ℕ → ℕ
mark_hash key = fold mark_step 2166136261 key

-- true if the mark of a key is set
abbrev pub is_marked : List ℕ → List ℕ → Bool
is_marked words key = mark_at words (mark_hash key)

-- what was set is set
abbrev pub Grows : (old new : List ℕ) → Type 0
Grows old new = (hash : ℕ) → mark_at old hash ≡ true → mark_at new hash ≡ true

-- each other mark is as it was
abbrev pub KeepsOthers : ℕ → (old new : List ℕ) → Type 0
KeepsOthers hash old new =
    (other : ℕ) → other % 4194304 ≢ hash % 4194304 → mark_at new other ≡ mark_at old other

-- ---- What is left of a walk from its bookmark on, and its next record.

-- what is left
abbrev pub left_from : ℕ → List ℕ → Bookmark → Walked
left_from w b mark = walk_ahead w b mark.walking

-- the record at the next place is the first of what was left
pub record GivesNext {S : Type 0} (w : ℕ) (s : Ghosts S) (store : S) (old new : Bookmark)
    (pair : Pair) : Type 0 where
  pub first : (b : List ℕ) → s.image store b
      → left_from w b old ≡ with_first (record_in b pair) (left_from w b new)
  pub lies : LiesAt w (next_place w old.walking) pair
  pub next : next_place w new.walking ≡ behind pair
  pub inside : behind pair ≤ s.size store
  pub fewer : size_ahead new.walking < size_ahead old.walking

-- nothing is left
abbrev pub GivesNoNext : {S : Type 0} → ℕ → Ghosts S → S → Bookmark → Type 0
GivesNoNext w s store old = (b : List ℕ) → s.image store b → left_from w b old ≡ no_walk

-- the store failed, or what was left is this damage
abbrev pub NextStops : {S : Type 0} → ℕ → Ghosts S → (old new : S) → Bookmark → ReadFault → Type 0
NextStops w s old new mark Device = s.failures old < s.failures new
NextStops w s old new mark (Table n) =
    (b : List ℕ) → s.image new b → left_from w b mark ≡ damaged (damage.Table n)
NextStops w s old new mark (Record place) =
    (b : List ℕ) → s.image new b → left_from w b mark ≡ damaged (damage.Record place)
NextStops w s old new mark fault = ⊥

-- ---- Two walks in step, and the keys that they marked.

-- each key that is not marked has the same values in both lists
abbrev pub AgreeUnmarked : List ℕ → (rs ss : List KeyValue) → Type 0
AgreeUnmarked words rs ss =
    (key : List ℕ) → is_marked words key ≡ false → values_of key rs ≡ values_of key ss

-- it has none: the keys of the list are marked
abbrev pub AllMarked : List ℕ → List KeyValue → Type 0
AllMarked words rs = (key : List ℕ) → is_marked words key ≡ false → values_of key rs ≡ []

-- both walks gave some records, and their unmarked keys agree
pub record InStep (w : ℕ) (words b c : List ℕ) (left beside : Walked) : Type 0 where
  pub mine : List KeyValue
  pub theirs : List KeyValue
  pub own_all : walk_of w b ≡ with_records mine left
  pub other_all : walk_of w c ≡ with_records theirs beside
  pub agree : AgreeUnmarked words mine theirs

-- so it is in each image, when two walks are at these places
pub record AreInStep {S T : Type 0} (w : ℕ) (s : Ghosts S) (t : Ghosts T) (own : S) (other : T)
    (words : List ℕ) (at : Places) : Type 0 where
  pub own_damage : (b : List ℕ) → s.image own b
      → (walk_of w b).damage ≡ (left_from w b at.own).damage
  pub other_damage : (c : List ℕ) → t.image other c
      → (walk_of w c).damage ≡ (left_from w c at.other).damage
  pub in_step : (b c : List ℕ) → s.image own b → t.image other c
      → InStep w words b c (left_from w b at.own) (left_from w c at.other)

-- the number of bytes that are left of both
abbrev pub bytes_ahead : Places → ℕ
bytes_ahead at = size_ahead at.own.walking + size_ahead at.other.walking

-- a record lies inside a file of so many bytes
pub record IsInside (size : ℕ) (pair : Pair) : Type 0 where
  pub value : pair.value.place ≡ pair.key.place + pair.key.len
  pub inside : behind pair ≤ size

-- the next record of the other walk wasn't given
abbrev pub OtherNextStops : {T : Type 0} → ℕ → Ghosts T → (old new : T) → Bookmark → Stop → Type 0
OtherNextStops w t old new mark (Own fault) = ⊥
OtherNextStops w t old new mark (Other fault) = NextStops w t old new mark fault

-- one that is left wasn't given: the store failed, or what is left has this damage
abbrev pub LeftStops : {S : Type 0} → ℕ → Ghosts S → (old new : S) → Bookmark → ReadFault → Type 0
LeftStops w s old new mark Device = s.failures old < s.failures new
LeftStops w s old new mark (Table n) =
    (b : List ℕ) → s.image new b → (left_from w b mark).damage ≡ Some (damage.Table n)
LeftStops w s old new mark (Record place) =
    (b : List ℕ) → s.image new b → (left_from w b mark).damage ≡ Some (damage.Record place)
LeftStops w s old new mark fault = ⊥

-- the other store failed
abbrev pub OtherMarkFails : {T : Type 0} → Ghosts T → (old new : T) → Stop → Type 0
OtherMarkFails t old new (Own fault) = ⊥
OtherMarkFails t old new (Other fault) = StoreFails t old new fault

-- ---- Why a difference stopped, from the other side.

-- the two databases change places
abbrev pub flipped : Stop → Stop
flipped (Own fault) = Other fault
flipped (Other fault) = Own fault
