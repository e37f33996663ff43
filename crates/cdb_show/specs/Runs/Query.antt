-- What a query of a key leaves, in words of w bytes. An image is one of its store as it was returned.
use Rattle.std.specs.Prelude.{ℕ, ◌≡◌, ◌≢◌, ◌-◌, ◌<◌, ◌≤◌, Bool, true, false, nat_le, if◌then◌else◌, List, [], ◌∷◌, ◌++◌, length, take, drop, map, flat_map, codes, Option, None, Some, Result, Ok, Err, OnOk, IfErr}
use Rattle.std.specs.Io.KnownBytes.{Appends, Keeps}
use Rattle.cdb_store.specs.declared.store.Store.{Ghosts}
use Rattle.cdb_command.specs.declared.style.Style.{Style}
use Rattle.cdb_form.specs.Format.{head_size, record_of}
use Rattle.cdb_form.specs.Views.KnownBytes.{AppendsPrefix}
use Rattle.cdb_form.specs.declared.damage.Damage.{Damage}
use Rattle.cdb_form.specs.declared.damage.Damage.TheVariants as damage
use Rattle.cdb_form.specs.declared.width.Width.{Ghosts as Widths}
use Rattle.cdb_read.specs.Lookup.{Found, bytes_of, lookup_of, with_spans}
use Rattle.cdb_read.specs.Views.Finder.{left_in, HasEnded, HasNoTable, HasNoRecord}
use Rattle.cdb_read.specs.declared.lookup.finder.Finder.{Finder}
use Rattle.cdb_read.specs.Views.Reads.{damage_fault}
use Rattle.cdb_store.specs.Reads.{OnlyReads}
use Rattle.cdb_read.specs.declared.fault.ReadFault.TheVariants as read
use Rattle.cdb_read.specs.declared.span.Span.{Span}
use Rattle.cdb_show.specs.Runs.WalkText.{item_of}
use Rattle.cdb_show.specs.declared.fault.Fault.{Fault}
use Rattle.cdb_show.specs.declared.fault.Fault.TheVariants.{Missing, Read, Output}
use Rattle.cdb_show.specs.declared.runs.content.Content.TheVariants.{Records}
use Rattle.cdb_show.specs.declared.runs.shown.Shown.{Shown}
use Rattle.cdb_show.specs.declared.runs.shown.Shown.TheVariants as shown

-- what is requested: all values of a key, or the value of a number, from 1 on, and how each is written
pub record Query : Type 0 where
  pub key : List ℕ
  pub number : Option ℕ
  pub shown : List ℕ → List ℕ

-- the values that are requested
abbrev pub asked_of : Option ℕ → List (List ℕ) → List (List ℕ)
asked_of None values = values
asked_of (Some number) values = take 1 (drop (number - 1) values)

-- a value as it is written, followed by a newline in lines
abbrev pub value_text : Bool → List ℕ → List ℕ
value_text lines value = value ++ (if lines then codes "\n" else [])

-- a value as it is written as a record of this key
abbrev pub record_text : Style → (key value : List ℕ) → List ℕ
record_text style key value = item_of Records style (record_of key value)

-- as the code says it
abbrev pub shown_text : Shown → List ℕ → List ℕ
shown_text (shown.Value lines) = value_text lines
shown_text (shown.Record key style) = record_text style key.now

-- the text of the values at some spans of an image
abbrev pub values_text : (List ℕ → List ℕ) → List ℕ → List Span → List ℕ
values_text shown b spans = flat_map shown (map (bytes_of b) spans)

-- what is written of some spans of an image
abbrev pub spans_text : List ℕ → Query → List Span → List ℕ
spans_text b q spans =
    flat_map q.shown (asked_of q.number (map (bytes_of b) spans))

-- what is written of the values that the key has in an image
abbrev pub query_text : ℕ → List ℕ → Query → List ℕ
query_text w b q = spans_text b q (lookup_of w b q.key).spans

-- true if all is there that is requested: some value, and no damage after the last; or as many values as the number
abbrev pub has_asked : Option ℕ → List Span → Option Damage → Bool
has_asked (Some number) spans damage = nat_le number (length spans)
has_asked None spans (Some damage) = false
has_asked None [] None = false
has_asked None (span ∷ spans) None = true

-- why it isn't
abbrev pub why_missing : Option Damage → Fault
why_missing None = Missing
why_missing (Some damage) = Read (damage_fault damage)

-- the answer
abbrev pub found_answer : Option ℕ → Found → Result Unit Fault
found_answer number found =
    if has_asked number found.spans found.damage then Ok tt else Err (why_missing found.damage)

abbrev pub query_answer : ℕ → List ℕ → Query → Result Unit Fault
query_answer w b q = found_answer q.number (lookup_of w b q.key)

-- the file has a head, in each image this is the answer, and the text was appended
pub record QueryAnswers {S : Type 0} (w : ℕ) (s : Ghosts S) (q : Query) (store : S)
    (start end : Option (List ℕ)) (answer : Result Unit Fault) : Type 0 where
  pub long : head_size w ≤ s.size store
  pub answered : (b : List ℕ) → s.image store b → answer ≡ query_answer w b q
  pub written : (b : List ℕ) → s.image store b → Appends start end (query_text w b q)

-- in each image a prefix of the text was
pub record WritesQueryPrefix {S : Type 0} (w : ℕ) (s : Ghosts S) (q : Query) (store : S)
    (start end : Option (List ℕ)) : Type 0 where
  pub written : (b : List ℕ) → s.image store b → AppendsPrefix start end (query_text w b q)

-- the file has no head: nothing was read, and nothing written
pub record IsShortForQuery {S : Type 0} (w : ℕ) (s : Ghosts S) (old new : S)
    (start end : Option (List ℕ)) : Type 0 where
  pub short : s.size old < head_size w
  pub unread : new ≡ old
  pub kept : Keeps start end

-- what a fault leaves: the text if it is the answer; a prefix of it if the store or the writer failed
abbrev pub QueryFails : {S : Type 0} → ℕ → Ghosts S → Query → (old new : S) → Option (List ℕ)
    → Option (List ℕ) → Fault → Type 0
QueryFails w s q old new start end Missing = QueryAnswers w s q new start end (Err Missing)
QueryFails w s q old new start end (Read read.Short) = IsShortForQuery w s old new start end
QueryFails w s q old new start end (Read (read.Table n)) =
    QueryAnswers w s q new start end (Err (Read (read.Table n)))
QueryFails w s q old new start end (Read (read.Record place)) =
    QueryAnswers w s q new start end (Err (Read (read.Record place)))
QueryFails w s q old new start end (Read read.Device) =
    (s.failures old < s.failures new) × WritesQueryPrefix w s q new start end
QueryFails w s q old new start end Output =
    (head_size w ≤ s.size new) × WritesQueryPrefix w s q new start end
QueryFails w s q old new start end fault = ⊥

-- what a query leaves
pub record Queries {S : Type 0} (w : ℕ) (s : Ghosts S) (q : Query) (old new : S)
    (start end : Option (List ℕ)) (result : Result Unit Fault) : Type 0 where
  pub reads : OnlyReads s old new
  pub ok : OnOk result (QueryAnswers w s q new start end (Ok tt))
  pub err : IfErr result (QueryFails w s q old new start end)

-- ---- the values that a finder has left

-- it gave these spans, and then this damage or none: all their values were written whole
pub record WritesAllValues {S L : Type 0} {s : Ghosts S} {l : Widths L} (w : ℕ) (shown : List ℕ → List ℕ)
    (old new : Finder S L s l) (start end : Option (List ℕ)) (spans : List Span)
    (damage : Option Damage) : Type 0 where
  pub given : (b : List ℕ) → s.image new.reader.now.store b
      → left_in w b old ≡ record { spans = spans; damage = damage }
  pub written : (b : List ℕ) → s.image new.reader.now.store b
      → Appends start end (values_text shown b spans)

abbrev pub in_hand : Option Span → List Span
in_hand None = []
in_hand (Some span) = span ∷ []

-- it has others left: the values that it gave were written whole, but of the last value, if that is
-- still in hand, a prefix
pub record WritesSome {S L : Type 0} {s : Ghosts S} {l : Widths L} (w : ℕ) (shown : List ℕ → List ℕ)
    (old new : Finder S L s l) (start end : Option (List ℕ)) : Type 0 where
  pub spans : List Span
  pub hand : Option Span
  pub before : Option (List ℕ)
  pub given : (b : List ℕ) → s.image new.reader.now.store b
      → left_in w b old ≡ with_spans (spans ++ in_hand hand) (left_in w b new)
  pub written : (b : List ℕ) → s.image new.reader.now.store b
      → Appends start before (values_text shown b spans)
  pub front : (b : List ℕ) → s.image new.reader.now.store b
      → AppendsPrefix before end (values_text shown b (in_hand hand))

-- all values were written, at least one
pub record WritesEach {S L : Type 0} {s : Ghosts S} {l : Widths L} (w : ℕ) (shown : List ℕ → List ℕ)
    (old new : Finder S L s l) (start end : Option (List ℕ)) : Type 0 where
  pub spans : List Span
  pub some : spans ≢ []
  pub all : WritesAllValues w shown old new start end spans None
  pub ended : HasEnded new

-- a damage followed them
pub record WritesToDamage {S L : Type 0} {s : Ghosts S} {l : Widths L} (w : ℕ) (shown : List ℕ → List ℕ)
    (old new : Finder S L s l) (start end : Option (List ℕ)) (found : Damage) : Type 0 where
  pub spans : List Span
  pub all : WritesAllValues w shown old new start end spans (Some found)

-- what a fault leaves
abbrev pub LeftFails : {S L : Type 0} {s : Ghosts S} {l : Widths L} → ℕ
    → (List ℕ → List ℕ) → (old new : Finder S L s l) → Option (List ℕ) → Option (List ℕ) → Fault → Type 0
LeftFails w shown old new start end Missing =
    HasEnded new × WritesAllValues w shown old new start end [] None
LeftFails w shown old new start end (Read (read.Table n)) =
    HasNoTable new n × WritesToDamage w shown old new start end (damage.Table n)
LeftFails w shown old new start end (Read (read.Record place)) =
    HasNoRecord new place × WritesToDamage w shown old new start end (damage.Record place)
LeftFails {s = s} w shown old new start end (Read read.Device) =
    (s.failures old.reader.now.store < s.failures new.reader.now.store)
    × WritesSome w shown old new start end
LeftFails w shown old new start end Output = WritesSome w shown old new start end
LeftFails w shown old new start end fault = ⊥
