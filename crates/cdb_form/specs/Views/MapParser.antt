-- What a byte is to the parser of a map text, and what it read of a line.
use Rattle.std.specs.Prelude.{Bool, List, None, Option, Some, [], codes, if◌then◌else◌, length, not, ◌*◌, ◌+◌, ◌++◌, ◌||◌, ◌∷◌, ◌≡◌, ◌≤◌, ℕ, IfNone, IfSome, false}
use Rattle.cdb_form.specs.Text.Map.{is_blank, is_newline, BeginsOther, IsIgnoredLine, IsLineOf, Lacks, line_pair}
use Rattle.cdb_form.specs.Views.Source.{Takes, budget}
use Rattle.cdb_form.specs.declared.text.kind.Kind.{Kind}
use Rattle.cdb_form.specs.declared.text.kind.Kind.TheVariants.{Blank, InLine, InWord}
use Rattle.cdb_form.specs.declared.text.source.Source.{Source}
use Rattle.std.specs.List.{AllPass}
use Rattle.cdb_form.specs.Views.Feed.{Feed, IsAtEnd}
use Rattle.cdb_form.specs.Format.{AreBytes, KeyValue}
use Rattle.cdb_form.specs.declared.text.map_parser.LineRead.{LineRead}
use Rattle.cdb_form.specs.declared.text.map_parser.LineRead.TheVariants.{Ignored, Last, LastPair, Pair}

-- true if a byte is of a kind
abbrev pub is_of : Kind → ℕ → Bool
is_of Blank c = is_blank c
is_of InWord c = not (is_blank c || is_newline c)
is_of InLine c = not (is_newline c)

-- the byte that was read after a run, if there is one
abbrev pub stop_bytes : Option ℕ → List ℕ
stop_bytes None = []
stop_bytes (Some c) = c ∷ []

-- what follows a line: a newline, or nothing
abbrev pub line_end : Bool → List ℕ
line_end newline = if newline then codes "\n" else []

-- Bytes of a kind, the first that were left, were put after what was held. They were counted,
-- and took at most one request each.
pub record MovesRun {R : Type 0} (kind : Kind) (feed : R → Feed)
    (old new : Source R) (held holds : List ℕ) : Type 0 where
  pub bytes : List ℕ
  pub takes : Takes feed old new bytes
  pub moved : holds ≡ held ++ bytes
  pub each : AllPass (is_of kind) bytes
  pub are : AreBytes bytes
  pub asks : new.asks ≤ old.asks
  pub spends : budget old ≤ budget new

-- bytes of a kind were read, up to one of another kind, which was read too, or up to the end
pub record ReadsRun {R : Type 0} (kind : Kind) (feed : R → Feed)
    (old new : Source R) (bytes : List ℕ) (stop : Option ℕ) : Type 0 where
  pub each : AllPass (is_of kind) bytes
  pub takes : Takes feed old new (bytes ++ stop_bytes stop)
  pub other : IfSome stop (λ c. is_of kind c ≡ false)
  pub end : IfNone stop (IsAtEnd (feed new.reader))
  pub spends : budget old + 1001 * length (stop_bytes stop) ≤ budget new + 1001

-- how a line ends: with a newline, or at the end of the input
abbrev pub EndsLine : List ℕ → Feed → Type 0
EndsLine [] left = IsAtEnd left
EndsLine (c ∷ bytes) left = c ∷ bytes ≡ codes "\n"

-- A text was read, and how its line ends. The end of the input takes as many requests as a byte.
pub record ReadsToEnding {R : Type 0} (feed : R → Feed) (old new : Source R)
    (text ending : List ℕ) : Type 0 where
  pub takes : Takes feed old new (text ++ ending)
  pub ends : EndsLine ending (feed new.reader)
  pub spends : budget old + 1001 * length ending ≤ budget new + 1001

-- blanks were read, and then a value, up to the end of its line
pub record ReadsValue {R : Type 0} (feed : R → Feed) (old new : Source R)
    (value ending : List ℕ) : Type 0 where
  pub blanks : List ℕ
  pub each : AllPass is_blank blanks
  pub begins : BeginsOther is_blank value
  pub whole : Lacks is_newline value
  pub reads : ReadsToEnding feed old new (blanks ++ value) ending

-- after its first byte a record was read, up to the end of its line
pub record ReadsPair {R : Type 0} (feed : R → Feed) (old new : Source R)
    (first : ℕ) (r : KeyValue) (ending : List ℕ) : Type 0 where
  pub tail : List ℕ
  pub whole : Lacks is_newline tail
  pub pair : line_pair (first ∷ tail) ≡ r
  pub reads : ReadsToEnding feed old new tail ending

-- a line was read, an ignored one or that of a record: with its newline, or to the end of the input
abbrev pub ReadsLine : {R : Type 0} → (R → Feed) → Source R → Source R → KeyValue
    → LineRead → Type 0
ReadsLine feed old new r Ignored =
    (line : List ℕ) × IsIgnoredLine line × ReadsToEnding feed old new line (codes "\n")
ReadsLine feed old new r Last =
    (line : List ℕ) × IsIgnoredLine line × ReadsToEnding feed old new line []
ReadsLine feed old new r Pair =
    (line : List ℕ) × IsLineOf r line × ReadsToEnding feed old new line (codes "\n")
ReadsLine feed old new r LastPair =
    (line : List ℕ) × IsLineOf r line × ReadsToEnding feed old new line []
