-- What a fault of the native parser says of the part of an item that it was reading. `from` is the
-- place of the text's first byte.
use Rattle.std.specs.Char.{digit_value}
use Rattle.std.specs.Prelude.{ℕ, ◌*◌, List, ◌+◌, ◌<◌, [], ◌∷◌, ◌++◌, ◌-◌, take, length, ◌≤◌, ◌≡◌, ⊤, ◌≢◌, Bool, true, false, Option, None, Some, codes}
use Rattle.std.specs.Str.Parse.{AllDigits, digits_value}
use Rattle.cdb_form.specs.Format.{AreBytes}
use Rattle.cdb_form.specs.Text.Parse.{SpellsChange}
use Rattle.cdb_form.specs.Text.Native.{Spells}
use Rattle.cdb_form.specs.Views.TextFault.{IsOfText, LastRead}
use Rattle.cdb_form.specs.declared.item.ItemKind.{ItemKind}
use Rattle.cdb_form.specs.declared.item.ItemKind.TheVariants.{Put, Remove}
use Rattle.cdb_form.specs.declared.text.fault.TextFault.{TextFault}
use Rattle.cdb_form.specs.declared.text.fault.TextFault.TheVariants.{Syntax, Ended, Large, Input, Endless}
use Rattle.cdb_form.specs.Views.Feed.{Feed, Consumes, FromTo}
use Rattle.cdb_form.specs.Views.Taking.{Took}
use Rattle.cdb_form.specs.Views.Source.{IsTold, budget}
use Rattle.cdb_form.specs.declared.text.source.Source.{Source}
use Rattle.cdb_form.specs.Text.Form as form

-- the text that has the fault: all that was unread, or what was read of it if the reader
-- failed
abbrev pub seen : ℕ → ℕ → TextFault → List ℕ → List ℕ
seen from to Input text = take (to - from) text
seen from to Endless text = take (to - from) text
seen from to _ text = text

-- and the fault of that text: if the reader failed, it is as though the text had ended there
abbrev pub told : ℕ → TextFault → TextFault
told to Input = Ended to
told to Endless = Ended to
told to fault = fault

-- digits of a number of at most `greatest` are at the start of the text, and then c
pub record DigitsThen (greatest : ℕ) (text : List ℕ) (c count : ℕ) : Type 0 where
  pub digits : List ℕ
  pub rest : List ℕ
  pub each : AllDigits 10 digits
  pub fits : digits_value 10 digits ≤ greatest
  pub long : length digits ≡ count
  pub text_is : text ≡ digits ++ c ∷ rest
  pub lifts : digit_value c < 10 → greatest < digits_value 10 digits * 10 + digit_value c

-- no numeral of at most `greatest`, followed by `stop`, is at the start of the text
abbrev pub FailsNumber : ℕ → ℕ → ℕ → List ℕ → TextFault → Type 0
FailsNumber greatest stop from text (Syntax at) =
    (c n : ℕ) × DigitsThen greatest text c n × (at ≡ from + n) × (10 ≤ digit_value c)
    × (c ≡ stop → n ≡ 0)
FailsNumber greatest stop from text (Large at) =
    (c n : ℕ) × DigitsThen greatest text c n × (at ≡ from + n) × (digit_value c < 10)
FailsNumber greatest stop from text (Ended at) =
    AllDigits 10 text × (digits_value 10 text ≤ greatest) × (at ≡ from + length text)
FailsNumber greatest stop from text _ = ⊤

-- the byte isn't at the start of the text
abbrev pub FailsByte : ℕ → ℕ → List ℕ → TextFault → Type 0
FailsByte byte from text (Syntax at) =
    (c : ℕ) × (rest : List ℕ) × (text ≡ c ∷ rest) × (c ≢ byte) × (at ≡ from)
FailsByte byte from text (Ended at) = (text ≡ []) × (at ≡ from)
FailsByte byte from text (Large at) = ⊥
FailsByte byte from text _ = ⊤

-- the text has fewer than n bytes
abbrev pub FailsBytes : ℕ → ℕ → List ℕ → TextFault → Type 0
FailsBytes n from text (Syntax at) = ⊥
FailsBytes n from text (Large at) = ⊥
FailsBytes n from text (Ended at) = AreBytes text × (length text < n) × (at ≡ from + length text)
FailsBytes n from text _ = ⊤

-- n bytes and then another byte than `stop` are at the start of the text
pub record BytesThenOther (n stop : ℕ) (text : List ℕ) : Type 0 where
  pub bytes : List ℕ
  pub other : ℕ
  pub rest : List ℕ
  pub are : AreBytes bytes
  pub long : length bytes ≡ n
  pub text_is : text ≡ bytes ++ other ∷ rest
  pub differs : other ≢ stop

-- n bytes followed by `stop` aren't at the start of the text
abbrev pub FailsField : ℕ → ℕ → ℕ → List ℕ → TextFault → Type 0
FailsField n stop from text (Syntax at) = BytesThenOther n stop text × (at ≡ from + n)
FailsField n stop from text (Large at) = ⊥
FailsField n stop from text (Ended at) =
    AreBytes text × (length text ≤ n) × (at ≡ from + length text)
FailsField n stop from text _ = ⊤

-- the text has this fault, and no spelled item at its start
pub record FailsItem {X : Type 0} (spelling : ℕ → List ℕ → X → Type 0) (greatest from : ℕ)
    (text : List ℕ) (f : TextFault) : Type 0 where
  pub fault : form.HasFault spelling greatest from text f
  pub no_item : IsOfText f → form.HasNoItem spelling greatest text

-- the same of an amending text, if removals are taken, or else of a native one
abbrev pub FailsEntry : Bool → ℕ → ℕ → List ℕ → TextFault → Type 0
FailsEntry true greatest from text f = FailsItem SpellsChange greatest from text f
FailsEntry false greatest from text f = FailsItem Spells greatest from text f

-- a reader lost a spelling of the item from the bytes after its mark on
pub record ReadsBehind {X : Type 0} (spelling : ℕ → List ℕ → X → Type 0) (mark : List ℕ)
    (greatest : ℕ) (old new : Feed) (from to : ℕ) (x : X) : Type 0 where
  pub text : List ℕ
  pub spells : spelling greatest (mark ++ text) x
  pub read : Consumes old new text
  pub counted : to ≡ from + length text

-- the byte that an item of this kind begins with, or the newline that ends a text
abbrev pub mark_of : Option ItemKind → List ℕ
mark_of None = codes "\n"
mark_of (Some Put) = codes "+"
mark_of (Some Remove) = codes "-"

-- P is said of the text that the fault is one of
abbrev pub FailsIn : {R : Type 0} → (R → Feed) → (old new : Source R)
    → (List ℕ → TextFault → Type 0) → TextFault → Type 0
FailsIn feed old new P f = FromTo (feed old.reader) (feed new.reader)
    (λ text rest. P (seen old.taken new.taken f text) (told new.taken f))

-- What a fault leaves: what was taken is gone from the reader and was counted, and ends with the
-- byte at the fault's place. Requests suffice for 1001 a byte.
pub record Leaves {R : Type 0} (feed : R → Feed) (old new : Source R) (f : TextFault) : Type 0
  where
    pub took : Took (feed old.reader) (feed new.reader) old.taken new.taken
    pub last : LastRead new.taken f
    pub told : IsTold (feed new.reader) new.asks f
    pub spends : budget old ≤ budget new + 1001
