-- The native text of a list of records, whose lengths are at most `greatest`.
use Rattle.std.specs.Prelude.{ℕ, List, ◌<◌, ◌++◌, length, flat_map, ◌≤◌, ◌≡◌, decimal, codes}
use Rattle.std.specs.Str.Parse.{AllDigits, digits_value}
use Rattle.cdb_form.specs.Format.{KeyValue, IsRecord}
use Rattle.cdb_form.specs.Text.Form as form
use Rattle.cdb_form.specs.declared.text.fault.TextFault.{TextFault}

-- one or more decimal digits of a number
pub record IsNumeral (digits : List ℕ) (n : ℕ) : Type 0 where
  pub some : 0 < length digits
  pub each : AllDigits 10 digits
  pub value : digits_value 10 digits ≡ n

-- a record is spelled +klen,vlen:key->value and a newline, each length a numeral of at most
-- `greatest`
pub record Spells (greatest : ℕ) (text : List ℕ) (r : KeyValue) : Type 0 where
  pub klen : List ℕ
  pub vlen : List ℕ
  pub klen_is : IsNumeral klen (length r.key)
  pub vlen_is : IsNumeral vlen (length r.value)
  pub key_fits : length r.key ≤ greatest
  pub value_fits : length r.value ≤ greatest
  pub bytes : IsRecord r
  pub text_is : text ≡ codes "+" ++ klen ++ codes "," ++ vlen ++ codes ":" ++ r.key ++ codes "->"
      ++ r.value ++ codes "\n"

-- the text is spelled records, and then the rest
abbrev pub Spelled : ℕ → List KeyValue → List ℕ → List ℕ → Type 0
Spelled greatest rs text rest = form.Spelled Spells greatest rs text rest

-- the text is a native one, spelled records and a newline, and then the rest
abbrev pub Reads : ℕ → List KeyValue → List ℕ → List ℕ → Type 0
Reads greatest rs text rest = form.Reads Spells greatest rs text rest

-- no spelled record is at the start of the input
abbrev pub HasNoRecord : ℕ → List ℕ → Type 0
HasNoRecord greatest input = form.HasNoItem Spells greatest input

-- the fault of an input as a native text, whose first byte is at `from`
abbrev pub HasFault : ℕ → ℕ → List ℕ → TextFault → Type 0
HasFault greatest from input fault = form.HasFault Spells greatest from input fault

-- the spelling of a record with the shortest numerals
abbrev pub spelling_of : KeyValue → List ℕ
spelling_of r = codes "+" ++ decimal (length r.key) ++ codes "," ++ decimal (length r.value)
    ++ codes ":" ++ r.key ++ codes "->" ++ r.value ++ codes "\n"

-- the text of some records, with the shortest numerals
abbrev pub text_of : List KeyValue → List ℕ
text_of rs = flat_map spelling_of rs ++ codes "\n"
