-- The items of the inputs of a run, by the form of its inputs.
use Rattle.std.specs.Prelude.{ℕ, ◌≡◌, ◌+◌, ◌*◌, ◌^◌, ◌≤◌, Bool, true, false, List, [], ◌++◌, length, map, flat_map, ⊤}
use Rattle.cdb_form.specs.Format.{KeyValue}
use Rattle.cdb_form.specs.Text.Parse.{Change, Putting, Removing, SpellsChange, SpelledChanges, ReadsChanges, SpellsKey, SpelledKeys, ReadsKeys, listed}
use Rattle.cdb_form.specs.Text.Form.{WholeItems, HasFault}
use Rattle.cdb_form.specs.Text.Map.{map_lines}
use Rattle.cdb_form.specs.Text.Native.{Spells, Spelled, Reads}
use Rattle.cdb_form.specs.Views.MapReader.{ReadAmid}
use Rattle.cdb_form.specs.Views.TextFault.{IsOfText, IsReadFault}
use Rattle.cdb_form.specs.declared.text.fault.TextFault.{TextFault}
use Rattle.cdb_form.specs.declared.text.fault.TextFault.TheVariants.{Ended, Endless}
use Rattle.cdb_command.specs.declared.style.Style.{Style}
use Rattle.cdb_command.specs.declared.style.Style.TheVariants.{Native, Map}

-- an input puts the records of a style, is an amending text, or is a list text
pub data InputForm : Type 0 where
  Puts : Style → InputForm
  Changes : InputForm
  Lists : InputForm

-- with a base a native input is an amending text; in a map text nothing removes
abbrev pub input_form : Style → Bool → InputForm
input_form Native true = Changes
input_form Native false = Puts Native
input_form Map amends = Puts Map

-- keys come from list texts, or from the lines of map texts, which may have values too
abbrev pub keys_form : Style → InputForm
keys_form Native = Lists
keys_form Map = Puts Map

-- the texts of each form but map texts may have a fault
abbrev pub HasFaults : InputForm → Type 0
HasFaults (Puts Map) = ⊥
HasFaults form = ⊤

-- the key of an item
abbrev pub key_of : Change → List ℕ
key_of (Putting r) = r.key
key_of (Removing key) = key

-- those of some items, and of the items of some inputs
abbrev pub keys_of : List Change → List (List ℕ)
keys_of items = map key_of items

abbrev pub keys_of_each : List (List Change) → List (List ℕ)
keys_of_each read = flat_map keys_of read

-- a text has this fault after these items, all that are whole
pub record HasFaultBehind {X : Type 0} (spelling : ℕ → List ℕ → X → Type 0) (greatest : ℕ)
    (text : List ℕ) (xs : List X) (fault : TextFault) : Type 0 where
  pub rest : List ℕ
  pub whole : WholeItems spelling greatest text xs rest
  pub has : HasFault spelling greatest 0 text fault

-- the reader of an input failed after this part of it, or has no end: it took 2^48 requests, of 1001 at
-- most for a byte or the end
pub record StopsReading (Ends : List ℕ → Type 0) (fault : TextFault) (input : List ℕ)
    : Type 0 where
  pub part : List ℕ
  pub more : List ℕ
  pub split : input ≡ part ++ more
  pub amid : Ends part
  pub asked : fault ≡ Endless → 2 ^ 48 ≤ 1001 * (length part + 1)

-- an input has this fault, of its text or of its reader
pub record HasFaultOf (InText : Type 0) (Ends : List ℕ → Type 0) (fault : TextFault)
    (input : List ℕ) : Type 0 where
  pub of_text : IsOfText fault → InText
  pub of_reader : IsReadFault fault → StopsReading Ends fault input

-- ---- inputs that only put

-- an input is a text of these records, and this is left of it; and it begins with these
abbrev pub IsInput : Style → ℕ → List KeyValue → (input rest : List ℕ) → Type 0
IsInput Native greatest records input rest = Reads greatest records input rest
IsInput Map greatest records input rest = (map_lines input ≡ records) × (rest ≡ [])

abbrev pub InputsBeginWith : Style → ℕ → List KeyValue → List ℕ → Type 0
InputsBeginWith Native greatest records input = (rest : List ℕ) × Spelled greatest records input rest
InputsBeginWith Map greatest records input =
    (more : List KeyValue) × (map_lines input ≡ records ++ more)

-- a part of a text ends amid what follows these records
abbrev pub EndsAmid : Style → ℕ → List KeyValue → List ℕ → Type 0
EndsAmid Native greatest records part =
    HasFaultBehind Spells greatest part records (Ended (length part))
EndsAmid Map greatest records part = ReadAmid part [] records

-- an input has this fault after these records
abbrev pub HasInputFault : Style → ℕ → List KeyValue → TextFault → List ℕ → Type 0
HasInputFault style greatest records fault input =
    HasFaultOf (HasFaultBehind Spells greatest input records fault)
    (EndsAmid style greatest records) fault input

-- ---- inputs that give keys

-- an input has this fault after these keys
abbrev pub HasKeyFault : ℕ → List (List ℕ) → TextFault → List ℕ → Type 0
HasKeyFault greatest keys fault input =
    HasFaultOf (HasFaultBehind SpellsKey greatest input keys fault)
    (λ part. HasFaultBehind SpellsKey greatest part keys (Ended (length part))) fault input

-- ---- inputs of any form

-- these items are puts of records of which this holds, or keys of which it does
abbrev pub ArePuts : List Change → (List KeyValue → Type 0) → Type 0
ArePuts items P = (records : List KeyValue) × (items ≡ map Putting records) × P records

abbrev pub AreListed : List Change → (List (List ℕ) → Type 0) → Type 0
AreListed items P = (keys : List (List ℕ)) × (items ≡ map listed keys) × P keys

-- an input is a text of these items, and this is left of it; and it begins with these
abbrev pub IsInputOf : InputForm → ℕ → List Change → (input rest : List ℕ) → Type 0
IsInputOf (Puts style) greatest items input rest =
    ArePuts items (λ records. IsInput style greatest records input rest)
IsInputOf Changes greatest items input rest = ReadsChanges greatest items input rest
IsInputOf Lists greatest items input rest =
    AreListed items (λ keys. ReadsKeys greatest keys input rest)

abbrev pub BeginsWithItems : InputForm → ℕ → List Change → List ℕ → Type 0
BeginsWithItems (Puts style) greatest items input =
    ArePuts items (λ records. InputsBeginWith style greatest records input)
BeginsWithItems Changes greatest items input =
    (rest : List ℕ) × SpelledChanges greatest items input rest
BeginsWithItems Lists greatest items input =
    AreListed items (λ keys. (rest : List ℕ) × SpelledKeys greatest keys input rest)

-- an input has this fault after these items
abbrev pub HasItemFault : InputForm → ℕ → List Change → TextFault → List ℕ → Type 0
HasItemFault (Puts style) greatest items fault input =
    ArePuts items (λ records. HasInputFault style greatest records fault input)
HasItemFault Changes greatest items fault input =
    HasFaultOf (HasFaultBehind SpellsChange greatest input items fault)
    (λ part. HasFaultBehind SpellsChange greatest part items (Ended (length part))) fault input
HasItemFault Lists greatest items fault input =
    AreListed items (λ keys. HasKeyFault greatest keys fault input)
