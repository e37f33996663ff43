-- What a clause reads of the reader of the keys of an input, whatever its form and whatever gives its
-- bytes.
use Rattle.std.specs.Prelude.{List, ◌≡◌, ◌^◌, ℕ}
use Rattle.cdb_form.specs.Views.Feed.{Feed}
use Rattle.cdb_form.specs.Views.ListReader as fed_list
use Rattle.cdb_form.specs.Views.MapReader as fed_map
use Rattle.cdb_form.specs.Format.{KeyValue}
use Rattle.cdb_form.specs.declared.text.fault.TextFault.{TextFault}
use Rattle.cdb_form.specs.declared.text.map_reader.MapReader.{MapReader}
use Rattle.cdb_command.specs.declared.style.Style.TheVariants as style
use Rattle.cdb_show.specs.Runs.Inputs.{InputForm}
use Rattle.cdb_show.specs.Runs.Inputs as form
use Rattle.cdb_show.specs.declared.runs.key_reader.KeyReader.{KeyReader}
use Rattle.cdb_show.specs.declared.runs.key_reader.KeyReader.TheVariants as reader

-- the form that it reads
abbrev pub form_of : {F L : Type 0} → KeyReader F L → InputForm
form_of (reader.List t) = form.Lists
form_of (reader.Map t) = form.Puts style.Map

-- what gives its bytes
abbrev pub reader_of : {F L : Type 0} → KeyReader F L → F
reader_of (reader.List t) = fed_list.reader_of t
reader_of (reader.Map t) = fed_map.reader_of t

-- the number of bytes it took, and how many requests its reader may still get
abbrev pub taken_of : {F L : Type 0} → KeyReader F L → ℕ
taken_of (reader.List t) = fed_list.taken_of t
taken_of (reader.Map t) = fed_map.taken_of t

abbrev pub asks_left : {F L : Type 0} → KeyReader F L → ℕ
asks_left (reader.List t) = fed_list.asks_left t
asks_left (reader.Map t) = fed_map.asks_left t

-- it has reported neither the end nor a fault
abbrev pub IsGoing : {F L : Type 0} → KeyReader F L → Type 0
IsGoing (reader.List t) = fed_list.IsGoing t
IsGoing (reader.Map t) = fed_map.IsGoing t

-- nothing was taken yet, and its reader may get 2^48 requests
pub record IsNew {F L : Type 0} (t : KeyReader F L) : Type 0 where
  pub going : IsGoing t
  pub taken : taken_of t ≡ 0
  pub asks : asks_left t ≡ 2 ^ 48

-- a call gave the record of a line of a map text, whose key this is
pub record GivesKeyOf {F : Type 0} (feed : F → Feed) (old new : MapReader F) (key : List ℕ) : Type 0
  where
    pub given : KeyValue
    pub has : given.key ≡ key
    pub gives : fed_map.GivesRecord feed old new given

-- a call gave a key, reported the end, or answered a fault, as a reader of its form does
abbrev pub GivesKey : {F L : Type 0} → ℕ → (F → Feed) → KeyReader F L → KeyReader F L → List ℕ
    → Type 0
GivesKey greatest feed (reader.List old) (reader.List new) key =
    fed_list.GivesKey greatest feed old new key
GivesKey greatest feed (reader.Map old) (reader.Map new) key = GivesKeyOf feed old new key
GivesKey greatest feed old new key = ⊥

abbrev pub GivesEnd : {F L : Type 0} → (F → Feed) → KeyReader F L → KeyReader F L → Type 0
GivesEnd feed (reader.List old) (reader.List new) = fed_list.GivesEnd feed old new
GivesEnd feed (reader.Map old) (reader.Map new) = fed_map.GivesEnd feed old new
GivesEnd feed old new = ⊥

abbrev pub Fails : {F L : Type 0} → ℕ → (F → Feed) → KeyReader F L → KeyReader F L → TextFault
    → Type 0
Fails greatest feed (reader.List old) (reader.List new) fault =
    fed_list.Fails greatest feed old new fault
Fails greatest feed (reader.Map old) (reader.Map new) fault = fed_map.Fails feed old new fault
Fails greatest feed old new fault = ⊥
