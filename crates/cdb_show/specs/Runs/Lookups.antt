-- What a query of many keys comes to, and what it leaves.
use Rattle.std.specs.Prelude.{ℕ, Bool, true, false, if◌then◌else◌, List, [], ◌++◌, fold, Option, None, Some, Result, Ok, Err, ◌≡◌, ◌≢◌, ◌+◌, ◌<◌, ◌≤◌, ◌⊎◌, length, ⊤}
use Rattle.cdb_command.specs.declared.style.Style.{Style}
use Rattle.cdb_show.specs.Runs.WalkText.{end_of}
use Rattle.cdb_show.specs.Runs.Inputs.{keys_form, keys_of_each, InputForm, BeginsWithItems, HasFaults, HasItemFault, keys_of}
use Rattle.cdb_show.specs.Runs.Given.{Given, given_from}
use Rattle.cdb_show.specs.Runs.Query.{Query, query_text, query_answer, record_text}
use Rattle.cdb_show.specs.declared.fault.Fault.{Fault}
use Rattle.cdb_show.specs.declared.fault.Fault.TheVariants.{Missing, Text, Read, Output, NoMemory}
use Rattle.cdb_show.specs.declared.runs.lookup_options.LookupOptions.{LookupOptions}
use Rattle.cdb_store.specs.declared.store.Store.{Ghosts}
use Rattle.cdb_show.specs.declared.inputs.Inputs.{Inputs}
use Rattle.std.specs.Io.KnownBytes.{Appends, Keeps}
use Rattle.cdb_store.specs.Reads.{OnlyReads}
use Rattle.cdb_show.specs.Feed.{SomeFailed, Stop, NoMore, NotBegun}
use Rattle.cdb_form.specs.Views.Feed.{Feed, FromTo}
use Rattle.cdb_form.specs.Format.{head_size}
use Rattle.cdb_form.specs.Text.Parse.{Change}
use Rattle.cdb_form.specs.Views.KnownBytes.{AppendsPrefix}
use Rattle.cdb_form.specs.Views.TextFault.{IsOfText}
use Rattle.cdb_form.specs.declared.text.fault.TextFault.{TextFault}
use Rattle.cdb_form.specs.declared.text.fault.TextFault.TheVariants as text_fault
use Rattle.cdb_read.specs.declared.fault.ReadFault.TheVariants as read_fault
use Rattle.cdb_show.specs.Runs.Flushed.{FlushedWhole}
use Rattle.cdb_show.specs.Runs.Parsing.{IsFaultOf, IsOfRun, fault_in, stop_of, stopped_parsing}
use Rattle.cdb_show.specs.Views.Noted.{AreReadTo}

-- ---- What a query of the keys of some inputs comes to, if nothing is refused: a function of the bytes of
-- the database and of the inputs.

-- what is requested of each key: its records, or the record of a number
abbrev pub key_query : LookupOptions → List ℕ → Query
key_query options key =
    record { key = key; number = options.number; shown = record_text options.style key }

-- ---- the keys, one after the other

-- what is written of some keys, and how their query ends or goes on
pub record Looked : Type 0 where
  pub text : List ℕ
  pub answer : Result Unit Fault

-- it goes on after a key without a value
abbrev pub has_ended : Result Unit Fault → Bool
has_ended (Ok done) = false
has_ended (Err Missing) = false
has_ended (Err fault) = true

-- which is reported at the end
abbrev pub joined : Result Unit Fault → Result Unit Fault → Result Unit Fault
joined before (Ok done) = before
joined before (Err fault) = Err fault

-- one key more, whose query writes this and answers so
abbrev pub with_one : Looked → List ℕ → Result Unit Fault → Looked
with_one s text answer = if has_ended s.answer then s
    else record { text = s.text ++ text; answer = joined s.answer answer }

abbrev pub with_key : ℕ → List ℕ → LookupOptions → Looked → List ℕ → Looked
with_key w b options s key =
    with_one s (query_text w b (key_query options key)) (query_answer w b (key_query options key))

-- what some keys come to: what a query of each writes, up to the first that meets a damage
abbrev pub looked_up : ℕ → List ℕ → LookupOptions → List (List ℕ) → Looked
looked_up w b options keys =
    fold (with_key w b options) (record { text = []; answer = Ok tt }) keys

-- ---- the inputs that give them

-- what follows the records: the fault of an input, or what ends the text
abbrev pub with_end : Style → Looked → Option Fault → Looked
with_end style s (Some fault) = record { text = s.text; answer = Err fault }
with_end style s None = record { text = s.text ++ end_of style; answer = s.answer }

-- the records of the keys that inputs give, up to the first damage, or to the fault of an input
abbrev pub with_given : ℕ → List ℕ → LookupOptions → Given → Looked
with_given w b options given =
    let looked = looked_up w b options (keys_of_each given.items) in
    if has_ended looked.answer then looked else with_end options.style looked given.fault

-- in words of w bytes, with lengths in texts of at most g
abbrev pub records_asked : (w g : ℕ) → LookupOptions → (inputs : List (Option (List ℕ)))
    → (shared : List ℕ) → (bytes : List ℕ) → Looked
records_asked w g options inputs shared bytes =
    with_given w bytes options (given_from (keys_form options.style) g 1 inputs shared)

-- ---- What look-ups of the keys that inputs give go by, and what they change.

-- the number of bytes that a word has, the greatest length in a text, what is known of such stores, and the options
pub record LookupTask (S : Type 0) : Type 1 where
  pub word : ℕ
  pub greatest : ℕ
  pub store : Ghosts S
  pub options : LookupOptions

abbrev pub lookup_task : {S : Type 0} → (word greatest : ℕ) → Ghosts S → LookupOptions → LookupTask S
lookup_task word greatest store options =
    record { word = word; greatest = greatest; store = store; options = options }

-- the inputs, the store, and what was written, before a run or after it
pub record LookupState (J I S : Type 0) : Type 0 where
  pub inputs : Inputs J I
  pub store : S
  pub output : Option (List ℕ)

abbrev pub lookup_state : {J I S : Type 0} → Inputs J I → S → (output : Option (List ℕ))
    → LookupState J I S
lookup_state inputs store output = record { inputs = inputs; store = store; output = output }

-- ---- What a query of the keys that some inputs give leaves, whatever bytes agree with the readers of the
-- inputs as they come back. An image is one of its store as it was returned.

-- ---- the keys, one after the other

-- the file has a head, in each image they came to this answer, and their text was appended
pub record ComesTo {S : Type 0} (t : LookupTask S) (keys : List (List ℕ)) (store : S)
    (start end : Option (List ℕ)) (answer : Result Unit Fault) : Type 0 where
  pub long : head_size t.word ≤ t.store.size store
  pub answered : (b : List ℕ) → t.store.image store b
      → (looked_up t.word b t.options keys).answer ≡ answer
  pub written : (b : List ℕ) → t.store.image store b
      → Appends start end (looked_up t.word b t.options keys).text

-- the answer without damage, by whether a key had no value
abbrev pub missing_answer : Bool → Result Unit Fault
missing_answer true = Err Missing
missing_answer false = Ok tt

abbrev pub HasLooked : {S : Type 0} → LookupTask S → List (List ℕ) → S
    → (start end : Option (List ℕ)) → (missing : Bool) → Type 0
HasLooked t keys store start end missing = ComesTo t keys store start end (missing_answer missing)

-- how it stopped in these keys: by a damage that the last one meets; or the store or the writer failed,
-- and a prefix of their text was appended; or after them
abbrev pub LookupsStopAt : {S : Type 0} → LookupTask S → List (List ℕ) → (old new : S)
    → (start end : Option (List ℕ)) → Fault → Type 0
LookupsStopAt t keys old new start end (Read (read_fault.Table n)) =
    ComesTo t keys new start end (Err (Read (read_fault.Table n)))
LookupsStopAt t keys old new start end (Read (read_fault.Record place)) =
    ComesTo t keys new start end (Err (Read (read_fault.Record place)))
LookupsStopAt t keys old new start end (Read read_fault.Device) =
    (t.store.failures old < t.store.failures new)
    × ((b : List ℕ) → t.store.image new b
    → AppendsPrefix start end (looked_up t.word b t.options keys).text)
LookupsStopAt t keys old new start end Output =
    (head_size t.word ≤ t.store.size new)
    × ((b : List ℕ) → t.store.image new b
    → AppendsPrefix start end (looked_up t.word b t.options keys).text)
LookupsStopAt t keys old new start end NoMemory =
    (missing : Bool) × HasLooked t keys new start end missing
LookupsStopAt t keys old new start end (Text input fault) =
    (missing : Bool) × HasLooked t keys new start end missing
LookupsStopAt t keys old new start end fault = ⊥

-- ---- the keys of an input

-- whatever bytes agree, an input has this fault after these items: no failed allocation, and a map text
-- has no fault of its own; `Input` comes only if the reader failed
pub record FaultBehind (form : InputForm) (greatest : ℕ) (last : List Change) (old new : Feed) (f : TextFault)
    : Type 0 where
  pub has : FromTo old new (λ text rest. HasItemFault form greatest last f text)
  pub own : IsOfText f → HasFaults form
  pub memory : f ≢ text_fault.NoMemory
  pub failed : f ≡ text_fault.Input → new.failed

-- whatever bytes agree, an input of this number begins with these items, after which a run stopped: a
-- fault of a text is one of this input
pub record StopsBehind (form : InputForm) (greatest input : ℕ) (last : List Change) (old new : Feed)
    (fault : Fault) : Type 0 where
  pub begins : FromTo old new (λ text rest. BeginsWithItems form greatest last text)
  pub of_text : (n : ℕ) (f : TextFault) → fault ≡ Text n f
      → (n ≡ input) × FaultBehind form greatest last old new f
  pub of_run : IsOfRun fault

-- ---- those of all inputs

-- they were looked up, and this holds of their text and of what ends it
pub record LooksUpRead {S : Type 0} (t : LookupTask S) (read : List (List Change)) (store : S)
    (missing : Bool) (Writes : List ℕ → Type 0) : Type 0 where
  pub long : head_size t.word ≤ t.store.size store
  pub answered : (b : List ℕ) → t.store.image store b
      → (looked_up t.word b t.options (keys_of_each read)).answer ≡ missing_answer missing
  pub written : (b : List ℕ) → t.store.image store b
      → Writes ((looked_up t.word b t.options (keys_of_each read)).text ++ end_of t.options.style)

-- after the inputs that were read the run stopped in the next input, after these items
pub record StopsInNext {J I S : Type 0} (t : LookupTask S) (read : List (List Change))
    (stop : Stop Change TextFault) (old new : LookupState J I S) (fault : Fault) : Type 0 where
  pub last : List Change
  pub is_stop : stop ≡ stop_of (fault_in (Err fault)) last
  pub stops : LookupsStopAt t (keys_of_each read ++ keys_of last) old.store new.store old.output
      new.output fault
  pub is_fault : IsFaultOf (keys_form t.options.style) (length read + 1) ⊤ fault

-- the store was not opened: no input was begun, and nothing was written
pub record IsUnopened {J I S : Type 0} (read : List (List Change)) (stop : Stop Change TextFault)
    (old new : LookupState J I S) (Why : Type 0) : Type 0 where
  pub none : read ≡ []
  pub is_stop : stop ≡ NotBegun
  pub same : new.inputs ≡ old.inputs
  pub kept : Keeps old.output new.output
  pub why : Why

-- what a fault leaves: if the writer failed, a prefix of the text of the keys so far, or of all and of
-- what ends it
abbrev pub LookupsFail : {J I S : Type 0} → LookupTask S → List (List Change)
    → Stop Change TextFault → (old new : LookupState J I S) → Fault → Type 0
LookupsFail t read stop old new (Read read_fault.Short) =
    IsUnopened read stop old new
    ((t.store.size old.store < head_size t.word) × (new.store ≡ old.store))
LookupsFail t read stop old new (Read read_fault.Device) =
    StopsInNext t read stop old new (Read read_fault.Device)
    ⊎ IsUnopened read stop old new (t.store.failures old.store < t.store.failures new.store)
LookupsFail t read stop old new Output =
    StopsInNext t read stop old new Output
    ⊎ ((missing : Bool) × (stop ≡ NoMore)
    × LooksUpRead t read new.store missing (AppendsPrefix old.output new.output))
LookupsFail t read stop old new fault = StopsInNext t read stop old new fault

-- what the run leaves before its writer is flushed
pub record LookupsLeave {J I S : Type 0} (t : LookupTask S) (own : J → Feed) (shared : I → Feed)
    (old new : LookupState J I S) (result : Result Unit Fault) : Type 0 where
  pub reads : OnlyReads t.store old.store new.store
  pub read : List (List Change)
  pub stop : Stop Change TextFault
  pub are : AreReadTo own shared
      (stopped_parsing (keys_form t.options.style) t.greatest (fault_in result)) read stop old.inputs
      new.inputs
  pub all : (missing : Bool) → result ≡ missing_answer missing
      → (stop ≡ NoMore) × LooksUpRead t read new.store missing (Appends old.output new.output)
  pub fails : (fault : Fault) → result ≡ Err fault → fault ≢ Missing
      → LookupsFail t read stop old new fault
  pub failed : (n : ℕ) → result ≡ Err (Text n text_fault.Input)
      → SomeFailed own shared new.inputs.readers.items new.inputs.shared

-- and then
pub record LooksUp {J I S : Type 0} (t : LookupTask S) (own : J → Feed) (shared : I → Feed)
    (old new : LookupState J I S) (result : Result Unit Fault) : Type 0 where
  pub mid : Option (List ℕ)
  pub answer : Result Unit Fault
  pub leaves : LookupsLeave t own shared old (lookup_state new.inputs new.store mid) answer
  pub flushed : FlushedWhole mid new.output answer result
