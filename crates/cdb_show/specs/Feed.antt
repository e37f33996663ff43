-- What is known of readers at the end, and what the inputs of a run say by that.
use Rattle.std.specs.Prelude.{◌≡◌, ℕ, List, [], ◌++◌, Bool, true, ◌<◌, ◌∷◌, length, ⊤, Result, Ok, Err, Option, Some, None, ◌+◌, zero, suc, ◌⊎◌}
use Rattle.cdb_form.specs.Views.Feed.{Feed, FromTo, Keeps}
use Rattle.cdb_show.specs.declared.noted_reader.NotedReader.{NotedReader}
use Rattle.cdb_show.specs.declared.read_trace.ReadCall.{ReadCall}
use Rattle.cdb_show.specs.declared.input_reader.InputReader.{InputReader}
use Rattle.cdb_show.specs.declared.input_reader.InputReader.TheVariants.{Own, Shared}
use Rattle.std.proofs.Common.{sym, ◌∙◌}

-- ---- Which bytes agree with those that a reader gave.

-- all its bytes begin with those that came, and these are all if it answered that it was at its end
pub record Continues (came : List ℕ) (ended : Bool) (whole rest : List ℕ) : Type 0 where
  pub begins : whole ≡ came ++ rest
  pub ends : ended ≡ true → rest ≡ []

-- ---- What is known of a reader that notes what it gave.

-- the bytes of some answers, of which the newest is the first
abbrev pub came_of : List (ReadCall × List ℕ) → List ℕ
came_of [] = []
came_of ((call, bytes) ∷ earlier) = came_of earlier ++ bytes

abbrev pub noted_feed : {R : Type 0} → NotedReader R → Feed
noted_feed reader =
    record {
      known = ⊤;
      may = Continues (came_of reader.trace.events) reader.ended;
      failed = 0 < length reader.refused.events;
    }

-- ---- What a parser of one input makes of any bytes, and what the clauses of its calls must say for it to be known.

-- the items of an input, and what it leaves after them or its fault
pub record Parsed (Item Fault : Type 0) : Type 0 where
  pub items : List Item
  pub ends : Result (List ℕ) Fault

-- A function of bytes, and three relations that say what a call read: all items, after which this is left; the items
-- before a fault; some first items. Each says of bytes that fit what the function says, and then what is left fits.
pub record Parsing (Item Fault : Type 0) : Type 1 where
  pub parse : List ℕ → Parsed Item Fault
  pub fits : List ℕ → Type 0
  pub reads : List Item → (text rest : List ℕ) → Type 0
  pub fails : List Item → Fault → (text : List ℕ) → Type 0
  pub begins : List Item → (text : List ℕ) → Type 0
  pub is_read : (items : List Item) → (text rest : List ℕ) → fits text → reads items text rest
      → (parse text ≡ record { items = items; ends = Ok rest }) × fits rest
  pub is_fault : (items : List Item) → (fault : Fault) → (text : List ℕ) → fits text
      → fails items fault text → parse text ≡ record { items = items; ends = Err fault }
  pub is_begun : (items : List Item) → (text : List ℕ) → fits text → begins items text
      → (more : List Item) × ((parse text).items ≡ items ++ more)

-- ---- What inputs say, one after the other: their items, and the fault of the one that ends them.

-- the fault of an input, and its number
pub record NumberedFault (Fault : Type 0) : Type 0 where
  pub number : ℕ
  pub fault : Fault

-- the items of each input, up to the first with a fault, and that fault
pub record Given (Item Fault : Type 0) : Type 0 where
  pub items : List (List Item)
  pub fault : Option (NumberedFault Fault)

-- one more input, and then those that its rest leads to; or its fault
abbrev pub with_input : {Item Fault : Type 0} → (number : ℕ) → List Item → Result (List ℕ) Fault
    → (List ℕ → Given Item Fault) → Given Item Fault
with_input number items (Ok rest) next =
    record { items = items ∷ (next rest).items; fault = (next rest).fault }
with_input number items (Err fault) next = record {
  items = items ∷ [];
  fault = Some (record { number = number; fault = fault });
}

-- what inputs say: each has bytes of its own, or else begins where the last one without its own ended
abbrev pub given_from : {Item Fault : Type 0} → (parse : List ℕ → Parsed Item Fault) → (number : ℕ)
    → List (Option (List ℕ)) → (shared : List ℕ) → Given Item Fault
given_from parse number [] shared = record { items = []; fault = None }
given_from parse number (Some input ∷ inputs) shared =
    with_input number (parse input).items (parse input).ends
    (λ rest. given_from parse (number + 1) inputs shared)
given_from parse number (None ∷ inputs) shared =
    with_input number (parse shared).items (parse shared).ends
    (λ rest. given_from parse (number + 1) inputs rest)

-- ---- The inputs of a run: how far it read them, and which bytes agree with what their readers gave.

-- all bytes of a reader are left
pub record IsUnread (feed : Feed) : Type 0 where
  pub known : feed.known
  pub all : (whole rest : List ℕ) → feed.may whole rest → rest ≡ whole

abbrev pub AreUnread : {R : Type 0} → (own : R → Feed) → List (InputReader R) → Type 0
AreUnread own [] = ⊤
AreUnread own (Own reader ∷ readers) = IsUnread (own reader) × AreUnread own readers
AreUnread own (Shared ∷ readers) = AreUnread own readers

-- why no more inputs were read after those that were read whole: there are none; the next one has a fault after
-- these items; only these items of the next one were read; or the next one was not begun
pub data Stop (Item Fault : Type 0) : Type 0 where
  NoMore : Stop Item Fault
  HasFault : List Item → Fault → Stop Item Fault
  CutShort : List Item → Stop Item Fault
  NotBegun : Stop Item Fault

-- an input was read from its reader, which was left so: P holds of what the reader had and what follows the text. A
-- reader that others share has just that left; from one of its own more may have been taken, which is let go
abbrev pub TakesOne : {R S : Type 0} → (own : R → Feed) → (shared : S → Feed)
    → (P : (text rest : List ℕ) → Type 0) → (before after : InputReader R) → (old new : S) → Type 0
TakesOne own shared P (Own reader) (Own left) old new =
    FromTo (own reader) (own left) (λ text left. (rest : List ℕ) × P text rest)
    × Keeps (shared old) (shared new)
TakesOne own shared P Shared Shared old new = FromTo (shared old) (shared new) P
TakesOne own shared P _ _ old new = ⊥

-- no more was read than a stop says
abbrev pub StopsSo : {R S Item Fault : Type 0} → (own : R → Feed) → (shared : S → Feed)
    → Parsing Item Fault → Stop Item Fault → (before after : List (InputReader R)) → (old new : S)
    → Type 0
StopsSo own shared p NoMore before after old new =
    (before ≡ []) × Keeps (shared old) (shared new)
StopsSo own shared p (HasFault items fault) (reader ∷ before) (left ∷ after) old new =
    TakesOne own shared (λ text rest. p.fails items fault text) reader left old new
StopsSo own shared p (CutShort items) (reader ∷ before) (left ∷ after) old new =
    TakesOne own shared (λ text rest. p.begins items text) reader left old new
StopsSo own shared p NotBegun before after old new = Keeps (shared old) (shared new)
StopsSo own shared p _ _ _ old new = ⊥

-- the first inputs were read whole, with these items, and then no more than the stop says; nothing is requested of
-- the readers that were not reached
abbrev pub AreRead : {R S Item Fault : Type 0} → (own : R → Feed) → (shared : S → Feed)
    → Parsing Item Fault → (read : List (List Item)) → Stop Item Fault
    → (before after : List (InputReader R)) → (old new : S) → Type 0
AreRead own shared p [] stop before after old new = StopsSo own shared p stop before after old new
AreRead {S = S} own shared p (items ∷ read) stop (reader ∷ before) (left ∷ after) old new =
    (mid : S) × TakesOne own shared (p.reads items) reader left old mid
    × AreRead own shared p read stop before after mid new
AreRead own shared p (items ∷ read) stop _ _ old new = ⊥

-- the number of inputs that were reached
abbrev pub reached : {Item Fault : Type 0} → (read : List (List Item)) → Stop Item Fault → ℕ
reached [] NoMore = 0
reached [] NotBegun = 0
reached [] (HasFault items fault) = 1
reached [] (CutShort items) = 1
reached (items ∷ read) stop = suc (reached read stop)

-- the reader of an input has failed, its own or the one that it shares
abbrev pub ReaderFailed : {R S : Type 0} → (own : R → Feed) → (shared : S → Feed) → InputReader R → S
    → Type 0
ReaderFailed own shared (Own reader) it = (own reader).failed
ReaderFailed own shared Shared it = (shared it).failed

-- that of one of them has, or the one that they share
abbrev pub SomeFailed : {R S : Type 0} → (own : R → Feed) → (shared : S → Feed)
    → List (InputReader R) → S → Type 0
SomeFailed own shared [] it = (shared it).failed
SomeFailed own shared (reader ∷ readers) it =
    ReaderFailed own shared reader it ⊎ SomeFailed own shared readers it

-- these bytes fit, and agree with what is known of their reader
pub record AgreesWith (fits : List ℕ → Type 0) (feed : Feed) (whole : List ℕ) : Type 0 where
  pub fit : fits whole
  pub rest : List ℕ
  pub may : feed.may whole rest

-- the bytes of the first n inputs, as far as they have readers of their own, agree with what is known of these
abbrev pub FirstAgree : {R : Type 0} → (own : R → Feed) → (fits : List ℕ → Type 0) → ℕ
    → List (Option (List ℕ)) → List (InputReader R) → Type 0
FirstAgree own fits zero inputs readers = ⊤
FirstAgree own fits (suc n) (Some whole ∷ inputs) (Own reader ∷ readers) =
    AgreesWith fits (own reader) whole × FirstAgree own fits n inputs readers
FirstAgree own fits (suc n) (None ∷ inputs) (Shared ∷ readers) =
    FirstAgree own fits n inputs readers
FirstAgree own fits (suc n) _ _ = ⊥

-- the standard library says that a reader has these bytes left, which fit
pub record HasBytes (fits : List ℕ → Type 0) (remaining : Option (List ℕ)) (bytes : List ℕ) : Type 0 where
  pub fit : fits bytes
  pub same : remaining ≡ Some bytes

-- the own readers of the inputs have these
abbrev pub HaveBytes : {R : Type 0} → (remaining : R → Option (List ℕ)) → (fits : List ℕ → Type 0)
    → List (Option (List ℕ)) → List (InputReader R) → Type 0
HaveBytes remaining fits [] [] = ⊤
HaveBytes remaining fits (Some bytes ∷ inputs) (Own reader ∷ readers) =
    HasBytes fits (remaining reader) bytes × HaveBytes remaining fits inputs readers
HaveBytes remaining fits (None ∷ inputs) (Shared ∷ readers) =
    HaveBytes remaining fits inputs readers
HaveBytes remaining fits _ _ = ⊥

-- what was read is what the inputs say, as far as it was read
abbrev pub IsGiven : {Item Fault : Type 0} → (number : ℕ) → (read : List (List Item))
    → Stop Item Fault → Given Item Fault → Type 0
IsGiven number read NoMore given = given ≡ record { items = read; fault = None }
IsGiven number read (HasFault items fault) given = given ≡ record {
  items = read ++ (items ∷ []);
  fault = Some (record { number = number + length read; fault = fault });
}
IsGiven {Item = Item} number read (CutShort items) given =
    (more : List Item) × (others : List (List Item))
    × (given.items ≡ read ++ ((items ++ more) ∷ others))
IsGiven {Item = Item} number read NotBegun given =
    (others : List (List Item)) × (given.items ≡ read ++ others)

-- ---- That all bytes of a reader determine those that are left.

same_after : (came xs ys : List ℕ) → came ++ xs ≡ came ++ ys → xs ≡ ys
same_after [] xs ys e = e
same_after (b ∷ came) xs ys e = same_after came xs ys cc

pub same_continued : {came : List ℕ} {ended : Bool} {whole xs ys : List ℕ}
    → Continues came ended whole xs → Continues came ended whole ys → xs ≡ ys
same_continued {came = came} {xs = xs} {ys = ys} a b = same_after came xs ys (sym a.begins ∙ b.begins)
