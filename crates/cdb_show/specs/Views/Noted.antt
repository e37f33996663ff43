-- What a writer that notes its writes took, and whether one failed.
use Rattle.std.specs.Prelude.{ℕ, List, [], ◌∷◌, ◌++◌, ⊤, ◌≡◌, drop}
use Rattle.cdb_store.specs.Calls.{Calls}
use Rattle.cdb_store.specs.declared.trace.Call.TheVariants.{Failed, NotWritten}
use Rattle.cdb_show.specs.declared.noted.Noted.{Noted}
use Rattle.cdb_show.specs.Feed.{AreRead, Stop, reached, Parsing}
use Rattle.cdb_show.specs.declared.input_reader.InputReader.{InputReader}
use Rattle.cdb_show.specs.declared.input_reader.InputReader.TheVariants as reader
use Rattle.cdb_form.specs.Views.Feed.{Feed}
use Rattle.cdb_show.specs.Views.Window as window
use Rattle.cdb_show.specs.declared.inputs.Inputs.{Inputs}
use Rattle.cdb_show.specs.declared.inputs.SharedWindow.{SharedWindow}
use Rattle.cdb_show.specs.declared.inputs.SharedWindow.TheVariants.{Unread, InHand}

-- the bytes of some calls, the first ones first
abbrev pub bytes_noted : Calls → List ℕ
bytes_noted [] = []
bytes_noted ((call, bytes) ∷ calls) = bytes_noted calls ++ bytes

-- what it took
abbrev pub noted_by : {W : Type 0} → Noted W → List ℕ
noted_by n = bytes_noted n.trace.events

-- a write or a flush failed
abbrev pub HasFailed : Calls → Type 0
HasFailed [] = ⊥
HasFailed ((NotWritten pos len, bytes) ∷ calls) = ⊤
HasFailed ((Failed, bytes) ∷ calls) = ⊤
HasFailed ((call, bytes) ∷ calls) = HasFailed calls

-- ---- What is known of the readers of the inputs of a run.

-- the reader itself, without a window or in it
abbrev pub reader_of : {I : Type 0} → SharedWindow I → I
reader_of (Unread reader) = reader
reader_of (InHand w) = window.reader_of w

-- the bytes that its window holds
abbrev pub held_of : {I : Type 0} → SharedWindow I → List ℕ
held_of (Unread reader) = []
held_of (InHand w) = window.held_in w

-- what is known of it, with what its window holds
abbrev pub shared_feed : {I : Type 0} → (I → Feed) → SharedWindow I → Feed
shared_feed feed (Unread reader) = feed reader
shared_feed feed (InHand w) = window.feed_of feed w

-- the readers that a run did not reach are as they were
abbrev pub ArePassed : {R Item Fault : Type 0} → (read : List (List Item)) → Stop Item Fault
    → (before after : List (InputReader R)) → Type 0
ArePassed read stop before after = drop (reached read stop) after ≡ drop (reached read stop) before

-- the inputs of a run were read up to a stop, and their readers came back, those that were not reached as they were:
-- what was known of the window of the shared one is known of it, with what that held
pub record AreReadTo {J I Item Fault : Type 0} (own : J → Feed) (shared : I → Feed)
    (p : Parsing Item Fault) (read : List (List Item)) (stop : Stop Item Fault)
    (inputs left : Inputs J I) : Type 0 where
  pub window : SharedWindow I
  pub are : AreRead own (shared_feed shared) p read stop inputs.readers.items left.readers.items
      (Unread inputs.shared) window
  pub handed : left.shared ≡ reader_of window
  pub others : ArePassed read stop inputs.readers.items left.readers.items

-- each reader is in its place, and the inputs that share one still do
abbrev pub AreInPlace : {R : Type 0} → (before after : List (InputReader R)) → Type 0
AreInPlace [] [] = ⊤
AreInPlace (reader.Own before ∷ befores) (reader.Own after ∷ afters) = AreInPlace befores afters
AreInPlace (reader.Shared ∷ befores) (reader.Shared ∷ afters) = AreInPlace befores afters
AreInPlace before after = ⊥
