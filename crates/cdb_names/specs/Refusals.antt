-- Which call on names was refused last, on which name, and for which causes.
use Rattle.std.specs.Prelude.{ℕ, ◌≡◌, ◌||◌, Bool, true, false, List, [], ◌∷◌, Option, None, Some, string_bytes, ⊤}
use Rattle.cdb_names.specs.declared.answer.Answer.TheVariants.{Yes, No}
use Rattle.cdb_names.specs.declared.answer.Answer.TheVariants as answer
use Rattle.cdb_names.specs.declared.answer.Found.TheVariants as found
use Rattle.cdb_names.specs.declared.answer.Lock.TheVariants as locking
use Rattle.cdb_names.specs.declared.name_trace.NameCall.{NameCall}
use Rattle.cdb_names.specs.declared.name_trace.NameCall.TheVariants as call
use Rattle.cdb_names.specs.declared.refusal.Cause.{Cause}
use Rattle.cdb_names.specs.declared.refusal.Cause.TheVariants as cause
use Rattle.cdb_names.specs.declared.refusal.Newest.{Newest}
use Rattle.cdb_names.specs.declared.refusal.Newest.TheVariants as newest
use Rattle.cdb_names.specs.declared.refusal.Refusal.{Refusal}
use Rattle.cdb_names.specs.Folder.{NameCalls}

-- the system gave it
abbrev pub is_of_system : Cause → Bool
is_of_system (cause.System number) = true
is_of_system cause.Failed = true
is_of_system why = false

-- the name that a call refused, if it did: a rename refuses the name that the file was to get. A removal and
-- a sync of a folder refuse nothing
abbrev pub refused_name : NameCall → (name other : List ℕ) → Option (List ℕ)
refused_name (call.Special answer.Yes) name other = Some name
refused_name (call.Special answer.Unknown) name other = Some name
refused_name (call.Same answer.Yes) name other = Some name
refused_name (call.Same answer.Unknown) name other = Some name
refused_name (call.Looked found.Other) name other = Some name
refused_name (call.Looked found.Unknown) name other = Some name
refused_name (call.NotOpened fault) name other = Some name
refused_name (call.NotMade fault) name other = Some name
refused_name (call.Locked locking.Held) name other = Some name
refused_name (call.Own answer.No) name other = Some name
refused_name (call.Own answer.Unknown) name other = Some name
refused_name (call.Input answer.Yes) name other = Some name
refused_name (call.Input answer.Unknown) name other = Some name
refused_name (call.Bits None) name other = Some name
refused_name (call.Seen None) name other = Some name
refused_name (call.Set bits) name other = Some name
refused_name (call.NotRenamed len fault) name other = Some other
refused_name call name other = None

-- one cause alone
abbrev is_special : Cause → Bool
is_special cause.Special = true
is_special why = false

abbrev is_same : Cause → Bool
is_same cause.Same = true
is_same why = false

abbrev is_link : Cause → Bool
is_link cause.Link = true
is_link why = false

abbrev is_held : Cause → Bool
is_held cause.Held = true
is_held why = false

abbrev is_locked : Cause → Bool
is_locked cause.Locked = true
is_locked why = false

abbrev is_input : Cause → Bool
is_input cause.Input = true
is_input why = false

abbrev is_bits : Cause → Bool
is_bits cause.Bits = true
is_bits why = false

abbrev is_replaced : Cause → Bool
is_replaced cause.Replaced = true
is_replaced why = false

abbrev is_removed : Cause → Bool
is_removed cause.Removed = true
is_removed why = false

-- for which causes: what the call found, or else the system's. A name that changes between two looks is that of
-- another create
abbrev pub may_be_for : NameCall → Cause → Bool
may_be_for (call.Special answer.Yes) why = is_special why
may_be_for (call.Same answer.Yes) why = is_same why || is_held why
may_be_for (call.Looked found.Other) why = is_link why || is_special why
may_be_for (call.NotOpened fault) why = is_special why || is_held why || is_of_system why
may_be_for (call.NotMade fault) why = is_held why || is_of_system why
may_be_for (call.Locked locking.Held) why = is_held why || is_locked why || is_of_system why
may_be_for (call.Own answer.No) why = is_held why
may_be_for (call.Input answer.Yes) why = is_input why
may_be_for (call.Set bits) why = is_bits why || is_of_system why
may_be_for (call.NotRenamed len fault) why = is_replaced why || is_removed why || is_of_system why
may_be_for call why = is_of_system why

-- both names of the newest call that refused a name, if this may be why
abbrev pub refused_with : (before : Option (List ℕ × List ℕ)) → (fits : Bool) → (other : List ℕ)
    → Option (List ℕ) → Option (List ℕ × List ℕ)
refused_with before fits other None = before
refused_with before true other (Some name) = Some (name, other)
refused_with before false other (Some name) = None

abbrev pub refused_for : Cause → NameCalls → Option (List ℕ × List ℕ)
refused_for why [] = None
refused_for why ((call, name, other, file) ∷ calls) =
    refused_with (refused_for why calls) (may_be_for call why) other (refused_name call name other)

-- a refusal is that of the newest call that refused a name
abbrev pub IsNameRefusal : Refusal → NameCalls → Type 0
IsNameRefusal refusal calls =
    refused_for refusal.cause calls ≡ Some (string_bytes refusal.name, string_bytes refusal.other)

-- the name that the newest call refused, of those that refused one
abbrev pub or_older : (name older : Option (List ℕ)) → Option (List ℕ)
or_older None older = older
or_older (Some name) older = Some name

abbrev pub refused_last : NameCalls → Option (List ℕ)
refused_last [] = None
refused_last ((call, name, other, file) ∷ calls) =
    or_older (refused_name call name other) (refused_last calls)

-- none did
abbrev pub IsUnrefused : NameCalls → Type 0
IsUnrefused calls = refused_last calls ≡ None

-- what is kept of that call: its names and the cause
abbrev pub refusal_in : Newest → Option Refusal
refusal_in (newest.Refused refusal) = Some refusal
refusal_in kept = None

-- or nothing, for want of memory
abbrev pub IsUnkept : Newest → Type 0
IsUnkept newest.Unkept = ⊤
IsUnkept kept = ⊥
