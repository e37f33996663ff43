-- What kind of fault a fault of a text is, and its number.
use Rattle.std.specs.Prelude.{ℕ, ◌≡◌, ◌+◌, ⊤, List, ◌++◌, codes, decimal, Option, Some, None}
use Rattle.cdb_form.specs.declared.reading.ReadStop.{ReadStop}
use Rattle.cdb_form.specs.declared.reading.ReadStop.TheVariants as unread
use Rattle.cdb_form.specs.declared.text.fault.TextFault.{TextFault}
use Rattle.cdb_form.specs.declared.text.fault.TextFault.TheVariants.{Syntax, Ended, Large, Input}
use Rattle.cdb_form.specs.declared.text.fault.TextFault.TheVariants.{Endless, NoMemory}

-- the fault is one of the text
abbrev pub IsOfText : TextFault → Type 0
IsOfText (Syntax at) = ⊤
IsOfText (Ended at) = ⊤
IsOfText (Large at) = ⊤
IsOfText _ = ⊥

-- the reader itself failed, or got too many requests
abbrev pub IsReadFault : TextFault → Type 0
IsReadFault Input = ⊤
IsReadFault Endless = ⊤
IsReadFault _ = ⊥

-- `Endless` comes only if no request is left
abbrev pub IsSpent : ℕ → TextFault → Type 0
IsSpent asks fault = fault ≡ Endless → asks ≡ 0

-- its number
abbrev pub text_number : TextFault → ℕ
text_number (Syntax at) = 1
text_number (Ended at) = 2
text_number (Large at) = 3
text_number Input = 4
text_number Endless = 5
text_number NoMemory = 6

-- the fault of a text whose reader, after so many bytes, did not give the bytes requested
abbrev pub unread_fault : ℕ → ReadStop → TextFault
unread_fault at unread.Ended = Ended at
unread_fault at unread.Failed = Input
unread_fault at unread.Spent = Endless
unread_fault at unread.NoMemory = NoMemory

-- what is written beside the place of a fault, and the place
abbrev pub text_message : TextFault → List ℕ
text_message (Syntax at) = codes "not a record"
text_message (Ended at) = codes "text ends early"
text_message (Large at) = codes "length too large"
text_message Input = codes "cannot be read"
text_message Endless = codes "has no end"
text_message NoMemory = codes "no memory"

abbrev pub text_place : TextFault → Option ℕ
text_place (Syntax at) = Some at
text_place (Ended at) = Some at
text_place (Large at) = Some at
text_place _ = None

-- what a person reads of a fault: its place, if it has one, and its message
abbrev pub text_display : TextFault → List ℕ
text_display (Syntax at) = codes "byte " ++ decimal at ++ codes ": " ++ text_message (Syntax at)
text_display (Ended at) = codes "byte " ++ decimal at ++ codes ": " ++ text_message (Ended at)
text_display (Large at) = codes "byte " ++ decimal at ++ codes ": " ++ text_message (Large at)
text_display fault = text_message fault

-- the number of bytes that were read in all, if the text has this fault: the byte at its place was the last one
abbrev pub LastRead : ℕ → TextFault → Type 0
LastRead taken (Syntax at) = taken ≡ at + 1
LastRead taken (Large at) = taken ≡ at + 1
LastRead taken (Ended at) = taken ≡ at
LastRead taken _ = ⊤
