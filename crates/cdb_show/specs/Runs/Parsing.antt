-- What the function of the bytes of an input makes of them, and how clauses of what was read say so.
use Rattle.std.specs.Prelude.{◌≡◌, ◌≢◌, ℕ, List, Option, None, Some, Result, Err, IfSome, ⊤}
use Rattle.cdb_show.specs.Feed.{Stop, HasFault, CutShort, Parsing}
use Rattle.cdb_form.specs.Format.{AreBytes}
use Rattle.cdb_form.specs.Text.Parse.{Change}
use Rattle.cdb_form.specs.Views.TextFault.{IsOfText}
use Rattle.cdb_form.specs.declared.text.fault.TextFault.{TextFault}
use Rattle.cdb_form.specs.declared.text.fault.TextFault.TheVariants.{Syntax, Ended, Large}
use Rattle.cdb_form.specs.declared.text.fault.TextFault.TheVariants as text_fault
use Rattle.cdb_show.specs.Runs.Given.{input_parsed}
use Rattle.cdb_show.specs.Runs.Inputs.{InputForm, HasFaults, IsInputOf, BeginsWithItems, HasItemFault}
use Rattle.cdb_show.specs.Runs.InputLaws.{is_read, is_fault, text_begins}
use Rattle.cdb_show.specs.declared.fault.Fault.{Fault}
use Rattle.cdb_show.specs.declared.fault.Fault.TheVariants.{New, Old, Open, Rename, Text, Walk}

-- of an input of a form, with lengths in texts of at most this: a fault is one of its text
abbrev pub input_parsing : InputForm → (greatest : ℕ) → Parsing Change TextFault
input_parsing form greatest = record {
  parse = λ text. record {
    items = (input_parsed form greatest text).items;
    ends = (input_parsed form greatest text).ends;
  };
  fits = AreBytes;
  reads = IsInputOf form greatest;
  fails = λ items fault text.
      HasFaults form × IsOfText fault × HasItemFault form greatest items fault text;
  begins = BeginsWithItems form greatest;
  is_read = is_read form greatest;
  is_fault = is_fault form greatest;
  is_begun = text_begins form greatest;
}

-- ---- a run that stopped

-- the fault of an input, of its text or of its reader, if a run stopped with one
abbrev pub fault_in : Result Unit Fault → Option TextFault
fault_in (Err (Text n fault)) = Some fault
fault_in _ = None

-- a text with a fault is read up to that; any other is cut short after some items
abbrev pub stop_of : Option TextFault → List Change → Stop Change TextFault
stop_of (Some (Syntax at)) items = HasFault items (Syntax at)
stop_of (Some (Ended at)) items = HasFault items (Ended at)
stop_of (Some (Large at)) items = HasFault items (Large at)
stop_of _ items = CutShort items

-- the same function, if a run stopped so: an input that is cut short by a fault of its reader has that
abbrev pub stopped_parsing : InputForm → (greatest : ℕ) → Option TextFault → Parsing Change TextFault
stopped_parsing form greatest fault = record {
  parse = (input_parsing form greatest).parse;
  fits = AreBytes;
  reads = IsInputOf form greatest;
  fails = (input_parsing form greatest).fails;
  begins = λ items text. BeginsWithItems form greatest items text
      × IfSome fault (λ f. HasItemFault form greatest items f text);
  is_read = is_read form greatest;
  is_fault = is_fault form greatest;
  is_begun = λ items text are begun. text_begins form greatest items text are begun.0;
}

-- a stop in this text
abbrev pub StopsIn : Parsing Change TextFault → Stop Change TextFault → (text : List ℕ) → Type 0
StopsIn p (HasFault items fault) text = p.fails items fault text
StopsIn p (CutShort items) text = p.begins items text
StopsIn p _ text = ⊥

-- a run over inputs gives this fault: it calls nothing on names, reads no walk in turn and compares no files
abbrev pub IsOfRun : Fault → Type 0
IsOfRun Open = ⊥
IsOfRun Rename = ⊥
IsOfRun (Walk fault) = ⊥
IsOfRun (Old fault) = ⊥
IsOfRun (New fault) = ⊥
IsOfRun fault = ⊤

-- a fault of an input is one of that of this number: a map text has none of its own, want of memory
-- is none, and `Input` comes only if a reader failed
pub record IsFaultOf (form : InputForm) (input : ℕ) (Failed : Type 0) (fault : Fault) : Type 0 where
  pub number : (n : ℕ) (f : TextFault) → fault ≡ Text n f → n ≡ input
  pub own : (n : ℕ) (f : TextFault) → fault ≡ Text n f → IsOfText f → HasFaults form
  pub memory : (n : ℕ) (f : TextFault) → fault ≡ Text n f → f ≢ text_fault.NoMemory
  pub failed : (n : ℕ) → fault ≡ Text n text_fault.Input → Failed
  pub of_run : IsOfRun fault
