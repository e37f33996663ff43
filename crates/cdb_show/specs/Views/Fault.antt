-- The number of a fault, and the faults that a run makes of those of its parts.
use Rattle.std.specs.Prelude.{ℕ}
use Rattle.cdb_form.specs.declared.text.fault.TextFault.{TextFault}
use Rattle.cdb_form.specs.declared.text.fault.TextFault.TheVariants as text
use Rattle.cdb_form.specs.declared.walk.fault.WalkFault.{WalkFault}
use Rattle.cdb_form.specs.declared.walk.fault.WalkFault.TheVariants as walk
use Rattle.cdb_form.specs.declared.reading_whole.InFault.{InFault}
use Rattle.cdb_form.specs.declared.reading_whole.InFault.TheVariants as input
use Rattle.cdb_store.specs.declared.make_fault.MakeFault.{MakeFault}
use Rattle.cdb_store.specs.declared.make_fault.MakeFault.TheVariants as make
use Rattle.cdb_read.specs.declared.fault.ReadFault.{ReadFault}
use Rattle.cdb_read.specs.declared.fault.ReadFault.TheVariants as read
use Rattle.cdb_read.specs.declared.difference.stop.Stop.{Stop}
use Rattle.cdb_read.specs.declared.difference.stop.Stop.TheVariants.{Own, Other}
use Rattle.cdb_show.specs.declared.fault.Fault.{Fault}
use Rattle.cdb_show.specs.declared.fault.Fault.TheVariants.{Text, Make, Read, Walk, Output}
use Rattle.cdb_show.specs.declared.fault.Fault.TheVariants.{Duplicate, Missing, Long, Open, Rename}
use Rattle.cdb_show.specs.declared.fault.Fault.TheVariants.{NoMemory, Old, New, NoOldTables, NoNewTables}
use Rattle.cdb_show.specs.declared.fault.Fault.TheVariants.{NoBaseTables}

abbrev pub fault_number : Fault → ℕ
fault_number (Text input fault) = 1
fault_number (Make fault) = 2
fault_number Duplicate = 3
fault_number Missing = 4
fault_number (Read fault) = 5
fault_number (Walk fault) = 6
fault_number Output = 7
fault_number Long = 8
fault_number Open = 9
fault_number Rename = 10
fault_number NoMemory = 11
fault_number (Old fault) = 12
fault_number (New fault) = 13
fault_number NoOldTables = 14
fault_number NoNewTables = 15
fault_number NoBaseTables = 16

-- the fault of a run, from that of an input: want of memory is the run's own
abbrev pub text_fault : ℕ → TextFault → Fault
text_fault input text.NoMemory = NoMemory
text_fault input fault = Text input fault

-- from that of a reader of a store, whose writer is the run's
abbrev pub read_fault : ReadFault → Fault
read_fault read.NoMemory = NoMemory
read_fault read.Output = Output
read_fault fault = Read fault

-- from that of one of two databases
abbrev pub old_fault : ReadFault → Fault
old_fault read.NoMemory = NoMemory
old_fault read.Output = Output
old_fault fault = Old fault

abbrev pub new_fault : ReadFault → Fault
new_fault read.NoMemory = NoMemory
new_fault read.Output = Output
new_fault fault = New fault

-- from why their difference was not written
abbrev pub stop_fault : Stop → Fault
stop_fault (Own fault) = old_fault fault
stop_fault (Other fault) = new_fault fault

-- from that of a walk of a file
abbrev pub walk_fault : WalkFault → Fault
walk_fault walk.NoMemory = NoMemory
walk_fault fault = Walk fault

-- from that of a file that is taken whole
abbrev pub in_fault : InFault → Fault
in_fault input.NoMemory = NoMemory
in_fault input.Failed = Walk walk.Input

-- from that of a maker: a fault of the writing is the output's
abbrev pub make_fault : MakeFault → Fault
make_fault make.NoMemory = NoMemory
make_fault fault = Make fault
