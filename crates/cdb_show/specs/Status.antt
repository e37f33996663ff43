-- The exit status of the program.
use Rattle.std.specs.Prelude.{ℕ, Bool, true, false, if◌then◌else◌}
use Rattle.cdb_command.specs.declared.command.Command.{Command}
use Rattle.cdb_command.specs.declared.command.Command.TheVariants.{Check}
use Rattle.cdb_read.specs.declared.fault.ReadFault.{ReadFault}
use Rattle.cdb_read.specs.declared.fault.ReadFault.TheVariants as read
use Rattle.cdb_show.specs.declared.fault.Fault.{Fault}
use Rattle.cdb_show.specs.declared.fault.Fault.TheVariants.{Missing, Read}

-- true if a fault of a reader is one of the file
abbrev pub is_damage : ReadFault → Bool
is_damage read.Device = false
is_damage read.NoMemory = false
is_damage read.Output = false
is_damage fault = true

-- the status if a check met a fault
abbrev pub check_status : Fault → ℕ
check_status (Read fault) = if is_damage fault then 100 else 111
check_status Missing = 100
check_status fault = 111

-- that of the other commands
abbrev pub plain_status : Fault → ℕ
plain_status Missing = 100
plain_status fault = 111

abbrev pub exit_status : Command → Fault → ℕ
exit_status (Check name wide) fault = check_status fault
exit_status command fault = plain_status fault
