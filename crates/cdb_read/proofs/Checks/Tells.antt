-- Why a check ended, if more is known of the damage that it reports.
use Rattle.cdb_read.proofs.Words.{Damage, Ghosts, List, OnlyReads, ReadFault, arith, ℕ}
use Rattle.cdb_form.specs.declared.damage.Damage.TheVariants as damage
use Rattle.cdb_read.specs.Views.Check.{FaultTells, InEach, ReadTells, CheckTells}
use Rattle.cdb_read.specs.declared.fault.ReadFault.TheVariants.{Short, Table, Record, Slot, Twice, Unindexed, Device, NoMemory, Output}

-- a damage that is reported without the store
pub fault_tells : {S : Type 0} (s : Ghosts S) (here : Damage → Type 0) (known : List ℕ → Damage → Type 0) (old new : S) (fault : ReadFault) → ((d : Damage) → here d → InEach s known new d) → FaultTells here fault → ReadTells s known old new fault
fault_tells s here known old new Short more tells = absurd tells
fault_tells s here known old new (Table n) more tells = more (damage.Table n) tells
fault_tells s here known old new (Record place) more tells = more (damage.Record place) tells
fault_tells s here known old new (Slot n i) more tells = more (damage.Slot n i) tells
fault_tells s here known old new (Twice place) more tells = more (damage.Twice place) tells
fault_tells s here known old new (Unindexed place) more tells = more (damage.Unindexed place) tells
fault_tells s here known old new Device more tells = absurd tells
fault_tells s here known old new NoMemory more tells = absurd tells
fault_tells s here known old new Output more tells = absurd tells

-- a damage that was reported, of which more is known
pub read_tells : {S : Type 0} (s : Ghosts S) (here known : List ℕ → Damage → Type 0) (old mid new : S) (fault : ReadFault) → OnlyReads s old mid → ((b : List ℕ) (d : Damage) → s.image new b → here b d → known b d) → ReadTells s here mid new fault → ReadTells s known old new fault
read_tells s here known old mid new Short reads more tells = absurd tells
read_tells s here known old mid new (Table n) reads more tells = λ b is. more b (damage.Table n) is (tells b is)
read_tells s here known old mid new (Record place) reads more tells = λ b is. more b (damage.Record place) is (tells b is)
read_tells s here known old mid new (Slot n i) reads more tells = λ b is. more b (damage.Slot n i) is (tells b is)
read_tells s here known old mid new (Twice place) reads more tells = λ b is. more b (damage.Twice place) is (tells b is)
read_tells s here known old mid new (Unindexed place) reads more tells = λ b is. more b (damage.Unindexed place) is (tells b is)
read_tells s here known old mid new Device reads more tells = omega (arith, tells, reads.failures)
read_tells s here known old mid new NoMemory reads more tells = absurd tells
read_tells s here known old mid new Output reads more tells = absurd tells

-- what reading reports, a check reports
pub check_tells : {S : Type 0} (s : Ghosts S) (known : List ℕ → Damage → Type 0) (old new : S) (fault : ReadFault) → ReadTells s known old new fault → CheckTells s known old new fault
check_tells s known old new Short tells = tells
check_tells s known old new (Table n) tells = tells
check_tells s known old new (Record place) tells = tells
check_tells s known old new (Slot n i) tells = tells
check_tells s known old new (Twice place) tells = tells
check_tells s known old new (Unindexed place) tells = tells
check_tells s known old new Device tells = tells
check_tells s known old new NoMemory tells = absurd tells
check_tells s known old new Output tells = tells

-- and more
pub check_tells_more : {S : Type 0} (s : Ghosts S) (here known : List ℕ → Damage → Type 0) (old new : S) (fault : ReadFault) → ((b : List ℕ) (d : Damage) → s.image new b → here b d → known b d) → CheckTells s here old new fault → CheckTells s known old new fault
check_tells_more s here known old new Short more tells = absurd tells
check_tells_more s here known old new (Table n) more tells = λ b is. more b (damage.Table n) is (tells b is)
check_tells_more s here known old new (Record place) more tells = λ b is. more b (damage.Record place) is (tells b is)
check_tells_more s here known old new (Slot n i) more tells = λ b is. more b (damage.Slot n i) is (tells b is)
check_tells_more s here known old new (Twice place) more tells = λ b is. more b (damage.Twice place) is (tells b is)
check_tells_more s here known old new (Unindexed place) more tells = λ b is. more b (damage.Unindexed place) is (tells b is)
check_tells_more s here known old new Device more tells = tells
check_tells_more s here known old new NoMemory more tells = tt
check_tells_more s here known old new Output more tells = absurd tells
