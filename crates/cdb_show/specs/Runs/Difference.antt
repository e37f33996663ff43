-- What a run that writes the difference of two databases leaves, in words of w bytes. An image is one of its store as
-- it was returned.
use Rattle.std.specs.Prelude.{ℕ, ◌≡◌, ◌<◌, ◌≤◌, ⊤, Bool, true, false, nat_lt, if◌then◌else◌, List, length, Option, None, Some, option_map, Result, OnOk, IfErr}
use Rattle.std.specs.Option.{option_or}
use Rattle.std.specs.Io.KnownBytes.{Keeps}
use Rattle.cdb_store.specs.declared.store.Store.{Ghosts}
use Rattle.cdb_store.specs.Reads.{OnlyReads}
use Rattle.cdb_form.specs.Format.{head_size}
use Rattle.cdb_form.specs.declared.damage.Damage.TheVariants as damage
pub use Rattle.cdb_read.specs.Differing.{HasDamage, InBoth, IsOneDamaged, WritesDifference, WritesDifferencePrefix, difference_of}
use Rattle.cdb_read.specs.Sound.{lacks_tables}
use Rattle.cdb_read.specs.Statistics.{outside_table}
use Rattle.cdb_read.specs.declared.fault.ReadFault.{ReadFault}
use Rattle.cdb_read.specs.declared.fault.ReadFault.TheVariants as read
use Rattle.cdb_show.specs.declared.fault.Fault.{Fault}
use Rattle.cdb_show.specs.declared.fault.Fault.TheVariants.{Old, New, Output, NoMemory, NoOldTables, NoNewTables}

-- ---- what is compared

-- the number of bytes that a word has, and what is known of such stores
pub record DifferenceTask (S T : Type 0) : Type 1 where
  pub word : ℕ
  pub old : Ghosts S
  pub new : Ghosts T

abbrev pub difference_task : {S T : Type 0} → (word : ℕ) → Ghosts S → Ghosts T → DifferenceTask S T
difference_task word old new = record { word = word; old = old; new = new }

-- both stores, and what was written, before a run or after it
pub record DifferenceState (S T : Type 0) : Type 0 where
  pub old : S
  pub new : T
  pub output : Option (List ℕ)

abbrev pub difference_state : {S T : Type 0} → S → T → (output : Option (List ℕ)) → DifferenceState S T
difference_state old new output = record { old = old; new = new; output = output }

-- the other way round
abbrev pub turned : {S T : Type 0} → DifferenceTask S T → DifferenceTask T S
turned d = difference_task d.word d.new d.old

abbrev pub turned_state : {S T : Type 0} → DifferenceState S T → DifferenceState T S
turned_state state = difference_state state.new state.old state.output

-- ---- what the heads of two files say

-- why they are not compared: one is shorter than its head, or has no table with slots though bytes
-- follow the head, or a table of it lies outside. Each is looked for in the old one first
abbrev pub heads_fault : ℕ → (b c : List ℕ) → Option Fault
heads_fault w b c =
    if nat_lt (length b) (head_size w) then Some (Old read.Short)
    else if nat_lt (length c) (head_size w) then Some (New read.Short)
    else if lacks_tables w b then Some NoOldTables
    else if lacks_tables w c then Some NoNewTables
    else option_or (option_map (λ n. Old (read.Table n)) (outside_table w b))
    (option_map (λ n. New (read.Table n)) (outside_table w c))

-- true if each image of a store lacks tables, and the first table outside of each
abbrev pub DifferenceLacks : {S : Type 0} → ℕ → Ghosts S → S → Bool → Type 0
DifferenceLacks w s store lacks = (b : List ℕ) → s.image store b → lacks_tables w b ≡ lacks

abbrev pub DifferenceOutside : {S : Type 0} → ℕ → Ghosts S → S → Option ℕ → Type 0
DifferenceOutside w s store outside = (b : List ℕ) → s.image store b → outside_table w b ≡ outside

-- what the looks find, one after the other: both have whole heads; and tables, or end with their heads;
-- and all tables lie inside
pub record HaveHeads {S T : Type 0} (w : ℕ) (s : Ghosts S) (t : Ghosts T) (old : S) (new : T) : Type 0
  where
    pub of_old : head_size w ≤ s.size old
    pub of_new : head_size w ≤ t.size new

pub record HaveTables {S T : Type 0} (w : ℕ) (s : Ghosts S) (t : Ghosts T) (old : S) (new : T)
    : Type 0 where
  pub heads : HaveHeads w s t old new
  pub of_old : DifferenceLacks w s old false
  pub of_new : DifferenceLacks w t new false

pub record HaveTablesInside {S T : Type 0} (w : ℕ) (s : Ghosts S) (t : Ghosts T) (old : S) (new : T)
    : Type 0 where
  pub tables : HaveTables w s t old new
  pub of_old : DifferenceOutside w s old None
  pub of_new : DifferenceOutside w t new None

-- which of the looks came before a fault
abbrev pub ComesAfter : {S T : Type 0} → ℕ → Ghosts S → Ghosts T → (old : S) → (new : T) → Fault
    → Type 0
ComesAfter w s t old new (Old read.Short) = ⊤
ComesAfter w s t old new (Old read.Device) = ⊤
ComesAfter w s t old new (Old (read.Table n)) = HaveTables w s t old new
ComesAfter w s t old new (New read.Short) = head_size w ≤ s.size old
ComesAfter w s t old new (New read.Device) = head_size w ≤ s.size old
ComesAfter w s t old new (New (read.Table n)) =
    HaveTables w s t old new × DifferenceOutside w s old None
ComesAfter w s t old new NoOldTables = HaveHeads w s t old new
ComesAfter w s t old new NoNewTables = HaveHeads w s t old new × DifferenceLacks w s old false
ComesAfter w s t old new fault = HaveTablesInside w s t old new

-- ---- why they were not compared, or not to the end

-- a file has no head, and was not read: nothing was written
pub record IsShortForDifference {S : Type 0} (w : ℕ) (s : Ghosts S) (old new : S)
    (start end : Option (List ℕ)) : Type 0 where
  pub short : s.size old < head_size w
  pub unread : new ≡ old
  pub kept : Keeps start end

-- the first table outside of the old one of two files has this number, and nothing was written
abbrev pub IsOutsideForDifference : {S T : Type 0} → DifferenceTask S T
    → (before after : DifferenceState S T) → ℕ → Type 0
IsOutsideForDifference d before after n = InBoth d.old d.new after.old after.new
    (λ b c. (outside_table d.word b ≡ Some n) × Keeps before.output after.output)

-- why the old one of the two was not read
abbrev pub DifferenceNotRead : {S T : Type 0} → DifferenceTask S T
    → (before after : DifferenceState S T) → ReadFault → Type 0
DifferenceNotRead d before after read.Short =
    IsShortForDifference d.word d.old before.old after.old before.output after.output
DifferenceNotRead d before after read.Device = d.old.failures before.old < d.old.failures after.old
DifferenceNotRead d before after (read.Table n) = IsOutsideForDifference d before after n
DifferenceNotRead d before after (read.Record place) =
    IsOneDamaged d.word d.old d.new after.old after.new (damage.Record place)
DifferenceNotRead d before after fault = ⊥

-- one of the two lacks tables, and nothing was written
pub record LacksTables {S : Type 0} (w : ℕ) (s : Ghosts S) (now : S) (start end : Option (List ℕ))
    : Type 0 where
  pub lacks : DifferenceLacks w s now true
  pub kept : Keeps start end

abbrev pub DifferenceFails : {S T : Type 0} → DifferenceTask S T → (before after : DifferenceState S T)
    → Fault → Type 0
DifferenceFails d before after (Old fault) = DifferenceNotRead d before after fault
DifferenceFails d before after (New fault) =
    DifferenceNotRead (turned d) (turned_state before) (turned_state after) fault
DifferenceFails d before after Output = ⊤
DifferenceFails d before after NoMemory = ⊤
DifferenceFails d before after NoOldTables =
    LacksTables d.word d.old after.old before.output after.output
DifferenceFails d before after NoNewTables =
    LacksTables d.word d.new after.new before.output after.output
DifferenceFails d before after fault = ⊥

-- ---- the run

-- what the run leaves
pub record TellsDifference {S T : Type 0} (d : DifferenceTask S T) (before after : DifferenceState S T)
    (result : Result Unit Fault) : Type 0 where
  pub old_reads : OnlyReads d.old before.old after.old
  pub new_reads : OnlyReads d.new before.new after.new
  pub ok : OnOk result (InBoth d.old d.new after.old after.new
      (λ b c. WritesDifference d.word b c before.output after.output))
  pub err : IfErr result (DifferenceFails d before after)
  pub ok_looks : OnOk result (HaveTablesInside d.word d.old d.new after.old after.new)
  pub err_looks : IfErr result (ComesAfter d.word d.old d.new after.old after.new)
  pub front : IfErr result (λ fault. InBoth d.old d.new after.old after.new
      (λ b c. WritesDifferencePrefix d.word b c before.output after.output))
