-- What statistics and a check leave, and the text of statistics.
use Rattle.std.specs.Prelude.{ℕ, List, ◌++◌, flat_map, get_or, decimal, codes, ◌≡◌, ◌<◌, ◌≤◌, Option, None, Some, Result, OnOk, IfErr}
use Rattle.std.specs.List.{range_with_len}
use Rattle.cdb_read.specs.declared.statistics.stats.Stats.{Stats}
use Rattle.std.specs.Io.KnownBytes.{Appends, Keeps}
use Rattle.cdb_store.specs.declared.store.Store.{Ghosts}
use Rattle.cdb_form.specs.Format.{head_size}
use Rattle.cdb_form.specs.Views.KnownBytes.{AppendsPrefix}
use Rattle.cdb_form.specs.declared.damage.Damage.{Damage}
use Rattle.cdb_form.specs.declared.damage.Damage.TheVariants as damage
use Rattle.cdb_read.specs.Statistics.{statistics_of, statistics_damage}
use Rattle.cdb_store.specs.Reads.{OnlyReads}
use Rattle.cdb_read.specs.declared.fault.ReadFault.TheVariants as read
use Rattle.cdb_show.specs.Runs.Query.{IsShortForQuery}
use Rattle.cdb_show.specs.declared.fault.Fault.{Fault}
use Rattle.cdb_show.specs.declared.fault.Fault.TheVariants.{Read, Output, NoMemory}
use Rattle.cdb_read.specs.Sound.{first_fault, IsSound}

-- ---- The text of statistics: a line of each number, or of three that belong together.

-- a line of a number, and one of three
abbrev pub count_line : List ℕ → ℕ → List ℕ
count_line words n = words ++ codes ": " ++ decimal n ++ codes "\n"

abbrev pub triple_line : List ℕ → (first second third : ℕ) → List ℕ
triple_line words first second third =
    words ++ codes ": " ++ decimal first ++ codes "/" ++ decimal second ++ codes "/"
    ++ decimal third ++ codes "\n"

-- the line of a distance
abbrev pub distance_line : List ℕ → ℕ → List ℕ
distance_line counts k = count_line (codes "distance " ++ decimal k) (get_or counts k 0)

-- the lines of the distances 0 to 9, and that of all greater ones
unfoldable pub distance_lines : List ℕ → List ℕ
distance_lines counts =
    flat_map (distance_line counts) (range_with_len 0 10)
    ++ count_line (codes "distance 10 or more") (get_or counts 10 0)

-- the other lines
abbrev pub records_line : Stats → List ℕ
records_line s = count_line (codes "records") s.records

abbrev pub keys_line : Stats → List ℕ
keys_line s =
    triple_line (codes "key lengths least/average/greatest")
    s.key_least s.key_average s.key_greatest

abbrev pub values_line : Stats → List ℕ
values_line s =
    triple_line (codes "value lengths least/average/greatest")
    s.value_least s.value_average s.value_greatest

abbrev pub tables_line : Stats → List ℕ
tables_line s = triple_line (codes "tables/entries/collisions") s.tables s.entries s.collisions

abbrev pub sizes_line : Stats → List ℕ
sizes_line s =
    triple_line (codes "table sizes least/average/greatest")
    s.size_least s.size_average s.size_greatest

-- the text
unfoldable pub stats_text : Stats → List ℕ
stats_text s =
    records_line s ++ keys_line s ++ values_line s ++ tables_line s ++ sizes_line s
    ++ distance_lines s.distances

-- ---- What writing the statistics of a file leaves, in words of w bytes. An image is one of its store
-- as it was returned.

-- what is written of an image
abbrev pub statistics_text : ℕ → List ℕ → List ℕ
statistics_text w b = stats_text (statistics_of w b)

-- the file has a head, no image has a damage, and the text of each was appended
pub record WritesStats {S : Type 0} (w : ℕ) (s : Ghosts S) (store : S)
    (start end : Option (List ℕ)) : Type 0 where
  pub long : head_size w ≤ s.size store
  pub whole : (b : List ℕ) → s.image store b → statistics_damage w b ≡ None
  pub written : (b : List ℕ) → s.image store b → Appends start end (statistics_text w b)

-- the same, with a prefix of the text
pub record WritesStatsPrefix {S : Type 0} (w : ℕ) (s : Ghosts S) (store : S)
    (start end : Option (List ℕ)) : Type 0 where
  pub long : head_size w ≤ s.size store
  pub whole : (b : List ℕ) → s.image store b → statistics_damage w b ≡ None
  pub written : (b : List ℕ) → s.image store b → AppendsPrefix start end (statistics_text w b)

-- the file has a head, each image has this damage, and nothing was written
pub record StatsMeetDamage {S : Type 0} (w : ℕ) (s : Ghosts S) (store : S) (damage : Damage)
    (start end : Option (List ℕ)) : Type 0 where
  pub long : head_size w ≤ s.size store
  pub is : (b : List ℕ) → s.image store b → statistics_damage w b ≡ Some damage
  pub kept : Keeps start end

-- what a fault leaves
abbrev pub TellingFails : {S : Type 0} → ℕ → Ghosts S → (old new : S)
    → (start end : Option (List ℕ)) → Fault → Type 0
TellingFails w s old new start end (Read read.Short) = IsShortForQuery w s old new start end
TellingFails w s old new start end (Read (read.Table n)) =
    StatsMeetDamage w s new (damage.Table n) start end
TellingFails w s old new start end (Read (read.Record place)) =
    StatsMeetDamage w s new (damage.Record place) start end
TellingFails w s old new start end (Read read.Device) =
    (s.failures old < s.failures new) × Keeps start end
TellingFails w s old new start end Output = WritesStatsPrefix w s new start end
TellingFails w s old new start end fault = ⊥

-- what writing them leaves
pub record TellsStats {S : Type 0} (w : ℕ) (s : Ghosts S) (old new : S)
    (start end : Option (List ℕ)) (result : Result Unit Fault) : Type 0 where
  pub reads : OnlyReads s old new
  pub ok : OnOk result (WritesStats w s new start end)
  pub err : IfErr result (TellingFails w s old new start end)

-- ---- What checking a file leaves, in words of w bytes. An image is one of its store as it was handed
-- back.

-- the file has a head, and each image is sound
pub record FindsSound {S : Type 0} (w : ℕ) (s : Ghosts S) (store : S) : Type 0 where
  pub long : head_size w ≤ s.size store
  pub sound : (b : List ℕ) → s.image store b → IsSound w b

-- it has a head, and this is the first fault of each image
pub record FindsFault {S : Type 0} (w : ℕ) (s : Ghosts S) (store : S) (damage : Damage)
    : Type 0 where
  pub long : head_size w ≤ s.size store
  pub first : (b : List ℕ) → s.image store b → first_fault w b ≡ Some damage

-- it has no head, which is the first fault of each image, and it was not read
pub record FindsNoHead {S : Type 0} (w : ℕ) (s : Ghosts S) (old new : S) : Type 0 where
  pub short : s.size old < head_size w
  pub unread : new ≡ old
  pub first : (b : List ℕ) → s.image new b → first_fault w b ≡ Some damage.Short

-- what a fault leaves
abbrev pub CheckingFails : {S : Type 0} → ℕ → Ghosts S → (old new : S) → Fault → Type 0
CheckingFails w s old new (Read read.Short) = FindsNoHead w s old new
CheckingFails w s old new (Read (read.Table n)) = FindsFault w s new (damage.Table n)
CheckingFails w s old new (Read (read.Record place)) = FindsFault w s new (damage.Record place)
CheckingFails w s old new (Read (read.Slot n i)) = FindsFault w s new (damage.Slot n i)
CheckingFails w s old new (Read (read.Twice place)) = FindsFault w s new (damage.Twice place)
CheckingFails w s old new (Read (read.Unindexed place)) =
    FindsFault w s new (damage.Unindexed place)
CheckingFails w s old new (Read read.Device) = s.failures old < s.failures new
CheckingFails w s old new NoMemory = head_size w ≤ s.size new
CheckingFails w s old new fault = ⊥
