-- What the statistics of a database are, or why there are none.
use Rattle.std.specs.Prelude.{ℕ, ◌≡◌, ◌<◌, List, Some, None, length, sum}
use Rattle.cdb_store.specs.declared.store.Store.{Ghosts}
use Rattle.cdb_form.specs.declared.damage.Damage.TheVariants as damage
use Rattle.cdb_read.specs.Statistics.{statistics_of, statistics_damage, capped, least_of, greatest_of, collisions_of, distance_counts}
use Rattle.cdb_read.specs.declared.fault.ReadFault.{ReadFault}
use Rattle.cdb_read.specs.declared.fault.ReadFault.TheVariants.{Table, Record, Device}
use Rattle.cdb_read.specs.declared.statistics.stats.Stats.{Stats}
use Rattle.cdb_read.specs.declared.statistics.distances.Distances.{Distances}
use Rattle.cdb_read.specs.declared.statistics.spread.Spread.{Spread}

-- a list of bytes has no damage, and these statistics
pub record HasStats (w : ℕ) (b : List ℕ) (stats : Stats) : Type 0 where
  pub whole : statistics_damage w b ≡ None
  pub is : stats ≡ statistics_of w b

-- the store failed, or each image has this damage
abbrev pub StatsFail : {S : Type 0} → ℕ → Ghosts S → (old new : S) → ReadFault → Type 0
StatsFail w s old new Device = s.failures old < s.failures new
StatsFail w s old new (Table n) =
    (b : List ℕ) → s.image new b → statistics_damage w b ≡ Some (damage.Table n)
StatsFail w s old new (Record place) =
    (b : List ℕ) → s.image new b → statistics_damage w b ≡ Some (damage.Record place)
StatsFail w s old new fault = ⊥

-- ---- What counters say of the numbers that they took.

-- how some numbers lie
pub record Spreads (spread : Spread) (ns : List ℕ) : Type 0 where
  pub count : spread.count ≡ length ns
  pub least : spread.least ≡ least_of ns
  pub greatest : spread.greatest ≡ greatest_of ns
  pub sum : spread.sum ≡ sum ns

-- the number of distances there are, and how many of each
pub record Counts (distances : Distances) (ds : List ℕ) : Type 0 where
  pub entries : distances.entries ≡ capped (length ds)
  pub collisions : distances.collisions ≡ collisions_of ds
  pub counts : distances.counts ≡ distance_counts ds
