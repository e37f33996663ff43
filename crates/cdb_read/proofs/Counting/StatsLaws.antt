-- What is counted of a file, or the damage that is reported.
use Rattle.cdb_read.proofs.Words.{Counts, Damage, Distances, Ghosts, HasLengths, Lengths, LengthsFail, List, OnlyReads, ReadFault, Spread, Spreads, StandsInside, WordPair, ap, arith, head_at, option_or, pointer_pair, subst, sym, walk_of, ℕ, ◌∙◌, ◌≡◌}
use Rattle.std.specs.Prelude.{All, map, Option, Some, None, option_map, position}
use Rattle.cdb_form.specs.declared.damage.Damage.TheVariants as damage
use Rattle.cdb_form.specs.declared.head.Head.{Head}
use Rattle.cdb_read.specs.Statistics.{statistics_of, statistics_damage, is_outside, key_lengths, value_lengths, table_sizes, distances_of, stats_of}
use Rattle.cdb_read.specs.Views.Reads.{StoreFails}
use Rattle.cdb_read.specs.Views.Stats.{HasStats, StatsFail}
use Rattle.cdb_read.specs.declared.fault.ReadFault.TheVariants.{Short, Table, Record, Slot, Twice, Unindexed, Device, NoMemory, Output}
use Rattle.cdb_read.specs.declared.statistics.stats.Stats.{Stats}

-- the damage, by the first table outside the file
damage_by : (w : ℕ) (b : List ℕ) (ps : List WordPair) (first : Option ℕ) → head_at w b ≡ ps → first ≡ position (is_outside w b) ps → statistics_damage w b ≡ option_or (option_map (λ n. damage.Table n) first) (walk_of w b).damage
unfolding statistics_damage
damage_by w b ps first known is =
    let told : Option ℕ → Option Damage = λ o. option_or (option_map (λ n. damage.Table n) o) (walk_of w b).damage in
    ap (λ qs. told (position (is_outside w b) qs)) known ∙ ap told (sym is)

pub damage_outside : (w n : ℕ) (b : List ℕ) (ps : List WordPair) → head_at w b ≡ ps → Some n ≡ position (is_outside w b) ps → statistics_damage w b ≡ Some (damage.Table n)
damage_outside w n b ps known is = damage_by w b ps (Some n) known is

pub damage_walk : (w : ℕ) (b : List ℕ) (ps : List WordPair) → head_at w b ≡ ps → None ≡ position (is_outside w b) ps → statistics_damage w b ≡ (walk_of w b).damage
damage_walk w b ps known is = damage_by w b ps None known is

-- a walk that stopped
pub walk_fails : {S : Type 0} (s : Ghosts S) (w : ℕ) (old new : S) (fault : ReadFault) → ((b : List ℕ) → s.image new b → statistics_damage w b ≡ (walk_of w b).damage) → LengthsFail w s old new fault → StatsFail w s old new fault
walk_fails s w old new Device same fails = fails
walk_fails s w old new (Table n) same fails = λ b is. same b is ∙ fails b is
walk_fails s w old new (Record place) same fails = λ b is. same b is ∙ fails b is
walk_fails s w old new Short same fails = fails
walk_fails s w old new (Slot n i) same fails = fails
walk_fails s w old new (Twice place) same fails = fails
walk_fails s w old new (Unindexed place) same fails = fails
walk_fails s w old new NoMemory same fails = fails
walk_fails s w old new Output same fails = fails

-- a store that failed later
pub slots_fail : {S : Type 0} {s : Ghosts S} (w : ℕ) (start old new : S) (fault : ReadFault) → OnlyReads s start old → StoreFails s old new fault → StatsFail w s start new fault
slots_fail {s = s} w start old new Device reads fails = omega (arith, fails, reads.failures)
slots_fail w start old new (Table n) reads fails = absurd fails
slots_fail w start old new (Record place) reads fails = absurd fails
slots_fail w start old new Short reads fails = fails
slots_fail w start old new (Slot n i) reads fails = fails
slots_fail w start old new (Twice place) reads fails = fails
slots_fail w start old new (Unindexed place) reads fails = fails
slots_fail w start old new NoMemory reads fails = fails
slots_fail w start old new Output reads fails = fails

-- the tables are inside after the walk as they were before
pub still_inside : (w size now : ℕ) (old new : Head) → new ≡ old → now ≡ size → All (StandsInside w size) (map pointer_pair old.pointers) → All (StandsInside w now) (map pointer_pair new.pointers)
still_inside w size now old new same_head same_size all =
    subst (λ (h : Head). All (StandsInside w now) (map pointer_pair h.pointers)) (sym same_head)
    (subst (λ (n : ℕ). All (StandsInside w n) (map pointer_pair old.pointers)) (sym same_size) all)

-- a walk that ended, and the slots of all tables
pub stats_are : (w : ℕ) (b : List ℕ) (ps : List WordPair) (lengths : Lengths) (sizes : Spread) (distances : Distances) (stats : Stats) → head_at w b ≡ ps → None ≡ position (is_outside w b) ps → HasLengths w b lengths → Spreads sizes (table_sizes ps) → Counts distances (distances_of w b (head_at w b))
    → ((keys values slots ds : List ℕ) → Spreads lengths.keys keys → Spreads lengths.values values → Spreads sizes slots → Counts distances ds → stats ≡ stats_of keys values slots ds) → HasStats w b stats
unfolding statistics_of
stats_are w b ps lengths sizes distances stats known none has slots counts from =
    let rs = (walk_of w b).records in
    record {
      whole = damage_walk w b ps known none ∙ has.whole;
      is = from (key_lengths rs) (value_lengths rs) (table_sizes (head_at w b)) (distances_of w b (head_at w b)) has.keys has.values
          (subst (λ qs. Spreads sizes (table_sizes qs)) (sym known) slots)
          counts;
    }
