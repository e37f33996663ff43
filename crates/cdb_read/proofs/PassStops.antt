-- Why a pass over a file, beside another, stopped.
use Rattle.cdb_read.proofs.DifferenceWords.{Ghosts, KeyValue, List, OnlyReads, Walked, [], ap, arith, bytes_eq, bytes_eq-Decides, cond, filter, flipped, length, length-append, map, refl, sym, values_of, values_of-append, walk_of, with_first, with_records, ℕ, ◌++◌, ◌∙◌, ◌∷◌, ◌≡◌, ◌≤◌}
use Rattle.cdb_form.specs.declared.damage.Damage.{Damage}
use Rattle.cdb_form.specs.declared.damage.Damage.TheVariants as damage
use Rattle.cdb_read.specs.declared.fault.ReadFault.{ReadFault}
use Rattle.cdb_read.specs.declared.fault.ReadFault.TheVariants.{Short, Table, Record, Slot, Twice, Unindexed, Device, NoMemory, Output}
use Rattle.cdb_read.specs.Differing.{WalkHasKey, IsOneDamaged, ReadingStops, DifferenceStops, StopsBy}
use Rattle.cdb_read.specs.declared.difference.stop.Stop.{Stop}
use Rattle.cdb_read.specs.declared.difference.stop.Stop.TheVariants.{Own, Other}

-- what stopped a part of it stopped it, whatever was read before and is known of a damage
pub stops_since : {S : Type 0} (s : Ghosts S) (old mid new last : S) (P Q : Damage → Type 0) (O O_now : Type 0) (f : ReadFault) → s.failures old ≤ s.failures mid → s.failures new ≤ s.failures last → ((d : Damage) → P d → Q d) → (O → O_now) → ReadingStops s mid new P O f → ReadingStops s old last Q O_now f
stops_since s old mid new last P Q O O_now Device before after more out fails = omega (arith, before, fails, after)
stops_since s old mid new last P Q O O_now NoMemory before after more out fails = tt
stops_since s old mid new last P Q O O_now Output before after more out fails = out fails
stops_since s old mid new last P Q O O_now (Table n) before after more out fails = more (damage.Table n) fails
stops_since s old mid new last P Q O O_now (Record place) before after more out fails = more (damage.Record place) fails
stops_since s old mid new last P Q O O_now Short before after more out fails = absurd fails
stops_since s old mid new last P Q O O_now (Slot n i) before after more out fails = absurd fails
stops_since s old mid new last P Q O O_now (Twice place) before after more out fails = absurd fails
stops_since s old mid new last P Q O O_now (Unindexed place) before after more out fails = absurd fails

-- whichever of two files it was
pub both_since : {S T : Type 0} (s : Ghosts S) (t : Ghosts T) (own own_mid own_new : S) (other other_mid other_new : T) (P P_now Q Q_now : Damage → Type 0) (O O_now : Type 0) (stop : Stop) → s.failures own ≤ s.failures own_mid → t.failures other ≤ t.failures other_mid
    → ((d : Damage) → P d → P_now d) → ((d : Damage) → Q d → Q_now d) → (O → O_now) → StopsBy s t own_mid own_new other_mid other_new P Q O stop → StopsBy s t own own_new other other_new P_now Q_now O_now stop
both_since s t own own_mid own_new other other_mid other_new P P_now Q Q_now O O_now (Own f) mine theirs p q out fails = stops_since s own own_mid own_new own_new P P_now O O_now f mine (omega arith) p out fails
both_since s t own own_mid own_new other other_mid other_new P P_now Q Q_now O O_now (Other f) mine theirs p q out fails = stops_since t other other_mid other_new other_new Q Q_now O O_now f theirs (omega arith) q out fails

-- the key of a record that a walk gave is one of its keys
pub passed_key : (w : ℕ) (b : List ℕ) (done : List KeyValue) (old new : Walked) (r : KeyValue) → walk_of w b ≡ with_records done old → old ≡ with_first r new → WalkHasKey r.key (walk_of w b).records
passed_key w b done old new r all first none =
    let records : (walk_of w b).records ≡ done ++ r ∷ new.records = ap (λ (x : Walked). x.records) (all ∙ ap (with_records done) first) in
    let mine : values_of r.key (r ∷ new.records) ≡ r.value ∷ values_of r.key new.records =
    ap (λ v. map (λ (x : KeyValue). x.value) (cond v (r ∷ filter (λ (x : KeyValue). bytes_eq x.key r.key) new.records) (filter (λ (x : KeyValue). bytes_eq x.key r.key) new.records))) ((bytes_eq-Decides r.key r.key).1 refl) in
    let values : values_of r.key done ++ (r.value ∷ values_of r.key new.records) ≡ [] =
    ap (λ vs. values_of r.key done ++ vs) (sym mine) ∙ sym (values_of-append r.key done (r ∷ new.records)) ∙ ap (values_of r.key) (sym records) ∙ none in
    let long = ap length values in
    omega (arith, length-append (values_of r.key done) (r.value ∷ values_of r.key new.records), long)

-- what stopped a pass stopped the whole, whatever was read before
pub whole_since : {S T : Type 0} (w : ℕ) (s : Ghosts S) (t : Ghosts T) (old old_mid old_now : S) (new new_mid new_now : T) (O O_now : Type 0) (stop : Stop) → OnlyReads s old old_mid → OnlyReads t new new_mid → (O → O_now) → DifferenceStops w s t old_mid old_now new_mid new_now O stop → DifferenceStops w s t old old_now new new_now O_now stop
whole_since w s t old old_mid old_now new new_mid new_now O O_now stop first second out fails =
    both_since s t old old_mid old_now new new_mid new_now (IsOneDamaged w s t old_now new_now) (IsOneDamaged w s t old_now new_now) (IsOneDamaged w t s new_now old_now) (IsOneDamaged w t s new_now old_now) O O_now stop first.failures second.failures (λ d is. is) (λ d is. is) out fails

-- and a pass over the new one
pub flipped_stops : {S T : Type 0} (w : ℕ) (s : Ghosts S) (t : Ghosts T) (old old_now : S) (new new_now : T) (O : Type 0) (stop : Stop) → DifferenceStops w t s new new_now old old_now O stop → DifferenceStops w s t old old_now new new_now O (flipped stop)
flipped_stops w s t old old_now new new_now O (Own f) fails = fails
flipped_stops w s t old old_now new new_now O (Other f) fails = fails
