-- The lengths of the records that a walk has given.
use Rattle.cdb_read.proofs.Words.{Damage, Ghosts, HasLengths, KeyValue, Lengths, LengthsFail, LiesAt, List, OnlyReads, Pair, ReadFault, Some, Span, Spread, Spreads, Walk, Walked, [], ap, append-nil, append_assoc, arith, behind, bytes_of, damaged, head_size, inl, inr, key_lengths, length, length-part, map-append, no_walk, record_in, record_size, subst, sum_by, sum_by-append, sum_by-cons, sym, value_lengths, walk_of, with_first, with_records, ℕ, ◌++◌, ◌+◌, ◌<◌, ◌∙◌, ◌∷◌, ◌≡◌, ◌≤◌, ◌⊎◌}
use Rattle.cdb_form.specs.declared.width.Width.{Ghosts as Widths}
use Rattle.cdb_form.specs.declared.damage.Damage.TheVariants as damage
pub use Rattle.cdb_store.proofs.Reading.{reads_nothing}
use Rattle.cdb_read.specs.Views.Walking.{left_of, WalkingFails}
use Rattle.cdb_read.specs.declared.fault.ReadFault.TheVariants.{Short, Table, Record, Slot, Twice, Unindexed, Device, NoMemory, Output}

-- some records were given, whose lengths these are, and then what is left of the walk
pub record WalkedSoFar (w : ℕ) (b : List ℕ) (left : Walked) (key_spread value_spread : Spread) : Type 0 where
  pub done : List KeyValue
  pub all : walk_of w b ≡ with_records done left
  pub keys : Spreads key_spread (key_lengths done)
  pub values : Spreads value_spread (value_lengths done)

pub walked_none : (w : ℕ) (b : List ℕ) (left : Walked) (keys values : Spread) → left ≡ walk_of w b → Spreads keys [] → Spreads values [] → WalkedSoFar w b left keys values
walked_none w b left keys values is no_keys no_values = record { done = []; all = sym is; keys = no_keys; values = no_values }

-- the bytes of a span that lies inside are as many as its length says
pub length_of : (b : List ℕ) (span : Span) → span.place + span.len ≤ length b → length (bytes_of b span) ≡ span.len
length_of b span inside = length-part span.place span.len b inside

-- one record more was given
pub given_one : (w : ℕ) (b : List ℕ) (done : List KeyValue) (old new : Walked) (r : KeyValue) → walk_of w b ≡ with_records done old → old ≡ with_first r new → walk_of w b ≡ with_records (done ++ r ∷ []) new
given_one w b done old new r all first =
    all ∙ ap (with_records done) first ∙ ap (λ rs. let walk : Walked = record { records = rs; damage = new.damage } in walk) (sym (append_assoc done (r ∷ []) new.records))

-- where it ends
pub ends_behind : {w place next : ℕ} {pair : Pair} (b : List ℕ) (done : List KeyValue) → place ≡ head_size w + sum_by (record_size w) done → LiesAt w place pair → next ≡ behind pair → behind pair ≤ length b
    → next ≡ head_size w + sum_by (record_size w) (done ++ record_in b pair ∷ [])
ends_behind {w = w} {pair = pair} b done was lies ends inside =
    let r = record_in b pair in
    let after = lies.value in
    let key_at = lies.key in
    let at = lies.here in
    let key : length (bytes_of b pair.key) ≡ pair.key.len = length_of b pair.key (omega arith) in
    let value : length (bytes_of b pair.value) ≡ pair.value.len = length_of b pair.value inside in
    let sum : sum_by (record_size w) (done ++ r ∷ []) ≡ sum_by (record_size w) done + record_size w r = omega (arith, sum_by-append (record_size w) done (r ∷ []), sum_by-cons (record_size w) r []) in
    omega arith

pub walked_more : (w place : ℕ) (b : List ℕ) (old new : Walked) (keys values keys_now values_now : Spread) (pair : Pair) → WalkedSoFar w b old keys values → old ≡ with_first (record_in b pair) new → LiesAt w place pair → behind pair ≤ length b
    → ((ns : List ℕ) → Spreads keys ns → Spreads keys_now (ns ++ pair.key.len ∷ [])) → ((ns : List ℕ) → Spreads values ns → Spreads values_now (ns ++ pair.value.len ∷ [])) → WalkedSoFar w b new keys_now values_now
walked_more w place b old new keys values keys_now values_now pair so_far first lies inside add_key add_value =
    let r = record_in b pair in
    let done = so_far.done in
    let after = lies.value in
    let key : length (bytes_of b pair.key) ≡ pair.key.len = length_of b pair.key (omega arith) in
    let value : length (bytes_of b pair.value) ≡ pair.value.len = length_of b pair.value inside in
    record {
      done = done ++ r ∷ [];
      all = given_one w b done old new r so_far.all first;
      keys = subst (Spreads keys_now) (ap (λ n. key_lengths done ++ n ∷ []) (sym key) ∙ sym (map-append (λ (x : KeyValue). length x.key) done (r ∷ []))) (add_key (key_lengths done) so_far.keys);
      values = subst (Spreads values_now) (ap (λ n. value_lengths done ++ n ∷ []) (sym value) ∙ sym (map-append (λ (x : KeyValue). length x.value) done (r ∷ []))) (add_value (value_lengths done) so_far.values);
    }

-- there are no more records than bytes before the next place
pub few_more : (w place next count now : ℕ) (pair : Pair) → 0 < w → LiesAt w place pair → next ≡ behind pair → count ≤ place → now ≡ count + 1 → now ≤ next
few_more w place next count now pair some lies is few more =
    let here = lies.here in
    let key = lies.key in
    let value = lies.value in
    omega arith

pub some_word : (w : ℕ) → (w ≡ 4) ⊎ (w ≡ 8) → 0 < w
some_word w (inl e) = omega arith
some_word w (inr e) = omega arith

-- nothing is left
pub walked_all : (w : ℕ) (b : List ℕ) (left : Walked) (lengths : Lengths) → WalkedSoFar w b left lengths.keys lengths.values → left ≡ no_walk → HasLengths w b lengths
walked_all w b left lengths so_far none =
    let all : walk_of w b ≡ with_records so_far.done no_walk = so_far.all ∙ ap (with_records so_far.done) none in
    let same : so_far.done ≡ (walk_of w b).records = sym (ap (λ (x : Walked). x.records) all ∙ append-nil so_far.done) in
    record {
      whole = ap (λ (x : Walked). x.damage) all;
      keys = subst (λ rs. Spreads lengths.keys (key_lengths rs)) same so_far.keys;
      values = subst (λ rs. Spreads lengths.values (value_lengths rs)) same so_far.values;
    }

-- a damage is left
pub walked_damage : (w : ℕ) (b : List ℕ) (left : Walked) (keys values : Spread) (damage : Damage) → WalkedSoFar w b left keys values → left ≡ damaged damage → (walk_of w b).damage ≡ Some damage
walked_damage w b left keys values damage so_far is = ap (λ (x : Walked). x.damage) (so_far.all ∙ ap (with_records so_far.done) is)

-- why a walk stopped, and so why its records weren't counted
pub walking_fails : {S L : Type 0} {s : Ghosts S} {l : Widths L} (w : ℕ) (store : S) (old new : Walk S L s l) (keys values : Spread) (fault : ReadFault) → OnlyReads s store old.reader.now.store → OnlyReads s old.reader.now.store new.reader.now.store
    → ((b : List ℕ) → s.image old.reader.now.store b → WalkedSoFar w b (left_of w b old) keys values) → WalkingFails w old new fault → LengthsFail w s store new.reader.now.store fault
walking_fails {s = s} w store old new keys values Device before now so_far fails = omega (arith, fails.1, before.failures)
walking_fails w store old new keys values (Table n) before now so_far fails = λ b is. walked_damage w b (left_of w b old) keys values (damage.Table n) (so_far b (now.images b is)) (fails.1 b is)
walking_fails w store old new keys values (Record place) before now so_far fails = λ b is. walked_damage w b (left_of w b old) keys values (damage.Record place) (so_far b (now.images b is)) (fails.1 b is)
walking_fails w store old new keys values Short before now so_far fails = fails
walking_fails w store old new keys values (Slot n i) before now so_far fails = fails
walking_fails w store old new keys values (Twice place) before now so_far fails = fails
walking_fails w store old new keys values (Unindexed place) before now so_far fails = fails
walking_fails w store old new keys values NoMemory before now so_far fails = fails
walking_fails w store old new keys values Output before now so_far fails = fails
