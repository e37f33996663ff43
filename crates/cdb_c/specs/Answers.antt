-- What the exports answer, in the words of look-ups and walks over bytes in memory.
use Rattle.std.specs.Prelude.{ℕ, ℤ, pos, negsuc, zero, suc, ◌≡◌}
use Rattle.cdb_form.specs.declared.damage.Damage.{Damage}
use Rattle.cdb_form.specs.Format.{Walked, damaged}
use Rattle.cdb_read.specs.Lookup.{Found as Looked, found_damaged}
use Rattle.cdb_read.specs.declared.span.Pair.{Pair}
use Rattle.cdb_read.specs.declared.span.Span.{Span}
use Rattle.cdb_read.specs.declared.memory.search.Search.{Search}
use Rattle.cdb_read.specs.declared.memory.walk.RecordArea.{RecordArea}
use Rattle.cdb_c.specs.declared.finding.Found.{Found}
use Rattle.cdb_c.specs.declared.finding.State.{State}
use Rattle.cdb_c.specs.declared.walking.Placed.{Placed}

-- an answer is 1, 0 or -1, and each says this
abbrev pub Says : ℤ → Type 0 → Type 0 → Type 0 → Type 0
Says (pos zero) found none damage = none
Says (pos (suc zero)) found none damage = found
Says (pos (suc (suc n))) found none damage = ⊥
Says (negsuc zero) found none damage = damage
Says (negsuc (suc n)) found none damage = ⊥

-- the span, the pair, the search and the rest of a walk that C holds
abbrev pub span_of : Found → Span
span_of f = record { place = f.place; len = f.len }

abbrev pub pair_of : Placed → Pair
pair_of p = record {
  place = p.place;
  key = record { place = p.key_place; len = p.key_len };
  value = record { place = p.value_place; len = p.value_len };
}

abbrev pub search_of : State → Search
search_of s = record { hash = s.hash; table = s.table; slots = s.slots; slot = s.slot; left = s.left }

abbrev pub rest_at : ℕ → ℕ → RecordArea
rest_at place end = record { place = place; end = end }

-- nothing but a damage
pub record IsDamaged (looked : Looked) : Type 0 where
  pub damage : Damage
  pub is : looked ≡ found_damaged damage

pub record IsWalkDamaged (walk : Walked) : Type 0 where
  pub damage : Damage
  pub is : walk ≡ damaged damage
