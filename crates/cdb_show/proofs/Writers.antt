-- What a writer holds.
use Rattle.cdb_show.proofs.Words.{Appends, AppendsPrefix, Keeps, List, Option, [], append-nil, appends_kept, false, sym, true, ℕ, ◌≡◌}
pub use Rattle.std.proofs.KnownBytes.{Keeps-refl as keeps_self, Keeps-trans as keeps_then}

pub prefix_kept : (old mid new : Option (List ℕ)) (bytes : List ℕ) → AppendsPrefix old mid bytes → Keeps mid new → AppendsPrefix old new bytes
prefix_kept old mid new bytes a k = record { front = a.front; more = a.more; split = a.split; appended = appends_kept old mid new a.front a.appended k }

-- the whole is a prefix
pub whole_prefix : (old new : Option (List ℕ)) (bytes : List ℕ) → Appends old new bytes → AppendsPrefix old new bytes
whole_prefix old new bytes a = record { front = bytes; more = []; split = sym (append-nil bytes); appended = a }

-- a fault is no Ok
pub not_ok : false ≡ true → ⊥
not_ok e = cc
