-- Readers of which the standard library says which bytes are left: its words and those of feeds, each from the other.
use Rattle.cdb_form.proofs.Words.{Consumes, IsAtEnd, List, None, Option, Some, [], ap, length, reader_feed, refl, subst, sym, ℕ, ◌++◌, ◌<◌, ◌≡◌}
use Rattle.std.specs.Io.KnownBytes.{Consumes as KnownConsumes, IsAtEnd as KnownEnd, ReadConsumes}
use Rattle.std.specs.Prelude.{Result, Ok, Err, IfOk}

some_eq : {xs ys : List ℕ} → ◌≡◌ {A = Option (List ℕ)} (Some xs) (Some ys) → xs ≡ ys
some_eq e = cc

pub reader_gives : (old new : Option (List ℕ)) (bytes : List ℕ) → KnownConsumes old new bytes → Consumes (reader_feed old) (reader_feed new) bytes
reader_gives None new bytes c = record { known = λ k. elim k [ ]; back = λ k. elim k [ ]; stays = λ f. f }
reader_gives (Some xs) None bytes c = elim c [ ]
reader_gives (Some xs) (Some ys) bytes c = record {
  known = λ k. tt;
  back = λ k whole rest m. ap Some (subst (λ z. xs ≡ bytes ++ z) (some_eq m) c);
  stays = λ f. f;
}

reader_end : (remaining : Option (List ℕ)) → KnownEnd remaining → IsAtEnd (reader_feed remaining)
reader_end None e = λ k. elim k [ ]
reader_end (Some xs) e = λ k whole rest m. subst (λ z. z ≡ []) (some_eq m) e

pub reader_ends : {E : Type 0} (old new : Option (List ℕ)) (result : Result ℕ E) (buf : List ℕ) (room : ℕ) → length buf ≡ room → ReadConsumes old new result buf
    → IfOk result (λ n. n ≡ 0 → 0 < room → IsAtEnd (reader_feed new))
reader_ends old new (Ok n) buf room e c = λ z some. reader_end new (c.1 z (subst (λ k. 0 < k) (sym e) some))
reader_ends old new (Err x) buf room e c = tt

-- and back again
pub known_consumes : (old new : Option (List ℕ)) (bytes : List ℕ) → Consumes (reader_feed old) (reader_feed new) bytes → KnownConsumes old new bytes
known_consumes None new bytes c = tt
known_consumes (Some xs) None bytes c = elim (c.known tt) [ ]
known_consumes (Some xs) (Some ys) bytes c = some_eq (c.back tt [] ys refl)

-- none are left
pub known_end : (remaining : Option (List ℕ)) → IsAtEnd (reader_feed remaining) → KnownEnd remaining
known_end None e = tt
known_end (Some rest) e = e tt [] rest refl
