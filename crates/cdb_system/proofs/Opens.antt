-- What is opened, input by input.
use Rattle.std.proofs.Common.{ℕ, ◌+◌, ◌<◌, List, [], ◌∷◌, ◌++◌, ◌≡◌, inl, inr, refl, sym, ap, subst, ◌∙◌, map, take, drop, length, get_or}
use Rattle.std.proofs.lemmas.List.{map_push, take_more, take-append-drop, map-append, drop_more}
use Rattle.cdb_system.proofs.Words.{AreUnread, Fault, Feed, InputReader, OpenCalls}
use Rattle.cdb_show.specs.declared.input_reader.InputReader.TheVariants.{Own, Shared}
use Rattle.cdb_show.specs.declared.fault.Fault.TheVariants.{NoMemory}
use Rattle.cdb_system.specs.Inputs.{OpensInput, OpensEach, StopsOpening, MissesInput}
use Rattle.cdb_system.specs.declared.system.System.{Ghosts as Systems}

-- one input more
pub opens_more : {F I J M N R Y : Type 0} (y : Systems Y F I M J N R) (names : List (List ℕ)) (readers : List (InputReader I)) (name : List ℕ) (reader : InputReader I) (old mid new : OpenCalls) → OpensEach y names readers old mid → OpensInput y name reader mid new → OpensEach y (names ++ name ∷ []) (readers ++ reader ∷ []) old new
opens_more y [] [] name reader old mid new e is = (new, subst (λ v. OpensInput y name reader v new) e is, refl)
opens_more y (n ∷ names) (t ∷ readers) name reader old mid new e is = (e.0, e.1, opens_more y names readers name reader e.0 mid new e.2 is)
opens_more y [] (t ∷ readers) name reader old mid new e is = absurd e
opens_more y (n ∷ names) [] name reader old mid new e is = absurd e

-- nothing was taken of it, as of those before
pub unread_more : {I : Type 0} (feed : I → Feed) (readers : List (InputReader I)) (reader : InputReader I) → AreUnread feed readers → AreUnread feed (reader ∷ []) → AreUnread feed (readers ++ reader ∷ [])
unread_more feed [] reader all one = one
unread_more feed (Own first ∷ readers) reader all one = (all.0, unread_more feed readers reader all.1 one)
unread_more feed (Shared ∷ readers) reader all one = unread_more feed readers reader all one

-- ---- the first names, and one more

pub names_more : {A : Type 0} (f : A → List ℕ) (names : List A) (i : ℕ) (r : A) (name : List ℕ) → i < length names → r ≡ get_or names i r → name ≡ f r → map f (take i names) ++ name ∷ [] ≡ map f (take (i + 1) names)
names_more f names i r name lt is k =
    ap (λ x. map f (take i names) ++ x ∷ []) k
    ∙ sym (ap (map f) (take_more names i r lt ∙ ap (λ x. take i names ++ x ∷ []) (sym is)) ∙ map_push f (take i names) r)

-- the names are the first ones and the others
pub names_split : {A : Type 0} (f : A → List ℕ) (names : List A) (i : ℕ) → map f names ≡ map f (take i names) ++ map f (drop i names)
names_split f names i = ap (map f) (sym (take-append-drop i names)) ∙ map-append f (take i names) (drop i names)

-- a name and those after it
names_from : {A : Type 0} (f : A → List ℕ) (names : List A) (i : ℕ) (r : A) → i < length names → r ≡ get_or names i r → map f (drop i names) ≡ f r ∷ map f (drop (i + 1) names)
names_from f names i r lt is = ap (map f) (drop_more names i r lt ∙ ap (λ x. x ∷ drop (i + 1) names) (sym is))

-- the names are the first ones, one, and the others
pub names_at : {A : Type 0} (f : A → List ℕ) (names : List A) (i : ℕ) (r : A) (name : List ℕ) → i < length names → r ≡ get_or names i r → name ≡ f r → map f (take i names) ++ name ∷ map f (drop (i + 1) names) ≡ map f names
names_at f names i r name lt is k =
    ap (λ x. map f (take i names) ++ x ∷ map f (drop (i + 1) names)) k
    ∙ sym (names_split f names i ∙ ap (λ v. map f (take i names) ++ v) (names_from f names i r lt is))

-- an input was not opened
pub stops_missed : {A F I J M N R Y : Type 0} (y : Systems Y F I M J N R) (f : A → List ℕ) (names : List A) (i : ℕ) (r : A) (name : List ℕ) (readers : List (InputReader I)) (old mid new : OpenCalls) (fault : Fault) → i < length names → r ≡ get_or names i r → name ≡ f r → OpensEach y (map f (take i names)) readers old mid → MissesInput name mid new fault
    → StopsOpening y (map f names) old new fault
stops_missed y f names i r name readers old mid new fault lt is k opens misses = record {
  opened = map f (take i names);
  left = map f (drop i names);
  are = names_split f names i;
  readers = readers;
  mid = mid;
  opens = opens;
  last = inr (f r, map f (drop (i + 1) names), names_from f names i r lt is, subst (λ v. MissesInput v mid new fault) k misses);
}

-- an allocation failed after some were
pub stops_after : {A F I J M N R Y : Type 0} (y : Systems Y F I M J N R) (f : A → List ℕ) (names : List A) (i : ℕ) (readers : List (InputReader I)) (old new : OpenCalls) → OpensEach y (map f (take i names)) readers old new → StopsOpening y (map f names) old new NoMemory
stops_after y f names i readers old new opens = record {
  opened = map f (take i names);
  left = map f (drop i names);
  are = names_split f names i;
  readers = readers;
  mid = new;
  opens = opens;
  last = inl (refl, refl);
}
