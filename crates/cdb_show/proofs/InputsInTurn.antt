-- The inputs that a run read, one part of them after another.
use Rattle.std.proofs.Common.{◌≡◌, ◌<◌, ℕ, List, [], ◌∷◌, ◌++◌, length, take, drop, ap, arith, inl, inr, refl, slice_set, subst, suc, sym, zero}
use Rattle.cdb_form.specs.Views.Feed.{Feed, FromTo, Keeps}
use Rattle.cdb_show.specs.Feed.{ReaderFailed, SomeFailed, Stop, NoMore, HasFault, CutShort, NotBegun, TakesOne, StopsSo, AreRead, reached, Parsing}
use Rattle.cdb_show.specs.declared.input_reader.InputReader.{InputReader}
use Rattle.cdb_show.specs.declared.input_reader.InputReader.TheVariants.{Own, Shared}
use Rattle.cdb_form.proofs.Fed.FeedLemmas.{consumes_kept}

-- nothing was taken before
kept_from : (old mid new : Feed) (P : List ℕ → List ℕ → Type 0) → Keeps old mid → FromTo mid new P → FromTo old new P
kept_from old mid new P kept f = record {
  known = λ k. f.known (kept.known k);
  back = λ k whole rest m. let t = f.back (kept.known k) whole rest m in (t.0, kept.back k whole t.0 t.1, t.2);
}

heads_same : {A : Type 0} (x y : A) (xs ys : List A) → x ∷ xs ≡ y ∷ ys → (x ≡ y) × (xs ≡ ys)
heads_same x y xs ys e = ((let a : x ∷ xs ≡ y ∷ ys = e in cc), (let a : x ∷ xs ≡ y ∷ ys = e in cc))

module _ {R S Item Fault : Type 0} (own : R → Feed) (shared : S → Feed) (p : Parsing Item Fault) where
  kept_takes : (P : List ℕ → List ℕ → Type 0) (reader left : InputReader R) (old mid new : S) → Keeps (shared old) (shared mid) → TakesOne own shared P reader left mid new → TakesOne own shared P reader left old new
  kept_takes P (Own reader) (Own left) old mid new kept (f, same) = (f, consumes_kept (shared old) (shared mid) (shared new) [] kept same)
  kept_takes P Shared Shared old mid new kept f = kept_from (shared old) (shared mid) (shared new) P kept f
  kept_takes P (Own reader) Shared old mid new kept takes = absurd takes
  kept_takes P Shared (Own left) old mid new kept takes = absurd takes

  kept_stops : (stop : Stop Item Fault) (before after : List (InputReader R)) (old mid new : S) → Keeps (shared old) (shared mid) → StopsSo own shared p stop before after mid new → StopsSo own shared p stop before after old new
  kept_stops NoMore before after old mid new kept (none, same) = (none, consumes_kept (shared old) (shared mid) (shared new) [] kept same)
  kept_stops NotBegun before after old mid new kept same = consumes_kept (shared old) (shared mid) (shared new) [] kept same
  kept_stops (HasFault items fault) (reader ∷ before) (left ∷ after) old mid new kept takes = kept_takes (λ text rest. p.fails items fault text) reader left old mid new kept takes
  kept_stops (CutShort items) (reader ∷ before) (left ∷ after) old mid new kept takes = kept_takes (λ text rest. p.begins items text) reader left old mid new kept takes
  kept_stops (HasFault items fault) [] after old mid new kept takes = absurd takes
  kept_stops (HasFault items fault) (reader ∷ before) [] old mid new kept takes = absurd takes
  kept_stops (CutShort items) [] after old mid new kept takes = absurd takes
  kept_stops (CutShort items) (reader ∷ before) [] old mid new kept takes = absurd takes

  kept_read : (more : List (List Item)) (stop : Stop Item Fault) (before after : List (InputReader R)) (old mid new : S) → Keeps (shared old) (shared mid) → AreRead own shared p more stop before after mid new → AreRead own shared p more stop before after old new
  kept_read [] stop before after old mid new kept stops = kept_stops stop before after old mid new kept stops
  kept_read (items ∷ more) stop (reader ∷ before) (left ∷ after) old mid new kept (next, takes, others) = (next, kept_takes (p.reads items) reader left old mid next kept takes, others)
  kept_read (items ∷ more) stop [] after old mid new kept are = absurd are
  kept_read (items ∷ more) stop (reader ∷ before) [] old mid new kept are = absurd are

  -- the first inputs were read, and then those that follow
  read_on : (read more : List (List Item)) (stop : Stop Item Fault) (before after : List (InputReader R)) (old mid new : S) → AreRead own shared p read NotBegun before after old mid
      → AreRead own shared p more stop (drop (length read) before) (drop (length read) after) mid new → AreRead own shared p (read ++ more) stop before after old new
  read_on [] more stop before after old mid new first others = kept_read more stop before after old mid new first others
  read_on (items ∷ read) more stop (reader ∷ before) (left ∷ after) old mid new (next, takes, first) others = (next, takes, read_on read more stop before after next mid new first others)
  read_on (items ∷ read) more stop [] after old mid new first others = absurd first
  read_on (items ∷ read) more stop (reader ∷ before) [] old mid new first others = absurd first

  -- a reader that was not reached may be any
  same_stops : (stop : Stop Item Fault) (before after other : List (InputReader R)) (old new : S) → take (reached {Item = Item} [] stop) after ≡ take (reached {Item = Item} [] stop) other → StopsSo own shared p stop before after old new → StopsSo own shared p stop before other old new
  same_stops NoMore before after other old new e stops = stops
  same_stops NotBegun before after other old new e stops = stops
  same_stops (HasFault items fault) (reader ∷ before) (left ∷ after) (it ∷ other) old new e takes =
      subst (λ l. TakesOne own shared (λ text rest. p.fails items fault text) reader l old new) (heads_same left it [] [] e).0 takes
  same_stops (CutShort items) (reader ∷ before) (left ∷ after) (it ∷ other) old new e takes =
      subst (λ l. TakesOne own shared (λ text rest. p.begins items text) reader l old new) (heads_same left it [] [] e).0 takes
  same_stops (HasFault items fault) [] after other old new e takes = absurd takes
  same_stops (HasFault items fault) (reader ∷ before) [] other old new e takes = absurd takes
  same_stops (HasFault items fault) (reader ∷ before) (left ∷ after) [] old new e takes = absurd (let a : ◌≡◌ {A = List (InputReader R)} (left ∷ []) [] = e in cc)
  same_stops (CutShort items) [] after other old new e takes = absurd takes
  same_stops (CutShort items) (reader ∷ before) [] other old new e takes = absurd takes
  same_stops (CutShort items) (reader ∷ before) (left ∷ after) [] old new e takes = absurd (let a : ◌≡◌ {A = List (InputReader R)} (left ∷ []) [] = e in cc)

  same_read : (read : List (List Item)) (stop : Stop Item Fault) (before after other : List (InputReader R)) (old new : S) → take (reached read stop) after ≡ take (reached read stop) other → AreRead own shared p read stop before after old new → AreRead own shared p read stop before other old new
  same_read [] stop before after other old new e stops = same_stops stop before after other old new e stops
  same_read (items ∷ read) stop (reader ∷ before) (left ∷ after) (it ∷ other) old new e (mid, takes, others) =
      let same = heads_same left it (take (reached read stop) after) (take (reached read stop) other) e in
      (mid, subst (λ l. TakesOne own shared (p.reads items) reader l old mid) same.0 takes, same_read read stop before after other mid new same.1 others)
  same_read (items ∷ read) stop [] after other old new e are = absurd are
  same_read (items ∷ read) stop (reader ∷ before) [] other old new e are = absurd are
  same_read (items ∷ read) stop (reader ∷ before) (left ∷ after) [] old new e are = absurd (let a : ◌≡◌ {A = List (InputReader R)} (left ∷ take (reached read stop) after) [] = e in cc)

  begun_none : (read : List (List Item)) → reached {Fault = Fault} read NotBegun ≡ length read
  begun_none [] = refl
  begun_none (items ∷ read) = ap suc (begun_none read)

  -- the first inputs were read, and then those that follow, whose readers may have changed before
  pub read_then : (read more : List (List Item)) (stop : Stop Item Fault) (before between after : List (InputReader R)) (old mid new : S) → AreRead own shared p read NotBegun before between old mid
      → take (length read) between ≡ take (length read) after → AreRead own shared p more stop (drop (length read) before) (drop (length read) after) mid new → AreRead own shared p (read ++ more) stop before after old new
  read_then read more stop before between after old mid new first same others =
      let same' = subst (λ n. take n between ≡ take n after) (sym (begun_none read)) same in
      read_on read more stop before after old mid new (same_read read NotBegun before between after old mid same' first) others

-- ---- a reader of some has failed

-- that of the input that was read
pub some_failed : {R T : Type 0} (own : R → Feed) (shared : T → Feed) (xs : List (InputReader R)) (i : ℕ) (x : InputReader R) (it : T) → i < length xs → ReaderFailed own shared x it → SomeFailed own shared (slice_set xs i x) it
some_failed own shared [] i x it within failed = absurd (let no : ⊥ = omega (arith, within) in no)
some_failed own shared (y ∷ ys) zero x it within failed = inl failed
some_failed own shared (y ∷ ys) (suc i) x it within failed = inr (some_failed own shared ys i x it (omega (arith, within)) failed)

-- and what they share, as another reader gives it
pub some_through : {R S T : Type 0} (own : R → Feed) (was : S → Feed) (is : T → Feed) (readers : List (InputReader R)) (old : S) (new : T) → ((was old).failed → (is new).failed) → SomeFailed own was readers old → SomeFailed own is readers new
some_through own was is [] old new on h = on h
some_through own was is (Own reader ∷ readers) old new on (inl h) = inl h
some_through own was is (Shared ∷ readers) old new on (inl h) = inl (on h)
some_through own was is (reader ∷ readers) old new on (inr h) = inr (some_through own was is readers old new on h)
