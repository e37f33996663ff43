-- What a run read of its inputs is what the function of their bytes says, for any bytes that agree with what is known
-- of their readers at the end.
use Rattle.std.proofs.Common.{◌≡◌, ℕ, zero, suc, ◌+◌, List, [], ◌∷◌, ◌++◌, length, drop, refl, sym, ap, subst, ◌∙◌, arith, Option, Some, None, Result, Ok, Err}
use Rattle.std.specs.Prelude.{⊤}
use Rattle.cdb_form.specs.Views.Feed.{Feed, IsSome, reader_feed, same_remaining}
use Rattle.cdb_show.specs.Feed.{Given, with_input, given_from, IsUnread, AreUnread, Stop, NoMore, HasFault, CutShort, NotBegun, TakesOne, StopsSo, AreRead, reached, AgreesWith, FirstAgree, HasBytes, HaveBytes, IsGiven, Parsed, Parsing}
use Rattle.cdb_show.specs.declared.input_reader.InputReader.{InputReader}
use Rattle.cdb_show.specs.declared.input_reader.InputReader.TheVariants.{Own, Shared}

-- ---- one more input before those that are given

given_more : {Item Fault : Type 0} (number : ℕ) (items : List Item) (read : List (List Item)) (stop : Stop Item Fault) (given : Given Item Fault) → IsGiven (number + 1) read stop given
    → IsGiven number (items ∷ read) stop (record { items = items ∷ given.items; fault = given.fault })
given_more number items read NoMore given e = ap (λ g. let v : Given _ _ = record { items = items ∷ g.items; fault = g.fault } in v) e
given_more number items read (HasFault last fault) given e =
    let at : number + 1 + length read ≡ number + suc (length read) = omega arith in
    ap (λ g. let v : Given _ _ = record { items = items ∷ g.items; fault = g.fault } in v) e
    ∙ ap (λ (n : ℕ). let v : Given _ _ = record { items = items ∷ (read ++ (last ∷ [])); fault = Some (record { number = n; fault = fault }) } in v) at
given_more number items read (CutShort last) given (more, others, e) = (more, others, ap (λ xs. items ∷ xs) e)
given_more number items read NotBegun given (others, e) = (others, ap (λ xs. items ∷ xs) e)

given_read : {Item Fault : Type 0} (number : ℕ) (parsed : Parsed Item Fault) (items : List Item) (rest : List ℕ) (next : List ℕ → Given Item Fault) (read : List (List Item)) (stop : Stop Item Fault) → parsed ≡ record { items = items; ends = Ok rest }
    → IsGiven (number + 1) read stop (next rest) → IsGiven number (items ∷ read) stop (with_input number parsed.items parsed.ends next)
given_read number parsed items rest next read stop e given =
    subst (λ p. IsGiven number (items ∷ read) stop (with_input number p.items p.ends next)) (sym e) (given_more number items read stop (next rest) given)

-- ---- an input that ends the run

given_fault : {Item Fault : Type 0} (number : ℕ) (parsed : Parsed Item Fault) (items : List Item) (fault : Fault) (next : List ℕ → Given Item Fault) → parsed ≡ record { items = items; ends = Err fault }
    → IsGiven number [] (HasFault items fault) (with_input number parsed.items parsed.ends next)
given_fault number parsed items fault next e =
    let at : number ≡ number + 0 = omega arith in
    ap (λ p. with_input number p.items p.ends next) e
    ∙ ap (λ (n : ℕ). let v : Given _ _ = record { items = items ∷ []; fault = Some (record { number = n; fault = fault }) } in v) at

begun_so : {Item Fault : Type 0} (number : ℕ) (all : List Item) (ends : Result (List ℕ) Fault) (items more : List Item) (next : List ℕ → Given Item Fault) → all ≡ items ++ more → IsGiven number [] (CutShort items) (with_input number all ends next)
begun_so number all (Ok rest) items more next e = (more, (next rest).items, ap (λ xs. xs ∷ (next rest).items) e)
begun_so number all (Err fault) items more next e = (more, [], ap (λ xs. xs ∷ []) e)

given_begun : {Item Fault : Type 0} (number : ℕ) (parsed : Parsed Item Fault) (items more : List Item) (next : List ℕ → Given Item Fault) → parsed.items ≡ items ++ more
    → IsGiven number [] (CutShort items) (with_input number parsed.items parsed.ends next)
given_begun number parsed items more next e = begun_so number parsed.items parsed.ends items more next e

-- ---- the bytes of readers, by what is known of them at the end

-- by what is known of a reader now it may have had these bytes, and no others with them in the end
record Only (old new : Feed) (bytes : List ℕ) : Type 0 where
  whole : List ℕ
  rest : List ℕ
  may : new.may whole rest
  only : (text : List ℕ) → old.may whole text → text ≡ bytes

-- a reader had these bytes
record Had (fits : List ℕ → Type 0) (old new : Feed) (bytes : List ℕ) : Type 0 where
  fit : fits bytes
  known : old.known
  found : new.known → Only old new bytes

-- so had the first n own readers; nothing is said of readers of which one is no longer what it was
abbrev FirstHad : {R : Type 0} → (own : R → Feed) → (fits : List ℕ → Type 0) → ℕ → List (Option (List ℕ)) → (before after : List (InputReader R)) → Type 0
FirstHad own fits zero inputs before after = ⊤
FirstHad own fits (suc n) (Some bytes ∷ inputs) (Own reader ∷ before) (Own left ∷ after) = Had fits (own reader) (own left) bytes × FirstHad own fits n inputs before after
FirstHad own fits (suc n) (None ∷ inputs) (Shared ∷ before) (Shared ∷ after) = FirstHad own fits n inputs before after
FirstHad own fits (suc n) inputs (Own reader ∷ before) (Own left ∷ after) = ⊥
FirstHad own fits (suc n) inputs (Shared ∷ before) (Shared ∷ after) = ⊥
FirstHad own fits (suc n) inputs before after = ⊤

-- ---- one input that was reached

module _ {R S : Type 0} (own : R → Feed) (shared : S → Feed) (fits : List ℕ → Type 0) (whole : List ℕ) where
  -- it had these bytes, of which P holds with what is left of them; then the shared reader had this text, and has this
  -- later one
  record OneTaken (P : (text rest : List ℕ) → Type 0) (old : S) (inputs : List (Option (List ℕ))) (later : List ℕ) : Type 1 where
    bytes : List ℕ
    rest : List ℕ
    holds : P bytes rest
    text : List ℕ
    may : (shared old).may whole text
    fit : fits text → fits bytes
    fit_later : fits text → fits rest → fits later
    goes_on : List ℕ → List ℕ
    at_rest : goes_on rest ≡ later
    says : {Item Fault : Type 0} → (parse : List ℕ → Parsed Item Fault) → (number : ℕ) → given_from parse number inputs text ≡ with_input number (parse bytes).items (parse bytes).ends (λ more. given_from parse (number + 1) (drop 1 inputs) (goes_on more))

  one_taken : (P : (text rest : List ℕ) → Type 0) (n : ℕ) (reader left : InputReader R) (before after : List (InputReader R)) (old new : S) (inputs : List (Option (List ℕ))) (later : List ℕ) → (shared old).known
      → TakesOne own shared P reader left old new → FirstHad own fits (suc n) inputs (reader ∷ before) (left ∷ after) → (shared new).may whole later → OneTaken P old inputs later
  one_taken P n (Own reader) (Own left) before after old new (Some input ∷ inputs) later known (f, kept) had m =
      let found = had.0.found (f.known had.0.known) in
      let t = f.back had.0.known found.whole found.rest found.may in
      record {
        bytes = input;
        rest = t.2.0;
        holds = subst (λ x. P x t.2.0) (found.only t.0 t.1) t.2.1;
        text = later;
        may = kept.back known whole later m;
        fit = λ _. had.0.fit;
        fit_later = λ same _. same;
        goes_on = λ _. later;
        at_rest = refl;
        says = λ parse number. refl;
      }
  one_taken P n Shared Shared before after old new (None ∷ inputs) later known f had m =
      let t = f.back known whole later m in
      record {
        bytes = t.0;
        rest = later;
        holds = t.2;
        text = t.0;
        may = t.1;
        fit = λ same. same;
        fit_later = λ _ left. left;
        goes_on = λ more. more;
        at_rest = refl;
        says = λ parse number. refl;
      }
  one_taken P n (Own reader) Shared before after old new inputs later known takes had m = absurd takes
  one_taken P n Shared (Own left) before after old new inputs later known takes had m = absurd takes
  one_taken P n (Own reader) (Own left) before after old new [] later known takes had m = absurd had
  one_taken P n (Own reader) (Own left) before after old new (None ∷ inputs) later known takes had m = absurd had
  one_taken P n Shared Shared before after old new [] later known takes had m = absurd had
  one_taken P n Shared Shared before after old new (Some input ∷ inputs) later known takes had m = absurd had

  had_others : (P : (text rest : List ℕ) → Type 0) (n : ℕ) (inputs : List (Option (List ℕ))) (reader left : InputReader R) (before after : List (InputReader R)) (old new : S) → TakesOne own shared P reader left old new → FirstHad own fits (suc n) inputs (reader ∷ before) (left ∷ after)
      → FirstHad own fits n (drop 1 inputs) before after
  had_others P n (Some input ∷ inputs) (Own reader) (Own left) before after old new takes had = had.1
  had_others P n (None ∷ inputs) Shared Shared before after old new takes had = had
  had_others P n inputs (Own reader) Shared before after old new takes had = absurd takes
  had_others P n inputs Shared (Own left) before after old new takes had = absurd takes
  had_others P n [] (Own reader) (Own left) before after old new takes had = absurd had
  had_others P n (None ∷ inputs) (Own reader) (Own left) before after old new takes had = absurd had
  had_others P n [] Shared Shared before after old new takes had = absurd had
  had_others P n (Some input ∷ inputs) Shared Shared before after old new takes had = absurd had

  shared_known : (P : (text rest : List ℕ) → Type 0) (reader left : InputReader R) (old new : S) → (shared old).known → TakesOne own shared P reader left old new → (shared new).known
  shared_known P (Own reader) (Own left) old new known (f, kept) = kept.known known
  shared_known P Shared Shared old new known f = f.known known
  shared_known P (Own reader) Shared old new known takes = absurd takes
  shared_known P Shared (Own left) old new known takes = absurd takes

-- ---- all inputs

-- the shared reader may have had some bytes, and with these the inputs say what was read
record SharedHad {Item Fault : Type 0} (feed : Feed) (p : Parsing Item Fault) (number : ℕ) (read : List (List Item)) (stop : Stop Item Fault) (inputs : List (Option (List ℕ))) (whole : List ℕ) : Type 0 where
  text : List ℕ
  may : feed.may whole text
  given : p.fits text → IsGiven number read stop (given_from p.parse number inputs text)

module _ {R S Item Fault : Type 0} (own : R → Feed) (shared : S → Feed) (p : Parsing Item Fault) (whole rest : List ℕ) where
  taken_read : (number : ℕ) (items : List Item) (read : List (List Item)) (stop : Stop Item Fault) (old : S) (inputs : List (Option (List ℕ))) (later : List ℕ) (t : OneTaken own shared p.fits whole (p.reads items) old inputs later)
      → (p.fits later → IsGiven (number + 1) read stop (given_from p.parse (number + 1) (drop 1 inputs) later)) → p.fits t.text → IsGiven number (items ∷ read) stop (given_from p.parse number inputs t.text)
  taken_read number items read stop old inputs later t others fit =
      let is = p.is_read items t.bytes t.rest (t.fit fit) t.holds in
      let given = subst (λ x. IsGiven (number + 1) read stop (given_from p.parse (number + 1) (drop 1 inputs) x)) (sym t.at_rest) (others (t.fit_later fit is.1)) in
      subst (IsGiven number (items ∷ read) stop) (sym (t.says p.parse number)) (given_read number (p.parse t.bytes) items t.rest _ read stop is.0 given)

  taken_fault : (number : ℕ) (items : List Item) (fault : Fault) (old : S) (inputs : List (Option (List ℕ))) (later : List ℕ) (t : OneTaken own shared p.fits whole (λ text rest. p.fails items fault text) old inputs later)
      → p.fits t.text → IsGiven number [] (HasFault items fault) (given_from p.parse number inputs t.text)
  taken_fault number items fault old inputs later t fit =
      subst (IsGiven number [] (HasFault items fault)) (sym (t.says p.parse number)) (given_fault number (p.parse t.bytes) items fault _ (p.is_fault items fault t.bytes (t.fit fit) t.holds))

  taken_begun : (number : ℕ) (items : List Item) (old : S) (inputs : List (Option (List ℕ))) (later : List ℕ) (t : OneTaken own shared p.fits whole (λ text rest. p.begins items text) old inputs later)
      → p.fits t.text → IsGiven number [] (CutShort items) (given_from p.parse number inputs t.text)
  taken_begun number items old inputs later t fit =
      let more = p.is_begun items t.bytes (t.fit fit) t.holds in
      subst (IsGiven number [] (CutShort items)) (sym (t.says p.parse number)) (given_begun number (p.parse t.bytes) items more.0 _ more.1)

  none_left : {A B : Type 0} (xs : List A) (ys : List B) → length xs ≡ length ys → ys ≡ [] → xs ≡ []
  none_left [] ys long none = refl
  none_left (x ∷ xs) ys long none = absurd (let e : length ys ≡ 0 = ap length none in omega arith)

  others_long : {A B : Type 0} (xs : List A) (y : B) (ys : List B) → length xs ≡ length (y ∷ ys) → length (drop 1 xs) ≡ length ys
  others_long [] y ys long = absurd (omega arith)
  others_long (x ∷ xs) y ys long = omega arith

  stopped : (number : ℕ) (stop : Stop Item Fault) (before after : List (InputReader R)) (old new : S) (inputs : List (Option (List ℕ))) → (shared old).known → StopsSo own shared p stop before after old new
      → FirstHad own p.fits (reached {Item = Item} [] stop) inputs before after → length inputs ≡ length before → (shared new).may whole rest → SharedHad (shared old) p number [] stop inputs whole
  stopped number NoMore before after old new inputs known (none, kept) had long m = record {
    text = rest;
    may = kept.back known whole rest m;
    given = λ _. ap (λ is. given_from p.parse number is rest) (none_left inputs before long none);
  }
  stopped number NotBegun before after old new inputs known kept had long m = record {
    text = rest;
    may = kept.back known whole rest m;
    given = λ _. ((given_from p.parse number inputs rest).items, refl);
  }
  stopped number (HasFault items fault) (reader ∷ before) (left ∷ after) old new inputs known takes had long m =
      let t = one_taken own shared p.fits whole (λ text rest. p.fails items fault text) 0 reader left before after old new inputs rest known takes had m in
      record { text = t.text; may = t.may; given = taken_fault number items fault old inputs rest t }
  stopped number (CutShort items) (reader ∷ before) (left ∷ after) old new inputs known takes had long m =
      let t = one_taken own shared p.fits whole (λ text rest. p.begins items text) 0 reader left before after old new inputs rest known takes had m in
      record { text = t.text; may = t.may; given = taken_begun number items old inputs rest t }
  stopped number (HasFault items fault) [] after old new inputs known takes had long m = absurd takes
  stopped number (HasFault items fault) (reader ∷ before) [] old new inputs known takes had long m = absurd takes
  stopped number (CutShort items) [] after old new inputs known takes had long m = absurd takes
  stopped number (CutShort items) (reader ∷ before) [] old new inputs known takes had long m = absurd takes

  are_given : (number : ℕ) (read : List (List Item)) (stop : Stop Item Fault) (before after : List (InputReader R)) (old new : S) (inputs : List (Option (List ℕ))) → (shared old).known → AreRead own shared p read stop before after old new
      → FirstHad own p.fits (reached read stop) inputs before after → length inputs ≡ length before → (shared new).may whole rest → SharedHad (shared old) p number read stop inputs whole
  are_given number [] stop before after old new inputs known stops had long m = stopped number stop before after old new inputs known stops had long m
  are_given number (items ∷ read) stop (reader ∷ before) (left ∷ after) old new inputs known (mid, takes, more) had long m =
      let next = are_given (number + 1) read stop before after mid new (drop 1 inputs) (shared_known own shared p.fits whole (p.reads items) reader left old mid known takes)
      more (had_others own shared p.fits whole (p.reads items) (reached read stop) inputs reader left before after old mid takes had) (others_long inputs reader before long) m in
      let t = one_taken own shared p.fits whole (p.reads items) (reached read stop) reader left before after old mid inputs next.text known takes had next.may in
      record { text = t.text; may = t.may; given = taken_read number items read stop old inputs next.text t next.given }
  are_given number (items ∷ read) stop [] after old new inputs known takes had long m = absurd takes
  are_given number (items ∷ read) stop (reader ∷ before) [] old new inputs known takes had long m = absurd takes

  pub left_known : (read : List (List Item)) (stop : Stop Item Fault) (before after : List (InputReader R)) (old new : S) → (shared old).known → AreRead own shared p read stop before after old new → (shared new).known
  left_known [] NoMore before after old new known (none, kept) = kept.known known
  left_known [] NotBegun before after old new known kept = kept.known known
  left_known [] (HasFault items fault) (reader ∷ before) (left ∷ after) old new known takes = shared_known own shared p.fits whole (λ text rest. p.fails items fault text) reader left old new known takes
  left_known [] (CutShort items) (reader ∷ before) (left ∷ after) old new known takes = shared_known own shared p.fits whole (λ text rest. p.begins items text) reader left old new known takes
  left_known (items ∷ read) stop (reader ∷ before) (left ∷ after) old new known (mid, takes, more) =
      left_known read stop before after mid new (shared_known own shared p.fits whole (p.reads items) reader left old mid known takes) more
  left_known [] (HasFault items fault) [] after old new known takes = absurd takes
  left_known [] (HasFault items fault) (reader ∷ before) [] old new known takes = absurd takes
  left_known [] (CutShort items) [] after old new known takes = absurd takes
  left_known [] (CutShort items) (reader ∷ before) [] old new known takes = absurd takes
  left_known (items ∷ read) stop [] after old new known are = absurd are
  left_known (items ∷ read) stop (reader ∷ before) [] old new known are = absurd are

-- ---- all inputs, from the first on

module _ {R S Item Fault : Type 0} (own : R → Feed) (shared : S → Feed) (p : Parsing Item Fault) where
  had_given : (read : List (List Item)) (stop : Stop Item Fault) (before after : List (InputReader R)) (old new : S) (inputs : List (Option (List ℕ))) (bytes : List ℕ) → AreRead own shared p read stop before after old new → FirstHad own p.fits (reached read stop) inputs before after → length inputs ≡ length before
      → Had p.fits (shared old) (shared new) bytes → IsGiven 1 read stop (given_from p.parse 1 inputs bytes)
  had_given read stop before after old new inputs bytes are had long first =
      let found = first.found (left_known own shared p [] [] read stop before after old new first.known are) in
      let at = are_given own shared p found.whole found.rest 1 read stop before after old new inputs first.known are had long found.may in
      let same : at.text ≡ bytes = found.only at.text at.may in
      subst (λ t. IsGiven 1 read stop (given_from p.parse 1 inputs t)) same (at.given (subst p.fits (sym same) first.fit))

-- ---- readers that were unread: any bytes that agree with what is known of them

unread_had : (fits : List ℕ → Type 0) (old new : Feed) (whole : List ℕ) → IsUnread old → AgreesWith fits new whole → Had fits old new whole
unread_had fits old new whole unread agrees = record {
  fit = agrees.fit;
  known = unread.known;
  found = λ _. record { whole = whole; rest = agrees.rest; may = agrees.may; only = λ text may. unread.all whole text may };
}

none_agrees : {R : Type 0} (own : R → Feed) (fits : List ℕ → Type 0) (n : ℕ) (inputs : List (Option (List ℕ))) → FirstAgree own fits (suc n) inputs [] → ⊥
none_agrees own fits n [] agree = agree
none_agrees own fits n (None ∷ inputs) agree = agree
none_agrees own fits n (Some input ∷ inputs) agree = agree

first_unread_had : {R : Type 0} (own : R → Feed) (fits : List ℕ → Type 0) (n : ℕ) (inputs : List (Option (List ℕ))) (before after : List (InputReader R)) → AreUnread own before → FirstAgree own fits n inputs after → FirstHad own fits n inputs before after
first_unread_had own fits zero inputs before after unread agree = tt
first_unread_had own fits (suc n) (Some input ∷ inputs) (Own reader ∷ before) (Own left ∷ after) unread agree =
    (unread_had fits (own reader) (own left) input unread.0 agree.0, first_unread_had own fits n inputs before after unread.1 agree.1)
first_unread_had own fits (suc n) (None ∷ inputs) (Shared ∷ before) (Shared ∷ after) unread agree = first_unread_had own fits n inputs before after unread agree
first_unread_had own fits (suc n) [] before after unread agree = absurd agree
first_unread_had own fits (suc n) (input ∷ inputs) before [] unread agree = absurd (none_agrees own fits n (input ∷ inputs) agree)
first_unread_had own fits (suc n) (None ∷ inputs) before (Own left ∷ after) unread agree = absurd agree
first_unread_had own fits (suc n) (Some input ∷ inputs) before (Shared ∷ after) unread agree = absurd agree
first_unread_had own fits (suc n) (None ∷ inputs) [] (Shared ∷ after) unread agree = tt
first_unread_had own fits (suc n) (None ∷ inputs) (Own reader ∷ before) (Shared ∷ after) unread agree = tt
first_unread_had own fits (suc n) (Some input ∷ inputs) [] (Own left ∷ after) unread agree = tt
first_unread_had own fits (suc n) (Some input ∷ inputs) (Shared ∷ before) (Own left ∷ after) unread agree = tt

pub all_given : {R S Item Fault : Type 0} (own : R → Feed) (shared : S → Feed) (p : Parsing Item Fault) (read : List (List Item)) (stop : Stop Item Fault) (before after : List (InputReader R)) (old new : S) (inputs : List (Option (List ℕ))) (whole : List ℕ) → AreUnread own before → IsUnread (shared old) → AreRead own shared p read stop before after old new
    → FirstAgree own p.fits (reached read stop) inputs after → length inputs ≡ length before → AgreesWith p.fits (shared new) whole → IsGiven 1 read stop (given_from p.parse 1 inputs whole)
all_given own shared p read stop before after old new inputs whole unread first are agree long agrees =
    had_given own shared p read stop before after old new inputs whole are (first_unread_had own p.fits (reached read stop) inputs before after unread agree) long (unread_had p.fits (shared old) (shared new) whole first agrees)

-- ---- readers whose bytes the standard library knows: these

known_had : (fits : List ℕ → Type 0) (old new : Option (List ℕ)) (bytes : List ℕ) → HasBytes fits old bytes → Had fits (reader_feed old) (reader_feed new) bytes
known_had fits old None bytes has = record {
  fit = has.fit;
  known = subst IsSome (sym has.same) tt;
  found = λ known. absurd known;
}
known_had fits old (Some rest) bytes has = record {
  fit = has.fit;
  known = subst IsSome (sym has.same) tt;
  found = λ known. record { whole = []; rest = rest; may = refl; only = λ text may. same_remaining may has.same };
}

first_known_had : {R : Type 0} (remaining : R → Option (List ℕ)) (fits : List ℕ → Type 0) (n : ℕ) (inputs : List (Option (List ℕ))) (before after : List (InputReader R)) → HaveBytes remaining fits inputs before → FirstHad (λ reader. reader_feed (remaining reader)) fits n inputs before after
first_known_had remaining fits zero inputs before after have = tt
first_known_had remaining fits (suc n) (Some input ∷ inputs) (Own reader ∷ before) (Own left ∷ after) have =
    (known_had fits (remaining reader) (remaining left) input have.0, first_known_had remaining fits n inputs before after have.1)
first_known_had remaining fits (suc n) (None ∷ inputs) (Shared ∷ before) (Shared ∷ after) have = first_known_had remaining fits n inputs before after have
first_known_had remaining fits (suc n) [] [] after have = tt
first_known_had remaining fits (suc n) [] (reader ∷ before) after have = absurd have
first_known_had remaining fits (suc n) (None ∷ inputs) [] after have = absurd have
first_known_had remaining fits (suc n) (None ∷ inputs) (Own reader ∷ before) after have = absurd have
first_known_had remaining fits (suc n) (None ∷ inputs) (Shared ∷ before) [] have = tt
first_known_had remaining fits (suc n) (None ∷ inputs) (Shared ∷ before) (Own left ∷ after) have = tt
first_known_had remaining fits (suc n) (Some input ∷ inputs) [] after have = absurd have
first_known_had remaining fits (suc n) (Some input ∷ inputs) (Own reader ∷ before) [] have = tt
first_known_had remaining fits (suc n) (Some input ∷ inputs) (Own reader ∷ before) (Shared ∷ after) have = tt
first_known_had remaining fits (suc n) (Some input ∷ inputs) (Shared ∷ before) after have = absurd have

as_many : {R : Type 0} (remaining : R → Option (List ℕ)) (fits : List ℕ → Type 0) (inputs : List (Option (List ℕ))) (before : List (InputReader R)) → HaveBytes remaining fits inputs before → length inputs ≡ length before
as_many remaining fits [] [] have = refl
as_many remaining fits [] (reader ∷ before) have = absurd have
as_many remaining fits (None ∷ inputs) [] have = absurd have
as_many remaining fits (None ∷ inputs) (Own reader ∷ before) have = absurd have
as_many remaining fits (Some input ∷ inputs) [] have = absurd have
as_many remaining fits (Some input ∷ inputs) (Shared ∷ before) have = absurd have
as_many remaining fits (Some input ∷ inputs) (Own reader ∷ before) have = ap suc (as_many remaining fits inputs before have.1)
as_many remaining fits (None ∷ inputs) (Shared ∷ before) have = ap suc (as_many remaining fits inputs before have)

pub known_given : {R S Item Fault : Type 0} (remaining : R → Option (List ℕ)) (left : S → Option (List ℕ)) (p : Parsing Item Fault) (read : List (List Item)) (stop : Stop Item Fault) (before after : List (InputReader R)) (old new : S) (inputs : List (Option (List ℕ))) (bytes : List ℕ)
    → HaveBytes remaining p.fits inputs before → HasBytes p.fits (left old) bytes → AreRead (λ reader. reader_feed (remaining reader)) (λ reader. reader_feed (left reader)) p read stop before after old new → IsGiven 1 read stop (given_from p.parse 1 inputs bytes)
known_given remaining left p read stop before after old new inputs bytes have has are =
    had_given (λ reader. reader_feed (remaining reader)) (λ reader. reader_feed (left reader)) p read stop before after old new inputs bytes are
    (first_known_had remaining p.fits (reached read stop) inputs before after have) (as_many remaining p.fits inputs before have) (known_had p.fits (left old) (left new) bytes has)
