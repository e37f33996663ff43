-- The inputs of a run, each in its turn, whatever bytes agree with what was read.
use Rattle.cdb_show.proofs.Words.{AreRead, BeginsWithItems, Change, Consumes, CutShort, Err, Fault, FaultBehind, Feed, FromTo, HasFault, HasItemFault, IfErr, InputForm, InputReader, Inputs, IsInputOf, List, NoMore, None, NotBegun, Ok, OnOk, Option, Parsing, Result, SharedWindow, Some, Stop, StopsBehind, StopsSo, TakesOne, TextFault, [], ap, append-nil, arith, drop, fault_in, feed_of, from_both, from_kept, from_weaker, inl, inr, length, length-append, nothing_taken, reached, refl, shared_feed, slice_index_or, slice_set, stop_of, stopped_parsing, subst, suc, sym, take, ℕ, ⊤, ◌++◌, ◌+◌, ◌<◌, ◌∙◌, ◌∷◌, ◌≡◌, ◌≤◌}
use Rattle.std.proofs.lemmas.List.{drop-set, take-set, drop_more, drop-set-lt}
use Rattle.std.proofs.Math.ListN.{length-set}
use Rattle.std.proofs.Math.Seq.{drop-length}
use Rattle.cdb_form.proofs.Fed.FeedLemmas.{from_behind}
use Rattle.cdb_form.specs.Views.Feed.{Keeps}
use Rattle.cdb_form.specs.declared.text.fault.TextFault.TheVariants as kind
use Rattle.cdb_show.specs.Feed.{ReaderFailed, SomeFailed}
use Rattle.cdb_show.specs.Runs.InputTask.{AreTaken, DoesAll, DoesEach, DoesOne, Progress, StopsAmid, StopsOne, StopsOrNot, Work, parsing_of}
use Rattle.cdb_show.specs.Runs.Parsing.{IsFaultOf, StopsIn}
use Rattle.cdb_show.specs.Views.Noted.{AreReadTo, reader_of}
use Rattle.cdb_show.specs.Views.WindowRests.{same_held}
use Rattle.cdb_show.specs.declared.fault.Fault.TheVariants.{NoMemory, Text}
use Rattle.cdb_show.specs.declared.input_reader.InputReader.TheVariants.{Own, Shared}
use Rattle.cdb_show.specs.declared.inputs.SharedWindow.TheVariants.{InHand, Unread}
use Rattle.cdb_show.specs.declared.window.Window.{Window}
use Rattle.cdb_show.proofs.InputsInTurn.{read_then, some_failed, some_through}
use Rattle.cdb_show.proofs.NextInputs.{begins_none}
use Rattle.cdb_show.proofs.SpelledInputs.{from_after}

-- ---- a stop, by its fault

-- by a weaker reason
pub fault_weaker : (form : InputForm) (n : ℕ) (A B : Type 0) (fault : Fault) → (A → B) → IsFaultOf form n A fault → IsFaultOf form n B fault
fault_weaker form n A B fault k h = record { number = h.number; own = h.own; memory = h.memory; failed = λ i e. k (h.failed i e); of_run = h.of_run }

-- what is known of a fault of an input
abbrev FaultIs : InputForm → ℕ → List Change → Feed → Feed → Option TextFault → Type 0
FaultIs form g last a b None = ⊤
FaultIs form g last a b (Some f) = FaultBehind form g last a b f

fault_is : (form : InputForm) (g n : ℕ) (last : List Change) (a b : Feed) (fault : Fault) → StopsBehind form g n last a b fault → FaultIs form g last a b (fault_in (Err fault))
fault_is form g n last a b (Text i f) h = (h.of_text i f refl).1
fault_is form g n last a b fault h = tt

abbrev InText : InputForm → ℕ → Option TextFault → List Change → (text : List ℕ) → Type 0
InText form g fault last text = StopsIn (stopped_parsing form g fault) (stop_of fault last) text

module _ (form : InputForm) (g : ℕ) (last : List Change) (a b : Feed) (one : (whole x y : List ℕ) → a.may whole x → a.may whole y → x ≡ y) (begins : FromTo a b (λ text rest. BeginsWithItems form g last text)) where
  in_text : (fault : Option TextFault) → FaultIs form g last a b fault → FromTo a b (λ text rest. InText form g fault last text)
  in_text None h = from_weaker a b (λ text rest. BeginsWithItems form g last text) (λ text rest. InText form g None last text) begins (λ text rest is. (is, tt))
  in_text (Some (kind.Syntax at)) h = from_weaker a b (λ text rest. HasItemFault form g last (kind.Syntax at) text) (λ text rest. InText form g (Some (kind.Syntax at)) last text) h.has (λ text rest is. (h.own tt, tt, is))
  in_text (Some (kind.Ended at)) h = from_weaker a b (λ text rest. HasItemFault form g last (kind.Ended at) text) (λ text rest. InText form g (Some (kind.Ended at)) last text) h.has (λ text rest is. (h.own tt, tt, is))
  in_text (Some (kind.Large at)) h = from_weaker a b (λ text rest. HasItemFault form g last (kind.Large at) text) (λ text rest. InText form g (Some (kind.Large at)) last text) h.has (λ text rest is. (h.own tt, tt, is))
  in_text (Some kind.Input) h = from_both a b (λ text rest. BeginsWithItems form g last text) (λ text rest. HasItemFault form g last kind.Input text) one begins h.has
  in_text (Some kind.Endless) h = from_both a b (λ text rest. BeginsWithItems form g last text) (λ text rest. HasItemFault form g last kind.Endless text) one begins h.has
  in_text (Some kind.NoMemory) h = absurd (h.memory refl)

-- ---- an input, whose reader takes what is said of its text

module _ {T : Type 0} (work : Work T) (n : ℕ) (a d : Feed) (Takes : (List ℕ → List ℕ → Type 0) → Type 0) (takes : (P : List ℕ → List ℕ → Type 0) → FromTo a d P → Takes P) (was : Progress T) where
  pub turn_done : (now : Progress T) (result : Result Unit Fault) → OnOk result ((items : List Change) × FromTo a d (IsInputOf work.form work.greatest items) × work.does n items was now) → OnOk result (DoesOne work n Takes was now)
  turn_done now (Ok done) (items, read, does) = record { items = items; reads = takes (IsInputOf work.form work.greatest items) read; does = does }
  turn_done now (Err fault) h = tt

  pub turn_stopped : (Failed : Type 0) (now : Progress T) (result : Result Unit Fault) → ((whole x y : List ℕ) → a.may whole x → a.may whole y → x ≡ y) → (d.failed → Failed) → IfErr result (λ fault. (items : List Change) × StopsBehind work.form work.greatest n items a d fault × work.stops n items was now fault)
      → IfErr result (StopsOne work n Takes Failed was now)
  turn_stopped Failed now (Ok done) one failed h = tt
  turn_stopped Failed now (Err fault) one failed (items, behind, stops) = record {
    items = items;
    reads = takes (λ text rest. InText work.form work.greatest (fault_in (Err fault)) items text)
        (in_text work.form work.greatest items a d one behind.begins (fault_in (Err fault)) (fault_is work.form work.greatest n items a d fault behind));
    is_fault = record {
      number = λ i f e. (behind.of_text i f e).0;
      own = λ i f e. (behind.of_text i f e).1.own;
      memory = λ i f e. (behind.of_text i f e).1.memory;
      failed = λ i e. failed ((behind.of_text i kind.Input e).1.failed refl);
      of_run = behind.of_run;
    };
    stops = inl stops;
  }

  -- memory for its window was refused
  pub turn_unbegun : (Failed : Type 0) → Keeps a d → StopsOne work n Takes Failed was was NoMemory
  turn_unbegun Failed kept = record {
    items = [];
    reads = takes (λ text rest. InText work.form work.greatest None [] text) (from_kept a d (λ text rest. InText work.form work.greatest None [] text) kept (λ text. (begins_none work.form work.greatest (Some text), tt)));
    is_fault = record {
      number = λ i f e. absurd (let no : ⊥ = cc in no);
      own = λ i f e. absurd (let no : ⊥ = cc in no);
      memory = λ i f e. absurd (let no : ⊥ = cc in no);
      failed = λ i e. absurd (let no : ⊥ = cc in no);
      of_run = tt;
    };
    stops = inr (record { none = refl; same = refl; memory = refl });
  }

-- ---- the reader of an input

-- all bytes of a window, or of its reader, determine those that are left
pub one_window : {F : Type 0} (feed : F → Feed) (w : Window F) → ((reader : F) (whole x y : List ℕ) → (feed reader).may whole x → (feed reader).may whole y → x ≡ y) → (whole x y : List ℕ) → (feed_of feed w).may whole x → (feed_of feed w).may whole y → x ≡ y
one_window feed w one whole x y a b = same_held (one w.reader whole) a b

module _ {J I : Type 0} (own : J → Feed) (shared : I → Feed) where
  -- one of its own goes back to its place, and the bytes that its window holds are lost
  pub own_takes : (turn : InputReader J) (reader left : J) (a b : Feed) (held : List ℕ) (s : SharedWindow I) → turn ≡ Own reader → Keeps (own reader) a → Consumes b (own left) held → (P : List ℕ → List ℕ → Type 0) → FromTo a b P → TakesOne own (shared_feed shared) P turn (Own left) s s
  own_takes turn reader left a b held s is kept lost P f =
      subst (λ t. TakesOne own (shared_feed shared) P t (Own left) s s) (sym is)
      (from_after (own reader) b (own left) P (λ text left. (rest : List ℕ) × P text rest) held (from_behind (own reader) a b [] P kept f) lost (λ text rest so. (held ++ rest, so)), nothing_taken (shared_feed shared s))

  -- the shared one stays in its window
  pub shared_takes : (turn after : InputReader J) (old new : SharedWindow I) (a : Feed) → turn ≡ Shared → after ≡ Shared → Keeps (shared_feed shared old) a → (P : List ℕ → List ℕ → Type 0) → FromTo a (shared_feed shared new) P → TakesOne own (shared_feed shared) P turn after old new
  shared_takes turn after old new a is stays kept P f =
      subst (λ t. TakesOne own (shared_feed shared) P t after old new) (sym is)
      (subst (λ t. TakesOne own (shared_feed shared) P Shared t old new) (sym stays) (from_behind (shared_feed shared old) a (shared_feed shared new) [] P kept f))

-- ---- one input after the other

does_more : {T : Type 0} (work : Work T) (number m : ℕ) (read : List (List Change)) (items : List Change) (a b c : Progress T) → m ≡ number + length read → DoesEach work number read a b → work.does m items b c → DoesEach work number (read ++ items ∷ []) a c
does_more work number m [] items a b c at e does = (c, subst (λ k. work.does k items a c) (omega (arith, at)) (subst (λ s. work.does m items s c) e does), refl)
does_more work number m (first ∷ read) items a b c at (mid, one, others) does = (mid, one, does_more work (number + 1) m read items mid b c (omega (arith, at)) others does)

-- a run that stopped in an input met a fault of its text, or cut it short
stop_is : (fault : Option TextFault) (last : List Change) (P : Stop Change TextFault → Type 0) → ((f : TextFault) → P (HasFault last f)) → P (CutShort last) → P (stop_of fault last)
stop_is None last P met cut = cut
stop_is (Some (kind.Syntax at)) last P met cut = met (kind.Syntax at)
stop_is (Some (kind.Ended at)) last P met cut = met (kind.Ended at)
stop_is (Some (kind.Large at)) last P met cut = met (kind.Large at)
stop_is (Some kind.Input) last P met cut = cut
stop_is (Some kind.Endless) last P met cut = cut
stop_is (Some kind.NoMemory) last P met cut = cut

reached_all : (read : List (List Change)) → reached {Fault = TextFault} read NoMore ≡ length read
reached_all [] = refl
reached_all (items ∷ read) = ap suc (reached_all read)

reached_more : (read : List (List Change)) (stop : Stop Change TextFault) → reached {Item = Change} [] stop ≡ 1 → reached read stop ≡ length read + 1
reached_more [] stop e = e
reached_more (items ∷ read) stop e = let k = reached_more read stop e in ap suc k ∙ omega arith

module _ {T R S : Type 0} (work : Work T) (own : R → Feed) (shared : S → Feed) (before : List (InputReader R)) (start : S) (begun : Progress T) where
  -- those so far were done, however the run will stop, and the others not reached
  pub record TurnsDone (now : List (InputReader R)) (mid : S) (i : ℕ) (at : Progress T) : Type 0 where
    pub read : List (List Change)
    pub are : (fault : Option TextFault) → AreRead own shared (parsing_of work fault) read NotBegun before now start mid
    pub count : length read ≡ i
    pub within : i ≤ length now
    pub same : drop i now ≡ drop i before
    pub long : length now ≡ length before
    pub does : DoesEach work 1 read begun at

  pub turns_none : TurnsDone before start 0 begun
  turns_none = record { read = []; are = λ fault. nothing_taken (shared start); count = refl; within = omega arith; same = refl; long = refl; does = refl }

  module _ (now : List (InputReader R)) (it left : InputReader R) (mid further : S) (i : ℕ) (at next : Progress T) (h : TurnsDone now mid i at) (inside : i < length now) (e : it ≡ slice_index_or now i it) where
    -- what follows
    rest_of : drop i before ≡ it ∷ drop (i + 1) before
    rest_of =
        let long = h.long in
        let b = drop_more before i it (omega (arith, inside, long)) in
        let n = drop_more now i it inside in
        let k : slice_index_or now i it ∷ drop (i + 1) now ≡ slice_index_or before i it ∷ drop (i + 1) before = sym n ∙ h.same ∙ b in
        let x : slice_index_or before i it ≡ it = cc in
        b ∙ ap (λ y. y ∷ drop (i + 1) before) x

    then : (more : List (List Change)) (stop : Stop Change TextFault) (fault : Option TextFault) → AreRead own shared (parsing_of work fault) more stop (it ∷ drop (i + 1) before) (left ∷ drop (i + 1) now) mid further → AreRead own shared (parsing_of work fault) (h.read ++ more) stop before (slice_set now i left) start further
    then more stop fault are =
        let p = parsing_of work fault in
        let step = subst (λ xs. AreRead own shared p more stop xs (drop i (slice_set now i left)) mid further) (sym rest_of) (subst (λ ys. AreRead own shared p more stop (it ∷ drop (i + 1) before) ys mid further) (sym (drop-set now i left inside)) are) in
        read_then own shared p h.read more stop before now (slice_set now i left) start mid further (h.are fault)
        (subst (λ n. take n now ≡ take n (slice_set now i left)) (sym h.count) (sym (take-set now i left)))
        (subst (λ n. AreRead own shared p more stop (drop n before) (drop n (slice_set now i left)) mid further) (sym h.count) step)

    others_same : drop (i + 1) (slice_set now i left) ≡ drop (i + 1) before
    others_same =
        let b = rest_of in
        let n = drop_more now i it inside in
        let k : slice_index_or now i it ∷ drop (i + 1) now ≡ it ∷ drop (i + 1) before = sym n ∙ h.same ∙ b in
        let x : drop (i + 1) now ≡ drop (i + 1) before = cc in
        drop-set-lt (i + 1) now i left (omega arith) ∙ x

    pub turns_more : DoesOne work (i + 1) (λ P. TakesOne own shared P (slice_index_or now i it) left mid further) at next → TurnsDone (slice_set now i left) further (i + 1) next
    turns_more one =
        let count = h.count in
        record {
          read = h.read ++ one.items ∷ [];
          are = λ fault. then (one.items ∷ []) NotBegun fault (further, subst (λ t. TakesOne own shared (IsInputOf work.form work.greatest one.items) t left mid further) (sym e) one.reads, nothing_taken (shared further));
          count = omega (arith, length-append h.read (one.items ∷ []), count);
          within = omega (arith, inside, length-set now i left);
          same = others_same;
          long = length-set now i left ∙ h.long;
          does = does_more work 1 (i + 1) h.read one.items begun at next (omega (arith, count)) h.does one.does;
        }

    pub turns_stop : (fault : Fault) → StopsOne work (i + 1) (λ P. TakesOne own shared P (slice_index_or now i it) left mid further) (ReaderFailed own shared left further) at next fault
        → StopsAmid work (AreTaken own shared before (slice_set now i left) start further) (SomeFailed own shared (slice_set now i left) further) begun next fault
    turns_stop fault one =
        let f = fault_in (Err fault) in
        let p = parsing_of work f in
        let stop = stop_of f one.items in
        let takes = subst (λ t. TakesOne own shared (λ text rest. StopsIn p stop text) t left mid further) (sym e) one.reads in
        let stops = stop_is f one.items (λ s. TakesOne own shared (λ text rest. StopsIn p s text) it left mid further → StopsSo own shared p s (it ∷ drop (i + 1) before) (left ∷ drop (i + 1) now) mid further) (λ k so. so) (λ so. so) takes in
        record {
          read = h.read;
          last = one.items;
          reads = record {
            are = subst (λ read. AreRead own shared p read stop before (slice_set now i left) start further) (append-nil h.read) (then [] stop f stops);
            passed = subst (λ k. drop k (slice_set now i left) ≡ drop k before) (sym (reached_more h.read stop (stop_is f one.items (λ s. reached {Item = Change} [] s ≡ 1) (λ k. refl) refl) ∙ ap (λ (n : ℕ). n + 1) h.count)) others_same;
          };
          is_fault = subst (λ k. IsFaultOf work.form (k + 1) (SomeFailed own shared (slice_set now i left) further) fault) (sym h.count) (fault_weaker work.form (i + 1) _ _ fault (some_failed own shared now i left further inside) one.is_fault);
          mid = at;
          does = h.does;
          stops = subst (λ k. StopsOrNot work (k + 1) one.items at next fault) (sym h.count) one.stops;
        }

  pub turns_all : (now : List (InputReader R)) (mid : S) (i : ℕ) (at : Progress T) → TurnsDone now mid i at → length now ≤ i → DoesAll work (AreTaken own shared before now start mid) begun at
  turns_all now mid i at h end =
      let at_end : length h.read ≡ length before = omega (arith, h.count, h.within, h.long) in
      let none : drop (length h.read) before ≡ [] = subst (λ n. drop n before ≡ []) (sym at_end) (drop-length before) in
      record {
        read = h.read;
        reads = record {
          are = subst (λ read. AreRead own shared (parsing_of work None) read NoMore before now start mid) (append-nil h.read)
              (read_then own shared (parsing_of work None) h.read [] NoMore before now now start mid mid (h.are None) refl (none, nothing_taken (shared mid)));
          passed = subst (λ k. drop k now ≡ drop k before) (sym (reached_all h.read ∙ h.count)) h.same;
        };
        does = h.does;
      }

-- ---- the readers that come back

-- the reader that some share, without its window
handed_failed : {I : Type 0} (shared : I → Feed) (window : SharedWindow I) → (shared_feed shared window).failed → (shared (reader_of window)).failed
handed_failed shared (Unread reader) h = h
handed_failed shared (InHand w) h = h

module _ {T J I : Type 0} (work : Work T) (own : J → Feed) (shared : I → Feed) (inputs left : Inputs J I) (window : SharedWindow I) (now : List (InputReader J)) (same : left.readers.items ≡ now) (handed : left.shared ≡ reader_of window) (old new : Progress T) where
  read_to : (p : Parsing Change TextFault) (read : List (List Change)) (stop : Stop Change TextFault) → AreTaken own (shared_feed shared) inputs.readers.items now (Unread inputs.shared) window p read stop → AreReadTo own shared p read stop inputs left
  read_to p read stop taken = record {
    window = window;
    are = subst (λ xs. AreRead own (shared_feed shared) p read stop inputs.readers.items xs (Unread inputs.shared) window) (sym same) taken.are;
    handed = handed;
    others = subst (λ xs. drop (reached read stop) xs ≡ drop (reached read stop) inputs.readers.items) (sym same) taken.passed;
  }

  some_handed : SomeFailed own (shared_feed shared) now window → SomeFailed own shared left.readers.items left.shared
  some_handed h =
      subst (λ it. SomeFailed own shared left.readers.items it) (sym handed)
      (subst (λ xs. SomeFailed own shared xs (reader_of window)) (sym same) (some_through own (shared_feed shared) shared now window (reader_of window) (handed_failed shared window) h))

  pub inputs_done : DoesAll work (AreTaken own (shared_feed shared) inputs.readers.items now (Unread inputs.shared) window) old new → DoesAll work (λ p read stop. AreReadTo own shared p read stop inputs left) old new
  inputs_done h = record { read = h.read; reads = read_to _ _ _ h.reads; does = h.does }

  pub inputs_stopped : (fault : Fault) → StopsAmid work (AreTaken own (shared_feed shared) inputs.readers.items now (Unread inputs.shared) window) (SomeFailed own (shared_feed shared) now window) old new fault
      → StopsAmid work (λ p read stop. AreReadTo own shared p read stop inputs left) (SomeFailed own shared left.readers.items left.shared) old new fault
  inputs_stopped fault h = record { read = h.read; last = h.last; reads = read_to _ _ _ h.reads; is_fault = fault_weaker work.form (length h.read + 1) _ _ fault some_handed h.is_fault; mid = h.mid; does = h.does; stops = h.stops }
