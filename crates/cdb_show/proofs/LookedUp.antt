-- A query of the keys that some inputs give comes to what the function of their bytes says, or to a
-- refusal: of any bytes that agree with the readers of the inputs as they came back.
use Rattle.std.proofs.Common.{◌≡◌, ◌≢◌, ◌⊎◌, ◌+◌, ◌≤◌, true, false, Bool, ℕ, inl, inr, List, [], ◌∷◌, ◌++◌, length, fold, refl, sym, ap, subst, ◌∙◌, arith, append_assoc, append-nil, Option, Some, None, Result, Ok, Err, if◌then◌else◌}
use Rattle.cdb_show.proofs.Words.{Appends, AppendsPrefix, Change, Fault, Feed, Ghosts, Given, HasLooked, Inputs, Keeps, LookupOptions, LookupTask, LookupsStopAt, SharedWindow, Style, TextFault, end_of, fault_in, flat_map-append, given_from, head_size, keys_form, keys_of, keys_of_each, key_of, lookup_state, LookupState, map-append, missing_answer, prefix_in, shared_feed, stop_of, stopped_parsing, ⊤}
use Rattle.std.proofs.lemmas.Bool.{cond-true, cond-false}
use Rattle.std.proofs.lemmas.List.Sums.{fold-append}
use Rattle.std.proofs.KnownBytes.{Appends-kept, Keeps-trans}
use Rattle.cdb_show.specs.Feed as fed
use Rattle.cdb_show.specs.Feed.{AgreesWith, AreUnread, FirstAgree, IsGiven, HasFault, CutShort, IsUnread, NoMore, Stop, reached}
use Rattle.cdb_show.proofs.InputsGiven.{all_given}
use Rattle.cdb_form.specs.Format.{AreBytes}
use Rattle.cdb_form.specs.declared.text.fault.TextFault.TheVariants as text
use Rattle.cdb_read.specs.declared.fault.ReadFault.TheVariants as read_fault
use Rattle.cdb_show.specs.Runs.Flushed.{FlushedWhole, IsWhole}
use Rattle.cdb_show.specs.Runs.Lookups.{Looked, has_ended, looked_up, records_asked, with_end, with_given, with_key, LookupsFail, LooksUp, LooksUpRead, StopsInNext}
use Rattle.cdb_show.specs.Runs.Parsing.{IsFaultOf}
use Rattle.cdb_show.specs.Runs.Query.{IsShortForQuery}
use Rattle.cdb_show.specs.Views.Noted.{held_of, reader_of}
use Rattle.cdb_show.specs.declared.fault.Fault.TheVariants.{Text, Missing, Read, Output, NoMemory}
use Rattle.cdb_show.specs.declared.inputs.SharedWindow.TheVariants.{InHand, Unread}
use Rattle.cdb_show.proofs.GivenInputs.{same_given, said}
use Rattle.cdb_show.proofs.LookupRuns.{each_more}
use Rattle.cdb_show.proofs.Writers.{prefix_kept, whole_prefix}

-- ---- what comes of it

-- it wrote and answered what was said
pub record LooksSo (l : Looked) (start end : Option (List ℕ)) (result : Result Unit Fault) : Type 0 where
  pub is : result ≡ l.answer
  pub written : Appends start end l.text

-- an allocation failed, standard output, or the reader of an input
abbrev pub IsLookupRefusal : Fault → Type 0
IsLookupRefusal (Text n text.Input) = ⊤
IsLookupRefusal (Text n text.Endless) = ⊤
IsLookupRefusal Output = ⊤
IsLookupRefusal NoMemory = ⊤
IsLookupRefusal fault = ⊥

-- or that was refused, and what was written is a prefix
pub record LookupRefused (l : Looked) (start end : Option (List ℕ)) (result : Result Unit Fault) : Type 0 where
  pub fault : Fault
  pub is : result ≡ Err fault
  pub refusal : IsLookupRefusal fault
  pub written : AppendsPrefix start end l.text

abbrev pub ComesOf : Looked → (start end : Option (List ℕ)) → Result Unit Fault → Type 0
ComesOf l start end result = LooksSo l start end result ⊎ LookupRefused l start end result

-- of a file that has a head
pub record LooksOrShort {S : Type 0} (w : ℕ) (s : Ghosts S) (l : Looked) (old new : S) (start end : Option (List ℕ)) (result : Result Unit Fault) : Type 0 where
  pub comes : ((result ≡ Err (Read read_fault.Short)) × IsShortForQuery w s old new start end) ⊎ ((head_size w ≤ s.size new) × ComesOf l start end result)

refused : (l : Looked) (start end : Option (List ℕ)) (f : Fault) → IsLookupRefusal f → AppendsPrefix start end l.text → ComesOf l start end (Err f)
refused l start end f is p = inr (record { fault = f; is = refl; refusal = is; written = p })

-- ---- the keys of the inputs that were read, and of what was read of one more

-- what all inputs give, if the run stopped so
abbrev Gives : List (List Change) → Stop Change TextFault → Given → Type 0
Gives read stop given = (f : fed.Given Change TextFault) × IsGiven 1 read stop f × (said f ≡ given)

keys_begun : (read others : List (List Change)) (last more : List Change) → keys_of_each (read ++ (last ++ more) ∷ others) ≡ (keys_of_each read ++ keys_of last) ++ (keys_of more ++ keys_of_each others)
keys_begun read others last more =
    flat_map-append keys_of read ((last ++ more) ∷ others)
    ∙ ap (λ k. keys_of_each read ++ (k ++ keys_of_each others)) (map-append key_of last more)
    ∙ ap (λ k. keys_of_each read ++ k) (append_assoc (keys_of last) (keys_of more) (keys_of_each others))
    ∙ sym (append_assoc (keys_of_each read) (keys_of last) (keys_of more ++ keys_of_each others))

-- they are the first of all keys
abbrev KeysBegin : List (List Change) → List Change → Given → Type 0
KeysBegin read last given = (more : List (List ℕ)) × (keys_of_each given.items ≡ (keys_of_each read ++ keys_of last) ++ more)

whole_begins : (read : List (List Change)) (last : List Change) (fault : Option Fault) (given : Given) → given ≡ record { items = read ++ last ∷ []; fault = fault } → KeysBegin read last given
whole_begins read last fault given e = ([], ap (λ (v : Given). keys_of_each v.items) e ∙ each_more read last ∙ sym (append-nil (keys_of_each read ++ keys_of last)))

part_begins : (read : List (List Change)) (last : List Change) (f : fed.Given Change TextFault) (given : Given) → IsGiven 1 read (CutShort last) f → said f ≡ given → KeysBegin read last given
part_begins read last f given (more, others, e) same = (keys_of more ++ keys_of_each others, ap (λ (v : Given). keys_of_each v.items) (sym same) ∙ ap keys_of_each e ∙ keys_begun read others last more)

fault_given : (read : List (List Change)) (last : List Change) (n : ℕ) (t : TextFault) (f : fed.Given Change TextFault) (given : Given) → n ≡ length read + 1 → IsGiven 1 read (HasFault last t) f → said f ≡ given → given ≡ record { items = read ++ last ∷ []; fault = Some (Text n t) }
fault_given read last n t f given at is same =
    sym same ∙ ap said is ∙ ap (λ (m : ℕ). let v : Given = record { items = read ++ last ∷ []; fault = Some (Text m t) } in v) (omega (arith, at))

keys_begin : (t : Option TextFault) (read : List (List Change)) (last : List Change) (given : Given) → Gives read (stop_of t last) given → KeysBegin read last given
keys_begin (Some (text.Syntax at)) read last given (f, is, same) = whole_begins read last _ given (fault_given read last (length read + 1) _ f given refl is same)
keys_begin (Some (text.Ended at)) read last given (f, is, same) = whole_begins read last _ given (fault_given read last (length read + 1) _ f given refl is same)
keys_begin (Some (text.Large at)) read last given (f, is, same) = whole_begins read last _ given (fault_given read last (length read + 1) _ f given refl is same)
keys_begin t read last given (f, is, same) = part_begins read last f given is same

-- ---- more keys

ends_or : (b : Bool) (s : Looked) (text : List ℕ) (answer : Result Unit Fault) → (x : List ℕ) × ((if b then s else record { text = s.text ++ text; answer = answer }).text ≡ s.text ++ x)
ends_or true s text answer = ([], sym (append-nil s.text))
ends_or false s text answer = (text, refl)

keys_grow : (w : ℕ) (b : List ℕ) (o : LookupOptions) (s : Looked) (keys : List (List ℕ)) → (x : List ℕ) × ((fold (with_key w b o) s keys).text ≡ s.text ++ x)
keys_grow w b o s [] = ([], sym (append-nil s.text))
keys_grow w b o s (key ∷ keys) =
    let one = ends_or (has_ended s.answer) s _ _ in
    let rest = keys_grow w b o (with_key w b o s key) keys in
    (one.0 ++ rest.0, rest.1 ∙ ap (λ t. t ++ rest.0) one.1 ∙ append_assoc s.text one.0 rest.0)

-- a damage ends it
keys_stay : (w : ℕ) (b : List ℕ) (o : LookupOptions) (s : Looked) (keys : List (List ℕ)) → has_ended s.answer ≡ true → fold (with_key w b o) s keys ≡ s
keys_stay w b o s [] e = refl
keys_stay w b o s (key ∷ keys) e =
    ap (λ v. fold (with_key w b o) v keys) (cond-true (has_ended s.answer) s _ e) ∙ keys_stay w b o s keys e

looked_more : (w : ℕ) (b : List ℕ) (o : LookupOptions) (keys more : List (List ℕ)) → looked_up w b o (keys ++ more) ≡ fold (with_key w b o) (looked_up w b o keys) more
looked_more w b o keys more = fold-append (with_key w b o) _ keys more

end_grows : (style : Style) (s : Looked) (fault : Option Fault) → (x : List ℕ) × ((with_end style s fault).text ≡ s.text ++ x)
end_grows style s (Some fault) = ([], sym (append-nil s.text))
end_grows style s None = (end_of style, refl)

given_grows : (b : Bool) (style : Style) (s : Looked) (fault : Option Fault) → (x : List ℕ) × ((if b then s else with_end style s fault).text ≡ s.text ++ x)
given_grows true style s fault = ([], sym (append-nil s.text))
given_grows false style s fault = end_grows style s fault

-- ---- all inputs were read, and all their keys looked up

not_ended : (missing : Bool) → has_ended (missing_answer missing) ≡ false
not_ended true = refl
not_ended false = refl

-- what follows the keys, if no damage was met
unended : (w : ℕ) (b : List ℕ) (o : LookupOptions) (given : Given) (missing : Bool) → (looked_up w b o (keys_of_each given.items)).answer ≡ missing_answer missing
    → with_given w b o given ≡ with_end o.style (looked_up w b o (keys_of_each given.items)) given.fault
unended w b o given missing e = cond-false (has_ended (looked_up w b o (keys_of_each given.items)).answer) _ _ (ap has_ended e ∙ not_ended missing)

-- a key had no value, or something else was
is_missing : (f : Fault) → (f ≡ Missing) ⊎ (f ≢ Missing)
is_missing Missing = inl refl
is_missing f = inr (λ e. cc)

module _ {S : Type 0} (task : LookupTask S) (inputs : List (Option (List ℕ))) (shared bytes : List ℕ) where
  -- what the inputs give, and what comes of it
  abbrev given : Given
  given = given_from (keys_form task.options.style) task.greatest 1 inputs shared

  abbrev asked : Looked
  asked = records_asked task.word task.greatest task.options inputs shared bytes

  all_asked : (read : List (List Change)) (store : S) (missing : Bool) (Writes : List ℕ → Type 0) → task.store.image store bytes → Gives read NoMore given
      → LooksUpRead task read store missing Writes → (asked.answer ≡ missing_answer missing) × Writes asked.text
  all_asked read store missing Writes is (f, all, said_so) h =
      let answered = h.answered bytes is in
      let whole : Given = record { items = read; fault = None } in
      let same : asked ≡ with_end task.options.style (looked_up task.word bytes task.options (keys_of_each read)) None =
      ap (with_given task.word bytes task.options) (sym said_so ∙ ap said all) ∙ unended task.word bytes task.options whole missing answered in
      (ap (λ (l : Looked). l.answer) same ∙ answered, subst Writes (sym (ap (λ (l : Looked). l.text) same)) (h.written bytes is))

  -- ---- it stopped in an input

  -- of the keys so far a prefix was written
  part_asked : (keys more : List (List ℕ)) (start end : Option (List ℕ)) → keys_of_each given.items ≡ keys ++ more → AppendsPrefix start end (looked_up task.word bytes task.options keys).text → AppendsPrefix start end asked.text
  part_asked keys more start end e p =
      let w = task.word in
      let o = task.options in
      let all = looked_up w bytes o (keys_of_each given.items) in
      let same : all ≡ fold (with_key w bytes o) (looked_up w bytes o keys) more = ap (looked_up w bytes o) e ∙ looked_more w bytes o keys more in
      let grow = keys_grow w bytes o (looked_up w bytes o keys) more in
      let last = given_grows (has_ended all.answer) o.style all given.fault in
      prefix_in start end (looked_up w bytes o keys).text (grow.0 ++ last.0) _ p
      (last.1 ∙ ap (λ t. t ++ last.0) (ap (λ (l : Looked). l.text) same ∙ grow.1) ∙ append_assoc (looked_up w bytes o keys).text grow.0 last.0)

  -- the last of these keys met a damage
  damage_asked : (keys more : List (List ℕ)) (start end : Option (List ℕ)) (f : Fault) → keys_of_each given.items ≡ keys ++ more
      → has_ended (Err f) ≡ true → (looked_up task.word bytes task.options keys).answer ≡ Err f → Appends start end (looked_up task.word bytes task.options keys).text → ComesOf asked start end (Err f)
  damage_asked keys more start end f e ends answered written =
      let w = task.word in
      let o = task.options in
      let here = looked_up w bytes o keys in
      let all : looked_up w bytes o (keys_of_each given.items) ≡ here =
      ap (looked_up w bytes o) e ∙ looked_more w bytes o keys more ∙ keys_stay w bytes o here more (ap has_ended answered ∙ ends) in
      let same : asked ≡ here =
      ap (λ (l : Looked). if has_ended l.answer then l else with_end o.style l given.fault) all ∙ cond-true (has_ended here.answer) _ _ (ap has_ended answered ∙ ends) in
      subst (λ l. ComesOf l start end (Err f)) (sym same) (inl (record { is = sym answered; written = written }))

  -- the text of an input has a fault
  text_asked : (read : List (List Change)) (last : List Change) (new : S) (start end : Option (List ℕ)) (n : ℕ) (f : TextFault) → task.store.image new bytes → n ≡ length read + 1 → Gives read (HasFault last f) given
      → (missing : Bool) → HasLooked task (keys_of_each read ++ keys_of last) new start end missing → ComesOf asked start end (Err (Text n f))
  text_asked read last new start end n f is at (g, has, said_so) missing looked =
      let w = task.word in
      let o = task.options in
      let whole : Given = record { items = read ++ last ∷ []; fault = Some (Text n f) } in
      let keys : keys_of_each (read ++ last ∷ []) ≡ keys_of_each read ++ keys_of last = each_more read last in
      let answered : (looked_up w bytes o (keys_of_each (read ++ last ∷ []))).answer ≡ missing_answer missing =
      ap (λ k. (looked_up w bytes o k).answer) keys ∙ looked.answered bytes is in
      let same : asked ≡ record { text = (looked_up w bytes o (keys_of_each read ++ keys_of last)).text; answer = Err (Text n f) } =
      ap (with_given w bytes o) (fault_given read last n f g given at has said_so) ∙ unended w bytes o whole missing answered
      ∙ ap (λ k. with_end o.style (looked_up w bytes o k) (Some (Text n f))) keys in
      subst (λ l. ComesOf l start end (Err (Text n f))) (sym same) (inl (record { is = refl; written = looked.written bytes is }))

  -- ---- the run

  module _ (old new : S) (start end : Option (List ℕ)) (is : task.store.image new bytes) (works : task.store.failures new ≡ 0) where
    -- on a store with a head it comes so
    long_so : (result : Result Unit Fault) → head_size task.word ≤ task.store.size new → ComesOf asked start end result → LooksOrShort task.word task.store asked old new start end result
    long_so result long comes = record { comes = inr (long, comes) }

    stops_asked : (read : List (List Change)) (last : List Change) (f : Fault) → Gives read (stop_of (fault_in (Err f)) last) given → LookupsStopAt task (keys_of_each read ++ keys_of last) old new start end f
        → IsFaultOf (keys_form task.options.style) (length read + 1) ⊤ f → LooksOrShort task.word task.store asked old new start end (Err f)
    stops_asked read last (Read (read_fault.Table n)) gives h of = let k = keys_begin None read last given gives in long_so _ h.long (damage_asked _ k.0 start end _ k.1 refl (h.answered bytes is) (h.written bytes is))
    stops_asked read last (Read (read_fault.Record place)) gives h of = let k = keys_begin None read last given gives in long_so _ h.long (damage_asked _ k.0 start end _ k.1 refl (h.answered bytes is) (h.written bytes is))
    stops_asked read last (Read read_fault.Device) gives h of = absurd (let failed = h.0 in let no : ⊥ = omega (arith, failed, works) in no)
    stops_asked read last Output gives h of = let k = keys_begin None read last given gives in long_so _ h.0 (refused _ start end Output tt (part_asked _ k.0 start end k.1 (h.1 bytes is)))
    stops_asked read last NoMemory gives h of = let k = keys_begin None read last given gives in long_so _ h.1.long (refused _ start end NoMemory tt (part_asked _ k.0 start end k.1 (whole_prefix start end _ (h.1.written bytes is))))
    stops_asked read last (Text n (text.Syntax at)) gives h of = long_so _ h.1.long (text_asked read last new start end n _ is (of.number n _ refl) gives h.0 h.1)
    stops_asked read last (Text n (text.Ended at)) gives h of = long_so _ h.1.long (text_asked read last new start end n _ is (of.number n _ refl) gives h.0 h.1)
    stops_asked read last (Text n (text.Large at)) gives h of = long_so _ h.1.long (text_asked read last new start end n _ is (of.number n _ refl) gives h.0 h.1)
    stops_asked read last (Text n text.Input) gives h of = let k = keys_begin (Some text.Input) read last given gives in long_so _ h.1.long (refused _ start end _ tt (part_asked _ k.0 start end k.1 (whole_prefix start end _ (h.1.written bytes is))))
    stops_asked read last (Text n text.Endless) gives h of = let k = keys_begin (Some text.Endless) read last given gives in long_so _ h.1.long (refused _ start end _ tt (part_asked _ k.0 start end k.1 (whole_prefix start end _ (h.1.written bytes is))))
    stops_asked read last (Text n text.NoMemory) gives h of = absurd (of.memory n text.NoMemory refl refl)
    stops_asked read last f gives h of = absurd h

    module _ {J I : Type 0} (before after : Inputs J I) (read : List (List Change)) (stop : Stop Change TextFault) (gives : Gives read stop given) where
      abbrev from : LookupState J I S
      from = lookup_state before old start

      abbrev to : LookupState J I S
      to = lookup_state after new end

      next_asked : (f : Fault) → StopsInNext task read stop from to f → LooksOrShort task.word task.store asked old new start end (Err f)
      next_asked f h = stops_asked read h.last f (subst (λ s. Gives read s given) h.is_stop gives) h.stops h.is_fault

      answer_asked : (missing : Bool) → (stop ≡ NoMore) × LooksUpRead task read new missing (Appends start end) → LooksOrShort task.word task.store asked old new start end (missing_answer missing)
      answer_asked missing h =
          let all = all_asked read new missing (Appends start end) is (subst (λ s. Gives read s given) h.0 gives) h.1 in
          long_so _ h.1.long (inl (record { is = sym all.0; written = all.1 }))

      fails_asked : (f : Fault) → LookupsFail task read stop from to f → LooksOrShort task.word task.store asked old new start end (Err f)
      fails_asked (Read read_fault.Short) h = record { comes = inl (refl, record { short = h.why.0; unread = h.why.1; kept = h.kept }) }
      fails_asked (Read read_fault.Device) (inl h) = next_asked _ h
      fails_asked (Read read_fault.Device) (inr h) = absurd (let failed = h.why in let no : ⊥ = omega (arith, failed, works) in no)
      fails_asked Output (inl h) = next_asked Output h
      fails_asked Output (inr (missing, no_more, h)) = long_so _ h.long (refused _ start end Output tt (all_asked read new missing (AppendsPrefix start end) is (subst (λ s. Gives read s given) no_more gives) h).1)
      fails_asked f h = next_asked f h

      leaves_asked : (result : Result Unit Fault) → ((missing : Bool) → result ≡ missing_answer missing → (stop ≡ NoMore) × LooksUpRead task read new missing (Appends start end))
          → ((f : Fault) → result ≡ Err f → f ≢ Missing → LookupsFail task read stop from to f) → LooksOrShort task.word task.store asked old new start end result
      leaves_asked (Ok done) all fails = answer_asked false (all false refl)
      leaves_asked (Err f) all fails = elim (is_missing f) [
        | inl e ↦ subst (λ g. LooksOrShort task.word task.store asked old new start end (Err g)) (sym e) (answer_asked true (all true (ap (λ (g : Fault). let r : Result Unit Fault = Err g in r) e)))
        | inr other ↦ fails_asked f (fails f refl other)
      ]

-- ---- its flush

kept_so : (l : Looked) (start mid end : Option (List ℕ)) (result : Result Unit Fault) → Keeps mid end → ComesOf l start mid result → ComesOf l start end result
kept_so l start mid end result k (inl so) = inl (record { is = so.is; written = Appends-kept start mid end l.text so.written k })
kept_so l start mid end result k (inr not) = inr (record { fault = not.fault; is = not.is; refusal = not.refusal; written = prefix_kept start mid end l.text not.written k })

not_whole : (f : Fault) → IsLookupRefusal f → IsWhole (Err f) → ⊥
not_whole Missing refusal whole = refusal
not_whole f refusal whole = whole

flush_failed : (l : Looked) (start mid end : Option (List ℕ)) (answer : Result Unit Fault) → Keeps mid end → IsWhole answer → ComesOf l start mid answer → ComesOf l start end (Err Output)
flush_failed l start mid end answer k whole (inl so) = refused l start end Output tt (whole_prefix start end l.text (Appends-kept start mid end l.text so.written k))
flush_failed l start mid end answer k whole (inr not) = absurd (not_whole not.fault not.refusal (subst IsWhole not.is whole))

flushed_or : {S : Type 0} (w : ℕ) (s : Ghosts S) (l : Looked) (old new : S) (start mid end : Option (List ℕ)) (answer result : Result Unit Fault) → FlushedWhole mid end answer result → LooksOrShort w s l old new start mid answer → LooksOrShort w s l old new start end result
flushed_or w s l old new start mid end answer result f h = elim h.comes [
  | inl short ↦ elim f.answered [
    | inl same ↦ record { comes = inl (same ∙ short.0, record { short = short.1.short; unread = short.1.unread; kept = Keeps-trans start mid end short.1.kept f.kept }) }
    | inr failed ↦ absurd (subst IsWhole short.0 failed.0)
  ]
  | inr so ↦ elim f.answered [
    | inl same ↦ record { comes = inr (so.0, kept_so l start mid end result f.kept (subst (ComesOf l start mid) (sym same) so.1)) }
    | inr failed ↦ record { comes = inr (so.0, subst (ComesOf l start end) (sym failed.1) (flush_failed l start mid end answer f.kept failed.0 so.1)) }
  ]
]

-- bytes that agree with a reader agree with its window
window_agrees : {I : Type 0} (shared : I → Feed) (w : SharedWindow I) (whole : List ℕ) → AgreesWith AreBytes (shared (reader_of w)) whole → AgreesWith AreBytes (shared_feed shared w) whole
window_agrees shared (Unread reader) whole a = a
window_agrees shared (InHand w) whole a = record { fit = a.fit; rest = held_of (InHand w) ++ a.rest; may = record { behind = a.rest; may = a.may; is = refl } }

-- if the function of the bytes gives what was read
given_asked : {J I S : Type 0} (task : LookupTask S) (own : J → Feed) (shared : I → Feed) (inputs left : Inputs J I) (each : List (Option (List ℕ))) (whole : List ℕ) (old new : S) (bytes : List ℕ) (start end : Option (List ℕ)) (result : Result Unit Fault) → (h : LooksUp task own shared (lookup_state inputs old start) (lookup_state left new end) result)
    → IsGiven 1 h.leaves.read h.leaves.stop (fed.given_from (stopped_parsing (keys_form task.options.style) task.greatest (fault_in h.answer)).parse 1 each whole)
    → task.store.image new bytes → task.store.failures new ≡ 0 → LooksOrShort task.word task.store (records_asked task.word task.greatest task.options each whole bytes) old new start end result
given_asked task own shared inputs left each whole old new bytes start end result h given is works =
    let l = h.leaves in
    flushed_or task.word task.store _ old new start h.mid end h.answer result h.flushed
    (leaves_asked task each whole bytes old new start h.mid is works inputs left l.read l.stop (_, given, same_given (keys_form task.options.style) task.greatest 1 each whole) h.answer l.all l.fails)

-- for all bytes of the inputs that were reached and of the shared reader that agree with these readers as they came
-- back, of which nothing had been read before
pub lookups_asked : {J I S : Type 0} (task : LookupTask S) (own : J → Feed) (shared : I → Feed) (inputs left : Inputs J I) (each : List (Option (List ℕ))) (whole : List ℕ) (old new : S) (bytes : List ℕ) (start end : Option (List ℕ)) (result : Result Unit Fault)
    → (h : LooksUp task own shared (lookup_state inputs old start) (lookup_state left new end) result) → AreUnread own inputs.readers.items → IsUnread (shared inputs.shared) → length each ≡ length inputs.readers.items → FirstAgree own AreBytes (reached h.leaves.read h.leaves.stop) each left.readers.items
    → AgreesWith AreBytes (shared left.shared) whole → task.store.image new bytes → task.store.failures new ≡ 0 → LooksOrShort task.word task.store (records_asked task.word task.greatest task.options each whole bytes) old new start end result
lookups_asked task own shared inputs left each whole old new bytes start end result h unread first long agree agrees is works =
    let l = h.leaves in
    let p = stopped_parsing (keys_form task.options.style) task.greatest (fault_in h.answer) in
    let agrees_so = window_agrees shared l.are.window whole (subst (λ r. AgreesWith AreBytes (shared r) whole) l.are.handed agrees) in
    let given = all_given own (shared_feed shared) p l.read l.stop inputs.readers.items left.readers.items (Unread inputs.shared) l.are.window each whole unread first l.are.are agree long agrees_so in
    given_asked task own shared inputs left each whole old new bytes start end result h given is works
