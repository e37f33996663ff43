-- That a difference of two files comes to what the oracle says.
use Rattle.cdb_system.proofs.OutputTaken.{MayGiveUp}
use Rattle.cdb_system.proofs.Words.{AppendsPrefix, Damage, Err, Fault, Feed, Ghosts, Keeps, Left, List, None, Ok, Option, Result, Some, State, [], ap, arith, cond-false, cond-true, files_of, head_size, inl, inr, length, plain_status, refl, same_appends, subst, sym, true, walk_of, ℕ, ◌<◌, ◌∙◌, ◌∷◌, ◌≡◌, ◌≤◌}
use Rattle.std.specs.Prelude.{if◌then◌else◌, option_map}
use Rattle.std.specs.Option.{option_or}
use Rattle.cdb_form.specs.Text.Parse.{amending_text}
use Rattle.cdb_form.specs.declared.damage.Damage.TheVariants as damage
use Rattle.cdb_form.specs.declared.damage.Damage.TheVariants.{Short}
use Rattle.cdb_read.specs.Difference.{FindsInOrder}
use Rattle.cdb_read.specs.Statistics.{outside_table}
use Rattle.cdb_read.specs.declared.fault.ReadFault.{ReadFault}
use Rattle.cdb_read.specs.declared.fault.ReadFault.TheVariants as read
use Rattle.cdb_read.specs.Sound.{lacks_tables}
use Rattle.cdb_show.specs.Runs.Difference.{difference_state, difference_task, ComesAfter, DifferenceFails, DifferenceNotRead, DifferenceOutside, HasDamage as HasAny, HaveHeads, HaveTables, HaveTablesInside, TellsDifference, difference_of, heads_fault}
use Rattle.cdb_show.specs.declared.fault.Fault.TheVariants.{Output, NoMemory, Old, New, NoOldTables, NoNewTables}
use Rattle.cdb_system.specs.Answered.{AreComparable, IsInOrder, Nothing, Shows, stores_in}
use Rattle.cdb_system.specs.Oracle.{Disk, difference_outcome, of_file, unless_fault}
use Rattle.cdb_system.proofs.Coming.{Comes, EachAnswered, IsSized, comes_so, gives_up, long_is, nothing_written, of_shown, refused_so, short_is}
use Rattle.cdb_system.specs.Reading.{PerformsDifference}
use Rattle.cdb_system.specs.declared.open_trace.OpenCall.TheVariants.{AtPlaces, Unopened}
use Rattle.cdb_system.specs.declared.system.System.{Ghosts as Systems}

-- a fault of a file in order is one that no file can have
not_met : (w : ℕ) (bytes beside : List ℕ) (damage : Damage) → (walk_of w bytes).damage ≡ None → FindsInOrder w bytes → HasAny w bytes beside damage → ⊥
not_met w bytes beside damage whole finds (inl walked) = (let e = sym whole ∙ walked in cc)
not_met w bytes beside damage whole finds (inr looked) = (let e = sym (finds.sound looked.0) ∙ looked.2 in cc)

-- what is known of a file of a difference, as it is left
record Compared {S : Type 0} (w : ℕ) (s : Ghosts S) (last : S) (bytes : List ℕ) : Type 0 where
  is : s.image last bytes
  size : length bytes ≡ s.size last
  works : s.failures last ≡ 0

-- what the heads say, once some looks are done
abbrev outside_fault : ℕ → (b c : List ℕ) → Option Fault
outside_fault w b c = option_or (option_map (λ n. Old (read.Table n)) (outside_table w b)) (option_map (λ n. New (read.Table n)) (outside_table w c))

module _ {S : Type 0} (w : ℕ) (s : Ghosts S) (old_last new_last : S) (b c : List ℕ) (x : Compared w s old_last b) (y : Compared w s new_last c) (old new : S) (start end : Option (List ℕ)) (order : heads_fault w b c ≡ None → IsInOrder w b × IsInOrder w c) where
  long : (last : S) (bytes : List ℕ) → Compared w s last bytes → head_size w ≤ s.size last → head_size w ≤ length bytes
  long last bytes z h = subst (λ n. head_size w ≤ n) (sym z.size) h

  short : (last : S) (bytes : List ℕ) → Compared w s last bytes → s.size last < head_size w → length bytes < head_size w
  short last bytes z h = subst (λ n. n < head_size w) (sym z.size) h

  after_heads : HaveHeads w s s old_last new_last → heads_fault w b c ≡ (if lacks_tables w b then Some NoOldTables else if lacks_tables w c then Some NoNewTables else outside_fault w b c)
  after_heads h = long_is w b _ _ (long old_last b x h.of_old) ∙ long_is w c _ _ (long new_last c y h.of_new)

  after_tables : HaveTables w s s old_last new_last → heads_fault w b c ≡ outside_fault w b c
  after_tables h = after_heads h.heads ∙ cond-false (lacks_tables w b) _ _ (h.of_old b x.is) ∙ cond-false (lacks_tables w c) _ _ (h.of_new c y.is)

  old_inside : HaveTables w s s old_last new_last → DifferenceOutside w s old_last None → heads_fault w b c ≡ option_map (λ n. New (read.Table n)) (outside_table w c)
  old_inside h inside = after_tables h ∙ ap (λ o. option_or (option_map (λ n. Old (read.Table n)) o) (option_map (λ n. New (read.Table n)) (outside_table w c))) (inside b x.is)

  none_said : HaveTablesInside w s s old_last new_last → heads_fault w b c ≡ None
  none_said h = old_inside h.tables h.of_old ∙ ap (option_map (λ n. New (read.Table n))) (h.of_new c y.is)

  -- a fault that the heads say, and one of what comes later
  said_so : (fault : Fault) → heads_fault w b c ≡ Some fault → Keeps start end → Comes true Nothing plain_status (difference_outcome w b c) start end (Err fault)
  said_so fault e kept = comes_so true Nothing plain_status _ [] start end (Err fault) (ap (λ f. unless_fault f (amending_text (difference_of w b c))) e) (nothing_written start end kept)

  refused_later : (fault : Fault) → MayGiveUp true Nothing fault → HaveTablesInside w s s old_last new_last → (heads_fault w b c ≡ None → AppendsPrefix start end (amending_text (difference_of w b c))) → Comes true Nothing plain_status (difference_outcome w b c) start end (Err fault)
  refused_later fault refusal looked part =
      let none = none_said looked in
      gives_up true Nothing plain_status _ start end fault refusal (subst (AppendsPrefix start end) (sym (ap (λ f. (unless_fault f (amending_text (difference_of w b c))).output) none)) (part none))

  old_ended : (fault : ReadFault) → ComesAfter w s s old_last new_last (Old fault) → DifferenceNotRead (difference_task w s s) (difference_state old new_last start) (difference_state old_last new_last end) fault → Comes true Nothing plain_status (difference_outcome w b c) start end (Err (Old fault))
  old_ended read.Short looks h = said_so (Old read.Short) (short_is w b _ _ (short old_last b x (subst (λ store. s.size store < head_size w) (sym h.unread) h.short))) h.kept
  old_ended read.Device looks h = let works = x.works in absurd (omega (arith, h, works))
  old_ended (read.Table n) looks h =
      let out = h b c x.is y.is in
      said_so (Old (read.Table n)) (after_tables looks ∙ ap (λ o. option_or (option_map (λ n. Old (read.Table n)) o) (option_map (λ n. New (read.Table n)) (outside_table w c))) out.0) out.1
  old_ended (read.Record place) looks h = let ordered = (order (none_said looks)).0 in absurd (not_met w b c (damage.Record place) ordered.0 ordered.1 (h b c x.is y.is))
  old_ended fault looks h = absurd h

  new_ended : (fault : ReadFault) → ComesAfter w s s old_last new_last (New fault) → DifferenceNotRead (difference_task w s s) (difference_state new old_last start) (difference_state new_last old_last end) fault → Comes true Nothing plain_status (difference_outcome w b c) start end (Err (New fault))
  new_ended read.Short looks h =
      said_so (New read.Short) (long_is w b _ _ (long old_last b x looks) ∙ short_is w c _ _ (short new_last c y (subst (λ store. s.size store < head_size w) (sym h.unread) h.short))) h.kept
  new_ended read.Device looks h = let works = y.works in absurd (omega (arith, h, works))
  new_ended (read.Table n) looks h =
      let out = h c b y.is x.is in
      said_so (New (read.Table n)) (old_inside looks.0 looks.1 ∙ ap (option_map (λ n. New (read.Table n))) out.0) out.1
  new_ended (read.Record place) looks h = let ordered = (order (none_said looks)).1 in absurd (not_met w c b (damage.Record place) ordered.0 ordered.1 (h c b y.is x.is))
  new_ended fault looks h = absurd h

  difference_ended : (fault : Fault) → ComesAfter w s s old_last new_last fault → (heads_fault w b c ≡ None → AppendsPrefix start end (amending_text (difference_of w b c))) → DifferenceFails (difference_task w s s) (difference_state old new start) (difference_state old_last new_last end) fault → Comes true Nothing plain_status (difference_outcome w b c) start end (Err fault)
  difference_ended (Old fault) looks part h = old_ended fault looks h
  difference_ended (New fault) looks part h = new_ended fault looks h
  difference_ended Output looks part h = refused_later Output refl looks part
  difference_ended NoMemory looks part h = refused_later NoMemory tt looks part
  difference_ended NoOldTables looks part h = said_so NoOldTables (after_heads looks ∙ cond-true (lacks_tables w b) _ _ (h.lacks b x.is)) h.kept
  difference_ended NoNewTables looks part h = said_so NoNewTables (after_heads looks.0 ∙ cond-false (lacks_tables w b) _ _ (looks.1 b x.is) ∙ cond-true (lacks_tables w c) _ _ (h.lacks c y.is)) h.kept
  difference_ended fault looks part h = absurd h

  difference_comes : (result : Result Unit Fault) → TellsDifference (difference_task w s s) (difference_state old new start) (difference_state old_last new_last end) result → Comes true Nothing plain_status (difference_outcome w b c) start end result
  difference_comes (Ok done) h =
      let written = h.ok b c x.is y.is in
      let none = none_said h.ok_looks in
      let ordered = order none in
      comes_so true Nothing plain_status _ (amending_text (difference_of w b c)) start end (Ok tt) (ap (λ f. unless_fault f (amending_text (difference_of w b c))) none) (same_appends start end _ _ (ap amending_text (written.are ordered.0.1 ordered.1.1)) written.written)
  difference_comes (Err fault) h = difference_ended fault h.err_looks (λ none. (let ordered = order none in (h.front b c x.is y.is).are ordered.0.1 ordered.1.1)) h.err

-- two files that were opened
compared : {S : Type 0} (w : ℕ) (s : Ghosts S) (first second : Option (List ℕ)) (old old_last new new_last : S) (start end : Option (List ℕ)) (result : Result Unit Fault) → IsSized s → AreComparable w first second → Shows s first (old_last ∷ []) → Shows s second (new_last ∷ old_last ∷ []) → TellsDifference (difference_task w s s) (difference_state old new start) (difference_state old_last new_last end) result
    → Comes true Nothing plain_status (of_file first (λ b. of_file second (difference_outcome w b))) start end result
compared w s None second old old_last new new_last start end result sized order shows beside h = absurd shows
compared w s (Some b) None old old_last new new_last start end result sized order shows beside h = absurd beside
compared w s (Some b) (Some c) old old_last new new_last start end result sized order shows beside h =
    difference_comes w s old_last new_last b c (record { is = shows.0; size = sized old_last b shows.0; works = shows.1 }) (record { is = beside.0; size = sized new_last c beside.0; works = beside.1 })
    old new start end order result h

pub difference_foretold : {F I J M N R Y : Type 0} (feed : I → Feed) (w : ℕ) (s : Ghosts F) (m : Ghosts M) (y : Systems Y F I M J N R) (first second : List ℕ) (disk : Disk) (old new : State Y) (left : Left F M I J) (result : Result Unit Fault) → IsSized s → EachAnswered s disk (stores_in left) (y.calls old.opened) (y.calls new.opened) → AreComparable w (disk first) (disk second)
    → PerformsDifference (files_of s m feed y) (record { word = w; first = first; second = second }) old new left result → Comes true Nothing plain_status (of_file (disk first) (λ b. of_file (disk second) (difference_outcome w b))) old.output new.output result
difference_foretold feed w s m y first second disk old new left result sized answers order (inl none) =
    refused_so true Nothing s plain_status first disk (stores_in left) _ (y.calls old.opened) (y.calls new.opened) [] old.output new.output result refl answers none.1
difference_foretold feed w s m y first second disk old new left result sized answers order (inr (inl half)) =
    let miss = half.refuses.misses in
    let calls = subst (λ l. EachAnswered s disk (stores_in l) (y.calls old.opened) (y.calls new.opened)) half.is_left answers ((Unopened miss.why miss.found, second) ∷ (AtPlaces, first) ∷ []) miss.calls in
    of_shown true Nothing s plain_status (disk first) half.file [] _ old.output new.output result calls.1.0
    (λ b is works. refused_so true Nothing s plain_status second disk (stores_in left) (difference_outcome w b) (y.calls old.opened) (y.calls new.opened) ((AtPlaces, first) ∷ []) old.output new.output result refl answers half.refuses)
difference_foretold feed w s m y first second disk old new left result sized answers order (inr (inr both)) =
    let files = both.1 in
    let calls = subst (λ l. EachAnswered s disk (stores_in l) (y.calls old.opened) (y.calls new.opened)) files.are_last answers ((AtPlaces, second) ∷ (AtPlaces, first) ∷ []) both.0 in
    compared w s (disk first) (disk second) files.old files.old_last files.new files.new_last old.output new.output result sized order calls.1.0 calls.0 files.tells
