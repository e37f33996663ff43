-- Each create comes to what the oracle says.
use Rattle.cdb.proofs.Words.{AreAnswered, Created, Disk, Fault, Feed, Ghosts, HonestCreate, InputsTaken, Left, List, NameCalls, None, OpenCalls, Option, Result, RunOptions, Some, Standard, [], ap, bytes_eq, bytes_eq-Decides, codes, create_of, false, false_from_ne_true, files_of, inl, inputs_taken, inr, is_in_place, or_from, or_left, or_right, refl, standard_is, standard_not, state_of, stores_in, subst, sym, true, ℕ, ◌≡◌}
use Rattle.cdb_store.specs.declared.raw.RawFile.{Ghosts as Raw}
use Rattle.cdb_show.specs.declared.fault.Fault.TheVariants.{NoMemory, Open}
use Rattle.cdb.specs.Handing.{machine_of}
use Rattle.cdb.specs.Creating.{Creates, HandsBase, Making, MakesAt}
use Rattle.cdb_system.specs.State.{IsInPlace, temporary_of}
use Rattle.cdb_system.specs.declared.system.System.{Ghosts as Systems}
use Rattle.cdb.proofs.Asks.{asking_none, read_asking, read_looked}
use Rattle.cdb.proofs.CreateReads.{all_found}
use Rattle.cdb.proofs.CreateEnds.{AnsweredNames, CreateSo, Knows, back_hands, ends_early, hands_unread, memory_so, not_opened_so, open_so, read_unopened, refused_early}
use Rattle.cdb.proofs.CreateApart.{replacing_so}
use Rattle.cdb.proofs.CreatePlaced.{emptied_so, emptying_refused, in_place_unopened, output_so}

-- ---- each create

-- nothing that was made is returned
with_none : {F I J M : Type 0} (m : Ghosts M) (disk : Disk) (name : List ℕ) (temporary : Option (List ℕ)) (o : RunOptions) (c : Created) (opened : OpenCalls) (was now : NameCalls) (base : Option F) (left : Left F M I J) (start end told said : Option (List ℕ)) (result : Result Unit Fault) → HandsBase base left → CreateSo m disk name temporary o c [] was now None start end told said result
    → CreateSo m disk name temporary o c opened was now left.made start end told said result
with_none m disk name temporary o c opened was now base left start end told said result e h =
    let same : CreateSo m disk name temporary o c opened was now None start end told said result = record { answer = h.answer; done = h.done; failed = h.failed; moments = h.moments } in
    subst (λ (v : Option _). CreateSo m disk name temporary o c opened was now v start end told said result) (sym e.made) same

in_place_now : (name : List ℕ) (temporary : Option (List ℕ)) → IsInPlace name temporary → is_in_place name temporary ≡ true
in_place_now name None h = absurd h
in_place_now name (Some t) (inl h) = or_left _ _ ((bytes_eq-Decides t (codes "-")).1 h)
in_place_now name (Some t) (inr h) = or_right _ _ ((bytes_eq-Decides t name).1 h)

in_place_not : (name : List ℕ) (temporary : Option (List ℕ)) → (IsInPlace name temporary → ⊥) → is_in_place name temporary ≡ false
in_place_not name None other = refl
in_place_not name (Some t) other = or_from _ _ (false_from_ne_true (bytes_eq t (codes "-")) (λ e. other (inl ((bytes_eq-Decides t (codes "-")).0 e)))) (false_from_ne_true (bytes_eq t name) (λ e. other (inr ((bytes_eq-Decides t name).0 e))))

-- no other store is returned
module _ {F I J M N R Y : Type 0} (s : Ghosts F) (m : Ghosts M) (r : Raw R) (feed : I → Feed) (y : Systems Y F I M J N R) (w g : ℕ) (name : List ℕ) (base : Option (List ℕ)) (inputs : List (List ℕ)) (temporary : Option (List ℕ)) (o : RunOptions) (mid new : OpenCalls) (left : Left F M I J) (was now : NameCalls) (start end told said : Option (List ℕ)) (result : Result Unit Fault) (file : Option F) (items : InputsTaken I J) where
  alone_so : MakesAt (machine_of s m feed y r) (record { word = w; greatest = g; options = o; base = file; inputs = items }) (record { word = w; greatest = g; options = o; name = name; base = base; inputs = inputs; temporary = temporary }) (state_of mid was start told) (state_of new now end said) left result → left.other ≡ None
  alone_so (inl (at_output, same, calls, handed, makes)) = handed.other
  alone_so (inr (other, kept, inl (here, inl (finds, same, handed, is, silent)))) = handed.other
  alone_so (inr (other, kept, inl (here, inr (asks, inl (fault, misses, handed, is, silent))))) = handed.other
  alone_so (inr (other, kept, inl (here, inr (asks, inr (emptied, empties, makes))))) = makes.alone
  alone_so (inr (other, kept, inr (apart, same, handed, rest))) = handed.other

-- the database was made
module _ {F I J M N R Y : Type 0} (s : Ghosts F) (m : Ghosts M) (r : Raw R) (feed : I → Feed) (y : Systems Y F I M J N R) (w g : ℕ) (disk : Disk) (input name : List ℕ) (base : Option (List ℕ)) (inputs : List (List ℕ)) (temporary : Option (List ℕ)) (o : RunOptions) (mid new : OpenCalls) (left : Left F M I J) (was now : NameCalls) (start end told said : Option (List ℕ)) (result : Result Unit Fault) (file : Option F) (items : InputsTaken I J)
    (knows : Knows s w disk base inputs input file left.read items) (honest : AnsweredNames disk name was now) where
  makes_so : MakesAt (machine_of s m feed y r) (record { word = w; greatest = g; options = o; base = file; inputs = items }) (record { word = w; greatest = g; options = o; name = name; base = base; inputs = inputs; temporary = temporary }) (state_of mid was start told) (state_of new now end said) left result
      → CreateSo m disk name temporary o (create_of w g disk input name base inputs temporary o.make) new was now left.made start end told said result
  makes_so (inl (at_output, same, calls, handed, makes)) =
      let c = create_of w g disk input name base inputs temporary o.make in
      with_none m disk name temporary o c new was now left.read left start end told said result handed
      (output_so s m w g disk input name base inputs temporary o file left.read items was now start end told said result (standard_is name at_output) knows honest calls makes)
  makes_so (inr (other, kept, inl (here, inl (finds, same, handed, is, silent)))) =
      let c = create_of w g disk input name base inputs temporary o.make in
      let f = read_looked name base inputs true was now finds honest.alone in
      with_none m disk name temporary o c new was now file left start end told said result handed
      (subst (CreateSo m disk name temporary o c [] was now None start end told said) (sym is)
      (ends_early m o c disk name temporary was now start end told said Open honest.first (read_asking name base inputs true was now finds)
      (open_so o c disk start end told said (in_place_unopened s w g disk input name base inputs temporary o left.read items (knows (hands_unread s file left.read handed.read)) (standard_not name other) (in_place_now name temporary here) f.is) (kept, silent))))
  makes_so (inr (other, kept, inl (here, inr (asks, inl (fault, misses, handed, is, silent))))) =
      let c = create_of w g disk input name base inputs temporary o.make in
      with_none m disk name temporary o c new was now file left start end told said result handed
      (subst (CreateSo m disk name temporary o c [] was now None start end told said) (sym is)
      (ends_early m o c disk name temporary was now start end told said fault honest.first (read_asking name base inputs false was now asks)
      (refused_early o c disk start end told said fault (emptying_refused name mid new fault misses) (kept, silent))))
  makes_so (inr (other, kept, inl (here, inr (asks, inr (emptied, empties, makes))))) =
      emptied_so s m feed y w g disk input name base inputs temporary o mid emptied new file items left was now start end told said result (standard_not name other) (in_place_now name temporary here) knows honest kept asks empties makes
  makes_so (inr (other, kept, inr (apart, same, handed, inl (no_calls, back, is, silent)))) =
      let c = create_of w g disk input name base inputs temporary o.make in
      with_none m disk name temporary o c new was now left.read left start end told said result handed
      (subst (CreateSo m disk name temporary o c [] was now None start end told said) (sym is)
      (ends_early m o c disk name temporary was now start end told said NoMemory honest.first (asking_none was now no_calls) (memory_so o c disk start end told said NoMemory refl (kept, silent))))
  makes_so (inr (other, kept, inr (apart, same, handed, inr (inl (finds, back, is, silent))))) =
      let c = create_of w g disk input name base inputs temporary o.make in
      let f = read_looked (temporary_of name temporary) base inputs true was now finds honest.alone in
      with_none m disk name temporary o c new was now left.read left start end told said result handed
      (subst (CreateSo m disk name temporary o c [] was now None start end told said) (sym is)
      (ends_early m o c disk name temporary was now start end told said Open honest.first (read_asking (temporary_of name temporary) base inputs true was now finds)
      (open_so o c disk start end told said (read_unopened s w g disk input name base inputs temporary o left.read items (knows (hands_unread s file left.read back)) (standard_not name other) (in_place_not name temporary apart) f.is) (kept, silent))))
  makes_so (inr (other, kept, inr (apart, same, handed, inr (inr (asked, asks, replaces))))) =
      let c = create_of w g disk input name base inputs temporary o.make in
      let mk : Making _ _ _ = record { word = w; greatest = g; options = o; base = file; inputs = items } in
      let hands = back_hands s r mk (temporary_of name temporary) name (state_of mid asked start told) (state_of new now end said) left.read result replaces in
      with_none m disk name temporary o c new was now left.read left start end told said result handed
      (replacing_so s m r w g disk input name base inputs temporary o mid new file left.read items was asked now start end told said result (standard_not name other) (in_place_not name temporary apart) hands knows honest kept asks replaces)

pub creates_so : {F I J M N R Y : Type 0} (s : Ghosts F) (m : Ghosts M) (r : Raw R) (feed : I → Feed) (y : Systems Y F I M J N R) (w g : ℕ) (disk : Disk) (input name : List ℕ) (base : Option (List ℕ)) (inputs : List (List ℕ)) (temporary : Option (List ℕ)) (o : RunOptions) (standard : Standard J) (old new : OpenCalls) (left : Left F M I J) (was now : NameCalls) (start end told said : Option (List ℕ)) (result : Result Unit Fault)
    → HonestCreate (files_of s m feed y) disk input name standard (state_of old was start told) (state_of new now end said) left → Creates (machine_of s m feed y r) (record { word = w; greatest = g; options = o; name = name; base = base; inputs = inputs; temporary = temporary }) standard (state_of old was start told) (state_of new now end said) left result
    → CreateSo m disk name temporary o (create_of w g disk input name base inputs temporary o.make) new was now left.made start end told said result
creates_so s m r feed y w g disk input name base inputs temporary o standard old new left was now start end told said result honest (inl (fault, is, not_opened, same, handed, kept, silent)) =
    let c = create_of w g disk input name base inputs temporary o.make in
    with_none m disk name temporary o c new was now left.read left start end told said result (record { read = refl; other = ap (λ (l : Left _ _ _ _). l.other) handed; made = ap (λ (l : Left _ _ _ _). l.made) handed })
    (subst (CreateSo m disk name temporary o c [] was now None start end told said) (sym is)
    (ends_early m o c disk name temporary was now start end told said fault honest.first (asking_none was now same)
    (not_opened_so s m feed y w g disk input name base inputs temporary o old new honest.calls left.read start end told said fault honest.are (subst (λ (l : Left _ _ _ _). AreAnswered s disk honest.calls (stores_in l)) handed honest.answered) (kept, silent) not_opened)))
creates_so s m r feed y w g disk input name base inputs temporary o standard old new left was now start end told said result honest (inr (file, before, mid, opens, all)) =
    let items = inputs_taken feed standard.feed before all.handed in
    let names : AnsweredNames disk name was now = record { first = honest.first; alone = honest.alone; held = honest.held; has = honest.has } in
    let alone = alone_so s m r feed y w g name base inputs temporary o mid new left was now start end told said result file items all.does in
    makes_so s m r feed y w g disk input name base inputs temporary o mid new left was now start end told said result file items
    (all_found s m feed y disk input name base inputs standard old mid new left was now start end told said file before all.handed w honest opens all.shared all.hands all.opens alone) names all.does
