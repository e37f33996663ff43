-- What a create returns, and that it opened no more files to be read.
use Rattle.cdb.proofs.Words.{Answer, AreInPlace, Err, Fault, HandsBase, HandsInputs, Inputs, Left, List, None, Ok, OpensNoMore, Option, Result, SeesName, Sources, [], all_passed, ap, append_assoc, inl, inr, refl, sym, ℕ, ◌++◌, ◌∙◌, ◌∷◌, ◌≡◌}
use Rattle.cdb_names.specs.declared.answer.Answer.TheVariants.{Yes}
use Rattle.cdb_names.specs.declared.answer.Lock.TheVariants.{Held}
use Rattle.cdb_system.specs.Opening.{AsksToEmpty, Empties, MissesEmptying, OpenCalls}
use Rattle.cdb_system.specs.declared.open_trace.OpenCall.TheVariants.{Emptied, Locked, Own, ToEmpty, Unopened}
use Rattle.cdb_system.proofs.InputsKnown.{all_join}
use Rattle.cdb.specs.Contents.{sources_left}

-- ---- what is handed back

module _ {F J I M : Type 0} (sources : Sources F J I) (left : Left F M J I) where
  pub hands_left : (made : Option M) (inputs : Inputs J I) → left ≡ sources_left sources made → AreInPlace inputs.readers.items sources.inputs.readers.items → HandsInputs inputs sources.inputs left
  hands_left made inputs e placed = record { readers = ap (λ (l : Left F M J I). l.inputs) e; shared = ap (λ (l : Left F M J I). l.input) e; stream = ap (λ (l : Left F M J I). l.stream) e; placed = placed }

  pub hands_base : left ≡ sources_left sources None → HandsBase sources.base left
  hands_base e = record { read = ap (λ (l : Left F M J I). l.read) e; other = ap (λ (l : Left F M J I). l.other) e; made = ap (λ (l : Left F M J I). l.made) e }

  -- as it was opened
  pub hands_same : (made : Option M) → left ≡ sources_left sources made → HandsInputs sources.inputs sources.inputs left
  hands_same made e = hands_left made sources.inputs e (all_passed sources.inputs.readers.items sources.inputs.readers.items refl)

-- ---- the calls on files

pub opens_nothing : (old new : OpenCalls) → new ≡ old → OpensNoMore old new
opens_nothing old new e = record { since = []; are = e; each = tt }

opens_then : (old mid new : OpenCalls) → OpensNoMore old mid → OpensNoMore mid new → OpensNoMore old new
opens_then old mid new a b = record {
  since = b.since ++ a.since;
  are = b.are ∙ ap (λ c. b.since ++ c) a.are ∙ sym (append_assoc b.since a.since old);
  each = all_join _ b.since a.since b.each a.each;
}

asking_opens : {name : List ℕ} (old new : OpenCalls) (answer : Answer) → AsksToEmpty name old new answer → OpensNoMore old new
asking_opens {name = name} old new answer h = record { since = (Own answer, name) ∷ (Locked h.lock, name) ∷ (ToEmpty, name) ∷ []; are = h.calls; each = (tt, (tt, (tt, tt))) }

emptying_opens : (name : List ℕ) (old new : OpenCalls) → Empties name old new → OpensNoMore old new
emptying_opens name old new h = opens_then old h.locked new (asking_opens old h.locked Yes h.takes) (record { since = (Emptied, name) ∷ []; are = h.calls; each = (tt, tt) })

pub missing_opens : (name : List ℕ) (old new : OpenCalls) (fault : Fault) → MissesEmptying name old new fault → OpensNoMore old new
missing_opens name old new fault (inl misses) = record { since = (Unopened misses.why misses.found, name) ∷ []; are = misses.calls; each = (tt, tt) }
missing_opens name old new fault (inr (inl held)) = record { since = (Locked Held, name) ∷ (ToEmpty, name) ∷ []; are = held.1; each = (tt, (tt, tt)) }
missing_opens name old new fault (inr (inr (inl (answer, asks, is)))) = asking_opens old new answer asks
missing_opens name old new fault (inr (inr (inr (locked, takes, misses)))) =
    opens_then old locked new (asking_opens old locked Yes takes) (record { since = (Unopened misses.why misses.found, name) ∷ []; are = misses.calls; each = (tt, tt) })

seeing_opens : (name : List ℕ) (old new : OpenCalls) (synced result : Result Unit Fault) → SeesName name old new synced result → OpensNoMore old new
seeing_opens name old new (Ok done) result (answer, calls, is) = record { since = (Own answer, name) ∷ []; are = calls; each = (tt, tt) }
seeing_opens name old new (Err fault) result (same, is) = opens_nothing old new same

pub making_opens : (name : List ℕ) (old emptied new : OpenCalls) (synced result : Result Unit Fault) → Empties name old emptied → SeesName name emptied new synced result → OpensNoMore old new
making_opens name old emptied new synced result empties sees = opens_then old emptied new (emptying_opens name old emptied empties) (seeing_opens name emptied new synced result sees)
