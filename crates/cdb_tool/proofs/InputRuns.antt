-- A run over the items of an input, whatever bytes agree with it.
use Rattle.cdb_tool.proofs.Words.{Change, ComesFrom, EndsSo, Err, Fault, Feed, Ghosts, Incoming, InputForm, List, Maker, None, Option, Some, Task, TellsPart, TextFault, WhereHonest, [], ap, came, course_of, from_inputs, inl, inr, length, subst, sym, ℕ, ◌++◌, ◌+◌, ◌∙◌, ◌∷◌, ◌≡◌, ◌≢◌, ◌⊎◌}
use Rattle.cdb_store.specs.declared.make_fault.MakeFault.TheVariants as make
use Rattle.cdb_form.specs.declared.text.fault.TextFault.TheVariants as text
use Rattle.cdb_form.specs.declared.width.Width.{Ghosts as Widths}
use Rattle.cdb_show.specs.Runs.Lookups.{FaultBehind, StopsBehind}
use Rattle.cdb_show.specs.Runs.Parsing.{IsOfRun}
use Rattle.cdb_show.specs.Views.Fault.{text_fault}
use Rattle.cdb_show.specs.Views.ItemReader.{Fails, form_of, reader_of}
use Rattle.cdb_show.specs.declared.fault.Fault.TheVariants.{Text, Make, Duplicate, Output, NoMemory}
use Rattle.cdb_show.specs.declared.runs.item_reader.ItemReader.{ItemReader}
use Rattle.cdb_show.proofs.ItemInputs.{GaveItems, items_fault, items_own, items_still, items_told}
use Rattle.cdb_show.proofs.LookupRuns.{text_of_run}
use Rattle.cdb_tool.specs.Runs.Make.{InCourse, IsOfMaking, ItemDone, PutStops, StoppedAt}
use Rattle.cdb_tool.proofs.Courses.{came_more, came_none, course_stands}
use Rattle.cdb_tool.proofs.MadeOf.{course_more, told_grow}
use Rattle.cdb_tool.proofs.ToldLines.{part_more}

-- nothing was put of an input that begins
pub none_put : {S L : Type 0} {s : Ghosts S} {l : Widths L} (o : Task) (read : List (List Change)) (start now : Option (List ℕ)) (m : Maker S L s l) → InCourse o (from_inputs 1 read) start now m → InCourse o (came read []) start now m
none_put o read start now m h = subst (λ cs. InCourse o cs start now m) (sym (came_none read)) h

-- ---- the text up to a fault

record SameText (n i : ℕ) (f g : TextFault) : Type 0 where
  input : i ≡ n
  fault : g ≡ f
  other : f ≢ text.NoMemory

same_text : (n i : ℕ) (f g : TextFault) → text_fault n f ≡ Text i g → SameText n i f g
same_text n i text.NoMemory g e = absurd (let no : ⊥ = cc in no)
same_text n i f g e = record { input = cc; fault = cc; other = λ h. cc }

-- whether an item was done with which a run stopped
abbrev pub last_by : Fault → List Change → Change → List Change
last_by (Make make.Lookup) last c = last
last_by (Make make.Writing) last c = last
last_by NoMemory last c = last
last_by f last c = last ++ c ∷ []

pub in_run : (f : Fault) → IsOfMaking f → IsOfRun f
in_run (Text n f) h = tt
in_run f h = h

module _ {F L : Type 0} (g : ℕ) (feed : F → Feed) where
  pub text_stops : (n : ℕ) (start : Feed) (t u : ItemReader F L) (form : InputForm) (last : List Change) (f : TextFault) → ((it : F) (whole a b : List ℕ) → (feed it).may whole a → (feed it).may whole b → a ≡ b)
      → form_of t ≡ form → GaveItems g feed start t last → Fails g feed t u f → StopsBehind form g n last start (feed (reader_of u)) (text_fault n f)
  text_stops n start t u form last f one same gave fails = subst (λ v. StopsBehind v g n last start (feed (reader_of u)) (text_fault n f)) same (record {
    begins = items_still g feed start t u last f gave fails;
    of_text = λ i v e.
        let k = same_text n i f v e in (
          k.input,
          subst (FaultBehind (form_of t) g last start (feed (reader_of u))) (sym k.fault) (record {
            has = items_fault g feed start t u last f one gave fails k.other;
            own = items_own g feed start t u last f gave fails;
            memory = k.other;
            failed = items_told g feed start t u last f gave fails;
          }),
        );
    of_run = text_of_run n f;
  })

-- ---- the course up to a fault

pub text_stopped : {S L : Type 0} {s : Ghosts S} {l : Widths L} (t : Task) (cs : List Incoming) (start now : Option (List ℕ)) (m : Maker S L s l) (n : ℕ) (f : TextFault) → InCourse t cs start now m → StoppedAt t cs start now m (text_fault n f)
text_stopped t cs start now m n text.NoMemory h = record { stops = h.goes; stands = λ is. course_stands t cs start now m h }
text_stopped t cs start now m n f h = record { stops = h.goes; stands = λ is. absurd is }

-- a run that had not ended has not met this end
not_ended : (w : ℕ) (t : Task) (cs : List Incoming) (f : Fault) (start now : Option (List ℕ)) → (course_of w t cs).ended ≡ None → EndsSo w t cs f start now → ⊥
not_ended w t cs f start now going h =
    let k : None ≡ Some f = sym going ∙ h.ended in
    cc

-- a prefix of the lines before an item is one of those with it
part_with : (w : ℕ) (t : Task) (cs : List Incoming) (c : Incoming) (all : List Incoming) (old new : Option (List ℕ)) → all ≡ cs ++ c ∷ [] → TellsPart t.options.names (course_of w t cs).told old new → TellsPart t.options.names (course_of w t all).told old new
part_with w t cs c all old new same p =
    let grow = told_grow w t.options (course_of w t cs) (c ∷ []) in
    part_more t.options.names (course_of w t cs).told grow.0 (course_of w t all).told old new (ap (λ v. (course_of w t v).told) same ∙ ap (λ v. v.told) (course_more w t cs (c ∷ [])) ∙ grow.1) p

module _ {S L : Type 0} {s : Ghosts S} {l : Widths L} (t : Task) (read : List (List Change)) (last : List Change) (c : Incoming) (start mid now : Option (List ℕ)) (old new : Maker S L s l) (i : c.input ≡ length read + 1) (n : c.number ≡ length last + 1) (comes : ComesFrom (s.image old.store) (s.image new.store)) where
  all_came : came read (last ++ c.it ∷ []) ≡ came read last ++ c ∷ []
  all_came = came_more c.input c.number read last c.it i n

  -- it ended with the item
  ended_with : (f : Fault) → InCourse t (came read last) start mid old → WhereHonest (s.image new.store) (EndsSo l.WORD t (came read last) f start now ⊎ EndsSo l.WORD t (came read last ++ c ∷ []) f start now)
      → WhereHonest (s.image new.store) (EndsSo l.WORD t (came read (last ++ c.it ∷ [])) f start now)
  ended_with f h stops = record {
    each = λ b is.
        let a = comes.each b is in
        elim (stops.each b is) [
          | inl e ↦ absurd (not_ended l.WORD t (came read last) f start now (h.goes.each a.0 a.1).going e)
          | inr e ↦ subst (λ cs. EndsSo l.WORD t cs f start now) (sym all_came) e
        ];
  }

  part_of : WhereHonest (s.image new.store) (PutStops l.WORD t (came read last) c start now Output) → WhereHonest (s.image new.store) (TellsPart t.options.names (course_of l.WORD t (came read (last ++ c.it ∷ []))).told start now)
  part_of stops = record {
    each = λ b is. elim (stops.each b is) [
      | inl p ↦ part_with l.WORD t (came read last) c (came read (last ++ c.it ∷ [])) start now all_came p
      | inr p ↦ subst (λ cs. TellsPart t.options.names (course_of l.WORD t cs).told start now) (sym all_came) p
    ];
  }

  never : {P : Type 0} → WhereHonest (s.image new.store) (⊥ ⊎ ⊥) → WhereHonest (s.image new.store) P
  never stops = record { each = λ b is. elim (stops.each b is) [ inl x ↦ absurd x | inr x ↦ absurd x ] }

  pub item_stopped : (f : Fault) → InCourse t (came read last) start mid old → ItemDone t (came read last) c start now new (Err f) → StoppedAt t (came read (last_by f last c.it)) start now new f
  item_stopped (Make make.Lookup) h done = record { stops = (done.stands tt).goes; stands = done.stands }
  item_stopped (Make make.Writing) h done = record { stops = (done.stands tt).goes; stands = done.stands }
  item_stopped NoMemory h done = record { stops = (done.stands tt).goes; stands = done.stands }
  item_stopped (Make make.TooBig) h done = record { stops = ended_with (Make make.TooBig) h done.fails; stands = λ is. absurd is }
  item_stopped Duplicate h done = record { stops = ended_with Duplicate h done.fails; stands = λ is. absurd is }
  item_stopped Output h done = record { stops = part_of done.fails; stands = λ is. absurd is }
  item_stopped f h done = record { stops = never done.fails; stands = λ is. absurd is }
