-- Steps of a run, one after another.
use Rattle.cdb_tool.proofs.Words.{Err, Fault, Follows, Ghosts, Maker, Ok, OutputSays, Result, TextFault, follows_then, subst, ℕ, ◌<◌, ◌∙◌, ◌≡◌}
use Rattle.cdb_form.specs.declared.text.fault.TextFault.TheVariants as text
use Rattle.cdb_form.specs.declared.width.Width.{Ghosts as Widths}
use Rattle.cdb_show.specs.Views.Fault.{text_fault}
use Rattle.cdb_tool.specs.Runs.Make.{StepsOn}
use Rattle.cdb_show.specs.declared.fault.Fault.TheVariants.{Output}

output_err : (A B : Type 0) (unsaid said : Type 0) (f : Fault) → (unsaid → said) → OutputSays {A = A} unsaid (Err f) → OutputSays {A = B} said (Err f)
output_err A B unsaid said Output more says = more says
output_err A B unsaid said fault more says = tt

-- after steps that were done, one stopped
pub step_failed : {S L A B : Type 0} {s : Ghosts S} {l : Widths L} {a b c : Maker S L s l} {unread still unsaid said : Type 0} (f : Fault) → Follows a b → s.failures b.store ≡ s.failures a.store → (unread → still) → (unsaid → said) → StepsOn {A = A} b c unread unsaid (Err f) → StepsOn {A = B} a c still said (Err f)
step_failed {A = A} {B = B} {s = s} {c = c} {unsaid = unsaid} {said = said} f before fine more says h = record {
  follows = follows_then _ _ _ before h.follows;
  failed = λ is. subst (λ (n : ℕ). n < s.failures c.store) fine (h.failed is);
  memory = λ is. h.memory is ∙ fine;
  fine = tt;
  base = λ is. more (h.base is);
  output = output_err A B unsaid said f says h.output;
}

-- it met a fault of a text
pub step_text : {S L : Type 0} {s : Ghosts S} {l : Widths L} {a b : Maker S L s l} {unsaid : Type 0} (n : ℕ) (f : TextFault) → Follows a b → s.failures b.store ≡ s.failures a.store → StepsOn {A = Unit} a b ⊥ unsaid (Err (text_fault n f))
step_text n text.NoMemory follows fine = record { follows = follows; failed = λ is. absurd is; memory = λ is. fine; fine = tt; base = λ is. absurd is; output = tt }
step_text n f follows fine = record { follows = follows; failed = λ is. absurd is; memory = λ is. fine; fine = tt; base = λ is. absurd is; output = tt }

-- or one more was done, or stopped
pub step_on : {S L A : Type 0} {s : Ghosts S} {l : Widths L} {a b c : Maker S L s l} {unread still unsaid said : Type 0} (result : Result A Fault) → Follows a b → s.failures b.store ≡ s.failures a.store → (unread → still) → (unsaid → said) → StepsOn b c unread unsaid result → StepsOn a c still said result
step_on (Ok u) before fine more says h = record { follows = follows_then _ _ _ before h.follows; failed = tt; memory = tt; fine = h.fine ∙ fine; base = tt; output = tt }
step_on (Err f) before fine more says h = step_failed f before fine more says h
