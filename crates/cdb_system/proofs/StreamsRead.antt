-- That a command which reads a stream performs what it promises, from the steps that it takes.
use Rattle.cdb_system.proofs.Words.{AreUnread, Fault, Form, IsUnread, Left, List, MemStore, None, OpensInputs, Option, Result, Some, ap, inl, inr, subst, sym, ℕ, ◌∙◌, ◌∷◌, ◌≡◌}
use Rattle.cdb_names.specs.declared.answer.Answer.TheVariants.{Yes}
use Rattle.cdb_show.specs.Runs.Lookups.{LooksUp, lookup_state, lookup_task}
use Rattle.cdb_show.specs.declared.inputs.Inputs.{Inputs}
use Rattle.cdb_system.specs.State.{Files, Standard, State, calls_in, WantedLookups}
use Rattle.cdb_system.specs.Opening.{OpenCalls, input_left, looked_left, stream_left}
use Rattle.cdb_system.specs.Reading.{PerformsLookups, PerformsOn, PerformsText, ReadsText, Takes}
use Rattle.cdb_system.specs.declared.open_trace.OpenCall.TheVariants.{AtPlaces, InTurn, Stream}

module _ {F I J M N R Y : Type 0} (files : Files F I J M N R Y) (old new : State Y) (left : Left F M I J) (result : Result Unit Fault) (name : Option (List ℕ)) (input : Standard J) where
  -- standard input was read
  pub text_of_input : (w : ℕ) (form : Form) (last : J) → name ≡ None → new.opened ≡ old.opened → left ≡ input_left last → ReadsText w form (input.feed input.reader) (input.feed last) old.output new.output result → PerformsText files (record { word = w; name = name; form = form }) input old new left result
  text_of_input w form last is same back reads = subst (λ n. PerformsText files (record { word = w; name = n; form = form }) input old new left result) (sym is) (same, record { last = last; is_last = back; reads = reads })

  pub on_input_read : (most : ℕ) (last : J) (file : F → F → Type 0) (taken : MemStore → MemStore → Type 0) → name ≡ None → new.opened ≡ old.opened → left ≡ input_left last → Takes most (input.feed input.reader) (input.feed last) old.output new.output result taken → PerformsOn files (record { most = most; name = name; file = file; taken = taken }) input old new left result
  on_input_read most last file taken is same back takes = subst (λ n. PerformsOn files (record { most = most; name = n; file = file; taken = taken }) input old new left result) (sym is) (same, record { last = last; is_last = back; takes = takes })

  -- a file was, which was opened by this name
  pub text_of_file : (w : ℕ) (form : Form) (opened of : List ℕ) (file : I) (last : I) → name ≡ Some of → opened ≡ of → calls_in files new ≡ (InTurn, opened) ∷ calls_in files old → files.system.reads opened file → IsUnread (files.feed file) → left ≡ stream_left last → ReadsText w form (files.feed file) (files.feed last) old.output new.output result → PerformsText files (record { word = w; name = name; form = form }) input old new left result
  text_of_file w form opened of file last is same calls came unread back reads =
      subst (λ n. PerformsText files (record { word = w; name = n; form = form }) input old new left result) (sym (is ∙ ap (λ (n : List ℕ). Some n) (sym same)))
      (inr (calls, record { file = file; came = came; unread = unread; last = last; is_last = back; reads = reads }))

  pub on_stream_read : (most : ℕ) (seen opened of : List ℕ) (mid : OpenCalls) (read : I) (last : I) (file : F → F → Type 0) (taken : MemStore → MemStore → Type 0) → name ≡ Some of → seen ≡ of → opened ≡ of → mid ≡ (Stream Yes, seen) ∷ calls_in files old → calls_in files new ≡ (InTurn, opened) ∷ mid → files.system.reads opened read → IsUnread (files.feed read) → left ≡ stream_left last
      → Takes most (files.feed read) (files.feed last) old.output new.output result taken → PerformsOn files (record { most = most; name = name; file = file; taken = taken }) input old new left result
  on_stream_read most seen opened of mid read last file taken is same again looked calls came unread back takes =
      subst (λ n. PerformsOn files (record { most = most; name = n; file = file; taken = taken }) input old new left result) (sym (is ∙ ap (λ (n : List ℕ). Some n) (sym again)))
      (inr (inr (inr (inl (calls ∙ ap (λ c. (InTurn, opened) ∷ c) (looked ∙ ap (λ n. (Stream Yes, n) ∷ calls_in files old) (same ∙ sym again)), record { file = read; came = came; unread = unread; last = last; is_last = back; takes = takes })))))

module _ {F I J M N R Y : Type 0} (files : Files F I J M N R Y) (input : Standard J) (old new : State Y) (left : Left F M I J) (result : Result Unit Fault) where
  -- the keys of inputs were looked up, which were opened after the file
  pub keys_looked_up : (l : WantedLookups) (mid : OpenCalls) (file last : F) (inputs handed : Inputs I J) → mid ≡ (AtPlaces, l.name) ∷ calls_in files old → files.system.gives l.name file → OpensInputs files.system l.inputs inputs.readers.items mid (calls_in files new) → AreUnread files.feed inputs.readers.items → inputs.shared ≡ input.reader → left ≡ looked_left last handed
      → LooksUp (lookup_task l.word l.greatest files.stores l.options) files.feed input.feed (lookup_state inputs file old.output) (lookup_state handed last new.output) result → PerformsLookups files l input old new left result
  keys_looked_up l mid file last inputs handed calls came opens unread shared back looks = inr (inr (record {
    file = file;
    came = came;
    inputs = inputs;
    opens = subst (λ c. OpensInputs files.system l.inputs inputs.readers.items c (calls_in files new)) calls opens;
    unread = unread;
    shared = shared;
    last = last;
    handed = handed;
    are_last = back;
    looks = looks;
  }))
