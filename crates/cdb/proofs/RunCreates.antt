-- A run whose words request a create comes to what the oracle says.
use Rattle.cdb.proofs.Words.{Appends, Appends-kept, Asked, Bool, Command, Created, Creates, Err, Fault, Feed, Ghosts, HasHandedOn, IsTaken, Keeps, Keeps-refl, Keeps-trans, Left, List, NameCalls, Ok, OnErr, OnOk, OpenCalls, Option, OutputFailed, OutputSays, Refused, Result, RunOptions, SaysLine, Standard, [], ap, append-nil, arith, asked_in, create_of, failed_of, false, fault_line, given_of, has_wide_words, held_by, inl, inr, not_there, option_map, output_bytes, plain_status, prefix_kept, refl, refused_lines, state_of, string_bytes, subst, sym, true, usage_line, usage_of, usage_status, writer_bytes, ℕ, ◌++◌, ◌∙◌, ◌≡◌, ◌⊎◌}
use Rattle.cdb.proofs.CreateTaken.{MayGiveUpCreate, taken_create}
use Rattle.cdb_form.proofs.Bytes.WritingLemmas.{appends_then}
use Rattle.cdb_command.specs.Asked as asked
use Rattle.cdb_command.specs.declared.command.Command.TheVariants as command
use Rattle.cdb_command.specs.declared.options.MakeOptions.{MakeOptions}
use Rattle.cdb_store.specs.declared.raw.RawFile.{Ghosts as Raw}
use Rattle.cdb_show.specs.declared.fault.Fault.TheVariants.{Missing, NoMemory}
use Rattle.cdb.specs.ForetoldCreate.{CreateHolds, HonestCreate, IsCreateForetold, IsCreated, IsGivenUp, expected_of, passing}
use Rattle.cdb_system.specs.Oracle.{Disk, ended, greatest_size, word_size}
use Rattle.cdb.specs.Performs.{IsShown, PerformsIn, Runs, status_of}
use Rattle.cdb_system.specs.Causes.{called_of}
use Rattle.cdb_system.specs.declared.system.System.{Ghosts as Systems}
use Rattle.cdb_show.specs.declared.output.Output.{Output as Writer}
use Rattle.cdb.proofs.Replaced.{IsPlain, said_nothing}
use Rattle.cdb_system.proofs.Explained.{SaysOnly, says_only}
use Rattle.cdb.proofs.CreateEnds.{Came, keeps_first}
use Rattle.cdb.proofs.Asks.{asking_none}
use Rattle.cdb.proofs.CreateReads.{moments_first}
use Rattle.cdb.proofs.Creates.{creates_so}
use Rattle.cdb.proofs.Oracles.{all_taken, handed_all}
use Rattle.cdb_system.specs.State.{Files, files_of}
use Rattle.cdb.specs.Handing.{machine_of}

-- ---- the end

abbrev plain : Result Unit Fault → ℕ
plain (Ok done) = 0
plain (Err fault) = plain_status fault

status_plain : (output : List ℕ) (result : Result Unit Fault) → (ended plain_status output result).status ≡ plain result
status_plain output (Ok done) = refl
status_plain output (Err fault) = refl

output_plain : (output : List ℕ) (result : Result Unit Fault) → (ended plain_status output result).output ≡ output
output_plain output (Ok done) = refl
output_plain output (Err fault) = refl

abbrev line_of : Result Unit Fault → List ℕ
line_of (Ok done) = []
line_of (Err fault) = fault_line fault

line_plain : (output : List ℕ) (result : Result Unit Fault) → (ended plain_status output result).lines ≡ line_of result
line_plain output (Ok done) = refl
line_plain output (Err fault) = refl

-- the status of a create
status_create : (command : Command) (name : List ℕ) (base : Option (List ℕ)) (inputs : List (List ℕ)) (temporary : Option (List ℕ)) (o : MakeOptions) (wide : Bool) (result : Result Unit Fault) → asked_in command ≡ asked.Create name base inputs temporary o wide → status_of command result ≡ plain result
status_create c name base inputs temporary o wide (Ok done) e = refl
status_create (command.Create n b i t p w) name base inputs temporary o wide (Err fault) e = refl
status_create (command.Query n k m l w) name base inputs temporary o wide (Err fault) e = refl
status_create (command.Dump n s w) name base inputs temporary o wide (Err fault) e = refl
status_create (command.List n s w) name base inputs temporary o wide (Err fault) e = refl
status_create (command.Stats n w) name base inputs temporary o wide (Err fault) e = refl
status_create (command.Difference a b w) name base inputs temporary o wide (Err fault) e = refl
status_create command.Help name base inputs temporary o wide (Err fault) e = refl
status_create command.Version name base inputs temporary o wide (Err fault) e = refl
status_create (command.Lookups n i k s w) name base inputs temporary o wide (Err fault) e = refl
status_create (command.Check n w) name base inputs temporary o wide (Err fault) e = absurd (let no : asked.Check (option_map string_bytes n) w ≡ asked.Create name base inputs temporary o wide = e in cc)

said_all : (line : List ℕ) (told said : Option (List ℕ)) (unsaid : Type 0) → (unsaid → ⊥) → SaysLine line told said unsaid → Appends told said line
said_all line told said unsaid speaks (inl h) = h
said_all line told said unsaid speaks (inr h) = absurd (speaks h.1)

said_end : (result : Result Unit Fault) (told before said : Option (List ℕ)) (unsaid : Type 0) (lines : List ℕ) → (unsaid → ⊥) → Appends told before lines → SaysOnly result before said unsaid → Appends told said (lines ++ line_of result)
said_end (Ok done) told before said unsaid lines speaks h k = subst (Appends told said) (sym (append-nil lines)) (Appends-kept told before said lines h k)
said_end (Err fault) told before said unsaid lines speaks h k = appends_then told before said lines (fault_line fault) h (said_all (fault_line fault) before said unsaid speaks k)

refused_plain : (fault : Fault) → MayGiveUpCreate fault → plain_status fault ≡ 111
refused_plain Missing h = absurd h
refused_plain fault h = refl

not_nothing : (fault : Fault) → plain_status fault ≡ 0 → ⊥
not_nothing Missing e = omega (arith, e)
not_nothing fault e = omega (arith, e)

if_done : (P : Type 0) (answer : Result Unit Fault) → OnOk answer P → plain answer ≡ 0 → P
if_done P (Ok done) h e = h
if_done P (Err fault) h e = absurd (not_nothing fault e)

-- ---- the command

-- the names of the inputs, with which duplicates are explained, are beside the options
shown_make : (explained : Bool) (inputs : List (List ℕ)) (o : MakeOptions) (shown : RunOptions) → IsShown explained inputs o shown → shown.make ≡ o
shown_make false inputs o shown h = ap (λ (q : RunOptions). q.make) h
shown_make true inputs o shown h = h.0

shown_plain : (explained : Bool) (inputs : List (List ℕ)) (o : MakeOptions) (shown : RunOptions) → IsShown explained inputs o shown → explained ≡ false → IsPlain shown
shown_plain false inputs o shown h e = ap (λ (q : RunOptions). q.names) h
shown_plain true inputs o shown h e = absurd (let no : true ≡ false = e in cc)

same_asked : (a b : Asked) → ◌≡◌ {A = Result Asked Refused} (Ok a) (Ok b) → a ≡ b
same_asked a b e = cc

creates_in : {F I J M N R Y : Type 0} (s : Ghosts F) (m : Ghosts M) (r : Raw R) (feed : I → Feed) (y : Systems Y F I M J N R) (name : List ℕ) (base : Option (List ℕ)) (inputs : List (List ℕ)) (temporary : Option (List ℕ)) (o : MakeOptions) (wide explained : Bool) (given : Standard J) (old new : Y) (was now : NameCalls) (left : Left F M I J) (start end told said : Option (List ℕ)) (result : Result Unit Fault)
    → PerformsIn wide (machine_of s m feed y r) (given_of (asked.Create name base inputs temporary o wide) explained given) (state_of old was start told) (state_of new now end said) left result
    → (shown : RunOptions) × IsShown explained inputs o shown × Creates (machine_of s m feed y r) (record { word = word_size wide; greatest = greatest_size wide; options = shown; name = name; base = base; inputs = inputs; temporary = temporary }) given (state_of (y.calls old) was start told) (state_of (y.calls new) now end said) left result
creates_in s m r feed y name base inputs temporary o true explained given old new was now left start end told said result h = h
creates_in s m r feed y name base inputs temporary o false explained given old new was now left start end told said result h = h

if_not_done : (P : Type 0) (answer : Result Unit Fault) → OnErr answer P → (plain answer ≡ 0 → ⊥) → P
if_not_done P (Ok done) h some = absurd (some refl)
if_not_done P (Err fault) h some = h

comes_so : {M : Type 0} {old new : OpenCalls} {was : NameCalls} (m : Ghosts M) (disk : Disk) (shown : RunOptions) (c : Created) (explained : Bool) (now : NameCalls) (made : Option M) (command : Command) (name : List ℕ) (base : Option (List ℕ)) (inputs : List (List ℕ)) (temporary : Option (List ℕ)) (o : MakeOptions) (wide : Bool) (start end final told before said : Option (List ℕ)) (unwritten unsaid : Type 0) (answer result : Result Unit Fault) (status : ℕ) → asked_in command ≡ asked.Create name base inputs temporary o wide → Keeps end final → result ≡ answer → (unwritten → ⊥) → OutputSays (unwritten ⊎ unsaid) result → (unsaid → ⊥)
    → (explained ≡ false → SaysOnly result before said unsaid) → status ≡ status_of command result → (explained ≡ false → IsPlain shown) → Came m disk name shown c new now made start end told before answer → IsCreated m (expected_of disk name temporary c) explained made (state_of old was start told) (state_of new now final said) status ⊎ IsGivenUp c explained (state_of old was start told) (state_of new now final said) status
comes_so m disk shown c explained now made command name base inputs temporary o wide start end final told before said unwritten unsaid answer result status a kept same writes tells speaks says is unnamed (inl h) =
    let whole : result ≡ c.result = same ∙ h.0.is in
    inl (record {
      is_status = is ∙ status_create command name base inputs temporary o wide result a ∙ ap plain whole ∙ sym (status_plain c.output c.result);
      output = subst (Appends start final) (sym (output_plain c.output c.result)) (Appends-kept start end final c.output h.0.output kept);
      lines = λ unexplained. subst (λ l. Appends told said (c.lines ++ l)) (ap line_of whole ∙ sym (line_plain c.output c.result)) (said_end result told before said unsaid c.lines speaks (h.0.lines (unnamed unexplained)) (says unexplained));
      disk_is = h.1;
    })
comes_so m disk shown c explained now made command name base inputs temporary o wide start end final told before said unwritten unsaid answer result status a kept same writes tells speaks says is unnamed (inr h) =
    let whole : result ≡ Err h.fault = same ∙ h.is in
    inr (record {
      fault = h.fault;
      refusal = taken_create h.fault result (λ failed. elim failed [ inl output ↦ writes output | inr errors ↦ speaks errors ]) tells whole h.refusal;
      is_status = is ∙ status_create command name base inputs temporary o wide result a ∙ ap plain whole ∙ refused_plain h.fault h.refusal;
      output = prefix_kept start end final c.output h.output kept;
      lines = λ unexplained. (let part = h.lines (unnamed unexplained) in (part.front, part.more, part.split, subst (λ l. Appends told said (part.front ++ l)) (ap line_of whole) (said_end result told before said unsaid part.front speaks part.appended (says unexplained))));
    })

-- whether the calls were answered as the disk is says nothing of what was written
honest_so : {F I J M N R Y : Type 0} {files : Files F I J M N R Y} {disk : Disk} {input name : List ℕ} {standard : Standard J} {old new : OpenCalls} {was now : NameCalls} {start end told said : Option (List ℕ)} {left : Left F M I J} (final before : Option (List ℕ))
    → HonestCreate files disk input name standard (state_of old was start told) (state_of new now end said) left → HonestCreate files disk input name standard (state_of old was start told) (state_of new now final before) left
honest_so final before h = record { calls = h.calls; are = h.are; answered = h.answered; in_turn = h.in_turn; unread = h.unread; agrees = h.agrees; bytes = h.bytes; first = h.first; alone = h.alone; held = h.held; has = h.has }

run_holds : {F I J M N R Y : Type 0} (s : Ghosts F) (m : Ghosts M) (r : Raw R) (feed : I → Feed) (y : Systems Y F I M J N R) (planned : Result Asked Refused) (explained : Bool) (given : Standard J) (old new : Y) (was now : NameCalls) (left : Left F M I J) (start end final told said : Option (List ℕ)) (unwritten unsaid copy : Type 0) (status : ℕ) (disk : Disk) (input name : List ℕ) (base : Option (List ℕ)) (inputs : List (List ℕ)) (temporary : Option (List ℕ)) (o : MakeOptions) (wide : Bool)
    → planned ≡ Ok (asked.Create name base inputs temporary o wide) → (unwritten → ⊥) → (unsaid → ⊥) → Keeps end final → HonestCreate (files_of s m feed y) disk input name given (state_of (y.calls old) was start told) (state_of (y.calls new) now final said) left → Runs (machine_of s m feed y r) (given_of planned explained given) (state_of old was start told) (state_of new now end said) final left (failed_of unwritten unsaid copy) status
    → CreateHolds m (expected_of disk name temporary (create_of (word_size wide) (greatest_size wide) disk input name base inputs temporary o)) explained left.made (state_of (y.calls old) was start told) (state_of (y.calls new) now final said) status
run_holds s m r feed y planned explained given old new was now left start end final told said unwritten unsaid copy status disk input name base inputs temporary o wide plan writes speaks kept honest (inl none) = elim none.why [
  | inl lacks ↦ (let c = create_of (word_size wide) (greatest_size wide) disk input name base inputs temporary o in
      let is : status ≡ 111 = none.is_status ∙ ap (λ x. usage_status (usage_of x)) lacks in
      record {
        comes = λ had has. inr (record {
          fault = NoMemory;
          refusal = tt;
          is_status = is;
          output = said_nothing start final c.output (Keeps-trans start end final none.kept kept);
          lines = λ unexplained. ([], c.lines, refl, subst (Appends told said) (ap (λ x. usage_line (usage_of x)) lacks) (said_all (usage_line (usage_of none.refused)) told said unsaid speaks (subst (λ b. SaysLine (refused_lines b none.refused) told said unsaid) unexplained none.line)));
        });
        done = λ zero. absurd (omega (arith, zero, is));
        failed = λ some tried. keeps_first disk (passing name temporary) was now honest.first (asking_none was now none.same);
        moments = moments_first disk c.disk (passing name temporary) was now honest.first (asking_none was now none.same);
      })
  | inr refused ↦ absurd (let no : ◌≡◌ {A = Result Asked Refused} (Ok (asked.Create name base inputs temporary o wide)) (Err none.refused) = sym plan ∙ refused in cc)
]
run_holds s m r feed y planned explained given old new was now left start end final told said unwritten unsaid copy status disk input name base inputs temporary o wide plan writes speaks kept honest (inr some) =
    let command = some.command in
    let does = some.does in
    let a : asked_in command ≡ asked.Create name base inputs temporary o wide = same_asked (asked_in command) (asked.Create name base inputs temporary o wide) (sym some.asks ∙ plan) in
    let performs = subst (λ q. PerformsIn (has_wide_words q) (machine_of s m feed y r) (given_of q explained given) (state_of old was start told) (state_of new now does.end some.before) left does.answer) a does.performs in
    let shows = creates_in s m r feed y name base inputs temporary o wide explained given old new was now left start does.end told some.before does.answer performs in
    let shown = shows.0 in
    let creates = shows.2 in
    let so = creates_so s m r feed y (word_size wide) (greatest_size wide) disk input name base inputs temporary shown given (y.calls old) (y.calls new) left was now start does.end told some.before does.answer (honest_so does.end some.before honest) creates in
    let handed = handed_all does.end final unwritten does.answer some.result writes does.hands in
    let c = create_of (word_size wide) (greatest_size wide) disk input name base inputs temporary shown.make in
    let some_is : status ≡ plain does.answer = some.is_status ∙ status_create command name base inputs temporary o wide some.result a ∙ ap plain handed.1 in
    subst (λ p. CreateHolds m (expected_of disk name temporary (create_of (word_size wide) (greatest_size wide) disk input name base inputs temporary p)) explained left.made (state_of (y.calls old) was start told) (state_of (y.calls new) now final said) status) (shown_make explained inputs o shown shows.1)
    (record {
      comes = λ had has. comes_so m disk shown c explained now left.made command name base inputs temporary o wide start does.end final told some.before said unwritten unsaid does.answer some.result status a handed.0 handed.1 writes some.output speaks (λ unexplained. says_only explained (asked_in command) some.result unwritten (called_of (y.calls new) (y.lacks new) now copy) some.more some.before said unsaid unexplained some.explains some.says) some.is_status (λ unexplained. shown_plain explained inputs o shown shows.1 unexplained) (so.answer had has);
      done = λ zero. if_done _ does.answer so.done (sym some_is ∙ zero);
      failed = λ other. if_not_done _ does.answer so.failed (λ zero. other (some_is ∙ zero));
      moments = so.moments;
    })

pub run_is_created : {F I J M N R Y W V : Type 0} (s : Ghosts F) (m : Ghosts M) (r : Raw R) (feed : I → Feed) (y : Systems Y F I M J N R) (planned : Result Asked Refused) (explained : Bool) (given : Standard J) (old new : Y) (was now : NameCalls) (left : Left F M I J) (output_old output_new : Writer W) (errors_old errors_new : Writer V) (copy : Type 0) (status : ℕ)
    → (held_by output_old ≡ [] → HasHandedOn output_new) → HasHandedOn errors_new
    → Runs (machine_of s m feed y r) (given_of planned explained given) (state_of old was (output_bytes output_old) (output_bytes errors_old)) (state_of new now (output_bytes output_new) (output_bytes errors_new)) (writer_bytes output_new) left (failed_of (OutputFailed output_new) (OutputFailed errors_new) copy) status
    → IsCreateForetold (files_of s m feed y) (given_of planned explained given) (state_of old was (output_bytes output_old) (output_bytes errors_old)) (state_of new now (writer_bytes output_new) (writer_bytes errors_new)) left (IsTaken output_old output_new errors_new) status
run_is_created s m r feed y planned explained given old new was now left output_old output_new errors_old errors_new copy status handed said runs = λ disk input name base inputs temporary o wide plan taken honest.
    (let writes : OutputFailed output_new → ⊥ = λ failed. not_there (output_new.marked failed) taken.1 in
    let speaks : OutputFailed errors_new → ⊥ = λ failed. not_there (errors_new.marked failed) taken.2 in
    let end = output_bytes output_new in
    let kept = subst (Keeps end) (all_taken output_new (handed taken.0) writes) (Keeps-refl end) in
    subst (λ t. CreateHolds m (expected_of disk name temporary (create_of (word_size wide) (greatest_size wide) disk input name base inputs temporary o)) explained left.made (state_of (y.calls old) was (output_bytes output_old) (output_bytes errors_old)) (state_of (y.calls new) now (writer_bytes output_new) t) status) (all_taken errors_new said speaks)
    (run_holds s m r feed y planned explained given old new was now left (output_bytes output_old) end (writer_bytes output_new) (output_bytes errors_old) (output_bytes errors_new) (OutputFailed output_new) (OutputFailed errors_new) copy status disk input name base inputs temporary o wide plan writes speaks kept (honest_so (writer_bytes output_new) (output_bytes errors_new) honest) runs))
