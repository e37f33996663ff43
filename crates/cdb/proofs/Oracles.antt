-- That a run comes to what the oracle says, from what each command does.
use Rattle.cdb_system.proofs.OutputTaken.{MayGiveUp, taken, writes_output}
use Rattle.cdb.proofs.Words.{Appends-kept, Asked, Bool, Command, Err, Fault, Feed, Ghosts, HasHandedOn, IfSome, Keeps-refl, Keeps-trans, Left, List, NameCalls, None, Ok, Option, OutputFailed, OutputSays, Result, Some, Standard, State, [], ap, arith, asked_in, failed_of, false, fault_line, files_of, given_of, has_wide_words, held_by, inl, inr, not_there, output_bytes, prefix_kept, refl, state_of, subst, sym, true, writer_bytes, ℕ, ◌++◌, ◌∙◌, ◌≡◌, ◌⊎◌}
use Rattle.std.specs.Prelude.{map, IfOk, string_bytes}
use Rattle.std.proofs.lemmas.List.{append-nil}
use Rattle.std.specs.Io.KnownBytes.{Keeps, Appends, append_known}
use Rattle.cdb_form.specs.declared.text.fault.TextFault.TheVariants as text
use Rattle.cdb_form.specs.declared.walk.fault.WalkFault.TheVariants as walk
use Rattle.cdb_command.specs.Asked as asked
use Rattle.cdb_command.specs.Usage.{usage_text, version_text}
use Rattle.cdb_command.specs.Refused.{Refused, refused_line, usage_of}
use Rattle.cdb_command.specs.declared.command.Command.TheVariants as command
use Rattle.cdb_store.specs.declared.raw.RawFile.{Ghosts as Raw}
use Rattle.cdb_show.specs.Runs.WalkText.{dump_form, list_form}
use Rattle.cdb_show.specs.declared.output.Output.{Output as Writer}
use Rattle.cdb_show.specs.Status.{plain_status, check_status, exit_status}
use Rattle.cdb_show.specs.declared.fault.Fault.TheVariants.{Text, Walk, Output, NoMemory}
use Rattle.cdb.specs.Created.{foretell}
use Rattle.cdb.specs.Foretold.{AsksNoCreate, ComesTrue, IsForetold, IsRefused, IsTaken, MayFail, SaysLines}
use Rattle.cdb_system.specs.Answered.{Honest, Nothing, reads_in_turn, stores_in, streams_in}
use Rattle.cdb_system.specs.Oracle.{Disk, Outcome, check_outcome, command_outcome, ended, oracle, stats_outcome}
use Rattle.cdb_system.proofs.Coming.{Comes, EachAgrees, EachAnswered, IsSized, each_agrees, each_answered, no_prefix, nothing_written}
use Rattle.cdb_system.proofs.ManyKeys.{lookups_foretold}
use Rattle.cdb_system.proofs.ComparedFiles.{difference_foretold}
use Rattle.cdb.specs.Performs.{HandsOn, IsUntouched, PerformsIn, Runs, status_of}
use Rattle.cdb_system.specs.Telling.{Says, SaysLine, refused_lines, usage_line, usage_status}
use Rattle.cdb_system.specs.Causes.{Called, Explains, called_of}
use Rattle.cdb_system.specs.declared.system.System.{Ghosts as Systems}
use Rattle.cdb_system.proofs.FilesRead.{query_foretold, text_named, text_input, stats_comes, check_comes, on_named, on_input, stats_taken, check_taken, told_comes}
use Rattle.cdb.specs.Handing.{machine_of}

-- ---- the end of a command

abbrev Foretold : (planned : Result Asked Refused) → Outcome → (explained : Bool) → (start final told said : Option (List ℕ)) → (status : ℕ) → Type 0
Foretold planned o explained start final told said status = ComesTrue o explained start final told said status ⊎ IsRefused planned o explained start final told said status

status_is : (command : Command) (text : List ℕ) (result : Result Unit Fault) → status_of command result ≡ (ended (exit_status command) text result).status
status_is command text (Ok done) = refl
status_is command text (Err fault) = refl

line_said : (line : List ℕ) (told said : Option (List ℕ)) (unsaid : Type 0) → (unsaid → ⊥) → SaysLine line told said unsaid → Appends told said line
line_said line told said unsaid taken (inl whole) = whole
line_said line told said unsaid taken (inr part) = absurd (taken part.1)

-- the line of a fault is said first; what explains it follows
fault_said : (explained : Bool) (command : Asked) (result : Result Unit Fault) (unwritten : Type 0) (called : Called) (fault : Fault) (more : List ℕ) (told said : Option (List ℕ)) (unsaid : Type 0) → (unsaid → ⊥)
    → Explains explained command result unwritten called more → SaysLine (fault_line fault ++ more) told said unsaid → SaysLines explained (fault_line fault) told said
fault_said false command result unwritten called fault more told said unsaid taken explains h =
    line_said (fault_line fault) told said unsaid taken (subst (λ line. SaysLine line told said unsaid) (ap (λ m. fault_line fault ++ m) explains ∙ append-nil (fault_line fault)) h)
fault_said true command result unwritten called fault more told said unsaid taken explains h = (more, line_said (fault_line fault ++ more) told said unsaid taken h)

abbrev SaysResult : (explained : Bool) → Result Unit Fault → (told said : Option (List ℕ)) → Type 0
SaysResult explained (Ok done) told said = Keeps told said
SaysResult explained (Err fault) told said = SaysLines explained (fault_line fault) told said

result_said : (explained : Bool) (command : Asked) (result : Result Unit Fault) (unwritten : Type 0) (called : Called) (more : List ℕ) (told said : Option (List ℕ)) (unsaid : Type 0) → (unsaid → ⊥)
    → Explains explained command result unwritten called more → Says result more told said unsaid → SaysResult explained result told said
result_said explained command (Ok done) unwritten called more told said unsaid taken explains h = h
result_said explained command (Err fault) unwritten called more told said unsaid taken explains h = fault_said explained command (Err fault) unwritten called fault more told said unsaid taken explains h

lines_said : (explained : Bool) (status : Fault → ℕ) (text : List ℕ) (result : Result Unit Fault) (told said : Option (List ℕ)) → SaysResult explained result told said → SaysLines explained (ended status text result).lines told said
lines_said false status text (Ok done) told said h = nothing_written told said h
lines_said true status text (Ok done) told said h = ([], nothing_written told said h)
lines_said explained status text (Err fault) told said h = h

-- and so is the line of words that request nothing
refused_said : (explained : Bool) (refused : Refused) (told said : Option (List ℕ)) (unsaid : Type 0) → (unsaid → ⊥) → SaysLine (refused_lines explained refused) told said unsaid → SaysLines explained (usage_line (usage_of refused)) told said
refused_said false refused told said unsaid taken h = line_said (usage_line (usage_of refused)) told said unsaid taken h
refused_said true refused told said unsaid taken h = (refused_line refused, line_said (usage_line (usage_of refused) ++ refused_line refused) told said unsaid taken h)

refusal_status : (command : Command) (fault : Fault) → MayGiveUp (writes_output (asked_in command)) (reads_in_turn (asked_in command)) fault → exit_status command fault ≡ 111
refusal_status (command.Check name wide) NoMemory h = refl
refusal_status (command.Check name wide) Output h = refl
refusal_status (command.Check name wide) (Walk walk.Input) h = refl
refusal_status (command.Check name wide) (Text n text.Input) h = refl
refusal_status (command.Check name wide) (Text n text.Endless) h = refl
refusal_status command NoMemory h = refl
refusal_status command Output h = refl
refusal_status command (Walk walk.Input) h = refl
refusal_status command (Text n text.Input) h = refl
refusal_status command (Text n text.Endless) h = refl
refusal_status command fault h = absurd h

nothing_held : (known : Option (List ℕ)) → append_known known [] ≡ known
nothing_held None = refl
nothing_held (Some xs) = ap (λ l. Some l) (append-nil xs)

-- an output that did not fail has all that was written, and the answer is that of the command
pub handed_all : (end final : Option (List ℕ)) (unwritten : Type 0) (answer result : Result Unit Fault) → (unwritten → ⊥) → HandsOn end final unwritten answer result → Keeps end final × (result ≡ answer)
handed_all end final unwritten answer result taken h = (
  (let none : h.held ≡ [] = elim h.taken [ inl none ↦ none | inr failed ↦ absurd (taken failed) ] in
      subst (Keeps end) (ap (append_known final) none ∙ nothing_held final) h.all),
  elim h.answered [ inl same ↦ same | inr failed ↦ absurd (taken failed.2) ],
)

ends_so : (command : Command) (o : Outcome) (explained : Bool) (start end final told said : Option (List ℕ)) (unwritten unsaid : Type 0) (result : Result Unit Fault) (status : ℕ) → (unwritten → ⊥) → OutputSays (unwritten ⊎ unsaid) result → (unsaid → ⊥) → Keeps end final → SaysResult explained result told said → status ≡ status_of command result → Comes (writes_output (asked_in command)) (reads_in_turn (asked_in command)) (exit_status command) o start end result → Foretold (Ok (asked_in command)) o explained start final told said status
ends_so command o explained start end final told said unwritten unsaid result status writes tells speaks k says is (inl does) = inl (record {
  is_status = is ∙ status_is command o.output result ∙ ap (λ (o : Outcome). o.status) does.is;
  output = Appends-kept start end final o.output does.written k;
  lines = subst (λ l. SaysLines explained l told said) (ap (λ (o : Outcome). o.lines) does.is) (lines_said explained (exit_status command) o.output result told said says);
})
ends_so command o explained start end final told said unwritten unsaid result status writes tells speaks k says is (inr stops) = inr (record {
  fault = stops.fault;
  refusal = taken (writes_output (asked_in command)) (reads_in_turn (asked_in command)) stops.fault result (λ failed. elim failed [ inl output ↦ writes output | inr errors ↦ speaks errors ]) tells stops.is stops.refusal;
  is_status = is ∙ ap (status_of command) stops.is ∙ refusal_status command stops.fault stops.refusal;
  output = prefix_kept start end final o.output stops.written k;
  lines = subst (λ r. SaysResult explained r told said) stops.is says;
})

-- ---- each command

abbrev CommandComes : {F I J M N R Y : Type 0} → Ghosts F → Ghosts M → Raw R → (I → Feed) → Systems Y F I M J N R → (explained : Bool) → Command → Disk → (input : List ℕ) → (given : Standard J) → (old new : State Y) → Left F M I J → Result Unit Fault → Type 0
CommandComes s m r feed y explained command disk input given old new left result =
    Honest (files_of s m feed y) disk input (asked_in command) given old.opened new.opened left → PerformsIn (has_wide_words (asked_in command)) (machine_of s m feed y r) (given_of (asked_in command) explained given) old new left result
    → IfSome (command_outcome (asked_in command) disk input) (λ o. Comes (writes_output (asked_in command)) (reads_in_turn (asked_in command)) (exit_status command) o old.output new.output result)

command_comes : {F I J M N R Y : Type 0} (s : Ghosts F) (m : Ghosts M) (r : Raw R) (feed : I → Feed) (y : Systems Y F I M J N R) (explained : Bool) (command : Command) (disk : Disk) (input : List ℕ) (given : Standard J) (old new : State Y) (left : Left F M I J) (result : Result Unit Fault) → IsSized s → EachAnswered s disk (stores_in left) (y.calls old.opened) (y.calls new.opened) → EachAgrees feed disk (streams_in left) (y.calls old.opened) (y.calls new.opened)
    → CommandComes s m r feed y explained command disk input given old new left result
command_comes s m r feed y explained (command.Query name key number lines true) disk input given old new left result sized calls agree honest h =
    query_foretold feed 8 s m y (string_bytes name) _ disk old new left result sized calls h
command_comes s m r feed y explained (command.Query name key number lines false) disk input given old new left result sized calls agree honest h =
    query_foretold feed 4 s m y (string_bytes name) _ disk old new left result sized calls h
command_comes s m r feed y explained (command.Dump (Some name) style true) disk input given old new left result sized calls agree honest h =
    text_named s feed 8 m y (dump_form style) (string_bytes name) disk given old new left result calls agree h
command_comes s m r feed y explained (command.Dump (Some name) style false) disk input given old new left result sized calls agree honest h =
    text_named s feed 4 m y (dump_form style) (string_bytes name) disk given old new left result calls agree h
command_comes s m r feed y explained (command.Dump None style true) disk input given old new left result sized calls agree honest h =
    text_input s feed 8 m y (dump_form style) input given old new left result honest.unread honest.agrees h
command_comes s m r feed y explained (command.Dump None style false) disk input given old new left result sized calls agree honest h =
    text_input s feed 4 m y (dump_form style) input given old new left result honest.unread honest.agrees h
command_comes s m r feed y explained (command.List (Some name) style true) disk input given old new left result sized calls agree honest h =
    text_named s feed 8 m y (list_form style) (string_bytes name) disk given old new left result calls agree h
command_comes s m r feed y explained (command.List (Some name) style false) disk input given old new left result sized calls agree honest h =
    text_named s feed 4 m y (list_form style) (string_bytes name) disk given old new left result calls agree h
command_comes s m r feed y explained (command.List None style true) disk input given old new left result sized calls agree honest h =
    text_input s feed 8 m y (list_form style) input given old new left result honest.unread honest.agrees h
command_comes s m r feed y explained (command.List None style false) disk input given old new left result sized calls agree honest h =
    text_input s feed 4 m y (list_form style) input given old new left result honest.unread honest.agrees h
command_comes s m r feed y explained (command.Stats (Some name) true) disk input given old new left result sized calls agree honest h =
    on_named true s m feed y plain_status _ (string_bytes name) disk (stats_outcome 8) given old new left result _ _ refl calls (λ store last bytes is works does. stats_comes Nothing 8 s store last bytes old.output new.output result is (sized last bytes is) works does) h
command_comes s m r feed y explained (command.Stats (Some name) false) disk input given old new left result sized calls agree honest h =
    on_named true s m feed y plain_status _ (string_bytes name) disk (stats_outcome 4) given old new left result _ _ refl calls (λ store last bytes is works does. stats_comes Nothing 4 s store last bytes old.output new.output result is (sized last bytes is) works does) h
command_comes s m r feed y explained (command.Stats None true) disk input given old new left result sized calls agree honest h =
    on_input true plain_status _ input (stats_outcome 8) given left old.output new.output result _ refl honest.unread honest.agrees (λ store last does. stats_taken 8 store last old.output new.output result does) h.1
command_comes s m r feed y explained (command.Stats None false) disk input given old new left result sized calls agree honest h =
    on_input true plain_status _ input (stats_outcome 4) given left old.output new.output result _ refl honest.unread honest.agrees (λ store last does. stats_taken 4 store last old.output new.output result does) h.1
command_comes s m r feed y explained (command.Check (Some name) true) disk input given old new left result sized calls agree honest h =
    on_named false s m feed y check_status _ (string_bytes name) disk (check_outcome 8) given old new left result _ _ refl calls (λ store last bytes is works does. check_comes Nothing 8 s store last bytes old.output new.output result (omega arith) is works does) h
command_comes s m r feed y explained (command.Check (Some name) false) disk input given old new left result sized calls agree honest h =
    on_named false s m feed y check_status _ (string_bytes name) disk (check_outcome 4) given old new left result _ _ refl calls (λ store last bytes is works does. check_comes Nothing 4 s store last bytes old.output new.output result (omega arith) is works does) h
command_comes s m r feed y explained (command.Check None true) disk input given old new left result sized calls agree honest h =
    on_input false check_status _ input (check_outcome 8) given left old.output new.output result _ refl honest.unread honest.agrees (λ store last does. check_taken 8 store last old.output new.output result (omega arith) does) h.1
command_comes s m r feed y explained (command.Check None false) disk input given old new left result sized calls agree honest h =
    on_input false check_status _ input (check_outcome 4) given left old.output new.output result _ refl honest.unread honest.agrees (λ store last does. check_taken 4 store last old.output new.output result (omega arith) does) h.1
command_comes s m r feed y explained (command.Difference first second true) disk input given old new left result sized calls agree honest h =
    difference_foretold feed 8 s m y (string_bytes first) (string_bytes second) disk old new left result sized calls honest.in_order h
command_comes s m r feed y explained (command.Difference first second false) disk input given old new left result sized calls agree honest h =
    difference_foretold feed 4 s m y (string_bytes first) (string_bytes second) disk old new left result sized calls honest.in_order h
command_comes s m r feed y explained (command.Create name base inputs temporary options wide) disk input given old new left result sized calls agree honest h = tt
command_comes s m r feed y explained command.Help disk input given old new left result sized calls agree honest h = told_comes usage_text old.output new.output result h.2
command_comes s m r feed y explained command.Version disk input given old new left result sized calls agree honest h = told_comes version_text old.output new.output result h.2
command_comes s m r feed y explained (command.Lookups name inputs number style true) disk input given old new left result sized calls agree honest h =
    lookups_foretold feed s m y (record { word = 8; greatest = 9223372036854775807; name = string_bytes name; inputs = map string_bytes inputs.items; options = record { number = number; style = style } }) disk input given old new left result sized honest.bytes honest.unread calls agree honest.agrees h
command_comes s m r feed y explained (command.Lookups name inputs number style false) disk input given old new left result sized calls agree honest h =
    lookups_foretold feed s m y (record { word = 4; greatest = 4294967295; name = string_bytes name; inputs = map string_bytes inputs.items; options = record { number = number; style = style } }) disk input given old new left result sized honest.bytes honest.unread calls agree honest.agrees h

-- only a create says anything before it ends
is_silent : (command : Command) (disk : Disk) (input : List ℕ) (told before : Option (List ℕ)) → IsUntouched (asked_in command) told before → IfSome (command_outcome (asked_in command) disk input) (λ o. before ≡ told)
is_silent (command.Create name base inputs temporary options wide) disk input told before h = tt
is_silent command disk input told before h = h

-- ---- the program

some_so : {A : Type 0} (x : Option A) (P Q R : A → Type 0) → ((a : A) → P a → Q a → R a) → IfSome x P → IfSome x Q → IfSome x R
some_so None P Q R f p q = tt
some_so (Some a) P Q R f p q = f a p q

each_some : {A : Type 0} (x : Option A) (R : A → Type 0) → ((a : A) → R a) → IfSome x R
each_some None R f = tt
each_some (Some a) R f = f a

no_memory_may : (planned : Result Asked Refused) → MayFail planned NoMemory
no_memory_may (Ok command) = tt
no_memory_may (Err usage) = refl

run_foretold : {F I J M N R Y : Type 0} (s : Ghosts F) (m : Ghosts M) (r : Raw R) (feed : I → Feed) (y : Systems Y F I M J N R) (planned : Result Asked Refused) (explained : Bool) (given : Standard J) (old new : Y) (was now : NameCalls) (left : Left F M I J) (start end final told said : Option (List ℕ)) (unwritten unsaid copy : Type 0) (status : ℕ) (disk : Disk) (input : List ℕ)
    → IsSized s → (unwritten → ⊥) → (unsaid → ⊥) → Keeps end final → Runs (machine_of s m feed y r) (given_of planned explained given) (state_of old was start told) (state_of new now end said) final left (failed_of unwritten unsaid copy) status
    → IfOk planned (λ command. Honest (files_of s m feed y) disk input command given old new left) → IfSome (oracle planned disk input) (λ o. Foretold planned o explained start final told said status)
run_foretold s m r feed y planned explained given old new was now left start end final told said unwritten unsaid copy status disk input sized writes speaks k (inl none) honest =
    let kept = Keeps-trans start end final none.kept k in
    let line = refused_said explained none.refused told said unsaid speaks none.line in
    elim none.why [
      | inl lacks ↦ each_some (oracle planned disk input) (λ o. Foretold planned o explained start final told said status) (λ o. inr (record {
        fault = NoMemory;
        refusal = no_memory_may planned;
        is_status = none.is_status ∙ ap (λ x. usage_status (usage_of x)) lacks;
        output = no_prefix o start final kept;
        lines = subst (λ l. SaysLines explained l told said) (ap (λ x. usage_line (usage_of x)) lacks) line;
      }))
      | inr refused ↦ subst (λ p. IfSome (oracle p disk input) (λ o. Foretold p o explained start final told said status)) (sym refused) (inl (record {
        is_status = none.is_status;
        output = nothing_written start final kept;
        lines = line;
      }))
    ]
run_foretold s m r feed y planned explained given old new was now left start end final told said unwritten unsaid copy status disk input sized writes speaks k (inr some) honest =
    let command = some.command in
    let honest = subst (λ p. IfOk p (λ c. Honest (files_of s m feed y) disk input c given old new left)) some.asks honest in
    let handed = handed_all some.does.end final unwritten some.does.answer some.result writes some.does.hands in
    subst (λ p. IfSome (oracle p disk input) (λ o. Foretold p o explained start final told said status)) (sym some.asks)
    (some_so (command_outcome (asked_in command) disk input) (λ o. Comes (writes_output (asked_in command)) (reads_in_turn (asked_in command)) (exit_status command) o start some.does.end some.does.answer) (λ o. some.before ≡ told) (λ o. Foretold (Ok (asked_in command)) o explained start final told said status)
    (λ o comes silent. ends_so command o explained start some.does.end final told said unwritten unsaid some.result status writes some.output speaks handed.0 (subst (λ t. SaysResult explained some.result t said) silent (result_said explained (asked_in command) some.result unwritten (called_of (y.calls new) (y.lacks new) now copy) some.more some.before said unsaid speaks some.explains some.says)) some.is_status (subst (Comes (writes_output (asked_in command)) (reads_in_turn (asked_in command)) (exit_status command) o start some.does.end) (sym handed.1) comes))
    (command_comes s m r feed y explained command disk input given (state_of old was start told) (state_of new now some.does.end some.before) left some.does.answer sized (each_answered s disk (stores_in left) (y.calls old) (y.calls new) honest.calls honest.are honest.answered) (each_agrees feed disk (streams_in left) (y.calls old) (y.calls new) honest.calls honest.are honest.in_turn) honest some.does.performs)
    (is_silent command disk input told some.before some.silent))

-- an output that was flushed and did not fail holds nothing back
pub all_taken : {W : Type 0} (o : Writer W) → HasHandedOn o → (OutputFailed o → ⊥) → output_bytes o ≡ writer_bytes o
all_taken o handed works = elim handed [
  | inl none ↦ ap (append_known (writer_bytes o)) none ∙ nothing_held (writer_bytes o)
  | inr failed ↦ absurd (works failed)
]

-- what is said of the outcome of a command that makes nothing is said of what the whole function gives
total_so : (planned : Result Asked Refused) (disk : Disk) (input : List ℕ) (P : Outcome → Type 0) → AsksNoCreate planned → IfSome (oracle planned disk input) P → P (foretell planned disk input).outcome
total_so (Ok (asked.Create name base inputs temporary options wide)) disk input P none h = absurd none
total_so planned disk input P none h = h

pub run_is_foretold : {F I J M N R Y W V : Type 0} (s : Ghosts F) (m : Ghosts M) (r : Raw R) (feed : I → Feed) (y : Systems Y F I M J N R) (planned : Result Asked Refused) (explained : Bool) (given : Standard J) (old new : Y) (was now : NameCalls) (left : Left F M I J) (output_old output_new : Writer W) (errors_old errors_new : Writer V) (copy : Type 0) (status : ℕ)
    → IsSized s → (held_by output_old ≡ [] → HasHandedOn output_new) → HasHandedOn errors_new
    → Runs (machine_of s m feed y r) (given_of planned explained given) (state_of old was (output_bytes output_old) (output_bytes errors_old)) (state_of new now (output_bytes output_new) (output_bytes errors_new)) (writer_bytes output_new) left (failed_of (OutputFailed output_new) (OutputFailed errors_new) copy) status
    → IsForetold (files_of s m feed y) (given_of planned explained given) (state_of old was (output_bytes output_old) (output_bytes errors_old)) (state_of new now (writer_bytes output_new) (writer_bytes errors_new)) left (IsTaken output_old output_new errors_new) status
run_is_foretold s m r feed y planned explained given old new was now left output_old output_new errors_old errors_new copy status sized handed said runs = λ disk input taken none honest.
    let writes : OutputFailed output_new → ⊥ = λ failed. not_there (output_new.marked failed) taken.1 in
    let speaks : OutputFailed errors_new → ⊥ = λ failed. not_there (errors_new.marked failed) taken.2 in
    total_so planned disk input (λ o. Foretold planned o explained (output_bytes output_old) (writer_bytes output_new) (output_bytes errors_old) (writer_bytes errors_new) status) none
    (let end = output_bytes output_new in
    let kept = subst (Keeps end) (all_taken output_new (handed taken.0) writes) (Keeps-refl end) in
    subst (λ t. IfSome (oracle planned disk input) (λ o. Foretold planned o explained (output_bytes output_old) (writer_bytes output_new) (output_bytes errors_old) t status)) (all_taken errors_new said speaks)
    (run_foretold s m r feed y planned explained given old new was now left (output_bytes output_old) end (writer_bytes output_new) (output_bytes errors_old) (output_bytes errors_new) (OutputFailed output_new) (OutputFailed errors_new) copy status disk input sized writes speaks kept runs honest))
