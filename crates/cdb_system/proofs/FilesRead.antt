-- What comes of each command that reads one file: what the oracle says of it, or a refusal.
use Rattle.cdb_system.proofs.OutputTaken.{taken}
use Rattle.std.proofs.Common.{ℕ, Bool, true, false, ◌<◌, ◌≤◌, List, [], ◌∷◌, ◌++◌, length, flat_map, Option, Some, None, IfSome, Result, Ok, Err, ◌≡◌, ◌∙◌, ap, inl, inr, refl, subst, sym, arith, append_assoc}
use Rattle.cdb_system.proofs.Words.{Agrees, Appends, AppendsPrefix, Damage, Fault, Feed, Form, FromTo, Ghosts, IsUnread, Keeps, Left, MemStore, Standard, State, cond-false, cond-true, contents, fault_line, files_of, head_size, if◌then◌else◌, le-ltb, lt-ltb, nat_lt, window_feed}
use Rattle.std.proofs.lemmas.Grind.{flat_map-append}
use Rattle.cdb_form.specs.Format.{KeyValue, Walked, walk_of}
use Rattle.cdb_form.specs.declared.damage.Damage.TheVariants as damage
use Rattle.cdb_form.specs.declared.damage.Damage.TheVariants.{Short}
use Rattle.cdb_form.specs.declared.walk.fault.WalkFault.TheVariants as walk
use Rattle.cdb_names.specs.declared.answer.Answer.TheVariants as looks
use Rattle.cdb_read.proofs.WholeFiles.FaultLaws.{sound_is_no_damage}
use Rattle.cdb_read.specs.Sound.{first_fault}
use Rattle.cdb_read.specs.Statistics.{statistics_damage}
use Rattle.cdb_read.specs.declared.fault.ReadFault.TheVariants as read
use Rattle.cdb_store.specs.contracts.memory.MemStoreStore.TheImpl.{ghosts as in_memory}
use Rattle.cdb_show.specs.Runs.Stats.{CheckingFails, StatsMeetDamage, TellingFails, TellsStats, statistics_text}
use Rattle.cdb_show.specs.Runs.WalkText.{WritesFirst, WritesTextPrefix, WritesToDamage, WritesWalk, WritingFails, closing, walk_text}
use Rattle.cdb_show.specs.Runs.Query.{QueryAnswers, Query, Queries, QueryFails, query_text, query_answer}
use Rattle.cdb_show.specs.Status.{plain_status, check_status}
use Rattle.cdb_show.specs.declared.fault.Fault.TheVariants.{Missing, Read, Walk, Output, Long, Open, NoMemory}
use Rattle.cdb_system.specs.Answered.{Database, Nothing, Reading, stores_in, streams_in}
use Rattle.cdb_system.specs.Oracle.{Disk, Outcome, check_outcome, ended, met, of_file, query_outcome, short_or, stats_outcome, text_outcome, unless_damaged}
use Rattle.cdb_system.proofs.Coming.{Comes, EachAgrees, EachAnswered, IsSized, comes_so, gives_none, gives_up, long_is, nothing_written, of_shown, output_of, refused_so, short_is}
use Rattle.cdb_system.specs.Reading.{ChecksStore, IsNotLoaded, LacksMemory, OfInput, PerformsOn, PerformsQuery, PerformsText, ReadsText, Tells}
use Rattle.cdb_system.specs.declared.open_trace.OpenCall.TheVariants.{AtPlaces, InTurn, Stream, Unopened}
use Rattle.cdb_system.specs.declared.system.System.{Ghosts as Systems}

-- ---- query

-- a look-up answered
query_answered : {S : Type 0} (w : ℕ) (s : Ghosts S) (q : Query) (store : S) (bytes : List ℕ) (start end : Option (List ℕ)) (answer : Result Unit Fault) → s.image store bytes → length bytes ≡ s.size store → QueryAnswers w s q store start end answer → Comes true Nothing plain_status (query_outcome w q bytes) start end answer
query_answered w s q store bytes start end answer is size h =
    let long = subst (λ n. head_size w ≤ n) (sym size) h.long in
    comes_so true Nothing plain_status _ (query_text w bytes q) start end answer
    (long_is w bytes _ _ long ∙ ap (ended plain_status (query_text w bytes q)) (sym (h.answered bytes is)))
    (h.written bytes is)

query_ended : {S : Type 0} (w : ℕ) (s : Ghosts S) (q : Query) (file last : S) (bytes : List ℕ) (start end : Option (List ℕ)) (fault : Fault) → s.image last bytes → length bytes ≡ s.size last → s.failures last ≡ 0 → QueryFails w s q file last start end fault → Comes true Nothing plain_status (query_outcome w q bytes) start end (Err fault)
query_ended w s q file last bytes start end Missing is size works h = query_answered w s q last bytes start end (Err Missing) is size h
query_ended w s q file last bytes start end (Read (read.Table n)) is size works h = query_answered w s q last bytes start end _ is size h
query_ended w s q file last bytes start end (Read (read.Record place)) is size works h = query_answered w s q last bytes start end _ is size h
query_ended w s q file last bytes start end (Read read.Short) is size works h =
    let short = subst (λ n. n < head_size w) (sym (size ∙ ap s.size h.unread)) h.short in
    comes_so true Nothing plain_status _ [] start end (Err (Read read.Short)) (short_is w bytes _ _ short) (nothing_written start end h.kept)
query_ended w s q file last bytes start end (Read read.Device) is size works h = absurd (omega (arith, h.0, works))
query_ended w s q file last bytes start end Output is size works h =
    let long = subst (λ n. head_size w ≤ n) (sym size) h.0 in
    let text = ap (λ (o : Outcome). o.output) (long_is w bytes _ _ long) ∙ output_of plain_status (query_text w bytes q) (query_answer w bytes q) in
    gives_up true Nothing plain_status _ start end Output refl (subst (AppendsPrefix start end) (sym text) (h.1.written bytes is))
query_ended w s q file last bytes start end fault is size works h = absurd h

query_comes : {S : Type 0} (w : ℕ) (s : Ghosts S) (q : Query) (file last : S) (bytes : List ℕ) (start end : Option (List ℕ)) (result : Result Unit Fault) → s.image last bytes → length bytes ≡ s.size last → s.failures last ≡ 0 → Queries w s q file last start end result → Comes true Nothing plain_status (query_outcome w q bytes) start end result
query_comes w s q file last bytes start end (Ok done) is size works h = query_answered w s q last bytes start end (Ok tt) is size h.ok
query_comes w s q file last bytes start end (Err fault) is size works h = query_ended w s q file last bytes start end fault is size works h.err

pub query_foretold : {F I J M N R Y : Type 0} (feed : I → Feed) (w : ℕ) (s : Ghosts F) (m : Ghosts M) (y : Systems Y F I M J N R) (name : List ℕ) (q : Query) (disk : Disk) (old new : State Y) (left : Left F M I J) (result : Result Unit Fault) → IsSized s → EachAnswered s disk (stores_in left) (y.calls old.opened) (y.calls new.opened)
    → PerformsQuery (files_of s m feed y) (record { word = w; name = name; query = q }) old new left result → Comes true Nothing plain_status (of_file (disk name) (query_outcome w q)) old.output new.output result
query_foretold feed w s m y name q disk old new left result sized answers (inl none) =
    refused_so true Nothing s plain_status name disk (stores_in left) (query_outcome w q) (y.calls old.opened) (y.calls new.opened) [] old.output new.output result refl answers none.1
query_foretold feed w s m y name q disk old new left result sized answers (inr some) =
    let file = some.1 in
    of_shown true Nothing s plain_status (disk name) file.last [] (query_outcome w q) old.output new.output result (subst (λ l. EachAnswered s disk (stores_in l) (y.calls old.opened) (y.calls new.opened)) file.is_last answers ((AtPlaces, name) ∷ []) some.0).0
    (λ bytes is works. query_comes w s q file.file file.last bytes old.output new.output result is (sized file.last bytes is) works file.queries)

-- ---- dump and list

first_written : (form : Form) (records first more : List KeyValue) (ending : List ℕ) → records ≡ first ++ more → flat_map form.item records ++ ending ≡ flat_map form.item first ++ (flat_map form.item more ++ ending)
first_written form records first more ending e =
    ap (λ rs. flat_map form.item rs ++ ending) e
    ∙ ap (λ l. l ++ ending) (flat_map-append form.item first more)
    ∙ append_assoc (flat_map form.item first) (flat_map form.item more) ending

-- the output is the text of the walk
text_output : (w : ℕ) (form : Form) (bytes : List ℕ) → (text_outcome w form bytes).output ≡ walk_text form (walk_of w bytes)
text_output w form bytes = output_of plain_status (walk_text form (walk_of w bytes)) (met (walk_of w bytes).damage)

-- what holds of each stream that agrees holds of this one, of which nothing had been taken
of_this : (before after : Feed) (P : List ℕ → List ℕ → Type 0) (bytes rest : List ℕ) → IsUnread before → FromTo before after P → after.may bytes rest → P bytes rest
of_this before after P bytes rest unread f m = let t = f.back unread.known bytes rest m in subst (λ b. P b rest) (unread.all bytes t.0 t.1) t.2

text_walked : (w : ℕ) (form : Form) (bytes : List ℕ) (walked : Walked) (damage : Option Damage) (start end : Option (List ℕ)) (result : Result Unit Fault) → ((text : List ℕ) → ended plain_status text (met damage) ≡ ended plain_status text result) → walk_of w bytes ≡ walked → walked.damage ≡ damage → Appends start end (walk_text form walked) → Comes true Database plain_status (text_outcome w form bytes) start end result
text_walked w form bytes walked damage start end result same is ends appended =
    let text = walk_text form walked in
    comes_so true Database plain_status _ text start end result
    (ap (λ k. ended plain_status (walk_text form k) (met k.damage)) is ∙ ap (λ d. ended plain_status text (met d)) ends ∙ same text)
    appended

-- the text of a stream that agrees with what is left
module _ (w : ℕ) (form : Form) (before left : Feed) (unread : IsUnread before) (bytes rest : List ℕ) (m : left.may bytes rest) (start end : Option (List ℕ)) where
  text_damaged : (damage : Option Damage) (result : Result Unit Fault) → ((text : List ℕ) → ended plain_status text (met damage) ≡ ended plain_status text result) → WritesToDamage w form before left damage start end → Comes true Database plain_status (text_outcome w form bytes) start end result
  text_damaged damage result same h = text_walked w form bytes h.walked damage start end result same (of_this before left _ bytes rest unread h.is m).0 h.ends h.appended

  text_first : WritesFirst w form before left start end → AppendsPrefix start end (text_outcome w form bytes).output
  text_first h =
      let is = (of_this before left _ bytes rest unread h.is m).0 in
      let ending = closing form (walk_of w bytes).damage in
      record {
        front = flat_map form.item h.first;
        more = flat_map form.item is.0 ++ ending;
        split = text_output w form bytes ∙ first_written form (walk_of w bytes).records h.first is.0 ending is.1;
        appended = h.appended;
      }

  text_prefix : WritesTextPrefix w form before left start end → AppendsPrefix start end (text_outcome w form bytes).output
  text_prefix h = subst (AppendsPrefix start end) (sym (text_output w form bytes)) (of_this before left _ bytes rest unread h.is m).0

  text_ended : (fault : Fault) → WritingFails w form before left start end fault → Comes true Database plain_status (text_outcome w form bytes) start end (Err fault)
  text_ended (Walk walk.Short) h = text_damaged _ _ (λ text. refl) h
  text_ended (Walk (walk.Table n)) h = text_damaged _ _ (λ text. refl) h
  text_ended (Walk (walk.Record place)) h = text_damaged _ _ (λ text. refl) h
  text_ended (Walk walk.Input) h = gives_up true Database plain_status _ start end _ refl (text_first h.0)
  text_ended NoMemory h = gives_up true Database plain_status _ start end _ tt (text_first h)
  text_ended Output h = gives_up true Database plain_status _ start end _ refl (text_prefix h)
  text_ended fault h = absurd h

  text_comes : (result : Result Unit Fault) → WritesWalk w form before left start end result → Comes true Database plain_status (text_outcome w form bytes) start end result
  text_comes (Ok done) h = text_walked w form bytes h.ok.walked None start end (Ok tt) (λ text. refl) (of_this before left _ bytes rest unread h.ok.is m).0 h.ok.ends h.ok.appended
  text_comes (Err fault) h = text_ended fault h.err

lacks_memory : (status : Fault → ℕ) (o : Outcome) (start end : Option (List ℕ)) (result : Result Unit Fault) → LacksMemory start end result → Comes true Database status o start end result
lacks_memory status o start end result h = subst (Comes true Database status o start end) (sym h.0) (gives_none true Database status o start end NoMemory tt h.1)

text_read : (w : ℕ) (form : Form) (before left : Feed) (bytes rest : List ℕ) (start end : Option (List ℕ)) (result : Result Unit Fault) → IsUnread before → left.may bytes rest → ReadsText w form before left start end result → Comes true Database plain_status (text_outcome w form bytes) start end result
text_read w form before left bytes rest start end result unread m (inl lacks) = lacks_memory plain_status _ start end result lacks
text_read w form before left bytes rest start end result unread m (inr writes) =
    text_comes w form before (window_feed left writes.held) unread bytes (writes.held ++ rest) (record { behind = rest; may = m; is = refl }) start end result writes.walk

text_agrees : (w : ℕ) (form : Form) (file : Option (List ℕ)) (before left : Feed) (start end : Option (List ℕ)) (result : Result Unit Fault) → IsUnread before → Agrees file left → ReadsText w form before left start end result → Comes true Database plain_status (of_file file (text_outcome w form)) start end result
text_agrees w form (Some bytes) before left start end result unread agrees h = text_read w form before left bytes agrees.0 start end result unread agrees.1 h
text_agrees w form None before left start end result unread agrees h = absurd agrees

pub text_named : {F I J M N R Y : Type 0} (s : Ghosts F) (feed : I → Feed) (w : ℕ) (m : Ghosts M) (y : Systems Y F I M J N R) (form : Form) (name : List ℕ) (disk : Disk) (input : Standard J) (old new : State Y) (left : Left F M I J) (result : Result Unit Fault) → EachAnswered s disk (stores_in left) (y.calls old.opened) (y.calls new.opened) → EachAgrees feed disk (streams_in left) (y.calls old.opened) (y.calls new.opened)
    → PerformsText (files_of s m feed y) (record { word = w; name = Some name; form = form }) input old new left result → Comes true Database plain_status (of_file (disk name) (text_outcome w form)) old.output new.output result
text_named s feed w m y form name disk input old new left result answers agree (inl none) =
    refused_so true Database s plain_status name disk (stores_in left) (text_outcome w form) (y.calls old.opened) (y.calls new.opened) [] old.output new.output result refl answers none.1
text_named s feed w m y form name disk input old new left result answers agree (inr opened) =
    let of = opened.1 in
    text_agrees w form (disk name) (feed of.file) (feed of.last) old.output new.output result of.unread
    (subst (λ l. EachAgrees feed disk (streams_in l) (y.calls old.opened) (y.calls new.opened)) of.is_last agree ((InTurn, name) ∷ []) opened.0).0
    of.reads

pub text_input : {F I J M N R Y : Type 0} (s : Ghosts F) (feed : I → Feed) (w : ℕ) (m : Ghosts M) (y : Systems Y F I M J N R) (form : Form) (bytes : List ℕ) (input : Standard J) (old new : State Y) (left : Left F M I J) (result : Result Unit Fault) → IsUnread (input.feed input.reader) → IfSome left.input (λ reader. Agrees (Some bytes) (input.feed reader))
    → PerformsText (files_of s m feed y) (record { word = w; name = None; form = form }) input old new left result → Comes true Database plain_status (text_outcome w form bytes) old.output new.output result
text_input s feed w m y form bytes input old new left result unread agrees h =
    let reads = h.1 in
    text_agrees w form (Some bytes) (input.feed input.reader) (input.feed reads.last) old.output new.output result unread (subst (λ l. IfSome l.input (λ reader. Agrees (Some bytes) (input.feed reader))) reads.is_last agrees) reads.reads

-- ---- statistics

stats_met : (w : ℕ) (bytes : List ℕ) (damage : Option Damage) → short_or w bytes (statistics_damage w bytes) ≡ damage → stats_outcome w bytes ≡ ended plain_status (unless_damaged damage (statistics_text w bytes)) (met damage)
stats_met w bytes damage e = ap (λ d. ended plain_status (unless_damaged d (statistics_text w bytes)) (met d)) e

stats_whole : (w : ℕ) (bytes : List ℕ) (damage : Option Damage) → head_size w ≤ length bytes → statistics_damage w bytes ≡ damage → stats_outcome w bytes ≡ ended plain_status (unless_damaged damage (statistics_text w bytes)) (met damage)
stats_whole w bytes damage long e = stats_met w bytes damage (long_is w bytes _ _ long ∙ e)

stats_damaged : {S : Type 0} (reads : Reading) (w : ℕ) (s : Ghosts S) (last : S) (bytes : List ℕ) (damage : Damage) (start end : Option (List ℕ)) → s.image last bytes → length bytes ≡ s.size last → StatsMeetDamage w s last damage start end → Comes true reads plain_status (stats_outcome w bytes) start end (met (Some damage))
stats_damaged reads w s last bytes damage start end is size h =
    let long = subst (λ n. head_size w ≤ n) (sym size) h.long in
    comes_so true reads plain_status _ [] start end (met (Some damage)) (stats_whole w bytes (Some damage) long (h.is bytes is)) (nothing_written start end h.kept)

stats_ended : {S : Type 0} (reads : Reading) (w : ℕ) (s : Ghosts S) (file last : S) (bytes : List ℕ) (start end : Option (List ℕ)) (fault : Fault) → s.image last bytes → length bytes ≡ s.size last → s.failures last ≡ 0 → TellingFails w s file last start end fault → Comes true reads plain_status (stats_outcome w bytes) start end (Err fault)
stats_ended reads w s file last bytes start end (Read read.Short) is size works h =
    let short = subst (λ n. n < head_size w) (sym (size ∙ ap s.size h.unread)) h.short in
    comes_so true reads plain_status _ [] start end (Err (Read read.Short)) (stats_met w bytes (Some Short) (short_is w bytes _ _ short)) (nothing_written start end h.kept)
stats_ended reads w s file last bytes start end (Read (read.Table n)) is size works h = stats_damaged reads w s last bytes _ start end is size h
stats_ended reads w s file last bytes start end (Read (read.Record place)) is size works h = stats_damaged reads w s last bytes _ start end is size h
stats_ended reads w s file last bytes start end (Read read.Device) is size works h = absurd (omega (arith, h.0, works))
stats_ended reads w s file last bytes start end Output is size works h =
    let long = subst (λ n. head_size w ≤ n) (sym size) h.long in
    let text = ap (λ (o : Outcome). o.output) (stats_whole w bytes None long (h.whole bytes is)) in
    gives_up true reads plain_status _ start end Output refl (subst (AppendsPrefix start end) (sym text) (h.written bytes is))
stats_ended reads w s file last bytes start end fault is size works h = absurd h

pub stats_comes : {S : Type 0} (reads : Reading) (w : ℕ) (s : Ghosts S) (file last : S) (bytes : List ℕ) (start end : Option (List ℕ)) (result : Result Unit Fault) → s.image last bytes → length bytes ≡ s.size last → s.failures last ≡ 0 → TellsStats w s file last start end result → Comes true reads plain_status (stats_outcome w bytes) start end result
stats_comes reads w s file last bytes start end (Ok done) is size works h =
    let long = subst (λ n. head_size w ≤ n) (sym size) h.ok.long in
    comes_so true reads plain_status _ (statistics_text w bytes) start end (Ok tt) (stats_whole w bytes None long (h.ok.whole bytes is)) (h.ok.written bytes is)
stats_comes reads w s file last bytes start end (Err fault) is size works h = stats_ended reads w s file last bytes start end fault is size works h.err

-- ---- check

check_met : (reads : Reading) (w : ℕ) (bytes : List ℕ) (damage : Option Damage) (start end : Option (List ℕ)) → first_fault w bytes ≡ damage → Keeps start end → Comes false reads check_status (check_outcome w bytes) start end (met damage)
check_met reads w bytes damage start end e k = comes_so false reads check_status _ [] start end (met damage) (ap (λ d. ended check_status [] (met d)) e) (nothing_written start end k)

check_ended : {S : Type 0} (reads : Reading) (w : ℕ) (s : Ghosts S) (file last : S) (bytes : List ℕ) (start end : Option (List ℕ)) (fault : Fault) → s.image last bytes → s.failures last ≡ 0 → Keeps start end → CheckingFails w s file last fault → Comes false reads check_status (check_outcome w bytes) start end (Err fault)
check_ended reads w s file last bytes start end (Read read.Short) is works k h = check_met reads w bytes (Some damage.Short) start end (h.first bytes is) k
check_ended reads w s file last bytes start end (Read (read.Table n)) is works k h = check_met reads w bytes (Some (damage.Table n)) start end (h.first bytes is) k
check_ended reads w s file last bytes start end (Read (read.Record place)) is works k h = check_met reads w bytes (Some (damage.Record place)) start end (h.first bytes is) k
check_ended reads w s file last bytes start end (Read (read.Slot n i)) is works k h = check_met reads w bytes (Some (damage.Slot n i)) start end (h.first bytes is) k
check_ended reads w s file last bytes start end (Read (read.Twice place)) is works k h = check_met reads w bytes (Some (damage.Twice place)) start end (h.first bytes is) k
check_ended reads w s file last bytes start end (Read (read.Unindexed place)) is works k h = check_met reads w bytes (Some (damage.Unindexed place)) start end (h.first bytes is) k
check_ended reads w s file last bytes start end (Read read.Device) is works k h = absurd (omega (arith, h, works))
check_ended reads w s file last bytes start end NoMemory is works k h = gives_none false reads check_status _ start end NoMemory tt k
check_ended reads w s file last bytes start end fault is works k h = absurd h

pub check_comes : {S : Type 0} (reads : Reading) (w : ℕ) (s : Ghosts S) (file last : S) (bytes : List ℕ) (start end : Option (List ℕ)) (result : Result Unit Fault) → 0 < w → s.image last bytes → s.failures last ≡ 0 → ChecksStore w start end result s file last → Comes false reads check_status (check_outcome w bytes) start end result
check_comes reads w s file last bytes start end (Ok done) some is works h = check_met reads w bytes None start end ((sound_is_no_damage w bytes some).0 (h.sound.sound bytes is)) h.kept
check_comes reads w s file last bytes start end (Err fault) some is works h = check_ended reads w s file last bytes start end fault is works h.kept h.fails

-- ---- a file that is read at places, or taken into memory

yes_is_no : looks.Yes ≡ looks.No → ⊥
yes_is_no e = cc

unknown_is_no : looks.Unknown ≡ looks.No → ⊥
unknown_is_no e = cc

pub on_named : {F I J M N R Y : Type 0} (writes : Bool) (s : Ghosts F) (m : Ghosts M) (feed : I → Feed) (y : Systems Y F I M J N R) (status : Fault → ℕ) (most : ℕ) (name : List ℕ) (disk : Disk) (outcome : List ℕ → Outcome) (input : Standard J) (old new : State Y) (left : Left F M I J) (result : Result Unit Fault) (file : F → F → Type 0) (taken : MemStore → MemStore → Type 0)
    → 111 ≡ status Open → EachAnswered s disk (stores_in left) (y.calls old.opened) (y.calls new.opened) → ((store last : F) (bytes : List ℕ) → s.image last bytes → s.failures last ≡ 0 → file store last → Comes writes Nothing status (outcome bytes) old.output new.output result)
    → PerformsOn (files_of s m feed y) (record { most = most; name = Some name; file = file; taken = taken }) input old new left result → Comes writes Nothing status (of_file (disk name) outcome) old.output new.output result
on_named writes s m feed y status most name disk outcome input old new left result file taken plain answers comes h = elim h [
  | inl none ↦ refused_so writes Nothing s status name disk (stores_in left) outcome (y.calls old.opened) (y.calls new.opened) ((Stream looks.No, name) ∷ []) old.output new.output result plain answers none.1
  | inr h ↦ elim h [
    | inl some ↦
        (let of = some.1 in
        of_shown writes Nothing s status (disk name) of.last [] outcome old.output new.output result (subst (λ l. EachAnswered s disk (stores_in l) (y.calls old.opened) (y.calls new.opened)) of.is_last answers ((AtPlaces, name) ∷ (Stream looks.No, name) ∷ []) some.0).0 (λ bytes is works. comes of.file of.last bytes is works of.does))
    | inr h ↦ elim h [
      | inl none ↦
          (let miss = none.1.misses in
          absurd (yes_is_no (answers ((Unopened miss.why miss.found, name) ∷ (Stream looks.Yes, name) ∷ []) miss.calls).1.0))
      | inr h ↦ elim h [
        | inl some ↦ absurd (yes_is_no (answers ((InTurn, name) ∷ (Stream looks.Yes, name) ∷ []) some.0).1.0)
        | inr unsaid ↦ absurd (unknown_is_no (answers ((Stream looks.Unknown, name) ∷ []) unsaid.0).0)
      ]
    ]
  ]
]

not_taken : (writes : Bool) (status : Fault → ℕ) (most : ℕ) (before left : Feed) (input rest : List ℕ) (outcome : List ℕ → Outcome) (start end : Option (List ℕ)) (fault : Fault) → 111 ≡ status Long → IsUnread before → left.may input rest → IsNotLoaded most before left fault → Keeps start end → Comes writes Database status (if nat_lt most (length input) then ended plain_status [] (Err Long) else outcome input) start end (Err fault)
not_taken writes status most before left input rest outcome start end Long plain unread m h k =
    comes_so writes Database status _ [] start end (Err Long) (cond-true (nat_lt most (length input)) _ _ (lt-ltb most (length input) (of_this before left _ input rest unread h m)) ∙ ap (λ n. record { status = n; output = []; lines = fault_line Long }) plain) (nothing_written start end k)
not_taken writes status most before left input rest outcome start end (Walk walk.Input) plain unread m h k = gives_none writes Database status _ start end _ refl k
not_taken writes status most before left input rest outcome start end NoMemory plain unread m h k = gives_none writes Database status _ start end _ tt k
not_taken writes status most before left input rest outcome start end fault plain unread m h k = absurd h

pub on_input : {F I J M : Type 0} (writes : Bool) (status : Fault → ℕ) (most : ℕ) (bytes : List ℕ) (outcome : List ℕ → Outcome) (input : Standard J) (left : Left F M I J) (start end : Option (List ℕ)) (result : Result Unit Fault) (taken : MemStore → MemStore → Type 0)
    → 111 ≡ status Long → IsUnread (input.feed input.reader) → IfSome left.input (λ reader. Agrees (Some bytes) (input.feed reader)) → ((store last : MemStore) → taken store last → Comes writes Database status (outcome (contents store)) start end result)
    → OfInput most input left start end result taken → Comes writes Database status (if nat_lt most (length bytes) then ended plain_status [] (Err Long) else outcome bytes) start end result
on_input writes status most bytes outcome input left start end result taken plain unread agrees comes h =
    let agrees = subst (λ l. IfSome l.input (λ reader. Agrees (Some bytes) (input.feed reader))) h.is_last agrees in
    elim h.takes [
      | inl none ↦ subst (Comes writes Database status _ start end) (sym none.is) (not_taken writes status most (input.feed input.reader) (input.feed h.last) bytes agrees.0 outcome start end none.fault plain unread agrees.1 none.why none.kept)
      | inr some ↦
          (let whole : contents some.store ≡ bytes = of_this (input.feed input.reader) (input.feed h.last) _ bytes agrees.0 unread some.is.whole agrees.1 in
          let few = subst (λ b. length b ≤ most) whole some.is.few in
          subst (λ o. Comes writes Database status o start end result) (sym (cond-false (nat_lt most (length bytes)) _ _ (le-ltb most (length bytes) few)))
          (subst (λ b. Comes writes Database status (outcome b) start end result) whole (comes some.store some.last some.does)))
    ]

pub stats_taken : (w : ℕ) (store last : MemStore) (start end : Option (List ℕ)) (result : Result Unit Fault) → TellsStats w in_memory store last start end result → Comes true Database plain_status (stats_outcome w (contents store)) start end result
stats_taken w store last start end result h =
    subst (λ b. Comes true Database plain_status (stats_outcome w b) start end result) (h.reads.images (contents last) refl)
    (stats_comes Database w in_memory store last (contents last) start end result refl refl refl h)

pub check_taken : (w : ℕ) (store last : MemStore) (start end : Option (List ℕ)) (result : Result Unit Fault) → 0 < w → ChecksStore w start end result in_memory store last → Comes false Database check_status (check_outcome w (contents store)) start end result
check_taken w store last start end result some h =
    subst (λ b. Comes false Database check_status (check_outcome w b) start end result) (h.reads.images (contents last) refl)
    (check_comes Database w in_memory store last (contents last) start end result some refl refl h)

-- ---- help and version

told_ended : (text : List ℕ) (start end : Option (List ℕ)) (fault : Fault) → fault ≡ Output → AppendsPrefix start end text → Comes true Nothing plain_status (ended plain_status text (Ok tt)) start end (Err fault)
told_ended text start end fault is h = subst (λ f. Comes true Nothing plain_status (ended plain_status text (Ok tt)) start end (Err f)) (sym is) (gives_up true Nothing plain_status (ended plain_status text (Ok tt)) start end Output refl h)

pub told_comes : (text : List ℕ) (start end : Option (List ℕ)) (result : Result Unit Fault) → Tells text start end result → Comes true Nothing plain_status (ended plain_status text (Ok tt)) start end result
told_comes text start end (Ok done) h = comes_so true Nothing plain_status _ text start end (Ok tt) refl h.ok
told_comes text start end (Err fault) h = told_ended text start end fault h.err.0 h.err.1
