-- A run that makes a database comes to what the function of its bytes says, or to a refusal.
use Rattle.std.proofs.Common.{◌≡◌, ◌+◌, ◌<◌, ◌≤◌, ℕ, inl, inr, List, [], ◌∷◌, ◌++◌, length, refl, sym, ap, subst, ◌∙◌, arith, append_assoc, append-nil, Option, Some, None, Result, Ok, Err, is_some, nat_lt, if◌then◌else◌}
use Rattle.std.specs.Prelude.{option_map, fold}
use Rattle.std.proofs.lemmas.Bool.{cond-true, cond-false, lt-ltb, le-ltb}
use Rattle.cdb_tool.proofs.Words.{Appends, CutShort, Damage, Fault, HasFault, Incoming, InputForm, NoMore, NotAdded, NotBegun, ReadFault, RunOptions, Stop, TellsEach, TellsPart, TextFault, Told, Walked, came, file_size, fold-append, from_input, from_inputs, input_form, put_result, walk_of}
use Rattle.cdb_form.specs.Text.Parse.{Change, Putting, Removing}
use Rattle.cdb_form.specs.declared.text.fault.TextFault.TheVariants as text
use Rattle.cdb_store.specs.declared.make_fault.MakeFault.TheVariants as make
use Rattle.cdb_read.specs.Views.Reads.{damage_fault}
use Rattle.cdb_read.specs.declared.fault.ReadFault.TheVariants as read
use Rattle.cdb_tool.specs.Runs.Make.{Course, Goes, Reading, StopsAt, Task, came_of, task_of, with_change, with_next, is_going, at_start, course_of, told, mode_of, StopsSo, records_of, IsSomeBase, Makes, BaseStops, MakeRuns, terms_of}
use Rattle.cdb_tool.specs.Runs.MakesSo.{IsMakeRefusal, ComesOf}
use Rattle.cdb_tool.specs.Runs.Made.{Made, ended_by, made_from, walk_fault, base_fault, unless_stopped, made_of}
use Rattle.cdb_tool.specs.Runs.InputsRead.{IsReading}
use Rattle.cdb_tool.proofs.ToldLines.{part_more, part_none, part_whole}
use Rattle.cdb_show.proofs.GivenInputs.{said, same_given}
use Rattle.cdb_show.specs.Feed as fed
use Rattle.cdb_show.specs.Feed.{IsGiven}
use Rattle.cdb_show.specs.Runs.Given.{Given, given_from}
use Rattle.cdb_show.specs.Runs.Parsing.{IsFaultOf, input_parsing}
use Rattle.cdb_show.specs.declared.fault.Fault.TheVariants.{Text, Make, Duplicate, Read, Output, NoMemory}

-- ---- the course over more items

pub course_more : (w : ℕ) (t : Task) (cs more : List Incoming) → course_of w t (cs ++ more) ≡ fold (with_next w t.options.make) (course_of w t cs) more
course_more w t cs more = fold-append (with_next w t.options.make) (at_start t) cs more

-- one that has ended stays
stays_ended : (w : ℕ) (o : RunOptions) (s : Course) (more : List Incoming) (f : Fault) → s.ended ≡ Some f → fold (with_next w o.make) s more ≡ s
stays_ended w o s [] f e = refl
stays_ended w o s (c ∷ more) f e =
    let one : with_next w o.make s c ≡ s = ap (λ x. if is_going x then with_change w o.make s c.input c.number c.it else s) e in
    ap (λ v. fold (with_next w o.make) v more) one ∙ stays_ended w o s more f e

-- what it reported grows
told_changed : (w : ℕ) (o : RunOptions) (s : Course) (i n : ℕ) (it : Change) → (x : List Told) × ((with_change w o.make s i n it).told ≡ s.told ++ x)
told_changed w o s i n (Putting r) = (told o.make i n r.key (put_result w o.make.limit (mode_of o.make) r s.records), refl)
told_changed w o s i n (Removing key) = ([], sym (append-nil s.told))

told_next : (w : ℕ) (o : RunOptions) (s : Course) (c : Incoming) (e : Option Fault) → (x : List Told) × ((if is_going e then with_change w o.make s c.input c.number c.it else s).told ≡ s.told ++ x)
told_next w o s c None = told_changed w o s c.input c.number c.it
told_next w o s c (Some fault) = ([], sym (append-nil s.told))

pub told_grow : (w : ℕ) (o : RunOptions) (s : Course) (more : List Incoming) → (x : List Told) × ((fold (with_next w o.make) s more).told ≡ s.told ++ x)
told_grow w o s [] = ([], sym (append-nil s.told))
told_grow w o s (c ∷ more) =
    let one = told_next w o s c s.ended in
    let rest = told_grow w o (with_next w o.make s c) more in
    (one.0 ++ rest.0, rest.1 ∙ ap (λ l. l ++ rest.0) one.1 ∙ append_assoc s.told one.0 rest.0)

-- ---- what comes of a run

refused : (w : ℕ) (o : RunOptions) (m : Made) (images : List ℕ → Type 0) (old new : Option (List ℕ)) (f : Fault) → IsMakeRefusal f → TellsPart o.names m.told old new → ComesOf w o m images old new (Err f)
refused w o m images old new f is p = inr (record { fault = f; is = refl; refusal = is; lines = p })

-- ---- the base

some_base : (w limit : ℕ) (base : Option (List ℕ)) → IsSomeBase w limit base → base_fault w limit base ≡ None
some_base w limit None is = refl
some_base w limit (Some b) is =
    let walk = walk_of w b in
    cond-false (nat_lt limit (file_size w walk.records)) _ _ (le-ltb limit (file_size w walk.records) is.fits) ∙ ap (option_map (λ damage. Read (damage_fault damage))) is.whole

large_base : (w limit : ℕ) (walk : Walked) → limit < file_size w walk.records → walk_fault w limit walk ≡ Some (Make make.TooBig)
large_base w limit walk h = cond-true (nat_lt limit (file_size w walk.records)) _ _ (lt-ltb limit (file_size w walk.records) h)

damaged_base : (w limit : ℕ) (walk : Walked) (damage : Damage) → walk.damage ≡ Some damage → file_size w walk.records ≤ limit → walk_fault w limit walk ≡ Some (Read (damage_fault damage))
damaged_base w limit walk damage e fits =
    cond-false (nat_lt limit (file_size w walk.records)) _ _ (le-ltb limit (file_size w walk.records) fits) ∙ ap (option_map (λ d. Read (damage_fault d))) e

stopped_base : (w : ℕ) (o : RunOptions) (images : List ℕ → Type 0) (old new : Option (List ℕ)) (fault f : Fault) (why : Option Fault) (made : Made) → why ≡ Some fault → f ≡ fault → Appends old new [] → ComesOf w o (unless_stopped why made) images old new (Err f)
stopped_base w o images old new fault f why made e same lines =
    subst (λ y. ComesOf w o (unless_stopped y made) images old new (Err f)) (sym e) (inl (record { is = ap (λ (x : Fault). Err x) same; lines = record { text = []; are = refl; written = lines }; file = tt }))

damaged_read : (w limit : ℕ) (o : RunOptions) (images : List ℕ → Type 0) (old new : Option (List ℕ)) (walk : Walked) (made : Made) (fault : ReadFault) → (damage : Damage) × (fault ≡ damage_fault damage) × (walk.damage ≡ Some damage) × (file_size w walk.records ≤ limit) → Appends old new []
    → ComesOf w o (unless_stopped (walk_fault w limit walk) made) images old new (Err (Read fault))
damaged_read w limit o images old new walk made fault (damage, is, has, fits) lines =
    stopped_base w o images old new (Read (damage_fault damage)) (Read fault) (walk_fault w limit walk) made (damaged_base w limit walk damage has fits) (ap (λ (x : ReadFault). Read x) is) lines

base_stops : (w limit : ℕ) (o : RunOptions) (images : List ℕ → Type 0) (old new : Option (List ℕ)) (walk : Walked) (made : Made) (f : Fault) → NotAdded w limit walk f → Appends old new [] → ComesOf w o (unless_stopped (walk_fault w limit walk) made) images old new (Err f)
base_stops w limit o images old new walk made (Make make.TooBig) h lines = stopped_base w o images old new (Make make.TooBig) _ (walk_fault w limit walk) made (large_base w limit walk h) refl lines
base_stops w limit o images old new walk made (Make make.Writing) h lines = refused w o _ images old new _ tt (part_none o.names _ old new lines)
base_stops w limit o images old new walk made (Read read.Device) h lines = refused w o _ images old new _ tt (part_none o.names _ old new lines)
base_stops w limit o images old new walk made (Read read.Short) h lines = damaged_read w limit o images old new walk made read.Short h lines
base_stops w limit o images old new walk made (Read (read.Table n)) h lines = damaged_read w limit o images old new walk made (read.Table n) h lines
base_stops w limit o images old new walk made (Read (read.Record place)) h lines = damaged_read w limit o images old new walk made (read.Record place) h lines
base_stops w limit o images old new walk made (Read (read.Slot n i)) h lines = damaged_read w limit o images old new walk made (read.Slot n i) h lines
base_stops w limit o images old new walk made (Read (read.Twice place)) h lines = damaged_read w limit o images old new walk made (read.Twice place) h lines
base_stops w limit o images old new walk made (Read (read.Unindexed place)) h lines = damaged_read w limit o images old new walk made (read.Unindexed place) h lines
base_stops w limit o images old new walk made (Read read.NoMemory) h lines = damaged_read w limit o images old new walk made read.NoMemory h lines
base_stops w limit o images old new walk made (Read read.Output) h lines = damaged_read w limit o images old new walk made read.Output h lines
base_stops w limit o images old new walk made NoMemory h lines = refused w o _ images old new _ tt (part_none o.names _ old new lines)
base_stops w limit o images old new walk made f h lines = absurd h

some_base_stops : (w g : ℕ) (o : RunOptions) (base : Option (List ℕ)) (r : Reading) (images : List ℕ → Type 0) (old new : Option (List ℕ)) (made : Made) (f : Fault) → BaseStops w o.make.limit base r old new f → ComesOf w o (unless_stopped (base_fault w o.make.limit base) made) images old new (Err f)
some_base_stops w g o None r images old new made f h = absurd h.fails
some_base_stops w g o (Some b) r images old new made f h = base_stops w o.make.limit o images old new (walk_of w b) made f h.fails h.lines

-- ---- the items of the inputs, as they come

input_then : (i n : ℕ) (xs ys : List Change) → (more : List Incoming) × (from_input i n (xs ++ ys) ≡ from_input i n xs ++ more)
input_then i n [] ys = (from_input i n ys, refl)
input_then i n (x ∷ xs) ys = let h = input_then i (n + 1) xs ys in (h.0, ap (λ t. record { input = i; number = n; it = x } ∷ t) h.1)

inputs_then : (i : ℕ) (done others : List (List Change)) → from_inputs i (done ++ others) ≡ from_inputs i done ++ from_inputs (i + length done) others
inputs_then i [] others = ap (λ (n : ℕ). from_inputs n others) (omega arith)
inputs_then i (items ∷ done) others =
    ap (λ t. from_input i 1 items ++ t) (inputs_then (i + 1) done others) ∙ sym (append_assoc (from_input i 1 items) (from_inputs (i + 1) done) _)
    ∙ ap (λ (n : ℕ). (from_input i 1 items ++ from_inputs (i + 1) done) ++ from_inputs n others) (omega arith)

-- those that came are the first of all
part_came : (done others : List (List Change)) (last more : List Change) → (rest : List Incoming) × (from_inputs 1 (done ++ (last ++ more) ∷ others) ≡ came done last ++ rest)
part_came done others last more =
    let n : ℕ = 1 + length done in
    let h = input_then n 1 last more in
    let after = from_inputs (n + 1) others in
    let first = from_inputs 1 done in (
      h.0 ++ after,
      inputs_then 1 done ((last ++ more) ∷ others) ∙ ap (λ t. first ++ (t ++ after)) h.1 ∙ ap (λ t. first ++ t) (append_assoc (from_input n 1 last) h.0 after)
          ∙ sym (append_assoc first (from_input n 1 last) (h.0 ++ after)) ∙ ap (λ t. (first ++ t) ++ (h.0 ++ after)) (sym (append-nil (from_input n 1 last))) ∙ ap (λ t. t ++ (h.0 ++ after)) (sym (inputs_then 1 done (last ∷ []))),
    )

came_first : (done : List (List Change)) (stop : Stop Change TextFault) (f : fed.Given Change TextFault) → IsGiven 1 done stop f → (more : List Incoming) × (from_inputs 1 f.items ≡ came_of done stop ++ more)
came_first done NoMore f e = ([], ap (λ (v : fed.Given Change TextFault). from_inputs 1 v.items) e ∙ sym (append-nil (from_inputs 1 done)))
came_first done (HasFault last fault) f e = ([], ap (λ (v : fed.Given Change TextFault). from_inputs 1 v.items) e ∙ sym (append-nil (came done last)))
came_first done (CutShort last) f (more, others, e) = let h = part_came done others last more in (h.0, ap (from_inputs 1) e ∙ h.1)
came_first done NotBegun f (others, e) = (from_inputs (1 + length done) others, ap (from_inputs 1) e ∙ inputs_then 1 done others)

-- ---- the inputs

-- they were done to a fault of a text
text_met : (w : ℕ) (t : Task) (done : List (List Change)) (stop : Stop Change TextFault) (last : List Change) (given : fed.Given Change TextFault) (images : List ℕ → Type 0) (old new : Option (List ℕ)) (n : ℕ) (f : TextFault) → n ≡ length done + 1 → stop ≡ HasFault last f → IsGiven 1 done stop given → Goes w t (came_of done stop) old new
    → ComesOf w t.options (made_from w t (said given)) images old new (Err (Text n f))
text_met w t done stop last given images old new n f at is are goes =
    let went = subst (λ s. Goes w t (came_of done s) old new) is goes in
    let whole : said given ≡ record { items = done ++ last ∷ []; fault = Some (Text n f) } =
    ap said (subst (λ s. IsGiven 1 done s given) is are) ∙ ap (λ (m : ℕ). let v : Given = record { items = done ++ last ∷ []; fault = Some (Text m f) } in v) (omega (arith, at)) in
    subst (λ v. ComesOf w t.options (made_from w t v) images old new (Err (Text n f))) (sym whole)
    (inl (record { is = sym (ap (λ e. ended_by e (Some (Text n f))) went.going); lines = went.lines; file = tt }))

-- or stopped, having read all or a part of what they say
stops_ended : (w : ℕ) (t : Task) (given : Given) (cs more : List Incoming) (images : List ℕ → Type 0) (old new : Option (List ℕ)) (f : Fault) → from_inputs 1 given.items ≡ cs ++ more → (course_of w t cs).ended ≡ Some f → TellsEach t.options.names (course_of w t cs).told old new → ComesOf w t.options (made_from w t given) images old new (Err f)
stops_ended w t given cs more images old new f e ended lines =
    let same : course_of w t (from_inputs 1 given.items) ≡ course_of w t cs = ap (course_of w t) e ∙ course_more w t cs more ∙ stays_ended w t.options (course_of w t cs) more f ended in
    inl (record {
      is = sym (ap (λ c. ended_by c.ended given.fault) same ∙ ap (λ x. ended_by x given.fault) ended);
      lines = subst (λ c. TellsEach t.options.names c.told old new) (sym same) lines;
      file = tt;
    })

refused_in : (w : ℕ) (t : Task) (given : Given) (cs more : List Incoming) (images : List ℕ → Type 0) (old new : Option (List ℕ)) (f : Fault) → from_inputs 1 given.items ≡ cs ++ more → IsMakeRefusal f → TellsPart t.options.names (course_of w t cs).told old new → ComesOf w t.options (made_from w t given) images old new (Err f)
refused_in w t given cs more images old new f e is p =
    let grow = told_grow w t.options (course_of w t cs) more in
    refused w t.options _ images old new f is
    (part_more t.options.names (course_of w t cs).told grow.0 (course_of w t (from_inputs 1 given.items)).told old new (ap (λ c. (course_of w t c).told) e ∙ ap (λ c. c.told) (course_more w t cs more) ∙ grow.1) p)

stops_in : (w g : ℕ) (t : Task) (given : Given) (cs more : List Incoming) (images : List ℕ → Type 0) (old new : Option (List ℕ)) (f : Fault) → from_inputs 1 given.items ≡ cs ++ more → StopsSo w t cs old new f → ComesOf w t.options (made_from w t given) images old new (Err f)
stops_in w g t given cs more images old new (Make make.TooBig) e h = stops_ended w t given cs more images old new _ e h.ended h.lines
stops_in w g t given cs more images old new Duplicate e h = stops_ended w t given cs more images old new _ e h.ended h.lines
stops_in w g t given cs more images old new (Make make.Lookup) e h = refused_in w t given cs more images old new _ e tt (part_whole t.options.names _ old new h.lines)
stops_in w g t given cs more images old new (Make make.Writing) e h = refused_in w t given cs more images old new _ e tt (part_whole t.options.names _ old new h.lines)
stops_in w g t given cs more images old new NoMemory e h = refused_in w t given cs more images old new _ e tt (part_whole t.options.names _ old new h.lines)
stops_in w g t given cs more images old new Output e h = refused_in w t given cs more images old new _ e tt h
stops_in w g t given cs more images old new f e h = absurd h

-- a run that stopped read the first items of what they say
module _ (Failed : Type 0) (form : InputForm) (w g : ℕ) (t : Task) (r : Reading) (given : fed.Given Change TextFault) (images : List ℕ → Type 0) (old new : Option (List ℕ)) (are : IsGiven 1 r.items r.stop given) where
  abbrev Comes : Result Unit Fault → Type 0
  Comes result = ComesOf w t.options (made_from w t (said given)) images old new result

  met : (n : ℕ) (f : TextFault) (last : List Change) → IsFaultOf form (length r.items + 1) Failed (Text n f) → r.stop ≡ HasFault last f → Goes w t (came_of r.items r.stop) old new → Comes (Err (Text n f))
  met n f last of_input is goes = text_met w t r.items r.stop last given images old new n f (of_input.number n f refl) is are goes

  failed : (n : ℕ) (f : TextFault) → IsMakeRefusal (Text n f) → Goes w t (came_of r.items r.stop) old new → Comes (Err (Text n f))
  failed n f may goes = let first = came_first r.items r.stop given are in refused_in w t (said given) (came_of r.items r.stop) first.0 images old new (Text n f) first.1 may (part_whole t.options.names _ old new goes.lines)

  inputs_stop : (f : Fault) → IsReading form Failed r (Err f) → StopsAt w t (came_of r.items r.stop) old new f → Comes (Err f)
  inputs_stop (Text n (text.Syntax at)) is h = met n _ is.stopped.0 is.of_input is.stopped.1 h
  inputs_stop (Text n (text.Ended at)) is h = met n _ is.stopped.0 is.of_input is.stopped.1 h
  inputs_stop (Text n (text.Large at)) is h = met n _ is.stopped.0 is.of_input is.stopped.1 h
  inputs_stop (Text n text.Input) is h = failed n text.Input tt h
  inputs_stop (Text n text.Endless) is h = failed n text.Endless tt h
  inputs_stop (Text n text.NoMemory) is h = absurd (is.of_input.memory n text.NoMemory refl refl)
  inputs_stop f is h = let first = came_first r.items r.stop given are in stops_in w g t (said given) (came_of r.items r.stop) first.0 images old new f first.1 h

-- ---- the run

-- a base has records if there is one
records_some : (w : ℕ) (base : Option (List ℕ)) → is_some (records_of w base) ≡ is_some base
records_some w None = refl
records_some w (Some b) = refl

-- after a base
with_base : (w g : ℕ) (o : RunOptions) (base : Option (List ℕ)) (inputs : List (Option (List ℕ))) (shared : List ℕ) (images : List ℕ → Type 0) (old new : Option (List ℕ)) (result : Result Unit Fault) → IsSomeBase w o.make.limit base
    → ComesOf w o (made_from w (task_of o (records_of w base)) (given_from (input_form o.make.style (is_some (records_of w base))) g 1 inputs shared)) images old new result → ComesOf w o (made_of w g o.make base inputs shared) images old new result
with_base w g o base inputs shared images old new result is h =
    subst (λ why. ComesOf w o (unless_stopped why (made_from w (task_of o (records_of w base)) (given_from (input_form o.make.style (is_some (records_of w base))) g 1 inputs shared))) images old new result) (sym (some_base w o.make.limit base is)) h

-- of inputs of this form, by what their bytes give
module _ (Failed : Type 0) (w g : ℕ) (o : RunOptions) (base : Option (List ℕ)) (inputs : List (Option (List ℕ))) (shared : List ℕ) (form : InputForm) (r : Reading) (images : List ℕ → Type 0) (old new : Option (List ℕ)) where
  abbrev pub GivenBy : InputForm → fed.Given Change TextFault
  GivenBy f = fed.given_from (input_parsing f g).parse 1 inputs shared

  -- the base is amended, and then they are read
  after_base : (result : Result Unit Fault) → form ≡ input_form o.make.style (is_some base) → IsSomeBase w o.make.limit base → ComesOf w o (made_from w (task_of o (records_of w base)) (said (GivenBy form))) images old new result → ComesOf w o (made_of w g o.make base inputs shared) images old new result
  after_base result same is h =
      with_base w g o base inputs shared images old new result is
      (subst (λ v. ComesOf w o (made_from w (task_of o (records_of w base)) v) images old new result)
      (ap (λ f. said (GivenBy f)) (same ∙ ap (input_form o.make.style) (sym (records_some w base))) ∙ same_given (input_form o.make.style (is_some (records_of w base))) g 1 inputs shared) h)

  made_so : IsGiven 1 r.items r.stop (GivenBy form) → r.stop ≡ NoMore → Makes (terms_of w g o) base (came_of r.items r.stop) images old new → ComesOf w o (made_from w (task_of o (records_of w base)) (said (GivenBy form))) images old new (Ok tt)
  made_so given none h =
      let t = task_of o (records_of w base) in
      let m = subst (λ s. Makes (terms_of w g o) base (came_of r.items s) images old new) none h in
      let whole : said (GivenBy form) ≡ record { items = r.items; fault = None } = ap said (subst (λ s. IsGiven 1 r.items s (GivenBy form)) none given) in
      subst (λ v. ComesOf w o (made_from w t v) images old new (Ok tt)) (sym whole)
      (inl (record { is = sym (ap (λ e. ended_by e None) m.goes.going); lines = m.goes.lines; file = m.file }))

  pub run_comes : (result : Result Unit Fault) → form ≡ input_form o.make.style (is_some base) → IsReading form Failed r result → IsGiven 1 r.items r.stop (GivenBy form) → MakeRuns (terms_of w g o) base r images old new result → ComesOf w o (made_of w g o.make base inputs shared) images old new result
  run_comes (Ok done) same is given h = after_base (Ok done) same h.ok.based (made_so given is.stopped h.ok)
  run_comes (Err f) same is given h = elim h.err as (λ _. ComesOf w o (made_of w g o.make base inputs shared) images old new (Err f)) [
    | inl stops ↦ some_base_stops w g o base r images old new _ f stops
    | inr stops ↦ after_base (Err f) same stops.based (inputs_stop Failed form w g (task_of o (records_of w base)) r (GivenBy form) images old new given f is stops.stops)
  ]
