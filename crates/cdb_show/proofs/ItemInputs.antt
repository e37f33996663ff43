-- What a reader took of the items of an input, whatever its form and whatever bytes agree with it.
use Rattle.cdb_show.proofs.Words.{BeginsWithItems, Bool, Err, Feed, FromTo, HasFaults, HasInputFault, HasItemFault, IfErr, InputsBeginWith, IsInput, IsInputOf, IsOfText, KeyValue, List, MapReader, Ok, OnOk, Puts, Result, Spells, TextFault, [], false, from_weaker, length, map, refl, true, ℕ, ◌++◌, ◌+◌, ◌<◌, ◌∙◌, ◌∷◌, ◌≡◌, ◌≢◌, ◌≤◌}
use Rattle.cdb_form.specs.Views.FormReader as fed
use Rattle.cdb_form.specs.Views.LongValue as long
use Rattle.cdb_form.specs.Views.Fill.{Fills}
use Rattle.cdb_form.specs.Text.Parse.{Change, Putting, SpellsChange}
use Rattle.cdb_form.specs.declared.text.fill.Filled.{Filled}
use Rattle.cdb_form.specs.declared.text.fault.TextFault.TheVariants.{Input, NoMemory}
use Rattle.cdb_form.specs.declared.text.form_reader.FormReader.{FormReader}
use Rattle.cdb_form.proofs.Filling.{fills_as}
use Rattle.cdb_form.proofs.NativeTexts.FormReads.{put_gives}
use Rattle.cdb_form.proofs.NativeTexts.Spelling.{changes, records}
use Rattle.cdb_form.proofs.NativeTexts.TextLaws.{spelled_puts}
use Rattle.cdb_command.specs.declared.style.Style.TheVariants as style
use Rattle.cdb_show.specs.Views.ItemReader.{AmidValue, Fails, GivesEnd, GivesItem, GivesPuts, IsNew, asks_left, form_of, reader_of}
use Rattle.cdb_show.specs.declared.runs.item_reader.ItemReader.{ItemReader}
use Rattle.cdb_show.specs.declared.runs.item_reader.ItemReader.TheVariants.{Form, Map}
use Rattle.cdb_show.proofs.KeyInputs.{more_puts}
use Rattle.cdb_show.proofs.MapInputs.{GaveLines, lines_all, lines_begin, lines_behind, lines_each, lines_fault, lines_more, lines_none, lines_own, lines_told}
use Rattle.cdb_show.proofs.SpelledInputs.{GaveSpelled, spelled_all, spelled_begins, spelled_behind, spelled_each, spelled_fault, spelled_more, spelled_none, spelled_past}

-- ---- the records that a buffer is filled with

puts_of : {F L : Type 0} (g : ℕ) (feed : F → Feed) (removals : Bool) (t u : FormReader F L) (rs : List KeyValue) → fed.GivesItems Spells g feed t u rs → GivesPuts g feed (Form t removals) (Form u removals) rs
puts_of g feed true t u rs h = h
puts_of g feed false t u rs h = h

pub form_fills : {F L : Type 0} (g : ℕ) (feed : F → Feed) (removals : Bool) (old : ItemReader F L) (t u : FormReader F L) (w top : ℕ) (into filled : List ℕ) (from : ℕ) (f : Filled) → old ≡ Form t removals → Fills (fed.GivesItems Spells g feed t u) w top into filled from f
    → Fills (GivesPuts g feed old (Form u removals)) w top into filled from f
form_fills g feed removals old t u w top into filled from f e fills = rw e (fills_as _ (GivesPuts g feed (Form t removals) (Form u removals)) w top into filled from f fills (puts_of g feed removals t u fills.records fills.come))

-- ---- what a reader of a text of either form answered

-- the text is of either form, as it was when its reader was the first one
pub record AmidForm {F L : Type 0} (g : ℕ) (feed : F → Feed) (removals : Bool) (first : ItemReader F L) (now : FormReader F L) (key : List ℕ) (vlen : ℕ) (got : List ℕ) : Type 0 where
  pub text : FormReader F L
  pub is : first ≡ Form text removals
  pub amid : long.AmidValue g feed text now key vlen got

module _ {F L : Type 0} (g : ℕ) (feed : F → Feed) where
  fails_in : (removals : Bool) (t u : FormReader F L) (f : TextFault) → fed.FailsAs removals g feed t u f → Fails g feed (Form t removals) (Form u removals) f
  fails_in true t u f h = h
  fails_in false t u f h = h

  pub form_fails : {X : Type 0} (removals : Bool) (old : ItemReader F L) (t u : FormReader F L) (result : Result X TextFault) → old ≡ Form t removals → IfErr result (fed.FailsAs removals g feed t u) → IfErr result (Fails g feed old (Form u removals))
  form_fails removals old t u (Ok x) e h = tt
  form_fails removals old t u (Err fault) e h = rw e (fails_in removals t u fault h)

  put_in : (removals : Bool) (t u : FormReader F L) (r : KeyValue) → fed.GivesItem SpellsChange g feed t u (Putting r) → GivesItem g feed (Form t removals) (Form u removals) (Putting r)
  put_in true t u r h = h
  put_in false t u r h = put_gives g feed t u r h

  pub form_puts : {X : Type 0} (removals : Bool) (old : ItemReader F L) (t u : FormReader F L) (result : Result X TextFault) (r : KeyValue) → old ≡ Form t removals → OnOk result (fed.GivesItem SpellsChange g feed t u (Putting r)) → OnOk result (GivesItem g feed old (Form u removals) (Putting r))
  form_puts removals old t u (Ok x) r e h = rw e (put_in removals t u r h)
  form_puts removals old t u (Err fault) r e h = tt

  amid_as : (removals : Bool) (t u : FormReader F L) (key : List ℕ) (vlen : ℕ) (got : List ℕ) → long.AmidValue g feed t u key vlen got → AmidValue g feed (Form t removals) (Form u removals) key vlen got
  amid_as true t u key vlen got h = h
  amid_as false t u key vlen got h = h

  pub form_amid : (removals : Bool) (first : ItemReader F L) (t u : FormReader F L) (key : List ℕ) (vlen : ℕ) (got : List ℕ) → first ≡ Form t removals → long.AmidValue g feed t u key vlen got → AmidValue g feed first (Form u removals) key vlen got
  form_amid removals first t u key vlen got e h = rw e (amid_as removals t u key vlen got h)

  -- ---- a value is left of a text of either form, and of no map text

  amid_in : (removals : Bool) (first : ItemReader F L) (t : FormReader F L) (key : List ℕ) (vlen : ℕ) (got : List ℕ) → AmidValue g feed first (Form t removals) key vlen got → AmidForm g feed removals first t key vlen got
  amid_in true (Form s true) t key vlen got h = record { text = s; is = refl; amid = h }
  amid_in false (Form s false) t key vlen got h = record { text = s; is = refl; amid = h }
  amid_in removals first t key vlen got h = absurd h

  pub amid_form : (removals : Bool) (first now : ItemReader F L) (t : FormReader F L) (key : List ℕ) (vlen : ℕ) (got : List ℕ) → now ≡ Form t removals → AmidValue g feed first now key vlen got → AmidForm g feed removals first t key vlen got
  amid_form removals first now t key vlen got e h = amid_in removals first t key vlen got (rw e at h)

  not_in_map : (first : ItemReader F L) (t : MapReader F) (key : List ℕ) (vlen : ℕ) (got : List ℕ) → AmidValue g feed first (Map t) key vlen got → ⊥
  not_in_map (Form s true) t key vlen got h = h
  not_in_map (Form s false) t key vlen got h = h
  not_in_map (Map s) t key vlen got h = h

  pub amid_no_map : (first now : ItemReader F L) (t : MapReader F) (key : List ℕ) (vlen : ℕ) (got : List ℕ) → now ≡ Map t → AmidValue g feed first now key vlen got → ⊥
  amid_no_map first now t key vlen got e h = not_in_map first t key vlen got (rw e at h)

-- ---- the items so far

-- it gave these items so far
abbrev pub GaveItems : {F L : Type 0} → ℕ → (F → Feed) → Feed → ItemReader F L → List Change → Type 0
GaveItems g feed start (Form t true) items = fed.IsGoing t × GaveSpelled SpellsChange g feed start t.source items
GaveItems g feed start (Form t false) items = (given : List KeyValue) × (items ≡ map Putting given) × fed.IsGoing t × GaveSpelled Spells g feed start t.source given
GaveItems g feed start (Map t) items = (given : List KeyValue) × (items ≡ map Putting given) × GaveLines feed start t given

module _ {F L : Type 0} (g : ℕ) (feed : F → Feed) where
  pub items_none : (t : ItemReader F L) → IsNew t → GaveItems g feed (feed (reader_of t)) t []
  items_none (Form t true) new = (new.going, spelled_none SpellsChange g feed t.source new.taken new.asks)
  items_none (Form t false) new = ([], refl, new.going, spelled_none Spells g feed t.source new.taken new.asks)
  items_none (Map t) new = ([], refl, lines_none feed t new.going new.taken new.asks)

  pub items_more : (start : Feed) (t u : ItemReader F L) (items : List Change) (c : Change) → GaveItems g feed start t items → GivesItem g feed t u c → GaveItems g feed start u (items ++ c ∷ [])
  items_more start (Form t true) (Form u true) items c h m = (m.going, spelled_more SpellsChange g feed start t.source u.source items c h.1 m.reads m.spends)
  items_more start (Form t false) (Form u false) items (Putting r) h m = (h.0 ++ r ∷ [], more_puts items h.0 (r ∷ []) h.1, m.going, spelled_more Spells g feed start t.source u.source h.0 r h.3 m.reads m.spends)
  items_more start (Map t) (Map u) items (Putting r) h m = (h.0 ++ r ∷ [], more_puts items h.0 (r ∷ []) h.1, lines_more feed start t u h.0 r h.2 m)
  items_more start t u items c h m = absurd m

  pub items_fewer : (t u : ItemReader F L) (c : Change) → GivesItem g feed t u c → asks_left u < asks_left t
  items_fewer (Form t true) (Form u true) c m = m.fewer
  items_fewer (Form t false) (Form u false) (Putting r) m = m.fewer
  items_fewer (Map t) (Map u) (Putting r) m = m.fewer
  items_fewer t u c m = absurd m

  pub items_form : (t u : ItemReader F L) (c : Change) → GivesItem g feed t u c → form_of u ≡ form_of t
  items_form (Form t true) (Form u true) c m = refl
  items_form (Form t false) (Form u false) (Putting r) m = refl
  items_form (Map t) (Map u) (Putting r) m = refl
  items_form t u c m = absurd m

  -- ---- some records more

  pub items_each : (start : Feed) (t u : ItemReader F L) (items : List Change) (rs : List KeyValue) → GaveItems g feed start t items → GivesPuts g feed t u rs → GaveItems g feed start u (items ++ map Putting rs)
  items_each start (Form t true) (Form u true) items rs h m = (m.going ∙ h.0, spelled_each SpellsChange g feed start t.source u.source items (map Putting rs) m.text h.1 (spelled_puts g rs m.text [] m.spelled) m.takes m.spends)
  items_each start (Form t false) (Form u false) items rs h m = (h.0 ++ rs, more_puts items h.0 rs h.1, m.going ∙ h.2, spelled_each Spells g feed start t.source u.source h.0 rs m.text h.3 m.spelled m.takes m.spends)
  items_each start (Map t) (Map u) items rs h m = (h.0 ++ rs, more_puts items h.0 rs h.1, lines_each feed start t u h.0 rs h.2 m)
  items_each start t u items rs h m = absurd m

  pub puts_fewer : (t u : ItemReader F L) (rs : List KeyValue) → GivesPuts g feed t u rs → asks_left u + length rs ≤ asks_left t
  puts_fewer (Form t true) (Form u true) rs m = m.fewer
  puts_fewer (Form t false) (Form u false) rs m = m.fewer
  puts_fewer (Map t) (Map u) rs m = m.fewer
  puts_fewer t u rs m = absurd m

  pub puts_form : (t u : ItemReader F L) (rs : List KeyValue) → GivesPuts g feed t u rs → form_of u ≡ form_of t
  puts_form (Form t true) (Form u true) rs m = refl
  puts_form (Form t false) (Form u false) rs m = refl
  puts_form (Map t) (Map u) rs m = refl
  puts_form t u rs m = absurd m

  -- ---- a value that is left

  -- it still begins with these items, whatever was read of a value after them
  pub items_amid : (start : Feed) (t u : ItemReader F L) (items : List Change) (key : List ℕ) (vlen : ℕ) (got : List ℕ) → GaveItems g feed start t items → AmidValue g feed t u key vlen got → FromTo start (feed (reader_of u)) (λ text rest. BeginsWithItems (form_of t) g items text)
  items_amid start (Form t true) (Form u true) items key vlen got h m = spelled_past SpellsChange g feed start t.source u.source items (m.front ++ got) h.1 m.read
  items_amid start (Form t false) (Form u false) items key vlen got h m =
      from_weaker start (feed u.source.reader) (λ text rest. InputsBeginWith style.Native g h.0 text) (λ text rest. BeginsWithItems (Puts style.Native) g items text) (spelled_past Spells g feed start t.source u.source h.0 (m.front ++ got) h.3 m.read) (λ text rest is. (h.0, h.1, is))
  items_amid start t u items key vlen got h m = absurd m

  -- ---- the end, and how far it is

  pub items_all : (start : Feed) (t u : ItemReader F L) (items : List Change) → GaveItems g feed start t items → GivesEnd feed t u → FromTo start (feed (reader_of u)) (IsInputOf (form_of t) g items)
  items_all start (Form t true) (Form u true) items h m = spelled_all SpellsChange g feed start t.source u.source items h.1 (m.newline h.0)
  items_all start (Form t false) (Form u false) items h m =
      from_weaker start (feed u.source.reader) (IsInput style.Native g h.0) (IsInputOf (Puts style.Native) g items) (spelled_all Spells g feed start t.source u.source h.0 h.3 (m.newline h.2)) (λ text rest is. (h.0, h.1, is))
  items_all start (Map t) (Map u) items h m =
      from_weaker start (feed u.source.reader) (IsInput style.Map g h.0) (IsInputOf (Puts style.Map) g items) (lines_all feed g start t u h.0 h.2 m) (λ text rest is. (h.0, h.1, is))
  items_all start t u items h m = absurd m

  pub items_begin : (start : Feed) (t : ItemReader F L) (items : List Change) → GaveItems g feed start t items → FromTo start (feed (reader_of t)) (λ text rest. BeginsWithItems (form_of t) g items text)
  items_begin start (Form t true) items h = spelled_begins SpellsChange g feed start t.source items h.1
  items_begin start (Form t false) items h =
      from_weaker start (feed t.source.reader) (λ text rest. InputsBeginWith style.Native g h.0 text) (λ text rest. BeginsWithItems (Puts style.Native) g items text) (spelled_begins Spells g feed start t.source h.0 h.3) (λ text rest is. (h.0, h.1, is))
  items_begin start (Map t) items h =
      from_weaker start (feed t.source.reader) (λ text rest. InputsBeginWith style.Map g h.0 text) (λ text rest. BeginsWithItems (Puts style.Map) g items text) (lines_begin feed g start t h.0 h.2) (λ text rest is. (h.0, h.1, is))

  -- ---- a fault

  pub items_fault : (start : Feed) (t u : ItemReader F L) (items : List Change) (f : TextFault) → ((it : F) (whole a b : List ℕ) → (feed it).may whole a → (feed it).may whole b → a ≡ b) → GaveItems g feed start t items → Fails g feed t u f → f ≢ NoMemory
      → FromTo start (feed (reader_of u)) (λ text rest. HasItemFault (form_of t) g items f text)
  items_fault start (Form t true) (Form u true) items f one h m other = spelled_fault SpellsChange g feed changes start t.source u.source items f (one t.source.reader) h.1 (m.meets h.0)
  items_fault start (Form t false) (Form u false) items f one h m other =
      from_weaker start (feed u.source.reader) (λ text rest. HasInputFault style.Native g h.0 f text) (λ text rest. HasItemFault (Puts style.Native) g items f text)
      (spelled_fault Spells g feed records start t.source u.source h.0 f (one t.source.reader) h.3 (m.meets h.2)) (λ text rest is. (h.0, h.1, is))
  items_fault start (Map t) (Map u) items f one h m other =
      from_weaker start (feed u.source.reader) (λ text rest. HasInputFault style.Map g h.0 f text) (λ text rest. HasItemFault (Puts style.Map) g items f text) (lines_fault feed g start t u h.0 f h.2 m other) (λ text rest is. (h.0, h.1, is))
  items_fault start t u items f one h m other = absurd m

  -- it still begins with these items, whatever was taken after them
  pub items_still : (start : Feed) (t u : ItemReader F L) (items : List Change) (f : TextFault) → GaveItems g feed start t items → Fails g feed t u f → FromTo start (feed (reader_of u)) (λ text rest. BeginsWithItems (form_of t) g items text)
  items_still start (Form t true) (Form u true) items f h m = spelled_behind SpellsChange g feed start t.source u.source items f h.1 (m.meets h.0)
  items_still start (Form t false) (Form u false) items f h m =
      from_weaker start (feed u.source.reader) (λ text rest. InputsBeginWith style.Native g h.0 text) (λ text rest. BeginsWithItems (Puts style.Native) g items text) (spelled_behind Spells g feed start t.source u.source h.0 f h.3 (m.meets h.2)) (λ text rest is. (h.0, h.1, is))
  items_still start (Map t) (Map u) items f h m =
      from_weaker start (feed u.source.reader) (λ text rest. InputsBeginWith style.Map g h.0 text) (λ text rest. BeginsWithItems (Puts style.Map) g items text) (lines_behind feed g start t u h.0 f h.2 m) (λ text rest is. (h.0, h.1, is))
  items_still start t u items f h m = absurd m

  -- a reader failed, if that is the fault
  pub items_told : (start : Feed) (t u : ItemReader F L) (items : List Change) (f : TextFault) → GaveItems g feed start t items → Fails g feed t u f → f ≡ Input → (feed (reader_of u)).failed
  items_told start (Form t true) (Form u true) items f h m is = (m.meets h.0).told.failed is
  items_told start (Form t false) (Form u false) items f h m is = (m.meets h.2).told.failed is
  items_told start (Map t) (Map u) items f h m is = lines_told feed start t u h.0 f h.2 m is
  items_told start t u items f h m is = absurd m

  -- a map text has none of its own
  pub items_own : (start : Feed) (t u : ItemReader F L) (items : List Change) (f : TextFault) → GaveItems g feed start t items → Fails g feed t u f → IsOfText f → HasFaults (form_of t)
  items_own start (Form t true) (Form u true) items f h m is = tt
  items_own start (Form t false) (Form u false) items f h m is = tt
  items_own start (Map t) (Map u) items f h m is = lines_own feed start t u h.0 f h.2 m is
  items_own start t u items f h m is = absurd m
