-- What a reader took of the keys of an input, whatever its form and whatever bytes agree with it.
use Rattle.cdb_show.proofs.Words.{Change, Feed, FromTo, IsOfText, KeyReader, KeyValue, List, Putting, TextFault, [], ap, append_assoc, from_weaker, map, map-append, refl, sym, ℕ, ◌++◌, ◌∙◌, ◌∷◌, ◌≡◌, ◌≢◌}
use Rattle.cdb_form.specs.Text.Parse.{ReadsKeys, SpelledKeys, SpellsKey, listed}
use Rattle.cdb_form.specs.Views.ListReader as lists
use Rattle.cdb_form.specs.declared.text.fault.TextFault.TheVariants.{Input, NoMemory}
use Rattle.cdb_form.proofs.NativeTexts.KeyTexts.{keys}
use Rattle.cdb_command.specs.declared.style.Style.TheVariants as style
use Rattle.cdb_show.specs.Runs.Inputs.{BeginsWithItems, HasFaults, HasInputFault, HasItemFault, HasKeyFault, InputsBeginWith, IsInput, IsInputOf, Lists, Puts, key_of, keys_of}
use Rattle.cdb_show.specs.Views.KeyReader.{Fails, GivesEnd, GivesKey, IsNew, form_of, reader_of}
use Rattle.cdb_show.specs.declared.runs.key_reader.KeyReader.TheVariants as reader
use Rattle.cdb_show.proofs.MapInputs.{GaveLines, lines_all, lines_begin, lines_behind, lines_fault, lines_more, lines_none, lines_own, lines_told}
use Rattle.cdb_show.proofs.SpelledInputs.{GaveSpelled, spelled_all, spelled_begins, spelled_behind, spelled_fault, spelled_more, spelled_none}

-- it gave the keys of these items so far
abbrev pub GaveKeys : {F L : Type 0} → ℕ → (F → Feed) → Feed → KeyReader F L → List Change → Type 0
GaveKeys g feed start (reader.List t) items = (listing : List (List ℕ)) × (items ≡ map listed listing) × lists.IsGoing t × GaveSpelled SpellsKey g feed start t.source listing
GaveKeys g feed start (reader.Map t) items = (given : List KeyValue) × (items ≡ map Putting given) × GaveLines feed start t given

-- ---- one key more

-- an item with this key follows these items, which its reader gave
pub record OneMore {F L : Type 0} (g : ℕ) (feed : F → Feed) (start : Feed) (u : KeyReader F L) (items : List Change) (key : List ℕ) : Type 0 where
  pub item : Change
  pub has : key_of item ≡ key
  pub gave : GaveKeys g feed start u (items ++ item ∷ [])

pub keys_push : (items : List Change) (item : Change) (key : List ℕ) → key_of item ≡ key → keys_of (items ++ item ∷ []) ≡ keys_of items ++ key ∷ []
keys_push items item key e = map-append key_of items (item ∷ []) ∙ ap (λ k. keys_of items ++ k ∷ []) e

-- after these keys
pub keys_behind : (before : List (List ℕ)) (items : List Change) (item : Change) (key : List ℕ) → key_of item ≡ key → (before ++ keys_of items) ++ key ∷ [] ≡ before ++ keys_of (items ++ item ∷ [])
keys_behind before items item key e = append_assoc before (keys_of items) (key ∷ []) ∙ ap (λ k. before ++ k) (sym (keys_push items item key e))

pub more_puts : (items : List Change) (given rs : List KeyValue) → items ≡ map Putting given → items ++ map Putting rs ≡ map Putting (given ++ rs)
more_puts items given rs e = ap (λ cs. cs ++ map Putting rs) e ∙ sym (map-append Putting given rs)

more_listed : (items : List Change) (listing : List (List ℕ)) (key : List ℕ) → items ≡ map listed listing → items ++ listed key ∷ [] ≡ map listed (listing ++ key ∷ [])
more_listed items listing key e = ap (λ cs. cs ++ listed key ∷ []) e ∙ sym (map-append listed listing (key ∷ []))

module _ {F L : Type 0} (g : ℕ) (feed : F → Feed) where
  pub keys_none : (t : KeyReader F L) → IsNew t → GaveKeys g feed (feed (reader_of t)) t []
  keys_none (reader.List t) new = ([], refl, new.going, spelled_none SpellsKey g feed t.source new.taken new.asks)
  keys_none (reader.Map t) new = ([], refl, lines_none feed t new.going new.taken new.asks)

  pub keys_more : (start : Feed) (t u : KeyReader F L) (items : List Change) (key : List ℕ) → GaveKeys g feed start t items → GivesKey g feed t u key → OneMore g feed start u items key
  keys_more start (reader.List t) (reader.List u) items key h m = record {
    item = listed key;
    has = refl;
    gave = (h.0 ++ key ∷ [], more_listed items h.0 key h.1, m.going, spelled_more SpellsKey g feed start t.source u.source h.0 key h.3 m.reads m.spends);
  }
  keys_more start (reader.Map t) (reader.Map u) items key h m = record {
    item = Putting m.given;
    has = m.has;
    gave = (h.0 ++ m.given ∷ [], more_puts items h.0 (m.given ∷ []) h.1, lines_more feed start t u h.0 m.given h.2 m.gives);
  }
  keys_more start t u items key h m = absurd m

  pub same_form : (t u : KeyReader F L) (key : List ℕ) → GivesKey g feed t u key → form_of u ≡ form_of t
  same_form (reader.List t) (reader.List u) key m = refl
  same_form (reader.Map t) (reader.Map u) key m = refl
  same_form t u key m = absurd m

  -- ---- the end, and how far it is

  pub keys_all : (start : Feed) (t u : KeyReader F L) (items : List Change) → GaveKeys g feed start t items → GivesEnd feed t u → FromTo start (feed (reader_of u)) (IsInputOf (form_of t) g items)
  keys_all start (reader.List t) (reader.List u) items h m =
      from_weaker start (feed u.source.reader) (ReadsKeys g h.0) (IsInputOf Lists g items) (spelled_all SpellsKey g feed start t.source u.source h.0 h.3 (m.newline h.2)) (λ text rest is. (h.0, h.1, is))
  keys_all start (reader.Map t) (reader.Map u) items h m =
      from_weaker start (feed u.source.reader) (IsInput style.Map g h.0) (IsInputOf (Puts style.Map) g items) (lines_all feed g start t u h.0 h.2 m) (λ text rest is. (h.0, h.1, is))
  keys_all start t u items h m = absurd m

  pub keys_begin : (start : Feed) (t : KeyReader F L) (items : List Change) → GaveKeys g feed start t items → FromTo start (feed (reader_of t)) (λ text rest. BeginsWithItems (form_of t) g items text)
  keys_begin start (reader.List t) items h =
      from_weaker start (feed t.source.reader) (λ text rest. (more : List ℕ) × SpelledKeys g h.0 text more) (λ text rest. BeginsWithItems Lists g items text) (spelled_begins SpellsKey g feed start t.source h.0 h.3) (λ text rest is. (h.0, h.1, is))
  keys_begin start (reader.Map t) items h =
      from_weaker start (feed t.source.reader) (λ text rest. InputsBeginWith style.Map g h.0 text) (λ text rest. BeginsWithItems (Puts style.Map) g items text) (lines_begin feed g start t h.0 h.2) (λ text rest is. (h.0, h.1, is))

  -- ---- a fault

  pub keys_fault : (start : Feed) (t u : KeyReader F L) (items : List Change) (f : TextFault) → ((it : F) (whole a b : List ℕ) → (feed it).may whole a → (feed it).may whole b → a ≡ b) → GaveKeys g feed start t items → Fails g feed t u f → f ≢ NoMemory
      → FromTo start (feed (reader_of u)) (λ text rest. HasItemFault (form_of t) g items f text)
  keys_fault start (reader.List t) (reader.List u) items f one h m other =
      from_weaker start (feed u.source.reader) (λ text rest. HasKeyFault g h.0 f text) (λ text rest. HasItemFault Lists g items f text) (spelled_fault SpellsKey g feed keys start t.source u.source h.0 f (one t.source.reader) h.3 (m.meets h.2)) (λ text rest is. (h.0, h.1, is))
  keys_fault start (reader.Map t) (reader.Map u) items f one h m other =
      from_weaker start (feed u.source.reader) (λ text rest. HasInputFault style.Map g h.0 f text) (λ text rest. HasItemFault (Puts style.Map) g items f text) (lines_fault feed g start t u h.0 f h.2 m other) (λ text rest is. (h.0, h.1, is))
  keys_fault start t u items f one h m other = absurd m

  -- it still begins with the keys of these items, whatever was taken after them
  pub keys_still : (start : Feed) (t u : KeyReader F L) (items : List Change) (f : TextFault) → GaveKeys g feed start t items → Fails g feed t u f → FromTo start (feed (reader_of u)) (λ text rest. BeginsWithItems (form_of t) g items text)
  keys_still start (reader.List t) (reader.List u) items f h m =
      from_weaker start (feed u.source.reader) (λ text rest. (more : List ℕ) × SpelledKeys g h.0 text more) (λ text rest. BeginsWithItems Lists g items text) (spelled_behind SpellsKey g feed start t.source u.source h.0 f h.3 (m.meets h.2)) (λ text rest is. (h.0, h.1, is))
  keys_still start (reader.Map t) (reader.Map u) items f h m =
      from_weaker start (feed u.source.reader) (λ text rest. InputsBeginWith style.Map g h.0 text) (λ text rest. BeginsWithItems (Puts style.Map) g items text) (lines_behind feed g start t u h.0 f h.2 m) (λ text rest is. (h.0, h.1, is))
  keys_still start t u items f h m = absurd m

  -- a reader failed, if that is the fault
  pub keys_told : (start : Feed) (t u : KeyReader F L) (items : List Change) (f : TextFault) → GaveKeys g feed start t items → Fails g feed t u f → f ≡ Input → (feed (reader_of u)).failed
  keys_told start (reader.List t) (reader.List u) items f h m is = (m.meets h.2).told.failed is
  keys_told start (reader.Map t) (reader.Map u) items f h m is = lines_told feed start t u h.0 f h.2 m is
  keys_told start t u items f h m is = absurd m

  -- a map text has none of its own
  pub keys_own : (start : Feed) (t u : KeyReader F L) (items : List Change) (f : TextFault) → GaveKeys g feed start t items → Fails g feed t u f → IsOfText f → HasFaults (form_of t)
  keys_own start (reader.List t) (reader.List u) items f h m is = tt
  keys_own start (reader.Map t) (reader.Map u) items f h m is = lines_own feed start t u h.0 f h.2 m is
  keys_own start t u items f h m is = absurd m
