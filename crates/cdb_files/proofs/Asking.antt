-- The values of a key that were written, and those that are left.
use Rattle.std.proofs.Common.{◌≡◌, ◌<◌, ◌≤◌, ◌+◌, ◌^◌, ◌⊎◌, ℕ, arith, List, [], ◌∷◌, ◌++◌, flat_map, map, refl, sym, ap, subst, ◌∙◌, append_assoc, Option, Some, None}
use Rattle.std.proofs.lemmas.List.{append-nil}
use Rattle.std.proofs.lemmas.List.Concat.{flat_map-append}
use Rattle.std.proofs.lemmas.List.Elements.{recursion_from_All}
use Rattle.std.specs.List.{concat, All}
use Rattle.std.specs.Io.KnownBytes.{Appends}
use Rattle.cdb_store.specs.declared.store.Store.{Ghosts}
use Rattle.cdb_form.specs.Format.{file_bytes, file_size, KeyValue, IsRecord}
use Rattle.cdb_form.specs.Views.KnownBytes.{AppendsPrefix}
use Rattle.cdb_form.specs.declared.damage.Damage.{Damage}
use Rattle.cdb_form.specs.declared.width.Width.{Ghosts as Widths}
use Rattle.cdb_form.proofs.Bytes.WritingLemmas.{appends_then, prefix_then}
use Rattle.cdb_make.specs.Views.Maker.{Holds, made_size}
use Rattle.cdb_make.specs.declared.maker.Maker.{Maker}
use Rattle.cdb_make.proofs.Appends.{held_are, held_size, made_within}
use Rattle.cdb_read.proofs.WholeFiles.LookupLaws.{finds_values}
use Rattle.cdb_read.specs.Laws.{FindsValues}
use Rattle.cdb_read.specs.Lookup.{Found, nothing_found, found_damaged, with_span, with_spans, bytes_of, lookup_of, values_of}
use Rattle.cdb_read.specs.Views.Finder.{left_in, FindingFails}
use Rattle.cdb_store.specs.Reads.{OnlyReads}
use Rattle.cdb_read.specs.Views.Reads.{CopyingFails}
use Rattle.cdb_read.specs.Views.Search.{found_ahead}
use Rattle.cdb_read.specs.declared.fault.ReadFault.{ReadFault}
use Rattle.cdb_read.specs.declared.fault.ReadFault.TheVariants.{Short, Table, Record, Slot, Twice, Unindexed, Device, NoMemory, Output}
use Rattle.cdb_read.specs.declared.lookup.finder.Finder.{Finder}
use Rattle.cdb_read.specs.declared.span.Span.{Span}

-- in each image these spans are the first of the look-up, and their bytes were written
pub record AskedSoFar (w : ℕ) (key : List ℕ) (old new : List ℕ → Type 0) (left : List ℕ → Found) (start now : Option (List ℕ)) : Type 0 where
  pub spans : List Span
  pub images : (b : List ℕ) → new b → old b
  pub first : (b : List ℕ) → new b → lookup_of w b key ≡ with_spans spans (left b)
  pub written : (b : List ℕ) → new b → Appends start now (flat_map (bytes_of b) spans)

appends_none : (o : Option (List ℕ)) → Appends o o []
appends_none None = tt
appends_none (Some xs) = sym (append-nil xs)

pub asked_none : (w : ℕ) (key : List ℕ) (images : List ℕ → Type 0) (left : List ℕ → Found) (start : Option (List ℕ)) → ((b : List ℕ) → images b → left b ≡ lookup_of w b key) → AskedSoFar w key images images left start start
asked_none w key images left start finds = record { spans = []; images = λ b is. is; first = λ b is. sym (finds b is); written = λ b is. appends_none start }

-- what is left stays if key and search do
pub same_left : {S L : Type 0} {s : Ghosts S} {l : Widths L} (w : ℕ) (b : List ℕ) (t u : Finder S L s l) → u.key.now ≡ t.key.now → u.searching ≡ t.searching → left_in w b t ≡ left_in w b u
same_left w b t u key searching = sym (ap (λ k. found_ahead w b k u.searching) key ∙ ap (found_ahead w b t.key.now) searching)

-- one value more
pub asked_more : (w : ℕ) (key : List ℕ) (old mid new : List ℕ → Type 0) (left rest : List ℕ → Found) (start now end : Option (List ℕ)) (span : Span) → AskedSoFar w key old mid left start now → ((b : List ℕ) → new b → mid b)
    → ((b : List ℕ) → new b → left b ≡ with_span span (rest b)) → ((b : List ℕ) → new b → Appends now end (bytes_of b span)) → AskedSoFar w key old new rest start end
asked_more w key old mid new left rest start now end span h fewer gives copied = record {
  spans = h.spans ++ span ∷ [];
  images = λ b is. h.images b (fewer b is);
  first = λ b is.
      h.first b (fewer b is) ∙ ap (with_spans h.spans) (gives b is)
      ∙ ap (λ s. record { spans = s; damage = (rest b).damage }) (sym (append_assoc h.spans (span ∷ []) (rest b).spans));
  written = λ b is.
      subst (Appends start end) (sym (flat_map-append (bytes_of b) h.spans (span ∷ []) ∙ ap (λ t. flat_map (bytes_of b) h.spans ++ t) (append-nil (bytes_of b span))))
      (appends_then start now end _ _ (h.written b (fewer b is)) (copied b is));
}

joined : (b : List ℕ) (spans : List Span) → flat_map (bytes_of b) spans ≡ concat (map (bytes_of b) spans)
joined b [] = refl
joined b (s ∷ spans) = ap (λ t. bytes_of b s ++ t) (joined b spans)

-- the law of look-ups, for a file within the greatest size
pub finds_within : (w top greatest : ℕ) (rs : List KeyValue) (key : List ℕ) → (w ≡ 4) ⊎ (w ≡ 8) → top + 1 ≡ 256 ^ w → greatest ≤ top → All IsRecord rs → file_size w rs ≤ greatest → FindsValues w rs key
finds_within w top greatest rs key width top_is within are room = finds_values w top rs key (record { width = width; top_is = top_is; records = recursion_from_All IsRecord rs are; room = omega arith })

-- in the file of some records the values are those at these spans and at the ones that are left
values_split : (w : ℕ) (key : List ℕ) (rs : List KeyValue) (b : List ℕ) (spans : List Span) (rest : Found) → lookup_of w b key ≡ with_spans spans rest → b ≡ file_bytes w rs → FindsValues w rs key
    → concat (values_of key rs) ≡ flat_map (bytes_of b) spans ++ flat_map (bytes_of b) rest.spans
values_split w key rs b spans rest first file law =
    let values : map (bytes_of b) (lookup_of w b key).spans ≡ values_of key rs = subst (λ v. map (bytes_of v) (lookup_of w v key).spans ≡ values_of key rs) (sym file) law.values in
    sym (ap concat values) ∙ sym (joined b (lookup_of w b key).spans) ∙ ap (λ (f : Found). flat_map (bytes_of b) f.spans) first ∙ flat_map-append (bytes_of b) spans rest.spans

pub asked_all : (w : ℕ) (key : List ℕ) (rs : List KeyValue) (old new : List ℕ → Type 0) (left : List ℕ → Found) (start now : Option (List ℕ)) (b : List ℕ) → AskedSoFar w key old new left start now → new b → left b ≡ nothing_found → b ≡ file_bytes w rs
    → FindsValues w rs key → Appends start now (concat (values_of key rs))
asked_all w key rs old new left start now b h is none file law =
    let all = values_split w key rs b h.spans (left b) (h.first b is) file law in
    subst (Appends start now) (sym (all ∙ ap (λ (f : Found). flat_map (bytes_of b) h.spans ++ flat_map (bytes_of b) f.spans) none ∙ append-nil (flat_map (bytes_of b) h.spans))) (h.written b is)

-- and so far a prefix of them was written
pub asked_prefix : (w : ℕ) (key : List ℕ) (rs : List KeyValue) (old new : List ℕ → Type 0) (left : List ℕ → Found) (start now : Option (List ℕ)) (b : List ℕ) → AskedSoFar w key old new left start now → new b → b ≡ file_bytes w rs
    → FindsValues w rs key → AppendsPrefix start now (concat (values_of key rs))
asked_prefix w key rs old new left start now b h is file law =
    record { front = flat_map (bytes_of b) h.spans; more = flat_map (bytes_of b) (left b).spans; split = values_split w key rs b h.spans (left b) (h.first b is) file law; appended = h.written b is }

-- also if the next of them was not written whole
pub copied_prefix : (w : ℕ) (key : List ℕ) (rs : List KeyValue) (old new : List ℕ → Type 0) (left rest : List ℕ → Found) (start now end : Option (List ℕ)) (b : List ℕ) (span : Span) → AskedSoFar w key old new left start now → new b → left b ≡ with_span span (rest b)
    → AppendsPrefix now end (bytes_of b span) → b ≡ file_bytes w rs → FindsValues w rs key → AppendsPrefix start end (concat (values_of key rs))
copied_prefix w key rs old new left rest start now end b span h is gives front file law =
    prefix_then start now end (flat_map (bytes_of b) h.spans) (bytes_of b span) (flat_map (bytes_of b) (rest b).spans) (concat (values_of key rs)) (h.written b is) front
    (values_split w key rs b h.spans (left b) (h.first b is) file law ∙ ap (λ (f : Found). flat_map (bytes_of b) h.spans ++ flat_map (bytes_of b) f.spans) gives)

-- and none of it is damaged
no_damage : (w : ℕ) (key : List ℕ) (rs : List KeyValue) (old new : List ℕ → Type 0) (left : List ℕ → Found) (start now : Option (List ℕ)) (b : List ℕ) (d : Damage) → AskedSoFar w key old new left start now → new b → left b ≡ found_damaged d → b ≡ file_bytes w rs
    → FindsValues w rs key → ⊥
no_damage w key rs old new left start now b d h is damaged file law =
    let some : (lookup_of w b key).damage ≡ Some d = ap (λ f. f.damage) (h.first b is ∙ ap (with_spans h.spans) damaged) in
    let none : (lookup_of w b key).damage ≡ None = subst (λ v. (lookup_of w v key).damage ≡ None) (sym file) law.sound in
    let no_one : None ≡ Some d = sym none ∙ some in
    cc

-- so a finder fails only if its store does
pub finder_fails : {S L : Type 0} {s : Ghosts S} {l : Widths L} (w : ℕ) (key : List ℕ) (rs : List KeyValue) (old : List ℕ → Type 0) (start now : Option (List ℕ)) (first : S) (t u : Finder S L s l) (b : List ℕ) (f : ReadFault)
    → AskedSoFar w key old (s.image t.reader.now.store) (λ x. left_in w x t) start now → OnlyReads s first t.reader.now.store → s.image t.reader.now.store b → s.image u.reader.now.store b → FindingFails w t u f → b ≡ file_bytes w rs → FindsValues w rs key
    → CopyingFails s first u.reader.now.store f
finder_fails {s = s} w key rs old start now first t u b Device h reads was is fails file law =
    let before = reads.failures in
    let failed : s.failures t.reader.now.store < s.failures u.reader.now.store = fails.1 in
    omega arith
finder_fails {s = s} w key rs old start now first t u b (Table n) h reads was is fails file law = absurd (no_damage w key rs old (s.image t.reader.now.store) (λ x. left_in w x t) start now b _ h was (fails.1 b is) file law)
finder_fails {s = s} w key rs old start now first t u b (Record place) h reads was is fails file law = absurd (no_damage w key rs old (s.image t.reader.now.store) (λ x. left_in w x t) start now b _ h was (fails.1 b is) file law)
finder_fails w key rs old start now first t u b Short h reads was is fails file law = absurd fails
finder_fails w key rs old start now first t u b (Slot n i) h reads was is fails file law = absurd fails
finder_fails w key rs old start now first t u b (Twice place) h reads was is fails file law = absurd fails
finder_fails w key rs old start now first t u b (Unindexed place) h reads was is fails file law = absurd fails
finder_fails w key rs old start now first t u b NoMemory h reads was is fails file law = absurd fails
finder_fails w key rs old start now first t u b Output h reads was is fails file law = absurd fails

-- a store that is not read yet
pub reads_none : {S : Type 0} {s : Ghosts S} (a : S) → OnlyReads s a a
reads_none a = record { images = λ b is. is; size = refl; written = refl; room = omega arith; failures = omega arith; unwritten = omega arith }

-- the records of a maker make a file within the greatest size
pub held_within : {S L : Type 0} {s : Ghosts S} {l : Widths L} (m : Maker S L s l) (rs : List KeyValue) (b : List ℕ) → (l.WORD ≡ 4) ⊎ (l.WORD ≡ 8) → s.image m.store b → Holds m rs → All IsRecord rs × (file_size l.WORD rs ≤ l.GREATEST)
held_within {l = l} m rs b w is h =
    let size : made_size m ≡ file_size l.WORD rs = held_size m rs b w h is in
    (held_are m rs b h is, omega (arith, size, made_within m, m.within, m.limited))
