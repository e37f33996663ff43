-- Values of two files that are compared, one by one.
use Rattle.cdb_read.proofs.DifferenceWords.{Bool, Finder, Found, Ghosts, List, OnlyReads, Span, [], ap, bytes_eq, bytes_eq-Decides, bytes_of, false, map, nothing_found, part, refl, sym, true, values_eq, with_span, ℕ, ◌&&◌, ◌++◌, ◌+◌, ◌∙◌, ◌∷◌, ◌≡◌, ◌≢◌, ◌≤◌}
use Rattle.std.proofs.lemmas.Bool.{and_left}
use Rattle.cdb_store.proofs.Parts.{part_add, part_part}
use Rattle.cdb_form.specs.declared.width.Width.{Ghosts as Widths}
use Rattle.cdb_read.specs.Views.Finder.{left_in, GivesSpan}
use Rattle.cdb_read.specs.Views.Search.{found_ahead}

-- ---- the bytes of two values

-- a piece more that is the same
pub same_more : (x y done n : ℕ) (b c : List ℕ) → part x done b ≡ part y done c → part (x + done) n b ≡ part (y + done) n c → part x (done + n) b ≡ part y (done + n) c
same_more x y done n b c before piece =
    part_add x done n b ∙ ap (λ t. t ++ part (x + done) n b) before ∙ ap (λ t. part y done c ++ t) piece ∙ sym (part_add y done n c)

-- a piece that differs
pub piece_differs : (x y len done n : ℕ) (b c : List ℕ) → done + n ≤ len → part (x + done) n b ≢ part (y + done) n c → part x len b ≢ part y len c
piece_differs x y len done n b c inside other same = other (sym (part_part x len done n b inside) ∙ ap (part done n) same ∙ part_part y len done n c inside)

-- ---- values, one by one

abbrev values_in : List ℕ → List Span → List (List ℕ)
values_in b spans = map (bytes_of b) spans

-- whether the values are the same is whether those are that are left
pub record Compared (b c : List ℕ) (first value : Span) (all left all_others others : Found) : Type 0 where
  pub same : values_eq (values_in b (first ∷ all.spans)) (values_in c all_others.spans) ≡ values_eq (values_in b (value ∷ left.spans)) (values_in c others.spans)

-- both have one more, and they are the same
one_same : (b c : List ℕ) (value with : Span) (us vs : List (List ℕ)) → bytes_of b value ≡ bytes_of c with → values_eq (bytes_of b value ∷ us) (bytes_of c with ∷ vs) ≡ values_eq us vs
unfolding values_eq
one_same b c value with us vs same = ap (λ t. t && values_eq us vs) ((bytes_eq-Decides (bytes_of b value) (bytes_of c with)).1 same)

both_had : (b c : List ℕ) (first value with : Span) (all left all_others others more : Found) → Compared b c first value all left all_others others → others ≡ with_span with more → bytes_of b value ≡ bytes_of c with
    → values_eq (values_in b (first ∷ all.spans)) (values_in c all_others.spans) ≡ values_eq (values_in b left.spans) (values_in c more.spans)
both_had b c first value with all left all_others others more h is same =
    h.same ∙ ap (λ (f : Found). values_eq (values_in b (value ∷ left.spans)) (values_in c f.spans)) is ∙ one_same b c value with (values_in b left.spans) (values_in c more.spans) same

pub compared_more : (b c : List ℕ) (first value with next : Span) (all left rest all_others others more : Found) → Compared b c first value all left all_others others → others ≡ with_span with more → bytes_of b value ≡ bytes_of c with → left ≡ with_span next rest
    → Compared b c first next all rest all_others more
compared_more b c first value with next all left rest all_others others more h is same then =
    record { same = both_had b c first value with all left all_others others more h is same ∙ ap (λ (f : Found). values_eq (values_in b f.spans) (values_in c more.spans)) then }

-- the one has no more
pub own_ended : (b c : List ℕ) (first value with : Span) (all left all_others others more : Found) → Compared b c first value all left all_others others → others ≡ with_span with more → bytes_of b value ≡ bytes_of c with → left ≡ nothing_found
    → values_eq [] (values_in c more.spans) ≡ values_eq (values_in b (first ∷ all.spans)) (values_in c all_others.spans)
own_ended b c first value with all left all_others others more h is same none =
    sym (both_had b c first value with all left all_others others more h is same ∙ ap (λ (f : Found). values_eq (values_in b f.spans) (values_in c more.spans)) none)

-- the other has no more
pub other_ended : (b c : List ℕ) (first value : Span) (all left all_others others : Found) → Compared b c first value all left all_others others → others ≡ nothing_found → false ≡ values_eq (values_in b (first ∷ all.spans)) (values_in c all_others.spans)
unfolding values_eq
other_ended b c first value all left all_others others h none = sym (h.same ∙ ap (λ (f : Found). values_eq (values_in b (value ∷ left.spans)) (values_in c f.spans)) none)

-- two differ
pub one_differs : (b c : List ℕ) (first value with : Span) (all left all_others others more : Found) → Compared b c first value all left all_others others → others ≡ with_span with more → bytes_of b value ≢ bytes_of c with
    → false ≡ values_eq (values_in b (first ∷ all.spans)) (values_in c all_others.spans)
unfolding values_eq
one_differs b c first value with all left all_others others more h is other =
    sym (h.same ∙ ap (λ (f : Found). values_eq (values_in b (value ∷ left.spans)) (values_in c f.spans)) is
    ∙ and_left (bytes_eq (bytes_of b value) (bytes_of c with)) (values_eq (values_in b left.spans) (values_in c more.spans)) (no (bytes_eq (bytes_of b value) (bytes_of c with)) (λ t. other ((bytes_eq-Decides (bytes_of b value) (bytes_of c with)).0 t))))
  where
    no : (v : Bool) → (v ≡ true → ⊥) → v ≡ false
    no true k = absurd (k refl)
    no false k = refl

-- whether nothing is left
pub none_left : (c : List ℕ) (left : Found) → left ≡ nothing_found → true ≡ values_eq [] (values_in c left.spans)
unfolding values_eq
none_left c left none = sym (ap (λ (f : Found). values_eq [] (values_in c f.spans)) none)

pub some_left : (c : List ℕ) (left rest : Found) (span : Span) → left ≡ with_span span rest → false ≡ values_eq [] (values_in c left.spans)
unfolding values_eq
some_left c left rest span some = sym (ap (λ (f : Found). values_eq [] (values_in c f.spans)) some)

-- ---- the damage that a finder is still to report

pub record SameDamage {S L : Type 0} {s : Ghosts S} {l : Widths L} (w : ℕ) (old new : Finder S L s l) : Type 0 where
  pub each : (b : List ℕ) → s.image new.reader.now.store b → (left_in w b old).damage ≡ (left_in w b new).damage

pub damage_next : {S L : Type 0} {s : Ghosts S} {l : Widths L} (w : ℕ) (old t u : Finder S L s l) (span : Span) → SameDamage w old t → OnlyReads s t.reader.now.store u.reader.now.store → GivesSpan w t u span → SameDamage w old u
damage_next w old t u span h reads gives = record { each = λ b is. h.each b (reads.images b is) ∙ ap (λ (f : Found). f.damage) (gives.first b is) }

-- what is left stays
pub left_stays : {S L : Type 0} {s : Ghosts S} {l : Widths L} (w : ℕ) (b : List ℕ) (t u : Finder S L s l) → u.key.now ≡ t.key.now → u.searching ≡ t.searching → left_in w b u ≡ left_in w b t
left_stays w b t u same stays = ap (λ k. found_ahead w b k u.searching) same ∙ ap (found_ahead w b t.key.now) stays

pub damage_still : {S L : Type 0} {s : Ghosts S} {l : Widths L} (w : ℕ) (old t u : Finder S L s l) → SameDamage w old t → OnlyReads s t.reader.now.store u.reader.now.store → u.key.now ≡ t.key.now → u.searching ≡ t.searching → SameDamage w old u
damage_still w old t u h reads same stays = record { each = λ b is. h.each b (reads.images b is) ∙ ap (λ (f : Found). f.damage) (sym (left_stays w b t u same stays)) }
