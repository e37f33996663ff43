-- The puts of the values of a key that were written so far.
use Rattle.cdb_read.proofs.DifferenceWords.{Appends, AppendsPrefix, Change, Finder, Found, Ghosts, List, Option, Putting, Span, [], ap, append_assoc, appends_none, appends_then, bytes_of, change_line, changes_text, codes, flat_map-append, left_in, length, lookup_of, map, nothing_found, prefix_then, subst, sym, with_span, ℕ, ◌++◌, ◌∙◌, ◌∷◌, ◌≡◌}
use Rattle.std.specs.Prelude.{decimal}
use Rattle.std.proofs.lemmas.List.{append-nil, map-append}
use Rattle.cdb_form.specs.Format.{record_of}
use Rattle.cdb_form.specs.Text.Native.{spelling_of}
use Rattle.cdb_form.specs.declared.width.Width.{Ghosts as Widths}
use Rattle.cdb_read.proofs.FoundSoFar.{FoundSoFar}
use Rattle.cdb_form.specs.Text.Parse.{removal_line}
use Rattle.cdb_read.specs.Difference.{removal_of_new}
use Rattle.cdb_read.specs.Differing.{puts_at, removal_at}

-- the text of the puts of a key with the values at some spans
abbrev pub put_text : List ℕ → List ℕ → List Span → List ℕ
put_text b key spans = changes_text (map (λ value. Putting (record_of key value)) (map (bytes_of b) spans))

put_append : (b key : List ℕ) (xs ys : List Span) → put_text b key (xs ++ ys) ≡ put_text b key xs ++ put_text b key ys
put_append b key xs ys =
    let put : List ℕ → Change = λ value. Putting (record_of key value) in
    ap (λ vs. changes_text (map put vs)) (map-append (bytes_of b) xs ys)
    ∙ ap changes_text (map-append put (map (bytes_of b) xs) (map (bytes_of b) ys))
    ∙ flat_map-append change_line (map put (map (bytes_of b) xs)) (map put (map (bytes_of b) ys))

put_one : (b key : List ℕ) (span : Span) → put_text b key (span ∷ []) ≡ spelling_of (record_of key (bytes_of b span))
put_one b key span = append-nil (spelling_of (record_of key (bytes_of b span)))

-- what comes before a value of n bytes; and a put, in the parts that are written
abbrev pub put_head : List ℕ → ℕ → List ℕ
put_head key n = codes "+" ++ decimal (length key) ++ codes "," ++ decimal n ++ codes ":" ++ key ++ codes "->"

pub put_is : (key value : List ℕ) (n : ℕ) → length value ≡ n → spelling_of (record_of key value) ≡ (put_head key n ++ value) ++ codes "\n"
put_is key value n long = ap (λ k. (put_head key k ++ value) ++ codes "\n") long

-- some values were found, and put
pub record PutSoFar {S L : Type 0} {s : Ghosts S} {l : Widths L} (w : ℕ) (key : List ℕ) (old : S) (t : Finder S L s l) (start now : Option (List ℕ)) : Type 0 where
  pub spans : List Span
  pub found : FoundSoFar w (λ b. lookup_of w b key) old t spans
  pub written : (b : List ℕ) → s.image t.reader.now.store b → Appends start now (put_text b key spans)

pub put_none : {S L : Type 0} {s : Ghosts S} {l : Widths L} (w : ℕ) (key : List ℕ) (old : S) (t : Finder S L s l) (start : Option (List ℕ)) → FoundSoFar w (λ b. lookup_of w b key) old t [] → PutSoFar w key old t start start
put_none w key old t start found = record { spans = []; found = found; written = λ b is. appends_none start }

-- one more
pub put_more : {S L : Type 0} {s : Ghosts S} {l : Widths L} (w : ℕ) (key : List ℕ) (old : S) (u : Finder S L s l) (start mid now : Option (List ℕ)) (spans : List Span) (span : Span) → FoundSoFar w (λ b. lookup_of w b key) old u (spans ++ span ∷ [])
    → ((b : List ℕ) → s.image u.reader.now.store b → Appends start mid (put_text b key spans)) → ((b : List ℕ) → s.image u.reader.now.store b → Appends mid now (spelling_of (record_of key (bytes_of b span)))) → PutSoFar w key old u start now
put_more w key old u start mid now spans span found before one = record {
  spans = spans ++ span ∷ [];
  found = found;
  written = λ b is. subst (Appends start now) (sym (put_append b key spans (span ∷ []) ∙ ap (λ t. put_text b key spans ++ t) (put_one b key span))) (appends_then start mid now _ _ (before b is) (one b is));
}

-- the text of all puts of the key, of which those at these spans are the first
puts_are : {S L : Type 0} {s : Ghosts S} {l : Widths L} (w : ℕ) (key : List ℕ) (old : S) (t : Finder S L s l) (spans : List Span) (b : List ℕ) → FoundSoFar w (λ b. lookup_of w b key) old t spans → s.image t.reader.now.store b
    → changes_text (puts_at w b key) ≡ put_text b key spans ++ put_text b key (left_in w b t).spans
puts_are w key old t spans b found is = ap (λ (f : Found). put_text b key f.spans) (found.first b is) ∙ put_append b key spans (left_in w b t).spans

-- all were put
pub put_all : {S L : Type 0} {s : Ghosts S} {l : Widths L} (w : ℕ) (key : List ℕ) (old : S) (t u : Finder S L s l) (start now : Option (List ℕ)) (b : List ℕ) → PutSoFar w key old t start now → s.image t.reader.now.store b → left_in w b t ≡ nothing_found
    → Appends start now (changes_text (puts_at w b key))
put_all w key old t u start now b h is none =
    subst (Appends start now) (sym (puts_are w key old t h.spans b h.found is ∙ ap (λ (f : Found). put_text b key h.spans ++ put_text b key f.spans) none ∙ append-nil (put_text b key h.spans))) (h.written b is)

-- the next was not put whole
pub put_part : {S L : Type 0} {s : Ghosts S} {l : Widths L} (w : ℕ) (key : List ℕ) (old : S) (u : Finder S L s l) (start mid now : Option (List ℕ)) (spans : List Span) (span : Span) (b : List ℕ) → FoundSoFar w (λ b. lookup_of w b key) old u (spans ++ span ∷ []) → s.image u.reader.now.store b
    → Appends start mid (put_text b key spans) → AppendsPrefix mid now (spelling_of (record_of key (bytes_of b span))) → AppendsPrefix start now (changes_text (puts_at w b key))
put_part w key old u start mid now spans span b found is before front =
    prefix_then start mid now (put_text b key spans) (spelling_of (record_of key (bytes_of b span))) (put_text b key (left_in w b u).spans) _ before front
    (puts_are w key old u (spans ++ span ∷ []) b found is
    ∙ ap (λ t. t ++ put_text b key (left_in w b u).spans) (put_append b key spans (span ∷ []) ∙ ap (λ t. put_text b key spans ++ t) (put_one b key span))
    ∙ append_assoc (put_text b key spans) (spelling_of (record_of key (bytes_of b span))) (put_text b key (left_in w b u).spans))

-- ---- the removal of a key that a file lacks

-- none of one that it has
pub none_removed : (w : ℕ) (c key : List ℕ) (span : Span) (left : Found) → lookup_of w c key ≡ with_span span left → [] ≡ changes_text (removal_at w c key)
none_removed w c key span left some = sym (ap (λ (f : Found). changes_text (removal_of_new (map (bytes_of c) f.spans) key)) some)

pub new_removed : (w : ℕ) (c key : List ℕ) → lookup_of w c key ≡ nothing_found → removal_line key ≡ changes_text (removal_at w c key)
new_removed w c key none = sym (ap (λ (f : Found). changes_text (removal_of_new (map (bytes_of c) f.spans) key)) none ∙ append-nil (removal_line key))
