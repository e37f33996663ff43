-- The lines of duplicates that were reported.
use Rattle.std.proofs.Common.{ℕ, true, ◌&&◌, ◌||◌, List, [], ◌∷◌, ◌++◌, Option, None, Result, Ok, Err, ◌≡◌, ◌∙◌, ap, append_assoc, refl, subst, sym}
use Rattle.std.specs.Prelude.{OnErr, OnOk, String}
use Rattle.cdb_tool.proofs.Words.{Appends, Keeps, Put, RunOptions, append-nil, cond-true, prefix_kept, whole_prefix}
use denote.Bor.{Bor}
use Rattle.cdb_form.specs.Views.KnownBytes.{AppendsPrefix, Writes}
use Rattle.cdb_form.proofs.Bytes.WritingLemmas.{appends_kept, appends_none, appends_then, prefix_in, prefix_last}
use Rattle.cdb_tool.specs.Runs.Make.{meets_key, told}
use Rattle.cdb_show.specs.Message.{AreLines, TellsEach, TellsPart, Told, duplicate_line, duplicate_lines, plain_lines}

-- the lines of some, and of some more
lines_both : {Z : Type 0} (names : Option (Bor (List (String Z)))) (ds es : List Told) (text more : List ℕ) → AreLines names ds text → AreLines names es more → AreLines names (ds ++ es) (text ++ more)
lines_both names [] es text more is are = subst (AreLines names es) (ap (λ t. t ++ more) (sym is)) are
lines_both names (d ∷ ds) es text more (line, rest, is, others) are =
    (line, rest ++ more, ap (λ t. t ++ more) is ∙ append_assoc (duplicate_lines names d line) rest more, lines_both names ds es rest more others are)

-- each has some
some_lines : {Z : Type 0} (names : Option (Bor (List (String Z)))) (ds : List Told) → (text : List ℕ) × AreLines names ds text
some_lines names [] = ([], refl)
some_lines names (d ∷ ds) =
    let more = some_lines names ds in
    (duplicate_lines names d 1 ++ more.0, (1, more.0, refl, more.1))

-- ---- they were appended

pub tells_none : {Z : Type 0} (names : Option (Bor (List (String Z)))) (start : Option (List ℕ)) → TellsEach names [] start start
tells_none names start = record { text = []; are = refl; written = appends_none start }

pub tells_one : {Z : Type 0} (names : Option (Bor (List (String Z)))) (d : Told) (line : ℕ) (old new : Option (List ℕ)) → Appends old new (duplicate_lines names d line) → TellsEach names (d ∷ []) old new
tells_one names d line old new h = record { text = duplicate_lines names d line; are = (line, [], sym (append-nil (duplicate_lines names d line)), refl); written = h }

pub tells_then : {Z : Type 0} (names : Option (Bor (List (String Z)))) (ds es : List Told) (old mid new : Option (List ℕ)) → TellsEach names ds old mid → TellsEach names es mid new → TellsEach names (ds ++ es) old new
tells_then names ds es old mid new h k = record {
  text = h.text ++ k.text;
  are = lines_both names ds es h.text k.text h.are k.are;
  written = appends_then old mid new h.text k.text h.written k.written;
}

pub tells_kept : {Z : Type 0} (names : Option (Bor (List (String Z)))) (ds : List Told) (old mid new : Option (List ℕ)) → TellsEach names ds old mid → Keeps mid new → TellsEach names ds old new
tells_kept names ds old mid new h k = record { text = h.text; are = h.are; written = appends_kept old mid new h.text h.written k }

-- ---- or a prefix of them

pub part_one : {Z : Type 0} (names : Option (Bor (List (String Z)))) (d : Told) (line : ℕ) (old new : Option (List ℕ)) → AppendsPrefix old new (duplicate_lines names d line) → TellsPart names (d ∷ []) old new
part_one names d line old new h = record { text = duplicate_lines names d line; are = (line, [], sym (append-nil (duplicate_lines names d line)), refl); written = h }

pub part_then : {Z : Type 0} (names : Option (Bor (List (String Z)))) (ds es : List Told) (old mid new : Option (List ℕ)) → TellsEach names ds old mid → TellsPart names es mid new → TellsPart names (ds ++ es) old new
part_then names ds es old mid new h k = record {
  text = h.text ++ k.text;
  are = lines_both names ds es h.text k.text h.are k.are;
  written = prefix_last old mid new h.text k.text _ h.written k.written refl;
}

pub part_kept : {Z : Type 0} (names : Option (Bor (List (String Z)))) (ds : List Told) (old mid new : Option (List ℕ)) → TellsPart names ds old mid → Keeps mid new → TellsPart names ds old new
part_kept names ds old mid new h k = record { text = h.text; are = h.are; written = prefix_kept old mid new h.text h.written k }

pub part_whole : {Z : Type 0} (names : Option (Bor (List (String Z)))) (ds : List Told) (old new : Option (List ℕ)) → TellsEach names ds old new → TellsPart names ds old new
part_whole names ds old new h = record { text = h.text; are = h.are; written = whole_prefix old new h.text h.written }

-- a prefix is one of the lines of more of them
pub part_more : {Z : Type 0} (names : Option (Bor (List (String Z)))) (ds es all : List Told) (old new : Option (List ℕ)) → all ≡ ds ++ es → TellsPart names ds old new → TellsPart names all old new
part_more names ds es all old new is h =
    let more = some_lines names es in
    record {
      text = h.text ++ more.0;
      are = subst (λ xs. AreLines names xs (h.text ++ more.0)) (sym is) (lines_both names ds es h.text more.0 h.are more.1);
      written = prefix_in old new h.text more.0 _ h.written refl;
    }

pub part_none : {Z : Type 0} (names : Option (Bor (List (String Z)))) (ds : List Told) (old new : Option (List ℕ)) → Appends old new [] → TellsPart names ds old new
part_none names ds old new h =
    let all = some_lines names ds in
    record { text = all.0; are = all.1; written = record { front = []; more = all.0; split = refl; appended = h } }

-- ---- none is explained

plain_are : {Z : Type 0} (names : Option (Bor (List (String Z)))) (ds : List Told) (text : List ℕ) → names ≡ None → AreLines names ds text → text ≡ plain_lines ds
plain_are names [] text none is = is
plain_are names (d ∷ ds) text none (line, rest, is, are) =
    is ∙ ap (λ n. duplicate_lines n d line ++ rest) none ∙ ap (λ t. duplicate_line d.input d.number ++ t) (plain_are names ds rest none are)

pub tells_plain : {Z : Type 0} (names : Option (Bor (List (String Z)))) (ds : List Told) (old new : Option (List ℕ)) → names ≡ None → TellsEach names ds old new → Appends old new (plain_lines ds)
tells_plain names ds old new none h = subst (Appends old new) (plain_are names ds h.text none h.are) h.written

pub part_plain : {Z : Type 0} (names : Option (Bor (List (String Z)))) (ds : List Told) (old new : Option (List ℕ)) → names ≡ None → TellsPart names ds old new → AppendsPrefix old new (plain_lines ds)
part_plain names ds old new none h = subst (AppendsPrefix old new) (plain_are names ds h.text none h.are) h.written

-- ---- what is reported of a put

is_told : (o : RunOptions) (input number : ℕ) (key : List ℕ) (put : Put) → (o.make.warn || o.make.stop) ≡ true → meets_key put ≡ true → told o.make input number key (Ok put) ≡ record { input = input; number = number; key = key } ∷ []
is_told o input number key put tells meets = cond-true ((o.make.warn || o.make.stop) && meets_key put) _ _ (ap (λ x. x && meets_key put) tells ∙ meets)

pub put_told : {A E : Type 0} (result : Result A E) (o : RunOptions) (input number : ℕ) (line : ℕ) (key : List ℕ) (put : Put) (old new : Option (List ℕ)) → (o.make.warn || o.make.stop) ≡ true → meets_key put ≡ true
    → Writes result old new (duplicate_lines o.names (record { input = input; number = number; key = key }) line) → OnOk result (TellsEach o.names (told o.make input number key (Ok put)) old new)
put_told (Ok done) o input number line key put old new tells meets h =
    subst (λ ds. TellsEach o.names ds old new) (sym (is_told o input number key put tells meets)) (tells_one o.names (record { input = input; number = number; key = key }) line old new h.ok)
put_told (Err fault) o input number line key put old new tells meets h = tt

pub put_part_told : {A E : Type 0} (result : Result A E) (o : RunOptions) (input number : ℕ) (line : ℕ) (key : List ℕ) (put : Put) (old new : Option (List ℕ)) → (o.make.warn || o.make.stop) ≡ true → meets_key put ≡ true
    → Writes result old new (duplicate_lines o.names (record { input = input; number = number; key = key }) line) → OnErr result (TellsPart o.names (told o.make input number key (Ok put)) old new)
put_part_told (Ok done) o input number line key put old new tells meets h = tt
put_part_told (Err fault) o input number line key put old new tells meets h =
    subst (λ ds. TellsPart o.names ds old new) (sym (is_told o input number key put tells meets)) (part_one o.names (record { input = input; number = number; key = key }) line old new h.err)
