-- A whole map text, record after record.
use Rattle.cdb_form.proofs.Words.{All, All-append, All-nil, All-push, AllByRecursion, IsIgnoredLine, IsLineOf, KeyValue, Lacks, List, MapReader, [], ap, append-nil, append_assoc, flat_map, flat_map-append, is_newline, line_records, map_lines, recursion_from_All, refl, subst, sym, with_newlines, ℕ, ◌++◌, ◌∙◌, ◌∷◌, ◌≡◌}
use Rattle.cdb_form.specs.Views.MapReader.{HasEnded, IsAmidLines, IsGoing, ReadAmid, ReadLines}
use Rattle.cdb_form.specs.declared.text.going.Going.TheVariants.{AtEnd, On}
use Rattle.cdb_form.proofs.MapTexts.MapLines.{map_lines-last, map_lines-line}

-- ---- lines with their newlines

pub lines_then : (lines : List (List ℕ)) (x : List ℕ) → AllByRecursion (Lacks is_newline) lines → map_lines (with_newlines lines ++ x) ≡ flat_map line_records lines ++ map_lines x
lines_then [] x are = refl
lines_then (line ∷ lines) x are =
    let whole : with_newlines (line ∷ lines) ++ x ≡ line ++ 10 ∷ (with_newlines lines ++ x) = simp append_assoc refl in
    ap map_lines whole ∙ map_lines-line line (with_newlines lines ++ x) are.0
    ∙ ap (λ t. line_records line ++ t) (lines_then lines x are.1)
    ∙ sym (append_assoc (line_records line) (flat_map line_records lines) (map_lines x))

none_held : (ignored : List (List ℕ)) → AllByRecursion IsIgnoredLine ignored → flat_map line_records ignored ≡ []
none_held [] are = refl
none_held (line ∷ ignored) are = ap (λ t. t ++ flat_map line_records ignored) are.0.none ∙ none_held ignored are.1

ignored_whole : (ignored : List (List ℕ)) → All IsIgnoredLine ignored → All (Lacks is_newline) ignored
ignored_whole ignored are k d l = (are k d l).whole

-- ---- the records so far

pub read_none : (text : List ℕ) → ReadLines text text []
read_none text = record { lines = []; whole = All-nil _; split = refl; records = refl }

-- the records that are left are those of the rest
pub read_rest : (text rest : List ℕ) (rs : List KeyValue) → ReadLines text rest rs → map_lines text ≡ rs ++ map_lines rest
read_rest text rest rs g =
    ap map_lines g.split ∙ lines_then g.lines rest (recursion_from_All (Lacks is_newline) g.lines g.whole)
    ∙ ap (λ t. t ++ map_lines rest) g.records

pub read_both : (text mid rest : List ℕ) (rs here : List KeyValue) → ReadLines text mid rs → ReadLines mid rest here → ReadLines text rest (rs ++ here)
read_both text mid rest rs here g h = record {
  lines = g.lines ++ h.lines;
  whole = All-append (Lacks is_newline) g.lines h.lines g.whole h.whole;
  split = g.split ∙ ap (λ t. with_newlines g.lines ++ t) h.split ∙ sym (append_assoc (with_newlines g.lines) (with_newlines h.lines) rest)
      ∙ ap (λ t. t ++ rest) (sym (flat_map-append (λ l. l ++ 10 ∷ []) g.lines h.lines));
  records = flat_map-append line_records g.lines h.lines ∙ ap (λ t. t ++ flat_map line_records h.lines) g.records ∙ ap (λ t. rs ++ t) h.records;
}

-- what a text holds that nothing follows, it holds before anything
pub read_before : (piece rest : List ℕ) (here : List KeyValue) → ReadLines piece [] here → ReadLines (piece ++ rest) rest here
read_before piece rest here g = record {
  lines = g.lines;
  whole = g.whole;
  split = ap (λ t. t ++ rest) (g.split ∙ append-nil (with_newlines g.lines));
  records = g.records;
}

read_ignored : (text mid rest : List ℕ) (rs : List KeyValue) (ignored : List (List ℕ)) → ReadLines text mid rs → All IsIgnoredLine ignored → mid ≡ with_newlines ignored ++ rest → ReadLines text rest rs
read_ignored text mid rest rs ignored g are e =
    let none : ReadLines mid rest [] = record { lines = ignored; whole = ignored_whole ignored are; split = e; records = none_held ignored (recursion_from_All IsIgnoredLine ignored are) } in
    subst (ReadLines text rest) (append-nil rs) (read_both text mid rest rs [] g none)

read_line : (text mid rest : List ℕ) (rs : List KeyValue) (r : KeyValue) (line : List ℕ) → ReadLines text mid rs → IsLineOf r line → mid ≡ line ++ 10 ∷ rest → ReadLines text rest (rs ++ r ∷ [])
read_line text mid rest rs r line g is e =
    let one : ReadLines mid rest (r ∷ []) = record {
      lines = line ∷ [];
      whole = All-push (Lacks is_newline) [] line (All-nil (Lacks is_newline)) is.whole;
      split = e ∙ sym (append_assoc line (10 ∷ []) rest) ∙ ap (λ t. t ++ rest) (sym (append-nil (line ++ 10 ∷ [])));
      records = append-nil (line_records line) ∙ is.holds;
    } in
    read_both text mid rest rs (r ∷ []) g one

-- one record more, whose line ends with a newline
pub read_more : (text mid rest : List ℕ) (rs : List KeyValue) (r : KeyValue) (ignored : List (List ℕ)) (line : List ℕ) → ReadLines text mid rs → All IsIgnoredLine ignored → IsLineOf r line
    → mid ≡ ((with_newlines ignored ++ line) ++ 10 ∷ []) ++ rest → ReadLines text rest (rs ++ r ∷ [])
read_more text mid rest rs r ignored line g are is e =
    let here : mid ≡ with_newlines ignored ++ (line ++ 10 ∷ rest) = e ∙ (let whole : ((with_newlines ignored ++ line) ++ 10 ∷ []) ++ rest ≡ with_newlines ignored ++ (line ++ 10 ∷ rest) = simp append_assoc refl in whole) in
    read_line text (line ++ 10 ∷ rest) rest rs r line (read_ignored text mid (line ++ 10 ∷ rest) rs ignored g are here) is refl

-- or at the end of the input
pub read_last : (text mid rest : List ℕ) (rs here : List KeyValue) (ignored : List (List ℕ)) (line : List ℕ) → ReadLines text mid rs → All IsIgnoredLine ignored → Lacks is_newline line → line_records line ≡ here
    → mid ≡ ((with_newlines ignored ++ line) ++ []) ++ rest → rest ≡ [] → map_lines text ≡ rs ++ here
read_last text mid rest rs here ignored line g are whole holds e end =
    let read : List ℕ = with_newlines ignored ++ line in
    let all : mid ≡ read = e ∙ ap (λ t. (read ++ []) ++ t) end ∙ append-nil (read ++ []) ∙ append-nil read in
    read_rest text line rs (read_ignored text mid line rs ignored g are all) ∙ ap (λ t. rs ++ t) (map_lines-last line whole ∙ holds)

pub read_amid : (text mid rest bytes : List ℕ) (rs : List KeyValue) → ReadLines text mid rs → IsAmidLines bytes → mid ≡ bytes ++ rest → ReadAmid text rest rs
read_amid text mid rest bytes rs g amid e =
    let here : mid ≡ with_newlines amid.ignored ++ (amid.part ++ rest) = e ∙ ap (λ t. t ++ rest) amid.bytes_are ∙ append_assoc (with_newlines amid.ignored) amid.part rest in
    record { part = amid.part; lines = read_ignored text mid (amid.part ++ rest) rs amid.ignored g amid.are_ignored here; within = amid.within }

pub going_on : {R : Type 0} (t : MapReader R) → IsGoing t → HasEnded t → ⊥
going_on t going ended = let same : On ≡ AtEnd = sym going ∙ ended in let no : ⊥ = cc in no
