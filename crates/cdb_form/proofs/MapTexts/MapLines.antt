-- The lines of a map text.
use Rattle.std.proofs.Common.{All, Bool, List, [], append_assoc, ap, arith, drop, false, flat_map, length, not, refl, sym, take, true, ◌++◌, ◌∙◌, ◌∷◌, ◌≡◌, ℕ}
use Rattle.cdb_form.proofs.Words.{AllByRecursion, AllPass, KeyValue, append-nil, drop_at, if◌then◌else◌, position_or_len, prefix_len, take_at}
use Rattle.std.proofs.lemmas.List.Elements.{All-append, All-nil, recursion_from_All, All-from_recursion}
use Rattle.std.proofs.lemmas.List.Splits.{slice_split_at, slice_split_none}
use Rattle.cdb_form.specs.Text.Map.{BeginsOther, IsMapWord, Lacks, behind_blanks, is_blank, is_ignored, is_newline, line_records, lines_of, map_line, map_lines, map_text, line_pair}

-- ---- a run of bytes at the start

run_long : (p : ℕ → Bool) (xs ys : List ℕ) → AllByRecursion (λ c. p c ≡ true) xs → prefix_len p ys ≡ 0 → prefix_len p (xs ++ ys) ≡ length xs
run_long p [] ys each h = h
run_long p (x ∷ xs) ys each h = rw (each.0, run_long p xs ys each.1 h) (omega arith)

pub prefix_len-run : (p : ℕ → Bool) (xs ys : List ℕ) → AllPass p xs → prefix_len p ys ≡ 0 → prefix_len p (xs ++ ys) ≡ length xs
prefix_len-run p xs ys each h = run_long p xs ys (recursion_from_All _ xs each) h

lacks_pass : (p : ℕ → Bool) (xs : List ℕ) → Lacks p xs → AllPass (λ c. not (p c)) xs
lacks_pass p xs h k d l = ap not (h k d l)

-- the blanks at the start are dropped
pub behind_blanks-run : (bs rest : List ℕ) → AllPass is_blank bs → BeginsOther is_blank rest → behind_blanks (bs ++ rest) ≡ rest
behind_blanks-run bs rest each other = drop_at bs rest (prefix_len is_blank (bs ++ rest)) (sym (prefix_len-run is_blank bs rest each other))

-- a key, and what begins with the blank after it
pub line_pair-key : (key rest : List ℕ) → Lacks is_blank key → position_or_len is_blank rest ≡ 0 → line_pair (key ++ rest) ≡ record { key = key; value = behind_blanks rest }
line_pair-key key rest lacks stop =
    let n : ℕ = position_or_len is_blank (key ++ rest) in
    let long : length key ≡ n = sym (prefix_len-run (λ c. not (is_blank c)) key rest (lacks_pass is_blank key lacks) stop) in
    let k : take n (key ++ rest) ≡ key = take_at key rest n long in
    let v : drop n (key ++ rest) ≡ rest = drop_at key rest n long in
    ap (λ t. let p : KeyValue = record { key = t; value = behind_blanks (drop n (key ++ rest)) } in p) k
    ∙ ap (λ t. let p : KeyValue = record { key = key; value = behind_blanks t } in p) v

-- ---- lines

pub lines_of-line : (line rest : List ℕ) → Lacks is_newline line → lines_of (line ++ 10 ∷ rest) ≡ line ∷ lines_of rest
lines_of-line line rest lacks = slice_split_at is_newline line 10 rest lacks refl

pub map_lines-line : (line rest : List ℕ) → Lacks is_newline line → map_lines (line ++ 10 ∷ rest) ≡ line_records line ++ map_lines rest
map_lines-line line rest lacks = ap (flat_map line_records) (lines_of-line line rest lacks)

pub map_lines-last : (line : List ℕ) → Lacks is_newline line → map_lines line ≡ line_records line
map_lines-last line lacks = ap (flat_map line_records) (slice_split_none is_newline line lacks) ∙ append-nil (line_records line)

-- a line with nothing after its blanks, or what is ignored, or a pair
pub blank_line : (bs : List ℕ) → AllPass is_blank bs → line_records bs ≡ []
blank_line bs each =
    let none : behind_blanks bs ≡ [] = ap behind_blanks (sym (append-nil bs)) ∙ behind_blanks-run bs [] each refl in
    ap (λ t. if is_ignored t then [] else line_pair t ∷ []) none

pub noted_line : (bs rest : List ℕ) → AllPass is_blank bs → line_records (bs ++ 35 ∷ rest) ≡ []
noted_line bs rest each = ap (λ t. if is_ignored t then [] else line_pair t ∷ []) (behind_blanks-run bs (35 ∷ rest) each refl)

pub kept_line : (bs words : List ℕ) (r : KeyValue) → AllPass is_blank bs → BeginsOther is_blank words → is_ignored words ≡ false → line_pair words ≡ r → line_records (bs ++ words) ≡ r ∷ []
kept_line bs words r each other kept pair =
    ap (λ t. if is_ignored t then [] else line_pair t ∷ []) (behind_blanks-run bs words each other)
    ∙ rw (kept, pair) refl

-- ---- what is written is read

-- a key begins with a byte that is no blank
pub no_blank_first : (key rest : List ℕ) → is_ignored key ≡ false → Lacks is_blank key → (BeginsOther is_blank (key ++ rest)) × (is_ignored (key ++ rest) ≡ false)
no_blank_first [] rest kept lacks = absurd (let e : true ≡ false = kept in let no : ⊥ = cc in no)
no_blank_first (c ∷ key) rest kept lacks =
    let other : is_blank c ≡ false = (recursion_from_All (λ b. is_blank b ≡ false) (c ∷ key) lacks).0 in
    (rw other refl, kept)

pub written_line : (r : KeyValue) (rest : List ℕ) → IsMapWord r → map_lines (map_line r ++ rest) ≡ r ∷ map_lines rest
written_line r rest word =
    let line : List ℕ = r.key ++ 32 ∷ r.value in
    let whole : map_line r ++ rest ≡ line ++ 10 ∷ rest = simp append_assoc refl in
    let lacks : Lacks is_newline line = All-append (λ c. is_newline c ≡ false) r.key (32 ∷ r.value) word.key_line (All-append (λ c. is_newline c ≡ false) (32 ∷ []) r.value (All-from_recursion (λ c. is_newline c ≡ false) (32 ∷ []) (refl, tt)) word.value_line) in
    let first = no_blank_first r.key (32 ∷ r.value) word.kept word.key_blank in
    let value : behind_blanks (32 ∷ r.value) ≡ r.value = behind_blanks-run (32 ∷ []) r.value (All-from_recursion (λ c. is_blank c ≡ true) (32 ∷ []) (refl, tt)) word.value_blank in
    let pair : line_pair line ≡ r = line_pair-key r.key (32 ∷ r.value) word.key_blank refl ∙ ap (λ t. let p : KeyValue = record { key = r.key; value = t } in p) value in
    ap map_lines whole ∙ map_lines-line line rest lacks ∙ ap (λ t. t ++ map_lines rest) (kept_line [] line r (All-nil _) first.0 first.1 pair)

written_text : (rs : List KeyValue) → AllByRecursion IsMapWord rs → map_lines (map_text rs) ≡ rs
written_text [] words = refl
written_text (r ∷ rs) words = written_line r (map_text rs) words.0 ∙ ap (λ t. r ∷ t) (written_text rs words.1)

pub map_reads_back : (rs : List KeyValue) → All IsMapWord rs → map_lines (map_text rs) ≡ rs
map_reads_back rs words = written_text rs (recursion_from_All IsMapWord rs words)
