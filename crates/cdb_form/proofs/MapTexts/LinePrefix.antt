-- The line that bytes of a map text begin with, part after part.
use Rattle.std.proofs.Common.{Bool, List, [], ap, append_assoc, arith, drop, false, get_or, length, length-drop, refl, subst, sym, take, true, ◌++◌, ◌+◌, ◌<◌, ◌∙◌, ◌∷◌, ◌≡◌, ◌≢◌, ℕ, suc, zero}
use Rattle.cdb_form.proofs.Words.{AllPass, BeginsOther, BeginsWithLine, IsLineOf, KeyValue, Lacks, behind_blanks, is_blank, is_ignored, is_newline, is_of, line_pair, position_or_len, prefix_len, take-add}
use Rattle.std.proofs.lemmas.Grind.{get_or_default_zero}
use Rattle.std.proofs.lemmas.List.{drop-drop, get_or-drop, get_or-take, length-take, take_more}
use Rattle.std.proofs.lemmas.List.Sums.{position_or_len_is, prefix_len_is, prefix_len_passes, prefix_len_stops}
use Rattle.cdb_form.specs.declared.text.kind.Kind.TheVariants.{Blank, InLine, InWord}
use Rattle.cdb_form.proofs.MapTexts.MapLines.{behind_blanks-run, kept_line, line_pair-key, no_blank_first}
use Rattle.cdb_form.proofs.MapTexts.MapReads.{in_line_stop, lacks_append, other_than, run_lacks, word_lacks, word_no_blank, word_stop}

-- the first newline of some bytes
pub record FirstNewline (bytes : List ℕ) (place : ℕ) : Type 0 where
  pub before : (k : ℕ) → k < place → get_or bytes k 0 ≢ 10
  pub is : get_or bytes place 0 ≡ 10
  pub within : place < length bytes

no_newline : (c : ℕ) → is_of InLine c ≡ true → c ≢ 10
no_newline c h = grind arith

pub first_newline : (bytes : List ℕ) (place : ℕ) → place ≡ prefix_len (is_of InLine) bytes → place < length bytes → FirstNewline bytes place
first_newline bytes place is within = record {
  before = λ k l. no_newline (get_or bytes k 0) (prefix_len_passes (is_of InLine) bytes k 0 (omega (arith, l, is)));
  is = ap (λ (k : ℕ). get_or bytes k 0) is ∙ in_line_stop (get_or bytes (prefix_len (is_of InLine) bytes) 0) (prefix_len_stops (is_of InLine) bytes 0 (omega (arith, is, within)));
  within = within;
}

-- the bytes of a run pass its test
pub run_passes : (p : ℕ → Bool) (xs : List ℕ) (n : ℕ) → n ≡ prefix_len p xs → AllPass p (take n xs)
run_passes p xs n is k d l =
    let within : k < n = omega (arith, l, length-take n xs) in
    ap p (get_or-take n xs k d within) ∙ prefix_len_passes p xs k d (omega (arith, within, is))

-- a word that begins with no number sign is not ignored
pub word_kept : (xs : List ℕ) (n : ℕ) → 0 < n → 0 < length xs → get_or xs 0 0 ≢ 35 → is_ignored (take n xs) ≡ false
word_kept [] n some held other = absurd (omega (arith, held))
word_kept (x ∷ xs) zero some held other = absurd (omega (arith, some))
word_kept (x ∷ xs) (suc n) some held other = other_than x 35 other

-- bytes up to the first newline
pub value_lacks : (xs : List ℕ) (n : ℕ) → ((k : ℕ) → k < n → get_or xs k 0 ≢ 10) → Lacks is_newline (take n xs)
value_lacks xs n none k d l =
    let within : k < n = omega (arith, l, length-take n xs) in
    let held : k < length xs = omega (arith, l, length-take n xs) in
    ap is_newline (get_or-take n xs k d within ∙ get_or_default_zero xs k d held) ∙ other_than (get_or xs k 0) 10 (none k within)

-- a value begins with no blank
pub value_begins : (behind : List ℕ) (gap vlen : ℕ) → gap ≡ prefix_len is_blank behind → gap + vlen < length behind → BeginsOther is_blank (take vlen (drop gap behind))
value_begins behind gap vlen is within =
    let rest = drop gap behind in
    let same : gap + 0 ≡ gap = omega arith in
    let stops : is_blank (get_or behind gap 0) ≡ false = ap (λ (k : ℕ). is_blank (get_or behind k 0)) is ∙ prefix_len_stops is_blank behind 0 (omega (arith, is, within)) in
    prefix_len_is is_blank (take vlen rest) 0 0 (omega arith) (λ k l. absurd (omega (arith, l)))
    (λ some. ap is_blank (get_or-take vlen rest 0 0 (omega (arith, some, length-take vlen rest)) ∙ get_or-drop gap behind 0 0) ∙ ap (λ (k : ℕ). is_blank (get_or behind k 0)) same ∙ stops)

-- the byte after a key, if it is no newline
gap_first : (words : List ℕ) (klen gap vlen : ℕ) → klen ≡ prefix_len (is_of InWord) words → gap ≡ prefix_len is_blank (drop klen words) → klen < length words → 0 < gap + vlen
    → ((k : ℕ) → k < vlen → get_or (drop gap (drop klen words)) k 0 ≢ 10) → is_blank (get_or (drop klen words) 0 0) ≡ true
gap_first words klen (suc gap) vlen kis gis within both none = prefix_len_passes is_blank (drop klen words) 0 0 (omega (arith, gis))
gap_first words klen zero vlen kis gis within both none =
    let same : klen + 0 ≡ prefix_len (is_of InWord) words = omega (arith, kis) in
    let stops : is_of InWord (get_or (drop klen words) 0 0) ≡ false = ap (is_of InWord) (get_or-drop klen words 0 0)
    ∙ ap (λ (k : ℕ). is_of InWord (get_or words k 0)) same ∙ prefix_len_stops (is_of InWord) words 0 (omega (arith, kis, within)) in
    word_stop (get_or (drop klen words) 0 0) stops (other_than (get_or (drop klen words) 0 0) 10 (none 0 (omega (arith, both))))

-- what follows a key begins with a blank, or is empty
pub gap_begins : (words : List ℕ) (klen gap vlen : ℕ) → klen ≡ prefix_len (is_of InWord) words → gap ≡ prefix_len is_blank (drop klen words) → klen + gap + vlen < length words
    → ((k : ℕ) → k < vlen → get_or (drop gap (drop klen words)) k 0 ≢ 10)
    → position_or_len is_blank (take gap (drop klen words) ++ take vlen (drop gap (drop klen words))) ≡ 0
gap_begins words klen gap vlen kis gis within none =
    let behind = drop klen words in
    let all : take (gap + vlen) behind ≡ take gap behind ++ take vlen (drop gap behind) = take-add gap vlen behind in
    subst (λ t. position_or_len is_blank t ≡ 0) all
    (position_or_len_is is_blank (take (gap + vlen) behind) 0 0 (omega arith) (λ k l. absurd (omega (arith, l)))
    (λ some. let both : 0 < gap + vlen = omega (arith, some, length-take (gap + vlen) behind) in
    ap is_blank (get_or-take (gap + vlen) behind 0 0 both) ∙ gap_first words klen gap vlen kis gis (omega (arith, within)) both none))

-- the whole line
pub line_prefix : (bytes : List ℕ) (start klen gap vlen : ℕ) (r : KeyValue) → start ≡ prefix_len is_blank bytes → klen ≡ prefix_len (is_of InWord) (drop start bytes) → 0 < klen → get_or (drop start bytes) 0 0 ≢ 35
    → gap ≡ prefix_len is_blank (drop klen (drop start bytes))
    → FirstNewline (drop gap (drop klen (drop start bytes))) vlen → r.key ≡ take klen (drop start bytes) → r.value ≡ take vlen (drop gap (drop klen (drop start bytes)))
    → BeginsWithLine bytes (start + klen + gap + vlen + 1) r
line_prefix bytes start klen gap vlen r sis kis some note gis newline key value =
    let words = drop start bytes in
    let behind = drop klen words in
    let rest = drop gap behind in
    let blanks = take start bytes in
    let word = take klen words in
    let mid = take gap behind in
    let val = take vlen rest in
    let long = length-drop start bytes in
    let longer = length-drop klen words in
    let longest = length-drop gap behind in
    let within : start + klen + gap + vlen < length bytes = omega (arith, newline.within, long, longer, longest) in
    let last : take (vlen + 1) rest ≡ val ++ 10 ∷ [] = take_more rest vlen 0 newline.within ∙ ap (λ c. val ++ c ∷ []) newline.is in
    let three : take (gap + (vlen + 1)) behind ≡ mid ++ (val ++ 10 ∷ []) = take-add gap (vlen + 1) behind ∙ ap (λ t. mid ++ t) last in
    let two : take (klen + (gap + (vlen + 1))) words ≡ word ++ (mid ++ (val ++ 10 ∷ [])) = take-add klen (gap + (vlen + 1)) words ∙ ap (λ t. word ++ t) three in
    let one : take (start + (klen + (gap + (vlen + 1)))) bytes ≡ blanks ++ (word ++ (mid ++ (val ++ 10 ∷ []))) = take-add start (klen + (gap + (vlen + 1))) bytes ∙ ap (λ t. blanks ++ t) two in
    let count : start + klen + gap + vlen + 1 ≡ start + (klen + (gap + (vlen + 1))) = omega arith in
    let join : blanks ++ (word ++ (mid ++ (val ++ 10 ∷ []))) ≡ (blanks ++ (word ++ (mid ++ val))) ++ 10 ∷ [] = simp append_assoc refl in
    let each_blank : AllPass is_blank blanks = run_passes is_blank bytes start sis in
    let each_word : AllPass (is_of InWord) word = run_passes (is_of InWord) words klen kis in
    let each_mid : AllPass is_blank mid = run_passes is_blank behind gap gis in
    let lacks : Lacks is_newline val = value_lacks rest vlen newline.before in
    let kept : is_ignored word ≡ false = word_kept words klen some (omega (arith, within, long)) note in
    let first = no_blank_first word (mid ++ val) kept (word_lacks word each_word) in
    let value_is : behind_blanks (mid ++ val) ≡ val = behind_blanks-run mid val each_mid (value_begins behind gap vlen gis (omega (arith, within, long, longer))) in
    let begins = gap_begins words klen gap vlen kis gis (omega (arith, within, long)) newline.before in
    let pair : line_pair (word ++ (mid ++ val)) ≡ record { key = word; value = val } = line_pair-key word (mid ++ val) (word_lacks word each_word) begins ∙ ap (λ t. let p : KeyValue = record { key = word; value = t } in p) value_is in
    let is : IsLineOf (record { key = word; value = val }) (blanks ++ (word ++ (mid ++ val))) = record {
      whole = lacks_append blanks (word ++ (mid ++ val)) (run_lacks Blank blanks each_blank) (lacks_append word (mid ++ val) (run_lacks InWord word each_word) (lacks_append mid val (run_lacks Blank mid each_mid) lacks));
      holds = kept_line blanks (word ++ (mid ++ val)) _ each_blank first.0 first.1 pair;
    } in
    record {
      line = blanks ++ (word ++ (mid ++ val));
      is = subst (λ k. IsLineOf (record { key = k; value = r.value }) (blanks ++ (word ++ (mid ++ val)))) (sym key) (subst (λ v. IsLineOf (record { key = word; value = v }) (blanks ++ (word ++ (mid ++ val)))) (sym value) is);
      front = ap (λ (n : ℕ). take n bytes) count ∙ one ∙ join;
      within = omega (arith, within);
    }

-- ---- a key, one space and a value

-- no blank is before the key, and the key ends at the space
pub record PlainKey (bytes : List ℕ) (klen : ℕ) : Type 0 where
  pub each : (k : ℕ) → k < klen → is_of InWord (get_or bytes k 0) ≡ true
  pub some : 0 < klen
  pub space : get_or bytes klen 0 ≡ 32
  pub other : is_blank (get_or bytes (klen + 1) 0) ≡ false
  pub within : klen + 1 < length bytes

plain_start : (bytes : List ℕ) (klen : ℕ) → PlainKey bytes klen → 0 ≡ prefix_len is_blank bytes
plain_start bytes klen key = sym (prefix_len_is is_blank bytes 0 0 (omega arith) (λ k l. absurd (omega (arith, l))) (λ _. word_no_blank (get_or bytes 0 0) (key.each 0 key.some)))

plain_word : (bytes : List ℕ) (klen : ℕ) → PlainKey bytes klen → klen ≡ prefix_len (is_of InWord) bytes
plain_word bytes klen key = sym (prefix_len_is (is_of InWord) bytes klen 0 (omega (arith, key.within)) key.each (λ _. ap (is_of InWord) key.space))

first_blank : (bytes : List ℕ) (klen k : ℕ) → PlainKey bytes klen → k < 1 → is_blank (get_or (drop klen bytes) k 0) ≡ true
first_blank bytes klen k key l =
    let at : klen + k ≡ klen = omega (arith, l) in
    ap is_blank (get_or-drop klen bytes k 0 ∙ ap (λ (n : ℕ). get_or bytes n 0) at ∙ key.space)

plain_gap : (bytes : List ℕ) (klen : ℕ) → PlainKey bytes klen → 1 ≡ prefix_len is_blank (drop klen bytes)
plain_gap bytes klen key =
    sym (prefix_len_is is_blank (drop klen bytes) 1 0 (omega (arith, key.within, length-drop klen bytes)) (λ k l. first_blank bytes klen k key l)
    (λ _. ap is_blank (get_or-drop klen bytes 1 0) ∙ key.other))

pub plain_prefix : (bytes : List ℕ) (klen vlen : ℕ) (r : KeyValue) → PlainKey bytes klen → get_or bytes 0 0 ≢ 35 → FirstNewline (drop (klen + 1) bytes) vlen
    → r.key ≡ take klen bytes → r.value ≡ take vlen (drop (klen + 1) bytes) → BeginsWithLine bytes (klen + vlen + 2) r
plain_prefix bytes klen vlen r key note newline key_is value_is =
    let behind : drop (klen + 1) bytes ≡ drop 1 (drop klen bytes) = sym (drop-drop 1 klen bytes) in
    let line = line_prefix bytes 0 klen 1 vlen r (plain_start bytes klen key) (plain_word bytes klen key) key.some note (plain_gap bytes klen key)
    (subst (λ t. FirstNewline t vlen) behind newline) key_is (value_is ∙ ap (take vlen) behind) in
    let count : 0 + klen + 1 + vlen + 1 ≡ klen + vlen + 2 = omega arith in
    subst (λ (n : ℕ). BeginsWithLine bytes n r) count line

-- a newline after bytes of a line
pub newline_behind : (bytes : List ℕ) (place : ℕ) → ((k : ℕ) → k < place → is_of InLine (get_or bytes k 0) ≡ true) → get_or bytes place 0 ≡ 10 → place < length bytes → FirstNewline bytes place
newline_behind bytes place each is within = record {
  before = λ k l. no_newline (get_or bytes k 0) (each k l);
  is = is;
  within = within;
}

-- a byte greater than the blanks is no blank
pub after_blanks : (c : ℕ) → 32 < c → is_blank c ≡ false
after_blanks c h = grind arith

-- a word that begins with another byte than a space, and ends at a space, is not empty
pub some_word : (bytes : List ℕ) (n : ℕ) → 35 < get_or bytes 0 0 → get_or bytes n 0 ≡ 32 → 0 < n
some_word bytes zero h space = absurd (omega (arith, h, space))
some_word bytes (suc n) h space = omega arith
