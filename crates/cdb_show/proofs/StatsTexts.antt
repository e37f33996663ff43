-- A text that is written line after line, and the lines of distances.
use Rattle.cdb_show.proofs.Words.{Appends, List, Option, Result, [], ap, append_assoc, appends_none, appends_then, arith, codes, flat_map, get_or, prefix_then, refl, suc, sym, writes_last, ℕ, ◌++◌, ◌+◌, ◌-◌, ◌<◌, ◌∙◌, ◌≡◌}
use Rattle.std.specs.List.{range_with_len}
use Rattle.cdb_form.specs.Views.KnownBytes.{AppendsPrefix, Writes}
use Rattle.cdb_show.specs.Runs.Stats.{count_line, distance_line, distance_lines, records_line, keys_line, values_line, tables_line, sizes_line, stats_text}
use Rattle.cdb_read.specs.declared.statistics.stats.Stats.{Stats}

-- ---- line after line

-- a prefix of a text was written, and a rest comes
pub record IsAmid (start now : Option (List ℕ)) (text rest : List ℕ) : Type 0 where
  pub before : List ℕ
  pub split : text ≡ before ++ rest
  pub written : Appends start now before

pub amid_none : (start : Option (List ℕ)) (text : List ℕ) → IsAmid start start text text
amid_none start text = record { before = []; split = refl; written = appends_none start }

pub amid_more : (start mid now : Option (List ℕ)) (text rest line less : List ℕ) → IsAmid start mid text rest → rest ≡ line ++ less → Appends mid now line → IsAmid start now text less
amid_more start mid now text rest line less a e one = record {
  before = a.before ++ line;
  split = a.split ∙ ap (λ t. a.before ++ t) e ∙ sym (append_assoc a.before line less);
  written = appends_then start mid now a.before line a.written one;
}

-- the writer failed in a line
pub amid_prefix : (start mid now : Option (List ℕ)) (text rest line less : List ℕ) → IsAmid start mid text rest → rest ≡ line ++ less → AppendsPrefix mid now line → AppendsPrefix start now text
amid_prefix start mid now text rest line less a e one = prefix_then start mid now a.before line less text a.written one (a.split ∙ ap (λ t. a.before ++ t) e)

-- the last line
pub amid_last : {A E : Type 0} (r : Result A E) (start mid now : Option (List ℕ)) (text rest : List ℕ) → IsAmid start mid text rest → Writes r mid now rest → Writes r start now text
amid_last r start mid now text rest a one = writes_last r start mid now a.before rest text a.written one a.split

-- ---- the lines of distances

-- those from k on
pub lines_from : List ℕ → ℕ → List ℕ
lines_from counts k = flat_map (distance_line counts) (range_with_len k (10 - k)) ++ count_line (codes "distance 10 or more") (get_or counts 10 0)

pub lines_are : (counts : List ℕ) → distance_lines counts ≡ lines_from counts 0
unfolding lines_from distance_lines
lines_are counts = refl

pub lines_next : (counts : List ℕ) (k : ℕ) → k < 10 → lines_from counts k ≡ distance_line counts k ++ lines_from counts (k + 1)
unfolding lines_from
lines_next counts k low =
    let more : 10 - k ≡ suc (10 - (k + 1)) = omega arith in
    ap (λ n. flat_map (distance_line counts) (range_with_len k n) ++ count_line (codes "distance 10 or more") (get_or counts 10 0)) more
    ∙ append_assoc (distance_line counts k) (flat_map (distance_line counts) (range_with_len (k + 1) (10 - (k + 1)))) (count_line (codes "distance 10 or more") (get_or counts 10 0))

pub lines_last : (counts : List ℕ) (k : ℕ) → k ≡ 10 → lines_from counts k ≡ count_line (codes "distance 10 or more") (get_or counts 10 0)
unfolding lines_from
lines_last counts k e = ap (λ n. flat_map (distance_line counts) (range_with_len n (10 - n)) ++ count_line (codes "distance 10 or more") (get_or counts 10 0)) e

-- ---- the whole text

-- what follows each of its lines, but for the last lines
abbrev pub behind_tables : Stats → List ℕ
behind_tables s = sizes_line s ++ distance_lines s.distances

abbrev pub behind_values : Stats → List ℕ
behind_values s = tables_line s ++ behind_tables s

abbrev pub behind_keys : Stats → List ℕ
behind_keys s = values_line s ++ behind_values s

abbrev pub behind_records : Stats → List ℕ
behind_records s = keys_line s ++ behind_keys s

pub first_line : (s : Stats) → stats_text s ≡ records_line s ++ behind_records s
unfolding stats_text
first_line s =
    let r = records_line s in
    let k = keys_line s in
    let v = values_line s in
    let t = tables_line s in
    append_assoc (r ++ k ++ v ++ t) (sizes_line s) (distance_lines s.distances)
    ∙ append_assoc (r ++ k ++ v) t (behind_tables s)
    ∙ append_assoc (r ++ k) v (behind_values s)
    ∙ append_assoc r k (behind_keys s)

pub after_records : (start now : Option (List ℕ)) (s : Stats) → Appends start now (records_line s) → IsAmid start now (stats_text s) (behind_records s)
after_records start now s one = amid_more start start now (stats_text s) (stats_text s) (records_line s) (behind_records s) (amid_none start (stats_text s)) (first_line s) one

pub after_keys : (start mid now : Option (List ℕ)) (s : Stats) → IsAmid start mid (stats_text s) (behind_records s) → Appends mid now (keys_line s) → IsAmid start now (stats_text s) (behind_keys s)
after_keys start mid now s a one = amid_more start mid now (stats_text s) (behind_records s) (keys_line s) (behind_keys s) a refl one

pub after_values : (start mid now : Option (List ℕ)) (s : Stats) → IsAmid start mid (stats_text s) (behind_keys s) → Appends mid now (values_line s) → IsAmid start now (stats_text s) (behind_values s)
after_values start mid now s a one = amid_more start mid now (stats_text s) (behind_keys s) (values_line s) (behind_values s) a refl one

pub after_tables : (start mid now : Option (List ℕ)) (s : Stats) → IsAmid start mid (stats_text s) (behind_values s) → Appends mid now (tables_line s) → IsAmid start now (stats_text s) (behind_tables s)
after_tables start mid now s a one = amid_more start mid now (stats_text s) (behind_values s) (tables_line s) (behind_tables s) a refl one

pub after_sizes : (start mid now : Option (List ℕ)) (s : Stats) → IsAmid start mid (stats_text s) (behind_tables s) → Appends mid now (sizes_line s) → IsAmid start now (stats_text s) (distance_lines s.distances)
after_sizes start mid now s a one = amid_more start mid now (stats_text s) (behind_tables s) (sizes_line s) (distance_lines s.distances) a refl one
