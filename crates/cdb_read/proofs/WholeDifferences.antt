-- The text of a difference is that of its two passes.
use Rattle.cdb_read.proofs.DifferenceWords.{Appends, AppendsPrefix, KeyValue, List, Option, [], ap, append_assoc, appends_none, appends_then, codes, flat_map, map, prefix_in, prefix_last, prefix_then, refl, same_appends, sym, walk_of, ℕ, ◌++◌, ◌∙◌, ◌∷◌, ◌≡◌}
use Rattle.cdb_form.specs.Text.Parse.{Change, Removing, amending_text}
use Rattle.cdb_form.specs.declared.item.ItemKind.TheVariants.{Put, Remove}
use Rattle.cdb_read.specs.Difference.{all_of, changed_keys, difference}
use Rattle.cdb_read.specs.Differing.{changes_text, difference_of, key_changes, pass_changes, pass_of, WritesDifference, WritesPass, WritesPassPrefix, WritesDifferencePrefix}
use Rattle.cdb_read.proofs.Passes.{text_append}

removals_are : (rs ss : List KeyValue) (ks : List (List ℕ)) → map Removing ks ≡ flat_map (key_changes Remove rs ss) ks
removals_are rs ss [] = refl
removals_are rs ss (k ∷ ks) = ap (λ xs. Removing k ∷ xs) (removals_are rs ss ks)

puts_are : (rs ss : List KeyValue) (ks : List (List ℕ)) → flat_map (all_of rs ss) ks ≡ flat_map (key_changes Put ss rs) ks
puts_are rs ss [] = refl
puts_are rs ss (k ∷ ks) = ap (λ xs. all_of rs ss k ++ xs) (puts_are rs ss ks)

two_passes : (rs ss : List KeyValue) → difference rs ss ≡ pass_changes Remove rs ss ++ pass_changes Put ss rs
unfolding difference
two_passes rs ss =
    ap (λ xs. xs ++ flat_map (all_of rs ss) (changed_keys ss rs)) (removals_are rs ss (changed_keys rs ss))
    ∙ ap (λ xs. pass_changes Remove rs ss ++ xs) (puts_are rs ss (changed_keys ss rs))

-- the text of two lists of changes
text_of_two : (xs ys : List Change) → amending_text (xs ++ ys) ≡ changes_text xs ++ (changes_text ys ++ codes "\n")
text_of_two xs ys = ap (λ t. t ++ codes "\n") (text_append xs ys) ∙ append_assoc (changes_text xs) (changes_text ys) (codes "\n")

difference_text : (w : ℕ) (b c : List ℕ) → amending_text (difference_of w b c) ≡ changes_text (pass_of Remove w b c) ++ (changes_text (pass_of Put w c b) ++ codes "\n")
difference_text w b c = ap amending_text (two_passes (walk_of w b).records (walk_of w c).records) ∙ text_of_two (pass_of Remove w b c) (pass_of Put w c b)

pub difference_written : (w : ℕ) (b c : List ℕ) (start mid end now : Option (List ℕ)) → WritesPass w Remove b c start mid → WritesPass w Put c b mid end → Appends end now (codes "\n") → WritesDifference w b c start now
difference_written w b c start mid end now first second last = record {
  old_whole = first.whole;
  new_whole = second.whole;
  changes = first.changes ++ second.changes;
  written = same_appends start now _ _ (sym (text_of_two first.changes second.changes))
      (appends_then start mid now _ _ first.written (appends_then mid end now _ _ second.written last));
  are = λ one two.
      ap (λ xs. xs ++ second.changes) (first.are one two)
      ∙ ap (λ xs. pass_of Remove w b c ++ xs) (second.are two one)
      ∙ sym (two_passes (walk_of w b).records (walk_of w c).records);
}

-- a prefix of the first pass
pub prefix_first : (w : ℕ) (b c : List ℕ) (start now : Option (List ℕ)) → WritesPassPrefix w Remove b c start now → WritesDifferencePrefix w b c start now
prefix_first w b c start now first = record {
  changes = first.changes;
  written = prefix_in start now (changes_text first.changes) (codes "\n") _ first.written refl;
  are = λ one two. prefix_in start now (changes_text (pass_of Remove w b c)) (changes_text (pass_of Put w c b) ++ codes "\n") _ (first.are one two) (difference_text w b c);
}

-- the first one, and a prefix of the second
pub prefix_second : (w : ℕ) (b c : List ℕ) (start mid now : Option (List ℕ)) → WritesPass w Remove b c start mid → WritesPassPrefix w Put c b mid now → WritesDifferencePrefix w b c start now
prefix_second w b c start mid now first second = record {
  changes = first.changes ++ second.changes;
  written = prefix_then start mid now (changes_text first.changes) (changes_text second.changes) (codes "\n") _ first.written second.written (text_of_two first.changes second.changes);
  are = λ one two.
      prefix_then start mid now (changes_text (pass_of Remove w b c)) (changes_text (pass_of Put w c b)) (codes "\n") _
      (same_appends start mid _ _ (ap changes_text (first.are one two)) first.written) (second.are two one) (difference_text w b c);
}

-- both, and a prefix of what ends the text
pub prefix_end : (w : ℕ) (b c : List ℕ) (start mid end now : Option (List ℕ)) → WritesPass w Remove b c start mid → WritesPass w Put c b mid end → AppendsPrefix end now (codes "\n") → WritesDifferencePrefix w b c start now
prefix_end w b c start mid end now first second last =
    let both = appends_then start mid end _ _ first.written second.written in
    record {
      changes = first.changes ++ second.changes;
      written = prefix_last start end now (changes_text first.changes ++ changes_text second.changes) (codes "\n") _ both last
          (text_of_two first.changes second.changes ∙ sym (append_assoc (changes_text first.changes) (changes_text second.changes) (codes "\n")));
      are = λ one two.
          prefix_last start end now (changes_text (pass_of Remove w b c) ++ changes_text (pass_of Put w c b)) (codes "\n") _
          (same_appends start end _ _ (ap (λ xs. changes_text xs ++ changes_text second.changes) (first.are one two) ∙ ap (λ xs. changes_text (pass_of Remove w b c) ++ changes_text xs) (second.are two one)) both) last
          (difference_text w b c ∙ sym (append_assoc (changes_text (pass_of Remove w b c)) (changes_text (pass_of Put w c b)) (codes "\n")));
    }

-- nothing of it was written
pub nothing_written : (w : ℕ) (b c : List ℕ) (start : Option (List ℕ)) → WritesDifferencePrefix w b c start start
nothing_written w b c start = record {
  changes = [];
  written = record { front = []; more = amending_text []; split = refl; appended = appends_none start };
  are = λ one two. record { front = []; more = amending_text (difference_of w b c); split = refl; appended = appends_none start };
}
