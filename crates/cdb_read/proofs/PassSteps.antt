-- What a pass over a file, beside another, has written so far.
use Rattle.cdb_read.proofs.DifferenceWords.{Appends, AppendsPrefix, Bool, Change, ItemKind, LiesAt, List, Option, Pair, Walked, WritesPass, WritesPassPrefix, [], append-nil, appends_none, appends_then, behind, bytes_of, changes_at, changes_text, false, head_size, is_first_changed, length, no_walk, record_in, refl, same_appends, sym, true, values_of, walk_of, with_first, ℕ, ◌&&◌, ◌++◌, ◌<◌, ◌≡◌, ◌≤◌}
use Rattle.cdb_read.proofs.Passes.{PassList, pass_all, pass_more, pass_none, pass_prefix, pass_so_far, text_append}

pub record PassSoFar (w : ℕ) (kind : ItemKind) (b c : List ℕ) (left : Walked) (place : ℕ) (start now : Option (List ℕ)) : Type 0 where
  pub changes : List Change
  pub listed : PassList w kind b c left place changes
  pub written : Appends start now (changes_text changes)

pub so_far_none : (w : ℕ) (kind : ItemKind) (b c : List ℕ) (left : Walked) (place : ℕ) (start : Option (List ℕ)) → left ≡ walk_of w b → place ≡ head_size w → PassSoFar w kind b c left place start start
so_far_none w kind b c left place start is here = record { changes = []; listed = pass_none w kind b c left place is here; written = appends_none start }

-- one key more, of which this was said
module _ (w : ℕ) (kind : ItemKind) (b c : List ℕ) (old new : Walked) (place next : ℕ) (pair : Pair) (key : List ℕ) (marked : Bool) (start mid now : Option (List ℕ)) (some : 0 < w) (agree : marked ≡ false → values_of key (walk_of w b).records ≡ values_of key (walk_of w c).records) (so_far : PassSoFar w kind b c old place start mid) (first : old ≡ with_first (record_in b pair) new)
    (lies : LiesAt w place pair) (ends : next ≡ behind pair) (inside : behind pair ≤ length b) (key_is : key ≡ bytes_of b pair.key) where
  pub unchanged : false ≡ (marked && is_first_changed w b c key pair.value.place) → PassSoFar w kind b c new next start mid
  unchanged is = record {
    changes = so_far.changes ++ [];
    listed = pass_more w kind b c old new place next so_far.changes [] pair key marked false some agree so_far.listed first lies ends inside key_is is refl;
    written = same_appends start mid _ _ (sym (text_append so_far.changes []))
        (same_appends start mid _ _ (sym (append-nil (changes_text so_far.changes))) so_far.written);
  }

  changed_list : true ≡ (marked && is_first_changed w b c key pair.value.place) → PassList w kind b c new next (so_far.changes ++ changes_at kind w b c key)
  changed_list is = pass_more w kind b c old new place next so_far.changes (changes_at kind w b c key) pair key marked true some agree so_far.listed first lies ends inside key_is is refl

  pub changed : true ≡ (marked && is_first_changed w b c key pair.value.place) → Appends mid now (changes_text (changes_at kind w b c key)) → PassSoFar w kind b c new next start now
  changed is said = record {
    changes = so_far.changes ++ changes_at kind w b c key;
    listed = changed_list is;
    written = same_appends start now _ _ (sym (text_append so_far.changes (changes_at kind w b c key))) (appends_then start mid now _ _ so_far.written said);
  }

  pub changed_prefix : true ≡ (marked && is_first_changed w b c key pair.value.place) → AppendsPrefix mid now (changes_text (changes_at kind w b c key)) → WritesPassPrefix w kind b c start now
  changed_prefix is front = pass_prefix w kind b c new next so_far.changes (changes_at kind w b c key) start mid now (changed_list is) so_far.written front

-- the pass stopped between two keys
pub stopped : (w : ℕ) (kind : ItemKind) (b c : List ℕ) (left : Walked) (place : ℕ) (start now : Option (List ℕ)) → PassSoFar w kind b c left place start now → WritesPassPrefix w kind b c start now
stopped w kind b c left place start now h = pass_so_far w kind b c left place h.changes start now h.listed h.written

-- or at the end
pub ended : (w : ℕ) (kind : ItemKind) (b c : List ℕ) (left : Walked) (place : ℕ) (start now : Option (List ℕ)) → PassSoFar w kind b c left place start now → left ≡ no_walk → WritesPass w kind b c start now
ended w kind b c left place start now h none = pass_all w kind b c left place h.changes start now h.listed none h.written
