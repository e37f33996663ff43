-- A step of two walks.
use Rattle.cdb_read.proofs.DifferenceWords.{AllMarked, AreInStep, Ghosts, Grows, KeyValue, List, OnlyReads, Pair, Walked, [], ap, append_assoc, is_marked, left_from, record_in, refl, sym, true, with_first, with_records, ℕ, ◌++◌, ◌∙◌, ◌∷◌, ◌≡◌}
use Rattle.cdb_read.specs.declared.walking.bookmark.Bookmark.{Bookmark}
use Rattle.cdb_read.specs.declared.difference.in_step.Places.{Places}
use Rattle.cdb_read.proofs.Marked.{in_step_other, in_step_own, in_step_same, marked_more}

-- the next record of a walk
abbrev pub Nexts : {S : Type 0} → ℕ → Ghosts S → S → (old new : Bookmark) → Pair → Type 0
Nexts w s store old new pair = (b : List ℕ) → s.image store b → left_from w b old ≡ with_first (record_in b pair) (left_from w b new)

-- its key is marked
abbrev pub IsMarkedIn : {S : Type 0} → Ghosts S → S → List ℕ → Pair → Type 0
IsMarkedIn s store words pair = (b : List ℕ) → s.image store b → is_marked words (record_in b pair).key ≡ true

module _ {S T : Type 0} (w : ℕ) (s : Ghosts S) (t : Ghosts T) (own own_now : S) (other other_now : T) (words words_now : List ℕ) (at : Places) (first : OnlyReads s own own_now) (second : OnlyReads t other other_now) (grows : Grows words words_now) (h : AreInStep w s t own other words at) where
  pub both_same : (then after : Bookmark) (mine theirs : Pair) → Nexts w s own_now at.own then mine → Nexts w t other_now at.other after theirs → ((b c : List ℕ) → s.image own_now b → t.image other_now c → record_in b mine ≡ record_in c theirs) → AreInStep w s t own_now other_now words (record { own = then; other = after })
  both_same then after mine theirs one two same = record {
    own_damage = λ b is. h.own_damage b (first.images b is) ∙ ap (λ (x : Walked). x.damage) (one b is);
    other_damage = λ c it. h.other_damage c (second.images c it) ∙ ap (λ (x : Walked). x.damage) (two c it);
    in_step = λ b c is it. in_step_same w words b c _ _ _ _ (record_in b mine) (record_in c theirs) (same b c is it) (one b is) (two c it) (h.in_step b c (first.images b is) (second.images c it));
  }

  pub own_marked : (then : Bookmark) (mine : Pair) → Nexts w s own_now at.own then mine → IsMarkedIn s own_now words_now mine → AreInStep w s t own_now other_now words_now (record { own = then; other = at.other })
  own_marked then mine one set = record {
    own_damage = λ b is. h.own_damage b (first.images b is) ∙ ap (λ (x : Walked). x.damage) (one b is);
    other_damage = λ c it. h.other_damage c (second.images c it);
    in_step = λ b c is it. in_step_own w words words_now b c _ _ _ (record_in b mine) grows (set b is) (one b is) (h.in_step b c (first.images b is) (second.images c it));
  }

  pub other_marked : (after : Bookmark) (theirs : Pair) → Nexts w t other_now at.other after theirs → IsMarkedIn t other_now words_now theirs → AreInStep w s t own_now other_now words_now (record { own = at.own; other = after })
  other_marked after theirs two set = record {
    own_damage = λ b is. h.own_damage b (first.images b is);
    other_damage = λ c it. h.other_damage c (second.images c it) ∙ ap (λ (x : Walked). x.damage) (two c it);
    in_step = λ b c is it. in_step_other w words words_now b c _ _ _ (record_in c theirs) grows (set c it) (two c it) (h.in_step b c (first.images b is) (second.images c it));
  }

-- ---- what is left of one walk

-- some of it was given, and marked
pub record Passed (words : List ℕ) (old new : Walked) : Type 0 where
  pub gone : List KeyValue
  pub gives : old ≡ with_records gone new
  pub all : AllMarked words gone

pub passed_none : (words : List ℕ) (old new : Walked) → new ≡ old → Passed words old new
passed_none words old new same = record { gone = []; gives = sym same; all = λ key free. refl }

pub passed_more : (words words_now : List ℕ) (old mid new : Walked) (r : KeyValue) → Grows words words_now → is_marked words_now r.key ≡ true → mid ≡ with_first r new → Passed words old mid → Passed words_now old new
passed_more words words_now old mid new r grows set first h = record {
  gone = h.gone ++ r ∷ [];
  gives = h.gives ∙ ap (with_records h.gone) first ∙ ap (λ rs. let walk : Walked = record { records = rs; damage = new.damage } in walk) (sym (append_assoc h.gone (r ∷ []) new.records));
  all = marked_more words words_now h.gone r grows set h.all;
}
