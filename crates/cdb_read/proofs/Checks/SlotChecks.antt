-- One slot of a table after another.
use Rattle.cdb_read.proofs.Words.{Bool, Damage, List, Marks, None, TableRecords, WordPair, [], ap, append-nil, append_assoc, arith, cond-false, cond-true, drop, empty_slot, eq-eqb, false, first_of, is_reached, is_right_slot, is_used, length, ne_eqb, not_from_false, not_from_true, nth_slot, pair_at, range_with_len, slot_fault, slots_at, subst, sym, take, take_all, take_more, true, used_fault, ℕ, ◌*◌, ◌++◌, ◌+◌, ◌<◌, ◌∙◌, ◌∷◌, ◌≡◌, ◌≤◌}
use Rattle.cdb_read.specs.Views.Check.{SlotIsClear, SlotHas, TableIsClear, TableHas}
use Rattle.cdb_read.proofs.Checks.Entered.{marks_unused}
use Rattle.cdb_read.proofs.Checks.FaultSteps.{first_of-nil, none_next, first_next}
use Rattle.cdb_read.proofs.Probing.Probes.{slot_is, length-slots_at}

-- the slot that was read
pub slot_read : (w : ℕ) (b : List ℕ) (p : WordPair) (i : ℕ) (s : WordPair) → i < p.second → s ≡ pair_at w (drop (p.first + 2 * w * i) b) → nth_slot (slots_at w b p) i ≡ s
slot_read w b p i s l read = slot_is w b p i l ∙ sym read

-- is one more of those so far
pub slots_more : (w : ℕ) (b : List ℕ) (p : WordPair) (i : ℕ) (s : WordPair) → i < p.second → nth_slot (slots_at w b p) i ≡ s → take (i + 1) (slots_at w b p) ≡ take i (slots_at w b p) ++ s ∷ []
slots_more w b p i s l here =
    take_more (slots_at w b p) i empty_slot (omega (arith, length-slots_at w b p))
    ∙ ap (λ x. take i (slots_at w b p) ++ x ∷ []) here

pub slots_all : (w : ℕ) (b : List ℕ) (p : WordPair) (i : ℕ) → p.second ≤ i → take i (slots_at w b p) ≡ slots_at w b p
slots_all w b p i past = take_all i (slots_at w b p) (omega (arith, length-slots_at w b p))

-- the fault of a slot, by what is in it
slot_fault_used : (es before slots : List WordPair) (n i : ℕ) (s : WordPair) (reached : Bool) → nth_slot slots i ≡ s → is_used s ≡ true → reached ≡ is_reached slots i
    → slot_fault es before n slots i ≡ used_fault (before ++ take i slots) (is_right_slot es n s reached) n i s
slot_fault_used es before slots n i s reached here used way =
    cond-true (is_used (nth_slot slots i)) _ _ (ap is_used here ∙ used)
    ∙ ap (λ (x : WordPair). used_fault (before ++ take i slots) (is_right_slot es n x (is_reached slots i)) n i x) here
    ∙ ap (λ b. used_fault (before ++ take i slots) (is_right_slot es n s b) n i s) (sym way)

slot_fault_empty : (es before slots : List WordPair) (n i : ℕ) (s : WordPair) → nth_slot slots i ≡ s → is_used s ≡ false → slot_fault es before n slots i ≡ None
slot_fault_empty es before slots n i s here empty = cond-false (is_used (nth_slot slots i)) _ _ (ap is_used here ∙ empty)

-- the first i slots of table n have no fault, and their records are marked
pub record IsClearTo (w n : ℕ) (p : WordPair) (b : List ℕ) (old new : TableRecords) (i : ℕ) : Type 0 where
  pub none : (entries slots : List WordPair) → Marks old entries slots → first_of (slot_fault entries slots n (slots_at w b p)) (range_with_len 0 i) ≡ None
  pub marks : (entries slots : List WordPair) → Marks old entries slots → Marks new entries (slots ++ take i (slots_at w b p))

pub clear_to_none : (w n : ℕ) (p : WordPair) (b : List ℕ) (old : TableRecords) → IsClearTo w n p b old old 0
clear_to_none w n p b old = record {
  none = λ es slots m. first_of-nil (slot_fault es slots n (slots_at w b p));
  marks = λ es slots m. subst (Marks old es) (sym (append-nil slots)) m;
}

marks_more : (w : ℕ) (b : List ℕ) (p : WordPair) (new : TableRecords) (es slots : List WordPair) (i : ℕ) (s : WordPair) → i < p.second → nth_slot (slots_at w b p) i ≡ s → Marks new es ((slots ++ take i (slots_at w b p)) ++ s ∷ []) → Marks new es (slots ++ take (i + 1) (slots_at w b p))
marks_more w b p new es slots i s l here m =
    subst (Marks new es) (append_assoc slots (take i (slots_at w b p)) (s ∷ []) ∙ ap (λ t. slots ++ t) (sym (slots_more w b p i s l here))) m

pub clear_to_used : (w n : ℕ) (p : WordPair) (b : List ℕ) (old mid new : TableRecords) (i : ℕ) (s : WordPair) (reached : Bool) → i < p.second → nth_slot (slots_at w b p) i ≡ s → (s.second ≡ 0 → ⊥) → reached ≡ is_reached (slots_at w b p) i
    → IsClearTo w n p b old mid i → SlotIsClear n i s reached mid new → IsClearTo w n p b old new (i + 1)
clear_to_used w n p b old mid new i s reached l here used way before clear =
    let u : is_used s ≡ true = not_from_false _ (ne_eqb s.second 0 used) in
    record {
      none = λ es slots m. none_next (slot_fault es slots n (slots_at w b p)) i (before.none es slots m)
          (slot_fault_used es slots (slots_at w b p) n i s reached here u way ∙ clear.none es (slots ++ take i (slots_at w b p)) (before.marks es slots m));
      marks = λ es slots m. marks_more w b p new es slots i s l here (clear.marks es (slots ++ take i (slots_at w b p)) (before.marks es slots m));
    }

pub clear_to_empty : (w n : ℕ) (p : WordPair) (b : List ℕ) (old new : TableRecords) (i : ℕ) (s : WordPair) → i < p.second → nth_slot (slots_at w b p) i ≡ s → s.second ≡ 0 → IsClearTo w n p b old new i → IsClearTo w n p b old new (i + 1)
clear_to_empty w n p b old new i s l here empty before =
    let u : is_used s ≡ false = not_from_true _ (eq-eqb s.second 0 empty) in
    record {
      none = λ es slots m. none_next (slot_fault es slots n (slots_at w b p)) i (before.none es slots m) (slot_fault_empty es slots (slots_at w b p) n i s here u);
      marks = λ es slots m. marks_more w b p new es slots i s l here (marks_unused new es (slots ++ take i (slots_at w b p)) s empty (before.marks es slots m));
    }

-- the slots of a whole table
pub clear_to_all : (w n : ℕ) (p : WordPair) (b : List ℕ) (old new : TableRecords) (i : ℕ) → i ≡ p.second → IsClearTo w n p b old new i → TableIsClear w n p b old new
clear_to_all w n p b old new i e clear =
    let long : length (slots_at w b p) ≡ i = omega (arith, length-slots_at w b p) in
    record {
      none = λ es slots m. ap (λ k. first_of (slot_fault es slots n (slots_at w b p)) (range_with_len 0 k)) long ∙ clear.none es slots m;
      marks = λ es slots m. subst (λ t. Marks new es (slots ++ t)) (slots_all w b p i (omega arith)) (clear.marks es slots m);
    }

-- and the first fault among them
pub fault_at : (w n : ℕ) (p : WordPair) (b : List ℕ) (old mid : TableRecords) (i : ℕ) (s : WordPair) (reached : Bool) (d : Damage) → i < p.second → nth_slot (slots_at w b p) i ≡ s → (s.second ≡ 0 → ⊥) → reached ≡ is_reached (slots_at w b p) i
    → IsClearTo w n p b old mid i → SlotHas n i s reached mid d → TableHas w n p old b d
fault_at w n p b old mid i s reached d l here used way before has = λ es slots m.
    let u : is_used s ≡ true = not_from_false _ (ne_eqb s.second 0 used) in
    first_next (slot_fault es slots n (slots_at w b p)) i (length (slots_at w b p)) d (omega (arith, length-slots_at w b p)) (before.none es slots m)
    (slot_fault_used es slots (slots_at w b p) n i s reached here u way ∙ has es (slots ++ take i (slots_at w b p)) (before.marks es slots m))
