-- A table that its records fill in their order has no fault, and points to each of them.
use Rattle.cdb_read.proofs.Words.{All-contains, All-contains_itself, All-from_get_or, All-get_or, All-head, All-tail, Bool, Contains, IsRising, IsStrictlyIncreasing, List, Marks, ReadFault, TableIsClear, TableRecords, TellsSame, WordPair, [], ap, append-nil, arith, cases_Bool, count_by, drop, drop-take, empty_slot, entries_of, entry_pairs, false, faults_behind, flat_map, get_or, get_or-map, get_or-map-range_with_len, get_or_default, has_place, inl, inr, is_told, is_used, length, length-map-range_with_len, list_any, list_any-append, map, marks_of, nth_pair, nth_slot, or_right, pair_at, pair_size, range_with_len, refl, replicate, same_lists, same_words, slot_pair, slots_at, slots_in, slots_of, subst, suc, sym, table_number, take, take-take, true, ℕ, ◌*◌, ◌++◌, ◌+◌, ◌-◌, ◌<◌, ◌∙◌, ◌∷◌, ◌≡◌, ◌≤◌, ◌⊎◌}
use Rattle.std.specs.Prelude.{All, None, ◌||◌, Result, Ok, Err, IfOk}
use Rattle.std.proofs.Math.Nat.{mul-le-mul_left}
use Rattle.cdb_form.specs.declared.slot.Slot.{Slot}
use Rattle.cdb_form.proofs.Bytes.WordLemmas.{pair_at_part}
use Rattle.cdb_form.proofs.Slots.SlotBytes.{count_slots, get_or-slots_in}
use Rattle.cdb_read.specs.Views.Check.{AreFresh, IsFilled}
use Rattle.cdb_read.proofs.Checks.Entered.{get_or-entries_of, length-entries_of}
use Rattle.cdb_read.proofs.FilledTables.Filled.{AllUsed, IsUsed}
use Rattle.cdb_read.proofs.FilledTables.Fits.{used}
use Rattle.cdb_read.proofs.FilledTables.Once.{none_earlier}
use Rattle.cdb_read.proofs.FilledTables.Reached.{reached-NoneBehind}
use Rattle.cdb_read.proofs.FilledTables.SlotTables.{NoneBehind-filled_slots, count-filled_slots, told-filled_slots}
use Rattle.cdb_read.proofs.Lists.Apart.{AreApart, IsEntryOf, count_apart}
use Rattle.cdb_read.proofs.Lists.Counts.{any_none}
use Rattle.cdb_read.proofs.Lists.Rising.{rising_is_apart}
use Rattle.cdb_read.proofs.WholeFiles.FaultLaws.{IsClean, all_numbers, clean_slot, none_of-all}
use Rattle.cdb_read.proofs.WholeFiles.SoundFiles.{only_place}

-- places that rise are those of entries that do
rise_entries : (low : ℕ) (ps hs : List ℕ) → length hs ≡ length ps → IsStrictlyIncreasing ps → (0 < length ps → low ≤ get_or ps 0 0) → IsRising low (entries_of ps hs)
rise_entries low [] hs e up first = tt
rise_entries low (p ∷ ps) [] e up first = absurd (omega arith)
rise_entries low (p ∷ ps) (h ∷ hs) e up first =
    let here : low ≤ p = first (omega arith) in (
      here,
      rise_entries (p + 1) ps hs (omega arith)
          (λ k l. let n : suc k + 1 ≡ suc (k + 1) = omega arith in subst (λ j. get_or ps k 0 < get_or (p ∷ ps) j 0) n (up (suc k) (omega arith)))
          (λ some. let step : p < get_or (p ∷ ps) (0 + 1) 0 = up 0 (omega arith) in omega arith),
    )

-- what holds of each number holds of each entry
each_entry : (P : WordPair → Type 0) (ps hs : List ℕ) → length hs ≡ length ps → ((k : ℕ) → k < length ps → P (record { first = get_or hs k 0; second = get_or ps k 0 })) → All P (entries_of ps hs)
each_entry P ps hs long each =
    let size = length-entries_of ps hs long in
    All-from_get_or P (entries_of ps hs) empty_slot (λ k l. (let low : k < length ps = omega arith in subst P (sym (get_or-entries_of ps hs k long low)) (each k low)))

-- what is known of the records of such a table
record Known (e : TableRecords) (n : ℕ) (before : List WordPair) : Type 0 where
  pub told : All (IsEntryOf (entry_pairs e) n) (entry_pairs e)
  pub used : AllUsed (entry_pairs e)
  pub apart : AreApart (entry_pairs e)
  pub above : All (λ s. 0 < s.second) (entry_pairs e)
  pub untold : All (λ s. is_told before s ≡ false) (entry_pairs e)

known : (e : TableRecords) (n top : ℕ) (es before : List WordPair) → AreFresh n top e → Marks e es before → Known e n before
unfolding marks_of
known e n top es before fresh marks =
    let ps = e.places.items in
    let hs = e.hashes.items in
    let entries = entries_of ps hs in
    let long = length-entries_of ps hs e.paired in
    let positive : (k : ℕ) → k < length ps → 0 < get_or ps k 0 = λ k l. All-get_or (λ place. 0 < place) ps k 0 l marks.positive in
    let of_table = each_entry (λ s. table_number s.first ≡ n) ps hs e.paired fresh.table in
    record {
      told = λ k d l. (All-contains_itself entries k d l, of_table k d l);
      used = each_entry IsUsed ps hs e.paired (λ k l. used (get_or ps k 0) (positive k l));
      apart = rising_is_apart 0 entries (rise_entries 0 ps hs e.paired marks.rising (λ some. omega arith));
      above = each_entry (λ s. 0 < s.second) ps hs e.paired positive;
      untold = All-from_get_or (λ s. is_told before s ≡ false) entries empty_slot (λ k l.
          let low : k < length ps = omega arith in
          let of_es : k < length es = let same = ap length marks.are in omega arith in
          let here : get_or (map (is_told before) es) k false ≡ is_told before (get_or es k empty_slot) = get_or-map (is_told before) es k empty_slot false of_es in
          let mark : get_or e.marks.items k false ≡ get_or (map (is_told before) es) k false = ap (λ ms. get_or ms k false) marks.marked in
          ap (λ (ss : List WordPair). is_told before (get_or ss k empty_slot)) marks.are ∙ sym here ∙ sym mark ∙ fresh.unmarked k low);
    }

-- the place of each entry occurs once among the slots
once_there : (e : TableRecords) (n : ℕ) (before : List WordPair) (s : WordPair) → Known e n before → Contains (entry_pairs e) s → count_by (has_place s) (slots_of (entry_pairs e)) ≡ 1
once_there e n before s k c =
    let entries = entry_pairs e in
    let above = All-contains (λ x. 0 < x.second) entries s k.above c in
    count-filled_slots (has_place s) (2 * length entries) entries (only_place s above) (omega arith) k.used ∙ count_apart entries s k.apart c

-- a used slot is right, and no earlier one has its place
slot_is_clean : (e : TableRecords) (n : ℕ) (before : List WordPair) (i : ℕ) → Known e n before → i < length (slots_of (entry_pairs e)) → is_used (nth_slot (slots_of (entry_pairs e)) i) ≡ true → IsClean (entry_pairs e) before n (slots_of (entry_pairs e)) i
slot_is_clean e n before i k l u =
    let entries = entry_pairs e in
    let slots = slots_of entries in
    let s = nth_slot slots i in
    let told = All-get_or (λ x. is_used x ≡ true → IsEntryOf entries n x) slots i empty_slot l (told-filled_slots (IsEntryOf entries n) (2 * length entries) entries k.told) u in
    let one = once_there e n before s k told.0 in
    let all : flat_map (λ (_ : ℕ). slots) (range_with_len 0 1) ≡ slots = append-nil slots in
    let inside = none_earlier (λ _. slots) 1 0 i (omega arith) l (ap (count_by (has_place s)) all ∙ one) in
    let outside = All-contains (λ x. is_told before x ≡ false) entries s k.untold told.0 in
    record {
      right = record {
        told = told.0;
        in_table = told.1;
        reached = reached-NoneBehind slots i l u (NoneBehind-filled_slots s.first (2 * length entries) entries (omega arith) k.used);
      };
      first = list_any-append (has_place s) before (take i slots) ∙ ap (λ b. b || list_any (has_place s) (take i slots)) outside ∙ inside;
    }

-- a list of equal elements
all_same : {X : Type 0} (f : WordPair → X) (x : X) (es : List WordPair) → All (λ s. f s ≡ x) es → replicate (length es) x ≡ map f es
all_same f x [] all = refl
all_same f x (s ∷ es) all =
    let head : f s ≡ x = All-head (λ y. f y ≡ x) s es all in
    ap (λ y. y ∷ replicate (length es) x) (sym head) ∙ ap (λ ys. f s ∷ ys) (all_same f x es (All-tail (λ y. f y ≡ x) s es all))

told_there : (s : WordPair) (slots : List WordPair) → count_by (has_place s) slots ≡ 1 → list_any (has_place s) slots ≡ true
told_there s slots one = elim (cases_Bool (list_any (has_place s) slots)) [
  | inl t ↦ t
  | inr f ↦ (let none = any_none (has_place s) slots f in absurd (omega arith))
]

-- all its records are marked then
all_marked : (old new : TableRecords) (n top : ℕ) (es before : List WordPair) → AreFresh n top old → Marks old es before → new.places ≡ old.places → new.hashes ≡ old.hashes → new.marks.items ≡ replicate (length old.marks.items) true
    → Marks new es (before ++ slots_of (entry_pairs old))
unfolding marks_of
all_marked old new n top es before fresh marks places hashes filled =
    let entries = entry_pairs old in
    let slots = slots_of entries in
    let k = known old n top es before fresh marks in
    let size = length-entries_of old.places.items old.hashes.items old.paired in
    let each : All (λ s. is_told (before ++ slots) s ≡ true) entries = λ i d l.
    (let s = get_or entries i d in
    let there = told_there s slots (once_there old n before s k (All-contains_itself entries i d l)) in
    list_any-append (has_place s) before slots ∙ or_right (list_any (has_place s) before) (list_any (has_place s) slots) there) in
    let long : length old.marks.items ≡ length entries = old.marked ∙ sym size in
    record {
      are = ap (λ (ps : List ℕ). entries_of ps new.hashes.items) (ap (λ v. v.items) places) ∙ ap (entries_of old.places.items) (ap (λ v. v.items) hashes) ∙ marks.are;
      marked = filled ∙ ap (λ m. replicate m true) long ∙ all_same (is_told (before ++ slots)) true entries each ∙ ap (map (is_told (before ++ slots))) marks.are;
      rising = subst IsStrictlyIncreasing (sym (ap (λ v. v.items) places)) marks.rising;
      positive = subst (All (λ place. 0 < place)) (sym (ap (λ v. v.items) places)) marks.positive;
    }

pub filled_is_clear : (w n top : ℕ) (p : WordPair) (b : List ℕ) (old new : TableRecords) → IsFilled w n top p b old → new.places ≡ old.places → new.hashes ≡ old.hashes → new.marks.items ≡ replicate (length old.marks.items) true → TableIsClear w n p b old new
filled_is_clear w n top p b old new is places hashes filled = record {
  none = λ es before marks.
      let slots = slots_of (entry_pairs old) in
      let k = known old n top es before is.fresh marks in
      let clean : faults_behind (entry_pairs old) before n slots ≡ None =
      none_of-all _ (range_with_len 0 (length slots)) (all_numbers _ (length slots) (λ i l. clean_slot (entry_pairs old) before n slots i (slot_is_clean old n before i k l))) in
      ap (λ (ts : List WordPair). faults_behind es before n ts) is.slots ∙ ap (λ (ss : List WordPair). faults_behind ss before n slots) (sym marks.are) ∙ clean;
  marks = λ es before marks.
      subst (λ (ts : List WordPair). Marks new es (before ++ ts)) (sym is.slots) (all_marked old new n top es before is.fresh marks places hashes filled);
}

-- a pair of words inside of some first bytes
nth_pair_part : (w i count m : ℕ) (xs : List ℕ) → m ≡ 2 * w * count → i < count → nth_pair w (take m xs) i ≡ nth_pair w xs i
nth_pair_part w i count m xs long low =
    let at = 2 * w * i in
    let size = 2 * w in
    let more : 2 * w * (i + 1) ≤ 2 * w * count = mul-le-mul_left (2 * w) (omega arith) in
    let next : 2 * w * (i + 1) ≡ at + size = omega arith in
    let rest = m - at in
    let whole : at + rest ≡ m = omega arith in
    let room : size ≤ rest = omega arith in
    let cut : drop at (take m xs) ≡ take rest (drop at xs) = ap (λ k. drop at (take k xs)) (sym whole) ∙ drop-take at rest xs in
    sym (pair_at_part w i at size (take m xs) refl refl)
    ∙ ap (λ (ys : List ℕ). pair_at w (take size ys)) cut
    ∙ ap (pair_at w) (take-take size rest (drop at xs) room)
    ∙ pair_at_part w i at size xs refl refl

-- the slots of a table are those of its bytes
pub slots_there : (w : ℕ) (p : WordPair) (b bytes : List ℕ) → (w ≡ 4) ⊎ (w ≡ 8) → length bytes ≡ pair_size w * p.second → take (length bytes) (drop p.first b) ≡ bytes → slots_at w b p ≡ slots_in w bytes
slots_there w p b bytes width long same =
    let count = p.second in
    let xs = drop p.first b in
    let size = count_slots w count bytes width long in
    let there = length-map-range_with_len (nth_pair w xs) 0 count in
    same_lists (slots_at w b p) (slots_in w bytes) (there ∙ sym size) (λ i d l.
    let low : i < count = omega arith in
    let within : i < length (slots_in w bytes) = omega arith in
    let file : get_or (slots_at w b p) i d ≡ nth_pair w xs i = get_or-map-range_with_len (nth_pair w xs) 0 count i i d low (omega arith) in
    let made : get_or (slots_in w bytes) i d ≡ nth_pair w bytes i = get_or_default (slots_in w bytes) i d empty_slot within ∙ get_or-slots_in w i bytes within in
    let cut : nth_pair w bytes i ≡ nth_pair w xs i = ap (λ (ys : List ℕ). nth_pair w ys i) (sym same) ∙ nth_pair_part w i count (length bytes) xs long low in
    file ∙ sym cut ∙ sym made)

-- the slot of a record is its entry
pub slot_there : (e : TableRecords) (k : ℕ) (s : Slot) → k < length e.places.items → s.place ≡ get_or e.places.items k 0 → s.hash ≡ get_or e.hashes.items k 0 → slot_pair s ≡ get_or (entry_pairs e) k (slot_pair s)
slot_there e k s low place hash =
    let ps = e.places.items in
    let hs = e.hashes.items in
    let size = length-entries_of ps hs e.paired in
    let same : slot_pair s ≡ record { first = get_or hs k 0; second = get_or ps k 0 } = same_words (slot_pair s) (record { first = get_or hs k 0; second = get_or ps k 0 }) hash place in
    same ∙ sym (get_or-entries_of ps hs k e.paired low) ∙ get_or_default (entry_pairs e) k empty_slot (slot_pair s) (omega arith)

-- a table whose bytes are these is filled, if their slots are
pub filled_there : (w n top : ℕ) (p : WordPair) (e : TableRecords) (bytes : List ℕ) (images : List ℕ → Type 0) (r : Result Bool ReadFault) → (w ≡ 4) ⊎ (w ≡ 8) → AreFresh n top e → length bytes ≡ pair_size w * p.second → slots_in w bytes ≡ slots_of (entry_pairs e)
    → IfOk r (λ same. TellsSame same p.first bytes images) → (b : List ℕ) → images b → IfOk r (λ yes. yes ≡ true → IsFilled w n top p b e)
filled_there w n top p e bytes images (Ok same) width fresh long filled tells b is = λ t. record { fresh = fresh; slots = slots_there w p b bytes width long ((tells.each b is).0 t) ∙ filled }
filled_there w n top p e bytes images (Err fault) width fresh long filled tells b is = tt
