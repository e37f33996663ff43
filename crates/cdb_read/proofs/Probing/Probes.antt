-- A search, slot after slot.
use Rattle.cdb_read.proofs.Words.{List, Some, WordPair, [], ap, append-nil, append_assoc, arith, cases_lt, cond-false, cond-true, drop, drop-drop, empty_slot, false, filter, find, found_at, get_or, get_or-map-range_with_len, has_hash, has_key, inl, inr, is_used, is_whole, length, length-append, length-drop, length-map-range_with_len, length-take-le, map, mod-eq_of_lt, not, not_from_false, nth_pair, option_map, pair_at, slots_at, slots_from, suc, sym, take, take-append-le, take-take, take_more, take_while, take_while-cons, true, value_span, ℕ, ◌%◌, ◌*◌, ◌++◌, ◌+◌, ◌<◌, ◌∙◌, ◌∷◌, ◌≡◌}
use Rattle.std.proofs.Math.Seq.{drop-cons, drop-length}
use Rattle.std.proofs.Math.Nat.{add-mod_left}
use Rattle.cdb_form.specs.declared.damage.Damage.TheVariants.{Record}
use Rattle.cdb_read.proofs.WholeFiles.LookupLaws.{same_found}
use Rattle.cdb_read.proofs.Lists.Meeting.{met, met-used, met-unused, met-none}
use Rattle.cdb_read.specs.Lookup.{slot_at}

-- so many slots from one on
abbrev pub ahead : ℕ → ℕ → List WordPair → List WordPair
ahead slot left slots = take left (slots_from slot slots)

-- the slot after a slot
abbrev pub next_slot : ℕ → ℕ → ℕ
next_slot slot n = (slot + 1) % n

behind_last : (slot left : ℕ) (slots : List WordPair) → slot + 1 ≡ length slots → left < length slots → take left (drop (suc slot) slots ++ take slot slots) ≡ ahead 0 left slots
behind_last slot left slots last few =
    let e : suc slot ≡ length slots = omega arith in
    let none : drop (suc slot) slots ≡ [] = ap (λ n. drop n slots) e ∙ drop-length slots in
    ap (λ t. take left (t ++ take slot slots)) none
    ∙ take-take left slot slots (omega arith)
    ∙ ap (take left) (sym (append-nil slots))

behind_other : (slot left : ℕ) (slots : List WordPair) (d : WordPair) → slot + 1 < length slots → left < length slots → take left (drop (suc slot) slots ++ take slot slots) ≡ ahead (slot + 1) left slots
behind_other slot left slots d low few =
    let e : suc slot ≡ slot + 1 = omega arith in
    let x = get_or slots slot d in
    let rest = drop (slot + 1) slots in
    let front = take slot slots in
    let a = length-drop (slot + 1) slots in
    let b = length-take-le slot slots (omega arith) in
    let long = length-append (drop (slot + 1) slots) (take slot slots) in
    ap (λ n. take left (drop n slots ++ front)) e
    ∙ sym (take-append-le left (rest ++ front) (x ∷ []) (omega arith))
    ∙ ap (take left) (append_assoc rest front (x ∷ []))
    ∙ ap (λ t. take left (rest ++ t)) (sym (take_more slots slot d (omega arith)))

-- the next slot, and those after it
pub ahead-more : (slot left : ℕ) (slots : List WordPair) (d : WordPair) → slot < length slots → left < length slots → ahead slot (suc left) slots ≡ get_or slots slot d ∷ ahead (next_slot slot (length slots)) left slots
ahead-more slot left slots d low few =
    let n = length slots in
    let first : ahead slot (suc left) slots ≡ get_or slots slot d ∷ take left (drop (suc slot) slots ++ take slot slots) = ap (λ t. take (suc left) (t ++ take slot slots)) (drop-cons slots slot d low) in
    elim (cases_lt (slot + 1) (length slots)) [
      | inl inside ↦
          first ∙ ap (λ t. get_or slots slot d ∷ t) (behind_other slot left slots d inside few ∙ ap (λ k. ahead k left slots) (sym (mod-eq_of_lt inside)))
      | inr past ↦
          (let last : slot + 1 ≡ length slots = omega arith in
          let whole : slot + 1 ≡ length slots + 0 = omega arith in
          let round : next_slot slot (length slots) ≡ 0 = ap (λ k. k % length slots) whole ∙ add-mod_left (length slots) 0 ∙ mod-eq_of_lt (let some : 0 < length slots = omega arith in some) in
          first ∙ ap (λ t. get_or slots slot d ∷ t) (behind_last slot left slots last few ∙ ap (λ k. ahead k left slots) (sym round)))
    ]

-- the slots with a hash that are still to be met
abbrev pub met_ahead : ℕ → ℕ → ℕ → List WordPair → List WordPair
met_ahead h slot left slots = met is_used (has_hash h) (ahead slot left slots)

pub slot_is : (w : ℕ) (b : List ℕ) (p : WordPair) (slot : ℕ) → slot < p.second → get_or (slots_at w b p) slot empty_slot ≡ slot_at w b p slot
slot_is w b p slot low =
    let at : 0 + slot ≡ slot = omega arith in
    get_or-map-range_with_len (nth_pair w (drop p.first b)) 0 p.second slot slot empty_slot low at ∙ ap (pair_at w) (drop-drop (2 * w * slot) p.first b)

pub length-slots_at : (w : ℕ) (b : List ℕ) (p : WordPair) → length (slots_at w b p) ≡ p.second
length-slots_at w b p = length-map-range_with_len (nth_pair w (drop p.first b)) 0 p.second

-- a probe: the slot, and then the others
probe : (w : ℕ) (b : List ℕ) (p : WordPair) (slot left : ℕ) → slot < p.second → left < p.second → ahead slot (suc left) (slots_at w b p) ≡ slot_at w b p slot ∷ ahead (next_slot slot p.second) left (slots_at w b p)
probe w b p slot left low few =
    let n = length-slots_at w b p in
    ahead-more slot left (slots_at w b p) empty_slot (omega arith) (omega arith)
    ∙ ap (λ x. x ∷ ahead (next_slot slot (length (slots_at w b p))) left (slots_at w b p)) (slot_is w b p slot low)
    ∙ ap (λ k. slot_at w b p slot ∷ ahead (next_slot slot k) left (slots_at w b p)) n

-- no slot is left
pub met_ahead-none : (h w : ℕ) (b : List ℕ) (p : WordPair) (slot : ℕ) → met_ahead h slot 0 (slots_at w b p) ≡ []
met_ahead-none h w b p slot = met-none is_used (has_hash h)

-- an empty one
pub met_ahead-empty : (h w : ℕ) (b : List ℕ) (p : WordPair) (slot left : ℕ) → slot < p.second → left < p.second → is_used (slot_at w b p slot) ≡ false → met_ahead h slot (suc left) (slots_at w b p) ≡ []
met_ahead-empty h w b p slot left low few empty =
    ap (met is_used (has_hash h)) (probe w b p slot left low few) ∙ met-unused is_used (has_hash h) (slot_at w b p slot) (ahead (next_slot slot p.second) left (slots_at w b p)) empty

-- one with another hash
pub met_ahead-other : (h w : ℕ) (b : List ℕ) (p : WordPair) (slot left : ℕ) → slot < p.second → left < p.second → is_used (slot_at w b p slot) ≡ true → has_hash h (slot_at w b p slot) ≡ false
    → met_ahead h slot (suc left) (slots_at w b p) ≡ met_ahead h (next_slot slot p.second) left (slots_at w b p)
met_ahead-other h w b p slot left low few used other =
    let rest = ahead (next_slot slot p.second) left (slots_at w b p) in
    ap (met is_used (has_hash h)) (probe w b p slot left low few)
    ∙ met-used is_used (has_hash h) (slot_at w b p slot) rest used
    ∙ cond-false (has_hash h (slot_at w b p slot)) (slot_at w b p slot ∷ met is_used (has_hash h) rest) (met is_used (has_hash h) rest) other

-- and one with the hash
pub met_ahead-hash : (h w : ℕ) (b : List ℕ) (p : WordPair) (slot left : ℕ) → slot < p.second → left < p.second → is_used (slot_at w b p slot) ≡ true → has_hash h (slot_at w b p slot) ≡ true
    → met_ahead h slot (suc left) (slots_at w b p) ≡ slot_at w b p slot ∷ met_ahead h (next_slot slot p.second) left (slots_at w b p)
met_ahead-hash h w b p slot left low few used same =
    let rest = ahead (next_slot slot p.second) left (slots_at w b p) in
    ap (met is_used (has_hash h)) (probe w b p slot left low few)
    ∙ met-used is_used (has_hash h) (slot_at w b p slot) rest used
    ∙ cond-true (has_hash h (slot_at w b p slot)) (slot_at w b p slot ∷ met is_used (has_hash h) rest) (met is_used (has_hash h) rest) same

-- a place that has no whole record
pub found_at-broken : (w : ℕ) (bytes key : List ℕ) (place : ℕ) (places : List ℕ) → is_whole w bytes place ≡ false → found_at w bytes key (place ∷ places) ≡ record { spans = []; damage = Some (Record place) }
unfolding found_at
found_at-broken w bytes key place places broken =
    let none : take_while (is_whole w bytes) (place ∷ places) ≡ [] = take_while-cons (is_whole w bytes) place places ∙ cond-false (is_whole w bytes place) (place ∷ take_while (is_whole w bytes) places) [] broken in
    same_found _ _
    (ap (λ ps. map (value_span w bytes) (filter (has_key w bytes key) ps)) none)
    (ap (option_map (λ p. Record p)) (cond-true (not (is_whole w bytes place)) (Some place) (find (λ p. not (is_whole w bytes p)) places) (not_from_false (is_whole w bytes place) broken)))
