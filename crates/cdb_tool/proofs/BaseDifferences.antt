-- A run that does a difference to its base holds the records that answer as the new ones do.
use Rattle.std.proofs.Common.{◌≡◌, ℕ, ◌+◌, ◌≤◌, true, cond, List, [], ◌∷◌, ◌++◌, map, flat_map, fold, length, refl, ap, sym, ◌∙◌, subst, arith, None, Ok, Err, inl, inr}
use Rattle.std.specs.Prelude.{⊤, ◌⊎◌, ◌&&◌, bytes_eq, not, filter}
use Rattle.std.proofs.lemmas.Bool.{and_parts, cases_Bool}
use Rattle.std.proofs.lemmas.Slice.Eq.{bytes_eq-Decides}
use Rattle.cdb_tool.proofs.Words.{Change, Course, Incoming, Putting, Removing, append-nil, cond-true, ends, from_input, is_going, le-leb, mode_of, with_change, with_next}
use Rattle.std.proofs.lemmas.List.Sums.{fold-append, sum_by-append}
use Rattle.cdb_form.specs.Format.{file_size, whole_size, KeyValue, record_of}
use Rattle.cdb_form.specs.declared.mode.Mode.TheVariants.{Add}
use Rattle.cdb_make.specs.Survivors.{fits, put_answer, put_list, put_result, put_step}
use Rattle.cdb_store.specs.declared.make_fault.MakeFault.TheVariants.{TooBig}
use Rattle.cdb_read.proofs.Differences.{at_key, changed_gone, eq_itself, once, put_values, there}
use Rattle.cdb_read.specs.Difference.{after_change, all_of, amended, changed_keys, difference, is_changed, puts_of, removal_of_new}
use Rattle.cdb_read.specs.Laws.{brought_up}
use Rattle.cdb_read.specs.Lookup.{values_of}
use Rattle.cdb_command.specs.declared.options.MakeOptions.{MakeOptions}
use Rattle.cdb_tool.specs.Laws.{MakerHoldsAll}

-- the run goes on, and holds these records
record Holds (s : Course) (rs : List KeyValue) : Type 0 where
  records : s.records ≡ rs
  going : s.ended ≡ None

incoming : ℕ → ℕ → Change → Incoming
incoming input number it = record { input = input; number = number; it = it }

goes_on : (w : ℕ) (o : MakeOptions) (s : Course) (input number : ℕ) (it : Change) → s.ended ≡ None → with_next w o s (incoming input number it) ≡ with_change w o s input number it
unfolding incoming
goes_on w o s input number it going = ap (λ e. cond (is_going e) (with_change w o s input number it) s) going

put_next : (w : ℕ) (o : MakeOptions) (s : Course) (input number : ℕ) (r : KeyValue) (rs : List KeyValue) → mode_of o ≡ Add → file_size w (rs ++ r ∷ []) ≤ o.limit → Holds s rs → Holds (with_next w o s (incoming input number (Putting r))) (rs ++ r ∷ [])
put_next w o s input number r rs mode room h =
    let fit : fits w o.limit Add r rs ≡ true = le-leb (file_size w (put_list Add r rs)) o.limit room in
    let step = goes_on w o s input number (Putting r) h.going in
    record {
      records = ap (λ (x : Course). x.records) step
          ∙ ap (λ m. put_step w o.limit m r s.records) mode
          ∙ ap (put_step w o.limit Add r) h.records
          ∙ cond-true (fits w o.limit Add r rs) (put_list Add r rs) rs fit;
      going = ap (λ (x : Course). x.ended) step
          ∙ ap (λ m. ends o (put_result w o.limit m r s.records)) mode
          ∙ ap (λ xs. ends o (put_result w o.limit Add r xs)) h.records
          ∙ ap (ends o) (cond-true (fits w o.limit Add r rs) (Ok (put_answer Add r rs)) (Err TooBig) fit);
    }

remove_next : (w : ℕ) (o : MakeOptions) (s : Course) (input number : ℕ) (key : List ℕ) (rs : List KeyValue) → Holds s rs → Holds (with_next w o s (incoming input number (Removing key))) (after_change rs (Removing key))
remove_next w o s input number key rs h =
    let step = goes_on w o s input number (Removing key) h.going in
    record {
      records = ap (λ (x : Course). x.records) step ∙ ap (filter (λ (r : KeyValue). not (bytes_eq r.key key))) h.records;
      going = ap (λ (x : Course). x.ended) step ∙ h.going;
    }

-- each put of some changes has room
abbrev HasRoom : ℕ → ℕ → List KeyValue → List Change → Type 0
HasRoom w limit rs [] = ⊤
HasRoom w limit rs (Putting r ∷ changes) = (file_size w (rs ++ r ∷ []) ≤ limit) × HasRoom w limit (rs ++ r ∷ []) changes
HasRoom w limit rs (Removing key ∷ changes) = HasRoom w limit (after_change rs (Removing key)) changes

does_all : (w : ℕ) (o : MakeOptions) (s : Course) (input number : ℕ) (rs : List KeyValue) (changes : List Change) → mode_of o ≡ Add → HasRoom w o.limit rs changes → Holds s rs → Holds (fold (with_next w o) s (from_input input number changes)) (amended rs changes)
unfolding incoming
does_all w o s input number rs [] mode room h = h
does_all w o s input number rs (Putting r ∷ changes) mode room h =
    does_all w o (with_next w o s (incoming input number (Putting r))) input (number + 1) (rs ++ r ∷ []) changes mode room.1 (put_next w o s input number r rs mode room.0 h)
does_all w o s input number rs (Removing key ∷ changes) mode room h =
    does_all w o (with_next w o s (incoming input number (Removing key))) input (number + 1) (after_change rs (Removing key)) changes mode room (remove_next w o s input number key rs h)

-- ---- the changes of a difference have room, if what they leave has

room_behind : (w limit : ℕ) (rs : List KeyValue) (ks : List (List ℕ)) (changes : List Change) → HasRoom w limit (amended rs (map Removing ks)) changes → HasRoom w limit rs (map Removing ks ++ changes)
room_behind w limit rs [] changes room = room
room_behind w limit rs (k ∷ ks) changes room = room_behind w limit (after_change rs (Removing k)) ks changes room

-- changes whose removals take nothing out
abbrev TakesNone : List KeyValue → List Change → Type 0
TakesNone rs [] = ⊤
TakesNone rs (Putting r ∷ changes) = TakesNone (rs ++ r ∷ []) changes
TakesNone rs (Removing key ∷ changes) = (after_change rs (Removing key) ≡ rs) × TakesNone rs changes

none_then : (rs : List KeyValue) (xs ys : List Change) → TakesNone rs xs → TakesNone (amended rs xs) ys → TakesNone rs (xs ++ ys)
none_then rs [] ys a b = b
none_then rs (Putting r ∷ xs) ys a b = none_then (rs ++ r ∷ []) xs ys a b
none_then rs (Removing key ∷ xs) ys a b = (a.0, none_then rs xs ys a.1 (subst (λ ts. TakesNone (amended ts xs) ys) a.0 b))

value_puts : (key : List ℕ) (vs : List (List ℕ)) (rs : List KeyValue) → TakesNone rs (map (λ value. Putting (record_of key value)) vs)
value_puts key [] rs = tt
value_puts key (v ∷ vs) rs = value_puts key vs (rs ++ record_of key v ∷ [])

one_more : (w : ℕ) (rs : List KeyValue) (r : KeyValue) → file_size w rs ≤ file_size w (rs ++ r ∷ [])
one_more w rs r = omega (arith, sum_by-append (whole_size w) rs (r ∷ []))

none_grow : (w : ℕ) (rs : List KeyValue) (changes : List Change) → TakesNone rs changes → file_size w rs ≤ file_size w (amended rs changes)
none_grow w rs [] a = omega arith
none_grow w rs (Putting r ∷ changes) a = let one = one_more w rs r in let others = none_grow w (rs ++ r ∷ []) changes a in omega (arith, one, others)
none_grow w rs (Removing key ∷ changes) a = subst (λ ts. file_size w rs ≤ file_size w (amended ts changes)) (sym a.0) (none_grow w rs changes a.1)

none_room : (w limit : ℕ) (rs : List KeyValue) (changes : List Change) → TakesNone rs changes → file_size w (amended rs changes) ≤ limit → HasRoom w limit rs changes
none_room w limit rs [] a room = tt
none_room w limit rs (Putting r ∷ changes) a room =
    let others = none_grow w (rs ++ r ∷ []) changes a in
    (omega (arith, others, room), none_room w limit (rs ++ r ∷ []) changes a room)
none_room w limit rs (Removing key ∷ changes) a room =
    subst (λ ts. HasRoom w limit ts changes) (sym a.0) (none_room w limit rs changes a.1 (subst (λ ts. file_size w (amended ts changes) ≤ limit) a.0 room))

-- ---- keys that are not there

-- a key as often as it is among some
abbrev hits : List ℕ → List (List ℕ) → List (List ℕ)
hits key ks = flat_map (at_key key (key ∷ [])) ks

-- no key of some is there, and each is among them once
abbrev AreNew : List KeyValue → List (List ℕ) → Type 0
AreNew rs ks = (key : List ℕ) → (hits key ks ≡ []) ⊎ ((values_of key rs ≡ []) × (length (hits key ks) ≤ 1))

none_of : {X : Type 0} (xs : List X) → length xs ≤ 0 → xs ≡ []
none_of [] few = refl
none_of (x ∷ xs) few = absurd (omega (arith, few))

first_new : (rs : List KeyValue) (k : List ℕ) (ks : List (List ℕ)) → AreNew rs (k ∷ ks) → (values_of k rs ≡ []) × (hits k ks ≡ [])
first_new rs k ks new =
    let mine : hits k (k ∷ ks) ≡ k ∷ hits k ks = ap (λ b. cond b (k ∷ []) [] ++ hits k ks) (eq_itself k) in
    elim (new k) [
      | inl none ↦ (let wrong = ap length (sym mine ∙ none) in absurd (omega (arith, wrong)))
      | inr one ↦ (let few = subst (λ xs. length xs ≤ 1) mine one.1 in (one.0, none_of (hits k ks) (omega (arith, few))))
    ]

others_new : (rs : List KeyValue) (k : List ℕ) (ks vs : List (List ℕ)) → AreNew rs (k ∷ ks) → AreNew (amended rs (map (λ value. Putting (record_of k value)) vs)) ks
others_new rs k ks vs new key = elim (cases_Bool (bytes_eq k key)) [
  | inl t ↦ inl (subst (λ x. hits x ks ≡ []) ((bytes_eq-Decides k key).0 t) (first_new rs k ks new).1)
  | inr f ↦
      (let other : hits key (k ∷ ks) ≡ hits key ks = ap (λ b. cond b (key ∷ []) [] ++ hits key ks) f in
      let same : values_of key (amended rs (map (λ value. Putting (record_of k value)) vs)) ≡ values_of key rs =
      put_values key k vs rs ∙ ap (λ b. values_of key rs ++ cond b vs []) f ∙ append-nil (values_of key rs) in
      elim (new key) [
        | inl none ↦ inl (sym other ∙ none)
        | inr one ↦ inr (same ∙ one.0, subst (λ xs. length xs ≤ 1) other one.1)
      ])
]

-- a removal of one takes nothing out
takes_none : (k : List ℕ) (rs : List KeyValue) → values_of k rs ≡ [] → after_change rs (Removing k) ≡ rs
takes_none k [] none = refl
takes_none k (r ∷ rs) none =
    let has = filter (λ (x : KeyValue). bytes_eq x.key k) rs in
    let left = filter (λ (x : KeyValue). not (bytes_eq x.key k)) rs in
    elim (cases_Bool (bytes_eq r.key k)) [
      | inl t ↦
          (let some : r.value ∷ values_of k rs ≡ [] = ap (λ b. map (λ (x : KeyValue). x.value) (cond b (r ∷ has) has)) (sym t) ∙ none in
          let wrong = ap length some in
          absurd (omega (arith, wrong)))
      | inr f ↦
          (let others : values_of k rs ≡ [] = ap (λ b. map (λ (x : KeyValue). x.value) (cond b (r ∷ has) has)) (sym f) ∙ none in
          ap (λ b. cond (not b) (r ∷ left) left) f ∙ ap (λ xs. r ∷ xs) (takes_none k rs others))
    ]

new_none : (us : List (List ℕ)) (k : List ℕ) (rs : List KeyValue) (ys : List Change) → after_change rs (Removing k) ≡ rs → TakesNone rs ys → TakesNone rs (removal_of_new us k ++ ys)
new_none [] k rs ys gone a = (gone, a)
new_none (u ∷ us) k rs ys gone a = a

new_leaves : (us : List (List ℕ)) (k : List ℕ) (rs : List KeyValue) (ys : List Change) → after_change rs (Removing k) ≡ rs → amended rs (removal_of_new us k ++ ys) ≡ amended rs ys
new_leaves [] k rs ys gone = ap (λ ts. amended ts ys) gone
new_leaves (u ∷ us) k rs ys gone = refl

keys_none : (rs ss : List KeyValue) (ks : List (List ℕ)) (ts : List KeyValue) → AreNew ts ks → TakesNone ts (flat_map (all_of rs ss) ks)
keys_none rs ss [] ts new = tt
keys_none rs ss (k ∷ ks) ts new =
    let gone = takes_none k ts (first_new ts k ks new).0 in
    let others = flat_map (all_of rs ss) ks in
    none_then ts (all_of rs ss k) others
    (new_none (values_of k rs) k ts (puts_of ss k) gone (value_puts k (values_of k ss) ts))
    (subst (λ us. TakesNone us others) (sym (new_leaves (values_of k rs) k ts (puts_of ss k) gone)) (keys_none rs ss ks (amended ts (puts_of ss k)) (others_new ts k ks (values_of k ss) new)))

-- the changed keys are not there once they were removed
changed_new : (rs ss : List KeyValue) → AreNew (amended rs (map Removing (changed_keys rs ss))) (changed_keys ss rs)
changed_new rs ss key =
    let found = once key (key ∷ []) (is_changed ss rs) ss in
    elim (cases_Bool (there key ss && is_changed ss rs key)) [
      | inl t ↦
          (let one : length (key ∷ []) ≤ 1 = omega arith in
          inr (changed_gone key rs ss (and_parts (there key ss) (is_changed ss rs key) t).1, subst (λ xs. length xs ≤ 1) (sym (found ∙ ap (λ b. cond b (key ∷ []) []) t)) one))
      | inr f ↦ inl (found ∙ ap (λ b. cond b (key ∷ []) []) f)
    ]

difference_room : (w limit : ℕ) (rs ss : List KeyValue) → file_size w (brought_up rs ss) ≤ limit → HasRoom w limit rs (difference rs ss)
unfolding difference
difference_room w limit rs ss room =
    let gone = map Removing (changed_keys rs ss) in
    let new = flat_map (all_of rs ss) (changed_keys ss rs) in
    room_behind w limit rs (changed_keys rs ss) new
    (none_room w limit (amended rs gone) new (keys_none rs ss (changed_keys ss rs) (amended rs gone) (changed_new rs ss)) (subst (λ xs. file_size w xs ≤ limit) (fold-append after_change rs gone new) room))

-- the law
pub holds_all : (w : ℕ) (o : MakeOptions) (rs ss : List KeyValue) → mode_of o ≡ Add → file_size w (brought_up rs ss) ≤ o.limit → MakerHoldsAll w o rs ss
holds_all w o rs ss mode room =
    let start : Course = record { records = rs; told = []; ended = None } in
    let h : Holds (fold (with_next w o) start (from_input 1 1 (difference rs ss))) (brought_up rs ss) = does_all w o start 1 1 rs (difference rs ss) mode (difference_room w o.limit rs ss room) (record { records = refl; going = refl }) in
    let same = append-nil (from_input 1 1 (difference rs ss)) in
    record {
      records = ap (λ cs. (fold (with_next w o) start cs).records) same ∙ h.records;
      going = ap (λ cs. (fold (with_next w o) start cs).ended) same ∙ h.going;
    }
