-- What a pass over a file, beside another, has said so far.
use Rattle.cdb_read.proofs.DifferenceWords.{Appends, AppendsPrefix, Bool, Change, ItemKind, LiesAt, List, Option, Pair, Putting, Walked, [], ap, append-nil, append_assoc, arith, behind, bytes_eq-Decides, bytes_of, change_line, cond, false, flat_map, flat_map-append, inl, inr, length, length_of, lookup_of, map, no_walk, prefix_in, prefix_last, record_in, refl, sym, true, values_of, walk_of, with_first, with_records, ℕ, ◌++◌, ◌+◌, ◌<◌, ◌∙◌, ◌∷◌, ◌≡◌, ◌≤◌}
use Rattle.std.specs.Prelude.{◌&&◌, not, bytes_eq, filter, sum_by}
use Rattle.std.proofs.lemmas.Bool.{and_right, cases_Bool, eq-eqb, ne_eqb}
use Rattle.std.proofs.lemmas.List.Elements.{filter-append}
use Rattle.std.proofs.lemmas.List.Sums.{sum_by-append, sum_by-cons}
use Rattle.cdb_form.specs.Format.{head_size, pair_size, KeyValue, record_size}
use Rattle.cdb_form.specs.declared.item.ItemKind.TheVariants as kind
use Rattle.cdb_read.specs.Difference.{first_keys, is_changed, removal_of_new, values_eq, FindsInOrder, spans_from}
use Rattle.cdb_read.proofs.Differences.{same_unchanged, there}
use Rattle.cdb_read.proofs.FirstKeys.{chosen_push, first_keys_more}
use Rattle.cdb_read.proofs.InOrderFiles.{spans_has, spans_other}
use Rattle.cdb_read.specs.Differing.{changes_at, changes_text, first_at, is_first_changed, key_changes, pass_of, puts_at, values_at, WritesPass, WritesPassPrefix}

-- ---- the first record of a key

-- the value of a record is the first of its key exactly when no record before has the key
first_is : (w at place : ℕ) (key : List ℕ) (before : List KeyValue) (r : KeyValue) (rest : List KeyValue) → 0 < w → r.key ≡ key → place ≡ at + sum_by (record_size w) before + pair_size w + length key
    → first_at place (spans_from w at key (before ++ r ∷ rest)) ≡ not (there key before)
unfolding there
first_is w at place key [] r rest some same here =
    let long : length r.key ≡ length key = ap length same in
    ap (first_at place) (spans_has w at key r rest ((bytes_eq-Decides r.key key).1 same))
    ∙ eq-eqb (at + pair_size w + length r.key) place (omega (arith, long, here))
first_is w at place key (x ∷ before) r rest some same here =
    let sum = sum_by-cons (record_size w) x before in
    elim (cases_Bool (bytes_eq x.key key)) [
      | inl t ↦
          (let long : length x.key ≡ length key = ap length ((bytes_eq-Decides x.key key).0 t) in
          ap (first_at place) (spans_has w at key x (before ++ r ∷ rest) t)
          ∙ ne_eqb (at + pair_size w + length x.key) place (λ e. omega (arith, long, here, sum, e, some))
          ∙ sym (ap (λ v. not (cond v true (there key before))) t))
      | inr f ↦
          ap (first_at place) (spans_other w at key x (before ++ r ∷ rest) f)
          ∙ first_is w (at + record_size w x) place key before r rest some same (omega (arith, here, sum))
          ∙ sym (ap (λ v. not (cond v true (there key before))) f)
    ]

-- ---- texts

pub text_append : (xs ys : List Change) → changes_text (xs ++ ys) ≡ changes_text xs ++ changes_text ys
text_append xs ys = flat_map-append change_line xs ys

-- ---- the keys of a pass

abbrev records_of : ℕ → List ℕ → List KeyValue
records_of w b = (walk_of w b).records

abbrev chosen : ℕ → (b c : List ℕ) → List KeyValue → List (List ℕ)
chosen w b c rs = filter (is_changed (records_of w b) (records_of w c)) (first_keys rs)

abbrev said_of : ItemKind → ℕ → (b c : List ℕ) → List KeyValue → List Change
said_of kind w b c rs = flat_map (key_changes kind (records_of w b) (records_of w c)) (chosen w b c rs)

-- the walk gave some records, up to a place, of which these are the changes
pub record PassList (w : ℕ) (kind : ItemKind) (b c : List ℕ) (left : Walked) (place : ℕ) (changes : List Change) : Type 0 where
  pub done : List KeyValue
  pub all : walk_of w b ≡ with_records done left
  pub here : place ≡ head_size w + sum_by (record_size w) done
  pub are : FindsInOrder w b → FindsInOrder w c → changes ≡ said_of kind w b c done

pub pass_none : (w : ℕ) (kind : ItemKind) (b c : List ℕ) (left : Walked) (place : ℕ) → left ≡ walk_of w b → place ≡ head_size w → PassList w kind b c left place []
unfolding first_keys
pass_none w kind b c left place is here = record { done = []; all = sym is; here = omega arith; are = λ one two. refl }

-- the changes of a key, as a look-up gives them
changes_are : (kind : ItemKind) (w : ℕ) (b c key : List ℕ) → FindsInOrder w b → FindsInOrder w c → changes_at kind w b c key ≡ key_changes kind (records_of w b) (records_of w c) key
changes_are kind.Put w b c key one two =
    ap (λ us. removal_of_new us key ++ puts_at w b key) (two.values key)
    ∙ ap (λ vs. removal_of_new (values_of key (records_of w c)) key ++ map (λ value. Putting (record { key = key; value = value })) vs) (one.values key)
changes_are kind.Remove w b c key one two = refl

one_key : (kind : ItemKind) (w : ℕ) (b c key : List ℕ) (changed : Bool) → FindsInOrder w b → FindsInOrder w c → cond changed (changes_at kind w b c key) [] ≡ flat_map (key_changes kind (records_of w b) (records_of w c)) (cond changed (key ∷ []) [])
one_key kind w b c key true one two = changes_are kind w b c key one two ∙ sym (append-nil (key_changes kind (records_of w b) (records_of w c) key))
one_key kind w b c key false one two = refl

-- a key that isn't marked isn't chosen
only_marked : (marked first differs : Bool) → (marked ≡ false → differs ≡ false) → (marked && (first && differs)) ≡ (first && differs)
only_marked true first differs none = refl
only_marked false first differs none = sym (and_right first differs (none refl))

-- one record more, and what was said of it
pub pass_more : (w : ℕ) (kind : ItemKind) (b c : List ℕ) (old new : Walked) (place next : ℕ) (changes said : List Change) (pair : Pair) (key : List ℕ) (marked changed : Bool) → 0 < w → (marked ≡ false → values_of key (records_of w b) ≡ values_of key (records_of w c)) → PassList w kind b c old place changes → old ≡ with_first (record_in b pair) new → LiesAt w place pair → next ≡ behind pair → behind pair ≤ length b
    → key ≡ bytes_of b pair.key → changed ≡ (marked && is_first_changed w b c key pair.value.place) → said ≡ cond changed (changes_at kind w b c key) [] → PassList w kind b c new next (changes ++ said)
pass_more w kind b c old new place next changes said pair key marked changed some agree so_far first lies ends inside key_is changed_is said_is =
    let r = record_in b pair in
    let done = so_far.done in
    let after = lies.value in
    let key_at = lies.key in
    let at = lies.here in
    let was = so_far.here in
    let klen : length (bytes_of b pair.key) ≡ pair.key.len = length_of b pair.key (omega arith) in
    let vlen : length (bytes_of b pair.value) ≡ pair.value.len = length_of b pair.value inside in
    let long : length key ≡ length (bytes_of b pair.key) = ap length key_is in
    let sum : sum_by (record_size w) (done ++ r ∷ []) ≡ sum_by (record_size w) done + record_size w r = omega (arith, sum_by-append (record_size w) done (r ∷ []), sum_by-cons (record_size w) r []) in
    let all : walk_of w b ≡ with_records (done ++ r ∷ []) new =
    so_far.all ∙ ap (with_records done) first ∙ ap (λ rs. let walk : Walked = record { records = rs; damage = new.damage } in walk) (sym (append_assoc done (r ∷ []) new.records)) in
    let records : records_of w b ≡ done ++ r ∷ new.records = ap (λ (x : Walked). x.records) (so_far.all ∙ ap (with_records done) first) in
    record {
      done = done ++ r ∷ [];
      all = all;
      here = omega arith;
      are = λ one two.
          let is_first : first_at pair.value.place (lookup_of w b key).spans ≡ not (there key done) =
          ap (first_at pair.value.place) (one.spans key ∙ ap (spans_from w (head_size w) key) records)
          ∙ first_is w (head_size w) pair.value.place key done r new.records some (sym key_is) (omega arith) in
          let differs : values_eq (values_at w b key) (values_at w c key) ≡ values_eq (values_of key (records_of w b)) (values_of key (records_of w c)) =
          ap (λ vs. values_eq vs (values_at w c key)) (one.values key) ∙ ap (values_eq (values_of key (records_of w b))) (two.values key) in
          let test : changed ≡ (not (there key done) && is_changed (records_of w b) (records_of w c) key) =
          changed_is
          ∙ ap (λ v. marked && (v && not (values_eq (values_at w b key) (values_at w c key)))) is_first
          ∙ ap (λ v. marked && (not (there key done) && not v)) differs
          ∙ only_marked marked (not (there key done)) (is_changed (records_of w b) (records_of w c) key) (λ no. same_unchanged (records_of w b) (records_of w c) key (agree no)) in
          let push = chosen_push (is_changed (records_of w b) (records_of w c)) done r in
          let key_of : cond (not (there key done) && is_changed (records_of w b) (records_of w c) key) (key ∷ []) [] ≡ cond (not (there r.key done) && is_changed (records_of w b) (records_of w c) r.key) (r.key ∷ []) [] =
          ap (λ k. cond (not (there k done) && is_changed (records_of w b) (records_of w c) k) (k ∷ []) []) key_is in
          ap (λ xs. xs ++ said) (so_far.are one two)
          ∙ ap (λ xs. said_of kind w b c done ++ xs)
          (said_is ∙ one_key kind w b c key changed one two ∙ ap (λ v. flat_map (key_changes kind (records_of w b) (records_of w c)) (cond v (key ∷ []) [])) test ∙ ap (flat_map (key_changes kind (records_of w b) (records_of w c))) key_of)
          ∙ sym (ap (flat_map (key_changes kind (records_of w b) (records_of w c))) push ∙ flat_map-append (key_changes kind (records_of w b) (records_of w c)) (chosen w b c done) (cond (not (there r.key done) && is_changed (records_of w b) (records_of w c) r.key) (r.key ∷ []) []));
    }

-- what was said is the first of all that the pass says
pub pass_front : (w : ℕ) (kind : ItemKind) (b c : List ℕ) (left : Walked) (place : ℕ) (changes : List Change) → PassList w kind b c left place changes → FindsInOrder w b → FindsInOrder w c → (more : List ℕ) × (changes_text (pass_of kind w b c) ≡ changes_text changes ++ more)
pass_front w kind b c left place changes h one two =
    let changed = is_changed (records_of w b) (records_of w c) in
    let say = key_changes kind (records_of w b) (records_of w c) in
    let keys = first_keys_more h.done left.records in
    let records : records_of w b ≡ h.done ++ left.records = ap (λ (x : Walked). x.records) h.all in (
      changes_text (flat_map say (filter changed keys.0)),
      ap (λ rs. changes_text (flat_map say (filter changed (first_keys rs)))) records
          ∙ ap (λ ks. changes_text (flat_map say (filter changed ks))) keys.1
          ∙ ap (λ ks. changes_text (flat_map say ks)) (filter-append changed (first_keys h.done) keys.0)
          ∙ ap changes_text (flat_map-append say (chosen w b c h.done) (filter changed keys.0))
          ∙ text_append (said_of kind w b c h.done) (flat_map say (filter changed keys.0))
          ∙ ap (λ xs. changes_text xs ++ changes_text (flat_map say (filter changed keys.0))) (sym (h.are one two)),
    )

-- nothing is left
pub pass_all : (w : ℕ) (kind : ItemKind) (b c : List ℕ) (left : Walked) (place : ℕ) (changes : List Change) (start now : Option (List ℕ)) → PassList w kind b c left place changes → left ≡ no_walk → Appends start now (changes_text changes) → WritesPass w kind b c start now
pass_all w kind b c left place changes start now h none written =
    let all : walk_of w b ≡ with_records h.done no_walk = h.all ∙ ap (with_records h.done) none in
    let same : h.done ≡ records_of w b = sym (ap (λ (x : Walked). x.records) all ∙ append-nil h.done) in
    record {
      whole = ap (λ (x : Walked). x.damage) all;
      changes = changes;
      written = written;
      are = λ one two. h.are one two ∙ ap (said_of kind w b c) same;
    }

-- the changes so far were written, and of those of one key more a prefix
pub pass_prefix : (w : ℕ) (kind : ItemKind) (b c : List ℕ) (left : Walked) (place : ℕ) (changes said : List Change) (start mid now : Option (List ℕ)) → PassList w kind b c left place (changes ++ said) → Appends start mid (changes_text changes) → AppendsPrefix mid now (changes_text said) → WritesPassPrefix w kind b c start now
pass_prefix w kind b c left place changes said start mid now h written front =
    let whole : AppendsPrefix start now (changes_text (changes ++ said)) = prefix_last start mid now (changes_text changes) (changes_text said) (changes_text (changes ++ said)) written front (text_append changes said) in
    record {
      changes = changes ++ said;
      written = whole;
      are = λ one two. let more = pass_front w kind b c left place (changes ++ said) h one two in prefix_in start now (changes_text (changes ++ said)) more.0 (changes_text (pass_of kind w b c)) whole more.1;
    }

-- and nothing more
pub pass_so_far : (w : ℕ) (kind : ItemKind) (b c : List ℕ) (left : Walked) (place : ℕ) (changes : List Change) (start now : Option (List ℕ)) → PassList w kind b c left place changes → Appends start now (changes_text changes) → WritesPassPrefix w kind b c start now
pass_so_far w kind b c left place changes start now h written =
    let whole : AppendsPrefix start now (changes_text changes) = record { front = changes_text changes; more = []; split = sym (append-nil (changes_text changes)); appended = written } in
    record {
      changes = changes;
      written = whole;
      are = λ one two. let more = pass_front w kind b c left place changes h one two in prefix_in start now (changes_text changes) more.0 (changes_text (pass_of kind w b c)) whole more.1;
    }
