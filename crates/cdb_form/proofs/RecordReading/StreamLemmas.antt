-- What a reader of records leaves unread.
use Rattle.cdb_form.proofs.Words.{Feed, FromTo, KeyValue, List, Record, RecordReader, WalkFault, Walked, ap, arith, behind_records, drop, drop-drop, drop_at, head_size, inl, inr, key_value, length, no_walk, record_end, refl, subst, sym, take, take-append-drop, walk_from, walk_of, with_first, ℕ, ◌++◌, ◌+◌, ◌-◌, ◌∙◌, ◌≡◌, ◌≤◌}
use Rattle.std.specs.Prelude.{max, Bool, true, false, MatchBool}
use Rattle.std.specs.Bool.{OnTrue, OnFalse}
use Rattle.cdb_form.specs.Views.RecordReader.{GivesKept, GivesRecord}
use Rattle.cdb_form.specs.declared.walk.keeping.Keeping.TheVariants.{Both}
use Rattle.cdb_form.specs.Views.Taking.{LosesAtMost, ReadsNoFurther}
use Rattle.cdb_form.specs.Views.KnownBytes.{StillFrom}
use Rattle.cdb_form.specs.Views.WalkFault.{IsDamage, stopped_by}
use Rattle.cdb_form.specs.declared.walk.fault.WalkFault.TheVariants.{Short, Table, Record as Cut, Input, NoMemory}
use Rattle.cdb_form.proofs.Fed.FeedLemmas.{from_both, from_taken, from_then, from_weaker}
use Rattle.cdb_form.proofs.RecordReading.RecordReads.{loses_then}

still_from : (lost rest : List ℕ) (n : ℕ) → length lost ≤ n → StillFrom n (lost ++ rest) rest
still_from lost rest n few =
    let m = n - length lost in
    let e : n ≡ length lost + (n - length lost) = omega arith in
    let behind : drop n (lost ++ rest) ≡ drop (n - length lost) rest =
    ap (λ (k : ℕ). drop k (lost ++ rest)) e ∙ sym (drop-drop (n - length lost) (length lost) (lost ++ rest)) ∙ ap (drop (n - length lost)) (drop_at lost rest (length lost) refl) in (
      take (n - length lost) rest,
      sym (ap (λ t. take (n - length lost) rest ++ t) behind ∙ take-append-drop (n - length lost) rest),
    )

-- no more than n bytes were lost
pub loses_still : (old new : Feed) (n : ℕ) (size : List ℕ → ℕ) → ((text : List ℕ) → n ≤ size text) → LosesAtMost old new n → FromTo old new (λ text rest. StillFrom (size text) text rest)
loses_still old new n size some l = from_taken old new l.lost _ l.taken (λ rest.
    let room : n ≤ size (l.lost ++ rest) = some (l.lost ++ rest) in
    let few = l.few in
    still_from l.lost rest (size (l.lost ++ rest)) (omega arith))

-- the damage of the walk, if the fault is damage, beside what holds at any fault
pub damage_and : (old new : Feed) (fault : WalkFault) (P Q : List ℕ → List ℕ → Type 0) → ((whole x y : List ℕ) → old.may whole x → old.may whole y → x ≡ y)
    → (IsDamage fault → FromTo old new P) → FromTo old new Q → FromTo old new (λ text rest. (IsDamage fault → P text rest) × Q text rest)
damage_and old new Short P Q one p q = from_weaker old new _ _ (from_both old new P Q one (p tt) q) (λ text rest h. (λ damage. h.0, h.1))
damage_and old new (Table n) P Q one p q = from_weaker old new _ _ (from_both old new P Q one (p tt) q) (λ text rest h. (λ damage. h.0, h.1))
damage_and old new (Cut place) P Q one p q = from_weaker old new _ _ (from_both old new P Q one (p tt) q) (λ text rest h. (λ damage. h.0, h.1))
damage_and old new Input P Q one p q = from_weaker old new _ _ q (λ text rest h. (λ damage. elim damage [ ], h))
damage_and old new NoMemory P Q one p q = from_weaker old new _ _ q (λ text rest h. (λ damage. elim damage [ ], h))

-- the head was read, and the records begin after it
abbrev pub HeadThen : ℕ → ℕ → ℕ → Feed → Feed → Type 0
HeadThen w place end old mid = FromTo old mid (λ text rest. (walk_of w text ≡ walk_from w place end rest) × (end ≡ record_end w text) × (rest ≡ drop (head_size w) text))

-- after the head, what follows the record end is the same
end_is : (w place end : ℕ) (text mid : List ℕ) → end ≡ record_end w text → mid ≡ drop (head_size w) text → place ≡ head_size w → place ≤ end → drop (end - place) mid ≡ behind_records w text
end_is w place end text mid is cut at low =
    let n : head_size w + (end - place) ≡ max (head_size w) (record_end w text) = omega arith in
    ap (drop (end - place)) cut ∙ drop-drop (end - place) (head_size w) text ∙ ap (λ (k : ℕ). drop k text) n

-- the head, and then a fault
pub fails_then : (w place end : ℕ) (old mid new : Feed) (fault : WalkFault) → HeadThen w place end old mid → place ≡ head_size w → place ≤ end
    → FromTo mid new (λ text rest. (IsDamage fault → walk_from w place end text ≡ stopped_by fault) × StillFrom (end - place) text rest)
    → FromTo old new (λ text rest. (IsDamage fault → walk_of w text ≡ stopped_by fault) × StillFrom (max (head_size w) (record_end w text)) text rest)
fails_then w place end old mid new fault a at low b = from_weaker old new _ _ (from_then old mid new _ _ a b) (λ text rest h.
    let head = h.1 in
    let stop = h.2 in (
      λ damage. head.0 ∙ stop.0 damage,
      (stop.1.0, stop.1.1 ∙ ap (λ t. stop.1.0 ++ t) (end_is w place end text h.0 head.1 head.2 at low)),
    ))

-- the head, and then no record
pub end_then : (w place end : ℕ) (old mid : Feed) → HeadThen w place end old mid → place ≡ head_size w → place ≤ end → place ≡ end
    → ((text : List ℕ) → walk_from w place end text ≡ no_walk) → FromTo old mid (λ text rest. (walk_of w text ≡ no_walk) × (rest ≡ behind_records w text))
end_then w place end old mid a at low empty none = from_weaker old mid _ _ a (λ text rest h.
    let zero : end - place ≡ 0 = omega arith in
    (h.0 ∙ none rest, sym (ap (λ (k : ℕ). drop k rest) zero) ∙ end_is w place end text rest h.1 h.2 at low))

-- no more than n bytes were lost, and then no more than m were read, or all
pub no_further_then : (old mid new : Feed) (n m : ℕ) → LosesAtMost old mid n → ReadsNoFurther m mid new → ReadsNoFurther (n + m) old new
no_further_then old mid new n m a (inl b) = inl (loses_then old mid new a.lost m (n + m) a.taken b (omega (arith, a.few)))
no_further_then old mid new n m a (inr end) = inr end

-- a record of which both parts were kept
same_record : (r : KeyValue) (key value : List ℕ) → r.key ≡ key → r.value ≡ value → r ≡ record { key = key; value = value }
same_record r key value a b =
    ap (λ (k : List ℕ). let s : KeyValue = record { key = k; value = r.value } in s) a
    ∙ ap (λ (v : List ℕ). let s : KeyValue = record { key = key; value = v } in s) b

pub kept_both : {R L : Type 0} (w : ℕ) (feed : R → Feed) (old new : RecordReader R L) (into : Record) → GivesKept w feed old new Both into → GivesRecord w feed old new (key_value into)
kept_both w feed old new into (r, kept, gives) = subst (GivesRecord w feed old new) (same_record r into.key.items into.value.items kept.key (kept.value refl)) gives

pub match_weaker : (A B E : Type 0) (b : Bool) → (A → B) → MatchBool b A E → MatchBool b B E
match_weaker A B E true f h = f h
match_weaker A B E false f h = h

pub true_weaker : (A B : Type 0) (b : Bool) → (A → B) → OnTrue b A → OnTrue b B
true_weaker A B true f h = f h
true_weaker A B false f h = tt

pub false_weaker : (A B : Type 0) (b : Bool) → (A → B) → OnFalse b A → OnFalse b B
false_weaker A B true f h = tt
false_weaker A B false f h = f h

-- the head, and then the first record
pub first_then : (w place end : ℕ) (old mid new : Feed) (r : KeyValue) (left : List ℕ → Walked) (behind : List ℕ → List ℕ) → HeadThen w place end old mid → place ≡ head_size w → place ≤ end
    → FromTo mid new (λ text rest. (walk_from w place end text ≡ with_first r (left rest)) × (behind rest ≡ drop (end - place) text))
    → FromTo old new (λ text rest. (walk_of w text ≡ with_first r (left rest)) × (behind rest ≡ behind_records w text))
first_then w place end old mid new r left behind a at low b = from_weaker old new _ _ (from_then old mid new _ _ a b) (λ text rest h.
    let head = h.1 in
    (head.0 ∙ h.2.0, h.2.1 ∙ end_is w place end text h.0 head.1 head.2 at low))
