-- The keys of a list of records that grows at its end.
use Rattle.cdb_read.proofs.Words.{Bool, KeyValue, List, [], ap, bytes_eq, bytes_eq-Decides, cases_Bool, cond, false, filter, filter-append, first_keys, inl, inr, not, not_from_false, not_from_true, refl, sym, true, ℕ, ◌&&◌, ◌++◌, ◌∙◌, ◌∷◌, ◌≡◌}
use Rattle.cdb_read.proofs.Differences.{cond_nothing, eq_other_way, there}

one_left : {X : Type 0} (p : X → Bool) (x : X) (b : Bool) → filter p (cond b [] (x ∷ [])) ≡ cond b [] (cond (p x) (x ∷ []) [])
one_left p x true = refl
one_left p x false = refl

-- a key is a first one if it wasn't there
pub first_keys_push : (rs : List KeyValue) (r : KeyValue) → first_keys (rs ++ r ∷ []) ≡ first_keys rs ++ cond (there r.key rs) [] (r.key ∷ [])
unfolding first_keys there
first_keys_push [] r = refl
first_keys_push (x ∷ rs) r =
    let q : List ℕ → Bool = λ k. not (bytes_eq k x.key) in
    let th = there r.key rs in
    let only = r.key ∷ [] in
    ap (λ ks. x.key ∷ filter q ks) (first_keys_push rs r)
    ∙ ap (λ ks. x.key ∷ ks) (filter-append q (first_keys rs) (cond th [] only) ∙ ap (λ ks. filter q (first_keys rs) ++ ks) (one_left q r.key th))
    ∙ ap (λ ks. x.key ∷ (filter q (first_keys rs) ++ ks))
    (elim (cases_Bool (bytes_eq x.key r.key)) [
      | inl t ↦
          ap (λ v. cond th [] (cond v only [])) (not_from_true (bytes_eq r.key x.key) ((bytes_eq-Decides r.key x.key).1 (sym ((bytes_eq-Decides x.key r.key).0 t))))
          ∙ cond_nothing th
          ∙ sym (ap (λ v. cond (cond v true th) [] only) t)
      | inr f ↦
          ap (λ v. cond th [] (cond v only [])) (not_from_false (bytes_eq r.key x.key) (eq_other_way x.key r.key f))
          ∙ sym (ap (λ v. cond (cond v true th) [] only) f)
    ])

chosen_one : {X : Type 0} (th p : Bool) (x : X) → cond th [] (cond p (x ∷ []) []) ≡ cond (not th && p) (x ∷ []) []
chosen_one true p x = refl
chosen_one false p x = refl

-- and is chosen of the first keys if it passes the test
pub chosen_push : (p : List ℕ → Bool) (rs : List KeyValue) (r : KeyValue) → filter p (first_keys (rs ++ r ∷ [])) ≡ filter p (first_keys rs) ++ cond (not (there r.key rs) && p r.key) (r.key ∷ []) []
chosen_push p rs r =
    ap (filter p) (first_keys_push rs r)
    ∙ filter-append p (first_keys rs) (cond (there r.key rs) [] (r.key ∷ []))
    ∙ ap (λ ks. filter p (first_keys rs) ++ ks) (one_left p r.key (there r.key rs) ∙ chosen_one (there r.key rs) (p r.key) r.key)

-- those of the first records are the first of all
pub first_keys_more : (rs ss : List KeyValue) → (more : List (List ℕ)) × (first_keys (rs ++ ss) ≡ first_keys rs ++ more)
unfolding first_keys
first_keys_more [] ss = (first_keys ss, refl)
first_keys_more (r ∷ rs) ss =
    let q : List ℕ → Bool = λ k. not (bytes_eq k r.key) in
    let left = first_keys_more rs ss in
    (filter q left.0, ap (λ ks. r.key ∷ filter q ks) left.1 ∙ ap (λ ks. r.key ∷ ks) (filter-append q (first_keys rs) left.0))
