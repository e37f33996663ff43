-- Keys that are marked, and those that agree.
use Rattle.cdb_read.proofs.DifferenceWords.{Grows, KeyValue, List, Walked, [], ap, append-nil, append_assoc, bytes_eq, bytes_eq-Decides, cases_Bool, cond, false, inl, inr, is_marked, map, mark_hash, refl, sym, true, values_of, values_of-append, walk_of, with_first, with_records, ℕ, ◌++◌, ◌∙◌, ◌∷◌, ◌≡◌}
use Rattle.cdb_read.specs.Differing.{AgreeUnmarked, AllMarked, InStep}

-- ---- marks

-- what is not marked was not
pub was_unmarked : (old new key : List ℕ) → Grows old new → is_marked new key ≡ false → is_marked old key ≡ false
was_unmarked old new key grows free = elim (cases_Bool (is_marked old key)) [
  | inl t ↦ absurd (let wrong : true ≡ false = sym (grows (mark_hash key) t) ∙ free in cc)
  | inr f ↦ f
]

-- a marked record has another key than one that is not
pub other_key : (words : List ℕ) (r : KeyValue) → is_marked words r.key ≡ true → AllMarked words (r ∷ [])
other_key words r set key free = elim (cases_Bool (bytes_eq r.key key)) [
  | inl t ↦ absurd (let wrong : true ≡ false = sym set ∙ ap (is_marked words) ((bytes_eq-Decides r.key key).0 t) ∙ free in cc)
  | inr f ↦ ap (λ v. map (λ (x : KeyValue). x.value) (cond v (r ∷ []) [])) f
]

pub marked_more : (old new : List ℕ) (rs : List KeyValue) (r : KeyValue) → Grows old new → is_marked new r.key ≡ true → AllMarked old rs → AllMarked new (rs ++ r ∷ [])
marked_more old new rs r grows set all key free =
    values_of-append key rs (r ∷ [])
    ∙ ap (λ vs. vs ++ values_of key (r ∷ [])) (all key (was_unmarked old new key grows free))
    ∙ other_key new r set key free

-- ---- lists that agree

pub agree_grown : (old new : List ℕ) (rs ss : List KeyValue) → Grows old new → AgreeUnmarked old rs ss → AgreeUnmarked new rs ss
agree_grown old new rs ss grows agree key free = agree key (was_unmarked old new key grows free)

pub agree_flipped : (words : List ℕ) (rs ss : List KeyValue) → AgreeUnmarked words rs ss → AgreeUnmarked words ss rs
agree_flipped words rs ss agree key free = sym (agree key free)

-- the same record after both
pub agree_same : (words : List ℕ) (rs ss : List KeyValue) (r : KeyValue) → AgreeUnmarked words rs ss → AgreeUnmarked words (rs ++ r ∷ []) (ss ++ r ∷ [])
agree_same words rs ss r agree key free =
    values_of-append key rs (r ∷ []) ∙ ap (λ vs. vs ++ values_of key (r ∷ [])) (agree key free) ∙ sym (values_of-append key ss (r ∷ []))

-- marked ones after one of them
pub agree_marked : (words : List ℕ) (rs ss more : List KeyValue) → AllMarked words more → AgreeUnmarked words rs ss → AgreeUnmarked words (rs ++ more) ss
agree_marked words rs ss more all agree key free =
    values_of-append key rs more ∙ ap (λ vs. values_of key rs ++ vs) (all key free) ∙ append-nil (values_of key rs) ∙ agree key free

-- ---- two walks

more_given : (w : ℕ) (b : List ℕ) (done more : List KeyValue) (old new : Walked) → walk_of w b ≡ with_records done old → old ≡ with_records more new → walk_of w b ≡ with_records (done ++ more) new
more_given w b done more old new all first =
    all ∙ ap (with_records done) first ∙ ap (λ rs. let walk : Walked = record { records = rs; damage = new.damage } in walk) (sym (append_assoc done more new.records))

pub in_step_start : (w : ℕ) (words b c : List ℕ) (left beside : Walked) → left ≡ walk_of w b → beside ≡ walk_of w c → InStep w words b c left beside
in_step_start w words b c left beside is it = record { mine = []; theirs = []; own_all = sym is; other_all = sym it; agree = λ key free. refl }

pub in_step_grown : (w : ℕ) (old new b c : List ℕ) (left beside : Walked) → Grows old new → InStep w old b c left beside → InStep w new b c left beside
in_step_grown w old new b c left beside grows h =
    record { mine = h.mine; theirs = h.theirs; own_all = h.own_all; other_all = h.other_all; agree = agree_grown old new h.mine h.theirs grows h.agree }

pub in_step_flipped : (w : ℕ) (words b c : List ℕ) (left beside : Walked) → InStep w words b c left beside → InStep w words c b beside left
in_step_flipped w words b c left beside h =
    record { mine = h.theirs; theirs = h.mine; own_all = h.other_all; other_all = h.own_all; agree = agree_flipped words h.mine h.theirs h.agree }

-- both give the same record
pub in_step_same : (w : ℕ) (words b c : List ℕ) (old new beside after : Walked) (r s : KeyValue) → r ≡ s → old ≡ with_first r new → beside ≡ with_first s after → InStep w words b c old beside → InStep w words b c new after
in_step_same w words b c old new beside after r s same first second h = record {
  mine = h.mine ++ r ∷ [];
  theirs = h.theirs ++ r ∷ [];
  own_all = more_given w b h.mine (r ∷ []) old new h.own_all first;
  other_all = more_given w c h.theirs (r ∷ []) beside after h.other_all (second ∙ ap (λ x. with_first x after) (sym same));
  agree = agree_same words h.mine h.theirs r h.agree;
}

-- one gives marked ones
pub in_step_marked : (w : ℕ) (words b c : List ℕ) (old new beside : Walked) (more : List KeyValue) → old ≡ with_records more new → AllMarked words more → InStep w words b c old beside → InStep w words b c new beside
in_step_marked w words b c old new beside more first all h = record {
  mine = h.mine ++ more;
  theirs = h.theirs;
  own_all = more_given w b h.mine more old new h.own_all first;
  other_all = h.other_all;
  agree = agree_marked words h.mine h.theirs more all h.agree;
}

-- one of them gives a marked record, whose mark was set just now
pub in_step_own : (w : ℕ) (old_words words b c : List ℕ) (old new beside : Walked) (r : KeyValue) → Grows old_words words → is_marked words r.key ≡ true → old ≡ with_first r new → InStep w old_words b c old beside → InStep w words b c new beside
in_step_own w old_words words b c old new beside r grows set first h =
    in_step_marked w words b c old new beside (r ∷ []) first (other_key words r set) (in_step_grown w old_words words b c old beside grows h)

pub in_step_other : (w : ℕ) (old_words words b c : List ℕ) (left old new : Walked) (r : KeyValue) → Grows old_words words → is_marked words r.key ≡ true → old ≡ with_first r new → InStep w old_words b c left old → InStep w words b c left new
in_step_other w old_words words b c left old new r grows set first h =
    in_step_flipped w words c b new left (in_step_own w old_words words c b old new left r grows set first (in_step_flipped w old_words b c left old h))

-- all that is left of both is marked
pub in_step_end : (w : ℕ) (words b c : List ℕ) (left beside : Walked) → AllMarked words left.records → AllMarked words beside.records → InStep w words b c left beside → AgreeUnmarked words (walk_of w b).records (walk_of w c).records
in_step_end w words b c left beside own other h key free =
    ap (λ (x : Walked). values_of key x.records) h.own_all
    ∙ agree_marked words h.mine (h.theirs ++ beside.records) left.records own
    (agree_flipped words (h.theirs ++ beside.records) h.mine (agree_marked words h.theirs h.mine beside.records other (agree_flipped words h.mine h.theirs h.agree))) key free
    ∙ sym (ap (λ (x : Walked). values_of key x.records) h.other_all)

-- what is marked stays so
pub still_marked : (old new : List ℕ) (rs : List KeyValue) → Grows old new → AllMarked old rs → AllMarked new rs
still_marked old new rs grows all key free = all key (was_unmarked old new key grows free)
