-- Where the walk of a file begins, and where it ends.
use Rattle.cdb_read.proofs.Words.{List, None, WordPair, ap, cases_lt, drop, head_at, head_size, inl, inr, length, refl, subst, sym, ℕ, ◌<◌, ◌∙◌, ◌≡◌, ◌≤◌}
use Rattle.cdb_form.specs.Format.{Walked, walk_of, walk_from, record_end, least_place, first_table_at, damaged}
use Rattle.cdb_form.specs.declared.damage.Damage.TheVariants.{Table}
use Rattle.cdb_form.specs.Laws.Parse.{HasHead}
use Rattle.cdb_form.proofs.Files.WalkSteps.{walk_of-short, walk_of-table, walk_of-records}

pub record_end-is : (w : ℕ) (b : List ℕ) → record_end w b ≡ least_place (head_size w) (head_at w b)
unfolding record_end
record_end-is w b = refl

-- where the records end, by the pointers that are held
ends_at : (w end : ℕ) (b : List ℕ) (ps : List WordPair) → head_at w b ≡ ps → end ≡ least_place (head_size w) ps → record_end w b ≡ end
ends_at w end b ps known is = record_end-is w b ∙ ap (least_place (head_size w)) known ∙ sym is

pub walks_nowhere : (w end n : ℕ) (b : List ℕ) (ps : List WordPair) → head_size w ≤ length b → head_at w b ≡ ps → end ≡ least_place (head_size w) ps → n ≡ first_table_at end ps → end < head_size w → damaged (Table n) ≡ walk_of w b
walks_nowhere w end n b ps long known is table early =
    let e : record_end w b ≡ end = ends_at w end b ps known is in
    sym (walk_of-table w b long (subst (λ k. k < head_size w) (sym e) early)
    ∙ ap (λ k. damaged (Table (first_table_at k (head_at w b)))) e
    ∙ ap (λ qs. damaged (Table (first_table_at end qs))) known
    ∙ ap (λ k. damaged (Table k)) (sym table))

pub walks_from : (w place end : ℕ) (b : List ℕ) (ps : List WordPair) → head_size w ≤ length b → head_at w b ≡ ps → end ≡ least_place (head_size w) ps → place ≡ head_size w → place ≤ end → walk_from w place end (drop place b) ≡ walk_of w b
walks_from w place end b ps long known is at ordered =
    let e : record_end w b ≡ end = ends_at w end b ps known is in
    ap (λ k. walk_from w k end (drop k b)) at
    ∙ ap (λ k. walk_from w (head_size w) k (drop (head_size w) b)) (sym e)
    ∙ sym (walk_of-records w b long (subst (λ k. head_size w ≤ k) (sym e) (subst (λ k. k ≤ end) at ordered)))

-- a walk without damage begins after a whole head
pub walk_head : (w : ℕ) (b : List ℕ) → (walk_of w b).damage ≡ None → HasHead w b
walk_head w b walked =
    let whole : head_size w ≤ length b = elim (cases_lt (length b) (head_size w)) [
      | inl short ↦ (let e = sym walked ∙ ap (λ (x : Walked). x.damage) (walk_of-short w b short) in cc)
      | inr h ↦ h
    ] in
    record {
      whole = whole;
      behind = elim (cases_lt (record_end w b) (head_size w)) [
        | inl early ↦ (let e = sym walked ∙ ap (λ (x : Walked). x.damage) (walk_of-table w b whole early) in cc)
        | inr h ↦ h
      ];
    }
