-- The lists of all tables, one record after another.
use Rattle.cdb_read.proofs.Words.{All, All-get_or, All-weaker, HasAdded, IsRising, List, ListsMark, TableRecords, WordPair, [], ap, append-nil, arith, cases_eq, cond-false, cond-true, eq-eqb, false, filter-append, get_or, get_or-set_other, get_or-set_same, in_table, inl, inr, length, length-set, ne_eqb, set, subst, sym, table_number, ℕ, ◌++◌, ◌<◌, ◌∙◌, ◌∷◌, ◌≡◌, ◌≤◌}
use Rattle.std.specs.List.{filter}
use Rattle.cdb_read.specs.Views.TableRecords.{entry_pairs, marks_of, HasMore, Marks}
use Rattle.cdb_read.proofs.Checks.Entered.{marks_of-push}
use Rattle.cdb_read.proofs.Lists.Rising.{rising_filter, places_rise, places_above}

-- a list with some records, whose places rise
marks_are : (e : TableRecords) (es slots : List WordPair) → entry_pairs e ≡ es → IsRising 1 es → e.marks.items ≡ marks_of slots es → Marks e es slots
marks_are e es slots are up marked =
    let rise : IsRising 1 (entry_pairs e) = subst (IsRising 1) (sym are) up in
    record {
      are = are;
      marked = marked;
      rising = places_rise 1 e.places.items e.hashes.items e.paired rise;
      positive = All-weaker (λ p. 1 ≤ p) (λ p. 0 < p) (λ p k. omega arith) e.places.items (places_above 1 e.places.items e.hashes.items e.paired rise);
    }

-- without records
pub marks_nothing : (e : TableRecords) → entry_pairs e ≡ [] → e.marks.items ≡ [] → Marks e [] []
unfolding marks_of
marks_nothing e are unmarked = marks_are e [] [] are tt unmarked

pub lists_none : (lists : List TableRecords) → length lists ≡ 256 → All (λ e. Marks e [] []) lists → ListsMark lists [] []
lists_none lists many all = record {
  many = many;
  rising = tt;
  each = λ n d l. All-get_or (λ e. Marks e [] []) lists n d (omega arith) all;
}

-- the records of a table, with one more
in_this : (es : List WordPair) (e : WordPair) (n : ℕ) → n ≡ table_number e.first → filter (in_table n) (es ++ e ∷ []) ≡ filter (in_table n) es ++ e ∷ []
in_this es e n is =
    filter-append (in_table n) es (e ∷ [])
    ∙ ap (λ t. filter (in_table n) es ++ t) (cond-true (in_table n e) (e ∷ []) [] (eq-eqb (table_number e.first) n (sym is)))

in_other : (es : List WordPair) (e : WordPair) (n : ℕ) → (n ≡ table_number e.first → ⊥) → filter (in_table n) (es ++ e ∷ []) ≡ filter (in_table n) es
in_other es e n other =
    filter-append (in_table n) es (e ∷ [])
    ∙ ap (λ t. filter (in_table n) es ++ t) (cond-false (in_table n e) (e ∷ []) [] (ne_eqb (table_number e.first) n (λ i. other (sym i))))
    ∙ append-nil (filter (in_table n) es)

list_more : (old new : TableRecords) (es : List WordPair) (e : WordPair) → Marks old es [] → HasMore old new e.second e.first → IsRising 1 (es ++ e ∷ []) → Marks new (es ++ e ∷ []) []
list_more old new es e m more up =
    marks_are new (es ++ e ∷ []) [] (more.entries ∙ ap (λ t. t ++ e ∷ []) m.are) up
    (more.marks ∙ ap (λ t. t ++ false ∷ []) m.marked ∙ marks_of-push es e)

pub lists_more : (lists : List TableRecords) (n : ℕ) (list new : TableRecords) (e : WordPair) → length lists ≡ 256 → n ≡ table_number e.first → n < 256 → list ≡ get_or lists n list → HasMore list new e.second e.first → HasAdded lists (set lists n new) e
lists_more lists n list new e long number l is more = λ es m up. record {
  many = length-set lists n new ∙ long;
  rising = up;
  each = λ k d low.
      elim (cases_eq k n) [
        | inl same ↦
            (let here : IsRising 1 (filter (in_table k) es ++ e ∷ []) = subst (IsRising 1) (in_this es e k (same ∙ number)) (rising_filter (in_table k) 1 (es ++ e ∷ []) up) in
            let was : Marks list (filter (in_table k) es) [] = subst (λ z. Marks z (filter (in_table k) es) []) (ap (λ j. get_or lists j list) same ∙ sym is) (m.each k list low) in
            let at : get_or (set lists n new) k d ≡ new = ap (λ j. get_or (set lists n new) j d) same ∙ get_or-set_same lists n new d (omega arith) in
            subst (λ z. Marks z (filter (in_table k) (es ++ e ∷ [])) []) (sym at)
            (subst (λ t. Marks new t []) (sym (in_this es e k (same ∙ number))) (list_more list new (filter (in_table k) es) e was more here)))
        | inr other ↦
            subst (λ z. Marks z (filter (in_table k) (es ++ e ∷ [])) []) (sym (get_or-set_other lists n k new d other))
            (subst (λ t. Marks (get_or lists k d) t []) (sym (in_other es e k (λ i. other (i ∙ sym number)))) (m.each k d low))
      ];
}
