-- Bytes through a window, by feed.
use Rattle.cdb_show.proofs.Words.{Consumes, Feed, List, ap, append_assoc, arith, drop, drop-drop, sym, take, take-take, ℕ, ◌++◌, ◌+◌, ◌-◌, ◌∙◌, ◌≡◌, ◌≤◌}
use Rattle.std.proofs.Math.Seq.{take-add}
use Rattle.cdb_show.specs.Views.Window.{window_feed}

-- the first bytes of those that are held are taken
pub holds_rest : (feed : Feed) (held bytes more : List ℕ) → held ≡ bytes ++ more → Consumes (window_feed feed held) (window_feed feed more) bytes
holds_rest feed held bytes more split = record {
  known = λ k. k;
  back = λ k whole rest m. record {
    behind = m.behind;
    may = m.may;
    is = ap (λ r. bytes ++ r) m.is ∙ sym (append_assoc bytes more m.behind) ∙ ap (λ h. h ++ m.behind) (sym split);
  };
  stays = λ f. f;
}

-- n bytes of the window are taken
pub taken : (feed : Feed) (xs : List ℕ) (start end n : ℕ) → start + n ≤ end
    → Consumes (window_feed feed (take (end - start) (drop start xs))) (window_feed feed (take (end - (start + n)) (drop (start + n) xs))) (take n (take (end - start) (drop start xs)))
taken feed xs start end n few =
    let more = end - (start + n) in
    let count : end - start ≡ n + more = omega arith in
    let first : take n (drop start xs) ≡ take n (take (end - start) (drop start xs)) = sym (take-take n (end - start) (drop start xs) (omega arith)) in
    holds_rest feed _ _ _
    (ap (λ (k : ℕ). take k (drop start xs)) count ∙ take-add n more (drop start xs) ∙ ap (λ t. take n (drop start xs) ++ take more t) (drop-drop n start xs)
    ∙ ap (λ t. t ++ take more (drop (start + n) xs)) first)
