-- Raw writes, one after another.
use Rattle.std.proofs.Common.{◌≡◌, ℕ, ◌+◌, ◌≤◌, ◌<◌, inl, inr, max, List, [], ◌∷◌, ◌++◌, length, take, drop, refl, sym, ap, subst, ◌∙◌, arith, replicate}
use Rattle.std.proofs.lemmas.List.{take-take, length-replicate, take-append-le, length-take-le}
use Rattle.cdb_store.proofs.Words.{AfterPut, AfterTornPut, Agrees, AreAtLeast, Asked, AskedInVain, Calls, Torn, failed_syncs, failure_count, interrupted, length-overwrite, lost, overwrite, take-add, take-append-add, written_count}
use borrow.Rule.Slice.PartMut.{put_mid, mid_of, post_of}
use Rattle.cdb_store.specs.declared.trace.Call.TheVariants.{Wrote, NotWritten}
use Rattle.cdb_store.proofs.Parts.{take-overwrite, drop-overwrite, overwrite-overwrite, overwrite_nothing}
use Rattle.cdb_store.proofs.RawCalls.{untouched_interrupted, failures_interrupted}

-- the bytes so far, with a piece more
pub take_piece_put : (d k n : ℕ) (xs ys : List ℕ) → d ≤ length xs → n ≤ length ys → take (d + n) (put_mid d k xs ys) ≡ take d xs ++ take n ys
take_piece_put d k n xs ys inside fits =
    let l : length (take d xs) ≡ d = length-take-le d xs inside in
    ap (λ m. take (m + n) (put_mid d k xs ys)) (sym l)
    ∙ take-append-add (take d xs) (ys ++ post_of d k xs) n
    ∙ ap (λ r. take d xs ++ r) (take-append-le n ys (post_of d k xs) fits)

pub take_piece_of : (d k n : ℕ) (xs : List ℕ) → n ≤ k → take (d + n) xs ≡ take d xs ++ take n (mid_of d k xs)
take_piece_of d k n xs fits = take-add d n xs ∙ ap (λ r. take d xs ++ r) (sym (take-take n k (drop d xs) fits))

pub put_none : (pos : ℕ) (calls : Calls) → AreAtLeast pos calls → AfterPut pos [] calls calls
put_none pos calls inside = record {
  no_other = λ b is. (b, is, inside.each b is, sym (overwrite_nothing pos b));
  none_lost = λ a is _. subst (Agrees calls) (sym (overwrite_nothing pos a)) is;
}

pub put_asked : {pos : ℕ} {bytes : List ℕ} {old new : Calls} → Asked (Wrote pos, bytes) old new → AfterPut pos bytes old new
put_asked {pos = pos} {bytes = bytes} {old = old} a =
    let u = untouched_interrupted a.times old in
    rw (a.calls) (record {
      no_other = λ b is. (is.0, u.same.no_other is.0 is.1, is.2, is.3);
      none_lost = λ x is inside. (x, u.same.none_lost x is, inside, refl);
    })

pub put_more : {pos next : ℕ} {xs ys : List ℕ} {a b c : Calls} → next ≡ pos + length xs → AfterPut pos xs a b → AfterPut next ys b c → AfterPut pos (xs ++ ys) a c
put_more {pos = pos} {next = next} {xs = xs} {ys = ys} {c = c} here v w =
    let joined : (x : List ℕ) → pos ≤ length x → overwrite (overwrite x pos xs) next ys ≡ overwrite x pos (xs ++ ys) =
    λ x inside. ap (λ p. overwrite (overwrite x pos xs) p ys) here ∙ overwrite-overwrite pos x xs ys inside in
    record {
      no_other = λ z is. let h = w.no_other z is in let m = v.no_other h.0 h.1 in
          (m.0, m.1, m.2, h.3 ∙ ap (λ y. overwrite y next ys) m.3 ∙ joined m.0 m.2);
      none_lost = λ x is inside.
          let l : length (overwrite x pos xs) ≡ max (length x) (pos + length xs) = length-overwrite pos x xs inside in
          subst (Agrees c) (joined x inside) (w.none_lost (overwrite x pos xs) (v.none_lost x is inside) (omega arith));
    }

-- a list with any bytes in the range that reaches as far as the range does
torn_far : (pos n : ℕ) (a : List ℕ) → pos ≤ length a → (b : List ℕ) × (length a ≤ length b) × (max (length a) (pos + n) ≤ length b) × Torn pos n a b
torn_far pos n a inside =
    let zeros : List ℕ = replicate n 0 in
    let z : length zeros ≡ n = length-replicate n 0 in
    let l : length (overwrite a pos zeros) ≡ max (length a) (pos + n) = length-overwrite pos a zeros inside ∙ ap (λ k. max (length a) (pos + k)) z in (
      overwrite a pos zeros,
      omega arith,
      omega arith,
      record {
        before = take-overwrite pos pos a zeros (omega arith) inside;
        after = drop-overwrite (pos + n) pos a zeros (omega arith) inside;
      },
    )

not_written : (pos n k : ℕ) (old new : Calls) → new ≡ (NotWritten pos n, []) ∷ interrupted k old → AfterTornPut pos n old new
not_written pos n k old new e =
    let u = untouched_interrupted k old in
    rw e (record {
      no_other = λ b is. (is.0, u.same.no_other is.0 is.1, is.2, is.3);
      none_lost = λ a is inside. let t = torn_far pos n a inside in (t.0, (a, u.same.none_lost a is, t.1, t.3), t.2, t.3);
    })

pub torn_vain : {pos n : ℕ} {old new : Calls} → AskedInVain (NotWritten pos n) (NotWritten pos n) old new → AfterTornPut pos n old new
torn_vain {pos = pos} {n = n} {old = old} {new = new} v = elim v [
  | inl a ↦ not_written pos n a.times old new a.calls
  | inr e ↦ not_written pos n 1001 old new e
]

pub torn_behind_put : {pos next n m : ℕ} {xs : List ℕ} {a b c : Calls} → next ≡ pos + length xs → n ≡ length xs + m → AfterPut pos xs a b → AfterTornPut next m b c → AfterTornPut pos n a c
torn_behind_put {pos = pos} {next = next} {n = n} {m = m} {xs = xs} here sum v w =
    let torn : (x z : List ℕ) → pos ≤ length x → Torn next m (overwrite x pos xs) z → Torn pos n x z =
    λ x z inside t.
    let e : next + m ≡ pos + n = omega arith in
    record {
      before = sym (take-take pos next z (omega arith)) ∙ ap (take pos) t.before ∙ take-take pos next (overwrite x pos xs) (omega arith) ∙ take-overwrite pos pos x xs (omega arith) inside;
      after = ap (λ p. drop p z) (sym e) ∙ t.after ∙ drop-overwrite (next + m) pos x xs (omega arith) inside ∙ ap (λ p. drop p x) e;
    } in
    record {
      no_other = λ z is. let h = w.no_other z is in let o = v.no_other h.0 h.1 in
          let l : length h.0 ≡ max (length o.0) (pos + length xs) = ap length o.3 ∙ length-overwrite pos o.0 xs o.2 in
          let le : length h.0 ≤ length z = h.2 in
          (o.0, o.1, omega arith, torn o.0 z o.2 (subst (λ (y : List ℕ). Torn next m y z) o.3 h.3));
      none_lost = λ x is inside.
          let l : length (overwrite x pos xs) ≡ max (length x) (pos + length xs) = length-overwrite pos x xs inside in
          let h = w.none_lost (overwrite x pos xs) (v.none_lost x is inside) (omega arith) in
          let far : max (length (overwrite x pos xs)) (next + m) ≤ length h.0 = h.2 in
          (h.0, h.1, omega arith, torn x h.0 inside h.3);
    }

pub written_asked : {pos : ℕ} {bytes : List ℕ} {old new : Calls} → Asked (Wrote pos, bytes) old new
    → (written_count new ≡ written_count old + length bytes) × (failure_count new ≡ failure_count old) × (lost new ≡ lost old) × (failed_syncs new ≡ failed_syncs old)
written_asked {bytes = bytes} {old = old} a = let u = untouched_interrupted a.times old in
    rw (a.calls) (omega (arith, u.written), failures_interrupted a.times old, u.known, u.syncs)

not_written_counts : (pos n k : ℕ) (old new : Calls) → new ≡ (NotWritten pos n, []) ∷ interrupted k old
    → (written_count new ≡ written_count old) × (failure_count old < failure_count new) × (lost new ≡ lost old) × (failed_syncs new ≡ failed_syncs old)
not_written_counts pos n k old new e = let u = untouched_interrupted k old in rw e (u.written, omega (arith, u.later), u.known, u.syncs)

pub written_vain : {pos n : ℕ} {old new : Calls} → AskedInVain (NotWritten pos n) (NotWritten pos n) old new
    → (written_count new ≡ written_count old) × (failure_count old < failure_count new) × (lost new ≡ lost old) × (failed_syncs new ≡ failed_syncs old)
written_vain {pos = pos} {n = n} {old = old} {new = new} v = elim v [
  | inl a ↦ not_written_counts pos n a.times old new a.calls
  | inr e ↦ not_written_counts pos n 1001 old new e
]
