-- What raw calls that were interrupted, that failed or that did a part leave.
use Rattle.std.proofs.Common.{◌≡◌, ℕ, ◌+◌, ◌<◌, ◌≤◌, inl, inr, suc, zero, List, [], ◌∷◌, ◌++◌, length, refl, sym, ap, ◌∙◌, arith, add-one}
use Rattle.cdb_store.proofs.Words.{Agrees, Asked, AskedInVain, Call, Calls, Came, Untouched, failed_syncs, failure_count, interrupted, lost, written_count}
use Rattle.cdb_store.specs.declared.trace.Call.TheVariants.{Made, Read, Gave, Wrote, NotWritten, Length, Cut, NotCut, Synced, NotSynced, Interrupted, Failed, Refused, Lost}

pub interrupted_none : (calls : Calls) → calls ≡ interrupted 0 calls
unfolding interrupted
interrupted_none calls = refl

pub interrupted_more : (k : ℕ) (now calls new : Calls) → now ≡ interrupted k calls → new ≡ (Interrupted, []) ∷ now → new ≡ interrupted (k + 1) calls
unfolding interrupted
interrupted_more k now calls new e f = f ∙ ap (λ c. (Interrupted, []) ∷ c) e ∙ ap (λ n. interrupted n calls) (sym (add-one k))

-- it answered after some calls that were interrupted
pub asked_after : {answer : Call × List ℕ} {old now new : Calls} (k : ℕ) → k ≤ 1000 → now ≡ interrupted k old → new ≡ answer ∷ now → Asked answer old new
asked_after {answer = answer} k few before last = record { times = k; at_most = few; calls = last ∙ ap (λ c. answer ∷ c) before }

-- each call was interrupted
pub interrupted_all : (k : ℕ) (old : Calls) {now : Calls} → k ≡ 1001 → now ≡ interrupted k old → now ≡ interrupted 1001 old
interrupted_all k old e before = before ∙ ap (λ n. interrupted n old) e

pub lost_interrupted : (k : ℕ) (calls : Calls) → lost (interrupted k calls) ≡ lost calls
unfolding interrupted
lost_interrupted zero calls = refl
lost_interrupted (suc k) calls = lost_interrupted k calls

pub failures_interrupted : (k : ℕ) (calls : Calls) → failure_count (interrupted k calls) ≡ failure_count calls
unfolding interrupted
failures_interrupted zero calls = refl
failures_interrupted (suc k) calls = failures_interrupted k calls

pub syncs_interrupted : (k : ℕ) (calls : Calls) → failed_syncs (interrupted k calls) ≡ failed_syncs calls
unfolding interrupted
syncs_interrupted zero calls = refl
syncs_interrupted (suc k) calls = syncs_interrupted k calls

written_interrupted : (k : ℕ) (calls : Calls) → written_count (interrupted k calls) ≡ written_count calls
unfolding interrupted
written_interrupted zero calls = refl
written_interrupted (suc k) calls = written_interrupted k calls

came_interrupted : (k pos : ℕ) (bytes : List ℕ) (calls : Calls) → Came pos bytes calls → Came pos bytes (interrupted k calls)
unfolding interrupted
came_interrupted zero pos bytes calls c = c
came_interrupted (suc k) pos bytes calls c = came_interrupted k pos bytes calls c

agrees_interrupted : (k : ℕ) (calls : Calls) (b : List ℕ) → Agrees (interrupted k calls) b → Agrees calls b
unfolding interrupted
agrees_interrupted zero calls b is = is
agrees_interrupted (suc k) calls b is = agrees_interrupted k calls b is

interrupted_agrees : (k : ℕ) (calls : Calls) (b : List ℕ) → Agrees calls b → Agrees (interrupted k calls) b
unfolding interrupted
interrupted_agrees zero calls b is = is
interrupted_agrees (suc k) calls b is = interrupted_agrees k calls b is

pub untouched_refl : (calls : Calls) → Untouched calls calls
untouched_refl calls = record { same = record { no_other = λ b is. is; none_lost = λ b is. is }; syncs = refl; written = refl; later = omega arith; known = refl }

pub untouched_trans : {a b c : Calls} → Untouched a b → Untouched b c → Untouched a c
untouched_trans p q = record {
  same = record { no_other = λ x is. p.same.no_other x (q.same.no_other x is); none_lost = λ x is. q.same.none_lost x (p.same.none_lost x is) };
  syncs = q.syncs ∙ p.syncs;
  written = q.written ∙ p.written;
  later = omega (arith, p.later, q.later);
  known = q.known ∙ p.known;
}

pub untouched_interrupted : (k : ℕ) (calls : Calls) → Untouched calls (interrupted k calls)
untouched_interrupted k calls = record {
  same = record { no_other = agrees_interrupted k calls; none_lost = interrupted_agrees k calls };
  syncs = syncs_interrupted k calls;
  written = written_interrupted k calls;
  later = omega (arith, failures_interrupted k calls);
  known = lost_interrupted k calls;
}

-- a piece came
pub read_untouched : {pos : ℕ} {piece : List ℕ} {old new : Calls} → Asked (Read pos, piece) old new → Untouched old new
read_untouched {pos = pos} {piece = piece} {old = old} a = let u = untouched_interrupted a.times old in rw (a.calls) (record { same = u.same; syncs = u.syncs; written = u.written; later = u.later; known = u.known })

pub read_fine : {pos : ℕ} {piece : List ℕ} {old new : Calls} → Asked (Read pos, piece) old new → failure_count new ≡ failure_count old
read_fine {old = old} a = rw (a.calls) (failures_interrupted a.times old)

-- no piece came
pub vain_untouched : {old new : Calls} → AskedInVain Failed Refused old new → Untouched old new
vain_untouched {old = old} {new = new} v = elim v [
  | inl a ↦ let u = untouched_interrupted a.times old in rw (a.calls) (record { same = u.same; syncs = u.syncs; written = u.written; later = omega (arith, u.later); known = u.known })
  | inr e ↦ let u = untouched_interrupted 1001 old in rw e (record { same = u.same; syncs = u.syncs; written = u.written; later = omega (arith, u.later); known = u.known })
]

pub vain_failed : {old new : Calls} → AskedInVain Failed Refused old new → failure_count old < failure_count new
vain_failed {old = old} {new = new} v = elim v [
  | inl a ↦ rw (a.calls) (omega (arith, failures_interrupted a.times old))
  | inr e ↦ rw e (omega (arith, failures_interrupted 1001 old))
]

-- one piece more came
pub came_more : (pos : ℕ) (bytes : List ℕ) {next : ℕ} {piece : List ℕ} {old new : Calls} → next ≡ pos + length bytes → Came pos bytes old → Asked (Read next, piece) old new → Came pos (bytes ++ piece) new
came_more pos bytes {next = next} {piece = piece} {old = old} here c a = rw (a.calls) (inr (bytes, came_interrupted a.times pos bytes old c, here, refl))

pub came_none : (pos : ℕ) (calls : Calls) → Came pos [] calls
came_none pos [] = refl
came_none pos ((Interrupted, _) ∷ calls) = came_none pos calls
came_none pos ((Read next, _) ∷ calls) = inl refl
came_none pos ((Made, _) ∷ calls) = refl
came_none pos ((Gave _, _) ∷ calls) = refl
came_none pos ((Wrote _, _) ∷ calls) = refl
came_none pos ((NotWritten _ _, _) ∷ calls) = refl
came_none pos ((Length _, _) ∷ calls) = refl
came_none pos ((Cut _, _) ∷ calls) = refl
came_none pos ((NotCut _, _) ∷ calls) = refl
came_none pos ((Synced, _) ∷ calls) = refl
came_none pos ((NotSynced, _) ∷ calls) = refl
came_none pos ((Failed, _) ∷ calls) = refl
came_none pos ((Refused, _) ∷ calls) = refl
came_none pos ((Lost, _) ∷ calls) = refl
