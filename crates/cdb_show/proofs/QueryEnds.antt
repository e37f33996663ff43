-- How a query ends: with a store that was not opened, or with the flush.
use Rattle.cdb_show.proofs.Words.{Err, Fault, Flushed, Ghosts, IsOk, Keeps, List, Ok, OnlyReads, OpeningFails, Option, Queries, Query, QueryAnswers, QueryFails, ReadFault, Result, WritesQueryPrefix, appends_kept, appends_none, inl, inr, query_text, read_fault, reads_none, subst, sym, ℕ}
use Rattle.cdb_read.specs.declared.fault.ReadFault.TheVariants as read
use Rattle.cdb_show.specs.declared.fault.Fault.TheVariants.{Missing, Read, Output}
use Rattle.cdb_show.proofs.Openings.{unopened_by}
use Rattle.cdb_show.proofs.Queries.{none_prefix}
use Rattle.cdb_show.proofs.Writers.{keeps_self, keeps_then, prefix_kept, whole_prefix, not_ok}

-- ---- the store was not opened

pub opening_fails : {S : Type 0} (w : ℕ) (s : Ghosts S) (q : Query) (old new : S) (start : Option (List ℕ)) (f : ReadFault) → OpeningFails w s old new f → Queries w s q old new start start (Err (read_fault f))
opening_fails w s q old new start f h = unopened_by w s old new (λ f. Queries w s q old new start start (Err (read_fault f)))
    (λ short same. record { reads = subst (OnlyReads s old) (sym same) (reads_none s old); ok = tt; err = record { short = short; unread = same; kept = keeps_self start } })
    (λ reads failed. record { reads = reads; ok = tt; err = (failed, record { written = λ b is. none_prefix start start _ (appends_none start) }) }) f h

-- ---- the flush

answers_kept : {S : Type 0} (w : ℕ) (s : Ghosts S) (q : Query) (store : S) (start mid now : Option (List ℕ)) (r : Result Unit Fault) → QueryAnswers w s q store start mid r → Keeps mid now → QueryAnswers w s q store start now r
answers_kept w s q store start mid now r h k = record { long = h.long; answered = h.answered; written = λ b is. appends_kept start mid now (query_text w b q) (h.written b is) k }

fronts_kept : {S : Type 0} (w : ℕ) (s : Ghosts S) (q : Query) (store : S) (start mid now : Option (List ℕ)) → WritesQueryPrefix w s q store start mid → Keeps mid now → WritesQueryPrefix w s q store start now
fronts_kept w s q store start mid now h k = record { written = λ b is. prefix_kept start mid now (query_text w b q) (h.written b is) k }

fault_kept : {S : Type 0} (w : ℕ) (s : Ghosts S) (q : Query) (old new : S) (start mid now : Option (List ℕ)) (f : Fault) → QueryFails w s q old new start mid f → Keeps mid now → QueryFails w s q old new start now f
fault_kept w s q old new start mid now Missing h k = answers_kept w s q new start mid now _ h k
fault_kept w s q old new start mid now (Read read.Short) h k = record { short = h.short; unread = h.unread; kept = keeps_then start mid now h.kept k }
fault_kept w s q old new start mid now (Read (read.Table n)) h k = answers_kept w s q new start mid now _ h k
fault_kept w s q old new start mid now (Read (read.Record place)) h k = answers_kept w s q new start mid now _ h k
fault_kept w s q old new start mid now (Read read.Device) h k = (h.0, fronts_kept w s q new start mid now h.1 k)
fault_kept w s q old new start mid now Output h k = (h.0, fronts_kept w s q new start mid now h.1 k)
fault_kept w s q old new start mid now f h k = absurd h

query_kept : {S : Type 0} (w : ℕ) (s : Ghosts S) (q : Query) (old new : S) (start mid now : Option (List ℕ)) (r : Result Unit Fault) → Queries w s q old new start mid r → Keeps mid now → Queries w s q old new start now r
query_kept w s q old new start mid now (Ok u) h k = record { reads = h.reads; ok = answers_kept w s q new start mid now _ h.ok k; err = tt }
query_kept w s q old new start mid now (Err f) h k = record { reads = h.reads; ok = tt; err = fault_kept w s q old new start mid now f h.err k }

-- all was written, but not flushed
flush_fails : {S : Type 0} (w : ℕ) (s : Ghosts S) (q : Query) (old new : S) (start mid now : Option (List ℕ)) (r : Result Unit Fault) → Queries w s q old new start mid r → Keeps mid now → IsOk r → Queries w s q old new start now (Err Output)
flush_fails w s q old new start mid now (Ok u) h k is =
    let all = answers_kept w s q new start mid now _ h.ok k in
    record { reads = h.reads; ok = tt; err = (all.long, record { written = λ b is. whole_prefix start now (query_text w b q) (all.written b is) }) }
flush_fails w s q old new start mid now (Err f) h k is = absurd (not_ok is)

pub query_flushed : {S : Type 0} (w : ℕ) (s : Ghosts S) (q : Query) (old new : S) (start mid now : Option (List ℕ)) (answer result : Result Unit Fault) → Queries w s q old new start mid answer → Flushed mid now answer result → Queries w s q old new start now result
query_flushed w s q old new start mid now answer result h f = elim f.answered as (λ _. Queries w s q old new start now result) [
  | inl e ↦ subst (Queries w s q old new start now) (sym e) (query_kept w s q old new start mid now answer h f.kept)
  | inr e ↦ subst (Queries w s q old new start now) (sym e.1) (flush_fails w s q old new start mid now answer h f.kept e.0)
]
