-- How a run that writes a difference ends.
use Rattle.cdb_show.proofs.Words.{Err, Fault, Flushed, Ghosts, IsOk, Keeps, List, None, Ok, OnlyReads, OpeningFails, Option, ReadFault, Result, Some, ap, appends_kept, arith, false, head_size, inl, inr, reads_none, same_appends, subst, sym, true, ℕ, ◌≡◌, ◌≤◌}
use Rattle.cdb_store.proofs.Reading.{reads_more}
use Rattle.cdb_form.specs.Text.Parse.{amending_text}
use Rattle.cdb_read.specs.declared.fault.ReadFault.TheVariants as read
use Rattle.cdb_read.proofs.TablesInside.{lookup_meets_no_table, walk_meets_no_table}
use Rattle.cdb_read.specs.Statistics.{outside_table}
use Rattle.cdb_form.specs.declared.damage.Damage.TheVariants as damage
use Rattle.cdb_read.specs.Differing.{HasDamage, IsOneDamaged, ReadingStops, SaysDifference, DifferenceStops, WritesDifference, WritesDifferencePrefix}
use Rattle.cdb_read.proofs.WholeDifferences.{nothing_written}
use Rattle.cdb_show.specs.Runs.Difference.{ComesAfter, DifferenceFails, DifferenceLacks, DifferenceNotRead, DifferenceOutside, HaveHeads, HaveTables, HaveTablesInside, TellsDifference, difference_state, difference_task}
use Rattle.cdb_show.specs.Views.Fault.{old_fault, new_fault, stop_fault}
use Rattle.cdb_show.specs.declared.fault.Fault.TheVariants.{Output, NoMemory, Old, New, NoOldTables, NoNewTables, NoBaseTables}
use Rattle.cdb_read.specs.declared.difference.stop.Stop.{Stop}
use Rattle.cdb_read.specs.declared.difference.stop.Stop.TheVariants.{Own, Other}
use Rattle.cdb_show.proofs.Openings.{opening_reads, unopened_by}
use Rattle.cdb_show.proofs.Writers.{keeps_self, keeps_then, not_ok, prefix_kept, whole_prefix}

-- ---- why it failed

-- a file whose tables lie inside it has the damage of none
no_table : (w n : ℕ) (b c : List ℕ) → outside_table w b ≡ None → HasDamage w b c (damage.Table n) → ⊥
no_table w n b c inside (inl walked) = walk_meets_no_table w n b inside walked
no_table w n b c inside (inr looked) = lookup_meets_no_table w n b looked.0 inside looked.2

module _ {S T : Type 0} (w : ℕ) (s : Ghosts S) (t : Ghosts T) (old old_now : S) (new new_now : T) (start now : Option (List ℕ)) (O : Type 0) (looked : HaveTablesInside w s t old_now new_now) where
  old_fails : (f : ReadFault) → ReadingStops s old old_now (IsOneDamaged w s t old_now new_now) O f → DifferenceFails (difference_task w s t) (difference_state old new start) (difference_state old_now new_now now) (old_fault f)
  old_fails read.Device fails = fails
  old_fails (read.Table n) fails = λ b c is it. absurd (no_table w n b c (looked.of_old b is) (fails b c is it))
  old_fails (read.Record place) fails = fails
  old_fails read.NoMemory fails = tt
  old_fails read.Output fails = tt
  old_fails f fails = absurd fails

  new_fails : (f : ReadFault) → ReadingStops t new new_now (IsOneDamaged w t s new_now old_now) O f → DifferenceFails (difference_task w s t) (difference_state old new start) (difference_state old_now new_now now) (new_fault f)
  new_fails read.Device fails = fails
  new_fails (read.Table n) fails = λ c b it is. absurd (no_table w n c b (looked.of_new c it) (fails c b it is))
  new_fails (read.Record place) fails = fails
  new_fails read.NoMemory fails = tt
  new_fails read.Output fails = tt
  new_fails f fails = absurd fails

  pub writing_fails : (stop : Stop) → DifferenceStops w s t old old_now new new_now O stop → DifferenceFails (difference_task w s t) (difference_state old new start) (difference_state old_now new_now now) (stop_fault stop)
  writing_fails (Own f) fails = old_fails f fails
  writing_fails (Other f) fails = new_fails f fails

  old_after : (f : ReadFault) → ReadingStops s old old_now (IsOneDamaged w s t old_now new_now) O f → ComesAfter w s t old_now new_now (old_fault f)
  old_after read.Device fails = tt
  old_after (read.Table n) fails = looked.tables
  old_after (read.Record place) fails = looked
  old_after read.NoMemory fails = looked
  old_after read.Output fails = looked
  old_after f fails = absurd fails

  new_after : (f : ReadFault) → ReadingStops t new new_now (IsOneDamaged w t s new_now old_now) O f → ComesAfter w s t old_now new_now (new_fault f)
  new_after read.Device fails = looked.tables.heads.of_old
  new_after (read.Table n) fails = (looked.tables, looked.of_old)
  new_after (read.Record place) fails = looked
  new_after read.NoMemory fails = looked
  new_after read.Output fails = looked
  new_after f fails = absurd fails

  pub writing_after : (stop : Stop) → DifferenceStops w s t old old_now new new_now O stop → ComesAfter w s t old_now new_now (stop_fault stop)
  writing_after (Own f) fails = old_after f fails
  writing_after (Other f) fails = new_after f fails

-- ---- a database that was not opened

pub old_unopened : {S T : Type 0} (w : ℕ) (s : Ghosts S) (t : Ghosts T) (old old_now : S) (new : T) (start : Option (List ℕ)) (f : ReadFault) → OpeningFails w s old old_now f → TellsDifference (difference_task w s t) (difference_state old new start) (difference_state old_now new start) (Err (old_fault f))
old_unopened w s t old old_now new start f fails = record {
  old_reads = opening_reads w s old old_now f fails;
  new_reads = reads_none t new;
  ok = tt;
  err = unopened_by w s old old_now (λ f. DifferenceFails (difference_task w s t) (difference_state old new start) (difference_state old_now new start) (old_fault f))
      (λ short same. record { short = short; unread = same; kept = keeps_self start }) (λ reads failed. failed) f fails;
  ok_looks = tt;
  err_looks = unopened_by w s old old_now (λ f. ComesAfter w s t old_now new (old_fault f)) (λ short same. tt) (λ reads failed. tt) f fails;
  front = λ b c is it. nothing_written w b c start;
}

pub new_unopened : {S T : Type 0} (w : ℕ) (s : Ghosts S) (t : Ghosts T) (old old_now : S) (new new_now : T) (start : Option (List ℕ)) (f : ReadFault) → OnlyReads s old old_now → head_size w ≤ s.size old_now → OpeningFails w t new new_now f → TellsDifference (difference_task w s t) (difference_state old new start) (difference_state old_now new_now start) (Err (new_fault f))
new_unopened w s t old old_now new new_now start f reads long fails = record {
  old_reads = reads;
  new_reads = opening_reads w t new new_now f fails;
  ok = tt;
  err = unopened_by w t new new_now (λ f. DifferenceFails (difference_task w s t) (difference_state old new start) (difference_state old_now new_now start) (new_fault f))
      (λ short same. record { short = short; unread = same; kept = keeps_self start }) (λ reads failed. failed) f fails;
  ok_looks = tt;
  err_looks = unopened_by w t new new_now (λ f. ComesAfter w s t old_now new_now (new_fault f)) (λ short same. long) (λ reads failed. long) f fails;
  front = λ b c is it. nothing_written w b c start;
}

-- ---- two that were opened

since : {S T : Type 0} (w : ℕ) (s : Ghosts S) (t : Ghosts T) (old mid now : S) (beside : T) (start end : Option (List ℕ)) (f : ReadFault) → OnlyReads s old mid → head_size w ≤ s.size mid → DifferenceNotRead (difference_task w s t) (difference_state mid beside start) (difference_state now beside end) f → DifferenceNotRead (difference_task w s t) (difference_state old beside start) (difference_state now beside end) f
since w s t old mid now beside start end read.Short reads long fails = absurd (let short = fails.short in omega (arith, short, long))
since w s t old mid now beside start end read.Device reads long fails = let p = reads.failures in omega (arith, p, fails)
since w s t old mid now beside start end (read.Table n) reads long fails = fails
since w s t old mid now beside start end (read.Record place) reads long fails = fails
since w s t old mid now beside start end f reads long fails = absurd fails

module _ {S T : Type 0} (w : ℕ) (s : Ghosts S) (t : Ghosts T) (old mid now : S) (new mid_new now_new : T) (start end : Option (List ℕ)) (first : OnlyReads s old mid) (second : OnlyReads t new mid_new) (long : head_size w ≤ s.size mid) (long_new : head_size w ≤ t.size mid_new) where
  fails_since : (f : Fault) → DifferenceFails (difference_task w s t) (difference_state mid mid_new start) (difference_state now now_new end) f → DifferenceFails (difference_task w s t) (difference_state old new start) (difference_state now now_new end) f
  fails_since (Old f) fails = since w s t old mid now now_new start end f first long fails
  fails_since (New f) fails = since w t s new mid_new now_new now start end f second long_new fails
  fails_since Output fails = tt
  fails_since NoMemory fails = tt
  fails_since NoOldTables fails = fails
  fails_since NoNewTables fails = fails
  fails_since NoBaseTables fails = fails
  fails_since other_case fails = absurd fails

  pub tells_since : (result : Result Unit Fault) → TellsDifference (difference_task w s t) (difference_state mid mid_new start) (difference_state now now_new end) result → TellsDifference (difference_task w s t) (difference_state old new start) (difference_state now now_new end) result
  tells_since (Ok tt) h = record { old_reads = reads_more first h.old_reads; new_reads = reads_more second h.new_reads; ok = h.ok; err = tt; ok_looks = h.ok_looks; err_looks = tt; front = tt }
  tells_since (Err f) h = record { old_reads = reads_more first h.old_reads; new_reads = reads_more second h.new_reads; ok = tt; err = fails_since f h.err; ok_looks = tt; err_looks = h.err_looks; front = h.front }

-- what the looks at two opened files find
module _ {S T : Type 0} (w : ℕ) (s : Ghosts S) (t : Ghosts T) (old old_now : S) (new new_now : T) (start end : Option (List ℕ)) where
  pub old_lacks : HaveHeads w s t old new → DifferenceLacks w s old true → TellsDifference (difference_task w s t) (difference_state old new start) (difference_state old new start) (Err NoOldTables)
  old_lacks heads lacks = record {
    old_reads = reads_none s old;
    new_reads = reads_none t new;
    ok = tt;
    err = record { lacks = lacks; kept = keeps_self start };
    ok_looks = tt;
    err_looks = heads;
    front = λ b c is it. nothing_written w b c start;
  }

  pub new_lacks : HaveHeads w s t old new → DifferenceLacks w s old false → DifferenceLacks w t new true → TellsDifference (difference_task w s t) (difference_state old new start) (difference_state old new start) (Err NoNewTables)
  new_lacks heads has lacks = record {
    old_reads = reads_none s old;
    new_reads = reads_none t new;
    ok = tt;
    err = record { lacks = lacks; kept = keeps_self start };
    ok_looks = tt;
    err_looks = (heads, has);
    front = λ b c is it. nothing_written w b c start;
  }

  pub old_outside : (n : ℕ) → HaveTables w s t old new → DifferenceOutside w s old (Some n) → TellsDifference (difference_task w s t) (difference_state old new start) (difference_state old new start) (Err (Old (read.Table n)))
  old_outside n tables outside = record {
    old_reads = reads_none s old;
    new_reads = reads_none t new;
    ok = tt;
    err = λ b c is it. (outside b is, keeps_self start);
    ok_looks = tt;
    err_looks = tables;
    front = λ b c is it. nothing_written w b c start;
  }

  pub new_outside : (n : ℕ) → HaveTables w s t old new → DifferenceOutside w s old None → DifferenceOutside w t new (Some n) → TellsDifference (difference_task w s t) (difference_state old new start) (difference_state old new start) (Err (New (read.Table n)))
  new_outside n tables inside outside = record {
    old_reads = reads_none s old;
    new_reads = reads_none t new;
    ok = tt;
    err = λ c b it is. (outside c it, keeps_self start);
    ok_looks = tt;
    err_looks = (tables, inside);
    front = λ b c is it. nothing_written w b c start;
  }

  still : OnlyReads s old old_now → OnlyReads t new new_now → HaveTablesInside w s t old new → HaveTablesInside w s t old_now new_now
  still first second looked = record {
    tables = record {
      heads = record {
        of_old = subst (λ n. head_size w ≤ n) (sym first.size) looked.tables.heads.of_old;
        of_new = subst (λ n. head_size w ≤ n) (sym second.size) looked.tables.heads.of_new;
      };
      of_old = λ b is. looked.tables.of_old b (first.images b is);
      of_new = λ c it. looked.tables.of_new c (second.images c it);
    };
    of_old = λ b is. looked.of_old b (first.images b is);
    of_new = λ c it. looked.of_new c (second.images c it);
  }

  pub tells_written : {O : Type 0} → HaveTablesInside w s t old new → SaysDifference w s t old old_now new new_now start end O (Ok tt) → TellsDifference (difference_task w s t) (difference_state old new start) (difference_state old_now new_now end) (Ok tt)
  tells_written looked h = record { old_reads = h.old_reads; new_reads = h.new_reads; ok = h.ok; err = tt; ok_looks = still h.old_reads h.new_reads looked; err_looks = tt; front = tt }

  pub tells_stopped : {O : Type 0} → HaveTablesInside w s t old new → (stop : Stop) → SaysDifference w s t old old_now new new_now start end O (Err stop) → TellsDifference (difference_task w s t) (difference_state old new start) (difference_state old_now new_now end) (Err (stop_fault stop))
  tells_stopped {O} looked stop h = record {
    old_reads = h.old_reads;
    new_reads = h.new_reads;
    ok = tt;
    err = writing_fails w s t old old_now new new_now start end O (still h.old_reads h.new_reads looked) stop h.err;
    ok_looks = tt;
    err_looks = writing_after w s t old old_now new new_now start end O (still h.old_reads h.new_reads looked) stop h.err;
    front = h.front;
  }

-- ---- the flush

module _ {S T : Type 0} (w : ℕ) (s : Ghosts S) (t : Ghosts T) (old now : S) (new now_new : T) (start mid end : Option (List ℕ)) (kept : Keeps mid end) where
  written_kept : (b c : List ℕ) → WritesDifference w b c start mid → WritesDifference w b c start end
  written_kept b c h = record { old_whole = h.old_whole; new_whole = h.new_whole; changes = h.changes; written = appends_kept start mid end _ h.written kept; are = h.are }

  front_kept : (b c : List ℕ) → WritesDifferencePrefix w b c start mid → WritesDifferencePrefix w b c start end
  front_kept b c h = record { changes = h.changes; written = prefix_kept start mid end _ h.written kept; are = λ one two. prefix_kept start mid end _ (h.are one two) kept }

  written_front : (b c : List ℕ) → WritesDifference w b c start end → WritesDifferencePrefix w b c start end
  written_front b c h = record {
    changes = h.changes;
    written = whole_prefix start end _ h.written;
    are = λ one two. whole_prefix start end _ (same_appends start end _ _ (ap amending_text (h.are one two)) h.written);
  }

  short_kept : {X Z : Type 0} (x : Ghosts X) (z : Ghosts Z) (before after : X) (beside : Z) (f : ReadFault) → DifferenceNotRead (difference_task w x z) (difference_state before beside start) (difference_state after beside mid) f → DifferenceNotRead (difference_task w x z) (difference_state before beside start) (difference_state after beside end) f
  short_kept x z before after beside read.Short h = record { short = h.short; unread = h.unread; kept = keeps_then start mid end h.kept kept }
  short_kept x z before after beside read.Device h = h
  short_kept x z before after beside (read.Table n) h = λ b c is it. (let out = h b c is it in (out.0, keeps_then start mid end out.1 kept))
  short_kept x z before after beside (read.Record place) h = h
  short_kept x z before after beside f h = absurd h

  fault_kept : (f : Fault) → DifferenceFails (difference_task w s t) (difference_state old new start) (difference_state now now_new mid) f → DifferenceFails (difference_task w s t) (difference_state old new start) (difference_state now now_new end) f
  fault_kept (Old f) h = short_kept s t old now now_new f h
  fault_kept (New f) h = short_kept t s new now_new now f h
  fault_kept Output h = tt
  fault_kept NoMemory h = tt
  fault_kept NoOldTables h = record { lacks = h.lacks; kept = keeps_then start mid end h.kept kept }
  fault_kept NoNewTables h = record { lacks = h.lacks; kept = keeps_then start mid end h.kept kept }
  fault_kept other_case h = absurd h

  same_answer : (answer : Result Unit Fault) → TellsDifference (difference_task w s t) (difference_state old new start) (difference_state now now_new mid) answer → TellsDifference (difference_task w s t) (difference_state old new start) (difference_state now now_new end) answer
  same_answer (Ok tt) h = record { old_reads = h.old_reads; new_reads = h.new_reads; ok = λ b c is it. written_kept b c (h.ok b c is it); err = tt; ok_looks = h.ok_looks; err_looks = tt; front = tt }
  same_answer (Err f) h = record { old_reads = h.old_reads; new_reads = h.new_reads; ok = tt; err = fault_kept f h.err; ok_looks = tt; err_looks = h.err_looks; front = λ b c is it. front_kept b c (h.front b c is it) }

  not_flushed : (answer : Result Unit Fault) → IsOk answer → TellsDifference (difference_task w s t) (difference_state old new start) (difference_state now now_new mid) answer → TellsDifference (difference_task w s t) (difference_state old new start) (difference_state now now_new end) (Err Output)
  not_flushed (Ok tt) ok h = record { old_reads = h.old_reads; new_reads = h.new_reads; ok = tt; err = tt; ok_looks = tt; err_looks = h.ok_looks; front = λ b c is it. written_front b c (written_kept b c (h.ok b c is it)) }
  not_flushed (Err f) ok h = absurd (not_ok ok)

  pub tells_flushed : (answer result : Result Unit Fault) → TellsDifference (difference_task w s t) (difference_state old new start) (difference_state now now_new mid) answer → Flushed mid end answer result → TellsDifference (difference_task w s t) (difference_state old new start) (difference_state now now_new end) result
  tells_flushed answer result h f = elim f.answered [
    | inl same ↦ subst (TellsDifference (difference_task w s t) (difference_state old new start) (difference_state now now_new end)) (sym same) (same_answer answer h)
    | inr failed ↦ subst (TellsDifference (difference_task w s t) (difference_state old new start) (difference_state now now_new end)) (sym failed.1) (not_flushed answer failed.0 h)
  ]
