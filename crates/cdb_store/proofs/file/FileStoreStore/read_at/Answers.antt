use Rattle.cdb_store.proofs.Words.{AfterRead, FileImage, ap, arith, failed_syncs, lost, rules, subst, sym, ◌∙◌}
use Rattle.cdb_store.proofs.FileLemmas.{file_gave, long_same, gave_long}
use Rattle.cdb_store.proofs.file.FileStoreStore.read_at.Goals as goal

pub invariant_of-self : goal.invariant_of-self
invariant_of-self g c = let s = c.refuse_if_lost.new.self in record {
  bounded = s.bounded;
  known = s.known ∙ sym c.read_all.ensures.untouched.known;
  sure = λ h. c.read_all.ensures.untouched.syncs ∙ s.sure h;
  unsure = λ h. omega (arith, c.read_all.ensures.untouched.syncs, s.unsure h);
  long = λ h. long_same s.len c.read_all.ensures.untouched (s.long h);
}

pub invariant_of-self-2 : goal.invariant_of-self-2
invariant_of-self-2 g c = let s = c.refuse_if_lost.new.self in record {
  bounded = s.bounded;
  known = s.known ∙ sym c.read_all.ensures.untouched.known ∙ sym (ap lost c.give.ensures);
  sure = λ h. ap failed_syncs c.give.ensures ∙ c.read_all.ensures.untouched.syncs ∙ s.sure h;
  unsure = λ h. omega (arith, ap failed_syncs c.give.ensures, c.read_all.ensures.untouched.syncs, s.unsure h);
  long = λ h. gave_long s.len c.args.pos c.read_all.new.into c.read_all.ensures.untouched c.give.ensures (s.long h);
}

pub returns-clause-ok : goal.returns-clause-ok
returns-clause-ok g c =
    let s = c.refuse_if_lost.new.self in
    subst (λ x. AfterRead c.args.pos c.read_all.new.into (FileImage x.len (g.F.RawFile.calls x.file)) (FileImage s.len (g.F.RawFile.calls c.give.new.self))) c.in_ok-refuse_if_lost.ensures.same
    (file_gave c.args.pos s.len c.read_all.new.into (omega (arith, c.refuse_if_lost.ensures.len)) c.read_all.ensures.untouched c.give.ensures)

pub returns-in_err-refuse_if_lost-clause-err : goal.returns-in_err-refuse_if_lost-clause-err
returns-in_err-refuse_if_lost-clause-err g c = search rules
