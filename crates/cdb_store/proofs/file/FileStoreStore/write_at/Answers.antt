use Rattle.cdb_store.proofs.Words.{AfterTornWrite, AfterWrite, AreSized, FileImage, arith, file_size, length, rules, subst, sym, ◌∙◌}
use Rattle.cdb_store.proofs.Moves.{torn_from_write}
use Rattle.cdb_store.proofs.FileLemmas.{file_put, put_long}
use Rattle.cdb_store.proofs.FileFaults.{torn_refused, torn_told, torn_lost}
use Rattle.cdb_store.proofs.file.FileStoreStore.write_at.Goals as goal

pub returns-in_err-refuse_if_lost-clause-torn : goal.returns-in_err-refuse_if_lost-clause-torn
returns-in_err-refuse_if_lost-clause-torn g c = torn_refused c.args.pos (length c.args.bytes.now) c.refuse_if_lost.ensures.len c.in_err-refuse_if_lost.ensures.refused

pub invariant_of-self : goal.invariant_of-self
invariant_of-self g c =
    let s = c.refuse_if_lost.new.self in
    record {
      bounded = omega (arith, c.refuse_if_lost.ensures.len);
      known = c.in_ok-refuse_if_lost.ensures.ok ∙ sym c.write_all.ensures.still_known;
      sure = λ h. c.write_all.ensures.syncs ∙ s.sure h;
      unsure = λ h. omega (arith, c.write_all.ensures.syncs, s.unsure h);
      long = λ h. rw (c.max-most.ensures) (put_long c.args.pos s.len c.args.bytes.now (omega (arith, c.refuse_if_lost.ensures.len)) (s.long h) c.in-Ok.ensures.ok);
    }

wrote : (g : _) (c : goal.After-self-1 g) → AfterWrite c.args.pos c.args.bytes.now (FileImage c.args.self.now.len (g.F.RawFile.calls c.args.self.now.file)) (FileImage c.max-most.result (g.F.RawFile.calls c.write_all.new.file))
wrote g c =
    let s = c.refuse_if_lost.new.self in
    subst (λ x. AfterWrite c.args.pos c.args.bytes.now (FileImage x.len (g.F.RawFile.calls x.file)) (FileImage c.max-most.result (g.F.RawFile.calls c.write_all.new.file))) c.in_ok-refuse_if_lost.ensures.same
    (rw (c.max-most.ensures) (file_put c.args.pos s.len c.args.bytes.now (omega (arith, c.refuse_if_lost.ensures.len)) (s.long c.in_ok-refuse_if_lost.ensures.ok) c.in-Ok.ensures.ok))

pub returns-in-Ok-clause-ok : goal.returns-in-Ok-clause-ok
returns-in-Ok-clause-ok g c = wrote g c

pub returns-in-Ok-clause-torn : goal.returns-in-Ok-clause-torn
returns-in-Ok-clause-torn g c =
    let s = c.args.self.now in
    let sized : AreSized s.len (FileImage s.len (g.F.RawFile.calls s.file)) = record { each = file_size s.len (g.F.RawFile.calls s.file) } in
    torn_from_write c.requires.start sized (wrote g c)

pub returns-in-Some-clause-torn : goal.returns-in-Some-clause-torn
returns-in-Some-clause-torn g c =
    let s = c.refuse_if_lost.new.self in
    let range = c.in-Some.ensures.range in
    subst (λ x. AfterTornWrite c.args.pos (length c.args.bytes.now) (FileImage x.len (g.F.RawFile.calls x.file)) (FileImage c.in-Some.left (g.F.RawFile.calls c.length_within.new.file))) c.in_ok-refuse_if_lost.ensures.same
    (torn_told c.args.pos (length c.args.bytes.now) s.len c.in-Some.left (omega (arith, c.refuse_if_lost.ensures.len)) range.0 (omega (arith, range.1, c.max-most.ensures)) (s.long c.in_ok-refuse_if_lost.ensures.ok) c.in-Err.ensures.err c.in-Some.ensures.told)

pub returns-in-None-clause-torn : goal.returns-in-None-clause-torn
returns-in-None-clause-torn g c =
    let s = c.refuse_if_lost.new.self in
    subst (λ x. AfterTornWrite c.args.pos (length c.args.bytes.now) (FileImage x.len (g.F.RawFile.calls x.file)) (FileImage s.len (g.F.RawFile.calls c.length_within.new.file))) c.in_ok-refuse_if_lost.ensures.same
    (torn_lost c.args.pos (length c.args.bytes.now) s.len (omega (arith, c.refuse_if_lost.ensures.len)) (s.long c.in_ok-refuse_if_lost.ensures.ok) c.in-Err.ensures.err c.in-None.ensures.lost)

pub returns-in-None-clause-measured : goal.returns-in-None-clause-measured
returns-in-None-clause-measured g c = search rules
