use Rattle.cdb_store.proofs.Words.{AfterCut, FileImage, arith, rules, subst}
use Rattle.cdb_store.proofs.FileLemmas.{file_cut}
use Rattle.cdb_store.proofs.FileFaults.{cut_refused, cut_told, cut_lost}
use Rattle.cdb_store.proofs.file.FileStoreStore.cut.Goals as goal

pub returns-in_err-refuse_if_lost-clause-images : goal.returns-in_err-refuse_if_lost-clause-images
returns-in_err-refuse_if_lost-clause-images g c = cut_refused c.refuse_if_lost.ensures.len c.in_err-refuse_if_lost.ensures.refused

pub returns-in-Ok-clause-images : goal.returns-in-Ok-clause-images
returns-in-Ok-clause-images g c =
    let s = c.refuse_if_lost.new.self in
    subst (λ x. AfterCut c.args.len (FileImage x.len (g.F.RawFile.calls x.file)) (FileImage c.args.len (g.F.RawFile.calls c.set_length.new.self))) c.in_ok-refuse_if_lost.ensures.same
    (rw (c.in-Ok.ensures.ok) (file_cut c.args.len s.len (g.F.RawFile.calls s.file) (omega (arith, c.refuse_if_lost.ensures.len)) (s.long c.in_ok-refuse_if_lost.ensures.ok)))

pub returns-in-Some-clause-images : goal.returns-in-Some-clause-images
returns-in-Some-clause-images g c =
    let s = c.refuse_if_lost.new.self in
    let range = c.in-Some.ensures.range in
    subst (λ x. AfterCut c.in-Some.left (FileImage x.len (g.F.RawFile.calls x.file)) (FileImage c.in-Some.left (g.F.RawFile.calls c.length_within.new.file))) c.in_ok-refuse_if_lost.ensures.same
    (cut_told c.args.len c.in-Some.left s.len range.0 range.1 (s.long c.in_ok-refuse_if_lost.ensures.ok) c.in-Err.ensures.err c.in-Some.ensures.told)

pub returns-in-None-clause-images : goal.returns-in-None-clause-images
returns-in-None-clause-images g c =
    let s = c.refuse_if_lost.new.self in
    subst (λ x. AfterCut s.len (FileImage x.len (g.F.RawFile.calls x.file)) (FileImage s.len (g.F.RawFile.calls c.length_within.new.file))) c.in_ok-refuse_if_lost.ensures.same
    (cut_lost c.args.len s.len (omega (arith, c.refuse_if_lost.ensures.len)) (s.long c.in_ok-refuse_if_lost.ensures.ok) c.in-Err.ensures.err c.in-None.ensures.lost)

pub returns-in-None-clause-written : goal.returns-in-None-clause-written
returns-in-None-clause-written g c = search rules
