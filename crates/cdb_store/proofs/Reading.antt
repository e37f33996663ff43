-- Stores that are read one call after another.
use Rattle.std.proofs.Common.{◌≡◌, refl, sym, subst, ◌∙◌, arith}
use Rattle.cdb_store.specs.Reads.{OnlyReads}
use Rattle.cdb_store.specs.declared.store.Store.{Ghosts}

pub reads_more : {S : Type 0} {s : Ghosts S} {a b c : S} → OnlyReads s a b → OnlyReads s b c → OnlyReads s a c
reads_more p q = record {
  images = λ x is. p.images x (q.images x is);
  size = q.size ∙ p.size;
  written = q.written ∙ p.written;
  room = (let f = p.room in let g = q.room in omega arith);
  failures = (let f = p.failures in let g = q.failures in omega arith);
  unwritten = (let f = p.unwritten in let g = q.unwritten in omega arith);
}

pub reads_nothing : {S : Type 0} {s : Ghosts S} (old new : S) → new ≡ old → OnlyReads s old new
reads_nothing {s = s} old new same =
    subst (OnlyReads s old) (sym same)
    (record {
      images = λ b is. is;
      size = refl;
      written = refl;
      room = omega arith;
      failures = omega arith;
      unwritten = omega arith;
    })
