use Rattle.cdb_make.proofs.Words.{AfterWrite, List, ap, arith, length, subst, torn_wider, ℕ, ◌++◌, ◌∙◌, ◌≡◌}
use Rattle.cdb_make.specs.Views.Long.{begun_bytes}
use Rattle.cdb_make.proofs.Bytes.Written.{begun_are, length-begun_bytes, on_ok_of}
use Rattle.cdb_make.proofs.write.begin_record.Goals.{After-write_parts}
use Rattle.cdb_make.proofs.write.begin_record.Goals as goal

-- the three parts are the record's bytes so far
written : (g : _) (c : After-write_parts g) → c.write_header.new.into ++ (c.args.key.now ++ c.args.first.now) ≡ begun_bytes g.L.Width.WORD c.args.key.now c.args.vlen c.args.first.now
written g c = begun_are g.L.Width.WORD c.args.key.now c.args.vlen c.args.first.now c.write_header.new.into c.write_header.ensures.written

pub returns-clause-ok : goal.returns-clause-ok
returns-clause-ok g c =
    let f = c.write_parts.ensures in
    let is = written g (goal.at.returns-clause-ok g c).After-write_parts in
    let size = length-begun_bytes g.L.Width.WORD c.args.key.now c.args.vlen c.args.first.now in
    let long = ap length is ∙ size in
    on_ok_of c.write_parts.result (λ ok ends more. record {
      images = subst (λ (v : List ℕ). AfterWrite c.args.pos v (g.S.Store.image c.args.store.now) (g.S.Store.image c.write_parts.new.self)) is ok;
      size = omega (arith, long, size, ends);
      written = omega (arith, long, size, more);
    })
    f.ok f.ok_size f.ok_written

pub returns-clause-within : goal.returns-clause-within
returns-clause-within g c =
    let f = c.write_parts.ensures in
    let is = written g (goal.at.returns-clause-within g c).After-write_parts in
    let long = ap length is ∙ length-begun_bytes g.L.Width.WORD c.args.key.now c.args.vlen c.args.first.now in
    record {
      torn = torn_wider c.args.pos _ _ _ _ (omega (arith, long)) f.torn;
      longer = f.longer;
      not_past = omega (arith, f.not_past, long);
      more_written = f.more_written;
      at_most_written = omega (arith, f.at_most_written, long);
      memory = λ refused. record { images = f.memory refused; size = f.memory_size refused; written = f.memory_written refused; room = f.memory_room refused; failures = f.memory_failures refused };
      past_room = λ refused. omega (arith, f.past_room refused, long);
      room = f.room;
      cause = f.cause;
      unwritten = f.unwritten;
    }
