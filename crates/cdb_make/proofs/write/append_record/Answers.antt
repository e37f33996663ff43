use Rattle.cdb_make.proofs.Words.{KeyValue, List, ap, arith, length, length-record_bytes, on_ok_weaker, record_size, refl, rules, subst, ℕ, ◌<◌, ◌∙◌, ◌≡◌}
use Rattle.cdb_form.specs.Format.{record_of}
use Rattle.cdb_make.specs.Views.Writing.{WritesBehind, WritesWithin}
use Rattle.cdb_make.proofs.Bytes.Written.{begun_whole, on_ok_of}
use Rattle.cdb_make.proofs.write.append_record.Goals as goal

pub returns-then-is_empty-clause-ok : goal.returns-then-is_empty-clause-ok
returns-then-is_empty-clause-ok g c =
    let whole = begun_whole g.L.Width.WORD c.args.key.now (length c.args.value.now) c.args.value.now refl in
    on_ok_weaker c.begin_record.result (subst (λ (v : List ℕ). WritesBehind g.S.Store c.args.pos v c.args.store.now c.begin_record.new.store) whole) c.begin_record.ensures.ok

pub write_at-requires-clause-end : goal.write_at-requires-clause-end
write_at-requires-clause-end g c =
    let r : KeyValue = record_of c.args.key.now c.args.value.now in
    let there : (length c.args.bytes.now ≡ 0 → ⊥) = search (rules, c.if-is_empty.ensures, c.if-is_empty.false) in
    let some : 0 < length c.args.bytes.now = omega arith in
    omega (arith, ap length (c.requires.whole some), length-record_bytes g.L.Width.WORD r, c.requires.end)

pub returns-clause-ok : goal.returns-clause-ok
returns-clause-ok g c =
    let f = c.write_at.ensures in
    let there : (length c.args.bytes.now ≡ 0 → ⊥) = search (rules, c.if-is_empty.ensures, c.if-is_empty.false) in
    let some : 0 < length c.args.bytes.now = omega arith in
    on_ok_of c.write_at.result (λ ok ends more. subst (λ (v : List ℕ). WritesBehind g.S.Store c.args.pos v c.args.store.now c.write_at.new.self) (c.requires.whole some) (record { images = ok; size = ends; written = more }))
    f.ok f.ok_size f.ok_written

pub returns-clause-within : goal.returns-clause-within
returns-clause-within g c =
    let f = c.write_at.ensures in
    let r : KeyValue = record_of c.args.key.now c.args.value.now in
    let there : (length c.args.bytes.now ≡ 0 → ⊥) = search (rules, c.if-is_empty.ensures, c.if-is_empty.false) in
    let some : 0 < length c.args.bytes.now = omega arith in
    let long : length c.args.bytes.now ≡ record_size g.L.Width.WORD r = ap length (c.requires.whole some) ∙ length-record_bytes g.L.Width.WORD r in
    subst (λ (n : ℕ). WritesWithin g.S.Store c.args.pos n c.args.store.now c.write_at.new.self c.write_at.result) long (record {
      torn = f.torn;
      longer = f.longer;
      not_past = f.not_past;
      more_written = f.more_written;
      at_most_written = f.at_most_written;
      memory = λ refused. record { images = f.memory refused; size = f.memory_size refused; written = f.memory_written refused; room = f.memory_room refused; failures = f.memory_failures refused };
      past_room = f.past_room;
      room = f.room;
      cause = f.cause;
      unwritten = f.unwritten;
    })
