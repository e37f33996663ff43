use Rattle.cdb_read.proofs.DifferenceWords.{ap, err_from_is_err_and, refl, rules, writes_prefix, ◌∙◌}
use Rattle.cdb_read.proofs.PutValues.{put_more, put_none, put_part}
use Rattle.cdb_read.proofs.FoundSoFar.{found_more, found_none, found_still}
use Rattle.cdb_read.proofs.difference.key_changes.write_puts.Goals as goal

pub loop-value-init : goal.loop-value-init
loop-value-init g c =
    let e = c.find-finder.ensures in
    record {
      same = refl;
      key = e.key;
      put = put_none {s = g.S.Store} {l = g.L.Width} g.L.Width.WORD c.args.key.now c.args.reader.now.store c.find-finder.result _
          (found_none {s = g.S.Store} {l = g.L.Width} _ _ c.args.reader.now.store c.find-finder.result (ap (λ r. r.store) e.reader) e.finds);
    }

pub loop-value-preserved : goal.loop-value-preserved
loop-value-preserved g c =
    let inv = c.loop-value.invariant in
    let one = rw c.in-Some.is at c.in_ok-value.ensures.gives in
    let written = c.write_put.ensures in
    let next = found_more {s = g.S.Store} {l = g.L.Width} _ _ _ c.loop-value.finder c.next.new.self _ c.in-Some.value inv.put.found c.next.ensures.reads one in
    record {
      same = written.same_reader ∙ c.next.ensures.same_reader ∙ inv.same;
      key = written.key ∙ c.next.ensures.key ∙ inv.key;
      put = put_more {s = g.S.Store} {l = g.L.Width} g.L.Width.WORD c.args.key.now c.args.reader.now.store c.write_put.new.finder _ _ _ inv.put.spans c.in-Some.value
          (found_still {s = g.S.Store} {l = g.L.Width} _ _ _ c.next.new.self c.write_put.new.finder _ next written.reads written.key written.stays)
          (λ b is. inv.put.written b (c.next.ensures.reads.images b (written.reads.images b is)))
          (λ b is. (c.in_ok-write_put.ensures.writes b is).ok);
    }

pub returns-in_err-write_put-clause-writes : goal.returns-in_err-write_put-clause-writes
returns-in_err-write_put-clause-writes g c = λ b is.
    let here : g.S.Store.image c.write_put.new.finder.reader.now.store b = search rules in
    let p = err_from_is_err_and c.from_residual-in_err-write_put.result c.from_residual-in_err-write_put.ensures.1 in
    let inv = c.loop-value.invariant in
    let one = rw c.in-Some.is at c.in_ok-value.ensures.gives in
    let written = c.write_put.ensures in
    let next = found_more {s = g.S.Store} {l = g.L.Width} _ _ _ c.loop-value.finder c.next.new.self _ c.in-Some.value inv.put.found c.next.ensures.reads one in
    let found = found_still {s = g.S.Store} {l = g.L.Width} _ _ _ c.next.new.self c.write_put.new.finder _ next written.reads written.key written.stays in
    writes_prefix _ _ _ _ _ p.1
    (put_part {s = g.S.Store} {l = g.L.Width} g.L.Width.WORD c.args.key.now c.args.reader.now.store c.write_put.new.finder _ _ _ inv.put.spans c.in-Some.value b found here
    (inv.put.written b (c.next.ensures.reads.images b (written.reads.images b here))) (c.in_err-write_put.ensures.writes b here).err)
