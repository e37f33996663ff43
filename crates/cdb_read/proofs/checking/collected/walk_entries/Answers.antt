use Rattle.cdb_read.proofs.Words.{ap, arith, behind, common_steps, next_place, place_of, refl, rules, subst, sym, walk_ahead, ◌∙◌, ◌≤◌}
use Rattle.cdb_read.proofs.Checks.EnteredWalk.{EnteredSoFar, entered_none, entered_more, entered_all}
use Rattle.cdb_read.proofs.Bytes.PieceReads.{reads_more}
use Rattle.cdb_read.proofs.Walked.WalkedLengths.{reads_nothing, some_word}
use Rattle.cdb_read.proofs.checking.collected.walk_entries.Goals as goal

pub loop-lists-init : goal.loop-lists-init
loop-lists-init g c =
    let e = c.walk-records.ensures in
    record {
      same = refl;
      reads = reads_nothing {s = g.S.Store} _ _ (ap (λ r. r.store) e.reader);
      head = ap (λ r. r.head) e.reader;
      entered = rw e.reader (λ b is. entered_none g.L.Width.WORD b _ _ c.in_ok-lists.lists.items (e.walks b is) e.first c.in_ok-lists.ensures);
      many = c.in_ok-lists.ensures.many;
    }

pub loop-lists-preserved : goal.loop-lists-preserved
loop-lists-preserved g c =
    let w = g.L.Width.WORD in
    let inv = c.loop-lists.invariant in
    let one = rw c.in-Some.is at c.in_ok-pair.ensures.gives in
    let h = c.hash.ensures in
    record {
      same = h.same_reader ∙ c.next.ensures.same_reader ∙ inv.same;
      reads = reads_more (reads_more inv.reads c.next.ensures.reads) h.reads;
      head = h.head ∙ c.next.ensures.head ∙ inv.head;
      entered = λ b is.
          let was = h.reads.images b is in
          subst (λ t. EnteredSoFar w b (walk_ahead w b t) (next_place w t) c.add_entry.new.lists.items) (sym h.stays)
          (entered_more w (place_of w c.loop-lists.records) (place_of w c.next.new.self) b _ _ c.in-Some.pair c.in_ok-hash.hash c.loop-lists.lists.items c.add_entry.new.lists.items (some_word w g.met.L.Width.four_or_eight)
          (inv.entered b (c.next.ensures.reads.images b was)) (one.first b was) one.lies one.next
          (subst (λ n. behind c.in-Some.pair ≤ n) (sym (g.met.S.Store.image_size c.next.new.self.reader.now.store b was)) one.inside)
          (c.in_ok-hash.ensures.hash b is) c.in_ok-add_entry.ensures.more);
      many = c.add_entry.ensures.many;
    }

pub returns-clause-entries : goal.returns-clause-entries
returns-clause-entries g c = λ b is.
    let w = g.L.Width.WORD in
    let none = rw c.in_default.is at c.in_ok-pair.ensures.gives in
    let here : g.S.Store.image c.next.new.self.reader.now.store b = search rules in
    entered_all w b _ (place_of w c.loop-lists.records) c.loop-lists.lists.items (c.loop-lists.invariant.entered b (c.next.ensures.reads.images b here)) (none.none b here)

pub returns-clause-reads : goal.returns-clause-reads
returns-clause-reads g c = grind (arith, common_steps)
