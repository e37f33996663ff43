use Rattle.cdb_read.specs.Views.Finder.{left_in}
use Rattle.cdb_read.specs.Views.Reads.{CopyingFails}
use Rattle.cdb_read.specs.Lookup.{with_span}
use Rattle.std.proofs.Common.{rules, ap, ◌∙◌, refl}
use Rattle.std.proofs.lemmas.Result.{err_from_is_err_and}
use Rattle.cdb_form.proofs.Bytes.WritingLemmas.{writes_prefix}
use Rattle.cdb_store.proofs.Reading.{reads_more}
use Rattle.cdb_files.proofs.Asking.{asked_none, asked_more, asked_all, asked_prefix, copied_prefix, finds_within, finder_fails, reads_none, same_left}
use Rattle.cdb_files.proofs.examples.read.write_values.Goals as goal

pub loop-span-init : goal.loop-span-init
loop-span-init g c =
    let e = c.find-finder.ensures in
    record {
      same = refl;
      key = e.key;
      reads = rw e.reader (reads_none {s = g.S.Store} c.args.reader.now.store);
      asked = rw e.reader (asked_none g.L.Width.WORD c.args.key.now (g.S.Store.image c.args.reader.now.store) _ _ e.finds);
    }

pub loop-span-preserved : goal.loop-span-preserved
loop-span-preserved g c =
    let inv = c.loop-span.invariant in
    let one = rw c.in-Some.is at c.in_ok-span.ensures.gives in
    let copy = c.copy.ensures in
    record {
      same = copy.same_reader ∙ c.next.ensures.same_reader ∙ inv.same;
      key = copy.key ∙ c.next.ensures.key ∙ inv.key;
      reads = reads_more (reads_more inv.reads c.next.ensures.reads) copy.reads;
      asked = asked_more g.L.Width.WORD c.args.key.now _ _ _ _ _ _ _ _ c.in-Some.span inv.asked (λ b is. c.next.ensures.reads.images b (copy.reads.images b is))
          (λ b is. one.first b (copy.reads.images b is) ∙ ap (with_span c.in-Some.span) (same_left {s = g.S.Store} {l = g.L.Width} g.L.Width.WORD b c.next.new.self c.copy.new.self copy.key copy.stays))
          (λ b is. (c.in_ok-copy.ensures.copies b is).ok);
    }

pub returns-in_err-span-clause-sound : goal.returns-in_err-span-clause-sound
returns-in_err-span-clause-sound g c = λ rs are room file b is.
    let p = err_from_is_err_and c.from_residual.result c.from_residual.ensures.1 in
    let inv = c.loop-span.invariant in
    let w = g.L.Width.WORD in
    let here : g.S.Store.image c.next.new.self.reader.now.store b = search rules in
    let was = c.next.ensures.reads.images b here in
    let fails : CopyingFails g.S.Store c.args.reader.now.store c.next.new.self.reader.now.store c.in_err-span.field-0.0 =
    finder_fails {s = g.S.Store} {l = g.L.Width} w c.args.key.now rs _ _ _ c.args.reader.now.store c.loop-span.finder c.next.new.self b c.in_err-span.field-0.0 inv.asked inv.reads was here c.in_err-span.ensures.fails (file.each b (inv.asked.images b was))
    (finds_within w g.L.Width.TOP g.L.Width.GREATEST rs c.args.key.now g.met.L.Width.four_or_eight g.met.L.Width.top_is g.met.L.Width.greatest_fits.0 are room) in
    rw (p.1, p.2) (search rules)

pub returns-clause-values : goal.returns-clause-values
returns-clause-values g c = λ rs are room file b is.
    let inv = c.loop-span.invariant in
    let w = g.L.Width.WORD in
    let none = rw c.in_default.is at c.in_ok-span.ensures.gives in
    let here : g.S.Store.image c.next.new.self.reader.now.store b = search rules in
    let was = c.next.ensures.reads.images b here in
    let all = asked_all w c.args.key.now rs _ _ (λ x. left_in w x c.loop-span.finder) _ _ b inv.asked was (none.none b here) (file.each b (inv.asked.images b was))
    (finds_within w g.L.Width.TOP g.L.Width.GREATEST rs c.args.key.now g.met.L.Width.four_or_eight g.met.L.Width.top_is g.met.L.Width.greatest_fits.0 are room) in
    record { ok = all; err = tt }

pub returns-in_err-span-clause-values : goal.returns-in_err-span-clause-values
returns-in_err-span-clause-values g c = λ rs are room file b is.
    let p = err_from_is_err_and c.from_residual.result c.from_residual.ensures.1 in
    let inv = c.loop-span.invariant in
    let w = g.L.Width.WORD in
    let here : g.S.Store.image c.next.new.self.reader.now.store b = search rules in
    let was = c.next.ensures.reads.images b here in
    writes_prefix _ _ _ _ _ p.1
    (asked_prefix w c.args.key.now rs _ _ (λ x. left_in w x c.loop-span.finder) _ _ b inv.asked was (file.each b (inv.asked.images b was))
    (finds_within w g.L.Width.TOP g.L.Width.GREATEST rs c.args.key.now g.met.L.Width.four_or_eight g.met.L.Width.top_is g.met.L.Width.greatest_fits.0 are room))

pub returns-in_err-copy-clause-values : goal.returns-in_err-copy-clause-values
returns-in_err-copy-clause-values g c = λ rs are room file b is.
    let p = err_from_is_err_and c.from_residual-in_err-copy.result c.from_residual-in_err-copy.ensures.1 in
    let inv = c.loop-span.invariant in
    let w = g.L.Width.WORD in
    let here : g.S.Store.image c.copy.new.self.reader.now.store b = search rules in
    let mid = c.copy.ensures.reads.images b here in
    let was = c.next.ensures.reads.images b mid in
    let one = rw c.in-Some.is at c.in_ok-span.ensures.gives in
    writes_prefix _ _ _ _ _ p.1
    (copied_prefix w c.args.key.now rs _ _ (λ x. left_in w x c.loop-span.finder) (λ x. left_in w x c.next.new.self) _ _ _ b c.in-Some.span inv.asked was (one.first b mid) (c.in_err-copy.ensures.copies b here).err (file.each b (inv.asked.images b was))
    (finds_within w g.L.Width.TOP g.L.Width.GREATEST rs c.args.key.now g.met.L.Width.four_or_eight g.met.L.Width.top_is g.met.L.Width.greatest_fits.0 are room))
