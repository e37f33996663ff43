use Rattle.cdb_read.proofs.DifferenceWords.{ap, appends_none, err_from_is_err_and, rules, same_appends, subst, sym, writes_prefix, ◌∙◌}
use Rattle.cdb_form.proofs.Bytes.WritingLemmas.{same_prefix}
use Rattle.cdb_read.proofs.PutValues.{new_removed, none_removed}
use Rattle.cdb_read.proofs.difference.key_changes.write_removal_of_new.Goals as goal

pub returns-in-Some-clause-writes : goal.returns-in-Some-clause-writes
returns-in-Some-clause-writes g c = λ d it.
    let theirs : g.T.Store.image c.next.new.self.reader.now.store d = search rules in
    let here = subst (λ s. g.T.Store.image s d) (ap (λ r. r.store) c.find-finder.ensures.reader) (c.next.ensures.reads.images d theirs) in
    let one = rw c.in-Some.is at c.in_ok-next.ensures.gives in
    let some = sym (c.find-finder.ensures.finds d here) ∙ one.first d theirs in
    record { ok = same_appends _ _ _ _ (none_removed g.L.Width.WORD d c.args.key.now _ _ some) (appends_none _); err = tt }

pub returns-in_err-write_removal-clause-writes : goal.returns-in_err-write_removal-clause-writes
returns-in_err-write_removal-clause-writes g c = λ d it.
    let theirs : g.T.Store.image c.next.new.self.reader.now.store d = search rules in
    let here = subst (λ s. g.T.Store.image s d) (ap (λ r. r.store) c.find-finder.ensures.reader) (c.next.ensures.reads.images d theirs) in
    let none = rw c.in_default.is at c.in_ok-next.ensures.gives in
    let p = err_from_is_err_and c.from_residual-in_err-write_removal.result c.from_residual-in_err-write_removal.ensures.1 in
    let new = sym (c.find-finder.ensures.finds d here) ∙ none.none d theirs in
    writes_prefix _ _ _ _ _ p.1 (same_prefix _ _ _ _ (new_removed g.L.Width.WORD d c.args.key.now new) c.in_err-write_removal.ensures.writes.err)

pub returns-clause-writes : goal.returns-clause-writes
returns-clause-writes g c = λ d it.
    let theirs : g.T.Store.image c.next.new.self.reader.now.store d = search rules in
    let here = subst (λ s. g.T.Store.image s d) (ap (λ r. r.store) c.find-finder.ensures.reader) (c.next.ensures.reads.images d theirs) in
    let none = rw c.in_default.is at c.in_ok-next.ensures.gives in
    let new = sym (c.find-finder.ensures.finds d here) ∙ none.none d theirs in
    record { ok = same_appends _ _ _ _ (new_removed g.L.Width.WORD d c.args.key.now new) c.in_ok-write_removal.ensures.writes.ok; err = tt }
