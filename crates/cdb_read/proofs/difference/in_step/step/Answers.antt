use Rattle.cdb_read.proofs.DifferenceWords.{reads_more, reads_none}
use Rattle.cdb_read.proofs.Steps.{both_same, other_marked, own_marked}
use Rattle.cdb_read.proofs.difference.in_step.step.Goals as goal

pub returns-in-Same-clause-in_step : goal.returns-in-Same-clause-in_step
returns-in-Same-clause-in_step g c =
    let advance = c.advance.ensures in
    let one = rw c.in-Some.is at c.in_ok-mine.ensures.gives in
    let two = rw c.in-Some-2.is at c.in_ok-theirs.ensures.gives in
    both_same g.L.Width.WORD g.S.Store g.T.Store _ _ _ _ c.args.marks.now.words.items c.args.marks.now.words.items c.args.at.now
    (reads_more c.next_record.ensures.reads advance.reads.own) (reads_more c.next_other.ensures.reads advance.reads.other) (λ hash set. set) c.requires.in_step
    c.next_record.new.bookmark c.next_other.new.bookmark c.in-Some.mine c.in-Some-2.theirs
    (λ b is. one.first b (advance.reads.own.images b is)) (λ d it. two.first d (advance.reads.other.images d it))
    (λ b d is it. c.in_ok-advance.ensures.same b d is it c.in-Same.is)

pub returns-in_ok-mark-in-Own-clause-in_step : goal.returns-in_ok-mark-in-Own-clause-in_step
returns-in_ok-mark-in-Own-clause-in_step g c =
    let advance = c.advance.ensures in
    let one = rw c.in-Some.is at c.in_ok-mine.ensures.gives in
    let reads = c.mark.ensures.reads in
    own_marked g.L.Width.WORD g.S.Store g.T.Store _ _ _ _ c.args.marks.now.words.items c.mark.new.marks.words.items c.args.at.now
    (reads_more (reads_more c.next_record.ensures.reads advance.reads.own) reads) (reads_more c.next_other.ensures.reads advance.reads.other) c.mark.ensures.grows c.requires.in_step
    c.next_record.new.bookmark c.in-Some.mine
    (λ b is. one.first b (advance.reads.own.images b (reads.images b is))) (λ b is. c.in_ok-mark-in-Own.ensures.sets b is)

pub returns-in_ok-mark_other-in-Other-clause-in_step : goal.returns-in_ok-mark_other-in-Other-clause-in_step
returns-in_ok-mark_other-in-Other-clause-in_step g c =
    let advance = c.advance.ensures in
    let two = rw c.in-Some-2.is at c.in_ok-theirs.ensures.gives in
    let reads = c.mark_other.ensures.reads in
    other_marked g.L.Width.WORD g.S.Store g.T.Store _ _ _ _ c.args.marks.now.words.items c.mark_other.new.marks.words.items c.args.at.now
    (reads_more c.next_record.ensures.reads advance.reads.own) (reads_more (reads_more c.next_other.ensures.reads advance.reads.other) reads) c.mark_other.ensures.grows c.requires.in_step
    c.next_other.new.bookmark c.in-Some-2.theirs
    (λ d it. two.first d (advance.reads.other.images d (reads.images d it))) (λ d it. c.in_ok-mark_other-in-Other.ensures.sets d it)

pub returns-in_ok-mark_other-in-Each-clause-in_step : goal.returns-in_ok-mark_other-in-Each-clause-in_step
returns-in_ok-mark_other-in-Each-clause-in_step g c =
    let advance = c.advance.ensures in
    let one = rw c.in-Some.is at c.in_ok-mine.ensures.gives in
    let two = rw c.in-Some-2.is at c.in_ok-theirs.ensures.gives in
    let own = c.mark-in-Each.ensures in
    let other = c.mark_other-in-Each.ensures in
    let first =
    own_marked g.L.Width.WORD g.S.Store g.T.Store _ _ _ _ c.args.marks.now.words.items c.mark-in-Each.new.marks.words.items c.args.at.now
    (reads_more (reads_more c.next_record.ensures.reads advance.reads.own) own.reads) (reads_more c.next_other.ensures.reads advance.reads.other) own.grows c.requires.in_step
    c.next_record.new.bookmark c.in-Some.mine
    (λ b is. one.first b (advance.reads.own.images b (own.reads.images b is))) (λ b is. c.in_ok-mark-in-Each.ensures.sets b is) in
    other_marked g.L.Width.WORD g.S.Store g.T.Store c.mark-in-Each.new.reader.store c.mark-in-Each.new.reader.store _ _ c.mark-in-Each.new.marks.words.items c.mark_other-in-Each.new.marks.words.items _
    (reads_none g.S.Store c.mark-in-Each.new.reader.store) other.reads other.grows first
    c.next_other.new.bookmark c.in-Some-2.theirs
    (λ d it. two.first d (advance.reads.other.images d (other.reads.images d it))) (λ d it. c.in_ok-mark_other-in-Each.ensures.sets d it)
