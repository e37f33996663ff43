use Rattle.cdb_read.proofs.DifferenceWords.{List, Walked, ap, behind, bytes_of, err_from_is_err_and, inl, inr, is_marked, lookup_of, next_place, reads_more, reads_none, reads_nothing, record_in, refl, rules, subst, sym, walk_ahead, walk_of, ℕ, ◌∙◌, ◌≡◌, ◌≤◌}
use Rattle.cdb_form.proofs.Bytes.WritingLemmas.{same_appends, same_prefix}
use Rattle.cdb_read.proofs.Walked.WalkedLengths.{some_word}
use Rattle.cdb_read.specs.Differing.{WalkHasKey, IsOneDamaged, LookHas, OtherLookHas, OwnLookHas, changes_at, changes_text}
use Rattle.cdb_read.proofs.PassStops.{both_since, passed_key}
use Rattle.cdb_read.proofs.PassSteps.{changed, changed_prefix, ended, so_far_none, stopped, unchanged}
use Rattle.cdb_read.proofs.difference.pass.write_pass.Goals as goal

pub loop-key-init : goal.loop-key-init
loop-key-init g c =
    let w = g.L.Width.WORD in
    let e = c.walk.ensures in
    let mark = c.bookmark-bookmark.ensures in
    record {
      reads = record { own = reads_nothing {s = g.S.Store} _ _ (search rules); other = reads_none g.T.Store c.args.other.now.store };
      walked = λ b is.
          let here : g.S.Store.image c.args.own.now.store b = search rules in
          sym (ap (λ (x : Walked). x.damage) (ap (walk_ahead w b) mark ∙ e.walks b here));
      passed = λ b d is it.
          let here : g.S.Store.image c.args.own.now.store b = search rules in
          so_far_none w c.args.kind b d _ _ _ (ap (walk_ahead w b) mark ∙ e.walks b here) (ap (next_place w) mark ∙ e.first);
    }

pub loop-key-preserved-in-Continue-branch-4 : goal.loop-key-preserved-in-Continue-branch-4
loop-key-preserved-in-Continue-branch-4 g c =
    let w = g.L.Width.WORD in
    let some = some_word w g.met.L.Width.four_or_eight in
    let inv = c.loop-key.invariant in
    let one = rw c.in-Some.is at c.in_ok-pair.ensures.gives in
    let pair = c.in-Some.pair in
    let first = c.is_change.ensures in
    let said = c.write_changes.ensures in
    record {
      reads = record { own = reads_more (reads_more (reads_more inv.reads.own c.next_record.ensures.reads) first.reads.own) said.reads.own; other = reads_more (reads_more inv.reads.other first.reads.other) said.reads.other };
      walked = λ b is.
          let mine = first.reads.own.images b (said.reads.own.images b is) in
          inv.walked b (c.next_record.ensures.reads.images b mine) ∙ ap (λ (x : Walked). x.damage) (one.first b mine);
      passed = λ b d is it.
          let second = said.reads.own.images b is in
          let beside = said.reads.other.images d it in
          let mine = first.reads.own.images b second in
          let earlier = c.next_record.ensures.reads.images b mine in
          let theirs = first.reads.other.images d beside in
          let key = bytes_of b pair.key in
          let test = sym c.if-branch.true ∙ c.in_ok-is_change.ensures.change b d second beside in
          let key_is = c.in_ok-is_change.ensures.key b second (cc) in
          changed w c.args.kind b d _ _ _ _ pair key (is_marked c.args.marks.now.words.items key) _ _ _ some
          (λ no. c.requires.agree b d (inv.reads.own.images b earlier) (inv.reads.other.images d theirs) key no)
          (inv.passed b d earlier theirs) (one.first b mine) one.lies one.next
          (subst (λ (n : ℕ). behind pair ≤ n) (sym (g.met.S.Store.image_size c.next_record.new.reader.store b mine)) one.inside) refl test
          (same_appends _ _ _ _ (ap (λ k. changes_text (changes_at c.args.kind w b d k)) (c.deref.ensures.value ∙ key_is)) (c.in_ok-write_changes.ensures.writes b d is it).ok);
    }

pub loop-key-preserved : goal.loop-key-preserved
loop-key-preserved g c =
    let w = g.L.Width.WORD in
    let some = some_word w g.met.L.Width.four_or_eight in
    let inv = c.loop-key.invariant in
    let one = rw c.in-Some.is at c.in_ok-pair.ensures.gives in
    let pair = c.in-Some.pair in
    let first = c.is_change.ensures in
    record {
      reads = record { own = reads_more (reads_more inv.reads.own c.next_record.ensures.reads) first.reads.own; other = reads_more inv.reads.other first.reads.other };
      walked = λ b is.
          let mine = first.reads.own.images b is in
          inv.walked b (c.next_record.ensures.reads.images b mine) ∙ ap (λ (x : Walked). x.damage) (one.first b mine);
      passed = λ b d is it.
          let mine = first.reads.own.images b is in
          let earlier = c.next_record.ensures.reads.images b mine in
          let theirs = first.reads.other.images d it in
          let key = bytes_of b pair.key in
          let test = sym c.if-branch.false ∙ c.in_ok-is_change.ensures.change b d is it in
          unchanged w c.args.kind b d _ _ _ _ pair key (is_marked c.args.marks.now.words.items key) _ _ (g.W.Sink.contents c.args.w.now) some
          (λ no. c.requires.agree b d (inv.reads.own.images b earlier) (inv.reads.other.images d theirs) key no)
          (inv.passed b d earlier theirs) (one.first b mine) one.lies one.next
          (subst (λ (n : ℕ). behind pair ≤ n) (sym (g.met.S.Store.image_size c.next_record.new.reader.store b mine)) one.inside) refl test;
    }

pub returns-in_err-pair-clause-front : goal.returns-in_err-pair-clause-front
returns-in_err-pair-clause-front g c =
    let p = err_from_is_err_and c.from_residual.result c.from_residual.ensures.1 in
    let inv = c.loop-key.invariant in
    rw p.1
    (λ b d is it.
    let mine : g.S.Store.image c.next_record.new.reader.store b = search rules in
    let theirs : g.T.Store.image c.loop-key.other.store d = search rules in
    stopped g.L.Width.WORD c.args.kind b d _ _ _ _ (inv.passed b d (c.next_record.ensures.reads.images b mine) theirs))

pub returns-in_err-is_change-clause-front : goal.returns-in_err-is_change-clause-front
returns-in_err-is_change-clause-front g c =
    let p = err_from_is_err_and c.from_residual-in_err-is_change.result c.from_residual-in_err-is_change.ensures.1 in
    let inv = c.loop-key.invariant in
    let first = c.is_change.ensures in
    rw p.1
    (λ b d is it.
    let mine : g.S.Store.image c.is_change.new.own.store b = search rules in
    let theirs : g.T.Store.image c.is_change.new.other.store d = search rules in
    stopped g.L.Width.WORD c.args.kind b d _ _ _ _ (inv.passed b d (c.next_record.ensures.reads.images b (first.reads.own.images b mine)) (first.reads.other.images d theirs)))

pub returns-in_err-is_change-clause-fails : goal.returns-in_err-is_change-clause-fails
returns-in_err-is_change-clause-fails g c =
    let p = err_from_is_err_and c.from_residual-in_err-is_change.result c.from_residual-in_err-is_change.ensures.1 in
    let w = g.L.Width.WORD in
    let inv = c.loop-key.invariant in
    let one = rw c.in-Some.is at c.in_ok-pair.ensures.gives in
    let pair = c.in-Some.pair in
    let first = c.is_change.ensures in
    let before = reads_more inv.reads.own c.next_record.ensures.reads in
    let own = c.is_change.new.own.store in
    let other = c.is_change.new.other.store in
    let has : (b d : List ℕ) → g.S.Store.image c.is_change.new.own.store b → g.T.Store.image c.is_change.new.other.store d → WalkHasKey (bytes_of b pair.key) (walk_of w b).records =
    λ b d is it.
    let mine = first.reads.own.images b is in
    let earlier = c.next_record.ensures.reads.images b mine in
    let listed = (inv.passed b d earlier (first.reads.other.images d it)).listed in
    passed_key w b listed.done _ _ (record_in b pair) listed.all (one.first b mine) in
    rw (p.1, p.2)
    (both_since g.S.Store g.T.Store c.args.own.now.store c.next_record.new.reader.store own c.args.other.now.store c.loop-key.other.store other
    (OwnLookHas w g.S.Store own pair.key) (IsOneDamaged w g.S.Store g.T.Store own other) (OtherLookHas w g.S.Store g.T.Store own other pair.key) (IsOneDamaged w g.T.Store g.S.Store other own) _ _
    c.in_err-is_change.field-0.0 before.failures inv.reads.other.failures
    (λ damage found b d is it. inr (bytes_of b pair.key, inl (has b d is it), found b is))
    (λ damage found d b it is. inr (bytes_of b pair.key, inr (has b d is it), found b d is it))
    (λ no. absurd no)
    c.in_err-is_change.ensures.fails)

pub returns-in_err-write_changes-clause-fails : goal.returns-in_err-write_changes-clause-fails
returns-in_err-write_changes-clause-fails g c =
    let p = err_from_is_err_and c.from_residual-in_err-write_changes.result c.from_residual-in_err-write_changes.ensures.1 in
    let w = g.L.Width.WORD in
    let inv = c.loop-key.invariant in
    let one = rw c.in-Some.is at c.in_ok-pair.ensures.gives in
    let pair = c.in-Some.pair in
    let first = c.is_change.ensures in
    let said = c.write_changes.ensures in
    let before = reads_more (reads_more inv.reads.own c.next_record.ensures.reads) first.reads.own in
    let beside = reads_more inv.reads.other first.reads.other in
    let own = c.write_changes.new.own.store in
    let other = c.write_changes.new.other.store in
    let key_is : (b : List ℕ) → g.S.Store.image c.write_changes.new.own.store b → c.deref.result.now ≡ bytes_of b pair.key =
    λ b is. c.deref.ensures.value ∙ c.in_ok-is_change.ensures.key b (said.reads.own.images b is) (cc) in
    let has : (b d : List ℕ) → g.S.Store.image c.write_changes.new.own.store b → g.T.Store.image c.write_changes.new.other.store d → WalkHasKey (bytes_of b pair.key) (walk_of w b).records =
    λ b d is it.
    let mine = first.reads.own.images b (said.reads.own.images b is) in
    let earlier = c.next_record.ensures.reads.images b mine in
    let listed = (inv.passed b d earlier (first.reads.other.images d (said.reads.other.images d it))).listed in
    passed_key w b listed.done _ _ (record_in b pair) listed.all (one.first b mine) in
    rw (p.1, p.2)
    (both_since g.S.Store g.T.Store c.args.own.now.store c.is_change.new.own.store own c.args.other.now.store c.is_change.new.other.store other
    (LookHas w g.S.Store own c.deref.result.now) (IsOneDamaged w g.S.Store g.T.Store own other) (LookHas w g.T.Store other c.deref.result.now) (IsOneDamaged w g.T.Store g.S.Store other own) _ _
    c.in_err-write_changes.field-0.0 before.failures beside.failures
    (λ damage found b d is it. inr (bytes_of b pair.key, inl (has b d is it), ap (λ k. (lookup_of w b k).damage) (sym (key_is b is)) ∙ found b is))
    (λ damage found d b it is. inr (bytes_of b pair.key, inr (has b d is it), ap (λ k. (lookup_of w d k).damage) (sym (key_is b is)) ∙ found d it))
    (λ failed. failed)
    c.in_err-write_changes.ensures.fails)

pub returns-in_err-write_changes-clause-front : goal.returns-in_err-write_changes-clause-front
returns-in_err-write_changes-clause-front g c =
    let p = err_from_is_err_and c.from_residual-in_err-write_changes.result c.from_residual-in_err-write_changes.ensures.1 in
    let w = g.L.Width.WORD in
    let some = some_word w g.met.L.Width.four_or_eight in
    let inv = c.loop-key.invariant in
    let one = rw c.in-Some.is at c.in_ok-pair.ensures.gives in
    let pair = c.in-Some.pair in
    let first = c.is_change.ensures in
    let said = c.write_changes.ensures in
    rw p.1
    (λ b d is it.
    let here : g.S.Store.image c.write_changes.new.own.store b = search rules in
    let theirs : g.T.Store.image c.write_changes.new.other.store d = search rules in
    let second = said.reads.own.images b here in
    let beside = said.reads.other.images d theirs in
    let mine = first.reads.own.images b second in
    let earlier = c.next_record.ensures.reads.images b mine in
    let before = first.reads.other.images d beside in
    let key = bytes_of b pair.key in
    let test = sym c.if-branch.true ∙ c.in_ok-is_change.ensures.change b d second beside in
    let key_is = c.in_ok-is_change.ensures.key b second (cc) in
    changed_prefix w c.args.kind b d _ _ _ _ pair key (is_marked c.args.marks.now.words.items key) _ _ _ some
    (λ no. c.requires.agree b d (inv.reads.own.images b earlier) (inv.reads.other.images d before) key no)
    (inv.passed b d earlier before) (one.first b mine) one.lies one.next
    (subst (λ (n : ℕ). behind pair ≤ n) (sym (g.met.S.Store.image_size c.next_record.new.reader.store b mine)) one.inside) refl test
    (same_prefix _ _ _ _ (ap (λ k. changes_text (changes_at c.args.kind w b d k)) (c.deref.ensures.value ∙ key_is)) (c.in_err-write_changes.ensures.writes b d here theirs).err))

pub returns-clause-ok : goal.returns-clause-ok
returns-clause-ok g c = λ b d is it.
    let inv = c.loop-key.invariant in
    let none = rw c.in_default.is at c.in_ok-pair.ensures.gives in
    let mine : g.S.Store.image c.next_record.new.reader.store b = search rules in
    let theirs : g.T.Store.image c.loop-key.other.store d = search rules in
    ended g.L.Width.WORD c.args.kind b d _ _ _ _ (inv.passed b d (c.next_record.ensures.reads.images b mine) theirs) (none b mine)
