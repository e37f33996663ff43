use Rattle.cdb_form.proofs.Words.{AreBytes, Consumes, arith, common_steps, err_from_is_err_and, length, length-drop, length-take-le, rules, subst, sym, take, ◌+◌, ◌-◌, ◌∙◌, ◌≡◌}
use borrow.Rule.Slice.PartMut.{put_mid, same_len_mid}
use Rattle.cdb_form.proofs.Fed.FeedLemmas.{loses_these, consumes_kept, consumes_no_more}
use Rattle.cdb_form.proofs.Sources.AskingLemmas.{take_read, read_more, used_more, why_ended, why_on}
use Rattle.cdb_form.proofs.reading.all_bytes.Goals as goal

pub loop-done-preserved : goal.loop-done-preserved
loop-done-preserved g c =
    let done = c.loop-done.done in
    let n = c.in_ok-n.n in
    let xs = c.loop-done.into in
    let ys = c.some_bytes.new.into in
    let inv = c.loop-done.invariant in
    let into = put_mid done (length xs - done) xs ys in
    let front : take (done + n) into ≡ _ = take_read done (length xs - done) n xs ys inv.within c.in_ok-n.ensures.bound in
    let more = read_more _ _ _ (take done xs) ys done n inv.read inv.are (length-take-le done xs inv.within) c.in_ok-n.ensures.bytes c.in_ok-n.ensures.are c.in_ok-n.ensures.bound in
    let room : length ys ≡ length xs - done = c.some_bytes.auto.into ∙ length-take-le (length xs - done) _ (omega (arith, length-drop done xs)) in
    record {
      read = subst (Consumes _ _) (sym front) more.read;
      are = subst AreBytes (sym front) more.are;
      within = omega (arith, same_len_mid done (length xs - done) xs ys c.some_bytes.auto.into, inv.within, room, c.in_ok-n.ensures.bound);
      used = used_more _ _ done n _ _ _ _ inv.used c.in_ok-n.ensures.bytes c.in_ok-n.ensures.one (omega arith);
    }

pub returns-in_err-n-clause-loses : goal.returns-in_err-n-clause-loses
returns-in_err-n-clause-loses g c =
    loses_these _ _ _ _ (consumes_kept _ _ _ _ c.loop-done.invariant.read c.in_err-n.ensures.kept) (grind (arith, common_steps))

pub returns-in_err-n-clause-why : goal.returns-in_err-n-clause-why
returns-in_err-n-clause-why g c =
    let p = err_from_is_err_and c.from_residual.result c.from_residual.ensures.1 in
    rw (p.1, p.2) (why_on _ _ _ c.loop-done.done _ _ _ c.in_err-n.field-0.0 c.loop-done.invariant.used c.in_err-n.ensures.kept (omega arith) c.in_err-n.ensures.why)

pub returns-then-n-eq0-clause-why : goal.returns-then-n-eq0-clause-why
returns-then-n-eq0-clause-why g c = why_ended _ _ _ _

pub returns-then-n-eq0-clause-loses : goal.returns-then-n-eq0-clause-loses
returns-then-n-eq0-clause-loses g c =
    let n = c.in_ok-n.n in
    let none : n ≡ 0 = search rules in
    loses_these _ _ _ _ (consumes_no_more _ _ _ _ _ _ none c.loop-done.invariant.read c.in_ok-n.ensures.bytes) (grind (arith, common_steps))

pub loop-done-smaller : goal.loop-done-smaller
loop-done-smaller g c = omega arith
