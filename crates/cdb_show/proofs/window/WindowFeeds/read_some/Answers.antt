use Rattle.cdb_show.proofs.Words.{IfOk, arith, common_steps, feed_of, length, subst, sym, ◌<◌, ◌≡◌}
use Rattle.cdb_form.specs.Views.Feed.{IsAtEnd}
use Rattle.cdb_show.proofs.window.WindowFeeds.read_some.Goals.{in-Ok, in-Err, else-self-2-via-else-self-2, else-self-2-via-then-self-2+in-Ok-1}
use Rattle.cdb_show.proofs.window.WindowFeeds.read_some.Goals as goal

pub returns-then-self-clause-end : goal.returns-then-self-clause-end
returns-then-self-clause-end g c = elim c.match-read_past.branch [
  | in-Ok w ↦ subst (λ r. IfOk r (λ n. n ≡ 0 → 0 < length c.args.into.now → IsAtEnd (feed_of g.F.Feeds.feed c.read_past.new.self))) (sym w.result-is) w.in-Ok.ensures.end
  | in-Err w ↦ subst (λ r. IfOk r (λ n. n ≡ 0 → 0 < length c.args.into.now → IsAtEnd (feed_of g.F.Feeds.feed c.read_past.new.self))) (sym w.result-is) tt
]

pub returns-then-self-3-clause-end : goal.returns-then-self-3-clause-end
returns-then-self-3-clause-end g c = elim c.else-self-2.branch [
  | else-self-2-via-else-self-2 w ↦ absurd (w.if-self-2.false (subst (λ s. s.start ≡ s.end) w.self-is c.if-self-3.true))
  | else-self-2-via-then-self-2+in-Ok-1 w ↦
      let fills : (w.refill.new.self.start ≡ w.refill.new.self.end → IsAtEnd (feed_of g.F.Feeds.feed w.refill.new.self)) = grind (arith, common_steps) in
      let at = subst (λ s. IsAtEnd (feed_of g.F.Feeds.feed s)) (sym w.self-is) (fills (subst (λ s. s.start ≡ s.end) w.self-is c.if-self-3.true)) in
      λ none some. at
]
