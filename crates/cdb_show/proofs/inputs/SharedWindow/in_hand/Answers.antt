use Rattle.cdb_show.proofs.Words.{Consumes, [], feed_of, nothing_taken, shared_feed, subst, sym}
use Rattle.cdb_show.proofs.inputs.SharedWindow.in_hand.Goals as goal

pub returns-in-InHand-clause-kept : goal.returns-in-InHand-clause-kept
returns-in-InHand-clause-kept g c =
    let feed = g.I.Feeds.feed in
    let after = feed_of feed c.in-InHand.window in
    subst (λ s. Consumes (shared_feed feed s) after []) (sym c.in-InHand.is) (nothing_taken after)
