use Rattle.cdb_form.proofs.Words.{Keeps, length, ◌+◌, ◌<◌, ◌≡◌, ◌≤◌, ◌⊎◌}
use Rattle.cdb_form.proofs.reading.some_bytes.Given as goal

-- nothing was read yet, and each call took a request and failed
abbrev pub invariant-loop : goal.invariant-loop
invariant-loop g l =
    record {
      kept : Keeps (g.R.Feeds.feed l.fn.reader) (g.R.Feeds.feed l.reader);
      asks : l.asks ≤ l.fn.asks;
      spent : l.fn.asks ≤ l.asks + l.counter;
      failed : 0 < l.counter → (g.R.Feeds.feed l.reader).failed;
      used : (g.R.Feeds.feed l.reader).failed ⊎ (l.fn.asks ≤ l.asks);
      room : length l.into ≡ length l.fn.into;
    }
