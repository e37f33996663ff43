use Rattle.cdb.proofs.Databases.{failed_stays, run_kept}
use Rattle.cdb.proofs.Oracles.{run_is_foretold}
use Rattle.cdb.proofs.RunCreates.{run_is_created}
use Rattle.cdb.proofs.steps.run.Goals as goal

pub returns : goal.returns
returns g c =
    let did = c.answer-left.ensures in
    let flushed = c.flush_whole.ensures in
    let runs = run_kept g.Y.File.Store g.Y.Made.Store g.Y.Names.File.RawFile g.Y.Stream.Feeds.feed g.Y.System _ _ _ _ _ _ _ _ _ _ _ _ _ _ _ _ _ _ _ did.runs (failed_stays c.flush_whole.result c.answer-left.new.streams.errors.failed c.flush_whole.new.self.failed flushed.sound flushed.failed) flushed.bytes in
    record {
      answers = record { runs = runs; handed = did.handed };
      said = flushed.handed;
      foretold = run_is_foretold g.Y.File.Store g.Y.Made.Store g.Y.Names.File.RawFile g.Y.Stream.Feeds.feed g.Y.System _ _ _ _ _ _ _ _ c.args.streams.now.output c.answer-left.new.streams.output c.args.streams.now.errors c.flush_whole.new.self _ _ g.met.Y.File.Store.image_size did.handed flushed.handed runs;
      created = run_is_created g.Y.File.Store g.Y.Made.Store g.Y.Names.File.RawFile g.Y.Stream.Feeds.feed g.Y.System _ _ _ _ _ _ _ _ c.args.streams.now.output c.answer-left.new.streams.output c.args.streams.now.errors c.flush_whole.new.self _ _ did.handed flushed.handed runs;
    }
