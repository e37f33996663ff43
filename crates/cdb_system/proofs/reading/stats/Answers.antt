use Rattle.std.proofs.Common.{ap, refl, option_map, string_bytes}
use Rattle.cdb_system.specs.State.{files_of, standard_of, state_of}
use Rattle.cdb_system.specs.Reading.{TellsStore}
use Rattle.cdb_system.proofs.StreamsRead.{on_input_read, on_stream_read}
use Rattle.cdb_system.proofs.reading.stats.Goals as goal

pub returns-in_default-clause-performs : goal.returns-in_default-clause-performs
returns-in_default-clause-performs g c = λ named errors.
    on_input_read (files_of g.Y.File.Store g.Y.Made.Store g.Y.Stream.Feeds.feed g.Y.System) (state_of c.args.system.now named (g.O.Sink.contents c.args.output.now) errors) (state_of c.args.system.now named (g.O.Sink.contents c.stats_of_stream-input.new.output) errors)
    c.input_left.result c.stats_of_stream-input.result.1 _ (standard_of g.Y.Input.Feeds.feed c.args.input) _ c.stats_of_stream-input.result.0 (TellsStore g.L.Width.WORD (g.O.Sink.contents c.args.output.now) (g.O.Sink.contents c.stats_of_stream-input.new.output) c.stats_of_stream-input.result.1 g.Y.File.Store) _ (ap (option_map string_bytes) c.in_default.is) refl c.input_left.ensures c.stats_of_stream-input.ensures.takes

pub returns-in-Ok-clause-performs : goal.returns-in-Ok-clause-performs
returns-in-Ok-clause-performs g c = λ named errors.
    on_stream_read (files_of g.Y.File.Store g.Y.Made.Store g.Y.Stream.Feeds.feed g.Y.System) (state_of c.args.system.now named (g.O.Sink.contents c.args.output.now) errors) (state_of _ named (g.O.Sink.contents c.stats_of_stream-file.new.output) errors)
    c.stream_left.result c.stats_of_stream-file.result.1 _ (standard_of g.Y.Input.Feeds.feed c.args.input) _ _ _ _ _ c.in-Ok.file c.stats_of_stream-file.result.0 (TellsStore g.L.Width.WORD (g.O.Sink.contents c.args.output.now) (g.O.Sink.contents c.stats_of_stream-file.new.output) c.stats_of_stream-file.result.1 g.Y.File.Store) _ (ap (option_map string_bytes) c.in-Some.is) c.as_str.ensures.value c.as_str-in-Yes.ensures.value c.in-Yes.ensures.calls c.in-Ok.ensures.calls c.in-Ok.ensures.reads c.in-Ok.ensures.unread c.stream_left.ensures c.stats_of_stream-file.ensures.takes
