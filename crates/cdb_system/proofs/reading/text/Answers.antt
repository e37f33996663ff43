use Rattle.std.proofs.Common.{ap, refl, option_map, string_bytes}
use Rattle.cdb_system.specs.State.{files_of, standard_of, state_of}
use Rattle.cdb_system.proofs.StreamsRead.{text_of_file, text_of_input}
use Rattle.cdb_system.proofs.reading.text.Goals as goal

pub returns-in_default-clause-performs : goal.returns-in_default-clause-performs
returns-in_default-clause-performs g c = λ named errors.
    text_of_input (files_of g.Y.File.Store g.Y.Made.Store g.Y.Stream.Feeds.feed g.Y.System) (state_of c.args.system.now named (g.O.Sink.contents c.args.output.now) errors) (state_of c.args.system.now named (g.O.Sink.contents c.write_text-input.new.output) errors)
    c.input_left.result c.write_text-input.result.1 _ (standard_of g.Y.Input.Feeds.feed c.args.input) g.L.Width.WORD _ c.write_text-input.result.0 (ap (option_map string_bytes) c.in_default.is) refl c.input_left.ensures c.write_text-input.ensures.writes

pub returns-in-Ok-clause-performs : goal.returns-in-Ok-clause-performs
returns-in-Ok-clause-performs g c = λ named errors.
    text_of_file (files_of g.Y.File.Store g.Y.Made.Store g.Y.Stream.Feeds.feed g.Y.System) (state_of c.args.system.now named (g.O.Sink.contents c.args.output.now) errors) (state_of _ named (g.O.Sink.contents c.write_text-file.new.output) errors)
    c.stream_left.result c.write_text-file.result.1 _ (standard_of g.Y.Input.Feeds.feed c.args.input) g.L.Width.WORD _ _ _ c.in-Ok.file c.write_text-file.result.0 (ap (option_map string_bytes) c.in-Some.is) c.as_str.ensures.value c.in-Ok.ensures.calls c.in-Ok.ensures.reads c.in-Ok.ensures.unread c.stream_left.ensures c.write_text-file.ensures.writes
