use Rattle.cdb.proofs.Words.{PerformsIn, false, output_bytes, subst, sym, true, ◌∙◌, ◌≡◌}
use Rattle.cdb.specs.Handing.{machine_of}
use Rattle.cdb.specs.Reasons.{CanHaveNoFile, calls_made, left_reasons}
use Rattle.cdb.proofs.ReadReasons.{command_reason, handed_reason}
use Rattle.cdb_show.specs.Command.{asked_in, has_wide_words}
use Rattle.cdb.proofs.steps.perform.Goals.{then-is_wide, else-is_wide}
use Rattle.cdb.proofs.steps.perform.Goals as goal
use Rattle.cdb_system.specs.State.{given_of, standard_of, state_of}

pub returns-clause-does : goal.returns-clause-does
returns-clause-does g c = record {
  end = output_bytes c.if-is_wide.streams.output;
  answer = c.if-is_wide.performed.1;
  performs = elim c.if-is_wide.branch [
    | then-is_wide w ↦
        (let wide : true ≡ has_wide_words (asked_in c.args.request.command.now) = sym w.if-is_wide.true ∙ c.is_wide.ensures in
        rw w.system-is (rw w.names-is (rw w.streams-is (rw w.performed-is (subst (λ b. PerformsIn b (machine_of g.Y.File.Store g.Y.Made.Store g.Y.Stream.Feeds.feed g.Y.System g.Y.Names.File.RawFile) (given_of (asked_in c.args.request.command.now) c.args.request.lines.now.counts (standard_of g.Y.Input.Feeds.feed c.args.input)) (state_of c.args.system.now (g.Y.Names.Names.calls c.args.names.now) (output_bytes c.args.streams.now.output) (g.E.Sink.contents c.args.streams.now.errors)) (state_of w.perform_in-performed.new.system (g.Y.Names.Names.calls w.perform_in-performed.new.names) (output_bytes w.perform_in-performed.new.streams.output) (g.E.Sink.contents w.perform_in-performed.new.streams.errors)) w.perform_in-performed.result.0 w.perform_in-performed.result.1) wide w.perform_in-performed.ensures.performs)))))
    | else-is_wide w ↦
        (let narrow : false ≡ has_wide_words (asked_in c.args.request.command.now) = sym w.if-is_wide.false ∙ c.is_wide.ensures in
        rw w.system-is (rw w.names-is (rw w.streams-is (rw w.performed-is (subst (λ b. PerformsIn b (machine_of g.Y.File.Store g.Y.Made.Store g.Y.Stream.Feeds.feed g.Y.System g.Y.Names.File.RawFile) (given_of (asked_in c.args.request.command.now) c.args.request.lines.now.counts (standard_of g.Y.Input.Feeds.feed c.args.input)) (state_of c.args.system.now (g.Y.Names.Names.calls c.args.names.now) (output_bytes c.args.streams.now.output) (g.E.Sink.contents c.args.streams.now.errors)) (state_of w.perform_in-performed-else-is_wide.new.system (g.Y.Names.Names.calls w.perform_in-performed-else-is_wide.new.names) (output_bytes w.perform_in-performed-else-is_wide.new.streams.output) (g.E.Sink.contents w.perform_in-performed-else-is_wide.new.streams.errors)) w.perform_in-performed-else-is_wide.result.0 w.perform_in-performed-else-is_wide.result.1) narrow w.perform_in-performed-else-is_wide.ensures.performs)))))
  ];
  hands = c.handed_on.ensures.hands;
  reason = handed_reason (left_reasons (machine_of g.Y.File.Store g.Y.Made.Store g.Y.Stream.Feeds.feed g.Y.System g.Y.Names.File.RawFile) g.Y.Input.Feeds.feed (calls_made (g.Y.System.calls c.args.system.now) (g.Y.Names.Names.calls c.args.names.now)) (calls_made (g.Y.System.calls c.if-is_wide.system) (g.Y.Names.Names.calls c.if-is_wide.names)) c.if-is_wide.performed.0 (CanHaveNoFile (asked_in c.args.request.command.now))) _ _ _ c.if-is_wide.performed.1 c.handed_on.result c.handed_on.ensures.hands
      (elim c.if-is_wide.branch [
        | then-is_wide w ↦ (rw w.system-is (rw w.names-is (rw w.performed-is (command_reason (machine_of g.Y.File.Store g.Y.Made.Store g.Y.Stream.Feeds.feed g.Y.System g.Y.Names.File.RawFile) (standard_of g.Y.Input.Feeds.feed c.args.input) (state_of c.args.system.now (g.Y.Names.Names.calls c.args.names.now) (output_bytes c.args.streams.now.output) (g.E.Sink.contents c.args.streams.now.errors)) (state_of w.perform_in-performed.new.system (g.Y.Names.Names.calls w.perform_in-performed.new.names) (output_bytes w.perform_in-performed.new.streams.output) (g.E.Sink.contents w.perform_in-performed.new.streams.errors)) (CanHaveNoFile (asked_in c.args.request.command.now)) _ _ c.args.request.lines.now.counts (asked_in c.args.request.command.now) w.perform_in-performed.result.0 w.perform_in-performed.result.1 w.perform_in-performed.ensures.performs w.perform_in-performed.ensures.reason))))
        | else-is_wide w ↦ (rw w.system-is (rw w.names-is (rw w.performed-is (command_reason (machine_of g.Y.File.Store g.Y.Made.Store g.Y.Stream.Feeds.feed g.Y.System g.Y.Names.File.RawFile) (standard_of g.Y.Input.Feeds.feed c.args.input) (state_of c.args.system.now (g.Y.Names.Names.calls c.args.names.now) (output_bytes c.args.streams.now.output) (g.E.Sink.contents c.args.streams.now.errors)) (state_of w.perform_in-performed-else-is_wide.new.system (g.Y.Names.Names.calls w.perform_in-performed-else-is_wide.new.names) (output_bytes w.perform_in-performed-else-is_wide.new.streams.output) (g.E.Sink.contents w.perform_in-performed-else-is_wide.new.streams.errors)) (CanHaveNoFile (asked_in c.args.request.command.now)) _ _ c.args.request.lines.now.counts (asked_in c.args.request.command.now) w.perform_in-performed-else-is_wide.result.0 w.perform_in-performed-else-is_wide.result.1 w.perform_in-performed-else-is_wide.ensures.performs w.perform_in-performed-else-is_wide.ensures.reason))))
      ]);
}
