use Rattle.std.proofs.Common.{◌++◌, length}
use Rattle.std.specs.List.{flat_map}
use Rattle.ira_event.specs.LogText.{record_text, end_text}
use Rattle.ira_event.proofs.Writing.{HasWritten}
use Rattle.ira_event.proofs.log_writer.write_records_and_end.Given as goal

abbrev pub invariant-loop-event : goal.invariant-loop-event
invariant-loop-event g l =
    let end = end_text (length l.fn.log.events) in
    HasWritten (flat_map record_text l.fn.log.events ++ end) (flat_map record_text l.event-iterator
    ++ end) (g.W.Sink.state l.fn.sink) (g.W.Sink.state l.sink)
