use Rattle.std.proofs.Common.{◌≡◌, length}
use Rattle.std.specs.Prelude.{slice_get}
use Rattle.ira_order.specs.Matching.{got, sent}
use Rattle.ira_view_explain.proofs.stopped.next_sent.Given as goal

abbrev pub invariant-loop-event : goal.invariant-loop-event
invariant-loop-event g l =
    slice_get (sent l.writer.events) (length (got l.reader.events)) ≡ slice_get (sent l.event-iterator) (length (got l.receipts))
