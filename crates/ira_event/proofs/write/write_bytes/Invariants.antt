use Rattle.std.proofs.Common.{◌≡◌, ◌++◌, List, ℕ, length}
use Rattle.std.specs.Io.KnownBytes.{Appends}
use Rattle.ira_event.proofs.write.write_bytes.Given as goal

abbrev pub invariant-loop-rest : goal.invariant-loop-rest
invariant-loop-rest g l = record {
  front : (x : List ℕ) × (x ++ l.rest ≡ l.fn.bytes)
      × Appends (g.W.Sink.state l.fn.sink).taken (g.W.Sink.state l.sink).taken x;
  same : (g.W.Sink.state l.sink).failures ≡ (g.W.Sink.state l.fn.sink).failures;
}

abbrev pub decreases-loop-rest : goal.decreases-loop-rest
decreases-loop-rest g l = length l.rest
