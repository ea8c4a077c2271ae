use Rattle.std.proofs.Common.{◌≡◌, ◌-◌, [], List, length}
use Rattle.json.specs.Json.{Json}
use Rattle.ira_event.specs.Sink.{Takes}
use Rattle.ira_view_trail.specs.declared.trail_step.TrailStep.{TrailStep}
use Rattle.ira_view_trail.specs.StateTrail.{HasWalked}
use Rattle.ira_view_json.specs.Line.{Gathers, OfLines}
use Rattle.ira_view_json.proofs.EventsGathered.{AreSoFar}
use Rattle.ira_view_json.proofs.event_lines.write_events.Given as goal

abbrev pub invariant-steps : goal.invariant-steps
invariant-steps g l = record {
  logs : l.trail.logs ≡ l.logs;
  cut : l.trail.cut ≡ l.cut;
  steps : List TrailStep;
  walked : HasWalked l.trail steps;
  count : l.number ≡ length steps;
  values : List Json;
  told : AreSoFar l.logs steps values;
  gathered : Gathers values [] l.lines (g.W.Sink.state l.fn.sink) (g.W.Sink.state l.sink);
  took : OfLines (λ text. Takes text (g.W.Sink.state l.fn.sink) (g.W.Sink.state l.sink));
}

abbrev pub decreases-steps : goal.decreases-steps
decreases-steps g l = 25500001 - l.trail.given
