use Rattle.std.proofs.Common.{◌≡◌, ◌-◌, List, length}
use Rattle.ira_event.specs.Sink.{Takes}
use Rattle.ira_view_trail.specs.declared.trail_step.TrailStep.{TrailStep}
use Rattle.ira_view_trail.specs.StateTrail.{HasWalked}
use Rattle.ira_view_show.specs.EventsText.{here_text}
use Rattle.ira_view_show.specs.Showed.{OfPrintable}
use Rattle.ira_view_show.proofs.EventsTold.{IsTold}
use Rattle.ira_view_show.proofs.event_lines.write_lines.Given as goal

abbrev pub invariant-steps : goal.invariant-steps
invariant-steps g l = record {
  logs : l.trail.logs ≡ l.logs;
  cut : l.trail.cut ≡ l.cut;
  steps : List TrailStep;
  walked : HasWalked l.trail steps;
  count : l.number ≡ length steps;
  told : IsTold l.logs l.cut (here_text l.is_asked l.cut) l.columns l.fn.heading l.is_inside steps l.number l.page
      (g.W.Sink.state l.fn.sink) (g.W.Sink.state l.sink);
  took : OfPrintable (λ text. Takes text (g.W.Sink.state l.fn.sink) (g.W.Sink.state l.sink));
}

abbrev pub decreases-steps : goal.decreases-steps
decreases-steps g l = 25500001 - l.trail.given
