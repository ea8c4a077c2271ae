use Rattle.std.proofs.Common.{refl}
use Rattle.ira_view_page.specs.declared.evidence.Evidence.TheVariants.{Faulty}
use Rattle.ira_view_explain.proofs.explain.explain_stopped.Goals as goal

pub returns-clause-told : goal.returns-clause-told
returns-clause-told g c = record {
  stopped = c.in-Some.found;
  is_stopped = rw c.in-Some.is at c.in_ok-found.ensures;
  one = Faulty c.in_ok-event.event;
  told_is = rw (c.in_ok-explanation.ensures.evidence, c.in_ok-push.ensures.items, c.new-evidence.ensures.items) refl;
  one_is = record {
    event = c.in_ok-event.event;
    is_event = refl;
    file_is = c.in_ok-event.ensures.0;
    at_is = rw c.place.ensures.value at c.in_ok-event.ensures.1;
    event_is = c.in_ok-event.ensures.2;
  };
  state_is = refl;
}
