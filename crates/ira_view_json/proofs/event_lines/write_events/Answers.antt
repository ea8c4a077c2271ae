use Rattle.std.proofs.Common.{◌≡◌, ◌∷◌, ◌++◌, ◌∙◌, [], Err, arith, refl, rules, subst}
use Rattle.std.proofs.lemmas.List.{length_push}
use Rattle.ira_view_trail.proofs.Walked.{few_given, many_given}
use Rattle.ira_view_trail.specs.StateTrail.{TellsStates}
use Rattle.ira_view_trail.specs.Trail.{IsTrail}
use Rattle.ira_view_page.specs.declared.show_fault.ShowFault.TheVariants.{OutOfMemory}
use Rattle.ira_view_json.specs.EventValue.{AreEventValues}
use Rattle.ira_view_json.specs.View.{view}
use Rattle.ira_view_json.proofs.EventsGathered.{all_so_far, next_so_far, none_so_far}
use Rattle.ira_view_json.proofs.Gathering.{all_gathered, gathered_more, none_gathered}
use Rattle.ira_view_json.proofs.LinesWritten.{failed_then, more_taken, none_taken, none_wrote, wrote_then}
use Rattle.ira_view_json.proofs.event_lines.write_events.Goals as goal

pub returns-in-Err-Wrong-clause-wrote : goal.returns-in-Err-Wrong-clause-wrote
returns-in-Err-Wrong-clause-wrote g c = none_taken (g.W.Sink.state c.args.sink.now)

pub returns-in-Err-OutOfMemory-clause-wrote : goal.returns-in-Err-OutOfMemory-clause-wrote
returns-in-Err-OutOfMemory-clause-wrote g c = none_taken (g.W.Sink.state c.args.sink.now)

pub returns-in_err-clone-2-clause-wrote : goal.returns-in_err-clone-2-clause-wrote
returns-in_err-clone-2-clause-wrote g c =
    let r = c.from_residual-in_err-clone-2.result in
    let is : r ≡ Err OutOfMemory = search rules in
    none_wrote r (g.W.Sink.state c.args.sink.now) is

pub steps-init : goal.steps-init
steps-init g c = record {
  logs = c.in-Ok.ensures.logs;
  cut = c.in-Ok.ensures.cut;
  steps = [];
  walked = c.in-Ok.ensures.none_given;
  count = refl;
  values = [];
  told = none_so_far c.args.logs.now;
  gathered = rw c.new-lines.ensures (none_gathered [] (g.W.Sink.state c.args.sink.now));
  took = none_taken (g.W.Sink.state c.args.sink.now);
}

pub overflow_add-number : goal.overflow_add-number
overflow_add-number g c =
    omega (
      arith,
      c.steps.invariant.count,
      many_given _ _ c.steps.invariant.walked,
      few_given _ _ c.steps.invariant.walked,
    )

pub steps-smaller-in_ok-add-3 : goal.steps-smaller-in_ok-add-3
steps-smaller-in_ok-add-3 g c =
    let steps = c.steps.invariant.steps in
    let new = (rw c.in-Some.is at (c.in_ok-walked.ensures.step steps c.steps.invariant.walked)).0 in
    omega (
      arith,
      many_given _ _ new,
      many_given _ _ c.steps.invariant.walked,
      length_push steps c.in-Some.walked.step,
      few_given _ _ new,
    )

pub steps-preserved-in_ok-add-3 : goal.steps-preserved-in_ok-add-3
steps-preserved-in_ok-add-3 g c =
    let steps = c.steps.invariant.steps in
    let w = c.in-Some.walked in
    let found = rw c.in-Some.is at (c.in_ok-walked.ensures.step steps c.steps.invariant.walked) in
    record {
      logs = c.in_ok-walked.ensures.logs.logs ∙ c.steps.invariant.logs;
      cut = c.in_ok-walked.ensures.logs.cut ∙ c.steps.invariant.cut;
      steps = steps ++ w.step ∷ [];
      walked = found.0;
      count = omega (arith, c.steps.invariant.count, length_push steps w.step);
      values = c.steps.invariant.values ++ view c.in_ok-event_value.field-0 ∷ [];
      told = next_so_far c.args.logs.now steps c.steps.invariant.values c.steps.number w
          (view c.in_ok-event_value.field-0) c.steps.invariant.told c.steps.invariant.count
          (subst (λ logs. TellsStates logs w) c.steps.invariant.logs found.1) c.in_ok-event_value.ensures;
      gathered = gathered_more c.steps.invariant.gathered c.in_ok-add.ensures.gathered;
      took =
          more_taken (g.W.Sink.state c.args.sink.now) (g.W.Sink.state c.steps.sink) (g.W.Sink.state c.add.new.sink)
          c.steps.invariant.took c.in_ok-add.ensures.wrote;
    }

pub returns-in_err-add-clause-wrote : goal.returns-in_err-add-clause-wrote
returns-in_err-add-clause-wrote g c =
    let r = c.from_residual-in_err-add.result in
    let is : r ≡ Err c.in_err-add.field-0.0 = search rules in
    failed_then r c.in_err-add.field-0.0 (g.W.Sink.state c.args.sink.now) (g.W.Sink.state c.steps.sink)
    (g.W.Sink.state c.add.new.sink) is c.steps.invariant.took c.in_err-add.ensures.wrote

pub returns-clause-wrote : goal.returns-clause-wrote
returns-clause-wrote g c =
    wrote_then c.flush.result (g.W.Sink.state c.args.sink.now) (g.W.Sink.state c.steps.sink)
    (g.W.Sink.state c.flush.new.sink) c.steps.invariant.took c.flush.ensures.wrote

pub returns-clause-told : goal.returns-clause-told
returns-clause-told g c =
    let logs = c.args.logs.now in
    let cut = c.args.cut.now in
    let steps = c.steps.invariant.steps in
    let none = (rw c.in_default.is at (c.in_ok-walked.ensures.none steps c.steps.invariant.walked)).0 in
    let trail : IsTrail logs cut steps =
    subst (λ cut. IsTrail logs cut steps) c.steps.invariant.cut
    (subst (λ logs. IsTrail logs c.steps.trail.cut steps) c.steps.invariant.logs none) in
    let values = c.steps.invariant.values in
    all_gathered (AreEventValues logs cut) c.flush.result values c.steps.lines c.flush.new.self
    (g.W.Sink.state c.args.sink.now) (g.W.Sink.state c.steps.sink) (g.W.Sink.state c.flush.new.sink)
    (all_so_far logs cut steps values c.steps.invariant.told trail) c.steps.invariant.gathered c.flush.ensures.all
