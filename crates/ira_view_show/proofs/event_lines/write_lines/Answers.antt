use Rattle.std.proofs.Common.{◌≡◌, ◌∷◌, ◌++◌, ◌+◌, ◌∙◌, [], Err, arith, refl, rules, subst}
use Rattle.std.proofs.lemmas.List.{length_push}
use Rattle.ira_view_trail.proofs.Walked.{few_given, many_given}
use Rattle.ira_view_trail.specs.StateTrail.{TellsStates}
use Rattle.ira_view_trail.specs.Trail.{IsTrail}
use Rattle.ira_view_show.specs.EventLine.{event_line_text}
use Rattle.ira_view_show.specs.EventsText.{IsEventLine, here_text}
use Rattle.ira_view_show.proofs.EventsTold.{all_told, none_printed, none_told, ok_so, printed_block, step_told}
use Rattle.ira_view_show.proofs.Printing.{failed_then, more_taken, none_taken, showed_then}
use Rattle.ira_view_show.proofs.event_lines.write_lines.Goals as goal

pub steps-init : goal.steps-init
steps-init g c = record {
  logs = c.in-Ok.ensures.logs;
  cut = c.in-Ok.ensures.cut;
  steps = [];
  walked = c.in-Ok.ensures.none_given;
  count = refl;
  told = record {
    text = [];
    told = none_told c.args.logs.now c.args.cut.now (here_text c.args.is_asked c.args.cut.now) c.of-columns.result;
    printed = none_printed _ (g.W.Sink.state c.args.sink.now);
  };
  took = none_taken (g.W.Sink.state c.args.sink.now);
}

pub overflow_add-number : goal.overflow_add-number
overflow_add-number g c =
    omega (
      arith,
      c.steps.invariant.count,
      many_given _ _ c.steps.invariant.walked,
      few_given _ _ c.steps.invariant.walked,
    )

pub steps-smaller : goal.steps-smaller
steps-smaller g c =
    let steps = c.steps.invariant.steps in
    let new = (rw c.in-Some.is at (c.in_ok-walked.ensures.step steps c.steps.invariant.walked)).0 in
    omega (
      arith,
      many_given _ _ new,
      many_given _ _ c.steps.invariant.walked,
      length_push steps c.in-Some.walked.step,
      few_given _ _ new,
    )

pub steps-preserved : goal.steps-preserved
steps-preserved g c =
    let logs = c.args.logs.now in
    let cut = c.args.cut.now in
    let here = here_text c.args.is_asked cut in
    let columns = c.of-columns.result in
    let steps = c.steps.invariant.steps in
    let w = c.in-Some.walked in
    let found = rw c.in-Some.is at (c.in_ok-walked.ensures.step steps c.steps.invariant.walked) in
    let room = c.print.ensures.0 in
    let gap = c.print.ensures.1 in
    let line = event_line_text columns (c.steps.number + 1) w.step w.event room gap c.between-change.result in
    let is_line : IsEventLine logs columns (c.steps.number + 1) w line =
    record {
      states = subst (λ logs. TellsStates logs w) c.steps.invariant.logs found.1;
      change = c.between-change.result;
      is_change = c.between-change.ensures;
      room = room;
      gap = gap;
      is = refl;
    } in
    let told = step_told logs cut here columns c.args.heading c.steps.is_inside w.step.in_cut steps c.steps.number
    c.steps.page c.print_between-is_inside.new.page c.print.new.page (g.W.Sink.state c.args.sink.now)
    (g.W.Sink.state c.steps.sink) w line refl c.steps.invariant.told is_line c.print_between-is_inside.ensures.line
    c.print.ensures.2 in
    let block = printed_block told.printed c.in_ok-page.ensures.goes_on in
    let more = c.in_ok-page.ensures.showed in
    record {
      logs = c.in_ok-walked.ensures.logs.logs ∙ c.steps.invariant.logs;
      cut = c.in_ok-walked.ensures.logs.cut ∙ c.steps.invariant.cut;
      steps = steps ++ w.step ∷ [];
      walked = found.0;
      count = omega (arith, c.steps.invariant.count, length_push steps w.step);
      told = rw c.print_between-is_inside.ensures.inside (record {
        text = told.text;
        told = told.told;
        printed = block;
      });
      took =
          more_taken (g.W.Sink.state c.args.sink.now) (g.W.Sink.state c.steps.sink)
          (g.W.Sink.state c.write_block.new.sink) more.0 c.steps.invariant.took more.1 more.2;
    }

pub returns-in_err-page-clause-showed : goal.returns-in_err-page-clause-showed
returns-in_err-page-clause-showed g c =
    let is : c.from_residual-in_err-page.result ≡ Err c.in_err-page.field-0.0 = search rules in
    failed_then c.from_residual-in_err-page.result c.in_err-page.field-0.0 (g.W.Sink.state c.args.sink.now)
    (g.W.Sink.state c.steps.sink) (g.W.Sink.state c.write_block.new.sink) is c.steps.invariant.took
    c.in_err-page.ensures.showed

pub returns-clause-showed : goal.returns-clause-showed
returns-clause-showed g c =
    showed_then c.write_page.result (g.W.Sink.state c.args.sink.now) (g.W.Sink.state c.steps.sink)
    (g.W.Sink.state c.write_page.new.sink) c.steps.invariant.took c.write_page.ensures.showed

pub returns-clause-told : goal.returns-clause-told
returns-clause-told g c =
    let logs = c.args.logs.now in
    let cut = c.args.cut.now in
    let steps = c.steps.invariant.steps in
    let none = (rw c.in_default.is at (c.in_ok-walked.ensures.none steps c.steps.invariant.walked)).0 in
    let trail : IsTrail logs cut steps =
    subst (λ cut. IsTrail logs cut steps) c.steps.invariant.cut
    (subst (λ logs. IsTrail logs c.steps.trail.cut steps) c.steps.invariant.logs none) in
    ok_so c.write_page.result
    (all_told logs cut (here_text c.args.is_asked cut) c.of-columns.result c.args.heading c.steps.is_inside steps
    c.steps.number c.steps.page _ (g.W.Sink.state c.args.sink.now) (g.W.Sink.state c.steps.sink)
    (g.W.Sink.state c.write_page.new.sink) c.steps.invariant.told trail c.print_between-is_over.ensures.line)
    c.write_page.ensures.took
