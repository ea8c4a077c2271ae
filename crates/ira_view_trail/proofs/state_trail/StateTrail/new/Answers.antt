use Rattle.std.proofs.Common.{◌≡◌, ◌∙◌, ap, length, refl, replicate}
use Rattle.ira_view_trail.specs.StateTrail.{StateTrail}
use Rattle.ira_view_trail.proofs.Walked.{walked_none}
use Rattle.ira_view_trail.proofs.state_trail.StateTrail.new.Goals as goal

pub returns-clause-none_given : goal.returns-clause-none_given
returns-clause-none_given g c =
    let v : StateTrail = record {
      logs = c.args.logs.now;
      cut = c.in_ok-cut.cut.items;
      columns = c.in_ok-columns.columns;
      order = c.in_ok-order.order.items;
      given = 0;
      done = c.in_ok-done.done.items;
      states = c.in_ok-states.states.items;
    } in
    let nodes : c.get-nodes.result ≡ length c.args.logs.now = c.get-nodes.ensures.value ∙ c.size.ensures.value in
    let zeros : c.in_ok-done.done.items ≡ replicate c.from.result 0 =
    c.in_ok-done.ensures.items_if_clones_equal (λ y e. e) in
    walked_none v c.args.cut.now c.size.ensures.valid c.in_ok-cut.ensures.items c.requires
    c.in_ok-columns.ensures.columns c.in_ok-order.ensures refl (zeros ∙ ap (λ k. replicate k 0) (c.from.ensures ∙ nodes))
    c.in_ok-states.ensures
