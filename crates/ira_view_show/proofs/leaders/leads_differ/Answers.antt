use Rattle.std.proofs.Common.{◌≤◌, ◌∙◌, ap, arith, length, refl}
use Rattle.std.specs.List.{enumerate_from, flat_map}
use Rattle.std.proofs.lemmas.List.{take_all}
use Rattle.std.proofs.lemmas.List.FromFn.{length-enumerate_from}
use Rattle.ira_view_page.proofs.Adding.{added_as, added_at, element_at, finished}
use Rattle.ira_view_show.specs.Leaders.{difference_text, is_leader, node_difference}
use Rattle.ira_view_show.proofs.Lines.{ok_then}
use Rattle.ira_view_show.proofs.Naming.{none_differ}
use Rattle.ira_view_show.proofs.leaders.leads_differ.Goals as goal

pub loop-place-preserved : goal.loop-place-preserved
loop-place-preserved g c =
    let place = c.loop-place.place in
    let nodes = c.args.moment.now.nodes in
    let state = c.node.result.state in
    let line = ap (λ l. difference_text l c.is_named.result place state) c.is_leader.ensures
    ∙ ap (λ n. difference_text (is_leader state.phase) n place state) c.is_named.ensures in
    added_at (node_difference c.args.named.now) (enumerate_from 0 nodes) place (place, c.node.result)
    (element_at nodes place c.node.result c.node.ensures) c.loop-place.invariant (added_as line c.compare.ensures)

pub returns : goal.returns
returns g c =
    let nodes = c.args.moment.now.nodes in
    let all = enumerate_from 0 nodes in
    let place = c.loop-place.place in
    let count : length all ≤ place =
    omega (arith, length-enumerate_from 0 nodes, c.loop-place-test.false, c.size-place-end.ensures.value) in
    let line = node_difference c.args.named.now in
    let whole = added_as (ap (flat_map line) (take_all place all count)) c.loop-place.invariant in
    let text = finished c.finish.result refl whole c.finish.ensures in
    record {
      text = text;
      none = ok_then _ _ c.finish.result (λ t is. none_differ c.args.moment.now c.args.named.now t is) text;
    }
