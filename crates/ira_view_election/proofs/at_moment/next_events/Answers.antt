use Rattle.std.proofs.Common.{[], ◌≤◌, append-nil, arith, length, refl, sym}
use Rattle.std.specs.List.{enumerate_from}
use Rattle.std.proofs.lemmas.List.FromFn.{length-enumerate_from}
use Rattle.ira_view_page.specs.Parts.{none}
use Rattle.ira_view_page.proofs.Adding.{element_at}
use Rattle.ira_view_page.proofs.Parts.{parts_all, parts_more}
use Rattle.ira_view_election.specs.Coming.{IsNextAt, due_at}
use Rattle.ira_view_election.proofs.Nexts.{one_at}
use Rattle.ira_view_election.proofs.at_moment.next_events.Goals as goal
use Rattle.ira_view_election.proofs.at_moment.next_events.Goals.{in-Some+in_ok-push, in_default}

pub loop-node-init : goal.loop-node-init
loop-node-init g c = rw c.new-next.ensures.items none

pub loop-node-preserved : goal.loop-node-preserved
loop-node-preserved g c =
    let moment = c.args.moment.now in
    let node = c.loop-node.node in
    let here = one_at moment.nodes node (omega (arith, c.loop-node-test.true, c.size-node-end.ensures.value)) in
    let before = c.loop-node.next.items in
    let more = parts_more (IsNextAt moment) (enumerate_from 0 moment.nodes) node (node, here.0) before in
    let at = element_at moment.nodes node here.0 here.1 in
    let due = c.due_at.result in
    elim c.match-due_at.branch [
      | in-Some+in_ok-push w ↦
          more (due_at node due) _ at c.loop-node.invariant (due, c.due_at.ensures, refl)
          (rw (w.next-is, w.in_ok-push.ensures.items, w.in-Some.is) refl)
      | in_default w ↦
          more [] _ at c.loop-node.invariant (due, c.due_at.ensures, rw w.in_default.is refl)
          (rw w.next-is (sym (append-nil before)))
    ]

pub returns : goal.returns
returns g c =
    let nodes = c.args.moment.now.nodes in
    let node = c.loop-node.node in
    let past : length (enumerate_from 0 nodes) ≤ node =
    omega (arith, length-enumerate_from 0 nodes, c.loop-node-test.false, c.size-node-end.ensures.value) in
    parts_all (IsNextAt c.args.moment.now) (enumerate_from 0 nodes) node c.loop-node.next.items past
    c.loop-node.invariant
