use Rattle.std.proofs.Common.{refl}
use Rattle.ira_event.specs.declared.event.Event.TheVariants.{Sent}
use Rattle.ira_node.specs.NodeState.{free}
use Rattle.ira_node.specs.NodeStep.{NodeStep, sends}
use Rattle.ira_node.proofs.Wants.{wants_send, owing_leads_not}
use Rattle.ira_ring_alone.proofs.LoneNodes.{makes_sending}
use Rattle.ira_ring_alone.proofs.lone_node.LoneNode.send.Goals as goal

pub unreachable-requires : goal.unreachable-requires
unreachable-requires g c =
    let s = c.args.state in
    let step : NodeStep c.args.nodes s (Sent c.args.load) (free s.term s.phase) =
    sends c.args.load (owing_leads_not s.term s.phase s.owed c.args.load c.requires.wanted)
    (wants_send s.term s.phase s.owed c.args.load c.requires.wanted) refl refl in
    c.in_default.not-Ok (free s.term s.phase) ((c.step.ensures.ok (free s.term s.phase)).1 step)

pub returns : goal.returns
returns g c = λ most terms below_cap.
    makes_sending _ most terms _ _ _ _ _ _ _ _ _ c.self.view_is c.requires.state c.requires.wanted below_cap
    ((c.in-Ok.ensures.ok c.in-Ok.after).0 refl) c.in_ok-push.ensures.items
