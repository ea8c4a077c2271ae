use Rattle.ira_order.proofs.Rounds.{whole_order}
use Rattle.ira_view_evidence.proofs.StuckNodes.{circle_evidence, waiting_at}
use Rattle.ira_view_evidence.proofs.circle_evidence.CircleEvidence.find.Goals as goal

pub returns-then-is_whole : goal.returns-then-is_whole
returns-then-is_whole g c = (
  c.requires,
  c.in_ok-prefix.prefix.places,
  whole_order _ _ c.requires c.in_ok-prefix.ensures.prefix c.if-is_whole.ensures,
)

pub stuck_nodes-requires-clause-waiting : goal.stuck_nodes-requires-clause-waiting
stuck_nodes-requires-clause-waiting g c = waiting_at _ _ c.requires c.in_ok-prefix.ensures c.if-is_whole.ensures

pub returns : goal.returns
returns g c =
    circle_evidence _ _ c.requires c.in_ok-prefix.ensures c.if-is_whole.ensures _ _ c.in_ok-stuck_nodes.ensures
