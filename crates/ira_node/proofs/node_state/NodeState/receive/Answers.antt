use Rattle.std.proofs.Common.{refl, ap, ◌∙◌, Err}
use Rattle.ira_node.proofs.Answers.{takes_none}
use Rattle.ira_node.proofs.node_state.NodeState.receive.Goals as goal

pub returns : goal.returns
returns c = record {
  value = ap Err c.message_fault.ensures ∙ takes_none _ _ _ _ c.in_default.not-Active c.in_default-phase.not-Passive;
  err = refl;
}
