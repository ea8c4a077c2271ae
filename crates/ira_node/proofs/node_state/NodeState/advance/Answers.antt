use Rattle.std.proofs.Common.{◌≡◌, rules}
use Rattle.ira_node.specs.StepAnswer.{advance_answer, answer}
use Rattle.ira_node.proofs.Answers.{advances}
use Rattle.ira_node.proofs.node_state.NodeState.advance.Goals as goal

pub returns-in-Some : goal.returns-in-Some
returns-in-Some c =
    let value : advance_answer c.step_owing.result c.step_owing.new.self
    ≡ answer c.args.nodes c.args.self.now c.args.event.now = search rules in
    record { value = value; steps = advances _ _ _ _ _ value; err = c.step_owing.ensures.err }

pub returns-in-None : goal.returns-in-None
returns-in-None c =
    let value : advance_answer c.step_owing_nothing.result c.step_owing_nothing.new.self
    ≡ answer c.args.nodes c.args.self.now c.args.event.now = search rules in
    record { value = value; steps = advances _ _ _ _ _ value; err = c.step_owing_nothing.ensures.err }
