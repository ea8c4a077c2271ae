use Rattle.std.proofs.Common.{refl}
use Rattle.ira_pred.proofs.QuestionHeads.{no_head, head_out_of_range, head_found}
use Rattle.ira_pred.proofs.question_head.scan_head.Goals as goal

pub returns-in_err-nodes : goal.returns-in_err-nodes
returns-in_err-nodes c = rw c.from_residual.ensures (no_head c.args.text.now c.in_err-nodes.ensures)

pub returns-in_err-nodes-2 : goal.returns-in_err-nodes-2
returns-in_err-nodes-2 c =
    rw c.from_residual-in_err-nodes-2.ensures
    (head_out_of_range c.args.text.now c.in_ok-nodes.nodes c.in_ok-nodes.rest.now c.in_ok-nodes.ensures
    (λ good. let some = c.in_err-nodes-2.ensures.some.1 good in cc))

pub returns : goal.returns
returns c =
    rw c.in_ok-nodes-2.ensures.value
    (head_found c.args.text.now c.in_ok-nodes.nodes c.in_ok-nodes.rest.now c.in_ok-nodes.ensures
    (c.in_ok-nodes-2.ensures.some.0 refl))
