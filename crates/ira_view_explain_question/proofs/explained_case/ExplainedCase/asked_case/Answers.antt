use Rattle.std.proofs.Common.{arith, refl}
use Rattle.ira_view_page.proofs.ForEach.{all_are, none_so_far, one_more}
use Rattle.ira_view_explain_question.proofs.explained_case.ExplainedCase.asked_case.Goals as goal

pub loop-n-init : goal.loop-n-init
loop-n-init g c = rw c.new-asks.ensures.items (none_so_far _ c.args.self.now.case.now)

pub loop-n-preserved : goal.loop-n-preserved
loop-n-preserved g c =
    let asks = c.in_ok-asked_node.ensures in
    one_more _ c.args.self.now.case.now c.loop-n.n c.loop-n.asks.items _ asks.0 c.in_ok-asked_node.field-0 asks.1
    c.loop-n.invariant asks.2 c.in_ok-push.ensures.items

pub returns : goal.returns
returns g c = (
  refl,
  all_are _ c.args.self.now.case.now c.loop-n.n c.loop-n.asks.items (omega (arith, c.len-n-end.ensures.value))
      c.loop-n.invariant,
)
