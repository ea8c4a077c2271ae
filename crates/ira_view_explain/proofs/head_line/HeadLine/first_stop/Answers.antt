use Rattle.std.proofs.Common.{arith}
use Rattle.ira_view_explain.proofs.head_line.HeadLine.first_stop.Goals as goal

pub returns-in_default : goal.returns-in_default
returns-in_default c = (c.line.result.now, c.line.ensures (omega arith), c.in_default.ensures)

pub returns-in-Some-number_within-2 : goal.returns-in-Some-number_within-2
returns-in-Some-number_within-2 c = (
  c.in-Some.version,
  c.in-Some-number_within.nodes,
  c.in-Some-number_within-2.field-0,
  (c.line.result.now, c.line.ensures (omega arith), c.in-Some.ensures.0, c.in-Some.ensures.1),
  (
    c.line-2.result.now,
    c.line-2.ensures (omega arith),
    c.in-Some-number_within.ensures.0,
    rw c.most_nodes-most.ensures at c.in-Some-number_within.ensures.1,
  ),
  (
    c.line-3.result.now,
    c.line-3.ensures (omega arith),
    c.in-Some-number_within-2.ensures.0,
    c.in-Some-number_within-2.ensures.1,
  ),
)

pub returns-in-None : goal.returns-in-None
returns-in-None c = (
  c.in-Some.version,
  (c.line.result.now, c.line.ensures (omega arith), c.in-Some.ensures.0, c.in-Some.ensures.1),
  (
    c.line-2.result.now,
    c.line-2.ensures (omega arith),
    c.in-Some-number_within.ensures.0,
    rw c.most_nodes-most.ensures at c.in-Some-number_within.ensures.1,
  ),
  (c.line-3.result.now, c.line-3.ensures (omega arith), c.in-None.ensures),
)
