use Rattle.std.proofs.Common.{arith}
use Rattle.ira_web.proofs.export.serve_in.Goals as goal

pub returns-in-Ok-Some : goal.returns-in-Ok-Some
returns-in-Ok-Some c =
    let is = rw c.in-Ok-Some.field-0-is at c.in-Ok-Some.ensures in (
      λ below. absurd (omega (arith, below)),
      λ full. (is.0, is.1, c.tell.ensures.full is.0.parts is.3 c.if-tell.false),
    )
