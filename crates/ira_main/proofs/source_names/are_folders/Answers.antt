use Rattle.std.proofs.Common.{arith}
use Rattle.ira_main.proofs.source_names.are_folders.Goals as goal

pub returns : goal.returns
returns g c = λ k d lt. c.loop-name.invariant k d (omega (arith, lt, c.loop-name-test.false))
