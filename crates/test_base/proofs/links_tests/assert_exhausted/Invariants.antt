use Rattle.std.proofs.Common.{◌≡◌}
use Rattle.test_base.proofs.links_tests.assert_exhausted.Given as goal

abbrev pub invariant-loop-id : goal.invariant-loop-id
invariant-loop-id g l = l.output.link ≡ l.input.link
