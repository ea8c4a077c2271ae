use Rattle.std.proofs.Common.{map}
use Rattle.ira_main_cli.specs.Options.{AreNumbers}
use Rattle.ira_main_cli.proofs.command_line.numbers.Given as goal

abbrev pub invariant-loop-part : goal.invariant-loop-part
invariant-loop-part l = record {
  can_next : (goal.iterator-loop-part).can_next l.part-iterator;
  is_finite : (goal.iterator-loop-part).is_finite l.part-iterator;
  written : AreNumbers l.numbers.items (map (λ p. p.now) l.yielded);
}
