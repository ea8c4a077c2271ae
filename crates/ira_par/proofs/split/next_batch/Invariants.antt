use Rattle.std.proofs.Common.{◌≡◌, ◌+◌, length}
use Rattle.ira_par.specs.Task.{AreTasksOf}
use Rattle.ira_par.proofs.split.next_batch.Given as goal

abbrev pub invariant-loop-number : goal.invariant-loop-number
invariant-loop-number g l = record {
  tasks : AreTasksOf l.profiles l.cases l.sections l.first l.batch.items;
  count : l.first + length l.batch.items ≡ l.number;
}
