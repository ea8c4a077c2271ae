use Rattle.std.proofs.Common.{◌≡◌, ◌++◌, List, length}
use Rattle.std.specs.Vec.Iter.{into_iter_items, into_iter_len}
use Rattle.ira_mend.specs.declared.recorded_log.RecordedLog.{RecordedLog}
use Rattle.ira_mend.proofs.RecordedTexts.{AreLogsOf}
use Rattle.ira_mend.proofs.recorded_logs.RecordedLogs.gather.Given as goal

abbrev pub invariant-loop-it : goal.invariant-loop-it
invariant-loop-it g l = record {
  may_go_on : (goal.iterator-loop-it g).can_next l.it-iterator;
  ends : (goal.iterator-loop-it g).is_finite l.it-iterator;
  left : into_iter_len l.it-iterator ≡ length (into_iter_items l.it-iterator);
  done : List (RecordedLog g.row.A.Denot);
  parts : done ++ into_iter_items l.it-iterator ≡ l.fn.self;
  logs_are : AreLogsOf done l.ring l.guess l.logs.items;
}
