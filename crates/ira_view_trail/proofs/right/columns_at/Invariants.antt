use Rattle.ira_view_trail.specs.Right.{HasPicked, load_at}
use Rattle.ira_view_trail.proofs.right.columns_at.Given as goal

abbrev pub invariant-loop-done : goal.invariant-loop-done
invariant-loop-done g l = HasPicked (load_at l.end) l.log.events l.row l.done l.picked.items
