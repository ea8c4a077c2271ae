use Rattle.std.proofs.Common.{◌≡◌, ◌++◌}
use Rattle.std.specs.Prelude.{map}
use Rattle.std.specs.Vec.Iter.{into_iter_items}
use Rattle.ira_elim.specs.declared.found.Found.TheVariants.{Absent}
use Rattle.ira_audit.proofs.findings.into_sections.Given as goal

abbrev pub invariant-loop-found : goal.invariant-loop-found
invariant-loop-found g l = record {
  may_go_on : (goal.iterator-loop-found g).can_next l.found-iterator;
  ends : (goal.iterator-loop-found g).is_finite l.found-iterator;
  absent : l.fn.found.items ≡ map Absent l.sections.items ++ into_iter_items l.found-iterator;
}
