use Rattle.std.proofs.Common.{◌≡◌, ◌++◌, take}
use Rattle.ira_view_evidence.proofs.link_cause.begins_with.Given as goal

abbrev pub invariant-loop-load : goal.invariant-loop-load
invariant-loop-load l = l.loads ≡ take l.load-index l.front ++ l.rest
