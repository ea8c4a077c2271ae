use Rattle.std.proofs.Common.{◌≡◌, take}
use Rattle.ira_view_explain.proofs.ring_search.first_difference.Given as goal

abbrev pub invariant-loop-i : goal.invariant-loop-i
invariant-loop-i l = take l.i l.loads ≡ take l.i l.others
