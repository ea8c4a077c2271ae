use Rattle.std.proofs.Common.{◌≡◌}
use Rattle.ira_view_show.proofs.reasons.print_draw.Given as goal

abbrev pub invariant-loop-draw : goal.invariant-loop-draw
invariant-loop-draw g l = l.page ≡ l.initial.page

abbrev pub invariant-loop-k : goal.invariant-loop-k
invariant-loop-k g l = l.page ≡ l.initial.page
