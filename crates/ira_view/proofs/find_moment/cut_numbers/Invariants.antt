use Rattle.std.proofs.Common.{◌≡◌, ◌≤◌, length, take}
use Rattle.ira_view.proofs.find_moment.cut_numbers.Given as goal

abbrev pub invariant-loop-number : goal.invariant-loop-number
invariant-loop-number g l = record {
  within : l.number-index ≤ length l.events;
  taken : l.cut.items ≡ take l.number-index l.events;
}
