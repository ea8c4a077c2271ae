use Rattle.std.proofs.Common.{◌≡◌, length, take}
use Rattle.ira_view_moment.specs.Totals.{capped_sum}
use Rattle.ira_view_show.proofs.totals.number_on_the_way.Given as goal

abbrev pub invariant-loop-link : goal.invariant-loop-link
invariant-loop-link g l = l.number ≡ capped_sum length (take l.link l.moment.links)
