use Rattle.std.proofs.Common.{◌≡◌, length, map}
use Rattle.ira_view_moment.proofs.OnTheWay.{AreLinksSoFar}
use Rattle.ira_view_moment.proofs.moment.loads_of_links.Given as goal

abbrev pub invariant-loop-link : goal.invariant-loop-link
invariant-loop-link g l = record {
  number : length l.links.items ≡ l.link;
  each : AreLinksSoFar l.logs l.cut (map (λ loads. loads.items) l.links.items);
}
