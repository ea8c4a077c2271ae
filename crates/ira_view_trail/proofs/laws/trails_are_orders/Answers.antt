use Rattle.ira_view_trail.proofs.Lines.{cut_first, played_order}
use Rattle.ira_view_trail.proofs.laws.trails_are_orders.Goals as goal

pub returns : goal.returns
returns c logs cut column line order are played has = (
  played_order logs cut column line are has order played,
  cut_first logs cut column line order are played,
)
