use Rattle.ira_view_picture.specs.Arrow.{AreArrowsBefore}
use Rattle.ira_view_picture.proofs.links.Links.arrows.Given as goal

abbrev pub invariant-loop-link : goal.invariant-loop-link
invariant-loop-link g l =
    AreArrowsBefore l.self.logs.now l.self.columns.now.nodes l.window l.link 1 l.arrows.items
