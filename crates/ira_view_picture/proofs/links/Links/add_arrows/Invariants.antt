use Rattle.std.proofs.Common.{◌+◌}
use Rattle.ira_view_picture.specs.Arrow.{AreArrowsBefore}
use Rattle.ira_view_picture.proofs.links.Links.add_arrows.Given as goal

abbrev pub invariant-loop-k : goal.invariant-loop-k
invariant-loop-k g l =
    AreArrowsBefore l.self.logs.now l.self.columns.now.nodes l.window l.link (l.k + 1) l.arrows.items
