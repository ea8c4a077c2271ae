use Rattle.std.proofs.Common.{take}
use Rattle.std.specs.List.{flat_map}
use Rattle.ira_view_moment.specs.Rounds.{drawn}
use Rattle.ira_view_page.specs.Page.{Added}
use Rattle.ira_view_show.specs.RoundLines.{round_row}
use Rattle.ira_view_show.proofs.rounds.add_rounds.Given as goal

abbrev pub invariant-loop-round : goal.invariant-loop-round
invariant-loop-round g l =
    Added l.initial.table (flat_map (λ r. round_row l.has_terms (drawn r)) (take l.round-index l.rounds)) l.table
