use Rattle.std.proofs.Common.{ap}
use Rattle.std.specs.List.{flat_map}
use Rattle.ira_view_moment.specs.Rounds.{drawn}
use Rattle.ira_view_page.proofs.Adding.{added_as}
use Rattle.ira_view_show.specs.RoundLines.{round_row}
use Rattle.ira_view_show.proofs.Lines.{take_shown}
use Rattle.ira_view_show.proofs.rounds.add_shown.Goals as goal

pub returns : goal.returns
returns g c =
    let shown = take_shown c.args.rounds.now c.min-shown.result 20 c.min-shown.ensures in
    added_as (ap (flat_map (λ r. round_row c.args.has_terms (drawn r))) shown) c.add_rounds.ensures
