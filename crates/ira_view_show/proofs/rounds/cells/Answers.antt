use Rattle.std.proofs.Common.{[], ◌∷◌, ◌∙◌, ap}
use Rattle.std.specs.Prelude.{decimal}
use Rattle.ira_view_page.specs.Numbers.{places_text}
use Rattle.ira_view_page.specs.Table.{right_cell}
use Rattle.ira_view_page.proofs.Adding.{◌&◌, added_as}
use Rattle.ira_view_show.proofs.Lines.{added_whole, began}
use Rattle.ira_view_show.proofs.rounds.cells.Goals as goal

pub returns : goal.returns
returns g c =
    let drew = added_as (ap (λ n. right_cell (decimal n) ∷ []) (c.len.ensures ∙ c.args.round.now.draws.ok.0)) c.add_number-2.ensures in
    began c.new-row.ensures
    (c.add_number_if.ensures & c.add_number.ensures & drew & c.add_number-3.ensures
    & added_whole c.new-nodes.ensures (added_as (ap places_text c.deref.ensures.value) c.places.ensures) c.left.ensures)
