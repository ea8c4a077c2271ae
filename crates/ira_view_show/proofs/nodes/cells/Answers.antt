use Rattle.std.proofs.Common.{◌∷◌, ◌∙◌, [], ap, decimal}
use Rattle.ira_view_page.specs.Table.{left_cell, right_cell}
use Rattle.ira_view_page.proofs.Adding.{◌&◌, added_as}
use Rattle.ira_view_show.specs.Cells.{cell_if}
use Rattle.ira_view_show.specs.NodeLines.{start_text}
use Rattle.ira_view_show.proofs.Lines.{added_whole, began}
use Rattle.ira_view_show.proofs.nodes.cells.Goals as goal

pub returns : goal.returns
returns g c =
    let place = ap (λ n. right_cell (decimal n) ∷ []) c.place.ensures.value in
    let start = ap (λ t. left_cell t ∷ []) (c.start_words.ensures ∙ ap start_text c.initiator.ensures) in
    let all = ap (λ n. cell_if c.args.has_all (right_cell (decimal n))) c.len.ensures.value in
    began c.new-row.ensures
    (added_as place c.add_number.ensures & added_as start c.add_left.ensures & c.add_number-2.ensures
    & added_as all c.add_number_if.ensures & c.add_number-3.ensures & c.add_number-4.ensures & c.add_number-5.ensures
    & c.add_number-6.ensures & added_whole c.new-state.ensures c.state.ensures c.left.ensures)
