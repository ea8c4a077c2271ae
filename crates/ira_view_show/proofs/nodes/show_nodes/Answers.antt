use Rattle.std.proofs.Common.{◌≤◌, ◌∷◌, ◌++◌, [], ap, append-nil, arith, length, refl, sym}
use Rattle.std.specs.List.{flat_map, zip}
use Rattle.std.proofs.lemmas.List.{take_all}
use Rattle.ira_view_page.specs.Table.{table_row}
use Rattle.ira_view_page.specs.declared.page.Emphasis.TheVariants.{Plain}
use Rattle.ira_view_page.proofs.Adding.{added_as}
use Rattle.ira_view_show.specs.NodeLines.{head_cells, node_row}
use Rattle.ira_view_show.proofs.Lines.{added_below, added_whole, began, both_at, length-zip-le}
use Rattle.ira_view_show.proofs.nodes.show_nodes.Goals as goal

pub loop-place-init : goal.loop-place-init
loop-place-init g c =
    let head = table_row Plain (head_cells c.args.has_all) ∷ [] in
    added_as (sym (append-nil head)) (began c.new-table.ensures (added_whole refl c.heads.ensures c.add.ensures))

pub loop-place-preserved : goal.loop-place-preserved
loop-place-preserved g c =
    let logs = c.args.logs.now in
    let nodes = c.args.moment.now.nodes in
    let place = c.loop-place.place in
    let both = both_at logs nodes place c.log.result.now c.node.result c.log.ensures.value c.node.ensures in
    added_below (table_row Plain (head_cells c.args.has_all) ∷ []) (node_row c.args.has_all) (zip logs nodes) place
    (c.log.result.now, c.node.result) both c.loop-place.invariant
    (added_whole refl c.cells-row.ensures c.add-in-loop-place.ensures)

pub returns : goal.returns
returns g c =
    let logs = c.args.logs.now in
    let nodes = c.args.moment.now.nodes in
    let place = c.loop-place.place in
    let count : length (zip logs nodes) ≤ place =
    omega (
      arith,
      length-zip-le logs nodes,
      c.loop-place-test.false,
      c.get-place-end.ensures.value,
      c.size.ensures.value,
    ) in
    let head = table_row Plain (head_cells c.args.has_all) ∷ [] in
    let all = ap (λ rows. head ++ flat_map (node_row c.args.has_all) rows) (take_all place (zip logs nodes) count) in
    added_whole refl (added_as all c.loop-place.invariant) c.table-2.ensures
