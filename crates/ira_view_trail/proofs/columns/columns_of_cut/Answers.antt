use Rattle.ira_view_trail.proofs.RightRows.{has_rows, right_columns}
use Rattle.ira_view_trail.proofs.columns.columns_of_cut.Goals as goal

pub are_links_right-requires : goal.are_links_right-requires
are_links_right-requires g c =
    has_rows c.args.logs.now c.args.cut.now _ _ (c.are_rows.ensures.rows c.if-not-are_rows.false)

pub returns-clause-few : goal.returns-clause-few
returns-clause-few g c = c.are_rows.ensures.few c.if-not-are_rows.false

pub returns-clause-columns : goal.returns-clause-columns
returns-clause-columns g c =
    right_columns c.args.logs.now c.args.cut.now _ (c.are_rows.ensures.rows c.if-not-are_rows.false)
    (c.in_ok-has_links.ensures c.if-not-has_links.false)
