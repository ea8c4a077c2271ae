use Rattle.ira_view_moment.proofs.moment.Moment.at_cut.Goals as goal

pub loads_of_links-requires-clause-each : goal.loads_of_links-requires-clause-each
loads_of_links-requires-clause-each g c =
    λ i log p at at_node. c.in_ok-nodes.ensures.each i log p at (rw c.deref.ensures.value at at_node)
