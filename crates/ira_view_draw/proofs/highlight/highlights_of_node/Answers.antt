use Rattle.ira_view_draw.proofs.highlight.highlights_of_node.Goals as goal

pub new-requires : goal.new-requires
new-requires g c = rw c.logs.ensures.value c.requires.order
