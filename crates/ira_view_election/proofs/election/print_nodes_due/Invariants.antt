use Rattle.std.proofs.Common.{take}
use Rattle.std.specs.List.{flat_map}
use Rattle.ira_view_page.specs.Page.{Added}
use Rattle.ira_view_election.specs.Election.{node_due_text}
use Rattle.ira_view_election.proofs.election.print_nodes_due.Given as goal

abbrev pub invariant-loop-one : goal.invariant-loop-one
invariant-loop-one g l = Added l.initial.page (flat_map node_due_text (take l.one-index l.next)) l.page
