-- The line on a whole ring at a moment.
use Rattle.std.specs.Prelude.{ℕ, ◌+◌, List, [], ◌∷◌, ◌++◌, Option, Some, None, codes}
use Rattle.ira_node.specs.declared.phase.Phase.{Phase}
use Rattle.ira_node.specs.declared.phase.Phase.TheVariants.{Choosing, Active, Passive, Leader, Yielding}
use Rattle.ira_node.specs.declared.node_state.NodeState.{NodeState}
use Rattle.ira_view_moment.specs.declared.node_progress.NodeProgress.{NodeProgress}
use Rattle.ira_view_moment.specs.Moment.{Moment}
use Rattle.ira_view_show.specs.Totals.{ring_totals}
use Rattle.ira_view_page.specs.Summary.{summary_text as sentences}
use Rattle.ira_view_page.specs.declared.summary.Leads.{Leads}

-- how a node leads in a phase and a term, if it does
abbrev pub leads_as : ℕ → ℕ → Phase → Option Leads
leads_as node term (Leader r i) = Some (record { node = node; round = r; term = term; id = i })
leads_as node term (Choosing r) = None
leads_as node term (Active r i) = None
leads_as node term Passive = None
leads_as node term Yielding = None

-- how a node leads in a state, if it does
abbrev pub leads_in : ℕ → NodeState → Option Leads
leads_in node s = leads_as node s.term s.phase

-- the first of two, if there is one
abbrev pub or_else : Option Leads → Option Leads → Option Leads
or_else None more = more
or_else (Some x) more = Some x

-- the first node that leads, of nodes from a place on
abbrev pub leader_from : ℕ → List NodeProgress → Option Leads
leader_from place [] = None
leader_from place (p ∷ ps) = or_else (leads_in place p.state) (leader_from (place + 1) ps)

-- who leads, the first of them if there are several, and what the nodes and events come to
abbrev pub summary_text : Moment → List ℕ
summary_text m = sentences (leader_from 0 m.nodes) (ring_totals m) ++ codes "\n"
