-- Lines on nodes of which a ring says otherwise than its logs whether they lead.
use Rattle.std.specs.Prelude.{ℕ, List, [], ◌++◌, Bool, true, false, codes, decimal, ◌==◌, Option, None, Some}
use Rattle.std.specs.List.{enumerate_from, flat_map, list_any}
use Rattle.ira_node.specs.declared.node_state.NodeState.{NodeState}
use Rattle.ira_node.specs.declared.phase.Phase.{Phase}
use Rattle.ira_node.specs.declared.phase.Phase.TheVariants.{Choosing, Active, Passive, Leader, Yielding}
use Rattle.ira_node.specs.declared.wanted.Wanted.{Wanted}
use Rattle.ira_node.specs.declared.wanted.Wanted.TheVariants.{Draw, Send, Receipt, Yield, Nothing}
use Rattle.ira_node.specs.Wanted.{wanted_of}
use Rattle.ira_view_moment.specs.declared.node_progress.NodeProgress.{NodeProgress}
use Rattle.ira_view_page.specs.declared.summary.Leads.{Leads}
use Rattle.ira_view_page.specs.Words.{state_text}

abbrev pub is_leader : Phase → Bool
is_leader (Leader round id) = true
is_leader (Choosing round) = false
is_leader (Active round id) = false
is_leader Passive = false
is_leader Yielding = false

-- that a node is about to draw
abbrev pub due_text : Wanted → List ℕ
due_text Draw = codes ", must draw"
due_text (Send load) = []
due_text Receipt = []
due_text Yield = []
due_text Nothing = []

-- the line on a node that leads and isn't named, or is named and doesn't lead
abbrev pub difference_text : Bool → Bool → ℕ → NodeState → List ℕ
difference_text true false place s = codes "node " ++ decimal place ++ codes " leads, and isn't named" ++ codes "\n"
difference_text false true place s =
    codes "node " ++ decimal place ++ codes " doesn't lead: " ++ state_text s
    ++ due_text (wanted_of s.term s.phase s.owed)
    ++ codes "\n"
difference_text true true place s = []
difference_text false false place s = []

-- the same of a node with its place, among places that are named
abbrev pub node_difference : List ℕ → ℕ × NodeProgress → List ℕ
node_difference named node =
    difference_text (is_leader node.1.state.phase) (list_any (λ n. n == node.0) named) node.0 node.1.state

abbrev pub differences_text : List ℕ → List NodeProgress → List ℕ
differences_text named nodes = flat_map (node_difference named) (enumerate_from 0 nodes)

-- the line on a ring that nobody leads
abbrev pub missing_text : Option Leads → List ℕ
missing_text None = codes "no node leads" ++ codes "\n"
missing_text (Some leads) = []
