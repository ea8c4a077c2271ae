-- What the state of a node is as JSON.
use Rattle.std.specs.Prelude.{ℕ, Option, Some, None, codes, nat_eq, if◌then◌else◌}
use Rattle.json.specs.Json.{Members, boolean, no_members, object}
use Rattle.ira_event.specs.declared.load.Load.{Load}
use Rattle.ira_event.specs.declared.load.Load.TheVariants.{Msg as Message, Reset}
use Rattle.ira_node.specs.declared.node_state.NodeState.{NodeState}
use Rattle.ira_node.specs.declared.phase.Phase.{Phase}
use Rattle.ira_node.specs.declared.phase.Phase.TheVariants.{Choosing, Active, Passive, Leader, Yielding}
use Rattle.ira_view_json.specs.Members.{put, with_number, with_words}

-- members, and what is sent: the fields of a message, or the hop of a reset
abbrev pub with_load : Load → Members → Members
with_load (Message m) members =
    put (codes "dirty") (boolean m.dirty)
    (with_number (codes "hop") m.hop
    (with_number (codes "id") m.id
    (with_number (codes "round") m.round members)))
with_load (Reset hop) members = with_number (codes "reset") hop members

-- members, and a phase, with its round and its ID where it has them
abbrev pub with_phase : Phase → Members → Members
with_phase (Choosing round) members =
    with_number (codes "round") round (with_words (codes "phase") (codes "choosing") members)
with_phase (Active round id) members =
    with_number (codes "id") id
    (with_number (codes "round") round (with_words (codes "phase") (codes "active") members))
with_phase Passive members = with_words (codes "phase") (codes "passive") members
with_phase (Leader round id) members =
    with_number (codes "id") id
    (with_number (codes "round") round (with_words (codes "phase") (codes "leader") members))
with_phase Yielding members = with_words (codes "phase") (codes "yielding") members

-- members, and a term, where it isn't the first one
abbrev pub with_term : ℕ → Members → Members
with_term term members = if nat_eq term 1 then members else with_number (codes "term") term members

-- members, and what a node owes, where it owes something
abbrev pub with_owed : Option Load → Members → Members
with_owed None members = members
with_owed (Some load) members = put (codes "owes") (object (with_load load no_members)) members

-- members, and a state
abbrev pub with_state : NodeState → Members → Members
with_state state members = with_owed state.owed (with_term state.term (with_phase state.phase members))
