-- How an election stands as JSON.
use Rattle.std.specs.Prelude.{Bool, true, false, Option, Some, None, codes, map}
use Rattle.json.specs.Json.{Json, Members, array, boolean, no_members, object}
use Rattle.json.specs.Value.{items_of}
use Rattle.ira_view_election.specs.declared.due.Due.{Due}
use Rattle.ira_view_election.specs.declared.due.Due.TheVariants.{Draw, Send, Receive}
use Rattle.ira_view_election.specs.declared.due.NodeDue.{NodeDue}
use Rattle.ira_view_election.specs.Election.{Standing, goes_on, over}
use Rattle.ira_view_json.specs.Members.{put, with_number, with_words}
use Rattle.ira_view_json.specs.StateValue.{with_load}

-- members, and what comes next
abbrev pub with_due : Due → Members → Members
with_due Draw members = with_words (codes "next") (codes "draw") members
with_due (Send load) members = with_load load (with_words (codes "next") (codes "send") members)
with_due (Receive load) members = with_load load (with_words (codes "next") (codes "receive") members)

-- members, and a node with what comes next there
abbrev pub with_node_due : NodeDue → Members → Members
with_node_due next members = with_due next.due (with_number (codes "node") next.node members)

-- members, and whether the election is over
abbrev pub with_over : Bool → Members → Members
with_over is_over members = put (codes "over") (boolean is_over) members

-- a node with what comes next there
abbrev pub due_value : NodeDue → Json
due_value next = object (with_node_due next no_members)

-- members, and how an election stands: that it is over, or what comes next
abbrev pub with_standing : Standing → Members → Members
with_standing over members = with_over true members
with_standing (goes_on next contenders) members =
    put (codes "next") (array (items_of (map due_value next))) (with_over false members)

-- the same, where that is known
abbrev pub with_election : Option Standing → Members → Members
with_election None members = members
with_election (Some standing) members = with_standing standing members
