-- What a ring's nodes and events come to at a moment.
use Rattle.std.specs.Prelude.{Bool, false, ◌||◌, Option, is_none, length, nat_lt}
use Rattle.std.specs.List.{list_any}
use Rattle.ira_node.specs.declared.node_state.NodeState.{NodeState}
use Rattle.ira_node.specs.declared.phase.Phase.{Phase}
use Rattle.ira_node.specs.declared.phase.Phase.TheVariants.{Choosing, Active, Passive, Leader, Yielding}
use Rattle.ira_view_moment.specs.Moment.{Moment}
use Rattle.ira_view_moment.specs.Totals.{capped_sum, totals_of}
use Rattle.ira_view_page.specs.declared.summary.RingTotals.{RingTotals}

-- the node has yielded, and owes the reset no more
abbrev pub has_sent_reset : {L : Type 0} → Phase → Option L → Bool
has_sent_reset Yielding owed = is_none owed
has_sent_reset (Choosing round) owed = false
has_sent_reset (Active round id) owed = false
has_sent_reset Passive owed = false
has_sent_reset (Leader round id) owed = false

-- a reset was sent, by this node or before it came to its term
abbrev pub shows_reset : NodeState → Bool
shows_reset s = nat_lt 1 s.term || has_sent_reset s.phase s.owed

-- how many nodes there are, what their events come to, and what is on its way
abbrev pub ring_totals : Moment → RingTotals
ring_totals m =
    let totals = totals_of m in
    record {
      nodes = length m.nodes;
      events = totals.events;
      sent = totals.sent;
      received = totals.received;
      way = capped_sum length m.links;
      has_resets = list_any (λ p. shows_reset p.state) m.nodes;
    }
