-- The sentences on a whole ring.
use Rattle.std.specs.Prelude.{ℕ, List, ◌++◌, Bool, Option, Some, None, codes, decimal, if◌then◌else◌}
use Rattle.ira_view_page.specs.Numbers.{number_of_text}
use Rattle.ira_view_page.specs.Words.{round_text}
use Rattle.ira_view_page.specs.declared.summary.Leads.{Leads}
use Rattle.ira_view_page.specs.declared.summary.RingTotals.{RingTotals}

-- who leads
abbrev pub leader_text : Option Leads → List ℕ
leader_text None = codes "Nobody leads yet."
leader_text (Some l) =
    codes "Node " ++ decimal l.node ++ codes " leads in " ++ round_text l.round l.term ++ codes " with ID "
    ++ decimal l.id
    ++ codes "."

-- how much was sent
abbrev pub sent_text : Bool → ℕ → List ℕ
sent_text has_resets sent =
    if has_resets then decimal sent ++ codes " messages and resets sent"
    else number_of_text sent (codes "message") ++ codes " sent"

-- how many nodes and events there are, and what crossed the links
abbrev pub totals_text : RingTotals → List ℕ
totals_text totals =
    number_of_text totals.nodes (codes "node") ++ codes ", " ++ number_of_text totals.events (codes "event")
    ++ codes "; "
    ++ sent_text totals.has_resets totals.sent
    ++ codes ", "
    ++ decimal totals.received
    ++ codes " received, "
    ++ decimal totals.way
    ++ codes " on the way."

-- who leads, and what the nodes and events come to
abbrev pub summary_text : Option Leads → RingTotals → List ℕ
summary_text leader totals = leader_text leader ++ codes " " ++ totals_text totals
