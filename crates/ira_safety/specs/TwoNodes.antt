-- Worked logs of two nodes: what the laws of leaders speak of, and what they need.
use Rattle.std.specs.Prelude.{ℕ, Bool, true, false, List, [], ◌∷◌, ◌++◌}
use Rattle.ira_event.specs.declared.load.Load.{Load}
use Rattle.ira_event.specs.declared.load.Load.TheVariants.{Msg as Message, Reset}
use Rattle.ira_event.specs.declared.event.Event.{Event}
use Rattle.ira_event.specs.declared.event.Event.TheVariants.{Draw, Sent, Got, Yield}
use Rattle.ira_event.specs.Log.{Log}
use Rattle.ira_event.specs.Logs.{AreLogs}
use Rattle.ira_order.specs.Matching.{Matches}
use Rattle.ira_order.specs.Run.{AreLocalRuns}
use Rattle.ira_safety.specs.OneLeader.{Leads}

-- the clean message of the first round and of this ID after so many links
abbrev pub hopped : ℕ → ℕ → Load
hopped id hop = Message (record { round = 1; id = id; hop = hop; dirty = false })

-- a node that draws 1, and gets its message back
abbrev pub elected : List Event
elected = Draw 1 ∷ Sent (hopped 1 1) ∷ Got (hopped 1 2) ∷ []

-- a node that passes that message on
abbrev pub passing : List Event
passing = Got (hopped 1 1) ∷ Sent (hopped 1 2) ∷ []

-- a leader that yields, and gives in to ID 2 in the next term
abbrev pub giving_in : List Event
giving_in = Yield ∷ Sent (Reset 1) ∷ Got (Reset 2) ∷ Draw 1 ∷ Sent (hopped 1 1) ∷ Got (hopped 2 1) ∷ Sent (hopped 2 2)
    ∷ []

-- a node that passes the reset on, draws 2, and gets its message back
abbrev pub winning : List Event
winning = Got (Reset 1) ∷ Sent (Reset 2) ∷ Draw 2 ∷ Sent (hopped 2 1) ∷ Got (hopped 1 1) ∷ Got (hopped 2 2) ∷ []

-- the log of a node of a ring of two
abbrev pub log_of_two : ℕ → ℕ → Bool → List Event → Log
log_of_two version place initiator events =
    record { version = version; nodes = 2; place = place; initiator = initiator; events = events }

-- node 0 is elected
abbrev pub one_elected : List Log
one_elected = log_of_two 1 0 true elected ∷ log_of_two 1 1 false passing ∷ []

-- each node is elected, by a message that the other never sent
abbrev pub both_elected : List Log
both_elected = log_of_two 1 0 true elected ∷ log_of_two 1 1 true elected ∷ []

-- node 0 is elected, and node 1 in the next term
abbrev pub elected_in_turn : List Log
elected_in_turn = log_of_two 2 0 true (elected ++ giving_in) ∷ log_of_two 2 1 false (passing ++ winning) ∷ []

-- a node may lead
abbrev pub OneMayLead : Type 0
OneMayLead = AreLogs one_elected × Matches one_elected × AreLocalRuns one_elected × Leads one_elected 0 3

-- of logs that don't match two may
abbrev pub TwoMayLeadUnmatched : Type 0
TwoMayLeadUnmatched = AreLogs both_elected × AreLocalRuns both_elected × Leads both_elected 0 3 × Leads both_elected 1 3

-- of logs of version 2 two may lead, in different terms
abbrev pub TwoMayLeadInTurn : Type 0
TwoMayLeadInTurn =
    AreLogs elected_in_turn × Matches elected_in_turn × AreLocalRuns elected_in_turn × Leads elected_in_turn 0 3
    × Leads elected_in_turn 1 8
