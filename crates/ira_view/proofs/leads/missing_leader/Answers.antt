use Rattle.std.proofs.Common.{◌≡◌, ◌↔◌, List, [], ℕ, Result, Ok, Err, IfOk}
use Rattle.ira_event.specs.Log.{Log}
use Rattle.ira_view_moment.specs.Moment.{IsMoment, Moment, whole_cut}
use Rattle.ira_view_election.specs.ElectionAt.{SomeNodeLeads}
use Rattle.ira_view_show.specs.Leaders.{missing_text}
use Rattle.ira_view_show.specs.Summary.{leader_from}
use Rattle.ira_view.specs.Differences.{TellsOfLeader}
use Rattle.ira_view.proofs.leads.missing_leader.Goals as goal

-- the line of the moment at the end
tells : {E : Type 0} (logs : List Log) (m : Moment) (line : Result (List ℕ) E) → IsMoment logs (whole_cut logs) m
    → IfOk line (λ text. text ≡ missing_text (leader_from 0 m.nodes))
    → IfOk line (λ text. (text ≡ []) ↔ SomeNodeLeads m) → IfOk line (TellsOfLeader logs)
tells logs m (Ok text) is told none = record { moment = m; is_end = is; text = told; none = none }
tells logs m (Err f) is told none = tt

pub returns : goal.returns
returns g c =
    tells c.args.logs.now c.in_ok-moment.moment c.leader_missing.result
    (rw c.logs.ensures.value at c.in_ok-moment.ensures) c.leader_missing.ensures.text c.leader_missing.ensures.none
