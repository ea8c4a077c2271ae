use Rattle.std.proofs.Common.{Err, IfOk, List, Ok, Result, ℕ}
use Rattle.ira_event.specs.Log.{Log}
use Rattle.ira_view_moment.specs.Moment.{IsMoment, Moment, whole_cut}
use Rattle.ira_view_moment.specs.Rounds.{AreRounds, DrawnRound}
use Rattle.ira_view_page.specs.declared.named_text.NamedText.{NamedText}
use Rattle.ira_view_show.specs.Reasons.{AreReasonsBelow}
use Rattle.ira_view.specs.Differences.{AreDifferencesExplained}
use Rattle.ira_view.proofs.leads.explain_differences.Goals as goal

-- why, at the moment at the end
explains : {E : Type 0} (files : List NamedText) (logs : List Log) (m : Moment) (rounds : List DrawnRound) (named : List ℕ)
    (text : Result (List ℕ) E) → IsMoment logs (whole_cut logs) m → AreRounds logs (whole_cut logs) rounds
    → IfOk text (AreReasonsBelow files logs m rounds named) → IfOk text (AreDifferencesExplained files logs named)
explains files logs m rounds named (Ok text) is drawn why =
    record { moment = m; is_end = is; rounds = rounds; drawn = drawn; why = why }
explains files logs m rounds named (Err f) is drawn why = tt

pub explain_leads-requires : goal.explain_leads-requires
explain_leads-requires g c = c.in_ok-moment.ensures.places

pub returns : goal.returns
returns g c =
    explains c.args.files.now c.args.logs.now c.in_ok-moment.moment c.in_ok-rounds.rounds c.args.named.now
    c.explain_leads.result (rw c.logs-logs.ensures.value at c.in_ok-moment.ensures)
    (rw c.logs-logs.ensures.value at c.in_ok-rounds.ensures)
    (rw c.logs-logs.ensures.value at c.explain_leads.ensures)
