use Rattle.ira_safety.proofs.TwoNodes.{one_may_lead, two_may_lead_in_turn, two_may_lead_unmatched}
use Rattle.ira_safety.proofs.laws.leaders_by_example.Goals as goal

pub returns-clause-matched : goal.returns-clause-matched
returns-clause-matched c = one_may_lead

pub returns-clause-unmatched : goal.returns-clause-unmatched
returns-clause-unmatched c = two_may_lead_unmatched

pub returns-clause-in_turn : goal.returns-clause-in_turn
returns-clause-in_turn c = two_may_lead_in_turn
