use Rattle.ira_audit.proofs.NeverMet.{no_two_leaders, no_cut_meets_a_pair, yes_without_question}
use Rattle.ira_audit.proofs.laws.never_two_leaders.Goals as goal

pub returns-clause-leaders : goal.returns-clause-leaders
returns-clause-leaders c = no_two_leaders

pub returns-clause-pairs : goal.returns-clause-pairs
returns-clause-pairs c = no_cut_meets_a_pair

pub returns-clause-unasked : goal.returns-clause-unasked
returns-clause-unasked c = yes_without_question
