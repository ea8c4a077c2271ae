use Rattle.ira_election.proofs.Examples.{both_may_lead_unmatched}
use Rattle.ira_election.proofs.InOrder.{first_term_in_order}
use Rattle.ira_election.proofs.Decided.{draws_decide}
use Rattle.ira_election.proofs.Draws.{one_draw_in_a_round, the_greatest_go_on, the_greatest_leads, nobody_draws_late}
use Rattle.ira_election.proofs.Draws.{all_the_greatest_go_on, all_who_start_draw, only_who_start_draw, rounds_count_from_one}
use Rattle.ira_election.proofs.Draws.{the_greatest_are_still_in}
use Rattle.ira_election.proofs.laws.draws_decide.Goals as goal

pub returns-clause-decide : goal.returns-clause-decide
returns-clause-decide c = draws_decide

pub returns-clause-start : goal.returns-clause-start
returns-clause-start c = only_who_start_draw

pub returns-clause-all_start : goal.returns-clause-all_start
returns-clause-all_start c = all_who_start_draw

pub returns-clause-from_one : goal.returns-clause-from_one
returns-clause-from_one c = rounds_count_from_one

pub returns-clause-one : goal.returns-clause-one
returns-clause-one c = one_draw_in_a_round

pub returns-clause-go_on : goal.returns-clause-go_on
returns-clause-go_on c = the_greatest_go_on

pub returns-clause-all_go_on : goal.returns-clause-all_go_on
returns-clause-all_go_on c = all_the_greatest_go_on

pub returns-clause-leads : goal.returns-clause-leads
returns-clause-leads c = the_greatest_leads

pub returns-clause-late : goal.returns-clause-late
returns-clause-late c = nobody_draws_late

pub returns-clause-still_in : goal.returns-clause-still_in
returns-clause-still_in c = the_greatest_are_still_in

pub returns-clause-in_order : goal.returns-clause-in_order
returns-clause-in_order c = first_term_in_order

pub returns-clause-needed : goal.returns-clause-needed
returns-clause-needed c = both_may_lead_unmatched
