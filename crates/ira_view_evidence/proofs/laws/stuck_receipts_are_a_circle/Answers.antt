use Rattle.ira_view_evidence.proofs.Circles.{ends_in_circle, no_order}
use Rattle.ira_view_evidence.proofs.Prefixes.{order_or_circle_of}
use Rattle.ira_view_evidence.proofs.laws.stuck_receipts_are_a_circle.Goals as goal

pub returns-clause-prefix : goal.returns-clause-prefix
returns-clause-prefix c = λ logs cut are matches longest. ends_in_circle logs cut are matches longest

pub returns-clause-one : goal.returns-clause-one
returns-clause-one c = order_or_circle_of

pub returns-clause-never_both : goal.returns-clause-never_both
returns-clause-never_both c = no_order
