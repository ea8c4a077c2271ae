use Rattle.std.proofs.Common.{subst, sym}
use Rattle.ira_order.specs.Matching.{Matches}
use Rattle.ira_view_explain_question.proofs.explain.explain_sound.Goals as goal

pub print_run-requires-clause-matches : goal.print_run-requires-clause-matches
print_run-requires-clause-matches g c = subst Matches (sym c.logs.ensures.value) c.logs.ensures.good.order.0

pub returns-clause-ring : goal.returns-clause-ring
returns-clause-ring g c = rw (c.of.ensures, c.logs-2.ensures.value) at c.of_page.ensures.ring

pub returns-clause-evidence : goal.returns-clause-evidence
returns-clause-evidence g c = rw c.new.ensures.items at c.of_page.ensures.evidence
