use Rattle.ira_view_explain.proofs.explain.explain_end.Goals as goal

pub returns-clause-evidence : goal.returns-clause-evidence
returns-clause-evidence g c = rw c.new.ensures.items at c.of_page.ensures.evidence
