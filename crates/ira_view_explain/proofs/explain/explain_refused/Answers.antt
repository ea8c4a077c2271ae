use Rattle.ira_view_explain.proofs.explain.explain_refused.Goals as goal

pub returns-clause-ring : goal.returns-clause-ring
returns-clause-ring g c = rw (c.of.ensures, c.logs-2.ensures.value) at c.in_ok-explanation.ensures.ring

pub returns-clause-told : goal.returns-clause-told
returns-clause-told g c = record {
  finding = c.in_ok-finding.finding;
  is_finding = c.in_ok-finding.ensures;
  are_told = rw c.in_ok-explanation.ensures.evidence c.in_ok-evidence.ensures;
  state_is = c.state_before-explanation.ensures;
}
