use Rattle.ira_commands.proofs.Served.{if_ok}
use Rattle.ira_commands.proofs.explain_question.explain_asked.Goals as goal

pub returns : goal.returns
returns g c =
    let view = c.in_ok-view.view in
    if_ok c.tell_findings.result (λ reply told. record {
      findings = view.findings;
      found = c.in_ok-view.ensures.found;
      told = (view.explanation, c.args.judged.now, c.requires, c.in_ok-view.ensures.explained, told);
    }) c.tell_findings.ensures
