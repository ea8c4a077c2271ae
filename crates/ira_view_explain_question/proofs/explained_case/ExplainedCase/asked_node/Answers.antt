use Rattle.std.proofs.Common.{◌∙◌, sym}
use Rattle.ira_cert.proofs.CaseQueues.{conjunct_there}
use Rattle.ira_view_page.proofs.Adding.{holds}
use Rattle.ira_view_explain_question.proofs.explained_case.ExplainedCase.asked_node.Goals as goal

pub returns : goal.returns
returns g c =
    let at = conjunct_there c.args.self.now.case.now c.args.n c.place.result c.place.ensures in (
      at.0,
      at.1,
      record {
        node = sym at.2;
        line = c.line.ensures;
        clause = c.clause.result.now;
        is_clause = c.clause.ensures;
        clause_is = c.into_string.ensures.text ∙ holds _ c.new-clause.ensures c.show.ensures c.in_ok-finish.ensures;
      },
    )
