use Rattle.std.proofs.Common.{◌≡◌, ◌∙◌, [], None, Some, refl}
use Rattle.ira_view_page.proofs.Adding.{◌&◌, nothing_added}
use Rattle.ira_view_page.specs.Page.{AddedSome}
use Rattle.ira_view_explain_question.specs.Explanation.{IsStopExplained}
use Rattle.ira_view_explain_question.proofs.Explained.{all_ok, page_is}
use Rattle.ira_view_explain_question.proofs.explain.explain_text.Goals as goal
use Rattle.ira_view_explain_question.proofs.explain.explain_text.Goals.{else-finding, else-is_some}
use Rattle.ira_view_explain_question.proofs.explain.explain_text.Goals.{then-finding, then-is_some}

pub returns-clause-told : goal.returns-clause-told
returns-clause-told g c =
    let told = c.print.ensures in
    let one = c.in_ok-evidence.field-0 in
    let forms : AddedSome c.print.new.page c.if-finding.page = elim c.if-finding.branch [
      | then-finding w ↦ rw w.page-is (_, w.line.ensures)
      | else-finding w ↦ rw w.page-is ([], nothing_added _)
    ] in
    let hinted : AddedSome c.if-finding.page c.if-is_some.page = elim c.if-is_some.branch [
      | then-is_some w ↦ rw w.page-is (_, w.blank.ensures)
      | else-is_some w ↦ rw w.page-is ([], nothing_added _)
    ] in
    all_ok (λ x. x.state_before ≡ None) _ (λ x. AddedSome _ (Some x.page))
    (IsStopExplained c.args.file.now c.args.finding.stop) c.of_page.result (λ x s e p.
    let more = page_is x.page _ _ (c.after_answer-page.ensures & told.2) (_, forms.1 & hinted.1 & p.1) in
    record {
      state_before = s;
      one = one;
      evidence = e ∙ (rw (c.in_ok-push.ensures.items, c.new-evidence.ensures.items) refl);
      one_is = c.in_ok-evidence.ensures;
      lines = told.0;
      tells = told.1;
      more = more.0;
      page = more.1;
    }) c.of_page.ensures.state c.of_page.ensures.evidence c.of_page.ensures.page
