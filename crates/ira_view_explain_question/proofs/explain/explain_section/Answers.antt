use Rattle.std.proofs.Common.{◌≡◌, ◌∙◌, None, Some}
use Rattle.ira_view_page.proofs.Adding.{◌&◌}
use Rattle.ira_view_page.specs.Page.{AddedSome}
use Rattle.ira_view_explain_question.specs.Explanation.{IsSectionExplained}
use Rattle.ira_view_explain_question.proofs.Explained.{four_ok, page_is}
use Rattle.ira_view_explain_question.proofs.explain.explain_section.Goals as goal

pub returns-clause-ring : goal.returns-clause-ring
returns-clause-ring g c = rw (c.of.ensures, c.logs.ensures.value) at c.of_page.ensures.ring

pub returns-clause-told : goal.returns-clause-told
returns-clause-told g c =
    let ring = c.args.ring.now in
    let case = c.case-case in
    four_ok (λ x. x.state_before ≡ None) _ _ (λ x. AddedSome _ (Some x.page))
    (IsSectionExplained ring.asked.now c.args.certificate.now c.args.sections.now c.args.case c.args.fault)
    c.of_page.result (λ x s e h p.
    let more = page_is x.page _ _ (c.after_answer-page.ensures & c.print.ensures) p in
    record {
      state_before = s;
      case = case.result.case.now;
      is_case = case.ensures.case;
      finding = c.in_ok-finding.finding;
      is_finding = rw (case.ensures.asked, case.ensures.number) at c.in_ok-finding.ensures;
      told = rw e c.in_ok-evidence.ensures;
      hints = h ∙ c.new-hints.ensures.items;
      more = more.0;
      page = more.1;
    }) c.of_page.ensures.state c.of_page.ensures.evidence c.of_page.ensures.hints c.of_page.ensures.page
