use Rattle.std.proofs.Common.{◌≡◌, ◌∙◌, ◌++◌, ◌∷◌, [], List, None, Some, arith, refl}
use Rattle.ira_view_page.proofs.Adding.{◌&◌}
use Rattle.std.specs.Prelude.{codes}
use Rattle.ira_view_page.specs.Page.{AddedSome}
use Rattle.ira_view_page.specs.declared.page.Emphasis.TheVariants.{Named}
use Rattle.ira_view_page.specs.declared.evidence.Evidence.{Evidence}
use Rattle.ira_view_page.specs.declared.evidence.Evidence.TheVariants.{Line}
use Rattle.ira_view_explain_question.specs.AskedLines.{line_text}
use Rattle.ira_view_explain_question.specs.Explanation.{IsSizeExplained}
use Rattle.ira_view_explain_question.proofs.Explained.{four_ok, page_is, regrouped}
use Rattle.ira_view_explain_question.proofs.explain.explain_size.Goals as goal
use Rattle.ira_view_explain_question.proofs.explain.explain_size.Goals.{in_default}
use Rattle.ira_view_explain_question.proofs.explain.explain_size.Goals.{in-Some+in_ok-quoted_line-2+in_ok-push-2}

pub returns-clause-told : goal.returns-clause-told
returns-clause-told g c =
    let line = c.in_ok-quoted_line.field-0 in
    let told : (others : List (Evidence g.row.A.Denot)) × (c.match-first.evidence.items ≡ Line line ∷ others) =
    elim c.match-first.branch [
      | in-Some+in_ok-quoted_line-2+in_ok-push-2 w ↦ (
        Line w.in_ok-quoted_line-2.field-0 ∷ [],
        rw (w.evidence-is, w.in_ok-push-2.ensures.items, c.in_ok-push.ensures.items, c.new-evidence.ensures.items) refl,
      )
      | in_default w ↦ ([], rw (w.evidence-is, c.in_ok-push.ensures.items, c.new-evidence.ensures.items) refl)
    ] in
    let printed = c.print_line.ensures in
    four_ok (λ x. x.state_before ≡ None) _ _ (λ x. AddedSome _ (Some x.page)) (IsSizeExplained c.args.file.now)
    c.of_page.result (λ x s e h p.
    let more = page_is x.page _ _ (c.after_answer-page.ensures & printed.2 & c.print_first_size.ensures.1) p in
    record {
      state_before = s;
      line = line;
      is_line = c.in_ok-quoted_line.ensures.quoted;
      others = told.0;
      evidence = e ∙ told.1;
      hints = h ∙ c.new-hints.ensures.items;
      bytes = printed.0;
      are_bytes = printed.1 (omega arith);
      more = c.print_first_size.ensures.0 ++ more.0;
      page = more.1
          ∙ regrouped (codes "\n" ++ line_text Named c.args.file.now.name.now 2 printed.0) c.print_first_size.ensures.0
          more.0;
    }) c.of_page.ensures.state c.of_page.ensures.evidence c.of_page.ensures.hints c.of_page.ensures.page
