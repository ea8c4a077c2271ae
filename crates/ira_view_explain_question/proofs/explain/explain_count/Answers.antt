use Rattle.std.proofs.Common.{◌≡◌, ◌∙◌, [], None}
use Rattle.ira_view_explain_question.proofs.Explained.{all_ok}
use Rattle.ira_view_explain_question.proofs.explain.explain_count.Goals as goal

pub returns-clause-ring : goal.returns-clause-ring
returns-clause-ring g c = rw (c.of.ensures, c.logs.ensures.value) at c.of_page.ensures.ring

pub returns-clause-told : goal.returns-clause-told
returns-clause-told g c =
    all_ok (λ x. x.state_before ≡ None) _ (λ x. x.state_before ≡ None)
    (λ x. (x.state_before ≡ None) × (x.evidence.items ≡ [])) c.of_page.result
    (λ x s e _. (s, e ∙ c.new-evidence.ensures.items)) c.of_page.ensures.state c.of_page.ensures.evidence
    c.of_page.ensures.state
