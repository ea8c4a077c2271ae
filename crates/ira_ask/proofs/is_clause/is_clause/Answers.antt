use Rattle.std.proofs.Common.{◌≡◌, ◌++◌, refl, sym, ap, subst, ◌∙◌}
use Rattle.std.specs.Prelude.{codes}
use Rattle.ira_event.proofs.Unless.{unless_ok, unless_err}
use Rattle.ira_pred.specs.QuestionText.{IsQuestionText}
use Rattle.ira_ask.proofs.Probes.{probe, probe_read, probe_refused}
use Rattle.ira_ask.proofs.is_clause.is_clause.Goals as goal

pub returns-in-Ok : goal.returns-in-Ok
returns-in-Ok g c =
    let is : c.deref.result.now ≡ probe c.args.text.now =
    c.deref.ensures.value ∙ c.in_ok-extend_from_slice-3.ensures.items
    ∙ ap (λ x. x ++ codes "\nend\n") (c.in_ok-extend_from_slice-2.ensures.items
    ∙ ap (λ x. x ++ c.args.text.now) (c.in_ok-extend_from_slice.ensures.items
    ∙ ap (λ x. x ++ codes "irask 1\nnodes 2\ncase\n0: ") c.new-question.ensures.items)) in
    let read = (unless_ok _ _ _ (c.in-Ok.ensures.ok c.in-Ok.question)).0 refl in
    probe_read c.args.text.now c.in-Ok.question c.asks_one_clause.result c.requires
    (subst (λ t. IsQuestionText t c.in-Ok.question) is read) c.asks_one_clause.ensures

pub returns : goal.returns
returns g c =
    let is : c.deref.result.now ≡ probe c.args.text.now =
    c.deref.ensures.value ∙ c.in_ok-extend_from_slice-3.ensures.items
    ∙ ap (λ x. x ++ codes "\nend\n") (c.in_ok-extend_from_slice-2.ensures.items
    ∙ ap (λ x. x ++ c.args.text.now) (c.in_ok-extend_from_slice.ensures.items
    ∙ ap (λ x. x ++ codes "irask 1\nnodes 2\ncase\n0: ") c.new-question.ensures.items)) in (
      λ t. absurd cc,
      λ k. absurd (probe_refused c.args.text.now c.requires (λ q h.
          let e = (unless_err _ _ _ c.in_default.not-OutOfMemory (c.in-Err.ensures.ok q)).1
          (subst (λ t. IsQuestionText t q) (sym is) h) in cc) k),
    )
