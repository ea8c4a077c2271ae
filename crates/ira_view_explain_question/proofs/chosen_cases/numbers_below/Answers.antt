use Rattle.std.proofs.Common.{◌∙◌, ◌∷◌, ◌++◌, [], ◌<◌, ap, arith, sym}
use Rattle.std.proofs.lemmas.List.Elements.{All-push}
use Rattle.ira_view_explain_question.proofs.Numbers.{range_more}
use Rattle.ira_view_explain_question.proofs.chosen_cases.numbers_below.Goals as goal

pub loop-number-preserved : goal.loop-number-preserved
loop-number-preserved g c =
    let n = c.loop-number.number in
    let all = All-push (λ k. k < c.args.end) c.loop-number.numbers.items n c.loop-number.invariant.1 (omega arith) in (
      c.in_ok-push.ensures.items ∙ ap (λ ns. ns ++ n ∷ []) c.loop-number.invariant.0 ∙ sym (range_more n),
      rw c.in_ok-push.ensures.items all,
    )
