use Rattle.std.proofs.Common.{refl, arith}
use Rattle.std.specs.Prelude.{◌<◌, All}
use Rattle.ira_pred.specs.PlacedClause.{conjuncts}
use Rattle.ira_pred.proofs.QuestionReading.{all_below, last_below, none_below}
use Rattle.ira_pred.proofs.question_lines.place_that_follows.Goals as goal
use Rattle.ira_pred.proofs.question_lines.place_that_follows.Goals.{in_default-via-in-Some+else-place-from-2}
use Rattle.ira_pred.proofs.question_lines.place_that_follows.Goals.{in_default-via-in_default}

pub returns-in-Some-clause-some : goal.returns-in-Some-clause-some
returns-in-Some-clause-some g c =
    let item = c.in-Some.ensures.item.3 in (
      λ t. absurd cc,
      λ h. absurd
          (let below = last_below c.args.asked.now c.in-Some.last.now c.args.place item.0 (item.1 c.in-Some.last.now)
          h.1
          in omega arith),
    )

pub returns-in_default-clause-some : goal.returns-in_default-clause-some
returns-in_default-clause-some g c =
    let below : All (λ x. x.place < c.args.place) (conjuncts c.args.asked.now) =
    elim c.in_default.branch [
      | in_default-via-in-Some+else-place-from-2 w ↦ let item = w.in-Some.ensures.item.3 in
          all_below c.args.asked.now w.in-Some.last.now c.args.place c.requires item.0 (item.1 w.in-Some.last.now)
          (omega (arith, w.if-place-from-2.false))
      | in_default-via-in_default w ↦ none_below c.args.asked.now c.args.place w.in_default.ensures.item.3
    ] in
    (λ t. (omega arith, below), λ h. refl)
