use Rattle.std.proofs.Common.{◌∙◌, ◌<◌, Some, ap, length, sym}
use Rattle.std.proofs.lemmas.List.{append-nil}
use Rattle.std.proofs.lemmas.List.Elements.{All-push}
use Rattle.std.proofs.lemmas.Option.{slice_get-get_or}
use Rattle.ira_elim.specs.declared.found.Found.TheVariants.{Absent, Present}
use Rattle.ira_view_explain_question.proofs.Numbers.{present_more}
use Rattle.ira_view_explain_question.proofs.chosen_cases.present_cases.Goals as goal
use Rattle.ira_view_explain_question.proofs.chosen_cases.present_cases.Goals.{in-Present+in_ok-push, in_default}

pub loop-number-preserved : goal.loop-number-preserved
loop-number-preserved g c =
    let found = c.args.found.now in
    let n = c.loop-number.number in
    let before = c.loop-number.numbers.items in
    let here = slice_get-get_or found n _ c.loop-number-test.true in
    elim c.match-found-number.branch [
      | in-Present+in_ok-push w ↦
          rw (w.numbers-is, w.in_ok-push.ensures.items) (
            present_more found n (Present w.in-Present.field-0) before (here ∙ ap Some w.in-Present.is)
                c.loop-number.invariant.0,
            All-push (λ k. k < length found) before n c.loop-number.invariant.1 c.loop-number-test.true,
          )
      | in_default w ↦
          rw w.numbers-is (
            sym (append-nil before) ∙ present_more found n (Absent w.in_default.field-0) before
                (here ∙ ap Some w.in_default.is) c.loop-number.invariant.0,
            c.loop-number.invariant.1,
          )
    ]
