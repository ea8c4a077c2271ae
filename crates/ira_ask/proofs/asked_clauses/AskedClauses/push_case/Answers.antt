use Rattle.std.proofs.Common.{◌≡◌, ◌++◌, ◌<◌, sym, ap, subst, ◌∙◌, arith, Some}
use Rattle.std.specs.List.{flat_map}
use Rattle.std.specs.Option.{option_map}
use Rattle.ira_pred.specs.QuestionText.{conjunct_text}
use Rattle.ira_ask.specs.Asked.{placed, wanted}
use Rattle.ira_ask.specs.Reading.{Spells}
use Rattle.ira_ask.proofs.Lines.{last_line, next_line, no_line, some_line}
use Rattle.ira_ask.proofs.asked_clauses.AskedClauses.push_case.Goals as goal
use Rattle.ira_ask.proofs.asked_clauses.AskedClauses.push_case.Goals.{in-Some+in_ok-push_line, in_default}

pub loop-place-preserved : goal.loop-place-preserved
loop-place-preserved g c s h =
    let p = c.loop-place.place in
    let n = c.args.nodes in
    let w = wanted s c.args.picked p in
    let old = c.loop-place.text.items in
    let low : p < n = omega (arith, c.loop-place-test.true) in
    let line : c.match-at.text.items ≡ old ++ flat_map conjunct_text (placed p w) =
    elim c.match-at.branch [
      | in-Some+in_ok-push_line v ↦
          some_line p w v.deref.result.now old c.match-at.text.items
          (subst (λ t. Spells t w) (ap (option_map (λ t. t.items)) v.in-Some.is ∙ ap Some (sym v.deref.ensures.value))
          (c.at.ensures s h))
          (ap (λ t. t.items) v.text-is ∙ v.in_ok-push_line.ensures)
      | in_default v ↦ ap (λ t. t.items) v.text-is ∙ no_line p w old
          (subst (λ t. Spells t w) (ap (option_map (λ t. t.items)) v.in_default.is) (c.at.ensures s h))
    ] in
    next_line (λ q. placed q (wanted s c.args.picked q)) p n old c.match-at.text.items low line
    ∙ c.loop-place.invariant s h

pub returns : goal.returns
returns g c s h =
    last_line (λ q. placed q (wanted s c.args.picked q)) c.loop-place.place c.args.nodes c.loop-place.text.items _
    (omega (arith, c.loop-place-test.false)) (c.loop-place.invariant s h)
