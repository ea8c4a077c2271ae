use Rattle.std.proofs.Common.{◌∙◌, ◌++◌, List, ap, refl, subst, ℕ}
use Rattle.ira_event.specs.Sink.{Memory}
use Rattle.ira_view.specs.Status.{IsLeadsStatus}
use Rattle.ira_commands.specs.ExplainExpected.TellsExplained.{no_place, told}
use Rattle.ira_commands.specs.Reply.{printed}
use Rattle.ira_commands.proofs.Outputs.{front}
use Rattle.ira_commands.proofs.explain_expected.tell_explained.Goals as goal

pub returns-in_default : goal.returns-in_default
returns-in_default g c = no_place (rw c.in_default.is at c.in_ok-differences.ensures) c.refused.ensures

pub returns : goal.returns
returns g c =
    let status = c.of_differences.result in
    let page = c.in_ok-page.page in
    let over = c.in_ok-lines.ensures.0 in
    let is = subst (λ w. IsLeadsStatus w status) (c.bytes-2.ensures.text ∙ c.in_ok-lines.ensures.2) c.of_differences.ensures in
    let text = c.in-Ok.ensures.took ∙ ap (λ (m : Memory). m.bytes ++ front c.bytes.result.now) c.new-text.ensures
    ∙ ap front c.bytes.ensures.text in
    told over _ status (c.in_ok-lines.ensures.1, rw c.in-Some.is at c.in_ok-differences.ensures) is (
      front page,
      (page, c.in_ok-page.ensures, c.bytes.ensures.printable, refl),
      c.printed.ensures ∙ ap (λ (t : List ℕ). printed status t) text,
    )
