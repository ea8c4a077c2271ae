use Rattle.std.proofs.Common.{◌∙◌, ◌≡◌, [], List, None, Option, Some, ap, subst, sym, ℕ}
use Rattle.ira_event.specs.Sink.{Memory}
use Rattle.ira_view.specs.ShownRing.{IsPageOf}
use Rattle.ira_view.specs.Status.{IsLeadsStatus}
use Rattle.ira_commands.proofs.Outputs.{printed_alone}
use Rattle.ira_commands.specs.Output.{AreLinesAfter}
use Rattle.ira_commands.proofs.show.tell_both.Goals as goal

-- the text of a page that is whole
abbrev text : Option (List ℕ) → List ℕ
text (Some page) = page
text None = []

pub returns : goal.returns
returns g c =
    let status = c.of_differences.result in
    let none = c.in_ok-none.none in
    let is = subst (λ w. IsLeadsStatus w status) c.bytes.ensures.text c.of_differences.ensures in
    let empty : Some none ≡ Some [] = sym c.in_ok-none.ensures ∙ c.new.ensures in
    let told = printed_alone (AreLinesAfter none (IsPageOf c.args.ring.now)) c.new-text.result.bytes status _
    (ap (λ (m : Memory). m.bytes) c.new-text.ensures) c.in_ok-page.ensures in
    (c.in_ok-picture.ensures, (none, ap text empty, (status, is, told)))
