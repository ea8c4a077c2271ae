use Rattle.std.proofs.Common.{ap, refl, subst}
use Rattle.ira_event.specs.Sink.{Memory}
use Rattle.ira_view.specs.ShownRing.{IsPageOf}
use Rattle.ira_view.specs.Status.{IsLeadsStatus}
use Rattle.ira_commands.proofs.Outputs.{printed_alone}
use Rattle.ira_commands.proofs.Served.{if_ok}
use Rattle.ira_commands.specs.Output.{AreLinesAfter}
use Rattle.ira_commands.proofs.show.tell_lines.Goals as goal

pub returns-in_ok-named-in-Json : goal.returns-in_ok-named-in-Json
returns-in_ok-named-in-Json g c =
    let status = c.of_differences-status.result in
    let is = subst (λ w. IsLeadsStatus w status) c.bytes.ensures.text c.of_differences-status.ensures in
    rw c.in-Json.is (status, is, rw (c.printing.ensures, c.new-lines.ensures, c.in_ok-named-in-Json.ensures) refl)

pub returns-in-Words : goal.returns-in-Words
returns-in-Words g c =
    let status = c.of_differences-status.result in
    let is = subst (λ w. IsLeadsStatus w status) c.bytes.ensures.text c.of_differences-status.ensures in
    rw (c.in-Words.is, c.if-lines.true) (status, is, c.printing-in-Words.ensures)

pub returns-in_ok-clone-in-Words-2 : goal.returns-in_ok-clone-in-Words-2
returns-in_ok-clone-in-Words-2 g c =
    let status = c.of_differences-status.result in
    let is = subst (λ w. IsLeadsStatus w status) c.bytes.ensures.text c.of_differences-status.ensures in
    rw (c.in-Words-2.is, c.if-lines.false)
    (if_ok c.tell_page.result (λ reply told. (
      status,
      is,
      printed_alone (AreLinesAfter c.args.differences (IsPageOf c.args.ring))
          c.new-text.result.bytes status reply (ap (λ (m : Memory). m.bytes) c.new-text.ensures) told,
    )) c.tell_page.ensures)
