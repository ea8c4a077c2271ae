use Rattle.std.proofs.Common.{None, string_bytes, subst}
use Rattle.std.proofs.lemmas.Result.{IfOk-weaker}
use Rattle.ira_view_json.proofs.LinesWritten.{at_cut_of}
use Rattle.ira_view_json.specs.PageLine.{IsYesLine}
use Rattle.ira_view.specs.ShownRing.{ShownRing}
use Rattle.ira_view.specs.Status.{status_number}
use Rattle.ira_view.specs.declared.status.Status.TheVariants.{Yes}
use Rattle.ira_view.proofs.shown_ring.ShownRing.answer_line.Goals as goal

pub yes_line-requires-clause-matches : goal.yes_line-requires-clause-matches
yes_line-requires-clause-matches g c = rw c.logs.ensures.value c.logs.ensures.good.order.0

pub returns : goal.returns
returns g c =
    let logs = c.self.inside.logs in
    let told = rw (c.logs.ensures.value, c.number.ensures) at c.yes_line.ensures in
    IfOk-weaker c.yes_line.result _ _
    (λ text is.
    subst (λ (r : ShownRing). IsYesLine r.logs None (status_number Yes) r.told r.cut (string_bytes text)) c.self.view_is
    (is.0, at_cut_of logs c.self.inside.moment None (status_number Yes) is.0 is.1, is.2)) told
