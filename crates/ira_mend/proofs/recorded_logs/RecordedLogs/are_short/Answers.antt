use Rattle.std.proofs.Common.{◌∙◌, sym, ap}
use Rattle.std.specs.List.{list_all}
use Rattle.ira_mend.specs.RecordedLogs.{is_short}
use Rattle.ira_mend.proofs.RecordedTexts.{shorts_said}
use Rattle.ira_mend.proofs.recorded_logs.RecordedLogs.are_short.Goals as goal

pub returns : goal.returns
returns g c = λ texts has.
    let here = ap (list_all is_short) (c.deref.ensures.value ∙ c.self.view_is) in
    let said = shorts_said c.args.self.now texts has in
    (λ yes. said.0 (sym here ∙ sym c.are_short.ensures ∙ yes), λ all. c.are_short.ensures ∙ here ∙ said.1 all)
