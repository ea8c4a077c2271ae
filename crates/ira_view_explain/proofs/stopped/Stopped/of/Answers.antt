use Rattle.std.proofs.Common.{◌∙◌, sym}
use Rattle.ira_view_explain.proofs.stopped.Stopped.of.Goals as goal

pub returns-clause-state : goal.returns-clause-state
returns-clause-state g c =
    (c.in-Some-Some.earlier.now, sym c.as_slice.ensures.value ∙ c.in-Some-Some.ensures.cases.0)
