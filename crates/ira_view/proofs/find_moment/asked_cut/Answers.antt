use Rattle.std.proofs.Common.{inr, refl}
use Rattle.ira_view_moment.specs.declared.cut_fault.CutFault.TheVariants.{NoCut}
use Rattle.ira_view.proofs.find_moment.asked_cut.Goals as goal

pub returns-in_default-clause-fault : goal.returns-in_default-clause-fault
returns-in_default-clause-fault g c =
    let none = rw c.in_default.is at c.in_ok-cut.ensures in
    inr (NoCut, refl, none _ c.logs-logs.ensures.good.ring)
