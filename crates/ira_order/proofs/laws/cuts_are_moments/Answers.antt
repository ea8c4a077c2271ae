use Rattle.std.proofs.Common.{sym}
use Rattle.ira_order.proofs.Cuts.{cut_moment}
use Rattle.ira_order.proofs.laws.cuts_are_moments.Goals as goal

pub returns : goal.returns
returns c = λ logs order cut are matches o is.
    let m = cut_moment logs order cut are.ring.0 matches o is.0 is.1 in
    (m.0, m.1, m.2, m.3, λ i l. sym (m.4 i l))
