use Rattle.std.proofs.Common.{sym, ◌∙◌}
use Rattle.ira_cand.proofs.Rising.{rises_on}
use Rattle.ira_cand.proofs.ahead.Ahead.advance.Goals as goal

pub invariant_of-self : goal.invariant_of-self
invariant_of-self g c =
    rises_on c.self.inside.front c.next-self-inside.result _ _ (sym c.is_some.ensures
    ∙ c.if-is_some.true) c.self.invariant (g.met.I.Listed.gives_first _ _ _ c.next-self-inside.ensures.steps)
