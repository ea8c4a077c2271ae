use Rattle.std.proofs.Common.{ap}
use Rattle.ira_links.specs.declared.rule.Known.{Known}
use Rattle.ira_links.proofs.Steps.{takes}
use Rattle.ira_links.proofs.link_in.LinkIn.take.Goals as goal

pub recv_as-requires-clause-rule : goal.recv_as-requires-clause-rule
recv_as-requires-clause-rule g c =
    (takes _ _ (ap (λ (v : Known). v.takes) c.self.invariant.1.knows), λ items views rule at. tt)
