use Rattle.std.proofs.Common.{ap, arith}
use Rattle.ira_links.specs.declared.rule.Known.{Known}
use Rattle.ira_links.proofs.Steps.{puts}
use Rattle.ira_links.proofs.link_out.LinkOut.put.Goals as goal

pub send_as-requires-clause-rule : goal.send_as-requires-clause-rule
send_as-requires-clause-rule g c = (
  puts _ _ _ _ (ap (λ (v : Known). v.puts) c.self.invariant.1.knows) (omega arith) c.requires,
  λ items views rule at. tt,
)
