use Rattle.ira_order.proofs.HasCounts.{counts_of, before_decided}
use Rattle.ira_order.proofs.laws.events_have_counts.Goals as goal

pub returns-clause-counts : goal.returns-clause-counts
returns-clause-counts c = λ logs j b has lj l. counts_of logs has.1 has.2 has.0 j b lj l

pub returns-clause-decided : goal.returns-clause-decided
returns-clause-decided c = λ logs i a j b has. before_decided logs has.1 has.2 has.0 i a j b
