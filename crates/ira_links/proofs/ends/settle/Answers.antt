use Rattle.std.proofs.Common.{ap, rules}
use Rattle.ira_links.specs.declared.rule.Known.{Known}
use Rattle.ira_links.proofs.Steps.{merges, remains}
use Rattle.ira_links.proofs.ends.settle.Goals as goal

pub absorb-requires-clause-rule : goal.absorb-requires-clause-rule
absorb-requires-clause-rule g c =
    merges _ _ _ _ (ap (λ (v : Known). v.puts) c.output.invariant.1.knows)
    (ap (λ (v : Known). v.takes) c.input.invariant.1.knows)

pub learn_as-requires-clause-rule : goal.learn_as-requires-clause-rule
learn_as-requires-clause-rule g c = remains _ _ (search rules) (search rules)
