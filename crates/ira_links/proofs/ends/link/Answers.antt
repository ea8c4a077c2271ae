use Rattle.std.proofs.Common.{rules}
use Rattle.ira_links.proofs.Steps.{begins, forks}
use Rattle.ira_links.proofs.ends.link.Goals as goal

pub bounded_with-requires-clause-rule : goal.bounded_with-requires-clause-rule
bounded_with-requires-clause-rule g c = begins

pub another-reader-requires-clause-rule : goal.another-reader-requires-clause-rule
another-reader-requires-clause-rule g c = forks _ _ (search rules) (search rules)
