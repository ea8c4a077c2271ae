use Rattle.std.proofs.Common.{◌-◌, arith, rules}
use Rattle.ira_view_explain.proofs.LinkHints.{same_at}
use Rattle.ira_view_explain.proofs.faulty_link.FaultyLink.sent_twice.Goals as goal

pub returns : goal.returns
returns g c = (
  same_at c.args.self.now.sides.sent.items (c.args.self.now.k - 2) (c.args.self.now.k - 1) (grind arith) (grind arith)
      (search rules),
  c.is_explained_by.ensures.0 (search rules),
)
