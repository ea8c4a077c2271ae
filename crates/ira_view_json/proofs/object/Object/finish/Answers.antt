use Rattle.std.proofs.Common.{refl}
use Rattle.ira_view_json.specs.View.{members_view}
use Rattle.ira_view_json.proofs.Views.{view-Object}
use Rattle.ira_view_json.proofs.object.Object.finish.Goals as goal

pub returns-then-self : goal.returns-then-self
returns-then-self g c =
    (members_view c.args.self.members.items, rw c.if-self.true refl, view-Object c.args.self.members)
