use Rattle.ira_view_json.proofs.Putting.{puts_if}
use Rattle.ira_view_json.proofs.object.Object.put.Goals as goal

pub returns-then-self : goal.returns-then-self
returns-then-self g c = puts_if c.args.self.now _ c.put.result c.if-self.true c.is_ok-self.ensures.value c.put.ensures
