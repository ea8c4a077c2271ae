use Rattle.ira_view_json.proofs.Views.{view-Number}
use Rattle.ira_view_json.proofs.values.U64ToValue.to_value.Goals as goal

pub returns : goal.returns
returns g c = view-Number _ c.args.self.now
