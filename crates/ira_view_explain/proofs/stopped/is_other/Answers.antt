use Rattle.std.proofs.Common.{◌≡◌, ◌≢◌, rules}
use Rattle.ira_view_explain.proofs.StopHints.{other_differs}
use Rattle.ira_view_explain.proofs.stopped.is_other.Goals as goal

pub returns-then-ne : goal.returns-then-ne
returns-then-ne c alike =
    let not : c.args.first ≢ c.args.load = λ is. let same : c.args.first ≡ c.args.load = is in search rules in
    other_differs c.args.how c.args.first c.args.load not (c.is_between_all.ensures.0 alike)
