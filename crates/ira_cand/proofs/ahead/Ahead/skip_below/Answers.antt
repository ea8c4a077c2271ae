use Rattle.std.proofs.Common.{sym, ◌∙◌}
use Rattle.ira_cand.proofs.Skips.{kept_from_first}
use Rattle.ira_cand.proofs.ahead.Ahead.skip_below.Goals as goal

pub returns-then-position-p : goal.returns-then-position-p
returns-then-position-p g c =
    sym (kept_from_first c.args.p c.in-Some.position c.loop-position.self (sym c.in-Some.ensures.value)
    c.if-position-p.true c.in-Some.ensures.rising)
    ∙ c.loop-position.invariant
