use Rattle.std.proofs.Common.{refl, rules}
use Rattle.ira_view_explain.proofs.LinkHints.{leads_at}
use Rattle.ira_view_explain.proofs.faulty_link.FaultyLink.dropped.Goals as goal

pub returns : goal.returns
returns g c = (
  refl,
  leads_at c.args.self.now.logs.now c.args.self.now.reader c.log.result.now _ c.in_ok-state.state c.log.ensures.value
      ((c.state_after.ensures c.in_ok-state.state).0 (search rules)).1,
  c.is_dropped.ensures (search rules),
  (c.in_ok-load.field-0, search rules, refl),
)
