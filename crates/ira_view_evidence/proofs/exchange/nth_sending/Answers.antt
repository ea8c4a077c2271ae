use Rattle.ira_view_evidence.proofs.Counted.{found_sending}
use Rattle.ira_view_evidence.proofs.exchange.nth_sending.Goals as goal

pub returns : goal.returns
returns g c = found_sending c.args.logs.now c.args.link c.args.k _ c.nth.result c.log.ensures.value c.nth.ensures
