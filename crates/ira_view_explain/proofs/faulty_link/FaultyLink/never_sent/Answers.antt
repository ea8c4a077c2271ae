use Rattle.std.proofs.Common.{refl, rules}
use Rattle.ira_view_explain.proofs.LinkHints.{call_missing}
use Rattle.ira_view_explain.proofs.faulty_link.FaultyLink.never_sent.Goals as goal

pub returns : goal.returns
returns g c = (
  refl,
  search rules,
  call_missing c.args.self.now.logs.now c.args.self.now.link c.predecessor-before.result c.args.self.now.receipt.load
      c.deref-3.result.now c.deref-2.result.now c.missing_call-call.result c.args.self.now.writer_is_there
      (search rules) (search rules) (search rules) c.missing_call-call.ensures,
)
