use Rattle.std.proofs.Common.{◌≡◌, Some, None, length}
use Rattle.ira_order.specs.Matching.{got}
use Rattle.ira_order.specs.Ring.{log_of, next, numbered}
use Rattle.ira_view_evidence.proofs.link_evidence.known_receipt.Goals as goal

pub unreachable-requires : goal.unreachable-requires
unreachable-requires g c =
    let some : numbered (got (log_of c.args.logs.now (next (length c.args.logs.now) c.args.link))) c.args.k
    ≡ Some c.requires.known.0 = c.requires.known.1 in
    let none : numbered (got (log_of c.args.logs.now (next (length c.args.logs.now) c.args.link))) c.args.k ≡ None =
    c.in-None.ensures in
    cc
