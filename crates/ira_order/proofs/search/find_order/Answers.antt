use Rattle.std.proofs.Common.{◌≡◌, Err, rules}
use Rattle.ira_order.specs.declared.order_fault.OrderFault.TheVariants.{Match, OutOfMemory}
use Rattle.ira_order.specs.Matching.{Matches}
use Rattle.ira_order.specs.MatchFault.{IsMatchFault}
use Rattle.ira_order.proofs.Orders.{is_ok_of, match_answer, memory_answer}
use Rattle.ira_order.proofs.search.find_order.Goals as goal

pub returns-in_err-match_links-clause-matching : goal.returns-in_err-match_links-clause-matching
returns-in_err-match_links-clause-matching g c =
    let is : c.from_residual.result ≡ Err (Match c.in_err-match_links.field-0.0) = search rules in
    let fault : IsMatchFault c.args.logs.now c.in_err-match_links.field-0.0 =
    (c.match_links.ensures.fault c.in_err-match_links.field-0.0).0 c.in_err-match_links.was in
    match_answer c.args.logs.now c.from_residual.result c.in_err-match_links.field-0.0 is fault

pub returns-in_err-longest-clause-matching : goal.returns-in_err-longest-clause-matching
returns-in_err-longest-clause-matching g c =
    let matches : Matches c.args.logs.now = c.match_links.ensures.ok.0 (is_ok_of _ _ c.in_ok-match_links.was) in
    let is : c.from_residual-in_err-longest.result ≡ Err OutOfMemory = search rules in
    memory_answer c.args.logs.now c.from_residual-in_err-longest.result matches is
