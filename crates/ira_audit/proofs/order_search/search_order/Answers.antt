use Rattle.std.proofs.Common.{◌≡◌, Err, rules, subst, sym}
use Rattle.ira_order.specs.declared.order_fault.OrderFault.TheVariants.{Match}
use Rattle.ira_order.specs.MatchFault.{IsMatchFault}
use Rattle.ira_order.proofs.Orders.{is_ok_of}
use Rattle.ira_election.proofs.AnOrder.{local_runs_have_an_order}
use Rattle.ira_audit.specs.ReplayedLogs.{IsSearched}
use Rattle.ira_audit.proofs.Judging.{searched}
use Rattle.ira_audit.proofs.ReplayedLogs.{all_run}
use Rattle.ira_audit.proofs.order_search.search_order.Goals as goal

pub returns-in_err-match_links-in-None : goal.returns-in_err-match_links-in-None
returns-in_err-match_links-in-None g c =
    let is : c.from_residual.result ≡ Err (Match c.in_err-match_links-in-None.field-0.0) = search rules in
    let fault : IsMatchFault c.args.logs.now c.in_err-match_links-in-None.field-0.0 =
    (c.match_links.ensures.fault c.in_err-match_links-in-None.field-0.0).0 c.in_err-match_links-in-None.was in
    subst (λ r. IsSearched c.args.logs.now r) (sym is) fault

pub returns-in_err-find_order-in-Some : goal.returns-in_err-find_order-in-Some
returns-in_err-find_order-in-Some g c =
    let is : c.from_residual-in_err-find_order-in-Some.result ≡ Err c.in_err-find_order-in-Some.field-0.0 = search rules in
    let found = c.find_order.ensures in
    let why = searched c.args.logs.now (λ places. places.items) c.find_order.result found.ok found.matching found.circle in
    subst (λ r. IsSearched c.args.logs.now r) (sym is)
    (subst (λ r. IsSearched c.args.logs.now r) c.in_err-find_order-in-Some.was why)

-- all events have steps, so logs that match have an order
pub returns-in_ok-match_links-in-None : goal.returns-in_ok-match_links-in-None
returns-in_ok-match_links-in-None g c =
    let logs = c.args.logs.now in
    local_runs_have_an_order logs c.requires.ring (c.match_links.ensures.ok.0 (is_ok_of _ _ c.in_ok-match_links-in-None.was))
    (all_run logs c.args.faulty_events.now c.requires.faulty (sym c.in-None.ensures.value))
