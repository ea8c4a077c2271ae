use Rattle.std.proofs.Common.{◌≡◌, ◌∙◌, Err, ap, length, rules}
use Rattle.ira_order.specs.Ring.{next}
use Rattle.ira_order.specs.MatchFault.{IsMatchFault}
use Rattle.ira_order.proofs.Faults.{matched_exactly, faulty_exactly, faulty_unmatched, link_fault}
use Rattle.ira_order.proofs.links.match_links.Goals as goal

pub returns-in_err-match_link : goal.returns-in_err-match_link
returns-in_err-match_link g c =
    let is : c.from_residual.result ≡ Err c.in_err-match_link.field-0.0 = search rules in
    let to : c.successor-reader.result ≡ next (length c.args.logs.now) c.loop-link.link =
    c.successor-reader.ensures.value
    ∙ ap (λ n. next n c.loop-link.link) (c.get-nodes.ensures.value ∙ c.size.ensures.value) in
    let fault : IsMatchFault c.args.logs.now c.in_err-match_link.field-0.0 =
    link_fault c.args.logs.now c.loop-link.link c.successor-reader.result c.log.result.now c.log-in-loop-link.result.now
    _ (search rules) to c.loop-link.invariant c.log.ensures.value c.log-in-loop-link.ensures.value
    c.in_err-match_link.ensures in
    record {
      ok = faulty_unmatched c.args.logs.now c.from_residual.result c.in_err-match_link.field-0.0 is fault;
      fault = faulty_exactly c.args.logs.now c.from_residual.result c.in_err-match_link.field-0.0 is fault;
    }

pub returns-clause-fault : goal.returns-clause-fault
returns-clause-fault g c = matched_exactly c.args.logs.now (search rules)
