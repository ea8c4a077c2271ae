use Rattle.std.proofs.Common.{arith, ◌∙◌, sym, ap}
use Rattle.ira_event.specs.LogScan.{bit_at}
use Rattle.ira_event.proofs.Rest.{slice-from}
use Rattle.ira_event.proofs.ShortNumbers.{space-there, message-there}
use Rattle.ira_event.proofs.short_record.scan_short_message.Goals as goal

pub returns-clause-message : goal.returns-clause-message
returns-clause-message c =
    let text = c.args.text.now in
    let one = space-there text c.in_ok-round.end (omega (arith, c.in_ok-round.ensures.end)) c.if-text-end-ne32.false in
    let two = space-there text c.in_ok-id.end (omega (arith, c.in_ok-round.ensures.end, c.in_ok-id.ensures.end))
    c.if-text-end-ne32-2.false in
    let bit = ap bit_at (sym (slice-from text c.in_ok-hop.end)) ∙ c.in_ok-dirty.ensures in
    message-there text c.in_ok-round.end c.in_ok-id.end c.in_ok-hop.end _ _ _ _ _ c.in_ok-round.ensures.number one
    c.in_ok-id.ensures.number two c.in_ok-hop.ensures.number bit
