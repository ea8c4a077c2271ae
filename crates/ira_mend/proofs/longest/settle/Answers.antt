use Rattle.std.proofs.Common.{◌≡◌, ◌∙◌, ap, length, sym}
use Rattle.ira_order.specs.Ring.{events_of, log_of, next}
use Rattle.ira_mend.specs.Longest.{IsBeginning, IsLongestWith, kept_of}
use Rattle.ira_mend.proofs.Settling.{settled_now}
use Rattle.ira_mend.proofs.longest.settle.Goals as goal

pub returns : goal.returns
returns g c =
    let logs = c.args.logs.now in
    let kept = c.args.kept.now in
    let link = c.args.link in
    let b = c.with_receipts.result in
    let reader : c.successor-reader.result ≡ next (length c.args.logs.now) c.args.link =
    c.successor-reader.ensures.value ∙ ap (λ n. next n c.args.link) (c.get.ensures.value ∙ c.size.ensures.value) in
    let to : c.from-node.result ≡ next (length c.args.logs.now) c.args.link = c.from-node.ensures ∙ reader in
    let same : log_of c.args.logs.now (next (length c.args.logs.now) c.args.link) ≡ c.log.result.now.events =
    ap (log_of c.args.logs.now) (sym reader) ∙ ap events_of c.log.ensures.value in
    let many = rw (c.from.ensures, to) at c.if-old-sendings.false in
    let is : IsBeginning (log_of c.args.logs.now (next (length c.args.logs.now) c.args.link)) c.with_receipts.result =
    rw same c.with_receipts.ensures.is in
    let from_here = rw (to, c.from.ensures) at c.with_receipts.ensures.longest in
    let longest : IsLongestWith (log_of c.args.logs.now (next (length c.args.logs.now) c.args.link))
    (kept_of c.args.kept.now (next (length c.args.logs.now) c.args.link)).events
    (kept_of c.args.kept.now c.args.link).sendings c.with_receipts.result.events =
    rw same from_here in
    let few = rw c.from.ensures at c.with_receipts.ensures.few in
    rw to (settled_now logs kept link b c.size.ensures.valid.ring.0 c.requires.kept c.requires.link many is longest few)
