use Rattle.std.proofs.Common.{◌+◌, ◌≤◌, ℕ, List, length, ap, arith}
use Rattle.ira_event.specs.Limits.{MAX_TEXT}
use Rattle.ira_cert_text.proofs.Drafts.{whole_text}
use Rattle.ira_cert_text.proofs.cert_draft.CertDraft.finish.Goals as goal

pub returns : goal.returns
returns g c = λ x is.
    let front = c.in-Some.text.bytes in
    let within = rw c.in-Some.is at is.1 in
    let seen = rw c.in-Some.text-is at c.bytes.ensures in
    let long = ap (λ (t : List ℕ). length t) seen in
    let short : length front + 4 ≤ MAX_TEXT = omega (arith, c.if-bytes-gt-MAX_TEXT.false, long) in
    let took = rw c.in-Some.text-is at c.in-Ok.ensures.took in
    whole_text x c.args.self.count front c.write_bytes.new.sink.bytes within took short
