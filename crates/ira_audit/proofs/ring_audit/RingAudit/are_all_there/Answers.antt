use Rattle.std.proofs.Common.{◌≡◌, ◌≤◌, List, Some, ap, length, slice_get, subst, sym, ◌∙◌, arith, rules}
use Rattle.std.proofs.lemmas.Bool.Decides.{nat_tests}
use Rattle.ira_event.specs.Log.{Log}
use Rattle.ira_audit.specs.RingAudit.{RingAudit}
use Rattle.ira_audit.proofs.ring_audit.RingAudit.are_all_there.Goals as goal

pub returns-in-Some : goal.returns-in-Some
returns-in-Some g c = λ yes.
    let first = c.in-Some.first.now in
    let logs = c.args.self.now.logs in
    let whole : c.deref.result.now ≡ logs = c.deref.ensures.value ∙ ap (λ (a : RingAudit). a.logs) c.self.view_is in
    let at : slice_get c.deref.result.now 0 ≡ Some first = sym c.in-Some.ensures.value in
    let long : c.len.result ≡ length c.self.inside.logs.items = search rules in
    let same : length c.self.inside.logs.items ≡ length logs = ap (λ (a : RingAudit). length a.logs) c.self.view_is in
    let le : c.from.result ≤ c.len.result = grind (arith, nat_tests, yes) in
    let names : c.from.result ≡ first.nodes = c.from.ensures ∙ c.get.ensures.value ∙ c.nodes.ensures in
    (first, subst (λ (ls : List Log). slice_get ls 0 ≡ Some first) whole at, omega (arith, le, names, long, same))
