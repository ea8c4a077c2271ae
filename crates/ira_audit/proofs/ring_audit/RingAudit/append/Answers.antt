use Rattle.std.proofs.Common.{sym, subst}
use Rattle.ira_audit.specs.RingAudit.{HasTaken}
use Rattle.ira_audit.proofs.KeptHeads.{stand_both}
use Rattle.ira_audit.proofs.LogTexts.{keeps_first, keeps_all}
use Rattle.ira_audit.proofs.ring_audit.RingAudit.append.Goals as goal

pub returns-then-is_some-clause-ok : goal.returns-then-is_some-clause-ok
returns-then-is_some-clause-ok g c = λ before texts taken next.
    let kept = subst (λ a. HasTaken a before) (sym c.self.view_is) taken in
    rw (← c.self.view_is) (
      kept.0,
      keeps_first before texts kept.0 c.self.inside.fault c.if-is_some.ensures kept.1,
      kept.2,
    )

pub returns-clause-ok : goal.returns-clause-ok
returns-clause-ok g c = λ before texts taken next.
    let kept = subst (λ a. HasTaken a before) (sym c.self.view_is) taken in
    let there = subst (λ a. HasTaken a texts) (sym c.next.view_is) next in
    let all = keeps_all before texts kept.0 there.0 c.self.inside.fault c.next.inside.fault c.if-is_some.ensures kept.1
    there.1 in
    rw c.in_ok-append.ensures.items (
      _,
      all,
      stand_both c.self.inside.logs.items kept.0 c.next.inside.logs.items there.0 kept.2 there.2,
    )
