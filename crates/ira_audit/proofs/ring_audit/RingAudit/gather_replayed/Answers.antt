use Rattle.std.proofs.Common.{◌≡◌, Err, None, ap, length, refl, sym, subst, ◌∙◌, rules}
use Rattle.std.proofs.lemmas.Result.{err_from_is_err_and}
use Rattle.ira_event.specs.Logs.{AreLogs}
use Rattle.ira_audit.specs.LogTexts.{AreLogTexts}
use Rattle.ira_order.specs.FaultyEvent.{AreFirstFaultyEvents}
use Rattle.ira_audit.specs.RingAudit.{AreKept, HasTaken, StandFor}
use Rattle.ira_audit.proofs.KeptHeads.{as_many, fault_stands, ring_stands}
use Rattle.ira_audit.proofs.LogTexts.{first_fault}
use Rattle.ira_audit.proofs.RefusedTexts.{heads_refused, text_reason}
use Rattle.ira_audit.proofs.ring_audit.RingAudit.gather_replayed.Goals as goal

pub returns-in-Some-clause-texts : goal.returns-in-Some-clause-texts
returns-in-Some-clause-texts g c = λ texts taken.
    let logs = c.self.inside.logs.items in
    let f = c.in-Some.fault in
    let kept = subst (λ a. HasTaken a texts) (sym c.self.view_is) taken in
    let number : c.len-number.result ≡ length logs = search rules in
    let first = first_fault texts kept.0 f (subst (AreKept texts kept.0) c.in-Some.is kept.1) in
    text_reason texts c.len-number.result f (rw (number, as_many logs kept.0 kept.2) first)

pub returns-in_err-gather-clause-texts : goal.returns-in_err-gather-clause-texts
returns-in_err-gather-clause-texts g c = λ texts taken.
    let kept = subst (λ a. HasTaken a texts) (sym c.self.view_is) taken in
    let none : c.self.inside.fault ≡ None = search rules in
    let are = subst (AreKept texts kept.0) none kept.1 in
    let f = c.in_err-gather.field-0.0 in
    let r = c.from_residual-in_err-gather.result in
    let refused = err_from_is_err_and r c.from_residual-in_err-gather.ensures.1 in
    let stand = subst (λ ls. StandFor ls kept.0) (sym c.in_ok-logs.ensures.0) kept.2 in
    heads_refused _ texts kept.0 r f are
    (refused.1 ∙ ap Err refused.2) (fault_stands _ kept.0 f stand ((c.in_err-gather.ensures.err f).0 refl))

pub returns-clause-replayed : goal.returns-clause-replayed
returns-clause-replayed g c =
    let gathered = (c.in_ok-gather.ensures.ok c.in_ok-gather.field-0).0 refl in
    let there = gathered.0 ∙ c.in_ok-logs.ensures.0 in
    let stops = c.in_ok-logs.faulty_events.items in (
      gathered.1,
      subst (λ logs. AreFirstFaultyEvents logs stops) (sym there)
          (c.in_ok-logs.ensures.1 (subst AreLogs there gathered.1)),
    )

pub returns-clause-texts : goal.returns-clause-texts
returns-clause-texts g c = λ texts taken.
    let logs = c.self.inside.logs.items in
    let kept = subst (λ a. HasTaken a texts) (sym c.self.view_is) taken in
    let none : c.self.inside.fault ≡ None = search rules in
    let are = subst (AreKept texts kept.0) none kept.1 in
    let gathered = (c.in_ok-gather.ensures.ok c.in_ok-gather.field-0).0 refl in
    let there = gathered.0 ∙ c.in_ok-logs.ensures.0 in
    let all = ring_stands logs kept.0 kept.2 (subst AreLogs there gathered.1) in
    subst (AreLogTexts texts) (sym (there ∙ all)) are
