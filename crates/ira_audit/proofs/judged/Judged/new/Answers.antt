use Rattle.std.proofs.Common.{MatchOption, subst, sym}
use Rattle.ira_order.specs.FaultyEvent.{AreFirstFaultyEvents}
use Rattle.ira_audit.specs.GoodLogs.{AreGood}
use Rattle.ira_audit.specs.RefusedLogs.{IsReasonOf}
use Rattle.ira_audit.proofs.judged.Judged.new.Goals as goal

pub invariant_of-result : goal.invariant_of-result
invariant_of-result g c =
    let logs = c.args.logs in
    let faulty = subst (AreFirstFaultyEvents logs) (sym c.deref.ensures.value) c.requires.faulty in
    let said = c.in_ok-first_reason.ensures logs c.requires.ring c.requires.order faulty in
    subst (λ r. MatchOption r (AreGood logs) (IsReasonOf logs)) c.in-None.is said

pub returns-in_ok-alloc-in-None : goal.returns-in_ok-alloc-in-None
returns-in_ok-alloc-in-None g c = λ texts are.
    let logs = c.args.logs in
    let faulty = subst (AreFirstFaultyEvents logs) (sym c.deref.ensures.value) c.requires.faulty in
    let said = c.in_ok-first_reason.ensures logs c.requires.ring c.requires.order faulty in
    record { texts_are = are; are_good = subst (λ r. MatchOption r (AreGood logs) (IsReasonOf logs)) c.in-None.is said }

pub returns-in-Some : goal.returns-in-Some
returns-in-Some g c = λ texts are.
    let logs = c.args.logs in
    let faulty = subst (AreFirstFaultyEvents logs) (sym c.deref.ensures.value) c.requires.faulty in
    let said = c.in_ok-first_reason.ensures logs c.requires.ring c.requires.order faulty in (
      are,
      record {
        ring = c.requires.ring;
        reason = subst (λ r. MatchOption r (AreGood logs) (IsReasonOf logs)) c.in-Some.is said;
        faulty = c.requires.faulty;
      },
    )
