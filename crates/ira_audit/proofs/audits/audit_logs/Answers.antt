use Rattle.std.proofs.Common.{map, inr}
use Rattle.ira_event.proofs.Unless.{ok_same}
use Rattle.ira_audit.specs.declared.answer.Answer.TheVariants.{Yes, No}
use Rattle.ira_audit.specs.RingAnswer.{IsRingAnswer}
use Rattle.ira_audit.proofs.Replaying.{ok_exactly}
use Rattle.ira_audit.proofs.audits.audit_logs.Goals as goal

pub returns : goal.returns
returns g c =
    let texts = map (λ t. t.now) c.args.texts.now in
    let is = c.in_ok-judge.ensures texts c.in_ok-of_texts.ensures in
    let answer = c.answer.result in
    record {
      answer = λ a. inr (ok_exactly (IsRingAnswer texts) answer a (c.answer.ensures.answer texts a is));
      reportable = c.answer.ensures.reportable texts is;
      runs = λ e. c.answer.ensures.runs texts is (ok_same answer Yes e);
      no_run = λ r of e. c.answer.ensures.no_run texts r is of (ok_same answer (No r) e);
    }
