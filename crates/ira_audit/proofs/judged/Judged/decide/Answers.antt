use Rattle.ira_audit.proofs.Deciding.{decided_found, decided_refused, decided_reportable, posed_decided}
use Rattle.ira_audit.proofs.judged.Judged.decide.Goals as goal

pub returns-in-Ok : goal.returns-in-Ok
returns-in-Ok g c =
    let question = c.args.question.now in
    let d = c.decide.result in
    let asked = c.in-Ok.asked in
    record {
      refused = λ texts r is. decided_refused texts question d
          (posed_decided texts question asked (c.in-Ok.ensures texts is) d c.decide.ensures) r;
      found = λ texts is. decided_found texts question d
          (posed_decided texts question asked (c.in-Ok.ensures texts is) d c.decide.ensures);
      reportable = λ texts is. decided_reportable texts question d
          (posed_decided texts question asked (c.in-Ok.ensures texts is) d c.decide.ensures);
    }

pub returns-in-Err-No : goal.returns-in-Err-No
returns-in-Err-No g c =
    let question = c.args.question.now in
    record {
      refused = λ texts r is. decided_refused texts question _
          (rw c.in-Err-No.field-0-is at (c.in-Err-No.ensures texts is)) r;
      found = λ texts is. (rw c.in-Err-No.field-0-is at (c.in-Err-No.ensures texts is)).0;
      reportable = λ texts is. (rw c.in-Err-No.field-0-is at (c.in-Err-No.ensures texts is)).1;
    }
