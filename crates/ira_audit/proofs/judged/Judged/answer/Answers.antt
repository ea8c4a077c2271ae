use Rattle.std.proofs.Common.{ℕ, List, refl, subst}
use Rattle.ira_audit.specs.declared.answer.Answer.TheVariants.{Yes, No}
use Rattle.ira_audit.specs.Judged.{IsJudged}
use Rattle.ira_audit.specs.Refusal.{IsLogsReason}
use Rattle.ira_audit.specs.RingAnswer.{yes}
use Rattle.ira_audit.proofs.Judging.{answer_exactly, answer_of_runs, answer_without_run, no_ring_judged, refused_judged}
use Rattle.ira_audit.proofs.judged.Judged.answer.Goals as goal

pub returns-in-Good : goal.returns-in-Good
returns-in-Good g c =
    let right = λ (texts : List (List ℕ)) (is : IsJudged texts c.args.self.now).
    yes _ (subst (IsJudged texts) c.in-Good.is is) refl in
    record {
      answer = λ texts a is. answer_exactly texts Yes (right texts is) a;
      reportable = λ texts is. tt;
      runs = λ texts is. answer_of_runs texts Yes (right texts is);
      no_run = λ texts r is of e. absurd cc;
    }

pub returns-in-Refused : goal.returns-in-Refused
returns-in-Refused g c =
    let r = c.reason.result in
    let right : (texts : List (List ℕ)) → IsJudged texts c.args.self.now → IsLogsReason texts r = λ texts is.
    rw c.reason.ensures.value (refused_judged texts c.args.self.now is c.in-Refused.refused c.in-Refused.is) in
    record {
      answer = λ texts a is. answer_exactly texts (No r) (right texts is).0 a;
      reportable = λ texts is. (right texts is).1;
      runs = λ texts is. answer_of_runs texts (No r) (right texts is).0;
      no_run = λ texts why is. answer_without_run texts (No r) (right texts is).0 why;
    }

pub returns-in-NoRing : goal.returns-in-NoRing
returns-in-NoRing g c =
    let r = c.in-NoRing.reason in
    let right : (texts : List (List ℕ)) → IsJudged texts c.args.self.now → IsLogsReason texts r = λ texts is.
    no_ring_judged texts c.args.self.now is r c.in-NoRing.is in
    record {
      answer = λ texts a is. answer_exactly texts (No r) (right texts is).0 a;
      reportable = λ texts is. (right texts is).1;
      runs = λ texts is. answer_of_runs texts (No r) (right texts is).0;
      no_run = λ texts why is. answer_without_run texts (No r) (right texts is).0 why;
    }
