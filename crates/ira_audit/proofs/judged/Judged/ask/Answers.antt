use Rattle.std.proofs.Common.{subst}
use Rattle.ira_audit.specs.Judged.{IsJudged}
use Rattle.ira_audit.proofs.Judging.{no_ring_judged, refused_judged}
use Rattle.ira_audit.proofs.RefusedTexts.{asked_of_texts, logs_reason}
use Rattle.ira_audit.proofs.judged.Judged.ask.Goals as goal

pub returns-in-Good : goal.returns-in-Good
returns-in-Good g c = λ texts is.
    asked_of_texts texts c.args.question.now _ (subst (IsJudged texts) c.in-Good.is is) _ c.ask.ensures

pub returns-in-Refused : goal.returns-in-Refused
returns-in-Refused g c = λ texts is.
    rw c.reason.ensures.value (logs_reason texts c.args.question.now _
    (refused_judged texts c.args.self.now is c.in-Refused.refused c.in-Refused.is))

pub returns-in-NoRing : goal.returns-in-NoRing
returns-in-NoRing g c = λ texts is.
    logs_reason texts c.args.question.now _ (no_ring_judged texts c.args.self.now is c.in-NoRing.reason c.in-NoRing.is)
